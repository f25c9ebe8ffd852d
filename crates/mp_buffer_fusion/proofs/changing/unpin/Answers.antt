use Rattle.std.proofs.Common.{rules, ◌<◌, length, slice_set, sym, ap, ◌∙◌}
use Rattle.std.proofs.lemmas.List.Edits.{map_over_more}
use Rattle.mp_buffer_fusion.specs.Buffers.{unpinned_buffer}
use Rattle.mp_buffer_fusion.proofs.changing.unpin.Goals as goal

pub loop-buffer-preserved : goal.loop-buffer-preserved
loop-buffer-preserved c =
    let old = c.args.buffers.now.items in
    let items = c.loop-buffer.buffer-items in
    let i = c.loop-buffer.buffer-index in
    let less : i < length old = search rules in
    ap (λ y. slice_set items i (unpinned_buffer y)) (sym c.buffer-item.is)
    ∙ map_over_more unpinned_buffer old items i c.buffer-item.result less c.loop-buffer.invariant c.buffer-item.is
