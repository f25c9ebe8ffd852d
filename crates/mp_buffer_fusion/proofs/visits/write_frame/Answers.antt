use Rattle.std.proofs.Common.{rules, ◌≡◌, refl, sym, ap, ◌∙◌}
use Rattle.mp_core_pages.specs.declared.page_lock.Held.TheVariants.{Write}
use Rattle.mp_core_pages.specs.PageParts.{held_at}
use Rattle.mp_shared.specs.PageSteps.{TookFrame, MissedFrame}
use Rattle.mp_shared.proofs.Holding.{held_part}
use Rattle.mp_buffer_fusion.proofs.Visiting.{held_is, writing_is_held, kept_written, written_below, gives_content, visits, in_frame_after, holds_missed, not_missed}
use Rattle.mp_buffer_fusion.proofs.visits.write_frame.Goals as goal

pub holds-held-requires-clause-part : goal.holds-held-requires-clause-part
holds-held-requires-clause-part c =
    let missed : MissedFrame c.args.p c.args.number c.args.node.now c.take_frame.new.node = search rules in
    holds_missed c.args.node.now c.take_frame.new.node c.args.p c.args.number missed c.requires.part

pub unreachable-requires : goal.unreachable-requires
unreachable-requires c =
    let missed : MissedFrame c.args.p c.args.number c.args.node.now c.take_frame.new.node = search rules in
    not_missed c.args.node.now c.take_frame.new.node c.args.p c.args.number missed c.requires.part c.requires.page c.requires.lock c.requires.frames c.holds-held.ensures.carries

pub give_frame-requires-clause-step : goal.give_frame-requires-clause-step
give_frame-requires-clause-step c =
    let before = c.args.node.now in
    let mid = c.take_frame.new.node in
    let p = c.args.p in
    let k = c.args.number in
    let found = c.in-Some._found in
    let y = c.args.page in
    let took : TookFrame p k found before mid = search rules in
    let held = held_part before p c.requires.part in
    let writes : held_at held.0.pages.locks k ≡ Write = sym (held_is before p k held.0 held.1) ∙ c.requires.lock in
    let kept = kept_written before mid p k found y held.0 held.1 held.2 took (c.requires.content held.0 held.1) in
    gives_content before mid p k found y held.0 held.1 held.2 took kept c.requires.page (writing_is_held (held_at held.0.pages.locks k) writes) writes (c.requires.durable held.0 held.1)

pub returns-clause-visit : goal.returns-clause-visit
returns-clause-visit c =
    let before = c.args.node.now in
    let mid = c.take_frame.new.node in
    let after = c.give_frame.new.node in
    let p = c.args.p in
    let k = c.args.number in
    let found = c.in-Some._found in
    let y = c.args.page in
    let took : TookFrame p k found before mid = search rules in
    let held = held_part before p c.requires.part in
    let writes : held_at held.0.pages.locks k ≡ Write = sym (held_is before p k held.0 held.1) ∙ c.requires.lock in
    let kept = kept_written before mid p k found y held.0 held.1 held.2 took (c.requires.content held.0 held.1) in
    (found, visits before mid p k found y held.0 held.1 held.2 took kept c.requires.page (writing_is_held (held_at held.0.pages.locks k) writes) after c.give_frame.ensures)

pub returns-clause-in_frame : goal.returns-clause-in_frame
returns-clause-in_frame c =
    let before = c.args.node.now in
    let mid = c.take_frame.new.node in
    let after = c.give_frame.new.node in
    let p = c.args.p in
    let k = c.args.number in
    let found = c.in-Some._found in
    let y = c.args.page in
    let took : TookFrame p k found before mid = search rules in
    let held = held_part before p c.requires.part in
    let writes : held_at held.0.pages.locks k ≡ Write = sym (held_is before p k held.0 held.1) ∙ c.requires.lock in
    let content = c.requires.content held.0 held.1 in
    let kept = kept_written before mid p k found y held.0 held.1 held.2 took content in
    in_frame_after before mid p k found y held.0 held.1 held.2 took kept c.requires.page (writing_is_held (held_at held.0.pages.locks k) writes) after c.give_frame.ensures (written_below before mid p k found y held.0 held.1 held.2 took content)
