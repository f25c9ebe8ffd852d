use Rattle.std.proofs.Common.{◌≡◌, List, length, slice_get, Some, refl, sym, ap, ◌∙◌, subst}
use Rattle.std.proofs.lemmas.Bool.{ltb-true}
use Rattle.std.proofs.lemmas.Option.{slice_get_read}
use Rattle.mp_buffer_fusion.specs.declared.buffer.Buffer.{Buffer}
use Rattle.mp_buffer_fusion.specs.Buffers.{buffer_of}
use Rattle.mp_buffer_fusion.proofs.Buffered.{found_at}
use Rattle.mp_buffer_fusion.proofs.Kept.{distinct}
use Rattle.mp_buffer_fusion.proofs.pool.Pool.buffered.Goals as goal

pub returns-clause-its : goal.returns-clause-its
returns-clause-its c =
    let items = c.self.inside.buffers.items in
    let b = c.in_ok-buffer.buffer.now in
    let lookup = c.in_ok-buffer.ensures.lookup in
    let read = slice_get_read c.deref.result.now (length c.deref.result.now) c.args.i b refl (ltb-true c.args.i (length c.deref.result.now) (sym lookup.0)) lookup.1 in
    let there : slice_get items c.args.i ≡ Some b = ap (λ (l : List Buffer). slice_get l c.args.i) (sym c.deref.ensures.value) ∙ read in
    let at : slice_get c.args.self.now c.args.i ≡ Some b = ap (λ (l : List Buffer). slice_get l c.args.i) (sym c.self.view_is) ∙ there in
    let found = found_at items (distinct items c.self.inside.places.items c.self.invariant.0) c.args.i b there in
    (b, (at, subst (λ pool. buffer_of pool b.number ≡ Some b) c.self.view_is found))
