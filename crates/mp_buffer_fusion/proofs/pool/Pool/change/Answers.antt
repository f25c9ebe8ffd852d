use Rattle.std.proofs.Common.{rules, ◌≡◌, Some, slice_set, MatchOption, IsOk, IsErr, sym, ap, ◌∙◌, subst}
use Rattle.std.proofs.lemmas.Option.{get_or_from_slice_get}
use Rattle.mp_cells.specs.Changes.{applied}
use Rattle.mp_buffer_fusion.specs.declared.buffer.Buffer.{Buffer}
use Rattle.mp_buffer_fusion.specs.Buffers.{buffer_of, StandsAt, rewritten_buffer, changed_by, ChangesBuffer}
use Rattle.mp_buffer_fusion.proofs.Written.{kept_set, changes_buffer, same_number}
use Rattle.mp_buffer_fusion.proofs.pool.Pool.change.Goals as goal

pub invariant_of-self : goal.invariant_of-self
invariant_of-self c =
    let items = c.self.inside.buffers.items in
    let i = c.index_of-i.result in
    let b = c.index_of-i.ensures.0 in
    let stands = subst (λ pool. StandsAt pool c.args.number i b) (sym c.self.view_is) c.index_of-i.ensures.1 in
    let read = c.index_mut.ensures.value ∙ get_or_from_slice_get items i b c.index_mut.result.now stands.0 in (
      kept_set items c.self.inside.places.items c.self.invariant.0 c.args.number i b stands c.change_buffer.new.buffer
          (same_number c.args.llsn c.args.change.now c.index_mut.result.now c.change_buffer.new.buffer c.change_buffer.result c.change_buffer.ensures ∙ ap (λ (y : Buffer). y.number) read),
      search rules,
    )

pub returns : goal.returns
returns c =
    let items = c.self.inside.buffers.items in
    let i = c.index_of-i.result in
    let k = c.args.number in
    let llsn = c.args.llsn in
    let change = c.args.change.now in
    let x = c.change_buffer.new.buffer in
    let result = c.change_buffer.result in
    let b = c.index_of-i.ensures.0 in
    let stands = subst (λ pool. StandsAt pool k i b) (sym c.self.view_is) c.index_of-i.ensures.1 in
    let read = c.index_mut.ensures.value ∙ get_or_from_slice_get items i b c.index_mut.result.now stands.0 in
    let told = subst (λ (y : Buffer). MatchOption (applied change y.page) (IsErr result × (x ≡ y)) (λ _. IsOk result × (x ≡ rewritten_buffer (changed_by llsn change y.page) y))) read c.change_buffer.ensures in (
      b,
      c.index_of-i.ensures.1.1,
      subst (λ pool. ChangesBuffer llsn k change b pool (slice_set items i x) result) c.self.view_is
          (changes_buffer items c.self.inside.places.items c.self.invariant.0 k i b stands llsn change x result told),
    )
