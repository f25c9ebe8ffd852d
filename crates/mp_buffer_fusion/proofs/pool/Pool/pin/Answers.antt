use Rattle.std.proofs.Common.{rules, ◌≡◌, sym, ap, ◌∙◌, subst}
use Rattle.std.proofs.lemmas.Option.{get_or_from_slice_get}
use Rattle.mp_buffer_fusion.specs.declared.buffer.Buffer.{Buffer}
use Rattle.mp_buffer_fusion.specs.Buffers.{StandsAt, with_buffer, pinned_buffer}
use Rattle.mp_buffer_fusion.specs.Agreement.{AgreesWith}
use Rattle.mp_buffer_fusion.proofs.Written.{set_is, kept_set}
use Rattle.mp_buffer_fusion.proofs.Agreeing.{agrees_pinned}
use Rattle.mp_buffer_fusion.proofs.pool.Pool.pin.Goals as goal

pub invariant_of-self : goal.invariant_of-self
invariant_of-self c =
    let items = c.self.inside.buffers.items in
    let i = c.index_of-i.result in
    let b = c.index_of-i.ensures.0 in
    let stands = subst (λ pool. StandsAt pool c.args.number i b) (sym c.self.view_is) c.index_of-i.ensures.1 in
    let read = c.index_mut.ensures.value ∙ get_or_from_slice_get items i b c.index_mut.result.now stands.0 in (
      kept_set items c.self.inside.places.items c.self.invariant.0 c.args.number i b stands _ (ap (λ (y : Buffer). y.number) read),
      search rules,
    )

pub returns-clause-pinned : goal.returns-clause-pinned
returns-clause-pinned c =
    let items = c.self.inside.buffers.items in
    let i = c.index_of-i.result in
    let b = c.index_of-i.ensures.0 in
    let stands = subst (λ pool. StandsAt pool c.args.number i b) (sym c.self.view_is) c.index_of-i.ensures.1 in
    let read = c.index_mut.ensures.value ∙ get_or_from_slice_get items i b c.index_mut.result.now stands.0 in
    set_is items c.self.inside.places.items c.self.invariant.0 c.args.number i b stands pinned_buffer _ (ap pinned_buffer read)
    ∙ ap (λ pool. with_buffer pool c.args.number pinned_buffer) c.self.view_is

pub returns-clause-agrees : goal.returns-clause-agrees
returns-clause-agrees c part agrees =
    let items = c.self.inside.buffers.items in
    let i = c.index_of-i.result in
    let b = c.index_of-i.ensures.0 in
    let stands = subst (λ pool. StandsAt pool c.args.number i b) (sym c.self.view_is) c.index_of-i.ensures.1 in
    let read = c.index_mut.ensures.value ∙ get_or_from_slice_get items i b c.index_mut.result.now stands.0 in
    let is = set_is items c.self.inside.places.items c.self.invariant.0 c.args.number i b stands pinned_buffer _ (ap pinned_buffer read)
    ∙ ap (λ pool. with_buffer pool c.args.number pinned_buffer) c.self.view_is in
    subst (λ pool. AgreesWith pool part) (sym is) (agrees_pinned c.args.self.now part agrees c.args.number)
