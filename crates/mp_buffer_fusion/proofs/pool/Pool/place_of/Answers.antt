use Rattle.std.proofs.Common.{rules, ◌≡◌, ℕ, ◌+◌, ◌-◌, ◌<◌, slice_get, Some, None, refl, sym, ap, ◌∙◌, subst, arith}
use Rattle.std.proofs.lemmas.Option.{slice_get_read}
use Rattle.mp_core_pages.specs.declared.opening.TheConstants.{PAGES}
use Rattle.mp_buffer_fusion.specs.declared.buffer.Buffer.{Buffer}
use Rattle.mp_buffer_fusion.specs.Buffers.{buffer_of, StandsAt}
use Rattle.mp_buffer_fusion.proofs.Kept.{lacks_at_zero, stands_at}
use Rattle.mp_buffer_fusion.proofs.pool.Pool.place_of.Goals as goal

pub returns-then-place-eq0 : goal.returns-then-place-eq0
returns-then-place-eq0 c =
    let kept = c.self.invariant.0 in
    let read = slice_get_read c.self.inside.places.items PAGES c.from.result c.index-place.result.now (sym kept.table) (omega (arith, c.from.ensures, c.requires)) c.index-place.ensures in
    subst (λ items. buffer_of items c.args.number ≡ None) c.self.view_is
    (lacks_at_zero c.self.inside.buffers.items c.self.inside.places.items kept c.args.number
    (ap (slice_get c.self.inside.places.items) (sym c.from.ensures) ∙ read ∙ ap Some c.if-place-eq0.true))

pub returns : goal.returns
returns c =
    let kept = c.self.invariant.0 in
    let read = slice_get_read c.self.inside.places.items PAGES c.from.result c.index-place.result.now (sym kept.table) (omega (arith, c.from.ensures, c.requires)) c.index-place.ensures in
    let more : c.index-place.result.now ≡ c.from-2.result - 1 + 1 = omega (arith, c.from-2.ensures, c.if-place-eq0.false) in
    subst (λ items. (b : Buffer) × StandsAt items c.args.number (c.from-2.result - 1) b) c.self.view_is
    (stands_at c.self.inside.buffers.items c.self.inside.places.items kept c.args.number (c.from-2.result - 1)
    (ap (slice_get c.self.inside.places.items) (sym c.from.ensures) ∙ read ∙ ap Some more))
