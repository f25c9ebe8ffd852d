use Rattle.std.proofs.Common.{rules, ◌≡◌, ◌≤◌, List, map, length, sym, ap, ◌∙◌, subst}
use Rattle.std.proofs.lemmas.Fn.{filter_same}
use Rattle.mp_buffer_fusion.specs.declared.pool.TheConstants.{BUFFERS}
use Rattle.mp_buffer_fusion.specs.declared.buffer.Buffer.{Buffer}
use Rattle.mp_buffer_fusion.specs.Buffers.{unpinned_buffer, dirty_buffers}
use Rattle.mp_buffer_fusion.specs.Places.{AreApart}
use Rattle.mp_buffer_fusion.specs.Agreement.{AgreesWith}
use Rattle.mp_buffer_fusion.proofs.Kept.{distinct}
use Rattle.mp_buffer_fusion.proofs.Listing.{kept_apart, dirty_apart, dirty_few}
use Rattle.mp_buffer_fusion.proofs.Agreeing.{agrees_unpinned}
use Rattle.mp_buffer_fusion.proofs.pool.Pool.unpin_all.Goals as goal

pub list_places-requires-clause-few : goal.list_places-requires-clause-few
list_places-requires-clause-few c =
    let view : c.deref-2.result.now ≡ c.unpin.new.buffers.items = search rules in
    let is = c.unpin.ensures.items ∙ ap (map unpinned_buffer) (filter_same _ _ _ (λ x b f' k. search rules) _ _ c.retain.ensures.filtered) in
    subst (λ (l : List Buffer). length l ≤ BUFFERS) (sym (view ∙ is)) (dirty_few c.self.inside.buffers.items c.self.invariant.0.few)

pub list_places-requires-clause-apart : goal.list_places-requires-clause-apart
list_places-requires-clause-apart c =
    let view : c.deref-2.result.now ≡ c.unpin.new.buffers.items = search rules in
    let is = c.unpin.ensures.items ∙ ap (map unpinned_buffer) (filter_same _ _ _ (λ x b f' k. search rules) _ _ c.retain.ensures.filtered) in
    subst AreApart (sym (view ∙ is)) (dirty_apart c.self.inside.buffers.items (kept_apart c.self.inside.buffers.items c.self.inside.places.items c.self.invariant.0))

pub returns-clause-left : goal.returns-clause-left
returns-clause-left c =
    c.unpin.ensures.items ∙ ap (map unpinned_buffer) (filter_same _ _ _ (λ x b f' k. search rules) _ _ c.retain.ensures.filtered)
    ∙ ap (λ pool. map unpinned_buffer (dirty_buffers pool)) c.self.view_is

pub returns-clause-agrees : goal.returns-clause-agrees
returns-clause-agrees c part agrees =
    let is = c.unpin.ensures.items ∙ ap (map unpinned_buffer) (filter_same _ _ _ (λ x b f' k. search rules) _ _ c.retain.ensures.filtered) in
    let items = c.self.inside.buffers.items in
    subst (λ pool. AgreesWith pool part) (sym is)
    (agrees_unpinned items part (subst (λ pool. AgreesWith pool part) (sym c.self.view_is) agrees) (distinct items c.self.inside.places.items c.self.invariant.0))
