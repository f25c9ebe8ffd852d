-- One lane more.
use Rattle.std.proofs.Common.{◌≡◌, ℕ, ◌+◌, List, [], ◌∷◌, ◌++◌, Some, length, slice_get, sym, subst, ◌∙◌, arith}
use Rattle.std.proofs.lemmas.List.{length-append}
use Rattle.mp_recover.specs.declared.lanes.Lane.{Lane}
use Rattle.mp_recover.specs.Merging.{fresh_lane}
use Rattle.mp_recover.proofs.LeastLane.{each_pushed}
use Rattle.mp_recover.proofs.merging.new_lanes.Goals as goal

pub loop-place-preserved : goal.loop-place-preserved
loop-place-preserved c =
    let old = c.loop-place.lanes.items in
    let lane = c.in_ok-lane.lane in
    let inv = c.loop-place.invariant in
    let is : c.push.new.self.items ≡ old ++ lane ∷ [] = c.in_ok-push.ensures.items in
    let fresh : lane ≡ fresh_lane (length old + 1) = subst (λ (n : ℕ). lane ≡ fresh_lane (n + 1)) (sym inv.0) c.in_ok-lane.ensures in
    subst (λ (lanes : List Lane). (length lanes ≡ c.loop-place.place + 1) × ((place : ℕ) (l : Lane) → slice_get lanes place ≡ Some l → l ≡ fresh_lane (place + 1))) (sym is)
    (length-append old (lane ∷ []) ∙ omega (arith, inv.0), each_pushed (λ n l. l ≡ fresh_lane (n + 1)) old lane inv.1 fresh)
