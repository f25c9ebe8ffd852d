-- What comes of a node and some runners, where the first of them was joined to it.
use Rattle.std.proofs.Common.{◌≡◌, ◌<◌, ◌||◌, Bool, true, false, List, [], ◌∷◌, length, get_or, refl, sym, ap, subst, ◌∙◌, arith}
use Rattle.std.specs.Prelude.{remove}
use Rattle.std.specs.List.{AllByRecursion, list_any}
use Rattle.mp_shared.specs.Nodes.{Run, NodeView, joined_nodes}
use Rattle.mp_threads.specs.declared.runner.Runner.{Runner}
use Rattle.mp_threads.specs.Dealing.{joined_runners, MayJoin}

either_both : (a b c : Bool) → ((a || b) || c) ≡ (a || (b || c))
either_both true b c = refl
either_both false b c = refl

module _ (rest : List Runner) (r : Runner) where
  pub first_joined : (n after : NodeView) → after ≡ joined_nodes n r.node → (rs : List Runner) → 0 < length rs → r ≡ get_or rs 0 r
      → rest ≡ remove rs 0
      → joined_runners after rest ≡ joined_runners n rs
  first_joined n after joined [] some is behind = absurd (omega (arith, some))
  first_joined n after joined (x ∷ xs) some is behind =
      ap (λ (m : NodeView). joined_runners m rest) (joined ∙ ap (λ (y : Runner). joined_nodes n y.node) is)
      ∙ ap (λ (l : List Runner). joined_runners (joined_nodes n x.node) l) behind

  pub rest_may_join : (run : Run) (rs : List Runner) → rest ≡ remove rs 0 → 0 < length rs → AllByRecursion (λ y. MayJoin run y.node) rs
      → AllByRecursion (λ y. MayJoin run y.node) rest
  rest_may_join run [] behind some all = absurd (omega (arith, some))
  rest_may_join run (x ∷ xs) behind some all = subst (λ (l : List Runner). AllByRecursion (λ y. MayJoin run y.node) l) (sym behind) all.1

  pub first_short : (short now : Bool) → now ≡ (short || r.short) → (rs : List Runner) → 0 < length rs → r ≡ get_or rs 0 r
      → rest ≡ remove rs 0
      → (now || list_any (λ y. y.short) rest) ≡ (short || list_any (λ y. y.short) rs)
  first_short short now so [] some is behind = absurd (omega (arith, some))
  first_short short now so (x ∷ xs) some is behind =
      ap (λ (b : Bool). b || list_any (λ y. y.short) rest) (so ∙ ap (λ (y : Runner). short || y.short) is)
      ∙ ap (λ (l : List Runner). (short || x.short) || list_any (λ y. y.short) l) behind
      ∙ either_both short x.short (list_any (λ y. y.short) xs)
