-- What a node sees of the TSO lies between the base and it, and so do views.
use Rattle.std.proofs.Common.{◌≡◌, ℕ, ◌≤◌, max, List, [], ◌∷◌, refl, ap, ◌∙◌, inl, inr, arith}
use mathlib.Core.Logic.{dite}
use native.Mathlib.Decide.{ℕ_discrete}
use Rattle.mp_model.specs.declared.ids.TrxId.{TrxId}
use Rattle.mp_core_trx.specs.declared.part.Begun.{Begun}
use Rattle.mp_core_trx.specs.declared.part.SlotLoad.{SlotLoad}
use Rattle.mp_machine.specs.Lists.{IsIn, pushed}
use Rattle.mp_core_trx.specs.Parts.{begun_of, greatest_seen}
use Rattle.mp_core_trx.specs.Events.{load_of}
use Rattle.mp_core_trx.specs.Invariant.{Sight}
use Rattle.mp_machine.proofs.Lists.{pushed_here, pushed_else, each_pushed}

pub greatest_from : (base : ℕ) (seen : List ℕ) → base ≤ greatest_seen base seen
greatest_from base [] = omega arith
greatest_from base (v ∷ vs) = let rest = greatest_from base vs in omega arith

pub greatest_below : (base tso : ℕ) (seen : List ℕ) → base ≤ tso → ((v : ℕ) → IsIn v seen → v ≤ tso) → greatest_seen base seen ≤ tso
greatest_below base tso [] low each = low
greatest_below base tso (v ∷ vs) low each = let rest = greatest_below base tso vs low (λ u h. each u (inr h)) in let first = each v (inl refl) in omega arith

-- each value seen is at most the greatest
pub greatest_least : (base : ℕ) (seen : List ℕ) (v : ℕ) → IsIn v seen → v ≤ greatest_seen base seen
greatest_least base [] v h = absurd h
greatest_least base (u ∷ us) v (inl e) = omega arith
greatest_least base (u ∷ us) v (inr h) = let rest = greatest_least base us v h in omega arith

greatest_more : (base : ℕ) (seen : ℕ → List ℕ) (n v k : ℕ) → greatest_seen base (seen k) ≤ greatest_seen base (pushed seen n v k)
greatest_more base seen n v k =
    dite (ℕ_discrete k n)
    (λ same.
    let now : greatest_seen base (pushed seen n v k) ≡ max v (greatest_seen base (seen n)) = ap (λ j. greatest_seen base (pushed seen n v j)) same ∙ ap (greatest_seen base) (pushed_here seen n v) in
    let was : greatest_seen base (seen k) ≡ greatest_seen base (seen n) = ap (λ j. greatest_seen base (seen j)) same in
    omega arith)
    (λ other. let now : greatest_seen base (pushed seen n v k) ≡ greatest_seen base (seen k) = ap (greatest_seen base) (pushed_else seen n v k other) in omega arith)

module _ (base tso : ℕ) (begun : ℕ → List Begun) (seen : ℕ → List ℕ) (loaded : ℕ → List SlotLoad) (s : Sight base tso begun seen loaded) where
  -- nobody knows a timestamp that wasn't drawn
  pub greatest_drawn : (n : ℕ) → greatest_seen base (seen n) ≤ tso
  greatest_drawn n = greatest_below base tso (seen n) s.from_base (λ v h. (s.values n v h).1)

  -- who loads the TSO knows all that was drawn
  pub greatest_at_load : (n : ℕ) → greatest_seen base (tso ∷ seen n) ≡ tso
  greatest_at_load n = let most = greatest_drawn n in omega arith

  pub sight_see : (n v later : ℕ) → base ≤ v → v ≤ later → tso ≤ later → Sight base later begun (pushed seen n v) loaded
  sight_see n v later low high on =
      let from = s.from_base in
      record {
        from_base = omega arith;
        values = each_pushed (λ _ u. (base ≤ u) × (u ≤ later)) seen n v (λ k u h. let was = s.values k u h in (was.0, omega arith)) (low, high);
        views = λ k b h. let was = s.views k b h in let more = greatest_more base seen n v k in (was.0, omega arith);
        loads = λ k l h. let was = s.loads k l h in let more = greatest_more base seen n v k in (was.0, omega arith);
      }

  pub sight_begin : (n : ℕ) (id : TrxId) → Sight base tso (pushed begun n (begun_of id (greatest_seen base (seen n)))) seen loaded
  sight_begin n id = record {
    from_base = s.from_base;
    values = s.values;
    views = each_pushed (λ k b. (base ≤ b.view) × (b.view ≤ greatest_seen base (seen k))) begun n (begun_of id (greatest_seen base (seen n))) s.views (greatest_from base (seen n), omega arith);
    loads = s.loads;
  }

  pub sight_load : (n whose slot word : ℕ) → Sight base tso begun seen (pushed loaded n (load_of whose slot word (greatest_seen base (seen n))))
  sight_load n whose slot word = record {
    from_base = s.from_base;
    values = s.values;
    views = s.views;
    loads = each_pushed (λ k l. (base ≤ l.after) × (l.after ≤ greatest_seen base (seen k))) loaded n (load_of whose slot word (greatest_seen base (seen n))) s.loads (greatest_from base (seen n), omega arith);
  }
