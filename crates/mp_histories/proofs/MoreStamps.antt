-- More commits, and draws above all commits, leave what fitted fitting; what is listed falls as the commits do.
use Rattle.std.proofs.Common.{◌≡◌, ◌⊎◌, ℕ, List, [], ◌∷◌, Option, Some, None, inl, inr, refl}
use Rattle.mp_model.specs.declared.ids.TrxId.{TrxId}
use Rattle.mp_histories.specs.KeyOps.{KeyOp, put, restore, same_writer, FirstIs, live}
use Rattle.mp_histories.specs.Commits.{Stamp, HasStamp, Stamps, IsUnder, MayCover, Includes, DrawsAbove, PutsFit, Falls}
use Rattle.mp_histories.proofs.Writers.{decided, same_is, other_is}

first_is : {T : Type 0} (P Q : T → Type 0) → ((x : T) → P x → Q x) → (xs : List T) → FirstIs P xs → FirstIs Q xs
first_is P Q f [] h = tt
first_is P Q f (x ∷ xs) h = f x h

module _ (committed drew committed' drew' : Stamps) (more : Includes committed committed') (above : DrawsAbove committed drew drew') where
  under_more : (l u : Option TrxId) → IsUnder committed drew l u → IsUnder committed' drew' l u
  under_more l u h = record {
    cts = h.cts;
    commit = more l h.cts h.commit;
    lower = λ c d. elim (above u c d) [
      | inl was ↦ h.lower c was
      | inr high ↦ high l h.cts h.commit
    ];
  }

  cover_more : (l u : Option TrxId) → MayCover committed drew l u → MayCover committed' drew' l u
  cover_more l u (inl e) = inl e
  cover_more l u (inr h) = inr (under_more l u h)

  module _ {T : Type 0} (by : T → Option TrxId) where
    pub fits_more : (ops : List (KeyOp T)) → PutsFit by committed drew ops → PutsFit by committed' drew' ops
    fits_more [] p = tt
    fits_more (put v ∷ ops) p =
        (first_is (λ (t : T). MayCover committed drew (by t) (by v)) (λ (t : T). MayCover committed' drew' (by t) (by v)) (λ t h. cover_more (by t) (by v) h) (live by ops) p.0, fits_more ops p.1)
    fits_more (restore ∷ ops) p = fits_more ops p

    pub falls_more : (vs : List T) → Falls by committed drew vs → Falls by committed' drew' vs
    falls_more [] f = tt
    falls_more (v ∷ vs) f =
        (first_is (λ (t : T). IsUnder committed drew (by t) (by v)) (λ (t : T). IsUnder committed' drew' (by t) (by v)) (λ t h. under_more (by t) (by v) h) vs f.0, falls_more vs f.1)

-- ---- lists of stamps

pub no_stamp : (stamps : List Stamp) (cts : ℕ) → HasStamp stamps None cts → ⊥
no_stamp [] cts h = h
no_stamp (s ∷ stamps) cts (inl here) = no_id s.id here.0
  where
    no_id : (id : TrxId) → Some id ≡ None → ⊥
    no_id id e = absurd cc
no_stamp (s ∷ stamps) cts (inr there) = no_stamp stamps cts there

-- it is known of a writer whether it has a stamp in a list
pub has_or_not : (stamps : List Stamp) (w : Option TrxId) → ((cts : ℕ) × HasStamp stamps w cts) ⊎ ((cts : ℕ) → HasStamp stamps w cts → ⊥)
has_or_not [] w = inr (λ cts h. h)
has_or_not (s ∷ stamps) w = elim (decided (same_writer (Some s.id) w)) [
  | inl e ↦ inl (s.cts, inl (same_is (Some s.id) w e, refl))
  | inr e ↦ elim (has_or_not stamps w) [
    | inl has ↦ inl (has.0, inr has.1)
    | inr none ↦ inr (λ cts h. elim h [
      | inl here ↦ other_is (Some s.id) w e here.0
      | inr there ↦ none cts there
    ])
  ]
]
