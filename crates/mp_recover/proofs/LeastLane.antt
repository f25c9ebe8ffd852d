-- Lanes that are made one after another, and the least head among them.
use Rattle.std.proofs.Common.{◌≡◌, ℕ, zero, suc, ◌+◌, ◌<◌, ◌≤◌, nat_lt, true, false, List, [], ◌∷◌, ◌++◌, length, slice_get, Some, sym, ap, subst, ◌∙◌, inl, inr, arith}
use Rattle.std.proofs.lemmas.Bool.Decides.{nat_tests}
use Rattle.mp_files.proofs.Places.{same_some, at_place}
use Rattle.mp_recover.specs.declared.lanes.Lane.{Lane}
use Rattle.mp_recover.specs.Merging.{IsLeast, head_place}
use Rattle.mp_recover.proofs.Filling.{here_or_not, cutting}

pub each_pushed : (P : ℕ → Lane → Type 0) (lanes : List Lane) (lane : Lane) → ((k : ℕ) (l : Lane) → slice_get lanes k ≡ Some l → P k l) → P (length lanes) lane
    → (k : ℕ) (l : Lane) → slice_get (lanes ++ lane ∷ []) k ≡ Some l → P k l
each_pushed P [] lane all this zero l is = subst (P 0) (same_some lane l is) this
each_pushed P [] lane all this (suc k) l is = absurd cc
each_pushed P (x ∷ lanes) lane all this zero l is = all zero l is
each_pushed P (x ∷ lanes) lane all this (suc k) l is = each_pushed (λ n. P (suc n)) lanes lane (λ n m at. all (suc n) m at) this k l is

-- the first lane alone
pub least_first : (lanes : List Lane) → 0 < length lanes → IsLeast 1 lanes 0
least_first lanes some =
    let first = at_place lanes 0 some in record {
      lane = first.0;
      there = first.1;
      least = λ k other lt is.
          let e : k ≡ 0 = omega (arith, lt) in
          let same : first.0 ≡ other = same_some first.0 other (sym first.1 ∙ subst (λ (n : ℕ). slice_get lanes n ≡ Some other) e is) in
          subst (λ (l : Lane). head_place first.0.head ≤ head_place l.head) same (omega arith);
      first = λ k other lt is. absurd (omega (arith, lt));
    }

lower : (a b : ℕ) → nat_lt a b ≡ true → a < b
lower a b e = grind (arith, nat_tests, e)

not_lower : (a b : ℕ) → nat_lt a b ≡ false → b ≤ a
not_lower a b e = grind (arith, nat_tests, e)

module _ (bound : ℕ) (lanes : List Lane) (at : ℕ) (least : IsLeast bound lanes at) (one other : Lane)
    (one_is : slice_get lanes bound ≡ Some one) (other_is : slice_get lanes at ≡ Some other) where
  same : least.lane ≡ other
  same = same_some least.lane other (sym least.there ∙ other_is)

  heads : head_place least.lane.head ≡ head_place other.head
  heads = ap (λ (l : Lane). head_place l.head) same

  -- the next lane's head comes before it
  pub least_next : nat_lt (head_place one.head) (head_place other.head) ≡ true → IsLeast (bound + 1) lanes bound
  least_next test =
      let lt = lower (head_place one.head) (head_place other.head) test in record {
        lane = one;
        there = one_is;
        least = λ k l in_bound is. elim (here_or_not k bound) [
          | inl e ↦
              let this : one ≡ l = same_some one l (sym one_is ∙ subst (λ (n : ℕ). slice_get lanes n ≡ Some l) e is) in
              subst (λ (x : Lane). head_place one.head ≤ head_place x.head) this (omega arith)
          | inr apart ↦ let le = least.least k l (cutting k bound in_bound apart) is in omega (arith, lt, le, heads)
        ];
        first = λ k l below is. let le = least.least k l below is in omega (arith, lt, le, heads);
      }

  -- or it doesn't
  pub least_still : nat_lt (head_place one.head) (head_place other.head) ≡ false → IsLeast (bound + 1) lanes at
  least_still test =
      let le = not_lower (head_place one.head) (head_place other.head) test in record {
        lane = least.lane;
        there = least.there;
        least = λ k l in_bound is. elim (here_or_not k bound) [
          | inl e ↦
              let this : one ≡ l = same_some one l (sym one_is ∙ subst (λ (n : ℕ). slice_get lanes n ≡ Some l) e is) in
              subst (λ (x : Lane). head_place least.lane.head ≤ head_place x.head) this (omega (arith, le, heads))
          | inr apart ↦ least.least k l (cutting k bound in_bound apart) is
        ];
        first = least.first;
      }
