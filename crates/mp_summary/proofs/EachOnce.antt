-- Numbers each once: those of a list, as many as a range that they go to has.
use Rattle.std.proofs.Common.{arith, ◌≡◌, ◌≢◌, ◌⊎◌, ℕ, ◌+◌, ◌*◌, ◌-◌, ◌/◌, ◌%◌, ◌<◌, ◌≤◌, ◌==◌, Bool, true, false, cond, List, [], ◌∷◌, ◌++◌, length, map, refl, sym, ap, subst, ◌∙◌, inl, inr, eq-eqb}
use Rattle.std.specs.List.{list_any}
use Rattle.std.proofs.lemmas.Bool.{cases_Bool, eqb-true}
use Rattle.std.proofs.lemmas.List.{length-map}
use mathlib.Core.Bool.{false≢true}
use Rattle.mp_machine.specs.Lists.{IsIn}
use Rattle.mp_script.proofs.DistinctNumbers.{AreApart, as_many}
use Rattle.mp_script.proofs.Looking.{any_in, any_is}
use Rattle.mp_script.proofs.Ordered.{pairwise_append, in_left, in_right, in_either, in_map, from_map}
use Rattle.mp_generate.specs.Generated.{IsKeyOf}
use Rattle.mp_summary.specs.Summaries.{with_number, with_numbers}

there_already : (there : List ℕ) (n : ℕ) → list_any (λ other. other == n) there ≡ true → with_number there n ≡ there
there_already there n e = ap (λ (b : Bool). cond b there (there ++ n ∷ [])) e

not_there : (there : List ℕ) (n : ℕ) → list_any (λ other. other == n) there ≡ false → with_number there n ≡ there ++ n ∷ []
not_there there n e = ap (λ (b : Bool). cond b there (there ++ n ∷ [])) e

apart_one : (there : List ℕ) (n : ℕ) → AreApart there → AreApart (with_number there n)
apart_one there n apart = elim (cases_Bool (list_any (λ other. other == n) there)) [
  | inl t ↦ subst AreApart (sym (there_already there n t)) apart
  | inr f ↦ subst AreApart (sym (not_there there n f)) (pairwise_append (λ (a b : ℕ). a ≢ b) there (n ∷ []) apart (λ y none. absurd none, tt)
      (λ a b h k. elim k [
        | inl e ↦ λ (same : a ≡ b). false≢true (sym f ∙ any_in (λ (other : ℕ). other == n) a there h (eq-eqb a n (same ∙ e)))
        | inr none ↦ absurd none
      ]))
]

pub apart_all : (there numbers : List ℕ) → AreApart there → AreApart (with_numbers there numbers)
apart_all there [] apart = apart
apart_all there (n ∷ numbers) apart = apart_all (with_number there n) numbers (apart_one there n apart)

from_one : (there : List ℕ) (n m : ℕ) → IsIn m (with_number there n) → IsIn m there ⊎ (m ≡ n)
from_one there n m h = elim (cases_Bool (list_any (λ other. other == n) there)) [
  | inl t ↦ inl (subst (IsIn m) (there_already there n t) h)
  | inr f ↦ elim (in_either m there (n ∷ []) (subst (IsIn m) (not_there there n f) h)) [
    | inl old ↦ inl old
    | inr (inl e) ↦ inr e
    | inr (inr none) ↦ absurd none
  ]
]

pub from_all : (there numbers : List ℕ) (m : ℕ) → IsIn m (with_numbers there numbers) → IsIn m there ⊎ IsIn m numbers
from_all there [] m h = inl h
from_all there (n ∷ numbers) m h = elim (from_all (with_number there n) numbers m h) [
  | inl old ↦ elim (from_one there n m old) [
    | inl older ↦ inl older
    | inr e ↦ inr (inl e)
  ]
  | inr new ↦ inr (inr new)
]

kept : (there : List ℕ) (n m : ℕ) → IsIn m there → IsIn m (with_number there n)
kept there n m h = elim (cases_Bool (list_any (λ other. other == n) there)) [
  | inl t ↦ subst (IsIn m) (sym (there_already there n t)) h
  | inr f ↦ subst (IsIn m) (sym (not_there there n f)) (in_left m there (n ∷ []) h)
]

added : (there : List ℕ) (n : ℕ) → IsIn n (with_number there n)
added there n = elim (cases_Bool (list_any (λ other. other == n) there)) [
  | inl t ↦
      let old = any_is (λ (other : ℕ). other == n) there t in
      subst (IsIn n) (sym (there_already there n t)) (subst (λ (k : ℕ). IsIn k there) (eqb-true old.0 n old.2) old.1)
  | inr f ↦ subst (IsIn n) (sym (not_there there n f)) (in_right n there (n ∷ []) (inl refl))
]

kept_all : (there numbers : List ℕ) (m : ℕ) → IsIn m there → IsIn m (with_numbers there numbers)
kept_all there [] m h = h
kept_all there (n ∷ numbers) m h = kept_all (with_number there n) numbers m (kept there n m h)

pub all_there : (there numbers : List ℕ) (m : ℕ) → IsIn m numbers → IsIn m (with_numbers there numbers)
all_there there [] m h = absurd h
all_there there (n ∷ numbers) m (inl e) = subst (λ (k : ℕ). IsIn k (with_numbers there (n ∷ numbers))) (sym e) (kept_all (with_number there n) numbers n (added there n))
all_there there (n ∷ numbers) m (inr h) = all_there (with_number there n) numbers m h

-- ---- the keys of sixteen sessions are 512

-- the place of a session's key among those of all sessions, from 1
place : ℕ → ℕ
place key = 32 * (key / 1000 - 1) + key % 1000 + 1

-- a key of a session of 1 to 16
pub record IsGeneratedKey (key : ℕ) : Type 0 where
  pub session : ℕ
  pub session_low : 1 ≤ session
  pub session_high : session ≤ 16
  pub its : IsKeyOf session key

place_within : (key : ℕ) → IsGeneratedKey key → (0 < place key) × (place key ≤ 512)
unfolding place
place_within key is =
    let thousand = is.its.thousand in
    let first = is.its.first in
    let low = is.session_low in
    let high = is.session_high in
    (omega arith, omega (arith, thousand, first, low, high))

place_apart : (a b : ℕ) → IsGeneratedKey a → IsGeneratedKey b → place a ≡ place b → a ≡ b
unfolding place
place_apart a b x y same =
    let one = x.its.thousand in
    let two = x.its.first in
    let three = y.its.thousand in
    let four = y.its.first in
    let five = x.session_low in
    let six = y.session_low in
    omega (arith, one, two, three, four, five, six, same)

map_apart : (xs : List ℕ) → ((n : ℕ) → IsIn n xs → IsGeneratedKey n) → AreApart xs → AreApart (map place xs)
map_apart [] each apart = tt
map_apart (x ∷ xs) each apart = (
  λ y there same.
      let from = from_map place xs y there in
      apart.0 from.0 from.1 (place_apart x from.0 (each x (inl refl)) (each from.0 (inr from.1)) (same ∙ sym from.2)),
  map_apart xs (λ n h. each n (inr h)) apart.1,
)

pub keys_512 : (xs : List ℕ) → AreApart xs → ((n : ℕ) → IsIn n xs → IsGeneratedKey n)
    → ((session least : ℕ) → 1 ≤ session → session ≤ 16 → least < 32 → IsIn (1000 * session + least) xs) → length xs ≡ 512
unfolding place
keys_512 xs apart its each = sym (length-map xs place) ∙ as_many 0 512 (map place xs) (map_apart xs its apart) within whole
  where
    within : (n : ℕ) → IsIn n (map place xs) → (0 < n) × (n ≤ 0 + 512)
    within n h =
        let from = from_map place xs n h in
        let bounds = place_within from.0 (its from.0 from.1) in
        let low = bounds.0 in
        let high = bounds.1 in
        let is : place from.0 ≡ n = from.2 in
        (omega (arith, low, is), omega (arith, high, is))

    whole : (n : ℕ) → 0 < n → n ≤ 0 + 512 → IsIn n (map place xs)
    whole n low high =
        let session : ℕ = (n - 1) / 32 + 1 in
        let least : ℕ = (n - 1) % 32 in
        let key : ℕ = 1000 * session + least in
        let there : IsIn key xs = each session least (omega arith) (omega (arith, low, high)) (omega arith) in
        let is : place key ≡ n = omega (arith, low) in
        subst (λ (k : ℕ). IsIn k (map place xs)) is (in_map place key xs there)
