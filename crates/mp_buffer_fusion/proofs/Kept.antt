-- A pool's table of places, through each change of its buffers.
use Rattle.std.proofs.Common.{◌≡◌, ℕ, zero, suc, ◌+◌, ◌<◌, ◌≤◌, List, [], ◌∷◌, ◌++◌, map, length, slice_get, slice_set, Option, Some, None, ◌⊎◌, inl, inr, ⊎_elim, refl, sym, ap, ◌∙◌, subst, arith}
use Rattle.std.specs.Option.{option_map}
use Rattle.std.proofs.lemmas.Option.{slice_get-map, slice_get_within}
use mathlib.Core.Logic.{dite}
use native.Mathlib.Decide.{ℕ_discrete}
use Rattle.mp_core_pages.specs.declared.opening.TheConstants.{PAGES}
use Rattle.mp_buffer_fusion.specs.declared.pool.TheConstants.{BUFFERS}
use Rattle.mp_buffer_fusion.specs.declared.buffer.Buffer.{Buffer}
use Rattle.mp_buffer_fusion.specs.Buffers.{buffer_of, StandsAt, new_buffer}
use Rattle.mp_buffer_fusion.specs.Places.{IsKeptPool}
use Rattle.mp_buffer_fusion.proofs.Buffered.{not_some, Distinct, found_at, place_found, lacks_from}

pub one_value : {i j : ℕ} → Some i ≡ Some j → i ≡ j
one_value e = cc

module _ (buffers : List Buffer) (places : List ℕ) (kept : IsKeptPool buffers places) where
  pub distinct : Distinct buffers
  distinct i j b c at also same =
      let one : i + 1 ≡ j + 1 = one_value (sym (kept.placed i b at) ∙ ap (slice_get places) same ∙ kept.placed j c also) in
      omega arith

  -- a page at place 0 has no buffer
  pub lacks_at_zero : (k : ℕ) → slice_get places k ≡ Some 0 → buffer_of buffers k ≡ None
  lacks_at_zero k zeros =
      lacks_from buffers k
      (λ i b at same.
      let one : 0 ≡ i + 1 = one_value (sym zeros ∙ ap (slice_get places) (sym same) ∙ kept.placed i b at) in
      absurd (omega arith))

  -- and one at another place has its buffer there
  pub stands_at : (k i : ℕ) → slice_get places k ≡ Some (i + 1) → (b : Buffer) × StandsAt buffers k i b
  stands_at k i at =
      let has = kept.pointed k i at in
      (has.0, (has.1, subst (λ j. buffer_of buffers j ≡ Some has.0) has.2 (found_at buffers distinct i has.0 has.1)))

-- buffers changed, none in its page's number
pub kept_mapped : (f : Buffer → Buffer) → ((b : Buffer) → (f b).number ≡ b.number) → (buffers : List Buffer) (places : List ℕ) → IsKeptPool buffers places → IsKeptPool (map f buffers) places
kept_mapped f same buffers places kept = record {
  few = let len = length_map buffers in omega (arith, len, kept.few);
  table = kept.table;
  placed = λ i b at. let was = before i b at in ap (slice_get places) (ap (λ (y : Buffer). y.number) (sym was.2) ∙ same was.0) ∙ kept.placed i was.0 was.1;
  pointed = λ k i at. let has = kept.pointed k i at in (f has.0, slice_get-map f buffers i ∙ ap (option_map f) has.1, same has.0 ∙ has.2);
}
  where
    length_map : (xs : List Buffer) → length (map f xs) ≡ length xs
    length_map [] = refl
    length_map (x ∷ xs) = ap suc (length_map xs)

    was_some : (o : Option Buffer) (b : Buffer) → option_map f o ≡ Some b → (a : Buffer) × (o ≡ Some a) × (f a ≡ b)
    was_some None b e = absurd (cc)
    was_some (Some a) b e = (a, refl, cc)

    before : (i : ℕ) (b : Buffer) → slice_get (map f buffers) i ≡ Some b → (a : Buffer) × (slice_get buffers i ≡ Some a) × (f a ≡ b)
    before i b at = was_some (slice_get buffers i) b (sym (slice_get-map f buffers i) ∙ at)

-- one item more, and one item written
pub at_end : {X : Type 0} (xs : List X) (x : X) → slice_get (xs ++ x ∷ []) (length xs) ≡ Some x
at_end [] x = refl
at_end (y ∷ xs) x = at_end xs x

at_longer : {X : Type 0} (xs : List X) (x y : X) (i : ℕ) → slice_get (xs ++ x ∷ []) i ≡ Some y → (slice_get xs i ≡ Some y) ⊎ ((i ≡ length xs) × (x ≡ y))
at_longer [] x y zero at = inr (refl, (cc))
at_longer [] x y (suc i) at = absurd (cc)
at_longer (z ∷ xs) x y zero at = inl at
at_longer (z ∷ xs) x y (suc i) at = ⊎_elim (λ (old : slice_get xs i ≡ Some y). inl old) (λ (new : (i ≡ length xs) × (x ≡ y)). inr (ap suc new.0, new.1)) (at_longer xs x y i at)

still_at : {X : Type 0} (xs : List X) (x y : X) (i : ℕ) → slice_get xs i ≡ Some y → slice_get (xs ++ x ∷ []) i ≡ Some y
still_at [] x y i at = absurd (cc)
still_at (z ∷ xs) x y zero at = at
still_at (z ∷ xs) x y (suc i) at = still_at xs x y i at

pub set_here : {X : Type 0} (xs : List X) (i : ℕ) (x : X) → i < length xs → slice_get (slice_set xs i x) i ≡ Some x
set_here [] i x within = absurd (omega arith)
set_here (y ∷ xs) zero x within = refl
set_here (y ∷ xs) (suc i) x within = set_here xs i x (omega arith)

pub set_else : {X : Type 0} (xs : List X) (i j : ℕ) (x : X) → ¬ (j ≡ i) → slice_get (slice_set xs i x) j ≡ slice_get xs j
set_else [] i j x other = refl
set_else (y ∷ xs) zero zero x other = absurd (other refl)
set_else (y ∷ xs) zero (suc j) x other = refl
set_else (y ∷ xs) (suc i) zero x other = refl
set_else (y ∷ xs) (suc i) (suc j) x other = set_else xs i j x (λ e. other (ap suc e))

pub set_length : {X : Type 0} (xs : List X) (i : ℕ) (x : X) → length (slice_set xs i x) ≡ length xs
set_length [] i x = refl
set_length (y ∷ xs) zero x = refl
set_length (y ∷ xs) (suc i) x = ap suc (set_length xs i x)

longer_length : {X : Type 0} (xs : List X) (x : X) → length (xs ++ x ∷ []) ≡ length xs + 1
longer_length [] x = refl
longer_length (y ∷ xs) x = let rest = longer_length xs x in omega (arith, rest)

-- a page comes into a buffer
module _ (buffers : List Buffer) (places : List ℕ) (kept : IsKeptPool buffers places) (x : Buffer) (lacks : buffer_of buffers x.number ≡ None) (room : length buffers < BUFFERS) (page : x.number < PAGES) where
  apart : (i : ℕ) (b : Buffer) → slice_get buffers i ≡ Some b → ¬ (b.number ≡ x.number)
  apart i b at same = not_some (buffer_of buffers x.number) b lacks (subst (λ j. buffer_of buffers j ≡ Some b) same (found_at buffers (distinct buffers places kept) i b at))

  pub kept_longer : IsKeptPool (buffers ++ x ∷ []) (slice_set places x.number (length buffers + 1))
  kept_longer = record {
    few = let len = longer_length buffers x in omega (arith, len, room);
    table = set_length places x.number (length buffers + 1) ∙ kept.table;
    placed = λ i b at.
        ⊎_elim
        (λ (old : slice_get buffers i ≡ Some b). set_else places x.number b.number (length buffers + 1) (apart i b old) ∙ kept.placed i b old)
        (λ (new : (i ≡ length buffers) × (x ≡ b)).
        ap (slice_get (slice_set places x.number (length buffers + 1))) (ap (λ (y : Buffer). y.number) (sym new.1))
        ∙ set_here places x.number (length buffers + 1) (omega (arith, kept.table, page))
        ∙ ap (λ j. Some (j + 1)) (sym new.0))
        (at_longer buffers x b i at);
    pointed = λ k i at.
        dite (ℕ_discrete k x.number)
        (λ same.
        let one : length buffers + 1 ≡ i + 1 = one_value (sym (ap (slice_get (slice_set places x.number (length buffers + 1))) same ∙ set_here places x.number (length buffers + 1) (omega (arith, kept.table, page))) ∙ at) in
        let last : length buffers ≡ i = omega arith in
        (x, ap (slice_get (buffers ++ x ∷ [])) (sym last) ∙ at_end buffers x, sym same))
        (λ other.
        let has = kept.pointed k i (sym (set_else places x.number k (length buffers + 1) other) ∙ at) in
        (has.0, still_at buffers x has.0 i has.1, has.2));
  }
