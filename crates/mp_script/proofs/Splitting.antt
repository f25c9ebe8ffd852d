-- Pieces without a byte, joined by it, are split at it into the same pieces.
use Rattle.std.proofs.Common.{arith, ◌≡◌, ◌==◌, ◌&&◌, ◌++◌, ℕ, List, [], ◌∷◌, Bool, true, false, not, refl, sym, ap, ◌∙◌, append_assoc, append-nil}
use Rattle.std.specs.List.{list_all, join_with_byte, slice_split, onto_first}
use Rattle.std.proofs.lemmas.Bool.Decides.{nat_tests}
use Rattle.std.proofs.lemmas.List.Splits.{slice_split-cons_yes, slice_split-cons_no}
use Rattle.std.proofs.lemmas.List.Folds.{list_all-append}
use Rattle.mp_script.specs.Text.{lines_text}

-- whether a byte doesn't stand in a list
abbrev pub lacks : ℕ → List ℕ → Bool
lacks c bytes = list_all (λ b. not (b == c)) bytes

pub and-parts : {a b : Bool} → (a && b) ≡ true → (a ≡ true) × (b ≡ true)
and-parts {a = true} {b = true} h = (refl, refl)
and-parts {a = true} {b = false} h = (refl, h)
and-parts {a = false} h = (h, absurd cc)

pub both : {a b : Bool} → a ≡ true → b ≡ true → (a && b) ≡ true
both {a = true} p q = q
both {a = false} p q = cc

not-true : (b : Bool) → not b ≡ true → b ≡ false
not-true true h = sym h
not-true false h = refl

same_byte : (c : ℕ) → (c == c) ≡ true
same_byte c = grind (arith, nat_tests)

pub split_one : (c : ℕ) (xs : List ℕ) → lacks c xs ≡ true → slice_split (λ b. b == c) xs ≡ xs ∷ []
split_one c [] h = refl
split_one c (x ∷ xs) h =
    let parts : (not (x == c) ≡ true) × (lacks c xs ≡ true) = and-parts h in
    slice_split-cons_no (λ b. b == c) x xs (not-true _ parts.0) ∙ ap (onto_first x) (split_one c xs parts.1)

pub split_more : (c : ℕ) (xs ys : List ℕ) → lacks c xs ≡ true → slice_split (λ b. b == c) (xs ++ c ∷ ys) ≡ xs ∷ slice_split (λ b. b == c) ys
split_more c [] ys h = slice_split-cons_yes (λ b. b == c) c ys (same_byte c)
split_more c (x ∷ xs) ys h =
    let parts : (not (x == c) ≡ true) × (lacks c xs ≡ true) = and-parts h in
    slice_split-cons_no (λ b. b == c) x (xs ++ c ∷ ys) (not-true _ parts.0) ∙ ap (onto_first x) (split_more c xs ys parts.1)

pub split_joined : (c : ℕ) (x : List ℕ) (xs : List (List ℕ)) → list_all (lacks c) (x ∷ xs) ≡ true → slice_split (λ b. b == c) (join_with_byte c (x ∷ xs)) ≡ x ∷ xs
split_joined c x [] h = split_one c x (and-parts h).0
split_joined c x (y ∷ ys) h =
    let parts : (lacks c x ≡ true) × (list_all (lacks c) (y ∷ ys) ≡ true) = and-parts h in
    split_more c x (join_with_byte c (y ∷ ys)) parts.0 ∙ ap (λ rest. x ∷ rest) (split_joined c y ys parts.1)

-- what each of two lists and the byte between them lacks, the joined lists lack
pub lacks-join : (c d : ℕ) (xs : List (List ℕ)) → not (d == c) ≡ true → list_all (lacks c) xs ≡ true → lacks c (join_with_byte d xs) ≡ true
lacks-join c d [] e h = refl
lacks-join c d (x ∷ []) e h = (and-parts h).0
lacks-join c d (x ∷ y ∷ ys) e h =
    let parts : (lacks c x ≡ true) × (list_all (lacks c) (y ∷ ys) ≡ true) = and-parts h in
    list_all-append (λ b. not (b == c)) x (d ∷ join_with_byte d (y ∷ ys)) ∙ both parts.0 (both e (lacks-join c d (y ∷ ys) e parts.1))

-- ended lines are joined lines with one more end
pub lines_text-join : (x : List ℕ) (xs : List (List ℕ)) → lines_text (x ∷ xs) ≡ join_with_byte 10 (x ∷ xs) ++ 10 ∷ []
lines_text-join x [] = append-nil (x ++ 10 ∷ [])
lines_text-join x (y ∷ ys) = append_assoc x (10 ∷ []) (lines_text (y ∷ ys)) ∙ ap (λ rest. x ++ (10 ∷ rest)) (lines_text-join y ys) ∙ sym (append_assoc x (10 ∷ join_with_byte 10 (y ∷ ys)) (10 ∷ []))

-- a test that another implies
pub list_all-implies : {X : Type 0} (p q : X → Bool) → ((x : X) → p x ≡ true → q x ≡ true) → (xs : List X) → list_all p xs ≡ true → list_all q xs ≡ true
list_all-implies p q h [] e = refl
list_all-implies p q h (x ∷ xs) e = let parts : (p x ≡ true) × (list_all p xs ≡ true) = and-parts e in both (h x parts.0) (list_all-implies p q h xs parts.1)
