-- A text of lines of words is cut into these lines and words again.
use Rattle.std.proofs.Common.{◌≡◌, ◌∙◌, ℕ, ◌<◌, ◌==◌, inl, inr, nat_le, Bool, true, false, List, [], ◌∷◌, ◌++◌, map, refl, ap, append_assoc, append-nil, lit<, arith}
use Rattle.std.proofs.lemmas.Bool.{and_parts, leb-true}
use Rattle.std.proofs.lemmas.Bool.Decides.{eqb_tells}
use Rattle.std.specs.List.{AllByRecursion, list_all, slice_split}
use Rattle.mp_report.specs.Lines.{spaced, text_of_lines}
use Rattle.mp_report.specs.ReadingLines.{lines_of}

-- each byte is above the space, as a word's bytes are
abbrev pub is_word : List ℕ → Bool
is_word word = list_all (λ b. nat_le 33 b) word

-- a line has a word, and all its words are words
abbrev pub is_line : List (List ℕ) → Bool
is_line [] = false
is_line (word ∷ words) = list_all is_word (word ∷ words)

split_at : (p : ℕ → Bool) (front : List ℕ) (byte : ℕ) (back : List ℕ) → AllByRecursion (λ b. p b ≡ false) front → p byte ≡ true → slice_split p (front ++ byte ∷ back) ≡ front ∷ slice_split p back
split_at p [] byte back none here = rw here refl
split_at p (x ∷ front) byte back none here = rw (none.0, split_at p front byte back none.1 here) refl

split_none : (p : ℕ → Bool) (front : List ℕ) → AllByRecursion (λ b. p b ≡ false) front → slice_split p front ≡ front ∷ []
split_none p [] none = refl
split_none p (x ∷ front) none = rw (none.0, split_none p front none.1) refl

-- no byte of a word is the space or the end of a line
not_in_word : (byte : ℕ) (word : List ℕ) → byte < 33 → is_word word ≡ true → AllByRecursion (λ b. (b == byte) ≡ false) word
not_in_word byte [] low is = tt
not_in_word byte (x ∷ word) low is =
    let parts = and_parts (nat_le 33 x) (is_word word) is in
    (elim (eqb_tells x byte) [ inl same ↦ absurd (omega (arith, leb-true 33 x parts.0)) | inr other ↦ other.0 ], not_in_word byte word low parts.1)

both : (P : ℕ → Type 0) (xs ys : List ℕ) → AllByRecursion P xs → AllByRecursion P ys → AllByRecursion P (xs ++ ys)
both P [] ys left right = right
both P (x ∷ xs) ys left right = (left.0, both P xs ys left.1 right)

-- no byte of spaced words is the end of a line
not_in_spaced : (words : List (List ℕ)) → list_all is_word words ≡ true → AllByRecursion (λ b. (b == 10) ≡ false) (spaced words)
not_in_spaced [] are = tt
not_in_spaced (word ∷ words) are =
    let parts = and_parts (is_word word) (list_all is_word words) are in
    (refl, both _ word (spaced words) (not_in_word 10 word (lit< tt) parts.0) (not_in_spaced words parts.1))

words_again : (word : List ℕ) (words : List (List ℕ)) → list_all is_word (word ∷ words) ≡ true → slice_split (λ b. b == 32) (word ++ spaced words) ≡ word ∷ words
words_again word [] are =
    rw append-nil (split_none (λ b. b == 32) word (not_in_word 32 word (lit< tt) (and_parts (is_word word) true are).0))
words_again word (next ∷ words) are =
    let parts = and_parts (is_word word) (list_all is_word (next ∷ words)) are in
    split_at (λ b. b == 32) word 32 (next ++ spaced words) (not_in_word 32 word (lit< tt) parts.0) refl
    ∙ ap (λ ws. word ∷ ws) (words_again next words parts.1)

pub lines_again : (lines : List (List (List ℕ))) → list_all is_line lines ≡ true → lines_of (text_of_lines lines) ≡ lines ++ ([] ∷ []) ∷ []
lines_again [] are = refl
lines_again ([] ∷ lines) are = let no : false ≡ true = are in cc
lines_again ((word ∷ words) ∷ lines) are =
    let parts = and_parts (is_line (word ∷ words)) (list_all is_line lines) are in
    let clean = and_parts (is_word word) (list_all is_word words) parts.0 in
    let shape : text_of_lines ((word ∷ words) ∷ lines) ≡ (word ++ spaced words) ++ 10 ∷ text_of_lines lines = simp append_assoc in
    let cut = split_at (λ b. b == 10) (word ++ spaced words) 10 (text_of_lines lines) (both _ word (spaced words) (not_in_word 10 word (lit< tt) clean.0) (not_in_spaced words clean.1)) refl in
    ap lines_of shape ∙ ap (map (slice_split (λ b. b == 32))) cut ∙ rw (words_again word words parts.0, lines_again lines parts.1) refl
