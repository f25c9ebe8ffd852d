-- A printed number, statement or row reads back as itself.
use Rattle.std.proofs.Common.{◌≡◌, ℕ, ◌-◌, ◌^◌, ◌<◌, ◌≤◌, ◌==◌, ◌⊎◌, inl, inr, true, false, List, [], ◌∷◌, ◌++◌, Some, decimal, refl, lit<, arith}
use Rattle.std.proofs.lemmas.Bool.{le-leb, eq-eqb}
use Rattle.std.proofs.lemmas.Bool.Decides.{eqb_tells}
use Rattle.std.proofs.lemmas.Fmt.{decimal_is_IsNumeral}
use Rattle.std.proofs.lemmas.Str.Parse.{digit_from_value}
use Rattle.std.specs.List.{AllByRecursion}
use Rattle.std.specs.Str.{bytes_eq}
use Rattle.std.specs.Str.Parse.{AllDigits}
use Rattle.mp_model.specs.declared.key_value.KeyValue.{KeyValue}
use Rattle.mp_report.specs.Answers.{statement_word, row_word}
use Rattle.mp_report.specs.Readable.{IsStatement}
use Rattle.mp_script.specs.SpelledLines.{IsRowInRange}
use Rattle.mp_report.specs.Reading.{read_number, read_statement, read_row, cut_at}

pub same_bytes : (xs : List ℕ) → bytes_eq xs xs ≡ true
same_bytes [] = refl
same_bytes (x ∷ xs) = rw (eq-eqb x x refl) (same_bytes xs)

pub number_read : (low high n : ℕ) → low ≤ n → n ≤ high → n < 2 ^ 64 → read_number low high (decimal n) ≡ Some n
number_read low high n least most small =
    rw ((decimal_is_IsNumeral n small).1, le-leb low n least, le-leb n high most, same_bytes (decimal n)) refl

-- a byte that isn't among these is where they are cut
pub cut_here : (byte : ℕ) (front back : List ℕ) → AllByRecursion (λ b. (b == byte) ≡ false) front → cut_at byte (front ++ byte ∷ back) ≡ Some (front, back)
cut_here byte [] back others = rw (eq-eqb byte byte refl) refl
cut_here byte (x ∷ front) back others = rw (others.0, cut_here byte front back others.1) refl

no_digit : (byte : ℕ) (ds : List ℕ) → byte < 48 ⊎ 57 < byte → AllDigits 10 ds → AllByRecursion (λ b. (b == byte) ≡ false) ds
no_digit byte [] out digits = tt
no_digit byte (d ∷ ds) out digits = (elim (eqb_tells d byte) [ inl same ↦ absurd (omega (arith, digit_from_value d digits.0, out)) | inr other ↦ other.0 ], no_digit byte ds out digits.1)

pub cut_decimal : (byte n : ℕ) (back : List ℕ) → n < 2 ^ 64 → byte < 48 ⊎ 57 < byte → cut_at byte (decimal n ++ byte ∷ back) ≡ Some (decimal n, back)
cut_decimal byte n back small out = cut_here byte (decimal n) back (no_digit byte (decimal n) out (decimal_is_IsNumeral n small).0.1)

-- a word that begins with a letter is no number
no_letter : (letter : ℕ) (word ds : List ℕ) → 57 < letter → AllDigits 10 ds → bytes_eq ds (letter ∷ word) ≡ false
no_letter letter word [] out digits = refl
no_letter letter word (d ∷ ds) out digits = elim (eqb_tells d letter) [ inl same ↦ absurd (omega (arith, digit_from_value d digits.0)) | inr other ↦ rw (other.0) refl ]

pub number_differs : (letter : ℕ) (word : List ℕ) (n : ℕ) → 57 < letter → n < 2 ^ 64 → bytes_eq (decimal n) (letter ∷ word) ≡ false
number_differs letter word n out small = no_letter letter word (decimal n) out (decimal_is_IsNumeral n small).0.1

pub statement_read : (session index : ℕ) → IsStatement session index → read_statement (statement_word session index) ≡ Some (record { session = session; first = index })
statement_read session index is =
    rw (
      cut_decimal 46 session (decimal index) (omega (arith, is.most_sessions)) (inl (lit< tt)),
      number_read 1 64 session is.some_session is.most_sessions (omega (arith, is.most_sessions)),
      number_read 1 10000 index is.some_index is.most_statements (omega (arith, is.most_statements)),
    ) refl

pub row_read : (row : KeyValue) → IsRowInRange row → read_row (row_word row) ≡ Some row
row_read row is =
    rw (
      cut_decimal 61 row.key row.value (omega (arith, is.key)) (inr (lit< tt)),
      number_read 0 (2 ^ 32 - 1) row.key (omega arith) (omega (arith, is.key)) (omega (arith, is.key)),
      is.value,
    ) refl
