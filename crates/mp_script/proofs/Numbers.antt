-- A word is a number exactly where it is that number's decimal text.
use Rattle.std.proofs.Common.{rules, arith, ◌≡◌, ◌<◌, ◌^◌, ◌&&◌, ℕ, List, [], ◌∷◌, length, Bool, true, false, Some, None, Result, Ok, Err, refl, sym, ap, ◌∙◌, if◌then◌else◌, ◌==◌, ◌||◌, not, get_or, nat_lt, zero, suc, lit<}
use Rattle.std.specs.Fmt.{decimal}
use Rattle.std.proofs.lemmas.Fmt.{digits_decimal, digits_value-decimal, decimal-digits_value, decimal_digit, decimal_nonempty, first_decimal}
use Rattle.std.proofs.lemmas.Bool.{lt-ltb, ltb-true}
use Rattle.std.proofs.Math.Dec.{ltb}
use Rattle.std.specs.List.{list_all}
use Rattle.std.specs.Char.{is_ascii_digit}
use Rattle.std.specs.Result.{result_ok, OkIff}
use Rattle.std.specs.Str.Parse.{digits_value, ParsesUnsigned}
use Rattle.std.proofs.lemmas.Bool.Decides.{nat_tests}
use Rattle.std.proofs.lemmas.Str.Parse.{IsDigitsTest, IsNumeralModel, numerals_by_value, parse_digits}
use Rattle.mp_script.specs.Words.{is_numeral, word_number}

pub tells_digits : IsDigitsTest (λ ds. list_all is_ascii_digit ds ≡ true)
tells_digits = search rules

pub numerals : IsNumeralModel (λ ds. list_all is_ascii_digit ds ≡ true) (digits_value 10)
numerals = numerals_by_value _ tells_digits

and_right : (a b : Bool) → (a && b) ≡ true → b ≡ true
and_right true b h = h
and_right false b h = cc

pub numeral-digits : (word : List ℕ) → is_numeral word ≡ true → list_all is_ascii_digit word ≡ true
numeral-digits [] h = cc
numeral-digits (first ∷ rest) h = and_right _ _ h

pub numeral-some : (word : List ℕ) → is_numeral word ≡ true → 0 < length word
numeral-some [] h = cc
numeral-some (first ∷ rest) h = omega arith

both_true : (a b : Bool) (v : ℕ) → a ≡ true → b ≡ true → (if a && b then Some v else None) ≡ Some v
both_true true true v p q = refl
both_true true false v p q = cc
both_true false b v p q = cc

second_false : (a b : Bool) (v : ℕ) → b ≡ false → (if a && b then Some v else None) ≡ None
second_false true true v q = cc
second_false true false v q = refl
second_false false b v q = refl

not_lt : (a b : ℕ) → (a < b → ⊥) → ltb a b ≡ false
not_lt a b h = grind (arith, nat_tests)

-- what `parse` makes of a numeral is its number
pub parsed_number : {E : Type 0} (word : List ℕ) (r : Result ℕ E) → is_numeral word ≡ true → ParsesUnsigned 32 10 word r → result_ok r ≡ word_number word
parsed_number {E} word (Ok x) h p =
    let e : OkIff {E = E} (Ok x) ((0 < length word) × (digits_value 10 word < 2 ^ 32)) (digits_value 10 word) = parse_digits numerals {E = E} 32 word (Ok x) p (numeral-digits word h) in
    ap Some e.1 ∙ sym (both_true (is_numeral word) _ (digits_value 10 word) h (lt-ltb _ _ e.0.1))
parsed_number {E} word (Err y) h p =
    let e : OkIff {E = E} (Err y) ((0 < length word) × (digits_value 10 word < 2 ^ 32)) (digits_value 10 word) = parse_digits numerals {E = E} 32 word (Err y) p (numeral-digits word h) in
    sym (second_false (is_numeral word) _ (digits_value 10 word) (not_lt _ _ (λ l. e (numeral-some word h, l))))

numeral_from : (word : List ℕ) → list_all is_ascii_digit word ≡ true → 0 < length word → 48 < get_or word 0 0 → is_numeral word ≡ true
numeral_from [] h l f = absurd (omega arith)
numeral_from (first ∷ rest) h l f = first_high (first == 48) _ _ (not_same first f) h
  where
    not_same : (n : ℕ) → 48 < n → (n == 48) ≡ false
    not_same n l = grind (arith, nat_tests)

    first_high : (a b d : Bool) → a ≡ false → d ≡ true → ((not a || b) && d) ≡ true
    first_high true b d p q = cc
    first_high false b d p q = q

numeral-decimal : (n : ℕ) → n < 2 ^ 64 → is_numeral (decimal n) ≡ true
numeral-decimal zero h = rw (decimal_digit 0 (lit< tt)) refl
numeral-decimal (suc n) h = numeral_from (decimal (suc n)) (digits_decimal numerals (suc n) h) (decimal_nonempty (suc n) h) (first_decimal (suc n) (omega arith) h)

pub word_number-decimal : (n : ℕ) → n < 2 ^ 32 → word_number (decimal n) ≡ Some n
word_number-decimal n h =
    let v : digits_value 10 (decimal n) ≡ n = digits_value-decimal numerals n (omega arith) in
    both_true (is_numeral (decimal n)) _ (digits_value 10 (decimal n)) (numeral-decimal n (omega arith)) (lt-ltb _ _ (omega arith)) ∙ ap Some v

some_parts : (a b : Bool) (v n : ℕ) → (if a && b then Some v else None) ≡ Some n → (a ≡ true) × (b ≡ true) × (v ≡ n)
some_parts true true v n h = (refl, refl, cc)
some_parts true false v n h = cc
some_parts false b v n h = cc

leading_zero : (word : List ℕ) → is_numeral word ≡ true → get_or word 0 0 ≡ 48 → length word ≡ 1
leading_zero [] h e = cc
leading_zero (first ∷ rest) h e = grind (arith, nat_tests)

pub word_number-Some : (word : List ℕ) (n : ℕ) → word_number word ≡ Some n → (word ≡ decimal n) × (n < 2 ^ 32)
word_number-Some word n h =
    let p : (is_numeral word ≡ true) × (nat_lt (digits_value 10 word) (2 ^ 32) ≡ true) × (digits_value 10 word ≡ n) = some_parts (is_numeral word) _ (digits_value 10 word) n h in
    let small : digits_value 10 word < 2 ^ 32 = ltb-true _ _ p.1 in
    let text : decimal (digits_value 10 word) ≡ word = decimal-digits_value numerals word (numeral-digits word p.0) (numeral-some word p.0) (leading_zero word p.0) (omega arith) in
    (sym text ∙ ap decimal p.2, omega (arith, small, p.2))
