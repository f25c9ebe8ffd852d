-- The words of a script have printed ASCII bytes alone, so no space and no line's end.
use Rattle.std.proofs.Common.{arith, ◌≡◌, ◌==◌, ◌<◌, ◌^◌, ℕ, List, ◌∷◌, Bool, true, not, refl}
use Rattle.std.specs.List.{list_all, slice_split}
use Rattle.std.specs.Char.{is_ascii_digit}
use Rattle.std.specs.Fmt.{decimal}
use Rattle.std.proofs.lemmas.Bool.Decides.{nat_tests}
use Rattle.std.proofs.lemmas.Fmt.{digits_decimal}
use Rattle.mp_model.specs.Values.{is_value_byte}
use Rattle.mp_script.specs.declared.statements.Stmt.{Stmt}
use Rattle.mp_script.specs.declared.statements.Stmt.TheVariants.{Begin, Get, Put, Del, Copy, Scan, Commit, Rollback}
use Rattle.mp_script.specs.declared.statements.Line.{Line}
use Rattle.mp_script.specs.Text.{name_text, stmt_words, stmt_line_words, words_text}
use Rattle.mp_script.specs.Words.{IsStmt}
use Rattle.mp_script.proofs.Numbers.{numerals}
use Rattle.mp_script.proofs.Splitting.{lacks, and-parts, both, list_all-implies, lacks-join, split_joined}

-- whether each byte is printed ASCII and no space
abbrev pub plain : List ℕ → Bool
plain word = list_all is_value_byte word

digit_plain : (b : ℕ) → is_ascii_digit b ≡ true → is_value_byte b ≡ true
digit_plain b h = grind (arith, nat_tests)

pub plain-decimal : (n : ℕ) → n < 2 ^ 64 → plain (decimal n) ≡ true
plain-decimal n h = list_all-implies is_ascii_digit is_value_byte digit_plain (decimal n) (digits_decimal numerals n h)

no_end : (b : ℕ) → is_value_byte b ≡ true → not (b == 10) ≡ true
no_end b h = grind (arith, nat_tests)

no_space : (b : ℕ) → is_value_byte b ≡ true → not (b == 32) ≡ true
no_space b h = grind (arith, nat_tests)

pub plain-lacks_end : (words : List (List ℕ)) → list_all plain words ≡ true → list_all (lacks 10) words ≡ true
plain-lacks_end words h = list_all-implies plain (lacks 10) (λ w. list_all-implies is_value_byte (λ b. not (b == 10)) no_end w) words h

pub plain-lacks_space : (words : List (List ℕ)) → list_all plain words ≡ true → list_all (lacks 32) words ≡ true
plain-lacks_space words h = list_all-implies plain (lacks 32) (λ w. list_all-implies is_value_byte (λ b. not (b == 32)) no_space w) words h

pub plain-name : (session : ℕ) → session < 2 ^ 64 → plain (name_text session) ≡ true
plain-name session h = plain-decimal session h

pub plain-stmt : (stmt : Stmt) → IsStmt stmt → list_all plain (stmt_words stmt) ≡ true
plain-stmt Begin h = refl
plain-stmt (Get key) h = both (plain-decimal key (omega arith)) refl
plain-stmt (Put key value) h = both (plain-decimal key (omega (arith, h.0))) (both (and-parts h.1).1 refl)
plain-stmt (Del key) h = both (plain-decimal key (omega arith)) refl
plain-stmt (Copy from to) h = both (plain-decimal from (omega (arith, h.0))) (both (plain-decimal to (omega (arith, h.1))) refl)
plain-stmt (Scan low most) h = both (plain-decimal low (omega (arith, h.0))) (both (plain-decimal most (omega (arith, h.1))) refl)
plain-stmt Commit h = refl
plain-stmt Rollback h = refl

pub plain-line : (line : Line) → line.session < 2 ^ 64 → IsStmt line.stmt → list_all plain (stmt_line_words line) ≡ true
plain-line line s h = both (plain-name line.session s) (plain-stmt line.stmt h)

-- so words written in a row are read as the same words, on one line
pub words-of-text : (w : List ℕ) (ws : List (List ℕ)) → list_all plain (w ∷ ws) ≡ true → slice_split (λ b. b == 32) (words_text (w ∷ ws)) ≡ w ∷ ws
words-of-text w ws h = split_joined 32 w ws (plain-lacks_space (w ∷ ws) h)

pub text-is-one_line : (ws : List (List ℕ)) → list_all plain ws ≡ true → lacks 10 (words_text ws) ≡ true
text-is-one_line ws h = lacks-join 10 32 ws refl (plain-lacks_end ws h)
