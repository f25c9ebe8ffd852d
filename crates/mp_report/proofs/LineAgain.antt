-- The words of a line are the line again.
use Rattle.std.proofs.Common.{◌≡◌, ◌∙◌, ℕ, ◌==◌, ◌≤◌, inl, inr, List, [], ◌∷◌, ◌++◌, length, refl, sym, ap, append_assoc, arith}
use Rattle.std.proofs.lemmas.Bool.Decides.{eqb_tells}
use Rattle.std.proofs.lemmas.List.Splits.{length-slice_split}
use Rattle.std.specs.List.{onto_first}
use Rattle.mp_report.specs.Lines.{spaced, line}
use Rattle.mp_report.specs.ReadingLines.{words_of}

byte_first : (byte : ℕ) (words : List (List ℕ)) → line (onto_first byte words) ≡ byte ∷ line words
byte_first byte [] = refl
byte_first byte (word ∷ words) = refl

space_first : (words : List (List ℕ)) → 1 ≤ length words → line ([] ∷ words) ≡ 32 ∷ line words
space_first [] some = absurd (omega arith)
space_first (word ∷ words) some = ap (λ ws. 32 ∷ ws) (append_assoc word (spaced words) (10 ∷ []))

pub line_again : (text : List ℕ) → line (words_of text) ≡ text ++ 10 ∷ []
line_again [] = refl
line_again (x ∷ text) = elim (eqb_tells x 32) [
  | inl same ↦ rw same.0 (
      space_first (words_of text) (omega (arith, length-slice_split (λ b. b == 32) text)) ∙ ap (λ ws. 32 ∷ ws) (line_again text)
      ∙ ap (λ b. b ∷ (text ++ 10 ∷ [])) (sym same.1)
      )
  | inr other ↦ rw other.0 (byte_first x (words_of text) ∙ ap (λ ws. x ∷ ws) (line_again text))
]
