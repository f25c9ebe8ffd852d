-- What was added in pieces was added as their joined text.
use Rattle.std.proofs.Common.{◌≡◌, ◌∙◌, ℕ, List, [], ◌∷◌, ◌++◌, Result, OnOk, sym, ap, append_assoc}
use Rattle.std.proofs.lemmas.List.Concat.{flat_map-append}
use Rattle.std.proofs.lemmas.Result.{on_ok_weaker}
use Rattle.mp_report.specs.Lines.{spaced, line}
use Rattle.mp_report.specs.Pages.{front}

pub two_pieces : {T E : Type 0} (r : Result T E) (new mid old first second words : List ℕ)
    → mid ≡ old ++ first → first ++ second ≡ words → OnOk r (new ≡ mid ++ second) → OnOk r (new ≡ old ++ words)
two_pieces r new mid old first second words before same =
    on_ok_weaker {P = new ≡ mid ++ second} r (λ e. e ∙ ap (λ w. w ++ second) before ∙ append_assoc old first second ∙ ap (λ w. old ++ w) same)

pub four_pieces : {T E : Type 0} (r : Result T E) (new c b a old first second third fourth words : List ℕ)
    → a ≡ old ++ first → b ≡ a ++ second → c ≡ b ++ third → first ++ (second ++ (third ++ fourth)) ≡ words → OnOk r (new ≡ c ++ fourth) → OnOk r (new ≡ old ++ words)
four_pieces r new c b a old first second third fourth words to_a to_b to_c same =
    two_pieces r new c old (first ++ (second ++ third)) fourth words
    (to_c ∙ ap (λ w. w ++ third) (to_b ∙ ap (λ w. w ++ second) to_a) ∙ simp append_assoc)
    ((simp append_assoc) ∙ same)

-- the front of a line, and the rest of its words
pub line_cut : (word : List ℕ) (words more : List (List ℕ)) → front (word ∷ words) ++ (spaced more ++ 10 ∷ []) ≡ line ((word ∷ words) ++ more)
line_cut word words more = rw (flat_map-append (λ (w : List ℕ). 32 ∷ w) words more) (simp append_assoc)

-- two named numbers at the end of a line
pub two_numbers : (name first other second : List ℕ) → spaced (name ∷ first ∷ []) ++ (spaced (other ∷ second ∷ []) ++ 10 ∷ []) ≡ spaced (name ∷ first ∷ other ∷ second ∷ []) ++ 10 ∷ []
two_numbers name first other second =
    sym (append_assoc (spaced (name ∷ first ∷ [])) (spaced (other ∷ second ∷ [])) (10 ∷ []))
    ∙ ap (λ (t : List ℕ). t ++ 10 ∷ []) (sym (flat_map-append (λ (w : List ℕ). 32 ∷ w) (name ∷ first ∷ []) (other ∷ second ∷ [])))
