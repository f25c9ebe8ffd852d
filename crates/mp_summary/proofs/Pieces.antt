-- Five pieces pushed one behind the other into an empty text.
use Rattle.std.proofs.Common.{◌≡◌, ℕ, List, [], ◌++◌, ap, ◌∙◌, append_assoc}

pub in_pieces : (a b d e f none first second third fourth text : List ℕ) → none ≡ [] → first ≡ none ++ a → second ≡ first ++ b → third ≡ second ++ d
    → fourth ≡ third ++ e → text ≡ fourth ++ f → text ≡ a ++ (b ++ (d ++ (e ++ f)))
in_pieces a b d e f none first second third fourth text empty one two three four five =
    five ∙ ap (λ (l : List ℕ). l ++ f) (four ∙ ap (λ (l : List ℕ). l ++ e) (three ∙ ap (λ (l : List ℕ). l ++ d) (two ∙ ap (λ (l : List ℕ). l ++ b) (one ∙ ap (λ (l : List ℕ). l ++ a) empty))))
    ∙ append_assoc ((a ++ b) ++ d) e f ∙ append_assoc (a ++ b) d (e ++ f) ∙ append_assoc a b (d ++ (e ++ f))
