-- What was added in pieces was added as their joined text.
use Rattle.std.proofs.Common.{◌≡◌, ◌∙◌, ℕ, List, ◌++◌, Result, OnOk, ap, append_assoc}
use Rattle.std.proofs.lemmas.Result.{on_ok_weaker}

pub two_added : {T E : Type 0} (r : Result T E) (new old first second words : List ℕ)
    → first ++ second ≡ words → OnOk r (new ≡ old ++ (first ++ second)) → OnOk r (new ≡ old ++ words)
two_added r new old first second words same =
    on_ok_weaker {P = new ≡ old ++ (first ++ second)} r (λ e. e ∙ ap (λ w. old ++ w) same)

pub three_added : {T E : Type 0} (r : Result T E) (new mid old first second third words : List ℕ)
    → mid ≡ old ++ (first ++ second) → first ++ (second ++ third) ≡ words → OnOk r (new ≡ mid ++ third) → OnOk r (new ≡ old ++ words)
three_added r new mid old first second third words before same =
    on_ok_weaker {P = new ≡ mid ++ third} r
    (λ e. e ∙ ap (λ w. w ++ third) before ∙ append_assoc old (first ++ second) third ∙ ap (λ w. old ++ w) (append_assoc first second third ∙ same))
