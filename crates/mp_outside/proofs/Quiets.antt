-- Calls that add no image, one after another, add none.
use Rattle.std.proofs.Common.{ℕ, List, refl, ◌∙◌}
use Rattle.mp_outside.specs.Disks.{Quiet}

pub Quiet-refl : {seen : List ℕ} {image : List ℕ → Type 0} → Quiet seen image seen image
Quiet-refl = record { same = refl; no_new = λ c now. now }

pub Quiet-trans : {seen seen' seen'' : List ℕ} {image image' image'' : List ℕ → Type 0}
    → Quiet seen image seen' image' → Quiet seen' image' seen'' image'' → Quiet seen image seen'' image''
Quiet-trans first then_ = record { same = then_.same ∙ first.same; no_new = λ c now. first.no_new c (then_.no_new c now) }
