-- What holds of a turn that waits, whatever its cause.
use Rattle.std.proofs.Common.{◌≡◌, refl, ◌∙◌}
use Rattle.mp_model.specs.declared.waiting.Cause.{Cause}
use Rattle.mp_model.specs.declared.waiting.Turn.{Turn}
use Rattle.mp_model.specs.declared.waiting.Turn.TheVariants.{Answered, Waiting, Done, Stopped}
use Rattle.mp_primary.specs.Turns.{IfWaiting}

module _ {A : Type 0} where
  pub same_if_waits : (turn : Turn) (x : A) → IfWaiting turn (λ cause. x ≡ x)
  same_if_waits Answered x = tt
  same_if_waits (Waiting cause) x = refl
  same_if_waits Done x = tt
  same_if_waits (Stopped by) x = tt

  pub on_if_waits : (turn : Turn) (x y z : A) → y ≡ z → IfWaiting turn (λ cause. x ≡ y) → IfWaiting turn (λ cause. x ≡ z)
  on_if_waits Answered x y z same h = tt
  on_if_waits (Waiting cause) x y z same h = h ∙ same
  on_if_waits Done x y z same h = tt
  on_if_waits (Stopped by) x y z same h = tt

-- what goes for each cause
pub waits_map : (turn : Turn) (P Q : Cause → Type 0) → ((cause : Cause) → P cause → Q cause) → IfWaiting turn P → IfWaiting turn Q
waits_map Answered P Q more h = tt
waits_map (Waiting cause) P Q more h = more cause h
waits_map Done P Q more h = tt
waits_map (Stopped by) P Q more h = tt

-- and for two facts of it
pub waits_both : (turn : Turn) (P Q R : Cause → Type 0) → ((cause : Cause) → P cause → Q cause → R cause) → IfWaiting turn P → IfWaiting turn Q → IfWaiting turn R
waits_both Answered P Q R join a b = tt
waits_both (Waiting cause) P Q R join a b = join cause a b
waits_both Done P Q R join a b = tt
waits_both (Stopped by) P Q R join a b = tt
