-- Calls made in two parts.
use Rattle.std.proofs.Common.{ℕ, ◌+◌, arith}
use Rattle.mp_gated.specs.Gates.{CallsMade}

-- one part of the calls, and then another
pub CallsMade-trans : {first second old mid new : ℕ} → CallsMade first old mid → CallsMade second mid new → CallsMade (first + second) old new
CallsMade-trans a b = record { made = a.made + b.made; some = omega arith; within = omega arith; counted = omega arith }
