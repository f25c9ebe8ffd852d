-- Options that are equal.
use Rattle.std.proofs.Common.{◌≡◌, Option, Some, None}

pub some_is : {T : Type 0} (x y : T) → Some x ≡ Some y → x ≡ y
some_is x y e = cc

pub not_some : {T : Type 0} (x : T) → ◌≡◌ {A = Option T} None (Some x) → ⊥
not_some x e = absurd cc
