-- With which number the primary at a place is down.
use Rattle.std.proofs.Common.{◌≡◌, ℕ, suc, ◌+◌, List, slice_get, Option, Some, sym, ap, subst, arith}
use Rattle.mp_primary.specs.Primaries.{PrimaryView}
use Rattle.mp_members.specs.Running.{down_in, downs_of}

-- the primary at a place is the one of the number above
pub down_there : {D : Type 0} (primaries : List (PrimaryView D)) (place n : ℕ) (pr : PrimaryView D) → n ≡ place + 1 → slice_get primaries place ≡ Some pr → downs_of primaries n ≡ pr.down
down_there primaries place n pr is at =
    let next : n ≡ suc place = omega (arith, is) in
    subst (λ (k : ℕ). downs_of primaries k ≡ pr.down) (sym next) (ap (λ (o : Option (PrimaryView _)). down_in o) at)
