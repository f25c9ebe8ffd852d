-- Looking once, and then again.
use Rattle.std.proofs.Common.{refl, ◌∙◌, arith}
use Rattle.mp_outside.specs.declared.disks.Disk.{Ghosts}
use Rattle.mp_outside.specs.Looks.{Looks}
use Rattle.mp_outside.proofs.Quiets.{Quiet-refl, Quiet-trans}

module _ {D : Type 0} (g : Ghosts D) where
  pub Looks-refl : (disk : D) → Looks g disk disk
  Looks-refl disk = record { tells = refl; quiet = Quiet-refl; known = omega arith; count = omega arith }

  pub Looks-trans : (old mid new : D) → Looks g old mid → Looks g mid new → Looks g old new
  Looks-trans old mid new first then_ = record {
    tells = then_.tells ∙ first.tells;
    quiet = Quiet-trans first.quiet then_.quiet;
    known = omega (arith, first.known, then_.known);
    count = omega (arith, first.count, then_.count);
  }
