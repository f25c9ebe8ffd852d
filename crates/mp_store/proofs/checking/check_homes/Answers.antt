-- The first home with a fault decides.
use Rattle.std.proofs.Common.{ℕ, List, IsTrue, Err, refl, subst, ◌∙◌, arith}
use Rattle.std.proofs.lemmas.Result.{err_from_is_err_and}
use Rattle.mp_outside.proofs.Quiets.{Quiet-refl, Quiet-trans}
use Rattle.mp_store.specs.StoreFiles.{home_fault, homes_fault}
use Rattle.mp_store.specs.Answers.{StoreFinds}
use Rattle.mp_store.proofs.HomeChecks.{homes_more, homes_found}
use Rattle.mp_store.proofs.checking.check_homes.Goals as goal

pub loop-number-init : goal.loop-number-init
unfolding homes_fault
loop-number-init g c = record { tells = refl; quiet = Quiet-refl; sound = λ tells. refl; known = refl; counted = omega arith }

pub loop-number-preserved : goal.loop-number-preserved
loop-number-preserved g c = let before = c.loop-number.invariant in record {
  tells = c.in_ok-check_home.ensures.tells ∙ before.tells;
  quiet = Quiet-trans before.quiet c.in_ok-check_home.ensures.quiet;
  sound = λ tells.
      let still : IsTrue (g.D.Disk.tells c.loop-number.disk) = rw (before.tells) tells in
      homes_more c.args.generation c.loop-number.number _ (before.sound tells) (rw (before.quiet.same) at (c.in_ok-check_home.ensures.finds still));
  known = c.in_ok-check_home.ensures.known ∙ before.known;
  counted = omega (arith, before.counted, c.in_ok-check_home.ensures.count);
}

pub returns-in_err-check_home-clause-finds : goal.returns-in_err-check_home-clause-finds
returns-in_err-check_home-clause-finds g c = λ tells.
    let before = c.loop-number.invariant in
    let still : IsTrue (g.D.Disk.tells c.loop-number.disk) = rw (before.tells) tells in
    let fault = c.in_err-check_home.field-0.0 in
    let found = subst (λ (file : List ℕ). StoreFinds {T = Unit {0}} (home_fault c.args.generation c.loop-number.number file) (Err fault)) before.quiet.same (c.in_err-check_home.ensures.finds still) in
    let returned = err_from_is_err_and c.from_residual.result c.from_residual.ensures.1 in
    rw (returned.1, returned.2) (homes_found (Unit {0}) (Unit {0}) c.args.generation c.loop-number.number 4096 (g.D.Disk.seen c.args.disk.now) fault c.loop-number-test.true (before.sound tells) found)
