-- In a store without a fault the page is read without one.
use Rattle.std.proofs.Common.{None}
use Rattle.std.proofs.lemmas.Result.{err_from_is_err_and}
use Rattle.mp_cells.specs.PageView.{PageView}
use Rattle.mp_commands.proofs.Sound.{still_found}
use Rattle.mp_commands.proofs.dumping.push_taken.Goals as goal

pub returns-in_err-page-clause-sound : goal.returns-in_err-page-clause-sound
returns-in_err-page-clause-sound g c = λ tells. λ sound.
    let returned = err_from_is_err_and c.from_residual.result c.from_residual.ensures.1 in
    rw (returned.1, returned.2) (still_found PageView (Unit {0}) None c.in_err-page.field-0.0 (c.in_err-page.ensures.whole tells sound))

pub returns-clause-cause : goal.returns-clause-cause
returns-clause-cause g c = c.or_memory.ensures.cause _ _
