-- Want of memory is no fault of the disk.
use Rattle.std.proofs.Common.{ℕ}
use Rattle.std.proofs.lemmas.Result.{err_from_is_err_and}
use Rattle.mp_model.specs.Listed.{Listed}
use Rattle.mp_commands.proofs.Sound.{still_caused}
use Rattle.mp_commands.proofs.dumping.print_store.Goals as goal

pub returns-in_err-or_memory-clause-cause : goal.returns-in_err-or_memory-clause-cause
returns-in_err-or_memory-clause-cause g c =
    let returned = err_from_is_err_and c.from_residual.result c.from_residual.ensures.1 in
    rw (returned.1, returned.2) (still_caused (Unit {0}) (Listed ℕ) _ _ c.in_err-or_memory.field-0.0 (c.in_err-or_memory.ensures.cause _ _))

pub returns-in_err-or_memory-2-clause-cause : goal.returns-in_err-or_memory-2-clause-cause
returns-in_err-or_memory-2-clause-cause g c =
    let returned = err_from_is_err_and c.from_residual-in_err-or_memory-2.result c.from_residual-in_err-or_memory-2.ensures.1 in
    rw (returned.1, returned.2) (still_caused (Unit {0}) (Listed ℕ) _ _ c.in_err-or_memory-2.field-0.0 (c.in_err-or_memory-2.ensures.cause _ _))
