-- Where no home has a fault, reading a page finds none.
use Rattle.std.proofs.Common.{ℕ, List, IsTrue, Err, subst, arith}
use Rattle.std.proofs.lemmas.Result.{err_from_is_err_and}
use Rattle.mp_cells.specs.PageView.{PageView}
use Rattle.mp_store.specs.StoreFiles.{page_fault_in_force, roots_fault}
use Rattle.mp_store.specs.Answers.{StoreFinds}
use Rattle.mp_store.proofs.HomeChecks.{sound_in_force, none_found}
use Rattle.mp_store.proofs.checking.check_roots.Goals as goal

pub returns-in_err-map-clause-finds : goal.returns-in_err-map-clause-finds
returns-in_err-map-clause-finds g c = λ tells. λ sound.
    let file = g.D.Disk.seen c.args.disk.now in
    let generation = c.args.generation in
    let returned = err_from_is_err_and c.from_residual.result c.from_residual.ensures.1 in
    rw (returned.1, returned.2) (none_found PageView (Unit {0}) (page_fault_in_force generation 0 file) c.in_err-map.field-0.0 (roots_fault generation file)
    (sound_in_force generation 4096 0 file (omega arith) sound) (c.in_err-map.ensures.finds tells))

pub returns-in_err-root-clause-finds : goal.returns-in_err-root-clause-finds
returns-in_err-root-clause-finds g c = λ tells. λ sound.
    let file = g.D.Disk.seen c.args.disk.now in
    let generation = c.args.generation in
    let still : IsTrue (g.D.Disk.tells c.read_in_force.new.disk) = rw (c.in_ok-map.ensures.tells) tells in
    let found = subst (λ (s : List ℕ). StoreFinds {T = PageView} (page_fault_in_force generation 1 s) (Err c.in_err-root.field-0.0)) c.in_ok-map.ensures.quiet.same (c.in_err-root.ensures.finds still) in
    let returned = err_from_is_err_and c.from_residual-in_err-root.result c.from_residual-in_err-root.ensures.1 in
    rw (returned.1, returned.2) (none_found PageView (Unit {0}) (page_fault_in_force generation 1 file) c.in_err-root.field-0.0 (roots_fault generation file)
    (sound_in_force generation 4096 1 file (omega arith) sound) found)

pub returns-clause-cause : goal.returns-clause-cause
returns-clause-cause g c = λ long. c.found.ensures.cause _ _
