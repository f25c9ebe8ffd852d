use Rattle.std.proofs.Common.{max, refl, ap, ◌∙◌}
use Rattle.std.proofs.lemmas.Option.{slice_get_within}
use Rattle.mp_cells.specs.PageView.{PageView}
use Rattle.mp_desk.proofs.Fetched.{brought, missed, missed_frame, fetched_still}
use Rattle.mp_desk.proofs.desk.Desk.bring.Goals as goal

pub returns-in-Err-clause-desk : goal.returns-in-Err-clause-desk
returns-in-Err-clause-desk g c =
    (missed c.args.shared.now c.args.p c.args.number c.args.self.now (record c.args.self.now { pool = c.fetch.new.self }) c.args.node.now c.fetch.new.node c.requires.desk c.fetch.ensures.reached c.fetch.ensures.node.0 c.fetch.ensures.node.1 c.fetch.ensures.agrees refl
    c.args.steps.now c.fetch.new.steps c.in-Err.wait c.in-Err.ensures.fetched refl).at_desk

pub returns-in-Err-clause-brings : goal.returns-in-Err-clause-brings
returns-in-Err-clause-brings g c =
    (missed c.args.shared.now c.args.p c.args.number c.args.self.now (record c.args.self.now { pool = c.fetch.new.self }) c.args.node.now c.fetch.new.node c.requires.desk c.fetch.ensures.reached c.fetch.ensures.node.0 c.fetch.ensures.node.1 c.fetch.ensures.agrees refl
    c.args.steps.now c.fetch.new.steps c.in-Err.wait c.in-Err.ensures.fetched refl).brings

pub returns-in-Err-clause-locks : goal.returns-in-Err-clause-locks
returns-in-Err-clause-locks g c =
    (missed c.args.shared.now c.args.p c.args.number c.args.self.now (record c.args.self.now { pool = c.fetch.new.self }) c.args.node.now c.fetch.new.node c.requires.desk c.fetch.ensures.reached c.fetch.ensures.node.0 c.fetch.ensures.node.1 c.fetch.ensures.agrees refl
    c.args.steps.now c.fetch.new.steps c.in-Err.wait c.in-Err.ensures.fetched refl).locks

pub returns-in-Err-clause-cause : goal.returns-in-Err-clause-cause
returns-in-Err-clause-cause g c = missed_frame c.args.p c.args.number c.args.self.now.pool c.fetch.new.self c.args.node.now c.fetch.new.node c.args.steps.now c.fetch.new.steps c.in-Err.wait c.in-Err.ensures.fetched

pub at-requires : goal.at-requires
at-requires g c = slice_get_within c.fetch.new.self c.in-Ok.i c.in-Ok.ensures.fetched.0 c.in-Ok.ensures.fetched.1.0

pub returns-clause-desk : goal.returns-clause-desk
returns-clause-desk g c =
    (brought c.args.shared.now c.args.p c.args.number c.args.self.now (record c.args.self.now { pool = c.fetch.new.self; llsn = c.max-self.result }) c.args.node.now c.fetch.new.node c.requires.desk c.fetch.ensures.reached c.fetch.ensures.node.0 c.fetch.ensures.node.1 c.fetch.ensures.agrees refl
    c.in-Ok.i c.args.steps.now c.fetch.new.steps c.at.ensures.0 c.at.ensures.1 c.in-Ok.ensures.fetched (c.max-self.ensures ∙ ap (max c.args.self.now.llsn) (c.llsn.ensures.value ∙ ap (λ (y : PageView). y.llsn) c.at.ensures.2))).at_desk

pub returns-clause-brings : goal.returns-clause-brings
returns-clause-brings g c =
    (brought c.args.shared.now c.args.p c.args.number c.args.self.now (record c.args.self.now { pool = c.fetch.new.self; llsn = c.max-self.result }) c.args.node.now c.fetch.new.node c.requires.desk c.fetch.ensures.reached c.fetch.ensures.node.0 c.fetch.ensures.node.1 c.fetch.ensures.agrees refl
    c.in-Ok.i c.args.steps.now c.fetch.new.steps c.at.ensures.0 c.at.ensures.1 c.in-Ok.ensures.fetched (c.max-self.ensures ∙ ap (max c.args.self.now.llsn) (c.llsn.ensures.value ∙ ap (λ (y : PageView). y.llsn) c.at.ensures.2))).brings

pub returns-clause-locks : goal.returns-clause-locks
returns-clause-locks g c =
    (brought c.args.shared.now c.args.p c.args.number c.args.self.now (record c.args.self.now { pool = c.fetch.new.self; llsn = c.max-self.result }) c.args.node.now c.fetch.new.node c.requires.desk c.fetch.ensures.reached c.fetch.ensures.node.0 c.fetch.ensures.node.1 c.fetch.ensures.agrees refl
    c.in-Ok.i c.args.steps.now c.fetch.new.steps c.at.ensures.0 c.at.ensures.1 c.in-Ok.ensures.fetched (c.max-self.ensures ∙ ap (max c.args.self.now.llsn) (c.llsn.ensures.value ∙ ap (λ (y : PageView). y.llsn) c.at.ensures.2))).locks

pub returns-in-Err-clause-still : goal.returns-in-Err-clause-still
returns-in-Err-clause-still g c = λ buffered. absurd (buffered c.in-Err.ensures.fetched.lacks)

pub returns-clause-still : goal.returns-clause-still
returns-clause-still g c = fetched_still c.args.p c.args.number c.args.self.now.pool c.fetch.new.self c.args.node.now c.fetch.new.node c.args.steps.now c.fetch.new.steps c.in-Ok.i c.in-Ok.ensures.fetched
