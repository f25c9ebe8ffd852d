use Rattle.std.proofs.Common.{ap, refl}
use Rattle.mp_script.specs.declared.statements.Script.{Script}
use Rattle.mp_core_trx.specs.declared.opening.Base.{Base}
use Rattle.mp_book.specs.Books.{own_lines}
use Rattle.mp_supports.specs.Work.{Work}
use Rattle.mp_primary.proofs.FirstPrimary.{first_agrees_by, first_own, first_may}
use Rattle.mp_primary.proofs.primary.Primary.new.Goals as goal

-- the work of a script over a base
abbrev work_by : Script → Base → Work
work_by script base = record { lines = script.lines.items; sessions = script.sessions.items; base = base }

pub returns-clause-agrees : goal.returns-clause-agrees
returns-clause-agrees g c = λ run node base begins.
    first_agrees_by g.D.Disk _ (work_by c.args.script.now c.args.base) (ap (λ (script : Script). work_by script c.args.base) c.of.ensures) (own_lines c.args.script.now.lines.items c.args.script.now.sessions.items c.args.number) c.in-Ok-new.ensures.starts c.in-Ok-new.ensures.none c.requires.few
    c.in-Ok-new-2.ensures.1 c.in-Ok-new-2.ensures.2 c.requires.log refl run node base begins

pub returns-clause-told : goal.returns-clause-told
returns-clause-told g c = λ run node. first_own c.args.number run node

pub returns-clause-sessions : goal.returns-clause-sessions
returns-clause-sessions g c = λ number below.
    first_may _ (own_lines c.args.script.now.lines.items c.args.script.now.sessions.items c.args.number) c.in-Ok-new.ensures.starts c.in-Ok-new.ensures.book.whole number below
