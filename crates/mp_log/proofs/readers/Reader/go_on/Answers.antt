-- What comes in place of an mtr is kept.
use Rattle.std.proofs.Common.{Option, Ok, refl, subst}
use Rattle.mp_cells.specs.declared.records.Mtr.{Mtr}
use Rattle.mp_log.specs.declared.readers.State.TheVariants.{Refused}
use Rattle.mp_log.specs.Readers.{Advances}
use Rattle.mp_log.proofs.Given.{refused_so}
use Rattle.mp_log.proofs.readers.Reader.go_on.Goals as goal

pub returns-in-Ok-Some-clause-gives : goal.returns-in-Ok-Some-clause-gives
returns-in-Ok-Some-clause-gives g c = λ mtrs fault tells remains.
    subst (λ (found : Option Mtr). Advances (g.D.Disk.seen c.args.disk.now) mtrs fault c.advance.new.self (Ok found)) c.in-Ok-Some.field-0-is (c.in-Ok-Some.ensures.exact mtrs fault tells remains)

pub returns-in-Ok-None-clause-gives : goal.returns-in-Ok-None-clause-gives
returns-in-Ok-None-clause-gives g c = λ mtrs fault tells remains.
    let end = subst (λ (found : Option Mtr). Advances (g.D.Disk.seen c.args.disk.now) mtrs fault c.advance.new.self (Ok found)) c.in-Ok-None.field-0-is (c.in-Ok-None.ensures.exact mtrs fault tells remains) in
    (end.0, end.1, refl)

pub returns-in-Err-clause-gives : goal.returns-in-Err-clause-gives
returns-in-Err-clause-gives g c = λ mtrs fault tells remains.
    refused_so (g.D.Disk.seen c.args.disk.now) mtrs fault c.advance.new.self (record { place = c.self.inside.place; bytes = c.self.inside.batch; state = Refused c.in-Err.refusal }) c.in-Err.refusal (c.in-Err.ensures.exact mtrs fault tells remains) refl
