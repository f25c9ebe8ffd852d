-- Of what is left the first mtr is given.
use Rattle.std.proofs.Common.{Bool, Ok, subst}
use Rattle.mp_log.specs.Readers.{Fills}
use Rattle.mp_log.proofs.Given.{takes, not_taken}
use Rattle.mp_log.proofs.readers.Reader.advance.Goals as goal

pub returns-in-Ok-clause-exact : goal.returns-in-Ok-clause-exact
returns-in-Ok-clause-exact g c = λ mtrs fault tells remains.
    let file = g.D.Disk.seen c.args.disk.now in
    let found = subst (λ (some : Bool). Fills file mtrs fault c.fill.new.self (Ok some)) c.in-Ok-true.field-0-test (c.in-Ok-true.ensures.exact mtrs fault tells remains) in
    takes file mtrs fault c.fill.new.self c.take.new.self c.in-Ok.mtr found.0 found.1 c.in-Ok.ensures.place c.in-Ok.ensures.state c.in-Ok.ensures.mtr

pub returns-in-Err-take-clause-exact : goal.returns-in-Err-take-clause-exact
returns-in-Err-take-clause-exact g c = λ mtrs fault tells remains.
    let file = g.D.Disk.seen c.args.disk.now in
    let found = subst (λ (some : Bool). Fills file mtrs fault c.fill.new.self (Ok some)) c.in-Ok-true.field-0-test (c.in-Ok-true.ensures.exact mtrs fault tells remains) in
    not_taken file mtrs fault c.fill.new.self c.take.new.self c.in-Err-take.refusal found.0 found.1 c.in-Err-take.ensures.mtr

pub returns-in-Ok-false-clause-exact : goal.returns-in-Ok-false-clause-exact
returns-in-Ok-false-clause-exact g c = λ mtrs fault tells remains.
    let file = g.D.Disk.seen c.args.disk.now in
    subst (λ (some : Bool). Fills file mtrs fault c.fill.new.self (Ok some)) c.in-Ok-false.field-0-test (c.in-Ok-false.ensures.exact mtrs fault tells remains)
