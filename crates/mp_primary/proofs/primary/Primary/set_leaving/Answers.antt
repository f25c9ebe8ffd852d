use Rattle.std.proofs.Common.{◌≡◌, Some, refl, sym, ap, ◌∙◌}
use Rattle.mp_book.specs.declared.session.Session.{Session}
use Rattle.mp_primary.specs.Primaries.{PrimaryView}
use Rattle.mp_primary.proofs.TakenBack.{read_session, leave_asked, leaving_already, leaving_there, leaving_quietly, still_quietly}
use Rattle.mp_primary.proofs.primary.Primary.set_leaving.Goals as goal

pub leave-requires : goal.leave-requires
leave-requires g c =
    let session = c.requires.session in
    leave_asked g.D.Disk _ c.args.self.now c.self.view_is c.args.number session.0 session.1 c.args.trx session.2 session.3 c.in-Open.field-0 (sym (ap (λ (v : Session). v.stage) (read_session _ c.args.self.now c.self.view_is c.args.number session.0 session.1 c.index.result.now c.index.ensures)) ∙ c.in-Open.is)

pub returns-in-Open-clause-quiet : goal.returns-in-Open-clause-quiet
returns-in-Open-clause-quiet g c = λ run n stands.
    let session = c.requires.session in
    leaving_quietly g.D.Disk _ c.args.self.now c.self.view_is c.args.number session.0 session.1 c.args.trx session.2 session.3 c.leave.new.self c.leave.ensures.set run n stands (c.leave.ensures.book _ _ _)

pub returns-in-Open-clause-leaving : goal.returns-in-Open-clause-leaving
returns-in-Open-clause-leaving g c =
    let session = c.requires.session in
    leaving_there g.D.Disk _ c.args.self.now c.self.view_is c.args.number session.0 session.1 c.args.trx session.2 session.3 c.leave.new.self c.leave.ensures.set

pub returns-in-Open-clause-down : goal.returns-in-Open-clause-down
returns-in-Open-clause-down g c = ap (λ (v : PrimaryView g.row.D.Denot). v.down) c.self.view_is

pub returns-in_default-clause-quiet : goal.returns-in_default-clause-quiet
returns-in_default-clause-quiet g c = λ run n stands. still_quietly g.D.Disk run c.args.self.now n c.args.number stands

pub returns-in_default-clause-leaving : goal.returns-in_default-clause-leaving
returns-in_default-clause-leaving g c =
    let session = c.requires.session in
    leaving_already g.D.Disk _ c.args.self.now c.self.view_is c.args.number session.0 session.1 c.args.trx session.2 session.3 (λ b is. c.in_default.not-Open b (ap (λ (v : Session). v.stage) (read_session _ c.args.self.now c.self.view_is c.args.number session.0 session.1 c.index.result.now c.index.ensures) ∙ is))

pub returns-in_default-clause-down : goal.returns-in_default-clause-down
returns-in_default-clause-down g c = refl
