use Rattle.std.proofs.Common.{refl, ◌∙◌, inl}
use Rattle.mp_book.specs.declared.stage.Stage.TheVariants.{Leaving}
use Rattle.mp_primary.proofs.StillInTurns.{stage_in, leaving_in}
use Rattle.mp_primary.proofs.QuietlyOn.{quiet_both}
use Rattle.mp_primary.proofs.BackEnds.{leaving_back, counted_there, counted_may}
use Rattle.mp_primary.proofs.TakenBack.{read_trx, unprinted_line, skipping_left, skipped_ends, open_or_leaving, leaving_ends, leaves_from}
use Rattle.mp_primary.proofs.primary.Primary.leave_now.Goals as goal

pub close-requires : goal.close-requires
close-requires g c = record { left = (c.requires.session.session, c.requires.session.found, unprinted_line c.requires.session.session c.requires.session.task, inl (skipping_left c.requires.session.session c.requires.session.task (read_trx _ c.args.self.now c.self.view_is c.args.number c.requires.session.session c.requires.session.found c.index.result.now c.index.ensures c.trx_at.result c.trx_at.ensures ∙ c.in_default.is))) }

pub returns-in_default : goal.returns-in_default
returns-in_default g c =
    skipped_ends g.D.Disk c.args.shared.now c.args.self.now c.args.node.now c.args.number c.requires.stands c.requires.up c.requires.session.session c.requires.session.found c.requires.session.task (skipping_left c.requires.session.session c.requires.session.task (read_trx _ c.args.self.now c.self.view_is c.args.number c.requires.session.session c.requires.session.found c.index.result.now c.index.ensures c.trx_at.result c.trx_at.ensures ∙ c.in_default.is))
    c.close.new.self c.close.ensures.rest (c.close.ensures.closed c.requires.session.session c.requires.session.found) (c.close.ensures.book _ _ _ c.requires.stands.primary.book)

pub set_leaving-requires : goal.set_leaving-requires
set_leaving-requires g c = record { session = (c.requires.session.session, c.requires.session.found, open_or_leaving g.D.Disk c.args.shared.now c.args.self.now c.args.node.now c.args.number c.requires.stands c.requires.up c.requires.session.session c.requires.session.found c.requires.session.task c.in-Some.trx (read_trx _ c.args.self.now c.self.view_is c.args.number c.requires.session.session c.requires.session.found c.index.result.now c.index.ensures c.trx_at.result c.trx_at.ensures ∙ c.in-Some.is), unprinted_line c.requires.session.session c.requires.session.task) }

pub go_back-requires-clause-stands : goal.go_back-requires-clause-stands
go_back-requires-clause-stands g c = (c.set_leaving.ensures.quiet c.args.shared.now c.args.node.now c.requires.stands).stands

pub go_back-requires-clause-up : goal.go_back-requires-clause-up
go_back-requires-clause-up g c = c.set_leaving.ensures.down ∙ c.requires.up

pub go_back-requires-clause-back : goal.go_back-requires-clause-back
go_back-requires-clause-back g c =
    let t = ((c.set_leaving.ensures.quiet c.args.shared.now c.args.node.now c.requires.stands).same c.requires.session.session c.requires.session.found) in
    (t.0, c.in-Some.trx, leaving_back g.D.Disk c.args.shared.now c.set_leaving.new.self c.args.node.now c.args.number (c.set_leaving.ensures.quiet c.args.shared.now c.args.node.now c.requires.stands).stands (c.set_leaving.ensures.down ∙ c.requires.up) t.0 c.in-Some.trx t.1 (c.set_leaving.ensures.leaving t.0 t.1).0, refl)

pub end_back-requires-clause-stands : goal.end_back-requires-clause-stands
end_back-requires-clause-stands g c = c.go_back.ensures.quiet.stands

pub end_back-requires-clause-leaving : goal.end_back-requires-clause-leaving
end_back-requires-clause-leaving g c =
    let t = ((c.set_leaving.ensures.quiet c.args.shared.now c.args.node.now c.requires.stands).same c.requires.session.session c.requires.session.found) in
    let leaving = c.set_leaving.ensures.leaving t.0 t.1 in
    (record (t.0) { restored = c.go_back.ensures.counts.0 }, counted_there c.set_leaving.new.self c.go_back.new.self c.args.number t.0 t.1 c.go_back.ensures.counts, leaving.0, leaving.1)

pub returns-in-Ok : goal.returns-in-Ok
returns-in-Ok g c =
    leaving_ends g.D.Disk c.args.shared.now c.args.self.now c.go_back.new.self c.args.node.now c.go_back.new.node c.args.number c.requires.session.session c.requires.stands c.requires.session.found c.requires.session.task
    (quiet_both g.D.Disk c.args.shared.now c.args.self.now c.set_leaving.new.self c.go_back.new.self c.args.node.now c.args.node.now c.go_back.new.node c.args.number (c.set_leaving.ensures.quiet c.args.shared.now c.args.node.now c.requires.stands) c.go_back.ensures.quiet) c.end_back.new.self c.end_back.new.node c.end_back.ensures

pub returns-in-Err : goal.returns-in-Err
returns-in-Err g c =
    let t = ((c.set_leaving.ensures.quiet c.args.shared.now c.args.node.now c.requires.stands).same c.requires.session.session c.requires.session.found) in
    let leaving = c.set_leaving.ensures.leaving t.0 t.1 in
    c.halt_leaving.ensures c.args.shared.now c.args.self.now c.args.node.now c.go_back.new.node c.args.number c.requires.session.session
    (record { stands = c.requires.stands; found = c.requires.session.found; task = c.requires.session.task; quiet = (quiet_both g.D.Disk c.args.shared.now c.args.self.now c.set_leaving.new.self c.go_back.new.self c.args.node.now c.args.node.now c.go_back.new.node c.args.number (c.set_leaving.ensures.quiet c.args.shared.now c.args.node.now c.requires.stands) c.go_back.ensures.quiet); may_go_on = counted_may c.set_leaving.new.self c.go_back.new.self c.args.number t.0 t.1 c.go_back.ensures.counts (stage_in (t.0).stage (Leaving c.in-Some.trx) leaving.0 (leaving_in c.in-Some.trx)); left = leaves_from g.D.Disk c.args.shared.now c.args.self.now c.set_leaving.new.self c.go_back.new.self c.args.node.now c.go_back.new.node c.args.number (c.set_leaving.ensures.quiet c.args.shared.now c.args.node.now c.requires.stands) c.in-Err.halt c.in-Err.ensures.cause })
