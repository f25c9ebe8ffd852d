-- What the run answered is printed.
use Rattle.mp_app.proofs.Bytes.{run_done, run_refused}
use Rattle.mp_app.proofs.session.answer_script.Goals as goal

pub returns-in-Ok-clause-says : goal.returns-in-Ok-clause-says
returns-in-Ok-clause-says g c =
    let run = c.in-Ok.ensures in
    run_done g.D.Disk c.args.mode c.args.number c.args.script.now c.args.disks.now c.run_script.new.disks c.in-Ok.transcript c.print_all.result run.finds run.legal run.readable run.mode run.downs run.left c.print_all.ensures

pub returns-in-Err-clause-says : goal.returns-in-Err-clause-says
returns-in-Err-clause-says g c =
    let run = c.in-Err.ensures in
    run_refused g.D.Disk c.args.mode c.args.number c.args.script.now c.args.disks.now c.run_script.new.disks c.in-Err.refusal c.run_refusal.result run.finds run.untouched run.cause c.run_refusal.ensures
