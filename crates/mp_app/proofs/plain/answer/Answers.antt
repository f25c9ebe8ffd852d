-- Where the logs alone were read, all nine disks are still there.
use Rattle.std.proofs.Common.{refl}
use Rattle.mp_files.proofs.Nines.{KeptNine-logs, KeptNine-still}
use Rattle.mp_app.proofs.plain.answer.Goals as goal

pub returns-in-Logs-clause-nine : goal.returns-in-Logs-clause-nine
returns-in-Logs-clause-nine g c = KeptNine-still g.D.Disk c.args.disks.now _ (KeptNine-logs g.D.Disk c.args.disks.now (record { store = c.args.disks.now.store; logs = c.answer_logs.new.logs }) c.answer_logs.ensures.kept refl)
