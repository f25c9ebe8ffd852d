-- The logs were made first, then the store.
use Rattle.mp_commands.proofs.MadeLogs.{all_made}
use Rattle.mp_commands.proofs.making.init.Goals as goal

pub returns-in-Ok-clause-made : goal.returns-in-Ok-clause-made
returns-in-Ok-clause-made g c = record {
  count = c.in_ok-make_logs.ensures.count;
  store = λ tells. (c.in-Ok.ensures.fresh tells, c.in-Ok.ensures.safe tells);
  logs = all_made g.D.Disk c.args.disks.now.logs.items c.make_logs.new.logs.items c.in_ok-make_logs.ensures.made;
}
