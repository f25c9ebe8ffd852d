-- One log more.
use Rattle.std.proofs.Common.{◌∙◌, sym, refl}
use Rattle.mp_files.specs.Nine.{At, RoseAt}
use Rattle.mp_commands.specs.Fresh.{MadeLog}
use Rattle.mp_commands.proofs.MadeLogs.{none_made, one_made, one_still, one_failed, all_still, done, refused}
use Rattle.mp_commands.proofs.making.make_logs.Goals as goal

pub loop-before-init : goal.loop-before-init
loop-before-init g c = record { made_so_far = none_made g.D.Disk c.args.logs.now.items; still = all_still g.D.Disk c.args.logs.now.items }

pub loop-before-preserved : goal.loop-before-preserved
loop-before-preserved g c =
    let disk = g.D.Disk in
    let old = c.args.logs.now.items in
    let mid = c.loop-before.logs.items in
    let new = c.make_log.new.logs.items in
    let so_far = c.loop-before.invariant in record {
      made_so_far = one_made disk c.loop-before.before old mid new so_far.made_so_far c.make_log.ensures.count c.make_log.ensures.others
          (done c.make_log.result (At (MadeLog disk) mid new c.loop-before.before) (sym c.is_err.ensures.value ∙ c.if-is_err.false) c.make_log.ensures.made);
      still = one_still disk c.loop-before.before old mid new so_far.made_so_far so_far.still c.make_log.ensures.others c.make_log.ensures.still;
    }

pub returns-then-is_err-clause-still : goal.returns-then-is_err-clause-still
returns-then-is_err-clause-still g c =
    let so_far = c.loop-before.invariant in
    one_still g.D.Disk c.loop-before.before c.args.logs.now.items c.loop-before.logs.items c.make_log.new.logs.items so_far.made_so_far so_far.still c.make_log.ensures.others c.make_log.ensures.still

pub returns-then-is_err-clause-cause : goal.returns-then-is_err-clause-cause
returns-then-is_err-clause-cause g c =
    let disk = g.D.Disk in
    let mid = c.loop-before.logs.items in
    let new = c.make_log.new.logs.items in
    let rose = refused c.make_log.result (RoseAt disk c.loop-before.before mid new) (sym c.is_err.ensures.value ∙ c.if-is_err.true) c.make_log.ensures.cause in
    (c.loop-before.before, refl, one_failed disk c.loop-before.before c.args.logs.now.items mid new c.loop-before.invariant.made_so_far rose)
