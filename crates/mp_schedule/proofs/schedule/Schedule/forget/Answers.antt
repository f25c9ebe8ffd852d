-- Behind the call no try waits, and those in front are over as before.
use Rattle.std.proofs.Common.{◌∙◌, length, sym, ap, subst, arith}
use Rattle.std.proofs.lemmas.List.{length-map}
use Rattle.mp_schedule.specs.Schedules.{without_mark, AreOverBelow, NoneWaitsFrom}
use Rattle.mp_schedule.proofs.Marks.{forgotten_over, forgotten_unmarked}
use Rattle.mp_schedule.proofs.schedule.Schedule.forget.Goals as goal

pub invariant_of-self : goal.invariant_of-self
invariant_of-self c =
    let old = c.args.self.now.tries.items in
    let count = ap length c.forget_within.ensures ∙ length-map old without_mark in
    record {
      first_within = omega (arith, count, c.args.self.now.first_within);
      end_within = omega arith;
      over = subst (AreOverBelow c.args.self.now.first) (sym c.forget_within.ensures) (forgotten_over old c.args.self.now.first c.args.self.now.over);
      unmarked = subst (NoneWaitsFrom 0) (sym c.forget_within.ensures) (forgotten_unmarked old);
    }
