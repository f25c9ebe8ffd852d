use Rattle.std.proofs.Common.{Bool, Some, subst, arith}
use Rattle.mp_desk.proofs.BackSteps.{rose_later}
use Rattle.mp_changes.specs.Changing.{HasPutInTurn, changed_text, with_put}
use Rattle.mp_changes.proofs.changes.put_at_last.Goals as goal

pub loop-init : goal.loop-init
loop-init g c = record { may = c.requires.may; put = λ count put. put; counted = omega arith }

pub put_in_turn-tried-requires-clause-few : goal.put_in_turn-tried-requires-clause-few
put_in_turn-tried-requires-clause-few g c =
    (c.requires.few.0, c.loop.invariant.put c.requires.few.0 c.requires.few.1, c.requires.few.2)

-- a try that was over

pub returns-then-not-is_missed-clause-put : goal.returns-then-not-is_missed-clause-put
returns-then-not-is_missed-clause-put g c = λ count put. c.put_in_turn-tried.ensures.put count (c.loop.invariant.put count put)

pub returns-then-not-is_missed-clause-failed : goal.returns-then-not-is_missed-clause-failed
returns-then-not-is_missed-clause-failed g c = λ is.
    let both = c.put_in_turn-tried.ensures.failed is in (
      both.0,
      rose_later (g.D.Disk.faults c.args.media.now.log.disk) (g.D.Disk.faults c.loop.media.log.disk)
          (g.D.Disk.faults c.put_in_turn-tried.new.media.log.disk) c.loop.invariant.counted both.1,
    )

pub returns-then-not-is_missed-clause-counted : goal.returns-then-not-is_missed-clause-counted
returns-then-not-is_missed-clause-counted g c =
    let first = c.loop.invariant.counted in let second = c.put_in_turn-tried.ensures.counted in omega (arith, first, second)

-- one that missed a page

pub loop-preserved : goal.loop-preserved
loop-preserved g c =
    let missed = c.is_missed.ensures c.if-not-is_missed.false in
    let first = c.loop.invariant.counted in
    let second = c.put_in_turn-tried.ensures.counted in
    record {
      may = c.put_in_turn-tried.ensures.may missed.1;
      put = λ count put. subst
          (λ (b : Bool). HasPutInTurn c.put_in_turn-tried.new.node c.args.p c.args.key (Some changed_text) (with_put b count)) missed.0
          (c.put_in_turn-tried.ensures.put count (c.loop.invariant.put count put));
      counted = omega (arith, first, second);
    }

-- the last one

pub put_in_turn-requires-clause-few : goal.put_in_turn-requires-clause-few
put_in_turn-requires-clause-few g c =
    (c.requires.few.0, c.loop.invariant.put c.requires.few.0 c.requires.few.1, c.requires.few.2)

pub returns-clause-put : goal.returns-clause-put
returns-clause-put g c = λ count put. c.put_in_turn.ensures.put count (c.loop.invariant.put count put)

pub returns-clause-failed : goal.returns-clause-failed
returns-clause-failed g c = λ is.
    let both = c.put_in_turn.ensures.failed is in (
      both.0,
      rose_later (g.D.Disk.faults c.args.media.now.log.disk) (g.D.Disk.faults c.loop.media.log.disk)
          (g.D.Disk.faults c.put_in_turn.new.media.log.disk) c.loop.invariant.counted both.1,
    )

pub returns-clause-counted : goal.returns-clause-counted
returns-clause-counted g c =
    let first = c.loop.invariant.counted in let second = c.put_in_turn.ensures.counted in omega (arith, first, second)
