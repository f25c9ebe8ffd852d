use Rattle.std.proofs.Common.{Bool, Some, sym, ap, ◌∙◌, subst, arith}
use Rattle.mp_desk.proofs.BackSteps.{rose_later}
use Rattle.mp_changes.specs.Changing.{HasPutInTurn, changed_text, may_retry, with_put}
use Rattle.mp_changes.proofs.PutTries.{with_put_most}
use Rattle.mp_changes.proofs.changes.change_in_turn.Goals as goal

pub loop-turn-init : goal.loop-turn-init
loop-turn-init g c = record { may = c.requires.may; put = c.requires.none; counted = omega arith }

pub put_at_last-tried-requires-clause-few : goal.put_at_last-tried-requires-clause-few
put_at_last-tried-requires-clause-few g c =
    let below = c.loop-turn-test.true in
    let few = c.requires.few in
    (c.loop-turn.turn, c.loop-turn.invariant.put, omega (arith, below, few))

-- a turn that was the last

pub returns-in-Some-clause-most : goal.returns-in-Some-clause-most
returns-in-Some-clause-most g c =
    let below = c.loop-turn-test.true in
    let most = with_put_most c.put_at_last-tried.result.put c.loop-turn.turn in
    let is = c.done_after.ensures in
    omega (arith, below, most, is)

pub returns-in-Some-clause-put : goal.returns-in-Some-clause-put
returns-in-Some-clause-put g c =
    subst (λ done. HasPutInTurn c.put_at_last-tried.new.node c.args.p c.args.key (Some changed_text) done) (sym c.done_after.ensures)
    (c.put_at_last-tried.ensures.put c.loop-turn.turn c.loop-turn.invariant.put)

pub returns-in-Some-clause-all : goal.returns-in-Some-clause-all
returns-in-Some-clause-all g c = λ none. let bad = sym none ∙ c.in-Some.is in absurd (cc)

pub returns-in-Some-clause-failed : goal.returns-in-Some-clause-failed
returns-in-Some-clause-failed g c = λ is.
    let both = c.put_at_last-tried.ensures.failed is in (
      both.0,
      rose_later (g.D.Disk.faults c.args.media.now.log.disk) (g.D.Disk.faults c.loop-turn.media.log.disk)
          (g.D.Disk.faults c.put_at_last-tried.new.media.log.disk) c.loop-turn.invariant.counted both.1,
    )

pub returns-in-Some-clause-counted : goal.returns-in-Some-clause-counted
returns-in-Some-clause-counted g c =
    let first = c.loop-turn.invariant.counted in let second = c.put_at_last-tried.ensures.counted in omega (arith, first, second)

-- and one behind which it goes on

pub loop-turn-preserved : goal.loop-turn-preserved
loop-turn-preserved g c =
    let turn = c.put_at_last-tried.ensures in
    let none = c.in-None.is in
    let first = c.loop-turn.invariant.counted in
    let second = turn.counted in
    record {
      may = turn.may (ap may_retry none);
      put = subst (λ (b : Bool). HasPutInTurn c.put_at_last-tried.new.node c.args.p c.args.key (Some changed_text) (with_put b c.loop-turn.turn))
          (turn.all none) (turn.put c.loop-turn.turn c.loop-turn.invariant.put);
      counted = omega (arith, first, second);
    }

pub returns-clause-put : goal.returns-clause-put
returns-clause-put g c =
    let past = c.loop-turn-test.false in
    let end = c.loop-turn.auto.turn-end in
    subst (λ done. HasPutInTurn c.loop-turn.node c.args.p c.args.key (Some changed_text) done) (omega (arith, past, end))
    c.loop-turn.invariant.put
