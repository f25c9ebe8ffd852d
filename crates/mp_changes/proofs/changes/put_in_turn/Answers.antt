use Rattle.std.proofs.Common.{◌≡◌, ◌+◌, Bool, Option, Some, None, refl, sym, ◌∙◌, subst, arith}
use Rattle.mp_desk.specs.declared.halts.WriteHalt.{WriteHalt}
use Rattle.mp_desk.specs.declared.halts.WriteHalt.TheVariants as halts
use Rattle.mp_desk.proofs.BackSteps.{rose_later}
use Rattle.mp_changes.specs.Changing.{HasPutInTurn, changed_text, with_put}
use Rattle.mp_changes.proofs.PutTries.{no_failure, disk_failed, still_stopped, stopped_so, wait_refused}
use Rattle.mp_changes.proofs.changes.put_in_turn.Goals as goal

-- it was put

pub leave_all-requires-clause-log : goal.leave_all-requires-clause-log
leave_all-requires-clause-log g c = c.in-Ok.ensures.open.0

pub leave_all-requires-clause-agrees : goal.leave_all-requires-clause-agrees
leave_all-requires-clause-agrees g c = c.in-Ok.ensures.open.1

pub returns-in-Ok-clause-put : goal.returns-in-Ok-clause-put
returns-in-Ok-clause-put g c = λ count made.
    subst (λ (b : Bool). HasPutInTurn c.leave_all.new.node c.args.p c.args.key (Some changed_text) (with_put b count))
    (sym c.leave_all.ensures.as_put) (c.leave_all.ensures.kept c.args.key (count + 1) (c.in-Ok.ensures.put count made))

pub returns-in-Ok-clause-may : goal.returns-in-Ok-clause-may
returns-in-Ok-clause-may g c = c.leave_all.ensures.may c.args.trx c.try_put.ensures.reads

pub returns-in-Ok-clause-all : goal.returns-in-Ok-clause-all
returns-in-Ok-clause-all g c = λ none. c.leave_all.ensures.as_put

pub returns-in-Ok-clause-cause : goal.returns-in-Ok-clause-cause
returns-in-Ok-clause-cause g c =
    stopped_so None _ c.leave_all.ensures.left c.args.p c.args.key c.args.trx c.leave_all.new.node tt

pub returns-in-Ok-clause-failed : goal.returns-in-Ok-clause-failed
returns-in-Ok-clause-failed g c = λ is.
    let both = disk_failed None _ c.leave_all.ensures.left no is in (
      both.0,
      rose_later (g.D.Disk.faults c.args.media.now.log.disk) (g.D.Disk.faults c.try_put.new.media.log.disk)
          (g.D.Disk.faults c.leave_all.new.media.log.disk) c.try_put.ensures.counted both.1,
    )
  where
    no : ¬ (◌≡◌ {A = Option WriteHalt} None (Some halts.Failed))
    no bad = absurd (cc)

pub returns-in-Ok-clause-counted : goal.returns-in-Ok-clause-counted
returns-in-Ok-clause-counted g c =
    let first = c.try_put.ensures.counted in let second = c.leave_all.ensures.counted in omega (arith, first, second)

-- it was refused for something else than a page

pub returns-then-not-is_wait-clause-put : goal.returns-then-not-is_wait-clause-put
returns-then-not-is_wait-clause-put g c = c.in-Err.ensures.kept

pub returns-then-not-is_wait-clause-cause : goal.returns-then-not-is_wait-clause-cause
returns-then-not-is_wait-clause-cause g c = (c.args.trx, c.args.node.now, c.in-Err.ensures.cause)

-- a page couldn't be had

pub leave_all-requires-in-Err-clause-log : goal.leave_all-requires-in-Err-clause-log
leave_all-requires-in-Err-clause-log g c = (c.in-Err.ensures.still (sym c.is_wait.ensures ∙ c.if-not-is_wait.false)).0

pub leave_all-requires-in-Err-clause-agrees : goal.leave_all-requires-in-Err-clause-agrees
leave_all-requires-in-Err-clause-agrees g c = (c.in-Err.ensures.still (sym c.is_wait.ensures ∙ c.if-not-is_wait.false)).1

pub returns-else-not-is_wait-clause-put : goal.returns-else-not-is_wait-clause-put
returns-else-not-is_wait-clause-put g c = λ count made.
    subst (λ (b : Bool). HasPutInTurn c.leave_all-in-Err.new.node c.args.p c.args.key (Some changed_text) (with_put b count))
    (sym c.leave_all-in-Err.ensures.as_put) (c.leave_all-in-Err.ensures.kept c.args.key count (c.in-Err.ensures.kept count made))

pub returns-else-not-is_wait-clause-may : goal.returns-else-not-is_wait-clause-may
returns-else-not-is_wait-clause-may g c = c.leave_all-in-Err.ensures.may c.args.trx c.try_put.ensures.reads

pub returns-else-not-is_wait-clause-all : goal.returns-else-not-is_wait-clause-all
returns-else-not-is_wait-clause-all g c = λ none.
    absurd (still_stopped (Some c.in-Err.halt) _ c.leave_all-in-Err.ensures.left c.in-Err.halt refl none)

pub returns-else-not-is_wait-clause-cause : goal.returns-else-not-is_wait-clause-cause
returns-else-not-is_wait-clause-cause g c =
    stopped_so (Some c.in-Err.halt) _ c.leave_all-in-Err.ensures.left c.args.p c.args.key c.args.trx c.leave_all-in-Err.new.node
    (wait_refused c.args.p c.args.key c.args.trx c.args.node.now c.try_put.new.node c.leave_all-in-Err.new.node c.in-Err.halt
    (sym c.is_wait.ensures ∙ c.if-not-is_wait.false) c.in-Err.ensures.cause c.leave_all-in-Err.ensures.goes)

pub returns-else-not-is_wait-clause-failed : goal.returns-else-not-is_wait-clause-failed
returns-else-not-is_wait-clause-failed g c = λ is.
    let both = disk_failed (Some c.in-Err.halt) _ c.leave_all-in-Err.ensures.left
    (no_failure c.in-Err.halt (sym c.is_wait.ensures ∙ c.if-not-is_wait.false)) is in (
      both.0,
      rose_later (g.D.Disk.faults c.args.media.now.log.disk) (g.D.Disk.faults c.try_put.new.media.log.disk)
          (g.D.Disk.faults c.leave_all-in-Err.new.media.log.disk) c.try_put.ensures.counted both.1,
    )

pub returns-else-not-is_wait-clause-counted : goal.returns-else-not-is_wait-clause-counted
returns-else-not-is_wait-clause-counted g c =
    let first = c.try_put.ensures.counted in let second = c.leave_all-in-Err.ensures.counted in omega (arith, first, second)
