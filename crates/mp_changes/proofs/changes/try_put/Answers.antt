use Rattle.std.proofs.Common.{ℕ, ◌+◌, List, Option, Some, subst}
use Rattle.mp_desk_tests.proofs.FirstParts.{afresh_empty}
use Rattle.mp_desk_tests.proofs.OneWrite.{put_agrees}
use Rattle.mp_changes.proofs.PutTries.{few_put, reads_put, reads_missed, put_once_more, put_missed, open_still, agrees_still, not_failed}
use Rattle.mp_changes.specs.Changing.{HasPutInTurn, changed_text}
use Rattle.mp_changes.proofs.changes.try_put.Goals as goal

pub put-requires-clause-afresh : goal.put-requires-clause-afresh
put-requires-clause-afresh g c = afresh_empty c.args.node.now c.args.p c.args.desk.now c.requires.may.empty

pub put-requires-clause-few : goal.put-requires-clause-few
put-requires-clause-few g c =
    few_put c.args.node.now c.args.p c.args.key (Some changed_text) c.requires.few.0 c.requires.few.1 c.requires.few.2

-- it was put

pub returns-in-Ok-clause-reads : goal.returns-in-Ok-clause-reads
returns-in-Ok-clause-reads g c =
    reads_put c.args.p c.args.node.now c.put.new.node c.requires.may.at_desk.part c.args.trx _ _ c.in-Ok._former c.in-Ok.ensures.wrote
    c.requires.may.reads

pub returns-in-Ok-clause-put : goal.returns-in-Ok-clause-put
returns-in-Ok-clause-put g c =
    subst (λ (v : Option (List ℕ)). (count : ℕ) → HasPutInTurn c.args.node.now c.args.p c.args.key v count
    → HasPutInTurn c.put.new.node c.args.p c.args.key v (count + 1)) c.changed_value.ensures
    (λ count made. put_once_more c.args.p c.args.key _ count c.args.node.now c.put.new.node made c.args.trx c.in-Ok._former
    c.in-Ok.ensures.wrote)

pub returns-in-Ok-clause-open : goal.returns-in-Ok-clause-open
returns-in-Ok-clause-open g c = (
  c.in-Ok.ensures.open,
  (
    c.requires.may.agrees.0,
    put_agrees _ _ c.in-Ok._former (c.in-Ok.ensures.media c.requires.may.agrees.0 c.requires.may.agrees.1),
  ),
)

-- it was refused

pub returns-in-Err-clause-reads : goal.returns-in-Err-clause-reads
returns-in-Err-clause-reads g c =
    reads_missed c.args.p c.args.node.now c.put.new.node c.requires.may.at_desk.part c.args.trx c.in-Err.ensures.quiet c.requires.may.reads

pub returns-in-Err-clause-kept : goal.returns-in-Err-clause-kept
returns-in-Err-clause-kept g c = λ count made.
    put_missed c.args.p c.args.key (Some changed_text) count c.args.node.now c.put.new.node made c.in-Err.ensures.quiet

pub returns-in-Err-clause-still : goal.returns-in-Err-clause-still
returns-in-Err-clause-still g c = λ again. (
  open_still c.in-Err.halt (not_failed c.in-Err.halt again) c.in-Err.ensures.still_open,
  (
    c.requires.may.agrees.0,
    agrees_still c.in-Err.halt (not_failed c.in-Err.halt again)
        (c.in-Err.ensures.media c.requires.may.agrees.0 c.requires.may.agrees.1),
  ),
)

pub returns-in-Err-clause-failed : goal.returns-in-Err-clause-failed
returns-in-Err-clause-failed g c = λ is. c.in-Err.ensures.failed (cc)
