use Rattle.std.proofs.Common.{◌≡◌, ◌∙◌}
use Rattle.mp_core_pages.specs.declared.page_lock.Held.TheVariants.{Write}
use Rattle.mp_shared.specs.PageSteps.{held_in}
use Rattle.mp_shared.proofs.Holding.{held_part}
use Rattle.mp_lock_fusion.proofs.LockCallers.{holds_write}
use Rattle.mp_buffer_fusion.proofs.Visiting.{writing_is_held}
use Rattle.mp_buffer_fusion.specs.Buffers.{IsBuffered}
use Rattle.mp_desk.proofs.Fetched.{write_still, write_away, not_write_away, missed_write, brings_nothing, brings_after, goes_away, waits_later, with_fact}
use Rattle.mp_desk.proofs.desk.Desk.take.Goals as goal

pub returns-in-Err-clause-desk : goal.returns-in-Err-clause-desk
returns-in-Err-clause-desk g c = (not_write_away c.args.shared.now c.args.self.now c.args.p c.args.number c.args.node.now c.lock_exclusive.new.node c.requires.desk c.lock_exclusive.ensures.reached c.in-Err.wait.seen c.in-Err.ensures.refused.2).at_desk

pub returns-in-Err-clause-brings : goal.returns-in-Err-clause-brings
returns-in-Err-clause-brings g c =
    let step = not_write_away c.args.shared.now c.args.self.now c.args.p c.args.number c.args.node.now c.lock_exclusive.new.node c.requires.desk c.lock_exclusive.ensures.reached c.in-Err.wait.seen c.in-Err.ensures.refused.2 in
    brings_nothing c.args.p c.args.self.now c.args.node.now c.lock_exclusive.new.node step.moves step.locks

pub returns-in-Err-clause-cause : goal.returns-in-Err-clause-cause
returns-in-Err-clause-cause g c = missed_write c.args.p c.args.number c.args.node.now c.lock_exclusive.new.node c.in-Err.wait c.in-Err.ensures.refused.0 c.in-Err.ensures.refused.1 c.in-Err.ensures.refused.2

pub bring-requires-clause-desk : goal.bring-requires-clause-desk
bring-requires-clause-desk g c = (write_away c.args.shared.now c.args.self.now c.args.p c.args.number c.args.node.now c.lock_exclusive.new.node c.requires.desk c.lock_exclusive.ensures.reached c.in_default.ensures.locked).at_desk

pub returns-clause-brings : goal.returns-clause-brings
returns-clause-brings g c =
    let step = write_away c.args.shared.now c.args.self.now c.args.p c.args.number c.args.node.now c.lock_exclusive.new.node c.requires.desk c.lock_exclusive.ensures.reached c.in_default.ensures.locked in
    brings_after c.args.p c.args.self.now c.bring.new.self c.args.node.now c.lock_exclusive.new.node c.bring.new.node step.moves step.locks c.bring.ensures.brings

pub returns-clause-cause : goal.returns-clause-cause
returns-clause-cause g c =
    let step = write_away c.args.shared.now c.args.self.now c.args.p c.args.number c.args.node.now c.lock_exclusive.new.node c.requires.desk c.lock_exclusive.ensures.reached c.in_default.ensures.locked in
    waits_later c.args.p c.args.node.now c.lock_exclusive.new.node c.bring.new.node (goes_away c.args.p c.args.self.now c.bring.new.self c.args.node.now c.lock_exclusive.new.node c.bring.new.node step.moves step.locks) c.bring.result c.bring.ensures.cause

pub bring-requires-clause-lock : goal.bring-requires-clause-lock
bring-requires-clause-lock g c =
    let has = held_part c.args.node.now c.args.p c.requires.desk.part in
    writing_is_held _ (holds_write c.args.node.now c.lock_exclusive.new.node c.args.p c.args.number has.0 has.1 c.in_default.ensures.locked)

pub returns-clause-here : goal.returns-clause-here
returns-clause-here g c =
    let has = held_part c.args.node.now c.args.p c.requires.desk.part in
    with_fact (IsBuffered c.bring.new.self.pool c.args.number) (held_in c.bring.new.node c.args.p c.args.number ≡ Write) c.bring.result c.bring.ensures.here (c.bring.ensures.locks c.args.number ∙ holds_write c.args.node.now c.lock_exclusive.new.node c.args.p c.args.number has.0 has.1 c.in_default.ensures.locked)

pub returns-in-Err-clause-still : goal.returns-in-Err-clause-still
returns-in-Err-clause-still g c = λ buffered held. absurd (c.in-Err.ensures.refused.2.held held)

pub returns-clause-still : goal.returns-clause-still
returns-clause-still g c = λ buffered held. c.bring.ensures.still buffered ∙ write_still c.args.p c.args.number c.args.node.now c.lock_exclusive.new.node c.in_default.ensures.locked held
