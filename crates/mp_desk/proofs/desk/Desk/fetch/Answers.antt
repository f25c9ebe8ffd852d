use Rattle.std.proofs.Common.{◌≢◌, sym, ◌∙◌}
use Rattle.mp_core_pages.specs.declared.page_lock.Held.TheVariants.{No}
use Rattle.mp_shared.specs.PageSteps.{held_in}
use Rattle.mp_shared.proofs.Holding.{held_part}
use Rattle.mp_lock_fusion.proofs.LockCallers.{holds_read}
use Rattle.mp_buffer_fusion.specs.Buffers.{IsBuffered}
use Rattle.mp_desk.proofs.Fetched.{read_still, read_away, not_read_away, missed_read, brings_nothing, brings_after, goes_away, waits_later, with_fact}
use Rattle.mp_desk.proofs.desk.Desk.fetch.Goals as goal

pub returns-in-Err-clause-desk : goal.returns-in-Err-clause-desk
returns-in-Err-clause-desk g c = (not_read_away c.args.shared.now c.args.self.now c.args.p c.args.number c.args.node.now c.lock_shared.new.node c.requires.desk c.lock_shared.ensures.reached c.in-Err.wait.seen c.in-Err.ensures.refused.2).at_desk

pub returns-in-Err-clause-brings : goal.returns-in-Err-clause-brings
returns-in-Err-clause-brings g c =
    let step = not_read_away c.args.shared.now c.args.self.now c.args.p c.args.number c.args.node.now c.lock_shared.new.node c.requires.desk c.lock_shared.ensures.reached c.in-Err.wait.seen c.in-Err.ensures.refused.2 in
    brings_nothing c.args.p c.args.self.now c.args.node.now c.lock_shared.new.node step.moves step.locks

pub returns-in-Err-clause-cause : goal.returns-in-Err-clause-cause
returns-in-Err-clause-cause g c = missed_read c.args.p c.args.number c.args.node.now c.lock_shared.new.node c.in-Err.wait c.in-Err.ensures.refused.0 c.in-Err.ensures.refused.1 c.in-Err.ensures.refused.2

pub bring-requires-clause-desk : goal.bring-requires-clause-desk
bring-requires-clause-desk g c = (read_away c.args.shared.now c.args.self.now c.args.p c.args.number c.args.node.now c.lock_shared.new.node c.requires.desk c.lock_shared.ensures.reached c.in_default.ensures.locked).at_desk

pub returns-clause-brings : goal.returns-clause-brings
returns-clause-brings g c =
    let step = read_away c.args.shared.now c.args.self.now c.args.p c.args.number c.args.node.now c.lock_shared.new.node c.requires.desk c.lock_shared.ensures.reached c.in_default.ensures.locked in
    brings_after c.args.p c.args.self.now c.bring.new.self c.args.node.now c.lock_shared.new.node c.bring.new.node step.moves step.locks c.bring.ensures.brings

pub returns-clause-cause : goal.returns-clause-cause
returns-clause-cause g c =
    let step = read_away c.args.shared.now c.args.self.now c.args.p c.args.number c.args.node.now c.lock_shared.new.node c.requires.desk c.lock_shared.ensures.reached c.in_default.ensures.locked in
    waits_later c.args.p c.args.node.now c.lock_shared.new.node c.bring.new.node (goes_away c.args.p c.args.self.now c.bring.new.self c.args.node.now c.lock_shared.new.node c.bring.new.node step.moves step.locks) c.bring.result c.bring.ensures.cause

pub bring-requires-clause-lock : goal.bring-requires-clause-lock
bring-requires-clause-lock g c =
    let has = held_part c.args.node.now c.args.p c.requires.desk.part in
    holds_read c.args.node.now c.lock_shared.new.node c.args.p c.args.number has.0 has.1 c.in_default.ensures.locked

pub returns-clause-here : goal.returns-clause-here
returns-clause-here g c =
    let has = held_part c.args.node.now c.args.p c.requires.desk.part in
    let held = holds_read c.args.node.now c.lock_shared.new.node c.args.p c.args.number has.0 has.1 c.in_default.ensures.locked in
    with_fact (IsBuffered c.bring.new.self.pool c.args.number) (held_in c.bring.new.node c.args.p c.args.number ≢ No) c.bring.result c.bring.ensures.here (λ none. held (sym (c.bring.ensures.locks c.args.number) ∙ none))

pub returns-in-Err-clause-still : goal.returns-in-Err-clause-still
returns-in-Err-clause-still g c = λ buffered held. absurd (held c.in-Err.ensures.refused.2.0)

pub returns-clause-still : goal.returns-clause-still
returns-clause-still g c = λ buffered held. c.bring.ensures.still buffered ∙ read_still c.args.p c.args.number c.args.node.now c.lock_shared.new.node c.in_default.ensures.locked held
