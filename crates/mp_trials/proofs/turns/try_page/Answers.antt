use Rattle.std.proofs.Common.{List, ap, arith, length}
use Rattle.mp_buffer_fusion.specs.declared.buffer.Buffer.{Buffer}
use Rattle.mp_trials.proofs.Tries.{refused_keeps, refused_agrees, refused_others, came_holds, came_locked, came_agrees, missed_keeps, missed_others, had_keeps, had_others, had_page, had_room}
use Rattle.mp_trials.proofs.turns.try_page.Goals as goal

pub fetch-requires-clause-part : goal.fetch-requires-clause-part
fetch-requires-clause-part g c = came_holds c.args.p c.args.page c.args.node.now _ c.args.pool.now c.requires.forced c.in_ok-lock_exclusive.ensures.locked

pub fetch-requires-clause-lock : goal.fetch-requires-clause-lock
fetch-requires-clause-lock g c = came_locked c.args.p c.args.page c.args.node.now _ c.args.pool.now c.requires.forced c.in_ok-lock_exclusive.ensures.locked

pub fetch-requires-clause-agrees : goal.fetch-requires-clause-agrees
fetch-requires-clause-agrees g c = came_agrees c.args.p c.args.page c.args.node.now _ c.args.pool.now c.requires.forced c.in_ok-lock_exclusive.ensures.locked c.requires.agrees

pub returns-in_err-lock_exclusive-clause-keeps : goal.returns-in_err-lock_exclusive-clause-keeps
returns-in_err-lock_exclusive-clause-keeps g c = refused_keeps c.args.p c.args.page _ c.args.node.now _ c.args.pool.now c.requires.forced c.in_err-lock_exclusive.ensures.refused.2

pub returns-in_err-lock_exclusive-clause-agrees : goal.returns-in_err-lock_exclusive-clause-agrees
returns-in_err-lock_exclusive-clause-agrees g c = refused_agrees c.args.p c.args.page _ c.args.node.now _ c.args.pool.now c.requires.forced c.in_err-lock_exclusive.ensures.refused.2 c.requires.agrees

pub returns-in_err-lock_exclusive-clause-others : goal.returns-in_err-lock_exclusive-clause-others
returns-in_err-lock_exclusive-clause-others g c k has = refused_others c.args.p c.args.page _ c.args.node.now _ c.args.pool.now c.requires.forced c.in_err-lock_exclusive.ensures.refused.2 k has

pub returns-in_err-fetch-clause-keeps : goal.returns-in_err-fetch-clause-keeps
returns-in_err-fetch-clause-keeps g c = missed_keeps c.args.p c.args.page c.args.node.now _ c.args.pool.now c.requires.forced c.in_ok-lock_exclusive.ensures.locked _ _ _ _ _ c.in_err-fetch.ensures.fetched

pub returns-in_err-fetch-clause-others : goal.returns-in_err-fetch-clause-others
returns-in_err-fetch-clause-others g c k has = missed_others c.args.p c.args.page c.args.node.now _ c.args.pool.now c.requires.forced c.in_ok-lock_exclusive.ensures.locked _ _ _ _ _ c.in_err-fetch.ensures.fetched k has

pub returns-in_err-fetch-clause-room : goal.returns-in_err-fetch-clause-room
returns-in_err-fetch-clause-room g c = let len = ap (λ (l : List Buffer). length l) c.in_err-fetch.ensures.fetched.same in omega (arith, len)

pub returns-clause-keeps : goal.returns-clause-keeps
returns-clause-keeps g c = had_keeps c.args.p c.args.page c.args.node.now _ c.args.pool.now c.requires.forced c.in_ok-lock_exclusive.ensures.locked _ _ _ _ _ c.in_ok-fetch.ensures.fetched

pub returns-clause-taken : goal.returns-clause-taken
returns-clause-taken g c = had_page c.args.p c.args.page c.args.node.now _ c.args.pool.now c.requires.forced c.in_ok-lock_exclusive.ensures.locked _ _ _ _ _ c.in_ok-fetch.ensures.fetched

pub returns-clause-others : goal.returns-clause-others
returns-clause-others g c k has = had_others c.args.p c.args.page c.args.node.now _ c.args.pool.now c.requires.forced c.in_ok-lock_exclusive.ensures.locked _ _ _ _ _ c.in_ok-fetch.ensures.fetched k has

pub returns-clause-room : goal.returns-clause-room
returns-clause-room g c = had_room c.args.p c.args.page c.args.node.now _ c.args.pool.now c.requires.forced c.in_ok-lock_exclusive.ensures.locked _ _ _ _ _ c.in_ok-fetch.ensures.fetched
