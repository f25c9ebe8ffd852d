use Rattle.std.proofs.Common.{sym, ◌∙◌}
use Rattle.mp_trx_fusion.proofs.Sights.{newest_seen, exactly}
use Rattle.mp_trx_fusion.proofs.Beginnings.{some_left, may_store, next_stays, becomes}
use Rattle.mp_trx_fusion.proofs.sight.begin.Goals as goal

pub returns-in_default-clause-room : goal.returns-in_default-clause-room
returns-in_default-clause-room c few = absurd (some_left _ c.args.p c.args.version c.next_slot.ensures.reached c.requires.may (sym c.next_slot.ensures.slot ∙ c.in_default.is) few)

pub store_active-requires-clause-step : goal.store_active-requires-clause-step
store_active-requires-clause-step c = may_store c.args.p c.args.version c.in-Some.slot c.load_tso-view.result _ _ c.requires.may c.load_tso-view.ensures (sym c.next_slot.ensures.slot ∙ c.in-Some.is) c.in-Some.ensures.usable

pub store_active-requires-clause-slot : goal.store_active-requires-clause-slot
store_active-requires-clause-slot c = next_stays c.args.p c.args.version c.in-Some.slot c.load_tso-view.result _ _ c.requires.may c.load_tso-view.ensures (sym c.next_slot.ensures.slot ∙ c.in-Some.is)

pub returns-clause-becomes : goal.returns-clause-becomes
returns-clause-becomes c = becomes c.args.p c.args.version c.in-Some.slot c.load_tso-view.result _ _ c.requires.may c.load_tso-view.ensures _ c.store_active.ensures

pub returns-clause-newest : goal.returns-clause-newest
returns-clause-newest c = newest_seen c.args.p _ _ _ c.load_tso-view.ensures

pub returns-clause-exact : goal.returns-clause-exact
returns-clause-exact c = exactly c.args.p _ _ _ c.load_tso-view.ensures
