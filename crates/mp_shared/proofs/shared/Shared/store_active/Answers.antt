use Rattle.std.proofs.Common.{◌≡◌, Some, suc, ◌+◌, length, refl, ap, ◌∙◌, arith}
use Rattle.mp_core_trx.specs.declared.event.TrxEvent.TheVariants.{StoreActive}
use Rattle.mp_core.specs.declared.event.CoreEvent.TheVariants.{Trx}
use Rattle.mp_shared.proofs.Steps.{one_table, allowed_there, place, within, fair, can, kept_turned, took}
use Rattle.mp_shared.proofs.Kept.{next_is}
use Rattle.mp_shared.proofs.Fits.{stored_fits}
use Rattle.mp_shared.proofs.shared.Shared.store_active.Goals as goal

pub slot_word-requires : goal.slot_word-requires
slot_word-requires c = place _ _ _ c.self.view_is _ _ _ c.node.view_is c.requires.run _ _ _ c.node.invariant (Trx (StoreActive c.args.p c.args.id)) c.requires.step

pub word-requires : goal.word-requires
word-requires c =
    let there = allowed_there _ _ _ c.self.view_is _ _ _ c.node.view_is c.requires.run _ _ _ c.node.invariant (Trx (StoreActive c.args.p c.args.id)) c.requires.step in
    stored_fits c.self.inside.table.table.shared.key (fair _ _ _ c.self.view_is _ _ _ c.node.view_is c.requires.run _ _ _ c.node.invariant (Trx (StoreActive c.args.p c.args.id)) c.requires.step) there.0 there.1 (StoreActive c.args.p c.args.id) c.args.p c.args.id _ there.2 refl

pub store-requires-clause-table : goal.store-requires-clause-table
store-requires-clause-table c =
    (one_table _ _ _ c.self.view_is _ _ _ c.node.view_is c.requires.run _ _ _ c.node.invariant, refl, within _ _ _ c.self.view_is _ _ _ c.node.view_is c.requires.run _ _ _ c.node.invariant (Trx (StoreActive c.args.p c.args.id)) c.requires.step _ _ c.self.invariant.0 c.slot_word.ensures)

pub store-requires-clause-event : goal.store-requires-clause-event
store-requires-clause-event c = can _ _ _ c.self.view_is _ _ _ c.node.view_is c.requires.run _ _ _ c.node.invariant (Trx (StoreActive c.args.p c.args.id)) c.requires.step tt _ _ c.slot_word.ensures (λ es all. c.word.ensures.word)

pub invariant_of-node : goal.invariant_of-node
invariant_of-node c =
    let next = next_is _ c.args.p c.args.id.slot _ c.requires.step.1 c.requires.slot in
    let more : c.args.id.slot + 1 ≡ suc (length c.requires.step.0.trx.begun) = omega (arith, next) in
    kept_turned _ _ _ c.self.view_is _ _ _ c.node.view_is c.requires.run _ _ _ c.node.invariant (Trx (StoreActive c.args.p c.args.id)) c.requires.step _ _ _ c.store.ensures.seat.0 c.store.ensures.event.1 next tt tt c.set.new.self.used (c.set.ensures.here ∙ ap (λ k. Some k) more) c.set.ensures.others

pub returns : goal.returns
returns c = (c.store.ensures.event.0, took _ _ _ c.self.view_is _ _ _ c.node.view_is c.requires.run _ _ _ c.node.invariant (Trx (StoreActive c.args.p c.args.id)) c.requires.step _ _ c.store.ensures.event.1)

pub set-requires : goal.set-requires
set-requires c = (place _ _ _ c.self.view_is _ _ _ c.node.view_is c.requires.run _ _ _ c.node.invariant (Trx (StoreActive c.args.p c.args.id)) c.requires.step).1
