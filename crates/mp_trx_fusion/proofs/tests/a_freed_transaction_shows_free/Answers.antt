use Rattle.std.proofs.Common.{◌≤◌, None, refl, sym, subst, lit≤, lit<}
use Rattle.mp_machine.specs.View.{part_in}
use Rattle.mp_core_trx.specs.declared.event.TrxEvent.TheVariants.{StorePrep}
use Rattle.mp_core_trx.specs.Parts.{trx}
use Rattle.mp_shared.specs.Slots.{used_by}
use Rattle.mp_core_trx.specs.Events.{with_end, with_slot_load}
use Rattle.mp_trx_fusion.specs.Calls.{with_begin}
use Rattle.mp_trx_fusion.proofs.Beginnings.{next_in_range}
use Rattle.mp_trx_fusion.proofs.Callers.{may_prepare, may_free, may_take_looked, may_look_here, log_here}
use Rattle.mp_trx_fusion.proofs.FreshRuns.{fresh_fits, may_begin_fresh, may_look_fresh, log_fresh}
use Rattle.mp_trx_fusion.proofs.tests.a_freed_transaction_shows_free.Goals as goal

pub open-requires : goal.open-requires
open-requires g c = fresh_fits 2 1 _ c.in_ok-pages.ensures (lit≤ tt) (lit≤ tt) (lit≤ tt)

pub begin-requires-clause-may : goal.begin-requires-clause-may
begin-requires-clause-may g c = may_begin_fresh 2 1 _ c.in_ok-shared.shared c.in_ok-shared.node c.in_ok-shared.ensures.opened.0 c.in_ok-shared.ensures.opened.1 1 1 (lit≤ tt) (lit≤ tt) (lit< tt) (lit≤ tt)

pub status-before-requires-clause-may : goal.status-before-requires-clause-may
status-before-requires-clause-may g c =
    let b = c.in-Ok.begun in
    may_look_here c.in_ok-shared.node c.begin.new.node 1 (with_begin b) _ c.in-Ok.ensures.becomes (b.id) (λ q. refl) (may_look_fresh 2 1 _ c.in_ok-shared.shared c.in_ok-shared.node c.in_ok-shared.ensures.opened.0 c.in_ok-shared.ensures.opened.1 1 b.id (lit≤ tt) (lit≤ tt) (subst (λ k. (1 ≤ k) × (k ≤ 2)) (sym c.in-Ok.ensures.begun.0) (lit≤ tt, lit≤ tt)) (next_in_range (used_by (part_in c.in_ok-shared.node.parts 1)) b.id.slot c.in-Ok.ensures.begun.2))

pub free-requires-clause-may : goal.free-requires-clause-may
free-requires-clause-may g c =
    let b = c.in-Ok.begun in
    let seen = c.status-before.ensures.shown in
    may_free c.status-before.new.node 1 b.id c.status-before.ensures.reached (may_take_looked c.begin.new.node c.status-before.new.node 1 b.id seen.0 seen.2 (StorePrep 1 b.id) refl (may_prepare c.in_ok-shared.node c.begin.new.node 1 1 b c.in-Ok.ensures.becomes (may_begin_fresh 2 1 _ c.in_ok-shared.shared c.in_ok-shared.node c.in_ok-shared.ensures.opened.0 c.in_ok-shared.ensures.opened.1 1 1 (lit≤ tt) (lit≤ tt) (lit< tt) (lit≤ tt)))) 0 0
    (log_here c.begin.new.node c.status-before.new.node 1 (with_slot_load b.id.node b.id.slot seen.0) _ seen.2 0 0 (λ q. refl) (log_here c.in_ok-shared.node c.begin.new.node 1 (with_begin b) _ c.in-Ok.ensures.becomes 0 0 (λ q. refl) (log_fresh 2 1 _ c.in_ok-shared.shared c.in_ok-shared.node c.in_ok-shared.ensures.opened.0 c.in_ok-shared.ensures.opened.1 1 (lit≤ tt) (lit≤ tt))))

pub status-after-requires-clause-may : goal.status-after-requires-clause-may
status-after-requires-clause-may g c =
    let b = c.in-Ok.begun in
    let seen = c.status-before.ensures.shown in
    may_look_here c.status-before.new.node c.free.new.node 1 (with_end b.id None) _ c.free.ensures.becomes (b.id) (λ q. refl) (may_look_here c.begin.new.node c.status-before.new.node 1 (with_slot_load b.id.node b.id.slot seen.0) _ seen.2 (b.id) (λ q. refl) (may_look_here c.in_ok-shared.node c.begin.new.node 1 (with_begin b) _ c.in-Ok.ensures.becomes (b.id) (λ q. refl) (may_look_fresh 2 1 _ c.in_ok-shared.shared c.in_ok-shared.node c.in_ok-shared.ensures.opened.0 c.in_ok-shared.ensures.opened.1 1 b.id (lit≤ tt) (lit≤ tt) (subst (λ k. (1 ≤ k) × (k ≤ 2)) (sym c.in-Ok.ensures.begun.0) (lit≤ tt, lit≤ tt)) (next_in_range (used_by (part_in c.in_ok-shared.node.parts 1)) b.id.slot c.in-Ok.ensures.begun.2))))

pub status-of_none-requires-clause-may : goal.status-of_none-requires-clause-may
status-of_none-requires-clause-may g c =
    let b = c.in-Ok.begun in
    let seen = c.status-before.ensures.shown in
    let again = c.status-after.ensures.shown in
    may_look_here c.free.new.node c.status-after.new.node 1 (with_slot_load b.id.node b.id.slot again.0) _ again.2 (trx 2 0 1) (λ q. refl) (may_look_here c.status-before.new.node c.free.new.node 1 (with_end b.id None) _ c.free.ensures.becomes (trx 2 0 1) (λ q. refl) (may_look_here c.begin.new.node c.status-before.new.node 1 (with_slot_load b.id.node b.id.slot seen.0) _ seen.2 (trx 2 0 1) (λ q. refl) (may_look_here c.in_ok-shared.node c.begin.new.node 1 (with_begin b) _ c.in-Ok.ensures.becomes (trx 2 0 1) (λ q. refl) (may_look_fresh 2 1 _ c.in_ok-shared.shared c.in_ok-shared.node c.in_ok-shared.ensures.opened.0 c.in_ok-shared.ensures.opened.1 1 (trx 2 0 1) (lit≤ tt) (lit≤ tt) (lit≤ tt, lit≤ tt) (lit< tt)))))
