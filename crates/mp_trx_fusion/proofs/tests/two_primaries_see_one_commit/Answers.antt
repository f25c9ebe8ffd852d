use Rattle.std.proofs.Common.{◌≡◌, ℕ, ◌≤◌, [], ◌∷◌, ◌++◌, Some, refl, sym, ap, ◌∙◌, subst, arith, lit≤, lit<}
use Rattle.mp_core_trx.specs.declared.event.TrxEvent.TheVariants.{DrawTso}
use Rattle.mp_core.specs.declared.event.CoreEvent.TheVariants.{Trx, Pages}
use Rattle.mp_cells.specs.declared.records.Record.TheVariants.{Commit}
use Rattle.mp_core_pages.specs.declared.event.PagesEvent.TheVariants.{StoreLlsn, StoreDurable}
use Rattle.mp_machine.specs.View.{part_in}
use Rattle.mp_shared.specs.Slots.{used_by}
use Rattle.mp_core_trx.specs.Events.{with_prep, with_draw, with_end, with_slot_load}
use Rattle.mp_trx_fusion.specs.Calls.{with_begin}
use Rattle.mp_trx_fusion.proofs.Beginnings.{next_in_range}
use Rattle.mp_shared.proofs.Holding.{holds_the_part}
use Rattle.mp_trx_fusion.proofs.Callers.{may_prepare, may_draw, may_commit, may_take_else, may_look_else, may_look_here, log_here, log_else}
use Rattle.mp_trx_fusion.proofs.CommitRecords.{may_record, may_force, may_publish, may_look_took}
use Rattle.mp_trx_fusion.proofs.FreshRuns.{fresh_fits, may_begin_fresh, may_look_fresh, log_fresh}
use Rattle.mp_trx_fusion.proofs.tests.two_primaries_see_one_commit.Goals as goal

two_is_other : ¬ (◌≡◌ {A = ℕ} 2 1)
two_is_other e = absurd (omega arith)

one_is_other : ¬ (◌≡◌ {A = ℕ} 1 2)
one_is_other e = absurd (omega arith)

pub open-requires : goal.open-requires
open-requires g c = fresh_fits 2 1 _ c.in_ok-pages.ensures (lit≤ tt) (lit≤ tt) (lit≤ tt)

pub begin-requires-clause-may : goal.begin-requires-clause-may
begin-requires-clause-may g c = may_begin_fresh 2 1 _ c.in_ok-shared.shared c.in_ok-shared.node c.in_ok-shared.ensures.opened.0 c.in_ok-shared.ensures.opened.1 1 1 (lit≤ tt) (lit≤ tt) (lit< tt) (lit≤ tt)

pub prepare-requires-clause-may : goal.prepare-requires-clause-may
prepare-requires-clause-may g c =
    let b = c.in-Ok.field-0 in
    let id = b.id in
    may_prepare c.in_ok-shared.node c.begin.new.node 1 1 b c.in-Ok.ensures.becomes (may_begin_fresh 2 1 _ c.in_ok-shared.shared c.in_ok-shared.node c.in_ok-shared.ensures.opened.0 c.in_ok-shared.ensures.opened.1 1 1 (lit≤ tt) (lit≤ tt) (lit< tt) (lit≤ tt))

pub status-before-requires-clause-may : goal.status-before-requires-clause-may
status-before-requires-clause-may g c =
    let b = c.in-Ok.field-0 in
    let id = b.id in
    may_look_else c.begin.new.node c.prepare.new.node 1 (with_prep id) _ c.prepare.ensures.becomes 2 id two_is_other (may_look_else c.in_ok-shared.node c.begin.new.node 1 (with_begin b) _ c.in-Ok.ensures.becomes 2 id two_is_other (may_look_fresh 2 1 _ c.in_ok-shared.shared c.in_ok-shared.node c.in_ok-shared.ensures.opened.0 c.in_ok-shared.ensures.opened.1 2 id (lit≤ tt) (lit≤ tt) (subst (λ k. (1 ≤ k) × (k ≤ 2)) (sym c.in-Ok.ensures.begun.0) (lit≤ tt, lit≤ tt)) (next_in_range (used_by (part_in c.in_ok-shared.node.parts 1)) id.slot c.in-Ok.ensures.begun.2)))

pub draw-cts-requires-clause-may : goal.draw-cts-requires-clause-may
draw-cts-requires-clause-may g c =
    let b = c.in-Ok.field-0 in
    let id = b.id in
    let seen = c.status-before.ensures.shown in
    may_take_else c.prepare.new.node c.status-before.new.node 2 (with_slot_load id.node id.slot seen.0) _ seen.2 (Trx (DrawTso 1 id)) one_is_other (may_draw c.begin.new.node c.prepare.new.node 1 id c.prepare.ensures.becomes c.begin.ensures.reached (may_prepare c.in_ok-shared.node c.begin.new.node 1 1 b c.in-Ok.ensures.becomes (may_begin_fresh 2 1 _ c.in_ok-shared.shared c.in_ok-shared.node c.in_ok-shared.ensures.opened.0 c.in_ok-shared.ensures.opened.1 1 1 (lit≤ tt) (lit≤ tt) (lit< tt) (lit≤ tt))))

pub store_llsn-requires-clause-step : goal.store_llsn-requires-clause-step
store_llsn-requires-clause-step g c =
    let b = c.in-Ok.field-0 in
    let id = b.id in
    let seen = c.status-before.ensures.shown in
    let may = may_commit c.status-before.new.node c.draw-cts.new.node 1 id _ c.draw-cts.ensures.becomes (may_take_else c.prepare.new.node c.status-before.new.node 2 (with_slot_load id.node id.slot seen.0) _ seen.2 (Trx (DrawTso 1 id)) one_is_other (may_draw c.begin.new.node c.prepare.new.node 1 id c.prepare.ensures.becomes c.begin.ensures.reached (may_prepare c.in_ok-shared.node c.begin.new.node 1 1 b c.in-Ok.ensures.becomes (may_begin_fresh 2 1 _ c.in_ok-shared.shared c.in_ok-shared.node c.in_ok-shared.ensures.opened.0 c.in_ok-shared.ensures.opened.1 1 1 (lit≤ tt) (lit≤ tt) (lit< tt) (lit≤ tt))))) in
    let log = log_here c.status-before.new.node c.draw-cts.new.node 1 (with_draw id c.draw-cts.result) _ c.draw-cts.ensures.becomes 0 0 (λ q. refl) (log_else c.prepare.new.node c.status-before.new.node 2 (with_slot_load id.node id.slot seen.0) _ seen.2 1 0 0 one_is_other (log_here c.begin.new.node c.prepare.new.node 1 (with_prep id) _ c.prepare.ensures.becomes 0 0 (λ q. refl) (log_here c.in_ok-shared.node c.begin.new.node 1 (with_begin b) _ c.in-Ok.ensures.becomes 0 0 (λ q. refl) (log_fresh 2 1 _ c.in_ok-shared.shared c.in_ok-shared.node c.in_ok-shared.ensures.opened.0 c.in_ok-shared.ensures.opened.1 1 (lit≤ tt) (lit≤ tt))))) in
    let is = c.put.ensures ∙ ap (λ l. l ++ Commit id c.draw-cts.result ∷ []) c.in_ok-records.ensures in
    may_record c.draw-cts.new.node c.draw-cts.ensures.reached 1 id c.draw-cts.result may 0 0 log _ refl is refl (lit< tt) (omega arith)

pub store_durable-requires-clause-step : goal.store_durable-requires-clause-step
store_durable-requires-clause-step g c =
    let b = c.in-Ok.field-0 in
    let id = b.id in
    let seen = c.status-before.ensures.shown in
    let may = may_commit c.status-before.new.node c.draw-cts.new.node 1 id _ c.draw-cts.ensures.becomes (may_take_else c.prepare.new.node c.status-before.new.node 2 (with_slot_load id.node id.slot seen.0) _ seen.2 (Trx (DrawTso 1 id)) one_is_other (may_draw c.begin.new.node c.prepare.new.node 1 id c.prepare.ensures.becomes c.begin.ensures.reached (may_prepare c.in_ok-shared.node c.begin.new.node 1 1 b c.in-Ok.ensures.becomes (may_begin_fresh 2 1 _ c.in_ok-shared.shared c.in_ok-shared.node c.in_ok-shared.ensures.opened.0 c.in_ok-shared.ensures.opened.1 1 1 (lit≤ tt) (lit≤ tt) (lit< tt) (lit≤ tt))))) in
    let log = log_here c.status-before.new.node c.draw-cts.new.node 1 (with_draw id c.draw-cts.result) _ c.draw-cts.ensures.becomes 0 0 (λ q. refl) (log_else c.prepare.new.node c.status-before.new.node 2 (with_slot_load id.node id.slot seen.0) _ seen.2 1 0 0 one_is_other (log_here c.begin.new.node c.prepare.new.node 1 (with_prep id) _ c.prepare.ensures.becomes 0 0 (λ q. refl) (log_here c.in_ok-shared.node c.begin.new.node 1 (with_begin b) _ c.in-Ok.ensures.becomes 0 0 (λ q. refl) (log_fresh 2 1 _ c.in_ok-shared.shared c.in_ok-shared.node c.in_ok-shared.ensures.opened.0 c.in_ok-shared.ensures.opened.1 1 (lit≤ tt) (lit≤ tt))))) in
    let is = c.put.ensures ∙ ap (λ l. l ++ Commit id c.draw-cts.result ∷ []) c.in_ok-records.ensures in
    may_force c.draw-cts.new.node c.draw-cts.ensures.reached 1 id c.draw-cts.result may 0 0 log _ refl is refl (lit< tt) (omega arith) c.store_llsn.new.node c.store_llsn.ensures 1 refl

pub publish-requires-clause-may : goal.publish-requires-clause-may
publish-requires-clause-may g c =
    let b = c.in-Ok.field-0 in
    let id = b.id in
    let seen = c.status-before.ensures.shown in
    let may = may_commit c.status-before.new.node c.draw-cts.new.node 1 id _ c.draw-cts.ensures.becomes (may_take_else c.prepare.new.node c.status-before.new.node 2 (with_slot_load id.node id.slot seen.0) _ seen.2 (Trx (DrawTso 1 id)) one_is_other (may_draw c.begin.new.node c.prepare.new.node 1 id c.prepare.ensures.becomes c.begin.ensures.reached (may_prepare c.in_ok-shared.node c.begin.new.node 1 1 b c.in-Ok.ensures.becomes (may_begin_fresh 2 1 _ c.in_ok-shared.shared c.in_ok-shared.node c.in_ok-shared.ensures.opened.0 c.in_ok-shared.ensures.opened.1 1 1 (lit≤ tt) (lit≤ tt) (lit< tt) (lit≤ tt))))) in
    let log = log_here c.status-before.new.node c.draw-cts.new.node 1 (with_draw id c.draw-cts.result) _ c.draw-cts.ensures.becomes 0 0 (λ q. refl) (log_else c.prepare.new.node c.status-before.new.node 2 (with_slot_load id.node id.slot seen.0) _ seen.2 1 0 0 one_is_other (log_here c.begin.new.node c.prepare.new.node 1 (with_prep id) _ c.prepare.ensures.becomes 0 0 (λ q. refl) (log_here c.in_ok-shared.node c.begin.new.node 1 (with_begin b) _ c.in-Ok.ensures.becomes 0 0 (λ q. refl) (log_fresh 2 1 _ c.in_ok-shared.shared c.in_ok-shared.node c.in_ok-shared.ensures.opened.0 c.in_ok-shared.ensures.opened.1 1 (lit≤ tt) (lit≤ tt))))) in
    let is = c.put.ensures ∙ ap (λ l. l ++ Commit id c.draw-cts.result ∷ []) c.in_ok-records.ensures in
    may_publish c.draw-cts.new.node c.draw-cts.ensures.reached 1 id c.draw-cts.result may 0 0 log _ refl is refl (lit< tt) (omega arith) c.store_llsn.new.node c.store_llsn.ensures 1 refl c.store_durable.new.node c.store_durable.ensures

pub status-after-requires-clause-may : goal.status-after-requires-clause-may
status-after-requires-clause-may g c =
    let b = c.in-Ok.field-0 in
    let id = b.id in
    let seen = c.status-before.ensures.shown in
    may_look_else c.store_durable.new.node c.publish.new.node 1 (with_end id (Some c.draw-cts.result)) _ c.publish.ensures.becomes 2 id two_is_other
    (may_look_took c.store_llsn.new.node c.store_durable.new.node (Pages (StoreDurable 1 1)) c.store_durable.ensures 2 id two_is_other
    (may_look_took c.draw-cts.new.node c.store_llsn.new.node (Pages (StoreLlsn 1 _)) c.store_llsn.ensures 2 id two_is_other
    (may_look_else c.status-before.new.node c.draw-cts.new.node 1 (with_draw id c.draw-cts.result) _ c.draw-cts.ensures.becomes 2 id two_is_other (may_look_here c.prepare.new.node c.status-before.new.node 2 (with_slot_load id.node id.slot seen.0) _ seen.2 id (λ q. refl) (may_look_else c.begin.new.node c.prepare.new.node 1 (with_prep id) _ c.prepare.ensures.becomes 2 id two_is_other (may_look_else c.in_ok-shared.node c.begin.new.node 1 (with_begin b) _ c.in-Ok.ensures.becomes 2 id two_is_other (may_look_fresh 2 1 _ c.in_ok-shared.shared c.in_ok-shared.node c.in_ok-shared.ensures.opened.0 c.in_ok-shared.ensures.opened.1 2 id (lit≤ tt) (lit≤ tt) (subst (λ k. (1 ≤ k) × (k ≤ 2)) (sym c.in-Ok.ensures.begun.0) (lit≤ tt, lit≤ tt)) (next_in_range (used_by (part_in c.in_ok-shared.node.parts 1)) id.slot c.in-Ok.ensures.begun.2))))))))

pub view-newest-requires-clause-part : goal.view-newest-requires-clause-part
view-newest-requires-clause-part g c =
    let b = c.in-Ok.field-0 in
    let id = b.id in
    let seen = c.status-before.ensures.shown in
    let again = c.status-after.ensures.shown in
    let look = may_look_here c.publish.new.node c.status-after.new.node 2 (with_slot_load id.node id.slot again.0) _ again.2 id (λ q. refl)
    (may_look_else c.store_durable.new.node c.publish.new.node 1 (with_end id (Some c.draw-cts.result)) _ c.publish.ensures.becomes 2 id two_is_other
    (may_look_took c.store_llsn.new.node c.store_durable.new.node (Pages (StoreDurable 1 1)) c.store_durable.ensures 2 id two_is_other
    (may_look_took c.draw-cts.new.node c.store_llsn.new.node (Pages (StoreLlsn 1 _)) c.store_llsn.ensures 2 id two_is_other
    (may_look_else c.status-before.new.node c.draw-cts.new.node 1 (with_draw id c.draw-cts.result) _ c.draw-cts.ensures.becomes 2 id two_is_other (may_look_here c.prepare.new.node c.status-before.new.node 2 (with_slot_load id.node id.slot seen.0) _ seen.2 id (λ q. refl) (may_look_else c.begin.new.node c.prepare.new.node 1 (with_prep id) _ c.prepare.ensures.becomes 2 id two_is_other (may_look_else c.in_ok-shared.node c.begin.new.node 1 (with_begin b) _ c.in-Ok.ensures.becomes 2 id two_is_other (may_look_fresh 2 1 _ c.in_ok-shared.shared c.in_ok-shared.node c.in_ok-shared.ensures.opened.0 c.in_ok-shared.ensures.opened.1 2 id (lit≤ tt) (lit≤ tt) (subst (λ k. (1 ≤ k) × (k ≤ 2)) (sym c.in-Ok.ensures.begun.0) (lit≤ tt, lit≤ tt)) (next_in_range (used_by (part_in c.in_ok-shared.node.parts 1)) id.slot c.in-Ok.ensures.begun.2))))))))) in
    holds_the_part c.status-after.new.node 2 look.0 look.1 look.2
