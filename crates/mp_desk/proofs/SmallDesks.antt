-- What small desks and parts show, and what they don't.
use Rattle.std.proofs.Common.{if◌then◌else◌, ◌≡◌, ◌==◌, ℕ, ◌<◌, ◌^◌, [], ◌∷◌, slice_get, None, Some, refl, sym, ap, subst, ◌∙◌, ⊎_elim, lit<, arith}
use Rattle.mp_machine.specs.View.{part_in}
use Rattle.mp_model.specs.declared.waiting.NotYet.{NotYet}
use Rattle.mp_model.specs.declared.waiting.WordKind.TheVariants.{Lock, Frame, Least}
use Rattle.mp_cells.specs.declared.kinds.Kind.{Kind}
use Rattle.mp_cells.specs.declared.kinds.Kind.TheVariants.{Meta, Undo}
use Rattle.mp_cells.specs.declared.rows.Link.{Link}
use Rattle.mp_cells.specs.declared.rows.Row.{Row}
use Rattle.mp_cells.specs.PageView.{PageView, kind_number}
use Rattle.mp_cells.specs.Writes.{record_in, undo_at}
use Rattle.mp_cells.proofs.SmallTrees.{fresh_is_tree}
use Rattle.mp_histories.proofs.Lists.{some_same}
use Rattle.mp_core.specs.declared.part.CorePart.{CorePart}
use Rattle.mp_core.specs.Invariant.{NumbersFit}
use Rattle.mp_core.specs.World.{core_part}
use Rattle.mp_facts.specs.Facts.{pages_now}
use Rattle.mp_supports.specs.Seeing.{ShowsNext}
use Rattle.mp_supports.proofs.SeesMore.{next_more}
use Rattle.mp_supports.proofs.ShownRows.{next_links}
use Rattle.mp_supports.proofs.SmallParts.{no_none}
use Rattle.mp_plans.specs.Fitting.{IsLeafOf}
use Rattle.mp_core_trx.specs.Parts.{begun_of, HasBegun}
use Rattle.mp_model.specs.declared.ids.TrxId.{TrxId}
use Rattle.mp_core_trx.specs.declared.slot.SlotTag.TheVariants.{Free, Active, Prep, Committed}
use Rattle.mp_core_trx.specs.World.{begun_in}
use Rattle.mp_shared.specs.Nodes.{Run, NodeView, Reached}
use Rattle.mp_desk.specs.Desks.{MissesHere, MetWait, IsWayTo, LiesAt}
use Rattle.mp_desk.specs.SmallDesks.{root_buffer, least_wait}
use Rattle.mp_desk.proofs.ReachedFacts.{known_world, known_tree}
use Rattle.mp_desk.proofs.Moving.{goes_none}
use Rattle.mp_desk.proofs.Walking.{walk_begins, walk_ends}

-- ---- waits

-- a call that was refused met its wait
pub met_here : (p : ℕ) (before after : NodeView) (wait : NotYet) → MissesHere p before after wait → MetWait p before after wait
met_here p before after wait h = record { from = before; to = after; came = goes_none p before; met = h; went = goes_none p after }

least_not_lock : Least ≡ Lock → ⊥
least_not_lock e = cc

least_not_frame : Least ≡ Frame → ⊥
least_not_frame e = cc

pub met_no_least : (p : ℕ) (before after : NodeView) → MetWait p before after least_wait → ⊥
met_no_least p before after h = ⊎_elim (λ lock. least_not_lock lock.0) (λ frame. least_not_frame (ap (λ (w : NotYet). w.of) frame.0)) h.met

-- ---- the root as the only leaf

pub root_is_leaf : (key : ℕ) → key < 2 ^ 32 → IsLeafOf key root_buffer.page
root_is_leaf key below = record { kind = refl; from = omega arith; until = below }

pub way_to_root : IsWayTo (root_buffer ∷ []) 5 1
way_to_root = walk_ends (root_buffer ∷ []) 5 0 1 (walk_begins (root_buffer ∷ []) 5 (lit< tt)) root_buffer refl (fresh_is_tree.sound 1 (lit< tt)) refl

-- ---- links

-- what a part shows at a link lies there
pub shown_lies : (p : ℕ) (n : NodeView) (q : CorePart) (row next : Row) (link : Link) → Reached n → part_in n.parts p ≡ Some q → row.link ≡ Some link → ShowsNext q row next → LiesAt p n link
shown_lies p n q row next link reached has is shows after moves w facts agrees =
    let now = moves.mine q has in
    let r = now.0 in
    let here : core_part w p ≡ r = agrees p r now.1 in
    let fair : NumbersFit after.run.opening = subst (λ (k : Run). NumbersFit k.opening) (sym moves.run) reached.fair in
    let found = next_links after.run.opening w fair facts p row next (subst (λ (x : CorePart). ShowsNext x row next) (sym here) (next_more q r now.2 row next shows)) in
    let same : found.link ≡ link = some_same found.link link (sym found.linked ∙ is) in
    (next, subst (λ (k : Run). undo_at (pages_now k.opening w) link ≡ Some next) moves.run (subst (λ (l : Link). undo_at (pages_now after.run.opening w) l ≡ Some next) same found.there))

-- page 0 has no undo records
none_in_meta : (page : PageView) (index : ℕ) (row : Row) → page.kind ≡ Meta → record_in page index ≡ Some row → ⊥
none_in_meta page index row meta is = no_none row (sym (ap (λ (k : Kind). if kind_number k == kind_number Undo then slice_get page.rows index else None) meta) ∙ is)

pub none_at_zero : (p : ℕ) (n : NodeView) → Reached n → LiesAt p n (record { page = 0; index = 0 }) → ⊥
none_at_zero p n reached lies =
    let k = known_world n reached in
    let found = lies n (goes_none p n) k.world k.facts k.agrees in
    none_in_meta (pages_now n.run.opening k.world 0) 0 found.0 (known_tree n k).meta found.1

-- ---- transactions

-- a transaction with version 0 was never begun
pub none_begun : (n : NodeView) (reached : Reached n) (id : TrxId) → id.version ≡ 0 → HasBegun (begun_in (known_world n reached).world.trx id.node) id → ⊥
none_begun n reached id zero_is begun =
    let above = ((known_world n reached).facts.inv.trx.ids.versions id.node (begun_of id begun.0) begun.1).0 in
    omega (arith, zero_is, above)

-- ---- what slots show

pub free_not_active : Free ≡ Active → ⊥
free_not_active e = cc

pub active_not_prep : Active ≡ Prep → ⊥
active_not_prep e = cc

pub active_not_committed : Active ≡ Committed → ⊥
active_not_committed e = cc

pub prep_not_committed : Prep ≡ Committed → ⊥
prep_not_committed e = cc

pub committed_not_active : Committed ≡ Active → ⊥
committed_not_active e = cc

pub committed_not_prep : Committed ≡ Prep → ⊥
committed_not_prep e = cc
