-- Plans over the pages in buffers: what was asked for, and what the plan is over each tree that has what the buffers show.
use Rattle.std.proofs.Common.{◌≡◌, ℕ, zero, suc, ◌+◌, ◌<◌, ◌≤◌, List, [], ◌∷◌, length, slice_get, Option, None, Some, Result, Ok, Err, refl, sym, ap, subst, ◌∙◌, inl, inr, arith, ne_eqb}
use Rattle.std.specs.Prelude.{IfOk, IfErr, OnOk, IsSome}
use Rattle.std.specs.Option.{IfSome}
use Rattle.std.specs.List.{AllByRecursion}
use Rattle.std.proofs.lemmas.Option.{slice_get_within}
use mathlib.Core.Logic.{dite}
use native.Mathlib.Decide.{ℕ_discrete}
use Rattle.mp_model.specs.declared.waiting.NotYet.{NotYet}
use Rattle.mp_cells.specs.declared.changes.Change.{Change}
use Rattle.mp_cells.specs.declared.rows.Row.{Row}
use Rattle.mp_cells.specs.PageView.{PageView}
use Rattle.mp_cells.specs.Plans.{Plan}
use Rattle.mp_cells.specs.Trees.{PageMap, IsTree, one_if, uses, tree_rows, row_at}
use Rattle.mp_cells.specs.Writes.{WellRestore}
use Rattle.mp_core_pages.specs.declared.page_lock.Held.TheVariants.{Write as Exclusive}
use Rattle.mp_page.specs.Pagers.{Handed, Extends}
use Rattle.mp_tree.specs.declared.write.Write.{Write}
use Rattle.mp_tree.specs.declared.write.PlanKind.{PlanKind}
use Rattle.mp_tree.specs.declared.write.PlanRefusal.{PlanRefusal}
use Rattle.mp_tree.specs.declared.write.PlanRefusal.TheVariants as refusals
use Rattle.mp_tree.specs.Planning.{HasUndo, clear_pages}
use Rattle.mp_tree.specs.Searches.{Asks, IsOnPath}
use Rattle.mp_tree.specs.Writing.{AsksPlan, IsFullBy, IsReadOrMeta, IsWrite}
use Rattle.mp_shared.specs.Nodes.{NodeView}
use Rattle.mp_shared.specs.PageSteps.{held_in}
use Rattle.mp_buffer_fusion.specs.declared.buffer.Buffer.{Buffer}
use Rattle.mp_buffer_fusion.specs.Buffers.{buffer_of, IsBuffered}
use Rattle.mp_desk.specs.declared.desk.Desk.{Desk}
use Rattle.mp_desk.specs.declared.pager.Held.{Held}
use Rattle.mp_desk.specs.Desks.{KeepsDesk, KeepsLocks, IsWayTo, shown_by}
use Rattle.mp_desk.specs.Planned.{PlansWrite, PlansBack, RefusesHeld, HasTaken}
use Rattle.mp_desk.proofs.ReachedFacts.{buffer_shown}
use Rattle.mp_desk.proofs.Walking.{ShownTree, shows_before, buffered_on}

-- what was asked for is one of those that may be
used_of : (P : ℕ → Type 0) (n : ℕ) (asked : List ℕ) → 1 ≤ uses n asked → AllByRecursion P asked → P n
used_of P n [] used all = absurd (omega (arith, used))
used_of P n (m ∷ asked) used all =
    dite (ℕ_discrete m n)
    (λ same. subst P same all.0)
    (λ other.
    let rest = ap (λ t. one_if t + uses n asked) (ne_eqb m n other) in
    used_of P n asked (omega (arith, used, rest)) all.1)

-- a pager that hands out what the buffers show, and withholds what they lack
module _ {P : Type 0} (handed : P → Handed) (waits : P → ℕ) (last : P → NotYet) (follows : P → P → Type 0) (withholds : P → ℕ → Type 0) (pool : List Buffer) (old new : P)
    (shows : (n : ℕ) → handed new n ≡ shown_by pool n) (lacks : (n : ℕ) → withholds new n → buffer_of pool n ≡ None) where
  has_handed : (pages : PageMap) → Extends pages (shown_by pool) → Extends pages (handed new)
  has_handed pages e n page is = e n page (sym (shows n) ∙ is)

  pub plans_held : (undo : Option ℕ) (write : Write) (plan : Plan) (result : Result PlanKind PlanRefusal)
      → IfOk result (λ kind. (given : PageMap) → Extends given (handed new) → HasUndo given undo → (height : ℕ) → IsTree given height → IsWrite given height write undo kind plan)
      → OnOk result (PlansWrite pool undo write plan)
  plans_held undo write plan (Ok kind) h = λ pages e has height tree. let w = h pages (has_handed pages e) has height tree in (w.link, w.well)
  plans_held undo write plan (Err refusal) h = tt

  pub refuses_held : (key : ℕ) (undo : Option ℕ) (result : Result PlanKind PlanRefusal) → AsksPlan handed waits last follows withholds (IsReadOrMeta key undo) 5 old new result → IfErr result (λ refusal. IsFullBy (handed new) refusal)
      → IfErr result (RefusesHeld pool key undo)
  refuses_held key undo (Ok kind) asks by = tt
  refuses_held key undo (Err (refusals.Full needed clear)) asks by =
      let b = buffer_shown pool 0 by.0 (sym (shows 0) ∙ by.1) in
      (b.0, b.1, by.2, by.3 ∙ ap (λ (page : PageView). length (clear_pages page)) (sym b.2), by.4)
  refuses_held key undo (Err (refusals.NotYet wait)) asks by =
      let w = asks.withheld in
      (w.0, lacks w.0 w.2, (λ pages e. used_of (IsReadOrMeta key undo pages) w.0 asks.asked w.1 (asks.may pages (has_handed pages e))))

  pub backs_held : (row : Row) (plan : Plan) (number : ℕ) → IsWayTo pool row.key number → (result : Result (Unit {0}) NotYet) → Asks handed waits last follows withholds (IsOnPath row.key) 3 old new result
      → OnOk result ((given : PageMap) → Extends given (handed new) → (height : ℕ) → IsTree given height → IsSome (row_at row.key (tree_rows given height)) → WellRestore given row plan)
      → PlansBack pool row plan
  backs_held row plan number way (Ok done) asks h = λ pages e height tree there. h pages (has_handed pages e) height tree there
  backs_held row plan number way (Err wait) asks h = λ pages e height tree there.
      let w = asks.withheld in
      absurd (way.on_way pages e height tree w.0 (used_of (IsOnPath row.key pages) w.0 asks.asked w.1 (asks.may pages (has_handed pages e))) (lacks w.0 w.2))

-- the way to a leaf stays
pub way_kept : (old new : Desk) → KeepsDesk old new → (key number : ℕ) → IsWayTo old.pool key number → IsWayTo new.pool key number
way_kept old new kept key number way = record {
  end = λ pages e. way.end pages (shows_before old new kept pages e);
  on_way = λ pages e height tree n on. buffered_on old new kept n (way.on_way pages (shows_before old new kept pages e) height tree n on);
}

undo_buffered : (pool : List Buffer) (undo : Option ℕ) → IfSome undo (IsBuffered pool) → (n : ℕ) → undo ≡ Some n → IsBuffered pool n
undo_buffered pool undo here n is = subst (λ (o : Option ℕ). IfSome o (IsBuffered pool)) is here

-- with a buffer for each page on the way, and for the current undo page, only page 0 is lacking
pub lacks_meta : (pool : List Buffer) (key number : ℕ) (undo : Option ℕ) (wait : NotYet) → IsWayTo pool key number → IfSome undo (IsBuffered pool) → ShownTree pool → RefusesHeld pool key undo (refusals.NotYet wait) → buffer_of pool 0 ≡ None
lacks_meta pool key number undo wait way here t refusal = elim (refusal.2 t.pages t.has) [
  | inl (inl on) ↦ absurd (way.on_way t.pages t.has t.height t.tree refusal.0 on refusal.1)
  | inl (inr is) ↦ absurd (undo_buffered pool undo here refusal.0 is refusal.1)
  | inr is ↦ ap (buffer_of pool) (sym is) ∙ refusal.1
]

-- the buffer of the current undo page stays
pub undo_kept : (old new : Desk) → KeepsDesk old new → IfSome old.undo (IsBuffered old.pool) → IfSome new.undo (IsBuffered new.pool)
undo_kept old new kept here = subst (λ (o : Option ℕ). IfSome o (IsBuffered new.pool)) (sym kept.undo) (by_undo old.undo here)
  where
    by_undo : (o : Option ℕ) → IfSome o (IsBuffered old.pool) → IfSome o (IsBuffered new.pool)
    by_undo None h = tt
    by_undo (Some u) h = buffered_on old new kept u h

-- ---- the pager of a desk

abbrev pub held_shows : Held → Handed
held_shows p = shown_by p.pool.now

abbrev pub held_follows : Held → Held → Type 0
held_follows p q = q.pool.now ≡ p.pool.now

abbrev pub held_lacks : Held → ℕ → Type 0
held_lacks p n = buffer_of p.pool.now n ≡ None

module _ (pool : List Buffer) (old new : Held) (first : old.pool.now ≡ pool) where
  module _ (follows : held_follows old new) where
    same_pool : new.pool.now ≡ pool
    same_pool = follows ∙ first

    pub its_shows : (n : ℕ) → held_shows new n ≡ shown_by pool n
    its_shows n = ap (λ (l : List Buffer). shown_by l n) same_pool

    pub its_lacks : (n : ℕ) → held_lacks new n → buffer_of pool n ≡ None
    its_lacks n h = ap (λ (l : List Buffer). buffer_of l n) (sym same_pool) ∙ h

  pub desk_plans : (undo : Option ℕ) (write : Write) (plan : Plan) (result : Result PlanKind PlanRefusal) → held_follows old new
      → IfOk result (λ kind. (given : PageMap) → Extends given (held_shows new) → HasUndo given undo → (height : ℕ) → IsTree given height → IsWrite given height write undo kind plan)
      → OnOk result (PlansWrite pool undo write plan)
  desk_plans undo write plan result follows = plans_held held_shows (λ p. p.waits) (λ p. p.last) held_follows held_lacks pool old new (its_shows follows) (its_lacks follows) undo write plan result

  pub desk_refuses : (key : ℕ) (undo : Option ℕ) (result : Result PlanKind PlanRefusal) → AsksPlan held_shows (λ p. p.waits) (λ p. p.last) held_follows held_lacks (IsReadOrMeta key undo) 5 old new result
      → IfErr result (λ refusal. IsFullBy (held_shows new) refusal) → IfErr result (RefusesHeld pool key undo)
  desk_refuses key undo result asks = refuses_held held_shows (λ p. p.waits) (λ p. p.last) held_follows held_lacks pool old new (its_shows asks.same) (its_lacks asks.same) key undo result asks

  pub desk_backs : (row : Row) (plan : Plan) (number : ℕ) → IsWayTo pool row.key number → (result : Result (Unit {0}) NotYet) → Asks held_shows (λ p. p.waits) (λ p. p.last) held_follows held_lacks (IsOnPath row.key) 3 old new result
      → OnOk result ((given : PageMap) → Extends given (held_shows new) → (height : ℕ) → IsTree given height → IsSome (row_at row.key (tree_rows given height)) → WellRestore given row plan)
      → PlansBack pool row plan
  desk_backs row plan number way result asks = backs_held held_shows (λ p. p.waits) (λ p. p.last) held_follows held_lacks pool old new (its_shows asks.same) (its_lacks asks.same) row plan number way result asks

-- ---- what holds at each place of a list holds of all, and the other way round
pub all_at : {T : Type 0} (P : T → Type 0) (xs : List T) → AllByRecursion P xs → (i : ℕ) (x : T) → slice_get xs i ≡ Some x → P x
all_at P [] all i x is = absurd cc
all_at P (y ∷ xs) all zero x is = let one : y ≡ x = cc in subst P one all.0
all_at P (y ∷ xs) all (suc i) x is = all_at P xs all.1 i x is

pub all_from : {T : Type 0} (P : T → Type 0) (xs : List T) → ((i : ℕ) (x : T) → slice_get xs i ≡ Some x → P x) → AllByRecursion P xs
all_from P [] each = tt
all_from P (y ∷ xs) each = (each zero y refl, all_from P xs (λ i x is. each (suc i) x is))

-- The first changes of a plan, so many, have their pages in buffers, which are the primary's to write
abbrev pub TookFirst : ℕ → List Buffer → Plan → NodeView → ℕ → Type 0
TookFirst p pool plan n count = (i : ℕ) (step : ℕ × Change) → i < count → slice_get plan i ≡ Some step → IsBuffered pool step.0 × (held_in n p step.0 ≡ Exclusive)

pub took_none : (p : ℕ) (pool : List Buffer) (plan : Plan) (n : NodeView) → TookFirst p pool plan n 0
took_none p pool plan n i step below is = absurd (omega (arith, below))

pub took_more : (p : ℕ) (old new : Desk) (plan : Plan) (a b : NodeView) (count : ℕ) (step : ℕ × Change) → KeepsDesk old new → KeepsLocks p a b → TookFirst p old.pool plan a count → slice_get plan count ≡ Some step
    → IsBuffered new.pool step.0 × (held_in b p step.0 ≡ Exclusive) → TookFirst p new.pool plan b (count + 1)
took_more p old new plan a b count step kept locks took at here i other below is =
    dite (ℕ_discrete i count)
    (λ last.
    let both : Some step ≡ Some other = sym at ∙ ap (slice_get plan) (sym last) ∙ is in
    let one : step ≡ other = cc in
    subst (λ (s : ℕ × Change). IsBuffered new.pool s.0 × (held_in b p s.0 ≡ Exclusive)) one here)
    (λ before. let was = took i other (omega (arith, below, before)) is in (buffered_on old new kept other.0 was.0, locks.written other.0 was.1))

pub took_all : (p : ℕ) (pool : List Buffer) (plan : Plan) (n : NodeView) → TookFirst p pool plan n (length plan) → HasTaken p pool plan n
took_all p pool plan n took = all_from (λ (step : ℕ × Change). IsBuffered pool step.0 × (held_in n p step.0 ≡ Exclusive)) plan (λ i step is. took i step (slice_get_within plan i step is) is)
