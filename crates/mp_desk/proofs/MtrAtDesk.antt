-- After an mtr was made and its changes were made in the buffers, the primary is at its desk.
use Rattle.std.proofs.Common.{◌≡◌, ℕ, zero, suc, ◌+◌, ◌<◌, ◌≤◌, ◌==◌, if◌then◌else◌, ◌||◌, ◌⊎◌, Bool, true, false, List, [], ◌∷◌, length, map, Option, Some, refl, sym, ap, subst, ◌∙◌, inl, inr, arith, eq-eqb}
use mathlib.Core.Bool.{false≢true}
use Rattle.std.proofs.lemmas.Bool.{cases_Bool}
use Rattle.std.specs.List.{AllByRecursion}
use Rattle.std.specs.Option.{IfSome}
use Rattle.mp_machine.specs.Lists.{IsIn}
use Rattle.mp_machine.specs.View.{part_in}
use Rattle.mp_cells.specs.declared.changes.Change.{Change}
use Rattle.mp_cells.specs.declared.changes.Change.TheVariants.{MakeUndo}
use Rattle.mp_cells.specs.declared.kinds.Kind.{Kind}
use Rattle.mp_cells.specs.declared.kinds.Kind.TheVariants.{Meta, Leaf, Inner, Undo}
use Rattle.mp_cells.specs.declared.records.Record.{Record}
use Rattle.mp_cells.specs.declared.records.Record.TheVariants as records
use Rattle.mp_cells.specs.declared.records.Mtr.{Mtr}
use Rattle.mp_cells.specs.PageView.{PageView}
use Rattle.mp_cells.specs.Trees.{PageMap, root, Levels, IsTree}
use Rattle.mp_cells.specs.Plans.{Plan, plan_of, touches}
use Rattle.mp_cells.specs.Writes.{IsStep}
use Rattle.mp_cells.proofs.MtrPages.{mtr_touched}
use Rattle.mp_core_pages.specs.declared.page_lock.Held.TheVariants.{Write}
use Rattle.mp_core_pages.specs.declared.part.Placed.{Placed}
use Rattle.mp_core_pages.specs.Histories.{Touches}
use Rattle.mp_core_pages.specs.PageEvents.{with_mtr}
use Rattle.mp_core.specs.declared.part.CorePart.{CorePart}
use Rattle.mp_core.specs.Contents.{page_ops}
use Rattle.mp_core.specs.CoreExtends.{CoreExtends}
use Rattle.mp_core.specs.OwnMtrs.{TrxMtr, trx_of_mtr, trx_mtrs}
use Rattle.mp_core.proofs.Pages.{touched_same}
use Rattle.mp_facts.specs.Facts.{MadeUndo}
use Rattle.mp_shared.specs.Nodes.{Run, NodeView, Reached}
use Rattle.mp_shared.specs.PageSteps.{held_in}
use Rattle.mp_shared.proofs.Holding.{held_part}
use Rattle.mp_shared.proofs.PageCalls.{pages_changed, part_after}
use Rattle.mp_buffer_fusion.specs.declared.buffer.Buffer.{Buffer}
use Rattle.mp_buffer_fusion.specs.Buffers.{buffer_of, IsBuffered, rewritten_buffer, changed_by, pool_changed, pool_recorded}
use Rattle.mp_buffer_fusion.specs.Agreement.{AgreesWith}
use Rattle.mp_buffer_fusion.proofs.Buffered.{of_changed_else}
use Rattle.mp_buffer_fusion.proofs.Recorded.{has_recorded, agrees_recorded}
use Rattle.mp_buffer_fusion.proofs.Visiting.{one_part}
use Rattle.mp_supports.specs.Steps.{MadeOne}
use Rattle.mp_supports.specs.Agreement.{HasMadeUndo}
use Rattle.mp_supports.proofs.Extending.{placed_in}
use Rattle.mp_supports.proofs.Keeping.{if_some_map}
use Rattle.mp_desk.specs.declared.desk.Desk.{Desk}
use Rattle.mp_desk.specs.Desks.{DeskAgrees, IsAtDesk, KeepsLocks}
use Rattle.mp_desk.specs.Making.{MakesMtr, HasSamePages, IsUndoAfter}
use Rattle.mp_desk.proofs.ReachedFacts.{known_world, known_tree}
use Rattle.mp_desk.proofs.Moving.{moves_as, holds_on, locks_pages, locks_same}
use Rattle.mp_desk.proofs.BufferPlans.{has_buffer, buffered_changed}

-- ---- buffers after the records of an mtr

changed_else : (llsn page : ℕ) (change : Change) (pool : List Buffer) (k : ℕ) → ¬ (k ≡ page) → buffer_of (pool_changed llsn page change pool) k ≡ buffer_of pool k
changed_else llsn page change pool k other = of_changed_else (λ b. rewritten_buffer (changed_by llsn change b.page) b) (λ _. refl) pool page k other

-- a page that no record touches has its buffer as it was
recorded_else : (llsn : ℕ) (items : List Record) (pool : List Buffer) (k : ℕ) → touches k (plan_of items) ≡ false → buffer_of (pool_recorded llsn items pool) k ≡ buffer_of pool k
recorded_else llsn [] pool k apart = refl
recorded_else llsn (records.Commit id cts ∷ items) pool k apart = recorded_else llsn items pool k apart
recorded_else llsn (records.Page page prev change ∷ items) pool k apart =
    let t = touches k (plan_of items) in
    let both = neither (k == page) t apart in
    recorded_else llsn items (pool_changed llsn page change pool) k both.1
    ∙ changed_else llsn page change pool k (λ same. false≢true (sym both.0 ∙ eq-eqb k page same))
  where
    neither : (s t : Bool) → (s || t) ≡ false → (s ≡ false) × (t ≡ false)
    neither true t e = absurd (false≢true (sym e))
    neither false t e = (refl, e)

length_mapped : (f : Buffer → Buffer) (pool : List Buffer) → length (map f pool) ≡ length pool
length_mapped f [] = refl
length_mapped f (b ∷ pool) = ap suc (length_mapped f pool)

pub same_pages : (llsn : ℕ) (items : List Record) (pool : List Buffer) → HasSamePages pool (pool_recorded llsn items pool)
same_pages llsn [] pool = record { count = refl; kept = λ k is. is }
same_pages llsn (records.Commit id cts ∷ items) pool = same_pages llsn items pool
same_pages llsn (records.Page page prev change ∷ items) pool =
    let rest = same_pages llsn items (pool_changed llsn page change pool) in
    record {
      count = rest.count ∙ length_mapped (λ (b : Buffer). if page == b.number then rewritten_buffer (changed_by llsn change b.page) b else b) pool;
      kept = λ k is. rest.kept k (buffered_changed llsn page change pool k is);
    }

-- ---- undo pages

root_kind : (pages : PageMap) (height : ℕ) → Levels pages height (root ∷ []) → ((pages 1).kind ≡ Leaf) ⊎ ((pages 1).kind ≡ Inner)
root_kind pages zero levels = inl levels.0
root_kind pages (suc height) levels = inr levels.0.0

meta_not_undo : (k : Kind) → k ≡ Meta → k ≡ Undo → ⊥
meta_not_undo k meta undo = let both : Meta ≡ Undo = sym meta ∙ undo in cc

tree_not_undo : (k : Kind) → (k ≡ Leaf) ⊎ (k ≡ Inner) → k ≡ Undo → ⊥
tree_not_undo k (inl leaf) undo = let both : Leaf ≡ Undo = sym leaf ∙ undo in cc
tree_not_undo k (inr inner) undo = let both : Inner ≡ Undo = sym inner ∙ undo in cc

two_at_least : (n : ℕ) → ¬ (n ≡ 0) → ¬ (n ≡ 1) → 2 ≤ n
two_at_least zero some more = absurd (some refl)
two_at_least (suc zero) some more = absurd (more refl)
two_at_least (suc (suc n)) some more = omega arith

-- an undo page isn't the meta page or the root
undo_page_least : (pages : PageMap) (height n : ℕ) → IsTree pages height → (pages n).kind ≡ Undo → 2 ≤ n
undo_page_least pages height n tree is =
    two_at_least n
    (λ zero_is. meta_not_undo (pages 0).kind tree.meta (ap (λ (k : ℕ). (pages k).kind) (sym zero_is) ∙ is))
    (λ one_is. tree_not_undo (pages 1).kind (root_kind pages height tree.levels) (ap (λ (k : ℕ). (pages k).kind) (sym one_is) ∙ is))

step_within : (plan : Plan) → AllByRecursion IsStep plan → (step : ℕ × Change) → IsIn step plan → step.0 < 4096
step_within [] steps step there = absurd there
step_within (s ∷ plan) steps step (inl is) = subst (λ (x : ℕ × Change). x.0 < 4096) (sym is) steps.0.0
step_within (s ∷ plan) steps step (inr there) = step_within plan steps.1 step there

-- a page that the last mtr of the part made an undo page is at least 2
made_undo_least : (n : NodeView) → Reached n → (p : ℕ) (q : CorePart) → part_in n.parts p ≡ Some q → (page : ℕ) → MadeUndo (trx_mtrs q.pages.made) page → 2 ≤ page
made_undo_least n reached p q has page made =
    let known = known_world n reached in
    let there = subst (λ (r : CorePart). MadeUndo (trx_mtrs r.pages.made) page) (sym (known.agrees p q has)) made in
    undo_page_least _ _ page (known_tree n known) (known.facts.of_present.undo_kind p page there)

-- ---- the desk

module _ (run : Run) (desk : Desk) (p : ℕ) (n : NodeView) (at : IsAtDesk run desk p n) (m : Mtr) (llsn_is : m.llsn ≡ desk.llsn + 1)
    (taken : (k : ℕ) → touches k (plan_of m.records) ≡ true → IsBuffered desk.pool k × (held_in n p k ≡ Write)) (steps : AllByRecursion IsStep (plan_of m.records))
    (x : Placed Mtr) (its : x.mtr ≡ m) (later : NodeView) (made : MakesMtr p x n later) (reached : Reached later) where
  abbrev q : CorePart
  q = (held_part n p at.part).0

  has : part_in n.parts p ≡ Some q
  has = (held_part n p at.part).1

  abbrev r : CorePart
  r = pages_changed (with_mtr x.at x.mtr) 1 q

  has_after : part_in later.parts p ≡ Some r
  has_after = ap (λ (y : NodeView). part_in y.parts p) made.becomes ∙ part_after n p q has (with_mtr x.at x.mtr) 1

  step : MadeOne x q r
  step = let now = made.moves.mine q has in subst (MadeOne x q) (one_part (part_in later.parts p) now.0 r now.1 has_after) now.2

  abbrev pool : List Buffer
  pool = pool_recorded m.llsn m.records desk.pool

  buffered : (k : ℕ) → Touches page_ops m k → IsBuffered desk.pool k
  buffered k touch = (taken k (sym (touched_same k m.records) ∙ touch)).0

  pool_agrees : AgreesWith pool r.pages
  pool_agrees =
      subst (λ (y : Mtr). AgreesWith pool (with_mtr x.at y q.pages)) (sym its)
      (agrees_recorded desk.pool q.pages x.at m (at.agrees q has).pool buffered)

  some_same : (o : Option Buffer) (b c : Buffer) → o ≡ Some b → o ≡ Some c → b ≡ c
  some_same o b c first second = let both : Some b ≡ Some c = sym first ∙ second in cc

  seen : (k : ℕ) (b : Buffer) → buffer_of pool k ≡ Some b → b.page.llsn ≤ m.llsn
  seen k b is = elim (cases_Bool (touches k (plan_of m.records))) [
    | inl touch ↦
        let was = has_buffer (buffer_of desk.pool k) (taken k touch).0 in
        let now = has_recorded desk.pool m k was.0 was.1 in
        let same = ap (λ (y : Buffer). y.page.llsn) (some_same (buffer_of pool k) b now.0 is now.1) in
        let page = ap (λ (y : PageView). y.llsn) now.2 in
        let llsn = mtr_touched m (λ _. (was.0).page) k touch in
        omega (arith, same, page, llsn)
    | inr apart ↦
        let below = (at.agrees q has).seen k b (sym (recorded_else m.llsn m.records desk.pool k apart) ∙ is) in
        omega (arith, below, llsn_is)
  ]

  same_locks : (j : ℕ) → held_in later p j ≡ held_in n p j
  same_locks j = locks_pages p n later q has (with_mtr x.at x.mtr) 1 refl made.becomes j

  pub mtr_locks : KeepsLocks p n later
  mtr_locks = locks_same p n later same_locks

  written : (k : ℕ) (b : Buffer) → buffer_of pool k ≡ Some b → b.clean ≡ false → held_in later p k ≡ Write
  written k b is dirty = elim (cases_Bool (touches k (plan_of m.records))) [
    | inl touch ↦ same_locks k ∙ (taken k touch).1
    | inr apart ↦ same_locks k ∙ at.written k b (sym (recorded_else m.llsn m.records desk.pool k apart) ∙ is) dirty
  ]

  abbrev IsUndoOf : CorePart → ℕ → Type 0
  IsUndoOf s page = (2 ≤ page) × (page < 4096) × HasMadeUndo s page

  new_undo : (page : ℕ) → IsIn (page, MakeUndo) (plan_of m.records) → IsUndoOf r page
  new_undo page there =
      let in_mtr = subst (λ (y : Mtr). IsIn (page, MakeUndo) (plan_of y.records)) (sym its) there in
      let newest : TrxMtr = record { at = x.at; of = trx_of_mtr q.pages.made x.mtr; mtr = x.mtr } in (
        made_undo_least later reached p r has_after page (newest, inl refl, in_mtr),
        step_within (plan_of m.records) steps (page, MakeUndo) there,
        (x, inl refl, in_mtr),
      )

  undo_kept : (o : Option ℕ) → IfSome o (IsUndoOf q) → IfSome o (IsUndoOf r)
  undo_kept o was = if_some_map (IsUndoOf q) (IsUndoOf r) o (λ page u. (u.0, u.1, (u.2.0, placed_in q r step.extends u.2.0 u.2.1, u.2.2))) was

  undo_after : (new : Option ℕ) → IsUndoAfter (plan_of m.records) desk.undo new → IfSome new (IsUndoOf r)
  undo_after new (inl made_now) = subst (λ (o : Option ℕ). IfSome o (IsUndoOf r)) (sym made_now.1) (new_undo made_now.0 made_now.2)
  undo_after new (inr kept) = subst (λ (o : Option ℕ). IfSome o (IsUndoOf r)) (sym kept.0) (undo_kept desk.undo (at.agrees q has).undo_page)

  extends_made : (a b : CorePart) → MadeOne x a b → CoreExtends a b
  extends_made a b h = h.extends

  pub mtr_at_desk : (new : Desk) → new.pool ≡ pool → new.llsn ≡ m.llsn → IsUndoAfter (plan_of m.records) desk.undo new.undo → IsAtDesk run new p later
  mtr_at_desk new pool_is new_llsn undo = record {
    its_run = made.moves.run ∙ at.its_run;
    reached = reached;
    part = holds_on p n later (moves_as p (MadeOne x) CoreExtends extends_made n later made.moves) p at.part;
    frames = made.moves.frames ∙ at.frames;
    agrees = λ s there. subst (DeskAgrees new) (one_part (part_in later.parts p) r s has_after there) (record {
      pool = subst (λ l. AgreesWith l r.pages) (sym pool_is) pool_agrees;
      not_below = let same = ap (λ (y : Mtr). y.llsn) its in omega (arith, same, new_llsn);
      not_above = let same = ap (λ (y : Mtr). y.llsn) its in omega (arith, same, new_llsn);
      seen = λ k b is. let below = seen k b (sym (ap (λ l. buffer_of l k) pool_is) ∙ is) in omega (arith, below, new_llsn);
      undo_page = undo_after new.undo undo;
    });
    written = λ k b is dirty. written k b (sym (ap (λ l. buffer_of l k) pool_is) ∙ is) dirty;
  }
