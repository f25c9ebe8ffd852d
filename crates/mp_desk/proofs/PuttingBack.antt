-- Why the row that a transaction's first write of a key replaced may be put back, and what that leaves.
use Rattle.std.proofs.Common.{if◌then◌else◌, ◌≡◌, ℕ, ◌<◌, ◌&&◌, Bool, true, false, List, [], ◌∷◌, ◌++◌, slice_get, Option, None, Some, IsSome, refl, sym, ap, subst, ◌∙◌, inl, inr, ⊎_elim}
use Rattle.std.specs.List.{AllByRecursion}
use Rattle.mp_machine.specs.Lists.{IsIn}
use Rattle.mp_machine.specs.Machine.{run, AllAllowed}
use Rattle.mp_machine.specs.View.{part_in}
use Rattle.mp_machine.proofs.Time.{forward}
use Rattle.mp_script.proofs.Lists.{all_map}
use Rattle.mp_model.specs.declared.ids.TrxId.{TrxId}
use Rattle.mp_cells.specs.declared.changes.Change.{Change}
use Rattle.mp_cells.specs.declared.changes.Change.TheVariants.{MakeLeaf, MakeInner, MakeUndo, PutRow, RestoreRow, Cut, PutChild, PutUndo, TakePage}
use Rattle.mp_cells.specs.declared.records.Record.{Record}
use Rattle.mp_cells.specs.declared.records.Mtr.{Mtr}
use Rattle.mp_cells.specs.declared.rows.Row.{Row}
use Rattle.mp_cells.specs.PageView.{PageView, blank_page}
use Rattle.mp_cells.specs.Mtrs.{IsChange}
use Rattle.mp_cells.specs.Plans.{Plan, page_or, plan_of, AgreesOn}
use Rattle.mp_cells.specs.Rows.{IsRow}
use Rattle.mp_cells.specs.Trees.{PageMap, IsTree, row_at, tree_rows, height_of, rows_in}
use Rattle.mp_cells.specs.Writes.{IsStep, WellRestore, rows_put, rows_kept, row_kept, rows_restored, version_of}
use Rattle.mp_cells.proofs.Links.{agrees_itself, agrees_on}
use Rattle.mp_core_trx.specs.declared.slot.SlotTag.TheVariants.{Active}
use Rattle.mp_core_trx.specs.Parts.{begun_of, HasBegun, Shows}
use Rattle.mp_core_trx.specs.World.{begun_in, slot_rows_in}
use Rattle.mp_core_pages.specs.declared.opening.TheConstants.{PAGES}
use Rattle.mp_core_pages.specs.declared.part.Placed.{Placed}
use Rattle.mp_core.specs.declared.opening.CoreOpening.{CoreOpening}
use Rattle.mp_core.specs.declared.event.CoreEvent.{CoreEvent}
use Rattle.mp_core.specs.declared.part.CorePart.{CorePart}
use Rattle.mp_core.specs.Contents.{contents_of}
use Rattle.mp_core.specs.Invariant.{NumbersFit}
use Rattle.mp_core.specs.OwnMtrs.{row_kept_by, row_put_by, row_restored_by, is_row_of, is_id, writer_in, owner_in, committer, commit_by_mtr, or_else_id, or_else_row, owner_of, first_former, trx_of_mtr}
use Rattle.mp_core.specs.World.{CoreWorld, core_part, core}
use Rattle.mp_histories.specs.Chains.{row_over, row_of_key, HasChains, WellMade}
use Rattle.mp_histories.specs.Histories.{History, older, pages_after, Version, rows_of_versions}
use Rattle.mp_histories.proofs.Standing.{has_chains}
use Rattle.mp_facts.specs.Facts.{Facts, opening_pages, pages_now}
use Rattle.mp_facts.proofs.Joint.{Joint, OwnKey, Owned}
use Rattle.mp_facts.proofs.Kept.{joint_in_time}
use Rattle.mp_facts.proofs.RunEntries.{entry_runs}
use Rattle.mp_shared.specs.Nodes.{Run, NodeView, Reached}
use Rattle.mp_shared.proofs.Holding.{held_part}
use Rattle.mp_buffer_fusion.specs.Buffers.{buffer_of, IsBuffered}
use Rattle.mp_buffer_fusion.proofs.Visiting.{one_part}
use Rattle.mp_desk.specs.declared.desk.Desk.{Desk}
use Rattle.mp_desk.specs.Desks.{IsAtDesk, KeepsDesk}
use Rattle.mp_desk.specs.Making.{llsn_in, mtr_of_plan, MayPlan}
use Rattle.mp_desk.specs.Planned.{PlansBack, HasTaken}
use Rattle.mp_desk.specs.Rolling.{IsFormer, IsFormerIn}
use Rattle.mp_desk.proofs.ReachedFacts.{run_facts, run_commits, known_content, world_shows}
use Rattle.mp_desk.proofs.PlanRecords.{plan_of_records}
use Rattle.mp_desk.proofs.BufferPlans.{has_buffer}
use Rattle.mp_desk.proofs.Walking.{shows_before}
use Rattle.mp_desk.proofs.Committing.{mtr_in}

-- ---- what a put keeps is a row

some_other : (row : Row) → None ≡ Some row → ⊥
some_other row e = cc

the_row : (one other : Row) → Some one ≡ Some other → one ≡ other
the_row one other e = cc

kept_by_change : (change : Change) (rest : List Row) (row : Row) → IsChange change → slice_get (row_kept change ++ rest) 0 ≡ Some row → (slice_get rest 0 ≡ Some row → IsRow row) → IsRow row
kept_by_change (MakeLeaf low high rows) rest row is e later = later e
kept_by_change (MakeInner low high children) rest row is e later = later e
kept_by_change MakeUndo rest row is e later = later e
kept_by_change (PutRow r) rest row is e later = later e
kept_by_change (RestoreRow r) rest row is e later = later e
kept_by_change (Cut from) rest row is e later = later e
kept_by_change (PutChild child) rest row is e later = later e
kept_by_change (PutUndo r) rest row is e later = subst IsRow (the_row r row e) is
kept_by_change (TakePage number) rest row is e later = later e

kept_row : (plan : Plan) (row : Row) → AllByRecursion IsStep plan → slice_get (rows_kept plan) 0 ≡ Some row → IsRow row
kept_row [] row steps e = absurd (some_other row e)
kept_row (step ∷ plan) row steps e = kept_by_change step.1 (rows_kept plan) row steps.0.1 e (kept_row plan row steps.1)

-- the first put of a key kept the row

keeps_first : (made : List (Placed Mtr)) (id : TrxId) (key : ℕ) (row : Row) → first_former made id key ≡ Some row → (x : Placed Mtr) × IsIn x made × (row_kept_by x.mtr ≡ Some row)
keeps_first [] id key row e = absurd (some_other row e)
keeps_first (x ∷ made) id key row e =
    by_tests (is_row_of key (row_restored_by x.mtr) && is_id id (trx_of_mtr made x.mtr)) (is_row_of key (row_put_by x.mtr) && is_id id (trx_of_mtr made x.mtr)) (first_former made id key) e (keeps_first made id key row)
  where
    earlier : ((y : Placed Mtr) × IsIn y made × (row_kept_by y.mtr ≡ Some row)) → (y : Placed Mtr) × IsIn y (x ∷ made) × (row_kept_by y.mtr ≡ Some row)
    earlier rest = (rest.0, inr rest.1, rest.2)

    by_tests : (b c : Bool) (before : Option Row) → (if b then None else (if c then or_else_row before (row_kept_by x.mtr) else before)) ≡ Some row
        → (before ≡ Some row → (y : Placed Mtr) × IsIn y made × (row_kept_by y.mtr ≡ Some row)) → (y : Placed Mtr) × IsIn y (x ∷ made) × (row_kept_by y.mtr ≡ Some row)
    by_tests true c before e rest = absurd (some_other row e)
    by_tests false true None e rest = (x, inl refl, e)
    by_tests false true (Some r) e rest = earlier (rest e)
    by_tests false false before e rest = earlier (rest e)

-- each mtr of a history makes steps
made_steps : (opening : PageMap) (made : History) (mtr : Mtr) → WellMade opening made mtr → (height : ℕ) → IsTree (pages_after opening made) height → AllByRecursion IsStep (plan_of mtr.records)
made_steps opening made mtr well height tree = elim well.kind [
  | inl put ↦ (put.well.writes (pages_after opening made) (agrees_itself (plan_of mtr.records) (pages_after opening made)) height tree).changes
  | inr (inl back) ↦ (back.well.restores (pages_after opening made) (agrees_itself (plan_of mtr.records) (pages_after opening made)) height tree).changes
  | inr (inr commit) ↦ subst (λ (l : List Record). AllByRecursion IsStep (plan_of l)) (sym commit.alone) tt
]

-- ---- the row, in the world

run_joint : (o : CoreOpening) (fair : NumbersFit o) (events : List CoreEvent) → AllAllowed (core o) events → Joint o (run (core o) events)
run_joint o fair = forward (core o) (Joint o) (joint_in_time o fair)

version_there : (key : ℕ) (id : TrxId) (o : Option Row) → (version_of key o).writer ≡ Some id → IsSome o
version_there key id None e = absurd cc
version_there key id (Some row) e = refl

module _ (n : NodeView) (reached : Reached n) (p : ℕ) (q : CorePart) (has : part_in n.parts p ≡ Some q) (id : TrxId) (row : Row) (is : IsFormer id row q) where
  abbrev o : CoreOpening
  o = n.run.opening

  abbrev w : CoreWorld
  w = run (core n.run.opening) reached.backed.0

  facts : Facts o w
  facts = run_facts o reached.fair reached.backed.0 reached.backed.1

  joint : Joint o w
  joint = run_joint o reached.fair reached.backed.0 reached.backed.1

  chains : HasChains (opening_pages o) w.pages.history
  chains = (run_commits o reached.fair reached.backed.0 reached.backed.1).chains

  agrees : core_part w p ≡ q
  agrees = reached.backed.2 p q has

  begun_there : HasBegun (w.trx.part p).begun id
  begun_there = subst (λ (r : CorePart). HasBegun r.trx.begun id) (sym agrees) is.begun

  active_there : Shows (w.trx.part p).rows id Active
  active_there = subst (λ (r : CorePart). Shows r.trx.rows id Active) (sym agrees) is.active

  former_there : first_former (w.pages.made p) id row.key ≡ Some row
  former_there = subst (λ (r : CorePart). first_former r.pages.made id row.key ≡ Some row) (sym agrees) is.former

  its_node : id.node ≡ p
  its_node = facts.inv.trx.ids.own p (begun_of id begun_there.0) begun_there.1

  own_key : OwnKey (opening_pages o) w.pages.history (w.pages.made p) id row.key
  own_key =
      subst (λ k. OwnKey (opening_pages o) w.pages.history (w.pages.made k) id row.key) its_node
      (joint.own id row.key (subst (λ k. HasBegun (begun_in w.trx k) id) (sym its_node) begun_there) (inl (subst (λ k. Shows (slot_rows_in w.trx k) id Active) (sym its_node) active_there)))

  owned : Owned (opening_pages o) w.pages.history (w.pages.made p) id row.key
  owned = ⊎_elim (λ own. own) (λ other. absurd (some_other row (sym other.former ∙ former_there))) own_key

  -- its key is the transaction's own
  pub its_owner : owner_of q.pages.made row.key ≡ Some id
  its_owner = subst (λ (r : CorePart). owner_of r.pages.made row.key ≡ Some id) agrees owned.owner

  newest_there : row_of_key (pages_now o w) row.key ≡ owned.newest.row
  newest_there = chains.head row.key ∙ ap (λ (vs : List Version). row_over (rows_of_versions vs) (row_of_key (opening_pages o) row.key)) owned.live

  -- the tree holds the key
  holds_key : IsSome (row_at row.key (tree_rows (pages_now o w) (height_of (pages_now o w))))
  holds_key = version_there row.key id (row_at row.key (rows_in (pages_now o w))) (ap (λ (r : Row). r.writer) newest_there ∙ owned.by)

  -- and the row is one
  pub former_row : IsRow row
  former_row =
      let x = keeps_first (w.pages.made p) id row.key row former_there in
      let k = mtr_in (w.pages.made p) x.0 x.1 in
      let there = facts.of_history.placed p k.0 k.1 in
      let runs = entry_runs (opening_pages o) w.pages.history (k.0).at (k.0).mtr facts.of_versions.runs there.1 in
      let before = older (k.0).at w.pages.history in
      let tree = (has_chains o.trx.base.llsn (opening_pages o) reached.fair.clean before runs.1).tree in
      kept_row (plan_of (k.0).mtr.records) row (made_steps (opening_pages o) before (k.0).mtr runs.0 (height_of (pages_after (opening_pages o) before)) tree) (ap (λ (m : Mtr). row_kept_by m) k.2 ∙ x.2)

-- ---- the plan, at the desk

module _ (run_of : Run) (desk : Desk) (p : ℕ) (n : NodeView) (at : IsAtDesk run_of desk p n) (id : TrxId) (row : Row) (former : IsFormerIn p id row n) (backs : PlansBack desk.pool row desk.plan) where
  abbrev part : CorePart
  part = (held_part n p at.part).0

  has_part : part_in n.parts p ≡ Some part
  has_part = (held_part n p at.part).1

  abbrev pages : PageMap
  pages = pages_now n.run.opening (run (core n.run.opening) at.reached.backed.0)

  there : Facts n.run.opening (run (core n.run.opening) at.reached.backed.0)
  there = facts n at.reached p part has_part id row (former part has_part)

  tree_there : IsTree pages (height_of pages)
  tree_there = (chains n at.reached p part has_part id row (former part has_part)).tree

  world_well : WellRestore pages row desk.plan
  world_well =
      backs pages (world_shows n p part has_part desk.pool (at.agrees part has_part).pool (run (core n.run.opening) at.reached.backed.0) there at.reached.backed.2) (height_of pages) tree_there
      (holds_key n at.reached p part has_part id row (former part has_part))

  pub back_range : AllByRecursion (λ (step : ℕ × Change). step.0 < PAGES) desk.plan
  back_range =
      all_map IsStep (λ (step : ℕ × Change). step.0 < PAGES) desk.plan (λ step s. s.0)
      (world_well.restores pages (agrees_itself desk.plan pages) (height_of pages) tree_there).changes

  module _ (taken : HasTaken p desk.pool desk.plan n) where
    page : ℕ
    page = world_well.one.0

    its_buffer : IsBuffered desk.pool world_well.one.0
    its_buffer = (subst (λ (l : Plan). HasTaken p desk.pool l n) world_well.one.1 taken).0.0

    same_content : contents_of part world_well.one.0 ≡ pages world_well.one.0
    same_content =
        let b = has_buffer (buffer_of desk.pool world_well.one.0) its_buffer in
        let content = (at.agrees part has_part).pool.shows world_well.one.0 b.0 b.1 in
        ap (λ (x : Option PageView). page_or (blank_page 0) x) content
        ∙ (known_content n p part has_part (run (core n.run.opening) at.reached.backed.0) there at.reached.backed.2 world_well.one.0 (b.0).page content).1

    agrees_here : AgreesOn desk.plan pages (contents_of part)
    agrees_here = subst (λ (l : Plan). AgreesOn l pages (contents_of part)) (sym world_well.one.1) (same_content, tt)

    pub back_well : (r : CorePart) → part_in n.parts p ≡ Some r → WellRestore (contents_of r) row desk.plan
    back_well r is =
        subst (λ (x : CorePart). WellRestore (contents_of x) row desk.plan) (one_part (part_in n.parts p) part r has_part is)
        (record { restores = λ given same height tree. world_well.restores given (agrees_on desk.plan pages (contents_of part) given agrees_here same) height tree; one = world_well.one })

-- more buffers show no less
pub backs_on : (old new : Desk) → KeepsDesk old new → new.plan ≡ old.plan → (row : Row) → PlansBack old.pool row old.plan → PlansBack new.pool row new.plan
backs_on old new kept plan row backs = subst (λ (l : Plan). PlansBack new.pool row l) (sym plan) (λ given e. backs given (shows_before old new kept given e))

-- ---- the mtr

module _ (n : NodeView) (reached : Reached n) (p : ℕ) (desk : Desk) (id : TrxId) (row : Row) (former : IsFormerIn p id row n) (well : (q : CorePart) → part_in n.parts p ≡ Some q → WellRestore (contents_of q) row desk.plan) where
  pub may_back : (q : CorePart) → part_in n.parts p ≡ Some q → MayPlan q desk.plan
  may_back q has m is = inr (record {
    row = row;
    id = id;
    owner = its_owner n reached p q has id row (former q has);
    begun = (former q has).begun;
    active = (former q has).active;
    former = (former q has).former;
    well = subst (WellRestore (contents_of q) row) (sym is) (well q has);
  })

  module _ (q : CorePart) (has : part_in n.parts p ≡ Some q) where
    plan_is : plan_of (mtr_of_plan desk).records ≡ ((well q has).one.0, RestoreRow row) ∷ []
    plan_is = plan_of_records (mtr_of_plan desk).llsn (llsn_in desk.pool) desk.plan ∙ (well q has).one.1

    pub back_restored : row_restored_by (mtr_of_plan desk) ≡ Some row
    back_restored = ap (λ (l : Plan). slice_get (rows_restored l) 0) plan_is

    pub back_put : row_put_by (mtr_of_plan desk) ≡ None
    back_put = ap (λ (l : Plan). slice_get (rows_put l) 0) plan_is

    pub back_of : trx_of_mtr q.pages.made (mtr_of_plan desk) ≡ Some id
    back_of =
        ap (λ (x : Option Row). or_else_id (writer_in x) (or_else_id (owner_in q.pages.made (row_restored_by (mtr_of_plan desk))) (committer (commit_by_mtr (mtr_of_plan desk))))) back_put
        ∙ ap (λ (x : Option Row). or_else_id (owner_in q.pages.made x) (committer (commit_by_mtr (mtr_of_plan desk)))) back_restored
        ∙ ap (λ (x : Option TrxId). or_else_id x (committer (commit_by_mtr (mtr_of_plan desk)))) (its_owner n reached p q has id row (former q has))
