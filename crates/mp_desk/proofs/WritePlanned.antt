-- A write that was planned over the buffers puts its row over the pages of each world that can be.
use Rattle.std.proofs.Common.{◌≡◌, ℕ, ◌+◌, ◌<◌, ◌≤◌, true, List, [], ◌∷◌, slice_get, Option, None, Some, IsTrue, refl, sym, ap, subst, ◌∙◌, inl, inr, ⊎_elim, arith}
use Rattle.std.specs.Option.{IfSome}
use Rattle.std.specs.List.{AllByRecursion}
use Rattle.mp_machine.specs.Lists.{IsIn}
use Rattle.mp_machine.specs.View.{part_in, ViewAgrees}
use Rattle.mp_cells.specs.declared.changes.Change.TheVariants.{MakeUndo}
use Rattle.mp_cells.specs.declared.rows.Link.{Link}
use Rattle.mp_cells.specs.declared.rows.Row.{Row}
use Rattle.mp_cells.specs.declared.records.Mtr.{Mtr}
use Rattle.mp_cells.specs.PageView.{PageView, blank_page, bits_set}
use Rattle.mp_cells.specs.Rows.{is_writer}
use Rattle.mp_cells.specs.Trees.{PageMap, height_of}
use Rattle.mp_cells.specs.Plans.{Plan, page_or, plan_of, touches}
use Rattle.mp_cells.specs.Writes.{IsStep, rows_put, rows_kept, rows_restored, WellPut}
use Rattle.mp_cells.proofs.Links.{agrees_where, agrees_there, agrees_itself}
use Rattle.mp_core_trx.specs.declared.part.Begun.{Begun}
use Rattle.mp_core_pages.specs.declared.page_lock.Held.TheVariants.{Write as Exclusive}
use Rattle.mp_core_pages.specs.PageParts.{content_at}
use Rattle.mp_core.specs.declared.part.CorePart.{CorePart}
use Rattle.mp_core.specs.Contents.{page_ops, contents_of}
use Rattle.mp_core.specs.CoreExtends.{CoreExtends}
use Rattle.mp_core.specs.MtrKinds.{MayPutOver}
use Rattle.mp_core.specs.OwnMtrs.{row_kept_by, trx_mtrs}
use Rattle.mp_core.specs.World.{CoreWorld, core_part}
use Rattle.mp_histories.specs.Chains.{row_of_key}
use Rattle.mp_histories.proofs.CleanRows.{version_key}
use Rattle.mp_facts.specs.Facts.{MadeUndo, pages_now, Facts}
use Rattle.mp_facts.proofs.UndoRecords.{kept_is}
use Rattle.mp_tree.specs.declared.write.Write.{Write}
use Rattle.mp_tree.specs.declared.write.PlanRefusal.TheVariants as refusals
use Rattle.mp_tree.specs.Planning.{HasUndo}
use Rattle.mp_tree.specs.Writing.{row_of}
use Rattle.mp_shared.specs.Nodes.{Run, NodeView}
use Rattle.mp_shared.specs.PageSteps.{held_in}
use Rattle.mp_shared.proofs.Holding.{held_part}
use Rattle.mp_shared.proofs.Numbered.{numbered}
use Rattle.mp_buffer_fusion.specs.Buffers.{IsBuffered}
use Rattle.mp_supports.specs.Agreement.{HasMadeUndo}
use Rattle.mp_supports.specs.Seeing.{IsCommittedBelow, IsSeenBy}
use Rattle.mp_supports.proofs.SeesMore.{settled_more}
use Rattle.mp_desk.specs.declared.desk.Desk.{Desk}
use Rattle.mp_desk.specs.declared.halts.WriteHalt.TheVariants as halts
use Rattle.mp_desk.specs.Desks.{IsAtDesk, IsReadAfresh, KeepsDesk, Brings}
use Rattle.mp_desk.specs.Planned.{PlansWrite, RefusesPlan, HasTaken}
use Rattle.mp_desk.specs.Making.{MayPlan}
use Rattle.mp_desk.specs.Statements.{IsReader, ReadsIn}
use Rattle.mp_desk.specs.Writes.{ShowsReplaced, PutsValue, HaltsPlan}
use Rattle.mp_desk.proofs.CommitMade.{ranges_writer}
use Rattle.mp_desk.proofs.Committing.{mtr_in}
use Rattle.mp_desk.proofs.ReachedFacts.{KnownWorld, known_world, known_tree, known_content, world_shows}
use Rattle.mp_desk.proofs.AtDesk.{buffer_in}
use Rattle.mp_desk.proofs.Walking.{shows_before, the_buffer}
use Rattle.mp_desk.proofs.PlanRecords.{of_touched}
use Rattle.mp_desk.proofs.ClearRoom.{few_clear}
use Rattle.mp_desk.proofs.Replaced.{replaced_row}

-- ---- the current undo page

module _ (run : Run) (desk : Desk) (p : ℕ) (n : NodeView) (at : IsAtDesk run desk p n) (w : CoreWorld) (facts : Facts n.run.opening w) (known : ViewAgrees (core_part w) n.parts) where
  made_undo : (number : ℕ) → HasMadeUndo (held_part n p at.part).0 number → MadeUndo (trx_mtrs (w.pages.made p)) number
  made_undo number h =
      let has = held_part n p at.part in
      let there : IsIn h.0 (w.pages.made p) = subst (λ (r : CorePart). IsIn h.0 r.pages.made) (sym (known p has.0 has.1)) h.1 in
      let m = mtr_in (w.pages.made p) h.0 there in
      (m.0, m.1, subst (λ (y : Mtr). IsIn (number, MakeUndo) (plan_of y.records)) (sym m.2) h.2)

  undo_is : (o : Option ℕ) → IfSome o (λ page. (2 ≤ page) × (page < 4096) × HasMadeUndo (held_part n p at.part).0 page) → HasUndo (pages_now n.run.opening w) o
  undo_is None h = tt
  undo_is (Some page) h = facts.of_present.undo_kind p page (made_undo page h.2)

  pub world_undo : HasUndo (pages_now n.run.opening w) desk.undo
  world_undo = let has = held_part n p at.part in undo_is desk.undo (at.agrees has.0 has.1).undo_page

-- ---- plans

pub plans_kept : (old new : Desk) → KeepsDesk old new → new.plan ≡ old.plan → (write : Write) → PlansWrite old.pool old.undo write old.plan → PlansWrite new.pool new.undo write new.plan
plans_kept old new kept same write h = λ pages e undo height tree.
    subst (λ (plan : Plan). (link : Link) × WellPut pages (row_of write link) plan) (sym same)
    (h pages (shows_before old new kept pages e) (subst (HasUndo pages) kept.undo undo) height tree)

steps_range : (plan : Plan) → AllByRecursion IsStep plan → AllByRecursion (λ step. step.0 < 4096) plan
steps_range [] all = tt
steps_range (step ∷ plan) all = (all.0.0, steps_range plan all.1)

module _ (run : Run) (desk : Desk) (p : ℕ) (n : NodeView) (at : IsAtDesk run desk p n) (write : Write) (plans : PlansWrite desk.pool desk.undo write desk.plan) where
  abbrev known : KnownWorld n
  known = known_world n at.reached

  abbrev pages : PageMap
  pages = pages_now n.run.opening known.world

  planned : (link : Link) × WellPut pages (row_of write link) desk.plan
  planned =
      let has = held_part n p at.part in
      plans pages (world_shows n p has.0 has.1 desk.pool (at.agrees has.0 has.1).pool known.world known.facts known.agrees) (world_undo run desk p n at known.world known.facts known.agrees) (height_of pages) (known_tree n known)

  pub plan_range : AllByRecursion (λ step. step.0 < 4096) desk.plan
  plan_range = steps_range desk.plan (planned.1.writes pages (agrees_itself desk.plan pages) (height_of pages) (known_tree n known)).changes

  module _ (former : Row) (shows : ShowsReplaced desk.pool write.key former) where
    keeps_former : rows_kept desk.plan ≡ former ∷ []
    keeps_former =
        let keeps = planned.1.keeps in
        let is : keeps.0 ≡ row_of_key pages write.key = kept_is pages desk.plan (row_of write planned.0) keeps.0 planned.1 (known_tree n known) keeps.1 in
        let same : keeps.0 ≡ former = is ∙ sym (replaced_row run desk p n at write.key former shows known.world known.facts known.agrees) in
        keeps.1 ∙ ap (λ (r : Row). r ∷ []) same

    former_key : former.key ≡ write.key
    former_key = ap (λ (r : Row). r.key) shows.row_is ∙ version_key write.key (shows.leaf).page.rows

    module _ (taken : HasTaken p desk.pool desk.plan n) (q : CorePart) (has : part_in n.parts p ≡ Some q) where
      contents_here : (k : ℕ) → touches k desk.plan ≡ true → pages k ≡ contents_of q k
      contents_here k touch =
          let there = of_touched (λ (j : ℕ). IsBuffered desk.pool j × (held_in n p j ≡ Exclusive)) desk.plan taken k touch in
          let b = the_buffer desk.pool k there.0 in
          let content : content_at page_ops q.pages.contents k ≡ Some (b.0).page = (at.agrees q has).pool.shows k b.0 b.1 in
          sym (known_content n p q has known.world known.facts known.agrees k (b.0).page content).1 ∙ sym (ap (λ (x : Option PageView). page_or (blank_page 0) x) content)

      well_here : WellPut (contents_of q) (row_of write planned.0) desk.plan
      well_here = let well = planned.1 in record {
        writes = λ others agrees.
            well.writes others
            (agrees_where desk.plan pages others (λ k touch. agrees_there desk.plan (contents_of q) others k agrees touch ∙ sym (contents_here k touch)));
        puts = well.puts;
        keeps = well.keeps;
        restores = well.restores;
        taken = well.taken;
      }

      module _ (trx : Begun) (own : write.writer ≡ trx.id) (reads : IsReader p trx q) (over : IsSeenBy q trx.id trx.view former) where
        committed_over : IsCommittedBelow q trx.view former → MayPutOver q trx.id former
        committed_over c = inr (inr (c.writer, c.its_writer, record { load = c.load; loaded = c.is_load.loaded; of = c.is_load.of; slot = c.is_load.slot; cts = c.cts; showed = c.committed }))

        may_over : MayPutOver q trx.id former
        may_over = ⊎_elim (λ own. inr (inl own)) (λ settled. ⊎_elim (λ none. inl none) (λ c. committed_over c) settled) over

        pub may_put : MayPlan q desk.plan
        may_put m is =
            let kept : row_kept_by m ≡ Some former = ap (λ (l : Plan). slice_get (rows_kept l) 0) is ∙ ap (λ (l : List Row). slice_get l 0) keeps_former in
            inl record {
              row = row_of write planned.0;
              id = trx.id;
              writer = ap Some own;
              begun = (trx.view, reads.begun);
              active = reads.active;
              well = subst (WellPut (contents_of q) (row_of write planned.0)) (sym is) well_here;
              over = subst (λ (o : Option Row). IfSome o (MayPutOver q trx.id)) (sym kept) may_over;
            }

        -- what the mtr of the plan puts
        pub puts_value : (r : CorePart) → CoreExtends q r → (m : Mtr) → plan_of m.records ≡ desk.plan → PutsValue r trx write.key write.value former m
        puts_value r e m is =
            let well = planned.1 in
            record {
              row = row_of write planned.0;
              put = ap (λ (l : Plan). slice_get (rows_put l) 0) is ∙ ap (λ (l : List Row). slice_get l 0) well.puts;
              writer = ap Some own;
              its_key = refl;
              value_is = refl;
              not_restored = ap (λ (l : Plan). slice_get (rows_restored l) 0) is ∙ ap (λ (l : List Row). slice_get l 0) well.restores;
              kept = ap (λ (l : Plan). slice_get (rows_kept l) 0) is ∙ ap (λ (l : List Row). slice_get l 0) keeps_former;
              former_key = former_key;
              over = ⊎_elim (λ own. inl own) (λ settled. inr (settled_more q r e trx.view former settled)) over;
            }

-- ---- refusals

pub plan_full : (run : Run) (p most : ℕ) (old new : Desk) (a b : NodeView) (needed clear : ℕ) → IsAtDesk run old p a → IsReadAfresh old p a → Brings most p old new a b → RefusesPlan p new.pool a b (refusals.Full needed clear) → HaltsPlan p a b halts.Full
plan_full run p most old new a b needed clear at afresh brings refused r there =
    let has = held_part a p at.part in
    let was = afresh has.0 has.1 in
    let meta = refused.0 in
    let in_pool = buffer_in new.pool 0 meta refused.1 in
    let g = (brings.given was.0 has.0 r has.1 was.1 was.2 there meta in_pool.0).1 in
    let most_needed = refused.2 in
    let count = refused.3 in
    let less = refused.4 in
    record {
      meta = g.0;
      given = g.1.given;
      number = g.1.number ∙ in_pool.1;
      few = subst (λ (y : PageView). 4096 < bits_set y.bits + 5) (sym g.1.page_is) (few_clear meta.page.bits (omega (arith, most_needed, count, less)));
    }

-- ---- the writer's id

-- an open transaction's id may stand in a row
pub reader_writes : (run : Run) (desk : Desk) (p : ℕ) (n : NodeView) → IsAtDesk run desk p n → (trx : Begun) → ReadsIn p trx n → IsTrue (is_writer trx.id)
reader_writes run desk p n at trx reads =
    let has = held_part n p at.part in
    let q = has.0 in
    let known = known_world n at.reached in
    let reader = reads q has.1 in
    let ids = known.facts.inv.trx.ids in
    let begun : IsIn trx (known.world.trx.part p).begun = subst (λ (r : CorePart). IsIn trx r.trx.begun) (sym (known.agrees p q has.1)) reader.begun in
    let versions = ids.versions p trx begun in
    let slot = ids.slots p trx begun in
    let fits = at.reached.fair.trx.versions_fit in
    let node = has.2 in
    let one = node.0 in
    let most = numbered n at.reached p q has.1 node in
    let its = reader.node in
    let above = versions.0 in
    let below = versions.1 in
    ranges_writer trx.id (omega (arith, one, its)) (omega (arith, most, its)) (omega (arith, slot)) (omega (arith, above)) (omega (arith, below, fits))
