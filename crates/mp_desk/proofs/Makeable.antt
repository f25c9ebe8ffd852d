-- A plan whose pages are taken may be made: the step may come, and the buffers can be changed.
use Rattle.std.proofs.Common.{◌≡◌, ℕ, ◌+◌, ◌^◌, ◌<◌, ◌≤◌, ◌⊎◌, true, false, List, [], ◌∷◌, length, Option, None, Some, refl, sym, ap, subst, ◌∙◌, inl, inr, ⊎_elim, arith}
use Rattle.std.proofs.lemmas.Bool.{cases_Bool}
use Rattle.std.specs.List.{AllByRecursion}
use Rattle.std.specs.Option.{option_map}
use Rattle.mp_machine.specs.View.{part_in}
use Rattle.mp_cells.specs.declared.records.Mtr.{Mtr}
use Rattle.mp_cells.specs.declared.rows.Row.{Row}
use Rattle.mp_cells.specs.PageView.{PageView, blank_page, SameContent}
use Rattle.mp_cells.specs.Mtrs.{IsMtr}
use Rattle.mp_cells.specs.Trees.{PageMap, height_of}
use Rattle.mp_cells.specs.Plans.{Plan, page_or, plan_of, touches, Meets, MeetsAll, of_page, AgreesOn}
use Rattle.mp_cells.specs.Writes.{IsStep, rows_put}
use Rattle.mp_cells.proofs.ByPage.{Meets-pages, Meets-from_pages}
use Rattle.mp_cells.proofs.Links.{agrees_where, agrees_there}
use Rattle.mp_cells.proofs.MtrPages.{of_page-untouched}
use Rattle.mp_core_trx.specs.Events.{IsNode}
use Rattle.mp_core_pages.specs.declared.opening.TheConstants.{MOST_MTRS}
use Rattle.mp_core_pages.specs.declared.page_lock.Held.TheVariants.{Write}
use Rattle.mp_core_pages.specs.declared.event.PagesEvent.TheVariants.{StoreLlsn}
use Rattle.mp_core_pages.specs.Histories.{Touches, llsn_at}
use Rattle.mp_core_pages.specs.PageEvents.{MayTouch, MayMake}
use Rattle.mp_core_pages.specs.PageParts.{content_at}
use Rattle.mp_core.specs.declared.part.CorePart.{CorePart}
use Rattle.mp_core.specs.declared.event.CoreEvent.TheVariants.{Pages}
use Rattle.mp_core.specs.Contents.{page_ops, contents_of}
use Rattle.mp_core.specs.MtrKinds.{MayPut, MayRestore, MayLog}
use Rattle.mp_core.proofs.Pages.{touched_same}
use Rattle.mp_facts.specs.Facts.{pages_now}
use Rattle.mp_shared.specs.Nodes.{Run, NodeView, MayTake}
use Rattle.mp_shared.specs.PageSteps.{held_in}
use Rattle.mp_shared.proofs.Holding.{held_part}
use Rattle.mp_shared.proofs.Numbered.{numbered}
use Rattle.mp_buffer_fusion.specs.declared.buffer.Buffer.{Buffer}
use Rattle.mp_buffer_fusion.specs.Buffers.{buffer_of, IsBuffered}
use Rattle.mp_buffer_fusion.proofs.Visiting.{held_is}
use Rattle.mp_desk.specs.declared.desk.Desk.{Desk}
use Rattle.mp_desk.specs.Desks.{IsAtDesk, DeskAgrees}
use Rattle.mp_desk.specs.Planned.{HasTaken}
use Rattle.mp_desk.specs.Making.{llsn_in, CanChangeBuffers, mtr_of_plan, MayPlan}
use Rattle.mp_desk.proofs.ReachedFacts.{KnownWorld, known_world, known_tree, known_content, shown_buffer}
use Rattle.mp_desk.proofs.PlanRecords.{plan_of_records, of_touched, prevs_fit, are_records}
use Rattle.mp_desk.proofs.BufferPlans.{has_buffer, can_change}
use Rattle.mp_desk.proofs.MtrMade.{llsn_fits}

-- a plan that can be applied to pages can be applied to others that are the same where it changes them
by_touch : (plan : Plan) (a b : PageMap) (n : ℕ) → AgreesOn plan a b → MeetsAll (of_page n plan) (b n) → (touches n plan ≡ true) ⊎ (touches n plan ≡ false) → MeetsAll (of_page n plan) (a n)
by_touch plan a b n same meets (inl touch) = subst (MeetsAll (of_page n plan)) (agrees_there plan a b n same touch) meets
by_touch plan a b n same meets (inr apart) = subst (λ l. MeetsAll l (a n)) (sym (of_page-untouched plan n apart)) tt

pub meets_else : (plan : Plan) (a b : PageMap) → AgreesOn plan a b → Meets plan b → Meets plan a
meets_else plan a b same meets = Meets-from_pages plan a (λ n. by_touch plan a b n same (Meets-pages plan b meets n) (cases_Bool (touches n plan)))

-- a plan that puts a row has a step
some_put : (plan : Plan) (row : Row) → rows_put plan ≡ row ∷ [] → 1 ≤ length plan
some_put [] row e = absurd (cc)
some_put (step ∷ plan) row e = omega arith

most_seen : (pool : List Buffer) (k most : ℕ) → ((b : Buffer) → buffer_of pool k ≡ Some b → b.page.llsn ≤ most) → (o : Option Buffer) → buffer_of pool k ≡ o → llsn_in pool k ≤ most
most_seen pool k most seen None is = let none : llsn_in pool k ≡ 0 = ap (λ (o : Option Buffer). llsn_at page_ops (option_map (λ (b : Buffer). b.page) o)) is in omega (arith, none)
most_seen pool k most seen (Some b) is = let one : llsn_in pool k ≡ b.page.llsn = ap (llsn_at page_ops) (shown_buffer pool k b is) in let below = seen b is in omega (arith, one, below)

-- What a plan is, over the pages of a world that agrees with its primary's part
record Applies (plan : Plan) (pages : PageMap) : Type 0 where
  steps : AllByRecursion IsStep plan
  meets : Meets plan pages
  some : 1 ≤ length plan

module _ (run : Run) (desk : Desk) (p : ℕ) (n : NodeView) (at : IsAtDesk run desk p n) (own : desk.mtr.node ≡ p) (taken : HasTaken p desk.pool desk.plan n)
    (may : (q : CorePart) → part_in n.parts p ≡ Some q → MayPlan q desk.plan) where
  abbrev m : Mtr
  m = mtr_of_plan desk

  abbrev q : CorePart
  q = (held_part n p at.part).0

  has : part_in n.parts p ≡ Some q
  has = (held_part n p at.part).1

  node : IsNode q.trx.opening p
  node = (held_part n p at.part).2

  agrees : DeskAgrees desk q
  agrees = at.agrees q has

  abbrev known : KnownWorld n
  known = known_world n at.reached

  abbrev pages : PageMap
  pages = pages_now n.run.opening known.world

  pub taken_page : (k : ℕ) → touches k desk.plan ≡ true → IsBuffered desk.pool k × (held_in n p k ≡ Write)
  taken_page k touch = of_touched (λ k. IsBuffered desk.pool k × (held_in n p k ≡ Write)) desk.plan taken k touch

  buffer : (k : ℕ) → touches k desk.plan ≡ true → (b : Buffer) × (buffer_of desk.pool k ≡ Some b)
  buffer k touch = has_buffer (buffer_of desk.pool k) (taken_page k touch).0

  content : (k : ℕ) (b : Buffer) → buffer_of desk.pool k ≡ Some b → content_at page_ops q.pages.contents k ≡ Some b.page
  content k b is = agrees.pool.shows k b is

  in_world : (k : ℕ) (b : Buffer) → buffer_of desk.pool k ≡ Some b → (k < 4096) × (b.page ≡ pages k)
  in_world k b is = known_content n p q has known.world known.facts known.agrees k b.page (content k b is)

  plan_is : plan_of m.records ≡ desk.plan
  plan_is = plan_of_records m.llsn (llsn_in desk.pool) desk.plan

  touched_here : (k : ℕ) → Touches page_ops m k → touches k desk.plan ≡ true
  touched_here k touch = sym (ap (touches k) plan_is) ∙ sym (touched_same k m.records) ∙ touch

  may_touch : (k : ℕ) → Touches page_ops m k → MayTouch page_ops m.llsn q.pages k
  may_touch k touch =
      let touch_plan = touched_here k touch in
      let b = buffer k touch_plan in
      let seen = agrees.seen k b.0 b.1 in (
        (in_world k b.0 b.1).0,
        sym (held_is n p k q has) ∙ (taken_page k touch_plan).1,
        ((b.0).page, content k b.0 b.1, omega (arith, seen)),
      )

  shown_content : (k : ℕ) → touches k desk.plan ≡ true → llsn_in desk.pool k ≡ llsn_at page_ops (content_at page_ops q.pages.contents k)
  shown_content k touch = let b = buffer k touch in ap (llsn_at page_ops) (shown_buffer desk.pool k b.0 b.1 ∙ sym (content k b.0 b.1))

  module _ (few : length q.pages.made < MOST_MTRS) where
    make : MayMake page_ops q.trx.opening.base.llsn q.pages p m
    make = record {
      own = own;
      above = let below = agrees.not_below in omega (arith, below);
      next = let most = agrees.not_above in omega (arith, most);
      few = few;
      touched = may_touch;
      prevs = prevs_fit m.llsn (llsn_in desk.pool) (λ k. llsn_at page_ops (content_at page_ops q.pages.contents k)) desk.plan shown_content;
    }

    kind : MayPut q m ⊎ MayRestore q m
    kind = may q has m plan_is

    contents_here : (k : ℕ) → touches k desk.plan ≡ true → pages k ≡ contents_of q k
    contents_here k touch =
        let b = buffer k touch in
        sym (in_world k b.0 b.1).1 ∙ sym (ap (λ (x : Option PageView). page_or (blank_page 0) x) (content k b.0 b.1))

    same_pages : AgreesOn (plan_of m.records) (contents_of q) pages
    same_pages = agrees_where (plan_of m.records) (contents_of q) pages (λ k touch. contents_here k (sym (ap (touches k) plan_is) ∙ touch))

    applies_records : Applies (plan_of m.records) pages
    applies_records = elim kind [
      | inl put ↦
          let writes = put.well.writes pages same_pages (height_of pages) (known_tree n known) in
          record { steps = writes.changes; meets = writes.meets; some = some_put (plan_of m.records) put.row put.well.puts }
      | inr restore ↦
          let restores = restore.well.restores pages same_pages (height_of pages) (known_tree n known) in
          record {
            steps = restores.changes;
            meets = restores.meets;
            some = let one = ap (λ (l : Plan). length l) restore.well.one.1 in omega (arith, one);
          }
    ]

    applies : Applies desk.plan pages
    applies = subst (λ (l : Plan). Applies l pages) plan_is applies_records

    pub planned_steps : AllByRecursion IsStep desk.plan
    planned_steps = applies.steps

    pub can_write : CanChangeBuffers (desk.llsn + 1) desk.pool desk.plan
    can_write =
        can_change m.llsn desk.plan desk.pool pages applies.steps applies.meets
        (λ k touch. let b = buffer k touch in (b.0, b.1, subst (λ (y : PageView). SameContent y (b.0).page) (in_world k b.0 b.1).1 refl))

    pub next_llsn : desk.llsn + 1 < 2 ^ 62
    next_llsn = llsn_fits n.run.opening at.reached.fair known.world known.facts.inv p q (known.agrees p q has) m node make

    module _ (count : length desk.plan ≤ 20) where
      pub planned_mtr : IsMtr m
      planned_mtr = record {
        node_least = let one = node.0 in omega (arith, one, own);
        node_most = let most = numbered n at.reached p q has node in omega (arith, most, own);
        llsn_least = omega arith;
        llsn = next_llsn;
        records = are_records m.llsn (llsn_in desk.pool) desk.plan applies.steps (λ k touch. most_seen desk.pool k m.llsn (λ b is. let seen = agrees.seen k b is in omega (arith, seen)) (buffer_of desk.pool k) refl) applies.some count;
      }

      may_log : MayLog q m
      may_log = record {
        mtr = planned_mtr;
        meets = meets_else (plan_of m.records) (contents_of q) pages same_pages applies_records.meets;
        kind = ⊎_elim (λ put. inl put) (λ restore. inr (inl restore)) kind;
      }

      pub may_store : MayTake (Pages (StoreLlsn p m)) n
      may_store = (q, has, (node, make, may_log))
