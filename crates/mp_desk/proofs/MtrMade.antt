-- What the step that makes an mtr tells.
use Rattle.std.proofs.Common.{◌≡◌, ℕ, ◌^◌, ◌<◌, ◌≤◌, ◌⊎◌, ◌∷◌, length, Some, refl, sym, ap, subst, ◌∙◌, inl, inr, arith}
use Rattle.mp_machine.specs.Lists.{IsIn}
use Rattle.mp_machine.specs.Machine.{run}
use Rattle.mp_machine.specs.View.{part_in}
use Rattle.mp_machine.proofs.Lists.{grows_refl, grows_one, pushed_here}
use Rattle.mp_cells.specs.declared.records.Mtr.{Mtr}
use Rattle.mp_cells.specs.PageView.{PageView}
use Rattle.mp_core_trx.specs.declared.opening.TrxOpening.{TrxOpening}
use Rattle.mp_core_trx.specs.Events.{IsNode}
use Rattle.mp_core_trx.proofs.Growth.{extends_refl}
use Rattle.mp_core_pages.specs.declared.part.ContentStep.TheVariants.{Made}
use Rattle.mp_core_pages.specs.declared.part.GivenPage.{GivenPage}
use Rattle.mp_core_pages.specs.declared.part.Placed.{Placed}
use Rattle.mp_core_pages.specs.declared.event.PagesEvent.TheVariants.{StoreLlsn}
use Rattle.mp_core_pages.specs.Histories.{placed}
use Rattle.mp_core_pages.specs.PageEvents.{with_mtr, MayMake}
use Rattle.mp_core_pages.specs.PageParts.{durable_llsn, last_llsn}
use Rattle.mp_core_pages.specs.PageWorld.{pages_part, pages_after}
use Rattle.mp_core_pages.proofs.Bounds.{llsn_bounded}
use Rattle.mp_core_pages.proofs.Keeps.{keeps_pages}
use Rattle.mp_core.specs.declared.opening.CoreOpening.{CoreOpening}
use Rattle.mp_core.specs.declared.part.CorePart.{CorePart}
use Rattle.mp_core.specs.declared.event.CoreEvent.TheVariants.{Pages}
use Rattle.mp_core.specs.Contents.{page_ops, pages_opening}
use Rattle.mp_core.specs.CoreExtends.{durable_of, IsMadeLater}
use Rattle.mp_core.specs.Invariant.{NumbersFit, CoreInv}
use Rattle.mp_core.specs.OwnMtrs.{TrxMtr, trx_mtrs}
use Rattle.mp_core.specs.World.{CoreWorld, core_part, core}
use Rattle.mp_core.proofs.Downs.{downs_extend_refl}
use Rattle.mp_core.proofs.Law.{law}
use Rattle.mp_core.proofs.Pages.{page_laws, pages_fit}
use Rattle.mp_shared.specs.Nodes.{NodeView, MayTake, TookUnseen}
use Rattle.mp_shared.specs.PageSteps.{with_pages}
use Rattle.mp_shared.proofs.PageCalls.{pages_changed}
use Rattle.mp_shared.proofs.PageTold.{by_pages}
use Rattle.mp_buffer_fusion.proofs.Worlds.{made_below}
use Rattle.mp_supports.specs.Steps.{MadeOne}
use Rattle.mp_supports.specs.Agreement.{last_made_llsn}
use Rattle.mp_desk.specs.Making.{MakesMtr}
use Rattle.mp_desk.proofs.Moving.{moves_pages}

-- the mtr is the one that is new in its part
new_or_old : (x : Placed Mtr) (q : CorePart) → IsMadeLater q x.at → (t : TrxMtr) → IsIn t (trx_mtrs (x ∷ q.pages.made)) → IsIn t (trx_mtrs q.pages.made) ⊎ IsMadeLater q t.at
new_or_old x q later t (inl is) = inr (subst (IsMadeLater q) (sym (ap (λ (m : TrxMtr). m.at) is)) later)
new_or_old x q later t (inr old) = inl old

pub made_one : (q : CorePart) (x : Placed Mtr) → IsMadeLater q x.at → MadeOne x q (pages_changed (with_mtr x.at x.mtr) 1 q)
made_one q x later = record {
  extends = record {
    trx = extends_refl q.trx;
    pages = record {
      more_made = grows_one q.pages.made x;
      more_durables = grows_refl q.pages.durables;
      more_locks = grows_refl q.pages.locks;
      more_frames = grows_refl q.pages.frames;
      more_gave = grows_refl q.pages.gave;
      more_contents = grows_one q.pages.contents (Made x.mtr);
      more_given = grows_refl q.pages.given;
    };
    durable = omega arith;
    made_later = new_or_old x q later;
    given_later = λ g there. inl there;
    downs = downs_extend_refl q.downs;
  };
  trx = refl;
  made = refl;
  durables = refl;
  later = later;
}

-- ---- the LLSNs of mtrs that may be made

module _ (o : CoreOpening) (fair : NumbersFit o) (w : CoreWorld) (i : CoreInv o w) (p : ℕ) (q : CorePart) (is : core_part w p ≡ q) where
  same_opening : q.trx.opening ≡ o.trx
  same_opening = ap (λ (r : CorePart). r.trx.opening) (sym is) ∙ i.trx.carried p

  -- what is durable was made
  pub durable_made : durable_of q ≤ last_made_llsn q
  durable_made =
      subst (λ (r : CorePart). durable_of r ≤ last_made_llsn r) is
      (subst (λ (x : TrxOpening). durable_llsn x.base.llsn (w.pages.durables p) ≤ last_llsn page_ops x.base.llsn (w.pages.made p)) (sym (i.trx.carried p)) (i.pages.mtr_logs.durable p).1)

  -- an mtr that the page core lets the part make has an LLSN in range
  pub llsn_fits : (m : Mtr) → IsNode q.trx.opening p → MayMake page_ops q.trx.opening.base.llsn q.pages p m → m.llsn < 2 ^ 62
  llsn_fits m node may =
      let node_there = subst (λ (x : TrxOpening). IsNode x p) same_opening node in
      let pages_are : q.pages ≡ pages_part w.pages p = ap (λ (r : CorePart). r.pages) (sym is) in
      let may_there : MayMake page_ops o.trx.base.llsn (pages_part w.pages p) p m =
      subst (λ l. MayMake page_ops o.trx.base.llsn l p m) pages_are (subst (λ (x : TrxOpening). MayMake page_ops x.base.llsn q.pages p m) same_opening may) in
      let event = StoreLlsn p m in
      let next = keeps_pages page_ops page_laws (pages_opening o) (pages_fit o fair) 0 w.pages event i.pages node_there may_there in
      let bounded = llsn_bounded page_ops (pages_opening o) (pages_fit o fair) (pages_after page_ops 0 w.pages event) next p in
      let last = ap (last_llsn page_ops o.trx.base.llsn) (pushed_here w.pages.made p (placed (length w.pages.history) m)) in
      let fits = (pages_fit o fair).llsns_fit in
      omega (arith, bounded, last, fits)

-- ---- the step

module _ (before after : NodeView) (p : ℕ) (m : Mtr) (may : MayTake (Pages (StoreLlsn p m)) before) (took : TookUnseen (Pages (StoreLlsn p m)) before after) where
  abbrev at : ℕ
  at = took.1.note.height

  becomes : after ≡ with_pages before p (with_mtr at m) 1
  becomes = took.1.becomes ∙ by_pages before (StoreLlsn p m) took.0 took.1.note (with_mtr at m) (λ q. refl) refl

  fair : NumbersFit before.run.opening
  fair = subst NumbersFit (ap (λ (x : NodeView). x.run.opening) becomes) took.1.reached.fair

  abbrev world : CoreWorld
  world = run (core before.run.opening) took.1.came.events

  world_inv : CoreInv before.run.opening world
  world_inv = law before.run.opening fair took.1.came.events took.1.came.allowed.1

  height_is : length world.pages.history ≡ at
  height_is = ap (λ x. x.height) took.1.came.noted

  above_made : (k : ℕ) (q : CorePart) (x : Placed Mtr) → part_in before.parts k ≡ Some q → IsIn x q.pages.made → x.at < at
  above_made k q x held there =
      let below = (made_below before.run.opening world world_inv k q (took.1.came.agreed k q held) x there).1 in
      omega (arith, below, height_is)

  above_given : (q : CorePart) (g : GivenPage PageView) → part_in before.parts p ≡ Some q → IsIn g q.pages.given → g.height ≤ at
  above_given q g held there =
      let within = (world_inv.pages.given_pages p g (subst (λ (r : CorePart). IsIn g r.pages.given) (sym (took.1.came.agreed p q held)) there)).within in
      omega (arith, within, height_is)

  later : IsMadeLater may.0 at
  later = record { above_made = λ x there. above_made p may.0 x may.1 there; above_given = λ g there. above_given may.0 g may.1 there }

  pub makes_mtr : MakesMtr p (placed at m) before after
  makes_mtr = record {
    becomes = becomes;
    moves = moves_pages p before after may.0 may.1 (MadeOne (placed at m)) (with_mtr at m) 1 becomes (made_one may.0 (placed at m) later);
    after_all = record { above_made = above_made };
  }

  -- what was durable lies below it
  pub above_durable : durable_of may.0 < m.llsn
  above_durable =
      let durable = durable_made before.run.opening fair world world_inv p may.0 (took.1.came.agreed p may.0 may.1) in
      let above = may.2.1.above in
      omega (arith, durable, above)
