-- Each commit that a slot shows keeps its durable commit record.
use Rattle.std.proofs.Common.{◌≡◌, ℕ, ◌≤◌, List, ◌∷◌, None, Some, refl, sym, ap, subst, arith}
use mathlib.Core.Logic.{dite}
use native.Mathlib.Decide.{ℕ_discrete}
use Rattle.mp_machine.specs.Lists.{pushed}
use Rattle.mp_machine.proofs.Lists.{pushed_here, pushed_else, in_after}
use Rattle.mp_model.specs.declared.ids.TrxId.{TrxId}
use Rattle.mp_cells.specs.declared.records.Mtr.{Mtr}
use Rattle.mp_cells.specs.PageView.{PageView}
use Rattle.mp_core_trx.specs.declared.opening.TrxOpening.{TrxOpening}
use Rattle.mp_core_trx.specs.declared.slot.SlotTag.TheVariants.{Active, Prep, Committed}
use Rattle.mp_core_trx.specs.declared.slot.Shown.{Shown}
use Rattle.mp_core_trx.specs.declared.part.SlotRow.{SlotRow}
use Rattle.mp_core_trx.specs.declared.event.TrxEvent.{TrxEvent}
use Rattle.mp_core_trx.specs.declared.event.TrxEvent.TheVariants.{LoadTso, StoreActive, StorePrep, DrawTso, StoreEnd, LoadTit}
use Rattle.mp_core_trx.specs.Words.{tag_number, shows}
use Rattle.mp_core_trx.specs.Parts.{trx, begun_of, shown_at}
use Rattle.mp_core_trx.specs.Events.{ended, slot_row, trx_node_of}
use Rattle.mp_core_trx.specs.World.{trx_after, slot_rows_in}
use Rattle.mp_core_trx.proofs.Frames.{rows_after, rows_are}
use Rattle.mp_core_pages.specs.declared.part.Placed.{Placed}
use Rattle.mp_core_pages.specs.declared.event.PagesEvent.{PagesEvent}
use Rattle.mp_core_pages.specs.declared.event.PagesEvent.TheVariants.{LockWord, UnlockWord, TakeFrame, GiveFrame, StoreLlsn, StoreDurable}
use Rattle.mp_core_pages.specs.PageParts.{durable_llsn}
use Rattle.mp_core_pages.specs.PageEvents.{pages_node, PagesAsks}
use Rattle.mp_core_pages.specs.PageWorld.{PagesWorld, pages_part, pages_after}
use Rattle.mp_core_pages.proofs.Choices.{if_equal, if_differs}
use Rattle.mp_core_pages.proofs.Growth.{pages_after_extends}
use Rattle.mp_core_pages.proofs.Leaves.{durables_is, durables_after}
use Rattle.mp_core.specs.declared.opening.CoreOpening.{CoreOpening}
use Rattle.mp_core.specs.declared.event.CoreEvent.TheVariants.{Trx}
use Rattle.mp_core.specs.Contents.{page_ops}
use Rattle.mp_core.specs.Commits.{HasDurableRecord}
use Rattle.mp_core.specs.World.{CoreWorld, core_part, CoreAllowed}
use Rattle.mp_core.specs.Invariant.{CommitsDurable, CoreInv}

-- what holds of all that slots show holds still once one row more is stored, if it holds of that
module _ (P : ℕ → ℕ → Shown → Type 0) (rows : ℕ → List SlotRow) (all : (m slot : ℕ) → P m slot (shown_at (rows m) slot)) (n : ℕ) (row : SlotRow) (new : P n row.slot row.shown) where
  shown_in : (slot : ℕ) → P n slot (shown_at (row ∷ rows n) slot)
  shown_in slot =
      dite (ℕ_discrete slot row.slot)
      (λ same. subst (λ j. P n j (shown_at (row ∷ rows n) j)) (sym same) (subst (λ x. P n row.slot x) (sym (if_equal row.slot row.slot row.shown (shown_at (rows n) row.slot) refl)) new))
      (λ other. subst (λ x. P n slot x) (sym (if_differs slot row.slot row.shown (shown_at (rows n) slot) other)) (all n slot))

  shown_pushed : (m slot : ℕ) → P m slot (shown_at (pushed rows n row m) slot)
  shown_pushed m slot =
      dite (ℕ_discrete m n)
      (λ same. subst (λ j. P j slot (shown_at (pushed rows n row j) slot)) (sym same) (subst (λ l. P n slot (shown_at l slot)) (sym (pushed_here rows n row)) (shown_in slot)))
      (λ other. subst (λ l. P m slot (shown_at l slot)) (sym (pushed_else rows n row m other)) (all m slot))

-- a commit that is shown has its durable record
abbrev ShownDurably : ℕ → (ℕ → List (Placed Mtr)) → (ℕ → List ℕ) → ℕ → ℕ → Shown → Type 0
ShownDurably base made durables n slot x = (version cts : ℕ) → x ≡ shows Committed version cts → HasDurableRecord base (made n) (durables n) (trx n slot version) cts

module _ (o : CoreOpening) (w : CoreWorld) (i : CoreInv o w) where
  abbrev Durably : ℕ → ℕ → Shown → Type 0
  Durably = ShownDurably o.trx.base.llsn w.pages.made w.pages.durables

  not_committed : (n slot : ℕ) (x : Shown) → ¬ (tag_number x.tag ≡ 3) → Durably n slot x
  not_committed n slot x other version cts is = absurd (other (ap (λ (y : Shown). tag_number y.tag) is))

  -- the record that the end of a transaction asks for
  committed : (n : ℕ) (id : TrxId) (c : ℕ) → id.node ≡ n → HasDurableRecord (w.trx.part n).opening.base.llsn (w.pages.made n) (w.pages.durables n) id c → Durably n id.slot (shows Committed id.version c)
  committed n id c own has version cts is =
      let same : id ≡ trx n id.slot version = λ j. trx (own j) id.slot (ap (λ (y : Shown). y.version) is j) in
      subst (λ (t : ℕ). HasDurableRecord o.trx.base.llsn (w.pages.made n) (w.pages.durables n) (trx n id.slot version) t) (ap (λ (y : Shown). y.cts) is)
      (subst (λ (d : TrxId). HasDurableRecord o.trx.base.llsn (w.pages.made n) (w.pages.durables n) d c) same
      (subst (λ (x : TrxOpening). HasDurableRecord x.base.llsn (w.pages.made n) (w.pages.durables n) id c) (i.trx.carried n) has))

  shown_after : (e : TrxEvent) → CoreAllowed (core_part w (trx_node_of e)) (Trx e) → (n slot : ℕ) → Durably n slot (shown_at (rows_after w.trx e n) slot)
  shown_after (LoadTso n) may = i.records
  shown_after (StoreActive n id) may = shown_pushed Durably (slot_rows_in w.trx) i.records n (slot_row id (shows Active id.version 0)) (not_committed n id.slot (shows Active id.version 0) (λ e. absurd (omega (arith, e))))
  shown_after (StorePrep n id) may = shown_pushed Durably (slot_rows_in w.trx) i.records n (slot_row id (shows Prep id.version 0)) (not_committed n id.slot (shows Prep id.version 0) (λ e. absurd (omega (arith, e))))
  shown_after (DrawTso n id) may = i.records
  shown_after (StoreEnd n id (Some c)) may =
      let begun = may.0.1.0.0 in
      shown_pushed Durably (slot_rows_in w.trx) i.records n (slot_row id (ended id (Some c))) (committed n id c (i.trx.ids.own n (begun_of id begun.0) begun.1) may.1)
  shown_after (StoreEnd n id None) may = shown_pushed Durably (slot_rows_in w.trx) i.records n (slot_row id (ended id None)) (not_committed n id.slot (ended id None) (λ e. absurd (omega (arith, e))))
  shown_after (LoadTit n whose slot) may = i.records

  -- a step of transactions
  pub records_trx : (e : TrxEvent) → CoreAllowed (core_part w (trx_node_of e)) (Trx e) → CommitsDurable o.trx.base.llsn (slot_rows_in (trx_after w.trx e)) w.pages.made w.pages.durables
  records_trx e may = subst (λ (rows : ℕ → List SlotRow). CommitsDurable o.trx.base.llsn rows w.pages.made w.pages.durables) (sym (rows_are w.trx e)) (shown_after e may)

-- what is durable stays so
durable_rises : (base known : ℕ) (w : PagesWorld PageView Mtr) (e : PagesEvent PageView Mtr) → PagesAsks page_ops base (pages_part w (pages_node e)) e → (n : ℕ) → durable_llsn base (w.durables n) ≤ durable_llsn base (durables_after page_ops known w e n)
durable_rises base known w (LockWord m k old new) may n = omega arith
durable_rises base known w (UnlockWord m k) may n = omega arith
durable_rises base known w (TakeFrame m k) may n = omega arith
durable_rises base known w (GiveFrame m k y) may n = omega arith
durable_rises base known w (StoreLlsn m x) may n = omega arith
durable_rises base known w (StoreDurable m v) may n =
    dite (ℕ_discrete n m)
    (λ same. subst (λ j. durable_llsn base (w.durables j) ≤ durable_llsn base (pushed w.durables m v j)) (sym same) (subst (λ l. durable_llsn base (w.durables m) ≤ durable_llsn base l) (sym (pushed_here w.durables m v)) may.0))
    (λ other. subst (λ l. durable_llsn base (w.durables n) ≤ durable_llsn base l) (sym (pushed_else w.durables m v n other)) (omega arith))

-- a step on pages
pub records_pages : (base known : ℕ) (rows : ℕ → List SlotRow) (w : PagesWorld PageView Mtr) (e : PagesEvent PageView Mtr) → PagesAsks page_ops base (pages_part w (pages_node e)) e → CommitsDurable base rows w.made w.durables
    → CommitsDurable base rows (pages_after page_ops known w e).made (pages_after page_ops known w e).durables
records_pages base known rows w e may all n slot version cts is =
    let r = all n slot version cts is in
    let rises = durable_rises base known w e may n in
    let same : durable_llsn base ((pages_after page_ops known w e).durables n) ≡ durable_llsn base (durables_after page_ops known w e n) = ap (λ (d : ℕ → List ℕ). durable_llsn base (d n)) (durables_is page_ops known w e) in
    record {
      commit = r.commit;
      is_made = in_after (w.made n) ((pages_after page_ops known w e).made n) r.commit (pages_after_extends page_ops known w e n).more_made r.is_made;
      records = r.records;
      durable = let was = r.durable in omega (arith, was, rises, same);
    }
