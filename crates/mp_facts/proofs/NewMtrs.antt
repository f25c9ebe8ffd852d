-- What an mtr that may be made is, over the pages of the world.
use Rattle.std.proofs.Common.{◌≡◌, ℕ, ◌⊎◌, ◌∷◌, [], Option, Some, None, IfSome, refl, subst, inl, inr}
use Rattle.mp_machine.specs.Lists.{IsIn}
use Rattle.mp_model.specs.declared.ids.TrxId.{TrxId}
use Rattle.mp_cells.specs.declared.changes.Change.TheVariants.{RestoreRow}
use Rattle.mp_cells.specs.declared.records.Mtr.{Mtr}
use Rattle.mp_cells.specs.declared.rows.Row.{Row}
use Rattle.mp_cells.specs.Trees.{IsTree, height_of}
use Rattle.mp_cells.specs.Plans.{plan_of}
use Rattle.mp_cells.specs.Writes.{WellPut, WellRestore}
use Rattle.mp_core_trx.specs.declared.slot.SlotTag.TheVariants.{Active, Prep}
use Rattle.mp_core_trx.specs.Parts.{begun_of, draw_of, HasBegun, HasDrawnNothing, Shows}
use Rattle.mp_core_trx.specs.World.{begun_in, slot_rows_in, drawn_in}
use Rattle.mp_core_pages.specs.declared.part.Placed.{Placed}
use Rattle.mp_core_pages.specs.declared.event.PagesEvent.TheVariants.{StoreLlsn}
use Rattle.mp_histories.specs.Histories.{commit_records}
use Rattle.mp_histories.specs.Chains.{row_of_key}
use Rattle.mp_histories.proofs.Contents.{put_else, restore_else}
use Rattle.mp_core.specs.declared.opening.CoreOpening.{CoreOpening}
use Rattle.mp_core.specs.declared.event.CoreEvent.TheVariants.{Pages}
use Rattle.mp_core.specs.MtrKinds.{MayPutOver, MayPut, MayRestore, MayRecordCommit}
use Rattle.mp_core.specs.OwnMtrs.{row_kept_by, row_restored_by, commit_by_mtr, owner_of, first_former, TrxMtr, trx_mtrs}
use Rattle.mp_core.specs.World.{CoreWorld, core_part, CoreAllowed}
use Rattle.mp_core.specs.Invariant.{CoreInv}
use Rattle.mp_facts.specs.Facts.{pages_now}
use Rattle.mp_facts.proofs.MtrShapes.{PutShape, RestoreShape, CommitShape, put_shape, put_no_commit, restore_shape, restore_no_commit, commit_shape}
use Rattle.mp_facts.proofs.Bridges.{agrees_now}
use Rattle.mp_facts.proofs.UndoRecords.{kept_is}

-- a put of an ACTIVE transaction of the node
pub record NewPut (o : CoreOpening) (w : CoreWorld) (n : ℕ) (m : Mtr) : Type 0 where
  pub row : Row
  pub kept : Row
  pub id : TrxId
  pub shape : PutShape m row kept
  pub by : row.writer ≡ Some id
  pub own : id.node ≡ n
  pub begun : HasBegun (begun_in w.trx n) id
  pub active : Shows (slot_rows_in w.trx n) id Active
  pub drew_nothing : HasDrawnNothing (drawn_in w.trx n) id
  pub well : WellPut (pages_now o w) row (plan_of m.records)
  pub no_commit : commit_records m.records ≡ []
  pub replaced : kept ≡ row_of_key (pages_now o w) row.key
  pub over : MayPutOver (core_part w n) id kept

-- a restore of the row that an ACTIVE transaction's first put of a key replaced
pub record NewRestore (o : CoreOpening) (w : CoreWorld) (n : ℕ) (m : Mtr) : Type 0 where
  pub row : Row
  pub id : TrxId
  pub page : ℕ
  pub shape : RestoreShape m row
  pub own : id.node ≡ n
  pub begun : HasBegun (begun_in w.trx n) id
  pub active : Shows (slot_rows_in w.trx n) id Active
  pub drew_nothing : HasDrawnNothing (drawn_in w.trx n) id
  pub owner : owner_of (w.pages.made n) row.key ≡ Some id
  pub former : first_former (w.pages.made n) id row.key ≡ Some row
  pub one : plan_of m.records ≡ (page, RestoreRow row) ∷ []
  pub well : WellRestore (pages_now o w) row (plan_of m.records)
  pub no_commit : commit_records m.records ≡ []

-- the commit record of a prepared transaction
pub record NewCommit (w : CoreWorld) (n : ℕ) (m : Mtr) : Type 0 where
  pub id : TrxId
  pub cts : ℕ
  pub shape : CommitShape m (draw_of id cts)
  pub own : id.node ≡ n
  pub begun : HasBegun (begun_in w.trx n) id
  pub prepared : Shows (slot_rows_in w.trx n) id Prep
  pub drawn : IsIn (draw_of id cts) (drawn_in w.trx n)
  pub first : (x : Placed Mtr) (c : ℕ) → IsIn x (w.pages.made n) → commit_by_mtr x.mtr ≡ Some (draw_of id c) → ⊥
  pub whole : (t : TrxMtr) → IsIn t (trx_mtrs (w.pages.made n)) → t.of ≡ Some id → row_restored_by t.mtr ≡ None

abbrev pub NewMtr : CoreOpening → CoreWorld → ℕ → Mtr → Type 0
NewMtr o w n m = NewPut o w n m ⊎ (NewRestore o w n m ⊎ NewCommit w n m)

if_some : {A : Type 0} (P : A → Type 0) (x : Option A) (a : A) → x ≡ Some a → IfSome x P → P a
if_some P x a is holds = subst (λ y. IfSome y P) is holds

module _ (o : CoreOpening) (w : CoreWorld) (i : CoreInv o w) (tree : IsTree (pages_now o w) (height_of (pages_now o w))) (n : ℕ) (m : Mtr) (may : CoreAllowed (core_part w n) (Pages (StoreLlsn n m))) where
  own_of : (id : TrxId) → HasBegun (begun_in w.trx n) id → id.node ≡ n
  own_of id begun = i.trx.ids.own n (begun_of id begun.0) begun.1

  nothing_of : (id : TrxId) → HasBegun (begun_in w.trx n) id → Shows (slot_rows_in w.trx n) id Active → HasDrawnNothing (drawn_in w.trx n) id
  nothing_of id begun active = (i.trx.slots n id.slot).active id begun refl active

  new_put : MayPut (core_part w n) m → NewPut o w n m
  new_put p =
      let well = put_else (plan_of m.records) _ (pages_now o w) p.row (agrees_now o w i n _ m may.1) p.well in
      let shape = put_shape m p.row (pages_now o w) well in
      record {
        row = p.row;
        kept = well.keeps.0;
        id = p.id;
        shape = shape;
        by = p.writer;
        own = own_of p.id p.begun;
        begun = p.begun;
        active = p.active;
        drew_nothing = nothing_of p.id p.begun p.active;
        well = well;
        no_commit = put_no_commit m p.row may.2.mtr.records well.puts;
        replaced = kept_is (pages_now o w) (plan_of m.records) p.row well.keeps.0 well tree well.keeps.1;
        over = if_some (MayPutOver (core_part w n) p.id) (row_kept_by m) well.keeps.0 shape.former p.over;
      }

  new_restore : MayRestore (core_part w n) m → NewRestore o w n m
  new_restore p =
      let well = restore_else (plan_of m.records) _ (pages_now o w) p.row (agrees_now o w i n _ m may.1) p.well in
      record {
        row = p.row;
        id = p.id;
        page = well.one.0;
        shape = restore_shape m well.one.0 p.row well.one.1;
        own = own_of p.id p.begun;
        begun = p.begun;
        active = p.active;
        drew_nothing = nothing_of p.id p.begun p.active;
        owner = p.owner;
        former = p.former;
        one = well.one.1;
        well = well;
        no_commit = restore_no_commit m well.one.0 p.row may.2.mtr.records well.one.1;
      }

  new_commit : MayRecordCommit (core_part w n) m → NewCommit w n m
  new_commit p = record {
    id = p.id;
    cts = p.cts;
    shape = commit_shape m (draw_of p.id p.cts) p.records;
    own = own_of p.id p.begun;
    begun = p.begun;
    prepared = p.prepared;
    drawn = p.drawn;
    first = p.first;
    whole = p.whole;
  }

  pub new_mtr : NewMtr o w n m
  new_mtr = elim (may.2.kind) [
    | inl p ↦ inl (new_put p)
    | inr (inl p) ↦ inr (inl (new_restore p))
    | inr (inr p) ↦ inr (inr (new_commit p))
  ]
