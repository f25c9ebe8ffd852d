-- A transaction that put one value is open still, and is so when its primary let all pages go.
use Rattle.std.proofs.Common.{◌≡◌, ℕ, ◌+◌, List, ◌∷◌, length, Option, None, Some, ◌⊎◌, ⊎_elim, Ok, Err, sym, ap, ◌∙◌, subst, arith}
use Rattle.mp_machine.specs.Lists.{IsIn}
use Rattle.mp_machine.specs.View.{part_in}
use Rattle.mp_cells.specs.declared.records.Mtr.{Mtr}
use Rattle.mp_cells.specs.declared.rows.Row.{Row}
use Rattle.mp_core_trx.specs.declared.part.Begun.{Begun}
use Rattle.mp_core_trx.specs.declared.part.SlotRow.{SlotRow}
use Rattle.mp_core_trx.specs.declared.part.TrxPart.{TrxPart}
use Rattle.mp_core_trx.specs.declared.slot.SlotTag.TheVariants.{Active}
use Rattle.mp_core_trx.specs.Parts.{Shows}
use Rattle.mp_core_pages.specs.declared.part.Placed.{Placed}
use Rattle.mp_core.specs.declared.part.CorePart.{CorePart}
use Rattle.mp_core.specs.OwnMtrs.{row_restored_by, trx_of_mtr, TrxMtr, trx_mtrs}
use Rattle.mp_shared.specs.Nodes.{NodeView, HoldsPart}
use Rattle.mp_shared.proofs.Holding.{held_part}
use Rattle.mp_buffer_fusion.proofs.Visiting.{one_part}
use Rattle.mp_desk.specs.declared.halts.WriteHalt.TheVariants as halts
use Rattle.mp_desk.specs.Desks.{Moves}
use Rattle.mp_desk.specs.Making.{IsMadeAfter}
use Rattle.mp_desk.specs.LetGo.{HasLetGo}
use Rattle.mp_desk.specs.Statements.{IsReader, ReadsIn, MakesThen}
use Rattle.mp_desk.specs.Writes.{PutsValue}
use Rattle.mp_desk_tests.specs.Handover.{HasMade}

pub reads_after_put : (p : ℕ) (trx : Begun) (x : Placed Mtr) (q r : CorePart) → MakesThen x q r → row_restored_by x.mtr ≡ None
    → IsReader p trx q → IsReader p trx r
reads_after_put p trx x q r puts restored h =
    let made : r.pages.made ≡ x ∷ q.pages.made = puts.made.made ∙ ap (λ (l : List (Placed Mtr)). x ∷ l) puts.quiet.made in
    record {
      node = h.node;
      begun = subst (λ (l : List Begun). IsIn trx l) (sym (ap (λ (t : TrxPart). t.begun) puts.made.trx ∙ puts.quiet.begun)) h.begun;
      active = subst (λ (l : List SlotRow). Shows l trx.id Active) (sym (ap (λ (t : TrxPart). t.rows) puts.made.trx ∙ puts.quiet.rows))
          h.active;
      whole = λ m is of.
          ⊎_elim (λ (same : m ≡ newest_mtr q x). ap (λ (t : TrxMtr). row_restored_by t.mtr) same ∙ restored)
          (λ (old : IsIn m (trx_mtrs q.pages.made)). h.whole m old of)
          (subst (λ (l : List (Placed Mtr)). IsIn m (trx_mtrs l)) made is);
    }
  where
    newest_mtr : CorePart → Placed Mtr → TrxMtr
    newest_mtr q x = record { at = x.at; of = trx_of_mtr q.pages.made x.mtr; mtr = x.mtr }

pub reads_let_go : (p : ℕ) (trx : Begun) (q r : CorePart) → HasLetGo q r → IsReader p trx q → IsReader p trx r
reads_let_go p trx q r gone h = record {
  node = h.node;
  begun = subst (λ (t : TrxPart). IsIn trx t.begun) (sym gone.trx) h.begun;
  active = subst (λ (t : TrxPart). Shows t.rows trx.id Active) (sym gone.trx) h.active;
  whole = λ m is of. h.whole m (subst (λ (l : List (Placed Mtr)). IsIn m (trx_mtrs l)) gone.made is) of;
}

-- it put a value, and then its primary let all pages go
module _ (p : ℕ) (trx : Begun) (key : ℕ) (value : Option (List ℕ)) (former : Row) (before mid after : NodeView) (held : HoldsPart before p)
    (wrote : (x : Placed Mtr) × Moves (MakesThen x) p before mid × IsMadeAfter before x
    × ((r : CorePart) → part_in mid.parts p ≡ Some r → PutsValue r trx key value former x.mtr))
    (gone : Moves HasLetGo p mid after) where
  abbrev put : (r : CorePart) × (part_in mid.parts p ≡ Some r) × MakesThen wrote.0 (held_part before p held).0 r × (r.downs ≡ (held_part before p held).0.downs)
  put = let part = held_part before p held in wrote.1.mine part.0 part.1

  abbrev left : (r : CorePart) × (part_in after.parts p ≡ Some r) × HasLetGo put.0 r × (r.downs ≡ put.0.downs)
  left = gone.mine put.0 put.1

  pub reads_handed : ReadsIn p trx before → ReadsIn p trx after
  reads_handed reads q has =
      let part = held_part before p held in
      let wrote_it = reads_after_put p trx wrote.0 part.0 put.0 put.2 (wrote.3 put.0 put.1).not_restored (reads part.0 part.1) in
      subst (IsReader p trx) (one_part (part_in after.parts p) left.0 q left.1 has) (reads_let_go p trx put.0 left.0 left.2 wrote_it)

  pub made_handed : (count : ℕ) → HasMade before p count → HasMade after p (count + 1)
  made_handed count made q has =
      let part = held_part before p held in
      let most = made part.0 part.1 in
      let one = ap (λ (l : List (Placed Mtr)). length l)
      (left.2.made ∙ put.2.made.made ∙ ap (λ (l : List (Placed Mtr)). wrote.0 ∷ l) put.2.quiet.made) in
      subst (λ (x : CorePart). length x.pages.made ≡ count + 1) (one_part (part_in after.parts p) left.0 q left.1 has)
      (omega (arith, one, most))

-- a put that was answered leaves the media in agreement
pub put_agrees : (A B : Type 0) (row : Row) → A ⊎ ((Ok row ≡ Err halts.Failed) × B) → A
put_agrees A B row either = ⊎_elim (λ a. a) (λ bad. let wrong = bad.0 in absurd (cc)) either
