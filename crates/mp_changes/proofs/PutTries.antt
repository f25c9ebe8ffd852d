-- What a try to put a value leaves of an open transaction and of the mtrs that were made, however it ends, and what letting all
-- pages go does.
use Rattle.std.proofs.Common.{◌≡◌, ℕ, ◌+◌, ◌<◌, ◌≤◌, Bool, true, false, List, ◌∷◌, length, Option, Some, None, Result, Err, IfSome, ◌⊎◌, ⊎_elim, inl, inr, sym, ap, ◌∙◌, subst, arith}
use Rattle.mp_machine.specs.Lists.{IsIn}
use Rattle.mp_machine.specs.View.{part_in}
use Rattle.mp_model.specs.declared.waiting.NotYet.{NotYet}
use Rattle.mp_cells.specs.declared.records.Mtr.{Mtr}
use Rattle.mp_cells.specs.declared.rows.Row.{Row}
use Rattle.mp_core_trx.specs.declared.part.Begun.{Begun}
use Rattle.mp_core_trx.specs.declared.part.SlotRow.{SlotRow}
use Rattle.mp_core_trx.specs.declared.slot.SlotTag.TheVariants.{Active}
use Rattle.mp_core_trx.specs.Parts.{Shows}
use Rattle.mp_core_pages.specs.declared.opening.TheConstants.{MOST_MTRS}
use Rattle.mp_core_pages.specs.declared.part.Placed.{Placed}
use Rattle.mp_core.specs.declared.part.CorePart.{CorePart}
use Rattle.mp_core.specs.CoreExtends.{CoreExtends}
use Rattle.mp_core.specs.OwnMtrs.{trx_mtrs}
use Rattle.mp_shared.specs.Nodes.{NodeView, HoldsPart}
use Rattle.mp_shared.proofs.Holding.{held_part}
use Rattle.mp_buffer_fusion.proofs.Visiting.{one_part}
use Rattle.mp_desk.specs.declared.halts.WriteHalt.{WriteHalt}
use Rattle.mp_desk.specs.declared.halts.WriteHalt.TheVariants as halts
use Rattle.mp_desk.specs.Desks.{Moves, MetWait}
use Rattle.mp_desk.specs.Making.{IsMadeAfter}
use Rattle.mp_desk.specs.LetGo.{HasLetGo}
use Rattle.mp_desk.specs.Statements.{IsReader, ReadsIn, StaysQuiet, MakesThen}
use Rattle.mp_desk.specs.Writes.{PutsValue, HaltsWrite}
use Rattle.mp_desk.proofs.Moving.{moves_as, moves_same, goes_both}
use Rattle.mp_supports.proofs.Extending.{core_extends_refl}
use Rattle.mp_desk_tests.proofs.OneWrite.{reads_after_put, reads_let_go}
use Rattle.mp_changes.specs.Changing.{PutsInTurn, HasPutInTurn, HasLeftAll, HasNoPageLeft, RefusedPut, may_retry, with_put}

-- ---- a quiet step keeps an open transaction

reads_quietly : (p : ℕ) (trx : Begun) (q r : CorePart) → StaysQuiet q r → IsReader p trx q → IsReader p trx r
reads_quietly p trx q r quiet h = record {
  node = h.node;
  begun = subst (λ (l : List Begun). IsIn trx l) (sym quiet.begun) h.begun;
  active = subst (λ (l : List SlotRow). Shows l trx.id Active) (sym quiet.rows) h.active;
  whole = λ m is of. h.whole m (subst (λ (l : List (Placed Mtr)). IsIn m (trx_mtrs l)) quiet.made is) of;
}

-- ---- an open transaction in a node

module _ (p : ℕ) (before after : NodeView) (held : HoldsPart before p) where
  abbrev had : (q : CorePart) × (part_in before.parts p ≡ Some q)
  had = let part = held_part before p held in (part.0, part.1)

  -- the part as it is after a move is the only one
  as_moved : (So : CorePart → CorePart → Type 0) (P : CorePart → Type 0) → Moves So p before after
      → ((r : CorePart) → So had.0 r → part_in after.parts p ≡ Some r → P r) → (q : CorePart) → part_in after.parts p ≡ Some q → P q
  as_moved So P moves holds q has =
      let now = moves.mine had.0 had.1 in
      subst P (one_part (part_in after.parts p) now.0 q now.1 has) (holds now.0 now.2 now.1)

  pub reads_missed : (trx : Begun) → Moves StaysQuiet p before after → ReadsIn p trx before → ReadsIn p trx after
  reads_missed trx quiet reads = as_moved StaysQuiet (IsReader p trx) quiet
      (λ r so has. reads_quietly p trx had.0 r so (reads had.0 had.1))

  pub reads_left : (trx : Begun) → Moves HasLetGo p before after → ReadsIn p trx before → ReadsIn p trx after
  reads_left trx gone reads = as_moved HasLetGo (IsReader p trx) gone
      (λ r so has. reads_let_go p trx had.0 r so (reads had.0 had.1))

  pub none_left : Moves HasLetGo p before after → HasNoPageLeft after p
  none_left gone q has =
      let now = gone.mine had.0 had.1 in
      let same = one_part (part_in after.parts p) now.0 q now.1 has in
      subst (λ (r : CorePart). HasLeftAll r) same record { durable = now.2.durable; idle = now.2.idle }

  pub reads_put : (trx : Begun) (key : ℕ) (value : Option (List ℕ)) (former : Row)
      → ((x : Placed Mtr) × Moves (MakesThen x) p before after × IsMadeAfter before x
      × ((r : CorePart) → part_in after.parts p ≡ Some r → PutsValue r trx key value former x.mtr))
      → ReadsIn p trx before → ReadsIn p trx after
  reads_put trx key value former wrote reads = as_moved (MakesThen wrote.0) (IsReader p trx) wrote.1
      (λ r so has. reads_after_put p trx wrote.0 had.0 r so (wrote.3 r has).not_restored (reads had.0 had.1))

-- ---- the puts that were made

module _ (p key : ℕ) (value : Option (List ℕ)) (count : ℕ) (before after : NodeView) (h : HasPutInTurn before p key value count) where
  -- nothing was made
  kept_put : (So : CorePart → CorePart → Type 0) → Moves So p before after → ((q r : CorePart) → So q r → r.pages.made ≡ q.pages.made)
      → HasPutInTurn after p key value count
  kept_put So moves same =
      let now = moves.mine h.mine h.holds in
      let made = same h.mine now.0 now.2 in
      record {
        mine = now.0;
        holds = now.1;
        many = ap (λ (l : List (Placed Mtr)). length l) made ∙ h.many;
        each = λ x is. h.each x (subst (λ (l : List (Placed Mtr)). IsIn x l) made is);
      }

  pub put_missed : Moves StaysQuiet p before after → HasPutInTurn after p key value count
  put_missed quiet = kept_put StaysQuiet quiet (λ q r so. so.made)

  pub put_left : Moves HasLetGo p before after → HasPutInTurn after p key value count
  put_left gone = kept_put HasLetGo gone (λ q r so. so.made)

  -- a value was put
  pub put_once_more : (trx : Begun) (former : Row)
      → ((x : Placed Mtr) × Moves (MakesThen x) p before after × IsMadeAfter before x
      × ((r : CorePart) → part_in after.parts p ≡ Some r → PutsValue r trx key value former x.mtr))
      → HasPutInTurn after p key value (count + 1)
  put_once_more trx former wrote =
      let now = wrote.1.mine h.mine h.holds in
      let puts = wrote.3 now.0 now.1 in
      let made : now.0.pages.made ≡ wrote.0 ∷ h.mine.pages.made =
      now.2.made.made ∙ ap (λ (l : List (Placed Mtr)). wrote.0 ∷ l) now.2.quiet.made in
      let newest : PutsInTurn key value wrote.0.mtr =
      record { row = puts.row; put = puts.put; its_key = puts.its_key; value_is = puts.value_is } in
      let one = ap (λ (l : List (Placed Mtr)). length l) made in
      let most = h.many in
      record {
        mine = now.0;
        holds = now.1;
        many = omega (arith, one, most);
        each = λ x is. ⊎_elim
            (λ (same : x ≡ wrote.0). subst (λ (y : Placed Mtr). PutsInTurn key value y.mtr) (sym same) newest)
            (λ (old : IsIn x h.mine.pages.made). h.each x old)
            (subst (λ (l : List (Placed Mtr)). IsIn x l) made is);
      }

-- few were made, where few were put
pub few_put : (n : NodeView) (p key : ℕ) (value : Option (List ℕ)) (count : ℕ) → HasPutInTurn n p key value count → count < MOST_MTRS
    → (q : CorePart) → part_in n.parts p ≡ Some q → length q.pages.made < MOST_MTRS
few_put n p key value count h few q has =
    subst (λ (r : CorePart). length r.pages.made < MOST_MTRS) (one_part (part_in n.parts p) h.mine q h.holds has)
    (let many = h.many in omega (arith, many, few))

-- ---- what a put that was refused leaves of the log and the media

pub open_still : {A B C : Type 0} (halt : WriteHalt) → ¬ (halt ≡ halts.Failed) → ((halt ≡ halts.Failed) × A × B) ⊎ C → C
open_still halt not (inl failed) = absurd (not failed.0)
open_still halt not (inr open_log) = open_log

pub agrees_still : {A B : Type 0} (halt : WriteHalt) → ¬ (halt ≡ halts.Failed)
    → A ⊎ ((◌≡◌ {A = Result Row WriteHalt} (Err halt) (Err halts.Failed)) × B) → A
agrees_still halt not (inl agree) = agree
agrees_still halt not (inr failed) = let bad = failed.0 in absurd (not (cc))

-- ---- steps of the primary

pub goes_left : (p : ℕ) (before after : NodeView) → Moves HasLetGo p before after → Moves CoreExtends p before after
goes_left p before after gone = moves_as p HasLetGo CoreExtends (λ q r so. so.extends) before after gone

pub goes_nowhere : (p : ℕ) (before after : NodeView) → after ≡ before → Moves CoreExtends p before after
goes_nowhere p before after same = moves_same p CoreExtends core_extends_refl before after same

-- a wait that was met before other steps
pub met_before : (p : ℕ) (a b c : NodeView) (wait : NotYet) → MetWait p a b wait → Moves CoreExtends p b c → MetWait p a c wait
met_before p a b c wait met behind =
    record { from = met.from; to = met.to; came = met.came; met = met.met; went = goes_both p met.to b c met.went behind }

-- ---- what may be tried again

pub not_failed : (halt : WriteHalt) → may_retry (Some halt) ≡ true → ¬ (halt ≡ halts.Failed)
not_failed halt again is =
    let wrong : true ≡ false = sym again ∙ ap (λ (h : WriteHalt). may_retry (Some h)) is in absurd (cc)

pub no_failure : (halt : WriteHalt) → may_retry (Some halt) ≡ true → ¬ (◌≡◌ {A = Option WriteHalt} (Some halt) (Some halts.Failed))
no_failure halt again is = not_failed halt again (some_same halt halts.Failed is)
  where
    some_same : (a b : WriteHalt) → Some a ≡ Some b → a ≡ b
    some_same a b is = cc

-- ---- what the letting go behind a try came to

module _ {Closed Raised : Type 0} (before after : Option WriteHalt)
    (left : (after ≡ before) ⊎ ((after ≡ Some halts.Failed) × Closed × Raised)) where
  -- it stopped the primary only by the log's disk
  pub disk_failed : ¬ (before ≡ Some halts.Failed) → after ≡ Some halts.Failed → Closed × Raised
  disk_failed not is = ⊎_elim (λ same. absurd (not (sym same ∙ is))) (λ failed. (failed.1, failed.2)) left

  -- what stopped it before stops it still
  pub still_stopped : (halt : WriteHalt) → before ≡ Some halt → ¬ (after ≡ None)
  still_stopped halt was none = ⊎_elim
      (λ same. let bad : None ≡ Some halt = sym none ∙ same ∙ was in absurd (cc))
      (λ failed. let bad : None ≡ Some halts.Failed = sym none ∙ failed.0 in absurd (cc)) left

  -- a cause stays one, and the disk's failure is one
  pub stopped_so : (p key : ℕ) (trx : Begun) (n : NodeView) → IfSome before (RefusedPut p key n) → IfSome after (RefusedPut p key n)
  stopped_so p key trx n cause = ⊎_elim
      (λ same. subst (λ (h : Option WriteHalt). IfSome h (RefusedPut p key n)) (sym same) cause)
      (λ failed. subst (λ (h : Option WriteHalt). IfSome h (RefusedPut p key n)) (sym failed.0) (trx, n, tt)) left

-- a page that couldn't be had is the cause, also once all pages were let go
pub wait_refused : (p key : ℕ) (trx : Begun) (before mid after : NodeView) (halt : WriteHalt) → may_retry (Some halt) ≡ true
    → HaltsWrite p trx key before mid halt → Moves CoreExtends p mid after → RefusedPut p key after halt
wait_refused p key trx before mid after (halts.Word wait) again met goes = (trx, before, met_before p before mid after wait met goes)
wait_refused p key trx before mid after (halts.Writer id) again met goes = let wrong : false ≡ true = again in absurd (cc)
wait_refused p key trx before mid after (halts.Conflict id cts) again met goes = let wrong : false ≡ true = again in absurd (cc)
wait_refused p key trx before mid after (halts.Held id) again met goes = let wrong : false ≡ true = again in absurd (cc)
wait_refused p key trx before mid after halts.Full again met goes = let wrong : false ≡ true = again in absurd (cc)
wait_refused p key trx before mid after halts.Failed again met goes = let wrong : false ≡ true = again in absurd (cc)

-- at most one more was put
pub with_put_most : (put : Bool) (count : ℕ) → with_put put count ≤ count + 1
with_put_most true count = omega arith
with_put_most false count = omega arith
