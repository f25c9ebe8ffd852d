-- The open transactions are the sessions' still, where a step is one of a session's transaction and the session goes on with it.
use Rattle.std.proofs.Common.{◌≡◌, ◌≢◌, ℕ, zero, suc, ◌+◌, ◌-◌, ◌<◌, ◌≤◌, ◌==◌, nat_lt, ◌⊎◌, Bool, true, false, cond, if◌then◌else◌, List, [], ◌∷◌, length, drop, slice_get, slice_set, Option, None, Some, IfSome, MatchOption, refl, sym, ap, subst, ◌∙◌, inl, inr, ⊎_elim, arith, eq-eqb, ne_eqb}
use mathlib.Core.Bool.{false≢true}
use Rattle.std.proofs.lemmas.Bool.{cases_Bool, eqb-true}
use Rattle.mp_machine.specs.Lists.{IsIn}
use Rattle.mp_model.specs.declared.ids.TrxId.{TrxId}
use Rattle.mp_model.specs.declared.ids.TrxName.{TrxName}
use Rattle.mp_script.specs.declared.statements.Line.{Line}
use Rattle.mp_script.specs.BeginNames.{begin_names}
use Rattle.mp_script.specs.Execution.{stmt_in}
use Rattle.mp_script.specs.Transactions.{Target, target_of, begins, begin_in, trx_in_lines}
use Rattle.mp_script.specs.Right.{IsWithoutRepeat}
use Rattle.mp_cells.specs.declared.records.Mtr.{Mtr}
use Rattle.mp_cells.specs.declared.rows.Row.{Row}
use Rattle.mp_cells.specs.Trees.{row_at}
use Rattle.mp_core_trx.specs.declared.part.Begun.{Begun}
use Rattle.mp_core_trx.specs.declared.part.SlotRow.{SlotRow}
use Rattle.mp_core_trx.specs.declared.slot.Shown.{Shown}
use Rattle.mp_core_trx.specs.declared.slot.SlotTag.{SlotTag}
use Rattle.mp_core_trx.specs.declared.slot.SlotTag.TheVariants.{Free, Active, Prep, Committed}
use Rattle.mp_core_trx.specs.Words.{shows}
use Rattle.mp_core_trx.specs.Events.{IsUsable, slot_row, ended}
use Rattle.mp_core_trx.specs.Parts.{HasBegun, IsOpen, Shows, shown_at, unused, begun_of}
use Rattle.mp_core_pages.specs.declared.part.Placed.{Placed}
use Rattle.mp_core.specs.declared.part.CorePart.{CorePart}
use Rattle.mp_core.specs.OwnMtrs.{row_put_by, row_kept_by, row_restored_by, is_id, or_else_row, trx_of_mtr, first_former, TrxMtr, trx_mtrs}
use Rattle.mp_core.specs.CoreExtends.{CoreExtends}
use Rattle.mp_book.specs.declared.session.Session.{Session}
use Rattle.mp_book.specs.declared.stage.Stage.{Stage}
use Rattle.mp_book.specs.declared.stage.Stage.TheVariants.{Closed, Open, Refused, Leaving, Skipping, Outside}
use Rattle.mp_book.specs.Stages.{next_line, trx_of_stage, HaveOneRowEach, with_former}
use Rattle.mp_book.specs.Books.{GoesOn, KeepsFormer}
use Rattle.mp_supports.specs.Work.{Work, name_of}
use Rattle.mp_supports.specs.Supports.{IsTrxOf, IsWaitFor, SupportsWaits}
use Rattle.mp_supports.specs.Agreement.{IsOpenAs, RefusalSupported, Opens, StandAtNumbers, HasNoNewWait}
use Rattle.mp_supports.proofs.Extending.{begun_in}
use Rattle.mp_supports.proofs.Formers.{same_no, former_other, put_owner, former_put, former_back, kept_with, once_from, kept_without, no_former}
use Rattle.mp_supports.proofs.Places.{in_set, set_in, still_in, at_place, drop_at}
use Rattle.mp_supports.proofs.Unchanged.{refusal_kept, waits_kept}

none_some : {T : Type 0} (x : T) → ◌≡◌ {A = Option T} None (Some x) → ⊥
none_some x e = cc

some_same : {T : Type 0} (x y : T) → Some x ≡ Some y → x ≡ y
some_same x y e = cc

-- two sessions have transactions of different versions
versions_apart : (work : Work) (a b : TrxId) (one other : TrxName) → name_of work a ≡ Some one → name_of work b ≡ Some other → one.session ≢ other.session → a.version ≢ b.version
versions_apart work a b one other named names apart = λ same.
    let names_same : name_of work a ≡ name_of work b = ap (λ (v : ℕ). if nat_lt work.base.version v then slice_get (begin_names work.lines) (v - work.base.version - 1) else None) same in
    apart (ap (λ (n : TrxName). n.session) (some_same one other (sym named ∙ names_same ∙ names)))

-- nothing is waited for
no_waits : (work : Work) (q : CorePart) (s : Session) → s.waits.items ≡ [] → IfSome (next_line s) (λ line. SupportsWaits work q line s.waits.items)
no_waits work q s none = go (next_line s)
  where
    by_target : (line : Line) (o : Option Target) → MatchOption o (◌≡◌ {A = List TrxName} [] []) (λ target. IsWithoutRepeat [] × Unit {0})
    by_target line None = refl
    by_target line (Some target) = (tt, tt)

    go : (o : Option Line) → IfSome o (λ line. SupportsWaits work q line s.waits.items)
    go None = tt
    go (Some line) = subst (λ (l : List TrxName). SupportsWaits work q line l) (sym none) (by_target line (target_of line.stmt))

-- a stage with no transaction that is being put back asks nothing of a refusal
no_refusal : (work : Work) (q : CorePart) (down : ℕ) (stage : Stage) (line : Option Line) → trx_of_stage stage ≡ None → RefusalSupported work q down stage line
no_refusal work q down Closed line e = tt
no_refusal work q down (Open trx) line e = tt
no_refusal work q down (Refused trx refusal) line e = absurd (none_some trx (sym e))
no_refusal work q down (Leaving trx) line e = tt
no_refusal work q down Skipping line e = tt
no_refusal work q down (Outside trx) line e = tt

active_free : Active ≡ Free → ⊥
active_free e = cc

prep_free : Prep ≡ Free → ⊥
prep_free e = cc

active_committed : Active ≡ Committed → ⊥
active_committed e = cc

prep_committed : Prep ≡ Committed → ⊥
prep_committed e = cc

-- what has ended shows neither ACTIVE nor PREP
not_open : (id : TrxId) (cts : Option ℕ) (version : ℕ) → (ended id cts ≡ shows Active version 0) ⊎ (ended id cts ≡ shows Prep version 0) → ⊥
not_open id None version (inl e) = active_free (sym (ap (λ (x : Shown). x.tag) e))
not_open id None version (inr e) = prep_free (sym (ap (λ (x : Shown). x.tag) e))
not_open id (Some c) version (inl e) = active_committed (sym (ap (λ (x : Shown). x.tag) e))
not_open id (Some c) version (inr e) = prep_committed (sym (ap (λ (x : Shown). x.tag) e))

-- the first row of a slot, and those of others
pub row_here : (slot : ℕ) (shown : Shown) (rows : List SlotRow) → shown_at (record { slot = slot; shown = shown } ∷ rows) slot ≡ shown
row_here slot shown rows = ap (λ (b : Bool). if b then shown else shown_at rows slot) (eq-eqb slot slot refl)

pub row_else : (slot other : ℕ) (shown : Shown) (rows : List SlotRow) → other ≢ slot → shown_at (record { slot = slot; shown = shown } ∷ rows) other ≡ shown_at rows other
row_else slot other shown rows ne = ap (λ (b : Bool). if b then shown else shown_at rows other) (ne_eqb other slot ne)

module _ (work : Work) (p q : CorePart) (down : ℕ) (e : CoreExtends p q) (sessions : List Session) (number : ℕ) (s after : Session) (found : slice_get sessions number ≡ Some s) where
  -- one session goes on, and the others' transactions are as they were
  opens_changed : ((j : ℕ) (x : Session) (trx : Begun) → j ≢ number → slice_get sessions j ≡ Some x → trx_of_stage x.stage ≡ Some trx → IsOpenAs work p down x trx → IsOpenAs work q down x trx)
      → IfSome (trx_of_stage after.stage) (IsOpenAs work q down after)
      → ((b : Begun) → IsIn b q.trx.begun → IsOpen q.trx b.id → (trx_of_stage after.stage ≡ Some b) ⊎ (IsIn b p.trx.begun × IsOpen p.trx b.id × (trx_of_stage s.stage ≡ Some b → trx_of_stage after.stage ≡ Some b)))
      → IfSome (next_line after) (λ line. SupportsWaits work q line after.waits.items)
      → RefusalSupported work q down after.stage (next_line after)
      → Opens work p down sessions → Opens work q down (slice_set sessions number after)
  opens_changed others its only waits refused h = record {
    each = λ x there. elim (in_set sessions number after x there) [
      | inl is ↦ subst (λ (v : Session). IfSome (trx_of_stage v.stage) (IsOpenAs work q down v)) (sym is) its
      | inr at ↦ by_trx at.0 x at.1 at.2 (trx_of_stage x.stage) refl (h.each x (at_place sessions at.0 x at.2))
    ];
    only = λ b there opened. elim (only b there opened) [
      | inl is ↦ (after, set_in sessions number s after found, is)
      | inr was ↦
          let x = h.only b was.0 was.1 in
          elim (still_in sessions number after x.0 x.1) [
            | inl still ↦ (x.0, still, x.2)
            | inr at ↦ (after, set_in sessions number s after found, was.2 (subst (λ (v : Session). trx_of_stage v.stage ≡ Some b) (sym (some_same s x.0 (sym found ∙ at))) x.2))
          ]
    ];
    waits = λ x there. elim (in_set sessions number after x there) [
      | inl is ↦ subst (λ (v : Session). IfSome (next_line v) (λ line. SupportsWaits work q line v.waits.items)) (sym is) waits
      | inr at ↦ waits_kept work p q down e x (h.waits x (at_place sessions at.0 x at.2))
    ];
    refused = λ x there. elim (in_set sessions number after x there) [
      | inl is ↦ subst (λ (v : Session). RefusalSupported work q down v.stage (next_line v)) (sym is) refused
      | inr at ↦ refusal_kept work p q down e x.stage (next_line x) (h.refused x (at_place sessions at.0 x at.2))
    ];
  }
    where
      by_trx : (j : ℕ) (x : Session) → j ≢ number → slice_get sessions j ≡ Some x → (o : Option Begun) → trx_of_stage x.stage ≡ o → IfSome o (IsOpenAs work p down x) → IfSome (trx_of_stage x.stage) (IsOpenAs work q down x)
      by_trx j x ne at None is opened = subst (λ (o : Option Begun). IfSome o (IsOpenAs work q down x)) (sym is) tt
      by_trx j x ne at (Some trx) is opened = subst (λ (o : Option Begun). IfSome o (IsOpenAs work q down x)) (sym is) (others j x trx ne at is opened)

  -- the waits of a session that waits for nobody new
  waits_on : HasNoNewWait s after → IfSome (next_line s) (λ line. SupportsWaits work p line s.waits.items) → IfSome (next_line after) (λ line. SupportsWaits work q line after.waits.items)
  waits_on (inl none) h = no_waits work q after none
  waits_on (inr same) h =
      subst (λ (o : Option Line). IfSome o (λ line. SupportsWaits work q line after.waits.items)) (sym same.0)
      (subst (λ (l : List TrxName). IfSome (next_line s) (λ line. SupportsWaits work q line l)) (sym same.1) (waits_kept work p q down e s h))

  module _ (numbered : StandAtNumbers sessions) (h : Opens work p down sessions) where
    -- another session has a transaction of another version
    others_apart : (j : ℕ) (x : Session) (b trx : Begun) → j ≢ number → slice_get sessions j ≡ Some x → IsOpenAs work p down x b → IsOpenAs work p down s trx → b.id.version ≢ trx.id.version
    others_apart j x b trx ne at one other =
        versions_apart work b.id trx.id (trx_in_lines work.lines x.number x.next) (trx_in_lines work.lines s.number s.next) one.named other.named (λ same. ne (sym (numbered j x at) ∙ same ∙ numbered number s found))

    its_open : (trx : Begun) → trx_of_stage s.stage ≡ Some trx → IsOpenAs work p down s trx
    its_open trx is = subst (λ (o : Option Begun). IfSome o (IsOpenAs work p down s)) is (h.each s (at_place sessions number s found))

    was_open : q.trx.begun ≡ p.trx.begun → q.trx.rows ≡ p.trx.rows → (b : Begun) → IsOpen q.trx b.id → IsOpen p.trx b.id
    was_open begun rows b opened = (subst (λ l. HasBegun l b.id) begun opened.0, subst (λ l. Shows l b.id Active ⊎ Shows l b.id Prep) rows opened.1)

    -- ---- an mtr of the session's transaction

    module _ (x : Placed Mtr) (trx : Begun) (begun : q.trx.begun ≡ p.trx.begun) (rows : q.trx.rows ≡ p.trx.rows) (made : q.pages.made ≡ x ∷ p.pages.made) (of : trx_of_mtr p.pages.made x.mtr ≡ Some trx.id) (stage : trx_of_stage s.stage ≡ Some trx) (stays : trx_of_stage after.stage ≡ Some trx) where
      not_its : (b : Begun) → b.id.version ≢ trx.id.version → is_id b.id (trx_of_mtr p.pages.made x.mtr) ≡ false
      not_its b ne = ap (is_id b.id) of ∙ same_no trx.id b.id (λ same. ne (sym same))

      other_mtr : (j : ℕ) (y : Session) (b : Begun) → j ≢ number → slice_get sessions j ≡ Some y → trx_of_stage y.stage ≡ Some b → IsOpenAs work p down y b → IsOpenAs work q down y b
      other_mtr j y b ne at is opened =
          let apart = others_apart j y b trx ne at opened (its_open trx stage) in
          record {
            begun = begun_in p q e b opened.begun;
            named = opened.named;
            active = ⊎_elim (λ active. inl (subst (λ l. Shows l b.id Active) (sym rows) active)) (λ is_down. inr is_down) opened.active;
            formers = λ key. ap (λ (l : List (Placed Mtr)). first_former l b.id key) made ∙ former_other x p.pages.made b.id key (not_its b apart) ∙ opened.formers key;
            whole = λ none m there its. newest apart (subst (λ (l : List (Placed Mtr)). IsIn m (trx_mtrs l)) made there) its (λ old. opened.whole none m old its);
          }
        where
          newest : {m : TrxMtr} → b.id.version ≢ trx.id.version → IsIn m (trx_mtrs (x ∷ p.pages.made)) → m.of ≡ Some b.id → (IsIn m (trx_mtrs p.pages.made) → row_restored_by m.mtr ≡ None) → row_restored_by m.mtr ≡ None
          newest apart (inl same) its old = absurd (apart (ap (λ (i : TrxId). i.version) (some_same b.id trx.id (sym its ∙ ap (λ (k : TrxMtr). k.of) same ∙ of))))
          newest apart (inr there) its old = old there

      only_mtr : (b : Begun) → IsIn b q.trx.begun → IsOpen q.trx b.id → (trx_of_stage after.stage ≡ Some b) ⊎ (IsIn b p.trx.begun × IsOpen p.trx b.id × (trx_of_stage s.stage ≡ Some b → trx_of_stage after.stage ≡ Some b))
      only_mtr b there opened = inr (subst (λ l. IsIn b l) begun there, was_open begun rows b opened, λ is. stays ∙ sym stage ∙ is)

      -- its own rows are by what the mtr did
      own_mtr : ((key : ℕ) → first_former (x ∷ p.pages.made) trx.id key ≡ row_at key (drop after.restored after.formers.items)) → (after.restored ≡ 0 → (s.restored ≡ 0) × (row_restored_by x.mtr ≡ None))
          → trx_in_lines work.lines after.number after.next ≡ trx_in_lines work.lines s.number s.next → IsOpenAs work q down after trx
      own_mtr formers whole name =
          let opened = its_open trx stage in
          record {
            begun = begun_in p q e trx opened.begun;
            named = opened.named ∙ ap (λ (n : TrxName). Some n) (sym name);
            active = ⊎_elim (λ active. inl (subst (λ l. Shows l trx.id Active) (sym rows) active)) (λ is_down. inr is_down) opened.active;
            formers = λ key. ap (λ (l : List (Placed Mtr)). first_former l trx.id key) made ∙ formers key;
            whole = λ none m there its. newest (whole none) (subst (λ (l : List (Placed Mtr)). IsIn m (trx_mtrs l)) made there) (λ old. opened.whole (whole none).0 m old its);
          }
        where
          newest : {m : TrxMtr} → (s.restored ≡ 0) × (row_restored_by x.mtr ≡ None) → IsIn m (trx_mtrs (x ∷ p.pages.made)) → (IsIn m (trx_mtrs p.pages.made) → row_restored_by m.mtr ≡ None) → row_restored_by m.mtr ≡ None
          newest both (inl same) old = ap (λ (k : TrxMtr). row_restored_by k.mtr) same ∙ both.1
          newest both (inr there) old = old there

-- the transaction of a statement that doesn't begin one is that of the statement before it
same_name : (work : Work) (session index next : ℕ) → next ≡ index + 1 → begins (stmt_in work.lines session (index + 1)) ≡ false → trx_in_lines work.lines session next ≡ trx_in_lines work.lines session index
same_name work session index next is no_begin =
    let up : next ≡ suc index = omega (arith, is) in
    let same : index + 1 ≡ suc index = omega arith in
    let none_begun : begins (stmt_in work.lines session (suc index)) ≡ false = subst (λ (i : ℕ). begins (stmt_in work.lines session i) ≡ false) same no_begin in
    ap (λ (i : ℕ). trx_in_lines work.lines session i) up
    ∙ ap (λ (b : Bool). record { session = session; first = if b then suc index else begin_in work.lines session index }) none_begun

module _ (work : Work) (p q : CorePart) (down : ℕ) (e : CoreExtends p q) (sessions : List Session) (number : ℕ) (s after : Session) (found : slice_get sessions number ≡ Some s) (numbered : StandAtNumbers sessions) (h : Opens work p down sessions) where
  -- a put of the session's transaction, which was answered
  pub opens_put : (x : Placed Mtr) (trx : Begun) (row kept : Row) (former : Option Row) → q.trx.begun ≡ p.trx.begun → q.trx.rows ≡ p.trx.rows → q.pages.made ≡ x ∷ p.pages.made
      → row_restored_by x.mtr ≡ None → row_put_by x.mtr ≡ Some row → row.writer ≡ Some trx.id → row_kept_by x.mtr ≡ Some kept
      → s.stage ≡ Open trx → s.restored ≡ 0 → begins (stmt_in work.lines s.number (s.next + 1)) ≡ false
      → KeepsFormer s.formers.items row.key former → (former ≡ None) ⊎ (former ≡ Some kept) → GoesOn s after (Open trx) (with_former s.formers.items former) 0 → Opens work q down (slice_set sessions number after)
  opens_put x trx row kept former begun rows made no_back put writer keeps_row stage none no_begin keeps from goes =
      let of = put_owner x p.pages.made trx.id row put writer in
      let trx_is : trx_of_stage s.stage ≡ Some trx = ap trx_of_stage stage in
      let stays : trx_of_stage after.stage ≡ Some trx = ap trx_of_stage goes.stage_is in
      let opened = its_open work p q down e sessions number s after found numbered h trx trx_is in
      let kept_rows : (key : ℕ) → first_former p.pages.made trx.id key ≡ row_at key s.formers.items = λ key. opened.formers key ∙ ap (λ (i : ℕ). row_at key (drop i s.formers.items)) none in
      let formers : (key : ℕ) → first_former (x ∷ p.pages.made) trx.id key ≡ row_at key (drop after.restored after.formers.items) = λ key.
      former_put x p.pages.made trx.id row no_back put writer key
      ∙ ap (λ (o : Option Row). if (row.key == key) then or_else_row (first_former p.pages.made trx.id key) o else first_former p.pages.made trx.id key) keeps_row
      ∙ ap (λ (o : Option Row). if (row.key == key) then or_else_row o (Some kept) else o) (kept_rows key)
      ∙ kept_with s.formers.items row.key kept former keeps from key
      ∙ sym (ap (λ (i : ℕ). row_at key (drop i after.formers.items)) goes.restored_is ∙ ap (row_at key) goes.formers_are) in
      let name : trx_in_lines work.lines after.number after.next ≡ trx_in_lines work.lines s.number s.next = ap (λ (i : ℕ). trx_in_lines work.lines i after.next) goes.number ∙ same_name work s.number s.next after.next goes.next no_begin in
      let its : IsOpenAs work q down after trx = own_mtr work p q down e sessions number s after found numbered h x trx begun rows made of trx_is stays formers (λ z. (none, no_back)) name in
      opens_changed work p q down e sessions number s after found
      (other_mtr work p q down e sessions number s after found numbered h x trx begun rows made of trx_is stays)
      (subst (λ (o : Option Begun). IfSome o (IsOpenAs work q down after)) (sym stays) its)
      (only_mtr work p q down e sessions number s after found numbered h x trx begun rows made of trx_is stays)
      (no_waits work q after goes.waits)
      (subst (λ (st : Stage). RefusalSupported work q down st (next_line after)) (sym goes.stage_is) tt)
      h

  -- a row of the session's transaction was put back
  pub opens_back : (x : Placed Mtr) (trx : Begun) (row former : Row) → q.trx.begun ≡ p.trx.begun → q.trx.rows ≡ p.trx.rows → q.pages.made ≡ x ∷ p.pages.made
      → row_restored_by x.mtr ≡ Some row → row_put_by x.mtr ≡ None → trx_of_mtr p.pages.made x.mtr ≡ Some trx.id
      → trx_of_stage s.stage ≡ Some trx → slice_get s.formers.items s.restored ≡ Some former → former.key ≡ row.key → HaveOneRowEach s.formers.items
      → after ≡ record s { restored = s.restored + 1 } → Opens work q down (slice_set sessions number after)
  opens_back x trx row former begun rows made back no_put of stage at its_key once is =
      let stage_is : after.stage ≡ s.stage = ap (λ (v : Session). v.stage) is in
      let stays : trx_of_stage after.stage ≡ Some trx = ap trx_of_stage stage_is ∙ stage in
      let opened = its_open work p q down e sessions number s after found numbered h trx stage in
      let cut = drop_at s.formers.items s.restored former at in
      let once_here : HaveOneRowEach (former ∷ drop (suc s.restored) s.formers.items) = subst HaveOneRowEach cut (once_from s.formers.items s.restored once) in
      let up : after.restored ≡ suc s.restored = let next : after.restored ≡ s.restored + 1 = ap (λ (v : Session). v.restored) is in omega (arith, next) in
      let formers : (key : ℕ) → first_former (x ∷ p.pages.made) trx.id key ≡ row_at key (drop after.restored after.formers.items) = λ key.
      former_back x p.pages.made trx.id row back no_put of key
      ∙ ap (λ (o : Option Row). if (row.key == key) then None else o) (opened.formers key ∙ ap (row_at key) cut)
      ∙ kept_without former (drop (suc s.restored) s.formers.items) row.key its_key once_here.0 key
      ∙ sym (ap (λ (i : ℕ). row_at key (drop i after.formers.items)) up ∙ ap (λ (v : Session). row_at key (drop (suc s.restored) v.formers.items)) is) in
      let name : trx_in_lines work.lines after.number after.next ≡ trx_in_lines work.lines s.number s.next = ap (λ (v : Session). trx_in_lines work.lines v.number v.next) is in
      let its : IsOpenAs work q down after trx = own_mtr work p q down e sessions number s after found numbered h x trx begun rows made of stage stays formers (λ z. absurd (omega (arith, z, up))) name in
      opens_changed work p q down e sessions number s after found
      (other_mtr work p q down e sessions number s after found numbered h x trx begun rows made of stage stays)
      (subst (λ (o : Option Begun). IfSome o (IsOpenAs work q down after)) (sym stays) its)
      (only_mtr work p q down e sessions number s after found numbered h x trx begun rows made of stage stays)
      (subst (λ (v : Session). IfSome (next_line v) (λ line. SupportsWaits work q line v.waits.items)) (sym is) (waits_kept work p q down e s (h.waits s (at_place sessions number s found))))
      (subst (λ (v : Session). RefusalSupported work q down v.stage (next_line v)) (sym is) (refusal_kept work p q down e s.stage (next_line s) (h.refused s (at_place sessions number s found))))
      h

  -- a transaction was begun for the session
  pub opens_begun : (b : Begun) → q.trx.begun ≡ b ∷ p.trx.begun → q.trx.rows ≡ slot_row b.id (shows Active b.id.version 0) ∷ p.trx.rows → q.pages.made ≡ p.pages.made
      → IsUsable p.trx b.id.slot → ((c : Begun) → IsIn c p.trx.begun → c.id.version ≢ b.id.version) → ((m : TrxMtr) → IsIn m (trx_mtrs p.pages.made) → m.of ≢ Some b.id)
      → trx_of_stage s.stage ≡ None → name_of work b.id ≡ Some (trx_in_lines work.lines s.number (s.next + 1)) → GoesOn s after (Open b) [] 0 → Opens work q down (slice_set sessions number after)
  opens_begun b begun rows made usable fresh none_made closed named goes =
      let stays : trx_of_stage after.stage ≡ Some b = ap trx_of_stage goes.stage_is in
      let its : IsOpenAs work q down after b = record {
        begun = subst (λ l. IsIn b l) (sym begun) (inl refl);
        named = named ∙ ap (λ (n : TrxName). Some n) (ap (λ (i : ℕ). trx_in_lines work.lines s.number i) (sym goes.next) ∙ ap (λ (i : ℕ). trx_in_lines work.lines i after.next) (sym goes.number));
        active = inl (subst (λ (l : List SlotRow). Shows l b.id Active) (sym rows) (row_here b.id.slot (shows Active b.id.version 0) p.trx.rows));
        formers = λ key.
            ap (λ (l : List (Placed Mtr)). first_former l b.id key) made
            ∙ no_former p.pages.made b.id none_made key
            ∙ sym (ap (λ (i : ℕ). row_at key (drop i after.formers.items)) goes.restored_is ∙ ap (row_at key) goes.formers_are);
        whole = λ none m there its. absurd (none_made m (subst (λ (l : List (Placed Mtr)). IsIn m (trx_mtrs l)) made there) its);
      } in
      opens_changed work p q down e sessions number s after found others
      (subst (λ (o : Option Begun). IfSome o (IsOpenAs work q down after)) (sym stays) its)
      only
      (no_waits work q after goes.waits)
      (subst (λ (st : Stage). RefusalSupported work q down st (next_line after)) (sym goes.stage_is) tt)
      h
    where
      -- an open transaction has another slot
      other_slot : (c : TrxId) (tag : SlotTag) → tag ≢ Free → Shows p.trx.rows c tag → c.slot ≢ b.id.slot
      other_slot c tag opened shown = λ same. opened (ap (λ (x : Shown). x.tag) (sym shown ∙ ap (shown_at p.trx.rows) same ∙ usable))

      others : (j : ℕ) (x : Session) (trx : Begun) → j ≢ number → slice_get sessions j ≡ Some x → trx_of_stage x.stage ≡ Some trx → IsOpenAs work p down x trx → IsOpenAs work q down x trx
      others j x trx ne at is opened = record {
        begun = begun_in p q e trx opened.begun;
        named = opened.named;
        active = ⊎_elim (λ active. inl (subst (λ (l : List SlotRow). Shows l trx.id Active) (sym rows) (row_else b.id.slot trx.id.slot (shows Active b.id.version 0) p.trx.rows (other_slot trx.id Active active_free active) ∙ active))) (λ is_down. inr is_down) opened.active;
        formers = λ key. ap (λ (l : List (Placed Mtr)). first_former l trx.id key) made ∙ opened.formers key;
        whole = λ none m there of. opened.whole none m (subst (λ (l : List (Placed Mtr)). IsIn m (trx_mtrs l)) made there) of;
      }

      -- another transaction that is open was so
      open_before : (c : Begun) → IsIn c p.trx.begun → (tag : SlotTag) → Shows q.trx.rows c.id tag → Shows p.trx.rows c.id tag
      open_before c there tag shown = elim (cases_Bool (c.id.slot == b.id.slot)) [
        | inl t ↦
            let slot : c.id.slot ≡ b.id.slot = eqb-true c.id.slot b.id.slot t in
            let same : shows Active b.id.version 0 ≡ shows tag c.id.version 0 = sym (row_here b.id.slot (shows Active b.id.version 0) p.trx.rows) ∙ ap (λ (l : List SlotRow). shown_at l b.id.slot) (sym rows) ∙ ap (shown_at q.trx.rows) (sym slot) ∙ shown in
            absurd (fresh c there (sym (ap (λ (x : Shown). x.version) same)))
        | inr f ↦
            sym (row_else b.id.slot c.id.slot (shows Active b.id.version 0) p.trx.rows (λ same. slot_differs c.id.slot b.id.slot f same))
            ∙ ap (λ (l : List SlotRow). shown_at l c.id.slot) (sym rows) ∙ shown
      ]
        where
          slot_differs : (i j : ℕ) → (i == j) ≡ false → i ≡ j → ⊥
          slot_differs i j f same = false≢true (sym f ∙ eq-eqb i j same)

      only : (c : Begun) → IsIn c q.trx.begun → IsOpen q.trx c.id → (trx_of_stage after.stage ≡ Some c) ⊎ (IsIn c p.trx.begun × IsOpen p.trx c.id × (trx_of_stage s.stage ≡ Some c → trx_of_stage after.stage ≡ Some c))
      only c there opened = elim (subst (λ l. IsIn c l) begun there) [
        | inl is ↦ inl (ap trx_of_stage goes.stage_is ∙ ap (λ (v : Begun). Some v) (sym is))
        | inr old ↦ inr (old, ((c.view, old), ⊎_elim (λ active. inl (open_before c old Active active)) (λ prep. inr (open_before c old Prep prep)) opened.1), λ is. absurd (none_some c (sym closed ∙ is)))
      ]

  -- the session's transaction has ended: its slot shows so, and the slots of others show what they did
  pub opens_ended : (trx : Begun) (cts : Option ℕ) → q.trx.begun ≡ p.trx.begun → ((slot : ℕ) → slot ≢ trx.id.slot → shown_at q.trx.rows slot ≡ shown_at p.trx.rows slot) → shown_at q.trx.rows trx.id.slot ≡ ended trx.id cts
      → ((b : Begun) (key : ℕ) → first_former q.pages.made b.id key ≡ first_former p.pages.made b.id key) → ((m : TrxMtr) → IsIn m (trx_mtrs q.pages.made) → IsIn m (trx_mtrs p.pages.made) ⊎ (row_restored_by m.mtr ≡ None))
      → IsOpen p.trx trx.id → trx_of_stage s.stage ≡ Some trx → trx_of_stage after.stage ≡ None → HasNoNewWait s after → Opens work q down (slice_set sessions number after)
  opens_ended trx cts begun slots its_slot formers made its_open_slot stage over waits =
      opens_changed work p q down e sessions number s after found others
      (subst (λ (o : Option Begun). IfSome o (IsOpenAs work q down after)) (sym over) tt)
      only
      (waits_on work p q down e sessions number s after found waits (h.waits s (at_place sessions number s found)))
      (no_refusal work q down after.stage (next_line after) over)
      h
    where
      its_row : (version : ℕ) (tag : SlotTag) → shown_at p.trx.rows trx.id.slot ≡ shows tag version 0 → version ≡ trx.id.version
      its_row version tag shown = ⊎_elim (λ active. ap (λ (x : Shown). x.version) (sym shown ∙ active)) (λ prep. ap (λ (x : Shown). x.version) (sym shown ∙ prep)) its_open_slot.1

      others : (j : ℕ) (x : Session) (b : Begun) → j ≢ number → slice_get sessions j ≡ Some x → trx_of_stage x.stage ≡ Some b → IsOpenAs work p down x b → IsOpenAs work q down x b
      others j x b ne at is opened =
          let apart = others_apart work p q down e sessions number s after found numbered h j x b trx ne at opened (its_open work p q down e sessions number s after found numbered h trx stage) in
          record {
            begun = begun_in p q e b opened.begun;
            named = opened.named;
            active = ⊎_elim (λ active. inl (slots b.id.slot (λ same. apart (its_row b.id.version Active (ap (shown_at p.trx.rows) (sym same) ∙ active))) ∙ active)) (λ is_down. inr is_down) opened.active;
            formers = λ key. formers b key ∙ opened.formers key;
            whole = λ none m there of. ⊎_elim (λ old. opened.whole none m old of) (λ no_row. no_row) (made m there);
          }

      -- what is open still has another slot
      other_slot : (b : Begun) → Shows q.trx.rows b.id Active ⊎ Shows q.trx.rows b.id Prep → b.id.slot ≢ trx.id.slot
      other_slot b shown = λ same. not_open trx.id cts b.id.version (⊎_elim (λ active. inl (sym its_slot ∙ ap (shown_at q.trx.rows) (sym same) ∙ active)) (λ prep. inr (sym its_slot ∙ ap (shown_at q.trx.rows) (sym same) ∙ prep)) shown)

      only : (b : Begun) → IsIn b q.trx.begun → IsOpen q.trx b.id → (trx_of_stage after.stage ≡ Some b) ⊎ (IsIn b p.trx.begun × IsOpen p.trx b.id × (trx_of_stage s.stage ≡ Some b → trx_of_stage after.stage ≡ Some b))
      only b there opened =
          let old = subst (λ l. IsIn b l) begun there in
          let ne = other_slot b opened.1 in
          inr (
            old,
            ((b.view, old), ⊎_elim (λ active. inl (sym (slots b.id.slot ne) ∙ active)) (λ prep. inr (sym (slots b.id.slot ne) ∙ prep)) opened.1),
            λ is. absurd (ne (ap (λ (c : Begun). c.id.slot) (some_same b trx (sym is ∙ stage)))),
          )
