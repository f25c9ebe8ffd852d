-- One mtr more: each key of an open transaction is its own by its node's mtrs exactly where its version is the newest.
use Rattle.std.proofs.Common.{◌≡◌, ◌≢◌, ℕ, ◌==◌, ◌&&◌, ◌⊎◌, Bool, true, false, cond, if◌then◌else◌, List, ◌∷◌, length, Option, Some, None, refl, sym, ap, subst, ◌∙◌, inl, inr, arith}
use mathlib.Core.Logic.{dite}
use native.Mathlib.Decide.{ℕ_discrete}
use Rattle.std.proofs.lemmas.Bool.{eqb-true, eq-eqb}
use Rattle.mp_machine.specs.Lists.{IsIn}
use Rattle.mp_machine.proofs.Lists.{pushed_here, pushed_else}
use Rattle.mp_model.specs.declared.ids.TrxId.{TrxId}
use Rattle.mp_cells.specs.declared.records.Mtr.{Mtr}
use Rattle.mp_cells.specs.declared.rows.Row.{Row}
use Rattle.mp_cells.specs.Trees.{PageMap}
use Rattle.mp_histories.proofs.Lists.{some_same, none_some}
use Rattle.mp_core_trx.specs.declared.slot.Shown.{Shown}
use Rattle.mp_core_trx.specs.declared.slot.SlotTag.TheVariants.{Free, Active, Prep, Committed}
use Rattle.mp_core_trx.specs.Words.{tag_number, shows}
use Rattle.mp_core_trx.specs.Parts.{draw_of, shown_at, HasBegun}
use Rattle.mp_core_trx.specs.World.{begun_in, slot_rows_in}
use Rattle.mp_core_pages.specs.declared.part.Placed.{Placed}
use Rattle.mp_core_pages.specs.Histories.{placed}
use Rattle.mp_histories.specs.KeyOps.{same_writer, without_leading, below_top, is_top, NoneBy}
use Rattle.mp_histories.specs.Histories.{History, Version, by_version, rows_of_versions, live_on}
use Rattle.mp_histories.specs.Chains.{row_over, row_of_key}
use Rattle.mp_histories.proofs.Writers.{decided, same_is, same_from, other_from, other_is}
use Rattle.mp_histories.proofs.Live.{none_leading, top_below, top_whole, all_below}
use Rattle.mp_histories.proofs.Standing.{has_chains}
use Rattle.mp_core.specs.declared.opening.CoreOpening.{CoreOpening}
use Rattle.mp_core.specs.OwnMtrs.{is_id, or_else_row, owner_of, first_former}
use Rattle.mp_core.specs.World.{CoreWorld}
use Rattle.mp_core.specs.Invariant.{NumbersFit, CoreInv}
use Rattle.mp_facts.specs.Facts.{opening_pages}
use Rattle.mp_facts.proofs.MadeLists.{with_next}
use Rattle.mp_facts.proofs.MtrShapes.{put_owner, put_former, restore_owner, restore_former, commit_owner, commit_former}
use Rattle.mp_facts.proofs.NewMtrs.{NewPut, NewRestore, NewMtr}
use Rattle.mp_facts.proofs.LiveSteps.{new_version, live_put, live_back, live_none, in_below}
use Rattle.mp_facts.proofs.WriteSteps.{makes_commit, still_committed, stand_together, restored_own}
use Rattle.mp_facts.proofs.CoverSteps.{newest_replaced}
use Rattle.mp_facts.proofs.Joint.{Joint, ShowsOpen, row_below, Owned, NotOwned, OwnKey, OwnKeys, LiveWriters}

-- who is open was not seen committed
open_not_committed : (rows : Shown) (id : TrxId) (version cts : ℕ) → rows ≡ shows Committed version cts → (rows ≡ shows Active id.version 0) ⊎ (rows ≡ shows Prep id.version 0) → ⊥
open_not_committed x id version cts is (inl active) = absurd (let a = ap (λ (y : Shown). tag_number y.tag) is in let b = ap (λ (y : Shown). tag_number y.tag) active in omega (arith, a, b))
open_not_committed x id version cts is (inr prep) = absurd (let a = ap (λ (y : Shown). tag_number y.tag) is in let b = ap (λ (y : Shown). tag_number y.tag) prep in omega (arith, a, b))

-- where the owner, the first former row and the versions of a key stay, so does its state
module _ (opening : PageMap) (history later : History) (made more : List (Placed Mtr)) (id : TrxId) (key : ℕ)
    (owner : owner_of more key ≡ owner_of made key) (former : first_former more id key ≡ first_former made id key) (live : live_on key later ≡ live_on key history) where
  below_same : row_below opening later key ≡ row_below opening history key
  below_same = ap (λ (vs : List Version). row_over (rows_of_versions (below_top by_version vs)) (row_of_key opening key)) live

  pub own_same : OwnKey opening history made id key → OwnKey opening later more id key
  own_same (inl own) = inl (record {
    owner = owner ∙ own.owner;
    newest = own.newest;
    rest = own.rest;
    live = live ∙ own.live;
    by = own.by;
    former = former ∙ own.former ∙ ap (λ (r : Row). Some r) (sym below_same);
  })
  own_same (inr other) = inr (record {
    owner = λ e. other.owner (sym owner ∙ e);
    none = subst (NoneBy by_version (Some id)) (sym live) other.none;
    former = former ∙ other.former;
  })

module _ (o : CoreOpening) (fair : NumbersFit o) (w : CoreWorld) (i : CoreInv o w) (j : Joint o w) (n : ℕ) (m : Mtr) (new : NewMtr o w n m) where
  abbrev then_made : ℕ → List (Placed Mtr)
  then_made = with_next w.pages.made n (length w.pages.history) m

  abbrev then_history : History
  then_history = m ∷ w.pages.history

  -- the mtrs of its node, and of others
  here : (P : List (Placed Mtr) → Type 0) (k : ℕ) → k ≡ n → P (placed (length w.pages.history) m ∷ w.pages.made n) → P (then_made k)
  here P k same holds = subst P (sym (ap then_made same ∙ pushed_here w.pages.made n (placed (length w.pages.history) m))) holds

  else_made : (k : ℕ) → ¬ (k ≡ n) → then_made k ≡ w.pages.made k
  else_made k other = pushed_else w.pages.made n (placed (length w.pages.history) m) k other

  -- another node's state stays where the versions do
  else_owner : (k key : ℕ) → ¬ (k ≡ n) → owner_of (then_made k) key ≡ owner_of (w.pages.made k) key
  else_owner k key other = ap (λ (l : List (Placed Mtr)). owner_of l key) (else_made k other)

  else_former : (k : ℕ) (id : TrxId) (key : ℕ) → ¬ (k ≡ n) → first_former (then_made k) id key ≡ first_former (w.pages.made k) id key
  else_former k id key other = ap (λ (l : List (Placed Mtr)). first_former l id key) (else_made k other)

  abbrev Next : TrxId → ℕ → Type 0
  Next id key = OwnKey (opening_pages o) then_history (then_made id.node) id key

  -- a key that the mtr leaves
  left_alone : (id : TrxId) (key : ℕ) → OwnKey (opening_pages o) w.pages.history (w.pages.made id.node) id key → live_on key then_history ≡ live_on key w.pages.history
      → owner_of (placed (length w.pages.history) m ∷ w.pages.made n) key ≡ owner_of (w.pages.made n) key
      → first_former (placed (length w.pages.history) m ∷ w.pages.made n) id key ≡ first_former (w.pages.made n) id key → Next id key
  left_alone id key old live owner former =
      dite (ℕ_discrete id.node n)
      (λ same. here (λ l. OwnKey (opening_pages o) then_history l id key) id.node same
      (own_same (opening_pages o) w.pages.history then_history (w.pages.made n) (placed (length w.pages.history) m ∷ w.pages.made n) id key owner former live
      (subst (λ (k : ℕ). OwnKey (opening_pages o) w.pages.history (w.pages.made k) id key) same old)))
      (λ other. own_same (opening_pages o) w.pages.history then_history (w.pages.made id.node) (then_made id.node) id key (else_owner id.node key other) (else_former id.node id key other) live old)

  -- ---- a put of this key
  module _ (p : NewPut o w n m) where
    abbrev v : Version
    v = new_version w.pages.history p.row

    put_live : live_on p.row.key then_history ≡ v ∷ live_on p.row.key w.pages.history
    put_live = live_put w.pages.history m p.row.key p.row p.well.puts p.well.restores true (eq-eqb p.row.key p.row.key refl)

    own_key : (p.row.key == p.row.key) ≡ true
    own_key = eq-eqb p.row.key p.row.key refl

    put_owner_is : owner_of (placed (length w.pages.history) m ∷ w.pages.made n) p.row.key ≡ Some p.id
    put_owner_is = put_owner (w.pages.made n) m p.row p.kept p.id p.shape p.by (length w.pages.history) p.row.key ∙ ap (λ (b : Bool). if b then Some p.id else owner_of (w.pages.made n) p.row.key) own_key

    put_former_is : (id : TrxId) (b : Bool) → is_id id (Some p.id) ≡ b
        → first_former (placed (length w.pages.history) m ∷ w.pages.made n) id p.row.key ≡ (if b then or_else_row (first_former (w.pages.made n) id p.row.key) (Some p.kept) else first_former (w.pages.made n) id p.row.key)
    put_former_is id b e =
        put_former (w.pages.made n) m p.row p.kept p.id p.shape p.by (length w.pages.history) id p.row.key
        ∙ ap (λ (t : Bool). if t && is_id id (Some p.id) then or_else_row (first_former (w.pages.made n) id p.row.key) (Some p.kept) else first_former (w.pages.made n) id p.row.key) own_key
        ∙ ap (λ (t : Bool). if t then or_else_row (first_former (w.pages.made n) id p.row.key) (Some p.kept) else first_former (w.pages.made n) id p.row.key) e

    -- below the new version's group is what was below the group before
    below_put : (lower : List Version) → without_leading by_version (Some p.id) (live_on p.row.key w.pages.history) ≡ lower → row_below (opening_pages o) then_history p.row.key ≡ row_over (rows_of_versions lower) (row_of_key (opening_pages o) p.row.key)
    below_put lower is =
        ap (λ (vs : List Version). row_over (rows_of_versions (below_top by_version vs)) (row_of_key (opening_pages o) p.row.key)) put_live
        ∙ ap (λ (x : Option TrxId). row_over (rows_of_versions (without_leading by_version x (live_on p.row.key w.pages.history))) (row_of_key (opening_pages o) p.row.key)) p.by
        ∙ ap (λ (vs : List Version). row_over (rows_of_versions vs) (row_of_key (opening_pages o) p.row.key)) is

    first_of_group : OwnKey (opening_pages o) w.pages.history (w.pages.made n) p.id p.row.key → or_else_row (first_former (w.pages.made n) p.id p.row.key) (Some p.kept) ≡ Some (row_below (opening_pages o) then_history p.row.key)
    first_of_group (inl own) =
        let top : is_top by_version (Some p.id) (live_on p.row.key w.pages.history) ≡ true = ap (λ (vs : List Version). is_top by_version (Some p.id) vs) own.live ∙ same_from own.newest.row.writer (Some p.id) own.by in
        ap (λ (x : Option Row). or_else_row x (Some p.kept)) own.former
        ∙ ap (λ (r : Row). Some r) (sym (below_put (below_top by_version (live_on p.row.key w.pages.history)) (sym (top_below by_version (Some p.id) (live_on p.row.key w.pages.history) top))))
    first_of_group (inr other) =
        ap (λ (x : Option Row). or_else_row x (Some p.kept)) other.former
        ∙ ap (λ (r : Row). Some r)
        (p.replaced ∙ (has_chains o.trx.base.llsn (opening_pages o) fair.clean w.pages.history j.runs).head p.row.key
        ∙ sym (below_put (live_on p.row.key w.pages.history) (none_leading by_version (Some p.id) (live_on p.row.key w.pages.history) other.none)))

    put_itself : OwnKey (opening_pages o) w.pages.history (w.pages.made n) p.id p.row.key → OwnKey (opening_pages o) then_history (placed (length w.pages.history) m ∷ w.pages.made n) p.id p.row.key
    put_itself old = inl (record {
      owner = put_owner_is;
      newest = v;
      rest = live_on p.row.key w.pages.history;
      live = put_live;
      by = p.by;
      former = put_former_is p.id true (same_from (Some p.id) (Some p.id) refl) ∙ first_of_group old;
    })

    -- another open transaction's version is not what a put replaces
    not_over : (id : TrxId) → ShowsOpen (slot_rows_in w.trx id.node) id → ¬ (id ≡ p.id) → Owned (opening_pages o) w.pages.history (w.pages.made id.node) id p.row.key → ⊥
    not_over id is_open other own =
        let same : p.kept ≡ own.newest.row = newest_replaced o fair w i j n m new p own.newest own.rest own.live in
        let by : p.kept.writer ≡ Some id = ap (λ (r : Row). r.writer) same ∙ own.by in
        elim p.over [
          | inl none ↦ none_some id (sym none ∙ by)
          | inr (inl its) ↦ other (some_same id p.id (sym by ∙ its))
          | inr (inr saw) ↦
              let whose : saw.0 ≡ id = some_same saw.0 id (sym saw.1 ∙ by) in
              let shown = still_committed o w i j.ended n saw.0 saw.2 in
              open_not_committed (shown_at (slot_rows_in w.trx id.node) id.slot) id saw.0.version saw.2.cts (subst (λ (x : TrxId). shown_at (slot_rows_in w.trx x.node) x.slot ≡ shows Committed saw.0.version saw.2.cts) whose shown) is_open
        ]

    put_other : (id : TrxId) → ¬ (id ≡ p.id) → NotOwned w.pages.history (w.pages.made id.node) id p.row.key → Next id p.row.key
    put_other id other old =
        let none : NoneBy by_version (Some id) (live_on p.row.key then_history) = subst (NoneBy by_version (Some id)) (sym put_live) (λ (e : p.row.writer ≡ Some id). other (some_same id p.id (sym e ∙ p.by)), old.none) in
        let test : is_id id (Some p.id) ≡ false = other_from (Some p.id) (Some id) (λ (e : Some p.id ≡ Some id). other (some_same id p.id (sym e))) in
        dite (ℕ_discrete id.node n)
        (λ same. here (λ l. OwnKey (opening_pages o) then_history l id p.row.key) id.node same (inr (record {
          owner = λ e. other (some_same id p.id (sym e ∙ put_owner_is));
          none = none;
          former = put_former_is id false test ∙ ap (λ (k : ℕ). first_former (w.pages.made k) id p.row.key) (sym same) ∙ old.former;
        })))
        (λ apart. inr (record {
          owner = λ e. old.owner (sym (else_owner id.node p.row.key apart) ∙ e);
          none = none;
          former = else_former id.node id p.row.key apart ∙ old.former;
        }))

    put_here : (id : TrxId) → ShowsOpen (slot_rows_in w.trx id.node) id → OwnKey (opening_pages o) w.pages.history (w.pages.made id.node) id p.row.key → Next id p.row.key
    put_here id is_open old = elim (decided (same_writer (Some id) (Some p.id))) [
      | inl e ↦
          let same : id ≡ p.id = some_same id p.id (same_is (Some id) (Some p.id) e) in
          subst (λ (x : TrxId). Next x p.row.key) (sym same)
          (here (λ l. OwnKey (opening_pages o) then_history l p.id p.row.key) p.id.node p.own
          (put_itself (subst (λ (k : ℕ). OwnKey (opening_pages o) w.pages.history (w.pages.made k) p.id p.row.key) p.own (subst (λ (x : TrxId). OwnKey (opening_pages o) w.pages.history (w.pages.made x.node) x p.row.key) same old))))
      | inr e ↦
          let other : ¬ (id ≡ p.id) = λ (s : id ≡ p.id). other_is (Some id) (Some p.id) e (ap (λ (x : TrxId). Some x) s) in
          elim old [
            | inl own ↦ absurd (not_over id is_open other own)
            | inr none ↦ put_other id other none
          ]
    ]

    pub put_next : (id : TrxId) (key : ℕ) → ShowsOpen (slot_rows_in w.trx id.node) id → OwnKey (opening_pages o) w.pages.history (w.pages.made id.node) id key → (b : Bool) → (p.row.key == key) ≡ b → Next id key
    put_next id key is_open old true e =
        let same : p.row.key ≡ key = eqb-true p.row.key key e in
        subst (Next id) same (put_here id is_open (subst (OwnKey (opening_pages o) w.pages.history (w.pages.made id.node) id) (sym same) old))
    put_next id key is_open old false e =
        left_alone id key old (live_put w.pages.history m key p.row p.well.puts p.well.restores false e)
        (put_owner (w.pages.made n) m p.row p.kept p.id p.shape p.by (length w.pages.history) key ∙ ap (λ (b : Bool). if b then Some p.id else owner_of (w.pages.made n) key) e)
        (put_former (w.pages.made n) m p.row p.kept p.id p.shape p.by (length w.pages.history) id key ∙ ap (λ (b : Bool). if b && is_id id (Some p.id) then or_else_row (first_former (w.pages.made n) id key) (Some p.kept) else first_former (w.pages.made n) id key) e)

  -- ---- a restore of this key
  module _ (p : NewRestore o w n m) where
    back_live : live_on p.row.key then_history ≡ below_top by_version (live_on p.row.key w.pages.history)
    back_live = live_back w.pages.history m p.row.key p.row p.page p.one true (eq-eqb p.row.key p.row.key refl)

    back_owner_is : owner_of (placed (length w.pages.history) m ∷ w.pages.made n) p.row.key ≡ None
    back_owner_is = restore_owner (w.pages.made n) m p.row p.id p.shape p.owner (length w.pages.history) p.row.key ∙ ap (λ (b : Bool). if b then None else owner_of (w.pages.made n) p.row.key) (eq-eqb p.row.key p.row.key refl)

    back_former_is : (id : TrxId) (b : Bool) → is_id id (Some p.id) ≡ b → first_former (placed (length w.pages.history) m ∷ w.pages.made n) id p.row.key ≡ (if b then None else first_former (w.pages.made n) id p.row.key)
    back_former_is id b e =
        restore_former (w.pages.made n) m p.row p.id p.shape p.owner (length w.pages.history) id p.row.key
        ∙ ap (λ (t : Bool). if t && is_id id (Some p.id) then None else first_former (w.pages.made n) id p.row.key) (eq-eqb p.row.key p.row.key refl)
        ∙ ap (λ (t : Bool). if t then None else first_former (w.pages.made n) id p.row.key) e

    owned : Owned (opening_pages o) w.pages.history (w.pages.made n) p.id p.row.key
    owned = restored_own o fair w i j n m new p

    back_itself : OwnKey (opening_pages o) then_history (placed (length w.pages.history) m ∷ w.pages.made n) p.id p.row.key
    back_itself = inr (record {
      owner = λ e. none_some p.id (sym back_owner_is ∙ e);
      none = subst (NoneBy by_version (Some p.id)) (sym back_live) (top_whole by_version (Some p.id) (live_on p.row.key w.pages.history)
          (ap (λ (vs : List Version). is_top by_version (Some p.id) vs) owned.live ∙ same_from owned.newest.row.writer (Some p.id) owned.by) (stand_together o w i j p.row.key));
      former = back_former_is p.id true (same_from (Some p.id) (Some p.id) refl);
    })

    -- nobody else's is what a restore takes off
    back_alone : (id : TrxId) (k : ℕ) → ¬ (id ≡ p.id) → Owned (opening_pages o) w.pages.history (w.pages.made k) id p.row.key → ⊥
    back_alone id k other own =
        let top : own.newest ≡ owned.newest = (let both = sym own.live ∙ owned.live in cc) in
        other (some_same id p.id (sym own.by ∙ ap (λ (x : Version). x.row.writer) top ∙ owned.by))

    back_other : (id : TrxId) → ¬ (id ≡ p.id) → NotOwned w.pages.history (w.pages.made id.node) id p.row.key → Next id p.row.key
    back_other id other old =
        let none : NoneBy by_version (Some id) (live_on p.row.key then_history) = subst (NoneBy by_version (Some id)) (sym back_live) (all_below by_version (λ (x : Version). x.row.writer ≢ Some id) (live_on p.row.key w.pages.history) old.none) in
        let test : is_id id (Some p.id) ≡ false = other_from (Some p.id) (Some id) (λ (e : Some p.id ≡ Some id). other (some_same id p.id (sym e))) in
        dite (ℕ_discrete id.node n)
        (λ same. here (λ l. OwnKey (opening_pages o) then_history l id p.row.key) id.node same (inr (record {
          owner = λ e. none_some id (sym back_owner_is ∙ e);
          none = none;
          former = back_former_is id false test ∙ ap (λ (k : ℕ). first_former (w.pages.made k) id p.row.key) (sym same) ∙ old.former;
        })))
        (λ apart. inr (record {
          owner = λ e. old.owner (sym (else_owner id.node p.row.key apart) ∙ e);
          none = none;
          former = else_former id.node id p.row.key apart ∙ old.former;
        }))

    back_here : (id : TrxId) → OwnKey (opening_pages o) w.pages.history (w.pages.made id.node) id p.row.key → Next id p.row.key
    back_here id old = elim (decided (same_writer (Some id) (Some p.id))) [
      | inl e ↦
          let same : id ≡ p.id = some_same id p.id (same_is (Some id) (Some p.id) e) in
          subst (λ (x : TrxId). Next x p.row.key) (sym same) (here (λ l. OwnKey (opening_pages o) then_history l p.id p.row.key) p.id.node p.own back_itself)
      | inr e ↦
          let other : ¬ (id ≡ p.id) = λ (s : id ≡ p.id). other_is (Some id) (Some p.id) e (ap (λ (x : TrxId). Some x) s) in
          elim old [
            | inl own ↦ absurd (back_alone id id.node other own)
            | inr none ↦ back_other id other none
          ]
    ]

    pub back_next : (id : TrxId) (key : ℕ) → OwnKey (opening_pages o) w.pages.history (w.pages.made id.node) id key → (b : Bool) → (p.row.key == key) ≡ b → Next id key
    back_next id key old true e =
        let same : p.row.key ≡ key = eqb-true p.row.key key e in
        subst (Next id) same (back_here id (subst (OwnKey (opening_pages o) w.pages.history (w.pages.made id.node) id) (sym same) old))
    back_next id key old false e =
        left_alone id key old (live_back w.pages.history m key p.row p.page p.one false e)
        (restore_owner (w.pages.made n) m p.row p.id p.shape p.owner (length w.pages.history) key ∙ ap (λ (b : Bool). if b then None else owner_of (w.pages.made n) key) e)
        (restore_former (w.pages.made n) m p.row p.id p.shape p.owner (length w.pages.history) id key ∙ ap (λ (b : Bool). if b && is_id id (Some p.id) then None else first_former (w.pages.made n) id key) e)

  pub own_made : OwnKeys (opening_pages o) then_history then_made (begun_in w.trx) (slot_rows_in w.trx)
  own_made id key begun is_open = elim new [
    | inl p ↦ put_next p id key is_open (j.own id key begun is_open) (p.row.key == key) refl
    | inr (inl p) ↦ back_next p id key (j.own id key begun is_open) (p.row.key == key) refl
    | inr (inr p) ↦ left_alone id key (j.own id key begun is_open) (live_none w.pages.history m key (makes_commit m (draw_of p.id p.cts) p.shape.commit))
        (commit_owner (w.pages.made n) m (draw_of p.id p.cts) p.shape (length w.pages.history) key) (commit_former (w.pages.made n) m (draw_of p.id p.cts) p.shape (length w.pages.history) id key)
  ]

  -- ---- who put what stands
  put_writer : (p : NewPut o w n m) (id : TrxId) → p.row.writer ≡ Some id → HasBegun (begun_in w.trx id.node) id × ¬ (shown_at (slot_rows_in w.trx id.node) id.slot ≡ shows Free id.version 0)
  put_writer p id by =
      let same : p.id ≡ id = some_same p.id id (sym p.by ∙ by) in
      subst (λ (x : TrxId). HasBegun (begun_in w.trx x.node) x × ¬ (shown_at (slot_rows_in w.trx x.node) x.slot ≡ shows Free x.version 0)) same
      (subst (λ (k : ℕ). HasBegun (begun_in w.trx k) p.id × ¬ (shown_at (slot_rows_in w.trx k) p.id.slot ≡ shows Free p.id.version 0)) (sym p.own)
      (p.begun, λ free. absurd (let tag = ap (λ (x : Shown). tag_number x.tag) (sym p.active ∙ free) in omega (arith, tag))))

  writers_put : (p : NewPut o w n m) (key : ℕ) (x : Version) (id : TrxId) (b : Bool) → IsIn x (cond b (new_version w.pages.history p.row ∷ live_on key w.pages.history) (live_on key w.pages.history)) → x.row.writer ≡ Some id
      → HasBegun (begun_in w.trx id.node) id × ¬ (shown_at (slot_rows_in w.trx id.node) id.slot ≡ shows Free id.version 0)
  writers_put p key x id true (inl is) by = put_writer p id (ap (λ (y : Version). y.row.writer) (sym is) ∙ by)
  writers_put p key x id true (inr has) by = j.writers key x id has by
  writers_put p key x id false has by = j.writers key x id has by

  writers_back : (key : ℕ) (x : Version) (b : Bool) → IsIn x (cond b (below_top by_version (live_on key w.pages.history)) (live_on key w.pages.history)) → IsIn x (live_on key w.pages.history)
  writers_back key x true has = in_below (live_on key w.pages.history) x has
  writers_back key x false has = has

  pub writers_made : LiveWriters then_history (begun_in w.trx) (slot_rows_in w.trx)
  writers_made key x id has by = elim new [
    | inl p ↦ writers_put p key x id (p.row.key == key) (subst (IsIn x) (live_put w.pages.history m key p.row p.well.puts p.well.restores (p.row.key == key) refl) has) by
    | inr (inl p) ↦ j.writers key x id (writers_back key x (p.row.key == key) (subst (IsIn x) (live_back w.pages.history m key p.row p.page p.one (p.row.key == key) refl) has)) by
    | inr (inr p) ↦ j.writers key x id (subst (IsIn x) (live_none w.pages.history m key (makes_commit m (draw_of p.id p.cts) p.shape.commit)) has) by
  ]
