-- What a slot shows stays right: as it is stored, as a transaction begins, as one draws.
use Rattle.std.proofs.Common.{◌≡◌, ℕ, ◌⊎◌, List, ◌∷◌, if◌then◌else◌, refl, sym, ap, ◌∙◌, subst, inl, inr, ⊎_elim, arith, eq-eqb, ne_eqb}
use mathlib.Core.Logic.{dite}
use native.Mathlib.Decide.{ℕ_discrete}
use Rattle.mp_model.specs.declared.ids.TrxId.{TrxId}
use Rattle.mp_core_trx.specs.declared.opening.TrxOpening.{TrxOpening}
use Rattle.mp_core_trx.specs.declared.slot.SlotTag.TheVariants.{Free, Active, Prep, Committed}
use Rattle.mp_core_trx.specs.declared.slot.Shown.{Shown}
use Rattle.mp_core_trx.specs.declared.part.Begun.{Begun}
use Rattle.mp_core_trx.specs.declared.part.SlotRow.{SlotRow}
use Rattle.mp_core_trx.specs.declared.part.Draw.{Draw}
use Rattle.mp_machine.specs.Lists.{IsIn, pushed}
use Rattle.mp_core_trx.specs.Words.{tag_number, shows}
use Rattle.mp_core_trx.specs.Parts.{trx, begun_of, draw_of, unused, shown_at, Shows, HasBegun, HasDrawnNothing}
use Rattle.mp_core_trx.specs.Events.{slot_row}
use Rattle.mp_core_trx.specs.Invariant.{Ids, SlotIsRight, Slots, SlotsUsedOnce}
use Rattle.mp_machine.proofs.Lists.{in_pushed, in_more, pushed_here, pushed_else}
use Rattle.mp_core_trx.proofs.Ids.{begun_more, begun_cases, same_id, as_trx}

-- two tags with different numbers are not shown at once
pub two_tags : {P : Type 0} (x y : Shown) → x ≡ y → ¬ (tag_number x.tag ≡ tag_number y.tag) → P
two_tags x y e d = absurd (d (ap (λ (z : Shown). tag_number z.tag) e))

-- a slot after a row was stored: the row's own, or as before
pub shown_pushed : (rows : ℕ → List SlotRow) (n : ℕ) (row : SlotRow) (k slot : ℕ)
    → ((k ≡ n) × (slot ≡ row.slot) × (shown_at (pushed rows n row k) slot ≡ row.shown)) ⊎ (shown_at (pushed rows n row k) slot ≡ shown_at (rows k) slot)
shown_pushed rows n row k slot =
    dite (ℕ_discrete k n)
    (λ same.
    let there : pushed rows n row k ≡ row ∷ rows n = ap (pushed rows n row) same ∙ pushed_here rows n row in
    dite (ℕ_discrete slot row.slot)
    (λ own. inl (same, own, ap (λ l. shown_at l slot) there ∙ ap (λ b. if b then row.shown else shown_at (rows n) slot) (eq-eqb slot row.slot own)))
    (λ other.
    inr (ap (λ l. shown_at l slot) there ∙ ap (λ b. if b then row.shown else shown_at (rows n) slot) (ne_eqb slot row.slot other) ∙ ap (λ j. shown_at (rows j) slot) (sym same))))
    (λ other. inr (ap (λ l. shown_at l slot) (pushed_else rows n row k other)))

pub shown_here : (rows : ℕ → List SlotRow) (n : ℕ) (row : SlotRow) → shown_at (pushed rows n row n) row.slot ≡ row.shown
shown_here rows n row = ap (λ l. shown_at l row.slot) (pushed_here rows n row) ∙ ap (λ b. if b then row.shown else shown_at (rows n) row.slot) (eq-eqb row.slot row.slot refl)

module _ (begun : ℕ → List Begun) (drew : ℕ → List Draw) (rows : ℕ → List SlotRow) (all : Slots begun drew rows) where
  pub slots_store : (n : ℕ) (id : TrxId) (x : Shown) → SlotIsRight n id.slot (begun n) (drew n) x → Slots begun drew (pushed rows n (slot_row id x))
  slots_store n id x right k slot =
      ⊎_elim
      (λ (here : (k ≡ n) × (slot ≡ id.slot) × (shown_at (pushed rows n (slot_row id x) k) slot ≡ x)).
      subst (λ y. SlotIsRight k slot (begun k) (drew k) y) (sym here.2)
      (subst (λ s. SlotIsRight k s (begun k) (drew k) x) (sym here.1) (subst (λ j. SlotIsRight j id.slot (begun j) (drew j) x) (sym here.0) right)))
      (λ (old : shown_at (pushed rows n (slot_row id x) k) slot ≡ shown_at (rows k) slot). subst (λ y. SlotIsRight k slot (begun k) (drew k) y) (sym old) (all k slot))
      (shown_pushed rows n (slot_row id x) k slot)

  -- a transaction that begins has drawn nothing, so no slot shows anything wrong of it
  pub slots_begin : (n : ℕ) (b : Begun) → HasDrawnNothing (drew n) b.id → Slots (pushed begun n b) drew rows
  slots_begin n b nothing k slot =
      let r = all k slot in
      let none : (id : TrxId) → (k ≡ n) × (id ≡ b.id) → HasDrawnNothing (drew k) id =
      λ id new. subst (λ j. HasDrawnNothing (drew j) id) (sym new.0) (subst (λ i. HasDrawnNothing (drew n) i) (sym new.1) nothing) in
      record {
        known = ⊎_elim (λ u. inl u) (λ (h : HasBegun (begun k) (trx k slot (shown_at (rows k) slot).version)). inr (begun_more begun n b k (trx k slot (shown_at (rows k) slot).version) h)) r.known;
        active = λ id h at is. ⊎_elim (λ (new : (k ≡ n) × (id ≡ b.id)). none id new) (λ (old : HasBegun (begun k) id). r.active id old at is) (begun_cases begun n b k id h);
        free = λ id h at is. ⊎_elim (λ (new : (k ≡ n) × (id ≡ b.id)). none id new) (λ (old : HasBegun (begun k) id). r.free id old at is) (begun_cases begun n b k id h);
        committed = r.committed;
        stamped = r.stamped;
      }

  -- who draws is in PREP, so no slot shows it ACTIVE or FREE
  pub slots_draw : (n : ℕ) (id : TrxId) (cts : ℕ) → Shows (rows n) id Prep → Slots begun (pushed drew n (draw_of id cts)) rows
  slots_draw n id cts prep k slot =
      let r = all k slot in
      let d = draw_of id cts in
      let is_prep : (other : TrxId) → other.slot ≡ slot → (k ≡ n) → other ≡ id → shown_at (rows k) slot ≡ shows Prep id.version 0 =
      λ other at mine same. (λ i. shown_at (rows (mine i)) ((sym at ∙ ap (λ (j : TrxId). j.slot) same) i)) ∙ prep in
      record {
        known = r.known;
        active = λ other h at is c drawn.
            ⊎_elim
            (λ (new : (k ≡ n) × (draw_of other c ≡ d)).
            two_tags (shows Active other.version 0) (shows Prep id.version 0) (sym is ∙ is_prep other at new.0 (ap (λ (x : Draw). x.id) new.1)) (λ e. absurd (omega arith)))
            (λ (old : IsIn (draw_of other c) (drew k)). r.active other h at is c old)
            (in_pushed drew n d k (draw_of other c) drawn);
        free = λ other h at is c drawn.
            ⊎_elim
            (λ (new : (k ≡ n) × (draw_of other c ≡ d)).
            two_tags (shows Free other.version 0) (shows Prep id.version 0) (sym is ∙ is_prep other at new.0 (ap (λ (x : Draw). x.id) new.1)) (λ e. absurd (omega arith)))
            (λ (old : IsIn (draw_of other c) (drew k)). r.free other h at is c old)
            (in_pushed drew n d k (draw_of other c) drawn);
        committed = λ version c is. in_more drew n d k (draw_of (trx k slot version) c) (r.committed version c is);
        stamped = r.stamped;
      }

-- what may be stored for a transaction of the node
module _ (o : TrxOpening) (begun : ℕ → List Begun) (i : Ids o begun) (drew : List Draw) (n : ℕ) (id : TrxId) (has : HasBegun (begun n) id) where
  is_begun : HasBegun (begun n) (trx n id.slot id.version)
  is_begun = subst (λ j. HasBegun (begun n) j) (as_trx o begun i n id has) has

  -- whoever has the version shown is the transaction
  of_version : (tag : _) (other : TrxId) → HasBegun (begun n) other → shows tag id.version 0 ≡ shows tag other.version 0 → HasDrawnNothing drew id → HasDrawnNothing drew other
  of_version tag other h e nothing = subst (λ j. HasDrawnNothing drew j) (same_id o begun i n id other has h (ap (λ (x : Shown). x.version) e)) nothing

  pub right_active : HasDrawnNothing drew id → SlotIsRight n id.slot (begun n) drew (shows Active id.version 0)
  right_active nothing = record {
    known = inr is_begun;
    active = λ other h at is. of_version Active other h is nothing;
    free = λ other h at is. two_tags (shows Active id.version 0) (shows Free other.version 0) is (λ e. absurd (omega arith));
    committed = λ version cts is. two_tags (shows Active id.version 0) (shows Committed version cts) is (λ e. absurd (omega arith));
    stamped = inl refl;
  }

  pub right_prep : SlotIsRight n id.slot (begun n) drew (shows Prep id.version 0)
  right_prep = record {
    known = inr is_begun;
    active = λ other h at is. two_tags (shows Prep id.version 0) (shows Active other.version 0) is (λ e. absurd (omega arith));
    free = λ other h at is. two_tags (shows Prep id.version 0) (shows Free other.version 0) is (λ e. absurd (omega arith));
    committed = λ version cts is. two_tags (shows Prep id.version 0) (shows Committed version cts) is (λ e. absurd (omega arith));
    stamped = inl refl;
  }

  pub right_free : HasDrawnNothing drew id → SlotIsRight n id.slot (begun n) drew (shows Free id.version 0)
  right_free nothing = record {
    known = inr is_begun;
    active = λ other h at is. two_tags (shows Free id.version 0) (shows Active other.version 0) is (λ e. absurd (omega arith));
    free = λ other h at is. of_version Free other h is nothing;
    committed = λ version cts is. two_tags (shows Free id.version 0) (shows Committed version cts) is (λ e. absurd (omega arith));
    stamped = inl refl;
  }

  pub right_committed : (cts : ℕ) → IsIn (draw_of id cts) drew → SlotIsRight n id.slot (begun n) drew (shows Committed id.version cts)
  right_committed cts drawn = record {
    known = inr is_begun;
    active = λ other h at is. two_tags (shows Committed id.version cts) (shows Active other.version 0) is (λ e. absurd (omega arith));
    free = λ other h at is. two_tags (shows Committed id.version cts) (shows Free other.version 0) is (λ e. absurd (omega arith));
    committed = λ version c is.
        subst (λ x. IsIn (draw_of (trx n id.slot x.version) x.cts) drew) is (subst (λ j. IsIn (draw_of j cts) drew) (as_trx o begun i n id has) drawn);
    stamped = inr refl;
  }

-- the slot of a transaction goes on to show its version
pub once_store : (begun : ℕ → List Begun) (rows : ℕ → List SlotRow) (n : ℕ) (id : TrxId) (x : Shown) → SlotsUsedOnce begun rows → HasBegun (begun n) id → x.version ≡ id.version → SlotsUsedOnce begun (pushed rows n (slot_row id x))
once_store begun rows n id x all has same k other h =
    ⊎_elim
    (λ (here : (k ≡ n) × (other.slot ≡ id.slot) × (shown_at (pushed rows n (slot_row id x) k) other.slot ≡ x)).
    ap (λ (y : Shown). y.version) here.2 ∙ same ∙ sym (all n id has) ∙ (λ i. (shown_at (rows (sym here.0 i)) (sym here.1 i)).version) ∙ all k other h)
    (λ (old : shown_at (pushed rows n (slot_row id x) k) other.slot ≡ shown_at (rows k) other.slot). ap (λ (y : Shown). y.version) old ∙ all k other h)
    (shown_pushed rows n (slot_row id x) k other.slot)

-- a transaction that begins takes a slot that none had
pub once_begin : (o : TrxOpening) (begun : ℕ → List Begun) (rows : ℕ → List SlotRow) (n : ℕ) (id : TrxId) (view : ℕ) (x : Shown) → Ids o begun → SlotsUsedOnce begun rows → shown_at (rows n) id.slot ≡ unused → x.version ≡ id.version
    → SlotsUsedOnce (pushed begun n (begun_of id view)) (pushed rows n (slot_row id x))
once_begin o begun rows n id view x i all free same k other h =
    ⊎_elim
    (λ (new : (k ≡ n) × (other ≡ id)).
    (λ j. (shown_at (pushed rows n (slot_row id x) (new.0 j)) (new.1 j).slot).version) ∙ ap (λ (y : Shown). y.version) (shown_here rows n (slot_row id x)) ∙ same ∙ ap (λ (j : TrxId). j.version) (sym new.1))
    (λ (old : HasBegun (begun k) other).
    let was = all k other old in
    ⊎_elim
    (λ (here : (k ≡ n) × (other.slot ≡ id.slot) × (shown_at (pushed rows n (slot_row id x) k) other.slot ≡ x)).
    let shown : (shown_at (rows k) other.slot).version ≡ 0 = (λ i. (shown_at (rows (here.0 i)) (here.1 i)).version) ∙ ap (λ (y : Shown). y.version) free in
    let above = (i.versions k (begun_of other old.0) old.1).0 in
    absurd (omega arith))
    (λ (stays : shown_at (pushed rows n (slot_row id x) k) other.slot ≡ shown_at (rows k) other.slot). ap (λ (y : Shown). y.version) stays ∙ was)
    (shown_pushed rows n (slot_row id x) k other.slot))
    (begun_cases begun n (begun_of id view) k other h)

-- so no two transactions of a node have one slot
pub one_slot : (o : TrxOpening) (begun : ℕ → List Begun) (rows : ℕ → List SlotRow) → Ids o begun → SlotsUsedOnce begun rows → (n : ℕ) (a b : TrxId) → HasBegun (begun n) a → HasBegun (begun n) b → a.slot ≡ b.slot → a ≡ b
one_slot o begun rows i all n a b h k same = same_id o begun i n a b h k (sym (all n a h) ∙ ap (λ s. (shown_at (rows n) s).version) same ∙ all n b k)
