-- What it leaves where rows are put back one after another.
use Rattle.std.proofs.Common.{if◌then◌else◌, ◌≡◌, ◌≢◌, ℕ, suc, ◌+◌, ◌<◌, ◌≤◌, ◌==◌, Bool, false, List, ◌∷◌, length, drop, slice_get, Option, None, Some, Result, Ok, Err, OnOk, refl, sym, ap, subst, ◌∙◌, inl, inr, ⊎_elim, arith, eq-eqb, add-one}
use Rattle.std.proofs.lemmas.Option.{slice_get_within}
use Rattle.mp_machine.specs.Lists.{IsIn}
use Rattle.mp_machine.specs.View.{part_in}
use Rattle.mp_model.specs.declared.ids.TrxId.{TrxId}
use Rattle.mp_cells.specs.declared.records.Mtr.{Mtr}
use Rattle.mp_cells.specs.declared.rows.Row.{Row}
use Rattle.mp_cells.specs.Trees.{row_at}
use Rattle.mp_core_trx.specs.declared.part.Begun.{Begun}
use Rattle.mp_core_trx.specs.declared.part.SlotRow.{SlotRow}
use Rattle.mp_core_trx.specs.declared.part.TrxPart.{TrxPart}
use Rattle.mp_core_trx.specs.declared.slot.SlotTag.TheVariants.{Active}
use Rattle.mp_core_trx.specs.Parts.{HasBegun, Shows}
use Rattle.mp_core_pages.specs.declared.part.Placed.{Placed}
use Rattle.mp_core.specs.declared.part.CorePart.{CorePart}
use Rattle.mp_core.specs.OwnMtrs.{row_put_by, row_restored_by, is_id, first_former, trx_of_mtr, TrxMtr, trx_mtrs}
use Rattle.mp_histories.proofs.Writers.{other_from}
use Rattle.mp_book.specs.Stages.{HaveOneRowEach}
use Rattle.mp_shared.specs.Nodes.{NodeView, HoldsPart}
use Rattle.mp_shared.proofs.Holding.{held_part}
use Rattle.mp_buffer_fusion.proofs.Visiting.{one_part}
use Rattle.mp_supports.specs.Supports.{no_trace}
use Rattle.mp_supports.specs.Kept.{lasting, Did}
use Rattle.mp_supports.specs.Steps.{OnlyLooked, MadeOne}
use Rattle.mp_supports.proofs.Classes.{did_looked, did_restore, did_then, did_after}
use Rattle.mp_supports.proofs.Extending.{core_extends_refl, core_extends_trans}
use Rattle.mp_supports.proofs.Formers.{former_other, former_back, once_from, kept_without}
use Rattle.mp_supports.proofs.Places.{drop_at}
use Rattle.mp_desk.specs.Desks.{Moves}
use Rattle.mp_desk.specs.Making.{SomeForced}
use Rattle.mp_desk.specs.Statements.{StaysQuiet}
use Rattle.mp_desk.specs.Writes.{HasFormers, PutsBackRows}
use Rattle.mp_desk.specs.Rolling.{MakesBack, IsFormer, IsFormerIn}
use Rattle.mp_desk.proofs.Moving.{looked_none, moves_none, moves_both, moves_as}

-- ---- quiet steps

quiet_none : (q : CorePart) → StaysQuiet q q
quiet_none q = record { extends = core_extends_refl q; begun = refl; rows = refl; drew = refl; made = refl }

pub quiet_then : (q r s : CorePart) → StaysQuiet q r → StaysQuiet r s → StaysQuiet q s
quiet_then q r s a b = record {
  extends = core_extends_trans q r s a.extends b.extends;
  begun = b.begun ∙ a.begun;
  rows = b.rows ∙ a.rows;
  drew = b.drew ∙ a.drew;
  made = b.made ∙ a.made;
}

quiet_looked : (q r : CorePart) → OnlyLooked q r → StaysQuiet q r
quiet_looked q r h = record { extends = h.extends; begun = h.begun; rows = h.rows; drew = h.drew; made = h.made }

pub quiet_forced : (q r : CorePart) → SomeForced q r → StaysQuiet q r
quiet_forced q r (inl same) = subst (StaysQuiet q) (sym same) (quiet_none q)
quiet_forced q r (inr h) = record {
  extends = h.extends;
  begun = ap (λ (t : TrxPart). t.begun) h.trx;
  rows = ap (λ (t : TrxPart). t.rows) h.trx;
  drew = ap (λ (t : TrxPart). t.drew) h.trx;
  made = h.made;
}

module _ (p : ℕ) where
  pub moves_quiet_none : (n : NodeView) → Moves StaysQuiet p n n
  moves_quiet_none n = moves_none p StaysQuiet quiet_none n

  pub moves_quiet : (a b c : NodeView) → Moves StaysQuiet p a b → Moves StaysQuiet p b c → Moves StaysQuiet p a c
  moves_quiet a b c one two = moves_both p StaysQuiet StaysQuiet StaysQuiet quiet_then a b c one two

  pub moves_quiet_looked : (a b : NodeView) → Moves OnlyLooked p a b → Moves StaysQuiet p a b
  moves_quiet_looked a b h = moves_as p OnlyLooked StaysQuiet quiet_looked a b h

  pub moves_quiet_forced : (a b : NodeView) → Moves SomeForced p a b → Moves StaysQuiet p a b
  moves_quiet_forced a b h = moves_as p SomeForced StaysQuiet quiet_forced a b h

  -- the row is a former one still
  former_part : (id : TrxId) (row : Row) (q r : CorePart) → StaysQuiet q r → IsFormer id row q → IsFormer id row r
  former_part id row q r quiet is = record {
    begun = subst (λ (l : List Begun). HasBegun l id) (sym quiet.begun) is.begun;
    active = subst (λ (l : List SlotRow). Shows l id Active) (sym quiet.rows) is.active;
    former = subst (λ (l : List (Placed Mtr)). first_former l id row.key ≡ Some row) (sym quiet.made) is.former;
  }

  pub former_on : (id : TrxId) (row : Row) (a b : NodeView) → HoldsPart a p → Moves StaysQuiet p a b → IsFormerIn p id row a → IsFormerIn p id row b
  former_on id row a b held quiet is r there =
      let has = held_part a p held in
      let now = quiet.mine has.0 has.1 in
      subst (IsFormer id row) (one_part (part_in b.parts p) now.0 r now.1 there) (former_part id row has.0 now.0 now.2 (is has.0 has.1))

  pub few_quiet : (most : ℕ) (a b : NodeView) → HoldsPart a p → Moves StaysQuiet p a b → ((q : CorePart) → part_in a.parts p ≡ Some q → length q.pages.made < most) → (r : CorePart) → part_in b.parts p ≡ Some r → length r.pages.made < most
  few_quiet most a b held quiet few r there =
      let has = held_part a p held in
      let now = quiet.mine has.0 has.1 in
      let less = few has.0 has.1 in
      let same = ap (λ (l : List (Placed Mtr)). length l) now.2.made in
      subst (λ (x : CorePart). length x.pages.made < most) (one_part (part_in b.parts p) now.0 r now.1 there) (omega (arith, less, same))

  -- a row is put back after quiet steps
  makes_back : (id : TrxId) (row : Row) (x : Placed Mtr) (q r s : CorePart) → StaysQuiet q r → MadeOne x r s → row_restored_by x.mtr ≡ Some row → row_put_by x.mtr ≡ None → trx_of_mtr r.pages.made x.mtr ≡ Some id → MakesBack id row x q s
  makes_back id row x q r s quiet made restored put of = record {
    makes = record { between = r; quiet = quiet; made = made };
    restored = restored;
    put = put;
    of = subst (λ (l : List (Placed Mtr)). trx_of_mtr l x.mtr ≡ Some id) quiet.made of;
  }

  pub moves_back : (id : TrxId) (row : Row) (x : Placed Mtr) (a b c : NodeView) → Moves StaysQuiet p a b → Moves (MadeOne x) p b c → row_restored_by x.mtr ≡ Some row → row_put_by x.mtr ≡ None
      → ((r : CorePart) → part_in b.parts p ≡ Some r → trx_of_mtr r.pages.made x.mtr ≡ Some id) → Moves (MakesBack id row x) p a c
  moves_back id row x a b c quiet made restored put of = record {
    run = made.run ∙ quiet.run;
    frames = made.frames ∙ quiet.frames;
    others = λ k other. made.others k other ∙ quiet.others k other;
    mine = λ q has.
        let r = quiet.mine q has in
        let s = made.mine r.0 r.1 in
        (s.0, s.1, makes_back id row x q r.0 s.0 r.2 s.2 restored put (of r.0 r.1), s.3 ∙ r.3);
  }

-- ---- one row more

pub did_quiet : (q r : CorePart) → StaysQuiet q r → Did q r no_trace
did_quiet q r h = record {
  extends = h.extends;
  traced = record { pages = tt; began = tt; drew = tt; mtr = tt };
  began = h.begun;
  drew = h.drew;
  made = ap (λ (l : List (Placed Mtr)). lasting (trx_mtrs l)) h.made;
  since = tt;
  later = tt;
}

other_id : (one other : TrxId) → Some one ≡ Some other → other ≡ one
other_id one other e = cc

module _ (id : TrxId) (formers : List Row) (from k : ℕ) (q r s : CorePart) (x : Placed Mtr) (row : Row) (at : slice_get formers k ≡ Some row) (once : HaveOneRowEach formers)
    (before : PutsBackRows id formers from k q r) (back : MakesBack id row x r s) where
  made_is : s.pages.made ≡ x ∷ r.pages.made
  made_is = back.makes.made.made ∙ ap (λ (l : List (Placed Mtr)). x ∷ l) back.makes.quiet.made

  rest_is : drop k formers ≡ row ∷ drop (suc k) formers
  rest_is = drop_at formers k row at

  only_once : row_at row.key (drop (suc k) formers) ≡ None
  only_once = (subst HaveOneRowEach rest_is (once_from formers k once)).0

  left_now : HasFormers s id (drop (suc k) formers)
  left_now key =
      ap (λ (l : List (Placed Mtr)). first_former l id key) made_is
      ∙ former_back x r.pages.made id row back.restored back.put back.of key
      ∙ ap (λ (o : Option Row). if (row.key == key) then None else o) (before.left key ∙ ap (row_at key) rest_is)
      ∙ kept_without row (drop (suc k) formers) row.key refl only_once key

  not_its : (other : TrxId) → other ≢ id → is_id other (trx_of_mtr r.pages.made x.mtr) ≡ false
  not_its other ne = ap (is_id other) back.of ∙ other_from (Some id) (Some other) (λ e. ne (other_id id other e))

  pub one_back : PutsBackRows id formers from (k + 1) q s
  one_back = record {
    did = did_then q r s no_trace before.did (did_after r back.makes.between s no_trace (did_quiet r back.makes.between back.makes.quiet) (did_restore back.makes.between s x back.makes.made row back.restored));
    begun = ap (λ (t : TrxPart). t.begun) back.makes.made.trx ∙ back.makes.quiet.begun ∙ before.begun;
    rows = ap (λ (t : TrxPart). t.rows) back.makes.made.trx ∙ back.makes.quiet.rows ∙ before.rows;
    more = let le = before.more in omega (arith, le);
    within = let less = slice_get_within formers k row at in omega (arith, less);
    counted = let count = before.counted in let one = ap (λ (l : List (Placed Mtr)). length l) made_is in omega (arith, count, one);
    left = subst (λ (n : ℕ). HasFormers s id (drop n formers)) (sym (add-one k)) left_now;
    others = λ other ne key. ap (λ (l : List (Placed Mtr)). first_former l other key) made_is ∙ former_other x r.pages.made other key (not_its other ne) ∙ before.others other ne key;
    its = λ m there. ⊎_elim (λ new. inr (ap (λ (y : TrxMtr). y.of) new ∙ back.of)) (λ old. before.its m old) (subst (λ (l : List (Placed Mtr)). IsIn m (trx_mtrs l)) made_is there);
  }

-- none yet
pub none_back : (id : TrxId) (formers : List Row) (from : ℕ) (q : CorePart) → from ≤ length formers → HasFormers q id (drop from formers) → PutsBackRows id formers from from q q
none_back id formers from q within left = record {
  did = did_looked q q (looked_none q);
  begun = refl;
  rows = refl;
  more = omega arith;
  within = within;
  counted = refl;
  left = left;
  others = λ other ne key. refl;
  its = λ m there. inl there;
}

-- the next one is a former row
pub next_former : (id : TrxId) (formers : List Row) (from k : ℕ) (q r : CorePart) (row : Row) → slice_get formers k ≡ Some row → PutsBackRows id formers from k q r → HasBegun q.trx.begun id → Shows q.trx.rows id Active → IsFormer id row r
next_former id formers from k q r row at before begun active = record {
  begun = subst (λ (l : List Begun). HasBegun l id) (sym before.begun) begun;
  active = subst (λ (l : List SlotRow). Shows l id Active) (sym before.rows) active;
  former =
      before.left row.key ∙ ap (row_at row.key) (drop_at formers k row at)
      ∙ ap (λ (b : Bool). if b then Some row else row_at row.key (drop (suc k) formers)) (eq-eqb row.key row.key refl);
}

-- ---- what follows where a call succeeds

pub on_ok_map : {T E : Type 0} {A B : Type 0} (result : Result T E) → OnOk result A → (A → B) → OnOk result B
on_ok_map (Ok x) a f = f a
on_ok_map (Err e) a f = tt
