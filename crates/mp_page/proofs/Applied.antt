-- What a change leaves, by the outcome of its test.
use Rattle.std.proofs.Common.{◌≡◌, ℕ, ◌^◌, ◌||◌, nat_lt, Bool, true, false, cond, List, length, Option, Some, None, Result, Ok, Err, refl, sym, ap, ◌∙◌, arith}
use Rattle.std.specs.Prelude.{MatchOption, IsOk, IsErr}
use Rattle.std.proofs.lemmas.Bool.{and_parts}
use Rattle.mp_cells.specs.declared.changes.NotApplicable.{NotApplicable}
use Rattle.mp_cells.specs.declared.changes.Change.{Change}
use Rattle.mp_cells.specs.declared.changes.Change.TheVariants.{PutRow, PutChild}
use Rattle.mp_cells.specs.declared.rows.Row.{Row}
use Rattle.mp_cells.specs.declared.children.Child.{Child}
use Rattle.mp_cells.specs.Keys.{rises, holds, with_cell}
use Rattle.mp_cells.specs.PageView.{PageView, leaf_page, inner_page, is_leaf, is_inner, IsPage}
use Rattle.mp_cells.specs.Changes.{applied, Applies, HasCells, takes_row, takes_child}
use Rattle.mp_cells.proofs.KeyOrder.{test-from_Rises, Rises-wider}
use Rattle.mp_cells.proofs.AppliedPages.{applied-page}
use Rattle.mp_page.specs.declared.body.Body.{Body}
use Rattle.mp_page.specs.declared.body.Body.TheVariants.{Blank, Meta, Leaf, Inner, Undo}
use Rattle.mp_page.specs.Shown.{page_shown, IsKeptPage}
use Rattle.mp_cells.proofs.PageRanges.{leaf_ranges, inner_ranges}

-- a change that can't be applied
pub refused : (change : Change) (page : PageView) (e : NotApplicable) → applied change page ≡ None → Applies change page page (Err e)
refused change page e h = rw h (refl, refl)

-- one that can
pub done : (change : Change) (old new : PageView) → applied change old ≡ Some new → Applies change old new (Ok tt)
done change old new h = rw h (refl, refl)

-- keys of a leaf rise among all keys
pub leaf_rises : (low high : ℕ) (rows : List Row) → is_leaf low high rows ≡ true → rises (λ row. row.key) 0 (2 ^ 32) rows ≡ true
leaf_rises low high rows h =
    let r = leaf_ranges low high rows h in
    test-from_Rises (λ (row : Row). row.key) 0 (2 ^ 32) rows (Rises-wider (λ (row : Row). row.key) low high 0 (2 ^ 32) rows (omega arith) r.high_most r.rises)

pub inner_rises : (low high : ℕ) (children : List Child) → is_inner low high children ≡ true → rises (λ child. child.low) 0 (2 ^ 32) children ≡ true
inner_rises low high children h =
    let r = inner_ranges low high children h in
    test-from_Rises (λ (child : Child). child.low) 0 (2 ^ 32) children (Rises-wider (λ (child : Child). child.low) low high 0 (2 ^ 32) children (omega arith) r.high_most r.rises)

-- a row that a leaf takes has a place there
pub row_room : (llsn low high : ℕ) (rows : List Row) (row : Row) → takes_row row (leaf_page llsn low high rows) ≡ true → (holds (λ r. r.key) row.key rows || nat_lt (length rows) 15) ≡ true
row_room llsn low high rows row h = (and_parts _ _ h).1

-- and so has a child that an inner page takes
pub child_room : (llsn low high : ℕ) (children : List Child) (child : Child) → takes_child child (inner_page llsn low high children) ≡ true → (holds (λ c. c.low) child.low children || nat_lt (length children) 124) ≡ true
child_room llsn low high children child h = or_right (holds (λ c. c.low) child.low children) (nat_lt (length children) 124) (and_parts _ _ h).1
  where
    or_right : (a b : Bool) → b ≡ true → (a || b) ≡ true
    or_right true b e = refl
    or_right false b e = e

-- put and refused, by the tests
pub put_refused : (llsn low high : ℕ) (rows : List Row) (row : Row) (e : NotApplicable) → takes_row row (leaf_page llsn low high rows) ≡ false → Applies (PutRow row) (leaf_page llsn low high rows) (leaf_page llsn low high rows) (Err e)
put_refused llsn low high rows row e h = refused (PutRow row) (leaf_page llsn low high rows) e (ap (λ (b : Bool). cond b (Some (leaf_page llsn low high (with_cell (λ r. r.key) row rows))) None) h)

pub put_done : (llsn low high : ℕ) (rows : List Row) (row : Row) (new : List Row) → takes_row row (leaf_page llsn low high rows) ≡ true → new ≡ with_cell (λ r. r.key) row rows → Applies (PutRow row) (leaf_page llsn low high rows) (leaf_page llsn low high new) (Ok tt)
put_done llsn low high rows row new h is_new = done (PutRow row) (leaf_page llsn low high rows) (leaf_page llsn low high new) (ap (λ (b : Bool). cond b (Some (leaf_page llsn low high (with_cell (λ r. r.key) row rows))) None) h ∙ ap (λ (rs : List Row). Some (leaf_page llsn low high rs)) (sym is_new))

pub child_refused : (llsn low high : ℕ) (children : List Child) (child : Child) (e : NotApplicable) → takes_child child (inner_page llsn low high children) ≡ false → Applies (PutChild child) (inner_page llsn low high children) (inner_page llsn low high children) (Err e)
child_refused llsn low high children child e h = refused (PutChild child) (inner_page llsn low high children) e (ap (λ (b : Bool). cond b (Some (inner_page llsn low high (with_cell (λ c. c.low) child children))) None) h)

pub child_done : (llsn low high : ℕ) (children : List Child) (child : Child) (new : List Child) → takes_child child (inner_page llsn low high children) ≡ true → new ≡ with_cell (λ c. c.low) child children → Applies (PutChild child) (inner_page llsn low high children) (inner_page llsn low high new) (Ok tt)
child_done llsn low high children child new h is_new = done (PutChild child) (inner_page llsn low high children) (inner_page llsn low high new) (ap (λ (b : Bool). cond b (Some (inner_page llsn low high (with_cell (λ c. c.low) child children))) None) h ∙ ap (λ (cs : List Child). Some (inner_page llsn low high cs)) (sym is_new))

-- what is left after a change is a page, whether or not it was applied
pub page_after : (change : Change) (old new : PageView) (result : Result (Unit {0}) NotApplicable) → IsPage old → HasCells change → Applies change old new result → IsPage new
page_after change old new result h cells a = by_case (applied change old) refl a
  where
    by_case : (o : Option PageView) → applied change old ≡ o → MatchOption o (IsErr result × (new ≡ old)) (λ page. IsOk result × (new ≡ page)) → IsPage new
    by_case None e m = rw m.1 h
    by_case (Some page) e m = rw m.1 (applied-page change old page h cells e)

-- the invariant of how a page is kept, and what it shows
pub page_from_kept : (llsn : ℕ) (body : Body) → IsKeptPage llsn body → IsPage (page_shown llsn body)
page_from_kept llsn Blank h = record { llsn = h.range; content = refl }
page_from_kept llsn (Meta bits) h = record { llsn = h.range; content = (refl, h.content) }
page_from_kept llsn (Leaf low high rows) h = record { llsn = h.range; content = (refl, h.content.0, h.content.1) }
page_from_kept llsn (Inner low high children) h = record { llsn = h.range; content = (refl, h.content.0, h.content.1) }
page_from_kept llsn (Undo rows) h = record { llsn = h.range; content = (refl, h.content.0, h.content.1) }

pub kept_from_page : (llsn : ℕ) (body : Body) → IsPage (page_shown llsn body) → IsKeptPage llsn body
kept_from_page llsn Blank h = record { range = h.llsn; content = tt }
kept_from_page llsn (Meta bits) h = record { range = h.llsn; content = h.content.1 }
kept_from_page llsn (Leaf low high rows) h = record { range = h.llsn; content = (h.content.1, h.content.2) }
kept_from_page llsn (Inner low high children) h = record { range = h.llsn; content = (h.content.1, h.content.2) }
kept_from_page llsn (Undo rows) h = record { range = h.llsn; content = (h.content.1, h.content.2) }
