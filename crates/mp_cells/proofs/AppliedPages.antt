-- A changed page is one that there may be.
use Rattle.std.proofs.Common.{◌≡◌, ℕ, ◌+◌, ◌/◌, ◌%◌, ◌^◌, ◌<◌, ◌≤◌, ◌==◌, ◌&&◌, ◌||◌, not, nat_le, nat_lt, Bool, true, false, cond, List, [], ◌∷◌, ◌++◌, length, get_or, Some, None, refl, ap, subst, ◌∙◌, inl, inr, arith}
use mathlib.Core.Bool.{false≢true}
use Rattle.std.specs.Prelude.{bit_or, is_some}
use Rattle.std.specs.List.{AllByRecursion}
use Rattle.std.proofs.lemmas.Bool.{and_parts, and_from, leb-true, le-leb, ltb-true, lt-ltb, cases_eq, eqb-true}
use Rattle.std.proofs.lemmas.List.{length-append, length-set, get_or-set_same, get_or-set_other}
use Rattle.std.proofs.lemmas.Nat.{or_lt, pow_below}
use Rattle.mp_cells.specs.declared.changes.Change.{Change}
use Rattle.mp_cells.specs.declared.changes.Change.TheVariants.{MakeLeaf, MakeInner, MakeUndo, PutRow, RestoreRow, Cut, PutChild, PutUndo, TakePage}
use Rattle.mp_cells.specs.declared.kinds.Kind.{Kind}
use Rattle.mp_cells.specs.declared.kinds.Kind.TheVariants.{Blank, Meta, Leaf, Inner, Undo}
use Rattle.mp_cells.specs.declared.rows.Row.{Row}
use Rattle.mp_cells.specs.declared.children.Child.{Child}
use Rattle.mp_cells.specs.Keys.{holds, with_cell, cells_below}
use Rattle.mp_cells.specs.Rows.{IsRow}
use Rattle.mp_cells.specs.Children.{IsChild}
use Rattle.mp_cells.specs.PageView.{PageView, leaf_page, inner_page, undo_page, are_fences, is_leaf, is_inner, begins_at, AreBits, HasContent, IsPage, with_bit, kind_number, is_of}
use Rattle.mp_cells.specs.Changes.{applied, HasCells, is_tree_page, is_within, holds_row, can_be_inner, takes_row, can_be_cut, takes_child, takes_page}
use Rattle.mp_cells.proofs.KeyOrder.{Rises, test-from_Rises}
use Rattle.mp_cells.proofs.KeyEdits.{Rises-with_cell, length-with_cell, Rises-cells_below, length-filter_most, All-filter, All-append, All-with_cell, with_cell-below}
use Rattle.mp_cells.proofs.PageRanges.{leaf_ranges, inner_ranges}

-- the value of a test that passed
pub chosen : {A : Type 0} (b : Bool) (x y : A) → cond b (Some x) None ≡ Some y → (b ≡ true) × (x ≡ y)
chosen true x y h = (refl, cc)
chosen false x y h = absurd cc

-- a test of kinds says the kind
is_kind : (kind other : Kind) → (kind_number kind == kind_number other) ≡ true → kind ≡ other
is_kind Blank Blank h = refl
is_kind Meta Meta h = refl
is_kind Leaf Leaf h = refl
is_kind Inner Inner h = refl
is_kind Undo Undo h = refl
is_kind Blank Meta h = absurd (false≢true h)
is_kind Blank Leaf h = absurd (false≢true h)
is_kind Blank Inner h = absurd (false≢true h)
is_kind Blank Undo h = absurd (false≢true h)
is_kind Meta Blank h = absurd (false≢true h)
is_kind Meta Leaf h = absurd (false≢true h)
is_kind Meta Inner h = absurd (false≢true h)
is_kind Meta Undo h = absurd (false≢true h)
is_kind Leaf Blank h = absurd (false≢true h)
is_kind Leaf Meta h = absurd (false≢true h)
is_kind Leaf Inner h = absurd (false≢true h)
is_kind Leaf Undo h = absurd (false≢true h)
is_kind Inner Blank h = absurd (false≢true h)
is_kind Inner Meta h = absurd (false≢true h)
is_kind Inner Leaf h = absurd (false≢true h)
is_kind Inner Undo h = absurd (false≢true h)
is_kind Undo Blank h = absurd (false≢true h)
is_kind Undo Meta h = absurd (false≢true h)
is_kind Undo Leaf h = absurd (false≢true h)
is_kind Undo Inner h = absurd (false≢true h)

pub content_of : (kind : Kind) (page : PageView) → IsPage page → is_of kind page ≡ true → HasContent kind page
content_of kind page h test = subst (λ (k : Kind). HasContent k page) (is_kind page.kind kind test) h.content

-- a leaf with a row put at a key between its fences
leaf_with : (low high : ℕ) (rows : List Row) (row : Row) → is_leaf low high rows ≡ true → low ≤ row.key → row.key < high → length (with_cell (λ r. r.key) row rows) ≤ 15 → is_leaf low high (with_cell (λ r. r.key) row rows) ≡ true
leaf_with low high rows row h from below most =
    let r = leaf_ranges low high rows h in
    and_from _ _ (and_from _ _ r.fences (le-leb _ 15 most)) (test-from_Rises (λ (x : Row). x.key) low high _ (Rises-with_cell (λ (x : Row). x.key) low high row rows r.rises from below))

-- how many rows there are then
with_count : (held : Bool) (n m : ℕ) → m ≡ n + cond held 0 1 → n ≤ 15 → (held || nat_lt n 15) ≡ true → m ≤ 15
with_count true n m e most room = omega (arith, e)
with_count false n m e most room = omega (arith, e, ltb-true n 15 room)

put_count : (low high : ℕ) (rows : List Row) (row : Row) → is_leaf low high rows ≡ true → (holds (λ r. r.key) row.key rows || nat_lt (length rows) 15) ≡ true → length (with_cell (λ r. r.key) row rows) ≤ 15
put_count low high rows row h room =
    let r = leaf_ranges low high rows h in
    with_count (holds (λ r. r.key) row.key rows) (length rows) _ (length-with_cell (λ (x : Row). x.key) low high row rows r.rises) r.most room

-- a key that is held lies between the bounds
pub held_within : {T : Type 0} (key : T → ℕ) (low high k : ℕ) (cells : List T) → Rises key low high cells → holds key k cells ≡ true → (low ≤ k) × (k < high)
held_within key low high k [] r h = absurd (false≢true h)
held_within {T} key low high k (cell ∷ cells) r h = by_test (key cell == k) refl h (held_within key (key cell + 1) high k cells r.2)
  where
    by_test : (b : Bool) → (key cell == k) ≡ b → (b || holds key k cells) ≡ true → (holds key k cells ≡ true → (key cell + 1 ≤ k) × (k < high)) → (low ≤ k) × (k < high)
    by_test true e held later = let same : key cell ≡ k = eqb-true (key cell) k e in (omega (arith, r.0), omega (arith, r.1))
    by_test false e held later = let rest = later held in (omega (arith, r.0, rest.0), rest.1)

-- the first child stays, where a child above the low fence is put, or a cut is made above it
begins_with : (low high : ℕ) (children : List Child) (child : Child) → begins_at low children ≡ true → low < child.low → begins_at low (with_cell (λ c. c.low) child children) ≡ true
begins_with low high [] child h lt = absurd (false≢true h)
begins_with low high (first ∷ children) child h lt =
    let e : first.low ≡ low = eqb-true first.low low h in
    ap (begins_at low) (with_cell-below (λ (c : Child). c.low) child first children (omega arith)) ∙ h

begins_cut : (low bound : ℕ) (children : List Child) → begins_at low children ≡ true → low < bound → begins_at low (cells_below (λ c. c.low) bound children) ≡ true
begins_cut low bound [] h lt = absurd (false≢true h)
begins_cut low bound (first ∷ children) h lt =
    let e : first.low ≡ low = eqb-true first.low low h in
    let below : nat_lt first.low bound ≡ true = lt-ltb first.low bound (omega arith) in
    ap (λ (b : Bool). begins_at low (cond b (first ∷ cells_below (λ c. c.low) bound children) (cells_below (λ c. c.low) bound children))) below ∙ h

-- bytes stay bytes
pub bits_with : (bits : List ℕ) (page : ℕ) → page < 4096 → AreBits bits → AreBits (with_bit bits page)
bits_with bits page range h =
    let place : page / 8 < length bits = omega (arith, h.count) in
    let bit : 2 ^ (page % 8) < 2 ^ 8 = pow_below (page % 8) 8 (omega arith) in
    let byte : get_or bits (page / 8) 0 < 2 ^ 8 = h.bytes (page / 8) in
    let both = or_lt 8 (get_or bits (page / 8) 0) (2 ^ (page % 8)) byte bit in
    record {
      count = length-set bits (page / 8) (bit_or (get_or bits (page / 8) 0) (2 ^ (page % 8))) ∙ h.count;
      bytes = λ i. elim (cases_eq i (page / 8)) [
        | inl same ↦ rw (same, get_or-set_same bits (page / 8) (bit_or (get_or bits (page / 8) 0) (2 ^ (page % 8))) 0 place) both
        | inr other ↦ rw (get_or-set_other bits (page / 8) i (bit_or (get_or bits (page / 8) 0) (2 ^ (page % 8))) 0 other) (h.bytes i)
      ];
    }

-- ---- each change

made_leaf : (page : PageView) (low high : ℕ) (rows : List Row) → IsPage page → is_leaf low high rows ≡ true → AllByRecursion IsRow rows → IsPage (leaf_page page.llsn low high rows)
made_leaf page low high rows h leaf kept = record { llsn = h.llsn; content = (refl, leaf, kept) }

-- a page of a kind, by its parts
as_leaf : (page : PageView) → HasContent Leaf page → (rows : List Row) (high : ℕ) → record page { high = high; rows = rows } ≡ leaf_page page.llsn page.low high rows
as_leaf page h rows high = ap (λ (p : PageView). record p { high = high; rows = rows }) h.0

as_inner : (page : PageView) → HasContent Inner page → (children : List Child) (high : ℕ) → record page { high = high; children = children } ≡ inner_page page.llsn page.low high children
as_inner page h children high = ap (λ (p : PageView). record p { high = high; children = children }) h.0

leaf_put : (page : PageView) (row : Row) → IsPage page → IsRow row → is_of Leaf page ≡ true → page.low ≤ row.key → row.key < page.high → (holds_row row.key page || nat_lt (length page.rows) 15) ≡ true
    → IsPage (record page { rows = with_cell (λ r. r.key) row page.rows })
leaf_put page row h is_row kind from below room =
    let c = content_of Leaf page h kind in
    let most = put_count page.low page.high page.rows row c.1 room in
    rw (as_leaf page c (with_cell (λ r. r.key) row page.rows) page.high)
    (made_leaf page page.low page.high (with_cell (λ r. r.key) row page.rows) h (leaf_with page.low page.high page.rows row c.1 from below most) (All-with_cell IsRow (λ (r : Row). r.key) row page.rows is_row c.2))

or_true : (a b : Bool) → a ≡ true → (a || b) ≡ true
or_true true b e = refl
or_true false b e = absurd (false≢true e)

cut_leaf : (from : ℕ) (page : PageView) → IsPage page → is_of Leaf page ≡ true → page.low < from → from < page.high → IsPage (record page { high = from; rows = cells_below (λ r. r.key) from page.rows; children = cells_below (λ c. c.low) from page.children })
cut_leaf from page h kind above below =
    let c = content_of Leaf page h kind in
    let r = leaf_ranges page.low page.high page.rows c.1 in
    let rows = cells_below (λ (x : Row). x.key) from page.rows in
    let fences : are_fences page.low from ≡ true = and_from _ _ (lt-ltb page.low from above) (le-leb from (2 ^ 32) (omega (arith, r.high_most))) in
    let most : nat_le (length rows) 15 ≡ true = le-leb _ 15 (omega (arith, r.most, length-filter_most (λ (x : Row). nat_lt x.key from) page.rows)) in
    let rising = test-from_Rises (λ (x : Row). x.key) page.low from rows (Rises-cells_below (λ (x : Row). x.key) page.low page.high from page.rows r.rises) in
    rw (ap (λ (p : PageView). record p { high = from; rows = rows; children = cells_below (λ c. c.low) from p.children }) c.0)
    (made_leaf page page.low from rows h (and_from _ _ (and_from _ _ fences most) rising) (All-filter IsRow (λ (x : Row). nat_lt x.key from) page.rows c.2))

cut_inner : (from : ℕ) (page : PageView) → IsPage page → is_of Inner page ≡ true → page.low < from → from < page.high → IsPage (record page { high = from; rows = cells_below (λ r. r.key) from page.rows; children = cells_below (λ c. c.low) from page.children })
cut_inner from page h kind above below =
    let c = content_of Inner page h kind in
    let r = inner_ranges page.low page.high page.children c.1 in
    let children = cells_below (λ (x : Child). x.low) from page.children in
    let fences : are_fences page.low from ≡ true = and_from _ _ (lt-ltb page.low from above) (le-leb from (2 ^ 32) (omega (arith, r.high_most))) in
    let first = begins_cut page.low from page.children r.first above in
    let most : nat_le (length children) 124 ≡ true = le-leb _ 124 (omega (arith, r.most, length-filter_most (λ (x : Child). nat_lt x.low from) page.children)) in
    let rising = test-from_Rises (λ (x : Child). x.low) page.low from children (Rises-cells_below (λ (x : Child). x.low) page.low page.high from page.children r.rises) in
    rw (ap (λ (p : PageView). record p { high = from; rows = cells_below (λ r. r.key) from p.rows; children = children }) c.0)
    (record { llsn = h.llsn; content = (refl, and_from _ _ (and_from _ _ (and_from _ _ fences first) most) rising, All-filter IsChild (λ (x : Child). nat_lt x.low from) page.children c.2) })

child_put : (page : PageView) (child : Child) → IsPage page → IsChild child → is_of Inner page ≡ true → page.low < child.low → child.low < page.high → length page.children < 124 → IsPage (record page { children = with_cell (λ c. c.low) child page.children })
child_put page child h is_child kind above below room =
    let c = content_of Inner page h kind in
    let r = inner_ranges page.low page.high page.children c.1 in
    let children = with_cell (λ (x : Child). x.low) child page.children in
    let count = length-with_cell (λ (x : Child). x.low) page.low page.high child page.children r.rises in
    let most : nat_le (length children) 124 ≡ true = le-leb _ 124 (one_more (holds (λ x. x.low) child.low page.children) (length page.children) (length children) count room) in
    let rising = test-from_Rises (λ (x : Child). x.low) page.low page.high children (Rises-with_cell (λ (x : Child). x.low) page.low page.high child page.children r.rises (omega (arith, above)) below) in
    rw (as_inner page c children page.high)
    (record { llsn = h.llsn; content = (refl, and_from _ _ (and_from _ _ (and_from _ _ r.fences (begins_with page.low page.high page.children child r.first above)) most) rising, All-with_cell IsChild (λ (x : Child). x.low) child page.children is_child c.2) })
  where
    one_more : (held : Bool) (n m : ℕ) → m ≡ n + cond held 0 1 → n < 124 → m ≤ 124
    one_more true n m e lt = omega (arith, e)
    one_more false n m e lt = omega (arith, e)

-- a changed page is one that there may be
pub applied-page : (change : Change) (page new : PageView) → IsPage page → HasCells change → applied change page ≡ Some new → IsPage new
applied-page (MakeLeaf low high rows) page new h cells e =
    let a = chosen (is_of Blank page && is_leaf low high rows) (leaf_page page.llsn low high rows) new e in
    rw (← a.1) (made_leaf page low high rows h (and_parts _ _ a.0).1 cells)
applied-page (MakeInner low high children) page new h cells e =
    let a = chosen (can_be_inner low high page && is_inner low high children) (inner_page page.llsn low high children) new e in
    rw (← a.1) (record { llsn = h.llsn; content = (refl, (and_parts _ _ a.0).1, cells) })
applied-page MakeUndo page new h cells e =
    let a = chosen (is_of Blank page) (undo_page page.llsn []) new e in
    rw (← a.1) (record { llsn = h.llsn; content = (refl, omega arith, tt) })
applied-page (PutRow row) page new h cells e =
    let a = chosen (takes_row row page) (record page { rows = with_cell (λ r. r.key) row page.rows }) new e in
    let b = and_parts (is_of Leaf page && is_within row.key page && is_some row.writer) (holds_row row.key page || nat_lt (length page.rows) 15) a.0 in
    let c = and_parts (is_of Leaf page && is_within row.key page) (is_some row.writer) b.0 in
    let d = and_parts (is_of Leaf page) (is_within row.key page) c.0 in
    let w = and_parts (nat_le page.low row.key) (nat_lt row.key page.high) d.1 in
    rw (← a.1) (leaf_put page row h cells d.0 (leb-true page.low row.key w.0) (ltb-true row.key page.high w.1) b.1)
applied-page (RestoreRow row) page new h cells e =
    let a = chosen (is_of Leaf page && holds_row row.key page) (record page { rows = with_cell (λ r. r.key) row page.rows }) new e in
    let b = and_parts (is_of Leaf page) (holds_row row.key page) a.0 in
    let c = content_of Leaf page h b.0 in
    let r = leaf_ranges page.low page.high page.rows c.1 in
    let w = held_within (λ (x : Row). x.key) page.low page.high row.key page.rows r.rises b.1 in
    rw (← a.1) (leaf_put page row h cells b.0 w.0 w.1 (or_true (holds_row row.key page) (nat_lt (length page.rows) 15) b.1))
applied-page (Cut from) page new h cells e =
    let a = chosen (can_be_cut from page) (record page { high = from; rows = cells_below (λ r. r.key) from page.rows; children = cells_below (λ c. c.low) from page.children }) new e in
    let b = and_parts (is_tree_page page && nat_lt page.low from) (nat_lt from page.high) a.0 in
    let c = and_parts (is_tree_page page) (nat_lt page.low from) b.0 in
    rw (← a.1) (either (is_of Leaf page) (is_of Inner page) refl refl c.0 (ltb-true page.low from c.1) (ltb-true from page.high b.1))
  where
    either : (leaf inner : Bool) → is_of Leaf page ≡ leaf → is_of Inner page ≡ inner → (leaf || inner) ≡ true → page.low < from → from < page.high → IsPage (record page { high = from; rows = cells_below (λ r. r.key) from page.rows; children = cells_below (λ c. c.low) from page.children })
    either true inner l i o above below = cut_leaf from page h l above below
    either false inner l i o above below = cut_inner from page h (i ∙ o) above below
applied-page (PutChild child) page new h cells e =
    let a = chosen (takes_child child page) (record page { children = with_cell (λ c. c.low) child page.children }) new e in
    let b = and_parts (is_of Inner page && nat_lt page.low child.low && nat_lt child.low page.high && not (holds (λ c. c.low) child.low page.children)) (nat_lt (length page.children) 124) a.0 in
    let c = and_parts (is_of Inner page && nat_lt page.low child.low && nat_lt child.low page.high) (not (holds (λ c. c.low) child.low page.children)) b.0 in
    let d = and_parts (is_of Inner page && nat_lt page.low child.low) (nat_lt child.low page.high) c.0 in
    let f = and_parts (is_of Inner page) (nat_lt page.low child.low) d.0 in
    rw (← a.1) (child_put page child h cells f.0 (ltb-true page.low child.low f.1) (ltb-true child.low page.high d.1) (ltb-true (length page.children) 124 b.1))
applied-page (PutUndo row) page new h cells e =
    let a = chosen (is_of Undo page && nat_lt (length page.rows) 15) (record page { rows = page.rows ++ row ∷ [] }) new e in
    let b = and_parts (is_of Undo page) (nat_lt (length page.rows) 15) a.0 in
    let c = content_of Undo page h b.0 in
    rw (← a.1, ap (λ (p : PageView). record p { rows = page.rows ++ row ∷ [] }) c.0)
    (record { llsn = h.llsn; content = (refl, omega (arith, ltb-true (length page.rows) 15 b.1, length-append page.rows (row ∷ [])), All-append IsRow page.rows (row ∷ []) c.2 (cells, tt)) })
applied-page (TakePage number) page new h cells e =
    let a = chosen (takes_page number page) (record page { bits = with_bit page.bits number }) new e in
    let b = and_parts (is_of Meta page && nat_le 2 number && nat_lt number 4096) _ a.0 in
    let c = and_parts (is_of Meta page && nat_le 2 number) (nat_lt number 4096) b.0 in
    let d = and_parts (is_of Meta page) (nat_le 2 number) c.0 in
    let m = content_of Meta page h d.0 in
    rw (← a.1, ap (λ (p : PageView). record p { bits = with_bit page.bits number }) m.0)
    (record { llsn = h.llsn; content = (refl, bits_with page.bits number (ltb-true number 4096 c.1) m.1) })
