-- The rows of a leaf, one after another from a key on.
use Rattle.std.proofs.Common.{◌≡◌, ℕ, ◌+◌, ◌<◌, ◌≤◌, ◌==◌, ◌&&◌, nat_lt, nat_le, ◌^◌, Bool, true, false, cond, List, [], ◌∷◌, ◌++◌, length, filter, slice_get, Option, Some, refl, sym, ap, subst, ◌∙◌, inl, inr, arith, append_assoc, append-nil, length-append}
use Rattle.std.proofs.lemmas.Bool.{and_parts, cases_lt, eq-eqb, leb-true, ltb-true}
use Rattle.std.proofs.lemmas.Bool.Decides.{nat_tests}
use Rattle.std.proofs.lemmas.List.Elements.{filter-append}
use Rattle.mp_cells.specs.declared.kinds.Kind.{Kind}
use Rattle.mp_cells.specs.declared.kinds.Kind.TheVariants.{Leaf}
use Rattle.mp_cells.specs.declared.rows.Row.{Row}
use Rattle.mp_cells.specs.PageView.{PageView, IsPage, HasContent}
use Rattle.mp_cells.specs.Trees.{row_at}
use Rattle.mp_cells.proofs.KeyOrder.{Rises, Rises-from_test}
use Rattle.mp_cells.proofs.KeyEdits.{below_none}
use Rattle.mp_cells.proofs.Stretches.{all_below, row_at-below}
use Rattle.mp_tree.specs.Searches.{rows_above, rows_between}

-- ---- the item at a place

pub record IsNext {T : Type 0} (x : T) (back : List T) : Type 0 where
  pub rest : List T
  pub is : back ≡ x ∷ rest

pub next_at : {T : Type 0} (front back : List T) (i : ℕ) (x : T) → length front ≡ i → slice_get (front ++ back) i ≡ Some x → IsNext x back
next_at front back i x count is = in_back front (subst (λ (k : ℕ). slice_get (front ++ back) k ≡ Some x) (sym count) is)
  where
    in_back : (first : List _) → slice_get (first ++ back) (length first) ≡ Some x → IsNext x back
    in_back [] at = at_first back at
      where
        at_first : (l : List _) → slice_get l 0 ≡ Some x → IsNext x l
        at_first [] e = absurd cc
        at_first (y ∷ l) e = record { rest = l; is = (let same : y ≡ x = cc in ap (λ z. z ∷ l) same) }
    in_back (y ∷ first) at = in_back first at

pub none_left : {T : Type 0} (front back all : List T) → all ≡ front ++ back → length front ≡ length all → front ≡ all
none_left {T} front [] all is count = sym (is ∙ append-nil front)
none_left {T} front (x ∷ back) all is count =
    let more = length-append front (x ∷ back) in
    let same : length all ≡ length (front ++ x ∷ back) = ap (λ (l : List T). length l) is in
    absurd (omega (arith, more, same, count))

-- ---- keys that rise

kept_first : (test : Row → Bool) (x : Row) (xs : List Row) → test x ≡ true → filter test (x ∷ xs) ≡ x ∷ filter test xs
kept_first test x xs e = ap (λ (b : Bool). cond b (x ∷ filter test xs) (filter test xs)) e

left_out : (test : Row → Bool) (x : Row) (xs : List Row) → test x ≡ false → filter test (x ∷ xs) ≡ filter test xs
left_out test x xs e = ap (λ (b : Bool). cond b (x ∷ filter test xs) (filter test xs)) e

pub above_whole : (k low high : ℕ) (rows : List Row) → Rises (λ row. row.key) low high rows → k ≤ low → rows_above k rows ≡ rows
above_whole k low high [] r le = refl
above_whole k low high (x ∷ xs) r le =
    let test : nat_le k x.key ≡ true = grind (arith, nat_tests, r.0) in
    kept_first (λ row. nat_le k row.key) x xs test ∙ ap (λ (l : List Row). x ∷ l) (above_whole k (x.key + 1) high xs r.2 (omega (arith, r.0)))

pub rises_above : (k low high : ℕ) (rows : List Row) → Rises (λ row. row.key) low high rows → Rises (λ row. row.key) k high (rows_above k rows)
rises_above k low high [] r = tt
rises_above k low high (x ∷ xs) r = elim (cases_lt x.key k) [
  | inl lt ↦
      let test : nat_le k x.key ≡ false = grind (arith, nat_tests, lt) in
      subst (Rises (λ (row : Row). row.key) k high) (sym (left_out (λ row. nat_le k row.key) x xs test)) (rises_above k (x.key + 1) high xs r.2)
  | inr le ↦
      let test : nat_le k x.key ≡ true = grind (arith, nat_tests, le) in
      let whole = above_whole k (x.key + 1) high xs r.2 (omega (arith, le)) in
      subst (Rises (λ (row : Row). row.key) k high) (sym (kept_first (λ row. nat_le k row.key) x xs test))
      (le, r.1, subst (Rises (λ (row : Row). row.key) (x.key + 1) high) (sym whole) r.2)
]

-- what rises splits at one of its rows
pub record SplitsAt (low high : ℕ) (front : List Row) (x : Row) (back : List Row) : Type 0 where
  pub before : Rises (λ row. row.key) low x.key front
  pub upto : Rises (λ row. row.key) low (x.key + 1) (front ++ x ∷ [])
  pub behind : Rises (λ row. row.key) (x.key + 1) high back
  pub from : low ≤ x.key
  pub until : x.key < high

pub rises_split : (low high : ℕ) (front : List Row) (x : Row) (back : List Row) → Rises (λ row. row.key) low high (front ++ x ∷ back) → SplitsAt low high front x back
rises_split low high [] x back r = record { before = tt; upto = (r.0, omega arith, tt); behind = r.2; from = r.0; until = r.1 }
rises_split low high (y ∷ front) x back r =
    let rest = rises_split (y.key + 1) high front x back r.2 in
    let above = rest.from in
    record {
      before = (r.0, omega (arith, above), rest.before);
      upto = (r.0, omega (arith, above), rest.upto);
      behind = rest.behind;
      from = omega (arith, above, r.0);
      until = rest.until;
    }

-- a row from a key on is the row of its key
above_row : (low key : ℕ) (rows : List Row) → low ≤ key → row_at key (rows_above low rows) ≡ row_at key rows
above_row low key [] le = refl
above_row low key (x ∷ xs) le = elim (cases_lt x.key low) [
  | inl lt ↦
      let test : nat_le low x.key ≡ false = grind (arith, nat_tests, lt) in
      let other : (x.key == key) ≡ false = grind (arith, nat_tests, lt, le) in
      ap (row_at key) (left_out (λ row. nat_le low row.key) x xs test) ∙ above_row low key xs le ∙ ap (λ (b : Bool). cond b (Some x) (row_at key xs)) (sym other)
  | inr from ↦
      let test : nat_le low x.key ≡ true = grind (arith, nat_tests, from) in
      ap (row_at key) (kept_first (λ row. nat_le low row.key) x xs test) ∙ ap (λ (o : Option Row). cond (x.key == key) (Some x) o) (above_row low key xs le)
]

pub row_found : (low high : ℕ) (rows front : List Row) (x : Row) (back : List Row) → rows_above low rows ≡ front ++ x ∷ back → SplitsAt low high front x back → row_at x.key rows ≡ Some x
row_found low high rows front x back is split =
    sym (above_row low x.key rows split.from) ∙ ap (row_at x.key) is ∙ row_at-below x.key low x.key front (x ∷ back) split.before (omega arith)
    ∙ ap (λ (b : Bool). cond b (Some x) (row_at x.key back)) (eq-eqb x.key x.key refl)

-- the rows between two keys are those from the first on and below the second
both_tests : (low next : ℕ) (x : Row) (b : Bool) (above between : List Row) → between ≡ filter (λ row. nat_lt row.key next) above
    → cond (b && nat_lt x.key next) (x ∷ between) between ≡ filter (λ row. nat_lt row.key next) (cond b (x ∷ above) above)
both_tests low next x true above between is = ap (λ (l : List Row). cond (nat_lt x.key next) (x ∷ l) l) is
both_tests low next x false above between is = is

between_is : (low next : ℕ) (rows : List Row) → rows_between low next rows ≡ filter (λ row. nat_lt row.key next) (rows_above low rows)
between_is low next [] = refl
between_is low next (x ∷ xs) = both_tests low next x (nat_le low x.key) (rows_above low xs) (rows_between low next xs) (between_is low next xs)

-- up to a row of them
pub between_upto : (low high : ℕ) (rows front : List Row) (x : Row) (back : List Row) → rows_above low rows ≡ front ++ x ∷ back → SplitsAt low high front x back → rows_between low (x.key + 1) rows ≡ front ++ x ∷ []
between_upto low high rows front x back is split =
    let test : Row → Bool = λ row. nat_lt row.key (x.key + 1) in
    between_is low (x.key + 1) rows
    ∙ ap (filter test) (is ∙ sym (append_assoc front (x ∷ []) back))
    ∙ filter-append test (front ++ x ∷ []) back
    ∙ ap (λ (l : List Row). l ++ filter test back) (all_below (λ (row : Row). row.key) (x.key + 1) low (x.key + 1) (front ++ x ∷ []) split.upto (omega arith))
    ∙ ap (λ (l : List Row). (front ++ x ∷ []) ++ l) (below_none (λ (row : Row). row.key) (x.key + 1) (x.key + 1) high back split.behind (omega arith))
    ∙ append-nil (front ++ x ∷ [])

-- and up to the end
pub between_all : (low high : ℕ) (rows : List Row) → Rises (λ row. row.key) low high (rows_above low rows) → rows_between low high rows ≡ rows_above low rows
between_all low high rows r = between_is low high rows ∙ all_below (λ (row : Row). row.key) high low high (rows_above low rows) r (omega arith)

-- ---- of a leaf

pub record HasRuns (page : PageView) : Type 0 where
  pub rise : Rises (λ row. row.key) page.low page.high page.rows
  pub low_high : page.low < page.high
  pub most : page.high ≤ 2 ^ 32

pub leaf_runs : (page : PageView) → IsPage page → page.kind ≡ Leaf → HasRuns page
leaf_runs page h leaf =
    let content : HasContent Leaf page = subst (λ (k : Kind). HasContent k page) leaf h.content in
    let parts = and_parts _ _ content.1 in
    let first = and_parts _ _ parts.0 in
    let fences = and_parts _ _ first.0 in
    record { rise = Rises-from_test (λ (row : Row). row.key) page.low page.high page.rows parts.1; low_high = ltb-true _ _ fences.0; most = leb-true _ _ fences.1 }
