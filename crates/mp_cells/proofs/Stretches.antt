-- Rows in three stretches of keys: a row of the middle one is found and put there.
use Rattle.std.proofs.Common.{◌≡◌, ℕ, ◌+◌, ◌<◌, ◌≤◌, ◌==◌, nat_lt, Bool, false, cond, List, [], ◌∷◌, ◌++◌, filter, Some, None, refl, sym, ap, ◌∙◌, arith}
use Rattle.std.proofs.lemmas.Bool.Decides.{nat_tests}
use Rattle.std.proofs.lemmas.List.{append_assoc, append-nil}
use Rattle.std.proofs.lemmas.List.Elements.{filter-append}
use Rattle.mp_cells.specs.declared.rows.Row.{Row}
use Rattle.mp_cells.specs.Keys.{with_cell}
use Rattle.mp_cells.specs.Trees.{row_at}
use Rattle.mp_cells.proofs.KeyOrder.{Rises, above_all}
use Rattle.mp_cells.proofs.KeyEdits.{below_none}

pub row_at-below : (key low mid : ℕ) (xs ys : List Row) → Rises (λ row. row.key) low mid xs → mid ≤ key → row_at key (xs ++ ys) ≡ row_at key ys
row_at-below key low mid [] ys r le = refl
row_at-below key low mid (x ∷ xs) ys r le =
    let test : (x.key == key) ≡ false = grind (arith, nat_tests, r.1) in
    ap (λ (b : Bool). cond b (Some x) (row_at key (xs ++ ys))) test ∙ row_at-below key (x.key + 1) mid xs ys r.2 le

pub row_at-above : (key low high : ℕ) (ys : List Row) → Rises (λ row. row.key) low high ys → key < low → row_at key ys ≡ None
row_at-above key low high [] r lt = refl
row_at-above key low high (y ∷ ys) r lt =
    let test : (y.key == key) ≡ false = grind (arith, nat_tests, r.0) in
    ap (λ (b : Bool). cond b (Some y) (row_at key ys)) test ∙ row_at-above key (y.key + 1) high ys r.2 (omega (arith, r.0))

pub row_at-append : (key : ℕ) (xs ys : List Row) → row_at key ys ≡ None → row_at key (xs ++ ys) ≡ row_at key xs
row_at-append key [] ys h = h
row_at-append key (x ∷ xs) ys h = ap (cond (x.key == key) (Some x)) (row_at-append key xs ys h)

-- all cells of a stretch below a key, and none
pub all_below : {T : Type 0} (key : T → ℕ) (k low mid : ℕ) (cells : List T) → Rises key low mid cells → mid ≤ k → filter (λ cell. nat_lt (key cell) k) cells ≡ cells
all_below key k low mid [] r le = refl
all_below key k low mid (cell ∷ cells) r le = grind (arith, nat_tests, r.1, all_below key k (key cell + 1) mid cells r.2 le)

pub none_above : {T : Type 0} (key : T → ℕ) (k low mid : ℕ) (cells : List T) → Rises key low mid cells → mid ≤ k → filter (λ cell. nat_lt k (key cell)) cells ≡ []
none_above key k low mid [] r le = refl
none_above key k low mid (cell ∷ cells) r le = grind (arith, nat_tests, r.1, none_above key k (key cell + 1) mid cells r.2 le)

-- a cell is put in the middle stretch
pub with_cell-middle : {T : Type 0} (key : T → ℕ) (new : T) (low mid high end : ℕ) (front cells back : List T) → Rises key low mid front → mid ≤ key new → Rises key high end back → key new < high → with_cell key new (front ++ (cells ++ back)) ≡ front ++ (with_cell key new cells ++ back)
with_cell-middle {T} key new low mid high end front cells back f from b until =
    let lt : T → Bool = λ cell. nat_lt (key cell) (key new) in
    let gt : T → Bool = λ cell. nat_lt (key new) (key cell) in
    let below : filter lt (front ++ (cells ++ back)) ≡ front ++ filter lt cells =
    filter-append lt front (cells ++ back) ∙ ap (λ (xs : List T). filter lt front ++ xs) (filter-append lt cells back)
    ∙ rw (all_below key (key new) low mid front f from, below_none key (key new) high end back b (omega arith), append-nil (filter lt cells)) refl in
    let above : filter gt (front ++ (cells ++ back)) ≡ filter gt cells ++ back =
    filter-append gt front (cells ++ back) ∙ ap (λ (xs : List T). filter gt front ++ xs) (filter-append gt cells back)
    ∙ rw (none_above key (key new) low mid front f from, above_all key (key new) high end back b until) refl in
    ap (λ (xs : List T). xs ++ new ∷ filter gt (front ++ (cells ++ back))) below
    ∙ ap (λ (xs : List T). (front ++ filter lt cells) ++ new ∷ xs) above
    ∙ append_assoc front (filter lt cells) (new ∷ (filter gt cells ++ back))
    ∙ ap (λ (xs : List T). front ++ xs) (sym (append_assoc (filter lt cells) (new ∷ filter gt cells) back))
