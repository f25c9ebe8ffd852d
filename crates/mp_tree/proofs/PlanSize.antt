-- How many bytes an mtr has whose changes are a plan.
use Rattle.std.proofs.Common.{◌≡◌, ℕ, suc, ◌+◌, ◌*◌, ◌≤◌, Bool, true, false, List, [], ◌∷◌, ◌++◌, length, take, drop, refl, sym, ap, subst, ◌∙◌, arith}
use Rattle.std.specs.List.{flat_map, AllByRecursion}
use Rattle.std.proofs.lemmas.List.{length-append, length-take}
use Rattle.mp_cells.specs.declared.changes.Change.{Change}
use Rattle.mp_cells.specs.declared.changes.Change.TheVariants.{MakeUndo, PutRow, RestoreRow, PutUndo}
use Rattle.mp_cells.specs.declared.records.Mtr.{Mtr}
use Rattle.mp_cells.specs.declared.records.Record.{Record}
use Rattle.mp_cells.specs.declared.records.Record.TheVariants.{Page, Commit}
use Rattle.mp_cells.specs.declared.rows.Row.{Row}
use Rattle.mp_cells.specs.Mtrs.{IsChange, IsMtr, IsPageRecord, AreRecords}
use Rattle.mp_cells.specs.Plans.{Plan, plan_of}
use Rattle.mp_cells.specs.Trees.{PageMap, top, row_at}
use Rattle.mp_cells.specs.Writes.{version_of}
use Rattle.mp_cells.specs.PageView.{PageView, is_leaf, is_inner}
use Rattle.mp_cells.specs.declared.children.Child.{Child}
use Rattle.mp_cells.proofs.ChangeCells.{has_cells}
use Rattle.mp_cells.proofs.PageRanges.{leaf_ranges, inner_ranges}
use Rattle.mp_plans.specs.Growth.{Growth, stays, new_root, leaf, inner, higher, leaf_separator, inner_separator, growth_changes, leaf_after, pages_needed, new_pages, takes, write_plan}
use Rattle.mp_redo.specs.Spelling.{change_bytes, record_bytes, mtr_bytes}
use Rattle.mp_redo.proofs.Puts.{change_length, change_is_long, mtr_length}

-- the bytes of a plan's records
abbrev plan_length : Plan → ℕ
plan_length [] = 0
plan_length (step ∷ plan) = 11 + change_length step.1 + plan_length plan

-- each change of a plan may stand in a record
abbrev AreChanges : Plan → Type 0
AreChanges [] = Unit {0}
AreChanges (step ∷ plan) = IsChange step.1 × AreChanges plan

length_both : (xs ys : Plan) → plan_length (xs ++ ys) ≡ plan_length xs + plan_length ys
length_both [] ys = omega arith
length_both (x ∷ xs) ys = omega (arith, length_both xs ys)

front_of : (xs ys : Plan) → AreChanges (xs ++ ys) → AreChanges xs
front_of [] ys h = tt
front_of (x ∷ xs) ys h = (h.0, front_of xs ys h.1)

back_of : (xs ys : Plan) → AreChanges (xs ++ ys) → AreChanges ys
back_of [] ys h = h
back_of (x ∷ xs) ys h = back_of xs ys h.1

-- records of changes
record_length : (page prev : ℕ) (change : Change) → length (record_bytes (Page page prev change)) ≡ 11 + length (change_bytes change)
record_length page prev change = let e : length (record_bytes (Page page prev change)) ≡ suc (suc (suc (suc (suc (suc (suc (suc (suc (suc (suc (length (change_bytes change)))))))))))) = refl in omega (arith, e)

pages_length : (llsn : ℕ) (items : List Record) → AllByRecursion (IsPageRecord llsn) items → length (flat_map record_bytes items) ≡ plan_length (plan_of items)
pages_length llsn [] h = refl
pages_length llsn (Page page prev change ∷ items) h =
    omega (arith, pages_length llsn items h.1, length-append (record_bytes (Page page prev change)) (flat_map record_bytes items), record_length page prev change, sym (change_is_long change (has_cells change h.0.2)))
pages_length llsn (Commit id cts ∷ items) h = absurd h.0

pages_changes : (llsn : ℕ) (items : List Record) → AllByRecursion (IsPageRecord llsn) items → AreChanges (plan_of items)
pages_changes llsn [] h = tt
pages_changes llsn (Page page prev change ∷ items) h = (h.0.2, pages_changes llsn items h.1)
pages_changes llsn (Commit id cts ∷ items) h = absurd h.0

-- an mtr whose plan has a change has records of changes alone
all_pages : (llsn : ℕ) (items : List Record) → AreRecords llsn items → 1 ≤ plan_length (plan_of items) → AllByRecursion (IsPageRecord llsn) items
all_pages llsn [] h some = tt
all_pages llsn (Commit id cts ∷ []) h some = absurd (omega (arith, some))
all_pages llsn (Page page prev change ∷ items) h some = h.2
all_pages llsn (Commit id cts ∷ x ∷ items) h some = h.2

mtr_is : (mtr : Mtr) (plan : Plan) → IsMtr mtr → plan_of mtr.records ≡ plan → 1 ≤ plan_length plan → (length (mtr_bytes mtr) ≡ 10 + plan_length plan) × AreChanges plan
mtr_is mtr plan sound is some =
    let pages = all_pages mtr.llsn mtr.records sound.records (subst (λ (p : Plan). 1 ≤ plan_length p) (sym is) some) in
    (omega (arith, mtr_length mtr, pages_length mtr.llsn mtr.records pages, ap plan_length is), subst AreChanges is (pages_changes mtr.llsn mtr.records pages))

-- the pages that are taken
takes_length : (numbers : List ℕ) → plan_length (takes numbers) ≡ 13 * length numbers
takes_length [] = refl
takes_length (n ∷ numbers) = omega (arith, takes_length numbers)

new_most : (fresh : Bool) (u : ℕ) (growth : Growth) (a b c : ℕ) → length (new_pages fresh u growth a b c) ≤ 4
new_most true u growth a b c = omega (arith, length-take (pages_needed growth) (a ∷ b ∷ c ∷ []))
new_most false u growth a b c = omega (arith, length-take (pages_needed growth) (a ∷ b ∷ c ∷ []))

-- a fresh undo page
abbrev undo_made : Bool → ℕ → Plan
undo_made true u = (u, MakeUndo) ∷ []
undo_made false u = []

undo_most : (fresh : Bool) (u : ℕ) → plan_length (undo_made fresh u) ≤ 11
undo_most true u = omega arith
undo_most false u = omega arith

leaf_most : (low high : ℕ) (rows : List Row) → is_leaf low high rows ≡ true → length rows ≤ 15
leaf_most low high rows h = (leaf_ranges low high rows h).most

inner_most : (low high : ℕ) (children : List Child) → is_inner low high children ≡ true → length children ≤ 124
inner_most low high children h = (inner_ranges low high children h).most

-- the right part of a leaf
right_most : (page : PageView) → is_leaf (leaf_separator page) page.high (drop 8 page.rows) ≡ true → length (drop 8 page.rows) ≤ 15
right_most page h = leaf_most (leaf_separator page) page.high (drop 8 page.rows) h

-- the growth: at most a leaf, two halves of an inner page, and the root of two children
growth_most : (growth : Growth) (m : ℕ) (pages : PageMap) (a b c : ℕ) → AreChanges (growth_changes growth m pages a b c) → plan_length (growth_changes growth m pages a b c) ≤ 3106
growth_most stays m pages a b c h = omega arith
growth_most new_root m pages a b c h = omega (arith, leaf_most 0 (leaf_separator (pages m)) (take 8 (pages m).rows) h.0.0, leaf_most (leaf_separator (pages m)) top (drop 8 (pages m).rows) h.1.0.0)
growth_most (leaf p) m pages a b c h = omega (arith, right_most (pages m) h.0.0)
growth_most (inner p) m pages a b c h = omega (arith, right_most (pages m) h.0.0, inner_most (inner_separator (pages p)) (pages p).high (drop 62 (pages p).children) h.1.1.0.0)
growth_most higher m pages a b c h =
    omega (arith, right_most (pages m) h.0.0, inner_most 0 (inner_separator (pages 1)) (take 62 (pages 1).children) h.1.1.0.0, inner_most (inner_separator (pages 1)) top (drop 62 (pages 1).children) h.1.1.1.0.0)

-- the parts of a write's plan
abbrev write_last : Growth → ℕ → ℕ → PageMap → ℕ → ℕ → Row → Plan
write_last growth m u pages a b row = (u, PutUndo (version_of row.key (row_at row.key (pages m).rows))) ∷ (leaf_after growth row.key m pages a b, PutRow row) ∷ []

write_parts : (growth : Growth) (m : ℕ) (fresh : Bool) (u : ℕ) (pages : PageMap) (a b c : ℕ) (row : Row)
    → write_plan growth m fresh u pages a b c row ≡ takes (new_pages fresh u growth a b c) ++ undo_made fresh u ++ growth_changes growth m pages a b c ++ write_last growth m u pages a b row
write_parts growth m true u pages a b c row = refl
write_parts growth m false u pages a b c row = refl

pub write_most : (growth : Growth) (m : ℕ) (fresh : Bool) (u : ℕ) (pages : PageMap) (a b c : ℕ) (row : Row) (mtr : Mtr) → IsMtr mtr → plan_of mtr.records ≡ write_plan growth m fresh u pages a b c row → length (mtr_bytes mtr) ≤ 4096
write_most growth m fresh u pages a b c row mtr sound is = omega (arith, whole.0, long, takes_length (new_pages fresh u growth a b c), new_most fresh u growth a b c, undo_most fresh u, growth_most growth m pages a b c grown)
  where
    taken : Plan
    taken = takes (new_pages fresh u growth a b c)

    middle : Plan
    middle = growth_changes growth m pages a b c

    last : Plan
    last = write_last growth m u pages a b row

    plan : Plan
    plan = taken ++ undo_made fresh u ++ middle ++ last

    ends : plan_length last ≡ 150
    ends = refl

    long : plan_length plan ≡ plan_length taken + plan_length (undo_made fresh u) + plan_length middle + 150
    long = omega (arith, length_both taken (undo_made fresh u), length_both (taken ++ undo_made fresh u) middle, length_both (taken ++ undo_made fresh u ++ middle) last, ends)

    whole : (length (mtr_bytes mtr) ≡ 10 + plan_length plan) × AreChanges plan
    whole = mtr_is mtr plan sound (is ∙ write_parts growth m fresh u pages a b c row) (omega (arith, long))

    grown : AreChanges middle
    grown = back_of (taken ++ undo_made fresh u) middle (front_of (taken ++ undo_made fresh u ++ middle) last whole.1)

pub restore_is : (page : ℕ) (row : Row) (mtr : Mtr) → IsMtr mtr → plan_of mtr.records ≡ (page, RestoreRow row) ∷ [] → length (mtr_bytes mtr) ≡ 85
restore_is page row mtr sound is = let one = mtr_is mtr ((page, RestoreRow row) ∷ []) sound is (omega arith) in omega (arith, one.0)
