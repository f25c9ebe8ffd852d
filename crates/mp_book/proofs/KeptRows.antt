-- What is kept of a transaction's writes: a row for each key, with that of one write more.
use Rattle.std.proofs.Common.{◌≡◌, ◌≢◌, ℕ, ◌+◌, ◌≤◌, ◌==◌, ◌||◌, Bool, true, false, List, [], ◌∷◌, ◌++◌, length, Option, None, Some, is_some, refl, sym, ap, subst, ◌∙◌, arith}
use Rattle.std.proofs.lemmas.Bool.Decides.{nat_tests}
use Rattle.std.proofs.lemmas.List.{length-append}
use Rattle.mp_model.specs.declared.replies.WriteVerb.{WriteVerb}
use Rattle.mp_script.specs.declared.statements.Line.{Line}
use Rattle.mp_script.specs.declared.statements.Stmt.{Stmt}
use Rattle.mp_script.specs.declared.statements.Stmt.TheVariants as stmts
use Rattle.mp_script.specs.Entries.{open_after}
use Rattle.mp_script.specs.Transactions.{Target, target_of, target_key}
use Rattle.mp_script.specs.Right.{WritesKey}
use Rattle.mp_cells.specs.declared.rows.Row.{Row}
use Rattle.mp_cells.specs.Trees.{row_at}
use Rattle.mp_book.specs.Stages.{HaveOneRowEach, with_former}
use Rattle.mp_book.specs.Books.{KeepsFormer}

true_false : true ≡ false → ⊥
true_false e = cc

-- a kept row's key is found
pub own_key : (rows : List Row) → rows ≢ [] → (key : ℕ) × (is_some (row_at key rows) ≡ true)
own_key [] some = absurd (some refl)
own_key (row ∷ rows) some = let e : (row.key == row.key) ≡ true = grind (arith, nat_tests) in (row.key, rw e refl)

-- the keys of the rows with one row more
found_more : (rows : List Row) (row : Row) (key : ℕ) → is_some (row_at key (rows ++ row ∷ [])) ≡ (is_some (row_at key rows) || (row.key == key))
found_more [] row key = go (row.key == key) refl
  where
    go : (b : Bool) → (row.key == key) ≡ b → is_some (row_at key (row ∷ [])) ≡ (false || (row.key == key))
    go true e = rw e refl
    go false e = rw e refl
found_more (x ∷ rows) row key = go (x.key == key) refl (found_more rows row key)
  where
    go : (b : Bool) → (x.key == key) ≡ b → is_some (row_at key (rows ++ row ∷ [])) ≡ (is_some (row_at key rows) || (row.key == key)) → is_some (row_at key (x ∷ rows ++ row ∷ [])) ≡ (is_some (row_at key (x ∷ rows)) || (row.key == key))
    go true e rest = rw e refl
    go false e rest = rw e rest

pub or_false : (b : Bool) → (b || false) ≡ b
or_false true = refl
or_false false = refl

pub or_true : (b : Bool) → (b || true) ≡ true
or_true true = refl
or_true false = refl

-- with the row of the key that was written
pub former_found : (rows : List Row) (written : ℕ) (former : Option Row) → KeepsFormer rows written former → (key : ℕ) → is_some (row_at key (with_former rows former)) ≡ (is_some (row_at key rows) || (written == key))
former_found rows written None keeps key = go (written == key) refl
  where
    go : (b : Bool) → (written == key) ≡ b → is_some (row_at key rows) ≡ (is_some (row_at key rows) || (written == key))
    go true e = let same : written ≡ key = grind (arith, nat_tests) in rw e (subst (λ k. is_some (row_at k rows) ≡ true) same keeps ∙ sym (or_true (is_some (row_at key rows))))
    go false e = rw e (sym (or_false (is_some (row_at key rows))))
former_found rows written (Some row) keeps key = found_more rows row key ∙ ap (λ k. is_some (row_at key rows) || (k == key)) keeps.0

one_more_each : (rows : List Row) (row : Row) → HaveOneRowEach rows → row_at row.key rows ≡ None → HaveOneRowEach (rows ++ row ∷ [])
one_more_each [] row once none = (refl, tt)
one_more_each (x ∷ rows) row once none = go (x.key == row.key) refl (one_more_each rows row once.1)
  where
    no_row : Some x ≡ None → ⊥
    no_row e = cc

    absent : (others : List Row) → row_at x.key others ≡ None → (row.key == x.key) ≡ false → row_at x.key (others ++ row ∷ []) ≡ None
    absent [] is apart = rw apart refl
    absent (y ∷ others) is apart = look (y.key == x.key) refl (absent others)
      where
        no_y : Some y ≡ None → ⊥
        no_y e = cc

        look : (b : Bool) → (y.key == x.key) ≡ b → (row_at x.key others ≡ None → (row.key == x.key) ≡ false → row_at x.key (others ++ row ∷ []) ≡ None) → row_at x.key (y ∷ others ++ row ∷ []) ≡ None
        look true e rest = absurd (no_y (rw e at is))
        look false e rest = rw e (rest (rw e at is) apart)

    go : (b : Bool) → (x.key == row.key) ≡ b → (row_at row.key rows ≡ None → HaveOneRowEach (rows ++ row ∷ [])) → HaveOneRowEach (x ∷ rows ++ row ∷ [])
    go true e rest = absurd (no_row (rw e at none))
    go false e rest = let apart : (row.key == x.key) ≡ false = grind (arith, nat_tests) in (absent rows once.0 apart, rest (rw e at none))

pub once_more : (rows : List Row) (written : ℕ) (former : Option Row) → KeepsFormer rows written former → HaveOneRowEach rows → HaveOneRowEach (with_former rows former)
once_more rows written None keeps once = once
once_more rows written (Some row) keeps once = one_more_each rows row once (subst (λ k. row_at k rows ≡ None) (sym keeps.0) keeps.1)

-- no fewer rows
pub longer : (rows : List Row) (former : Option Row) → length rows ≤ length (with_former rows former)
longer rows None = omega arith
longer rows (Some row) = let sum : length (rows ++ row ∷ []) ≡ length rows + 1 = length-append rows (row ∷ []) in omega (arith, sum)

-- a write has a target, and goes on in its transaction
pub write_goes_on : (stmt : Stmt) → is_some (target_of stmt) ≡ true → open_after stmt ≡ true
write_goes_on stmts.Begin is = absurd (true_false (sym is))
write_goes_on (stmts.Get key) is = refl
write_goes_on (stmts.Put key value) is = refl
write_goes_on (stmts.Del key) is = refl
write_goes_on (stmts.Copy from to) is = refl
write_goes_on (stmts.Scan low most) is = refl
write_goes_on stmts.Commit is = absurd (true_false (sym is))
write_goes_on stmts.Rollback is = absurd (true_false (sym is))

-- its key, as look-ups of writes have it
abbrev key_told : Option Target → Option ℕ
key_told None = None
key_told (Some target) = Some target.key

key_by : (stmt : Stmt) → target_key (Some stmt) ≡ key_told (target_of stmt)
key_by stmts.Begin = refl
key_by (stmts.Get key) = refl
key_by (stmts.Put key value) = refl
key_by (stmts.Del key) = refl
key_by (stmts.Copy from to) = refl
key_by (stmts.Scan low most) = refl
key_by stmts.Commit = refl
key_by stmts.Rollback = refl

pub target_found : (line : Line) (verb : WriteVerb) (key : ℕ) → WritesKey line verb key → target_key (Some line.stmt) ≡ Some key
target_found line verb key writes = key_by line.stmt ∙ ap (λ (o : Option Target). key_told o) writes

pub writes_target : (line : Line) (verb : WriteVerb) (key : ℕ) → WritesKey line verb key → is_some (target_of line.stmt) ≡ true
writes_target line verb key writes = ap (λ (o : Option Target). is_some o) writes
