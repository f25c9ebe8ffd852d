-- Cells whose keys rise, cut in two at the n-th: the left ones are those below the first key of the right ones.
use Rattle.std.proofs.Common.{◌≡◌, ◌≢◌, ℕ, zero, suc, ◌+◌, ◌<◌, ◌≤◌, ◌==◌, nat_lt, Bool, true, false, cond, List, [], ◌∷◌, ◌++◌, length, take, drop, refl, sym, ap, ◌∙◌, arith}
use Rattle.std.proofs.lemmas.Bool.Decides.{nat_tests}
use Rattle.mp_cells.specs.declared.children.Child.{Child}
use Rattle.mp_cells.specs.Keys.{with_cell, cells_below}
use Rattle.mp_cells.specs.Trees.{low_of, uses}
use Rattle.mp_cells.proofs.KeyOrder.{Rises}
use Rattle.mp_cells.proofs.KeyEdits.{below_none, with_cell-below, with_cell-above}
use Rattle.mp_plans.specs.Growth.{first_key}
use Rattle.mp_cells.proofs.Uses.{uses-head}
use Rattle.mp_cells.proofs.Heights.{numbers}

pub record Halves {T : Type 0} (key : T → ℕ) (low high n : ℕ) (cells : List T) : Type 0 where
  pub from : low ≤ first_key key (drop n cells)
  pub until : first_key key (drop n cells) < high
  pub below : cells_below key (first_key key (drop n cells)) cells ≡ take n cells
  pub left : Rises key low (first_key key (drop n cells)) (take n cells)
  pub right : Rises key (first_key key (drop n cells)) high (drop n cells)

pub halves : {T : Type 0} (key : T → ℕ) (low high n : ℕ) (cells : List T) → Rises key low high cells → n < length cells → Halves key low high n cells
halves key low high n [] r lt = absurd (omega arith)
halves key low high zero (cell ∷ cells) r lt = record {
  from = r.0;
  until = r.1;
  below = below_none key (key cell) (key cell) high (cell ∷ cells) (omega arith, r.1, r.2) (omega arith);
  left = tt;
  right = (omega arith, r.1, r.2);
}
halves key low high (suc n) (cell ∷ cells) r lt =
    let rest = halves key (key cell + 1) high n cells r.2 (omega arith) in
    let test : nat_lt (key cell) (first_key key (drop n cells)) ≡ true = grind (arith, nat_tests, rest.from) in
    record {
      from = omega (arith, r.0, rest.from);
      until = rest.until;
      below = ap (λ (b : Bool). cond b (cell ∷ cells_below key (first_key key (drop n cells)) cells) (cells_below key (first_key key (drop n cells)) cells)) test ∙ ap (λ xs. cell ∷ xs) rest.below;
      left = (r.0, omega (arith, rest.from), rest.left);
      right = rest.right;
    }

-- the first key of the right ones is above the bound of all, where some are left of it
pub halves_above : {T : Type 0} (key : T → ℕ) (low high n : ℕ) (cells : List T) → Rises key low high cells → n < length cells → 0 < n → low < first_key key (drop n cells)
halves_above key low high n [] r lt some = absurd (omega arith)
halves_above key low high zero (cell ∷ cells) r lt some = absurd (omega arith)
halves_above key low high (suc n) (cell ∷ cells) r lt some =
    let rest = halves key (key cell + 1) high n cells r.2 (omega arith) in
    omega (arith, r.0, rest.from)

-- ---- a level of children with one more behind the one that has a page

abbrev pub split_at : ℕ → Child → List Child → List Child
split_at m new [] = []
split_at m new (child ∷ level) = child ∷ cond (child.page == m) (new ∷ split_at m new level) (split_at m new level)

pub split_at-none : (m : ℕ) (new : Child) (level : List Child) → uses m (numbers level) ≡ 0 → split_at m new level ≡ level
split_at-none m new [] none = refl
split_at-none m new (child ∷ level) none =
    let parts = uses-head m child.page (numbers level) none in
    let apart = parts.0 in
    let test : (child.page == m) ≡ false = grind (arith, nat_tests) in
    ap (λ (b : Bool). child ∷ cond b (new ∷ split_at m new level) (split_at m new level)) test ∙ ap (λ (xs : List Child). child ∷ xs) (split_at-none m new level parts.1)

pub split_at-here : (m : ℕ) (new child : Child) (level : List Child) → child.page ≡ m → uses m (numbers level) ≡ 0 → split_at m new (child ∷ level) ≡ child ∷ new ∷ level
split_at-here m new child level same none =
    let test : (child.page == m) ≡ true = grind (arith, nat_tests) in
    ap (λ (b : Bool). child ∷ cond b (new ∷ split_at m new level) (split_at m new level)) test ∙ ap (λ (xs : List Child). child ∷ new ∷ xs) (split_at-none m new level none)

pub split_at-other : (m : ℕ) (new child : Child) (level : List Child) → child.page ≢ m → split_at m new (child ∷ level) ≡ child ∷ split_at m new level
split_at-other m new child level apart =
    let test : (child.page == m) ≡ false = grind (arith, nat_tests) in
    ap (λ (b : Bool). child ∷ cond b (new ∷ split_at m new level) (split_at m new level)) test

pub split_at-append : (m : ℕ) (new : Child) (xs ys : List Child) → split_at m new (xs ++ ys) ≡ split_at m new xs ++ split_at m new ys
split_at-append m new [] ys = refl
split_at-append m new (x ∷ xs) ys = by_test (x.page == m) (split_at-append m new xs ys)
  where
    by_test : (b : Bool) → split_at m new (xs ++ ys) ≡ split_at m new xs ++ split_at m new ys → x ∷ cond b (new ∷ split_at m new (xs ++ ys)) (split_at m new (xs ++ ys)) ≡ (x ∷ cond b (new ∷ split_at m new xs) (split_at m new xs)) ++ split_at m new ys
    by_test true e = ap (λ (zs : List Child). x ∷ new ∷ zs) e
    by_test false e = ap (λ (zs : List Child). x ∷ zs) e

pub low_of-split : (m high : ℕ) (new : Child) (level : List Child) → low_of (split_at m new level) high ≡ low_of level high
low_of-split m high new [] = refl
low_of-split m high new (child ∷ level) = refl

-- putting a child between a child and the next one is that
put_above : (low high : ℕ) (new : Child) (level : List Child) → Rises (λ child. child.low) low high level → new.low < low_of level high → with_cell (λ child. child.low) new level ≡ new ∷ level
put_above low high new [] r lt = refl
put_above low high new (child ∷ level) r lt = with_cell-above (λ (c : Child). c.low) low high new child level r lt

pub put_between : (m low high : ℕ) (new child : Child) (before behind : List Child) → Rises (λ c. c.low) low high (before ++ child ∷ behind) → child.page ≡ m → uses m (numbers before) ≡ 0 → uses m (numbers behind) ≡ 0 → child.low < new.low → new.low < low_of behind high → with_cell (λ c. c.low) new (before ++ child ∷ behind) ≡ split_at m new (before ++ child ∷ behind)
put_between m low high new child [] behind r same none_before none_behind above below =
    with_cell-below (λ (c : Child). c.low) new child behind above
    ∙ ap (λ (xs : List Child). child ∷ xs) (put_above (child.low + 1) high new behind r.2 below)
    ∙ sym (split_at-here m new child behind same none_behind)
put_between m low high new child (first ∷ before) behind r same none_before none_behind above below =
    let parts = uses-head m first.page (numbers before) none_before in
    let rest = put_between m (first.low + 1) high new child before behind r.2 same parts.1 none_behind above below in
    with_cell-below (λ (c : Child). c.low) new first (before ++ child ∷ behind) (omega (arith, r.0, lower (first.low + 1) high before child behind r.2))
    ∙ ap (λ (xs : List Child). first ∷ xs) rest
    ∙ sym (split_at-other m new first (before ++ child ∷ behind) parts.0)
  where
    lower : (low high : ℕ) (before : List Child) (child : Child) (behind : List Child) → Rises (λ c. c.low) low high (before ++ child ∷ behind) → low ≤ child.low
    lower low high [] child behind r = r.0
    lower low high (b ∷ before) child behind r = omega (arith, r.0, lower (b.low + 1) high before child behind r.2)
