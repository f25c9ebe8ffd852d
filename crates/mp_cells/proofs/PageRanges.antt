-- What the tests of a leaf and of an inner page say.
use Rattle.std.proofs.Common.{◌≡◌, ◌^◌, ◌<◌, ◌≤◌, nat_lt, nat_le, true, ℕ, List, length}
use Rattle.std.proofs.lemmas.Bool.{and_parts, leb-true, ltb-true}
use Rattle.mp_cells.specs.declared.rows.Row.{Row}
use Rattle.mp_cells.specs.declared.children.Child.{Child}
use Rattle.mp_cells.specs.PageView.{are_fences, is_leaf, is_inner, begins_at}
use Rattle.mp_cells.proofs.KeyOrder.{Rises, Rises-from_test}

-- the ranges of a leaf, from its test
pub record LeafRanges (low high : ℕ) (rows : List Row) : Type 0 where
  pub fences : are_fences low high ≡ true
  pub low_below : low < high
  pub high_most : high ≤ 2 ^ 32
  pub most : length rows ≤ 15
  pub rises : Rises (λ row. row.key) low high rows

pub leaf_ranges : (low high : ℕ) (rows : List Row) → is_leaf low high rows ≡ true → LeafRanges low high rows
leaf_ranges low high rows h =
    let a = and_parts _ _ h in
    let b = and_parts _ _ a.0 in
    let f = and_parts (nat_lt low high) (nat_le high (2 ^ 32)) b.0 in
    record { fences = b.0; low_below = ltb-true low high f.0; high_most = leb-true high (2 ^ 32) f.1; most = leb-true _ 15 b.1; rises = Rises-from_test (λ (row : Row). row.key) low high rows a.1 }

-- the ranges of an inner page, from its test
pub record InnerRanges (low high : ℕ) (children : List Child) : Type 0 where
  pub fences : are_fences low high ≡ true
  pub low_below : low < high
  pub high_most : high ≤ 2 ^ 32
  pub first : begins_at low children ≡ true
  pub most : length children ≤ 124
  pub rises : Rises (λ child. child.low) low high children

pub inner_ranges : (low high : ℕ) (children : List Child) → is_inner low high children ≡ true → InnerRanges low high children
inner_ranges low high children h =
    let a = and_parts _ _ h in
    let b = and_parts _ _ a.0 in
    let c = and_parts _ _ b.0 in
    let f = and_parts (nat_lt low high) (nat_le high (2 ^ 32)) c.0 in
    record { fences = c.0; low_below = ltb-true low high f.0; high_most = leb-true high (2 ^ 32) f.1; first = c.1; most = leb-true _ 124 b.1; rises = Rises-from_test (λ (child : Child). child.low) low high children a.1 }
