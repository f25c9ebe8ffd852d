-- Settled pages: each row is the version that counts, and no undo page is left.
use Rattle.std.specs.Prelude.{◌≡◌, ◌≢◌, ℕ, ◌<◌, ◌≤◌, Bool, true, List, [], ◌∷◌, Option, Some, None, if◌then◌else◌}
use Rattle.std.specs.List.{list_any}
use Rattle.mp_model.specs.declared.ids.TrxId.{TrxId}
use Rattle.mp_cells.specs.declared.kinds.Kind.TheVariants.{Leaf, Undo}
use Rattle.mp_cells.specs.declared.rows.Row.{Row}
use Rattle.mp_cells.specs.PageView.{blank_page, bit_of, is_of}
use Rattle.mp_cells.specs.Trees.{PageMap, IsUnwritten}
use Rattle.mp_cells.specs.Writes.{undo_at}
use Rattle.mp_histories.specs.KeyOps.{same_writer}
use Rattle.mp_histories.specs.Chains.{row_over, IsChain}

-- a version counts where its writer is listed, or where it has none
abbrev pub is_counted : List TrxId → Option TrxId → Bool
is_counted ids None = true
is_counted ids (Some id) = list_any (λ other. same_writer (Some other) (Some id)) ids

-- the first version that counts, down to the last one
abbrev pub first_counted : List TrxId → List Row → Row → Row
first_counted ids [] last = last
first_counted ids (v ∷ vs) last = if is_counted ids v.writer then v else first_counted ids vs last

-- a row as a store keeps it: without writer and link
abbrev pub without_writer : Row → Row
without_writer row = record row { writer = None; link = None }

-- a row has a chain down to a version without a writer, and becomes the first version that counts in it
pub record SettledRow (ids : List TrxId) (old : PageMap) (row new : Row) : Type 0 where
  pub versions : List Row
  pub last : Row
  pub head : row ≡ row_over versions last
  pub chain : IsChain (undo_at old) versions last
  pub unwritten : IsUnwritten last
  pub new_is : new ≡ without_writer (first_counted ids versions last)

-- each row, in order
abbrev pub SettledRows : List TrxId → PageMap → List Row → List Row → Type 0
SettledRows ids old [] [] = Unit {0}
SettledRows ids old (row ∷ rows) (new ∷ news) = SettledRow ids old row new × SettledRows ids old rows news
SettledRows ids old [] (new ∷ news) = ⊥
SettledRows ids old (row ∷ rows) [] = ⊥

-- the rows of leaves are settled, undo pages are blank and their bits clear; all else stays
pub record IsSettled (ids : List TrxId) (old new : PageMap) : Type 0 where
  pub rows : (n : ℕ) → n < 4096 → (old n).kind ≡ Leaf → SettledRows ids old (old n).rows (new n).rows
  pub leaf : (n : ℕ) → n < 4096 → (old n).kind ≡ Leaf → new n ≡ record (old n) { rows = (new n).rows }
  pub undo : (n : ℕ) → n < 4096 → (old n).kind ≡ Undo → new n ≡ blank_page (old n).llsn
  pub bits : (n : ℕ) → n < 4096 → bit_of (new 0).bits n ≡ (if is_of Undo (old n) then 0 else bit_of (old 0).bits n)
  pub map : (old 0).kind ≢ Leaf → (old 0).kind ≢ Undo → new 0 ≡ record (old 0) { bits = (new 0).bits }
  pub same : (n : ℕ) → 1 ≤ n → n < 4096 → (old n).kind ≢ Leaf → (old n).kind ≢ Undo → new n ≡ old n
