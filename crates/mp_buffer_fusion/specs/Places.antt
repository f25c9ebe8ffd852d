-- How a pool finds the buffer of a page.
use Rattle.std.specs.Prelude.{◌≡◌, ℕ, ◌+◌, ◌<◌, ◌≤◌, List, length, slice_get, Some}
use Rattle.mp_core_pages.specs.declared.opening.TheConstants.{PAGES}
use Rattle.mp_buffer_fusion.specs.declared.pool.TheConstants.{BUFFERS}
use Rattle.mp_buffer_fusion.specs.declared.buffer.Buffer.{Buffer}

-- By page, the table has 0 or one more than the place of the page's buffer: of each buffer, and of no other place
pub record IsKeptPool (buffers : List Buffer) (places : List ℕ) : Type 0 where
  pub few : length buffers ≤ BUFFERS
  pub table : length places ≡ PAGES
  pub placed : (i : ℕ) (b : Buffer) → slice_get buffers i ≡ Some b → slice_get places b.number ≡ Some (i + 1)
  pub pointed : (k i : ℕ) → slice_get places k ≡ Some (i + 1) → (b : Buffer) × (slice_get buffers i ≡ Some b) × (b.number ≡ k)

-- The table has the place of no buffer
pub record ListsNone (places : List ℕ) : Type 0 where
  pub table : length places ≡ PAGES
  pub none : (k i : ℕ) → ¬ (slice_get places k ≡ Some (i + 1))

-- no two buffers have one page, and each has one that there is
pub record AreApart (buffers : List Buffer) : Type 0 where
  pub within : (i : ℕ) (b : Buffer) → slice_get buffers i ≡ Some b → b.number < PAGES
  pub distinct : (i j : ℕ) (b c : Buffer) → slice_get buffers i ≡ Some b → slice_get buffers j ≡ Some c → b.number ≡ c.number → i ≡ j
