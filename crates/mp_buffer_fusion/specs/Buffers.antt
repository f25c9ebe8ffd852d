-- What contracts see of a pool: the list of its buffers. No two have one page.
use Rattle.std.specs.Prelude.{◌≡◌, ℕ, ◌<◌, ◌==◌, not, Bool, true, false, if◌then◌else◌, List, [], ◌∷◌, ◌++◌, map, filter, length, slice_get, Option, Some, None, MatchOption, Result, IsOk, IsErr}
use Rattle.mp_cells.specs.declared.changes.Change.{Change}
use Rattle.mp_cells.specs.declared.changes.NotApplicable.{NotApplicable}
use Rattle.mp_cells.specs.declared.records.Record.{Record}
use Rattle.mp_cells.specs.declared.records.Record.TheVariants as records
use Rattle.mp_cells.specs.PageView.{PageView}
use Rattle.mp_cells.specs.Changes.{applied}
use Rattle.mp_cells.specs.Plans.{changed_page}
use Rattle.mp_buffer_fusion.specs.declared.pool.TheConstants.{BUFFERS}
use Rattle.mp_buffer_fusion.specs.declared.buffer.Buffer.{Buffer}

-- the buffer of a page
abbrev pub buffer_of : List Buffer → ℕ → Option Buffer
buffer_of [] k = None
buffer_of (b ∷ buffers) k = if k == b.number then Some b else buffer_of buffers k

-- the page has a buffer
abbrev pub IsBuffered : List Buffer → ℕ → Type 0
IsBuffered pool k = ¬ (buffer_of pool k ≡ None)

-- where the page has no buffer, one is free
abbrev pub HasFreeBuffer : List Buffer → ℕ → Type 0
HasFreeBuffer pool k = buffer_of pool k ≡ None → length pool < BUFFERS

-- the page's buffer is the one at this place, and it is this
abbrev pub StandsAt : List Buffer → ℕ → ℕ → Buffer → Type 0
StandsAt pool k i b = (slice_get pool i ≡ Some b) × (buffer_of pool k ≡ Some b)

-- the page has a buffer that is pinned, or one that is clean
abbrev pub is_pinned_buffer : Option Buffer → Bool
is_pinned_buffer None = false
is_pinned_buffer (Some b) = b.pinned

abbrev pub is_clean_buffer : Option Buffer → Bool
is_clean_buffer None = false
is_clean_buffer (Some b) = b.clean

-- the pool with the buffer of one page changed
abbrev pub with_buffer : List Buffer → ℕ → (Buffer → Buffer) → List Buffer
with_buffer pool k f = map (λ b. if k == b.number then f b else b) pool

-- a buffer that a page has just come into
abbrev pub new_buffer : ℕ → PageView → Buffer
new_buffer k y = record { number = k; page = y; pinned = false; clean = true }

-- a buffer once it is pinned, once its page is in the page's frame, and once no buffer is pinned
abbrev pub pinned_buffer : Buffer → Buffer
pinned_buffer b = record b { pinned = true }

abbrev pub cleaned_buffer : Buffer → Buffer
cleaned_buffer b = record b { clean = true }

abbrev pub unpinned_buffer : Buffer → Buffer
unpinned_buffer b = record b { pinned = false }

-- the buffers that are left when the clean ones are dropped
abbrev pub dirty_buffers : List Buffer → List Buffer
dirty_buffers pool = filter (λ b. not b.clean) pool

-- a buffer with another page, which is not in the page's frame
abbrev pub rewritten_buffer : PageView → Buffer → Buffer
rewritten_buffer y b = record b { page = y; clean = false }

-- a page after a change by an mtr of this LLSN
abbrev pub changed_by : ℕ → Change → PageView → PageView
changed_by llsn change page = record (changed_page change page) { llsn = llsn }

-- the pool after a change of a page by an mtr of this LLSN
abbrev pub pool_changed : ℕ → ℕ → Change → List Buffer → List Buffer
pool_changed llsn k change pool = with_buffer pool k (λ b. rewritten_buffer (changed_by llsn change b.page) b)

-- what a change of a page that has this buffer answers and leaves
abbrev pub ChangesBuffer : ℕ → ℕ → Change → Buffer → List Buffer → List Buffer → Result (Unit {0}) NotApplicable → Type 0
ChangesBuffer llsn k change b pool later result = MatchOption (applied change b.page)
    (IsErr result × (later ≡ pool))
    (λ _. IsOk result × (later ≡ pool_changed llsn k change pool))

-- the pool after the records of an mtr of this LLSN, in their order
abbrev pub pool_recorded : ℕ → List Record → List Buffer → List Buffer
pool_recorded llsn [] pool = pool
pool_recorded llsn (records.Page page prev change ∷ items) pool = pool_recorded llsn items (pool_changed llsn page change pool)
pool_recorded llsn (records.Commit id cts ∷ items) pool = pool_recorded llsn items pool
