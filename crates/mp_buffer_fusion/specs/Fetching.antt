-- What a call for a page answers and leaves.
use Rattle.std.specs.Prelude.{◌≡◌, ℕ, ◌+◌, List, [], ◌∷◌, ◌++◌, Option, Some, None, Result, MatchResult}
use Rattle.std.specs.Borrow.{Bor}
use Rattle.mp_model.specs.declared.waiting.NotYet.{NotYet}
use Rattle.mp_model.specs.declared.waiting.WordKind.TheVariants.{Frame}
use Rattle.mp_cells.specs.PageView.{PageView}
use Rattle.mp_shared.specs.Nodes.{NodeView}
use Rattle.mp_shared.specs.PageSteps.{with_ops, MissedFrame}
use Rattle.mp_buffer_fusion.specs.declared.buffer.Buffer.{Buffer}
use Rattle.mp_buffer_fusion.specs.Buffers.{buffer_of, StandsAt, new_buffer}
use Rattle.mp_buffer_fusion.specs.Visits.{Visits, IsNewest}

-- what a call answers that found a page's frame taken. The word of its turn is not told
abbrev pub frame_missed : ℕ → NotYet
frame_missed k = record { of = Frame; at = k; seen = 0 }

-- a page that had a buffer cost nothing; else its frame was taken, as one step, and given back, and it has a new buffer, the last
abbrev pub FetchedBy : Option Buffer → ℕ → ℕ → List Buffer → List Buffer → NodeView → NodeView → ℕ → ℕ → Type 0
FetchedBy (Some b) p k pool later before after steps counted = (later ≡ pool) × (after ≡ before) × (counted ≡ steps)
FetchedBy None p k pool later before after steps counted =
    (y : PageView) × (later ≡ pool ++ new_buffer k y ∷ []) × Visits p k y y before after × (counted ≡ steps + 1)

-- The page has no buffer, and its frame was not at home: the primary made one operation more, and nothing else changed
pub record MissesPage (p k : ℕ) (pool later : List Buffer) (before after : NodeView) (steps counted : ℕ) (wait : NotYet) : Type 0 where
  pub lacks : buffer_of pool k ≡ None
  pub missed : MissedFrame p k before after
  pub becomes : after ≡ with_ops before p 1
  pub same : later ≡ pool
  pub uncounted : counted ≡ steps
  pub answer : wait ≡ frame_missed k

-- the page has this buffer then, with the newest content
abbrev pub Fetched : ℕ → ℕ → List Buffer → List Buffer → NodeView → NodeView → ℕ → ℕ → Buffer → Type 0
Fetched p k pool later before after steps counted b =
    (buffer_of later k ≡ Some b) × IsNewest after k b.page × FetchedBy (buffer_of pool k) p k pool later before after steps counted

-- the answer is the place of the page's buffer, or that the frame was missed
abbrev pub FetchesPlace : ℕ → ℕ → List Buffer → List Buffer → NodeView → NodeView → ℕ → ℕ → Result ℕ NotYet → Type 0
FetchesPlace p k pool later before after steps counted result = MatchResult result
    (λ i. (b : Buffer) × StandsAt later k i b × Fetched p k pool later before after steps counted b)
    (MissesPage p k pool later before after steps counted)

-- the answer is the page in its buffer, or that the frame was missed
abbrev pub FetchesShown : ℕ → ℕ → List Buffer → List Buffer → NodeView → NodeView → ℕ → ℕ → Result (Bor PageView) NotYet → Type 0
FetchesShown p k pool later before after steps counted result = MatchResult result
    (λ page. (b : Buffer) × (page.now ≡ b.page) × Fetched p k pool later before after steps counted b)
    (MissesPage p k pool later before after steps counted)
