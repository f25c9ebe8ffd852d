-- A page of a pool handed out.
use Rattle.std.specs.Prelude.{ℕ, List, Result}
use Rattle.std.specs.Borrow.{Bor, MutBor, Fml}
use Rattle.std.specs.Io.BufRead.{Rests}
use Rattle.mp_model.specs.declared.waiting.NotYet.{NotYet}
use Rattle.mp_cells.specs.PageView.{PageView}
use Rattle.mp_shared.specs.Nodes.{NodeView}
use Rattle.mp_buffer_fusion.specs.declared.buffer.Buffer.{Buffer}
use Rattle.mp_buffer_fusion.specs.contracts.pool.Pool as pool
use Rattle.mp_buffer_fusion.specs.Agreement.{AgreesIn}
use Rattle.mp_buffer_fusion.specs.Fetching.{FetchesShown}

-- the pool once the page that it lends is let go: it was fetched, and the pool agrees with the part then
abbrev pub HandsBuffer : MutBor (List Buffer) → ℕ → ℕ → NodeView → NodeView → ℕ → ℕ → Result (Bor PageView) NotYet → Fml
HandsBuffer l p k before after steps counted result = Rests pool.the_row l
    (λ later. FetchesShown p k l.now later before after steps counted result × AgreesIn later after p)
