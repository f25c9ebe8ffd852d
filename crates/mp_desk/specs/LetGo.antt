-- What a primary leaves when it lets all pages go.
use Rattle.std.specs.Prelude.{◌≡◌, ℕ, Some}
use Rattle.mp_machine.specs.View.{part_in}
use Rattle.mp_core_pages.specs.declared.page_lock.Held.TheVariants.{No}
use Rattle.mp_core_pages.specs.PageParts.{held_at}
use Rattle.mp_core.specs.declared.part.CorePart.{CorePart}
use Rattle.mp_core.specs.CoreExtends.{durable_of, CoreExtends}
use Rattle.mp_shared.specs.Nodes.{NodeView}
use Rattle.mp_supports.specs.Steps.{OnlyLooked}
use Rattle.mp_supports.specs.Agreement.{last_made_llsn}

-- It put pages into their frames, or gave locks back: it only looked, and transactions are as before
pub record OnlyGaveBack (q r : CorePart) : Type 0 where
  pub looked : OnlyLooked q r
  pub trx : r.trx ≡ q.trx

-- all mtrs of the primary's part in a node are durable
abbrev pub IsAllDurable : ℕ → NodeView → Type 0
IsAllDurable p n = (q : CorePart) → part_in n.parts p ≡ Some q → last_made_llsn q ≡ durable_of q

-- All that the part made is durable, and it holds no lock; transactions and mtrs are as before
pub record HasLetGo (q r : CorePart) : Type 0 where
  pub extends : CoreExtends q r
  pub trx : r.trx ≡ q.trx
  pub made : r.pages.made ≡ q.pages.made
  pub durable : last_made_llsn r ≡ durable_of r
  pub idle : (page : ℕ) → held_at r.pages.locks page ≡ No
