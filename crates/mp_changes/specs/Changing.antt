-- What a primary that changes one page in turn keeps, and what it did when it stops.
use Rattle.std.specs.Prelude.{◌≡◌, ℕ, ◌+◌, ◌≤◌, Bool, true, false, List, [], ◌∷◌, length, Option, Some, None, IfSome}
use Rattle.mp_machine.specs.Lists.{IsIn}
use Rattle.mp_machine.specs.View.{part_in}
use Rattle.mp_cells.specs.declared.records.Mtr.{Mtr}
use Rattle.mp_cells.specs.declared.rows.Row.{Row}
use Rattle.mp_core_trx.specs.declared.part.Begun.{Begun}
use Rattle.mp_core_pages.specs.declared.page_lock.Held.TheVariants.{No}
use Rattle.mp_core_pages.specs.declared.part.Placed.{Placed}
use Rattle.mp_core_pages.specs.PageParts.{held_at}
use Rattle.mp_core.specs.declared.part.CorePart.{CorePart}
use Rattle.mp_core.specs.CoreExtends.{durable_of}
use Rattle.mp_core.specs.OwnMtrs.{row_put_by}
use Rattle.mp_outside.specs.declared.disks.Disk.{Ghosts}
use Rattle.mp_shared.specs.Nodes.{Run, NodeView}
use Rattle.mp_supports.specs.Agreement.{last_made_llsn}
use Rattle.mp_desk.specs.declared.desk.Desk.{Desk}
use Rattle.mp_desk.specs.declared.media.Media.{Media}
use Rattle.mp_desk.specs.declared.halts.WriteHalt.{WriteHalt}
use Rattle.mp_desk.specs.declared.halts.WriteHalt.TheVariants as halts
use Rattle.mp_desk.specs.Desks.{IsAtDesk}
use Rattle.mp_desk.specs.Making.{IsOpenLog, MediaAgreeSomehow}
use Rattle.mp_desk.specs.Statements.{ReadsIn}
use Rattle.mp_desk.specs.Writes.{HaltsWrite}
use Rattle.mp_changes.specs.declared.stops.Stop.{Stop}
use Rattle.mp_changes.specs.declared.stops.Stop.TheVariants as stops

-- the bytes of the value that the benches put: changed
abbrev pub changed_text : List ℕ
changed_text = 99 ∷ 104 ∷ 97 ∷ 110 ∷ 103 ∷ 101 ∷ 100 ∷ []

-- The mtr puts this value at a key
pub record PutsInTurn (key : ℕ) (value : Option (List ℕ)) (m : Mtr) : Type 0 where
  pub row : Row
  pub put : row_put_by m ≡ Some row
  pub its_key : row.key ≡ key
  pub value_is : row.value ≡ value

-- The node has the part of a primary that made so many mtrs, and each of them puts this value at a key
pub record HasPutInTurn (n : NodeView) (p key : ℕ) (value : Option (List ℕ)) (count : ℕ) : Type 0 where
  pub mine : CorePart
  pub holds : part_in n.parts p ≡ Some mine
  pub many : length mine.pages.made ≡ count
  pub each : (x : Placed Mtr) → IsIn x mine.pages.made → PutsInTurn key value x.mtr

-- All that the part made is durable, and it holds no page
pub record HasLeftAll (q : CorePart) : Type 0 where
  pub durable : last_made_llsn q ≡ durable_of q
  pub idle : (page : ℕ) → held_at q.pages.locks page ≡ No

-- so it is of the primary's part in a node
abbrev pub HasNoPageLeft : NodeView → ℕ → Type 0
HasNoPageLeft n p = (q : CorePart) → part_in n.parts p ≡ Some q → HasLeftAll q

-- A primary may put a value for an open transaction: it is at its desk with no page, its log is open, and its media agree with
-- its part
pub record MayChange {D : Type 0} (g : Ghosts D) (run : Run) (desk : Desk) (media : Media D) (p : ℕ) (trx : Begun) (n : NodeView) : Type 0 where
  pub at_desk : IsAtDesk run desk p n
  pub own : desk.mtr.node ≡ p
  pub empty : desk.pool ≡ []
  pub reads : ReadsIn p trx n
  pub left : HasNoPageLeft n p
  pub log : IsOpenLog p desk.llsn media.log
  pub agrees : MediaAgreeSomehow g media p n

-- a count, and one more where a put was made
abbrev pub with_put : Bool → ℕ → ℕ
with_put true count = count + 1
with_put false count = count

-- nothing stopped a put but that a page couldn't be had
abbrev pub may_retry : Option WriteHalt → Bool
may_retry None = true
may_retry (Some (halts.Word wait)) = true
may_retry (Some _) = false

-- why a put of one transaction was refused, by what the primary's part has then
abbrev pub RefusedPut : ℕ → ℕ → NodeView → WriteHalt → Type 0
RefusedPut p key n halt = (trx : Begun) × (before : NodeView) × HaltsWrite p trx key before n halt

-- why a primary stopped
abbrev pub StoppedBy : ℕ → ℕ → NodeView → Stop → Type 0
StoppedBy p key n stops.Unopened = Unit {0}
StoppedBy p key n (stops.Refused halt) = RefusedPut p key n halt

-- WHAT A PRIMARY DID of so many turns: as many mtrs as it says, each the put of the value at the key; where nothing stopped it
-- as many as there were turns, and then they are durable and it holds no page
pub record HasChanged (p key turns : ℕ) (value : Option (List ℕ)) (n : NodeView) (done : ℕ) (stop : Option Stop) : Type 0 where
  pub most : done ≤ turns
  pub puts : HasPutInTurn n p key value done
  pub all : stop ≡ None → done ≡ turns
  pub left : stop ≡ None → HasNoPageLeft n p
  pub cause : IfSome stop (StoppedBy p key n)
