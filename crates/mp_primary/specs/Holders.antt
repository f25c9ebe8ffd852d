-- Whether the primary's own sessions can tell of a transaction that a row names, and what a statement waits for where they can't.
use Rattle.std.specs.Prelude.{◌≡◌, ℕ, ◌==◌, ◌&&◌, ◌||◌, not, Bool, false, length, slice_get, Option, None, Some, is_some}
use Rattle.mp_machine.specs.View.{part_in}
use Rattle.mp_model.specs.declared.ids.TrxId.{TrxId}
use Rattle.mp_model.specs.declared.ids.TrxName.{TrxName}
use Rattle.mp_model.specs.declared.waiting.NotYet.{NotYet}
use Rattle.mp_model.specs.declared.waiting.WordKind.TheVariants.{Least}
use Rattle.mp_script.specs.declared.statements.Line.{Line}
use Rattle.mp_script.specs.Transactions.{Target, target_of}
use Rattle.mp_cells.specs.Trees.{row_at}
use Rattle.mp_core_trx.specs.declared.slot.Shown.{Shown}
use Rattle.mp_core.specs.OwnMtrs.{is_id}
use Rattle.mp_core.specs.declared.part.CorePart.{CorePart}
use Rattle.mp_book.specs.declared.session.Session.{Session}
use Rattle.mp_book.specs.declared.stage.Stage.{Stage}
use Rattle.mp_book.specs.declared.stage.Stage.TheVariants.{Closed, Open, Refused, Leaving, Skipping, Outside}
use Rattle.mp_book.specs.Books.{IsNext}
use Rattle.mp_shared.specs.Nodes.{NodeView}
use Rattle.mp_supports.specs.Work.{name_of}
use Rattle.mp_supports.specs.Supports.{IsTrxOf, IsBlocked}
use Rattle.mp_primary.specs.Primaries.{PrimaryView}

-- the transaction with which a session's turns go on, where it has one
abbrev pub id_in_turns : Stage → Option TrxId
id_in_turns Closed = None
id_in_turns (Open trx) = Some trx.id
id_in_turns (Refused trx refusal) = Some trx.id
id_in_turns (Leaving trx) = Some trx.id
id_in_turns Skipping = None
id_in_turns (Outside trx) = None

-- a session may have named this holder of a key: it has no statement here, or goes on with the transaction, which wrote the key
abbrev pub may_hold : Session → TrxId → ℕ → Bool
may_hold s id key = (length s.lines.items == 0) || (is_id id (id_in_turns s.stage) && is_some (row_at key s.formers.items))

abbrev pub may_hold_in : Option Session → TrxId → ℕ → Bool
may_hold_in None id key = false
may_hold_in (Some s) id key = may_hold s id key

-- what a row says of the holder of a key fits the book: it is of another session than the statement, which may hold the key
abbrev pub fits_book : {D : Type 0} → PrimaryView D → ℕ → TrxId → ℕ → TrxName → Bool
fits_book pr number id key name = not (name.session == number) && may_hold_in (slice_get pr.book.sessions.items name.session) id key

-- a statement that met a transaction which doesn't fit waits for the least view of that one's primary
abbrev pub stranger_wait : TrxId → NotYet
stranger_wait id = record { of = Least; at = id.node; seen = 0 }

-- The newest version of the key that a statement writes is of a transaction, by a word that was read of its slot, that doesn't fit
-- the primary's book
pub record MetStranger {D : Type 0} (old : PrimaryView D) (number : ℕ) (after : NodeView) (wait : NotYet) : Type 0 where
  pub session : Session
  pub line : Line
  pub next : IsNext old.book number session line
  pub target : Target
  pub its_target : target_of line.stmt ≡ Some target
  pub holder : TrxId
  pub name : TrxName
  pub named : name_of old.work holder ≡ Some name
  pub blocked : (q : CorePart) → part_in after.parts old.number ≡ Some q → (id : TrxId) × (view : ℕ) × (shown : Shown)
      × IsTrxOf old.work q line id view × IsBlocked q id target.key holder shown
  pub stranger : fits_book old number holder target.key name ≡ false
  pub waits_for : wait ≡ stranger_wait holder
