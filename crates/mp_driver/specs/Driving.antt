-- What driving the members of a run comes to.
use Rattle.std.specs.Prelude.{◌≡◌, ◌≢◌, ℕ, ◌<◌, ◌≤◌, ◌==◌, ◌&&◌, nat_le, Bool, true, false, List, [], ◌∷◌, ◌++◌, length, slice_get, if◌then◌else◌, Option, None, Some}
use Rattle.mp_machine.specs.Lists.{IsIn}
use Rattle.mp_model.specs.declared.waiting.Cause.{Cause}
use Rattle.mp_model.specs.declared.waiting.Cause.TheVariants.{Word, Writer, Prep}
use Rattle.mp_model.specs.declared.waiting.Turn.{Turn}
use Rattle.mp_model.specs.declared.waiting.Turn.TheVariants as turns
use Rattle.mp_model.specs.declared.waiting.WordKind.{WordKind}
use Rattle.mp_model.specs.declared.waiting.WordKind.TheVariants.{Lock, Frame, Least}
use Rattle.mp_script.specs.declared.statements.SessionOn.{SessionOn}
use Rattle.mp_outside.specs.declared.disks.Disk.{Ghosts}
use Rattle.mp_schedule.specs.declared.schedule.Try.{Try}
use Rattle.mp_supports.specs.Work.{Work}
use Rattle.mp_verdict.specs.Orders.{NodeEntry}
use Rattle.mp_primary.specs.Primaries.{PrimaryView}
use Rattle.mp_members.specs.declared.members.Members.{Members}
use Rattle.mp_members.specs.Running.{Runs, AreSameMembers, IsThrough, AreThrough}

-- the session is declared on one of so many primaries
abbrev pub IsOnMember : List SessionOn → ℕ → ℕ → Type 0
IsOnMember sessions count session = (on : SessionOn) × IsIn on sessions × (on.session ≡ session) × (on.session < 65) × (1 ≤ on.primary) × (on.primary ≤ count)

-- whether a declaration is the session's, on one of so many primaries
abbrev pub is_on_member : SessionOn → ℕ → ℕ → Bool
is_on_member on count session = on.session == session && nat_le 1 on.primary && nat_le on.primary count

-- each try is of such a session
abbrev pub AreOnMembers : List SessionOn → ℕ → List Try → Type 0
AreOnMembers sessions count tries = (t : Try) → IsIn t tries → IsOnMember sessions count t.session

-- a word is a page's: that of its lock, or of its frame
abbrev pub is_word_of_page : WordKind → Bool
is_word_of_page Lock = true
is_word_of_page Frame = true
is_word_of_page Least = false

-- what a statement waits for is a page
abbrev pub is_page_wait : Cause → Bool
is_page_wait (Word wait) = is_word_of_page wait.of
is_page_wait (Writer name) = false
is_page_wait (Prep name) = false

module _ {D : Type 0} where
  -- the number of a primary that gave an answer in a turn
  abbrev pub number_answering : PrimaryView D → PrimaryView D → List ℕ
  number_answering old new = if length new.book.answers.items == length old.book.answers.items then [] else new.number ∷ []

  -- the primary at a place is through
  abbrev pub IsThroughAt : Members D → ℕ → Type 0
  IsThroughAt m place = (pr : PrimaryView D) → slice_get m.primaries.items place ≡ Some pr → IsThrough pr

  -- the primary at a place is down
  abbrev pub IsDownAt : Members D → ℕ → Type 0
  IsDownAt m place = (pr : PrimaryView D) → slice_get m.primaries.items place ≡ Some pr → pr.down ≢ 0

module _ {D : Type 0} (g : Ghosts D) where
  -- a run can go on from these members
  abbrev pub RunsSomehow : Members D → Type 0
  RunsSomehow m = (work : Work) × (given : List NodeEntry) × Runs g work m given

  -- a run went on: more answers were given
  abbrev pub RunsOn : Members D → Members D → Type 0
  RunsOn old new = (work : Work) (given : List NodeEntry) → Runs g work old given → (more : List NodeEntry) × Runs g work new (given ++ more)

  -- it did, and the members are the same
  pub record DrivesOn (old new : Members D) : Type 0 where
    pub runs : RunsOn old new
    pub same : AreSameMembers g old new

  -- A turn of the primary at a place: the run went on, and the other primaries are as they were. Where the turn named no session,
  -- the primary is through behind a turn that was done; one whose turn was stopped is down
  pub record TurnsAt (place : ℕ) (session : Option ℕ) (old new : Members D) (turn : Turn) : Type 0 where
    pub drives : DrivesOn old new
    pub others : (other : ℕ) → other ≢ place → slice_get new.primaries.items other ≡ slice_get old.primaries.items other
    pub through : session ≡ None → turn ≡ turns.Done → IsThroughAt new place
    pub down : (by : ℕ) → turn ≡ turns.Stopped by → IsDownAt new place

  -- a run went on to its end: more answers were given, each statement is answered, and no primary that is up has anything left
  abbrev pub RunsToItsEnd : Members D → Members D → Type 0
  RunsToItsEnd old new = (work : Work) (given : List NodeEntry) → Runs g work old given
      → (more : List NodeEntry) × Runs g work new (given ++ more) × AreThrough new
