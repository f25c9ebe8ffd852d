-- In which order the statements of several sessions are tried.
use Rattle.std.specs.Prelude.{◌≡◌, ℕ, ◌<◌, ◌≤◌, ◌==◌, Bool, true, false, List, ◌++◌, map, filter, take, length, if◌then◌else◌, Some, count_by}
use Rattle.std.specs.List.{slice_get, slice_set, list_any, AllByRecursion}
use Rattle.mp_machine.specs.Lists.{IsIn}
use Rattle.mp_script.specs.declared.statements.Line.{Line}
use Rattle.mp_script.specs.declared.statements.SessionOn.{SessionOn}
use Rattle.mp_script.specs.Entries.{is_declared}
use Rattle.mp_script.specs.InTheirPart.{count_from}
use Rattle.mp_schedule.specs.declared.schedule.Try.{Try}
use Rattle.mp_schedule.specs.declared.schedule.TryState.{TryState}
use Rattle.mp_schedule.specs.declared.schedule.TryState.TheVariants.{Free, Waiting, Over}
use Rattle.mp_schedule.specs.declared.schedule.Next.{Next}
use Rattle.mp_schedule.specs.declared.schedule.Next.TheVariants as nexts

abbrev pub free_try : ℕ → Try
free_try session = record { session = session; state = Free }

-- all statements of a script, in the order of its lines, and then the end of each declared session, in ascending number
abbrev pub first_tries : List Line → List SessionOn → List Try
first_tries lines sessions = map (λ line. free_try line.session) lines ++ map free_try (filter (is_declared sessions) (count_from 1 64))

-- the sessions of these that are declared on a primary
abbrev pub sessions_of_primary : ℕ → List SessionOn → List SessionOn
sessions_of_primary primary sessions = filter (λ on. on.primary == primary) sessions

-- of a script, the statements of the sessions on one primary, in the order of their lines, and then the end of each of them
abbrev pub tries_on : ℕ → List Line → List SessionOn → List Try
tries_on primary lines sessions = first_tries (filter (λ line. is_declared (sessions_of_primary primary sessions) line.session) lines) (sessions_of_primary primary sessions)

-- a try that is to come still
abbrev pub is_left : TryState → Bool
is_left Free = true
is_left Waiting = true
is_left Over = false

-- one of these tries is the session's, and is left
abbrev pub has_left : ℕ → List Try → Bool
has_left session tries = list_any (λ t. if t.session == session then is_left t.state else false) tries

-- A try that may come next: it is free, and none of its session is left before it
pub record MayBeTried (tries : List Try) (place session : ℕ) : Type 0 where
  pub found : slice_get tries place ≡ Some (free_try session)
  pub in_turn : has_left session (take place tries) ≡ false

abbrev pub NoneMayBeTried : ℕ → List Try → Type 0
NoneMayBeTried bound tries = (place session : ℕ) → place < bound → MayBeTried tries place session → ⊥

abbrev pub SomeWaits : List Try → Type 0
SomeWaits tries = (t : Try) × IsIn t tries × (t.state ≡ Waiting)

-- THE RULE: the first try that may be is next; where none may, those that wait become free again; or all are over
abbrev pub ComesNext : List Try → Next → Type 0
ComesNext tries (nexts.Try place session) = MayBeTried tries place session × NoneMayBeTried place tries
ComesNext tries nexts.Forget = SomeWaits tries × NoneMayBeTried (length tries) tries
ComesNext tries nexts.Over = AllByRecursion (λ t. t.state ≡ Over) tries

-- the sessions of these tries are 0 to 64
abbrev pub HasSessions : List Try → Type 0
HasSessions tries = AllByRecursion (λ t. t.session ≤ 64) tries

-- the place that comes next is one of these tries', and its session 0 to 64 where theirs are
abbrev pub IsNextWithin : List Try → Next → Type 0
IsNextWithin tries (nexts.Try place session) = (place < length tries) × (HasSessions tries → session ≤ 64)
IsNextWithin tries nexts.Forget = Unit {0}
IsNextWithin tries nexts.Over = Unit {0}

-- a try that waited is free again
abbrev pub without_mark : Try → Try
without_mark t = record t { state = (if is_left t.state then Free else Over) }

abbrev pub without_marks : List Try → List Try
without_marks tries = map without_mark tries

-- the try at a place stands so now
abbrev pub StandsSo : List Try → ℕ → TryState → List Try → Type 0
StandsSo old place state new = (t : Try) → slice_get old place ≡ Some t → new ≡ slice_set old place (record t { state = state })

-- a try that is to come, and wasn't found waiting
abbrev pub is_free : TryState → Bool
is_free Free = true
is_free Waiting = false
is_free Over = false

-- how many tries are to come still, and how many of these don't wait
abbrev pub count_left : List Try → ℕ
count_left tries = count_by (λ t. is_left t.state) tries

abbrev pub count_free : List Try → ℕ
count_free tries = count_by (λ t. is_free t.state) tries

-- all tries below a place are over
abbrev pub AreOverBelow : ℕ → List Try → Type 0
AreOverBelow bound tries = (place : ℕ) (t : Try) → place < bound → slice_get tries place ≡ Some t → is_left t.state ≡ false

-- no try at a place or behind it waits
abbrev pub NoneWaitsFrom : ℕ → List Try → Type 0
NoneWaitsFrom bound tries = (place : ℕ) (t : Try) → bound ≤ place → slice_get tries place ≡ Some t → is_left t.state ≡ is_free t.state
