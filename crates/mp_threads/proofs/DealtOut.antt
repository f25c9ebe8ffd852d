-- What is dealt to one primary more, and what a primary may begin with on its thread.
use Rattle.std.proofs.Common.{◌≡◌, ℕ, zero, suc, ◌+◌, ◌≤◌, false, List, [], ◌∷◌, ◌++◌, take, length, slice_get, Some, refl, sym, ap, subst, ◌∙◌, arith}
use Rattle.std.specs.List.{AllByRecursion}
use Rattle.mp_script.specs.declared.statements.Line.{Line}
use Rattle.mp_script.specs.declared.statements.Script.{Script}
use Rattle.mp_script.specs.Spelling.{IsSpelled}
use Rattle.mp_script.specs.SpelledLines.{IsLineInRange}
use Rattle.mp_script.proofs.Options.{not_some, some_is}
use Rattle.mp_script.proofs.SpelledLines.{spelled_in_order}
use Rattle.mp_outside.specs.declared.disks.Disk.{Ghosts}
use Rattle.mp_schedule.specs.Schedules.{HasSessions}
use Rattle.mp_shared.specs.Nodes.{Run}
use Rattle.mp_supports.specs.Work.{Work}
use Rattle.mp_primary.specs.Primaries.{PrimaryView}
use Rattle.mp_threads.specs.declared.runner.Runner.{Runner}
use Rattle.mp_threads.specs.Threads.{StandsAlone, AllMayRun}
use Rattle.mp_threads.specs.Dealing.{AllDealt}

-- the sessions of a spelled script's statements are at most 64
low_sessions : (lines : List Line) → AllByRecursion IsLineInRange lines → AllByRecursion (λ line. line.session ≤ 64) lines
low_sessions [] all = tt
low_sessions (line ∷ lines) all = (all.0.session_high, low_sessions lines all.1)

pub sessions_low : (script : Script) → IsSpelled script → AllByRecursion (λ line. line.session ≤ 64) script.lines.items
sessions_low script spelled = low_sessions script.lines.items (spelled_in_order script spelled).within

-- a list with the item at the next place too, and with all of them
take_suc : {T : Type 0} (xs : List T) (k : ℕ) (x : T) → slice_get xs k ≡ Some x → take (suc k) xs ≡ take k xs ++ x ∷ []
take_suc [] k x is = absurd (not_some x is)
take_suc (y ∷ ys) zero x is = ap (λ z. z ∷ []) (some_is y x is)
take_suc (y ∷ ys) (suc k) x is = ap (λ rest. y ∷ rest) (take_suc ys k x is)

pub take_next : {T : Type 0} (xs : List T) (k : ℕ) (x : T) → slice_get xs k ≡ Some x → take (k + 1) xs ≡ take k xs ++ x ∷ []
take_next xs k x is = let next : k + 1 ≡ suc k = omega arith in ap (λ (n : ℕ). take n xs) next ∙ take_suc xs k x is

pub take_whole : {T : Type 0} (xs : List T) → take (length xs) xs ≡ xs
take_whole [] = refl
take_whole (x ∷ xs) = ap (λ rest. x ∷ rest) (take_whole xs)

-- what is on a thread begins so
abbrev pub BeginsSo : Runner → Type 0
BeginsSo r = HasSessions r.schedule.tries.items × (r.short ≡ false)

pub all_one : {T : Type 0} (P : T → Type 0) (xs : List T) (x : T) → AllByRecursion P xs → P x → AllByRecursion P (xs ++ x ∷ [])
all_one P [] x all one = (one, tt)
all_one P (y ∷ ys) x all one = (all.0, all_one P ys x all.1 one)

module _ {D : Type 0} (g : Ghosts D) (work : Work) (run : Run) where
  dealt_one : (prs : List (PrimaryView D)) (rs : List Runner) (pr : PrimaryView D) (r : Runner) → AllDealt g work run prs rs
      → StandsAlone g work run pr r.node [] → AllDealt g work run (prs ++ pr ∷ []) (rs ++ r ∷ [])
  dealt_one [] [] pr r all one = (one, tt)
  dealt_one [] (y ∷ ys) pr r all one = absurd all
  dealt_one (x ∷ xs) [] pr r all one = absurd all
  dealt_one (x ∷ xs) (y ∷ ys) pr r all one = (all.0, dealt_one xs ys pr r all.1 one)

  pub dealt_next : (prs : List (PrimaryView D)) (k : ℕ) (rs : List Runner) (pr : PrimaryView D) (r : Runner) → slice_get prs k ≡ Some pr
      → AllDealt g work run (take k prs) rs → StandsAlone g work run pr r.node [] → AllDealt g work run (take (k + 1) prs) (rs ++ r ∷ [])
  dealt_next prs k rs pr r is all one = subst (λ (l : List (PrimaryView D)). AllDealt g work run l (rs ++ r ∷ []))
      (sym (take_next prs k pr is)) (dealt_one (take k prs) rs pr r all one)

  pub dealt_whole : (prs : List (PrimaryView D)) (k : ℕ) (rs : List Runner) → k ≡ length prs → AllDealt g work run (take k prs) rs
      → AllDealt g work run prs rs
  dealt_whole prs k rs is all = subst (λ (l : List (PrimaryView D)). AllDealt g work run l rs)
      (ap (λ (n : ℕ). take n prs) is ∙ take_whole prs) all

  pub all_may_run : (prs : List (PrimaryView D)) (rs : List Runner) → AllDealt g work run prs rs → AllByRecursion BeginsSo rs
      → AllMayRun g run prs rs
  all_may_run [] [] all begins = tt
  all_may_run [] (r ∷ rs) all begins = absurd all
  all_may_run (pr ∷ prs) [] all begins = absurd all
  all_may_run (pr ∷ prs) (r ∷ rs) all begins =
      (record { stands = (work, [], all.0); sessions = begins.0.0; enough = begins.0.1 }, all_may_run prs rs all.1 begins.1)
