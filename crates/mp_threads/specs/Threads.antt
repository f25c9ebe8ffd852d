-- Primaries that run on threads of their own, each with a node that has its part alone.
use Rattle.std.specs.Prelude.{◌≡◌, ◌≢◌, ℕ, ◌<◌, true, false, List, [], ◌∷◌, ◌++◌, None, is_some}
use Rattle.std.specs.List.{AllByRecursion}
use Rattle.mp_machine.specs.View.{part_in}
use Rattle.mp_model.specs.declared.transcripts.Mode.TheVariants.{Run}
use Rattle.mp_script.specs.Answers.{ViewsCover}
use Rattle.mp_outside.specs.declared.disks.Disk.{Ghosts}
use Rattle.mp_schedule.specs.Schedules.{HasSessions}
use Rattle.mp_shared.specs.Nodes as nodes
use Rattle.mp_shared.specs.Nodes.{NodeView}
use Rattle.mp_supports.specs.Work.{Work}
use Rattle.mp_supports.specs.Kept.{Entry, answers_in}
use Rattle.mp_verdict.specs.Orders.{NodeEntry}
use Rattle.mp_primary.specs.Primaries.{PrimaryView, PrimaryAgreesIn, StandsWith}
use Rattle.mp_primary.specs.Downs.{IsDownAsTold}
use Rattle.mp_primary.specs.Turns.{MayTakeTurn}
use Rattle.mp_members.specs.declared.members.Members.{Members}
use Rattle.mp_members.specs.Running.{IsThrough, AreThrough, IsSameMember, RunsApart}
use Rattle.mp_threads.specs.declared.runner.Runner.{Runner}

-- A node of a table carries no frame, and has no part but that of one primary
pub record HasOnly (run : nodes.Run) (p : ℕ) (n : NodeView) : Type 0 where
  pub its_run : n.run ≡ run
  pub frames : n.frames ≡ []
  pub alone : (k : ℕ) → k ≢ p → part_in n.parts k ≡ None

module _ {D : Type 0} (g : Ghosts D) where
  -- A PRIMARY ON ITS OWN BETWEEN TWO TURNS: it stands with a node that has its part alone, agrees with that part by the answers
  -- that it gave, and is down with the number that the part tells, or up; any of its sessions may take a turn; and each view
  -- that its answers show is at or above the commits that they showed before
  pub record StandsAlone (work : Work) (run : nodes.Run) (pr : PrimaryView D) (n : NodeView) (entries : List Entry) : Type 0 where
    pub work_is : pr.work ≡ work
    pub base : run.opening.trx.base ≡ work.base
    pub has_only : HasOnly run pr.number n
    pub stands : StandsWith g run pr n
    pub agrees : PrimaryAgreesIn g pr entries n
    pub told : IsDownAsTold pr n
    pub may_turn : (session : ℕ) → session < 65 → MayTakeTurn pr session
    pub answered : AllByRecursion (λ e. is_some e.answer ≡ true) entries
    pub views : ViewsCover Run work.base.ts (answers_in entries)

  -- it can go on from some work and answers
  abbrev pub StandsSomehow : nodes.Run → PrimaryView D → NodeView → Type 0
  StandsSomehow run pr n = (work : Work) × (entries : List Entry) × StandsAlone work run pr n entries

  -- a primary on its own went on: it gave more answers
  abbrev pub GoesAlone : nodes.Run → PrimaryView D → PrimaryView D → NodeView → NodeView → Type 0
  GoesAlone run old new before after = (work : Work) (entries : List Entry) → StandsAlone work run old before entries → (more : List Entry) × StandsAlone work run new after (entries ++ more)

  -- a primary may begin on its thread: it stands on its own, its sessions are 0 to 64, and it isn't short of memory
  pub record MayRun (run : nodes.Run) (pr : PrimaryView D) (r : Runner) : Type 0 where
    pub stands : StandsSomehow run pr r.node
    pub sessions : HasSessions r.schedule.tries.items
    pub enough : r.short ≡ false

  -- WHAT A THREAD LEAVES of a primary and what it has: the same primary, over the same disk, and a node that has its part alone;
  -- and where it wasn't short of memory, it has gone on to its end
  pub record RanAlone (run : nodes.Run) (old new : PrimaryView D) (before after : Runner) : Type 0 where
    pub same : IsSameMember g old new
    pub has_only : HasOnly run new.number after.node
    pub on : after.short ≡ false → GoesAlone run old new before.node after.node
    pub through : after.short ≡ false → IsThrough new

  -- each of some primaries may begin on its thread
  abbrev pub AllMayRun : nodes.Run → List (PrimaryView D) → List Runner → Type 0
  AllMayRun run [] [] = Unit {0}
  AllMayRun run (pr ∷ prs) (r ∷ rs) = MayRun run pr r × AllMayRun run prs rs
  AllMayRun run _ _ = ⊥

  -- each of them ran on its thread
  abbrev pub AllRanAlone : nodes.Run → List (PrimaryView D) → List (PrimaryView D) → List Runner → List Runner → Type 0
  AllRanAlone run [] [] [] [] = Unit {0}
  AllRanAlone run (old ∷ olds) (new ∷ news) (before ∷ befores) (after ∷ afters) = RanAlone run old new before after × AllRanAlone run olds news befores afters
  AllRanAlone run _ _ _ _ = ⊥

  -- A run on threads went from members that had answered nothing to its end: each statement is answered, and no primary that is
  -- up has anything left
  abbrev pub EndsApart : Members D → Members D → Type 0
  EndsApart old new = (work : Work) → RunsApart g work old [] → (given : List NodeEntry) × RunsApart g work new given × AreThrough new
