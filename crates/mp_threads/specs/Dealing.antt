-- How the parts of a node are dealt out to the threads of primaries, what each thread does with them, and how they come back.
use Rattle.std.specs.Prelude.{◌≡◌, ◌≢◌, ℕ, ◌<◌, ◌≤◌, false, List, [], ◌∷◌, None}
use Rattle.mp_machine.specs.View.{part_in}
use Rattle.mp_model.specs.declared.waiting.Turn.{Turn}
use Rattle.mp_model.specs.declared.waiting.Turn.TheVariants as turns
use Rattle.mp_outside.specs.declared.disks.Disk.{Ghosts}
use Rattle.mp_schedule.specs.Schedules.{HasSessions}
use Rattle.mp_shared.specs.Nodes as nodes
use Rattle.mp_shared.specs.Nodes.{NodeView, Reached, joined_nodes}
use Rattle.mp_supports.specs.Work.{Work}
use Rattle.mp_primary.specs.Primaries.{PrimaryView}
use Rattle.mp_members.specs.declared.members.Members.{Members}
use Rattle.mp_members.specs.Running.{IsThrough, IsSameMember}
use Rattle.mp_threads.specs.declared.runner.Runner.{Runner}
use Rattle.mp_threads.specs.Threads.{StandsAlone, GoesAlone}

-- What is left of a node behind the splits of the first primaries: their parts are gone, and the others are as they were
pub record HasLeft (all : NodeView) (k : ℕ) (rest : NodeView) : Type 0 where
  pub its_run : rest.run ≡ all.run
  pub frames : rest.frames ≡ []
  pub reached : Reached rest
  pub above : (n : ℕ) → k < n → part_in rest.parts n ≡ part_in all.parts n
  pub none : (n : ℕ) → 1 ≤ n → n ≤ k → part_in rest.parts n ≡ None

-- a node that took in the nodes of some runners, one behind the other
abbrev pub joined_runners : NodeView → List Runner → NodeView
joined_runners n [] = n
joined_runners n (r ∷ rs) = joined_runners (joined_nodes n r.node) rs

-- A node may be joined to others of the table: it is of it, and carries no frame
pub record MayJoin (run : nodes.Run) (n : NodeView) : Type 0 where
  pub its_run : n.run ≡ run
  pub frames : n.frames ≡ []

module _ {D : Type 0} where
  -- members of whose node parts were split off: the rest is as it was
  pub record IsDealt (old new : Members D) : Type 0 where
    pub shared : new.shared ≡ old.shared
    pub primaries : new.primaries ≡ old.primaries
    pub idle : new.idle ≡ old.idle

  -- what a turn that named no session tells of a primary's end
  abbrev pub EndsBy : PrimaryView D → Turn → Type 0
  EndsBy pr turns.Done = IsThrough pr
  EndsBy pr (turns.Stopped by) = pr.down ≢ 0
  EndsBy pr _ = Unit {0}

module _ {D : Type 0} (g : Ghosts D) where
  -- each primary stands on its own with the node that it was dealt, and has answered nothing
  abbrev pub AllDealt : Work → nodes.Run → List (PrimaryView D) → List Runner → Type 0
  AllDealt work run [] [] = Unit {0}
  AllDealt work run (pr ∷ prs) (r ∷ rs) = StandsAlone g work run pr r.node [] × AllDealt work run prs rs
  AllDealt work run _ _ = ⊥

  -- A primary took turns on its thread, none of which was short of memory: it went on, and may go on from there
  pub record DroveAlone (run : nodes.Run) (old new : PrimaryView D) (before after : Runner) : Type 0 where
    pub on : GoesAlone g run old new before.node after.node
    pub same : IsSameMember g old new
    pub sessions : HasSessions after.schedule.tries.items
    pub enough : after.short ≡ false
