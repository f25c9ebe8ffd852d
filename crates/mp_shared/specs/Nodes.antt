-- What contracts see of a node, and what a step makes of it.
use Rattle.std.specs.Prelude.{◌≡◌, ℕ, ◌+◌, ◌==◌, if◌then◌else◌, List, [], ◌∷◌, drop, Some, None, Option}
use Rattle.atomic_table.specs.Seated.{TableId}
use Rattle.mp_machine.specs.Machine.{run, AllAllowed}
use Rattle.mp_machine.specs.View.{View, part_in, with_part, only, without, joined, ViewAgrees}
use Rattle.mp_machine.specs.Rule.{Backed, all_parts}
use Rattle.mp_core_trx.specs.declared.opening.Base.{Base}
use Rattle.mp_core_trx.specs.Events.{IsNode}
use Rattle.mp_cells.specs.declared.records.Mtr.{Mtr}
use Rattle.mp_cells.specs.PageView.{PageView}
use Rattle.mp_core_pages.specs.declared.event.PagesEvent.{PagesEvent}
use Rattle.mp_core_pages.specs.declared.event.PagesEvent.TheVariants.{LockWord, UnlockWord, TakeFrame, GiveFrame, StoreLlsn, StoreDurable}
use Rattle.mp_core.specs.declared.opening.CoreOpening.{CoreOpening}
use Rattle.mp_core.specs.declared.part.CorePart.{CorePart}
use Rattle.mp_core.specs.declared.event.CoreEvent.{CoreEvent}
use Rattle.mp_core.specs.declared.event.CoreEvent.TheVariants.{Trx, Pages, Down}
use Rattle.mp_core.specs.World.{Note, core_node_of, core_place_of, core_content, core_part, core_made, CoreAllowed, core}
use Rattle.mp_core.specs.Invariant.{NumbersFit}

-- what a run begins from
abbrev pub opening_of : Base → ℕ → ℕ → List PageView → CoreOpening
opening_of base primaries begins pages = record { trx = record { base = base; primaries = primaries; begins = begins }; pages = pages }

-- which table it is, and what its run began from
pub record Run : Type 0 where
  pub table_id : TableId
  pub opening : CoreOpening

-- A node's table, the parts that it holds, each at its primary's number, and the pages whose frames it carries, the last taken first
pub record NodeView : Type 0 where
  pub run : Run
  pub parts : View CorePart
  pub frames : List ℕ

-- the node that holds the parts of all primaries, before any step
abbrev pub first_node : Run → NodeView
first_node run = record { run = run; parts = all_parts (core run.opening); frames = [] }

-- a node without the part of one primary, and a node with that part alone
abbrev pub node_without : ℕ → NodeView → NodeView
node_without p n = record { run = n.run; parts = without (λ k. k == p) n.parts; frames = n.frames }

abbrev pub node_of_one : ℕ → NodeView → NodeView
node_of_one p n = record { run = n.run; parts = only (λ k. k == p) n.parts; frames = [] }

-- a node with the parts of another too
abbrev pub joined_nodes : NodeView → NodeView → NodeView
joined_nodes n other = record { run = n.run; parts = joined n.parts other.parts; frames = n.frames }

-- the node may take the step: it holds the part of the step's primary, which allows it
abbrev pub MayTake : CoreEvent → NodeView → Type 0
MayTake e n = (p : CorePart) × (part_in n.parts (core_node_of e) ≡ Some p) × CoreAllowed p e

-- the node holds the part of the primary, which is one of the run's. It tells no part, so a ghost field may keep it
abbrev pub HoldsPart : NodeView → ℕ → Type 0
HoldsPart n p = (¬ (part_in n.parts p ≡ None)) × ((q : CorePart) → part_in n.parts p ≡ Some q → IsNode q.trx.opening p)

-- the part of one primary changed, where it is held
abbrev pub changed_part : View CorePart → ℕ → (CorePart → CorePart) → Option CorePart → View CorePart
changed_part v n f (Some p) = with_part v n (f p)
changed_part v n f None = v

-- the node after a change of the part of one primary, which it holds; no other part changes
abbrev pub node_with : NodeView → ℕ → (CorePart → CorePart) → NodeView
node_with n p f = record n { parts = changed_part n.parts p f (part_in n.parts p) }

-- the node holds the parts of all primaries
abbrev pub HoldsAll : NodeView → Type 0
HoldsAll n = (k : ℕ) → IsNode n.run.opening.trx k → (q : CorePart) × (part_in n.parts k ≡ Some q)

-- the pages whose frames a node carries after a step on pages that found this word: one more where the frame was at
-- home, or without the one taken last
abbrev pub frames_turned : PagesEvent PageView Mtr → ℕ → List ℕ → List ℕ
frames_turned (LockWord n k old new) found pages = pages
frames_turned (UnlockWord n k) found pages = pages
frames_turned (TakeFrame n k) found pages = if found == 0 then k ∷ pages else pages
frames_turned (GiveFrame n k y) found pages = drop 1 pages
frames_turned (StoreLlsn n m) found pages = pages
frames_turned (StoreDurable n v) found pages = pages

-- the same after any step
abbrev pub frames_after : CoreEvent → ℕ → List ℕ → List ℕ
frames_after (Trx e) found pages = pages
frames_after (Pages e) found pages = frames_turned e found pages
frames_after (Down e) found pages = pages

-- the node after a step that found this word and made this note: the part of the step's primary is what the step makes of it
abbrev pub node_after : NodeView → CoreEvent → ℕ → Note → NodeView
node_after n e found x = record { run = n.run; parts = changed_part n.parts (core_node_of e) (core_made e found x) (part_in n.parts (core_node_of e)); frames = frames_after e found n.frames }

-- What a node knows holds in some world that can be reached, from an opening whose numbers fit
pub record Reached (n : NodeView) : Type 0 where
  pub fair : NumbersFit n.run.opening
  pub backed : Backed (core n.run.opening) n.parts

-- The step came after steps that were each allowed when they came: their world has the word found, the note is made of it, and it agrees with the parts before; the parts after agree with the world that the step leads to
pub record Behind (o : CoreOpening) (e : CoreEvent) (before after : View CorePart) (found : ℕ) (x : Note) : Type 0 where
  pub events : List CoreEvent
  pub allowed : AllAllowed (core o) (e ∷ events)
  pub found_is : core_content o (run (core o) events) (core_place_of e) ≡ found
  pub noted : (core o).note (run (core o) events) e ≡ x
  pub agreed : ViewAgrees (core_part (run (core o) events)) before
  pub agrees : ViewAgrees (core_part (run (core o) (e ∷ events))) after

-- The node took the step, which found this word, and what it knows then is reached
pub record Took (e : CoreEvent) (before : NodeView) (found : ℕ) (after : NodeView) : Type 0 where
  pub note : Note
  pub becomes : after ≡ node_after before e found note
  pub came : Behind before.run.opening e before.parts after.parts found note
  pub reached : Reached after

-- the same of a step that does not tell what it found
abbrev pub TookUnseen : CoreEvent → NodeView → NodeView → Type 0
TookUnseen e before after = (found : ℕ) × Took e before found after

-- the same of a draw, which tells the word as it leaves it
abbrev pub TookNext : CoreEvent → NodeView → ℕ → NodeView → Type 0
TookNext e before new after = (found : ℕ) × (new ≡ found + 1) × Took e before found after
