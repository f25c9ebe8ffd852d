-- How a primary came to hold a page's lock, or what it saw where it could not.
use Rattle.std.specs.Prelude.{◌≡◌, ℕ, ◌≤◌, ◌⊎◌, List, [], Some}
use Rattle.mp_machine.specs.Machine.{run, AllAllowed}
use Rattle.mp_machine.specs.View.{part_in, ViewAgrees}
use Rattle.mp_core_trx.specs.Events.{IsNode}
use Rattle.mp_core_pages.specs.declared.page_lock.Held.TheVariants.{No, Read, Write}
use Rattle.mp_core_pages.specs.LockWords.{holder}
use Rattle.mp_core_pages.specs.PageEvents.{with_lock}
use Rattle.mp_core.specs.declared.part.CorePart.{CorePart}
use Rattle.mp_core.specs.declared.event.CoreEvent.{CoreEvent}
use Rattle.mp_core.specs.World.{core_part, core}
use Rattle.mp_shared.specs.Nodes.{NodeView}
use Rattle.mp_shared.specs.PageSteps.{held_in, with_pages, with_ops}

-- the word of the page's lock was this, in some world that can be reached and agrees with what the node knew
abbrev pub LockWordWas : NodeView → ℕ → ℕ → Type 0
LockWordWas n k word = (events : List CoreEvent) × AllAllowed (core n.run.opening) events
    × ViewAgrees (core_part (run (core n.run.opening) events)) n.parts
    × ((run (core n.run.opening) events).pages.lock_words k ≡ word)

-- by the word of a lock, another node writes the page
abbrev pub AnotherWrites : ℕ → ℕ → Type 0
AnotherWrites p word = (m : ℕ) × (1 ≤ m) × (m ≤ 8) × (¬ (m ≡ p)) × (holder word m ≡ Write)

-- or another node reads or writes it
abbrev pub AnotherHolds : ℕ → ℕ → Type 0
AnotherHolds p word = (m : ℕ) × (1 ≤ m) × (m ≤ 8) × (¬ (m ≡ p)) × ¬ (holder word m ≡ No)

-- Nothing changed but which locks one primary holds, and how many operations it made
pub record LocksAlone (p : ℕ) (before after : NodeView) : Type 0 where
  pub run : after.run ≡ before.run
  pub frames : after.frames ≡ before.frames
  pub others : (n : ℕ) → ¬ (n ≡ p) → part_in after.parts n ≡ part_in before.parts n
  pub mine : (q : CorePart) → part_in before.parts p ≡ Some q → (r : CorePart) × (part_in after.parts p ≡ Some r)
      × (r ≡ record q { pages = record (q.pages) { locks = r.pages.locks }; ops = r.ops })

-- The primary did not hold the lock, and reads the page now, after one or two operations
pub record TookToRead (p k : ℕ) (before after : NodeView) : Type 0 where
  pub held : held_in before p k ≡ No
  pub tries : ℕ
  pub some : 1 ≤ tries
  pub most : tries ≤ 2
  pub becomes : after ≡ with_pages before p (with_lock k Read) tries

-- it held the lock already, and nothing changed; or it came to read the page
abbrev pub CameToRead : ℕ → ℕ → NodeView → NodeView → Type 0
CameToRead p k before after = ((¬ (held_in before p k ≡ No)) × (after ≡ before)) ⊎ TookToRead p k before after

-- it wrote the page already, and nothing changed; or it came to write it
abbrev pub CameToWrite : ℕ → ℕ → NodeView → NodeView → Type 0
CameToWrite p k before after = ((held_in before p k ≡ Write) × (after ≡ before))
    ⊎ ((¬ (held_in before p k ≡ Write)) × (after ≡ with_pages before p (with_lock k Write) 1))

-- The word read in the call showed that another node writes the page
pub record SawWriter (p k : ℕ) (before : NodeView) (seen : ℕ) (after : NodeView) : Type 0 where
  pub was : LockWordWas before k seen
  pub writer : AnotherWrites p seen
  pub becomes : after ≡ with_ops before p 1

-- The word read last in the call is another than the one read before it
pub record SawChange (p k : ℕ) (before : NodeView) (seen : ℕ) (after : NodeView) : Type 0 where
  pub first : ℕ
  pub was : LockWordWas before k first
  pub later : LockWordWas (with_ops before p 1) k seen
  pub differs : ¬ (seen ≡ first)
  pub becomes : after ≡ with_ops before p 2

-- why a primary that did not hold the lock could not come to read
abbrev pub CouldNotRead : ℕ → ℕ → NodeView → ℕ → NodeView → Type 0
CouldNotRead p k before seen after =
    (held_in before p k ≡ No) × (SawWriter p k before seen after ⊎ SawChange p k before seen after)

-- Why one that did not write the page could not come to write: the word read in the call showed another holder
pub record CouldNotWrite (p k : ℕ) (before : NodeView) (seen : ℕ) (after : NodeView) : Type 0 where
  pub held : ¬ (held_in before p k ≡ Write)
  pub was : LockWordWas before k seen
  pub holder : AnotherHolds p seen
  pub becomes : after ≡ with_ops before p 1

-- The primary made no mtr and has no frame, so it may let go each lock that it holds
pub record IsIdle (n : NodeView) (p : ℕ) : Type 0 where
  pub mine : CorePart
  pub holds : part_in n.parts p ≡ Some mine
  pub node : IsNode mine.trx.opening p
  pub no_mtr : mine.pages.made ≡ []
  pub no_frame : mine.pages.frames ≡ []
