-- With which number a primary is down, as its own down word tells it, and whose words one that waits looks at.
use Rattle.std.specs.Prelude.{◌≡◌, ◌≢◌, ℕ, ◌≤◌, true, List, ◌++◌, Some}
use Rattle.mp_machine.specs.Lists.{IsIn}
use Rattle.mp_machine.specs.View.{part_in}
use Rattle.mp_model.specs.declared.waiting.Cause.{Cause}
use Rattle.mp_model.specs.declared.waiting.Cause.TheVariants.{Word, Writer, Prep}
use Rattle.mp_model.specs.declared.waiting.WordKind.{WordKind}
use Rattle.mp_model.specs.declared.waiting.WordKind.TheVariants.{Lock, Frame, Least}
use Rattle.mp_script.specs.declared.statements.SessionOn.{SessionOn}
use Rattle.mp_script.specs.Execution.{is_session_on}
use Rattle.mp_core_pages.specs.declared.page_lock.Held.TheVariants.{No}
use Rattle.mp_core_pages.specs.LockWords.{holder}
use Rattle.mp_core.specs.declared.part.CorePart.{CorePart}
use Rattle.mp_core.specs.declared.part.DownLoad.{DownLoad}
use Rattle.mp_core.specs.declared.event.CoreEvent.TheVariants.{Down}
use Rattle.mp_core.specs.declared.event.DownEvent.TheVariants.{LoadDown}
use Rattle.mp_core.specs.CoreExtends.{CoreExtends}
use Rattle.mp_core.specs.Downs.{down_load, down_of}
use Rattle.mp_outside.specs.declared.disks.Disk.{Ghosts}
use Rattle.mp_outside.specs.Faults.{Rose}
use Rattle.mp_shared.specs.Nodes.{NodeView, Reached, Took}
use Rattle.mp_primary.specs.Primaries.{PrimaryView}

-- of whom a call needs a word that couldn't be done now: of each that holds a page's lock, by the word that was read of it; of
-- the owner of a least view; a frame is out in the midst of a turn alone
abbrev pub HasWord : WordKind → ℕ → ℕ → ℕ → Type 0
HasWord Lock at seen of = ¬ (holder seen of ≡ No)
HasWord Frame at seen of = ⊥
HasWord Least at seen of = of ≡ at

-- of whom a statement needs something that waits for this: a word, or the end of a transaction, whose session is declared there
abbrev pub NeedsOf : List SessionOn → Cause → ℕ → Type 0
NeedsOf sessions (Word wait) of = HasWord wait.of wait.at wait.seen of
NeedsOf sessions (Writer name) of = is_session_on sessions name.session of ≡ true
NeedsOf sessions (Prep name) of = is_session_on sessions name.session of ≡ true

-- whom a primary looks at: another of the eight that are numbered
pub record IsAnother (number of : ℕ) : Type 0 where
  pub not_itself : of ≢ number
  pub low : 1 ≤ of
  pub high : of ≤ 8

-- Only the part of one primary changed, and so, that which it knows of primaries that are down included
pub record WentOn (So : CorePart → CorePart → Type 0) (p : ℕ) (before after : NodeView) : Type 0 where
  pub run : after.run ≡ before.run
  pub frames : after.frames ≡ before.frames
  pub others : (n : ℕ) → n ≢ p → part_in after.parts n ≡ part_in before.parts n
  pub mine : (q : CorePart) → part_in before.parts p ≡ Some q → (r : CorePart) × (part_in after.parts p ≡ Some r) × So q r

-- A part knows no more than before but of primaries that are down
pub record OnlyDowns (q r : CorePart) : Type 0 where
  pub extends : CoreExtends q r
  pub rest : r ≡ record q { downs = r.downs; ops = r.ops }

-- It loaded this number from the word of a primary, since it was that one
pub record LoadedSince (of by : ℕ) (q r : CorePart) : Type 0 where
  pub only : OnlyDowns q r
  pub more : List DownLoad
  pub loaded : r.downs.loaded ≡ more ++ q.downs.loaded
  pub its : IsIn (down_load of by) more

-- Somewhere between two states of a node, a primary loaded the word of another, which was 0: that one was up
pub record FoundUp (p of : ℕ) (before after : NodeView) : Type 0 where
  pub from : NodeView
  pub to : NodeView
  pub came : WentOn OnlyDowns p before from
  pub load : Took (Down (LoadDown p of)) from 0 to
  pub went : WentOn OnlyDowns p to after

-- A part only loaded words of primaries that are down
pub record OnlyLoads (q r : CorePart) : Type 0 where
  pub only : OnlyDowns q r
  pub own : r.downs.own ≡ q.downs.own

module _ {D : Type 0} where
  -- a primary's number is the one that its own word holds, which it is down with (0 where it is up)
  abbrev pub IsDownAsTold : PrimaryView D → NodeView → Type 0
  IsDownAsTold pr n = (q : CorePart) → part_in n.parts pr.number ≡ Some q → down_of q ≡ pr.down

  -- A statement that waits, since a node was that one: the primary found all others up of whom it needs something
  pub record FoundAllUp (pr : PrimaryView D) (cause : Cause) (at after : NodeView) : Type 0 where
    pub went : WentOn OnlyDowns pr.number at after
    pub each : (of : ℕ) → IsAnother pr.number of → NeedsOf pr.work.sessions cause of → FoundUp pr.number of at after

  -- Or it found one of them down, and went down with that one's number, which isn't its own
  pub record FoundOneDown (old new : PrimaryView D) (cause : Cause) (at after : NodeView) : Type 0 where
    pub of : ℕ
    pub another : IsAnother old.number of
    pub needed : NeedsOf old.work.sessions cause of
    pub loaded : WentOn (LoadedSince of new.down) old.number at after
    pub some : new.down ≢ 0
    pub apart : new.down ≢ old.number

  -- A primary that waits loaded the word of a primary where it needs something of it, and found this number; else 0
  pub record LooksAt (pr : PrimaryView D) (cause : Cause) (of : ℕ) (at after : NodeView) (by : ℕ) : Type 0 where
    pub loads : WentOn OnlyLoads pr.number at after
    pub reached : Reached after
    pub up : by ≡ 0 → IsAnother pr.number of → NeedsOf pr.places cause of → FoundUp pr.number of at after
    pub down : by ≢ 0 → IsAnother pr.number of × NeedsOf pr.places cause of × WentOn (LoadedSince of by) pr.number at after

  -- It loaded the words of all of whom it needs something, up to the first that is down, with this number; else 0
  pub record LooksAmong (pr : PrimaryView D) (cause : Cause) (at after : NodeView) (by : ℕ) : Type 0 where
    pub loads : WentOn OnlyLoads pr.number at after
    pub reached : Reached after
    pub up : by ≡ 0 → (of : ℕ) → IsAnother pr.number of → NeedsOf pr.places cause of → FoundUp pr.number of at after
    pub down : by ≢ 0 → (of : ℕ) × IsAnother pr.number of × NeedsOf pr.places cause of × WentOn (LoadedSince of by) pr.number at after

module _ {D : Type 0} (g : Ghosts D) where
  -- its own log alone took it down: a disk's count of faults rose
  abbrev pub WentDownHere : PrimaryView D → PrimaryView D → Type 0
  WentDownHere old new = (new.down ≡ old.number) × Rose (g.faults old.media.log.disk) (g.faults new.media.log.disk)
