-- When a command must do what it is for, or want memory: nothing failed, and what it reads is of its grammar.
use Rattle.std.specs.Prelude.{◌≡◌, ℕ, List, Option, Some, None, IsTrue, length}
use Rattle.mp_outside.specs.Faults.{Rose}
use Rattle.mp_outside.specs.declared.disks.Disk.{Ghosts}
use Rattle.mp_files.specs.declared.disks.Disks.{Disks}
use Rattle.mp_files.specs.Nine.{LogRose, EachTells, AllTell, as_read, seen_at}
use Rattle.mp_commands.specs.LogTexts.{fault_below}
use Rattle.mp_recover.specs.Recovering.{HasNoFault, redone_by, IsSpent}
use Rattle.mp_script.specs.declared.statements.Script.{Script}
use Rattle.mp_opening.specs.Openings.{MayBegin}
use Rattle.mp_cluster.specs.Runs.{transactions_of}
use Rattle.mp_script.specs.Spelling.{Spells}
use Rattle.mp_generate.specs.Generated.{IsGenerated}
use Rattle.mp_store.specs.StoreFiles.{store_fault}
use Rattle.mp_app.specs.declared.commands.Command.{Command}
use Rattle.mp_app.specs.declared.commands.Command.TheVariants.{Session, Plain}
use Rattle.mp_app.specs.declared.commands.PlainCommand.TheVariants.{Init, Recover, Dump, Logs, Gen}
use Rattle.mp_app.specs.declared.commands.SessionCommand.TheVariants.{Step, Run}
use Rattle.mp_app.specs.Calls.{SourceUse}

module _ {D : Type 0} (g : Ghosts D) where
  -- no count of faults rose: not the source's, nor the sink's, nor that of a disk
  pub record NothingRose (source : SourceUse) (sink sink_after : ℕ) (old new : Disks D) : Type 0 where
    pub no_source : ¬ Rose source.faults source.faults_after
    pub no_sink : ¬ Rose sink sink_after
    pub no_store : ¬ Rose (g.faults old.store) (g.faults new.store)
    pub no_log : (primary : ℕ) → ¬ LogRose g primary old new

  -- nine disks that tell, without a fault, whose mtrs can be redone, and with a generation left where one is needed
  pub record MayRecover (disks : Disks D) : Type 0 where
    pub told : AllTell g disks
    pub no_fault : HasNoFault (as_read g disks)
    pub redone : (redone_by (as_read g disks)).1 ≡ None
    pub not_spent : IsSpent (as_read g disks) → ⊥

  -- what the source has left is told, and spells a script that may begin over nine disks that tell
  pub record SourceMayRun (left : Option (List ℕ)) (disks : Disks D) : Type 0 where
    pub bytes : List ℕ
    pub script : Script
    pub told : left ≡ Some bytes
    pub spelled : Spells bytes script
    pub disks_told : AllTell g disks
    pub begins : MayBegin (as_read g disks) (transactions_of script)

  -- the script of a number may begin over nine disks that tell
  pub record NumberMayRun (number : ℕ) (disks : Disks D) : Type 0 where
    pub disks_told : AllTell g disks
    pub begins : (script : Script) → IsGenerated number script → MayBegin (as_read g disks) (transactions_of script)

  -- what a command reads is of its grammar; `init` and `gen` read nothing
  abbrev pub IsInOrder : Command → SourceUse → Disks D → Type 0
  IsInOrder (Session (Step None)) source disks = SourceMayRun source.left disks
  IsInOrder (Session (Step (Some number))) source disks = NumberMayRun number disks
  IsInOrder (Session (Run None)) source disks = SourceMayRun source.left disks
  IsInOrder (Session (Run (Some number))) source disks = NumberMayRun number disks
  IsInOrder (Plain Init) source disks = Unit {0}
  IsInOrder (Plain Recover) source disks = MayRecover disks
  IsInOrder (Plain Dump) source disks = IsTrue (g.tells disks.store) × (store_fault (g.seen disks.store) ≡ None)
  IsInOrder (Plain (Gen number)) source disks = Unit {0}
  IsInOrder (Plain Logs) source disks = EachTells g disks.logs.items
      × (fault_below (seen_at g disks.logs.items) (length disks.logs.items) ≡ None)
