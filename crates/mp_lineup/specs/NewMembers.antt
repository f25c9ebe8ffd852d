-- The primaries of a run before its first turn.
use Rattle.std.specs.Prelude.{◌≡◌, ℕ, ◌+◌, ◌<◌, List, [], length, slice_get, Some}
use Rattle.mp_script.specs.BeginNames.{begin_names}
use Rattle.mp_core_trx.specs.Events.{IsNode}
use Rattle.mp_outside.specs.declared.disks.Disk.{Ghosts}
use Rattle.mp_shared.specs.Nodes.{Run, first_node}
use Rattle.mp_supports.specs.Work.{Work}
use Rattle.mp_primary.specs.Primaries.{PrimaryView, IsBetweenTurns, PrimaryAgreesIn}
use Rattle.mp_primary.specs.Downs.{IsDownAsTold}
use Rattle.mp_primary.specs.Turns.{MayTakeTurn}

module _ {D : Type 0} (g : Ghosts D) where
  -- A primary of this number as it is made for some work: it is up, agrees without an answer with its part of any table that is
  -- opened for the work, before any step, which tells that it is up, and any of its sessions may take a turn
  pub record IsNewMember (work : Work) (n : ℕ) (pr : PrimaryView D) : Type 0 where
    pub number : pr.number ≡ n
    pub work_is : pr.work ≡ work
    pub up : pr.down ≡ 0
    pub primary : IsBetweenTurns pr
    pub none : pr.book.answers.items ≡ []
    pub agrees : (run : Run) → IsNode run.opening.trx n → run.opening.trx.base ≡ work.base → run.opening.trx.begins ≡ length (begin_names work.lines)
        → PrimaryAgreesIn g pr [] (first_node run)
    pub told : (run : Run) → IsNode run.opening.trx n → IsDownAsTold pr (first_node run)
    pub may_turn : (session : ℕ) → session < 65 → MayTakeTurn pr session

  -- primaries are so, that of number n at place n - 1
  abbrev pub AreNewMembers : Work → List (PrimaryView D) → Type 0
  AreNewMembers work primaries = (place : ℕ) (pr : PrimaryView D) → slice_get primaries place ≡ Some pr → IsNewMember work (place + 1) pr
