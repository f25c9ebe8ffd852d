-- A run of several primaries between two turns.
use Rattle.std.specs.Prelude.{◌≡◌, ◌≢◌, ◌⊎◌, ℕ, zero, suc, ◌+◌, ◌<◌, true, List, [], ◌++◌, length, map, slice_get, Option, None, Some, is_some}
use Rattle.std.specs.List.{filter_map, AllByRecursion}
use Rattle.mp_model.specs.Folded.{AscendsFrom}
use Rattle.mp_model.specs.declared.transcripts.Mode.TheVariants.{Step, Run}
use Rattle.mp_script.specs.Answers.{ViewsCover}
use Rattle.mp_script.specs.BeginNames.{begin_names}
use Rattle.mp_script.specs.Below.{numbers, greatest_cts}
use Rattle.mp_core_trx.specs.Events.{IsNode}
use Rattle.mp_book.specs.Through.{have_no_task}
use Rattle.mp_outside.specs.declared.disks.Disk.{Ghosts}
use Rattle.mp_files.specs.Nine.{At, StillDisk, DiskRose}
use Rattle.mp_log.specs.Tails.{LogView}
use Rattle.mp_shared.specs.Nodes.{Reached, HoldsAll}
use Rattle.mp_trx_fusion.specs.Calls.{tso_of}
use Rattle.mp_supports.specs.Work.{Work}
use Rattle.mp_supports.specs.Kept.{answers_in}
use Rattle.mp_verdict.specs.Orders.{NodeEntry, entries_given, given_by}
use Rattle.mp_primary.specs.Primaries.{PrimaryView, PrimaryAgreesIn, StandsWith}
use Rattle.mp_primary.specs.Downs.{IsDownAsTold}
use Rattle.mp_primary.specs.Answering.{have_no_line}
use Rattle.mp_primary.specs.Turns.{MayTakeTurn}
use Rattle.mp_members.specs.declared.members.Members.{Members}

module _ {D : Type 0} where
  -- the logs of all members, that of primary n at place n - 1: those of the primaries, and the idle ones
  abbrev pub logs_of : Members D → List (LogView D)
  logs_of m = map (λ pr. pr.media.log) m.primaries.items ++ m.idle.items

  -- with which number a primary that may be there is down, or 0
  abbrev pub down_in : Option (PrimaryView D) → ℕ
  down_in None = 0
  down_in (Some pr) = pr.down

  -- with which number primary n is down, of primaries of whom n stands at place n - 1: 0 where it is up, or isn't there
  abbrev pub downs_of : List (PrimaryView D) → ℕ → ℕ
  downs_of primaries zero = 0
  downs_of primaries (suc place) = down_in (slice_get primaries place)

  -- the same of members
  abbrev pub downs_in : Members D → ℕ → ℕ
  downs_in m n = downs_of m.primaries.items n

  -- A primary has answered each statement; and where it is up, it has nothing left to do at all. Of one that is down
  -- transactions may stay open
  pub record IsThrough (pr : PrimaryView D) : Type 0 where
    pub answered : have_no_line pr.book.sessions.items ≡ true
    pub nothing : pr.down ≡ 0 → have_no_task pr.book.sessions.items ≡ true

  -- all primaries are through
  abbrev pub AreThrough : Members D → Type 0
  AreThrough m = (place : ℕ) (pr : PrimaryView D) → slice_get m.primaries.items place ≡ Some pr → IsThrough pr

module _ {D : Type 0} (g : Ghosts D) where
  -- A member: a primary of this number that stands with the node, agrees with its part by the answers that it gave, and is
  -- down with the number that its part tells, or up; any of its sessions may take a turn
  pub record IsMember (work : Work) (m : Members D) (given : List NodeEntry) (n : ℕ) (pr : PrimaryView D) : Type 0 where
    pub number : pr.number ≡ n
    pub work_is : pr.work ≡ work
    pub stands : StandsWith g m.shared pr m.node
    pub agrees : PrimaryAgreesIn g pr (given_by n given) m.node
    pub told : IsDownAsTold pr m.node
    pub may_turn : (session : ℕ) → session < 65 → MayTakeTurn pr session

  -- MEMBERS BETWEEN TWO TURNS: the node has the parts of all primaries of a world that can be reached, each primary is a member,
  -- and these are the answers that were given, those of each primary in their order
  pub record AreMembers (work : Work) (m : Members D) (given : List NodeEntry) : Type 0 where
    pub run : m.node.run ≡ m.shared
    pub base : m.shared.opening.trx.base ≡ work.base
    pub begins : m.shared.opening.trx.begins ≡ length (begin_names work.lines)
    pub holds : HoldsAll m.node
    pub reached : Reached m.node
    pub frames : m.node.frames ≡ []
    pub count : length m.primaries.items ≡ m.shared.opening.trx.primaries
    pub each : (place : ℕ) (pr : PrimaryView D) → slice_get m.primaries.items place ≡ Some pr → IsMember work m given (place + 1) pr
    pub answered : AllByRecursion (λ x. is_some x.entry.answer ≡ true) given
    pub of_nodes : AllByRecursion (λ x. IsNode m.shared.opening.trx x.node) given

  -- A RUN ON ONE THREAD: the answers were given in this order: their mtrs rise in the history, each view is the greatest commit
  -- above it, and the timestamp oracle counts the commits, and shows the greatest of their numbers
  pub record Runs (work : Work) (m : Members D) (given : List NodeEntry) : Type 0 where
    pub members : AreMembers work m given
    pub order : m.order.items ≡ map (λ x. x.node) given
    pub rising : AscendsFrom (λ t. t.at) 0 (filter_map (λ x. x.entry.trace.mtr) given)
    pub views : ViewsCover Step work.base.ts (answers_in (entries_given given))
    pub clock : tso_of m.node ≡ work.base.ts + length (numbers (answers_in (entries_given given)))
    pub greatest : greatest_cts work.base.ts (numbers (answers_in (entries_given given))) ≡ tso_of m.node

  -- A RUN ON A THREAD FOR EACH PRIMARY: the answers of different primaries have no order; each view that a primary shows is at or
  -- above the commits that it showed before
  pub record RunsApart (work : Work) (m : Members D) (given : List NodeEntry) : Type 0 where
    pub members : AreMembers work m given
    pub views : (n : ℕ) → IsNode m.shared.opening.trx n → ViewsCover Run work.base.ts (answers_in (given_by n given))

  -- The same primary, over the same disk: it tells as before, and its count of faults didn't fall. Where the primary is down
  -- with its own number, it was so, or the count rose; one that was down is so with the same number
  pub record IsSameMember (old new : PrimaryView D) : Type 0 where
    pub number : new.number ≡ old.number
    pub work_is : new.work ≡ old.work
    pub disk : StillDisk g old.media.log.disk new.media.log.disk
    pub fell : new.down ≡ new.number → (old.down ≡ new.number) ⊎ DiskRose g old.media.log.disk new.media.log.disk
    pub stays : old.down ≢ 0 → new.down ≡ old.down

  -- the same members, of the same table
  pub record AreSameMembers (old new : Members D) : Type 0 where
    pub shared : new.shared ≡ old.shared
    pub idle : new.idle ≡ old.idle
    pub count : length new.primaries.items ≡ length old.primaries.items
    pub each : (place : ℕ) → At IsSameMember old.primaries.items new.primaries.items place

  -- the primary with this number is a member before and after, and the count of faults of its log's disk rose
  pub record MemberFailed (number : ℕ) (old new : Members D) : Type 0 where
    pub place : ℕ
    pub number_is : number ≡ place + 1
    pub before : PrimaryView D
    pub after : PrimaryView D
    pub was : slice_get old.primaries.items place ≡ Some before
    pub now : slice_get new.primaries.items place ≡ Some after
    pub rose : DiskRose g before.media.log.disk after.media.log.disk
