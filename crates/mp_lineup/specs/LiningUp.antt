-- How a run's members are lined up, and what is got out of them.
use Rattle.std.specs.Prelude.{◌≡◌, ℕ, ◌+◌, ◌≤◌, List, length, map, slice_get, Some, true, is_some}
use Rattle.std.specs.List.{AllByRecursion}
use Rattle.mp_model.specs.declared.replies.Answer.{Answer}
use Rattle.mp_script.specs.declared.statements.Script.{Script}
use Rattle.mp_script.specs.BeginNames.{begin_names}
use Rattle.mp_core_trx.specs.declared.opening.Base.{Base}
use Rattle.mp_core.specs.Invariant.{NumbersFit}
use Rattle.mp_outside.specs.declared.disks.Disk.{Ghosts}
use Rattle.mp_opening.specs.declared.opening.Opened.{Opened}
use Rattle.mp_opening.specs.Openings.{IsLogFromAt}
use Rattle.mp_shared.specs.Nodes.{opening_of}
use Rattle.mp_supports.specs.Work.{Work}
use Rattle.mp_supports.specs.Kept.{answers_in}
use Rattle.mp_verdict.specs.Orders.{NodeEntry, given_by}

-- what a script's primaries answer, over what a store had reached
abbrev pub work_over : Script → Base → Work
work_over script base = record { lines = script.lines.items; sessions = script.sessions.items; base = base }

module _ {D : Type 0} (g : Ghosts D) where
  -- nine disks were opened for a run of the script: eight logs from the base on, and its numbers fit
  pub record MayLineUp (script : Script) (opened : Opened D) : Type 0 where
    pub count : length opened.logs.items ≡ 8
    pub logs : (place : ℕ) → IsLogFromAt g opened.base.llsn opened.logs.items place
    pub fit : NumbersFit (opening_of opened.base script.primaries (length (begin_names script.lines.items)) opened.pages.items)

-- these lists, that of primary n at place n - 1, have the answers of what was given, which all have one
pub record AreListed (given : List NodeEntry) (order : List ℕ) (lists : List (List Answer)) : Type 0 where
  pub order_is : order ≡ map (λ x. x.node) given
  pub answered : AllByRecursion (λ x. is_some x.entry.answer ≡ true) given
  pub within : AllByRecursion (λ n. (1 ≤ n) × (n ≤ length lists)) order
  pub lists_are : (place : ℕ) (answers : List Answer) → slice_get lists place ≡ Some answers → answers ≡ answers_in (given_by (place + 1) given)
