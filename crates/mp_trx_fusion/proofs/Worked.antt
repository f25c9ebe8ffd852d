-- Small nodes and words that show what the definitions say.
use Rattle.std.proofs.Common.{◌≡◌, [], Some, None, inl, refl, sym, subst, arith, lit<, lit≤}
use Rattle.mp_model.specs.declared.ids.TrxId.{TrxId}
use Rattle.mp_core_trx.specs.Parts.{trx, begun_of, first_trx_part}
use Rattle.mp_core_trx.specs.declared.part.Begun.{Begun}
use Rattle.mp_machine.specs.Lists.{IsIn}
use Rattle.mp_core_pages.specs.PageParts.{pages_newcomer}
use Rattle.mp_core.specs.declared.part.CorePart.{CorePart}
use Rattle.mp_core.specs.Downs.{first_down_part}
use Rattle.mp_core_trx.specs.Words.{shown_of}
use Rattle.mp_shared.specs.Nodes.{Run, NodeView, opening_of, first_node, node_of_one}
use Rattle.mp_shared.specs.Slots.{next_slot}
use Rattle.mp_trx_fusion.specs.declared.slot_status.SlotStatus.TheVariants.{Prep, Committed, Other}
use Rattle.mp_core_trx.specs.Events.{with_draw}
use Rattle.mp_trx_fusion.specs.Calls.{with_trx, with_begin, tso_of, MayBeginTrx}
use Rattle.mp_trx_fusion.specs.Statuses.{status_of}

abbrev first : TrxId
first = trx 1 0 1

-- the word 6 shows PREP with version 1, and 67108871 COMMITTED with version 1 at 1
prepared_first : status_of first (shown_of 6) ≡ Prep
prepared_first = refl

committed_first : status_of first (shown_of 67108871) ≡ Committed 1
committed_first = refl

-- of another version, and of a slot that was never used, they tell nothing
of_another : status_of (trx 1 0 2) (shown_of 67108871) ≡ Other
of_another = refl

of_none : status_of first (shown_of 0) ≡ Other
of_none = refl

-- two primaries over a base of zeros
module _ (r : Run) where
  abbrev fresh : NodeView
  fresh = first_node (record r { opening = opening_of record { ts = 0; llsn = 0; version = 0 } 2 2 [] })

  abbrev one_begun : NodeView
  one_begun = with_trx fresh 1 (with_begin (begun_of first 0)) 2

  abbrev one_part : CorePart
  one_part = record { trx = with_begin (begun_of first 0) (first_trx_part fresh.run.opening.trx); pages = pages_newcomer; downs = first_down_part; ops = 2 }

  -- each transaction takes its primary's next slot
  slot_of_first : next_slot fresh 1 ≡ Some 0
  slot_of_first = refl

  slot_of_second : next_slot one_begun 1 ≡ Some 1
  slot_of_second = refl

  slot_of_other_primary : next_slot one_begun 2 ≡ Some 0
  slot_of_other_primary = refl

  -- a node without the part knows no slot
  slot_of_nobody : next_slot (node_of_one 1 fresh) 2 ≡ None
  slot_of_nobody = refl

  -- the TSO is at as many timestamps as were drawn
  none_drawn : tso_of fresh ≡ 0
  none_drawn = refl

  one_drawn : tso_of (with_trx one_begun 1 (with_draw first 1) 1) ≡ 1
  one_drawn = refl

  -- a version is used once, and the base version by nobody
  may_begin : MayBeginTrx fresh 1 1
  may_begin = record { mine = _; holds = refl; node = (lit≤ tt, lit≤ tt); above = lit< tt; within = lit≤ tt; fresh = λ b has. absurd has }

  not_again : MayBeginTrx one_begun 1 1 → ⊥
  not_again may =
      let has : Some one_part ≡ Some may.mine = may.holds in
      let is : one_part ≡ may.mine = cc in
      subst (λ (q : CorePart). (b : Begun) → IsIn b q.trx.begun → ¬ (b.id.version ≡ 1)) (sym is) may.fresh (begun_of first 0) (inl refl) refl

  not_the_base : MayBeginTrx fresh 1 0 → ⊥
  not_the_base may = let above = may.above in absurd (omega arith)
