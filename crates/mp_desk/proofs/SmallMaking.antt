-- The node of the small examples has one part.
use Rattle.std.proofs.Common.{◌≡◌, ℕ, zero, suc, length, Option, None, Some, sym, ap, subst, inl, inr, arith}
use Rattle.mp_machine.specs.Lists.{IsIn}
use Rattle.mp_machine.specs.View.{part_in}
use Rattle.mp_cells.specs.declared.records.Mtr.{Mtr}
use Rattle.mp_core_pages.specs.declared.part.Placed.{Placed}
use Rattle.mp_core_pages.specs.Histories.{placed}
use Rattle.mp_core.specs.declared.part.CorePart.{CorePart}
use Rattle.mp_histories.specs.SmallHistory.{small_restore}
use Rattle.mp_facts.specs.SmallParts.{put_part}
use Rattle.mp_shared.specs.Nodes.{Run}
use Rattle.mp_shared.specs.SmallNodes.{node_of_first}
use Rattle.mp_desk.specs.Making.{IsMadeAfter}

pub only_first : (run : Run) (p : CorePart) (k : ℕ) (q : CorePart) → part_in (node_of_first run p).parts k ≡ Some q → p ≡ q
only_first run p zero q has = absurd cc
only_first run p (suc zero) q has = cc
only_first run p (suc (suc k)) q has = absurd cc

-- how many mtrs a part made
abbrev pub made_count : Option CorePart → ℕ
made_count None = 0
made_count (Some q) = length q.pages.made

-- the small restore is later than what a node with the put knew
pub restore_after : (run : Run) → IsMadeAfter (node_of_first run put_part) (placed 1 small_restore)
restore_after run = record {
  above_made = λ k q m has there. elim (subst (λ (r : CorePart). IsIn m r.pages.made) (sym (only_first run put_part k q has)) there) [
    | inl is ↦ let place = ap (λ (y : Placed Mtr). y.at) is in omega (arith, place)
    | inr none ↦ absurd none
  ];
}
