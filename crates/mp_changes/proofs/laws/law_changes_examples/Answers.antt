use Rattle.std.proofs.Common.{◌≡◌, ℕ, List, [], ◌∷◌, length, Option, Some, None, inl, ⊎_elim, refl, sym, ap, ◌∙◌, subst, arith, lit≤}
use Rattle.mp_machine.specs.Lists.{IsIn}
use Rattle.mp_cells.specs.declared.records.Mtr.{Mtr}
use Rattle.mp_cells.specs.declared.rows.Row.{Row}
use Rattle.mp_cells.specs.PageView.{PageView}
use Rattle.mp_core_pages.specs.declared.page_lock.Held.TheVariants.{Write, No}
use Rattle.mp_core_pages.specs.declared.part.PagesPart.{PagesPart}
use Rattle.mp_core_pages.specs.declared.part.Placed.{Placed}
use Rattle.mp_core.specs.declared.part.CorePart.{CorePart}
use Rattle.mp_buffer_fusion.proofs.Visiting.{one_part}
use Rattle.mp_supports.specs.SmallParts.{part_before_steps, put_over, commit_mtr}
use Rattle.mp_desk.specs.SmallDesks.{leaf_part, holding_root, unwritten_row, own_row}
use Rattle.mp_changes.specs.Changing.{PutsInTurn}
use Rattle.mp_changes.specs.SmallTurns.{one_put_part, one_commit_part}
use Rattle.mp_changes.proofs.laws.law_changes_examples.Goals as goal

-- the first primary's part in a node of it
only_part : (own q : CorePart) → Some own ≡ Some q → q ≡ own
only_part own q has = one_part (Some own) q own has refl

pub returns-clause-none : goal.returns-clause-none
returns-clause-none c = λ run. record { mine = part_before_steps; holds = refl; many = refl; each = λ x is. absurd is }

abbrev one_put : Placed Mtr
one_put = record { at = 4; mtr = put_over unwritten_row own_row }

abbrev one_commit : Placed Mtr
one_commit = record { at = 4; mtr = commit_mtr 1 }

pub returns-clause-once : goal.returns-clause-once
returns-clause-once c = λ run. record {
  mine = one_put_part;
  holds = refl;
  many = refl;
  each = λ x is. ⊎_elim
      (λ (same : x ≡ one_put). subst (λ (y : Placed Mtr). PutsInTurn 5 (Some (98 ∷ [])) y.mtr) (sym same)
      record { row = own_row; put = refl; its_key = refl; value_is = refl })
      (λ bad. absurd bad) is;
}

pub returns-clause-not_twice : goal.returns-clause-not_twice
returns-clause-not_twice c = λ run h.
    let many : 1 ≡ 2 = sym (ap (λ (x : CorePart). length x.pages.made) (only_part one_put_part h.mine h.holds)) ∙ h.many in
    absurd (omega (arith, many))

-- the mtr that the part made, as the word says it puts
puts_of : (own q : CorePart) (key : ℕ) (value : Option (List ℕ)) (x : Placed Mtr) (made : List (Placed Mtr)) → Some own ≡ Some q
    → own.pages.made ≡ x ∷ made → ((y : Placed Mtr) → IsIn y q.pages.made → PutsInTurn key value y.mtr) → PutsInTurn key value x.mtr
puts_of own q key value x made has is each =
    each x (subst (λ (l : List (Placed Mtr)). IsIn x l) (sym (ap (λ (p : CorePart). p.pages.made) (only_part own q has) ∙ is)) (inl refl))

pub returns-clause-no_other : goal.returns-clause-no_other
returns-clause-no_other c = λ run h.
    let puts = puts_of one_put_part h.mine 5 (Some (97 ∷ [])) one_put [] h.holds refl h.each in
    let row : own_row ≡ puts.row = some_same own_row puts.row puts.put in
    let value : Some (98 ∷ []) ≡ Some (97 ∷ []) = ap (λ (r : Row). r.value) row ∙ puts.value_is in
    let byte : 98 ≡ 97 = ap first_byte value in
    absurd (omega (arith, byte))
  where
    some_same : (a b : Row) → Some a ≡ Some b → a ≡ b
    some_same a b is = cc

    first_byte : Option (List ℕ) → ℕ
    first_byte None = 0
    first_byte (Some []) = 0
    first_byte (Some (b ∷ bytes)) = b

pub returns-clause-no_commit : goal.returns-clause-no_commit
returns-clause-no_commit c = λ run h.
    let puts = puts_of one_commit_part h.mine 5 (Some (98 ∷ [])) one_commit [] h.holds refl h.each in
    let none : None ≡ Some puts.row = puts.put in
    absurd (cc)

pub returns-clause-knows_none : goal.returns-clause-knows_none
returns-clause-knows_none c = λ run. record {
  mine = part_before_steps;
  holds = refl;
  node = (lit≤ tt, lit≤ tt);
  base = refl;
  pages = refl;
}

pub returns-clause-knows_a_leaf : goal.returns-clause-knows_a_leaf
returns-clause-knows_a_leaf c = λ run knows.
    let one : 1 ≡ 0 =
    sym (ap (λ (x : CorePart). length x.pages.given) (only_part leaf_part knows.mine knows.holds))
    ∙ ap (λ (x : PagesPart PageView Mtr). length x.given) knows.pages in
    absurd (omega (arith, one))

pub returns-clause-holds_a_page : goal.returns-clause-holds_a_page
returns-clause-holds_a_page c = λ run left.
    let wrong : Write ≡ No = (left (holding_root Write part_before_steps) refl).idle 1 in absurd (cc)
