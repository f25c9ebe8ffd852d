use Rattle.std.proofs.Common.{◌≡◌, List, [], ◌∷◌, length, refl, sym, ap, subst, ◌∙◌, inl, inr, arith, ◌≢◌, ◌<◌, ℕ, zero, suc, Some}
use Rattle.mp_cells.specs.declared.records.Mtr.{Mtr}
use Rattle.mp_cells.specs.Plans.{Plan, plan_of}
use Rattle.mp_cells.specs.SmallMaps.{fresh_map, gone_row}
use Rattle.mp_cells.specs.Writes.{WellRestore}
use Rattle.mp_core_pages.specs.declared.page_lock.Held.TheVariants.{Write}
use Rattle.mp_core_pages.specs.declared.part.Placed.{Placed}
use Rattle.mp_core_pages.specs.Histories.{placed}
use Rattle.mp_core.specs.CoreExtends.{IsMadeLater}
use Rattle.mp_core.specs.declared.part.CorePart.{CorePart}
use Rattle.mp_core.specs.Contents.{contents_of}
use Rattle.mp_core.specs.OwnMtrs.{TrxMtr}
use Rattle.mp_machine.specs.View.{part_in}
use Rattle.mp_core_pages.specs.PageEvents.{with_mtr}
use Rattle.mp_shared.specs.Nodes.{Run}
use Rattle.mp_shared.specs.SmallNodes.{node_of_first}
use Rattle.mp_desk.specs.Desks.{Moves}
use Rattle.mp_desk.proofs.MadeLater.{later_make}
use Rattle.mp_histories.specs.Histories.{pages_after}
use Rattle.mp_histories.specs.SmallHistory.{small_trx, small_put, small_restore}
use Rattle.mp_histories.proofs.Contents.{restore_else}
use Rattle.mp_facts.proofs.SmallRestore.{restore_well}
use Rattle.mp_facts.specs.SmallParts.{put_part, active_part, restored_part}
use Rattle.mp_supports.specs.Steps.{MadeOne}
use Rattle.mp_supports.proofs.Extending.{core_extends_refl}
use Rattle.mp_supports.proofs.SmallParts.{no_none}
use Rattle.mp_desk.specs.Rolling.{IsFormer}
use Rattle.mp_desk.specs.SmallDesks.{root_buffer, holding_root}
use Rattle.mp_desk.proofs.MtrMade.{made_one}
use Rattle.mp_desk.proofs.SmallMaking.{only_first, restore_after}
use Rattle.mp_desk.proofs.SmallDesks.{met_here, met_no_least}
use Rattle.mp_desk.proofs.ending_examples.law_rolling_examples.Goals as goal

later : IsMadeLater put_part 1
later = record {
  above_made = λ x there. elim there [ inl is ↦ let place = ap (λ (y : Placed Mtr). y.at) is in omega (arith, place) | inr none ↦ absurd none ];
  above_given = λ g none. absurd none;
}

makes_restore : MadeOne (placed 1 small_restore) put_part restored_part
makes_restore =
    let x : Placed Mtr = placed 1 small_restore in
    let m = made_one put_part x later in
    record {
      extends = record { trx = m.extends.trx; pages = m.extends.pages; durable = m.extends.durable; made_later = m.extends.made_later; given_later = m.extends.given_later; downs = m.extends.downs };
      trx = refl;
      made = refl;
      durables = refl;
      later = later;
    }

pub returns-clause-back : goal.returns-clause-back
returns-clause-back c = record {
  makes = record {
    between = put_part;
    quiet = record { extends = core_extends_refl put_part; begun = refl; rows = refl; drew = refl; made = refl };
    made = makes_restore;
  };
  restored = refl;
  put = refl;
  of = refl;
}

others_same : (run : Run) (p q : CorePart) (k : ℕ) → k ≢ 1 → part_in (node_of_first run q).parts k ≡ part_in (node_of_first run p).parts k
others_same run p q zero other = refl
others_same run p q (suc zero) other = absurd (other refl)
others_same run p q (suc (suc k)) other = refl

restore_moves : (run : Run) → Moves (MadeOne (placed 1 small_restore)) 1 (node_of_first run put_part) (node_of_first run restored_part)
restore_moves run = record {
  run = refl;
  frames = refl;
  others = others_same run put_part restored_part;
  mine = λ q has. (restored_part, refl, subst (λ (r : CorePart). MadeOne (placed 1 small_restore) r restored_part) (only_first run put_part 1 q has) makes_restore, ap (λ (r : CorePart). r.downs) (only_first run put_part 1 q has));
}

pub returns-clause-later : goal.returns-clause-later
returns-clause-later c = λ run. later_make 1 (placed 1 small_restore) (node_of_first run put_part) (node_of_first run restored_part) (restore_moves run) (restore_after run)

pub returns-clause-not_at_once : goal.returns-clause-not_at_once
returns-clause-not_at_once c = λ run h.
    let m : TrxMtr = record { at = 0; of = Some (small_trx 0); mtr = small_restore } in
    elim (h put_part (record put_part { pages = with_mtr 0 small_restore put_part.pages }) refl refl m (inl refl)) [
      | inl (inl same) ↦ let llsn : 6 ≡ 5 = ap (λ (x : TrxMtr). x.mtr.llsn) same in omega (arith, llsn)
      | inl (inr none) ↦ absurd none
      | inr after ↦ let before : 0 < 0 = after 1 put_part (placed 0 small_put) refl (inl refl) in omega (arith, before)
    ]

pub returns-clause-none_back : goal.returns-clause-none_back
returns-clause-none_back c = λ h.
    let x : Placed Mtr = placed 1 small_restore in
    let count : 1 ≡ 2 = ap (λ (l : List (Placed Mtr)). length l) (h.makes.made.made ∙ ap (λ (l : List (Placed Mtr)). x ∷ l) h.makes.quiet.made) in
    omega (arith, count)

small_former : IsFormer (small_trx 0) (gone_row 7) put_part
small_former = record { begun = (0, inl refl); active = refl; former = refl }

pub returns-clause-former : goal.returns-clause-former
returns-clause-former c = small_former

pub returns-clause-no_former : goal.returns-clause-no_former
returns-clause-no_former c = λ h. no_none (gone_row 7) h.former

pub returns-clause-former_in : goal.returns-clause-former_in
returns-clause-former_in c = λ run q has. subst (IsFormer (small_trx 0) (gone_row 7)) (only_first run put_part 1 q has) small_former

pub returns-clause-no_former_in : goal.returns-clause-no_former_in
returns-clause-no_former_in c = λ run h. no_none (gone_row 7) (h active_part refl).former

pub returns-clause-planned : goal.returns-clause-planned
returns-clause-planned c = λ run. record {
  well = λ q has. subst (λ (r : CorePart). WellRestore (contents_of r) (gone_row 7) (plan_of small_restore.records)) (only_first run (holding_root Write put_part) 1 q has)
      (restore_else (plan_of small_restore.records) (pages_after fresh_map (small_put ∷ [])) (contents_of (holding_root Write put_part)) (gone_row 7) (refl, tt) restore_well);
  taken = ((λ none. no_none root_buffer (sym none), refl), tt);
}

pub returns-clause-not_planned : goal.returns-clause-not_planned
returns-clause-not_planned c = λ run h.
    let well = h.well put_part refl in
    let count : 0 ≡ 1 = ap (λ (l : Plan). length l) well.one.1 in
    omega (arith, count)

pub returns-clause-waits : goal.returns-clause-waits
returns-clause-waits c = met_here

pub returns-clause-not_for_a_view : goal.returns-clause-not_for_a_view
returns-clause-not_for_a_view c = met_no_least
