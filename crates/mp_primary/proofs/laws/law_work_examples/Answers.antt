use Rattle.std.proofs.Common.{◌≡◌, ℕ, true, false, List, [], length, None, inl, inr, refl, sym, ap, subst, ◌∙◌, arith}
use Rattle.mp_buffer_fusion.specs.PoolExamples.{blank_buffer}
use Rattle.mp_cells.specs.declared.records.Mtr.{Mtr}
use Rattle.mp_core_pages.specs.declared.part.Placed.{Placed}
use Rattle.mp_book.specs.SmallBooks.{its_begun}
use Rattle.mp_supports.specs.Supports.{Trace, no_trace}
use Rattle.mp_supports.specs.Kept.{Did}
use Rattle.mp_supports.proofs.Classes.{did_looked}
use Rattle.mp_desk.specs.Making.{HoldsPartOf}
use Rattle.mp_desk.proofs.Moving.{looked_none, moves_none}
use Rattle.mp_primary.specs.Primaries.{PrimaryView}
use Rattle.mp_primary.specs.AtWork.{LeavesAtMostOne}
use Rattle.mp_primary.proofs.SmallPrimaries.{one_is_none, something_is_none}
use Rattle.mp_primary.proofs.laws.law_work_examples.Goals as goal

pub returns-clause-at_work : goal.returns-clause-at_work
returns-clause-at_work g c = λ run pr n stands up. record {
  rest = refl;
  up = up;
  desk = stands.desk;
  own = stands.primary.own;
  log = (stands.primary.up up).0;
  media = λ q has. subst (λ (d : ℕ). HoldsPartOf g.D.Disk pr.work d pr.number pr.media q) up (stands.agrees.1 q has).media;
  did = moves_none pr.number (λ q r. Did q r no_trace) (λ q. did_looked q q (looked_none q)) n;
  faults = omega arith;
  tells = refl;
}

pub returns-clause-not_at_work : goal.returns-clause-not_at_work
returns-clause-not_at_work g c = λ run pr n down h. let up = h.up in absurd (omega (arith, up, down))

pub returns-clause-not_cleared : goal.returns-clause-not_cleared
returns-clause-not_cleared g c = λ run pr n one h. one_is_none (blank_buffer 5 true) [] (sym one ∙ h.empty)

pub returns-clause-not_gone : goal.returns-clause-not_gone
returns-clause-not_gone g c = λ run pr n one up h. let down = ap (λ (v : PrimaryView g.row.D.Denot). v.down) h.rest in absurd (omega (arith, one, up, down))

not_a_write : false ≡ true → ⊥
not_a_write e = cc

pub returns-clause-leaves_one : goal.returns-clause-leaves_one
returns-clause-leaves_one g c = record { begun = refl; rows = refl; few = inr (refl, refl) }

pub returns-clause-leaves_none : goal.returns-clause-leaves_none
returns-clause-leaves_none g c = λ h. elim h.few [
  | inl none ↦ let wrong : 1 ≡ 0 = ap (λ (l : List (Placed Mtr)). length l) none.1 in absurd (omega (arith, wrong))
  | inr one ↦ not_a_write one.0
]

pub returns-clause-may_stop : goal.returns-clause-may_stop
returns-clause-may_stop g c = λ pr line n. record {
  stopped = λ r at. (inl refl, tt);
  left = moves_none pr.number (LeavesAtMostOne line None) (λ q. record { begun = refl; rows = refl; few = inl (refl, refl) }) n;
  later = tt;
}

pub returns-clause-may_not_stop : goal.returns-clause-may_not_stop
returns-clause-may_not_stop g c = λ pr line n q at h. elim (h.stopped q at).0 [
  | inl none ↦ something_is_none its_begun (ap (λ (t : Trace). t.began) none)
  | inr wrote ↦ something_is_none its_begun (ap (λ (t : Trace). t.began) wrote.7)
]
