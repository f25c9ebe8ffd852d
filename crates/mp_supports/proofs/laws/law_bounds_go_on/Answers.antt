use Rattle.std.proofs.Common.{◌≡◌, ◌+◌, ◌≤◌, List, length, refl, sym, ap, subst, ◌∙◌, arith}
use Rattle.std.proofs.lemmas.List.{length-append}
use Rattle.mp_cells.specs.declared.records.Mtr.{Mtr}
use Rattle.mp_core_trx.specs.declared.part.Draw.{Draw}
use Rattle.mp_core_trx.specs.declared.part.TrxPart.{TrxPart}
use Rattle.mp_core_pages.specs.declared.part.Placed.{Placed}
use Rattle.mp_supports.proofs.BoundSteps.{bounds_put, bounds_back, bounds_commit, bounds_answered}
use Rattle.mp_supports.proofs.laws.law_bounds_go_on.Goals as goal

pub returns-clause-put : goal.returns-clause-put
returns-clause-put c = λ work p q answers number sessions s after x trx former a step found stage goes writes h.
    bounds_put work p q step.extends answers sessions number s after found h x trx former a step.made (ap (λ (t : TrxPart). t.drew) step.trx) stage goes writes

pub returns-clause-put_back : goal.returns-clause-put_back
returns-clause-put_back c = λ work p q answers number sessions s x trx step found stage within h.
    bounds_back work p q step.extends answers sessions number s (record s { restored = s.restored + 1 }) found h x trx step.made (ap (λ (t : TrxPart). t.drew) step.trx) stage within refl

pub returns-clause-commit : goal.returns-clause-commit
returns-clause-commit c = λ work p q answers more number sessions s after extends mtrs draws found le h.
    bounds_commit work p q extends answers sessions number s after found h more mtrs draws le

pub returns-clause-no_mtr : goal.returns-clause-no_mtr
returns-clause-no_mtr c = λ work p q answers more number sessions s after extends made found le h.
    let drawn : length q.trx.drew ≡ length (extends.trx.more_drawn.0) + length p.trx.drew = ap (λ (l : List Draw). length l) extends.trx.more_drawn.1 ∙ length-append extends.trx.more_drawn.0 p.trx.drew in
    bounds_answered work p q extends answers sessions number s after found h more (ap (λ (l : List (Placed Mtr)). length l) made) (omega (arith, drawn)) le
