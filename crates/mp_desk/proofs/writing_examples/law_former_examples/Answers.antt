use Rattle.std.proofs.Common.{if◌then◌else◌, ◌≡◌, ◌≤◌, ◌&&◌, ◌==◌, Bool, true, false, Option, None, Some, [], refl, sym, lit≤, arith}
use Rattle.mp_cells.specs.declared.rows.Row.{Row}
use Rattle.mp_supports.specs.SmallParts.{own_trx, small_part, version_by}
use Rattle.mp_supports.proofs.SmallParts.{no_none}
use Rattle.mp_desk.proofs.PutBackRows.{none_back}
use Rattle.mp_desk.proofs.writing_examples.law_former_examples.Goals as goal

with_true : (b : Bool) (x y : Option Row) → (if b && true then x else y) ≡ (if b then x else y)
with_true true x y = refl
with_true false x y = refl

pub returns-clause-formers : goal.returns-clause-formers
returns-clause-formers c = λ key. with_true (5 == key) (Some (version_by None None 97)) None

pub returns-clause-not_none : goal.returns-clause-not_none
returns-clause-not_none c = λ h. no_none (version_by None None 97) (sym (h 5))

pub returns-clause-none_back : goal.returns-clause-none_back
returns-clause-none_back c = none_back own_trx [] 0 (small_part [] [] []) (lit≤ tt) (λ key. refl)

pub returns-clause-no_more_back : goal.returns-clause-no_more_back
returns-clause-no_more_back c = λ h. let within : 1 ≤ 0 = h.within in omega (arith, within)
