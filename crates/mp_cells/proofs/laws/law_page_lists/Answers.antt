-- Place by place.
use Rattle.std.proofs.Common.{◌≡◌, ℕ, zero, suc, [], ◌∷◌, refl, ap}
use Rattle.mp_cells.specs.PageView.{blank_page}
use Rattle.mp_cells.specs.Plans.{page_or}
use Rattle.mp_cells.specs.PageMaps.{page_at}
use Rattle.mp_cells.specs.SmallMaps.{fresh_map}
use Rattle.mp_cells.proofs.laws.law_page_lists.Goals as goal

pub returns-clause-there : goal.returns-clause-there
returns-clause-there c = λ pages n page e. ap (page_or (blank_page 0)) e

fresh_at : (n : ℕ) → page_at (fresh_map 0 ∷ fresh_map 1 ∷ []) n ≡ fresh_map n
fresh_at zero = refl
fresh_at (suc zero) = refl
fresh_at (suc (suc n)) = refl

pub returns-clause-fresh : goal.returns-clause-fresh
returns-clause-fresh c = fresh_at
