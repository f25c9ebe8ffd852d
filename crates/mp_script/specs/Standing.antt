-- One item of a list above another.
use Rattle.std.specs.Prelude.{◌≡◌, ◌⊎◌, List, [], ◌∷◌}
use Rattle.mp_machine.specs.Lists.{IsIn}

-- the first item stands above the second in the list
abbrev pub StandsAbove : {T : Type 0} → T → T → List T → Type 0
StandsAbove x y [] = ⊥
StandsAbove x y (z ∷ zs) = ((z ≡ x) × IsIn y zs) ⊎ StandsAbove x y zs
