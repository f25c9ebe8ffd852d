-- What is given from a window.
use Rattle.std.proofs.Common.{◌≡◌, ℕ, ◌+◌, ◌-◌, ◌≤◌, List, ◌++◌, length, take, drop, min, sym, ap, ◌∙◌, drop-drop, length-take, arith}
use Rattle.std.proofs.lemmas.List.{take-take}
use Rattle.std.proofs.lemmas.Slice.{between_is}
use Rattle.mp_outside.specs.Disks.{GivesBytes}
use Rattle.mp_files.specs.Windows.{WindowHolds}

-- the rest of the window from a place on
pub window_rest : (from place filled : ℕ) (window file : List ℕ) → from ≤ place → WindowHolds from filled window file
    → drop (place - from) (take filled window) ≡ take (filled - (place - from)) (drop place file)
window_rest from place filled window file low holds =
    let at = place - from in
    let sum : from + at ≡ place = omega (arith, low) in
    ap (drop at) holds.same ∙ sym (between_is (drop from file) at filled) ∙ ap (take (filled - at)) (drop-drop at from file ∙ ap (λ n. drop n file) sum)

pub given_bytes : (count rest place : ℕ) (file old copied : List ℕ) → count ≤ length (take rest (drop place file)) → copied ≡ take count (take rest (drop place file))
    → GivesBytes file place count old (copied ++ drop count old)
given_bytes count rest place file old copied most is = record {
  within = omega (arith, most, long);
  front = ap (λ x. x ++ drop count old) (is ∙ take-take count rest (drop place file) (omega (arith, most, long)));
}
  where
    long : length (take rest (drop place file)) ≡ min rest (length (drop place file))
    long = length-take rest (drop place file)
