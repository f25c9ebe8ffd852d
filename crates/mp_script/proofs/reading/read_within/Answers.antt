-- There are at most one line more than bytes.
use Rattle.std.proofs.Common.{arith, ◌≡◌, ◌==◌, ◌≤◌, ◌+◌, ap, sym, ◌∙◌, length, map, List, ℕ, Bor, count_by}
use Rattle.std.specs.List.{slice_split}
use Rattle.std.proofs.lemmas.List.{length-map}
use Rattle.std.proofs.lemmas.List.Splits.{length-slice_split}
use Rattle.std.proofs.lemmas.List.Sums.{count_by-le-length}
use Rattle.mp_script.proofs.reading.read_within.Goals as goal

lines_within : (lines : List (Bor (List ℕ))) (bytes : List ℕ) → map (λ l. l.now) lines ≡ slice_split (λ b. b == 10) bytes → length lines ≤ length bytes + 1
lines_within lines bytes e =
    let count : length lines ≡ count_by (λ b. b == 10) bytes + 1 = sym (length-map {A = Bor (List ℕ)} {B = List ℕ} lines (λ l. l.now)) ∙ ap length e ∙ length-slice_split (λ b. b == 10) bytes in
    omega (arith, count, count_by-le-length (λ b. b == 10) bytes)

pub read_script-requires : goal.read_script-requires
read_script-requires c = omega (arith, lines_within c.in_ok-lines.lines.items c.args.bytes.now c.in_ok-lines.ensures, ap length c.deref.ensures.value)
