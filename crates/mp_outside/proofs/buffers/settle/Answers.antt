-- Outside the range both buffers read the same, and all marks are untouched.
use Rattle.std.proofs.Common.{◌≡◌, ℕ, ◌-◌, ◌≤◌, List, length, take, drop, replicate, sym, ap, ◌∙◌, rules, arith}
use Rattle.std.proofs.lemmas.List.{take-replicate, drop-replicate}
use Rattle.mp_outside.specs.declared.marks.Mark.TheVariants.{Untouched}
use Rattle.mp_outside.proofs.Rejoined.{rejoined}
use Rattle.mp_outside.proofs.buffers.settle.Goals as goal
use borrow.Rule.Slice.PartMut.{put_mid}

refilled : {X : Type 0} (x : X) (xs part : List X) (from to size n : ℕ) → from ≤ to → to ≤ size → take from xs ≡ replicate from x → drop to xs ≡ replicate (size - to) x
    → part ≡ replicate n x → n ≡ to - from → put_mid from (to - from) xs part ≡ replicate size x
refilled x xs part from to size n ft ts front back part_is n_is =
    let middle : part ≡ take (to - from) (drop from (replicate size x)) =
    part_is ∙ ap (λ k. replicate k x) n_is ∙ sym (take-replicate (to - from) (size - from) x (omega arith)) ∙ ap (take (to - from)) (sym (drop-replicate from size x)) in
    let from_le : from ≤ size = omega arith in
    rw middle (rejoined (replicate size x) xs from to ft (take-replicate from size x from_le ∙ sym front) (drop-replicate to size x ∙ sym back))

pub returns-clause-synced : goal.returns-clause-synced
returns-clause-synced c =
    rw (c.copy_from_slice.ensures.after) (rejoined c.args.buffer.now c.args.synced.now c.args.from c.args.to c.requires.range.0 c.requires.below.0 c.requires.above.0)

pub returns-clause-marks : goal.returns-clause-marks
returns-clause-marks c =
    refilled Untouched c.args.marks.now _ c.args.from c.args.to (length c.args.buffer.now) _ c.requires.range.0 c.requires.range.1 c.requires.below.1 c.requires.above.1 (c.fill.ensures.after (λ y e. e)) (search rules)
