-- The bytes behind those that are given.
use Rattle.std.proofs.Common.{◌≡◌, ◌+◌, ◌-◌, ◌≤◌, ℕ, length, take, drop, sym, ap, ◌∙◌, arith}
use Rattle.std.proofs.lemmas.List.{drop-take, drop-drop, length-drop, length-take-le}
use Rattle.mp_log.proofs.loaded.Loaded.skip.Goals as goal

pub returns : goal.returns
returns c =
    let buffer = c.self.inside.buffer.items in
    let at = c.self.inside.at in
    let left = c.self.inside.left in
    let n = c.args.count in
    let long : left ≤ length (drop at buffer) = omega (arith, length-drop at buffer, c.self.invariant) in
    let fits : n ≤ left = omega (arith, c.requires, ap length c.self.view_is, length-take-le left (drop at buffer) long) in
    let parts : n + (left - n) ≡ left = omega (arith, fits) in
    let skipped : drop n (take left (drop at buffer)) ≡ take (left - n) (drop (at + n) buffer) =
    ap (λ (k : ℕ). drop n (take k (drop at buffer))) (sym parts) ∙ drop-take n (left - n) (drop at buffer) ∙ ap (take (left - n)) (drop-drop n at buffer) in
    sym skipped ∙ ap (drop n) c.self.view_is
