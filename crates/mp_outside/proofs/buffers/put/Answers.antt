-- The zeros and the bytes stand one behind the other.
use Rattle.std.proofs.Common.{◌≡◌, ℕ, ◌+◌, ◌-◌, ◌≤◌, length, List, replicate, ◌++◌, take, drop, min, ap, ◌∙◌, rules, arith, append_assoc, length-append}
use Rattle.std.proofs.lemmas.List.{length-replicate}
use Rattle.mp_outside.proofs.Overlays.{over-two}
use Rattle.mp_outside.proofs.buffers.put.Goals as goal
use borrow.Rule.Slice.PartMut.{put_mid}

shaped : (buffer us vs : List ℕ) (place size first n : ℕ) → first ≡ min place size → place + length vs ≤ length buffer → us ≡ replicate n 0 → n ≡ place - first
    → put_mid place ((place + length vs) - place) (put_mid first (place - first) buffer us) vs
    ≡ take (min place size) buffer ++ (replicate (place - size) 0 ++ (vs ++ drop (place + length vs) buffer))
shaped buffer us vs place size first n f le u n_is =
    let lu : length us ≡ n = ap length u ∙ length-replicate n 0 in
    let u' : us ≡ replicate (place - size) 0 = u ∙ ap (λ j. replicate j 0) (omega arith) in
    let e : first + length (us ++ vs) ≡ place + length vs = omega (arith, length-append us vs) in
    over-two first place (place + length vs) buffer us vs (omega arith) (omega arith) (omega arith) (omega arith)
    ∙ rw (e, ← u', f) (simp append_assoc)

pub returns-clause-buffer : goal.returns-clause-buffer
returns-clause-buffer c =
    rw (c.copy_from_slice.ensures.after)
    (shaped c.args.buffer.now _ c.args.bytes.now c.args.place c.args.size c.min.result _ c.min.ensures c.requires.within (c.fill.ensures.after (λ y e. e)) (search rules))
