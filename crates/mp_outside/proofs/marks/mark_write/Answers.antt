-- The three parts that are filled stand one behind another.
use Rattle.std.proofs.Common.{◌≡◌, ℕ, ◌+◌, ◌-◌, ◌/◌, ◌≤◌, length, List, replicate, ◌++◌, min, ap, ◌∙◌, rules, arith, append_assoc, length-append}
use Rattle.std.proofs.lemmas.List.{length-replicate}
use Rattle.mp_outside.specs.Marks.{marked}
use Rattle.mp_outside.specs.declared.marks.Mark.{Mark}
use Rattle.mp_outside.specs.declared.marks.Mark.TheVariants.{Gap, Front, Back}
use Rattle.mp_outside.proofs.Overlays.{over-three}
use Rattle.mp_outside.proofs.marks.mark_write.Goals as goal
use borrow.Rule.Slice.PartMut.{put_mid}

shaped : (marks us vs ws : List Mark) (place size count first n m k : ℕ) → first ≡ min place size → place + count ≤ length marks
    → us ≡ replicate n Gap → n ≡ place - first → vs ≡ replicate m Front → m ≡ (place + count / 2) - place → ws ≡ replicate k Back → k ≡ (place + count) - (place + count / 2)
    → put_mid (place + count / 2) ((place + count) - (place + count / 2)) (put_mid place ((place + count / 2) - place) (put_mid first (place - first) marks us) vs) ws ≡ marked place count size marks
shaped marks us vs ws place size count first n m k f le u n_is v m_is w k_is =
    let lu : length us ≡ n = ap length u ∙ length-replicate n Gap in
    let lv : length vs ≡ m = ap length v ∙ length-replicate m Front in
    let lw : length ws ≡ k = ap length w ∙ length-replicate k Back in
    let u' : us ≡ replicate (place - size) Gap = u ∙ ap (λ j. replicate j Gap) (omega arith) in
    let v' : vs ≡ replicate (count / 2) Front = v ∙ ap (λ j. replicate j Front) (omega arith) in
    let w' : ws ≡ replicate (count - count / 2) Back = w ∙ ap (λ j. replicate j Back) (omega arith) in
    let e : first + length ((us ++ vs) ++ ws) ≡ place + count = omega (arith, length-append (us ++ vs) ws, length-append us vs) in
    over-three first place (place + count / 2) (place + count) marks us vs ws (omega arith) (omega arith) (omega arith) (omega arith) (omega arith) (omega arith)
    ∙ rw (e, ← u', ← v', ← w', f) (simp append_assoc)

pub returns : goal.returns
returns c =
    shaped c.args.marks.now _ _ _ c.args.place c.args.size c.args.count c.min.result _ _ _ c.min.ensures c.requires.within
    (c.fill.ensures.after (λ y e. e)) (search rules) (c.fill-2.ensures.after (λ y e. e)) (search rules) (c.fill-3.ensures.after (λ y e. e)) (search rules)
