-- Each pass writes in the range of the side alone.
use Rattle.std.proofs.Common.{◌≡◌, ℕ, ◌+◌, IsTrue, List, [], ◌∷◌, length, drop, sym, ap, ◌∙◌, subst, arith}
use Rattle.std.proofs.lemmas.Result.{on_ok_weaker}
use Rattle.mp_outside.specs.Disks.{written, first_changed, Torn}
use Rattle.mp_store.specs.declared.passes.Pass.{Pass}
use Rattle.mp_store.specs.Layout.{page_place, page_side}
use Rattle.mp_store.specs.Passes.{PassDone, AllPassed}
use Rattle.mp_store.proofs.LaterShown.{place_below}
use Rattle.mp_store.proofs.PassedSides.{close_all, fill_all, open_all, body_made, others_made}
use Rattle.mp_store.proofs.passes.change_side.Goals as goal

pub returns-then-was_open-clause-kept : goal.returns-then-was_open-clause-kept
returns-then-was_open-clause-kept g c = λ tells. λ store. λ marks. λ bodies. λ file. λ marked. λ is. λ was. λ all.
    let seen = g.D.Disk.seen c.args.disk.now in
    let new = c.write_at.new.self in
    let pass_is = c.in-Close.is in
    let images = subst (λ (p : ℕ). (d : List ℕ) → g.D.Disk.image new d → (e : List ℕ) × g.D.Disk.image c.args.disk.now e × Torn (first_changed p seen) (p + 1) e d) c.page_place-place.ensures (c.write_at.ensures.images tells) in
    let leaves = close_all store marks bodies file seen (g.D.Disk.image c.args.disk.now) (g.D.Disk.image new) c.args.number c.args.side c.requires.number marked is
    (subst (λ (p : Pass). AllPassed p store marks bodies file seen (g.D.Disk.image c.args.disk.now)) pass_is all) (sym was ∙ c.if-was_open.true) images in
    let still : IsTrue (g.D.Disk.tells new) = subst (λ b. IsTrue b) (sym c.write_at.ensures.tells) tells in
    subst (λ (p : Pass). AllPassed p store marks bodies file (g.D.Disk.seen new) (g.D.Disk.image new)) (sym pass_is)
    (record { room = all.room; reads = leaves (g.D.Disk.seen new) (g.D.Disk.seen_is_image new still); leaves = leaves })

pub returns-then-was_open-clause-others : goal.returns-then-was_open-clause-others
returns-then-was_open-clause-others g c = λ tells. λ room. λ n. λ s. λ differ.
    let seen = g.D.Disk.seen c.args.disk.now in
    let place = page_place c.args.number c.args.side in
    let within = place_below c.args.number c.args.side c.requires.number in
    on_ok_weaker c.write_at.result (λ is.
    subst (λ (f : List ℕ). page_side n s f ≡ page_side n s seen) (sym (is ∙ ap (λ (p : ℕ). written p (0 ∷ []) seen) c.page_place-place.ensures))
    (others_made c.args.number c.args.side place (0 ∷ []) seen (omega arith) (omega arith) (omega (arith, within, room)) n s differ)) (c.write_at.ensures.written tells (omega arith))

pub returns-in-Open-clause-kept : goal.returns-in-Open-clause-kept
returns-in-Open-clause-kept g c = λ tells. λ store. λ marks. λ bodies. λ file. λ marked. λ is. λ was. λ all.
    let seen = g.D.Disk.seen c.args.disk.now in
    let new = c.write_at-in-Open.new.self in
    let pass_is = c.in-Open.is in
    let images = subst (λ (p : ℕ). (d : List ℕ) → g.D.Disk.image new d → (e : List ℕ) × g.D.Disk.image c.args.disk.now e × Torn (first_changed p seen) (p + 1) e d) c.page_place-place.ensures (c.write_at-in-Open.ensures.images tells) in
    let leaves = open_all store marks bodies file seen (g.D.Disk.image c.args.disk.now) (g.D.Disk.image new) c.args.number c.args.side c.requires.number marked is
    (subst (λ (p : Pass). AllPassed p store marks bodies file seen (g.D.Disk.image c.args.disk.now)) pass_is all) images in
    let still : IsTrue (g.D.Disk.tells new) = subst (λ b. IsTrue b) (sym c.write_at-in-Open.ensures.tells) tells in
    subst (λ (p : Pass). AllPassed p store marks bodies file (g.D.Disk.seen new) (g.D.Disk.image new)) (sym pass_is)
    (record { room = all.room; reads = leaves (g.D.Disk.seen new) (g.D.Disk.seen_is_image new still); leaves = leaves })

pub returns-in-Open-clause-others : goal.returns-in-Open-clause-others
returns-in-Open-clause-others g c = λ tells. λ room. λ n. λ s. λ differ.
    let seen = g.D.Disk.seen c.args.disk.now in
    let place = page_place c.args.number c.args.side in
    let within = place_below c.args.number c.args.side c.requires.number in
    on_ok_weaker c.write_at-in-Open.result (λ is.
    subst (λ (f : List ℕ). page_side n s f ≡ page_side n s seen) (sym (is ∙ ap (λ (p : ℕ). written p (165 ∷ []) seen) c.page_place-place.ensures))
    (others_made c.args.number c.args.side place (165 ∷ []) seen (omega arith) (omega arith) (omega (arith, within, room)) n s differ)) (c.write_at-in-Open.ensures.written tells (omega arith))

pub returns-in-Fill-clause-kept : goal.returns-in-Fill-clause-kept
returns-in-Fill-clause-kept g c = λ tells. λ store. λ marks. λ bodies. λ file. λ marked. λ is. λ was. λ all.
    let seen = g.D.Disk.seen c.args.disk.now in
    let new = c.write_at-in-Fill.new.self in
    let pass_is = c.in-Fill.is in
    let at = subst (λ (p : ℕ). (d : List ℕ) → g.D.Disk.image new d → (e : List ℕ) × g.D.Disk.image c.args.disk.now e × Torn (first_changed (p + 1) seen) (p + 1 + length c.args.body.now) e d) c.page_place-place.ensures (c.write_at-in-Fill.ensures.images tells) in
    let images = subst (λ (k : ℕ). (d : List ℕ) → g.D.Disk.image new d → (e : List ℕ) × g.D.Disk.image c.args.disk.now e
    × Torn (first_changed (page_place c.args.number c.args.side + 1) seen) (page_place c.args.number c.args.side + 1 + k) e d) c.requires.body at in
    let leaves = fill_all store marks bodies file seen (g.D.Disk.image c.args.disk.now) (g.D.Disk.image new) c.args.number c.args.side c.requires.number marked is
    (subst (λ (p : Pass). AllPassed p store marks bodies file seen (g.D.Disk.image c.args.disk.now)) pass_is all) images in
    let still : IsTrue (g.D.Disk.tells new) = subst (λ b. IsTrue b) (sym c.write_at-in-Fill.ensures.tells) tells in
    subst (λ (p : Pass). AllPassed p store marks bodies file (g.D.Disk.seen new) (g.D.Disk.image new)) (sym pass_is)
    (record { room = all.room; reads = leaves (g.D.Disk.seen new) (g.D.Disk.seen_is_image new still); leaves = leaves })

pub returns-in-Fill-clause-done : goal.returns-in-Fill-clause-done
returns-in-Fill-clause-done g c = λ tells. λ room. λ was.
    let seen = g.D.Disk.seen c.args.disk.now in
    let new = g.D.Disk.seen c.write_at-in-Fill.new.self in
    let place = page_place c.args.number c.args.side in
    let body = c.args.body.now in
    let long = c.requires.body in
    let within = place_below c.args.number c.args.side c.requires.number in
    on_ok_weaker c.write_at-in-Fill.result (λ is. subst (λ (p : Pass). PassDone p body (page_side c.args.number c.args.side new)) (sym c.in-Fill.is)
    (subst (λ (f : List ℕ). drop 1 (page_side c.args.number c.args.side f) ≡ body) (sym (is ∙ ap (λ (p : ℕ). written (p + 1) body seen) c.page_place-place.ensures))
    (body_made place body seen long (omega (arith, within, room))))) (c.write_at-in-Fill.ensures.written tells (omega (arith, long)))

pub returns-in-Fill-clause-others : goal.returns-in-Fill-clause-others
returns-in-Fill-clause-others g c = λ tells. λ room. λ n. λ s. λ differ.
    let seen = g.D.Disk.seen c.args.disk.now in
    let place = page_place c.args.number c.args.side in
    let body = c.args.body.now in
    let long = c.requires.body in
    let within = place_below c.args.number c.args.side c.requires.number in
    on_ok_weaker c.write_at-in-Fill.result (λ is.
    subst (λ (f : List ℕ). page_side n s f ≡ page_side n s seen) (sym (is ∙ ap (λ (p : ℕ). written (p + 1) body seen) c.page_place-place.ensures))
    (others_made c.args.number c.args.side (place + 1) body seen (omega arith) (omega (arith, long)) (omega (arith, long, within, room)) n s differ)) (c.write_at-in-Fill.ensures.written tells (omega (arith, long)))
