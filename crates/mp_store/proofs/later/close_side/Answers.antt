-- A write at such a side's gate changes no more than it.
use Rattle.std.proofs.Common.{◌≡◌, ℕ, ◌+◌, IsTrue, List, [], ◌∷◌, sym, ap, ◌∙◌, subst, arith}
use Rattle.std.proofs.lemmas.Result.{on_ok_weaker}
use Rattle.mp_outside.specs.Disks.{written, first_changed, Torn}
use Rattle.mp_store.specs.Layout.{page_side}
use Rattle.mp_store.specs.OpenStores.{is_later}
use Rattle.mp_store.specs.LaterSides.{GatesShut}
use Rattle.mp_store.proofs.LaterShown.{later_before, gate_shut, others_kept}
use Rattle.mp_store.proofs.later.close_side.Goals as goal

pub returns-then-later-clause-kept : goal.returns-then-later-clause-kept
returns-then-later-clause-kept g c = λ tells. λ generation. λ is. λ file. λ room. λ all.
    let n = c.args.number in
    let s = c.args.side in
    let seen = g.D.Disk.seen c.args.disk.now in
    let later : IsTrue (is_later generation (page_side n s file)) = later_before generation (page_side n s file) (page_side n s seen) (all.reads.pages n s) (sym is ∙ c.if-later.true) in
    let at = c.page_place.ensures in
    let images = subst (λ (p : ℕ). (d : List ℕ) → g.D.Disk.image c.write_at.new.self d → (e : List ℕ) × g.D.Disk.image c.args.disk.now e × Torn (first_changed p seen) (p + 1) e d) at (c.write_at.ensures.images tells) in
    let leaves : (d : List ℕ) → g.D.Disk.image c.write_at.new.self d → GatesShut generation file d =
    λ d left. (let from = images d left in gate_shut generation n s file seen from.0 d c.requires room later all.reads (all.leaves from.0 from.1) from.2) in
    let still : IsTrue (g.D.Disk.tells c.write_at.new.self) = rw (c.write_at.ensures.tells) tells in
    record { reads = leaves (g.D.Disk.seen c.write_at.new.self) (g.D.Disk.seen_is_image c.write_at.new.self still); leaves = leaves }

pub returns-then-later-clause-others : goal.returns-then-later-clause-others
returns-then-later-clause-others g c = λ tells. λ lt. λ n. λ s. λ differ.
    let at = c.page_place.ensures in
    on_ok_weaker c.write_at.result (λ is.
    subst (λ (f : List ℕ). page_side n s f ≡ page_side n s (g.D.Disk.seen c.args.disk.now)) (sym (is ∙ ap (λ (p : ℕ). written p (0 ∷ []) (g.D.Disk.seen c.args.disk.now)) at))
    (others_kept c.args.number c.args.side (g.D.Disk.seen c.args.disk.now) n s lt differ)) (c.write_at.ensures.written tells (omega arith))
