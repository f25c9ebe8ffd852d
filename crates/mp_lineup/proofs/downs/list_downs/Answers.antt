-- A primary further: its line is there where it is down.
use Rattle.std.proofs.Common.{◌≡◌, ℕ, ◌+◌, ◌-◌, List, [], ◌∷◌, ◌++◌, length, slice_get, Some, refl, sym, ap, ◌∙◌, arith, append-nil}
use Rattle.std.proofs.lemmas.Option.{slice_get_read}
use Rattle.mp_model.specs.Listed.{Listed}
use Rattle.mp_model.specs.declared.transcripts.Down.{Down}
use Rattle.mp_script.specs.DownLines.{down_lines}
use Rattle.mp_members.specs.Running.{downs_of}
use Rattle.mp_lineup.proofs.ListedDowns.{skips, lists}
use Rattle.mp_lineup.proofs.downs.list_downs.Goals as goal
use Rattle.mp_lineup.proofs.downs.list_downs.Goals.{then-by-ne0+in_ok-push, else-by-ne0}

pub loop-primary-preserved : goal.loop-primary-preserved
loop-primary-preserved g c =
    let primaries = c.args.primaries.now in
    let place = c.loop-primary.primary-index in
    let pr = c.primary-item.result in
    let so_far = c.loop-primary.downs.items in
    let whole = down_lines (downs_of primaries) 1 (length primaries) in
    let rest = down_lines (downs_of primaries) (place + 1 + 1) (length primaries - (place + 1)) in
    let at : slice_get primaries place ≡ Some pr = slice_get_read primaries (length primaries) place pr refl c.loop-primary-test.true c.primary-item.is in
    elim c.if-by-ne0.branch [
      | then-by-ne0+in_ok-push w ↦
          ap (λ (d : Listed Down). d.items ++ rest) w.downs-is
          ∙ ap (λ (l : List Down). l ++ rest) w.in_ok-push.ensures.ok
          ∙ ap (λ (x : Down). (so_far ++ x ∷ []) ++ rest) (λ i. record { primary = w.number-primary.ensures i; by = c.down-by.ensures i })
          ∙ lists primaries place pr at c.loop-primary-test.true so_far whole c.loop-primary.invariant (c.requires place pr at) (λ up. w.if-by-ne0.true (c.down-by.ensures ∙ up))
      | else-by-ne0 w ↦
          ap (λ (d : Listed Down). d.items ++ rest) w.downs-is
          ∙ skips primaries place pr at c.loop-primary-test.true so_far whole c.loop-primary.invariant (sym c.down-by.ensures ∙ w.if-by-ne0.false)
    ]

pub returns : goal.returns
returns g c =
    let primaries = c.args.primaries.now in
    let place = c.loop-primary.primary-index in
    let past = c.loop-primary-test.false in
    let none : length primaries - place ≡ 0 = omega (arith, past) in
    sym (append-nil c.loop-primary.downs.items)
    ∙ ap (λ (k : ℕ). c.loop-primary.downs.items ++ down_lines (downs_of primaries) (place + 1) k) (sym none)
    ∙ c.loop-primary.invariant
