use Rattle.std.proofs.Common.{◌≡◌, ◌<◌, ◌≤◌, ◌*◌, ◌/◌, false, List, slice_index_or, sym, ap, ◌∙◌, ⊎_elim, arith}
use Rattle.std.proofs.lemmas.Bool.{cases_lt}
use Rattle.mp_core_pages.specs.declared.page_lock.Held.{Held}
use Rattle.mp_core_pages.specs.declared.page_lock.Held.TheVariants.{No}
use Rattle.mp_shared.proofs.lock_table.LockTable.next.Goals as goal
use Rattle.mp_shared.proofs.lock_table.LockTable.next.Goals.{then-self-group+in_default, else-self-group}

pub loop-group-preserved : goal.loop-group-preserved
loop-group-preserved c = λ j from below.
    ⊎_elim
    (λ before. c.loop-group.invariant j from before)
    (λ later.
    let less : c.loop-group.group < 64 = c.loop-group-test.true in
    elim c.if-self-group.branch [
      | then-self-group+in_default w ↦
          let low : w.max-low.result ≤ j = omega (arith, w.max-low.ensures, c.from-from.ensures, from, later) in
          ap (λ (l : List Held). slice_index_or l j No) (sym c.self.view_is ∙ sym w.deref.ensures.value) ∙ w.in_default.ensures j low below
      | else-self-group w ↦
          let group : j / 64 ≡ c.loop-group.group = omega (arith, below, later) in
          ap (λ (l : List Held). slice_index_or l j No) (sym c.self.view_is)
          ∙ c.self.invariant.1 j (omega (arith, less, below)) (ap (λ g. slice_index_or c.self.inside.flags g false) group ∙ w.if-self-group.false)
    ])
    (cases_lt j (c.loop-group.group * 64))
