use Rattle.std.proofs.Common.{rules, ◌≡◌, length, None, Some, slice_index_or, sym, ap, ◌∙◌, subst, arith}
use Rattle.std.proofs.lemmas.List.{get_or_default}
use Rattle.mp_shared.specs.LockTables.{NotesLocks}
use Rattle.mp_shared.proofs.FirstHeld.{first_noted}
use Rattle.mp_shared.proofs.held_locks.HeldLocks.next.Goals as goal

pub returns-in-Some : goal.returns-in-Some
returns-in-Some c = λ held notes.
    let few : length c.args.self.now.tables ≡ 9 = search rules in
    let is : slice_index_or c.args.self.now.tables c.args.p None ≡ Some c.in-Some.table =
    ap (λ i. slice_index_or c.args.self.now.tables i None) (sym c.from.ensures)
    ∙ get_or_default c.args.self.now.tables c.from.result None c.index-self-from.result (omega (arith, few, c.from.ensures, c.requires)) ∙ c.in-Some.is in
    first_noted _ held (subst (λ o. NotesLocks o held) is notes) c.args.from c.next.result c.next.ensures
