use Rattle.std.proofs.Common.{◌≡◌, ℕ, ◌+◌, ◌<◌, ◌≤◌, ◌⊎◌, [], ◌∷◌, Option, None, Some, refl, sym, ap, ◌∙◌, inl, inr, ⊎_elim, arith, lit≤, lit<, ◌==◌, if◌then◌else◌}
use Rattle.mp_machine.specs.View.{part_in}
use Rattle.mp_core_pages.specs.declared.page_lock.Held.TheVariants.{No, Read, Write}
use Rattle.mp_core_pages.specs.LockWords.{holder}
use Rattle.mp_core_pages.proofs.Choices.{if_differs}
use Rattle.mp_core_pages.proofs.LockWords.{holder_writer, no_writer, alone_before}
use Rattle.mp_core.specs.declared.part.CorePart.{CorePart}
use Rattle.mp_shared.specs.Nodes.{Run, NodeView}
use Rattle.mp_shared.specs.PageSteps.{held_in}
use Rattle.mp_shared.specs.SmallNodes.{node_of_first, holding_zero}
use Rattle.mp_lock_fusion.specs.LockCalls.{TookToRead}
use Rattle.mp_lock_fusion.proofs.laws.law_lock_calls_examples.Goals as goal

no_write : No ≡ Write → ⊥
no_write e = cc

read_no : Read ≡ No → ⊥
read_no e = cc

read_write : Read ≡ Write → ⊥
read_write e = cc

-- how many operations the part of node 1 has made
abbrev ops_of : Option CorePart → ℕ
ops_of (Some q) = q.ops
ops_of None = 0

pub returns-clause-writer : goal.returns-clause-writer
returns-clause-writer c = (2, lit≤ tt, lit≤ tt, (λ e. absurd (omega (arith, e))), refl)

pub returns-clause-own_writer : goal.returns-clause-own_writer
returns-clause-own_writer c = λ w. no_write (sym (holder_writer 2 w.0 (lit≤ tt) w.1 w.2 ∙ if_differs w.0 2 Write No w.3) ∙ w.4)

pub returns-clause-no_writer : goal.returns-clause-no_writer
returns-clause-no_writer c = λ w. no_writer 3 w.0 (lit< tt) w.1 w.4

pub returns-clause-reader : goal.returns-clause-reader
returns-clause-reader c = (2, lit≤ tt, lit≤ tt, (λ e. absurd (omega (arith, e))), read_no)

pub returns-clause-own_reader : goal.returns-clause-own_reader
returns-clause-own_reader c = λ w. w.4 ((alone_before 1 1 (lit≤ tt) (lit≤ tt) (inr refl)).1 w.0 w.1 w.3)

pub returns-clause-first_word : goal.returns-clause-first_word
returns-clause-first_word c = λ run k. ([], tt, (λ n p has. absurd (nothing n p has)), refl)
  where
    nothing : (n : ℕ) (p : CorePart) → part_in [] n ≡ Some p → ⊥
    nothing n p e = cc

pub returns-clause-reads_still : goal.returns-clause-reads_still
returns-clause-reads_still c = λ run q. inl (read_no, refl)

pub returns-clause-writes_still : goal.returns-clause-writes_still
returns-clause-writes_still c = λ run q. inl (refl, refl)

pub returns-clause-not_yet_writes : goal.returns-clause-not_yet_writes
returns-clause-not_yet_writes c = λ run q came.
    ⊎_elim
    (λ kept. read_write kept.0)
    (λ took. let same : q.ops ≡ q.ops + 1 = ap (λ (n : NodeView). ops_of (part_in n.parts 1)) took.1 in absurd (omega (arith, same)))
    came

pub returns-clause-not_yet_reads : goal.returns-clause-not_yet_reads
returns-clause-not_yet_reads c = λ run q came.
    ⊎_elim
    (λ kept. kept.0 refl)
    (λ (took : TookToRead 1 0 (node_of_first run (holding_zero No q)) (node_of_first run (holding_zero No q))). let same : q.ops ≡ q.ops + took.tries = ap (λ (n : NodeView). ops_of (part_in n.parts 1)) took.becomes in let some = took.some in absurd (omega arith))
    came
