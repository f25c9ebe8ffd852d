use Rattle.std.proofs.Common.{◌≡◌, ◌*◌, ◌%◌, ◌∙◌, ap, arith}
use Rattle.mp_core_pages.specs.LockWords.{holder}
use Rattle.mp_core_pages.proofs.LockWords.{holder_writer}
use Rattle.mp_core_pages.proofs.lock_words.exclusive.Goals as goal

pub returns-clause-writes : goal.returns-clause-writes
returns-clause-writes c = λ m from to.
    let node = c.requires.node in
    let is = c.from.ensures in
    let word : c.from.result * 256 % 18446744073709551616 ≡ 256 * c.args.p = omega arith in
    ap (λ x. holder x m) word ∙ holder_writer c.args.p m node.0 from to
