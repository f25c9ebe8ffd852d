use Rattle.std.proofs.Common.{◌^◌, ◌-◌, bit_and, bit_or, ap, ◌∙◌}
use Rattle.mp_core_pages.specs.LockWords.{holder}
use Rattle.mp_core_pages.proofs.LockWords.{holder_release, one_bit}
use Rattle.mp_core_pages.proofs.lock_words.release_mask.Goals as goal

pub returns-clause-frees : goal.returns-clause-frees
returns-clause-frees c = λ word m lock has from to.
    let node = c.requires.node in
    ap (λ bit. holder (bit_and word (2 ^ 64 - 1 - bit_or bit 3840)) m) (one_bit c.args.p node.0 node.1)
    ∙ holder_release word c.args.p node.0 node.1 has lock m from to
