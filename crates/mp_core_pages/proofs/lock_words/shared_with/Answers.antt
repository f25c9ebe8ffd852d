use Rattle.std.proofs.Common.{◌+◌, sym, ap, ◌∙◌, subst, inl}
use Rattle.mp_core_pages.specs.LockWords.{holder, IsLockWord}
use Rattle.mp_core_pages.proofs.LockWords.{holder_reader, reader_small, one_bit}
use Rattle.mp_core_pages.proofs.lock_words.shared_with.Goals as goal

pub returns-clause-word : goal.returns-clause-word
returns-clause-word c =
    let node = c.requires.node in
    subst (λ bit. IsLockWord (c.args.word + bit)) (sym (one_bit c.args.p node.0 node.1))
    (inl (reader_small c.args.word c.args.p node.0 node.1 c.requires.lacks))

pub returns-clause-reads : goal.returns-clause-reads
returns-clause-reads c = λ m from to.
    let node = c.requires.node in
    ap (λ bit. holder (c.args.word + bit) m) (one_bit c.args.p node.0 node.1)
    ∙ holder_reader c.args.word c.args.p node.0 node.1 c.requires.lacks m from to

pub returns-clause-takes : goal.returns-clause-takes
returns-clause-takes c =
    let node = c.requires.node in
    (c.requires.lacks, ap (λ bit. c.args.word + bit) (one_bit c.args.p node.0 node.1))
