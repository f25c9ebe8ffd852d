use Rattle.std.proofs.Common.{arith}
use Rattle.mp_shared.proofs.FirstWords.{words_begin, words_next}
use Rattle.mp_shared.proofs.shared.first_words.Goals as goal

pub loop-i-init : goal.loop-i-init
loop-i-init c = words_begin c.args.base c.args.count c.in_ok-words.words.items (omega (arith, c.requires)) (c.in_ok-words.ensures.items_if_clones_equal (λ y e. e))

pub loop-i-preserved : goal.loop-i-preserved
loop-i-preserved c = words_next c.args.base c.args.count c.loop-i.i c.loop-i.words.items (omega (arith, c.loop-i.auto.i)) (omega (arith, c.loop-i.auto.i, c.loop-i.auto.i-end, c.loop-i-test.true, c.requires)) c.loop-i.invariant
