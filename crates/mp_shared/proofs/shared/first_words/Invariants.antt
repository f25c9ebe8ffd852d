use Rattle.mp_shared.proofs.FirstWords.{WordsUpTo}
use Rattle.mp_shared.proofs.shared.first_words.Given as goal

-- the LLSNs up to this word are written
abbrev pub invariant-loop-i : goal.invariant-loop-i
invariant-loop-i l = WordsUpTo l.base l.i l.count l.words.items
