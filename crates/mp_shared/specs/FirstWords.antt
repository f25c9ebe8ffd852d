-- The words of a table before any step.
use Rattle.std.specs.Prelude.{ℕ, ◌==◌, ◌&&◌, nat_le, nat_lt, if◌then◌else◌}
use Rattle.mp_core_trx.specs.declared.opening.Base.{Base}
use Rattle.mp_core.specs.declared.words.TheConstants.{TSO_WORD, LLSN_WORDS, DOWN_WORDS}

-- the timestamp oracle has the base timestamp, the LLSNs up to a word the base LLSN, and all other words are 0
abbrev pub word_up_to : ℕ → Base → ℕ → ℕ
word_up_to end base k =
    if k == TSO_WORD then base.ts else (if nat_le LLSN_WORDS k && nat_lt k end then base.llsn else 0)

-- the LLSNs of the primaries, and behind them those up to which their logs are durable, begin at the base
abbrev pub first_word : Base → ℕ → ℕ
first_word base k = word_up_to DOWN_WORDS base k
