-- The places of transactions lie where the constants say, and all regions together are all words.
use Rattle.std.proofs.Common.{◌≡◌, ◌+◌, ◌*◌, refl}
use Rattle.mp_core_trx.specs.declared.opening.TheConstants.{SLOTS}
use Rattle.mp_core_trx.specs.Events.{at_tso, at_slot}
use Rattle.mp_core.specs.declared.words.TheConstants.{TSO_WORD, SLOT_WORDS, LOCK_WORDS, WORDS}
use Rattle.mp_core.specs.World.{of_trx, core_index}

tso_first : core_index (of_trx at_tso) ≡ TSO_WORD
tso_first = refl

slots_then : core_index (of_trx (at_slot 1 0)) ≡ SLOT_WORDS
slots_then = refl

after_slots : SLOT_WORDS + 8 * SLOTS ≡ LOCK_WORDS
after_slots = refl

all_words : 1 + 8 * SLOTS + 4 * 4096 + 4 * 8 ≡ WORDS
all_words = refl
