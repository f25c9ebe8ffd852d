-- The layout of a slot's word: the tag in bits 0 and 1, the version in bits 2 to 25, the timestamp in bits 26 to 63.
use Rattle.std.specs.Prelude.{ℕ, ◌+◌, ◌*◌, ◌/◌, ◌%◌, ◌^◌, ◌==◌, if◌then◌else◌}
use Rattle.mp_core_trx.specs.declared.slot.SlotTag.{SlotTag}
use Rattle.mp_core_trx.specs.declared.slot.SlotTag.TheVariants.{Free, Active, Prep, Committed}
use Rattle.mp_core_trx.specs.declared.slot.Shown.{Shown}

abbrev pub tag_number : SlotTag → ℕ
tag_number Free = 0
tag_number Active = 1
tag_number Prep = 2
tag_number Committed = 3

abbrev pub tag_of : ℕ → SlotTag
tag_of k = if k == 0 then Free else (if k == 1 then Active else (if k == 2 then Prep else Committed))

abbrev pub shows : SlotTag → ℕ → ℕ → Shown
shows tag version cts = record { tag = tag; version = version; cts = cts }

-- the word that shows this
abbrev pub word_showing : Shown → ℕ
word_showing x = tag_number x.tag + 4 * x.version + 2 ^ 26 * x.cts

-- what a word shows
abbrev pub shown_of : ℕ → Shown
shown_of word = shows (tag_of (word % 4)) (word / 4 % 2 ^ 24) (word / 2 ^ 26)
