-- A slot's word and what it shows are one and the same.
use Rattle.std.proofs.Common.{◌≡◌, ℕ, zero, suc, ◌/◌, ◌%◌, ◌^◌, ◌<◌, refl, ap, ◌∙◌, arith}
use Rattle.mp_core_trx.specs.declared.slot.SlotTag.{SlotTag}
use Rattle.mp_core_trx.specs.declared.slot.SlotTag.TheVariants.{Free, Active, Prep, Committed}
use Rattle.mp_core_trx.specs.declared.slot.Shown.{Shown}
use Rattle.mp_core_trx.specs.Words.{tag_number, tag_of, word_showing, shown_of}

pub tag_number-below : (tag : SlotTag) → tag_number tag < 4
tag_number-below Free = omega arith
tag_number-below Active = omega arith
tag_number-below Prep = omega arith
tag_number-below Committed = omega arith

tag_again : (tag : SlotTag) → tag_of (tag_number tag) ≡ tag
tag_again Free = refl
tag_again Active = refl
tag_again Prep = refl
tag_again Committed = refl

-- what is shown is read again
pub shown_again : (x : Shown) → x.version < 2 ^ 24 → shown_of (word_showing x) ≡ x
shown_again x fits =
    let small = tag_number-below x.tag in
    let tag : word_showing x % 4 ≡ tag_number x.tag = omega arith in
    let version : word_showing x / 4 % 2 ^ 24 ≡ x.version = omega arith in
    let cts : word_showing x / 2 ^ 26 ≡ x.cts = omega arith in
    λ i. record { tag = (ap tag_of tag ∙ tag_again x.tag) i; version = version i; cts = cts i }

number_again : (k : ℕ) → k < 4 → tag_number (tag_of k) ≡ k
number_again zero h = refl
number_again (suc zero) h = refl
number_again (suc (suc zero)) h = refl
number_again (suc (suc (suc zero))) h = refl
number_again (suc (suc (suc (suc k)))) h = absurd (omega arith)

-- what a word of 64 bits shows is written as that word
pub word_again : (word : ℕ) → word < 2 ^ 64 → word_showing (shown_of word) ≡ word
word_again word fits = let tag = number_again (word % 4) (omega arith) in omega arith

-- a word fits 64 bits
pub word_fits : (x : Shown) → x.version < 2 ^ 24 → x.cts < 2 ^ 38 → word_showing x < 2 ^ 64
word_fits x version cts = let small = tag_number-below x.tag in omega arith
