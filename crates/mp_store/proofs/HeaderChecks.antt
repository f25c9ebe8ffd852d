-- Where the two sides of a header's home have no fault, the side in force has none, and its version fits.
use Rattle.std.proofs.Common.{◌≡◌, ℕ, ◌+◌, ◌≤◌, ◌<◌, ◌^◌, Bool, true, false, List, [], ◌∷◌, drop, replicate, Option, Some, None, refl}
use Rattle.std.specs.Prelude.{◌&&◌, ◌||◌, not, nat_le, nat_lt, if◌then◌else◌}
use Rattle.std.proofs.lemmas.Bool.{leb-true}
use borrow.Author.Tests.{ltb-true}
use Rattle.mp_cells.specs.Numbers.{number_at}
use Rattle.mp_store.specs.declared.sides.Side.TheVariants.{First, Second}
use Rattle.mp_store.specs.Checks.{unless, only_if, first_of, fixed_fault}
use Rattle.mp_store.specs.Layout.{store_length, is_open, pick}
use Rattle.mp_store.specs.StoreFiles.{length_fault}
use Rattle.mp_store.specs.HeaderSides.{IsHeader, header_mark, header_generation, header_of, numbers_fault, header_fault, headers_fault, header_in}

-- checks that find none: the first finds none, and so do the others
pub none_first : (check : Option ℕ) (checks : List (Option ℕ)) → first_of (check ∷ checks) ≡ None → (check ≡ None) × (first_of checks ≡ None)
none_first None checks h = (refl, h)
none_first (Some place) checks h = absurd (cc)

pub none_three : (a b c : Option ℕ) → first_of (a ∷ b ∷ c ∷ []) ≡ None → (a ≡ None) × (b ≡ None) × (c ≡ None)
none_three None None None h = (refl, refl, refl)
none_three (Some place) b c h = absurd (cc)
none_three None (Some place) c h = absurd (cc)
none_three None None (Some place) h = absurd (cc)

none_fourth : (a b c d : Option ℕ) → first_of (a ∷ b ∷ c ∷ d ∷ []) ≡ None → d ≡ None
none_fourth None b c d h = (none_three b c d h).2
none_fourth (Some place) b c d h = absurd (cc)

pub none_unless : (test : Bool) (place : ℕ) → unless test place ≡ None → test ≡ true
none_unless true place h = refl
none_unless false place h = absurd (cc)

-- the side in force has no fault, by which sides are open and which is later
chosen_sound : (first second later two : Bool) (f g : Option ℕ) → first_of (unless (first || second) 0 ∷ only_if first f ∷ only_if second g ∷ unless two 64 ∷ []) ≡ None
    → pick (if second && (not first || later) then Second else First) f g ≡ None
chosen_sound false false later two f g h = absurd (cc)
chosen_sound true false later two f g h = (none_first f (None ∷ unless two 64 ∷ []) h).0
chosen_sound false true later two f g h = (none_first g (unless two 64 ∷ []) h).0
chosen_sound true true true two f g h = (none_first g (unless two 64 ∷ []) (none_first f (g ∷ unless two 64 ∷ []) h).1).0
chosen_sound true true false two f g h = (none_first f (g ∷ unless two 64 ∷ []) h).0

pub header_sound : (first second : List ℕ) → headers_fault first second ≡ None → pick (header_in first second) (header_fault 0 first) (header_fault 64 second) ≡ None
unfolding headers_fault
header_sound first second h =
    chosen_sound (is_open first) (is_open second) (nat_lt (header_generation first) (header_generation second)) _ (header_fault 0 first) (header_fault 64 second) h

numbers_sound : (place : ℕ) (side : List ℕ) → header_fault place side ≡ None → numbers_fault place side ≡ None
unfolding header_fault
numbers_sound place side h = (none_three (fixed_fault (place + 1) header_mark (drop 1 side)) (numbers_fault place side) (fixed_fault (place + 48) (replicate 16 0) (drop 48 side)) h).1

pub version_fits : (place : ℕ) (side : List ℕ) → header_fault place side ≡ None → (header_of side).version < 2 ^ 24
unfolding header_of
version_fits place side h =
    let version = number_at 40 8 side in
    let last : unless (nat_lt version (2 ^ 24)) (place + 40) ≡ None =
    none_fourth (unless (nat_le 1 (header_generation side)) (place + 16)) (unless (nat_lt (number_at 24 8 side) (2 ^ 38)) (place + 24))
    (unless (nat_lt (number_at 32 8 side) (2 ^ 62)) (place + 32)) (unless (nat_lt version (2 ^ 24)) (place + 40)) (numbers_sound place side h) in
    ltb-true version (2 ^ 24) (none_unless (nat_lt version (2 ^ 24)) (place + 40) last)

-- a header that was read from a side without a fault is one that a side may have
pub header_is : (place : ℕ) (side : List ℕ) → header_fault place side ≡ None → (header_of side).generation < 2 ^ 64 → IsHeader (header_of side)
unfolding header_of
header_is place side h fits =
    let a = unless (nat_le 1 (header_generation side)) (place + 16) in
    let b = unless (nat_lt (number_at 24 8 side) (2 ^ 38)) (place + 24) in
    let c = unless (nat_lt (number_at 32 8 side) (2 ^ 62)) (place + 32) in
    let d = unless (nat_lt (number_at 40 8 side) (2 ^ 24)) (place + 40) in
    let numbers = numbers_sound place side h in
    let rest = none_first a (b ∷ c ∷ d ∷ []) numbers in
    let others = none_three b c d rest.1 in
    record {
      generation_least = leb-true 1 (header_generation side) (none_unless (nat_le 1 (header_generation side)) (place + 16) rest.0);
      generation = fits;
      base = ltb-true (number_at 24 8 side) (2 ^ 38) (none_unless (nat_lt (number_at 24 8 side) (2 ^ 38)) (place + 24) others.0);
      llsn = ltb-true (number_at 32 8 side) (2 ^ 62) (none_unless (nat_lt (number_at 32 8 side) (2 ^ 62)) (place + 32) others.1);
      version = version_fits place side h;
    }

-- a file without a fault of its length has all bytes of a store
pub long_enough : (size : ℕ) → length_fault size ≡ None → store_length ≤ size
long_enough size h =
    let a = unless (nat_le 128 size) 0 in
    let b = unless (nat_le store_length size) size in
    let rest = none_first a (b ∷ []) h in
    leb-true store_length size (none_unless (nat_le store_length size) size (none_first b [] rest.1).0)
