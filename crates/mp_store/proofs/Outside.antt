-- Files that are the same outside a range have the same parts there; a torn file and a written one are such.
use Rattle.std.proofs.Common.{◌≡◌, ◌⊎◌, inl, inr, ℕ, ◌+◌, ◌-◌, ◌≤◌, min, List, ◌++◌, length, take, drop, refl, sym, ap, ◌∙◌, subst, drop-drop, length-take, length-drop, arith}
use Rattle.std.proofs.lemmas.List.{take-take, drop-take, take_at, drop_at}
use Rattle.mp_outside.specs.Disks.{written, first_changed, Torn}
use Rattle.mp_outside.proofs.Images.{written_tears}
use Rattle.mp_store.specs.Layout.{part}
use Rattle.mp_store.specs.SideWrites.{SameOutside}

pub same : (from to : ℕ) (file : List ℕ) → SameOutside from to file file
same from to file = record { before = refl; after = refl; long = refl }

pub trans : (from to : ℕ) (a b c : List ℕ) → SameOutside from to a b → SameOutside from to b c → SameOutside from to a c
trans from to a b c first then_ = record { before = then_.before ∙ first.before; after = then_.after ∙ first.after; long = then_.long ∙ first.long }

take_less : (n m : ℕ) (xs ys : List ℕ) → n ≤ m → take m xs ≡ take m ys → take n xs ≡ take n ys
take_less n m xs ys le e = sym (take-take n m xs le) ∙ ap (take n) e ∙ take-take n m ys le

drop_more_of : (n m : ℕ) (xs ys : List ℕ) → n ≤ m → drop n xs ≡ drop n ys → drop m xs ≡ drop m ys
drop_more_of n m xs ys le e =
    let k = m - n in
    let sum : n + k ≡ m = omega arith in
    let at = λ (zs : List ℕ). sym (ap (λ j. drop j zs) sum) ∙ sym (drop-drop k n zs) in
    at xs ∙ ap (drop k) e ∙ sym (at ys)

pub wider : (from to from' to' : ℕ) (old new : List ℕ) → from' ≤ from → to ≤ to' → SameOutside from to old new → SameOutside from' to' old new
wider from to from' to' old new low high h = record {
  before = take_less from' from new old low h.before;
  after = drop_more_of to to' new old high h.after;
  long = h.long;
}

pub torn_outside : (from to : ℕ) (old new : List ℕ) → from ≤ length old → to ≤ length old → Torn from to old new → SameOutside from to old new
torn_outside from to old new low high h =
    let least : min from (length old) ≡ from = omega arith in
    let rest : length (drop to new) ≡ length (drop to old) = ap length h.after in record {
      before = subst (λ n. take n new ≡ take from old) least h.before;
      after = h.after;
      long = omega (arith, h.no_shorter, length-drop to new, length-drop to old);
    }

pub written_outside : (place : ℕ) (bytes file : List ℕ) → place + length bytes ≤ length file → SameOutside place (place + length bytes) file (written place bytes file)
written_outside place bytes file le =
    let first : first_changed place file ≡ place = omega arith in
    torn_outside place (place + length bytes) file (written place bytes file) (omega arith) le (subst (λ n. Torn n (place + length bytes) file (written place bytes file)) first (written_tears file bytes place))

-- the part that was written
pub part_written : (place : ℕ) (bytes file : List ℕ) → place ≤ length file → part place (length bytes) (written place bytes file) ≡ bytes
part_written place bytes file le =
    let none : place - length file ≡ 0 = omega arith in
    let front : length (take place file) ≡ place = omega (arith, length-take place file) in
    let is : written place bytes file ≡ take place file ++ (bytes ++ drop (place + length bytes) file) = rw none refl in
    rw (is, drop_at (take place file) (bytes ++ drop (place + length bytes) file) place front) (take_at bytes (drop (place + length bytes) file) (length bytes) refl)

-- parts outside the range
part_is : (place width : ℕ) (file : List ℕ) → part place width file ≡ drop place (take (place + width) file)
part_is place width file = sym (drop-take place width file)

pub part_same : (from to place width : ℕ) (old new : List ℕ) → SameOutside from to old new → (place + width ≤ from) ⊎ (to ≤ place) → part place width new ≡ part place width old
part_same from to place width old new h (inl below) =
    part_is place width new ∙ ap (drop place) (take_less (place + width) from new old below h.before) ∙ sym (part_is place width old)
part_same from to place width old new h (inr above) = ap (take width) (drop_more_of to place new old above h.after)

-- a write over what was written in its range is the write alone
pub written_over : (place : ℕ) (bytes old new : List ℕ) → place + length bytes ≤ length old → SameOutside place (place + length bytes) old new
    → written place bytes new ≡ written place bytes old
written_over place bytes old new le h =
    let long : place - length new ≡ place - length old = ap (λ n. place - n) h.long in
    rw (h.before, h.after, long) refl
