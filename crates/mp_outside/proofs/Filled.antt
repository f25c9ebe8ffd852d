-- Where the front of a slice holds what a file has from a place on, and a read gave more of it behind, a longer front does.
use Rattle.std.proofs.Common.{◌≡◌, ℕ, ◌+◌, ◌≤◌, List, ◌++◌, length, take, drop, sym, ap, ◌∙◌, take-add, append_assoc, drop-drop, length-append, length-take, arith}
use Rattle.std.proofs.lemmas.List.{take_at}
use Rattle.mp_outside.specs.Disks.{GivesBytes}
use borrow.Rule.Slice.PartMut.{put_mid}

front_of : (a b c d : List ℕ) (n m : ℕ) → length a ≡ n → length b ≡ m → take (n + m) (a ++ ((b ++ c) ++ d)) ≡ a ++ b
front_of a b c d n m e f =
    ap (take (n + m)) (simp append_assoc) ∙ take_at (a ++ b) (c ++ d) (n + m) (omega (arith, length-append a b))

pub filled_more : (file into part got : List ℕ) (place n k count : ℕ) → n ≤ length into → take n into ≡ take n (drop place file)
    → GivesBytes file (place + n) count part got → take (n + count) (put_mid n k into got) ≡ take (n + count) (drop place file)
filled_more file into part got place n k count le front given =
    let long : length (take n into) ≡ n = omega (arith, length-take n into) in
    let more : length (take count (drop (place + n) file)) ≡ count = omega (arith, length-take count (drop (place + n) file), given.within) in
    rw (given.front) (front_of (take n into) (take count (drop (place + n) file)) (drop count part) _ n count long more
    ∙ rw (front, ← drop-drop n place file) (sym (take-add n count (drop place file))))
