-- Where two lists are the same outside a range, and the range of one is put into the other, the lists are the same.
use Rattle.std.proofs.Common.{◌≡◌, ℕ, ◌-◌, ◌≤◌, List, take, drop, sym, ap, ◌∙◌, drop-drop, take-append-drop, arith}
use borrow.Rule.Slice.PartMut.{put_mid}

pub rejoined : {X : Type 0} (xs ys : List X) (from to : ℕ) → from ≤ to → take from xs ≡ take from ys → drop to xs ≡ drop to ys
    → put_mid from (to - from) ys (take (to - from) (drop from xs)) ≡ xs
rejoined xs ys from to le front back =
    let behind : drop (to - from) (drop from ys) ≡ drop (to - from) (drop from xs) =
    drop-drop (to - from) from ys ∙ ap (λ n. drop n ys) (omega arith) ∙ sym back ∙ ap (λ n. drop n xs) (omega arith) ∙ sym (drop-drop (to - from) from xs) in
    rw (behind, take-append-drop (to - from) (drop from xs), ← front) (take-append-drop from xs)
