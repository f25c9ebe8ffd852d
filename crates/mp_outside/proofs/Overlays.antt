-- A list over a part of a longer one, and another right behind it.
use Rattle.std.proofs.Common.{◌≡◌, ◌⊎◌, inl, inr, ℕ, ◌+◌, ◌-◌, ◌<◌, ◌≤◌, max, get_or, List, ◌++◌, length, take, drop, refl, sym, ap, ◌∙◌, append_assoc, drop-drop, length-append, length-take, length-drop, arith}
use Rattle.std.proofs.lemmas.List.{take_at, drop_at, take-append-le, take-take, get_or-take, get_or-drop, get_or-append-add, get_or_append_left}
use Rattle.std.proofs.lemmas.Slice.{between_is}
use Rattle.std.proofs.Math.Seq.{take-append-add}
use borrow.Rule.Slice.PartMut.{put_mid}

-- the list with another over its part from a place on
abbrev pub over : {X : Type 0} → ℕ → List X → List X → List X
over at xs ys = take at xs ++ (ys ++ drop (at + length ys) xs)

pub put_mid-over : {X : Type 0} (at k : ℕ) (xs ys : List X) → length ys ≡ k → put_mid at k xs ys ≡ over at xs ys
put_mid-over at k xs ys e = rw (← e, drop-drop (length ys) at xs) refl

pub over-over : {X : Type 0} (a b : ℕ) (xs ys zs : List X) → a ≤ length xs → b ≡ a + length ys → over b (over a xs ys) zs ≡ over a xs (ys ++ zs)
over-over a b xs ys zs le e =
    let front : length (take a xs ++ ys) ≡ b = omega (arith, length-append (take a xs) ys, length-take a xs) in
    let flat : over a xs ys ≡ (take a xs ++ ys) ++ drop (a + length ys) xs = sym (append_assoc (take a xs) ys (drop (a + length ys) xs)) in
    let before : take b (over a xs ys) ≡ take a xs ++ ys = rw flat (take_at _ _ b front) in
    let behind : drop (b + length zs) (over a xs ys) ≡ drop (a + length (ys ++ zs)) xs =
    sym (drop-drop (length zs) b (over a xs ys)) ∙ ap (drop (length zs)) (rw flat (drop_at _ _ b front))
    ∙ drop-drop (length zs) (a + length ys) xs ∙ ap (λ n. drop n xs) (omega (arith, length-append ys zs)) in
    rw (before, behind) (simp append_assoc)

pub over-two : {X : Type 0} (a b e : ℕ) (xs us vs : List X) → a ≤ b → b ≤ length xs → length us ≡ b - a → length vs ≡ e - b
    → put_mid b (e - b) (put_mid a (b - a) xs us) vs ≡ over a xs (us ++ vs)
over-two a b e xs us vs ab bl lu lv =
    let l : a ≤ length xs = omega arith in
    let at : b ≡ a + length us = omega arith in
    put_mid-over b (e - b) (put_mid a (b - a) xs us) vs lv ∙ ap (λ zs. over b zs vs) (put_mid-over a (b - a) xs us lu) ∙ over-over a b xs us vs l at

pub over-three : {X : Type 0} (a b m e : ℕ) (xs us vs ws : List X) → a ≤ b → b ≤ m → m ≤ length xs → length us ≡ b - a → length vs ≡ m - b → length ws ≡ e - m
    → put_mid m (e - m) (put_mid b (m - b) (put_mid a (b - a) xs us) vs) ws ≡ over a xs ((us ++ vs) ++ ws)
over-three a b m e xs us vs ws ab bm ml lu lv lw =
    let l : a ≤ length xs = omega arith in
    let bl : b ≤ length xs = omega arith in
    let at : m ≡ a + length (us ++ vs) = omega (arith, length-append us vs) in
    put_mid-over m (e - m) (put_mid b (m - b) (put_mid a (b - a) xs us) vs) ws lw ∙ ap (λ zs. over m zs ws) (over-two a b m xs us vs ab bl lu lv)
    ∙ over-over a m xs (us ++ vs) ws l at

pub length-over : {X : Type 0} (at : ℕ) (xs ys : List X) → at + length ys ≤ length xs → length (over at xs ys) ≡ length xs
length-over at xs ys le =
    omega (arith, length-append (take at xs) (ys ++ drop (at + length ys) xs), length-append ys (drop (at + length ys) xs), length-take at xs, length-drop (at + length ys) xs)

pub take-over : {X : Type 0} (at n : ℕ) (xs ys : List X) → n ≤ at → at ≤ length xs → take n (over at xs ys) ≡ take n xs
take-over at n xs ys le short =
    let size : n ≤ length (take at xs) = omega (arith, length-take at xs) in
    take-append-le n (take at xs) (ys ++ drop (at + length ys) xs) size ∙ take-take n at xs le

pub drop-over : {X : Type 0} (at n : ℕ) (xs ys : List X) → at + length ys ≤ n → at ≤ length xs → drop n (over at xs ys) ≡ drop n xs
drop-over at n xs ys le short =
    let front : length (take at xs ++ ys) ≡ at + length ys = omega (arith, length-append (take at xs) ys, length-take at xs) in
    let flat : over at xs ys ≡ (take at xs ++ ys) ++ drop (at + length ys) xs = sym (append_assoc (take at xs) ys (drop (at + length ys) xs)) in
    let k = n - (at + length ys) in
    let sum : (at + length ys) + k ≡ n = omega arith in
    ap (λ m. drop m (over at xs ys)) (sym sum) ∙ sym (drop-drop k (at + length ys) (over at xs ys))
    ∙ ap (drop k) (rw flat (drop_at (take at xs ++ ys) (drop (at + length ys) xs) (at + length ys) front)) ∙ drop-drop k (at + length ys) xs ∙ ap (λ m. drop m xs) sum

-- where a list is longer than what was put over it, or ends with it
pub take_over_end : {X : Type 0} (at size : ℕ) (xs ys : List X) → at ≤ length xs
    → take (max size (at + length ys)) (over at xs ys) ≡ take at xs ++ (ys ++ drop (at + length ys) (take size xs))
take_over_end at size xs ys short =
    let front : length (take at xs ++ ys) ≡ at + length ys = omega (arith, length-append (take at xs) ys, length-take at xs) in
    let flat : over at xs ys ≡ (take at xs ++ ys) ++ drop (at + length ys) xs = sym (append_assoc (take at xs) ys (drop (at + length ys) xs)) in
    let k = size - (at + length ys) in
    let sum : max size (at + length ys) ≡ length (take at xs ++ ys) + k = omega arith in
    rw (sum, flat, take-append-add (take at xs ++ ys) (drop (at + length ys) xs) k, between_is xs (at + length ys) size) (append_assoc (take at xs) ys (drop (at + length ys) (take size xs)))

pub get_or-over_out : {X : Type 0} (at p : ℕ) (xs ys : List X) (d : X) → at ≤ length xs → (p < at) ⊎ (at + length ys ≤ p) → get_or (over at xs ys) p d ≡ get_or xs p d
get_or-over_out at p xs ys d le (inl below) = sym (get_or-take at (over at xs ys) p d below) ∙ ap (λ zs. get_or zs p d) (take-over at at xs ys (omega arith) (omega arith)) ∙ get_or-take at xs p d below
get_or-over_out at p xs ys d le (inr above) =
    let n = at + length ys in
    let sum : n + (p - n) ≡ p = omega arith in
    ap (λ m. get_or (over at xs ys) m d) (sym sum) ∙ sym (get_or-drop n (over at xs ys) (p - n) d) ∙ ap (λ zs. get_or zs (p - n) d) (drop-over at n xs ys (omega arith) (omega arith))
    ∙ get_or-drop n xs (p - n) d ∙ ap (λ m. get_or xs m d) sum

pub get_or-over_in : {X : Type 0} (at k : ℕ) (xs ys : List X) (d : X) → at ≤ length xs → k < length ys → get_or (over at xs ys) (at + k) d ≡ get_or ys k d
get_or-over_in at k xs ys d short lt =
    let size : length (take at xs) ≡ at = omega (arith, length-take at xs) in
    ap (λ m. get_or (over at xs ys) (m + k) d) (sym size) ∙ get_or-append-add (take at xs) (ys ++ drop (at + length ys) xs) k d ∙ get_or_append_left ys (drop (at + length ys) xs) d k lt
