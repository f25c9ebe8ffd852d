-- Edits of a list in the front of an array.
use Rattle.std.proofs.Common.{◌≡◌, ℕ, ◌+◌, ◌-◌, ◌<◌, ◌≤◌, List, [], ◌∷◌, ◌++◌, length, take, drop, get_or, set, replicate, refl, sym, ap, ◌∙◌, arith}
use Rattle.std.proofs.lemmas.List.{length-set, length-take, length-drop, length-append, length-replicate, drop-drop, drop-replicate, drop_more, set_at, replicate_more, append_assoc, drop-set-add, take_more_set, take_at, drop_at, take-set-le, drop-set-lt, take-take, drop-take}
use Rattle.std.proofs.lemmas.Slice.{take-put_mid, drop-put_mid}
use borrow.Rule.Slice.PartMut.{put_mid}
use Rattle.std.specs.List.{insert}
use Rattle.mp_model.specs.Padded.{IsPadded}

-- an array that keeps its blanks behind a longer list
pub IsPadded-longer : {T : Type 0} {n : ℕ} {blank : T} {len : ℕ} {cells : List T} (len' : ℕ) (cells' : List T) → IsPadded n blank len cells → len ≤ len' → len' ≤ n → length cells' ≡ length cells → drop len' cells' ≡ drop len' cells → IsPadded n blank len' cells'
IsPadded-longer {T} {n} {blank} {len} {cells} len' cells' h longer room whole rest =
    let k : len + (len' - len) ≡ len' = omega arith in
    record {
      room = room;
      whole = whole ∙ h.whole;
      rest = rest ∙ ap (λ (i : ℕ). drop i cells) (sym k) ∙ sym (drop-drop (len' - len) len cells) ∙ ap (drop (len' - len)) h.rest ∙ drop-replicate (len' - len) (n - len) blank ∙ ap (λ (i : ℕ). replicate i blank) (omega arith);
    }

-- one blank more in front
pub one_more_blank : {T : Type 0} (cells : List T) (i : ℕ) (blank : T) → i < length cells → set (replicate i blank ++ drop i cells) i blank ≡ replicate (i + 1) blank ++ drop (i + 1) cells
one_more_blank {T} cells i blank lt =
    ap (λ (rest : List T). set (replicate i blank ++ rest) i blank) (drop_more cells i blank lt)
    ∙ set_at (replicate i blank) (get_or cells i blank) (drop (i + 1) cells) blank i (length-replicate i blank)
    ∙ sym (append_assoc (replicate i blank) (blank ∷ []) (drop (i + 1) cells))
    ∙ ap (λ (front : List T). front ++ drop (i + 1) cells) (replicate_more i blank)

-- the part of the cells from the i-th to the new one behind the last
moved : {T : Type 0} (cells : List T) (len i : ℕ) (cell : T) → i ≤ len → len < length cells → take (len + 1 - i) (drop i (set cells len cell)) ≡ take (len - i) (drop i cells) ++ cell ∷ []
moved {T} cells len i cell within room =
    let k : i + (len - i) ≡ len = omega arith in
    let k1 : len + 1 - i ≡ len - i + 1 = omega arith in
    let at : drop i (set cells len cell) ≡ set (drop i cells) (len - i) cell = ap (λ (n : ℕ). drop i (set cells n cell)) (sym k) ∙ drop-set-add i cells (len - i) cell in
    rw (at, k1) (take_more_set (drop i cells) (len - i) cell (omega (arith, length-drop i cells)))

-- the new one moved to its front
pub rotated : {T : Type 0} (cells : List T) (len i : ℕ) (cell : T) (part turned : List T) → i ≤ len → len < length cells → part ≡ take (len + 1 - i) (drop i (set cells len cell)) → turned ≡ drop (length part - 1) part ++ take (length part - 1) part → turned ≡ cell ∷ take (len - i) (drop i cells)
rotated {T} cells len i cell part turned within room is_part is_turned =
    let m : part ≡ take (len - i) (drop i cells) ++ cell ∷ [] = is_part ∙ moved cells len i cell within room in
    let k : length (take (len - i) (drop i cells)) ≡ len - i = omega (arith, length-take (len - i) (drop i cells), length-drop i cells) in
    let l : length part - 1 ≡ len - i = omega (arith, ap length m, length-append (take (len - i) (drop i cells)) (cell ∷ [])) in
    is_turned ∙ rw (l, m, drop_at (take (len - i) (drop i cells)) (cell ∷ []) (len - i) k, take_at (take (len - i) (drop i cells)) (cell ∷ []) (len - i) k) refl

pub inserted_front : {T : Type 0} (cells : List T) (len i : ℕ) (cell : T) (turned : List T) → i ≤ len → len < length cells → turned ≡ cell ∷ take (len - i) (drop i cells) → take (len + 1) (put_mid i (len + 1 - i) (set cells len cell) turned) ≡ insert (take len cells) i cell
inserted_front {T} cells len i cell turned within room is_turned =
    let n : length turned ≡ len - i + 1 = omega (arith, ap length is_turned, length-take (len - i) (drop i cells), length-drop i cells) in
    let k : i + (len - i) ≡ len = omega arith in
    let front : take i (set cells len cell) ≡ take i (take len cells) = take-set-le i cells len cell within ∙ sym (take-take i len cells within) in
    let back : take (len - i) (drop i cells) ≡ drop i (take len cells) = sym (drop-take i (len - i) cells) ∙ ap (λ (m : ℕ). drop i (take m cells)) k in
    take-put_mid i (len + 1 - i) (set cells len cell) turned (len + 1) (omega arith) (omega (arith, length-set cells len cell))
    ∙ rw (is_turned, front, back) refl

pub inserted_rest : {T : Type 0} (cells : List T) (len i : ℕ) (cell : T) (turned : List T) → i ≤ len → len < length cells → turned ≡ cell ∷ take (len - i) (drop i cells) → drop (len + 1) (put_mid i (len + 1 - i) (set cells len cell) turned) ≡ drop (len + 1) cells
inserted_rest {T} cells len i cell turned within room is_turned =
    let n : length turned ≡ len + 1 - i = omega (arith, ap length is_turned, length-take (len - i) (drop i cells), length-drop i cells) in
    drop-put_mid i (len + 1 - i) (set cells len cell) turned (len + 1) (omega arith) (omega (arith, length-set cells len cell)) n
    ∙ drop-set-lt (len + 1) cells len cell (omega arith)
