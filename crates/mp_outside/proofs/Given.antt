-- What a read copies to the front of a slice is the front of what was left, and it is none only at the end.
use Rattle.std.proofs.Common.{◌≡◌, ℕ, ◌+◌, ◌<◌, List, [], ◌++◌, length, take, drop, min, sym, ap, length-append, length-take, length-drop, take-append-drop, take_at, drop-drop, arith}
use Rattle.std.proofs.lemmas.List.{drop_all}

pub given : (bytes into front : List ℕ) (at n : ℕ) → n ≡ min (length into) (length (drop at bytes)) → front ≡ take n (drop at bytes)
    → (drop at bytes ≡ take n (front ++ drop n into) ++ drop (at + n) bytes) × (n ≡ 0 → 0 < length (front ++ drop n into) → drop (at + n) bytes ≡ [])
given bytes into front at n least is =
    let size : length front ≡ n = omega (arith, ap length is, length-take {A = ℕ}) in (
      rw (take_at front (drop n into) n size, ← drop-drop n at bytes, is) (sym (take-append-drop n (drop at bytes))),
      λ none some. drop_all (at + n) bytes (omega (arith, length-append {A = ℕ}, length-drop {A = ℕ})),
    )
