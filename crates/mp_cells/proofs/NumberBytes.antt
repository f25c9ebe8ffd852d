-- A number that is read from bytes is written as the same bytes.
use Rattle.std.proofs.Common.{◌≡◌, ℕ, zero, suc, ◌+◌, ◌*◌, ◌/◌, ◌%◌, ◌^◌, ◌<◌, ◌≤◌, List, [], ◌∷◌, length, take, get_or, refl, sym, ap, ◌∙◌, arith}
use Rattle.std.proofs.Math.Nat.{div-div-eq-div-mul, pow-succ'}
use Rattle.std.specs.Int.{byte_at, bytes_low_first}
use Rattle.byteorder.specs.Endian.{little_bytes, little_number, little_from}
use Rattle.byteorder.specs.Numbers.{little_from-cons}

-- the next byte of a number is a byte of what lies above its lowest one
byte_above : (i b x : ℕ) → b < 256 → byte_at (suc i) (b + 256 * x) ≡ byte_at i x
byte_above zero b x h = let first : 256 ^ 1 ≡ 256 = refl in let e : (b + 256 * x) / 256 ≡ x = omega arith in ap (λ (n : ℕ). n % 256) e
byte_above (suc i) b x h =
    let e : (b + 256 * x) / 256 ≡ x = omega arith in
    ap (λ (n : ℕ). n % 256) (ap (λ (p : ℕ). (b + 256 * x) / p) (pow-succ' 256 (suc i)) ∙ sym (div-div-eq-div-mul (b + 256 * x) 256 (256 ^ suc i)) ∙ ap (λ (n : ℕ). n / 256 ^ suc i) e)

bytes_above : (n i b x : ℕ) → b < 256 → bytes_low_first (suc i) n (b + 256 * x) ≡ bytes_low_first i n x
bytes_above zero i b x h = refl
bytes_above (suc n) i b x h = rw (byte_above i b x h, bytes_above n (suc i) b x h) refl

pub written_again : (width : ℕ) (bytes : List ℕ) → ((i : ℕ) → get_or bytes i 0 < 256) → width ≤ length bytes → little_bytes width (little_number width bytes) ≡ take width bytes
written_again zero bytes fits long = refl
written_again (suc n) [] fits long = absurd (omega arith)
written_again (suc n) (b ∷ bytes) fits long =
    let rest : little_from 1 n (b ∷ bytes) ≡ little_number n bytes = little_from-cons 0 n b bytes in
    let below : b < 256 = fits 0 in
    let low : (b + 256 * little_number n bytes) % 256 ≡ b = omega arith in
    rw (rest, low, bytes_above n 0 b (little_number n bytes) below, written_again n bytes (λ i. fits (suc i)) (omega arith)) refl
