-- The one byte read is the byte at the place.
use Rattle.std.proofs.Common.{◌≡◌, ℕ, List, [], ◌∷◌, length, take, drop, get_or, slice_get, Some, zero, suc, refl, ap, rules, arith}
use Rattle.mp_outside.proofs.disk_reading.byte_at.Goals as goal

one_byte : (file into : List ℕ) (place d : ℕ) → length into ≡ 1 → into ≡ take 1 (drop place file) → slice_get file place ≡ Some (get_or into 0 d)
one_byte [] into zero d size is = absurd (omega (arith, ap length is))
one_byte [] into (suc n) d size is = absurd (omega (arith, ap length is))
one_byte (x ∷ file) into zero d size is = rw is refl
one_byte (x ∷ file) into (suc n) d size is = one_byte file into n d size is

pub returns-clause-byte : goal.returns-clause-byte
returns-clause-byte g c = λ tells. one_byte (g.D.Disk.seen c.args.disk.now) c.read_exactly.new.into c.args.place 0 (search rules) (c.in_ok-read_exactly.ensures.bytes tells)
