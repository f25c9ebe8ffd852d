-- What a value of a row is.
use Rattle.std.specs.Prelude.{◌≡◌, ℕ, ◌&&◌, nat_le, Bool, true, List, length, take}
use Rattle.std.specs.List.{list_all}
use Rattle.mp_model.specs.Padded.{IsPadded}

-- a byte that a value may have: the printed ASCII codes, without the space
abbrev pub is_value_byte : ℕ → Bool
is_value_byte b = nat_le 33 b && nat_le b 126

-- 1 to 32 such bytes
abbrev pub is_value : List ℕ → Bool
is_value bytes = nat_le 1 (length bytes) && nat_le (length bytes) 32 && list_all is_value_byte bytes

-- the first len of 32 bytes are a value, and zeros lie behind them
pub record IsInPlace (len : ℕ) (bytes : List ℕ) : Type 0 where
  pub value : is_value (take len bytes) ≡ true
  pub padding : IsPadded 32 0 len bytes
