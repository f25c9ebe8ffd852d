-- Files of which gates of later sides were closed, one after the other.
use Rattle.std.specs.Prelude.{◌≡◌, ◌⊎◌, ℕ, IsTrue, List, length, drop}
use Rattle.mp_store.specs.declared.sides.Side.{Side}
use Rattle.mp_store.specs.Layout.{header_side, page_side}
use Rattle.mp_store.specs.OpenStores.{is_later}

-- a side is as it was, or it was open and of a later generation, and no more than its gate changed
abbrev pub SideShut : ℕ → List ℕ → List ℕ → Type 0
SideShut generation old new = (new ≡ old) ⊎ (IsTrue (is_later generation old) × (drop 1 new ≡ drop 1 old))

-- no more than gates of such sides changed
pub record GatesShut (generation : ℕ) (old new : List ℕ) : Type 0 where
  pub header : (side : Side) → header_side side new ≡ header_side side old
  pub pages : (number : ℕ) (side : Side) → SideShut generation (page_side number side old) (page_side number side new)
  pub long : length new ≡ length old

-- so it is of what a read gives, and of whatever a crash leaves
pub record AllShut (generation : ℕ) (file seen : List ℕ) (image : List ℕ → Type 0) : Type 0 where
  pub reads : GatesShut generation file seen
  pub leaves : (c : List ℕ) → image c → GatesShut generation file c
