-- Children: which ones an inner page may keep.
use Rattle.std.specs.Prelude.{ℕ, ◌<◌, ◌^◌, ◌&&◌, Bool, nat_le, nat_lt, IsTrue}
use Rattle.mp_cells.specs.declared.children.Child.{Child}

-- what lies behind the last child of a page
abbrev pub no_child : Child
no_child = record { low = 0; page = 0 }

-- the page of a child
abbrev pub is_child_page : ℕ → Bool
is_child_page page = nat_le 2 page && nat_lt page 4096

-- a child that a page may keep
pub record IsChild (child : Child) : Type 0 where
  pub low : child.low < 2 ^ 32
  pub page : IsTrue (is_child_page child.page)
