-- What contracts see of a list: its items, and how many pushes need no memory.
use Rattle.std.specs.Prelude.{ℕ, List, refl}
use Rattle.std.specs.Coded.{Coded, code_by, coded×, coded_list, coded_ℕ}

-- the items in their order, and the free places behind them
pub record Listed (T : Type 0) : Type 0 where
  pub items : List T
  pub spare : ℕ

-- a list is stored as the pair of its fields
abbrev pub listed_code : {T : Type 0} → Coded T → Coded (Listed T)
listed_code {T} code = code_by (List T × ℕ) (coded× (coded_list code) coded_ℕ) (λ l. (l.items, l.spare)) (λ p. record { items = p.0; spare = p.1 }) (λ _. refl)
