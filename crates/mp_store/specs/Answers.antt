-- What the answers of a store's calls say.
use Rattle.std.specs.Prelude.{◌≡◌, ℕ, Option, Some, None, Result, Ok, Err}
use Rattle.mp_outside.specs.Faults.{Rose}
use Rattle.mp_store.specs.declared.refusals.StoreRefusal.{StoreRefusal}
use Rattle.mp_store.specs.declared.refusals.StoreRefusal.TheVariants.{NotStore, Disk, Memory}

-- Ok where a check finds no fault, and NotStore at the place of the one that it finds
abbrev pub StoreFinds : {T : Type 0} → Option ℕ → Result T StoreRefusal → Type 0
StoreFinds fault (Ok x) = fault ≡ None
StoreFinds fault (Err (NotStore place)) = fault ≡ Some place
StoreFinds fault (Err Disk) = Unit {0}
StoreFinds fault (Err Memory) = Unit {0}

-- a refusal by the disk comes only where its count of faults rose
abbrev pub StoreCause : {T : Type 0} → ℕ → ℕ → Result T StoreRefusal → Type 0
StoreCause old new (Ok x) = Unit {0}
StoreCause old new (Err (NotStore place)) = Unit {0}
StoreCause old new (Err Disk) = Rose old new
StoreCause old new (Err Memory) = Unit {0}

-- a refusal isn't for want of memory
abbrev pub NeedsNoMemory : {T : Type 0} → Result T StoreRefusal → Type 0
NeedsNoMemory (Ok x) = Unit {0}
NeedsNoMemory (Err (NotStore place)) = Unit {0}
NeedsNoMemory (Err Disk) = Unit {0}
NeedsNoMemory (Err Memory) = ⊥
