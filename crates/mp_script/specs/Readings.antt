-- What the reader's own calls answer.
use Rattle.std.specs.Prelude.{◌≡◌, Result, Ok, Err}
use Rattle.mp_script.specs.declared.reading.ScriptRefusal.{ScriptRefusal}
use Rattle.mp_script.specs.declared.reading.ScriptRefusal.TheVariants.{Fault, Memory}
use Rattle.mp_script.specs.Faults.{FaultAt}

-- the answer shows what is wanted, or is the fault that is found, or there was no memory
abbrev pub GivesSaid : {T U : Type 0} → (T → U) → Result U FaultAt → Result T ScriptRefusal → Type 0
GivesSaid shown wanted (Ok x) = wanted ≡ Ok (shown x)
GivesSaid shown wanted (Err (Fault fault line)) = wanted ≡ Err (record { fault = fault; line = line })
GivesSaid shown wanted (Err Memory) = Unit {0}
