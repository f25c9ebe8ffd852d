-- Small lists of steps, which say what the conditions allow and what they forbid.
use Rattle.std.specs.Prelude.{List, [], ◌∷◌, Some}
use Rattle.mp_machine.specs.Machine.{AllowedFrom}
use Rattle.mp_model.specs.declared.ids.TrxId.{TrxId}
use Rattle.mp_core_trx.specs.declared.opening.TrxOpening.{TrxOpening}
use Rattle.mp_core_trx.specs.declared.event.TrxEvent.{TrxEvent}
use Rattle.mp_core_trx.specs.declared.event.TrxEvent.TheVariants.{LoadTso, StoreActive, StorePrep, DrawTso, StoreEnd, LoadTit}
use Rattle.mp_core_trx.specs.Parts.{trx}
use Rattle.mp_core_trx.specs.World.{trx_start, transactions}

-- two primaries that begin two transactions, over a base of zeros
abbrev pub two_primaries : TrxOpening
two_primaries = record { base = record { ts = 0; llsn = 0; version = 0 }; primaries = 2; begins = 2 }

-- each of these steps may come when it does
abbrev pub MayRun : List TrxEvent → Type 0
MayRun events = AllowedFrom (transactions two_primaries) (trx_start two_primaries) events

-- the first transaction of primary 1, in its slot 0 with version 1
abbrev pub first_trx : TrxId
first_trx = trx 1 0 1

-- it begins, and then these steps come
abbrev pub begun_then : List TrxEvent → List TrxEvent
begun_then events = LoadTso 1 ∷ StoreActive 1 first_trx ∷ events

-- it begins, prepares and draws, and then these steps come
abbrev pub drawn_then : List TrxEvent → List TrxEvent
drawn_then events = begun_then (StorePrep 1 first_trx ∷ DrawTso 1 first_trx ∷ events)

-- primary 1 commits, and primary 2 looks at its slot and at the TSO
abbrev pub one_commit : List TrxEvent
one_commit = drawn_then (StoreEnd 1 first_trx (Some 1) ∷ LoadTit 2 1 0 ∷ LoadTso 2 ∷ [])
