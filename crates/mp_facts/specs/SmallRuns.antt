-- Small lists of steps over the first three pages of a fresh store, by two primaries on one key: node 1 puts a row, and node 2
-- is given the page; or node 1 puts the former row back.
use Rattle.std.specs.Prelude.{ℕ, List, [], ◌∷◌, ◌++◌, map, None}
use Rattle.mp_machine.specs.Machine.{run_from, AllowedFrom}
use Rattle.mp_cells.specs.SmallMaps.{fresh_map}
use Rattle.mp_core_trx.specs.declared.event.TrxEvent.TheVariants.{StoreActive, StoreEnd}
use Rattle.mp_core_pages.specs.declared.event.PagesEvent.TheVariants.{LockWord, UnlockWord, TakeFrame, GiveFrame, StoreLlsn, StoreDurable}
use Rattle.mp_histories.specs.Histories.{pages_after}
use Rattle.mp_histories.specs.SmallHistory.{small_trx, small_put, small_restore}
use Rattle.mp_core.specs.declared.opening.CoreOpening.{CoreOpening}
use Rattle.mp_core.specs.declared.event.CoreEvent.{CoreEvent}
use Rattle.mp_core.specs.declared.event.CoreEvent.TheVariants.{Trx, Pages}
use Rattle.mp_core.specs.World.{CoreWorld, core_start, core}

-- the logs end at LLSN 4
abbrev pub three_pages : CoreOpening
three_pages = record {
  trx = record { base = record { ts = 0; llsn = 4; version = 0 }; primaries = 2; begins = 2 };
  pages = fresh_map 0 ∷ fresh_map 1 ∷ fresh_map 2 ∷ [];
}

abbrev pub world_after : List CoreEvent → CoreWorld
world_after events = run_from (core three_pages) (core_start three_pages) events

-- each of these steps may come when it does
abbrev pub MayAllCome : List CoreEvent → Type 0
MayAllCome events = AllowedFrom (core three_pages) (core_start three_pages) events

-- node 1 comes to write a page that nobody holds, and is given it
abbrev pub comes_to_write : ℕ → List CoreEvent
comes_to_write k = Pages (LockWord 1 k 0 256) ∷ Pages (TakeFrame 1 k) ∷ Pages (GiveFrame 1 k (fresh_map k)) ∷ []

-- its first transaction begins and puts a row
abbrev pub puts_row : List CoreEvent
puts_row = Trx (StoreActive 1 (small_trx 0)) ∷ comes_to_write 0 ++ comes_to_write 1 ++ comes_to_write 2 ++ Pages (StoreLlsn 1 small_put) ∷ []

-- and puts the former row back, and is over
abbrev pub then_puts_back : List CoreEvent
then_puts_back = Pages (StoreLlsn 1 small_restore) ∷ Trx (StoreEnd 1 (small_trx 0) None) ∷ []

-- or the put is durable, node 1 lets its leaf go, and node 2 comes to read it and is given it
abbrev pub then_hands_over : List CoreEvent
then_hands_over = map Pages (StoreDurable 1 5 ∷ TakeFrame 1 1 ∷ GiveFrame 1 1 (pages_after fresh_map (small_put ∷ []) 1) ∷ UnlockWord 1 1 ∷ LockWord 2 1 0 2 ∷ TakeFrame 2 1 ∷ [])

-- the whole runs
abbrev pub puts_back : List CoreEvent
puts_back = puts_row ++ then_puts_back

abbrev pub hands_leaf_over : List CoreEvent
hands_leaf_over = puts_row ++ then_hands_over
