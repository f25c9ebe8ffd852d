-- Small lists of steps on two pages of LLSN 0, by two nodes, that show what the conditions of the steps allow and
-- forbid.
use Rattle.std.specs.Prelude.{ℕ, List, [], ◌∷◌, ◌++◌}
use Rattle.mp_machine.specs.Machine.{run_from}
use Rattle.mp_core_pages.specs.declared.opening.PagesOpening.{PagesOpening}
use Rattle.mp_core_pages.specs.declared.opening.Brief.{Brief}
use Rattle.mp_core_pages.specs.declared.event.PagesEvent.{PagesEvent}
use Rattle.mp_core_pages.specs.declared.event.PagesEvent.TheVariants.{LockWord, UnlockWord, TakeFrame, GiveFrame, StoreLlsn, StoreDurable}
use Rattle.mp_core_pages.specs.Histories.{PrevsFit}
use Rattle.mp_core_pages.specs.PageEvents.{pages_node, PagesAsks}
use Rattle.mp_core_pages.specs.PageWorld.{PagesWorld, pages_part, pages_start, paging}
use Rattle.mp_core_pages.specs.Briefs.{llsn_ops}

abbrev pub two_pages : PagesOpening ℕ
two_pages = record { base = 0; primaries = 2; pages = 0 ∷ 0 ∷ [] }

-- an mtr of a node with one record on page 0
abbrev pub brief : ℕ → ℕ → ℕ → Brief
brief node llsn prev = record { node = node; llsn = llsn; touched = record { page = 0; prev = prev } ∷ [] }

-- the world after these steps
abbrev pub led_to : List (PagesEvent ℕ Brief) → PagesWorld ℕ Brief
led_to events = run_from (paging llsn_ops two_pages) (pages_start two_pages) events

-- the step does not break its condition after these steps
abbrev pub MayFollow : List (PagesEvent ℕ Brief) → PagesEvent ℕ Brief → Type 0
MayFollow events e = PagesAsks llsn_ops two_pages.base (pages_part (led_to events) (pages_node e)) e

-- node 1 comes to write page 0, and is given it
abbrev pub writes_page : List (PagesEvent ℕ Brief)
writes_page = LockWord 1 0 0 256 ∷ TakeFrame 1 0 ∷ GiveFrame 1 0 0 ∷ []

-- both nodes come to read it, and node 1 takes its frame
abbrev pub read_page : List (PagesEvent ℕ Brief)
read_page = LockWord 1 0 0 1 ∷ LockWord 2 0 1 3 ∷ TakeFrame 1 0 ∷ []

-- the writer makes an mtr, and says that it is durable
abbrev pub makes_mtr : List (PagesEvent ℕ Brief)
makes_mtr = writes_page ++ StoreLlsn 1 (brief 1 1 0) ∷ []

abbrev pub forces_mtr : List (PagesEvent ℕ Brief)
forces_mtr = makes_mtr ++ StoreDurable 1 1 ∷ []

-- it puts its content into the frame, and lets the lock go; then node 2 reads the page
abbrev pub hands_over : List (PagesEvent ℕ Brief)
hands_over = forces_mtr ++ TakeFrame 1 0 ∷ GiveFrame 1 0 1 ∷ UnlockWord 1 0 ∷ LockWord 2 0 0 2 ∷ TakeFrame 2 0 ∷ []

-- node 2 comes to write it, and makes the next mtr
abbrev pub goes_on : List (PagesEvent ℕ Brief)
goes_on = hands_over ++ GiveFrame 2 0 1 ∷ LockWord 2 0 2 512 ∷ StoreLlsn 2 (brief 2 2 1) ∷ []

-- two records on one page in an mtr of LLSN 5, where the page had LLSN 3: what they tell of the LLSN before them
abbrev pub TwoPrevs : ℕ → ℕ → Type 0
TwoPrevs first second =
    PrevsFit 5 (λ _. 3) (record { page = 0; prev = first } ∷ record { page = 0; prev = second } ∷ [])
