-- All nodes together: the components side by side, and the abstract machine that they are.
use Rattle.std.specs.Prelude.{ℕ, ◌+◌, ◌-◌, ◌≤◌, List, [], length, Option, None}
use Rattle.atomic_table.specs.Table.{Act, keeps}
use Rattle.mp_machine.specs.Lists.{updated}
use Rattle.mp_machine.specs.Machine.{Machine}
use Rattle.mp_core_trx.specs.declared.event.TrxEvent.{TrxEvent}
use Rattle.mp_core_trx.specs.declared.event.TrxEvent.TheVariants.{LoadTso, StoreActive, StorePrep, DrawTso, StoreEnd, LoadTit}
use Rattle.mp_core_trx.specs.Events.{TrxPlace, IsNode, IsTrxPlace, trx_index, trx_node_of, trx_place_of, trx_word_after, trx_made, TrxAllowed}
use Rattle.mp_core_trx.specs.Parts.{newest}
use Rattle.mp_core_trx.specs.World.{TrxWorld, trx_content, trx_after, trx_start}
use Rattle.mp_cells.specs.declared.records.Mtr.{Mtr}
use Rattle.mp_cells.specs.PageView.{PageView}
use Rattle.mp_core_pages.specs.declared.event.PagesEvent.{PagesEvent}
use Rattle.mp_core_pages.specs.declared.event.PagesEvent.TheVariants.{LockWord, UnlockWord, TakeFrame, GiveFrame, StoreLlsn, StoreDurable}
use Rattle.mp_core_pages.specs.PageEvents.{PagesPlace, lock_of, turn_of, llsn_word, durable_word, IsPagesPlace, PagesNote, pages_node, pages_place, pages_act, PagesCarries, pages_word, pages_made, PagesAsks}
use Rattle.mp_core_pages.specs.PageWorld.{PagesWorld, frame_found, pages_part, pages_start, pages_content, pages_after}
use Rattle.mp_core.specs.declared.words.TheConstants.{LOCK_WORDS, LLSN_WORDS, DURABLE_WORDS, DOWN_WORDS, TURN_WORDS}
use Rattle.mp_core.specs.declared.opening.CoreOpening.{CoreOpening}
use Rattle.mp_core.specs.declared.part.CorePart.{CorePart}
use Rattle.mp_core.specs.declared.part.DownPart.{DownPart}
use Rattle.mp_core.specs.declared.event.CoreEvent.{CoreEvent}
use Rattle.mp_core.specs.declared.event.CoreEvent.TheVariants.{Trx, Pages, Down}
use Rattle.mp_core.specs.Contents.{page_ops, pages_opening}
use Rattle.mp_core.specs.Commits.{EndsInLog}
use Rattle.mp_core.specs.MtrKinds.{MayLog}
use Rattle.mp_core.specs.Downs.{first_down_part, down_node, down_place, down_word, down_made, DownAsks, downs_after}

-- what a slot of the table holds
abbrev pub Frame : Type 0
Frame = PageView

-- what an event notes: the page in a frame, how many mtrs were made, and the greatest timestamp that its node knows
abbrev pub Note : Type 0
Note = PagesNote PageView

-- a place by its component; the last is the word that tells whether a primary is down
pub data CorePlace : Type 0 where
  of_trx : TrxPlace → CorePlace
  of_pages : PagesPlace → CorePlace
  of_down : ℕ → CorePlace

-- The components, what each node knows of primaries that are down, and how many operations on words each node has made
pub record CoreWorld : Type 0 where
  pub trx : TrxWorld
  pub pages : PagesWorld PageView Mtr
  pub downs : ℕ → DownPart
  pub ops : ℕ → ℕ

-- an opening for one primary that begins nothing, over a store without pages
abbrev pub empty_opening : CoreOpening
empty_opening = record {
  trx = record { base = record { ts = 0; llsn = 0; version = 0 }; primaries = 1; begins = 0 };
  pages = [];
}

abbrev pub core_start : CoreOpening → CoreWorld
core_start opening = record {
  trx = trx_start opening.trx;
  pages = pages_start (pages_opening opening);
  downs = λ _. first_down_part;
  ops = λ _. 0;
}

abbrev pub core_node_of : CoreEvent → ℕ
core_node_of (Trx e) = trx_node_of e
core_node_of (Pages e) = pages_node e
core_node_of (Down e) = down_node e

-- the greatest timestamp that a node knows
abbrev pub known_by : CoreWorld → ℕ → ℕ
known_by w n = newest (w.trx.part n)

-- the world after an event, in the event's component
abbrev pub component_after : CoreWorld → CoreEvent → CoreWorld
component_after w (Trx e) = record w { trx = trx_after w.trx e }
component_after w (Pages e) = record w { pages = pages_after page_ops (known_by w (pages_node e)) w.pages e }
component_after w (Down e) = record w { downs = downs_after w.downs e }

-- and then, since each event is one operation of its node
abbrev pub core_after : CoreWorld → CoreEvent → CoreWorld
core_after w e = record (component_after w e) { ops = updated w.ops (core_node_of e) (w.ops (core_node_of e) + 1) }

-- a node's part is its parts in the components, and its count of operations
abbrev pub core_part : CoreWorld → ℕ → CorePart
core_part w n = record { trx = w.trx.part n; pages = pages_part w.pages n; downs = w.downs n; ops = w.ops n }

abbrev pub core_content : CoreOpening → CoreWorld → CorePlace → ℕ
core_content opening w (of_trx a) = trx_content w.trx a
core_content opening w (of_pages a) = pages_content page_ops opening.trx.base.llsn w.pages a
core_content opening w (of_down n) = (w.downs n).own

abbrev pub IsCorePlace : CorePlace → Type 0
IsCorePlace (of_trx a) = IsTrxPlace a
IsCorePlace (of_pages a) = IsPagesPlace a
IsCorePlace (of_down n) = (1 ≤ n) × (n ≤ 8)

-- where the words of pages lie
abbrev pub page_word_index : PagesPlace → ℕ
page_word_index (lock_of k) = LOCK_WORDS + k
page_word_index (turn_of k) = TURN_WORDS + k
page_word_index (llsn_word n) = LLSN_WORDS + (n - 1)
page_word_index (durable_word n) = DURABLE_WORDS + (n - 1)

-- the words of transactions are the first
abbrev pub core_index : CorePlace → ℕ
core_index (of_trx a) = trx_index a
core_index (of_pages a) = page_word_index a
core_index (of_down n) = DOWN_WORDS + (n - 1)

abbrev pub core_place_of : CoreEvent → CorePlace
core_place_of (Trx e) = of_trx (trx_place_of e)
core_place_of (Pages e) = of_pages (pages_place e)
core_place_of (Down e) = of_down (down_place e)

abbrev pub core_word_after : CoreEvent → ℕ → ℕ
core_word_after (Trx e) found = trx_word_after e found
core_word_after (Pages e) found = pages_word page_ops e found
core_word_after (Down e) found = down_word e found

-- what an event makes of the part in its component, by the word found and the note
abbrev pub component_made : CoreEvent → ℕ → Note → CorePart → CorePart
component_made (Trx e) found x p = record p { trx = trx_made e found p.trx }
component_made (Pages e) found x p = record p { pages = pages_made page_ops e found x p.pages }
component_made (Down e) found x p = record p { downs = down_made e found p.downs }

-- and then it counts as one operation
abbrev pub core_made : CoreEvent → ℕ → Note → CorePart → CorePart
core_made e found x p = record (component_made e found x p) { ops = p.ops + 1 }

-- what a step of transactions asks of the other components of its node's part: the end of a transaction asks for its
-- durable commit record
abbrev pub MayHere : CorePart → TrxEvent → Type 0
MayHere p (LoadTso n) = Unit {0}
MayHere p (StoreActive n id) = Unit {0}
MayHere p (StorePrep n id) = Unit {0}
MayHere p (DrawTso n id) = Unit {0}
MayHere p (StoreEnd n id cts) = EndsInLog p id cts
MayHere p (LoadTit n whose slot) = Unit {0}

-- what a step on pages asks besides what the page core asks
abbrev pub MayPage : CorePart → PagesEvent PageView Mtr → Type 0
MayPage p (LockWord n k old new) = Unit {0}
MayPage p (UnlockWord n k) = Unit {0}
MayPage p (TakeFrame n k) = Unit {0}
MayPage p (GiveFrame n k y) = Unit {0}
MayPage p (StoreLlsn n m) = MayLog p m
MayPage p (StoreDurable n v) = Unit {0}

-- the condition of an event on its node's part: that of its component, and what it asks of the others
abbrev pub CoreAllowed : CorePart → CoreEvent → Type 0
CoreAllowed p (Trx e) = TrxAllowed p.trx e × MayHere p e
CoreAllowed p (Pages e) = IsNode p.trx.opening (pages_node e) × PagesAsks page_ops p.trx.opening.base.llsn p.pages e × MayPage p e
CoreAllowed p (Down e) = IsNode p.trx.opening (down_node e) × DownAsks p.trx.opening p.downs e

-- what an event asks of the slots that its node carries
abbrev pub Carries : List (ℕ × Frame) → CoreEvent → Type 0
Carries carried (Trx e) = Unit {0}
Carries carried (Pages e) = PagesCarries carried e
Carries carried (Down e) = Unit {0}

-- what an event does with slots, by the word found and the note
abbrev pub act_of : CoreEvent → ℕ → Note → Act Frame
act_of (Trx e) found x = keeps
act_of (Pages e) found x = pages_act e found x
act_of (Down e) found x = keeps

-- the page that an event finds in a frame
abbrev pub frame_noted : CoreWorld → CoreEvent → Option PageView
frame_noted w (Trx e) = None
frame_noted w (Pages e) = frame_found w.pages.homes e
frame_noted w (Down e) = None

abbrev pub core_note : CoreWorld → CoreEvent → Note
core_note w e = record {
  frame = frame_noted w e;
  height = length w.pages.history;
  known = known_by w (core_node_of e);
}

-- the machine: its slots are the frames of the pages
abbrev pub core : CoreOpening → Machine Frame CorePart CoreEvent CorePlace Note CoreWorld
core opening = record {
  nodes = opening.trx.primaries + 1;
  start = core_start opening;
  after = core_after;
  part = core_part;
  content = core_content opening;
  homes = λ w. w.pages.homes;
  IsPlace = IsCorePlace;
  index = core_index;
  node_of = core_node_of;
  place_of = core_place_of;
  word_after = core_word_after;
  act = λ w e. act_of e (core_content opening w (core_place_of e)) (core_note w e);
  note = core_note;
  made = core_made;
  Allowed = λ p carried e. CoreAllowed p e × Carries carried e;
}
