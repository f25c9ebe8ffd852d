-- Small parts of a primary that began one transaction, and a statement that it answers: what a support is of, and what not.
use Rattle.std.specs.Prelude.{ℕ, false, List, [], ◌∷◌, Option, None, Some}
use Rattle.mp_model.specs.declared.ids.TrxId.{TrxId}
use Rattle.mp_model.specs.declared.ids.TrxName.{TrxName}
use Rattle.mp_model.specs.declared.replies.Answer.{Answer}
use Rattle.mp_model.specs.declared.replies.Reply.{Reply}
use Rattle.mp_script.specs.declared.statements.Line.{Line}
use Rattle.mp_script.specs.declared.statements.Stmt.{Stmt}
use Rattle.mp_script.specs.declared.statements.Stmt.TheVariants.{Begin, Commit}
use Rattle.mp_cells.specs.declared.changes.Change.TheVariants.{PutRow, PutUndo}
use Rattle.mp_cells.specs.declared.records.Mtr.{Mtr}
use Rattle.mp_cells.specs.declared.records.Record.TheVariants as records
use Rattle.mp_cells.specs.declared.rows.Link.{Link}
use Rattle.mp_cells.specs.declared.rows.Row.{Row}
use Rattle.mp_cells.specs.PageView.{PageView, leaf_page, undo_page, meta_page}
use Rattle.mp_cells.specs.Trees.{top}
use Rattle.mp_core_trx.specs.declared.opening.Base.{Base}
use Rattle.mp_core_trx.specs.declared.part.SlotLoad.{SlotLoad}
use Rattle.mp_core_trx.specs.declared.slot.Shown.{Shown}
use Rattle.mp_core_trx.specs.declared.slot.SlotTag.TheVariants.{Active}
use Rattle.mp_core_trx.specs.Words.{shows, word_showing}
use Rattle.mp_core_trx.specs.Parts.{trx, begun_of, draw_of}
use Rattle.mp_core_pages.specs.declared.part.Placed.{Placed}
use Rattle.mp_core_pages.specs.declared.part.GivenPage.{GivenPage}
use Rattle.mp_core_pages.specs.PageParts.{given_page}
use Rattle.mp_core.specs.declared.part.CorePart.{CorePart}
use Rattle.mp_core.specs.Commits.{commit_records}
use Rattle.mp_core.specs.Downs.{first_down_part}
use Rattle.mp_core.specs.OwnMtrs.{TrxMtr}
use Rattle.mp_book.specs.declared.session.Session.{Session}
use Rattle.mp_book.specs.declared.stage.Stage.TheVariants.{Open}
use Rattle.mp_supports.specs.Work.{Work}
use Rattle.mp_supports.specs.Supports.{looked_trace, wrote_trace}
use Rattle.mp_supports.specs.Kept.{Entry}

-- sessions 2 and 3 of primary 2 begin one transaction each, and session 1 of primary 1 one between them
abbrev pub older_trx : TrxId
older_trx = trx 2 0 1

abbrev pub own_trx : TrxId
own_trx = trx 1 0 2

abbrev pub younger_trx : TrxId
younger_trx = trx 2 1 3

abbrev pub nothing_before : Base
nothing_before = record { ts = 0; llsn = 0; version = 0 }

abbrev pub line_of : ℕ → ℕ → Stmt → Line
line_of session index stmt = record { session = session; index = index; stmt = stmt }

-- the second statement of session 1 is this one
abbrev pub work_with : Stmt → Work
work_with stmt = record {
  lines = line_of 2 1 Begin ∷ line_of 1 1 Begin ∷ line_of 3 1 Begin ∷ line_of 1 2 stmt ∷ [];
  sessions = record { session = 1; primary = 1 } ∷ record { session = 2; primary = 2 } ∷ record { session = 3; primary = 2 } ∷ [];
  base = nothing_before;
}

-- it is answered so
abbrev pub answered_with : Reply → Answer
answered_with reply = record { session = 1; index = 2; reply = reply; waits = record { items = []; spare = 0 } }

-- the primary began its transaction with the view 3, and drew 5 for it; its log is durable up to 1
abbrev pub small_part : List SlotLoad → List (GivenPage PageView) → List (Placed Mtr) → CorePart
small_part loaded given made = record {
  trx = record {
    opening = record { base = nothing_before; primaries = 2; begins = 3 };
    begun = begun_of own_trx 3 ∷ [];
    rows = [];
    drew = draw_of own_trx 5 ∷ [];
    seen = [];
    loaded = loaded;
  };
  pages = record { made = made; durables = 1 ∷ []; locks = []; frames = []; gave = []; contents = []; given = given };
  downs = first_down_part;
  ops = 0;
}

-- the same primary before any step
abbrev pub part_before_steps : CorePart
part_before_steps = record {
  trx = record { opening = record { base = nothing_before; primaries = 2; begins = 3 }; begun = []; rows = []; drew = []; seen = []; loaded = [] };
  pages = record { made = []; durables = []; locks = []; frames = []; gave = []; contents = []; given = [] };
  downs = first_down_part;
  ops = 0;
}

-- a version of the row of key 5, with the byte 97 or 98 as its value
abbrev pub version_by : Option TrxId → Option Link → ℕ → Row
version_by writer link byte = record { key = 5; value = Some (byte ∷ []); writer = writer; link = link }

-- the only leaf with this row, and an undo page with this record, as they were given
abbrev pub only_leaf : Row → GivenPage PageView
only_leaf row = given_page 1 (leaf_page 0 0 top (row ∷ [])) 3 2

abbrev pub first_link : Link
first_link = record { page = 2; index = 0 }

abbrev pub only_undo : Row → GivenPage PageView
only_undo row = given_page 2 (undo_page 0 (row ∷ [])) 3 2

-- the meta page with these bits
abbrev pub only_meta : List ℕ → GivenPage PageView
only_meta bits = given_page 0 (meta_page 0 bits) 3 2

-- the word of a transaction's slot showed this
abbrev pub load_showing : TrxId → Shown → SlotLoad
load_showing id shown = record { of = id.node; slot = id.slot; word = word_showing shown; after = 3 }

-- an mtr that puts a row over another
abbrev pub put_over : Row → Row → Mtr
put_over former row = record { node = 1; llsn = 1; records = records.Page 2 0 (PutUndo former) ∷ records.Page 1 0 (PutRow row) ∷ [] }

-- an mtr of the transaction's commit record, with this LLSN
abbrev pub commit_mtr : ℕ → Mtr
commit_mtr llsn = record { node = 1; llsn = llsn; records = commit_records own_trx 5 }

-- it was made when 4 had been made, and is the transaction's
abbrev pub made_at_four : Mtr → List (Placed Mtr)
made_at_four mtr = record { at = 4; mtr = mtr } ∷ []

abbrev pub own_mtr : Mtr → TrxMtr
own_mtr mtr = record { at = 4; of = Some own_trx; mtr = mtr }

-- the part once its log is durable up to this LLSN
abbrev pub forced_to : ℕ → CorePart → CorePart
forced_to llsn p = record p { pages = record (p.pages) { durables = llsn ∷ p.pages.durables } }

-- an entry that rests on the only leaf, and one of that mtr
abbrev pub read_entry : Entry
read_entry = record { answer = None; trace = looked_trace (only_leaf (version_by None None 97) ∷ []) }

abbrev pub write_entry : Entry
write_entry = record { answer = None; trace = wrote_trace [] (own_mtr (commit_mtr 1)) }

-- the names of the transactions
abbrev pub older_name : TrxName
older_name = record { session = 2; first = 1 }

abbrev pub own_name : TrxName
own_name = record { session = 1; first = 1 }

abbrev pub younger_name : TrxName
younger_name = record { session = 3; first = 1 }

-- the same part, whose transaction's slot shows ACTIVE
abbrev pub open_part : CorePart
open_part = record (small_part [] [] []) { trx = record ((small_part [] [] []).trx) { rows = record { slot = 0; shown = shows Active 2 0 } ∷ [] } }

-- session 1 with its transaction open, before its `commit`
abbrev pub open_session : Session
open_session = record {
  number = 1;
  lines = record { items = line_of 1 1 Begin ∷ line_of 1 2 Commit ∷ []; spare = 0 };
  next = 1;
  stage = Open (begun_of own_trx 3);
  formers = record { items = []; spare = 0 };
  restored = 0;
  waits = record { items = []; spare = 0 };
  tried = false;
}
