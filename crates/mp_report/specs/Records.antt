-- How a record of a log is printed.
use Rattle.std.specs.Prelude.{ℕ, List, [], ◌∷◌, length, map, codes, decimal}
use Rattle.mp_cells.specs.declared.changes.Change.{Change}
use Rattle.mp_cells.specs.declared.changes.Change.TheVariants.{MakeLeaf, MakeInner, MakeUndo, PutRow, RestoreRow, Cut, PutChild, PutUndo, TakePage}
use Rattle.mp_cells.specs.declared.records.Record.{Record}
use Rattle.mp_cells.specs.declared.records.Record.TheVariants.{Page, Commit}
use Rattle.mp_report.specs.Lines.{text_of_lines}
use Rattle.mp_report.specs.Pages.{id_word, row_words, child_words}

-- the first word of a change's record
abbrev pub change_word : Change → List ℕ
change_word (MakeLeaf low high rows) = codes "makeleaf"
change_word (MakeInner low high children) = codes "makeinner"
change_word MakeUndo = codes "makeundo"
change_word (PutRow row) = codes "putrow"
change_word (RestoreRow row) = codes "restore"
change_word (Cut from) = codes "cut"
change_word (PutChild child) = codes "putchild"
change_word (PutUndo row) = codes "putundo"
change_word (TakePage number) = codes "take"

-- the fences of a new page and how much it holds
abbrev pub make_words : ℕ → ℕ → List ℕ → ℕ → List (List ℕ)
make_words low high word count = codes "low" ∷ decimal low ∷ codes "high" ∷ decimal high ∷ word ∷ decimal count ∷ []

-- the words behind the page and the LLSN before
abbrev pub field_words : Change → List (List ℕ)
field_words (MakeLeaf low high rows) = make_words low high (codes "rows") (length rows)
field_words (MakeInner low high children) = make_words low high (codes "children") (length children)
field_words MakeUndo = []
field_words (PutRow row) = row_words row
field_words (RestoreRow row) = row_words row
field_words (Cut from) = codes "from" ∷ decimal from ∷ []
field_words (PutChild child) = child_words child
field_words (PutUndo row) = row_words row
field_words (TakePage number) = codes "bit" ∷ decimal number ∷ []

-- the lines of the cells of a new page
abbrev pub made_lines : Change → List (List (List ℕ))
made_lines (MakeLeaf low high rows) = map row_words rows
made_lines (MakeInner low high children) = map child_words children
made_lines MakeUndo = []
made_lines (PutRow row) = []
made_lines (RestoreRow row) = []
made_lines (Cut from) = []
made_lines (PutChild child) = []
made_lines (PutUndo row) = []
made_lines (TakePage number) = []

-- a record's first line
abbrev pub change_line : ℕ → ℕ → Change → List (List ℕ)
change_line page prev change = change_word change ∷ codes "page" ∷ decimal page ∷ codes "prev" ∷ decimal prev ∷ field_words change

-- a record: its line, and those of the cells of a new page
abbrev pub record_lines : Record → List (List (List ℕ))
record_lines (Page page prev change) = change_line page prev change ∷ made_lines change
record_lines (Commit id cts) = (codes "commit" ∷ id_word id ∷ codes "at" ∷ decimal cts ∷ []) ∷ []

-- the text of a record
abbrev pub record_text : Record → List ℕ
record_text item = text_of_lines (record_lines item)
