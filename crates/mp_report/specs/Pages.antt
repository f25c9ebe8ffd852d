-- How a page is printed.
use Rattle.std.specs.Prelude.{ℕ, List, [], ◌∷◌, ◌++◌, map, Option, Some, None, codes, decimal}
use Rattle.mp_model.specs.declared.ids.TrxId.{TrxId}
use Rattle.mp_cells.specs.declared.children.Child.{Child}
use Rattle.mp_cells.specs.declared.kinds.Kind.{Kind}
use Rattle.mp_cells.specs.declared.kinds.Kind.TheVariants.{Blank, Meta, Leaf, Inner, Undo}
use Rattle.mp_cells.specs.declared.rows.Link.{Link}
use Rattle.mp_cells.specs.declared.rows.Row.{Row}
use Rattle.mp_cells.specs.PageView.{PageView, count_of}
use Rattle.mp_report.specs.Lines.{spaced, text_of_lines}

-- a writer, as 1.0.7: its node, slot and version
abbrev pub id_word : TrxId → List ℕ
id_word id = decimal id.node ++ (codes "." ++ (decimal id.slot ++ (codes "." ++ decimal id.version)))

-- an undo record, as 2.0: its page and its place there
abbrev pub link_word : Link → List ℕ
link_word link = decimal link.page ++ (codes "." ++ decimal link.index)

-- a key with its value, or gone
abbrev pub held_words : ℕ → Option (List ℕ) → List (List ℕ)
held_words key (Some value) = codes "row" ∷ decimal key ∷ value ∷ []
held_words key None = codes "gone" ∷ decimal key ∷ []

-- who wrote it, and where the former version is
abbrev pub writer_words : Option TrxId → Option Link → List (List ℕ)
writer_words None link = []
writer_words (Some id) None = codes "by" ∷ id_word id ∷ []
writer_words (Some id) (Some link) = codes "by" ∷ id_word id ∷ codes "undo" ∷ link_word link ∷ []

abbrev pub row_words : Row → List (List ℕ)
row_words row = held_words row.key row.value ++ writer_words row.writer row.link

abbrev pub child_words : Child → List (List ℕ)
child_words child = codes "child" ∷ decimal child.low ∷ decimal child.page ∷ []

abbrev pub kind_word : Kind → List ℕ
kind_word Blank = codes "blank"
kind_word Meta = codes "meta"
kind_word Leaf = codes "leaf"
kind_word Inner = codes "inner"
kind_word Undo = codes "undo"

-- the fences of a page of the tree
abbrev pub fence_words : Kind → PageView → List (List ℕ)
fence_words Blank page = []
fence_words Meta page = []
fence_words Leaf page = codes "low" ∷ decimal page.low ∷ codes "high" ∷ decimal page.high ∷ []
fence_words Inner page = codes "low" ∷ decimal page.low ∷ codes "high" ∷ decimal page.high ∷ []
fence_words Undo page = []

-- how much the page holds
abbrev pub size_words : Kind → PageView → List (List ℕ)
size_words Blank page = []
size_words Meta page = codes "taken" ∷ decimal (count_of page) ∷ []
size_words Leaf page = codes "rows" ∷ decimal (count_of page) ∷ []
size_words Inner page = codes "children" ∷ decimal (count_of page) ∷ []
size_words Undo page = codes "records" ∷ decimal (count_of page) ∷ []

-- a page's first line
abbrev pub page_words : ℕ → PageView → List (List ℕ)
page_words number page = codes "page" ∷ decimal number ∷ kind_word page.kind ∷ codes "llsn" ∷ decimal page.llsn ∷ (fence_words page.kind page ++ size_words page.kind page)

-- the lines of a page's rows, records or children
abbrev pub cell_lines : Kind → PageView → List (List (List ℕ))
cell_lines Blank page = []
cell_lines Meta page = []
cell_lines Leaf page = map row_words page.rows
cell_lines Inner page = map child_words page.children
cell_lines Undo page = map row_words page.rows

-- a page: its line, and those of what it holds
abbrev pub page_lines : ℕ → PageView → List (List (List ℕ))
page_lines number page = page_words number page ∷ cell_lines page.kind page

-- the text of a page
abbrev pub page_text : ℕ → PageView → List ℕ
page_text number page = text_of_lines (page_lines number page)

-- the words of a line without its end
abbrev pub front : List (List ℕ) → List ℕ
front [] = []
front (word ∷ words) = word ++ spaced words
