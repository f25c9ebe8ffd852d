-- How a store file is printed.
use Rattle.std.specs.Prelude.{ℕ, zero, suc, ◌==◌, if◌then◌else◌, List, [], ◌∷◌, ◌++◌, codes, decimal}
use Rattle.mp_cells.specs.PageView.{PageView, bit_of, count_of}
use Rattle.mp_report.specs.Lines.{line}
use Rattle.mp_report.specs.Pages.{page_text}
use Rattle.mp_store.specs.declared.headers.Header.{Header}
use Rattle.mp_store.specs.StoreFiles.{header_in_force, page_in_force}

-- the first line: what the header in force says
abbrev pub generation_words : Header → List (List ℕ)
generation_words header = codes "store" ∷ codes "format" ∷ codes "1" ∷ codes "generation" ∷ decimal header.generation ∷ codes "base" ∷ decimal header.base ∷ []

abbrev pub header_words : Header → List (List ℕ)
header_words header = generation_words header ++ codes "llsn" ∷ decimal header.llsn ∷ codes "version" ∷ decimal header.version ∷ []

-- the last line: how many pages are taken
abbrev pub end_words : ℕ → List (List ℕ)
end_words count = codes "end" ∷ codes "pages" ∷ decimal count ∷ []

-- the text of a page of a store of a generation, where it is taken on this meta page
unfoldable pub taken_text : ℕ → PageView → ℕ → List ℕ → List ℕ
taken_text generation map number file = if bit_of map.bits number == 1 then page_text number (page_in_force generation number file) else []

-- the texts of the taken pages below a number, in their order
unfoldable pub taken_texts : ℕ → PageView → ℕ → List ℕ → List ℕ
taken_texts generation map zero file = []
taken_texts generation map (suc number) file = taken_texts generation map number file ++ taken_text generation map number file

-- a store of a header, with this meta page
unfoldable pub store_text : Header → PageView → List ℕ → List ℕ
store_text header map file =
    line (header_words header) ++ (taken_texts header.generation map 4096 file ++ line (end_words (count_of map)))

-- the text of a store file: its header, its taken pages, and how many they are
unfoldable pub dump_text : List ℕ → List ℕ
dump_text file = store_text (header_in_force file) (page_in_force (header_in_force file).generation 0 file) file
