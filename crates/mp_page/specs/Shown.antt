-- How a page is kept, and what it shows.
use Rattle.std.specs.Prelude.{◌≡◌, ℕ, ◌<◌, ◌≤◌, ◌^◌, length, IsTrue, refl}
use Rattle.std.specs.List.{AllByRecursion}
use Rattle.mp_cells.specs.declared.kinds.Kind.{Kind}
use Rattle.mp_cells.specs.declared.kinds.Kind.TheVariants as kinds
use Rattle.mp_cells.specs.Rows.{IsRow}
use Rattle.mp_cells.specs.Children.{IsChild}
use Rattle.mp_cells.specs.PageView.{PageView, blank_page, meta_page, leaf_page, inner_page, undo_page, is_leaf, is_inner, AreBits}
use Rattle.mp_page.specs.declared.body.Body.{Body}
use Rattle.mp_page.specs.declared.body.Body.TheVariants.{Blank, Meta, Leaf, Inner, Undo}

-- the page of an LLSN and a body
abbrev pub page_shown : ℕ → Body → PageView
page_shown llsn Blank = blank_page llsn
page_shown llsn (Meta bits) = meta_page llsn bits
page_shown llsn (Leaf low high rows) = leaf_page llsn low high rows
page_shown llsn (Inner low high children) = inner_page llsn low high children
page_shown llsn (Undo rows) = undo_page llsn rows

-- a body of a page that there may be
abbrev pub IsBody : Body → Type 0
IsBody Blank = Unit {0}
IsBody (Meta bits) = AreBits bits
IsBody (Leaf low high rows) = IsTrue (is_leaf low high rows) × AllByRecursion IsRow rows
IsBody (Inner low high children) = IsTrue (is_inner low high children) × AllByRecursion IsChild children
IsBody (Undo rows) = (length rows ≤ 15) × AllByRecursion IsRow rows

-- a page is kept with such a body
pub record IsKeptPage (llsn : ℕ) (body : Body) : Type 0 where
  pub range : llsn < 2 ^ 62
  pub content : IsBody body

-- the body of a page
abbrev pub body_of : PageView → Body
body_of page = by_kind page.kind
  where
    by_kind : Kind → Body
    by_kind kinds.Blank = Blank
    by_kind kinds.Meta = Meta page.bits
    by_kind kinds.Leaf = Leaf page.low page.high page.rows
    by_kind kinds.Inner = Inner page.low page.high page.children
    by_kind kinds.Undo = Undo page.rows

-- which is the one that is shown
pub body_of-shown : (llsn : ℕ) (body : Body) → body_of (page_shown llsn body) ≡ body
body_of-shown llsn Blank = refl
body_of-shown llsn (Meta bits) = refl
body_of-shown llsn (Leaf low high rows) = refl
body_of-shown llsn (Inner low high children) = refl
body_of-shown llsn (Undo rows) = refl

pub llsn-shown : (llsn : ℕ) (body : Body) → (page_shown llsn body).llsn ≡ llsn
llsn-shown llsn Blank = refl
llsn-shown llsn (Meta bits) = refl
llsn-shown llsn (Leaf low high rows) = refl
llsn-shown llsn (Inner low high children) = refl
llsn-shown llsn (Undo rows) = refl
