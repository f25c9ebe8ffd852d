-- Changes don't look at LLSNs and leave them.
use Rattle.std.proofs.Common.{◌≡◌, ℕ, ◌&&◌, nat_lt, Bool, true, false, cond, List, [], ◌∷◌, ◌++◌, length, Option, Some, None, refl, sym, ap, ◌∙◌}
use Rattle.std.specs.Option.{option_map}
use Rattle.mp_cells.specs.declared.changes.Change.{Change}
use Rattle.mp_cells.specs.declared.changes.Change.TheVariants.{MakeLeaf, MakeInner, MakeUndo, PutRow, RestoreRow, Cut, PutChild, PutUndo, TakePage}
use Rattle.mp_cells.specs.declared.kinds.Kind.TheVariants.{Blank, Leaf, Undo}
use Rattle.mp_cells.specs.Keys.{with_cell, cells_below}
use Rattle.mp_cells.specs.PageView.{PageView, leaf_page, inner_page, undo_page, is_of, is_leaf, is_inner, with_bit}
use Rattle.mp_cells.specs.Changes.{applied, can_be_inner, takes_row, holds_row, can_be_cut, takes_child, takes_page}
use Rattle.mp_cells.specs.Plans.{page_or, changed_page, after_changes}

-- a page with another LLSN
abbrev pub with_llsn : ℕ → PageView → PageView
with_llsn llsn page = record page { llsn = llsn }

where_it_may : (llsn : ℕ) (test : Bool) (new : PageView) → cond test (Some (with_llsn llsn new)) None ≡ option_map (with_llsn llsn) (cond test (Some new) None)
where_it_may llsn true new = refl
where_it_may llsn false new = refl

pub applied-llsn : (change : Change) (page : PageView) (llsn : ℕ) → applied change (with_llsn llsn page) ≡ option_map (with_llsn llsn) (applied change page)
applied-llsn (MakeLeaf low high rows) page llsn = where_it_may llsn (is_of Blank page && is_leaf low high rows) (leaf_page page.llsn low high rows)
applied-llsn (MakeInner low high children) page llsn = where_it_may llsn (can_be_inner low high page && is_inner low high children) (inner_page page.llsn low high children)
applied-llsn MakeUndo page llsn = where_it_may llsn (is_of Blank page) (undo_page page.llsn [])
applied-llsn (PutRow row) page llsn = where_it_may llsn (takes_row row page) (record page { rows = with_cell (λ r. r.key) row page.rows })
applied-llsn (RestoreRow row) page llsn = where_it_may llsn (is_of Leaf page && holds_row row.key page) (record page { rows = with_cell (λ r. r.key) row page.rows })
applied-llsn (Cut from) page llsn = where_it_may llsn (can_be_cut from page) (record page { high = from; rows = cells_below (λ r. r.key) from page.rows; children = cells_below (λ c. c.low) from page.children })
applied-llsn (PutChild child) page llsn = where_it_may llsn (takes_child child page) (record page { children = with_cell (λ c. c.low) child page.children })
applied-llsn (PutUndo row) page llsn = where_it_may llsn (is_of Undo page && nat_lt (length page.rows) 15) (record page { rows = page.rows ++ row ∷ [] })
applied-llsn (TakePage number) page llsn = where_it_may llsn (takes_page number page) (record page { bits = with_bit page.bits number })

some_same : (x y : PageView) → Some x ≡ Some y → x ≡ y
some_same x y h = cc

pub llsn_stays : (change : Change) (page new : PageView) → applied change page ≡ Some new → new.llsn ≡ page.llsn
llsn_stays change page new e =
    let both : Some new ≡ Some (with_llsn page.llsn new) = sym e ∙ applied-llsn change page page.llsn ∙ ap (option_map (with_llsn page.llsn)) e in
    ap (λ (p : PageView). p.llsn) (some_same new (with_llsn page.llsn new) both)

or_with : (llsn : ℕ) (page : PageView) (new : Option PageView) → page_or (with_llsn llsn page) (option_map (with_llsn llsn) new) ≡ with_llsn llsn (page_or page new)
or_with llsn page None = refl
or_with llsn page (Some new) = refl

pub changed_page-llsn : (change : Change) (page : PageView) (llsn : ℕ) → changed_page change (with_llsn llsn page) ≡ with_llsn llsn (changed_page change page)
changed_page-llsn change page llsn = ap (page_or (with_llsn llsn page)) (applied-llsn change page llsn) ∙ or_with llsn page (applied change page)

pub after_changes-llsn : (changes : List Change) (page : PageView) (llsn : ℕ) → after_changes changes (with_llsn llsn page) ≡ with_llsn llsn (after_changes changes page)
after_changes-llsn [] page llsn = refl
after_changes-llsn (change ∷ changes) page llsn = ap (after_changes changes) (changed_page-llsn change page llsn) ∙ after_changes-llsn changes (changed_page change page) llsn
