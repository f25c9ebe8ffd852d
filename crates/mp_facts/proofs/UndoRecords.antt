-- What plans leave of undo pages: each stays one and keeps its records, and what a put keeps is the version that it
-- replaces.
use Rattle.std.proofs.Common.{◌≡◌, ℕ, zero, suc, ◌==◌, Bool, true, false, if◌then◌else◌, List, [], ◌∷◌, ◌++◌, length, slice_get, Option, Some, None, IsSome, refl, sym, ap, subst, ◌∙◌, ◌⊎◌, inl, inr}
use mathlib.Core.Bool.{false≢true}
use Rattle.std.proofs.lemmas.Bool.{eqb-true, eq-eqb}
use Rattle.std.specs.Prelude.{nat_lt}
use Rattle.mp_cells.specs.declared.changes.Change.{Change}
use Rattle.mp_cells.specs.declared.changes.Change.TheVariants.{MakeLeaf, MakeInner, MakeUndo, PutRow, RestoreRow, Cut, PutChild, PutUndo, TakePage}
use Rattle.mp_cells.specs.declared.kinds.Kind.{Kind}
use Rattle.mp_cells.specs.declared.kinds.Kind.TheVariants.{Blank, Meta, Leaf, Inner, Undo}
use Rattle.mp_cells.specs.declared.rows.Link.{Link}
use Rattle.mp_cells.specs.declared.rows.Row.{Row}
use Rattle.mp_cells.specs.PageView.{PageView, kind_number, is_of}
use Rattle.mp_cells.specs.Trees.{PageMap, IsTree, height_of}
use Rattle.mp_cells.specs.Plans.{Plan, CanApply, page_or, changed_page, after_change, after_plan, Meets}
use Rattle.mp_cells.specs.Writes.{rows_kept, record_in, undo_at, same_link, WellPut}
use Rattle.mp_cells.proofs.Links.{agrees_itself}
use Rattle.mp_histories.specs.Chains.{row_of_key}
use Rattle.mp_histories.proofs.Lists.{heads_same, nothing_there}

-- a page became another: it is still an undo page, and has the records that it had
pub record KeepsUndo (old new : PageView) : Type 0 where
  pub kind : new.kind ≡ Undo
  pub records : (index : ℕ) (row : Row) → slice_get old.rows index ≡ Some row → slice_get new.rows index ≡ Some row

there_before : (rows : List Row) (last : Row) (index : ℕ) (row : Row) → slice_get rows index ≡ Some row → slice_get (rows ++ last ∷ []) index ≡ Some row
there_before [] last index row is = absurd cc
there_before (r ∷ rows) last zero row is = is
there_before (r ∷ rows) last (suc index) row is = there_before rows last index row is

there_last : (rows : List Row) (last : Row) → slice_get (rows ++ last ∷ []) (length rows) ≡ Some last
there_last [] last = refl
there_last (r ∷ rows) last = there_last rows last

none_behind : (rows : List Row) → slice_get rows (length rows) ≡ None
none_behind [] = refl
none_behind (r ∷ rows) = none_behind rows

module _ (page : PageView) where
  abbrev as_undo : PageView
  as_undo = record page { kind = Undo }

  undo_put : (b : Bool) (row : Row) → IsSome (if b then Some (record page { kind = Undo; rows = page.rows ++ row ∷ [] }) else None) → KeepsUndo as_undo (page_or as_undo (if b then Some (record page { kind = Undo; rows = page.rows ++ row ∷ [] }) else None))
  undo_put true row may = record { kind = refl; records = λ index r is. there_before page.rows row index r is }
  undo_put false row may = absurd (false≢true may)

  -- an undo page takes records alone
  undo_takes : (change : Change) → CanApply change as_undo → KeepsUndo as_undo (changed_page change as_undo)
  undo_takes (MakeLeaf low high rows) may = absurd (false≢true may)
  undo_takes (MakeInner low high children) may = absurd (false≢true may)
  undo_takes MakeUndo may = absurd (false≢true may)
  undo_takes (PutRow row) may = absurd (false≢true may)
  undo_takes (RestoreRow row) may = absurd (false≢true may)
  undo_takes (Cut from) may = absurd (false≢true may)
  undo_takes (PutChild child) may = absurd (false≢true may)
  undo_takes (PutUndo row) may = undo_put (nat_lt (length page.rows) 15) row may
  undo_takes (TakePage number) may = absurd (false≢true may)

pub undo_stays_one : (change : Change) (page : PageView) → page.kind ≡ Undo → CanApply change page → KeepsUndo page (changed_page change page)
undo_stays_one change page kind may =
    subst (λ (k : Kind). CanApply change (record page { kind = k }) → KeepsUndo (record page { kind = k }) (changed_page change (record page { kind = k }))) (sym kind) (undo_takes page change) may

is_undo_by : (kind : Kind) → (kind_number kind == 4) ≡ true → kind ≡ Undo
is_undo_by Blank e = absurd cc
is_undo_by Meta e = absurd cc
is_undo_by Leaf e = absurd cc
is_undo_by Inner e = absurd cc
is_undo_by Undo e = refl

-- a record that is there is one of an undo page
record RecordThere (page : PageView) (index : ℕ) (row : Row) : Type 0 where
  kind : page.kind ≡ Undo
  there : slice_get page.rows index ≡ Some row

record_there : (page : PageView) (index : ℕ) (row : Row) → record_in page index ≡ Some row → RecordThere page index row
record_there page index row is = by_kind (is_of Undo page) refl is
  where
    by_kind : (b : Bool) → is_of Undo page ≡ b → (if b then slice_get page.rows index else None) ≡ Some row → RecordThere page index row
    by_kind true e is = record { kind = is_undo_by page.kind e; there = is }
    by_kind false e is = absurd cc

record_of : (page : PageView) (index : ℕ) (x : Option Row) → page.kind ≡ Undo → slice_get page.rows index ≡ x → record_in page index ≡ x
record_of page index x kind there = ap (λ (k : Kind). if kind_number k == 4 then slice_get page.rows index else None) kind ∙ there

record_stays : (change : Change) (page : PageView) → CanApply change page → (index : ℕ) (row : Row) → record_in page index ≡ Some row → record_in (changed_page change page) index ≡ Some row
record_stays change page may index row is =
    let there = record_there page index row is in
    let keeps = undo_stays_one change page there.kind may in
    record_of (changed_page change page) index (Some row) keeps.kind (keeps.records index row there.there)

-- ---- plans

module _ (step : ℕ × Change) (pages : PageMap) (may : CanApply step.1 (pages step.0)) where
  step_by : (n : ℕ) (P : PageView → PageView → Type 0) → ((page : PageView) → P page page) → P (pages step.0) (changed_page step.1 (pages step.0)) → P (pages n) (after_change step pages n)
  step_by n P same new = by_test (n == step.0) refl
    where
      by_test : (b : Bool) → (n == step.0) ≡ b → P (pages n) (if b then changed_page step.1 (pages step.0) else pages n)
      by_test true e = subst (λ (k : ℕ). P (pages k) (changed_page step.1 (pages step.0))) (sym (eqb-true n step.0 e)) new
      by_test false e = same (pages n)

  pub undo_after_step : (link : Link) (row : Row) → undo_at pages link ≡ Some row → undo_at (after_change step pages) link ≡ Some row
  undo_after_step link row = step_by link.page (λ (a b : PageView). record_in a link.index ≡ Some row → record_in b link.index ≡ Some row) (λ page is. is) (λ is. record_stays step.1 (pages step.0) may link.index row is)

  pub kind_after_step : (n : ℕ) → (pages n).kind ≡ Undo → (after_change step pages n).kind ≡ Undo
  kind_after_step n = step_by n (λ (a b : PageView). a.kind ≡ Undo → b.kind ≡ Undo) (λ page is. is) (λ is. (undo_stays_one step.1 (pages step.0) is may).kind)

pub undo_after_plan : (plan : Plan) (pages : PageMap) → Meets plan pages → (link : Link) (row : Row) → undo_at pages link ≡ Some row → undo_at (after_plan plan pages) link ≡ Some row
undo_after_plan [] pages meets link row is = is
undo_after_plan (step ∷ plan) pages meets link row is = undo_after_plan plan (after_change step pages) meets.1 link row (undo_after_step step pages meets.0 link row is)

pub kind_after_plan : (plan : Plan) (pages : PageMap) → Meets plan pages → (n : ℕ) → (pages n).kind ≡ Undo → (after_plan plan pages n).kind ≡ Undo
kind_after_plan [] pages meets n is = is
kind_after_plan (step ∷ plan) pages meets n is = kind_after_plan plan (after_change step pages) meets.1 n (kind_after_step step pages meets.0 n is)

-- a plan keeps one record at a place where there was none
record AddsRecord (plan : Plan) (pages : PageMap) (row : Row) : Type 0 where
  link : Link
  fresh : undo_at pages link ≡ None
  added : undo_at (after_plan plan pages) link ≡ Some row

none_or_some : (x : Option Row) → (x ≡ None) ⊎ ((row : Row) × (x ≡ Some row))
none_or_some None = inl refl
none_or_some (Some row) = inr (row, refl)

adds_later : (step : ℕ × Change) (plan : Plan) (pages : PageMap) (row : Row) → CanApply step.1 (pages step.0) → AddsRecord plan (after_change step pages) row → AddsRecord (step ∷ plan) pages row
adds_later step plan pages row may adds = record {
  link = adds.link;
  fresh = elim (none_or_some (undo_at pages adds.link)) [
    | inl none ↦ none
    | inr some ↦ absurd (let both = sym adds.fresh ∙ undo_after_step step pages may adds.link some.0 some.1 in cc)
  ];
  added = adds.added;
}

fresh_record : (page : PageView) → record_in page (length page.rows) ≡ None
fresh_record page = by_kind (is_of Undo page)
  where
    by_kind : (b : Bool) → (if b then slice_get page.rows (length page.rows) else None) ≡ None
    by_kind true = none_behind page.rows
    by_kind false = refl

module _ (page : PageView) where
  put_last_by : (b : Bool) (row : Row) → IsSome (if b then Some (record page { kind = Undo; rows = page.rows ++ row ∷ [] }) else None) → record_in (page_or (as_undo page) (if b then Some (record page { kind = Undo; rows = page.rows ++ row ∷ [] }) else None)) (length page.rows) ≡ Some row
  put_last_by true row may = there_last page.rows row
  put_last_by false row may = absurd (false≢true may)

  takes_record : (kind : Kind) (row : Row) → CanApply (PutUndo row) (record page { kind = kind }) → record_in (changed_page (PutUndo row) (record page { kind = kind })) (length page.rows) ≡ Some row
  takes_record Blank row may = absurd (false≢true may)
  takes_record Meta row may = absurd (false≢true may)
  takes_record Leaf row may = absurd (false≢true may)
  takes_record Inner row may = absurd (false≢true may)
  takes_record Undo row may = put_last_by (nat_lt (length page.rows) 15) row may

adds_now : (number : ℕ) (r : Row) (plan : Plan) (pages : PageMap) (row : Row) → r ≡ row → Meets ((number, PutUndo r) ∷ plan) pages → AddsRecord ((number, PutUndo r) ∷ plan) pages row
adds_now number r plan pages row same meets =
    let link : Link = record { page = number; index = length (pages number).rows } in
    record {
      link = link;
      fresh = fresh_record (pages number);
      added = undo_after_plan plan (after_change (number, PutUndo r) pages) meets.1 link row
          (ap (λ (b : Bool). record_in (if b then changed_page (PutUndo r) (pages number) else pages number) (length (pages number).rows)) (eq-eqb number number refl)
          ∙ takes_record (pages number) (pages number).kind r meets.0 ∙ ap (λ (x : Row). Some x) same);
    }

adds_record : (plan : Plan) (pages : PageMap) (row : Row) → Meets plan pages → rows_kept plan ≡ row ∷ [] → AddsRecord plan pages row
adds_record [] pages row meets kept = absurd (nothing_there row [] kept)
adds_record ((n, MakeLeaf low high rows) ∷ plan) pages row meets kept = adds_later (n, MakeLeaf low high rows) plan pages row meets.0 (adds_record plan (after_change (n, MakeLeaf low high rows) pages) row meets.1 kept)
adds_record ((n, MakeInner low high children) ∷ plan) pages row meets kept = adds_later (n, MakeInner low high children) plan pages row meets.0 (adds_record plan (after_change (n, MakeInner low high children) pages) row meets.1 kept)
adds_record ((n, MakeUndo) ∷ plan) pages row meets kept = adds_later (n, MakeUndo) plan pages row meets.0 (adds_record plan (after_change (n, MakeUndo) pages) row meets.1 kept)
adds_record ((n, PutRow r) ∷ plan) pages row meets kept = adds_later (n, PutRow r) plan pages row meets.0 (adds_record plan (after_change (n, PutRow r) pages) row meets.1 kept)
adds_record ((n, RestoreRow r) ∷ plan) pages row meets kept = adds_later (n, RestoreRow r) plan pages row meets.0 (adds_record plan (after_change (n, RestoreRow r) pages) row meets.1 kept)
adds_record ((n, Cut from) ∷ plan) pages row meets kept = adds_later (n, Cut from) plan pages row meets.0 (adds_record plan (after_change (n, Cut from) pages) row meets.1 kept)
adds_record ((n, PutChild child) ∷ plan) pages row meets kept = adds_later (n, PutChild child) plan pages row meets.0 (adds_record plan (after_change (n, PutChild child) pages) row meets.1 kept)
adds_record ((n, PutUndo r) ∷ plan) pages row meets kept = adds_now n r plan pages row (heads_same r row (rows_kept plan) [] kept) meets
adds_record ((n, TakePage number) ∷ plan) pages row meets kept = adds_later (n, TakePage number) plan pages row meets.0 (adds_record plan (after_change (n, TakePage number) pages) row meets.1 kept)

-- what a put keeps is the version that it replaces
pub kept_is : (pages : PageMap) (plan : Plan) (row kept : Row) → WellPut pages row plan → IsTree pages (height_of pages) → rows_kept plan ≡ kept ∷ [] → kept ≡ row_of_key pages row.key
kept_is pages plan row kept well tree keeps =
    let writes = well.writes pages (agrees_itself plan pages) (height_of pages) tree in
    let adds = adds_record plan pages kept writes.meets keeps in
    by_link (same_link adds.link writes.link) (undo_at pages adds.link) adds.fresh (sym (writes.undo.added adds.link) ∙ adds.added)
  where
    by_link : (b : Bool) (before : Option Row) → before ≡ None → (if b then Some (row_of_key pages row.key) else before) ≡ Some kept → kept ≡ row_of_key pages row.key
    by_link true before none is = sym (let same : row_of_key pages row.key ≡ kept = cc in same)
    by_link false before none is = absurd (let both = sym none ∙ is in cc)
