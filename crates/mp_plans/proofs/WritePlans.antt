-- The plan of a write, whole: over every tree that has the pages that it changes, it writes the row.
use Rattle.mp_plans.specs.Fitting.{IsLeafOf, IsClear, IsFullLeaf, IsParent, GrowthFits, UndoFits, WriteFits}
use Rattle.std.proofs.Common.{◌≡◌, ◌≢◌, ℕ, ◌^◌, ◌<◌, ◌≤◌, ◌==◌, Bool, true, false, cond, List, [], ◌∷◌, ◌++◌, length, take, Some, None, refl, sym, ap, subst, ◌∙◌, inl, inr, arith}
use Rattle.std.specs.List.{AllByRecursion}
use Rattle.std.proofs.lemmas.List.{append-nil}
use Rattle.std.proofs.lemmas.List.Concat.{flat_map-append}
use Rattle.std.proofs.lemmas.Nat.Bits.{bit_at-lt}
use Rattle.mp_cells.specs.declared.changes.Change.{Change}
use Rattle.mp_cells.specs.declared.changes.Change.TheVariants.{MakeUndo, PutRow, PutUndo}
use Rattle.mp_cells.specs.declared.kinds.Kind.{Kind}
use Rattle.mp_cells.specs.declared.kinds.Kind.TheVariants.{Blank, Meta, Leaf, Inner, Undo}
use Rattle.mp_cells.specs.declared.rows.Row.{Row}
use Rattle.mp_cells.specs.Rows.{IsRow}
use Rattle.mp_cells.specs.PageView.{PageView, undo_page}
use Rattle.mp_cells.specs.Changes.{applied}
use Rattle.mp_cells.specs.Trees.{PageMap, IsTree, tree_rows, row_at, uses, one_if}
use Rattle.mp_cells.specs.Plans.{Plan, after_plan, with_page, AgreesOn}
use Rattle.mp_plans.specs.Growth.{Growth, stays, new_root, leaf, inner, higher, pages_needed, growth_changes, leaf_after, new_pages, takes, write_plan, has_place, leaf_parts, inner_parts, root_inner_parts, leaf_separator, inner_separator, side, put_child}
use Rattle.mp_cells.specs.Writes.{version_of, row_put, rows_put, row_kept, rows_kept, row_restored, rows_restored, page_taken, pages_taken, WritesRow, WellPut}
use Rattle.mp_cells.proofs.ByPage.{with_page-here, with_page-other}
use Rattle.mp_cells.proofs.Uses.{one_if-same, AllBelow}
use Rattle.mp_cells.proofs.Heights.{numbers}
use Rattle.mp_cells.proofs.Spare.{TreeWith, with_none, content_of, kind_apart}
use Rattle.mp_cells.proofs.Places.{row_in_leaf}
use Rattle.mp_plans.proofs.Reshaping.{changed_is, Reshapes, reshapes_none, reshapes_then, after_plan-append}
use Rattle.mp_plans.proofs.Steps.{kind_test, undo_step}
use Rattle.mp_plans.proofs.SplitTrees.{IsNode}
use Rattle.mp_plans.proofs.Finish.{Ready, finished}
use Rattle.mp_plans.proofs.Growths.{Grown, stays_grown, leaf_grown, new_root_grown}
use Rattle.mp_plans.proofs.DoubleSplits.{inner_grown, higher_grown}
use Rattle.mp_plans.proofs.Taking.{respared, take_all}

spare_once : (spare : List ℕ) (pages : PageMap) (height : ℕ) → TreeWith spare pages height → (n : ℕ) → n < 4096 → uses n spare ≤ 1
spare_once spare pages height tree n lt = omega (arith, tree.bits n lt, bit_at-lt)

grown : (growth : Growth) (mid : PageMap) (height key m a b c : ℕ) → TreeWith (take (pages_needed growth) (a ∷ b ∷ c ∷ [])) mid height → AllBelow 4096 (take (pages_needed growth) (a ∷ b ∷ c ∷ [])) → m < 4096 → IsLeafOf key (mid m) → GrowthFits mid key m growth
    → Grown (take (pages_needed growth) (a ∷ b ∷ c ∷ [])) (growth_changes growth m mid a b c) mid height key (leaf_after growth key m mid a b)
grown stays mid height key m a b c tree below range_m is_leaf fits = stays_grown mid height key m tree range_m is_leaf fits
grown new_root mid height key m a b c tree below range_m is_leaf fits =
    let a_b : a ≢ b = λ (e : a ≡ b). absurd (omega (arith, spare_once (a ∷ b ∷ []) mid height tree a below.0, one_if-same a, ap (λ (k : ℕ). one_if (k == a)) e)) in
    let made = new_root_grown (a ∷ b ∷ []) mid height key a b tree below.0 below.1.0 a_b (subst (λ (k : ℕ). IsLeafOf key (mid k)) fits.0 is_leaf) (subst (λ (k : ℕ). IsFullLeaf (mid k)) fits.0 fits.1) (λ n. omega arith) in
    subst (λ (k : ℕ). Grown (a ∷ b ∷ []) (growth_changes new_root k mid a b c) mid height key (leaf_after new_root key k mid a b)) (sym fits.0) made
grown (leaf p) mid height key m a b c tree below range_m is_leaf fits =
    leaf_grown (a ∷ []) mid height key m p a (mid m) tree refl range_m fits.1.range below.0 is_leaf fits.0 (λ n. omega arith) fits.1.kind fits.1.has fits.2
grown (inner p) mid height key m a b c tree below range_m is_leaf fits =
    let a_b : a ≢ b = λ (e : a ≡ b). absurd (omega (arith, spare_once (a ∷ b ∷ []) mid height tree a below.0, one_if-same a, ap (λ (k : ℕ). one_if (k == a)) e)) in
    inner_grown (a ∷ b ∷ []) mid height key m p a b tree range_m fits.1.range below.0 below.1.0 a_b is_leaf fits.0 (λ n. omega arith) fits.1.kind fits.1.has fits.2 fits.3.kind fits.3.has fits.4
grown higher mid height key m a b c tree below range_m is_leaf fits =
    let once = spare_once (a ∷ b ∷ c ∷ []) mid height tree in
    let a_b : a ≢ b = λ (e : a ≡ b). absurd (omega (arith, once a below.0, one_if-same a, ap (λ (k : ℕ). one_if (k == a)) e)) in
    let a_c : a ≢ c = λ (e : a ≡ c). absurd (omega (arith, once a below.0, one_if-same a, ap (λ (k : ℕ). one_if (k == a)) e)) in
    let b_c : b ≢ c = λ (e : b ≡ c). absurd (omega (arith, once b below.1.0, one_if-same b, ap (λ (k : ℕ). one_if (k == b)) e)) in
    higher_grown (a ∷ b ∷ c ∷ []) mid height key m a b c tree range_m below.0 below.1.0 below.1.1.0 a_b a_c b_c is_leaf fits.0 (λ n. omega arith) fits.1.kind fits.1.has fits.2

-- ---- over maps that have the same of these pages

abbrev pub SamePages : PageMap → PageMap → ℕ → Growth → Type 0
SamePages pages other m stays = pages m ≡ other m
SamePages pages other m new_root = pages m ≡ other m
SamePages pages other m (leaf p) = (pages m ≡ other m) × (pages p ≡ other p)
SamePages pages other m (inner p) = (pages m ≡ other m) × (pages p ≡ other p) × (pages 1 ≡ other 1)
SamePages pages other m higher = (pages m ≡ other m) × (pages 1 ≡ other 1)

parent_same : (pages other : PageMap) (m p : ℕ) → pages p ≡ other p → IsParent other m p → IsParent pages m p
parent_same pages other m p e h = record { range = h.range; kind = ap (λ (q : PageView). q.kind) e ∙ h.kind; has = subst (λ (q : PageView). 1 ≤ uses m (numbers q.children)) (sym e) h.has }

fits_same : (growth : Growth) (pages other : PageMap) (key m : ℕ) → SamePages pages other m growth → GrowthFits other key m growth → GrowthFits pages key m growth
fits_same stays pages other key m e h = ap (has_place key) e ∙ h
fits_same new_root pages other key m e h = (h.0, ap (λ (q : PageView). length q.rows) e ∙ h.1)
fits_same (leaf p) pages other key m e h = (ap (λ (q : PageView). length q.rows) e.0 ∙ h.0, parent_same pages other m p e.1 h.1, subst (λ (q : PageView). length q.children < 124) (sym e.1) h.2)
fits_same (inner p) pages other key m e h = (ap (λ (q : PageView). length q.rows) e.0 ∙ h.0, parent_same pages other m p e.1 h.1, ap (λ (q : PageView). length q.children) e.1 ∙ h.2, parent_same pages other p 1 e.2 h.3, subst (λ (q : PageView). length q.children < 124) (sym e.2) h.4)
fits_same higher pages other key m e h = (ap (λ (q : PageView). length q.rows) e.0 ∙ h.0, parent_same pages other m 1 e.1 h.1, ap (λ (q : PageView). length q.children) e.1 ∙ h.2)

-- with the views of the leaf, the parent and the root
changes_same : (growth : Growth) (pages other : PageMap) (m a b c : ℕ) → SamePages pages other m growth → growth_changes growth m pages a b c ≡ growth_changes growth m other a b c
changes_same stays pages other m a b c e = refl
changes_same new_root pages other m a b c e = ap (λ (q : PageView). growth_changes new_root m (λ n. q) a b c) e
changes_same (leaf p) pages other m a b c e = ap (λ (q : PageView). growth_changes (leaf p) m (λ n. q) a b c) e.0
changes_same (inner p) pages other m a b c e =
    ap (λ (q : PageView). leaf_parts q m a ++ inner_parts (pages p) p b ++ put_child (side (leaf_separator q) (inner_separator (pages p)) p b) (leaf_separator q) a ∷ put_child 1 (inner_separator (pages p)) b ∷ []) e.0
    ∙ ap (λ (q : PageView). leaf_parts (other m) m a ++ inner_parts q p b ++ put_child (side (leaf_separator (other m)) (inner_separator q) p b) (leaf_separator (other m)) a ∷ put_child 1 (inner_separator q) b ∷ []) e.1
changes_same higher pages other m a b c e =
    ap (λ (q : PageView). leaf_parts q m a ++ root_inner_parts (pages 1) b c ++ put_child (side (leaf_separator q) (inner_separator (pages 1)) b c) (leaf_separator q) a ∷ []) e.0
    ∙ ap (λ (q : PageView). leaf_parts (other m) m a ++ root_inner_parts q b c ++ put_child (side (leaf_separator (other m)) (inner_separator q) b c) (leaf_separator (other m)) a ∷ []) e.1

leaf_page_same : (growth : Growth) (pages other : PageMap) (m : ℕ) → SamePages pages other m growth → pages m ≡ other m
leaf_page_same stays pages other m e = e
leaf_page_same new_root pages other m e = e
leaf_page_same (leaf p) pages other m e = e.0
leaf_page_same (inner p) pages other m e = e.0
leaf_page_same higher pages other m e = e.0

target_same : (growth : Growth) (pages other : PageMap) (key m a b : ℕ) → pages m ≡ other m → leaf_after growth key m pages a b ≡ leaf_after growth key m other a b
target_same stays pages other key m a b e = refl
target_same new_root pages other key m a b e = ap (λ (q : PageView). side key (leaf_separator q) a b) e
target_same (leaf p) pages other key m a b e = ap (λ (q : PageView). side key (leaf_separator q) m a) e
target_same (inner p) pages other key m a b e = ap (λ (q : PageView). side key (leaf_separator q) m a) e
target_same higher pages other key m a b e = ap (λ (q : PageView). side key (leaf_separator q) m a) e

-- pages of the tree that a part before keeps
kept_pages : (growth : Growth) (pages mid : PageMap) (key m : ℕ) → (pages m).kind ≡ Leaf → ((n : ℕ) → IsNode (pages n).kind → mid n ≡ pages n) → GrowthFits pages key m growth → SamePages mid pages m growth
kept_pages stays pages mid key m kind same fits = same m (inl kind)
kept_pages new_root pages mid key m kind same fits = same m (inl kind)
kept_pages (leaf p) pages mid key m kind same fits = (same m (inl kind), same p (inr fits.1.kind))
kept_pages (inner p) pages mid key m kind same fits = (same m (inl kind), same p (inr fits.1.kind), same 1 (inr fits.3.kind))
kept_pages higher pages mid key m kind same fits = (same m (inl kind), same 1 (inr fits.1.kind))

-- ---- before the growth: pages are taken, and a fresh undo page is made

record Prepared (spare : List ℕ) (plan : Plan) (pages : PageMap) (height u count : ℕ) : Type 0 where
  shape : Reshapes [] spare plan pages height height
  node : (n : ℕ) → IsNode (pages n).kind → after_plan plan pages n ≡ pages n
  undo_range : u < 4096
  undo_kind : (after_plan plan pages u).kind ≡ Undo
  undo_count : length (after_plan plan pages u).rows ≡ count
  undo_room : count < 15

node_not : (pages : PageMap) (n m : ℕ) (kind : Kind) → IsNode (pages n).kind → (pages m).kind ≡ kind → Leaf ≢ kind → Inner ≢ kind → n ≢ m
node_not pages n m kind node other l i = elim node [
  | inl is_leaf ↦ kind_apart pages n m Leaf kind is_leaf other l
  | inr is_inner ↦ kind_apart pages n m Inner kind is_inner other i
]

prepared : (fresh : Bool) (spare : List ℕ) (pages : PageMap) (height u : ℕ) → IsTree pages height → AllByRecursion (IsClear (pages 0)) (cond fresh (u ∷ []) [] ++ spare) → ((n : ℕ) → uses n (cond fresh (u ∷ []) [] ++ spare) ≤ 1) → UndoFits fresh u pages
    → Prepared spare (takes (cond fresh (u ∷ []) [] ++ spare) ++ cond fresh ((u, MakeUndo) ∷ []) []) pages height u (cond fresh 0 (length (pages u).rows))
prepared true spare pages height u tree clear once undo =
    let taken = take_all [] (u ∷ spare) pages height (with_none pages height tree) clear once in
    let first : Reshapes [] (u ∷ spare) (takes (u ∷ spare)) pages height height = respared [] taken.spare_after (u ∷ spare) (takes (u ∷ spare)) pages height height (λ n. omega (arith, taken.counts n)) taken.shape in
    let mid = after_plan (takes (u ∷ spare)) pages in
    let range : u < 4096 = clear.0.1 in
    let u_0 : u ≢ 0 = λ (e : u ≡ 0). absurd (omega (arith, e, clear.0.0)) in
    let blank : (mid u).kind ≡ Blank = first.tree.unused u range (omega (arith, one_if-same u)) in
    let blank_before : (pages u).kind ≡ Blank = ap (λ (q : PageView). q.kind) (sym (taken.others u u_0)) ∙ blank in
    let next = undo_step (u ∷ spare) spare mid height u first.tree range (λ n. omega arith) in
    let page : PageView = undo_page (mid u).llsn [] in
    let is : applied MakeUndo (mid u) ≡ Some page = ap (λ (b : Bool). cond b (Some page) None) (kind_test Blank (mid u) blank) in
    let after : after_plan ((u, MakeUndo) ∷ []) mid ≡ with_page mid u page = ap (with_page mid u) (changed_is MakeUndo (mid u) page is) in
    let all : after_plan (takes (u ∷ spare) ++ (u, MakeUndo) ∷ []) pages ≡ with_page mid u page = after_plan-append (takes (u ∷ spare)) ((u, MakeUndo) ∷ []) pages ∙ after in
    let here = ap (λ (m : PageMap). m u) all ∙ with_page-here mid u page in
    record {
      shape = reshapes_then [] (u ∷ spare) spare (takes (u ∷ spare)) ((u, MakeUndo) ∷ []) pages height height height first next;
      node = λ n node.
          let n_u = node_not pages n u Blank node blank_before (λ (e : Leaf ≡ Blank). absurd cc) (λ (e : Inner ≡ Blank). absurd cc) in
          let n_0 = node_not pages n 0 Meta node tree.meta (λ (e : Leaf ≡ Meta). absurd cc) (λ (e : Inner ≡ Meta). absurd cc) in
          ap (λ (m : PageMap). m n) all ∙ with_page-other mid u page n n_u ∙ taken.others n n_0;
      undo_range = range;
      undo_kind = ap (λ (q : PageView). q.kind) here;
      undo_count = ap (λ (q : PageView). length q.rows) here;
      undo_room = omega arith;
    }
prepared false spare pages height u tree clear once undo =
    let taken = take_all [] spare pages height (with_none pages height tree) clear once in
    let first : Reshapes [] spare (takes spare) pages height height = respared [] taken.spare_after spare (takes spare) pages height height (λ n. omega (arith, taken.counts n)) taken.shape in
    let all : after_plan (takes spare ++ []) pages ≡ after_plan (takes spare) pages = after_plan-append (takes spare) [] pages in
    let u_0 : u ≢ 0 = kind_apart pages u 0 Undo Meta undo.1 tree.meta (λ (e : Undo ≡ Meta). absurd cc) in
    let here = ap (λ (m : PageMap). m u) all ∙ taken.others u u_0 in
    record {
      shape = reshapes_then [] spare spare (takes spare) [] pages height height height first (reshapes_none spare (after_plan (takes spare) pages) height first.tree);
      node = λ n node. ap (λ (m : PageMap). m n) all ∙ taken.others n (node_not pages n 0 Meta node tree.meta (λ (e : Leaf ≡ Meta). absurd cc) (λ (e : Inner ≡ Meta). absurd cc));
      undo_range = undo.0;
      undo_kind = ap (λ (q : PageView). q.kind) here ∙ undo.1;
      undo_count = ap (λ (q : PageView). length q.rows) here;
      undo_room = undo.2;
    }

-- ---- the whole plan

all_below : (meta : PageView) (numbers : List ℕ) → AllByRecursion (IsClear meta) numbers → AllBelow 4096 numbers
all_below meta [] h = tt
all_below meta (n ∷ numbers) h = (h.0.1, all_below meta numbers h.1)

behind : (meta : PageView) (fresh : Bool) (u : ℕ) (spare : List ℕ) → AllByRecursion (IsClear meta) (cond fresh (u ∷ []) [] ++ spare) → AllByRecursion (IsClear meta) spare
behind meta true u spare h = h.1
behind meta false u spare h = h

-- the version before is a row that a page may keep
former_row : (key : ℕ) (rows : List Row) → key < 2 ^ 32 → AllByRecursion IsRow rows → IsRow (version_of key (row_at key rows))
former_row key [] lt h = record { key = lt; value = tt; origin = refl }
former_row key (row ∷ rows) lt h = by_test (row.key == key) (former_row key rows lt h.1)
  where
    by_test : (t : Bool) → IsRow (version_of key (row_at key rows)) → IsRow (version_of key (cond t (Some row) (row_at key rows)))
    by_test true rest = h.0
    by_test false rest = rest

pub written : (pages : PageMap) (height : ℕ) (growth : Growth) (m : ℕ) (fresh : Bool) (u a b c : ℕ) (row : Row) → IsTree pages height → WriteFits pages growth m fresh u a b c row → WritesRow (write_plan growth m fresh u pages a b c row) row pages height
written pages height growth m fresh u a b c row tree w =
    let spare = take (pages_needed growth) (a ∷ b ∷ c ∷ []) in
    let start : Plan = takes (new_pages fresh u growth a b c) ++ cond fresh ((u, MakeUndo) ∷ []) [] in
    let first = prepared fresh spare pages height u tree w.clear w.once w.undo in
    let mid = after_plan start pages in
    let same = kept_pages growth pages mid row.key m w.is_leaf.kind first.node w.fits in
    let leaf_same : mid m ≡ pages m = first.node m (inl w.is_leaf.kind) in
    let below : AllBelow 4096 spare = all_below (pages 0) spare (behind (pages 0) fresh u spare w.clear) in
    let g = grown growth mid height row.key m a b c first.shape.tree below w.range (subst (IsLeafOf row.key) (sym leaf_same) w.is_leaf) (fits_same growth mid pages row.key m same w.fits) in
    let changes = growth_changes growth m pages a b c in
    let target = leaf_after growth row.key m pages a b in
    let g1 : Grown spare changes mid height row.key (leaf_after growth row.key m mid a b) = subst (λ (p : Plan). Grown spare p mid height row.key (leaf_after growth row.key m mid a b)) (changes_same growth mid pages m a b c same) g in
    let g2 : Grown spare changes mid height row.key target = subst (Grown spare changes mid height row.key) (target_same growth mid pages row.key m a b leaf_same) g1 in
    let all : after_plan (start ++ changes) pages ≡ after_plan changes mid = after_plan-append start changes pages in
    let shape = reshapes_then [] spare [] start changes pages height height g2.new_height first.shape g2.shape in
    let former = version_of row.key (row_at row.key (pages m).rows) in
    let is_former : former ≡ version_of row.key (row_at row.key (tree_rows pages height)) = ap (version_of row.key) (sym (row_in_leaf [] pages height m row.key (with_none pages height tree) w.range w.is_leaf.kind w.is_leaf.from w.is_leaf.until)) in
    let undo_same : after_plan (start ++ changes) pages u ≡ mid u = ap (λ (p : PageMap). p u) all ∙ g2.undo u first.undo_kind in
    let count : length (after_plan (start ++ changes) pages u).rows ≡ cond fresh 0 (length (pages u).rows) = ap (λ (q : PageView). length q.rows) undo_same ∙ first.undo_count in
    let target_is : after_plan (start ++ changes) pages target ≡ after_plan changes mid target = ap (λ (p : PageMap). p target) all in
    let ready : Ready (after_plan (start ++ changes) pages) u target former row = record {
      undo_range = first.undo_range;
      undo_kind = ap (λ (q : PageView). q.kind) undo_same ∙ first.undo_kind;
      undo_room = omega (arith, count, first.undo_room);
      former_row = former_row row.key (pages m).rows w.is_row.key (content_of Leaf (pages m) (tree.sound m w.range) w.is_leaf.kind).2;
      leaf_range = g2.range;
      leaf_kind = ap (λ (q : PageView). q.kind) target_is ∙ g2.kind;
      from = subst (λ (q : PageView). q.low ≤ row.key) (sym target_is) g2.from;
      until = subst (λ (q : PageView). row.key < q.high) (sym target_is) g2.until;
      room = subst (λ (q : PageView). has_place row.key q ≡ true) (sym target_is) g2.place;
      is_row = w.is_row;
      writer = w.writer;
      link = w.link ∙ ap (λ (k : ℕ). Some (record { page = u; index = k })) (sym count);
    } in
    finished (start ++ changes) pages height g2.new_height u target former row shape is_former ready

-- ---- over every tree that has the same of the pages that it changes

agrees_parts : (p q : Plan) (given pages : PageMap) → AgreesOn (p ++ q) given pages → AgreesOn p given pages × AgreesOn q given pages
agrees_parts [] q given pages h = (tt, h)
agrees_parts (step ∷ p) q given pages h = let rest = agrees_parts p q given pages h.1 in ((h.0, rest.0), rest.1)

clear_same : (numbers : List ℕ) (given pages : PageMap) → AgreesOn (takes numbers) given pages → AllByRecursion (IsClear (given 0)) numbers → AllByRecursion (IsClear (pages 0)) numbers
clear_same [] given pages a h = tt
clear_same (n ∷ numbers) given pages a h = subst (λ (q : PageView). AllByRecursion (IsClear q) (n ∷ numbers)) (sym a.0) h

pages_same : (growth : Growth) (given pages : PageMap) (key m a b c : ℕ) → GrowthFits given key m growth → AgreesOn (growth_changes growth m given a b c) given pages → pages (leaf_after growth key m given a b) ≡ given (leaf_after growth key m given a b) → SamePages pages given m growth
pages_same stays given pages key m a b c fits h last = last
pages_same new_root given pages key m a b c fits h last = subst (λ (k : ℕ). pages k ≡ given k) (sym fits.0) h.1.1.0
pages_same (leaf p) given pages key m a b c fits h last = (h.1.0, h.1.1.0)
pages_same (inner p) given pages key m a b c fits h last = (h.1.0, h.1.1.1.0, h.1.1.1.1.1.0)
pages_same higher given pages key m a b c fits h last = (h.1.0, h.1.1.1.1.0)

undo_fits_same : (fresh : Bool) (u : ℕ) (given pages : PageMap) → pages u ≡ given u → UndoFits fresh u given → UndoFits fresh u pages
undo_fits_same true u given pages e h = tt
undo_fits_same false u given pages e h = (h.0, ap (λ (q : PageView). q.kind) e ∙ h.1, subst (λ (q : PageView). length q.rows < 15) (sym e) h.2)

-- what the plan puts, puts back and takes
no_rows_put : (growth : Growth) (pages : PageMap) (m a b c : ℕ) → rows_put (growth_changes growth m pages a b c) ≡ []
no_rows_put stays pages m a b c = refl
no_rows_put new_root pages m a b c = refl
no_rows_put (leaf p) pages m a b c = refl
no_rows_put (inner p) pages m a b c = refl
no_rows_put higher pages m a b c = refl

no_rows_kept : (growth : Growth) (pages : PageMap) (m a b c : ℕ) → rows_kept (growth_changes growth m pages a b c) ≡ []
no_rows_kept stays pages m a b c = refl
no_rows_kept new_root pages m a b c = refl
no_rows_kept (leaf p) pages m a b c = refl
no_rows_kept (inner p) pages m a b c = refl
no_rows_kept higher pages m a b c = refl

no_rows_restored : (growth : Growth) (pages : PageMap) (m a b c : ℕ) → rows_restored (growth_changes growth m pages a b c) ≡ []
no_rows_restored stays pages m a b c = refl
no_rows_restored new_root pages m a b c = refl
no_rows_restored (leaf p) pages m a b c = refl
no_rows_restored (inner p) pages m a b c = refl
no_rows_restored higher pages m a b c = refl

no_pages_taken : (growth : Growth) (pages : PageMap) (m a b c : ℕ) → pages_taken (growth_changes growth m pages a b c) ≡ []
no_pages_taken stays pages m a b c = refl
no_pages_taken new_root pages m a b c = refl
no_pages_taken (leaf p) pages m a b c = refl
no_pages_taken (inner p) pages m a b c = refl
no_pages_taken higher pages m a b c = refl

takes_put : (numbers : List ℕ) → rows_put (takes numbers) ≡ []
takes_put [] = refl
takes_put (n ∷ numbers) = takes_put numbers

takes_kept : (numbers : List ℕ) → rows_kept (takes numbers) ≡ []
takes_kept [] = refl
takes_kept (n ∷ numbers) = takes_kept numbers

takes_restored : (numbers : List ℕ) → rows_restored (takes numbers) ≡ []
takes_restored [] = refl
takes_restored (n ∷ numbers) = takes_restored numbers

takes_taken : (numbers : List ℕ) → pages_taken (takes numbers) ≡ numbers
takes_taken [] = refl
takes_taken (n ∷ numbers) = ap (λ (xs : List ℕ). n ∷ xs) (takes_taken numbers)

pub plan_puts : (growth : Growth) (m : ℕ) (fresh : Bool) (u : ℕ) (pages : PageMap) (a b c : ℕ) (row : Row) → rows_put (write_plan growth m fresh u pages a b c row) ≡ row ∷ []
plan_puts growth m fresh u pages a b c row =
    let tail : Plan = (u, PutUndo (version_of row.key (row_at row.key (pages m).rows))) ∷ (leaf_after growth row.key m pages a b, PutRow row) ∷ [] in
    let takes_all = takes (new_pages fresh u growth a b c) in
    let changes = growth_changes growth m pages a b c in
    let f : ℕ × Change → List Row = λ step. row_put step.1 in
    let none : rows_put (takes_all ++ cond fresh ((u, MakeUndo) ∷ []) [] ++ changes) ≡ [] = flat_map-append f (takes_all ++ cond fresh ((u, MakeUndo) ∷ []) []) changes ∙ rw (flat_map-append f takes_all (cond fresh ((u, MakeUndo) ∷ []) []), takes_put (new_pages fresh u growth a b c), no_rows_put growth pages m a b c) (made fresh) in
    flat_map-append f (takes_all ++ cond fresh ((u, MakeUndo) ∷ []) [] ++ changes) tail ∙ ap (λ (xs : List Row). xs ++ row ∷ []) none
  where
    made : (t : Bool) → rows_put (cond t ((u, MakeUndo) ∷ []) []) ++ [] ≡ []
    made true = refl
    made false = refl

pub plan_keeps : (growth : Growth) (m : ℕ) (fresh : Bool) (u : ℕ) (pages : PageMap) (a b c : ℕ) (row : Row) → rows_kept (write_plan growth m fresh u pages a b c row) ≡ version_of row.key (row_at row.key (pages m).rows) ∷ []
plan_keeps growth m fresh u pages a b c row =
    let former = version_of row.key (row_at row.key (pages m).rows) in
    let tail : Plan = (u, PutUndo former) ∷ (leaf_after growth row.key m pages a b, PutRow row) ∷ [] in
    let takes_all = takes (new_pages fresh u growth a b c) in
    let changes = growth_changes growth m pages a b c in
    let f : ℕ × Change → List Row = λ step. row_kept step.1 in
    let none : rows_kept (takes_all ++ cond fresh ((u, MakeUndo) ∷ []) [] ++ changes) ≡ [] = flat_map-append f (takes_all ++ cond fresh ((u, MakeUndo) ∷ []) []) changes ∙ rw (flat_map-append f takes_all (cond fresh ((u, MakeUndo) ∷ []) []), takes_kept (new_pages fresh u growth a b c), no_rows_kept growth pages m a b c) (made fresh) in
    flat_map-append f (takes_all ++ cond fresh ((u, MakeUndo) ∷ []) [] ++ changes) tail ∙ ap (λ (xs : List Row). xs ++ former ∷ []) none
  where
    made : (t : Bool) → rows_kept (cond t ((u, MakeUndo) ∷ []) []) ++ [] ≡ []
    made true = refl
    made false = refl

pub plan_restores : (growth : Growth) (m : ℕ) (fresh : Bool) (u : ℕ) (pages : PageMap) (a b c : ℕ) (row : Row) → rows_restored (write_plan growth m fresh u pages a b c row) ≡ []
plan_restores growth m fresh u pages a b c row =
    let tail : Plan = (u, PutUndo (version_of row.key (row_at row.key (pages m).rows))) ∷ (leaf_after growth row.key m pages a b, PutRow row) ∷ [] in
    let takes_all = takes (new_pages fresh u growth a b c) in
    let changes = growth_changes growth m pages a b c in
    let f : ℕ × Change → List Row = λ step. row_restored step.1 in
    let none : rows_restored (takes_all ++ cond fresh ((u, MakeUndo) ∷ []) [] ++ changes) ≡ [] = flat_map-append f (takes_all ++ cond fresh ((u, MakeUndo) ∷ []) []) changes ∙ rw (flat_map-append f takes_all (cond fresh ((u, MakeUndo) ∷ []) []), takes_restored (new_pages fresh u growth a b c), no_rows_restored growth pages m a b c) (made fresh) in
    flat_map-append f (takes_all ++ cond fresh ((u, MakeUndo) ∷ []) [] ++ changes) tail ∙ ap (λ (xs : List Row). xs ++ []) none
  where
    made : (t : Bool) → rows_restored (cond t ((u, MakeUndo) ∷ []) []) ++ [] ≡ []
    made true = refl
    made false = refl

pub plan_takes : (growth : Growth) (m : ℕ) (fresh : Bool) (u : ℕ) (pages : PageMap) (a b c : ℕ) (row : Row) → pages_taken (write_plan growth m fresh u pages a b c row) ≡ new_pages fresh u growth a b c
plan_takes growth m fresh u pages a b c row =
    let tail : Plan = (u, PutUndo (version_of row.key (row_at row.key (pages m).rows))) ∷ (leaf_after growth row.key m pages a b, PutRow row) ∷ [] in
    let taken = new_pages fresh u growth a b c in
    let changes = growth_changes growth m pages a b c in
    let f : ℕ × Change → List ℕ = λ step. page_taken step.1 in
    flat_map-append f (takes taken ++ cond fresh ((u, MakeUndo) ∷ []) [] ++ changes) tail
    ∙ append-nil (pages_taken (takes taken ++ cond fresh ((u, MakeUndo) ∷ []) [] ++ changes))
    ∙ flat_map-append f (takes taken ++ cond fresh ((u, MakeUndo) ∷ []) []) changes
    ∙ rw (no_pages_taken growth pages m a b c, flat_map-append f (takes taken) (cond fresh ((u, MakeUndo) ∷ []) []), takes_taken taken) (append-nil (taken ++ pages_taken (cond fresh ((u, MakeUndo) ∷ []) [])) ∙ made fresh)
  where
    made : (t : Bool) → new_pages fresh u growth a b c ++ pages_taken (cond t ((u, MakeUndo) ∷ []) []) ≡ new_pages fresh u growth a b c
    made true = append-nil (new_pages fresh u growth a b c)
    made false = append-nil (new_pages fresh u growth a b c)

few_new : (fresh : Bool) (u : ℕ) (growth : Growth) (a b c : ℕ) → length (new_pages fresh u growth a b c) ≤ 5
few_new true u stays a b c = omega arith
few_new true u new_root a b c = omega arith
few_new true u (leaf p) a b c = omega arith
few_new true u (inner p) a b c = omega arith
few_new true u higher a b c = omega arith
few_new false u stays a b c = omega arith
few_new false u new_root a b c = omega arith
few_new false u (leaf p) a b c = omega arith
few_new false u (inner p) a b c = omega arith
few_new false u higher a b c = omega arith

pub well_written : (given : PageMap) (growth : Growth) (m : ℕ) (fresh : Bool) (u a b c : ℕ) (row : Row) → WriteFits given growth m fresh u a b c row → WellPut given row (write_plan growth m fresh u given a b c row)
well_written given growth m fresh u a b c row w = record {
  writes = λ pages agrees height tree.
      let tail : Plan = (u, PutUndo (version_of row.key (row_at row.key (given m).rows))) ∷ (leaf_after growth row.key m given a b, PutRow row) ∷ [] in
      let taken = takes (new_pages fresh u growth a b c) in
      let changes = growth_changes growth m given a b c in
      let one = agrees_parts (taken ++ cond fresh ((u, MakeUndo) ∷ []) [] ++ changes) tail given pages agrees in
      let two = agrees_parts (taken ++ cond fresh ((u, MakeUndo) ∷ []) []) changes given pages one.0 in
      let three = agrees_parts taken (cond fresh ((u, MakeUndo) ∷ []) []) given pages two.0 in
      let same = pages_same growth given pages row.key m a b c w.fits two.1 one.1.1.0 in
      let leaf_same = leaf_page_same growth pages given m same in
      let undo_same : pages u ≡ given u = one.1.0 in
      let fits : WriteFits pages growth m fresh u a b c row = record {
        range = w.range;
        is_leaf = subst (IsLeafOf row.key) (sym leaf_same) w.is_leaf;
        fits = fits_same growth pages given row.key m same w.fits;
        clear = clear_same (new_pages fresh u growth a b c) given pages three.0 w.clear;
        once = w.once;
        undo = undo_fits_same fresh u given pages undo_same w.undo;
        is_row = w.is_row;
        writer = w.writer;
        link = w.link ∙ ap (λ (q : PageView). Some (record { page = u; index = cond fresh 0 (length q.rows) })) (sym undo_same);
      } in
      let plan_same : write_plan growth m fresh u pages a b c row ≡ write_plan growth m fresh u given a b c row =
      ap (λ (p : Plan). taken ++ cond fresh ((u, MakeUndo) ∷ []) [] ++ p ++ (u, PutUndo (version_of row.key (row_at row.key (pages m).rows))) ∷ (leaf_after growth row.key m pages a b, PutRow row) ∷ []) (changes_same growth pages given m a b c same)
      ∙ ap (λ (q : PageView). taken ++ cond fresh ((u, MakeUndo) ∷ []) [] ++ changes ++ (u, PutUndo (version_of row.key (row_at row.key q.rows))) ∷ (leaf_after growth row.key m pages a b, PutRow row) ∷ []) leaf_same
      ∙ ap (λ (n : ℕ). taken ++ cond fresh ((u, MakeUndo) ∷ []) [] ++ changes ++ (u, PutUndo (version_of row.key (row_at row.key (given m).rows))) ∷ (n, PutRow row) ∷ []) (target_same growth pages given row.key m a b leaf_same) in
      subst (λ (p : Plan). WritesRow p row pages height) plan_same (written pages height growth m fresh u a b c row tree fits);
  puts = plan_puts growth m fresh u given a b c row;
  keeps = (version_of row.key (row_at row.key (given m).rows), plan_keeps growth m fresh u given a b c row);
  restores = plan_restores growth m fresh u given a b c row;
  taken = omega (arith, ap (λ (xs : List ℕ). length xs) (plan_takes growth m fresh u given a b c row), few_new fresh u growth a b c);
}
