-- A scan, leaf by leaf: what it found of one leaf, and of all leaves that it came to.
use Rattle.std.proofs.Common.{◌≡◌, ℕ, zero, suc, ◌+◌, ◌<◌, ◌≤◌, ◌^◌, List, [], ◌∷◌, ◌++◌, length, slice_get, Option, Some, None, refl, sym, ap, subst, ◌∙◌, inl, inr, arith, append_assoc, append-nil}
use Rattle.mp_machine.specs.Lists.{IsIn}
use Rattle.mp_machine.specs.View.{part_in}
use Rattle.mp_model.specs.declared.ids.TrxId.{TrxId}
use Rattle.mp_model.specs.declared.key_value.KeyValue.{KeyValue}
use Rattle.mp_cells.specs.declared.records.Mtr.{Mtr}
use Rattle.mp_cells.specs.declared.rows.Row.{Row}
use Rattle.mp_cells.specs.PageView.{PageView}
use Rattle.mp_cells.specs.Writes.{version_of}
use Rattle.mp_cells.proofs.KeyOrder.{Rises}
use Rattle.mp_tree.specs.declared.search.LeafRows.{LeafRows}
use Rattle.mp_tree.specs.Searches.{rows_above, rows_between}
use Rattle.mp_core_trx.specs.declared.part.Begun.{Begun}
use Rattle.mp_core_pages.specs.declared.part.GivenPage.{GivenPage}
use Rattle.mp_core_pages.specs.declared.part.Placed.{Placed}
use Rattle.mp_core.specs.declared.part.CorePart.{CorePart}
use Rattle.mp_core.specs.CoreExtends.{CoreExtends}
use Rattle.mp_shared.specs.Nodes.{Run, NodeView, Reached}
use Rattle.mp_shared.proofs.Holding.{held_part}
use Rattle.mp_supports.specs.Seeing.{ShowsNewest, LeadsToSeen, key_value_of, AreSeenAs, IsStretch, ScansTo}
use Rattle.mp_supports.proofs.Extending.{given_in, core_extends_trans}
use Rattle.mp_supports.proofs.SeesMore.{are_seen_more, scans_more}
use Rattle.mp_desk.specs.declared.desk.Desk.{Desk}
use Rattle.mp_desk.specs.Desks.{IsAtDesk, IsReadAfresh, AreGivenSince}
use Rattle.mp_desk.specs.Statements.{IsReader, ReadsIn, KnowsView, RowsSince, IsNewestIn, LooksOn, FindsRows, FindsStretch}
use Rattle.mp_desk.proofs.Looking.{look_both, look_none, still_newest, part_then}
use Rattle.mp_desk.proofs.SeenMore.{one_seen}
use Rattle.mp_desk.proofs.LeafRuns.{HasRuns, SplitsAt, leaf_runs, rises_above, rises_split, row_found, between_upto, between_all, next_at, none_left}
use Rattle.mp_desk.proofs.ReadValue.{only_puts}

-- ---- one leaf

module _ (start mid : CorePart) (low : ℕ) (found : LeafRows) (since : RowsSince start mid low found) where
  runs : HasRuns since.leaf.page
  runs = leaf_runs since.leaf.page since.page since.its_leaf.kind

  rise : Rises (λ row. row.key) low since.leaf.page.high (rows_above low since.leaf.page.rows)
  rise = rises_above low since.leaf.page.low since.leaf.page.high since.leaf.page.rows runs.rise

  -- the leaf goes on above the key, to 2^32 at most
  pub leaf_above : (low < found.next) × (found.next ≤ 2 ^ 32)
  leaf_above = let until = since.its_leaf.until in let most = runs.most in let next = since.next in (omega (arith, until, next), omega (arith, most, next))

  module _ (front : List Row) (x : Row) (back : List Row) (is : found.rows ≡ front ++ x ∷ back) where
    split : SplitsAt low since.leaf.page.high front x back
    split = rises_split low since.leaf.page.high front x back (subst (Rises (λ (row : Row). row.key) low since.leaf.page.high) (sym since.rows ∙ is) rise)

    -- each of the rows is its key's newest version
    pub row_newest : ShowsNewest mid since.leaf x.key x
    row_newest =
        let s = split in
        let from = s.from in
        let low_is = since.its_leaf.from in
        record {
          given = since.since.given;
          its_leaf = record { kind = since.its_leaf.kind; from = omega (arith, from, low_is); until = s.until };
          newest_is = ap (version_of x.key) (sym (row_found low since.leaf.page.high since.leaf.page.rows front x back (sym since.rows ∙ is) s));
        }

  module _ (p : ℕ) (n : NodeView) (reached : Reached n) (trx : Begun) (r : CorePart) (has : part_in n.parts p ≡ Some r) (reads : IsReader p trx r) (knows : KnowsView start trx) (e : CoreExtends mid r) (olds news : List KeyValue) where
    stretch : (next : ℕ) (front : List Row) (more : List KeyValue) → low < next → next ≤ since.leaf.page.high → rows_between low next since.leaf.page.rows ≡ front → AreSeenAs r trx.id trx.view front more → news ≡ olds ++ more → FindsStretch start r trx low next olds news
    stretch next front more above within is seen added =
        let given = since.since.knew in
        record {
          leaf = since.leaf;
          more = more;
          added = added;
          stretch = record {
            leaf = since.leaf;
            rests = inl refl;
            given = given_in mid r e since.leaf since.since.given;
            its_leaf = since.its_leaf;
            some_keys = above;
            within = within;
            knew = omega (arith, knows, given);
            seen = subst (λ (rows : List Row). AreSeenAs r trx.id trx.view rows more) (sym is) seen;
            only_put = only_puts n p r reached has trx reads since.leaf.height;
          };
          since = since.since.since;
        }

    -- all its rows were seen
    pub stretch_end : (more : List KeyValue) → AreSeenAs r trx.id trx.view found.rows more → news ≡ olds ++ more → FindsStretch start r trx low found.next olds news
    stretch_end more seen added =
        let next = since.next in
        let same : rows_between low found.next since.leaf.page.rows ≡ found.rows =
        ap (λ (k : ℕ). rows_between low k since.leaf.page.rows) next ∙ between_all low since.leaf.page.high since.leaf.page.rows rise ∙ sym since.rows in
        stretch found.next found.rows more leaf_above.0 (omega (arith, next)) same seen added

    -- those up to this one
    pub stretch_upto : (front : List Row) (x : Row) (back : List Row) (more : List KeyValue) → found.rows ≡ front ++ x ∷ back → AreSeenAs r trx.id trx.view (front ++ x ∷ []) more → news ≡ olds ++ more → FindsStretch start r trx low (x.key + 1) olds news
    stretch_upto front x back more is seen added =
        let s = split front x back is in
        let from = s.from in
        let until = s.until in
        stretch (x.key + 1) (front ++ x ∷ []) more (omega (arith, from)) (omega (arith, until)) (between_upto low since.leaf.page.high since.leaf.page.rows front x back (sym since.rows ∙ is) s) seen added

-- so many rows of a leaf were seen, as these rows
pub record LeafSeen (run : Run) (p : ℕ) (trx : Begun) (most : ℕ) (found : LeafRows) (old new : Desk) (a b : NodeView) (olds news : List KeyValue) (spare count : ℕ) : Type 0 where
  pub desk : IsAtDesk run new p b
  pub looks : LooksOn p old new a b
  pub few : length news < most
  pub room : most ≤ length news + spare
  pub front : List Row
  pub back : List Row
  pub split : found.rows ≡ front ++ back
  pub counted : length front ≡ count
  pub seen : (q : CorePart) → part_in b.parts p ≡ Some q → (more : List KeyValue) × (news ≡ olds ++ more) × AreSeenAs q trx.id trx.view front more

pub added_few : (news : List KeyValue) (key : ℕ) (value : Option (List ℕ)) → length (news ++ key_value_of key value) ≤ length news + 1
added_few [] key None = omega arith
added_few [] key (Some value) = omega arith
added_few (x ∷ news) key value = let rest = added_few news key value in omega (arith, rest)

pub seen_none : (run : Run) (p : ℕ) (trx : Begun) (most : ℕ) (found : LeafRows) (desk : Desk) (n : NodeView) (olds : List KeyValue) (spare : ℕ) → IsAtDesk run desk p n → length olds < most → most ≤ length olds + spare → LeafSeen run p trx most found desk desk n n olds olds spare 0
seen_none run p trx most found desk n olds spare at few room = record {
  desk = at;
  looks = look_none p desk n;
  few = few;
  room = room;
  front = [];
  back = found.rows;
  split = refl;
  counted = refl;
  seen = λ q has. ([], sym (append-nil olds), refl);
}

-- the rows of a leaf that was read from a desk, and what it was read from
pub record ReadsRows (p low : ℕ) (found : LeafRows) (old new : Desk) (a b : NodeView) : Type 0 where
  pub looks : LooksOn p old new a b
  pub rows : (start q r : CorePart) → part_in a.parts p ≡ Some q → CoreExtends start q → AreGivenSince start q old.pool → part_in b.parts p ≡ Some r → RowsSince start r low found

module _ (run : Run) (p : ℕ) (trx : Begun) (low most : ℕ) (found : LeafRows) (first old new : Desk) (z a b : NodeView) (olds news : List KeyValue) (spare count : ℕ)
    (begin : IsAtDesk run first p z) (afresh : IsReadAfresh first p z) (read : ReadsRows p low found first old z a) (at : IsAtDesk run old p a) (so_far : LeafSeen run p trx most found old new a b olds news spare count) where
  some_since : (start : CorePart) × (r : CorePart) × (part_in a.parts p ≡ Some r) × RowsSince start r low found
  some_since =
      let has = held_part z p begin.part in
      let was = afresh has.0 has.1 in
      let now = held_part a p at.part in
      (was.0, now.0, now.1, read.rows was.0 has.0 now.0 has.1 was.1 was.2 now.1)

  pub above_low : (low < found.next) × (found.next ≤ 2 ^ 32)
  above_low = let s = some_since in leaf_above s.0 s.1 low found s.3

  -- the next row
  module _ (x : Row) (is : slice_get found.rows count ≡ Some x) where
    rest_of : (rest : List Row) × (found.rows ≡ so_far.front ++ x ∷ rest)
    rest_of =
        let next = next_at so_far.front so_far.back count x so_far.counted (subst (λ (rows : List Row). slice_get rows count ≡ Some x) so_far.split is) in
        (next.rest, so_far.split ∙ ap (λ (l : List Row). so_far.front ++ l) next.is)

    pub row_in_node : IsNewestIn p b x.key x
    row_in_node = still_newest run p old new a b at so_far.looks x.key x first_newest
      where
        first_newest : IsNewestIn p a x.key x
        first_newest r there =
            let has = held_part z p begin.part in
            let was = afresh has.0 has.1 in
            let since = read.rows was.0 has.0 r has.1 was.1 was.2 there in
            let rest = rest_of in
            (since.leaf, row_newest was.0 r low found since so_far.front x rest.0 rest.1)

    pub row_above : (low < x.key + 1) × (x.key + 1 ≤ 2 ^ 32)
    row_above =
        let s = some_since in
        let rest = rest_of in
        let at_row = split s.0 s.1 low found s.3 so_far.front x rest.0 rest.1 in
        let from = at_row.from in
        let until = at_row.until in
        let most_high = (runs s.0 s.1 low found s.3).most in
        (omega (arith, from), omega (arith, until, most_high))

    module _ (last : Desk) (c : NodeView) (then : IsAtDesk run last p c) (looks : LooksOn p new last b c) (row : Row) (seen : (r : CorePart) → part_in c.parts p ≡ Some r → (older : List Row) × LeadsToSeen r trx.id trx.view x older row)
        (added : List KeyValue) (added_is : added ≡ news ++ key_value_of x.key row.value) where
      seen_then : (q : CorePart) → part_in c.parts p ≡ Some q → (more : List KeyValue) × (added ≡ olds ++ more) × AreSeenAs q trx.id trx.view (so_far.front ++ x ∷ []) more
      seen_then q there =
          let has = held_part b p so_far.desk.part in
          let was = so_far.seen has.0 has.1 in
          let e = part_then run p new last b c so_far.desk looks has.0 q has.1 there in
          let leads = seen q there in (
            was.0 ++ key_value_of x.key row.value,
            added_is ∙ ap (λ (l : List KeyValue). l ++ key_value_of x.key row.value) was.1 ∙ append_assoc olds was.0 (key_value_of x.key row.value),
            one_seen q trx.id trx.view so_far.front was.0 x leads.0 row (are_seen_more has.0 q e trx.id trx.view so_far.front was.0 was.2) leads.1,
          )

      pub seen_more_rows : (room : ℕ) → length added < most → most ≤ length added + room → LeafSeen run p trx most found old last a c olds added room (count + 1)
      seen_more_rows room few enough =
          let rest = rest_of in
          record {
            desk = then;
            looks = look_both p old new last a b c so_far.looks looks;
            few = few;
            room = enough;
            front = so_far.front ++ x ∷ [];
            back = rest.0;
            split = rest.1 ∙ sym (append_assoc so_far.front (x ∷ []) rest.0);
            counted = count_more so_far.front count so_far.counted;
            seen = seen_then;
          }
        where
          count_more : (l : List Row) (k : ℕ) → length l ≡ k → length (l ++ x ∷ []) ≡ k + 1
          count_more [] k is = omega (arith, is)
          count_more (y ∷ l) k is = let rest = count_more l (length l) refl in omega (arith, is, rest)

      -- there are enough rows
      pub enough_rows : ReadsIn p trx c → (start q r : CorePart) → part_in z.parts p ≡ Some q → CoreExtends start q → KnowsView start trx → AreGivenSince start q first.pool → part_in c.parts p ≡ Some r → FindsStretch start r trx low (x.key + 1) olds added
      enough_rows reads start q r has before knows given there =
          let now = held_part a p at.part in
          let since = read.rows start q now.0 has before given now.1 in
          let rest = rest_of in
          let e = part_then run p old last a c at (look_both p old new last a b c so_far.looks looks) now.0 r now.1 there in
          let s = seen_then r there in
          stretch_upto start now.0 low found since p c then.reached trx r there (reads r there) knows e olds added so_far.front x rest.0 s.0 rest.1 s.2 s.1

  -- the leaf's end
  pub leaf_done : count ≡ length found.rows → ReadsIn p trx b → (start q r : CorePart) → part_in z.parts p ≡ Some q → CoreExtends start q → KnowsView start trx → AreGivenSince start q first.pool → part_in b.parts p ≡ Some r → FindsStretch start r trx low found.next olds news
  leaf_done all reads start q r has before knows given there =
      let now = held_part a p at.part in
      let since = read.rows start q now.0 has before given now.1 in
      let e = part_then run p old new a b at so_far.looks now.0 r now.1 there in
      let s = so_far.seen r there in
      let whole : so_far.front ≡ found.rows = none_left so_far.front so_far.back found.rows so_far.split (so_far.counted ∙ all) in
      stretch_end start now.0 low found since p b so_far.desk.reached trx r there (reads r there) knows e olds news s.0 (subst (λ (rows : List Row). AreSeenAs r trx.id trx.view rows s.0) whole s.2) s.1

-- ---- leaf after leaf

-- stretches one after another, each of a leaf that was given since
pub record ScannedTo (start r : CorePart) (trx : Begun) (low high : ℕ) (rows : List KeyValue) : Type 0 where
  pub pages : List (GivenPage PageView)
  pub count : ℕ
  pub scans : ScansTo r pages trx.id trx.view count low high rows
  pub given : (g : GivenPage PageView) → IsIn g pages → IsIn g r.pages.given
  pub since : (g : GivenPage PageView) → IsIn g pages → (x : Placed Mtr) → IsIn x start.pages.made → x.at < g.height

module _ (r : CorePart) (reader : TrxId) (view : ℕ) (pages more : List (GivenPage PageView)) (all : (g : GivenPage PageView) → IsIn g pages → IsIn g more) where
  stretch_in : (low next : ℕ) (rows : List KeyValue) → IsStretch r pages reader view low next rows → IsStretch r more reader view low next rows
  stretch_in low next rows s = record {
    leaf = s.leaf;
    rests = all s.leaf s.rests;
    given = s.given;
    its_leaf = s.its_leaf;
    some_keys = s.some_keys;
    within = s.within;
    knew = s.knew;
    seen = s.seen;
    only_put = s.only_put;
  }

  scans_in : (count low high : ℕ) (rows : List KeyValue) → ScansTo r pages reader view count low high rows → ScansTo r more reader view count low high rows
  scans_in zero low high rows h = h
  scans_in (suc count) low high rows h = (h.0, h.1, h.2, stretch_in low h.0 h.1 h.3, scans_in count h.0 high h.2 h.4, h.5)

module _ (r : CorePart) (reader : TrxId) (view : ℕ) (pages : List (GivenPage PageView)) where
  one_more : (count low high next : ℕ) (rows last : List KeyValue) → ScansTo r pages reader view count low high rows → IsStretch r pages reader view high next last → ScansTo r pages reader view (suc count) low next (rows ++ last)
  one_more zero low high next rows last h s = (
    next,
    last,
    [],
    subst (λ (k : ℕ). IsStretch r pages reader view k next last) (sym h.0) s,
    (refl, refl),
    ap (λ (l : List KeyValue). l ++ last) h.1 ∙ sym (append-nil last),
  )
  one_more (suc count) low high next rows last h s =
      (h.0, h.1, h.2 ++ last, h.3, one_more count h.0 high next h.2 last h.4 s, ap (λ (l : List KeyValue). l ++ last) h.5 ∙ append_assoc h.1 h.2 last)

only_one : (g leaf : GivenPage PageView) → IsIn g (leaf ∷ []) → g ≡ leaf
only_one g leaf (inl is) = is
only_one g leaf (inr none) = absurd none

pub scanned_next : (start mid r : CorePart) (trx : Begun) (low from next : ℕ) (olds news : List KeyValue) → CoreExtends mid r → ScannedTo start mid trx low from olds → FindsStretch start r trx from next olds news → ScannedTo start r trx low next news
scanned_next start mid r trx low from next olds news e s f =
    let leaf = f.leaf in
    let pages = leaf ∷ s.pages in
    let before = scans_more mid r e s.pages trx.id trx.view s.count low from olds s.scans in
    let all = one_more r trx.id trx.view pages s.count low from next olds f.more
    (scans_in r trx.id trx.view s.pages pages (λ g there. inr there) s.count low from olds before)
    (stretch_in r trx.id trx.view (leaf ∷ []) pages (λ g there. inl (only_one g leaf there)) from next f.more f.stretch) in
    record {
      pages = pages;
      count = suc s.count;
      scans = subst (λ (rows : List KeyValue). ScansTo r pages trx.id trx.view (suc s.count) low next rows) (sym f.added) all;
      given = λ g there. given_of g there;
      since = λ g there. since_of g there;
    }
  where
    given_of : (g : GivenPage PageView) → IsIn g (f.leaf ∷ s.pages) → IsIn g r.pages.given
    given_of g (inl is) = subst (λ (x : GivenPage PageView). IsIn x r.pages.given) (only_one f.stretch.leaf f.leaf f.stretch.rests ∙ sym is) f.stretch.given
    given_of g (inr there) = given_in mid r e g (s.given g there)

    since_of : (g : GivenPage PageView) → IsIn g (f.leaf ∷ s.pages) → (x : Placed Mtr) → IsIn x start.pages.made → x.at < g.height
    since_of g (inl is) x made = subst (λ (y : GivenPage PageView). x.at < y.height) (sym is) (f.since x made)
    since_of g (inr there) x made = s.since g there x made

-- what a scan found so far, after so many leaves
pub record ScanSoFar (run : Run) (p : ℕ) (trx : Begun) (low most : ℕ) (old new : Desk) (a b : NodeView) (from : ℕ) (rows : List KeyValue) (spare count : ℕ) : Type 0 where
  pub desk : IsAtDesk run new p b
  pub looks : LooksOn p old new a b
  pub few : length rows ≤ most
  pub room : most ≤ length rows + spare
  pub rises : low + count ≤ from
  pub scanned : (start q r : CorePart) → part_in a.parts p ≡ Some q → CoreExtends start q → KnowsView start trx → AreGivenSince start q old.pool → part_in b.parts p ≡ Some r → ScannedTo start r trx low from rows

pub scan_none : (run : Run) (p : ℕ) (trx : Begun) (low most : ℕ) (desk : Desk) (n : NodeView) (rows : List KeyValue) (spare : ℕ) → IsAtDesk run desk p n → rows ≡ [] → most ≤ spare → ScanSoFar run p trx low most desk desk n n low rows spare 0
scan_none run p trx low most desk n rows spare at none enough =
    let count : length rows ≡ 0 = ap (λ (l : List KeyValue). length l) none in
    record {
      desk = at;
      looks = look_none p desk n;
      few = omega (arith, count);
      room = omega (arith, count, enough);
      rises = omega arith;
      scanned = λ start q r has before knows given there. record { pages = []; count = 0; scans = (refl, none); given = λ g no. absurd no; since = λ g no. absurd no };
    }

module _ (run : Run) (p : ℕ) (trx : Begun) (low most : ℕ) (old new : Desk) (a b : NodeView) (from : ℕ) (rows : List KeyValue) (spare count : ℕ) (at : IsAtDesk run old p a) (so_far : ScanSoFar run p trx low most old new a b from rows spare count) where
  -- there are enough rows
  pub scan_full : length rows ≡ most → (start q r : CorePart) → part_in a.parts p ≡ Some q → CoreExtends start q → KnowsView start trx → AreGivenSince start q old.pool → part_in b.parts p ≡ Some r → FindsRows start r trx low most rows
  scan_full full start q r has before knows given there =
      let s = so_far.scanned start q r has before knows given there in
      record { pages = s.pages; high = from; count = s.count; scans = s.scans; few = so_far.few; end = inr full; given = s.given; since = s.since }

  module _ (last : Desk) (c : NodeView) (then : IsAtDesk run last p c) (looks : LooksOn p new last b c) (next : ℕ) (news : List KeyValue)
      (stretch : (start q r : CorePart) → part_in b.parts p ≡ Some q → CoreExtends start q → KnowsView start trx → AreGivenSince start q new.pool → part_in c.parts p ≡ Some r → FindsStretch start r trx from next rows news) where
    scan_to : (start q r : CorePart) → part_in a.parts p ≡ Some q → CoreExtends start q → KnowsView start trx → AreGivenSince start q old.pool → part_in c.parts p ≡ Some r → ScannedTo start r trx low next news
    scan_to start q r has before knows given there =
        let mid = held_part b p so_far.desk.part in
        let s = so_far.scanned start q mid.0 has before knows given mid.1 in
        let first = part_then run p old new a b at so_far.looks q mid.0 has mid.1 in
        let e = part_then run p new last b c so_far.desk looks mid.0 r mid.1 there in
        scanned_next start mid.0 r trx low from next rows news e s
        (stretch start mid.0 r mid.1 (core_extends_trans start q mid.0 before first) knows (so_far.looks.given start q mid.0 has before given mid.1) there)

    pub scan_more_leaves : (room : ℕ) → from < next → length news ≤ most → most ≤ length news + room → ScanSoFar run p trx low most old last a c next news room (count + 1)
    scan_more_leaves room above few enough =
        let rises = so_far.rises in
        record {
          desk = then;
          looks = look_both p old new last a b c so_far.looks looks;
          few = few;
          room = enough;
          rises = omega (arith, rises, above);
          scanned = scan_to;
        }

    -- the last leaf
    pub scan_end : next ≡ 2 ^ 32 → length news ≤ most → (start q r : CorePart) → part_in a.parts p ≡ Some q → CoreExtends start q → KnowsView start trx → AreGivenSince start q old.pool → part_in c.parts p ≡ Some r → FindsRows start r trx low most news
    scan_end last_key few start q r has before knows given there =
        let s = scan_to start q r has before knows given there in
        record { pages = s.pages; high = next; count = s.count; scans = s.scans; few = few; end = inl last_key; given = s.given; since = s.since }
