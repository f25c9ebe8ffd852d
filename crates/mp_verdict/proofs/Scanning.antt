-- The rows that stretches of leaves show, one after another, are the first of those that their transaction sees.
use Rattle.std.proofs.Common.{◌≡◌, ◌⊎◌, ℕ, zero, suc, ◌+◌, ◌<◌, ◌≤◌, ◌==◌, ◌&&◌, nat_lt, nat_le, Bool, true, false, cond, List, [], ◌∷◌, ◌++◌, length, filter, Option, Some, None, refl, sym, ap, subst, ◌∙◌, inl, inr, arith, ne_eqb}
use mathlib.Core.Bool.{false≢true}
use Rattle.std.specs.List.{AllByRecursion}
use Rattle.std.proofs.lemmas.Bool.{cases_Bool, cases_lt, eqb-true, and_from, and_parts, leb-true, le-leb, ltb-true, lt-ltb}
use Rattle.mp_model.specs.declared.ids.TrxId.{TrxId}
use Rattle.mp_model.specs.declared.key_value.KeyValue.{KeyValue}
use Rattle.mp_model.specs.Folded.{value_at, KeysAscend}
use Rattle.mp_script.specs.Right.{first_rows_from}
use Rattle.mp_cells.specs.declared.kinds.Kind.{Kind}
use Rattle.mp_cells.specs.declared.kinds.Kind.TheVariants.{Leaf}
use Rattle.mp_cells.specs.declared.rows.Row.{Row}
use Rattle.mp_cells.specs.PageView.{PageView, HasContent}
use Rattle.mp_cells.specs.Trees.{row_at, top}
use Rattle.mp_cells.specs.Writes.{version_of}
use Rattle.mp_cells.proofs.KeyOrder.{Rises, Rises-wider}
use Rattle.mp_cells.proofs.PageRanges.{leaf_ranges}
use Rattle.mp_cells.proofs.TreeSearch.{Rises-append}
use Rattle.mp_core_pages.specs.declared.part.GivenPage.{GivenPage}
use Rattle.mp_core.specs.declared.opening.CoreOpening.{CoreOpening}
use Rattle.mp_core.specs.Invariant.{NumbersFit}
use Rattle.mp_core.specs.World.{CoreWorld, core_part}
use Rattle.mp_core.specs.declared.part.CorePart.{CorePart}
use Rattle.mp_facts.specs.Facts.{Facts}
use Rattle.mp_supports.specs.Seeing.{LeadsToSeen, Sees, key_value_of, AreSeenAs, IsStretch, ScansTo}
use Rattle.mp_machine.specs.Lists.{IsIn}
use Rattle.mp_script.specs.LastValues.{or_else_value}
use Rattle.mp_script.proofs.LastValues.{or_else_none, value_at-append}
use Rattle.mp_script.proofs.RisingRows.{first_rows}
use Rattle.mp_verdict.proofs.RisingRows.{RowsRise, rise_ascend, rise_below, none_below, none_above}
use Rattle.mp_supports.proofs.ShownRows.{chains_at}

-- rows of a leaf from one key on and below another
abbrev pub in_stretch : ℕ → ℕ → Row → Bool
in_stretch low next row = nat_le low row.key && nat_lt row.key next

stretch_kept : (low next : ℕ) (row : Row) (rows : List Row) → in_stretch low next row ≡ true → filter (in_stretch low next) (row ∷ rows) ≡ row ∷ filter (in_stretch low next) rows
stretch_kept low next row rows e = ap (λ (b : Bool). cond b (row ∷ filter (in_stretch low next) rows) (filter (in_stretch low next) rows)) e

stretch_dropped : (low next : ℕ) (row : Row) (rows : List Row) → in_stretch low next row ≡ false → filter (in_stretch low next) (row ∷ rows) ≡ filter (in_stretch low next) rows
stretch_dropped low next row rows e = ap (λ (b : Bool). cond b (row ∷ filter (in_stretch low next) rows) (filter (in_stretch low next) rows)) e

stretch_rises : (low next from until : ℕ) (rows : List Row) → Rises (λ row. row.key) from until rows → Rises (λ row. row.key) low next (filter (in_stretch low next) rows)
stretch_rises low next from until [] r = tt
stretch_rises low next from until (row ∷ rows) r = elim (cases_Bool (in_stretch low next row)) [
  | inl e ↦
      let both = and_parts (nat_le low row.key) (nat_lt row.key next) e in
      let above = rises_above (row.key + 1) until rows r.2 in
      subst (Rises (λ (x : Row). x.key) low next) (sym (stretch_kept low next row rows e)) (leb-true low row.key both.0, ltb-true row.key next both.1, above)
  | inr e ↦ subst (Rises (λ (x : Row). x.key) low next) (sym (stretch_dropped low next row rows e)) (stretch_rises low next (row.key + 1) until rows r.2)
]
  where
    rises_above : (n m : ℕ) (rs : List Row) → Rises (λ row. row.key) n m rs → Rises (λ row. row.key) n next (filter (in_stretch low next) rs)
    rises_above n m [] h = tt
    rises_above n m (x ∷ xs) h = elim (cases_Bool (in_stretch low next x)) [
      | inl e ↦
          let both = and_parts (nat_le low x.key) (nat_lt x.key next) e in
          subst (Rises (λ (y : Row). y.key) n next) (sym (stretch_kept low next x xs e)) (h.0, ltb-true x.key next both.1, rises_above (x.key + 1) m xs h.2)
      | inr e ↦
          let from_n = h.0 in
          subst (Rises (λ (y : Row). y.key) n next) (sym (stretch_dropped low next x xs e)) (Rises-wider (λ (y : Row). y.key) (x.key + 1) next n next (filter (in_stretch low next) xs) (omega (arith, from_n)) (omega arith) (rises_above (x.key + 1) m xs h.2))
    ]

stretch_row : (low next key : ℕ) (rows : List Row) → low ≤ key → key < next → row_at key (filter (in_stretch low next) rows) ≡ row_at key rows
stretch_row low next key [] from until = refl
stretch_row low next key (row ∷ rows) from until = elim (cases_Bool (in_stretch low next row)) [
  | inl e ↦ ap (row_at key) (stretch_kept low next row rows e) ∙ ap (cond (row.key == key) (Some row)) (stretch_row low next key rows from until)
  | inr e ↦
      let other : (row.key == key) ≡ false = ne_eqb row.key key (λ is. false≢true (sym e ∙ and_from (nat_le low row.key) (nat_lt row.key next) (le-leb low row.key (omega (arith, is, from))) (lt-ltb row.key next (omega (arith, is, until))))) in
      ap (row_at key) (stretch_dropped low next row rows e) ∙ stretch_row low next key rows from until ∙ sym (ap (λ (b : Bool). cond b (Some row) (row_at key rows)) other)
]

module _ (p : CorePart) (reader : TrxId) (view : ℕ) where
  with_value : (low next key : ℕ) (value : Option (List ℕ)) (behind : List KeyValue) → low ≤ key → key < next → RowsRise (key + 1) next behind → RowsRise low next (key_value_of key value ++ behind)
  with_value low next key (Some value) behind from until rises = (from, until, rises)
  with_value low next key None behind from until rises = Rises-wider (λ (x : KeyValue). x.key) (key + 1) next low next behind (omega (arith, from)) (omega arith) rises

  -- the rows that are seen rise as the leaf's do
  seen_rise : (low next : ℕ) (tops : List Row) (rows : List KeyValue) → Rises (λ row. row.key) low next tops → AreSeenAs p reader view tops rows → RowsRise low next rows
  seen_rise low next [] rows r seen = subst (RowsRise low next) (sym seen) tt
  seen_rise low next (t ∷ tops) rows r seen = subst (RowsRise low next) (sym seen.4) (with_value low next t.key seen.1.value seen.2 r.0 r.1 (seen_rise (t.key + 1) next tops seen.2 r.2 seen.5))

  -- each key's newest version leads to what is seen of it
  pub record SeenAt (tops : List Row) (rows : List KeyValue) (key : ℕ) : Type 0 where
    pub older : List Row
    pub found : Row
    pub leads : LeadsToSeen p reader view (version_of key (row_at key tops)) older found
    pub value : value_at key rows ≡ found.value

  value_other : (key k : ℕ) (value : Option (List ℕ)) (rest : List KeyValue) → (k == key) ≡ false → value_at key (key_value_of k value ++ rest) ≡ value_at key rest
  value_other key k None rest e = refl
  value_other key k (Some value) rest e = ap (λ (b : Bool). cond b (Some value) (value_at key rest)) e

  value_same : (key k : ℕ) (value : Option (List ℕ)) (rest : List KeyValue) → (k == key) ≡ true → value_at key rest ≡ None → value_at key (key_value_of k value ++ rest) ≡ value
  value_same key k None rest e none = none
  value_same key k (Some value) rest e none = ap (λ (b : Bool). cond b (Some value) (value_at key rest)) e

  pub seen_at_key : (low next : ℕ) (tops : List Row) (rows : List KeyValue) → Rises (λ row. row.key) low next tops → AreSeenAs p reader view tops rows → (key : ℕ) → SeenAt tops rows key
  seen_at_key low next [] rows r seen key = record { older = []; found = version_of key None; leads = (refl, inr (inl refl)); value = ap (value_at key) seen }
  seen_at_key low next (t ∷ tops) rows r seen key = elim (cases_Bool (t.key == key)) [
    | inl e ↦
        let is : row_at key (t ∷ tops) ≡ Some t = ap (λ (b : Bool). cond b (Some t) (row_at key tops)) e in
        let at : t.key ≡ key = eqb-true t.key key e in
        let none : value_at key seen.2 ≡ None = none_below key (t.key + 1) next seen.2 (seen_rise (t.key + 1) next tops seen.2 r.2 seen.5) (omega (arith, at)) in
        record {
          older = seen.0;
          found = seen.1;
          leads = subst (λ (x : Option Row). LeadsToSeen p reader view (version_of key x) seen.0 seen.1) (sym is) seen.3;
          value = ap (value_at key) seen.4 ∙ value_same key t.key (seen.1).value seen.2 e none;
        }
    | inr e ↦
        let is : row_at key (t ∷ tops) ≡ row_at key tops = ap (λ (b : Bool). cond b (Some t) (row_at key tops)) e in
        let below = seen_at_key (t.key + 1) next tops seen.2 r.2 seen.5 key in
        record {
          older = below.older;
          found = below.found;
          leads = subst (λ (x : Option Row). LeadsToSeen p reader view (version_of key x) below.older below.found) (sym is) below.leads;
          value = ap (value_at key) seen.4 ∙ value_other key t.key (seen.1).value seen.2 e ∙ below.value;
        }
  ]

module _ (o : CoreOpening) (w : CoreWorld) (fit : NumbersFit o) (facts : Facts o w) (pages : List (GivenPage PageView)) (reader : TrxId) (view : ℕ) (all : List KeyValue) (sees : (key : ℕ) (found : Row) → Sees (core_part w reader.node) pages reader view key found → value_at key all ≡ found.value) where
  -- rows are seen from a key up to a bound
  record AreRight (low high : ℕ) (rows : List KeyValue) : Type 0 where
    order : low ≤ high
    rises : RowsRise low high rows
    values : (key : ℕ) → low ≤ key → key < high → value_at key rows ≡ value_at key all

  leaf_rises : (g : GivenPage PageView) → IsIn g (w.pages.given reader.node) → g.page.kind ≡ Leaf → Rises (λ row. row.key) g.page.low g.page.high g.page.rows
  leaf_rises g there kind =
      let given = facts.of_notes.given reader.node g there in
      let sound = (chains_at o w fit facts g.height).tree.sound g.number given.0 in
      let content = subst (λ (page : PageView). HasContent page.kind page) (sym given.2) sound.content in
      (leaf_ranges g.page.low g.page.high g.page.rows (subst (λ (k : Kind). HasContent k g.page) kind content).1).rises

  stretch_right : (low next : ℕ) (rows : List KeyValue) → IsStretch (core_part w reader.node) pages reader view low next rows → AreRight low next rows
  stretch_right low next rows s =
      let tops : List Row = filter (in_stretch low next) s.leaf.page.rows in
      let rising = stretch_rises low next s.leaf.page.low s.leaf.page.high s.leaf.page.rows (leaf_rises s.leaf s.given s.its_leaf.kind) in
      let some = s.some_keys in
      record {
        order = omega (arith, some);
        rises = seen_rise (core_part w reader.node) reader view low next tops rows rising s.seen;
        values = λ key from until.
            let at = seen_at_key (core_part w reader.node) reader view low next tops rows rising s.seen key in
            let low_fence = s.its_leaf.from in
            let high_fence = s.within in
            at.value ∙ sym (sees key at.found (record {
              leaf = s.leaf;
              rests = s.rests;
              knew = s.knew;
              newest = version_of key (row_at key s.leaf.page.rows);
              shows = record {
                given = s.given;
                its_leaf = record { kind = s.its_leaf.kind; from = omega (arith, low_fence, from); until = omega (arith, until, high_fence) };
                newest_is = refl;
              };
              older = at.older;
              leads = subst (λ (x : Option Row). LeadsToSeen (core_part w reader.node) reader view (version_of key x) at.older at.found) (stretch_row low next key s.leaf.page.rows from until) at.leads;
              only_put = s.only_put;
            }));
      }

  joined_right : (low mid high : ℕ) (first rest : List KeyValue) → AreRight low mid first → AreRight mid high rest → AreRight low high (first ++ rest)
  joined_right low mid high first rest a b =
      let lower = a.order in
      let upper = b.order in
      record {
        order = omega (arith, lower, upper);
        rises = Rises-append (λ (row : KeyValue). row.key) low mid high first rest a.rises b.rises lower upper;
        values = λ key from until. elim (cases_lt key mid) [
          | inl lt ↦
              value_at-append key first rest ∙ ap (or_else_value (value_at key first)) (none_below key mid high rest b.rises lt) ∙ or_else_none (value_at key first) ∙ a.values key from lt
          | inr ge ↦
              value_at-append key first rest ∙ ap (λ (x : Option (List ℕ)). or_else_value x (value_at key rest)) (none_above key low mid first a.rises ge) ∙ b.values key ge until
        ];
      }

  scan_right : (count low high : ℕ) (rows : List KeyValue) → ScansTo (core_part w reader.node) pages reader view count low high rows → AreRight low high rows
  scan_right zero low high rows s =
      let at = s.0 in
      record { order = omega (arith, at); rises = subst (RowsRise low high) (sym s.1) tt; values = λ key from until. absurd (omega (arith, from, until, at)) }
  scan_right (suc count) low high rows s =
      subst (AreRight low high) (sym s.5) (joined_right low s.0 high s.1 s.2 (stretch_right low s.0 s.1 s.3) (scan_right count s.0 high s.2 s.4))

  pub scanned : (count low high most : ℕ) (rows : List KeyValue) → KeysAscend all → AllByRecursion (λ row. row.key < top) all → ScansTo (core_part w reader.node) pages reader view count low high rows → length rows ≤ most → (high ≡ top) ⊎ (length rows ≡ most) → rows ≡ first_rows_from low most all
  scanned count low high most rows ascend below s le end =
      let right = scan_right count low high rows s in
      first_rows low high most top rows all (rise_ascend low high rows right.rises) (rise_below low high rows right.rises) ascend below right.values le end
