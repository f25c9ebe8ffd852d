-- What a read found, by the leaf that it came to and the walk from there.
use Rattle.std.proofs.Common.{◌≡◌, ℕ, true, List, Option, Some, is_some, refl, sym, ap, subst, ◌∙◌, inl, inr, arith}
use Rattle.mp_machine.specs.Lists.{IsIn}
use Rattle.mp_machine.specs.View.{part_in}
use Rattle.mp_model.specs.declared.ids.TrxId.{TrxId}
use Rattle.mp_cells.specs.declared.rows.Row.{Row}
use Rattle.mp_cells.specs.PageView.{PageView, IsPage}
use Rattle.mp_tree.specs.declared.search.LeafRows.{LeafRows}
use Rattle.mp_tree.specs.Searches.{rows_above}
use Rattle.mp_cells.specs.Trees.{row_at}
use Rattle.mp_cells.specs.Writes.{version_of}
use Rattle.mp_histories.proofs.Lists.{some_same, none_some}
use Rattle.mp_plans.specs.Fitting.{IsLeafOf}
use Rattle.mp_core_trx.specs.declared.part.Begun.{Begun}
use Rattle.mp_core_trx.specs.Parts.{draw_of}
use Rattle.mp_core_trx.specs.World.{drawn_in}
use Rattle.mp_core_pages.specs.declared.part.GivenPage.{GivenPage}
use Rattle.mp_core.specs.declared.opening.CoreOpening.{CoreOpening}
use Rattle.mp_core.specs.declared.part.CorePart.{CorePart}
use Rattle.mp_core.specs.CoreExtends.{CoreExtends}
use Rattle.mp_core.specs.OwnMtrs.{row_put_by, TrxMtr, trx_mtrs}
use Rattle.mp_core.specs.World.{CoreWorld, core_part}
use Rattle.mp_facts.specs.Facts.{Facts}
use Rattle.mp_shared.specs.Nodes.{Run, NodeView, Reached}
use Rattle.mp_shared.proofs.Holding.{held_part}
use Rattle.mp_buffer_fusion.specs.declared.buffer.Buffer.{Buffer}
use Rattle.mp_buffer_fusion.specs.Buffers.{buffer_of}
use Rattle.mp_supports.specs.Seeing.{ShowsNewest, LeadsToSeen, HasOnlyPut}
use Rattle.mp_supports.proofs.SeesMore.{newest_more}
use Rattle.mp_desk.specs.declared.desk.Desk.{Desk}
use Rattle.mp_desk.specs.declared.halts.ReadHalt.{ReadHalt}
use Rattle.mp_desk.specs.declared.halts.ReadHalt.TheVariants as halts
use Rattle.mp_desk.specs.Desks.{Moves, IsAtDesk, IsReadAfresh, AreGivenSince, IsGivenSince, HasLeaf}
use Rattle.mp_desk.specs.Statements.{IsReader, KnowsView, ShowsSince, RowsSince, IsNewestIn, LooksOn, FindsValue}
use Rattle.mp_desk.specs.ReadHalts.{HaltsRead, HaltsScan}
use Rattle.mp_desk.proofs.ReachedFacts.{known_world}
use Rattle.mp_desk.proofs.AtDesk.{buffer_in, wait_later}

-- an open transaction that put nothing back only put rows
module _ (o : CoreOpening) (w : CoreWorld) (facts : Facts o w) (p : ℕ) (trx : Begun) (reads : IsReader p trx (core_part w p)) where
  open_puts : (m : TrxMtr) → IsIn m (trx_mtrs (w.pages.made p)) → m.of ≡ Some trx.id → is_some (row_put_by m.mtr) ≡ true
  open_puts m there of = elim (facts.of_history.kinds p m there) [
    | inl put ↦ ap (λ (x : Option Row). is_some x) put.1.put
    | inr (inl back) ↦ absurd (none_some back.0 (sym (reads.whole m there of) ∙ back.1.restored))
    | inr (inr commit) ↦
        let id = commit.0 in
        let cts = commit.1 in
        let same : id ≡ trx.id = some_same id trx.id (sym commit.2.of ∙ of) in
        let drew = (facts.of_versions.commits p m id cts there commit.2.commit).1 in
        let drawn : IsIn (draw_of trx.id cts) (drawn_in w.trx p) = subst (λ (x : TrxId). IsIn (draw_of x cts) (drawn_in w.trx p)) same drew in
        absurd ((facts.inv.trx.slots p trx.id.slot).active trx.id (trx.view, reads.begun) refl reads.active cts drawn)
  ]

pub only_puts : (n : NodeView) (p : ℕ) (r : CorePart) → Reached n → part_in n.parts p ≡ Some r → (trx : Begun) → IsReader p trx r → (height : ℕ) → HasOnlyPut r trx.id height
only_puts n p r reached has trx reads height m there of below =
    let known = known_world n reached in
    let is : core_part known.world p ≡ r = known.agrees p r has in
    open_puts n.run.opening known.world known.facts p trx (subst (IsReader p trx) (sym is) reads) m (subst (λ (x : CorePart). IsIn m (trx_mtrs x.pages.made)) (sym is) there) of

-- the leaf that a walk came to was given since
module _ (p : ℕ) (old new : Desk) (a b : NodeView) (looks : LooksOn p old new a b) (key number : ℕ) (leaf : HasLeaf new p key number b) (c : Buffer) (is : buffer_of new.pool number ≡ Some c) where
  pub the_leaf : IsLeafOf key c.page
  the_leaf = subst (λ (x : Buffer). IsLeafOf key x.page) (some_same leaf.leaf c (sym leaf.buffer ∙ is)) leaf.its_leaf

  module _ (start q r : CorePart) (has : part_in a.parts p ≡ Some q) (before : CoreExtends start q) (given : AreGivenSince start q old.pool) (there : part_in b.parts p ≡ Some r) where
    pub leaf_since : (g : GivenPage PageView) × IsGivenSince start r g.number g.page g × (g.page ≡ c.page)
    leaf_since =
        let g = (looks.given start q r has before given there c (buffer_in new.pool number c is).0).1 in
        (g.0, record { given = g.1.given; number = refl; page_is = refl; knew = g.1.knew; since = g.1.since }, g.1.page_is)

    pub shows_since : (page : PageView) → page ≡ c.page → (row : Row) → row ≡ version_of key (row_at key page.rows) → ShowsSince start r key row
    shows_since page same row row_is =
        let g = leaf_since in
        record {
          leaf = g.0;
          since = g.1;
          shows = record {
            given = g.1.given;
            its_leaf = subst (IsLeafOf key) (sym g.2) the_leaf;
            newest_is = row_is ∙ ap (λ (y : PageView). version_of key (row_at key y.rows)) (same ∙ sym g.2);
          };
        }

    pub rows_since : (page : PageView) → page ≡ c.page → (found : LeafRows) → IsPage page → found.rows ≡ rows_above key page.rows → found.next ≡ page.high → RowsSince start r key found
    rows_since page same found is_page rows next =
        let g = leaf_since in
        let its : page ≡ (g.0).page = same ∙ sym g.2 in
        record {
          leaf = g.0;
          since = g.1;
          its_leaf = subst (IsLeafOf key) (sym g.2) the_leaf;
          page = subst IsPage its is_page;
          rows = rows ∙ ap (λ (y : PageView). rows_above key y.rows) its;
          next = next ∙ ap (λ (y : PageView). y.high) its;
        }

-- so it is the newest in the node
pub newest_in : (run : Run) (p : ℕ) (old new : Desk) (a b : NodeView) → IsAtDesk run old p a → IsReadAfresh old p a → LooksOn p old new a b → (key : ℕ) (row : Row) → row.key ≡ key
    → ((start q r : CorePart) → part_in a.parts p ≡ Some q → CoreExtends start q → AreGivenSince start q old.pool → part_in b.parts p ≡ Some r → ShowsSince start r key row) → IsNewestIn p b row.key row
newest_in run p old new a b at afresh looks key row same shows r there =
    let has = held_part a p at.part in
    let was = afresh has.0 has.1 in
    let s = shows was.0 has.0 r has.1 was.1 was.2 there in
    (s.leaf, subst (λ (k : ℕ). ShowsNewest r s.leaf k row) (sym same) s.shows)

-- ---- the value

pub finds_value : (p : ℕ) (n : NodeView) (start mid r : CorePart) (trx : Begun) (key : ℕ) (newest found : Row) → Reached n → part_in n.parts p ≡ Some r → IsReader p trx r → KnowsView start trx → CoreExtends mid r → ShowsSince start mid key newest
    → (older : List Row) × LeadsToSeen r trx.id trx.view newest older found → FindsValue start r trx key found.value
finds_value p n start mid r trx key newest found reached has reads knows e shows leads =
    let given = shows.since.knew in
    record {
      leaf = shows.leaf;
      found = found;
      sees = record {
        leaf = shows.leaf;
        rests = inl refl;
        knew = omega (arith, knows, given);
        newest = newest;
        shows = newest_more mid r e shows.leaf key newest shows.shows;
        older = leads.0;
        leads = leads.1;
        only_put = only_puts n p r reached has trx reads shows.leaf.height;
      };
      value_is = refl;
      since = shows.since.since;
    }

-- ---- halts

pub halts_later : (p : ℕ) (trx : Begun) (key other : ℕ) (a b c : NodeView) (halt : ReadHalt) → Moves CoreExtends p a b → key ≡ other → HaltsRead p trx key b c halt → HaltsRead p trx other a c halt
halts_later p trx key other a b c (halts.Word wait) moves same h = wait_later p a b c wait moves h
halts_later p trx key other a b c (halts.Prep id) moves same h = subst (λ (k : ℕ). HaltsRead p trx k b c (halts.Prep id)) same h

pub halts_scan : (p : ℕ) (trx : Begun) (key : ℕ) (a b c : NodeView) (halt : ReadHalt) → Moves CoreExtends p a b → HaltsRead p trx key b c halt → HaltsScan p trx a c halt
halts_scan p trx key a b c (halts.Word wait) moves h = wait_later p a b c wait moves h
halts_scan p trx key a b c (halts.Prep id) moves h = λ r there. (key, h r there)

pub scan_later : (p : ℕ) (trx : Begun) (a b c : NodeView) (halt : ReadHalt) → Moves CoreExtends p a b → HaltsScan p trx b c halt → HaltsScan p trx a c halt
scan_later p trx a b c (halts.Word wait) moves h = wait_later p a b c wait moves h
scan_later p trx a b c (halts.Prep id) moves h = h
