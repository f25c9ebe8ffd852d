-- What a part shows of the versions of a key is the chain of those that stood at its leaf's height: so the walk down the
-- links ends, each writer on it was begun, and the next undo record lies there for good.
use Rattle.std.proofs.Common.{◌≡◌, ℕ, ◌+◌, ◌<◌, ◌≤◌, List, [], ◌∷◌, length, slice_get, Some, None, sym, ap, subst, ◌∙◌, inl, inr, arith}
use Rattle.std.specs.List.{AllByRecursion}
use Rattle.mp_machine.specs.View.{part_in}
use Rattle.mp_model.specs.declared.ids.TrxId.{TrxId}
use Rattle.mp_cells.specs.declared.rows.Link.{Link}
use Rattle.mp_cells.specs.declared.rows.Row.{Row}
use Rattle.mp_cells.specs.PageView.{PageView}
use Rattle.mp_cells.specs.Writes.{undo_at}
use Rattle.mp_core_trx.specs.Parts.{HasBegun}
use Rattle.mp_core_trx.specs.World.{begun_in}
use Rattle.mp_core_pages.specs.declared.part.GivenPage.{GivenPage}
use Rattle.mp_histories.specs.Histories.{History, older, entry_at, Version, rows_of_versions, live_on}
use Rattle.mp_histories.specs.Chains.{row_over, LinksTo, IsChain, row_of_key, StaysNoted, IsPutAt, PlacesFall}
use Rattle.mp_histories.proofs.ChainFacts.{links_one}
use Rattle.mp_histories.proofs.CleanRows.{clean_plain}
use Rattle.mp_histories.proofs.Lists.{some_same, none_some}
use Rattle.mp_histories.proofs.LiveRows.{live_put_at, places_fall}
use Rattle.mp_histories.proofs.Noting.{older_first, length_older, noted}
use Rattle.mp_core.specs.declared.opening.CoreOpening.{CoreOpening}
use Rattle.mp_core.specs.declared.part.CorePart.{CorePart}
use Rattle.mp_core.specs.Invariant.{NumbersFit}
use Rattle.mp_core.specs.OwnMtrs.{row_put_by}
use Rattle.mp_core.specs.World.{CoreWorld, core_part}
use Rattle.mp_facts.specs.Facts.{opening_pages, pages_at_height, pages_now, live_at_height, Facts}
use Rattle.mp_facts.proofs.Entries.{entry_stays}
use Rattle.mp_shared.specs.Nodes.{Run, NodeView, Reached}
use Rattle.mp_supports.specs.Seeing.{ShowsNewest}
use Rattle.mp_supports.proofs.SeesMore.{newest_more}
use Rattle.mp_supports.proofs.ShownRows.{runs_at, newest_row, next_links}
use Rattle.mp_desk.specs.Desks.{LiesAt}
use Rattle.mp_desk.specs.Statements.{HasBegunWriter, LeadsPast}
use Rattle.mp_desk.proofs.ReachedFacts.{known_world}
use Rattle.mp_desk.proofs.SeenMore.{past_more}

-- versions whose places fall, all below a number, are at most so many
fall_few : (height : ℕ) (vs : List Version) → PlacesFall vs → AllByRecursion (λ v. v.at < height) vs → length vs ≤ height
fall_few height [] fall below = omega arith
fall_few height (v ∷ vs) fall below = let rest = fall_few v.at vs fall.1 fall.0 in let first = below.0 in omega (arith, rest, first)

before_all : (made : History) (key : ℕ) (vs : List Version) → AllByRecursion (IsPutAt made key) vs → AllByRecursion (λ v. v.at < length made) vs
before_all made key [] all = tt
before_all made key (v ∷ vs) all = (all.0.before, before_all made key vs all.1)

module _ (o : CoreOpening) (w : CoreWorld) (fit : NumbersFit o) (facts : Facts o w) where
  chain_at : (height key : ℕ) → StaysNoted (opening_pages o) (older height w.pages.history) w.pages.history key (row_of_key (pages_at_height o w height) key)
  chain_at height key = noted o.trx.base.llsn (opening_pages o) fit.clean w.pages.history facts.of_versions.runs height key

  put_at : (height key : ℕ) → AllByRecursion (IsPutAt (older height w.pages.history) key) (live_at_height w height key)
  put_at height key = live_put_at o.trx.base.llsn (opening_pages o) fit.clean (older height w.pages.history) (runs_at o w fit facts height) key

  few_at : (height key : ℕ) → height ≤ length w.pages.history → length (live_at_height w height key) ≤ 240000
  few_at height key le =
      let made = older height w.pages.history in
      let count = length_older height w.pages.history le in
      let falls = fall_few (length made) (live_on key made) (places_fall o.trx.base.llsn (opening_pages o) fit.clean made (runs_at o w fit facts height) key) (before_all made key (live_on key made) (put_at height key)) in
      let few = facts.of_history.few in
      omega (arith, falls, count, le, few)

  -- who put a version that stood was begun
  put_begun : (height key : ℕ) (v : Version) → IsPutAt (older height w.pages.history) key v → (id : TrxId) → v.row.writer ≡ Some id → HasBegun (begun_in w.trx id.node) id
  put_begun height key v put id is =
      let split = older_first height w.pages.history in
      let entry : entry_at v.at w.pages.history ≡ Some put.mtr = ap (entry_at v.at) split.split_is ∙ entry_stays split.newer (older height w.pages.history) v.at put.before ∙ put.entry in
      let made = facts.of_history.all_made v.at put.mtr entry in
      let placed = facts.of_history.placed put.mtr.node made.0 made.1 in
      let puts : row_put_by put.mtr ≡ Some v.row = ap (λ (rows : List Row). slice_get rows 0) put.puts in
      let its : row_put_by (made.0).mtr ≡ Some v.row = ap row_put_by made.3 ∙ puts in
      let of : v.row.writer ≡ (made.0).of =
      elim (facts.of_history.kinds put.mtr.node made.0 made.1) [
        | inl one ↦ ap (λ (r : Row). r.writer) (some_same v.row one.0 (sym its ∙ one.1.put)) ∙ one.1.writer
        | inr (inl back) ↦ absurd (none_some v.row (sym back.1.put ∙ its))
        | inr (inr commit) ↦ absurd (none_some v.row (sym commit.2.put ∙ its))
      ] in
      let same : placed.3.0 ≡ id = some_same placed.3.0 id (sym placed.3.1 ∙ sym of ∙ is) in
      let node : placed.3.0.node ≡ put.mtr.node = placed.3.2 in
      let begun : HasBegun (begun_in w.trx placed.3.0.node) placed.3.0 = subst (λ (k : ℕ). HasBegun (begun_in w.trx k) placed.3.0) (sym node) placed.3.3 in
      subst (λ (x : TrxId). HasBegun (begun_in w.trx x.node) x) same begun

  module _ (n : ℕ) where
    module _ (reader : TrxId) (view : ℕ) (bottom : Row) (unwritten : bottom.writer ≡ None) (P : Version → Type 0) where
      -- where a walk past hidden versions ends: at one of the chain, with those below it, or at the bottom
      record WalkEnd (vs : List Version) (passed : List Row) (last : Row) : Type 0 where
        rest : List Version
        all : AllByRecursion P rest
        chain : IsChain (undo_at (pages_now o w)) (rows_of_versions rest) bottom
        is : last ≡ row_over (rows_of_versions rest) bottom
        count : length passed + length rest ≡ length vs

      walk_end : (vs : List Version) → AllByRecursion P vs → IsChain (undo_at (pages_now o w)) (rows_of_versions vs) bottom → (row : Row) → row ≡ row_over (rows_of_versions vs) bottom → (passed : List Row) (last : Row) → LeadsPast (core_part w n) reader view row passed last → WalkEnd vs passed last
      walk_end vs all chain row is [] last leads = record { rest = vs; all = all; chain = chain; is = leads ∙ is; count = omega arith }
      walk_end [] all chain row is (next ∷ passed) last leads = absurd (none_some leads.0.writer (sym unwritten ∙ ap (λ (r : Row). r.writer) (sym is) ∙ leads.0.its_writer))
      walk_end (v ∷ vs) all chain row is (next ∷ passed) last leads =
          let same : next ≡ row_over (rows_of_versions vs) bottom = links_one (undo_at (pages_now o w)) v.row next (row_over (rows_of_versions vs) bottom) (subst (λ (r : Row). LinksTo (undo_at (pages_now o w)) r next) is (next_links o w fit facts n row next leads.1)) chain.0 in
          let below = walk_end vs all.1 chain.1 next same passed last leads.2 in
          let counted = below.count in
          record { rest = below.rest; all = below.all; chain = below.chain; is = below.is; count = omega (arith, counted) }

      -- a version with a writer isn't the bottom
      linked : (vs : List Version) (passed : List Row) (last : Row) (id : TrxId) → last.writer ≡ Some id → (rest : List Version) → IsChain (undo_at (pages_now o w)) (rows_of_versions rest) bottom → last ≡ row_over (rows_of_versions rest) bottom
          → (link : Link) × (next : Row) × (last.link ≡ Some link) × (undo_at (pages_now o w) link ≡ Some next)
      linked vs passed last id written [] chain is = absurd (none_some id (sym unwritten ∙ ap (λ (r : Row). r.writer) (sym is) ∙ written))
      linked vs passed last id written (v ∷ rest) chain is = (chain.0.link, row_over (rows_of_versions rest) bottom, ap (λ (r : Row). r.link) is ∙ chain.0.linked, chain.0.there)

      first_of : (last : Row) (id : TrxId) → last.writer ≡ Some id → (rest : List Version) → AllByRecursion P rest → last ≡ row_over (rows_of_versions rest) bottom → (v : Version) × P v × (last ≡ v.row)
      first_of last id written [] all is = absurd (none_some id (sym unwritten ∙ ap (λ (r : Row). r.writer) (sym is) ∙ written))
      first_of last id written (v ∷ rest) all is = (v, all.0, is)

    module _ (reader : TrxId) (view : ℕ) (g : GivenPage PageView) (key : ℕ) (newest : Row) (shows : ShowsNewest (core_part w n) g key newest) (passed : List Row) (last : Row) (leads : LeadsPast (core_part w n) reader view newest passed last) where
      plain : (row_of_key (opening_pages o) key).writer ≡ None
      plain = (clean_plain o.trx.base.llsn (opening_pages o) fit.clean key).0

      the_end : WalkEnd reader view (row_of_key (opening_pages o) key) plain (IsPutAt (older g.height w.pages.history) key) (live_at_height w g.height key) passed last
      the_end =
          let stays = chain_at g.height key in
          walk_end reader view (row_of_key (opening_pages o) key) plain (IsPutAt (older g.height w.pages.history) key) (live_at_height w g.height key) (put_at g.height key) stays.chain newest (newest_row o w fit facts n g key newest shows ∙ stays.head) passed last leads

      few_passed : length passed ≤ 240000
      few_passed =
          let few = few_at g.height key (facts.of_notes.given n g shows.given).1 in
          let count = the_end.count in
          omega (arith, few, count)

      last_begun : (id : TrxId) → last.writer ≡ Some id → HasBegun (begun_in w.trx id.node) id
      last_begun id written =
          let e = the_end in
          let first = first_of reader view (row_of_key (opening_pages o) key) plain (IsPutAt (older g.height w.pages.history) key) last id written e.rest e.all e.is in
          put_begun g.height key first.0 first.1 id (ap (λ (r : Row). r.writer) (sym first.2) ∙ written)

      last_linked : (id : TrxId) → last.writer ≡ Some id → (link : Link) × (next : Row) × (last.link ≡ Some link) × (undo_at (pages_now o w) link ≡ Some next)
      last_linked id written =
          let e = the_end in
          linked reader view (row_of_key (opening_pages o) key) plain (IsPutAt (older g.height w.pages.history) key) (live_at_height w g.height key) passed last id written e.rest e.chain e.is

-- ---- of a node

module _ (p : ℕ) (n : NodeView) (reached : Reached n) (q : CorePart) (has : part_in n.parts p ≡ Some q) (reader : TrxId) (view : ℕ) (g : GivenPage PageView) (key : ℕ) (newest : Row) (shows : ShowsNewest q g key newest) (passed : List Row) (last : Row) (leads : LeadsPast q reader view newest passed last) where
  -- a walk passes 240,000 versions at most
  pub walk_few : length passed ≤ 240000
  walk_few =
      let known = known_world n reached in
      let is : core_part known.world p ≡ q = known.agrees p q has in
      few_passed n.run.opening known.world reached.fair known.facts p reader view g key newest (subst (λ (r : CorePart). ShowsNewest r g key newest) (sym is) shows) passed last (subst (λ (r : CorePart). LeadsPast r reader view newest passed last) (sym is) leads)

  pub walk_begun : HasBegunWriter n last
  walk_begun id written w facts agrees =
      let is : core_part w p ≡ q = agrees p q has in
      last_begun n.run.opening w reached.fair facts p reader view g key newest (subst (λ (r : CorePart). ShowsNewest r g key newest) (sym is) shows) passed last (subst (λ (r : CorePart). LeadsPast r reader view newest passed last) (sym is) leads) id written

  module _ (id : TrxId) (written : last.writer ≡ Some id) where
    -- the undo record lies at the link, now and after all further steps
    pub walk_lies : (link : Link) → last.link ≡ Some link → LiesAt p n link
    walk_lies link linked_to after moves w facts agrees =
        let now = moves.mine q has in
        let r = now.0 in
        let is : core_part w p ≡ r = agrees p r now.1 in
        let fair : NumbersFit after.run.opening = subst (λ run. NumbersFit run.opening) (sym moves.run) reached.fair in
        let found = last_linked after.run.opening w fair facts p reader view g key newest (subst (λ (x : CorePart). ShowsNewest x g key newest) (sym is) (newest_more q r now.2 g key newest shows)) passed last (subst (λ (x : CorePart). LeadsPast x reader view newest passed last) (sym is) (past_more q r now.2 reader view newest passed last leads)) id written in
        let same : found.0 ≡ link = some_same found.0 link (sym found.2 ∙ linked_to) in
        (found.1, subst (λ (k : Run). undo_at (pages_now k.opening w) link ≡ Some found.1) moves.run (subst (λ (l : Link). undo_at (pages_now after.run.opening w) l ≡ Some found.1) same found.3))
