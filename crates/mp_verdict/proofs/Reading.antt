-- What a part shows a reader is its own last put, or what the durable commits at or below its view left.
use Rattle.std.proofs.Common.{◌≡◌, ◌≢◌, ℕ, ◌<◌, ◌≤◌, true, List, length, Option, Some, None, is_some, refl, sym, ap, subst, ◌∙◌, inl, inr, arith}
use mathlib.Core.Bool.{false≢true}
use Rattle.std.proofs.lemmas.Bool.{cases_lt}
use Rattle.mp_machine.specs.Lists.{IsIn}
use Rattle.mp_model.specs.declared.ids.TrxId.{TrxId}
use Rattle.mp_script.proofs.Options.{some_is}
use Rattle.mp_cells.specs.declared.rows.Row.{Row}
use Rattle.mp_cells.specs.PageView.{PageView}
use Rattle.mp_core_trx.specs.declared.part.Draw.{Draw}
use Rattle.mp_core_pages.specs.declared.part.GivenPage.{GivenPage}
use Rattle.mp_histories.specs.KeyOps.{kept_version}
use Rattle.mp_histories.specs.Readers.{IsLatestAt, IsReadAt, NobodyAt}
use Rattle.mp_histories.specs.Histories.{History, older, Version, by_version, ops_on, live_on}
use Rattle.mp_histories.specs.Chains.{row_of_key}
use Rattle.mp_histories.proofs.Kept.{kept_last}
use Rattle.mp_histories.proofs.CleanRows.{clean_plain}
use Rattle.mp_histories.proofs.Noting.{older_first, length_older}
use Rattle.mp_histories.proofs.Reading.{read_at}
use Rattle.mp_core.specs.declared.opening.CoreOpening.{CoreOpening}
use Rattle.mp_core.specs.Invariant.{NumbersFit}
use Rattle.mp_core.specs.World.{CoreWorld, core_part}
use Rattle.mp_core.specs.OwnMtrs.{row_put_by, row_restored_by, TrxMtr}
use Rattle.mp_facts.specs.Facts.{opening_pages, made_in, IsForced, DrewStamp, Facts}
use Rattle.mp_supports.specs.Seeing.{HasOnlyPut, Sees}
use Rattle.mp_verdict.specs.Reads.{PutBelow, LastPutBelow, PutsNothingBelow, PutOf, IsLatestCommit, NoCommitPut, ShowsReader}
use Rattle.mp_verdict.proofs.PlacesOf.{put_of}
use Rattle.mp_verdict.proofs.LastPuts.{Says, put_last_says, never_back}
use Rattle.mp_verdict.proofs.OthersFit.{forced_drew, OthersCommitted, others_stamps, reader_not, others_fit}
use Rattle.mp_supports.proofs.ShownRows.{newest_row}
use Rattle.mp_verdict.proofs.ShownChains.{chain_at, written_at, IsTaken, row_or, walked}

module _ (o : CoreOpening) (w : CoreWorld) (facts : Facts o w) where
  -- nothing of a transaction whose commit is recorded was put back
  pub forced_whole : (id : TrxId) (cts : ℕ) → IsForced o w id cts → (m : TrxMtr) → IsIn m (made_in w id.node) → m.of ≡ Some id → row_restored_by m.mtr ≡ None
  forced_whole id cts f m there of =
      let c = f.recorded.made in
      let its = (facts.of_versions.commits id.node c id cts f.recorded.was_made f.recorded.commit).0 in
      (facts.of_versions.commit_last id.node c m f.recorded.was_made (ap (λ (x : Option Draw). is_some x) f.recorded.commit) there (of ∙ sym its)).1

  -- what puts a row puts none back
  pub put_whole : (n : ℕ) (m : TrxMtr) → IsIn m (made_in w n) → is_some (row_put_by m.mtr) ≡ true → row_restored_by m.mtr ≡ None
  put_whole n m there puts = elim (facts.of_history.kinds n m there) [
    | inl p ↦ p.1.restored
    | inr (inl b) ↦ absurd (false≢true (ap (λ (x : Option Row). is_some x) (sym b.1.put) ∙ puts))
    | inr (inr c) ↦ c.2.restored
  ]

  -- who put a row at or above a page's height didn't commit at or below what was known then
  pub put_before : (n : ℕ) (g : GivenPage PageView) → IsIn g (w.pages.given n) → (id : TrxId) (cts key : ℕ) (m : TrxMtr) (row : Row) → IsForced o w id cts → cts ≤ g.known → PutOf w id key m row → m.at < g.height
  put_before n g there id cts key m row f known p = elim (cases_lt m.at g.height) [
    | inl lt ↦ lt
    | inr ge ↦
        let later = facts.of_notes.later_puts n g there id.node m row p.was_made ge (put_of o w facts id.node m row p.was_made p.put) id cts p.of (forced_drew o w facts id cts f) in
        absurd (omega (arith, later, known))
  ]

module _ (o : CoreOpening) (w : CoreWorld) (fit : NumbersFit o) (facts : Facts o w) (reader : TrxId) (view key : ℕ) (leaf : GivenPage PageView) (given : IsIn leaf (w.pages.given reader.node)) (knew : view ≤ leaf.known) (only : HasOnlyPut (core_part w reader.node) reader leaf.height) where
  abbrev first_mtrs : History
  first_mtrs = older leaf.height w.pages.history

  counted : length first_mtrs ≡ leaf.height
  counted = length_older leaf.height w.pages.history (facts.of_notes.given reader.node leaf given).1

  -- what a transaction kept in the first mtrs is what it put last there, where it put nothing back in them
  says_at : (id : TrxId) → ((m : TrxMtr) → IsIn m (made_in w id.node) → m.of ≡ Some id → m.at < leaf.height → row_restored_by m.mtr ≡ None) → Says o w facts id key leaf.height (kept_version by_version (Some id) (ops_on key first_mtrs))
  says_at id whole =
      let split = older_first leaf.height w.pages.history in
      let never = never_back o w facts id key leaf.height whole split.newer first_mtrs split.split_is (omega (arith, counted)) in
      subst (λ (h : ℕ). Says o w facts id key h (kept_version by_version (Some id) (ops_on key first_mtrs))) counted
      (subst (Says o w facts id key (length first_mtrs)) (sym (kept_last by_version (Some id) (ops_on key first_mtrs) never)) (put_last_says o w facts id key split.newer first_mtrs split.split_is))

  reader_says : Says o w facts reader key leaf.height (kept_version by_version (Some reader) (ops_on key first_mtrs))
  reader_says = says_at reader (λ m there of below. put_whole o w facts reader.node m there (only m there of below))

  committed_says : (id : TrxId) (cts : ℕ) → IsForced o w id cts → Says o w facts id key leaf.height (kept_version by_version (Some id) (ops_on key first_mtrs))
  committed_says id cts f = says_at id (λ m there of below. forced_whole o w facts id cts f m there of)

  below_height : (id : TrxId) (cts : ℕ) (m : TrxMtr) (row : Row) → IsForced o w id cts → cts ≤ view → PutOf w id key m row → PutBelow w id key leaf.height m row
  below_height id cts m row f le p = record {
    was_made = p.was_made;
    of = p.of;
    put = p.put;
    its_key = p.its_key;
    below = put_before o w facts reader.node leaf given id cts key m row f (omega (arith, le, knew)) p;
  }

  above_all : (m : TrxMtr) (row : Row) (id : TrxId) → PutBelow w id key leaf.height m row → PutOf w id key m row
  above_all m row id p = record {
    was_made = p.was_made;
    of = p.of;
    put = p.put;
    its_key = p.its_key;
    below = let height = (facts.of_notes.given reader.node leaf given).1 in let below = p.below in omega (arith, height, below);
  }

  -- a transaction that put the key and committed at or below the view keeps a version
  kept_by : (id : TrxId) (cts : ℕ) (m : TrxMtr) (row : Row) → IsForced o w id cts → cts ≤ view → PutOf w id key m row → (v : Version) × (kept_version by_version (Some id) (ops_on key first_mtrs) ≡ Some v)
  kept_by id cts m row f le p = found (kept_version by_version (Some id) (ops_on key first_mtrs)) refl
    where
      found : (x : Option Version) → kept_version by_version (Some id) (ops_on key first_mtrs) ≡ x → (v : Version) × (kept_version by_version (Some id) (ops_on key first_mtrs) ≡ Some v)
      found (Some v) is = (v, is)
      found None is = absurd (subst (Says o w facts id key leaf.height) is (committed_says id cts f) m row (below_height id cts m row f le p))

  module _ (nothing : PutsNothingBelow w reader key leaf.height) where
    apart : (id : TrxId) (cts : ℕ) (m : TrxMtr) (row : Row) → IsForced o w id cts → cts ≤ view → PutOf w id key m row → Some id ≢ Some reader
    apart id cts m row f le p = λ (e : Some id ≡ Some reader). nothing m row (subst (λ (x : TrxId). PutBelow w x key leaf.height m row) (some_is id reader e) (below_height id cts m row f le p))

    latest : (v : Version) → IsLatestAt by_version (OthersCommitted o w facts reader) (Some reader) view (λ u. kept_version by_version u (ops_on key first_mtrs)) v → IsLatestCommit o w view key v.row
    latest v l =
        let c = l.commit.0 in
        let is : by_version v ≡ Some c.0 = c.1 in
        let its : kept_version by_version (Some c.0) (ops_on key first_mtrs) ≡ Some v = ap (λ (u : Option TrxId). kept_version by_version u (ops_on key first_mtrs)) (sym is) ∙ l.its in
        let last : LastPutBelow w c.0 key leaf.height v.row = subst (Says o w facts c.0 key leaf.height) its (committed_says c.0 l.cts c.2) in
        record {
          id = c.0;
          cts = l.cts;
          forced = c.2;
          in_view = l.in_view;
          its = record {
            mtr = last.mtr;
            is_put = above_all last.mtr v.row c.0 last.is_put;
            last = λ m other p. last.last m other (below_height c.0 l.cts m other c.2 l.in_view p);
          };
          latest = λ other d m r f le p.
              let kept = kept_by other d m r f le p in
              l.latest (Some other) d kept.0 kept.1 ((other, refl, f), apart other d m r f le p) le;
        }

    nobody : NobodyAt by_version (OthersCommitted o w facts reader) (Some reader) view (λ u. kept_version by_version u (ops_on key first_mtrs)) → NoCommitPut o w view key
    nobody none = λ id cts m row f le p.
        let kept = kept_by id cts m row f le p in
        none (Some id) cts kept.0 kept.1 ((id, refl, f), apart id cts m row f le p) le

  abbrev opening_row : Row
  opening_row = row_of_key (opening_pages o) key

  abbrev found_row : Option Version → Row
  found_row x = row_or o w fit facts reader.node reader view opening_row (clean_plain o.trx.base.llsn (opening_pages o) fit.clean key).0 x

  shown : (version : Option Version) → IsReadAt by_version (OthersCommitted o w facts reader) (Some reader) view (λ u. kept_version by_version u (ops_on key first_mtrs)) version → ShowsReader o w reader leaf.height view key (found_row version)
  shown version (inl own) = subst (λ (x : Option Version). ShowsReader o w reader leaf.height view key (found_row x)) (sym own.1) (inl (subst (Says o w facts reader key leaf.height) own.2 reader_says))
  shown version (inr (none, inl l)) =
      let nothing : PutsNothingBelow w reader key leaf.height = subst (Says o w facts reader key leaf.height) none reader_says in
      subst (λ (x : Option Version). ShowsReader o w reader leaf.height view key (found_row x)) (sym l.1) (inr (nothing, inl (latest nothing l.0 l.2)))
  shown version (inr (none, inr l)) =
      let nothing : PutsNothingBelow w reader key leaf.height = subst (Says o w facts reader key leaf.height) none reader_says in
      subst (λ (x : Option Version). ShowsReader o w reader leaf.height view key (found_row x)) (sym l.0) (inr (nothing, inr (nobody nothing l.1, refl)))

  pub taken_shows : (found : Row) → IsTaken o w fit facts reader.node reader view opening_row (clean_plain o.trx.base.llsn (opening_pages o) fit.clean key).0 (live_on key first_mtrs) found → ShowsReader o w reader leaf.height view key found
  taken_shows found taken =
      let split = older_first leaf.height w.pages.history in
      let fits = others_fit o w facts reader leaf.height only key split.newer first_mtrs split.split_is (omega (arith, counted)) in
      let read = read_at by_version (OthersCommitted o w facts reader) (DrewStamp w) (others_stamps o w facts reader) (Some reader) view (reader_not o w facts reader) (ops_on key first_mtrs) fits taken.version taken.takes in
      subst (ShowsReader o w reader leaf.height view key) (sym taken.its) (shown taken.version read)

module _ (o : CoreOpening) (w : CoreWorld) (fit : NumbersFit o) (facts : Facts o w) where
  pub read_shows : (pages : List (GivenPage PageView)) (reader : TrxId) (view key : ℕ) (found : Row) → (sees : Sees (core_part w reader.node) pages reader view key found) → ShowsReader o w reader sees.leaf.height view key found
  read_shows pages reader view key found sees =
      let unwritten = (clean_plain o.trx.base.llsn (opening_pages o) fit.clean key).0 in
      let noted = chain_at o w fit facts sees.leaf.height key in
      let first = newest_row o w fit facts reader.node sees.leaf key sees.newest sees.shows ∙ noted.head in
      taken_shows o w fit facts reader view key sees.leaf sees.shows.given sees.knew sees.only_put found
      (walked o w fit facts reader.node reader view (row_of_key (opening_pages o) key) unwritten (live_on key (older sees.leaf.height w.pages.history)) (written_at o w fit facts sees.leaf.height key) noted.chain sees.newest first sees.older found sees.leads)
