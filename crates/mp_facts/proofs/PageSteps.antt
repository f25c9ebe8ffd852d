-- The steps on pages keep what is kept.
use Rattle.std.proofs.Common.{◌≡◌, ◌≢◌, ℕ, ◌<◌, ◌≤◌, ◌==◌, Bool, true, false, if◌then◌else◌, List, length, Option, Some, None, refl, sym, subst, ◌∙◌, inl, inr, arith}
use mathlib.Core.Logic.{dite}
use native.Mathlib.Decide.{ℕ_discrete}
use lib.ListN.{get_elem?}
use Rattle.mp_machine.specs.Lists.{IsIn, pushed}
use Rattle.mp_machine.proofs.Lists.{pushed_here, pushed_else, in_new, each_pushed}
use Rattle.mp_model.specs.declared.ids.TrxId.{TrxId}
use Rattle.mp_cells.specs.declared.records.Mtr.{Mtr}
use Rattle.mp_cells.specs.declared.rows.Row.{Row}
use Rattle.mp_cells.specs.PageView.{PageView}
use Rattle.mp_histories.proofs.Lists.{some_same, none_some}
use Rattle.mp_core_trx.specs.Parts.{draw_of}
use Rattle.mp_core_trx.specs.World.{begun_in, slot_rows_in, drawn_in, loaded_in, tso_seen_in}
use Rattle.mp_core_trx.specs.Parts.{greatest_seen}
use Rattle.mp_core_trx.proofs.Sight.{greatest_from, greatest_drawn}
use Rattle.mp_core_trx.specs.declared.opening.TrxOpening.{TrxOpening}
use Rattle.mp_core_pages.specs.declared.part.GivenPage.{GivenPage}
use Rattle.mp_core_pages.specs.declared.event.PagesEvent.{PagesEvent}
use Rattle.mp_core_pages.specs.declared.event.PagesEvent.TheVariants.{LockWord, UnlockWord, TakeFrame, GiveFrame, StoreLlsn, StoreDurable}
use Rattle.mp_core_pages.specs.PageParts.{given_page, kept_or, durable_llsn}
use Rattle.mp_core_pages.specs.PageEvents.{pages_node}
use Rattle.mp_core_pages.specs.PageWorld.{standing, pages_after}
use Rattle.mp_core_pages.proofs.Leaves.{made_after, made_is, durables_after, durables_is, history_after, history_is, given_after, given_is, given_by}
use Rattle.mp_histories.specs.Commits.{Includes}
use Rattle.mp_histories.specs.Histories.{older, by_version, ops_on}
use Rattle.mp_histories.proofs.Standing.{has_chains}
use Rattle.mp_histories.proofs.MoreStamps.{fits_more}
use Rattle.mp_core.specs.declared.opening.CoreOpening.{CoreOpening}
use Rattle.mp_core.specs.declared.event.CoreEvent.TheVariants.{Pages}
use Rattle.mp_core.specs.Contents.{page_ops, pages_opening}
use Rattle.mp_core.specs.OwnMtrs.{row_put_by, TrxMtr, trx_mtrs}
use Rattle.mp_core.specs.World.{CoreWorld, core_after, core_part, known_by, CoreAllowed}
use Rattle.mp_core.specs.Invariant.{NumbersFit, CoreInv}
use Rattle.mp_core.proofs.Law.{its_asks, keeps_inv}
use Rattle.mp_core_pages.specs.PageInvariant.{IsGiven, GivenPages}
use Rattle.mp_plans.specs.Fitting.{IsLeafOf}
use Rattle.mp_facts.proofs.ShownSteps.{leaf_puts_made, shown_made, shown_given}
use Rattle.mp_facts.specs.Facts.{opening_pages}
use Rattle.mp_facts.proofs.MadeLists.{next_made, each_made}
use Rattle.mp_facts.proofs.NewMtrs.{NewMtr, new_mtr}
use Rattle.mp_facts.proofs.MtrShapes.{put_of}
use Rattle.mp_facts.proofs.MadeSteps.{of_begun_made, kinds_made, commits_made, last_made}
use Rattle.mp_facts.proofs.WriteSteps.{well_made, fits_made}
use Rattle.mp_facts.proofs.CoverSteps.{covers_made, restores_made}
use Rattle.mp_facts.proofs.OwnSteps.{own_made, writers_made}
use Rattle.mp_facts.proofs.Bridges.{stands_in}
use Rattle.mp_facts.proofs.Joint.{MtrDurable, DurableStamp, DrawnStamp, DrawsLater, Holds, Joint}

-- the pages' components after an event of a node that knows this timestamp
abbrev PagesHold : CoreOpening → CoreWorld → ℕ → PagesEvent PageView Mtr → Type 0
PagesHold o w known e = Holds o w.trx.tso (begun_in w.trx) (slot_rows_in w.trx) (drawn_in w.trx) (loaded_in w.trx)
    (history_after page_ops known w.pages e) (made_after page_ops known w.pages e) (durables_after page_ops known w.pages e) (given_after page_ops known w.pages e)

of_pages : (o : CoreOpening) (w : CoreWorld) (e : PagesEvent PageView Mtr) → PagesHold o w (known_by w (pages_node e)) e → Joint o (core_after w (Pages e))
of_pages o w e h =
    let known = known_by w (pages_node e) in
    let v = pages_after page_ops known w.pages e in
    subst (λ x. Holds o w.trx.tso (begun_in w.trx) (slot_rows_in w.trx) (drawn_in w.trx) (loaded_in w.trx) v.history v.made v.durables x) (sym (given_is page_ops known w.pages e))
    (subst (λ x. Holds o w.trx.tso (begun_in w.trx) (slot_rows_in w.trx) (drawn_in w.trx) (loaded_in w.trx) v.history v.made x (given_after page_ops known w.pages e)) (sym (durables_is page_ops known w.pages e))
    (subst (λ x. Holds o w.trx.tso (begun_in w.trx) (slot_rows_in w.trx) (drawn_in w.trx) (loaded_in w.trx) v.history x (durables_after page_ops known w.pages e) (given_after page_ops known w.pages e)) (sym (made_is page_ops known w.pages e))
    (subst (λ x. Holds o w.trx.tso (begun_in w.trx) (slot_rows_in w.trx) (drawn_in w.trx) (loaded_in w.trx) x (made_after page_ops known w.pages e) (durables_after page_ops known w.pages e) (given_after page_ops known w.pages e)) (sym (history_is page_ops known w.pages e)) h)))

more_durable : (durables : ℕ → List ℕ) (n v base : ℕ) → durable_llsn base (durables n) ≤ v → (k : ℕ) → durable_llsn base (durables k) ≤ durable_llsn base (pushed durables n v k)
more_durable durables n v base above k =
    dite (ℕ_discrete k n)
    (λ same. subst (λ q. durable_llsn base (durables q) ≤ durable_llsn base (pushed durables n v q)) (sym same) (subst (λ l. durable_llsn base (durables n) ≤ durable_llsn base l) (sym (pushed_here durables n v)) above))
    (λ other. subst (λ l. durable_llsn base (durables k) ≤ durable_llsn base l) (sym (pushed_else durables n v k other)) (omega arith))

-- a put is of a transaction that has drawn nothing
new_later : {o : CoreOpening} {w : CoreWorld} (n : ℕ) (m : Mtr) → NewMtr o w n m → (g : GivenPage PageView) → DrawsLater (drawn_in w.trx) g n (next_made (w.pages.made n) (length w.pages.history) m)
new_later {o} {w} n m new g row above is id cts of drawn = elim new [
  | inl p ↦
      let same : p.id ≡ id = some_same p.id id (sym (put_of (w.pages.made n) m p.row p.kept p.id p.shape p.by) ∙ of) in
      absurd (p.drew_nothing cts (subst (λ (x : TrxId). IsIn (draw_of x cts) (drawn_in w.trx n)) (sym same) drawn))
  | inr (inl p) ↦ absurd (none_some row (sym p.shape.put ∙ is.put))
  | inr (inr p) ↦ absurd (none_some row (sym p.shape.put ∙ is.put))
]

module _ (o : CoreOpening) (fair : NumbersFit o) (w : CoreWorld) (i : CoreInv o w) (j : Joint o w) where
  -- ---- a page is given
  abbrev WithGiven : (ℕ → List (GivenPage PageView)) → Type 0
  WithGiven given = Holds o w.trx.tso (begun_in w.trx) (slot_rows_in w.trx) (drawn_in w.trx) (loaded_in w.trx) w.pages.history w.pages.made w.pages.durables given

  known_least : (n : ℕ) → o.trx.base.ts ≤ known_by w n
  known_least n = subst (λ (x : TrxOpening). o.trx.base.ts ≤ greatest_seen x.base.ts (tso_seen_in w.trx n)) (sym (i.trx.carried n)) (greatest_from o.trx.base.ts (tso_seen_in w.trx n))

  known_most : (n : ℕ) → known_by w n ≤ w.trx.tso
  known_most n = subst (λ (x : TrxOpening). greatest_seen x.base.ts (tso_seen_in w.trx n) ≤ w.trx.tso) (sym (i.trx.carried n)) (greatest_drawn o.trx.base.ts w.trx.tso (begun_in w.trx) (tso_seen_in w.trx) (loaded_in w.trx) i.trx.sight n)

  made_before : (k : ℕ) (t : TrxMtr) → IsIn t (trx_mtrs (w.pages.made k)) → t.at < length w.pages.history
  made_before k t has = (stands_in o w i k t has).before

  with_given : (n : ℕ) (g : GivenPage PageView) → g.known ≡ known_by w n → g.height ≡ length w.pages.history → IsGiven page_ops (pages_opening o) w.pages.history w.pages.durables n g → WithGiven (pushed w.pages.given n g)
  with_given n g knows height is = record {
    of_begun = j.of_begun;
    kinds = j.kinds;
    commits = j.commits;
    last = j.last;
    ended = j.ended;
    runs = j.runs;
    fits = j.fits;
    own = j.own;
    writers = j.writers;
    covers = j.covers;
    put_back = j.put_back;
    known = each_pushed (λ k x. (o.trx.base.ts ≤ x.known) × (x.known ≤ w.trx.tso)) w.pages.given n g j.known (
      (let least = known_least n in omega (arith, least, knows)),
      (let most = known_most n in omega (arith, most, knows)),
    );
    later = each_pushed (λ k x. (m : ℕ) (t : TrxMtr) → IsIn t (trx_mtrs (w.pages.made m)) → DrawsLater (drawn_in w.trx) x m t) w.pages.given n g j.later
        (λ m t has row above puts of cts by drawn. let before = made_before m t has in absurd (omega (arith, before, above, height)));
    leaf_puts = j.leaf_puts;
    shown = each_pushed (λ k x. (key : ℕ) (put : Mtr) (row : Row) → IsLeafOf key x.page → IsIn put (older x.height w.pages.history) → row_put_by put ≡ Some row → row.key ≡ key → put.node ≢ k → MtrDurable o.trx.base.llsn w.pages.durables put)
        w.pages.given n g j.shown (shown_given o fair w j n g height is);
  }

  -- each page that is given may be relied on
  abbrev Relied : (ℕ → List (GivenPage PageView)) → Type 0
  Relied given = GivenPages page_ops (pages_opening o) w.pages.history w.pages.durables given

  given_turn : (n k : ℕ) (x : Option PageView) → Relied (given_by page_ops (known_by w n) w.pages n k x) → WithGiven (given_by page_ops (known_by w n) w.pages n k x)
  given_turn n k None all = j
  given_turn n k (Some y) all =
      let g : GivenPage PageView = given_page k (kept_or page_ops (w.pages.contents n) k y) (known_by w n) (length w.pages.history) in
      with_given n g refl refl (all n g (in_new w.pages.given n g))

  given_test : (n k : ℕ) (x : Option PageView) (b : Bool) → Relied (if b then given_by page_ops (known_by w n) w.pages n k x else w.pages.given) → WithGiven (if b then given_by page_ops (known_by w n) w.pages n k x else w.pages.given)
  given_test n k x true all = given_turn n k x all
  given_test n k x false all = j

  all_given : (n k : ℕ) → CoreAllowed (core_part w n) (Pages (TakeFrame n k)) → Relied (given_after page_ops (known_by w n) w.pages (TakeFrame n k))
  all_given n k may =
      let e : PagesEvent PageView Mtr = TakeFrame n k in
      let known = known_by w n in
      let v = pages_after page_ops known w.pages e in
      let all : GivenPages page_ops (pages_opening o) v.history v.durables v.given = (keeps_inv o fair w (Pages e) i may).pages.given_pages in
      subst (λ x. GivenPages page_ops (pages_opening o) w.pages.history w.pages.durables x) (given_is page_ops known w.pages e)
      (subst (λ x. GivenPages page_ops (pages_opening o) w.pages.history x v.given) (durables_is page_ops known w.pages e)
      (subst (λ x. GivenPages page_ops (pages_opening o) x v.durables v.given) (history_is page_ops known w.pages e) all))

  -- ---- more is durable
  force : (n v : ℕ) → durable_llsn o.trx.base.llsn (w.pages.durables n) ≤ v → PagesHold o w (known_by w n) (StoreDurable n v)
  force n v above = record {
    of_begun = j.of_begun;
    kinds = j.kinds;
    commits = j.commits;
    last = j.last;
    ended = j.ended;
    runs = j.runs;
    fits = λ key. fits_more (DurableStamp o.trx.base.llsn w.pages.made w.pages.durables) (DrawnStamp (drawn_in w.trx)) (DurableStamp o.trx.base.llsn w.pages.made (pushed w.pages.durables n v)) (DrawnStamp (drawn_in w.trx))
        more (λ writer c drew. inl drew) by_version (ops_on key w.pages.history) (j.fits key);
    own = j.own;
    writers = j.writers;
    covers = j.covers;
    put_back = j.put_back;
    known = j.known;
    later = j.later;
    leaf_puts = λ key number put row range leaf has puts is_key. elim (j.leaf_puts key number put row range leaf has puts is_key) [
      | inl forced ↦ inl (rises put forced)
      | inr x ↦ inr x
    ];
    shown = λ k g has key put row leaf there puts is_key other. rises put (j.shown k g has key put row leaf there puts is_key other);
  }
    where
      rises : (m : Mtr) → MtrDurable o.trx.base.llsn w.pages.durables m → MtrDurable o.trx.base.llsn (pushed w.pages.durables n v) m
      rises m was = let more = more_durable w.pages.durables n v o.trx.base.llsn above m.node in omega (arith, was, more)

      more : Includes (DurableStamp o.trx.base.llsn w.pages.made w.pages.durables) (DurableStamp o.trx.base.llsn w.pages.made (pushed w.pages.durables n v))
      more writer cts has = (
        has.0,
        has.1,
        record {
          commit = has.2.commit;
          is_made = has.2.is_made;
          records = has.2.records;
          durable = (let was = has.2.durable in let rises = more_durable w.pages.durables n v o.trx.base.llsn above has.0.node in omega (arith, was, rises));
        },
      )

  -- ---- an mtr is made
  make : (n : ℕ) (m : Mtr) → CoreAllowed (core_part w n) (Pages (StoreLlsn n m)) → PagesHold o w (known_by w n) (StoreLlsn n m)
  make n m may =
      let tree = (has_chains o.trx.base.llsn (opening_pages o) fair.clean w.pages.history j.runs).tree in
      let new = new_mtr o w i tree n m may in
      let llsn = may.2.mtr.llsn in
      record {
        of_begun = of_begun_made o w n m new j.of_begun;
        kinds = kinds_made o w n m new j.kinds;
        commits = commits_made o w n m new j.commits;
        last = last_made o w n m new i j.commits j.last;
        ended = j.ended;
        runs = (well_made o fair w i j n m new llsn, j.runs);
        fits = fits_made o fair w i j n m new llsn;
        own = own_made o fair w i j n m new;
        writers = writers_made o fair w i j n m new;
        covers = covers_made o fair w i j n m new;
        put_back = restores_made o fair w i j n m new;
        known = j.known;
        later = λ k g has. each_made w.pages.made n (length w.pages.history) m (λ q t. DrawsLater (drawn_in w.trx) g q t) (j.later k g has) (new_later n m new g);
        leaf_puts = leaf_puts_made o fair w i j n m may new;
        shown = shown_made o fair w i j n m may new;
      }

  holds_pages : (e : PagesEvent PageView Mtr) → CoreAllowed (core_part w (pages_node e)) (Pages e) → PagesHold o w (known_by w (pages_node e)) e
  holds_pages (LockWord n k old new) may = j
  holds_pages (UnlockWord n k) may = j
  holds_pages (TakeFrame n k) may = given_test n k (standing (get_elem? w.pages.homes k)) (w.pages.turn_words k == 0) (all_given n k may)
  holds_pages (GiveFrame n k y) may = j
  holds_pages (StoreLlsn n m) may = make n m may
  holds_pages (StoreDurable n v) may = force n v (its_asks o w i (StoreDurable n v) may).0

-- the step theorem for pages
pub keeps_pages : (o : CoreOpening) → NumbersFit o → (w : CoreWorld) (e : PagesEvent PageView Mtr) → CoreInv o w → Joint o w → CoreAllowed (core_part w (pages_node e)) (Pages e) → Joint o (core_after w (Pages e))
keeps_pages o fair w e i j may = of_pages o w e (holds_pages o fair w i j e may)
