-- What a leaf showed as it was given is durable, where another node put it: who put a version that is not durable writes
-- the leaf that has its key, whatever splits came since.
use Rattle.std.proofs.Common.{◌≡◌, ◌≢◌, ℕ, ◌^◌, ◌<◌, ◌≤◌, ◌==◌, ◌⊎◌, Bool, true, false, if◌then◌else◌, List, ◌∷◌, [], length, Some, refl, sym, ap, subst, ◌∙◌, inl, inr, arith}
use mathlib.Core.Bool.{false≢true}
use Rattle.mp_machine.specs.Lists.{IsIn}
use Rattle.mp_cells.specs.declared.records.Mtr.{Mtr}
use Rattle.mp_cells.specs.declared.rows.Row.{Row}
use Rattle.mp_cells.specs.PageView.{PageView}
use Rattle.mp_cells.specs.Trees.{top, height_of, IsTree}
use Rattle.mp_cells.specs.Plans.{plan_of, touches}
use Rattle.mp_cells.proofs.MtrPages.{mtr_untouched}
use Rattle.mp_histories.proofs.Lists.{some_same, none_some}
use Rattle.mp_core_pages.specs.declared.page_lock.Held.{Held}
use Rattle.mp_core_pages.specs.declared.page_lock.Held.TheVariants.{No, Write}
use Rattle.mp_core_pages.specs.declared.part.GivenPage.{GivenPage}
use Rattle.mp_core_pages.specs.declared.part.Placed.{Placed}
use Rattle.mp_core_pages.specs.declared.event.PagesEvent.TheVariants.{StoreLlsn}
use Rattle.mp_core_pages.specs.Histories.{placed, oldest, made_by}
use Rattle.mp_core_pages.proofs.Choices.{if_true}
use Rattle.std.proofs.lemmas.Bool.{eq-eqb}
use Rattle.mp_core_pages.specs.PageInvariant.{IsGiven}
use Rattle.mp_core_pages.specs.PageParts.{held_at, durable_llsn}
use Rattle.mp_plans.specs.Fitting.{IsLeafOf}
use Rattle.mp_histories.specs.Histories.{History, older, pages_after}
use Rattle.mp_histories.proofs.Writers.{decided}
use Rattle.mp_histories.proofs.Standing.{has_chains}
use Rattle.mp_core.specs.declared.opening.CoreOpening.{CoreOpening}
use Rattle.mp_core.specs.declared.event.CoreEvent.TheVariants.{Pages}
use Rattle.mp_core.specs.Contents.{page_ops, pages_opening}
use Rattle.mp_core.specs.OwnMtrs.{row_put_by}
use Rattle.mp_core.specs.World.{CoreWorld, core_part, CoreAllowed}
use Rattle.mp_core.specs.Invariant.{NumbersFit, CoreInv}
use Rattle.mp_core.proofs.Law.{its_asks}
use Rattle.mp_core.proofs.Pages.{touched_same}
use Rattle.mp_facts.specs.Facts.{opening_pages, pages_now}
use Rattle.mp_facts.proofs.Entries.{last_greatest}
use Rattle.mp_facts.proofs.Bridges.{folded_is, folded_within, older_oldest}
use Rattle.mp_facts.proofs.LeafPages.{one_leaf, key_below_top, leaf_number, leaf_there, put_touches}
use Rattle.mp_facts.proofs.LiveSteps.{older_all, older_one}
use Rattle.mp_facts.proofs.NewMtrs.{NewMtr}
use Rattle.mp_facts.proofs.WriteSteps.{well_made}
use Rattle.mp_facts.proofs.Joint.{Joint, MtrDurable, LaterOn, LeafPuts, GivenShown}

-- an mtr of the history stands in its node's log
in_log : (history : History) (m : Mtr) → IsIn m history → (at : ℕ) × IsIn (placed at m) (made_by page_ops m.node history)
in_log [] m has = absurd has
in_log (x ∷ history) m (inl is) = (
  length history,
  subst (λ (l : List (Placed Mtr)). IsIn (placed (length history) m) l)
      (sym (if_true (x.node == m.node) (placed (length history) x ∷ made_by page_ops m.node history) (made_by page_ops m.node history) (eq-eqb x.node m.node (ap (λ (y : Mtr). y.node) (sym is)))))
      (inl (ap (placed (length history)) is)),
)
in_log (x ∷ history) m (inr has) =
    let rest = in_log history m has in
    (rest.0, more rest.0 (x.node == m.node) rest.1)
  where
    more : (at : ℕ) (b : Bool) → IsIn (placed at m) (made_by page_ops m.node history) → IsIn (placed at m) (if b then placed (length history) x ∷ made_by page_ops m.node history else made_by page_ops m.node history)
    more at true there = inr there
    more at false there = there

module _ (o : CoreOpening) (fair : NumbersFit o) (w : CoreWorld) (i : CoreInv o w) (j : Joint o w) (n : ℕ) (m : Mtr) (may : CoreAllowed (core_part w n) (Pages (StoreLlsn n m))) (new : NewMtr o w n m) where
  abbrev base : ℕ
  base = o.trx.base.llsn

  abbrev then_all : History
  then_all = m ∷ w.pages.history

  -- who made an mtr on a page that this one changes, and isn't durable, made this one
  one_writer : (x : Mtr) (number : ℕ) → IsIn x w.pages.history → touches number (plan_of x.records) ≡ true → touches number (plan_of m.records) ≡ true → MtrDurable base w.pages.durables x ⊎ (x.node ≡ n)
  one_writer x number has before now = elim (i.pages.page_frames.missing x number has (touched_same number x.records ∙ before)) [
    | inl forced ↦ inl forced.0
    | inr writes ↦
        let page = (its_asks o w i (StoreLlsn n m) may).touched number (touched_same number m.records ∙ now) in
        inr (i.pages.page_locks.alone n x.node number page.1 (λ none. held_no (held_at (w.pages.lock_rows x.node) number) writes none))
  ]
    where
      held_no : (h : Held) → h ≡ Write → h ≡ No → ⊥
      held_no h a b = absurd (let both = sym a ∙ b in cc)

  -- all mtrs of its node are below it
  above_own : (x : Mtr) → IsIn x w.pages.history → x.node ≡ n → x.llsn ≤ m.llsn
  above_own x has node =
      let log = in_log w.pages.history x has in
      let made : IsIn (placed log.0 x) (w.pages.made n) = subst (λ (k : ℕ). IsIn (placed log.0 x) (w.pages.made k)) node (subst (λ (l : List (Placed Mtr)). IsIn (placed log.0 x) l) (sym (i.pages.mtr_history.own x.node)) log.1) in
      let most = last_greatest base (w.pages.made n) (i.pages.mtr_logs.ascend n) (placed log.0 x) made in
      let above = (its_asks o w i (StoreLlsn n m) may).above in
      omega (arith, most, above)

  is_own : m.node ≡ n
  is_own = (its_asks o w i (StoreLlsn n m) may).own

  -- from the leaf that had the key to one that this mtr changes
  carried : (put : Mtr) (number : ℕ) → touches number (plan_of m.records) ≡ true → (before : ℕ) → touches before (plan_of m.records) ≡ true → MtrDurable base w.pages.durables put ⊎ LaterOn w.pages.history put before → MtrDurable base w.pages.durables put ⊎ LaterOn then_all put number
  carried put number now before was (inl forced) = inl forced
  carried put number now before was (inr x) = elim (one_writer x.mtr before x.there x.touches was) [
    | inl forced ↦ inl (let later = x.later in let same = ap (λ (k : ℕ). durable_llsn base (w.pages.durables k)) x.maker in omega (arith, forced, later, same))
    | inr node ↦ inr (record {
      mtr = m;
      there = inl refl;
      maker = is_own ∙ sym node ∙ x.maker;
      later = (let later = x.later in let above = above_own x.mtr x.there node in omega (arith, later, above));
      touches = now;
    })
  ]

  llsn_fits : m.llsn < 2 ^ 62
  llsn_fits = may.2.mtr.llsn

  tree_before : IsTree (pages_now o w) (height_of (pages_now o w))
  tree_before = (has_chains base (opening_pages o) fair.clean w.pages.history j.runs).tree

  tree_after : IsTree (pages_after (opening_pages o) then_all) (height_of (pages_after (opening_pages o) then_all))
  tree_after = (has_chains base (opening_pages o) fair.clean then_all (well_made o fair w i j n m new llsn_fits, j.runs)).tree

  -- a changed leaf: the one that had the key before was changed too
  changed_leaf : (key number : ℕ) (put : Mtr) (row : Row) → number < 4096 → IsLeafOf key (pages_after (opening_pages o) then_all number) → touches number (plan_of m.records) ≡ true → IsIn put w.pages.history → row_put_by put ≡ Some row → row.key ≡ key
      → MtrDurable base w.pages.durables put ⊎ LaterOn then_all put number
  changed_leaf key number put row range leaf now has puts is_key =
      let below_top : key < top = key_below_top (pages_after (opening_pages o) then_all) (height_of (pages_after (opening_pages o) then_all)) tree_after key number range leaf in
      let before : ℕ = leaf_number (pages_now o w) (height_of (pages_now o w)) tree_before key in
      let there = leaf_there (pages_now o w) (height_of (pages_now o w)) tree_before key below_top in
      let was = j.leaf_puts key before put row there.0 there.1 has puts is_key in
      elim (decided (touches before (plan_of m.records))) [
        | inl touch ↦ carried put number now before touch was
        | inr left ↦
            let same : IsLeafOf key (pages_after (opening_pages o) then_all before) = subst (IsLeafOf key) (sym (mtr_untouched m (pages_now o w) before left)) there.1 in
            let one : before ≡ number = one_leaf (pages_after (opening_pages o) then_all) (height_of (pages_after (opening_pages o) then_all)) tree_after key before number there.0 range same leaf in
            absurd (false≢true (sym left ∙ ap (λ (k : ℕ). touches k (plan_of m.records)) one ∙ now))
      ]

  more_later : (put : Mtr) (number : ℕ) → MtrDurable base w.pages.durables put ⊎ LaterOn w.pages.history put number → MtrDurable base w.pages.durables put ⊎ LaterOn then_all put number
  more_later put number (inl forced) = inl forced
  more_later put number (inr x) = inr (record { mtr = x.mtr; there = inr x.there; maker = x.maker; later = x.later; touches = x.touches })

  -- the put itself changes the leaf
  not_left : (key number : ℕ) (row : Row) → number < 4096 → IsLeafOf key (pages_after (opening_pages o) then_all number) → touches number (plan_of m.records) ≡ false → row_put_by m ≡ Some row → row.key ≡ key → ⊥
  not_left key number row range leaf left puts is_key = elim new [
    | inl p ↦
        let same : p.row ≡ row = some_same p.row row (sym p.shape.put ∙ puts) in
        put_touches base (opening_pages o) fair.clean w.pages.history m (well_made o fair w i j n m (inl p) llsn_fits, j.runs) p.row number p.well.puts range
        (subst (λ (k : ℕ). IsLeafOf k (pages_after (opening_pages o) then_all number)) (sym (ap (λ (r : Row). r.key) same ∙ is_key)) leaf) left
    | inr (inl p) ↦ none_some row (sym p.shape.put ∙ puts)
    | inr (inr p) ↦ none_some row (sym p.shape.put ∙ puts)
  ]

  leaf_puts_by : (key number : ℕ) (put : Mtr) (row : Row) → number < 4096 → IsLeafOf key (pages_after (opening_pages o) then_all number) → IsIn put then_all → row_put_by put ≡ Some row → row.key ≡ key → (b : Bool) → touches number (plan_of m.records) ≡ b
      → MtrDurable base w.pages.durables put ⊎ LaterOn then_all put number
  leaf_puts_by key number put row range leaf (inl is) puts is_key true touch = inr (record { mtr = m; there = inl refl; maker = ap (λ (x : Mtr). x.node) (sym is); later = (let same = ap (λ (x : Mtr). x.llsn) is in omega (arith, same)); touches = touch })
  leaf_puts_by key number put row range leaf (inr has) puts is_key true touch = changed_leaf key number put row range leaf touch has puts is_key
  leaf_puts_by key number put row range leaf (inl is) puts is_key false left = absurd (not_left key number row range leaf left (sym (ap row_put_by is) ∙ puts) is_key)
  leaf_puts_by key number put row range leaf (inr has) puts is_key false left =
      more_later put number (j.leaf_puts key number put row range (subst (IsLeafOf key) (mtr_untouched m (pages_now o w) number left) leaf) has puts is_key)

  pub leaf_puts_made : LeafPuts base (opening_pages o) then_all w.pages.durables
  leaf_puts_made key number put row range leaf has puts is_key = leaf_puts_by key number put row range leaf has puts is_key (touches number (plan_of m.records)) refl

  pub shown_made : GivenShown base then_all w.pages.durables w.pages.given
  shown_made k g has key put row leaf there puts is_key other =
      j.shown k g has key put row leaf (subst (IsIn put) (older_one g.height m w.pages.history (i.pages.given_pages k g has).within) there) puts is_key other

-- a page that is given as all mtrs left it
module _ (o : CoreOpening) (fair : NumbersFit o) (w : CoreWorld) (j : Joint o w) (n : ℕ) (g : GivenPage PageView) (height : g.height ≡ length w.pages.history) (is : IsGiven page_ops (pages_opening o) w.pages.history w.pages.durables n g) where
  all_mtrs : older g.height w.pages.history ≡ w.pages.history
  all_mtrs = ap (λ (k : ℕ). older k w.pages.history) height ∙ older_all w.pages.history

  given_now : pages_now o w g.number ≡ g.page
  given_now = ap (λ (h : History). pages_after (opening_pages o) h g.number) (sym all_mtrs ∙ older_oldest o g.height w.pages.history) ∙ folded_is o (oldest g.height w.pages.history) g.number g.page is.is_folded

  in_range : g.number < 4096
  in_range = let range = folded_within o (oldest g.height w.pages.history) g.number g.page is.is_folded in let count = fair.count in omega (arith, range, count)

  pub shown_given : (key : ℕ) (put : Mtr) (row : Row) → IsLeafOf key g.page → IsIn put (older g.height w.pages.history) → row_put_by put ≡ Some row → row.key ≡ key → put.node ≢ n → MtrDurable o.trx.base.llsn w.pages.durables put
  shown_given key put row leaf there puts is_key other =
      elim (j.leaf_puts key g.number put row in_range (subst (IsLeafOf key) (sym given_now) leaf) (subst (IsIn put) all_mtrs there) puts is_key) [
        | inl forced ↦ forced
        | inr x ↦
            let forced = is.of_others x.mtr (subst (IsIn x.mtr) (sym all_mtrs ∙ older_oldest o g.height w.pages.history) x.there) (λ e. other (sym x.maker ∙ e)) (touched_same g.number x.mtr.records ∙ x.touches) in
            let later = x.later in
            let same = ap (λ (k : ℕ). durable_llsn o.trx.base.llsn (w.pages.durables k)) x.maker in
            omega (arith, forced, later, same)
      ]
