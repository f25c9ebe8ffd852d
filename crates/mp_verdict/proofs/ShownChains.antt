-- What a part shows of the versions of a key is the chain of those that stood at its leaf's height; and what it shows a
-- reader is the first of them that is the reader's own or was committed at or below its view.
use Rattle.std.proofs.Common.{◌≡◌, ℕ, ◌<◌, ◌≤◌, true, List, [], ◌∷◌, Option, Some, None, is_some, refl, sym, ap, subst, ◌∙◌, inl, inr, arith}
use mathlib.Core.Bool.{false≢true}
use Rattle.std.specs.List.{AllByRecursion}
use Rattle.mp_machine.specs.Lists.{IsIn}
use Rattle.mp_model.specs.declared.ids.TrxId.{TrxId}
use Rattle.mp_script.proofs.Options.{some_is, not_some}
use Rattle.mp_cells.specs.declared.rows.Row.{Row}
use Rattle.mp_cells.specs.Writes.{undo_at}
use Rattle.mp_core_trx.specs.Parts.{trx, draw_of}
use Rattle.mp_core_trx.specs.World.{drawn_in}
use Rattle.mp_histories.specs.KeyOps.{same_writer}
use Rattle.mp_histories.specs.Readers.{ShowsTo, Takes}
use Rattle.mp_histories.specs.Histories.{History, older, Version, by_version, rows_of_versions}
use Rattle.mp_histories.specs.Chains.{row_over, LinksTo, IsChain, row_of_key, StaysNoted, IsPutAt}
use Rattle.mp_histories.proofs.Writers.{decided, same_is, other_is}
use Rattle.mp_histories.proofs.ChainFacts.{links_one}
use Rattle.mp_histories.proofs.Noting.{noted}
use Rattle.mp_histories.proofs.LiveRows.{live_put_at}
use Rattle.mp_core.specs.declared.opening.CoreOpening.{CoreOpening}
use Rattle.mp_core.specs.Invariant.{NumbersFit}
use Rattle.mp_core.specs.World.{CoreWorld, core_part}
use Rattle.mp_facts.specs.Facts.{opening_pages, pages_at_height, pages_now, live_at_height, IsForced, CommittedStamp, Facts}
use Rattle.mp_supports.specs.Seeing.{IsHidden, IsCommittedBelow, IsSeenBy, LeadsToSeen}
use Rattle.mp_supports.proofs.ShownRows.{runs_at, next_links}
use Rattle.mp_verdict.proofs.OthersFit.{forced_drew, forced_once, OthersCommitted}

-- an id from its node and its slot
pub id_of : (id : TrxId) (node slot : ℕ) → node ≡ id.node → slot ≡ id.slot → trx node slot id.version ≡ id
id_of id node slot n s = ap (λ (k : ℕ). trx k slot id.version) n ∙ ap (λ (k : ℕ). trx id.node k id.version) s

module _ (o : CoreOpening) (w : CoreWorld) (fit : NumbersFit o) (facts : Facts o w) where
  pub chain_at : (height key : ℕ) → StaysNoted (opening_pages o) (older height w.pages.history) w.pages.history key (row_of_key (pages_at_height o w height) key)
  chain_at height key = noted o.trx.base.llsn (opening_pages o) fit.clean w.pages.history facts.of_versions.runs height key

  put_at : (height key : ℕ) → AllByRecursion (IsPutAt (older height w.pages.history) key) (live_at_height w height key)
  put_at height key = live_put_at o.trx.base.llsn (opening_pages o) fit.clean (older height w.pages.history) (runs_at o w fit facts height) key

  have_writers : (made : History) (key : ℕ) (vs : List Version) → AllByRecursion (IsPutAt made key) vs → AllByRecursion (λ v. is_some v.row.writer ≡ true) vs
  have_writers made key [] all = tt
  have_writers made key (v ∷ vs) all = (all.0.writer, have_writers made key vs all.1)

  pub written_at : (height key : ℕ) → AllByRecursion (λ v. is_some v.row.writer ≡ true) (live_at_height w height key)
  written_at height key = have_writers (older height w.pages.history) key (live_at_height w height key) (put_at height key)

  module _ (n : ℕ) where
    -- a hidden version's writer commits above the view, if ever
    pub hidden_above : (reader : TrxId) (view : ℕ) (row : Row) → IsHidden (core_part w n) reader view row → (cts : ℕ) → CommittedStamp o w row.writer cts → view < cts
    hidden_above reader view row h cts c =
        let same : c.0 ≡ h.writer = some_is c.0 h.writer (sym c.1 ∙ h.its_writer) in
        let forced : IsForced o w h.writer cts = subst (λ (x : TrxId). IsForced o w x cts) same c.2 in
        let is : trx h.load.of h.load.slot h.writer.version ≡ h.writer = id_of h.writer h.load.of h.load.slot h.is_load.of h.is_load.slot in
        let drew = subst (λ (x : TrxId). IsIn (draw_of x cts) (drawn_in w.trx x.node)) (sym is) (forced_drew o w facts h.writer cts forced) in
        elim h.hides [
          | inl active ↦
              let above = (facts.inv.trx.reliable n h.load h.is_load.loaded).active h.writer.version cts active.0 drew in
              let knew = active.1 in
              omega (arith, above, knew)
          | inr (inl committed) ↦
              let other = facts.of_notes.committed n h.load h.writer.version committed.0 h.is_load.loaded committed.1 in
              let once : committed.0 ≡ cts = forced_once o w facts h.writer committed.0 cts (subst (λ (x : TrxId). IsForced o w x committed.0) is other) forced in
              let above = committed.2 in
              omega (arith, once, above)
          | inr (inr free) ↦ absurd (facts.of_notes.freed n h.load h.writer.version h.is_load.loaded free cts drew)
        ]

    -- a version committed at or below a view is so in the world
    pub committed_below : (view : ℕ) (row : Row) → IsCommittedBelow (core_part w n) view row → (cts : ℕ) × CommittedStamp o w row.writer cts × (cts ≤ view)
    committed_below view row c =
        let is : trx c.load.of c.load.slot c.writer.version ≡ c.writer = id_of c.writer c.load.of c.load.slot c.is_load.of c.is_load.slot in
        let forced = facts.of_notes.committed n c.load c.writer.version c.cts c.is_load.loaded c.committed in
        (c.cts, (c.writer, c.its_writer, subst (λ (x : TrxId). IsForced o w x c.cts) is forced), c.within)

    module _ (reader : TrxId) (view : ℕ) (last : Row) (unwritten : last.writer ≡ None) where
      -- the row of a version that was taken, or the last one
      abbrev pub row_or : Option Version → Row
      row_or None = last
      row_or (Some v) = v.row

      pub record IsTaken (vs : List Version) (found : Row) : Type 0 where
        pub version : Option Version
        pub takes : Takes by_version (OthersCommitted o w facts reader) (Some reader) view vs version
        pub its : found ≡ row_or version

      shows : (v : Version) → is_some v.row.writer ≡ true → IsSeenBy (core_part w n) reader view v.row → ShowsTo by_version (OthersCommitted o w facts reader) (Some reader) view v
      shows v writer (inl own) = inl own
      shows v writer (inr (inl none)) = absurd (false≢true (ap (λ (x : Option TrxId). is_some x) (sym none) ∙ writer))
      shows v writer (inr (inr below)) = elim (decided (same_writer (by_version v) (Some reader))) [
        | inl same ↦ inl (same_is (by_version v) (Some reader) same)
        | inr other ↦ let c = committed_below view v.row below in inr (c.0, (c.1, other_is (by_version v) (Some reader) other), c.2)
      ]

      hides : (v : Version) → IsHidden (core_part w n) reader view v.row → ShowsTo by_version (OthersCommitted o w facts reader) (Some reader) view v → ⊥
      hides v h (inl own) = h.other (some_is h.writer reader (sym h.its_writer ∙ own))
      hides v h (inr c) = let above = hidden_above reader view v.row h c.0 c.1.0 in let within = c.2 in absurd (omega (arith, above, within))

      pub walked : (vs : List Version) → AllByRecursion (λ v. is_some v.row.writer ≡ true) vs → IsChain (undo_at (pages_now o w)) (rows_of_versions vs) last → (row : Row) → row ≡ row_over (rows_of_versions vs) last → (below : List Row) (found : Row) → LeadsToSeen (core_part w n) reader view row below found → IsTaken vs found
      walked [] writers chain row is [] found leads = record { version = None; takes = refl; its = leads.0 ∙ is }
      walked [] writers chain row is (next ∷ below) found leads = absurd (not_some leads.0.writer (sym unwritten ∙ ap (λ (r : Row). r.writer) (sym is) ∙ leads.0.its_writer))
      walked (v ∷ vs) writers chain row is [] found leads = record {
        version = Some v;
        takes = inl (shows v writers.0 (subst (IsSeenBy (core_part w n) reader view) is leads.1), refl);
        its = leads.0 ∙ is;
      }
      walked (v ∷ vs) writers chain row is (next ∷ below) found leads =
          let same : next ≡ row_over (rows_of_versions vs) last = links_one (undo_at (pages_now o w)) v.row next (row_over (rows_of_versions vs) last) (subst (λ (r : Row). LinksTo (undo_at (pages_now o w)) r next) is (next_links o w fit facts n row next leads.1)) chain.0 in
          let rest = walked vs writers.1 chain.1 next same below found leads.2 in
          record { version = rest.version; takes = inr (hides v (subst (IsHidden (core_part w n) reader view) is leads.0), rest.takes); its = rest.its }
