-- Timestamps of one run: who committed drew, each once; and as long as a reader hasn't committed, no version comes over one
-- of its own but its own, so that the commits of the others alone say which may cover which.
use Rattle.std.proofs.Common.{◌≡◌, ◌≢◌, ℕ, ◌<◌, ◌≤◌, true, false, List, [], ◌∷◌, ◌++◌, length, Option, Some, is_some, refl, sym, ap, subst, ◌∙◌, inl, inr, arith}
use mathlib.Core.Bool.{false≢true}
use Rattle.mp_machine.specs.Lists.{IsIn}
use Rattle.mp_machine.proofs.Lists.{same_item}
use Rattle.mp_model.specs.declared.ids.TrxId.{TrxId}
use Rattle.mp_script.proofs.Options.{some_is}
use Rattle.mp_cells.specs.declared.records.Mtr.{Mtr}
use Rattle.mp_core_trx.specs.declared.part.Draw.{Draw}
use Rattle.mp_core_trx.specs.Parts.{draw_of}
use Rattle.mp_core_trx.specs.World.{drawn_in}
use Rattle.mp_histories.specs.KeyOps.{same_writer, FirstIs, live}
use Rattle.mp_histories.specs.Commits.{Stamps, MayCover, AreStamps, PutsFit}
use Rattle.mp_histories.specs.Histories.{History, Version, by_version, ops_on, live_on}
use Rattle.mp_histories.proofs.Writers.{decided, same_is, same_from}
use Rattle.mp_histories.proofs.Cutting.{fits_earlier}
use Rattle.mp_core.specs.declared.opening.CoreOpening.{CoreOpening}
use Rattle.mp_core.specs.World.{CoreWorld}
use Rattle.mp_core.specs.OwnMtrs.{row_put_by, commit_by_mtr, TrxMtr}
use Rattle.mp_facts.specs.Facts.{opening_pages, live_at_height, made_in, IsForced, DrewStamp, CommittedStamp, Facts}
use Rattle.mp_verdict.proofs.PlacesOf.{DoesPut, does, one_newer, well_here, older_with}

module _ (o : CoreOpening) (w : CoreWorld) (facts : Facts o w) where
  -- whose commit is durable drew its timestamp
  pub forced_drew : (id : TrxId) (cts : ℕ) → IsForced o w id cts → IsIn (draw_of id cts) (drawn_in w.trx id.node)
  forced_drew id cts f = (facts.of_versions.commits id.node f.recorded.made id cts f.recorded.was_made f.recorded.commit).1

  -- a transaction draws once
  pub drew_once : (id : TrxId) (a b : ℕ) → IsIn (draw_of id a) (drawn_in w.trx id.node) → IsIn (draw_of id b) (drawn_in w.trx id.node) → a ≡ b
  drew_once id a b here there = ap (λ (d : Draw). d.cts) (same_item (λ (d : Draw). d.id.version) (drawn_in w.trx id.node) (facts.inv.trx.drawers.once id.node) (draw_of id a) (draw_of id b) here there refl)

  pub forced_once : (id : TrxId) (a b : ℕ) → IsForced o w id a → IsForced o w id b → a ≡ b
  forced_once id a b f g = drew_once id a b (forced_drew id a f) (forced_drew id b g)

  -- what commits is no put
  pub commit_no_put : (n : ℕ) (m : TrxMtr) → IsIn m (made_in w n) → is_some (commit_by_mtr m.mtr) ≡ true → is_some (row_put_by m.mtr) ≡ false
  commit_no_put n m there commits = elim (facts.of_history.kinds n m there) [
    | inl p ↦ absurd (false≢true (ap (λ (x : Option Draw). is_some x) (sym p.1.commit) ∙ commits))
    | inr (inl b) ↦ ap (λ (x : _). is_some x) b.1.put
    | inr (inr c) ↦ ap (λ (x : _). is_some x) c.2.put
  ]

  module _ (reader : TrxId) where
    -- the durable commits of the others
    abbrev pub OthersCommitted : Stamps
    OthersCommitted writer cts = CommittedStamp o w writer cts × (writer ≢ Some reader)

    pub others_stamps : AreStamps OthersCommitted (DrewStamp w)
    others_stamps = record {
      drawn = λ writer cts c. (c.0.0, c.0.1, forced_drew c.0.0 cts c.0.2);
      once = λ writer a b h k.
          let same : h.0 ≡ k.0 = some_is h.0 k.0 (sym h.1 ∙ k.1) in
          drew_once k.0 a b (subst (λ (x : TrxId). IsIn (draw_of x a) (drawn_in w.trx x.node)) same h.2) k.2;
    }

    pub reader_not : (cts : ℕ) → OthersCommitted (Some reader) cts → ⊥
    reader_not cts c = c.1 refl

    -- below a height the reader only put
    module _ (height : ℕ) (only : (m : TrxMtr) → IsIn m (made_in w reader.node) → m.of ≡ Some reader → m.at < height → is_some (row_put_by m.mtr) ≡ true) where
      module _ (key : ℕ) (newer : History) (mtr : Mtr) (made : History) (split : w.pages.history ≡ newer ++ mtr ∷ made) (le : length (mtr ∷ made) ≤ height) (p : DoesPut key mtr made) where
        abbrev version : Version
        version = record { at = length made; row = p.row }

        -- a put over another's version isn't over the reader's
        not_reader : (under : Version) (rest : List Version) → live_on key made ≡ under ∷ rest → by_version version ≢ by_version under → by_version under ≢ Some reader
        not_reader under rest is apart its =
            let stands : live_at_height w (length (mtr ∷ made)) key ≡ [] ++ version ∷ under ∷ rest =
            ap (live_on key) (older_with o w facts newer mtr made split) ∙ ap (live by_version) p.ops ∙ ap (λ (vs : List Version). version ∷ vs) is in
            let c = facts.of_versions.covers_earlier key version under [] rest (length (mtr ∷ made)) stands apart in
            let same : c.0 ≡ reader = some_is c.0 reader (sym c.2 ∙ its) in
            let there : IsIn c.1 (made_in w reader.node) = subst (λ (x : TrxId). IsIn c.1 (made_in w x.node)) same c.3 in
            let of : (c.1).of ≡ Some reader = c.5 ∙ ap (λ (x : TrxId). Some x) same in
            let at : (c.1).at < length made = c.6 in
            false≢true (sym (commit_no_put reader.node c.1 there c.4) ∙ only c.1 there of (omega (arith, at, le)))

        covers : (vs : List Version) → live_on key made ≡ vs → FirstIs (λ top. MayCover (CommittedStamp o w) (DrewStamp w) (by_version top) (by_version version)) vs → FirstIs (λ top. MayCover OthersCommitted (DrewStamp w) (by_version top) (by_version version)) vs
        covers [] is first = tt
        covers (under ∷ rest) is first = elim first [
          | inl same ↦ inl same
          | inr below ↦ elim (decided (same_writer (by_version under) (by_version version))) [
            | inl same ↦ inl (same_is (by_version under) (by_version version) same)
            | inr apart ↦
                let other : by_version version ≢ by_version under = λ (e : by_version version ≡ by_version under). false≢true (sym apart ∙ same_from (by_version under) (by_version version) (sym e)) in
                inr (record { cts = below.cts; commit = (below.commit, not_reader under rest is other); lower = below.lower })
          ]
        ]

      others_next : (key : ℕ) (newer : History) (mtr : Mtr) (made : History) → w.pages.history ≡ newer ++ mtr ∷ made → length (mtr ∷ made) ≤ height
          → PutsFit by_version OthersCommitted (DrewStamp w) (ops_on key made) → PutsFit by_version OthersCommitted (DrewStamp w) (ops_on key (mtr ∷ made))
      others_next key newer mtr made split le rest = elim (does (opening_pages o) made mtr key (well_here o w facts newer mtr made split)) [
        | inl p ↦
            let all = fits_earlier (CommittedStamp o w) (DrewStamp w) key newer (mtr ∷ made) (subst (λ (h : History). PutsFit by_version (CommittedStamp o w) (DrewStamp w) (ops_on key h)) split (facts.of_versions.fits key)) in
            let here = subst (PutsFit by_version (CommittedStamp o w) (DrewStamp w)) p.ops all in
            subst (PutsFit by_version OthersCommitted (DrewStamp w)) (sym p.ops) (covers key newer mtr made split le p (live_on key made) refl here.0, rest)
        | inr (inl b) ↦ subst (PutsFit by_version OthersCommitted (DrewStamp w)) (sym b.ops) rest
        | inr (inr n) ↦ subst (PutsFit by_version OthersCommitted (DrewStamp w)) (sym n.ops) rest
      ]

      pub others_fit : (key : ℕ) (newer made : History) → w.pages.history ≡ newer ++ made → length made ≤ height → PutsFit by_version OthersCommitted (DrewStamp w) (ops_on key made)
      others_fit key newer [] split le = tt
      others_fit key newer (mtr ∷ made) split le = others_next key newer mtr made split le (others_fit key (newer ++ mtr ∷ []) made (split ∙ one_newer newer mtr made) (omega (arith, le)))
