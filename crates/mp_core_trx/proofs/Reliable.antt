-- What a node loaded of a slot stays reliable, and its word is what the slot shows.
use Rattle.std.proofs.Common.{◌≡◌, ℕ, ◌+◌, ◌^◌, ◌<◌, ◌⊎◌, List, refl, sym, ap, ◌∙◌, subst, inl, inr, ⊎_elim, arith}
use Rattle.mp_model.specs.declared.ids.TrxId.{TrxId}
use Rattle.mp_core_trx.specs.declared.opening.TrxOpening.{TrxOpening}
use Rattle.mp_core_trx.specs.declared.slot.SlotTag.TheVariants.{Active}
use Rattle.mp_core_trx.specs.declared.slot.Shown.{Shown}
use Rattle.mp_core_trx.specs.declared.part.Begun.{Begun}
use Rattle.mp_core_trx.specs.declared.part.Draw.{Draw}
use Rattle.mp_core_trx.specs.declared.part.SlotLoad.{SlotLoad}
use Rattle.mp_machine.specs.Lists.{IsIn, pushed}
use Rattle.mp_core_trx.specs.Words.{shows, word_showing, shown_of}
use Rattle.mp_core_trx.specs.Parts.{trx, begun_of, draw_of, unused, HasBegun}
use Rattle.mp_core_trx.specs.Events.{load_of}
use Rattle.mp_core_trx.specs.World.{TrxNumbersFit}
use Rattle.mp_core_trx.specs.Invariant.{Ids, Sight, SlotIsRight, IsReliable, Loads}
use Rattle.mp_machine.proofs.Lists.{in_pushed, in_more, each_pushed}
use Rattle.mp_core_trx.proofs.Words.{shown_again}
use Rattle.mp_core_trx.proofs.Ids.{begun_more}
use Rattle.mp_core_trx.proofs.Sight.{greatest_drawn}
use Rattle.mp_core_trx.proofs.SlotWords.{two_tags}

-- the version that a slot shows fits its bits
pub version_fits : (o : TrxOpening) → TrxNumbersFit o → (begun : ℕ → List Begun) → Ids o begun → (drew : List Draw) (n slot : ℕ) (x : Shown) → SlotIsRight n slot (begun n) drew x → x.version < 2 ^ 24
version_fits o fair begun i drew n slot x r =
    let fits = fair.versions_fit in
    ⊎_elim
    (λ (u : x ≡ unused). let zero : x.version ≡ 0 = ap (λ (y : Shown). y.version) u in omega arith)
    (λ (h : HasBegun (begun n) (trx n slot x.version)). let range = (i.versions n (begun_of (trx n slot x.version) h.0) h.1).1 in omega arith)
    r.known

-- what a slot shows now may be relied on
pub reliable_now : (n slot after : ℕ) (begun : List Begun) (drew : List Draw) (x : Shown) → x.version < 2 ^ 24 → SlotIsRight n slot begun drew x → IsReliable begun drew (load_of n slot (word_showing x) after)
reliable_now n slot after begun drew x fits r =
    let again = shown_again x fits in
    record {
      active = λ version cts is drawn.
          let shown : x ≡ shows Active version 0 = sym again ∙ is in
          ⊎_elim
          (λ (u : x ≡ unused). two_tags unused (shows Active version 0) (sym u ∙ shown) (λ e. absurd (omega arith)))
          (λ (h : HasBegun begun (trx n slot x.version)).
          let has : HasBegun begun (trx n slot version) = subst (λ (y : Shown). HasBegun begun (trx n slot y.version)) shown h in
          absurd (r.active (trx n slot version) has refl shown cts drawn))
          r.known;
      committed = λ version cts is. r.committed version cts (sym again ∙ is);
      known = subst (λ (y : Shown). (y ≡ unused) ⊎ HasBegun begun (trx n slot y.version)) (sym again) r.known;
    }

module _ (begun : ℕ → List Begun) (drew : ℕ → List Draw) (loaded : ℕ → List SlotLoad) (all : Loads begun drew loaded) where
  pub loads_load : (n : ℕ) (l : SlotLoad) → IsReliable (begun l.of) (drew l.of) l → Loads begun drew (pushed loaded n l)
  loads_load n l new = each_pushed (λ _ x. IsReliable (begun x.of) (drew x.of) x) loaded n l all new

  pub loads_begin : (n : ℕ) (b : Begun) → Loads (pushed begun n b) drew loaded
  loads_begin n b k l h =
      let was = all k l h in
      record {
        active = was.active;
        committed = was.committed;
        known = ⊎_elim (λ u. inl u) (λ (has : HasBegun (begun l.of) (trx l.of l.slot (shown_of l.word).version)). inr (begun_more begun n b l.of (trx l.of l.slot (shown_of l.word).version) has)) was.known;
      }

  -- the next timestamp is above all that anybody knew as it loaded
  pub loads_draw : (base tso : ℕ) (seen : ℕ → List ℕ) (s : Sight base tso begun seen loaded) (n : ℕ) (id : TrxId) → Loads begun (pushed drew n (draw_of id (tso + 1))) loaded
  loads_draw base tso seen s n id k l h =
      let was = all k l h in
      let d = draw_of id (tso + 1) in
      record {
        active = λ version cts is drawn.
            ⊎_elim
            (λ (new : (l.of ≡ n) × (draw_of (trx l.of l.slot version) cts ≡ d)).
            let next : cts ≡ tso + 1 = ap (λ (x : Draw). x.cts) new.1 in
            let knew = (s.loads k l h).1 in
            let most = greatest_drawn base tso begun seen loaded s k in
            omega arith)
            (λ (old : IsIn (draw_of (trx l.of l.slot version) cts) (drew l.of)). was.active version cts is old)
            (in_pushed drew n d l.of (draw_of (trx l.of l.slot version) cts) drawn);
        committed = λ version cts is. in_more drew n d l.of (draw_of (trx l.of l.slot version) cts) (was.committed version cts is);
        known = was.known;
      }
