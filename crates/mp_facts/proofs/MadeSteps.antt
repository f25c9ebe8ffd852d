-- One mtr more: it is of a transaction that its node began, of one kind, and a commit record is its transaction's last.
use Rattle.std.proofs.Common.{◌≡◌, ℕ, ◌<◌, ◌≤◌, true, length, Option, Some, None, is_some, refl, sym, ap, subst, ◌∙◌, inl, inr, ⊎_elim, arith}
use mathlib.Core.Bool.{false≢true}
use Rattle.mp_machine.specs.Lists.{IsIn}
use Rattle.mp_model.specs.declared.ids.TrxId.{TrxId}
use Rattle.mp_cells.specs.declared.records.Mtr.{Mtr}
use Rattle.mp_histories.proofs.Lists.{none_some}
use Rattle.mp_core_trx.specs.declared.part.Draw.{Draw}
use Rattle.mp_core_trx.specs.Parts.{draw_of, HasBegun}
use Rattle.mp_core_trx.specs.World.{begun_in, drawn_in}
use Rattle.mp_core_pages.specs.Histories.{placed}
use Rattle.mp_core.specs.declared.opening.CoreOpening.{CoreOpening}
use Rattle.mp_core.specs.OwnMtrs.{row_restored_by, commit_by_mtr, TrxMtr, trx_mtrs}
use Rattle.mp_core.specs.World.{CoreWorld}
use Rattle.mp_core.specs.Invariant.{CoreInv}
use Rattle.mp_facts.proofs.MadeLists.{next_made, with_next, each_made, made_cases, as_placed}
use Rattle.mp_facts.proofs.MtrShapes.{put_of, restore_of, commit_of}
use Rattle.mp_facts.proofs.NewMtrs.{NewMtr}
use Rattle.mp_facts.proofs.Bridges.{stands_in}
use Rattle.mp_facts.proofs.Joint.{OfBegun, OneKind, OfKinds, CommitsDrew, CommitsLast}

tells : (x : Option Draw) → is_some x ≡ true → (d : Draw) × (x ≡ Some d)
tells None e = absurd (false≢true e)
tells (Some d) e = (d, refl)

module _ (o : CoreOpening) (w : CoreWorld) (n : ℕ) (m : Mtr) (new : NewMtr o w n m) where
  abbrev now : TrxMtr
  now = next_made (w.pages.made n) (length w.pages.history) m

  -- its transaction
  pub new_of : (id : TrxId) × (now.of ≡ Some id) × (id.node ≡ n) × HasBegun (begun_in w.trx n) id
  new_of = elim new [
    | inl p ↦ (p.id, put_of (w.pages.made n) m p.row p.kept p.id p.shape p.by, p.own, p.begun)
    | inr (inl p) ↦ (p.id, restore_of (w.pages.made n) m p.row p.id p.shape p.owner, p.own, p.begun)
    | inr (inr p) ↦ (p.id, commit_of (w.pages.made n) m (draw_of p.id p.cts) p.shape, p.own, p.begun)
  ]

  pub new_kind : OneKind now
  new_kind = elim new [
    | inl p ↦ inl (p.row, record { put = p.shape.put; restored = p.shape.restored; commit = p.shape.commit; writer = p.by ∙ sym (put_of (w.pages.made n) m p.row p.kept p.id p.shape p.by) })
    | inr (inl p) ↦ inr (inl (p.row, record { put = p.shape.put; restored = p.shape.restored; commit = p.shape.commit }))
    | inr (inr p) ↦ inr (inr (p.id, p.cts, record { put = p.shape.put; restored = p.shape.restored; commit = p.shape.commit; of = commit_of (w.pages.made n) m (draw_of p.id p.cts) p.shape }))
  ]

  pub of_begun_made : OfBegun (begun_in w.trx) w.pages.made → OfBegun (begun_in w.trx) (with_next w.pages.made n (length w.pages.history) m)
  of_begun_made old = each_made w.pages.made n (length w.pages.history) m (λ k t. (id : TrxId) × (t.of ≡ Some id) × (id.node ≡ k) × HasBegun (begun_in w.trx k) id) old new_of

  pub kinds_made : OfKinds w.pages.made → OfKinds (with_next w.pages.made n (length w.pages.history) m)
  kinds_made old = each_made w.pages.made n (length w.pages.history) m (λ k t. OneKind t) old new_kind

  -- a commit that it tells
  new_drew : (id : TrxId) (cts : ℕ) → commit_by_mtr m ≡ Some (draw_of id cts) → (now.of ≡ Some id) × IsIn (draw_of id cts) (drawn_in w.trx n)
  new_drew id cts told = elim new [
    | inl p ↦ absurd (none_some (draw_of id cts) (sym p.shape.commit ∙ told))
    | inr (inl p) ↦ absurd (none_some (draw_of id cts) (sym p.shape.commit ∙ told))
    | inr (inr p) ↦
        let same : draw_of p.id p.cts ≡ draw_of id cts = (let both : Some (draw_of p.id p.cts) ≡ Some (draw_of id cts) = sym p.shape.commit ∙ told in cc) in (
          commit_of (w.pages.made n) m (draw_of p.id p.cts) p.shape ∙ ap (λ (d : Draw). Some d.id) same,
          subst (λ (d : Draw). IsIn d (drawn_in w.trx n)) same p.drawn,
        )
  ]

  pub commits_made : CommitsDrew (drawn_in w.trx) w.pages.made → CommitsDrew (drawn_in w.trx) (with_next w.pages.made n (length w.pages.history) m)
  commits_made old k t id cts has told =
      each_made w.pages.made n (length w.pages.history) m (λ j x. commit_by_mtr x.mtr ≡ Some (draw_of id cts) → (x.of ≡ Some id) × IsIn (draw_of id cts) (drawn_in w.trx j))
      (λ j x there is. old j x id cts there is) (new_drew id cts) k t has told

  module _ (i : CoreInv o w) (commits : CommitsDrew (drawn_in w.trx) w.pages.made) (old : CommitsLast w.pages.made) where
    before : (t : TrxMtr) → IsIn t (trx_mtrs (w.pages.made n)) → t.at < length w.pages.history
    before t has = (stands_in o w i n t has).before

    -- who makes it has no commit record
    no_record : (c : TrxMtr) → IsIn c (trx_mtrs (w.pages.made n)) → is_some (commit_by_mtr c.mtr) ≡ true → now.of ≡ c.of → ⊥
    no_record c has told same =
        let d = tells (commit_by_mtr c.mtr) told in
        let drew = commits n c d.0.id d.0.cts has d.1 in
        let by : now.of ≡ Some d.0.id = same ∙ drew.0 in
        elim new [
          | inl p ↦ p.drew_nothing d.0.cts (subst (λ (x : TrxId). IsIn (draw_of x d.0.cts) (drawn_in w.trx n)) (one d.0.id p.id (sym by ∙ put_of (w.pages.made n) m p.row p.kept p.id p.shape p.by)) drew.1)
          | inr (inl p) ↦ p.drew_nothing d.0.cts (subst (λ (x : TrxId). IsIn (draw_of x d.0.cts) (drawn_in w.trx n)) (one d.0.id p.id (sym by ∙ restore_of (w.pages.made n) m p.row p.id p.shape p.owner)) drew.1)
          | inr (inr p) ↦ p.first (placed c.at c.mtr) d.0.cts (as_placed (w.pages.made n) c has)
              (d.1 ∙ ap (λ (x : TrxId). Some (draw_of x d.0.cts)) (one d.0.id p.id (sym by ∙ commit_of (w.pages.made n) m (draw_of p.id p.cts) p.shape)))
        ]
      where
        one : (a b : TrxId) → Some a ≡ Some b → a ≡ b
        one a b e = cc

    -- and before a commit record nothing was put back
    after_all : (t : TrxMtr) → IsIn t (trx_mtrs (w.pages.made n)) → is_some (commit_by_mtr m) ≡ true → t.of ≡ now.of → (t.at ≤ now.at) × (row_restored_by t.mtr ≡ None)
    after_all t has told same = elim new [
      | inl p ↦ absurd (let d = tells (commit_by_mtr m) told in none_some d.0 (sym p.shape.commit ∙ d.1))
      | inr (inl p) ↦ absurd (let d = tells (commit_by_mtr m) told in none_some d.0 (sym p.shape.commit ∙ d.1))
      | inr (inr p) ↦ (let less = before t has in omega (arith, less), p.whole t has (same ∙ commit_of (w.pages.made n) m (draw_of p.id p.cts) p.shape))
    ]

    itself : is_some (commit_by_mtr m) ≡ true → (now.at ≤ now.at) × (row_restored_by m ≡ None)
    itself told = elim new [
      | inl p ↦ absurd (let d = tells (commit_by_mtr m) told in none_some d.0 (sym p.shape.commit ∙ d.1))
      | inr (inl p) ↦ absurd (let d = tells (commit_by_mtr m) told in none_some d.0 (sym p.shape.commit ∙ d.1))
      | inr (inr p) ↦ (omega arith, p.shape.restored)
    ]

    abbrev After : TrxMtr → TrxMtr → Type 0
    After c t = (t.at ≤ c.at) × (row_restored_by t.mtr ≡ None)

    pub last_made : CommitsLast (with_next w.pages.made n (length w.pages.history) m)
    last_made k c t has told there same =
        ⊎_elim
        (λ (x : (k ≡ n) × (c ≡ now)).
        ⊎_elim
        (λ (y : (k ≡ n) × (t ≡ now)). subst (λ (z : TrxMtr). After z t) (sym x.1) (subst (λ (z : TrxMtr). After now z) (sym y.1) (itself (subst (λ (z : TrxMtr). is_some (commit_by_mtr z.mtr) ≡ true) x.1 told))))
        (λ (y : IsIn t (trx_mtrs (w.pages.made k))). subst (λ (z : TrxMtr). After z t) (sym x.1)
        (after_all t (subst (λ (j : ℕ). IsIn t (trx_mtrs (w.pages.made j))) x.0 y) (subst (λ (z : TrxMtr). is_some (commit_by_mtr z.mtr) ≡ true) x.1 told) (same ∙ ap (λ (z : TrxMtr). z.of) x.1)))
        (made_cases w.pages.made n (length w.pages.history) m k t there))
        (λ (x : IsIn c (trx_mtrs (w.pages.made k))).
        ⊎_elim
        (λ (y : (k ≡ n) × (t ≡ now)). absurd (no_record c (subst (λ (j : ℕ). IsIn c (trx_mtrs (w.pages.made j))) y.0 x) told (sym (ap (λ (z : TrxMtr). z.of) y.1) ∙ same)))
        (λ (y : IsIn t (trx_mtrs (w.pages.made k))). old k c t x told y same)
        (made_cases w.pages.made n (length w.pages.history) m k t there))
        (made_cases w.pages.made n (length w.pages.history) m k c has)
