-- What a part knows, it knows after any later step, and what is new lies above it.
use Rattle.std.proofs.Common.{◌≡◌, ℕ, ◌<◌, ◌≤◌, List, [], ◌∷◌, ◌++◌, refl, sym, subst, inl, inr, ⊎_elim, arith}
use Rattle.mp_machine.specs.Lists.{IsIn}
use Rattle.mp_machine.proofs.Lists.{in_after}
use Rattle.mp_cells.specs.declared.records.Mtr.{Mtr}
use Rattle.mp_cells.specs.PageView.{PageView}
use Rattle.mp_core_trx.specs.declared.part.Begun.{Begun}
use Rattle.mp_core_trx.specs.declared.part.Draw.{Draw}
use Rattle.mp_core_trx.specs.declared.part.SlotLoad.{SlotLoad}
use Rattle.mp_core_trx.proofs.Growth.{extends_refl, extends_trans}
use Rattle.mp_core_pages.specs.declared.part.Placed.{Placed}
use Rattle.mp_core_pages.specs.declared.part.GivenPage.{GivenPage}
use Rattle.mp_core_pages.proofs.Growth.{pages_extends_refl, pages_extends_trans}
use Rattle.mp_core.specs.declared.part.CorePart.{CorePart}
use Rattle.mp_core.specs.OwnMtrs.{TrxMtr, trx_mtrs}
use Rattle.mp_core.specs.CoreExtends.{IsMadeLater, CoreExtends}
use Rattle.mp_core.proofs.Downs.{downs_extend_refl, downs_extend_trans}

-- an mtr with its transaction stays, whatever is made above it
pub trx_mtr_grown : (made more : List (Placed Mtr)) (m : TrxMtr) → IsIn m (trx_mtrs made) → IsIn m (trx_mtrs (more ++ made))
trx_mtr_grown made [] m h = h
trx_mtr_grown made (x ∷ more) m h = inr (trx_mtr_grown made more m h)

-- it was made
pub placed_of : (made : List (Placed Mtr)) (m : TrxMtr) → IsIn m (trx_mtrs made) → (x : Placed Mtr) × IsIn x made × (x.at ≡ m.at) × (x.mtr ≡ m.mtr)
placed_of [] m h = absurd h
placed_of (x ∷ made) m (inl e) = (x, inl refl, subst (λ (k : TrxMtr). x.at ≡ k.at) (sym e) refl, subst (λ (k : TrxMtr). x.mtr ≡ k.mtr) (sym e) refl)
placed_of (x ∷ made) m (inr h) = let below = placed_of made m h in (below.0, inr below.1, below.2, below.3)

module _ (p q : CorePart) (e : CoreExtends p q) where
  pub made_in : (m : TrxMtr) → IsIn m (trx_mtrs p.pages.made) → IsIn m (trx_mtrs q.pages.made)
  made_in m h = subst (λ l. IsIn m (trx_mtrs l)) (sym e.pages.more_made.1) (trx_mtr_grown p.pages.made e.pages.more_made.0 m h)

  pub placed_in : (x : Placed Mtr) → IsIn x p.pages.made → IsIn x q.pages.made
  placed_in x h = in_after p.pages.made q.pages.made x e.pages.more_made h

  pub given_in : (g : GivenPage PageView) → IsIn g p.pages.given → IsIn g q.pages.given
  given_in g h = in_after p.pages.given q.pages.given g e.pages.more_given h

  pub begun_in : (b : Begun) → IsIn b p.trx.begun → IsIn b q.trx.begun
  begun_in b h = in_after p.trx.begun q.trx.begun b e.trx.more_begun h

  pub drawn_in : (d : Draw) → IsIn d p.trx.drew → IsIn d q.trx.drew
  drawn_in d h = in_after p.trx.drew q.trx.drew d e.trx.more_drawn h

  pub loaded_in : (load : SlotLoad) → IsIn load p.trx.loaded → IsIn load q.trx.loaded
  loaded_in load h = in_after p.trx.loaded q.trx.loaded load e.trx.more_loaded h

  -- what is made later than all of the later part is so of the earlier one
  pub later_before : (at : ℕ) → IsMadeLater q at → IsMadeLater p at
  later_before at h = record {
    above_made = λ x there. h.above_made x (placed_in x there);
    above_given = λ g there. h.above_given g (given_in g there);
  }

  -- an mtr below the height of a page that was given was made then
  pub made_below : (m : TrxMtr) (g : GivenPage PageView) → IsIn g p.pages.given → m.at < g.height → IsIn m (trx_mtrs q.pages.made) → IsIn m (trx_mtrs p.pages.made)
  made_below m g given below there =
      ⊎_elim (λ old. old) (λ later. let above : g.height ≤ m.at = later.above_given g given in absurd (omega (arith, above, below))) (e.made_later m there)

  -- and so was one that isn't above one that was made
  pub made_upto : (m k : TrxMtr) → IsIn k (trx_mtrs p.pages.made) → m.at ≤ k.at → IsIn m (trx_mtrs q.pages.made) → IsIn m (trx_mtrs p.pages.made)
  made_upto m k made upto there =
      let x = placed_of p.pages.made k made in
      ⊎_elim (λ old. old) (λ later. let above : (x.0).at < m.at = later.above_made x.0 x.1 in let at : (x.0).at ≡ k.at = x.2 in absurd (omega (arith, above, at, upto))) (e.made_later m there)

pub core_extends_refl : (p : CorePart) → CoreExtends p p
core_extends_refl p = record {
  trx = extends_refl p.trx;
  pages = pages_extends_refl p.pages;
  durable = omega arith;
  made_later = λ x there. inl there;
  given_later = λ g there. inl there;
  downs = downs_extend_refl p.downs;
}

pub core_extends_trans : (p q r : CorePart) → CoreExtends p q → CoreExtends q r → CoreExtends p r
core_extends_trans p q r a b = record {
  trx = extends_trans p.trx q.trx r.trx a.trx b.trx;
  pages = pages_extends_trans p.pages q.pages r.pages a.pages b.pages;
  durable = let one = a.durable in let two = b.durable in omega (arith, one, two);
  made_later = λ x there. ⊎_elim (a.made_later x) (λ later. inr (later_before p q a x.at later)) (b.made_later x there);
  given_later = λ g there. ⊎_elim (a.given_later g) (λ later. inr (λ x made. later x (placed_in p q a x made))) (b.given_later g there);
  downs = downs_extend_trans p.downs q.downs r.downs a.downs b.downs;
}
