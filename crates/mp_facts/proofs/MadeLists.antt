-- What a node made, each mtr with its transaction: one more, and what stands among them.
use Rattle.std.proofs.Common.{◌≡◌, ℕ, ◌⊎◌, List, [], ◌∷◌, refl, sym, ap, subst, ◌∙◌, inl, inr, ⊎_elim}
use mathlib.Core.Logic.{dite}
use native.Mathlib.Decide.{ℕ_discrete}
use Rattle.mp_machine.specs.Lists.{IsIn, pushed}
use Rattle.mp_machine.proofs.Lists.{pushed_here, pushed_else}
use Rattle.mp_cells.specs.declared.records.Mtr.{Mtr}
use Rattle.mp_core_pages.specs.declared.part.Placed.{Placed}
use Rattle.mp_core_pages.specs.Histories.{placed}
use Rattle.mp_core.specs.OwnMtrs.{trx_of_mtr, TrxMtr, trx_mtrs}

-- the next mtr of a node that made these
abbrev pub next_made : List (Placed Mtr) → ℕ → Mtr → TrxMtr
next_made made at m = record { at = at; of = trx_of_mtr made m; mtr = m }

module _ (made : ℕ → List (Placed Mtr)) (n at : ℕ) (m : Mtr) where
  abbrev pub with_next : ℕ → List (Placed Mtr)
  with_next = pushed made n (placed at m)

  pub made_cases : (k : ℕ) (t : TrxMtr) → IsIn t (trx_mtrs (with_next k)) → ((k ≡ n) × (t ≡ next_made (made n) at m)) ⊎ IsIn t (trx_mtrs (made k))
  made_cases k t has =
      dite (ℕ_discrete k n)
      (λ same.
      let there : IsIn t (next_made (made n) at m ∷ trx_mtrs (made n)) = subst (λ (l : List (Placed Mtr)). IsIn t (trx_mtrs l)) (ap with_next same ∙ pushed_here made n (placed at m)) has in
      ⊎_elim (λ (e : t ≡ next_made (made n) at m). inl (same, e)) (λ (old : IsIn t (trx_mtrs (made n))). inr (subst (λ j. IsIn t (trx_mtrs (made j))) (sym same) old)) there)
      (λ other. inr (subst (λ (l : List (Placed Mtr)). IsIn t (trx_mtrs l)) (pushed_else made n (placed at m) k other) has))

  -- what holds of the new one and held of the others holds of each
  pub each_made : (P : ℕ → TrxMtr → Type 0) → ((k : ℕ) (t : TrxMtr) → IsIn t (trx_mtrs (made k)) → P k t) → P n (next_made (made n) at m) → (k : ℕ) (t : TrxMtr) → IsIn t (trx_mtrs (with_next k)) → P k t
  each_made P old new k t has =
      ⊎_elim
      (λ (e : (k ≡ n) × (t ≡ next_made (made n) at m)). subst (λ j. P j t) (sym e.0) (subst (λ z. P n z) (sym e.1) new))
      (λ (there : IsIn t (trx_mtrs (made k))). old k t there)
      (made_cases k t has)

  pub made_more : (k : ℕ) (t : TrxMtr) → IsIn t (trx_mtrs (made k)) → IsIn t (trx_mtrs (with_next k))
  made_more k t has =
      dite (ℕ_discrete k n)
      (λ same. subst (λ (l : List (Placed Mtr)). IsIn t (trx_mtrs l)) (sym (ap with_next same ∙ pushed_here made n (placed at m))) (inr (subst (λ j. IsIn t (trx_mtrs (made j))) same has)))
      (λ other. subst (λ (l : List (Placed Mtr)). IsIn t (trx_mtrs l)) (sym (pushed_else made n (placed at m) k other)) has)

-- each stands among the node's mtrs, and each of these has its transaction
pub as_placed : (made : List (Placed Mtr)) (t : TrxMtr) → IsIn t (trx_mtrs made) → IsIn (placed t.at t.mtr) made
as_placed [] t has = absurd has
as_placed (x ∷ made) t (inl is) = inl (ap (λ (y : TrxMtr). placed y.at y.mtr) is)
as_placed (x ∷ made) t (inr has) = inr (as_placed made t has)

pub as_made : (made : List (Placed Mtr)) (x : Placed Mtr) → IsIn x made → (t : TrxMtr) × IsIn t (trx_mtrs made) × (t.at ≡ x.at) × (t.mtr ≡ x.mtr)
as_made [] x has = absurd has
as_made (y ∷ made) x (inl is) = (next_made made y.at y.mtr, inl refl, ap (λ (z : Placed Mtr). z.at) (sym is), ap (λ (z : Placed Mtr). z.mtr) (sym is))
as_made (y ∷ made) x (inr has) = let rest = as_made made x has in (rest.0, inr rest.1, rest.2, rest.3)
