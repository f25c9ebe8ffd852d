-- Whoever is down is so with the number of one that went down by itself: each step keeps it.
use Rattle.std.proofs.Common.{◌≡◌, ℕ, ◌≤◌, ◌⊎◌, List, ◌∷◌, refl, sym, ap, ◌∙◌, subst, inl, inr, ⊎_elim, arith}
use mathlib.Core.Logic.{dite}
use native.Mathlib.Decide.{ℕ_discrete}
use Rattle.mp_machine.specs.Lists.{IsIn}
use Rattle.mp_machine.proofs.Lists.{updated_here, updated_else, grows_refl, grows_one, grows_trans}
use Rattle.mp_core_trx.specs.declared.opening.TrxOpening.{TrxOpening}
use Rattle.mp_core_trx.specs.Events.{IsNode}
use Rattle.mp_core_pages.proofs.Choices.{if_equal, if_differs}
use Rattle.mp_core.specs.declared.part.DownPart.{DownPart}
use Rattle.mp_core.specs.declared.part.DownLoad.{DownLoad}
use Rattle.mp_core.specs.declared.event.DownEvent.{DownEvent}
use Rattle.mp_core.specs.declared.event.DownEvent.TheVariants.{StoreDown, LoadDown}
use Rattle.mp_core.specs.Downs.{down_load, first_down_part, down_node, down_place, goes_down_by, with_down_load, down_made, MayGoDownBy, DownAsks, downs_after, DownsExtend, IsDownBy, DownsInv}
use Rattle.mp_core.specs.CoreLaws.{own_after_load}

-- before any step nobody is down
pub downs_inv_start : (o : TrxOpening) → DownsInv o (λ _. first_down_part)
downs_inv_start o = record { held = λ n down. absurd (down refl); loaded = λ n of by is. absurd is }

-- a number that a node has loaded after a load is that which it found, or it had loaded it before
in_loads : (of found : ℕ) (d : DownPart) (x : DownLoad) → IsIn x (with_down_load of found d).loaded → ((¬ (found ≡ 0)) × (x ≡ down_load of found)) ⊎ IsIn x d.loaded
in_loads of found d x is =
    let after = record d { loaded = down_load of found ∷ d.loaded } in
    dite (ℕ_discrete found 0)
    (λ none. inr (subst (λ (e : DownPart). IsIn x e.loaded) (if_equal found 0 d after none) is))
    (λ some.
    let new : IsIn x (down_load of found ∷ d.loaded) = subst (λ (e : DownPart). IsIn x e.loaded) (if_differs found 0 d after some) is in
    ⊎_elim (λ same. inl (some, same)) (λ old. inr old) new)

module _ (o : TrxOpening) (parts : ℕ → DownPart) (i : DownsInv o parts) where
  module _ (p by : ℕ) (node : IsNode o p) (up : (parts p).own ≡ 0) (told : MayGoDownBy p (parts p) by) where
    abbrev stored : ℕ → DownPart
    stored = downs_after parts (StoreDown p by)

    -- who was down is another, and stays so
    stays_down : (n : ℕ) → ¬ (n ≡ 0) → IsDownBy o parts n → IsDownBy o stored n
    stays_down n some is = (is.0, ap (λ (d : DownPart). d.own) (updated_else parts p (goes_down_by by (parts p)) n (λ same. some (sym is.1 ∙ ap (λ k. (parts k).own) same ∙ up))) ∙ is.1)

    stored_here : (stored p).own ≡ by
    stored_here = ap (λ (d : DownPart). d.own) (updated_here parts p (goes_down_by by (parts p)))

    is_down_by : IsDownBy o stored by
    is_down_by =
        ⊎_elim
        (λ (same : by ≡ p). (subst (λ n. IsNode o n) (sym same) node, ap (λ n. (stored n).own) same ∙ stored_here))
        (λ (loaded : (of : ℕ) × IsIn (down_load of by) (parts p).loaded). let was = i.loaded p loaded.0 by loaded.1 in stays_down by was.0 was.1)
        told

    loads_same : (n : ℕ) → (stored n).loaded ≡ (parts n).loaded
    loads_same n =
        dite (ℕ_discrete n p)
        (λ same. ap (λ k. (stored k).loaded) same ∙ ap (λ (d : DownPart). d.loaded) (updated_here parts p (goes_down_by by (parts p))) ∙ ap (λ k. (parts k).loaded) (sym same))
        (λ other. ap (λ (d : DownPart). d.loaded) (updated_else parts p (goes_down_by by (parts p)) n other))

    held_stored : (n : ℕ) → ¬ ((stored n).own ≡ 0) → IsDownBy o stored (stored n).own
    held_stored n down =
        dite (ℕ_discrete n p)
        (λ same. subst (λ k. IsDownBy o stored k) (sym (ap (λ k. (stored k).own) same ∙ stored_here)) is_down_by)
        (λ other.
        let was : (stored n).own ≡ (parts n).own = ap (λ (d : DownPart). d.own) (updated_else parts p (goes_down_by by (parts p)) n other) in
        let some : ¬ ((parts n).own ≡ 0) = λ none. down (was ∙ none) in
        subst (λ k. IsDownBy o stored k) (sym was) (stays_down (parts n).own some (i.held n some)))

    pub keeps_stored : DownsInv o stored
    keeps_stored = record {
      held = held_stored;
      loaded = λ n of number is. let was = i.loaded n of number (subst (λ (l : List DownLoad). IsIn (down_load of number) l) (loads_same n) is) in (was.0, stays_down number was.0 was.1);
    }

  module _ (p of : ℕ) where
    abbrev looked : ℕ → DownPart
    looked = downs_after parts (LoadDown p of)

    still_down : (n : ℕ) → IsDownBy o parts n → IsDownBy o looked n
    still_down n is = (is.0, own_after_load parts p of n ∙ is.1)

    held_looked : (n : ℕ) → ¬ ((looked n).own ≡ 0) → IsDownBy o looked (looked n).own
    held_looked n down = let was = own_after_load parts p of n in subst (λ k. IsDownBy o looked k) (sym was) (still_down (parts n).own (i.held n (λ none. down (was ∙ none))))

    abbrev IsTold : ℕ → Type 0
    IsTold by = (¬ (by ≡ 0)) × IsDownBy o looked by

    told_before : (n whose by : ℕ) → IsIn (down_load whose by) (parts n).loaded → IsTold by
    told_before n whose by old = let was = i.loaded n whose by old in (was.0, still_down by was.1)

    loaded_looked : (n whose by : ℕ) → IsIn (down_load whose by) (looked n).loaded → IsTold by
    loaded_looked n whose by is =
        dite (ℕ_discrete n p)
        (λ same.
        let now : looked n ≡ with_down_load of (parts of).own (parts p) = ap looked same ∙ updated_here parts p (with_down_load of (parts of).own (parts p)) in
        ⊎_elim
        (λ (new : (¬ ((parts of).own ≡ 0)) × (down_load whose by ≡ down_load of (parts of).own)).
        let number : by ≡ (parts of).own = ap (λ (x : DownLoad). x.by) new.1 in
        subst IsTold (sym number) (new.0, still_down (parts of).own (i.held of new.0)))
        (λ (old : IsIn (down_load whose by) (parts p).loaded). told_before p whose by old)
        (in_loads of (parts of).own (parts p) (down_load whose by) (subst (λ (d : DownPart). IsIn (down_load whose by) d.loaded) now is)))
        (λ other. told_before n whose by (subst (λ (d : DownPart). IsIn (down_load whose by) d.loaded) (updated_else parts p (with_down_load of (parts of).own (parts p)) n other) is))

    pub keeps_looked : DownsInv o looked
    keeps_looked = record { held = held_looked; loaded = loaded_looked }

  pub keeps_downs : (e : DownEvent) → IsNode o (down_node e) → DownAsks o (parts (down_node e)) e → DownsInv o (downs_after parts e)
  keeps_downs (StoreDown p by) node may = keeps_stored p by node may.0 may.1
  keeps_downs (LoadDown p of) node may = keeps_looked p of

-- the word of a step is that of one of eight primaries
pub down_placed : (o : TrxOpening) (d : DownPart) (e : DownEvent) → o.primaries ≤ 8 → IsNode o (down_node e) → DownAsks o d e → (1 ≤ down_place e) × (down_place e ≤ 8)
down_placed o d (StoreDown p by) few node may = let low = node.0 in let high = node.1 in (low, omega (arith, few, high))
down_placed o d (LoadDown p of) few node may = may

pub downs_extend_refl : (d : DownPart) → DownsExtend d d
downs_extend_refl d = record { own = inr refl; loaded = grows_refl d.loaded }

pub downs_extend_trans : (a b c : DownPart) → DownsExtend a b → DownsExtend b c → DownsExtend a c
downs_extend_trans a b c first then = record {
  own = ⊎_elim (λ up. inl up) (λ same. ⊎_elim (λ up. inl (sym same ∙ up)) (λ more. inr (more ∙ same)) then.own) first.own;
  loaded = grows_trans a.loaded b.loaded c.loaded first.loaded then.loaded;
}

-- what a step makes of a part extends it
pub down_made_extends : (o : TrxOpening) (e : DownEvent) (found : ℕ) (d : DownPart) → DownAsks o d e → DownsExtend d (down_made e found d)
down_made_extends o (StoreDown p by) found d may = record { own = inl may.0; loaded = grows_refl d.loaded }
down_made_extends o (LoadDown p of) found d may =
    let after = record d { loaded = down_load of found ∷ d.loaded } in
    dite (ℕ_discrete found 0)
    (λ none. subst (λ e. DownsExtend d e) (sym (if_equal found 0 d after none)) (downs_extend_refl d))
    (λ some. subst (λ e. DownsExtend d e) (sym (if_differs found 0 d after some)) record { own = inr refl; loaded = grows_one d.loaded (down_load of found) })
