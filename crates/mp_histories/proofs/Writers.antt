-- Tests of writers decide whether they are equal.
use Rattle.std.proofs.Common.{◌≡◌, ◌≢◌, ◌⊎◌, ℕ, ◌==◌, ◌&&◌, Bool, true, false, Option, Some, None, refl, sym, ap, subst, ◌∙◌, inl, inr}
use mathlib.Core.Bool.{false≢true}
use Rattle.std.proofs.lemmas.Bool.{and_from, and_parts, eqb-true, eq-eqb}
use Rattle.mp_model.specs.declared.ids.TrxId.{TrxId}
use Rattle.mp_histories.specs.KeyOps.{same_writer}

pub decided : (b : Bool) → (b ≡ true) ⊎ (b ≡ false)
decided true = inl refl
decided false = inr refl

pub same_is : (a b : Option TrxId) → same_writer a b ≡ true → a ≡ b
same_is None None h = refl
same_is None (Some b) h = absurd (false≢true h)
same_is (Some a) None h = absurd (false≢true h)
same_is (Some a) (Some b) h =
    let outer = and_parts (a.node == b.node && a.slot == b.slot) (a.version == b.version) h in
    let inner = and_parts (a.node == b.node) (a.slot == b.slot) outer.0 in
    let node : a.node ≡ b.node = eqb-true a.node b.node inner.0 in
    let slot : a.slot ≡ b.slot = eqb-true a.slot b.slot inner.1 in
    let version : a.version ≡ b.version = eqb-true a.version b.version outer.1 in
    ap (λ (n : ℕ). Some (record { node = n; slot = a.slot; version = a.version })) node
    ∙ ap (λ (n : ℕ). Some (record { node = b.node; slot = n; version = a.version })) slot
    ∙ ap (λ (n : ℕ). Some (record { node = b.node; slot = b.slot; version = n })) version

pub same_itself : (a : Option TrxId) → same_writer a a ≡ true
same_itself None = refl
same_itself (Some a) = and_from _ _ (and_from _ _ (eq-eqb a.node a.node refl) (eq-eqb a.slot a.slot refl)) (eq-eqb a.version a.version refl)

pub same_from : (a b : Option TrxId) → a ≡ b → same_writer a b ≡ true
same_from a b e = subst (λ (x : Option TrxId). same_writer a x ≡ true) e (same_itself a)

pub other_from : (a b : Option TrxId) → a ≢ b → same_writer a b ≡ false
other_from a b ne = elim (decided (same_writer a b)) [
  | inl e ↦ absurd (ne (same_is a b e))
  | inr e ↦ e
]

pub other_is : (a b : Option TrxId) → same_writer a b ≡ false → a ≢ b
other_is a b h = λ (e : a ≡ b). absurd (false≢true (sym h ∙ same_from a b e))
