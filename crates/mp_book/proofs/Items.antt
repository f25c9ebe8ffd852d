-- Facts of lists and options that answers and sessions share.
use Rattle.std.proofs.Common.{◌≡◌, ℕ, zero, suc, ◌||◌, Bool, true, false, List, [], ◌∷◌, ◌++◌, Option, None, Some, Result, Ok, Err, OnOk, length, slice_get, slice_set, ◌⊎◌, inl, inr, ⊎_elim, refl, sym, ap, subst, ◌∙◌, append_assoc, append-nil, ◌<◌, arith}
use Rattle.std.specs.Option.{IfSome}
use Rattle.mp_script.specs.Below.{EachBelow}

pub if_some_map : {T : Type 0} (P Q : T → Type 0) (o : Option T) → ((x : T) → P x → Q x) → IfSome o P → IfSome o Q
if_some_map P Q None f h = tt
if_some_map P Q (Some x) f h = f x h

pub if_some_always : {T : Type 0} (P : T → Type 0) (o : Option T) → ((x : T) → P x) → IfSome o P
if_some_always P None f = tt
if_some_always P (Some x) f = f x

-- one item more, with what holds of it below all others
pub each_below_one : {T : Type 0} (P : List T → T → Type 0) (above xs : List T) (x : T) → EachBelow P above xs → P (above ++ xs) x → EachBelow P above (xs ++ x ∷ [])
each_below_one P above [] x each last = (subst (λ l. P l x) (append-nil above) last, tt)
each_below_one P above (y ∷ ys) x each last =
    (each.0, each_below_one P (above ++ y ∷ []) ys x each.1 (subst (λ l. P l x) (sym (append_assoc above (y ∷ []) ys)) last))

-- what stands at a place once one item was put: that item, or what stood there
pub record IsElse {T : Type 0} (xs : List T) (place k : ℕ) (x : T) : Type 0 where
  pub other : (place ≡ k) → ⊥
  pub stood : slice_get xs k ≡ Some x

pub none_some : {T : Type 0} (x : T) → None ≡ Some x → ⊥
none_some x e = cc

pub some_is : {T : Type 0} (x y : T) → Some x ≡ Some y → y ≡ x
some_is x y e = cc

zero_suc : (n : ℕ) → zero ≡ suc n → ⊥
zero_suc n e = cc

pub after_set : {T : Type 0} (xs : List T) (place : ℕ) (put : T) (k : ℕ) (x : T) → slice_get (slice_set xs place put) k ≡ Some x → ((place ≡ k) × (x ≡ put)) ⊎ IsElse xs place k x
after_set [] place put k x is = absurd (none_some x is)
after_set (y ∷ ys) zero put zero x is = inl (refl, some_is put x is)
after_set (y ∷ ys) zero put (suc k) x is = inr (record { other = zero_suc k; stood = is })
after_set (y ∷ ys) (suc place) put zero x is = inr (record { other = λ e. zero_suc place (sym e); stood = is })
after_set (y ∷ ys) (suc place) put (suc k) x is = next (after_set ys place put k x is)
  where
    next : ((place ≡ k) × (x ≡ put)) ⊎ IsElse ys place k x → ((suc place ≡ suc k) × (x ≡ put)) ⊎ IsElse (y ∷ ys) (suc place) (suc k) x
    next (inl h) = inl (ap suc h.0, h.1)
    next (inr h) = inr (record { other = λ e. h.other (same place k e); stood = h.stood })
      where
        same : (a b : ℕ) → suc a ≡ suc b → a ≡ b
        same a b e = cc

-- a list with one item more
pub after_push : {T : Type 0} (xs : List T) (x : T) (k : ℕ) (y : T) → slice_get (xs ++ x ∷ []) k ≡ Some y → ((k ≡ length xs) × (y ≡ x)) ⊎ (slice_get xs k ≡ Some y)
after_push [] x zero y is = inl (refl, some_is x y is)
after_push [] x (suc k) y is = absurd (none_some y is)
after_push (z ∷ xs) x zero y is = inr is
after_push (z ∷ xs) x (suc k) y is = ⊎_elim (λ h. inl (ap (λ n. suc n) h.0, h.1)) (λ h. inr h) (after_push xs x k y is)

-- what stands at a place may be put there, and what is put stands there
pub set_same : {T : Type 0} (xs : List T) (place : ℕ) (x : T) → slice_get xs place ≡ Some x → xs ≡ slice_set xs place x
set_same [] place x is = refl
set_same (y ∷ ys) zero x is = ap (λ z. z ∷ ys) (sym (some_is y x is))
set_same (y ∷ ys) (suc place) x is = ap (λ l. y ∷ l) (set_same ys place x is)

-- what follows of a success
pub on_ok_map : {T E : Type 0} (r : Result T E) (P Q : Type 0) → (P → Q) → OnOk r P → OnOk r Q
on_ok_map (Ok x) P Q f h = f h
on_ok_map (Err e) P Q f h = h

-- a sum of tests that fails
pub or_left : (x y : Bool) → (x || y) ≡ false → x ≡ false
or_left true y e = cc
or_left false y e = refl

pub or_right : (x y : Bool) → (x || y) ≡ false → y ≡ false
or_right true y e = cc
or_right false y e = e

-- what a look-up finds is one thing
pub one_item : {T : Type 0} (o : Option T) (x y : T) → o ≡ Some x → o ≡ Some y → x ≡ y
one_item o x y a b = some_is y x (sym b ∙ a)

-- what stands within a list
pub stands_there : {T : Type 0} (xs : List T) (i : ℕ) → i < length xs → (x : T) × (slice_get xs i ≡ Some x)
stands_there [] i within = absurd (omega (arith, within))
stands_there (x ∷ xs) zero within = (x, refl)
stands_there (x ∷ xs) (suc i) within = stands_there xs i (omega (arith, within))
