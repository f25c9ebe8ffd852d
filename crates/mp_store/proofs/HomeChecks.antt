-- Where the homes have no fault, each page's side in force has none.
use Rattle.std.proofs.Common.{◌≡◌, inl, inr, ℕ, zero, suc, ◌+◌, ◌-◌, ◌<◌, Bool, true, false, List, [], ◌∷◌, Option, Some, None, Result, Err, refl, sym, ◌∙◌, subst, add-one, arith}
use Rattle.std.specs.Prelude.{◌&&◌, ◌||◌, not, if◌then◌else◌}
use Rattle.std.proofs.lemmas.Bool.{cases_lt}
use Rattle.mp_store.specs.declared.refusals.StoreRefusal.{StoreRefusal}
use Rattle.mp_store.specs.declared.refusals.StoreRefusal.TheVariants.{NotStore, Disk, Memory}
use Rattle.mp_store.specs.declared.sides.Side.{Side}
use Rattle.mp_store.specs.declared.sides.Side.TheVariants.{First, Second}
use Rattle.mp_store.specs.Checks.{only_if, first_of}
use Rattle.mp_store.specs.Layout.{page_place, page_side}
use Rattle.mp_store.specs.PageSides.{counts, outranks, side_in_force, side_fault, sides_fault, in_force_fault}
use Rattle.mp_store.specs.StoreFiles.{home_fault, homes_fault, page_fault_in_force}
use Rattle.mp_store.specs.Answers.{StoreFinds}
use Rattle.mp_store.proofs.HeaderChecks.{none_first}

-- the faults of the sides, of which one may be in force
fault_at : Option Side → Option ℕ → Option ℕ → Option ℕ
fault_at None f g = None
fault_at (Some First) f g = f
fault_at (Some Second) f g = g

fault_at_is : (in_force : Option Side) (place : ℕ) (first second : List ℕ)
    → fault_at in_force (side_fault place first) (side_fault (place + 1040) second) ≡ in_force_fault in_force place first second
unfolding fault_at
fault_at_is None place first second = refl
fault_at_is (Some First) place first second = refl
fault_at_is (Some Second) place first second = refl

chosen_sound : (first second later : Bool) (f g : Option ℕ) → first_of (only_if first f ∷ only_if second g ∷ []) ≡ None
    → fault_at (if second && (not first || later) then Some Second else (if first then Some First else None)) f g ≡ None
unfolding fault_at
chosen_sound false false later f g h = refl
chosen_sound true false later f g h = (none_first f (None ∷ []) h).0
chosen_sound false true later f g h = (none_first g [] h).0
chosen_sound true true true f g h = (none_first g [] (none_first f (g ∷ []) h).1).0
chosen_sound true true false f g h = (none_first f (g ∷ []) h).0

in_force_sound : (generation place : ℕ) (first second : List ℕ) → sides_fault generation place first second ≡ None
    → in_force_fault (side_in_force generation first second) place first second ≡ None
unfolding sides_fault side_in_force
in_force_sound generation place first second h =
    sym (fault_at_is _ place first second)
    ∙ chosen_sound (counts generation first) (counts generation second) (outranks second first) (side_fault place first) (side_fault (place + 1040) second) h

-- one page more
pub homes_more : (generation number : ℕ) (file : List ℕ) → homes_fault generation number file ≡ None → home_fault generation number file ≡ None → homes_fault generation (number + 1) file ≡ None
unfolding homes_fault
homes_more generation number file before this = rw (add-one, before, this) refl

-- the first page with a fault decides
stop_at : (generation more number : ℕ) (file : List ℕ) (place : ℕ) → homes_fault generation number file ≡ None → home_fault generation number file ≡ Some place
    → homes_fault generation (suc more + number) file ≡ Some place
unfolding homes_fault
stop_at generation zero number file place before this = let e : 1 + number ≡ suc number = omega arith in rw (e, before, this) refl
stop_at generation (suc more) number file place before this =
    let e : suc (suc more) + number ≡ suc (suc more + number) = omega arith in
    rw (e, stop_at generation more number file place before this) refl

pub homes_stop : (generation number all : ℕ) (file : List ℕ) (place : ℕ) → number < all → homes_fault generation number file ≡ None → home_fault generation number file ≡ Some place
    → homes_fault generation all file ≡ Some place
homes_stop generation number all file place lt before this =
    let more = all - suc number in
    let e : suc more + number ≡ all = omega arith in
    subst (λ n. homes_fault generation n file ≡ Some place) e (stop_at generation more number file place before this)

-- all pages
pub home_none : (generation all number : ℕ) (file : List ℕ) → number < all → homes_fault generation all file ≡ None → home_fault generation number file ≡ None
unfolding homes_fault
home_none generation zero number file lt h = absurd (omega arith)
home_none generation (suc all) number file lt h =
    let both = none_first (homes_fault generation all file) (home_fault generation all file ∷ []) h in
    let last = (none_first (home_fault generation all file) [] both.1).0 in
    elim (cases_lt number all) [
      | inl below ↦ home_none generation all number file below both.0
      | inr above ↦ let e : all ≡ number = omega arith in subst (λ n. home_fault generation n file ≡ None) e last
    ]

pub sound_in_force : (generation all number : ℕ) (file : List ℕ) → number < all → homes_fault generation all file ≡ None → page_fault_in_force generation number file ≡ None
sound_in_force generation all number file lt h =
    in_force_sound generation (page_place number First) (page_side number First file) (page_side number Second file) (home_none generation all number file lt h)

-- a refusal that finds a fault where there is none isn't NotStore
pub none_found : (T U : Type 0) (fault : Option ℕ) (refusal : StoreRefusal) (other : Option ℕ) → fault ≡ None → StoreFinds {T = T} fault (Err refusal) → StoreFinds {T = U} other (Err refusal)
none_found T U fault (NotStore place) other sound h = absurd (cc)
none_found T U fault Disk other sound h = tt
none_found T U fault Memory other sound h = h

-- a refusal by the first of some checks, and one by a later one
pub first_found : (T U : Type 0) (fault : Option ℕ) (checks : List (Option ℕ)) (refusal : StoreRefusal) → StoreFinds {T = T} fault (Err refusal) → StoreFinds {T = U} (first_of (fault ∷ checks)) (Err refusal)
first_found T U fault checks (NotStore place) h = rw h refl
first_found T U fault checks Disk h = tt
first_found T U fault checks Memory h = h

pub later_found : (T : Type 0) (fault : Option ℕ) (checks : List (Option ℕ)) (result : Result T StoreRefusal) → fault ≡ None → StoreFinds (first_of checks) result → StoreFinds (first_of (fault ∷ checks)) result
later_found T fault checks result sound h = rw sound h

-- a refusal by the first home with a fault
pub homes_found : (T U : Type 0) (generation number all : ℕ) (file : List ℕ) (refusal : StoreRefusal) → number < all → homes_fault generation number file ≡ None
    → StoreFinds {T = T} (home_fault generation number file) (Err refusal) → StoreFinds {T = U} (homes_fault generation all file) (Err refusal)
homes_found T U generation number all file (NotStore place) lt before h = homes_stop generation number all file place lt before h
homes_found T U generation number all file Disk lt before h = tt
homes_found T U generation number all file Memory lt before h = h
