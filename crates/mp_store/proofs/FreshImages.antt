-- What a crash leaves while a fresh store is made over zeros: no open header, until its gate is opened.
use Rattle.std.proofs.Common.{◌≡◌, ◌⊎◌, inl, inr, ℕ, ◌+◌, ◌-◌, ◌<◌, ◌≤◌, false, eqb, List, [], ◌∷◌, length, drop, get_or, refl, sym, ap, ◌∙◌, subst, arith}
use Rattle.std.specs.Prelude.{◌||◌, None}
use Rattle.std.proofs.lemmas.Bool.{cases_Bool, cases_lt, eqb-true, true≢false}
use Rattle.mp_store.specs.HeaderSides.{headers_fault}
use Rattle.mp_store.specs.StoreFiles.{store_fault}
use Rattle.mp_store.proofs.HeaderChecks.{none_first, none_unless}
use Rattle.mp_store.proofs.SoundAfter.{sound_parts}
use Rattle.std.proofs.lemmas.List.{drop_more}
use Rattle.mp_outside.specs.Disks.{written, first_changed, Torn, Follows, Only}
use Rattle.mp_store.specs.declared.sides.Side.TheVariants.{First, Second}
use Rattle.mp_store.specs.Layout.{store_length, part, is_open, header_side}
use Rattle.mp_store.specs.SideWrites.{SameOutside}
use Rattle.mp_store.specs.FreshStores.{zeros, pages_file, fresh_file, NoHeader, NoneOpen}
use Rattle.mp_store.proofs.Halves.{gate_of_part}
use Rattle.mp_store.proofs.Outside.{torn_outside, part_same}
use Rattle.mp_store.proofs.FreshFiles.{length-zeros, zeros_shut}

-- a header's gate by itself
gate_is : (place : ℕ) (file : List ℕ) → is_open (part place 64 file) ≡ is_open (part place 1 file)
gate_is place file = gate_of_part place 64 file (omega arith) ∙ sym (gate_of_part place 1 file (omega arith))

gate_kept : (from to place : ℕ) (old new : List ℕ) → SameOutside from to old new → (place + 1 ≤ from) ⊎ (to ≤ place) → is_open (part place 64 new) ≡ is_open (part place 64 old)
gate_kept from to place old new near out = gate_is place new ∙ ap is_open (part_same from to place 1 old new near out) ∙ sym (gate_is place old)

-- a part without a gate of the header
apart : (from to : ℕ) → (64 < to → 65 ≤ from) → (64 + 1 ≤ from) ⊎ (to ≤ 64)
apart from to beyond = elim (cases_lt 64 to) [ inl late ↦ inl (beyond late) | inr early ↦ inr (omega arith) ]

none_kept : (from to : ℕ) (old new : List ℕ) → 1 ≤ from → (64 < to → 65 ≤ from) → SameOutside from to old new → NoHeader old → NoHeader new
none_kept from to old new first second near none First = gate_kept from to 0 old new near (inl (omega arith)) ∙ none First
none_kept from to old new first second near none Second = gate_kept from to 64 old new near (apart from to second) ∙ none Second

pub part_kept : (place width : ℕ) (seen seen_after : List ℕ) (image image_after : List ℕ → Type 0) → 1 ≤ place → (64 < place + width → 65 ≤ place) → place + width ≤ store_length
    → NoneOpen seen image → Follows (Torn (first_changed place seen) (place + width)) image image_after → image_after seen_after → NoneOpen seen_after image_after
part_kept place width seen seen_after image image_after first second within all follows is_image =
    let at : first_changed place seen ≡ place = omega (arith, all.long) in
    let each : (c : List ℕ) → image_after c → NoHeader c × (length c ≡ store_length) =
    λ c left. (
    let from = follows c left in
    let was = all.images from.0 from.1 in
    let torn = subst (λ p. Torn p (place + width) from.0 c) at from.2 in
    let near : SameOutside place (place + width) from.0 c = torn_outside place (place + width) from.0 c (omega (arith, was.1)) (omega (arith, was.1)) torn in
    (none_kept place (place + width) from.0 c first second near was.0, near.long ∙ was.1)) in
    let seen_is = each seen_after is_image in
    record { long = seen_is.1; none = seen_is.0; images = each }

-- zeros that are safe
zeros_none : NoHeader (zeros store_length)
zeros_none First = zeros_shut 0 64 store_length (omega arith)
zeros_none Second = zeros_shut 64 64 store_length (omega arith)

pub zeros_kept : (seen : List ℕ) (image : List ℕ → Type 0) → seen ≡ zeros store_length → Only (zeros store_length) image → NoneOpen seen image
zeros_kept seen image is only =
    let long : length (zeros store_length) ≡ store_length = length-zeros store_length in
    record {
      long = ap length is ∙ long;
      none = subst NoHeader (sym is) zeros_none;
      images = λ c left. subst (λ f. NoHeader f × (length f ≡ store_length)) (sym (only c left)) (zeros_none, long);
    }

-- the open gate over a file
opened_is : (file : List ℕ) → written 0 (165 ∷ []) file ≡ 165 ∷ drop 1 file
opened_is file = let none : 0 - length file ≡ 0 = omega arith in rw none refl

-- the header's gate, torn
pub gate_left : (seen c d : List ℕ) → seen ≡ pages_file → 1 ≤ length seen → NoHeader pages_file → c ≡ pages_file → Torn (first_changed 0 seen) (0 + 1) c d → NoHeader d ⊎ (d ≡ fresh_file)
unfolding fresh_file
gate_left seen c d is some none was torn =
    let near : SameOutside 0 1 c d = torn_outside 0 1 c d (omega arith) (omega (arith, ap length was, ap length is)) (subst (λ p. Torn p 1 c d) (omega arith) torn) in
    let lt : 0 < length d = omega (arith, near.long, ap length was, ap length is) in
    elim (cases_Bool (eqb (get_or d 0 0) 165)) [
      | inl yes_ ↦
          let gate : get_or d 0 0 ≡ 165 = eqb-true (get_or d 0 0) 165 yes_ in
          let whole : d ≡ get_or d 0 0 ∷ drop 1 d = drop_more d 0 0 lt in
          inr (whole ∙ ap (λ byte. byte ∷ drop 1 d) gate ∙ ap (λ rest. 165 ∷ rest) (near.after ∙ ap (drop 1) was) ∙ sym (opened_is pages_file))
      | inr no_ ↦ inl (closed_ no_ near)
    ]
  where
    closed_ : eqb (get_or d 0 0) 165 ≡ false → SameOutside 0 1 c d → NoHeader d
    closed_ shut near First = gate_is 0 d ∙ ap (λ byte. eqb byte 165) (gate_first d) ∙ shut
      where
        gate_first : (file : List ℕ) → get_or (part 0 1 file) 0 0 ≡ get_or file 0 0
        gate_first [] = refl
        gate_first (byte ∷ file) = refl
    closed_ shut near Second = gate_kept 0 1 64 c d near (inr (omega arith)) ∙ ap (λ f. is_open (header_side Second f)) was ∙ none Second

-- a file without an open header has a fault
pub none_is_no_store : (file : List ℕ) → NoHeader file → store_fault file ≡ None → ⊥
unfolding headers_fault
none_is_no_store file none sound =
    let parts = sound_parts file sound in
    let first = none First in
    let second = none Second in
    true≢false (sym (none_unless (is_open (header_side First file) || is_open (header_side Second file)) 0 (none_first _ _ parts.headers).0) ∙ ap (λ x. x || is_open (header_side Second file)) first ∙ second)
