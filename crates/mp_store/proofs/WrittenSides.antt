-- At each step of writing a side it is as it was, not open, or whole.
use Rattle.std.proofs.Common.{◌≡◌, ◌⊎◌, inl, inr, ℕ, suc, ◌+◌, ◌<◌, ◌≤◌, Bool, true, false, eqb, List, [], ◌∷◌, length, take, drop, get_or, refl, sym, ap, ◌∙◌, subst, arith}
use Rattle.std.proofs.lemmas.List.{drop_more, get_or-drop}
use Rattle.std.proofs.lemmas.Bool.{cases_Bool, eqb-true}
use Rattle.mp_outside.specs.Disks.{written, Torn, Only}
use Rattle.mp_gated.specs.Gates.{BodyTorn, GateTorn}
use Rattle.mp_store.specs.Layout.{part, is_open}
use Rattle.mp_store.specs.SideWrites.{SameOutside, SideIs, SideLeft, open_side, closed, Closing}
use Rattle.mp_store.proofs.Outside.{same, trans, wider, torn_outside, written_outside, part_written, part_same, written_over}

-- a side is its gate and its body
pub side_split : (place width : ℕ) (file : List ℕ) → place < length file → part place (suc width) file ≡ get_or file place 0 ∷ part (place + 1) width file
side_split place width file lt = ap (take (suc width)) (drop_more file place 0 lt)

pub gate_of : (place width : ℕ) (file : List ℕ) → place < length file → get_or (part place (suc width) file) 0 0 ≡ get_or file place 0
gate_of place width file lt = ap (λ side. get_or side 0 0) (side_split place width file lt)

-- a gate by itself
gate_same : (from to place : ℕ) (old new : List ℕ) → place < length old → SameOutside from to old new → (place + 1 ≤ from) ⊎ (to ≤ place) → get_or new place 0 ≡ get_or old place 0
gate_same from to place old new lt h out =
    let lt' : place < length new = omega (arith, h.long) in
    sym (gate_of place 0 new lt') ∙ ap (λ side. get_or side 0 0) (part_same from to place 1 old new h out) ∙ gate_of place 0 old lt

-- a side whose body is some list, whatever byte is at its gate: not open, or the open side with that body
by_gate : (place : ℕ) (body old new : List ℕ) → place < length new → part (place + 1) (length body) new ≡ body → SideIs (open_side body) old (part place (suc (length body)) new)
by_gate place body old new lt is =
    let split = side_split place (length body) new lt in
    elim (cases_Bool (eqb (get_or new place 0) 165)) [
      | inl yes_ ↦ let gate : get_or new place 0 ≡ 165 = eqb-true (get_or new place 0) 165 yes_ in inr (inr (split ∙ rw (gate, is) refl))
      | inr no_ ↦ inr (inl (ap (λ gate. eqb gate 165) (gate_of place (length body) new lt) ∙ no_))
    ]

-- a gate that isn't open
not_open : (place width : ℕ) (side old new : List ℕ) → place < length new → eqb (get_or new place 0) 165 ≡ false → SideIs side old (part place (suc width) new)
not_open place width side old new lt shut = inr (inl (ap (λ gate. eqb gate 165) (gate_of place width new lt) ∙ shut))

pub nothing_left : (place : ℕ) (side file : List ℕ) → SideLeft place side file file
nothing_left place side file = record { elsewhere = same place (place + length side) file; side_is = inl refl }

-- an open gate torn
pub gate_torn : (place : ℕ) (body file new : List ℕ) → place + 1 + length body ≤ length file → eqb (get_or file place 0) 165 ≡ true → Torn place (place + 1) file new
    → SideLeft place (open_side body) file new
gate_torn place body file new room was torn =
    let near : SameOutside place (place + 1) file new = torn_outside place (place + 1) file new (omega arith) (omega arith) torn in
    let lt : place < length file = omega arith in
    let lt' : place < length new = omega (arith, near.long) in
    let rest : part (place + 1) (length body) new ≡ part (place + 1) (length body) file = part_same place (place + 1) (place + 1) (length body) file new near (inr (omega arith)) in
    let before = side_split place (length body) file lt in
    let after = side_split place (length body) new lt' in
    let gate : get_or file place 0 ≡ 165 = eqb-true (get_or file place 0) 165 was in record {
      elsewhere = wider place (place + 1) place (place + length (open_side body)) file new (omega arith) (omega arith) near;
      side_is = elim (cases_Bool (eqb (get_or new place 0) 165)) [
        | inl yes_ ↦ let gate' : get_or new place 0 ≡ 165 = eqb-true (get_or new place 0) 165 yes_ in inl (after ∙ rw (gate', rest, before, gate) refl)
        | inr no_ ↦ not_open place (length body) (open_side body) (part place (suc (length body)) file) new lt' no_
      ];
    }

-- a body torn behind a gate that isn't open
pub body_torn : (place : ℕ) (body file shut new : List ℕ) → place + 1 + length body ≤ length file → SameOutside place (place + 1) file shut → eqb (get_or shut place 0) 165 ≡ false
    → BodyTorn place body shut new → SideLeft place (open_side body) file new
body_torn place body file shut new room first is_shut torn =
    let near : SameOutside (place + 1) (place + 1 + length body) shut new = torn_outside (place + 1) (place + 1 + length body) shut new (omega (arith, first.long)) (omega (arith, first.long)) torn in
    let lt : place < length shut = omega (arith, first.long) in
    let lt' : place < length new = omega (arith, near.long) in
    let gate : get_or new place 0 ≡ get_or shut place 0 = gate_same (place + 1) (place + 1 + length body) place shut new lt near (inl (omega arith)) in record {
      elsewhere =
          trans place (place + length (open_side body)) file shut new (wider place (place + 1) place (place + length (open_side body)) file shut (omega arith) (omega arith) first)
          (wider (place + 1) (place + 1 + length body) place (place + length (open_side body)) shut new (omega arith) (omega arith) near);
      side_is = not_open place (length body) (open_side body) (part place (suc (length body)) file) new lt' (ap (λ byte. eqb byte 165) gate ∙ is_shut);
    }

-- a gate torn before a whole body
pub opening_torn : (place : ℕ) (body file shut new : List ℕ) → place + 1 + length body ≤ length file → SameOutside place (place + 1) file shut
    → GateTorn place body shut new → SideLeft place (open_side body) file new
opening_torn place body file shut new room first torn =
    let filled = written (place + 1) body shut in
    let second : SameOutside (place + 1) (place + 1 + length body) shut filled = written_outside (place + 1) body shut (omega (arith, first.long)) in
    let third : SameOutside place (place + 1) filled new = torn_outside place (place + 1) filled new (omega (arith, first.long, second.long)) (omega (arith, first.long, second.long)) torn in
    let lt' : place < length new = omega (arith, first.long, second.long, third.long) in
    let body_is : part (place + 1) (length body) new ≡ body =
    part_same place (place + 1) (place + 1) (length body) filled new third (inr (omega arith)) ∙ part_written (place + 1) body shut (omega (arith, first.long)) in
    let end = place + length (open_side body) in record {
      elsewhere =
          trans place end file shut new (wider place (place + 1) place end file shut (omega arith) (omega arith) first)
          (trans place end shut filled new (wider (place + 1) (place + 1 + length body) place end shut filled (omega arith) (omega arith) second)
          (wider place (place + 1) place end filled new (omega arith) (omega arith) third));
      side_is = by_gate place body (part place (suc (length body)) file) new lt' body_is;
    }

-- the closed file: it differs at the gate alone, and the gate isn't open
pub closed_outside : (was_open : Bool) (place : ℕ) (file : List ℕ) → place < length file → SameOutside place (place + 1) file (closed was_open place file)
closed_outside true place file lt = written_outside place (0 ∷ []) file (omega arith)
closed_outside false place file lt = same place (place + 1) file

pub gate_at : (place : ℕ) (file : List ℕ) → is_open (drop place file) ≡ eqb (get_or file place 0) 165
gate_at place file = ap (λ byte. eqb byte 165) (get_or-drop place file 0 0 ∙ ap (λ n. get_or file n 0) (omega arith))

pub closed_shut : (was_open : Bool) (place : ℕ) (file : List ℕ) → place < length file → was_open ≡ is_open (drop place file) → eqb (get_or (closed was_open place file) place 0) 165 ≡ false
closed_shut true place file lt was =
    let near = closed_outside true place file lt in
    let lt' : place < length (written place (0 ∷ []) file) = omega (arith, near.long) in
    let zero_there : get_or (written place (0 ∷ []) file) place 0 ≡ 0 =
    sym (gate_of place 0 (written place (0 ∷ []) file) lt') ∙ ap (λ side. get_or side 0 0) (part_written place (0 ∷ []) file (omega arith)) in
    ap (λ byte. eqb byte 165) zero_there
closed_shut false place file lt was = sym (was ∙ gate_at place file)

-- what closing leaves
pub closing_left : (was_open : Bool) (place : ℕ) (body file new : List ℕ) → place + 1 + length body ≤ length file → was_open ≡ is_open (drop place file)
    → Closing was_open place file new → SideLeft place (open_side body) file new
closing_left was_open place body file new room was (inl is) = subst (λ c. SideLeft place (open_side body) file c) (sym is) (nothing_left place (open_side body) file)
closing_left was_open place body file new room was (inr torn) =
    gate_torn place body file new room (sym (gate_at place file) ∙ sym was ∙ torn.0) (torn.1)

-- what writing behind the closed gate leaves
pub gating_left : (was_open : Bool) (place : ℕ) (body file new : List ℕ) (image : List ℕ → Type 0) → place + 1 + length body ≤ length file → was_open ≡ is_open (drop place file)
    → Only (closed was_open place file) image → ((d : List ℕ) × image d × BodyTorn place body d new) ⊎ GateTorn place body (closed was_open place file) new
    → SideLeft place (open_side body) file new
gating_left was_open place body file new image room was only (inl torn) =
    let is = only torn.0 torn.1 in
    let torn' = subst (λ d. BodyTorn place body d new) is torn.2 in
    body_torn place body file (closed was_open place file) new room (closed_outside was_open place file (omega arith)) (closed_shut was_open place file (omega arith) was) torn'
gating_left was_open place body file new image room was only (inr torn) =
    opening_torn place body file (closed was_open place file) new room (closed_outside was_open place file (omega arith)) torn

-- the side written over the closed file is the side written over the file
pub side_over : (was_open : Bool) (place : ℕ) (body file : List ℕ) → place + 1 + length body ≤ length file
    → written place (open_side body) (closed was_open place file) ≡ written place (open_side body) file
side_over was_open place body file room =
    written_over place (open_side body) file (closed was_open place file) (omega arith)
    (wider place (place + 1) place (place + length (open_side body)) file (closed was_open place file) (omega arith) (omega arith) (closed_outside was_open place file (omega arith)))

-- at an equal place of an equal file
pub moved_left : (place place' : ℕ) (side file file' new : List ℕ) → place ≡ place' → file ≡ file' → SideLeft place side file new → SideLeft place' side file' new
moved_left place place' side file file' new at same_file left = subst (λ f. SideLeft place' side f new) same_file (subst (λ n. SideLeft n side file new) at left)
