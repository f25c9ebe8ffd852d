-- Numbers in a range of which no two are equal are no more than the range has: so a node begins and draws only so often, and the timestamp oracle stays within its bits.
use Rattle.std.proofs.Common.{◌≡◌, ℕ, ◌+◌, ◌-◌, ◌*◌, ◌^◌, ◌<◌, ◌≤◌, true, false, eqb, List, [], ◌∷◌, length, map, refl, sym, subst, inl, inr, ⊎_elim, arith, ne_eqb, mul-le-mul_right}
use Rattle.std.specs.List.{list_any, AllByRecursion, IsDistinct}
use Rattle.std.proofs.lemmas.Bool.{cases_Bool}
use Rattle.std.proofs.lemmas.Bool.Decides.{nat_tests}
use Rattle.std.proofs.lemmas.List.{length-map}
use Rattle.std.proofs.lemmas.Map.Steps.{length-le_from_distinct_below}
use Rattle.mp_model.specs.declared.ids.TrxId.{TrxId}
use Rattle.mp_core_trx.specs.declared.opening.TrxOpening.{TrxOpening}
use Rattle.mp_core_trx.specs.declared.slot.SlotTag.TheVariants.{Committed}
use Rattle.mp_core_trx.specs.declared.part.Begun.{Begun}
use Rattle.mp_core_trx.specs.declared.part.Draw.{Draw}
use Rattle.mp_machine.specs.Lists.{IsIn, AllDiffer}
use Rattle.mp_core_trx.specs.Parts.{trx, begun_of, draw_of, shown_at}
use Rattle.mp_core_trx.specs.Events.{TrxPlace, at_tso, at_slot}
use Rattle.mp_core_trx.specs.World.{TrxWorld, trx_content, TrxNumbersFit, begun_in, slot_rows_in, drawn_in}
use Rattle.mp_core_trx.specs.Invariant.{TrxInv}
use Rattle.mp_machine.proofs.Lists.{total_bounded}
use Rattle.mp_core_trx.proofs.Words.{word_fits}
use Rattle.mp_core_trx.proofs.Reliable.{version_fits}

module _ {T : Type 0} (number : T → ℕ) (low : ℕ) where
  abbrev Above : List T → Type 0
  Above xs = (y : T) → IsIn y xs → low < number y

  apart : (x : T) (xs : List T) → low < number x → Above xs → ((y : T) → IsIn y xs → ¬ (number y ≡ number x)) → AllByRecursion (λ k. eqb (number x - (low + 1)) k ≡ false) (map (λ y. number y - (low + 1)) xs)
  apart x [] h above d = tt
  apart x (y ∷ ys) h above d =
      let other = d y (inl refl) in
      let high = above y (inl refl) in
      (ne_eqb (number x - (low + 1)) (number y - (low + 1)) (λ e. other (omega arith)), apart x ys h (λ z k. above z (inr k)) (λ z k. d z (inr k)))

  distinct : (xs : List T) → AllDiffer number xs → Above xs → IsDistinct eqb (map (λ y. number y - (low + 1)) xs)
  unfolding IsDistinct
  distinct [] d above = tt
  distinct (x ∷ xs) d above = (apart x xs (above x (inl refl)) (λ z k. above z (inr k)) d.0, distinct xs d.1 (λ z k. above z (inr k)))

  below : (most : ℕ) (xs : List T) → ((y : T) → IsIn y xs → (low < number y) × (number y ≤ low + most)) → (q : ℕ) → list_any (eqb q) (map (λ y. number y - (low + 1)) xs) ≡ true → q < most
  below most [] each q has = absurd (cc)
  below most (x ∷ xs) each q has =
      ⊎_elim
      (λ (t : eqb q (number x - (low + 1)) ≡ true). let range = each x (inl refl) in grind (arith, nat_tests))
      (λ (f : eqb q (number x - (low + 1)) ≡ false). below most xs (λ y k. each y (inr k)) q (rw f at has))
      (cases_Bool (eqb q (number x - (low + 1))))

  pub length_in_range : (most : ℕ) (xs : List T) → AllDiffer number xs → ((y : T) → IsIn y xs → (low < number y) × (number y ≤ low + most)) → length xs ≤ most
  length_in_range most xs d each =
      let short = length-le_from_distinct_below (map (λ y. number y - (low + 1)) xs) most (distinct xs d (λ y k. (each y k).0)) (below most xs each) in
      rw length-map at short

module _ (o : TrxOpening) (w : TrxWorld) (i : TrxInv o w) where
  -- a node begins at most as many transactions as are begun
  pub few_begun : (n : ℕ) → length (begun_in w n) ≤ o.begins
  few_begun n = length_in_range (λ (b : Begun). b.id.version) o.base.version o.begins (begun_in w n) (i.ids.differ n) (i.ids.versions n)

  -- where another may begin, there were fewer
  pub room_to_begin : (n : ℕ) (id : TrxId) → o.base.version < id.version → id.version ≤ o.base.version + o.begins → ((b : Begun) → IsIn b (begun_in w n) → ¬ (b.id.version ≡ id.version)) → length (begun_in w n) < o.begins
  room_to_begin n id above within fresh =
      let all = length_in_range (λ (b : Begun). b.id.version) o.base.version o.begins (begun_of id 0 ∷ begun_in w n) (fresh, i.ids.differ n)
      (λ b h. ⊎_elim (λ (new : b ≡ begun_of id 0). subst (λ (c : Begun). (o.base.version < c.id.version) × (c.id.version ≤ o.base.version + o.begins)) (sym new) (above, within)) (λ (old : IsIn b (begun_in w n)). i.ids.versions n b old) h) in
      omega arith

  -- and draws at most as many timestamps
  pub few_drawn : (n : ℕ) → length (drawn_in w n) ≤ o.begins
  few_drawn n =
      length_in_range (λ (d : Draw). d.id.version) o.base.version o.begins (drawn_in w n) (i.drawers.once n)
      (λ d h. let b = i.drawers.had_begun n d h in i.ids.versions n (begun_of d.id b.0) b.1)

  -- node 0 draws nothing
  pub none_drawn_by_nobody : length (drawn_in w 0) ≡ 0
  none_drawn_by_nobody = none (drawn_in w 0) (λ d h. let b = i.drawers.had_begun 0 d h in let is = i.ids.nodes 0 (begun_of d.id b.0) b.1 in absurd (omega arith))
    where
      none : (xs : List Draw) → ((d : Draw) → IsIn d xs → ⊥) → length xs ≡ 0
      none [] h = refl
      none (x ∷ xs) h = absurd (h x (inl refl))

  -- the timestamp oracle is at most one timestamp for each transaction above the base
  pub tso_bounded : w.tso ≤ o.base.ts + o.primaries * o.begins
  tso_bounded =
      let all = total_bounded (λ n. length (drawn_in w n)) o.begins o.primaries few_drawn in
      let count = i.draws.counted in
      let nobody = none_drawn_by_nobody in
      omega (arith, count)

  pub tso_within : TrxNumbersFit o → w.tso ≤ o.base.ts + 8 * o.begins
  tso_within fair = let most = tso_bounded in let eight = mul-le-mul_right o.begins fair.some_primaries.1 in omega arith

  -- so it fits
  pub tso_fits : TrxNumbersFit o → w.tso < 2 ^ 38
  tso_fits fair = let most = tso_within fair in let fits = fair.timestamps_fit in omega arith

  -- and so does what a slot shows
  pub shown_fits : TrxNumbersFit o → (n slot : ℕ) → ((shown_at (slot_rows_in w n) slot).version < 2 ^ 24) × ((shown_at (slot_rows_in w n) slot).cts < 2 ^ 38)
  shown_fits fair n slot =
      let x = shown_at (slot_rows_in w n) slot in
      let right = i.slots n slot in
      let small = tso_fits fair in (
        version_fits o fair (begun_in w) i.ids (drawn_in w n) n slot x right,
        ⊎_elim
            (λ (none : x.cts ≡ 0). omega arith)
            (λ (is : x.tag ≡ Committed).
            let drawn = right.committed x.version x.cts (λ k. record { tag = is k; version = x.version; cts = x.cts }) in
            let range = (i.draws.within n (draw_of (trx n slot x.version) x.cts) drawn).1 in
            omega arith)
            right.stamped,
      )

  -- and each word
  pub content_fits : TrxNumbersFit o → (a : TrxPlace) → trx_content w a < 2 ^ 64
  content_fits fair at_tso = let small = tso_fits fair in omega arith
  content_fits fair (at_slot n slot) = let fits = shown_fits fair n slot in word_fits (shown_at (slot_rows_in w n) slot) fits.0 fits.1
