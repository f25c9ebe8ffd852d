-- The example's invariant holds wherever allowed events lead, and what each of its calls tells follows.
use Rattle.std.proofs.Common.{◌≡◌, ℕ, ◌+◌, ◌^◌, ◌%◌, ◌<◌, ◌≤◌, List, [], ◌∷◌, length, Bool, true, false, ◌==◌, if◌then◌else◌, Some, None, refl, sym, ap, ◌∙◌, subst, arith, ne_eqb, zero, suc}
use mathlib.Core.Option.{Option, none, some}
use mathlib.Core.Logic.{dite}
use native.Mathlib.Decide.{ℕ_discrete}
use prog.Atomic.{either}
use Rattle.atomic_table.specs.Table.{Me, carried_after, keeps, rest}
use Rattle.mp_machine.specs.Machine.{run, AllAllowed}
use Rattle.mp_machine.specs.View.{View, part_in, with_part, joined}
use Rattle.mp_machine.specs.Rule.{Word, CanMake, MadeStep, Stored}
use Rattle.mp_machine_example.specs.declared.system.Worker.{Worker}
use Rattle.mp_machine_example.specs.declared.system.Event.{Event}
use Rattle.mp_machine_example.specs.declared.system.Event.TheVariants.{Draw, Total, Lock, Unlock}
use Rattle.mp_machine_example.specs.Numbers.{OfficeWorld, new_worker, office_node_of, locks, taking, office_made, OfficeAllows, with_worker, office_after, office, OfficeInv, CanDraw, Drew, HasWorker, Has, CanUnlock, Unlocked, WasHeld}
use Rattle.mp_machine_example.specs.NumbersLaws.{worker_here, worker_else}
use Rattle.mp_machine.proofs.Time.{kept}
use Rattle.mp_machine.proofs.Views.{with_part-same, part_in-with_here}

-- a worker that draws no more changes no count
draws_stay : (f : ℕ → Worker) (n : ℕ) (q : Worker) → q.draws ≡ (f n).draws → (k : ℕ) → (with_worker f n q k).draws ≡ (f k).draws
draws_stay f n q e k =
    dite (ℕ_discrete k n)
    (λ same. ap (λ j. (with_worker f n q j).draws) same ∙ ap (λ (x : Worker). x.draws) (worker_here f n q) ∙ e ∙ ap (λ j. (f j).draws) (sym same))
    (λ other. ap (λ (x : Worker). x.draws) (worker_else f n k q other))

two_draws : (f : ℕ → Worker) (n : ℕ) (q : Worker) → n < 2 → q.draws ≡ (f n).draws + 1 → (with_worker f n q 0).draws + (with_worker f n q 1).draws ≡ (f 0).draws + (f 1).draws + 1
two_draws f zero q h e = omega (arith, e)
two_draws f (suc zero) q h e = omega (arith, e)
two_draws f (suc (suc n)) q h e = absurd (omega arith)

few_draws : (f : ℕ → Worker) (n : ℕ) (q : Worker) → q.draws ≡ (f n).draws + 1 → (f n).draws < 2 ^ 32 → ((k : ℕ) → (f k).draws ≤ 2 ^ 32) → (k : ℕ) → (with_worker f n q k).draws ≤ 2 ^ 32
few_draws f n q e h few k =
    dite (ℕ_discrete k n)
    (λ same. subst (λ j. (with_worker f n q j).draws ≤ 2 ^ 32) (sym same) (subst (λ (x : Worker). x.draws ≤ 2 ^ 32) (sym (worker_here f n q)) (omega arith)))
    (λ other. subst (λ (x : Worker). x.draws ≤ 2 ^ 32) (sym (worker_else f n k q other)) (few k))

no_more : (w : OfficeWorld) (i : OfficeInv w) (e : Event) (n : ℕ) (q : Worker) → q.draws ≡ (w.worker n).draws → (k : ℕ) (v : Option ℕ) → (k ≡ 0 → (y : ℕ) × (v ≡ some y))
    → OfficeInv (record { drawn = w.drawn; locked = k; value = v; worker = with_worker w.worker n q; history = e ∷ w.history })
no_more w i e n q same k v home = record {
  counted = i.counted ∙ sym (λ j. draws_stay w.worker n q same 0 j + draws_stay w.worker n q same 1 j);
  few = λ j. subst (λ (d : ℕ). d ≤ 2 ^ 32) (sym (draws_stay w.worker n q same j)) (i.few j);
  logged = let l = i.logged in omega arith;
  at_home = home;
}

-- a lock that is free has its value at home, before an event and after it
still_home : (b : Bool) (k : ℕ) (v : Option ℕ) → (k == 0) ≡ b → (k ≡ 0 → (y : ℕ) × (v ≡ some y)) → (if b then 1 else k) ≡ 0 → (y : ℕ) × ((if b then none else v) ≡ some y)
still_home true k v is home e = absurd (omega arith)
still_home false k v is home e = home e

keeps_inv : (w : OfficeWorld) (e : Event) (c : List (ℕ × ℕ)) → OfficeInv w → OfficeAllows (w.worker (office_node_of e)) c e → OfficeInv (office_after w e)
keeps_inv w (Draw n) c i may = record {
  counted = ap (λ d. d + 1) i.counted ∙ sym (two_draws w.worker n (office_made (Draw n) w.drawn (length w.history) (w.worker n)) may.0 refl);
  few = few_draws w.worker n (office_made (Draw n) w.drawn (length w.history) (w.worker n)) refl may.1 i.few;
  logged = let l = i.logged in omega arith;
  at_home = i.at_home;
}
keeps_inv w (Total n) c i may = no_more w i (Total n) n (w.worker n) refl w.locked w.value i.at_home
keeps_inv w (Lock n) c i may = no_more w i (Lock n) n (office_made (Lock n) w.locked (length w.history) (w.worker n)) refl (locks w.locked) (if w.locked == 0 then none else w.value) (still_home (w.locked == 0) w.locked w.value refl i.at_home)
keeps_inv w (Unlock n y) c i may = no_more w i (Unlock n y) n (office_made (Unlock n y) w.locked (length w.history) (w.worker n)) refl 0 (some y) (λ _. (y, refl))

pub law_inv : (opening : ℕ) (es : List Event) → AllAllowed (office opening) es → OfficeInv (run (office opening) es)
law_inv opening = kept (office opening) OfficeInv
    record { counted = refl; few = λ _. omega arith; logged = omega arith; at_home = λ _. (opening, refl) }
    (λ es e all i. keeps_inv (run (office opening) es) e all.0.0 i all.0.1)

module _ (opening : ℕ) where
  draw_word : (n : ℕ) → Word (office opening) (Draw n) (λ k. (k + 1) % 2 ^ 64)
  draw_word n es all =
      let i = law_inv opening es all.1 in
      let count = i.counted in
      let a = i.few 0 in
      let b = i.few 1 in
      omega arith

  pub can_draw : (me : Me ℕ (View Worker)) (n : ℕ) → CanDraw me n → CanMake (office opening) (Draw n) me 0 (λ k. (k + 1) % 2 ^ 64)
  can_draw me n h = record { place = tt; word_is = refl; mine = h.1.0; holds = h.1.1; allowed = (h.0, h.1.2); changes = draw_word n }

  pub drew : (n : ℕ) (before : Me ℕ (View Worker)) (found : ℕ) (after : Me ℕ (View Worker)) → MadeStep (office opening) (Draw n) before found after → Drew n before found after
  drew n before found after m =
      let came = m.4 in
      let i = law_inv opening came.events came.allowed.1 in
      let logged = i.logged in
      let is = came.found_is in
      let noted = came.noted in
      (m.0, m.1, (omega arith), m.2, λ j. (m.3 j, came.carries j))

  pub can_total : (me : Me ℕ (View Worker)) → HasWorker me 0 → CanMake (office opening) (Total 0) me 0 (λ k. k)
  can_total me h = record { place = tt; word_is = refl; mine = h.1.0; holds = h.1.1; allowed = h.0; changes = λ es all. refl }

  pub total_same : (before : Me ℕ (View Worker)) (found : ℕ) (after : Me ℕ (View Worker)) → MadeStep (office opening) (Total 0) before found after → after ≡ before
  total_same before found after m = λ j. ((m.3 ∙ with_part-same before.0 0 m.1 m.2) j, m.4.carries j)

  -- a seat that holds both workers reads how many numbers they drew
  pub total_exact : (before : Me ℕ (View Worker)) (found : ℕ) (after : Me ℕ (View Worker)) → MadeStep (office opening) (Total 0) before found after → (p q : Worker) → part_in before.0 0 ≡ Some p → part_in before.0 1 ≡ Some q → found ≡ p.draws + q.draws
  total_exact before found after m p q first second =
      let came = m.4 in
      let i = law_inv opening came.events came.allowed.1 in
      sym came.found_is ∙ i.counted ∙ (λ j. (came.agreed 0 p first j).draws + (came.agreed 1 q second j).draws)

  exchanged : (b : Bool) (k : ℕ) → either b 1 k ≡ (if b then 1 else k)
  exchanged true k = refl
  exchanged false k = refl

  pub can_lock : (me : Me ℕ (View Worker)) (n : ℕ) → HasWorker me n → CanMake (office opening) (Lock n) me 1 (λ k. either (k == 0) 1 k)
  can_lock me n h = record { place = tt; word_is = refl; mine = h.1.0; holds = h.1.1; allowed = h.0; changes = λ es all. let k = (run (office opening) es).locked in exchanged (k == 0) k }

  -- who found the lock free has it, and the slot
  pub got : (n : ℕ) (before : Me ℕ (View Worker)) (found : ℕ) (after : Me ℕ (View Worker)) → MadeStep (office opening) (Lock n) before found after → found ≡ 0 → (y : ℕ) × Has n before y after
  got n before found after m free =
      let came = m.4 in
      let w = run (office opening) came.events in
      let home = (law_inv opening came.events came.allowed.1).at_home (came.found_is ∙ free) in
      let part : after.0 ≡ with_part before.0 n (record { draws = m.1.draws; heard = m.1.heard; holds = true }) = m.3 ∙ ap (λ k. with_part before.0 n (office_made (Lock n) k m.0 m.1)) free in
      let slot : after.1 ≡ (0, home.0) ∷ before.1 =
      came.carries ∙ ap (λ k. carried_after before.1 (if k == 0 then taking w.value else keeps)) (came.found_is ∙ free) ∙ ap (λ v. carried_after before.1 (taking v)) home.1 in
      (home.0, (m.1, m.2, λ j. (part j, slot j)))

  -- for who did not, nothing changed
  pub missed : (n : ℕ) (before : Me ℕ (View Worker)) (found : ℕ) (after : Me ℕ (View Worker)) → MadeStep (office opening) (Lock n) before found after → ¬ (found ≡ 0) → after ≡ before
  missed n before found after m held =
      let came = m.4 in
      let w = run (office opening) came.events in
      let part : after.0 ≡ before.0 =
      m.3 ∙ ap (λ b. with_part before.0 n (record { draws = m.1.draws; heard = m.1.heard; holds = (if b then true else m.1.holds) })) (ne_eqb found 0 held) ∙ with_part-same before.0 n m.1 m.2 in
      let slot : after.1 ≡ before.1 =
      came.carries ∙ ap (λ k. carried_after before.1 (if k == 0 then taking w.value else keeps)) came.found_is ∙ ap (λ b. carried_after before.1 (if b then taking w.value else keeps)) (ne_eqb found 0 held) in
      λ j. (part j, slot j)

  pub was_held : (n : ℕ) (before : Me ℕ (View Worker)) (found : ℕ) (after : Me ℕ (View Worker)) → MadeStep (office opening) (Lock n) before found after → ¬ (found ≡ 0) → WasHeld opening before.0
  was_held n before found after m held = let came = m.4 in (came.events, came.allowed.1, came.agreed, λ free. held (sym came.found_is ∙ free))

  pub can_unlock : (me : Me ℕ (View Worker)) (n y : ℕ) → CanUnlock me n → me.1 ≡ (0, y) ∷ [] → CanMake (office opening) (Unlock n y) me 1 (λ _. 0)
  can_unlock me n y h carries = record { place = tt; word_is = refl; mine = h.1.0; holds = h.1.1; allowed = (h.0, h.1.2, carries); changes = λ es all. refl }

  pub gave : (n y : ℕ) (before after : Me ℕ (View Worker)) → Stored (office opening) (Unlock n y) before after → before.1 ≡ (0, y) ∷ [] → Unlocked n before after
  gave n y before after m carries = let t = m.1 in let slot : after.1 ≡ [] = t.4.carries ∙ ap rest carries in (t.1, t.2, λ j. (t.3 j, slot j))

-- who has the lock may give it back
pub has_unlock : (n : ℕ) (before : Me ℕ (View Worker)) (value : ℕ) (after : Me ℕ (View Worker)) → n < 2 → before.1 ≡ [] → Has n before value after → CanUnlock after n
has_unlock n before value after small empty has =
    let q : Worker = record { draws = has.0.draws; heard = has.0.heard; holds = true } in
    let part : part_in after.0 n ≡ Some q = ap (λ (me : Me ℕ (View Worker)). part_in me.0 n) has.2 ∙ part_in-with_here before.0 n q has.0 has.1 in
    let slot : after.1 ≡ (0, value) ∷ [] = ap (λ (me : Me ℕ (View Worker)). me.1) has.2 ∙ ap (λ xs. (0, value) ∷ xs) empty in
    (small, (q, part, refl), (value, slot))

-- two workers that drew one number each, in seats of their own, and were put together
module _ (i j : ℕ) (a a' b b' : Me ℕ (View Worker)) (a-is : a ≡ (Some new_worker ∷ None ∷ [], [])) (b-is : b ≡ (None ∷ Some new_worker ∷ [], [])) (one : Drew 0 a i a') (other : Drew 1 b j b') where
  one_now : (q : Worker) × (q.draws ≡ 1) × (a'.0 ≡ Some q ∷ None ∷ [])
  one_now =
      let was : Some new_worker ≡ Some one.1 = sym (ap (λ (me : Me ℕ (View Worker)). part_in me.0 0) a-is) ∙ one.3 in
      let same : new_worker ≡ one.1 = cc in
      let q : Worker = record { draws = one.1.draws + 1; heard = one.0; holds = one.1.holds } in
      (q, ap (λ (w : Worker). w.draws + 1) (sym same), ap (λ (me : Me ℕ (View Worker)). me.0) one.4 ∙ ap (λ (me : Me ℕ (View Worker)). with_part me.0 0 q) a-is)

  other_now : (q : Worker) × (q.draws ≡ 1) × (b'.0 ≡ None ∷ Some q ∷ [])
  other_now =
      let was : Some new_worker ≡ Some other.1 = sym (ap (λ (me : Me ℕ (View Worker)). part_in me.0 1) b-is) ∙ other.3 in
      let same : new_worker ≡ other.1 = cc in
      let q : Worker = record { draws = other.1.draws + 1; heard = other.0; holds = other.1.holds } in
      (q, ap (λ (w : Worker). w.draws + 1) (sym same), ap (λ (me : Me ℕ (View Worker)). me.0) other.4 ∙ ap (λ (me : Me ℕ (View Worker)). with_part me.0 1 q) b-is)

  pub both_drew : (p : Worker) × (q : Worker) × (part_in (joined a'.0 b'.0) 0 ≡ Some p) × (part_in (joined a'.0 b'.0) 1 ≡ Some q) × (p.draws + q.draws ≡ 2)
  both_drew =
      let x = one_now in
      let y = other_now in
      let both : joined a'.0 b'.0 ≡ Some x.0 ∷ Some y.0 ∷ [] = λ k. joined (x.2 k) (y.2 k) in
      (x.0, y.0, ap (λ (v : View Worker). part_in v 0) both, ap (λ (v : View Worker). part_in v 1) both, λ k. x.1 k + y.1 k)
