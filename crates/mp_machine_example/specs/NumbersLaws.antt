-- The example's machine has the laws.
use Rattle.std.proofs.Common.{◌≡◌, ℕ, List, [], ◌∷◌, length, Bool, true, false, ◌==◌, if◌then◌else◌, refl, sym, ap, subst, arith, eq-eqb, ne_eqb}
use mathlib.Core.Option.{Option, none, some}
use Rattle.atomic_table.specs.Table.{Valid, homes_after, keeps, gives}
use Rattle.mp_machine.specs.Machine.{run}
use Rattle.mp_machine.specs.Rule.{Laws}
use Rattle.mp_machine_example.specs.declared.system.Worker.{Worker}
use Rattle.mp_machine_example.specs.declared.system.Event.{Event}
use Rattle.mp_machine_example.specs.declared.system.Event.TheVariants.{Draw, Total, Lock, Unlock}
use Rattle.mp_machine_example.specs.Numbers.{OfficePlace, counter, lock, OfficeWorld, office_content, office_index, office_node_of, office_place_of, office_word_after, taking, office_act, office_made, OfficeAllows, with_worker, office_after, office}

pub worker_here : (f : ℕ → Worker) (n : ℕ) (p : Worker) → with_worker f n p n ≡ p
worker_here f n p = ap (λ b. if b then p else f n) (eq-eqb n n refl)

pub worker_else : (f : ℕ → Worker) (n k : ℕ) (p : Worker) → ¬ (k ≡ n) → with_worker f n p k ≡ f k
worker_else f n k p d = ap (λ b. if b then p else f k) (ne_eqb k n d)

apart : (a b : OfficePlace) → office_index a ≡ office_index b → a ≡ b
apart counter counter e = refl
apart counter lock e = absurd (omega arith)
apart lock counter e = absurd (omega arith)
apart lock lock e = refl

content_here : (w : OfficeWorld) (e : Event) → office_content (office_after w e) (office_place_of e) ≡ office_word_after e (office_content w (office_place_of e))
content_here w (Draw n) = refl
content_here w (Total n) = refl
content_here w (Lock n) = refl
content_here w (Unlock n y) = refl

content_else : (w : OfficeWorld) (e : Event) (a : OfficePlace) → ¬ (a ≡ office_place_of e) → office_content (office_after w e) a ≡ office_content w a
content_else w (Draw n) counter d = absurd (d refl)
content_else w (Draw n) lock d = refl
content_else w (Total n) counter d = refl
content_else w (Total n) lock d = refl
content_else w (Lock n) counter d = refl
content_else w (Lock n) lock d = absurd (d refl)
content_else w (Unlock n y) counter d = refl
content_else w (Unlock n y) lock d = absurd (d refl)

takes_valid : (b : Bool) (v : Option ℕ) (c : List (ℕ × ℕ)) → Valid (v ∷ []) c (if b then taking v else keeps)
takes_valid true (some y) c = refl
takes_valid true none c = tt
takes_valid false v c = tt

takes_home : (b : Bool) (v : Option ℕ) (c : List (ℕ × ℕ)) → (if b then none else v) ∷ [] ≡ homes_after (v ∷ []) c (if b then taking v else keeps)
takes_home true (some y) c = refl
takes_home true none c = refl
takes_home false v c = refl

acts : (w : OfficeWorld) (e : Event) (c : List (ℕ × ℕ)) → Valid (w.value ∷ []) c (office_act w e)
acts w (Draw n) c = tt
acts w (Total n) c = tt
acts w (Lock n) c = takes_valid (w.locked == 0) w.value c
acts w (Unlock n y) c = tt

homes_here : (w : OfficeWorld) (e : Event) (c : List (ℕ × ℕ)) → OfficeAllows (w.worker (office_node_of e)) c e → (office_after w e).value ∷ [] ≡ homes_after (w.value ∷ []) c (office_act w e)
homes_here w (Draw n) c h = refl
homes_here w (Total n) c h = refl
homes_here w (Lock n) c h = takes_home (w.locked == 0) w.value c
homes_here w (Unlock n y) c h = subst (λ xs. some y ∷ [] ≡ homes_after (w.value ∷ []) xs gives) (sym h.2) refl

pub office_laws : (opening : ℕ) → Laws (office opening)
office_laws opening = record {
  apart = λ a b _ _ same. apart a b same;
  part_here = λ es e all. let w = run (office opening) es in worker_here w.worker (office_node_of e) (office_made e (office_content w (office_place_of e)) (length w.history) (w.worker (office_node_of e)));
  part_else = λ es e all n d. let w = run (office opening) es in worker_else w.worker (office_node_of e) n (office_made e (office_content w (office_place_of e)) (length w.history) (w.worker (office_node_of e))) d;
  content_here = λ es e all. content_here (run (office opening) es) e;
  content_else = λ es e all. content_else (run (office opening) es) e;
  acts = λ es e carried may all. acts (run (office opening) es) e carried;
  homes_here = λ es e carried may all. homes_here (run (office opening) es) e carried may;
}
