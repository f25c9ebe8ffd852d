-- An event that is allowed keeps the rule: what each step call on the table owes.
use Rattle.std.proofs.Common.{◌≡◌, ℕ, List, [], ◌∷◌, Some, get_or, set, refl, sym, ap, ◌∙◌, subst, ⊎_elim, zero, suc}
use mathlib.Core.Logic.{dite}
use mathlib.Core.Option.{some, some-injective, some-ne-none}
use native.Mathlib.Decide.{ℕ_discrete}
use lib.ListN.{get_elem?}
use Rattle.atomic_table.specs.Table.{State, Me, Allows, Valid, stepped, homes_after}
use Rattle.atomic_table.proofs.Lists.{at_set, set_else}
use Rattle.mp_machine.specs.Machine.{Machine, run, MayCome, AllAllowed}
use Rattle.mp_machine.specs.View.{View, part_in, with_part}
use Rattle.mp_machine.specs.Rule.{Laws, Stands, Rule, CanMake, Word, Came, MadeStep, Stored, Backed}
use Rattle.mp_machine.proofs.Views.{part_in-with_here, part_in-with_else}

module _ {A : Type 0} where
  pub index_at : (l : List A) (i : ℕ) (a d : A) → get_elem? l i ≡ some a → get_or l i d ≡ a
  index_at [] i a d e = absurd (some-ne-none a (sym e))
  index_at (x ∷ xs) zero a d e = some-injective x a e
  index_at (x ∷ xs) (suc i) a d e = index_at xs i a d e

  pub set_there : (l : List A) (i : ℕ) (a b : A) → get_elem? l i ≡ some a → get_elem? (set l i b) i ≡ some b
  set_there [] i a b e = absurd (some-ne-none a (sym e))
  set_there (x ∷ xs) zero a b e = refl
  set_there (x ∷ xs) (suc i) a b e = set_there xs i a b e

module _ {Slot Part Event Place Note World : Type 0} (m : Machine Slot Part Event Place Note World) (l : Laws m) where
  -- the words after an event
  words_after : (es : List Event) (e : Event) → AllAllowed m (e ∷ es) → m.IsPlace (m.place_of e) → (f : ℕ → ℕ) → Word m e f → (t : State Slot (View Part)) → Stands m (run m es) t
      → (a : Place) → m.IsPlace a → get_elem? (set t.words (m.index (m.place_of e)) (f (get_or t.words (m.index (m.place_of e)) 0))) (m.index a) ≡ some (m.content (run m (e ∷ es)) a)
  words_after es e all placed f word t s a is =
      let i = m.index (m.place_of e) in
      let was = s.words (m.place_of e) placed in
      let new = f (get_or t.words i 0) in
      dite (ℕ_discrete (m.index a) i)
      (λ here.
      let same : a ≡ m.place_of e = l.apart a (m.place_of e) is placed here in
      let value : new ≡ m.content (run m (e ∷ es)) (m.place_of e) = ap f (index_at t.words i (m.content (run m es) (m.place_of e)) 0 was) ∙ word es all ∙ sym (l.content_here es e all) in
      subst (λ b. get_elem? (set t.words i new) (m.index b) ≡ some (m.content (run m (e ∷ es)) b)) (sym same)
      (set_there t.words i (m.content (run m es) (m.place_of e)) new was ∙ ap (λ (n : ℕ). some n) value))
      (λ there.
      set_else t.words i (m.index a) new there ∙ s.words a is ∙ ap (λ (n : ℕ). some n) (sym (l.content_else es e all a (λ same. there (ap m.index same)))))

  -- the parts that seats hold after an event
  held_after : (es : List Event) (e : Event) → AllAllowed m (e ∷ es) → (t : State Slot (View Part)) (s : Stands m (run m es) t) (id : ℕ) (v : View Part) (p : Part)
      → get_elem? t.views id ≡ some v → part_in v (m.node_of e) ≡ Some p → (q : Part) → q ≡ m.part (run m (e ∷ es)) (m.node_of e)
      → (seat : ℕ) (u : View Part) (n : ℕ) (r : Part) → get_elem? (set t.views id (with_part v (m.node_of e) q)) seat ≡ some u → part_in u n ≡ Some r → (seat ≡ s.seat_of n) × (m.part (run m (e ∷ es)) n ≡ r)
  held_after es e all t s id v p at has q is seat u n r there holds =
      let c = m.node_of e in
      let w = with_part v c q in
      let mine = s.held id v c p at has in
      ⊎_elim
      (λ (x : (seat ≡ id) × (w ≡ u)).
      let held : part_in w n ≡ Some r = subst (λ y. part_in y n ≡ Some r) (sym x.1) holds in
      dite (ℕ_discrete n c)
      (λ same.
      let new : part_in w n ≡ Some q = subst (λ k. part_in w k ≡ Some q) (sym same) (part_in-with_here v c q p has) in
      let value : q ≡ r = cc in
      (x.0 ∙ mine.0 ∙ ap s.seat_of (sym same), ap (m.part (run m (e ∷ es))) same ∙ sym is ∙ value))
      (λ other.
      let old = s.held id v n r at (sym (part_in-with_else v c n q other) ∙ held) in
      (x.0 ∙ old.0, l.part_else es e all n other ∙ old.1)))
      (λ (x : (¬ (seat ≡ id)) × (get_elem? t.views seat ≡ some u)).
      let old = s.held seat u n r x.1 holds in
      (old.0, l.part_else es e all n (λ same. x.0 (old.0 ∙ ap s.seat_of same ∙ sym mine.0)) ∙ old.1))
      (at_set t.views id seat w u there)

  -- the world after an allowed event stands behind the table after the step
  stands_after : (es : List Event) (e : Event) (carried : List (ℕ × Slot)) (may : MayCome m es carried e) (before : AllAllowed m es) → m.IsPlace (m.place_of e) → (f : ℕ → ℕ) → Word m e f
      → (t : State Slot (View Part)) (s : Stands m (run m es) t) (id : ℕ) (v : View Part) (p : Part) → get_elem? t.views id ≡ some v → part_in v (m.node_of e) ≡ Some p
      → (q : Part) → q ≡ m.part (run m (e ∷ es)) (m.node_of e)
      → Stands m (run m (e ∷ es)) (stepped t (m.index (m.place_of e)) (f (get_or t.words (m.index (m.place_of e)) 0)) id carried (with_part v (m.node_of e) q) (m.act (run m es) e))
  stands_after es e carried may before placed f word t s id v p at has q is =
      let all : AllAllowed m (e ∷ es) = ((carried, may), before) in
      record {
        words = words_after es e all placed f word t s;
        homes = ap (λ hs. homes_after hs carried (m.act (run m es) e)) s.homes ∙ sym (l.homes_here es e carried may before);
        seat_of = s.seat_of;
        held = held_after es e all t s id v p at has q is;
      }

  steps_at : (e : Event) (me : Me Slot (View Part)) (f : ℕ → ℕ) → m.IsPlace (m.place_of e) → (p : Part) → part_in me.0 (m.node_of e) ≡ Some p → m.Allowed p me.1 e → Word m e f
      → (slots id : ℕ) → Allows (Rule m) slots id me (m.index (m.place_of e)) f (MadeStep m e me)
  steps_at e me f placed p has may word slots id t rule long at small =
      let es = rule.0 in
      let before = rule.1 in
      let s = rule.2 in
      let mine = s.held id me.0 (m.node_of e) p at has in
      let may' : MayCome m es me.1 e = subst (λ q. m.Allowed q me.1 e) (sym mine.1) may in
      let all : AllAllowed m (e ∷ es) = ((me.1, may'), before) in
      let i = m.index (m.place_of e) in
      let found : get_or t.words i 0 ≡ m.content (run m es) (m.place_of e) = index_at t.words i (m.content (run m es) (m.place_of e)) 0 (s.words (m.place_of e) placed) in
      let x = m.note (run m es) e in
      let q = m.made e (get_or t.words i 0) x p in
      let is : q ≡ m.part (run m (e ∷ es)) (m.node_of e) = (λ k. m.made e (found k) x (sym mine.1 k)) ∙ sym (l.part_here es e all) in
      let now = stands_after es e me.1 may' before placed f word t s id me.0 p at has q is in
      let act = m.act (run m es) e in (
        with_part me.0 (m.node_of e) q,
        act,
        subst (λ hs. Valid hs me.1 act) (sym s.homes) (l.acts es e me.1 may' before),
        (e ∷ es, all, now),
        (
          x,
          p,
          has,
          refl,
          record {
            events = es;
            allowed = all;
            found_is = sym found;
            noted = refl;
            agreed = λ n r held. (s.held id me.0 n r at held).1;
            agrees = λ n r held. (now.held id (with_part me.0 (m.node_of e) q) n r (set_there t.views id me.0 (with_part me.0 (m.node_of e) q) at) held).1;
            carries = refl;
          },
        ),
      )

  -- the adapter: what a step owes, of an event that the seat can make by it
  pub steps : (e : Event) (me : Me Slot (View Part)) (word : ℕ) (f : ℕ → ℕ) → CanMake m e me word f → (slots id : ℕ) → Allows (Rule m) slots id me word f (MadeStep m e me)
  steps e me word f can slots id = subst (λ i. Allows (Rule m) slots id me i f (MadeStep m e me)) (sym can.word_is) (steps_at e me f can.place can.mine can.holds can.allowed can.changes slots id)

  -- the same for a store, which tells nothing of the word found
  pub stores : (e : Event) (me : Me Slot (View Part)) (word new : ℕ) → CanMake m e me word (λ _. new) → (slots id : ℕ) → Allows (Rule m) slots id me word (λ _. new) (λ _. Stored m e me)
  stores e me word new can slots id t rule long at small =
      let done = steps e me word (λ _. new) can slots id t rule long at small in
      (done.0, done.1, done.2, done.3, (get_or t.words word 0, done.4))

-- What a step told is enough for any law on allowed events: before the event and after it
module _ {Slot Part Event Place Note World : Type 0} (m : Machine Slot Part Event Place Note World) where
  pub held_before : (P : World → Type 0) → ((es : List Event) → AllAllowed m es → P (run m es)) → (e : Event) (before : Me Slot (View Part)) (found : ℕ) (x : Note) (after : Me Slot (View Part))
      → (came : Came m e before found x after) → P (run m came.events)
  held_before P law e before found x after came = law came.events came.allowed.1

  pub held_after_it : (P : World → Type 0) → ((es : List Event) → AllAllowed m es → P (run m es)) → (e : Event) (before : Me Slot (View Part)) (found : ℕ) (x : Note) (after : Me Slot (View Part))
      → (came : Came m e before found x after) → P (run m (e ∷ came.events))
  held_after_it P law e before found x after came = law (e ∷ came.events) came.allowed

  -- the seat is backed after its step
  pub backed : (e : Event) (before : Me Slot (View Part)) (found : ℕ) (after : Me Slot (View Part)) → MadeStep m e before found after → Backed m after.0
  backed e before found after made = let came = made.4 in (e ∷ came.events, came.allowed, came.agrees)

-- the adapter for a family of machines, at the opening that a turn names
module _ {Slot Part Event Place Note World Opening : Type 0} (machine : Opening → Machine Slot Part Event Place Note World) (laws : (o : Opening) → Laws (machine o)) where
  pub turns : (o key : Opening) → o ≡ key → (e : Event) (me : Me Slot (View Part)) (word : ℕ) (f : ℕ → ℕ) → CanMake (machine o) e me word f
      → (slots id : ℕ) → Allows (Rule (machine key)) slots id me word f (MadeStep (machine o) e me)
  turns o key same e me word f can slots id = subst (λ k. Allows (Rule (machine k)) slots id me word f (MadeStep (machine o) e me)) same (steps (machine o) (laws o) e me word f can slots id)

  pub turns_by_store : (o key : Opening) → o ≡ key → (e : Event) (me : Me Slot (View Part)) (word new : ℕ) → CanMake (machine o) e me word (λ _. new)
      → (slots id : ℕ) → Allows (Rule (machine key)) slots id me word (λ _. new) (λ _. Stored (machine o) e me)
  turns_by_store o key same e me word new can slots id = subst (λ k. Allows (Rule (machine k)) slots id me word (λ _. new) (λ _. Stored (machine o) e me)) same (stores (machine o) (laws o) e me word new can slots id)
