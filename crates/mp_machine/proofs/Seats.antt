-- The rule at the opening, at a split, at a join, at a look and at the close.
use Rattle.std.proofs.Common.{◌≡◌, ℕ, ◌⊎◌, List, [], ◌∷◌, ◌++◌, Option, None, Some, Bool, true, false, not, ◌&&◌, if◌then◌else◌, eqb, get_or, set, length, refl, sym, ap, ◌∙◌, subst, inl, inr, ⊎_elim, zero, suc, eq-eqb, ne_eqb}
use mathlib.Core.Option.{some, some-injective, some-ne-none}
use lib.ListN.{get_elem?}
use lib.Seq.{set-get_or}
use Rattle.atomic_table.specs.Table.{State, Me, Allows, Splits, Joins, Final, Seen, keeps, opening}
use Rattle.atomic_table.proofs.Lists.{at_set, set_again}
use Rattle.mp_machine.specs.Machine.{Machine, run}
use Rattle.mp_machine.specs.View.{View, part_in, only, without, either_part, joined}
use Rattle.mp_machine.specs.Rule.{Stands, Opens, all_parts, Rule, Looked, Ends}
use Rattle.mp_machine.proofs.Views.{part_in-only, part_in-joined, Agrees-whole}

module _ {A : Type 0} where
  at_end : (l : List A) (a b : A) (j : ℕ) → get_elem? (l ++ a ∷ []) j ≡ some b → (get_elem? l j ≡ some b) ⊎ ((j ≡ length l) × (a ≡ b))
  at_end [] a b zero e = inr (refl, some-injective a b e)
  at_end [] a b (suc j) e = absurd (some-ne-none b (sym e))
  at_end (x ∷ xs) a b zero e = inl e
  at_end (x ∷ xs) a b (suc j) e = ⊎_elim (λ t. inl t) (λ t. inr (ap suc t.0, t.1)) (at_end xs a b j e)

  -- which half of a cut has a part
  passes : (b : Bool) (o : Option A) (r : A) → (if b then o else None) ≡ Some r → (b ≡ true) × (o ≡ Some r)
  passes true o r e = (refl, e)
  passes false o r e = absurd (cc)

  fails : (b : Bool) (o : Option A) (r : A) → (if not b then o else None) ≡ Some r → (b ≡ false) × (o ≡ Some r)
  fails true o r e = absurd (cc)
  fails false o r e = (refl, e)

  -- which of two views has a part
  from_either : (x y : Option A) (r : A) → either_part x y ≡ Some r → (x ≡ Some r) ⊎ (y ≡ Some r)
  from_either (Some p) y r e = inl e
  from_either None y r e = inr e

-- which seat has a node's part once a seat's parts of the tested nodes went to a new seat
abbrev split_owner : (ℕ → Bool) → ℕ → ℕ → (ℕ → ℕ) → ℕ → ℕ
split_owner test id new owner n = if test n && eqb (owner n) id then new else owner n

never : (b : Bool) (x y : ℕ) → (if b && false then x else y) ≡ y
never true x y = refl
never false x y = refl

stays : (test : ℕ → Bool) (id new : ℕ) (owner : ℕ → ℕ) (n : ℕ) → (test n ≡ false) ⊎ (¬ (owner n ≡ id)) → split_owner test id new owner n ≡ owner n
stays test id new owner n h =
    ⊎_elim
    (λ (e : test n ≡ false). ap (λ b. if b && eqb (owner n) id then new else owner n) e)
    (λ (d : ¬ (owner n ≡ id)). ap (λ b. if test n && b then new else owner n) (ne_eqb (owner n) id d) ∙ never (test n) new (owner n))
    h

moves : (test : ℕ → Bool) (id new : ℕ) (owner : ℕ → ℕ) (n : ℕ) → test n ≡ true → owner n ≡ id → split_owner test id new owner n ≡ new
moves test id new owner n passed mine = ap (λ b. if b && eqb (owner n) id then new else owner n) passed ∙ ap (λ b. if b then new else owner n) (eq-eqb (owner n) id mine)

-- which seat has it once a seat took in all parts of another
abbrev join_owner : ℕ → ℕ → (ℕ → ℕ) → ℕ → ℕ
join_owner id other owner n = if eqb (owner n) other then id else owner n

taken : (id other : ℕ) (owner : ℕ → ℕ) (n : ℕ) → owner n ≡ other → join_owner id other owner n ≡ id
taken id other owner n e = ap (λ b. if b then id else owner n) (eq-eqb (owner n) other e)

left_alone : (id other : ℕ) (owner : ℕ → ℕ) (n : ℕ) → ¬ (owner n ≡ other) → join_owner id other owner n ≡ owner n
left_alone id other owner n d = ap (λ b. if b then id else owner n) (ne_eqb (owner n) other d)

module _ {Slot Part Event Place Note World : Type 0} (m : Machine Slot Part Event Place Note World) where
  pub opens : (words : List ℕ) (slots : List Slot) → Opens m words slots → Rule m (opening words slots (all_parts m))
  opens words slots o = ([], tt, record { words = o.words_are; homes = o.slots_are; seat_of = λ _. 0; held = one })
    where
      one : (seat : ℕ) (v : View Part) (n : ℕ) (p : Part) → get_elem? (all_parts m ∷ []) seat ≡ some v → part_in v n ≡ Some p → (seat ≡ 0) × (m.part m.start n ≡ p)
      one zero v n p e has = (refl, Agrees-whole (m.part m.start) m.nodes n p (subst (λ u. part_in u n ≡ Some p) (sym (some-injective _ _ e)) has))
      one (suc seat) v n p e has = absurd (some-ne-none v (sym e))

  -- no two seats hold one part
  pub one_holder : (w : World) (t : State Slot (View Part)) → Stands m w t → (i j : ℕ) (v u : View Part) (n : ℕ) (p q : Part) → get_elem? t.views i ≡ some v → get_elem? t.views j ≡ some u → part_in v n ≡ Some p → part_in u n ≡ Some q → i ≡ j
  one_holder w t s i j v u n p q first second has holds = (s.held i v n p first has).0 ∙ sym (s.held j u n q second holds).0

  pub splits : (test : ℕ → Bool) (id : ℕ) (v : View Part) → Splits (Rule m) id v (without test v) (only test v)
  splits test id v t rule at =
      let s = rule.2 in
      let lefts = set t.views id (without test v) in
      let new = length lefts in (
        rule.0,
        rule.1,
        record {
          words = s.words;
          homes = s.homes;
          seat_of = split_owner test id new s.seat_of;
          held = λ seat u n r there holds.
              ⊎_elim
              (λ (old : get_elem? lefts seat ≡ some u).
              ⊎_elim
              (λ (mine : (seat ≡ id) × (without test v ≡ u)).
              let half = fails (test n) (part_in v n) r (sym (part_in-only (λ k. not (test k)) v n) ∙ ap (λ y. part_in y n) mine.1 ∙ holds) in
              let was = s.held id v n r at half.1 in
              (mine.0 ∙ was.0 ∙ sym (stays test id new s.seat_of n (inl half.0)), was.1))
              (λ (other : (¬ (seat ≡ id)) × (get_elem? t.views seat ≡ some u)).
              let was = s.held seat u n r other.1 holds in
              (was.0 ∙ sym (stays test id new s.seat_of n (inr (λ e. other.0 (was.0 ∙ e)))), was.1))
              (at_set t.views id seat (without test v) u old))
              (λ (fresh : (seat ≡ new) × (only test v ≡ u)).
              let half = passes (test n) (part_in v n) r (sym (part_in-only test v n) ∙ ap (λ y. part_in y n) fresh.1 ∙ holds) in
              let was = s.held id v n r at half.1 in
              (fresh.0 ∙ sym (moves test id new s.seat_of n half.0 (sym was.0)), was.1))
              (at_end lefts (only test v) u seat there);
        },
      )

  pub joins : (id : ℕ) (v : View Part) (other : ℕ) (w : View Part) → Joins (Rule m) id v other w (joined v w) []
  joins id v other w t rule at apart there =
      let s = rule.2 in
      let both = set t.views id (joined v w) in
      let theirs : get_elem? t.views other ≡ some w = ⊎_elim (λ (x : (other ≡ id) × (joined v w ≡ w)). absurd (apart x.0)) (λ (x : (¬ (other ≡ id)) × (get_elem? t.views other ≡ some w)). x.1) (at_set t.views id other (joined v w) w there) in (
        rule.0,
        rule.1,
        record {
          words = s.words;
          homes = s.homes;
          seat_of = join_owner id other s.seat_of;
          held = λ seat u n r found holds.
              ⊎_elim
              (λ (spent : (seat ≡ other) × ([] ≡ u)). let none : part_in [] n ≡ Some r = ap (λ (y : View Part). part_in y n) spent.1 ∙ holds in absurd (cc))
              (λ (x : (¬ (seat ≡ other)) × (get_elem? both seat ≡ some u)).
              ⊎_elim
              (λ (mine : (seat ≡ id) × (joined v w ≡ u)).
              ⊎_elim
              (λ (first : part_in v n ≡ Some r).
              let was = s.held id v n r at first in
              (mine.0 ∙ was.0 ∙ sym (left_alone id other s.seat_of n (λ e. apart (sym e ∙ sym was.0))), was.1))
              (λ (second : part_in w n ≡ Some r).
              let was = s.held other w n r theirs second in
              (mine.0 ∙ sym (taken id other s.seat_of n (sym was.0)), was.1))
              (from_either (part_in v n) (part_in w n) r (sym (part_in-joined v w n) ∙ ap (λ y. part_in y n) mine.1 ∙ holds)))
              (λ (old : (¬ (seat ≡ id)) × (get_elem? t.views seat ≡ some u)).
              let was = s.held seat u n r old.1 holds in
              (was.0 ∙ sym (left_alone id other s.seat_of n (λ e. x.0 (was.0 ∙ e))), was.1))
              (at_set t.views id seat (joined v w) u x.1))
              (at_set both other seat [] u found);
        },
      )

  -- any load may be a look: the rule stays, and some world that can be reached agrees with the view
  pub looks : (slots id i : ℕ) (me : Me Slot (View Part)) → Allows (Rule m) slots id me i (λ n. n) (λ _. Looked m me)
  looks slots id i me t rule long at small =
      let s = rule.2 in
      let same : State Slot (View Part) = record { words = set t.words i (get_or t.words i 0); homes = t.homes; views = set t.views id me.0 } in
      let is : t ≡ same = λ k. record { words = sym (set-get_or t.words i 0) k; homes = t.homes; views = sym (set_again t.views id me.0 at) k } in
      (me.0, keeps, tt, (rule.0, rule.1, subst (Stands m (run m rule.0)) is s), (refl, (rule.0, rule.1, λ n p has. (s.held id me.0 n p at has).1)))

  pub ends : (id : ℕ) (v : View Part) (words : List ℕ) (slots : List Slot) → Final (Seen (Rule m) id v) words slots → Ends m words slots v
  ends id v words slots f =
      let t = f.0 in
      let rule = f.1.0 in
      let s = rule.2 in
      record {
        events = rule.0;
        allowed = rule.1;
        agrees = λ n p has. (s.held id v n p f.1.1 has).1;
        words_are = λ a is. subst (λ ws. get_elem? ws (m.index a) ≡ some (m.content (run m rule.0) a)) f.2 (s.words a is);
        slots_are = λ k y home. f.4 k y (ap (λ hs. get_elem? hs k) s.homes ∙ home);
      }

-- the look for a family of machines, at the opening that a turn names
module _ {Slot Part Event Place Note World Opening : Type 0} (machine : Opening → Machine Slot Part Event Place Note World) where
  pub looks_at : (o key : Opening) → o ≡ key → (slots id i : ℕ) (me : Me Slot (View Part)) → Allows (Rule (machine key)) slots id me i (λ n. n) (λ _. Looked (machine o) me)
  looks_at o key same slots id i me = subst (λ k. Allows (Rule (machine k)) slots id me i (λ n. n) (λ _. Looked (machine o) me)) same (looks (machine o) slots id i me)
