-- What a scan of tries has seen up to a place, and what marks that are forgotten leave.
use Rattle.std.proofs.Common.{◌≡◌, ℕ, zero, suc, ◌<◌, ◌≤◌, ◌==◌, ◌||◌, ◌⊎◌, Bool, true, false, List, [], ◌∷◌, length, map, take, drop, if◌then◌else◌, Option, None, Some, refl, sym, ap, subst, ◌∙◌, inl, inr, ⊎_elim, arith}
use Rattle.std.specs.List.{slice_get, slice_set, AllByRecursion}
use Rattle.std.proofs.lemmas.Option.{slice_get_within}
use Rattle.mp_machine.specs.Lists.{IsIn}
use Rattle.mp_schedule.specs.declared.schedule.Try.{Try}
use Rattle.mp_schedule.specs.declared.schedule.TryState.TheVariants.{Free, Waiting, Over}
use Rattle.mp_schedule.specs.declared.schedule.Next.TheVariants as nexts
use Rattle.mp_schedule.specs.Schedules.{free_try, is_left, has_left, MayBeTried, NoneMayBeTried, SomeWaits, ComesNext, IsNextWithin, HasSessions, without_mark}

or_false : (b : Bool) → (b || false) ≡ b
or_false true = refl
or_false false = refl

pub record ScannedTo (tries : List Try) (place : ℕ) (busy : List Bool) (waits : Bool) : Type 0 where
  pub busy_are : (s : ℕ) → s < 256 → slice_get busy s ≡ Some (has_left s (take place tries))
  pub none : NoneMayBeTried place tries
  pub waits_is : ((waits ≡ true) × SomeWaits tries) ⊎ ((waits ≡ false) × AllByRecursion (λ t. t.state ≡ Over) (take place tries))

pub scanned_so : (tries : List Try) (place next : ℕ) (busy now : List Bool) (waits waited : Bool) → next ≡ suc place → now ≡ busy → waited ≡ waits → ScannedTo tries (suc place) busy waits → ScannedTo tries next now waited
scanned_so tries place next busy now waits waited place_is busy_is waits_is scan =
    subst (λ k. ScannedTo tries k now waited) (sym place_is) (subst (λ b. ScannedTo tries (suc place) b waited) (sym busy_is) (subst (ScannedTo tries (suc place) busy) (sym waits_is) scan))

-- ---- one try more

-- a try of this session that is left
abbrev is_own_left : ℕ → Try → Bool
is_own_left s t = if t.session == s then is_left t.state else false

no_item : {T : Type 0} (x : T) → ◌≡◌ {A = Option T} None (Some x) → ⊥
no_item x e = cc

left_more : (s : ℕ) (tries : List Try) (p : ℕ) (t : Try) → slice_get tries p ≡ Some t → has_left s (take (suc p) tries) ≡ (has_left s (take p tries) || is_own_left s t)
left_more s [] p t is = absurd (no_item t is)
left_more s (x ∷ tries) zero t is = let same : x ≡ t = cc in go (is_own_left s x) refl same
  where
    go : (b : Bool) → is_own_left s x ≡ b → x ≡ t → (is_own_left s x || false) ≡ is_own_left s t
    go true e same = rw e (sym (ap (is_own_left s) (sym same) ∙ e))
    go false e same = rw e (sym (ap (is_own_left s) (sym same) ∙ e))
left_more s (x ∷ tries) (suc p) t is = go (is_own_left s x) refl (left_more s tries p t is)
  where
    go : (b : Bool) → is_own_left s x ≡ b → has_left s (take (suc p) tries) ≡ (has_left s (take p tries) || is_own_left s t) → (is_own_left s x || has_left s (take (suc p) tries)) ≡ ((is_own_left s x || has_left s (take p tries)) || is_own_left s t)
    go true e rest = rw e refl
    go false e rest = rw e rest

all_more : (tries : List Try) (p : ℕ) (t : Try) → slice_get tries p ≡ Some t → t.state ≡ Over → AllByRecursion (λ x. x.state ≡ Over) (take p tries) → AllByRecursion (λ x. x.state ≡ Over) (take (suc p) tries)
all_more [] p t is over all = absurd (no_item t is)
all_more (x ∷ tries) zero t is over all = let same : x ≡ t = cc in (ap (λ (y : Try). y.state) same ∙ over, tt)
all_more (x ∷ tries) (suc p) t is over all = (all.0, all_more tries p t is over all.1)

pub over_left : (s : ℕ) (tries : List Try) → AllByRecursion (λ x. x.state ≡ Over) tries → has_left s tries ≡ false
over_left s [] all = refl
over_left s (x ∷ tries) all = go (x.session == s) refl (over_left s tries all.1)
  where
    go : (b : Bool) → (x.session == s) ≡ b → has_left s tries ≡ false → has_left s (x ∷ tries) ≡ false
    go true e rest = rw e (rw (all.0) rest)
    go false e rest = rw e rest

item_in : (tries : List Try) (p : ℕ) (t : Try) → slice_get tries p ≡ Some t → IsIn t tries
item_in [] p t is = absurd (no_item t is)
item_in (x ∷ tries) zero t is = inl cc
item_in (x ∷ tries) (suc p) t is = inr (item_in tries p t is)

true_not_false : true ≡ false → ⊥
true_not_false e = cc

module _ (tries : List Try) (p : ℕ) (busy : List Bool) (waits : Bool) (scan : ScannedTo tries p busy waits) (t : Try) (at : slice_get tries p ≡ Some t) (small : t.session < 256) where
  none_more : (t.state ≡ Free → has_left t.session (take p tries) ≡ true) → NoneMayBeTried (suc p) tries
  none_more blocked place session below may = ⊎_elim
      (λ (same : place ≡ p).
      let found : Some t ≡ Some (free_try session) = sym at ∙ subst (λ k. slice_get tries k ≡ Some (free_try session)) same may.found in
      let is : t ≡ free_try session = cc in
      let state : t.state ≡ Free = ap (λ (x : Try). x.state) is in
      let own : t.session ≡ session = ap (λ (x : Try). x.session) is in
      true_not_false (sym (blocked state) ∙ ap (λ s. has_left s (take p tries)) own ∙ subst (λ k. has_left session (take k tries) ≡ false) same may.in_turn))
      (λ (less : place < p). scan.none place session less may)
      (equal_or_below place p below)
    where
      equal_or_below : (a b : ℕ) → a < suc b → (a ≡ b) ⊎ (a < b)
      equal_or_below a b less = grind arith

  pub scanned_over : t.state ≡ Over → ScannedTo tries (suc p) busy waits
  scanned_over over = record {
    busy_are = λ s within. scan.busy_are s within ∙ ap (λ b. Some b) (sym (left_more s tries p t at ∙ not_left s));
    none = none_more (λ free. absurd (over_not_free (sym over ∙ free)));
    waits_is = ⊎_elim (λ w. inl w) (λ v. inr (v.0, all_more tries p t at over v.1)) scan.waits_is;
  }
    where
      over_not_free : Over ≡ Free → ⊥
      over_not_free e = cc

      not_left : (s : ℕ) → (has_left s (take p tries) || is_own_left s t) ≡ has_left s (take p tries)
      not_left s = go (t.session == s) refl (has_left s (take p tries)) refl
        where
          go : (b : Bool) → (t.session == s) ≡ b → (h : Bool) → has_left s (take p tries) ≡ h → (has_left s (take p tries) || is_own_left s t) ≡ has_left s (take p tries)
          go true e true h = rw (h) refl
          go true e false h = rw (h, e, over) refl
          go false e true h = rw (h) refl
          go false e false h = rw (h, e) refl

  pub may_be_tried : t.state ≡ Free → slice_get busy t.session ≡ Some false → MayBeTried tries p t.session
  may_be_tried free idle = record {
    found = at ∙ ap (λ (x : Try). Some x) (is_free t free);
    in_turn = let e = sym (scan.busy_are t.session small) ∙ idle in cc;
  }
    where
      is_free : (x : Try) → x.state ≡ Free → x ≡ free_try x.session
      is_free x e = λ i. record { session = x.session; state = e i }

  -- a try whose session has one left before it
  pub scanned_behind : t.state ≡ Free → slice_get busy t.session ≡ Some true → ScannedTo tries (suc p) busy waits
  scanned_behind free busy_now =
      let left : has_left t.session (take p tries) ≡ true = let e = sym (scan.busy_are t.session small) ∙ busy_now in cc in
      record {
        busy_are = λ s within. scan.busy_are s within ∙ ap (λ b. Some b) (sym (left_more s tries p t at ∙ was_left s left));
        none = none_more (λ still. left);
        waits_is = ⊎_elim (λ w. inl w) (λ v. absurd (true_not_false (sym left ∙ over_left t.session (take p tries) v.1))) scan.waits_is;
      }
    where
      was_left : (s : ℕ) → has_left t.session (take p tries) ≡ true → (has_left s (take p tries) || is_own_left s t) ≡ has_left s (take p tries)
      was_left s left = go (t.session == s) refl (has_left s (take p tries)) refl
        where
          go : (b : Bool) → (t.session == s) ≡ b → (h : Bool) → has_left s (take p tries) ≡ h → (has_left s (take p tries) || is_own_left s t) ≡ has_left s (take p tries)
          go b e true h = rw (h) refl
          go false e false h = rw (h, e) refl
          go true e false h = let same : t.session ≡ s = grind arith in absurd (true_not_false (sym left ∙ ap (λ k. has_left k (take p tries)) same ∙ h))

  pub scanned_waiting : t.state ≡ Waiting → ScannedTo tries (suc p) (slice_set busy t.session true) true
  scanned_waiting waiting = record {
    busy_are = busy_now;
    none = none_more (λ free. absurd (waiting_not_free (sym waiting ∙ free)));
    waits_is = inl (refl, (t, item_in tries p t at, waiting));
  }
    where
      waiting_not_free : Waiting ≡ Free → ⊥
      waiting_not_free e = cc

      set_same : (l : List Bool) (i : ℕ) (b x : Bool) → slice_get l i ≡ Some b → slice_get (slice_set l i x) i ≡ Some x
      set_same [] i b x is = absurd (no_item b is)
      set_same (y ∷ l) zero b x is = refl
      set_same (y ∷ l) (suc i) b x is = set_same l i b x is

      set_other : (l : List Bool) (i j : ℕ) (x : Bool) → (i == j) ≡ false → slice_get (slice_set l i x) j ≡ slice_get l j
      set_other [] i j x ne = refl
      set_other (y ∷ l) zero zero x ne = absurd (cc)
      set_other (y ∷ l) zero (suc j) x ne = refl
      set_other (y ∷ l) (suc i) zero x ne = refl
      set_other (y ∷ l) (suc i) (suc j) x ne = set_other l i j x (let less : (i == j) ≡ false = grind arith in less)

      busy_now : (s : ℕ) → s < 256 → slice_get (slice_set busy t.session true) s ≡ Some (has_left s (take (suc p) tries))
      busy_now s within = go (t.session == s) refl (has_left s (take p tries)) refl (left_more s tries p t at)
        where
          go : (b : Bool) → (t.session == s) ≡ b → (h : Bool) → has_left s (take p tries) ≡ h → has_left s (take (suc p) tries) ≡ (has_left s (take p tries) || is_own_left s t) → slice_get (slice_set busy t.session true) s ≡ Some (has_left s (take (suc p) tries))
          go false e h is more = set_other busy t.session s true e ∙ scan.busy_are s within ∙ ap (λ b. Some b) (sym (more ∙ rw e (or_false (has_left s (take p tries)))))
          go true e true is more = let same : t.session ≡ s = grind arith in subst (λ k. slice_get (slice_set busy k true) s ≡ Some (has_left s (take (suc p) tries))) (sym same) (set_same busy s (has_left s (take p tries)) true (scan.busy_are s within) ∙ ap (λ b. Some b) (sym (more ∙ rw is refl)))
          go true e false is more = let same : t.session ≡ s = grind arith in subst (λ k. slice_get (slice_set busy k true) s ≡ Some (has_left s (take (suc p) tries))) (sym same) (set_same busy s (has_left s (take p tries)) true (scan.busy_are s within) ∙ ap (λ b. Some b) (sym (more ∙ rw (is, e, waiting) refl)))

-- ---- at the end

take_all : (tries : List Try) → take (length tries) tries ≡ tries
take_all [] = refl
take_all (x ∷ tries) = ap (λ (l : List Try). x ∷ l) (take_all tries)

module _ (tries : List Try) (busy : List Bool) (waits : Bool) (scan : ScannedTo tries (length tries) busy waits) where
  pub forgets : waits ≡ true → ComesNext tries nexts.Forget
  forgets some = (⊎_elim (λ w. w.1) (λ v. absurd (true_not_false (sym some ∙ v.0))) scan.waits_is, scan.none)

  pub is_over : waits ≡ false → ComesNext tries nexts.Over
  is_over none = ⊎_elim (λ w. absurd (true_not_false (sym w.0 ∙ none))) (λ all. subst (AllByRecursion (λ t. t.state ≡ Over)) (take_all tries) all.1) scan.waits_is

-- ---- marks that are forgotten

pub forgotten_more : (old now : List Try) (p : ℕ) (t : Try) → slice_get now p ≡ Some t → take p now ≡ map without_mark (take p old) → drop p now ≡ drop p old
    → (take (suc p) (slice_set now p (without_mark t)) ≡ map without_mark (take (suc p) old)) × (drop (suc p) (slice_set now p (without_mark t)) ≡ drop (suc p) old)
forgotten_more [] [] p t is done rest = absurd (no_item t is)
forgotten_more (y ∷ old) [] p t is done rest = absurd (no_item t is)
forgotten_more [] (x ∷ now) zero t is done rest = absurd cc
forgotten_more [] (x ∷ now) (suc p) t is done rest = absurd cc
forgotten_more (y ∷ old) (x ∷ now) zero t is done rest =
    let head : x ≡ y = cc in
    let tail : now ≡ old = cc in
    let same : x ≡ t = cc in
    (ap (λ (z : Try). without_mark z ∷ []) (sym same ∙ head), tail)
forgotten_more (y ∷ old) (x ∷ now) (suc p) t is done rest =
    let head : x ≡ without_mark y = cc in
    let tail : take p now ≡ map without_mark (take p old) = cc in
    let more = forgotten_more old now p t is tail rest in
    (rw head (ap (λ (l : List Try). without_mark y ∷ l) more.0), more.1)

pub forgotten_so : (old now : List Try) (p next : ℕ) (t unmarked : Try) → slice_get now p ≡ Some t → next ≡ suc p → unmarked ≡ without_mark t → take p now ≡ map without_mark (take p old) → drop p now ≡ drop p old
    → (take next (slice_set now p unmarked) ≡ map without_mark (take next old)) × (drop next (slice_set now p unmarked) ≡ drop next old)
forgotten_so old now p next t unmarked is place_is try_is done rest =
    subst (λ k. (take k (slice_set now p unmarked) ≡ map without_mark (take k old)) × (drop k (slice_set now p unmarked) ≡ drop k old)) (sym place_is)
    (subst (λ (x : Try). (take (suc p) (slice_set now p x) ≡ map without_mark (take (suc p) old)) × (drop (suc p) (slice_set now p x) ≡ drop (suc p) old)) (sym try_is) (forgotten_more old now p t is done rest))

-- ---- what comes next is within

pub next_within : (tries : List Try) (place : ℕ) (t : Try) → slice_get tries place ≡ Some t → IsNextWithin tries (nexts.Try place t.session)
next_within tries place t at = (slice_get_within tries place t at, λ all. session_at tries place at all)
  where
    session_at : (l : List Try) (i : ℕ) → slice_get l i ≡ Some t → HasSessions l → t.session ≤ 64
    session_at [] i is all = absurd (no_item t is)
    session_at (x ∷ l) zero is all = let same : x ≡ t = cc in subst (λ (y : Try). y.session ≤ 64) same all.0
    session_at (x ∷ l) (suc i) is all = session_at l i is all.1
