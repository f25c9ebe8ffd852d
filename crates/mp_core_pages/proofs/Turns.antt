-- A frame is taken and given back: its turn word goes on to name who has it, and what counts as the frame's page
-- changes only as one is given back.
use Rattle.std.proofs.Common.{◌≡◌, ℕ, ◌<◌, ◌⊎◌, ◌==◌, if◌then◌else◌, List, sym, ap, ◌∙◌, subst, ⊎_elim, arith, Option, None, Some, slice_set, length-set}
use mathlib.Core.Option.{none, some}
use mathlib.Core.Option.{Option as Home}
use lib.ListN.{get_elem?}
use mathlib.Core.Logic.{dite}
use native.Mathlib.Decide.{ℕ_discrete}
use Rattle.atomic_table.proofs.Lists.{set_here, set_else}
use Rattle.mp_machine.specs.Lists.{updated, pushed}
use Rattle.mp_machine.proofs.Lists.{updated_here, updated_else}
use Rattle.mp_core_pages.specs.declared.opening.TheConstants.{PAGES}
use Rattle.mp_core_pages.specs.declared.page_lock.Held.{Held}
use Rattle.mp_core_pages.specs.declared.page_lock.Held.TheVariants.{No}
use Rattle.mp_core_pages.specs.declared.part.LockRow.{LockRow}
use Rattle.mp_core_pages.specs.declared.part.FrameRow.{FrameRow}
use Rattle.mp_core_pages.specs.PageParts.{lock_row, frame_row, held_at, out_at}
use Rattle.mp_core_pages.specs.PageWorld.{standing, frame_in}
use Rattle.mp_core_pages.specs.PageInvariant.{PageLocks, FrameTurns}
use Rattle.mp_core_pages.proofs.Choices.{if_equal, if_differs}
use Rattle.mp_core_pages.proofs.Rows.{newest_cases, newest_here, newest_elsewhere}
use Rattle.mp_core_pages.proofs.Locks.{HeldNow, held_cases}

pub not_both : {P A : Type 0} (x : Option P) (y : P) → x ≡ None → x ≡ Some y → A
not_both x y missing there = let both : None ≡ Some y = sym missing ∙ there in cc

module _ {P : Type 0} (frames : ℕ → List (FrameRow P)) (n k : ℕ) (x : Option P) where
  abbrev pub OutNow : ℕ → ℕ → Option P
  OutNow j i = out_at (pushed frames n (frame_row k x) j) i

  pub out_cases : (j i : ℕ) → ((j ≡ n) × (i ≡ k) × (OutNow j i ≡ x))
      ⊎ ((¬ ((j ≡ n) × (i ≡ k))) × (OutNow j i ≡ out_at (frames j) i))
  out_cases j i = newest_cases (λ (row : FrameRow P). row.page) (λ (row : FrameRow P). row.taken) None frames n
      (frame_row k x) j i

  pub out_here : OutNow n k ≡ x
  out_here = newest_here (λ (row : FrameRow P). row.page) (λ (row : FrameRow P). row.taken) None frames n
      (frame_row k x)

  pub out_else : (j i : ℕ) → ¬ ((j ≡ n) × (i ≡ k)) → OutNow j i ≡ out_at (frames j) i
  out_else j i other = newest_elsewhere (λ (row : FrameRow P). row.page)
      (λ (row : FrameRow P). row.taken) None frames n (frame_row k x) j i other

module _ {P : Type 0} (turn_words : ℕ → ℕ) (homes : List (Home P)) (frames : ℕ → List (FrameRow P))
    (locks : ℕ → List LockRow) (i : FrameTurns turn_words homes frames locks) (n k : ℕ) where
  -- a lock is taken, or let go by a node that does not have the frame
  pub turns_locks : (x : Held) → (x ≡ No → out_at (frames n) k ≡ None) → FrameTurns turn_words homes frames
      (pushed locks n (lock_row k x))
  turns_locks x home = record {
    slots = i.slots;
    at_home = i.at_home;
    taken = i.taken;
    named = λ j p y out.
        let was = i.named j p y out in (
          was.0,
          λ none.
              ⊎_elim
              (λ (here : (j ≡ n) × (p ≡ k) × (HeldNow locks n k x j p ≡ x)). not_both (out_at (frames n) k) y
              (home (sym here.2 ∙ none)) ((λ t. out_at (frames (sym here.0 t)) (sym here.1 t)) ∙ out))
              (λ (old : (¬ ((j ≡ n) × (p ≡ k))) × (HeldNow locks n k x j p ≡ held_at (locks j) p)).
              was.1 (sym old.1 ∙ none))
              (held_cases locks n k x j p),
        );
  }

  module _ (in_range : k < PAGES) where
    -- a frame that is at home is taken by a node that holds the lock
    module _ (y : P) (some_node : ¬ (n ≡ 0)) (free : turn_words k ≡ 0) (has : ¬ (held_at (locks n) k ≡ No)) where
      abbrev TurnsNow : ℕ → ℕ
      TurnsNow = updated turn_words k n

      pub turns_take : (primaries : ℕ) (lock_words : ℕ → ℕ) → PageLocks primaries lock_words locks → FrameTurns TurnsNow
          (slice_set homes k none) (pushed frames n (frame_row k (Some y))) locks
      turns_take primaries lock_words l = record {
        slots = length-set homes k none ∙ i.slots;
        at_home = λ j range zero_now.
            dite (ℕ_discrete j k)
            (λ same. absurd (some_node (sym (ap TurnsNow same ∙ updated_here turn_words k n) ∙ zero_now)))
            (λ other.
            let was = i.at_home j range (sym (updated_else turn_words k n j other) ∙ zero_now) in
            (was.0, set_else homes k j none other ∙ was.1));
        taken = λ j range out_now.
            dite (ℕ_discrete j k)
            (λ same.
            let turn : TurnsNow j ≡ n = ap TurnsNow same ∙ updated_here turn_words k n in (
              ap (get_elem? (slice_set homes k none)) same ∙ set_here homes k none
                  (subst (λ c. k < c) (sym i.slots) in_range),
              (y, (λ t. OutNow frames n k (Some y) (turn t) (same t)) ∙ out_here frames n k (Some y)),
            ))
            (λ other.
            let turn : TurnsNow j ≡ turn_words j = updated_else turn_words k n j other in
            let was = i.taken j range (λ none_now. out_now (turn ∙ none_now)) in (
              set_else homes k j none other ∙ was.0,
              (
                was.1.0,
                ap (λ m. OutNow frames n k (Some y) m j) turn ∙ out_else frames n k (Some y) (turn_words j) j
                    (λ e. other e.1) ∙ was.1.1,
              ),
            ));
        named = λ m j z out.
            ⊎_elim
            (λ (here : (m ≡ n) × (j ≡ k) × (OutNow frames n k (Some y) m j ≡ Some y)). (
              ap TurnsNow here.1 ∙ updated_here turn_words k n ∙ sym here.0,
              λ none_held.
                  has ((λ t. held_at (locks (sym here.0 t)) (sym here.1 t)) ∙ none_held),
            ))
            (λ (old : (¬ ((m ≡ n) × (j ≡ k))) × (OutNow frames n k (Some y) m j ≡ out_at (frames m) j)).
            let was = i.named m j z (sym old.1 ∙ out) in
            let other : ¬ (j ≡ k) = λ same. let nobody : m ≡ 0 = sym was.0 ∙ ap turn_words same ∙ free in let node =
            (l.nodes m j was.1).0 in absurd (omega arith) in
            (updated_else turn_words k n j other ∙ was.0, was.1))
            (out_cases frames n k (Some y) m j);
      }

      -- the page in it goes on to count
      pub frame_take : get_elem? homes k ≡ some (some y) → ◌≡◌ {A = ℕ → Option P}
          (frame_in TurnsNow (slice_set homes k none) (pushed frames n (frame_row k (Some y))))
          (frame_in turn_words homes frames)
      frame_take at t j = each j t
        where
          each : (j : ℕ) → frame_in TurnsNow (slice_set homes k none) (pushed frames n (frame_row k (Some y))) j
              ≡ frame_in turn_words homes frames j
          each j =
              dite (ℕ_discrete j k)
              (λ same.
              let turn : TurnsNow j ≡ n = ap TurnsNow same ∙ updated_here turn_words k n in
              if_differs (TurnsNow j) 0 (standing (get_elem? (slice_set homes k none) j))
              (OutNow frames n k (Some y) (TurnsNow j) j) (λ e. some_node (sym turn ∙ e))
              ∙ (λ t. OutNow frames n k (Some y) (turn t) (same t))
              ∙ out_here frames n k (Some y)
              ∙ sym (ap (frame_in turn_words homes frames) same ∙ if_equal (turn_words k) 0
              (standing (get_elem? homes k)) (out_at (frames (turn_words k)) k) free ∙ ap standing at))
              (λ other.
              let turn : TurnsNow j ≡ turn_words j = updated_else turn_words k n j other in
              ap (λ v. if v == 0 then standing (get_elem? (slice_set homes k none) j) else OutNow frames n k
              (Some y) v j) turn
              ∙ ap (λ x. if turn_words j == 0 then standing x else OutNow frames n k (Some y) (turn_words j) j)
              (set_else homes k j none other)
              ∙ ap (λ x. if turn_words j == 0 then standing (get_elem? homes j) else x)
              (out_else frames n k (Some y) (turn_words j) j (λ e. other e.1)))

    -- a frame is given back by the node that has it, with a page in it
    module _ (y t : P) (out : out_at (frames n) k ≡ Some t) where
      abbrev TurnsThen : ℕ → ℕ
      TurnsThen = updated turn_words k 0

      pub turns_give : FrameTurns TurnsThen (slice_set homes k (some y)) (pushed frames n (frame_row k None)) locks
      turns_give = record {
        slots = length-set homes k (some y) ∙ i.slots;
        at_home = λ j range zero_now.
            dite (ℕ_discrete j k)
            (λ same. (
              y,
              ap (get_elem? (slice_set homes k (some y))) same ∙ set_here homes k (some y)
                  (subst (λ c. k < c) (sym i.slots) in_range),
            ))
            (λ other.
            let was = i.at_home j range (sym (updated_else turn_words k 0 j other) ∙ zero_now) in
            (was.0, set_else homes k j (some y) other ∙ was.1));
        taken = λ j range out_now.
            dite (ℕ_discrete j k)
            (λ same. absurd (out_now (ap TurnsThen same ∙ updated_here turn_words k 0)))
            (λ other.
            let turn : TurnsThen j ≡ turn_words j = updated_else turn_words k 0 j other in
            let was = i.taken j range (λ none_now. out_now (turn ∙ none_now)) in (
              set_else homes k j (some y) other ∙ was.0,
              (
                was.1.0,
                ap (λ m. OutNow frames n k None m j) turn ∙ out_else frames n k None (turn_words j) j
                    (λ e. other e.1) ∙ was.1.1,
              ),
            ));
        named = λ m j z has.
            ⊎_elim
            (λ (here : (m ≡ n) × (j ≡ k) × (OutNow frames n k None m j ≡ None)).
            not_both (OutNow frames n k None m j) z here.2 has)
            (λ (old : (¬ ((m ≡ n) × (j ≡ k))) × (OutNow frames n k None m j ≡ out_at (frames m) j)).
            let was = i.named m j z (sym old.1 ∙ has) in
            let other : ¬ (j ≡ k) = λ same. old.0 (sym was.0 ∙ ap turn_words same ∙ (i.named n k t out).0, same) in
            (updated_else turn_words k 0 j other ∙ was.0, was.1))
            (out_cases frames n k None m j);
      }

      abbrev pub FrameThen : ℕ → Option P
      FrameThen = frame_in TurnsThen (slice_set homes k (some y)) (pushed frames n (frame_row k None))

      -- that page counts from then on
      pub frame_give_here : FrameThen k ≡ Some y
      frame_give_here =
          if_equal (TurnsThen k) 0 (standing (get_elem? (slice_set homes k (some y)) k))
          (OutNow frames n k None (TurnsThen k) k) (updated_here turn_words k 0)
          ∙ ap standing (set_here homes k (some y) (subst (λ c. k < c) (sym i.slots) in_range))

      pub frame_give_else : (j : ℕ) → ¬ (j ≡ k) → FrameThen j ≡ frame_in turn_words homes frames j
      frame_give_else j other =
          let turn : TurnsThen j ≡ turn_words j = updated_else turn_words k 0 j other in
          ap (λ v. if v == 0 then standing
          (get_elem? (slice_set homes k (some y)) j) else OutNow frames n k None v j) turn
          ∙ ap (λ x. if turn_words j == 0 then standing x else OutNow frames n k None (turn_words j) j)
          (set_else homes k j (some y) other)
          ∙ ap (λ x. if turn_words j == 0 then standing (get_elem? homes j) else x)
          (out_else frames n k None (turn_words j) j (λ e. other e.1))

      -- before, the page that the node took counted
      pub frame_before : ¬ (n ≡ 0) → frame_in turn_words homes frames k ≡ Some t
      frame_before some_node =
          let turn = (i.named n k t out).0 in
          if_differs (turn_words k) 0 (standing (get_elem? homes k)) (out_at (frames (turn_words k)) k)
          (λ e. some_node (sym turn ∙ e)) ∙ ap (λ m. out_at (frames m) k) turn ∙ out
