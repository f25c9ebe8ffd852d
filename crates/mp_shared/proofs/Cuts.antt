-- Nodes stay well kept as their parts are cut off and put together.
use Rattle.std.proofs.Common.{◌≡◌, ℕ, List, [], ◌∷◌, map, Option, Some, None, Bool, true, false, not, ◌==◌, if◌then◌else◌, slice_index_or, refl, sym, ap, ◌∙◌, subst, eq-eqb, ne_eqb}
use mathlib.Core.Logic.{dite}
use native.Mathlib.Decide.{ℕ_discrete}
use Rattle.atomic_table.specs.Seated.{TableId}
use Rattle.mp_machine.specs.Lists.{IsIn}
use Rattle.mp_machine.specs.View.{View, part_in, only, either_part, joined}
use Rattle.mp_machine.specs.Rule.{Backed}
use Rattle.mp_machine.proofs.Views.{part_in-only, part_in-joined}
use Rattle.mp_core_pages.specs.declared.page_lock.Held.{Held}
use Rattle.mp_core_pages.specs.PageParts.{out_at}
use Rattle.mp_core.specs.declared.part.CorePart.{CorePart}
use Rattle.mp_core.specs.World.{Frame, core}
use Rattle.mp_shared.specs.Nodes.{Run}
use Rattle.mp_shared.specs.LockTables.{NotesPart}
use Rattle.mp_shared.specs.Slots.{used_by, SlotsInOrder}
use Rattle.mp_shared.specs.KeptNodes.{IsKeptNode}

-- who carries the frame of no page carries no slot
pub no_frames : (carried : List (ℕ × Frame)) → map (λ x. x.0) carried ≡ [] → carried ≡ []
no_frames [] none = refl
no_frames (x ∷ carried) none = absurd (cc)

used_if : (b : Bool) (x : Option CorePart) → used_by (if b then x else None) ≡ (if b then used_by x else None)
used_if true x = refl
used_if false x = refl

held_if : (b : Bool) (x : Option CorePart) (p : CorePart) → (if b then x else None) ≡ Some p → x ≡ Some p
held_if true x p e = e
held_if false x p e = absurd (cc)

used_either : (x y : Option CorePart) → either_part (used_by x) (used_by y) ≡ used_by (either_part x y)
used_either (Some p) y = refl
used_either None y = refl

noted_if : (b : Bool) (table : Option (List Held)) (x : Option CorePart) → NotesPart table x → NotesPart (if b then table else None) (if b then x else None)
noted_if true table x h = h
noted_if false table x h = refl

noted_either : (s t : Option (List Held)) (x y : Option CorePart) → NotesPart s x → NotesPart t y → NotesPart (either_part s t) (either_part x y)
noted_either None t (Some p) y first second = absurd first
noted_either (Some s) t (Some p) y first second = first
noted_either None t None y first second = second
noted_either (Some s) t None y first second = absurd (some_none first)
  where
    some_none : Some s ≡ None → ⊥
    some_none e = cc

-- a list of one value for each part, cut down to the parts that pass a test
module _ {X : Type 0} (all : List (Option X)) (p : ℕ) (later : List (Option X)) where
  pub cut_one : slice_index_or later p None ≡ slice_index_or all p None → ((n : ℕ) → ¬ (n ≡ p) → slice_index_or later n None ≡ None)
      → (n : ℕ) → slice_index_or later n None ≡ (if n == p then slice_index_or all n None else None)
  cut_one here there n =
      dite (ℕ_discrete n p)
      (λ same. ap (λ k. slice_index_or later k None) same ∙ here ∙ ap (λ k. slice_index_or all k None) (sym same) ∙ ap (λ b. if b then slice_index_or all n None else None) (sym (eq-eqb n p same)))
      (λ other. there n other ∙ ap (λ b. if b then slice_index_or all n None else None) (sym (ne_eqb n p other)))

  pub cut_others : slice_index_or later p None ≡ None → ((n : ℕ) → ¬ (n ≡ p) → slice_index_or later n None ≡ slice_index_or all n None)
      → (n : ℕ) → slice_index_or later n None ≡ (if not (n == p) then slice_index_or all n None else None)
  cut_others here there n =
      dite (ℕ_discrete n p)
      (λ same. ap (λ k. slice_index_or later k None) same ∙ here ∙ ap (λ b. if not b then slice_index_or all n None else None) (sym (eq-eqb n p same)))
      (λ other. there n other ∙ ap (λ b. if not b then slice_index_or all n None else None) (sym (ne_eqb n p other)))

module _ (r : Run) (t : TableId) (v : View CorePart) (frames : List ℕ) (used : List (Option ℕ)) (tables : List (Option (List Held))) (kept : IsKeptNode r t v frames used tables) (u : TableId) (same_table : u ≡ t) where
  -- the parts that pass a test, of a node that carries no frame
  pub kept_only : frames ≡ [] → (fewer : List ℕ) → (test : ℕ → Bool) (later : List (Option ℕ)) → ((n : ℕ) → slice_index_or later n None ≡ (if test n then slice_index_or used n None else None))
      → (later_tables : List (Option (List Held))) → ((n : ℕ) → slice_index_or later_tables n None ≡ (if test n then slice_index_or tables n None else None))
      → IsKeptNode r u (only test v) fewer later later_tables
  kept_only none fewer test later counts later_tables locks =
      let held : (n : ℕ) (p : CorePart) → part_in (only test v) n ≡ Some p → part_in v n ≡ Some p = λ n p has. held_if (test n) (part_in v n) p (sym (part_in-only test v n) ∙ has) in
      record {
        one = kept.one ∙ sym same_table;
        fair = kept.fair;
        backed = (kept.backed.0, kept.backed.1, λ n p has. kept.backed.2 n p (held n p has));
        counted = λ n. counts n ∙ ap (λ x. if test n then x else None) (kept.counted n) ∙ sym (used_if (test n) (part_in v n)) ∙ ap used_by (sym (part_in-only test v n));
        in_order = λ n p has. kept.in_order n p (held n p has);
        noted = λ n. subst (λ x. NotesPart x (part_in (only test v) n)) (sym (locks n)) (subst (λ x. NotesPart (if test n then slice_index_or tables n None else None) x) (sym (part_in-only test v n)) (noted_if (test n) (slice_index_or tables n None) (part_in v n) (kept.noted n)));
        carried_out = λ n k p y has out. absurd (subst (IsIn k) none (kept.carried_out n k p y (held n p has) out));
      }

  -- and those of another node too, which carries no frame either
  pub kept_joined : frames ≡ [] → (s : Run) (x : TableId) (w : View CorePart) (other_frames : List ℕ) (others : List (Option ℕ)) (other_tables : List (Option (List Held))) → IsKeptNode s x w other_frames others other_tables → other_frames ≡ []
      → (later_frames : List ℕ) (later : List (Option ℕ)) → Backed (core r.opening) (joined v w)
      → ((n : ℕ) → slice_index_or later n None ≡ either_part (slice_index_or used n None) (slice_index_or others n None))
      → (later_tables : List (Option (List Held))) → ((n : ℕ) → slice_index_or later_tables n None ≡ either_part (slice_index_or tables n None) (slice_index_or other_tables n None))
      → IsKeptNode r u (joined v w) later_frames later later_tables
  kept_joined none s x w other_frames others other_tables other none_there later_frames later backed counts later_tables locks = record {
    one = kept.one ∙ sym same_table;
    fair = kept.fair;
    backed = backed;
    counted = λ n. counts n ∙ (λ i. either_part (kept.counted n i) (other.counted n i)) ∙ used_either (part_in v n) (part_in w n) ∙ ap used_by (sym (part_in-joined v w n));
    in_order = λ n q has. of_either (λ (q : CorePart). SlotsInOrder q.trx) (part_in v n) (part_in w n) (kept.in_order n) (other.in_order n) q (sym (part_in-joined v w n) ∙ has);
    noted = λ n.
        subst (λ t. NotesPart t (part_in (joined v w) n)) (sym (locks n))
        (subst (λ o. NotesPart (either_part (slice_index_or tables n None) (slice_index_or other_tables n None)) o) (sym (part_in-joined v w n))
        (noted_either (slice_index_or tables n None) (slice_index_or other_tables n None) (part_in v n) (part_in w n) (kept.noted n) (other.noted n)));
    carried_out = λ n k q y has out.
        absurd (of_either (λ (q : CorePart). out_at q.pages.frames k ≡ Some y → ⊥) (part_in v n) (part_in w n)
        (λ p here is. subst (IsIn k) none (kept.carried_out n k p y here is))
        (λ p here is. subst (IsIn k) none_there (other.carried_out n k p y here is))
        q (sym (part_in-joined v w n) ∙ has) out);
  }
    where
      of_either : (P : CorePart → Type 0) (x y : Option CorePart) → ((q : CorePart) → x ≡ Some q → P q) → ((q : CorePart) → y ≡ Some q → P q) → (q : CorePart) → either_part x y ≡ Some q → P q
      of_either P (Some r) y first second q e = first q e
      of_either P None y first second q e = second q e
