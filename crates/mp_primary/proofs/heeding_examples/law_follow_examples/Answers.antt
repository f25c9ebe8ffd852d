use Rattle.std.proofs.Common.{◌≡◌, ℕ, List, [], ◌∷◌, length, Option, None, Some, refl, sym, ap, subst, ◌∙◌, inl, inr, arith, length-append}
use Rattle.mp_machine.specs.Lists.{IsIn}
use Rattle.mp_machine.specs.View.{part_in}
use Rattle.mp_model.specs.declared.replies.Reply.TheVariants.{CommittedNone, Stopped}
use Rattle.mp_model.specs.declared.waiting.Cause.{Cause}
use Rattle.mp_core.specs.declared.part.CorePart.{CorePart}
use Rattle.mp_core.specs.declared.part.DownLoad.{DownLoad}
use Rattle.mp_core.specs.Downs.{down_load}
use Rattle.mp_book.specs.SmallBooks.{its_name}
use Rattle.mp_buffer_fusion.proofs.Visiting.{one_part}
use Rattle.mp_supports.specs.SmallParts.{part_before_steps}
use Rattle.mp_primary.specs.Downs.{NeedsOf, OnlyDowns, LoadedSince}
use Rattle.mp_primary.proofs.SmallPrimaries.{one_is_none}
use Rattle.mp_primary.proofs.OnlyDowns.{downs_none, went_none}
use Rattle.mp_primary.proofs.heeding_examples.law_follow_examples.Goals as goal

none_in : (xs : List DownLoad) → length xs ≡ 0 → (x : DownLoad) → IsIn x xs → ⊥
none_in [] zero x h = h
none_in (y ∷ ys) zero x h = absurd (omega (arith, zero))

loads_nothing : (of by : ℕ) (q : CorePart) → LoadedSince of by q q → ⊥
loads_nothing of by q h =
    let both = length-append h.more q.downs.loaded in
    let same = ap (λ (l : List DownLoad). length l) h.loaded in
    none_in h.more (omega (arith, both, same)) (down_load of by) h.its

none_is_some : (k : ℕ) → ◌≡◌ {A = Option ℕ} None (Some k) → ⊥
none_is_some k e = cc

committed_not_stopped : (by : ℕ) → CommittedNone ≡ Stopped by → ⊥
committed_not_stopped by e = cc

pub returns-clause-all_up : goal.returns-clause-all_up
returns-clause-all_up g c = λ pr n. record { went = went_none pr.number OnlyDowns downs_none n; each = λ of another needs. absurd needs }

pub returns-clause-not_all_up : goal.returns-clause-not_all_up
returns-clause-not_all_up g c = λ pr cause at after other h. other h.went.run

pub returns-clause-none_loaded : goal.returns-clause-none_loaded
returns-clause-none_loaded g c = λ old new cause n q has h.
    let now = h.loaded.mine q has in
    loads_nothing h.of new.down q (subst (λ (x : CorePart). LoadedSince h.of new.down q x) (one_part (part_in n.parts old.number) now.0 q now.1 has) now.2)

pub returns-clause-up_still : goal.returns-clause-up_still
returns-clause-up_still g c = λ old new cause at after zero h. h.some zero

pub returns-clause-not_with_its_own : goal.returns-clause-not_with_its_own
returns-clause-not_with_its_own g c = λ old new before after one h is. h.found.another.not_itself (is ∙ sym one)

pub returns-clause-not_for_a_frame : goal.returns-clause-not_for_a_frame
returns-clause-not_for_a_frame g c = λ old new before after at seen h is. subst (λ (x : Cause). NeedsOf old.work.sessions x h.found.of) is h.found.needed

pub returns-clause-waits_elsewhere : goal.returns-clause-waits_elsewhere
returns-clause-waits_elsewhere g c = λ old before after cause h. h.found.went.run

pub returns-clause-here : goal.returns-clause-here
returns-clause-here g c = λ old new is rose. (is, rose)

pub returns-clause-by_itself : goal.returns-clause-by_itself
returns-clause-by_itself g c = λ old new before after here. inl here

pub returns-clause-by_nobody : goal.returns-clause-by_nobody
returns-clause-by_nobody g c = λ old new before after one two h. elim h [
  | inl here ↦ let same = here.0 in absurd (omega (arith, same, one, two))
  | inr with ↦ none_is_some with.0 with.1
]

pub returns-clause-waited : goal.returns-clause-waited
returns-clause-waited g c = inl refl

pub returns-clause-waited_besides : goal.returns-clause-waited_besides
returns-clause-waited_besides g c = inr (its_name, 2, refl, refl)

pub returns-clause-not_besides : goal.returns-clause-not_besides
returns-clause-not_besides g c = λ h. elim h [
  | inl none ↦ one_is_none its_name [] none
  | inr stopped ↦ committed_not_stopped stopped.1 stopped.2
]

pub returns-clause-not_told : goal.returns-clause-not_told
returns-clause-not_told g c = λ run old new before after turn has one h. let own = h.told part_before_steps has in absurd (omega (arith, own, one))
