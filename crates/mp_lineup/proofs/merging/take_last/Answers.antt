use Rattle.std.proofs.Common.{◌≡◌, ℕ, ◌-◌, ◌<◌, List, ◌++◌, length, get_or, slice_get, Option, Some, None, true, is_some, refl, ap, ◌∙◌}
use Rattle.std.specs.Option.{option_to_list}
use Rattle.std.proofs.lemmas.Option.{slice_get_read}
use Rattle.mp_model.specs.Listed.{Listed}
use Rattle.mp_model.specs.declared.replies.Answer.{Answer}
use Rattle.mp_lineup.proofs.TakenAnswers.{place_within, some_left, taken_last}
use Rattle.mp_lineup.proofs.merging.take_last.Goals as goal

-- the list of the primary stands at its place
at_place : (lists : List (Listed Answer)) (n i : ℕ) (old : Listed Answer) → i ≡ n → n - 1 < length lists → old ≡ get_or lists (i - 1) old → slice_get lists (n - 1) ≡ Some old
at_place lists n i old same within read =
    slice_get_read lists (length lists) (n - 1) old refl within (read ∙ ap (λ (k : ℕ). get_or lists (k - 1) old) same)

no_answer : (o : Option Answer) → is_some o ≡ true → o ≡ None → ⊥
no_answer (Some answer) some none = cc
no_answer None some none = cc

pub unreachable-requires : goal.unreachable-requires
unreachable-requires c =
    let h = c.requires in
    let lists = c.args.lists.now.items in
    let n = c.args.number in
    let within = place_within h.0 h.1 h.2 n lists h.3 in
    let at = at_place lists n c.from.result c.index_mut.result.now c.from.ensures within.1 c.index_mut.ensures.value in
    let some = some_left h.0 h.1 h.2 n lists h.3 c.index_mut.result.now at in
    no_answer c.pop.result (c.pop.ensures.some.1 some) c.in-None.is

pub returns : goal.returns
returns c given last order listed =
    let lists = c.args.lists.now.items in
    let n = c.args.number in
    let within = place_within given last order n lists listed in
    let at = at_place lists n c.from.result c.index_mut.result.now c.from.ensures within.1 c.index_mut.ensures.value in
    let popped = c.pop.ensures.items ∙ ap (λ o. c.pop.new.self.items ++ option_to_list o) c.in-Some.is in
    rw c.from.ensures (taken_last given last order n lists listed c.index_mut.result.now c.pop.new.self c.in-Some.answer at popped)
