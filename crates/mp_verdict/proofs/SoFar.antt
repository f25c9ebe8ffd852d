-- What rests on a session's earlier answers is the same by all answers and by those that stand above.
use Rattle.std.proofs.Common.{◌≡◌, ℕ, ◌<◌, List, [], ◌∷◌, ◌++◌, Option, Some, None, refl, sym, ap, subst, ◌∙◌, inl, inr, arith}
use Rattle.std.specs.Option.{option_map}
use Rattle.mp_machine.specs.Lists.{IsIn}
use Rattle.mp_model.specs.declared.histories.Opening.{Opening}
use Rattle.mp_model.specs.declared.replies.Answer.{Answer}
use Rattle.mp_model.specs.declared.transcripts.Down.{Down}
use Rattle.mp_script.specs.declared.statements.Script.{Script}
use Rattle.mp_script.specs.Execution.{Execution, answer_at, reply_at}
use Rattle.mp_script.specs.Spelling.{IsSpelled}
use Rattle.mp_script.specs.Transactions.{wrote_before, refused_before}
use Rattle.mp_script.specs.Standing.{StandsAbove}
use Rattle.mp_script.proofs.Options.{not_some}
use Rattle.mp_script.proofs.Ordered.{in_left, in_either, in_found, from_found, from_above_found}
use Rattle.mp_script.proofs.Looking.{answer_is, answer_found}
use Rattle.mp_script.proofs.ItemsAbove.{IsPlacedIn, placed_in}
use Rattle.mp_script.proofs.SameReplies.{before_refused, before_wrote}
use Rattle.mp_core.specs.declared.opening.CoreOpening.{CoreOpening}
use Rattle.mp_core.specs.World.{CoreWorld}
use Rattle.mp_supports.specs.Work.{Work}
use Rattle.mp_supports.specs.Kept.{Entry, answers_in}
use Rattle.mp_verdict.specs.Finished.{Finished}
use Rattle.mp_verdict.specs.Told.{IsToldBy}
use Rattle.mp_verdict.proofs.KeptOrder.{index_up}
use Rattle.mp_verdict.proofs.ToldAnswers.{IsKeptBy, in_run, kept_answer, same_node, one_answer, answer_here}
use Rattle.mp_verdict.proofs.NextInOrder.{next_in_order, IsAnsweredNext, answered_so_far}

module _ (script : Script) (spelled : IsSpelled script) (work : Work) (opening : Opening) (o : CoreOpening) (w : CoreWorld) (down : ℕ → ℕ) (entries : ℕ → List Entry) (downs : List Down)
    (f : Finished work script opening o w down entries downs) (run : Execution) (told : IsToldBy work opening o entries downs run) where
  -- the answers above an answer in its primary's list, and what rests on them
  pub place_of : (n : ℕ) (e : Entry) (a : Answer) → IsKeptBy script spelled work opening o w down entries downs f run told n e a → IsPlacedIn (IsAnsweredNext work n) [] (answers_in (entries n)) a
  place_of n e a k = placed_in (IsAnsweredNext work n) [] (answers_in (entries n)) a (next_in_order script spelled work opening o w down entries downs f n k.node) (in_found (λ (x : Entry). x.answer) e (entries n) a k.there k.is)

  module _ (n : ℕ) (e : Entry) (a : Answer) (k : IsKeptBy script spelled work opening o w down entries downs f run told n e a) (over rest : List Answer) (split : answers_in (entries n) ≡ over ++ a ∷ rest) where
    -- those above are answers of the run
    pub over_in : (b : Answer) → IsIn b over → IsIn b run.answers
    over_in b there =
        let x = from_found (λ (y : Entry). y.answer) (entries n) b (subst (IsIn b) (sym split) (in_left b over (a ∷ rest) there)) in
        in_run script spelled work opening o w down entries downs f run told n x.0 b (record { node = k.node; there = x.1; is = x.2 })

    -- the session's answers with lower indexes stand above
    in_over : (b : Answer) → IsIn b run.answers → b.session ≡ a.session → b.index < a.index → IsIn b over
    in_over b there session lt =
        let x = kept_answer script spelled work opening o w down entries downs f run told b there in
        let kept = same_node script spelled work opening o w down entries downs f run told n x.0 e x.1 a b k x.2 (sym session) in
        let listed : IsIn b (over ++ a ∷ rest) = subst (IsIn b) split (in_found (λ (y : Entry). y.answer) x.1 (entries n) b kept.there kept.is) in
        elim (in_either b over (a ∷ rest) listed) [
          | inl above ↦ above
          | inr (inl same) ↦ let index = ap (λ (y : Answer). y.index) same in absurd (omega (arith, index, lt))
          | inr (inr below) ↦
              let stands : StandsAbove a b (answers_in (entries n)) = subst (StandsAbove a b) (sym split) (above_in_rest over below) in
              let at = from_above_found (λ (y : Entry). y.answer) (entries n) a b stands in
              let up = index_up work o w f.facts n (down n) (entries n) (f.kept n k.node) (f.all n k.node) (next_in_order script spelled work opening o w down entries downs f n k.node) at.0 at.1 a b at.2 at.3 at.4 (sym session) in
              absurd (omega (arith, up, lt))
        ]
      where
        above_in_rest : (xs : List Answer) → IsIn b rest → StandsAbove a b (xs ++ a ∷ rest)
        above_in_rest [] h = inl (refl, h)
        above_in_rest (x ∷ xs) h = inr (above_in_rest xs h)

    replies_same : (index : ℕ) → index < a.index → reply_at run a.session index ≡ reply_at (answered_so_far work over) a.session index
    replies_same index lt = by_answer (answer_at run.answers a.session index) refl
      where
        by_answer : (x : Option Answer) → answer_at run.answers a.session index ≡ x → reply_at run a.session index ≡ reply_at (answered_so_far work over) a.session index
        by_answer (Some b) is =
            let at = answer_is run.answers a.session index b is in
            let at_index = at.2 in
            let above = in_over b at.0 at.1 (omega (arith, at_index, lt)) in
            let found = answer_found over b above (λ c there session i. one_answer script spelled work opening o w down entries downs f run told c b (over_in c there) at.0 session i) in
            let here : answer_at over a.session index ≡ Some b = ap (λ (s : ℕ). answer_at over s index) (sym at.1) ∙ ap (answer_at over b.session) (sym at.2) ∙ found in
            ap (option_map (λ (y : Answer). y.reply)) (is ∙ sym here)
        by_answer None is = ap (option_map (λ (y : Answer). y.reply)) (is ∙ sym (none_over (answer_at over a.session index) refl))
          where
            none_over : (x : Option Answer) → answer_at over a.session index ≡ x → answer_at over a.session index ≡ None
            none_over None e' = e'
            none_over (Some c) e' =
                let at = answer_is over a.session index c e' in
                let found = answer_here script spelled work opening o w down entries downs f run told c (over_in c at.0) in
                absurd (not_some c (sym is ∙ ap (λ (s : ℕ). answer_at run.answers s index) (sym at.1) ∙ ap (answer_at run.answers c.session) (sym at.2) ∙ found))

    pub wrote_so_far : (key : ℕ) → wrote_before run a.session a.index key ≡ wrote_before (answered_so_far work over) a.session a.index key
    wrote_so_far key = before_wrote run (answered_so_far work over) told.lines a.session a.index replies_same key

    pub refused_so_far : refused_before run a.session a.index ≡ refused_before (answered_so_far work over) a.session a.index
    refused_so_far = before_refused run (answered_so_far work over) told.lines a.session a.index replies_same
