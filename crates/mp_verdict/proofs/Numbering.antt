-- The numbers of commits are the timestamps that were drawn, each once; and each view lies within them.
use Rattle.std.proofs.Common.{◌≡◌, ◌≢◌, ℕ, ◌+◌, ◌-◌, ◌<◌, ◌≤◌, List, [], ◌∷◌, ◌++◌, length, Option, Some, None, is_some, refl, sym, ap, subst, ◌∙◌, inl, inr, arith}
use Rattle.std.specs.Option.{IfSome}
use Rattle.mp_machine.specs.Lists.{IsIn}
use Rattle.mp_model.specs.declared.histories.Opening.{Opening}
use Rattle.mp_model.specs.declared.ids.TrxId.{TrxId}
use Rattle.mp_model.specs.declared.replies.Answer.{Answer}
use Rattle.mp_model.specs.declared.replies.Reply.{Reply}
use Rattle.mp_model.specs.declared.replies.Reply.TheVariants.{Began, Got, Scanned, Wrote, Committed, CommittedNone, Unknown, RolledBack, Conflict, Held, Full, Skipped, Stopped}
use Rattle.mp_model.specs.declared.transcripts.Down.{Down}
use Rattle.mp_script.specs.declared.statements.Line.{Line}
use Rattle.mp_script.specs.declared.statements.Script.{Script}
use Rattle.mp_script.specs.Below.{EachBelow, numbers}
use Rattle.mp_script.specs.Execution.{Execution}
use Rattle.mp_script.specs.Numbered.{IsFreeNumber, AreNumbered, IfBegan, IfShowsView, CoversAbove, IsRightView}
use Rattle.mp_script.specs.Spelling.{IsSpelled}
use Rattle.mp_script.specs.Transactions.{cts_of}
use Rattle.mp_script.specs.Standing.{StandsAbove}
use Rattle.mp_script.specs.Answers.{AreApartAnswers}
use Rattle.mp_script.proofs.Options.{some_is, not_some}
use Rattle.mp_script.proofs.Ordered.{above_or, above_in, pair_above, in_reverse, in_found, from_found, from_above_found}
use Rattle.mp_script.proofs.DistinctNumbers.{AreApart, as_many}
use Rattle.mp_script.proofs.ItemsAbove.{each_split, all_of, last_in, over_above, pairs_by}
use Rattle.mp_script.proofs.CountedAnswers.{apart_pairs}
use Rattle.mp_core_trx.specs.declared.part.Draw.{Draw}
use Rattle.mp_core_trx.specs.Parts.{begun_of, draw_of}
use Rattle.mp_core_trx.specs.World.{drawn_in}
use Rattle.mp_core_trx.specs.Events.{IsNode}
use Rattle.mp_core.specs.declared.opening.CoreOpening.{CoreOpening}
use Rattle.mp_core.specs.World.{CoreWorld, core_part}
use Rattle.mp_core.specs.declared.part.CorePart.{CorePart}
use Rattle.mp_supports.specs.Work.{Work}
use Rattle.mp_supports.specs.Supports.{Trace, no_trace, looked_trace, began_trace, wrote_trace, SupportsReply}
use Rattle.mp_supports.specs.Kept.{Entry}
use Rattle.mp_verdict.specs.Counting.{CountsCommits}
use Rattle.mp_verdict.specs.Finished.{Finished}
use Rattle.mp_verdict.specs.Told.{IsToldBy}
use Rattle.mp_verdict.proofs.KeptOrder.{answer_of, mtrs_up}
use Rattle.mp_verdict.proofs.ToldAnswers.{IsKeptBy, supported, kept_answer, in_run}
use Rattle.mp_verdict.proofs.Telling.{base_is}
use Rattle.mp_verdict.proofs.CommitEntries.{IsRecordEntry, record_entry, view_by}
use Rattle.mp_verdict.proofs.ReadsRight.{view_bounds}
use Rattle.mp_verdict.proofs.NextInOrder.{next_in_order}

-- a draw in the trace of an answer is shown by it
which_draw : (work : Work) (p : CorePart) (trace : Trace) (line : Line) (down : ℕ) (reply : Reply) (d : Draw) → SupportsReply work p down trace line reply → trace.drew ≡ Some d → cts_of reply ≡ Some d.cts
which_draw work p trace line down reply d h e = by_reply reply h
  where
    none : (other : Trace) → trace ≡ other → other.drew ≡ None → ⊥
    none other is without = not_some d (sym without ∙ ap (λ (t : Trace). t.drew) (sym is) ∙ e)

    by_reply : (r : Reply) → SupportsReply work p down trace line r → cts_of r ≡ Some d.cts
    by_reply (Began view) s = absurd (none (began_trace s.0) s.2 refl)
    by_reply (Got value) s = absurd (none (looked_trace trace.pages) s.3.5 refl)
    by_reply (Scanned rows) s = absurd (none (looked_trace trace.pages) s.3.8 refl)
    by_reply (Wrote verb) s = absurd (none (wrote_trace trace.pages s.3.1) s.3.3 refl)
    by_reply (Committed cts) s = ap (λ (x : Draw). Some x.cts) (some_is (draw_of s.0 cts) d (sym (ap (λ (t : Trace). t.drew) s.3.2) ∙ e))
    by_reply CommittedNone s = absurd (none no_trace s.1 refl)
    by_reply (Unknown cts) s = ap (λ (x : Draw). Some x.cts) (some_is (draw_of s.0 cts) d (sym (ap (λ (t : Trace). t.drew) s.3.2) ∙ e))
    by_reply RolledBack s = absurd (none no_trace s.1 refl)
    by_reply (Conflict verb cts) s = absurd (none no_trace s.3.5 refl)
    by_reply (Held verb name) s = absurd (none no_trace s.3.6 refl)
    by_reply (Full verb) s = absurd (none no_trace s.3.3 refl)
    by_reply Skipped s = absurd (none no_trace s.1 refl)
    by_reply (Stopped by) s = elim s.2 [
      | inl nothing ↦ absurd (none no_trace nothing refl)
      | inr x ↦ absurd (none (wrote_trace trace.pages x.4) x.7 refl)
    ]

module _ (script : Script) (spelled : IsSpelled script) (work : Work) (opening : Opening) (o : CoreOpening) (w : CoreWorld) (down : ℕ → ℕ) (entries : ℕ → List Entry) (downs : List Down)
    (f : Finished work script opening o w down entries downs) (run : Execution) (told : IsToldBy work opening o entries downs run) (apart : AreApartAnswers run.answers) where
  -- no number is shown twice
  one_number : (a b : Answer) (n : ℕ) → StandsAbove a b run.answers → cts_of a.reply ≡ Some n → cts_of b.reply ≡ Some n → ⊥
  one_number a b n above shows also =
      let both = above_in a b run.answers above in
      let x = record_entry script spelled work opening o w down entries downs f run told a n both.0 shows in
      let y = record_entry script spelled work opening o w down entries downs f run told b n both.1 also in
      let same : x.0 ≡ y.0 = ap (λ (d : Draw). d.id) (f.facts.inv.trx.draws.by_one (x.0).node (y.0).node (draw_of x.0 n) (draw_of y.0 n) x.1.records.drawn y.1.records.drawn refl).1 in
      apart_ones y.0 a b n above (subst (λ (i : TrxId). IsRecordEntry script spelled work opening o w down entries downs f run told i.node i n a) same x.1) y.1
    where
      apart_ones : (id : TrxId) (a b : Answer) (n : ℕ) → StandsAbove a b run.answers → IsRecordEntry script spelled work opening o w down entries downs f run told id.node id n a → IsRecordEntry script spelled work opening o w down entries downs f run told id.node id n b → ⊥
      apart_ones id a b n above c d =
          let k = c.kept.node in
          let upto = (f.facts.of_versions.commit_last id.node d.mtr c.mtr d.records.was_made (ap (λ (x : Option Draw). is_some x) d.records.commit) c.records.was_made (c.records.of ∙ sym d.records.of)).0 in
          let down_to = (f.facts.of_versions.commit_last id.node c.mtr d.mtr c.records.was_made (ap (λ (x : Option Draw). is_some x) c.records.commit) d.records.was_made (d.records.of ∙ sym c.records.of)).0 in
          elim (above_or c.entry d.entry (entries id.node) c.kept.there d.kept.there) [
            | inl same ↦
                let one : a ≡ b = some_is a b (sym c.kept.is ∙ ap (λ (e : Entry). e.answer) same ∙ d.kept.is) in
                pair_above (λ (x y : Answer). x.session ≡ y.session → x.index ≢ y.index) a b run.answers (apart_pairs run.answers apart) above (ap (λ (x : Answer). x.session) one) (ap (λ (x : Answer). x.index) one)
            | inr (inl up) ↦
                let lt = mtrs_up work o w f.facts id.node (down id.node) (entries id.node) (f.kept id.node k) (f.all id.node k) (next_in_order script spelled work opening o w down entries downs f id.node k) c.entry d.entry c.mtr d.mtr up c.made d.made in
                absurd (omega (arith, lt, down_to))
            | inr (inr low) ↦
                let lt = mtrs_up work o w f.facts id.node (down id.node) (entries id.node) (f.kept id.node k) (f.all id.node k) (next_in_order script spelled work opening o w down entries downs f id.node k) d.entry c.entry d.mtr c.mtr low d.made c.made in
                absurd (omega (arith, lt, upto))
          ]

  number_within : (a : Answer) (n : ℕ) → IsIn a run.answers → cts_of a.reply ≡ Some n → (o.trx.base.ts < n) × (n ≤ w.trx.tso)
  number_within a n there shows =
      let x = record_entry script spelled work opening o w down entries downs f run told a n there shows in
      f.facts.inv.trx.draws.within (x.0).node (draw_of x.0 n) x.1.records.drawn

  -- each number that was drawn is shown
  number_there : (n : ℕ) → o.trx.base.ts < n → n ≤ w.trx.tso → IsIn n (numbers run.answers)
  number_there n low high =
      let d = f.facts.inv.trx.draws.none_missing n low high in
      let node = node_of_draw d.0 (draw_of d.1 n) d.2 in
      let e = from_found (λ (x : Entry). x.trace.drew) (entries d.0) (draw_of d.1 n) (subst (IsIn (draw_of d.1 n)) (sym (f.kept d.0 node).drew) (in_reverse (draw_of d.1 n) (drawn_in w.trx d.0) d.2)) in
      let a = answer_of work o w f.facts d.0 (down d.0) (entries d.0) (f.kept d.0 node) (f.all d.0 node) (next_in_order script spelled work opening o w down entries downs f d.0 node) e.0 e.1 in
      let kept : IsKeptBy script spelled work opening o w down entries downs f run told d.0 e.0 a.0 = record { node = node; there = e.1; is = a.1 } in
      let s = supported script spelled work opening o w down entries downs f run told d.0 e.0 a.0 kept in
      in_found (λ (x : Answer). cts_of x.reply) a.0 run.answers n (in_run script spelled work opening o w down entries downs f run told d.0 e.0 a.0 kept)
      (which_draw work (core_part w d.0) (e.0).trace s.line (down d.0) (a.0).reply (draw_of d.1 n) s.reply e.2)
    where
      node_of_draw : (k : ℕ) (d : Draw) → IsIn d (drawn_in w.trx k) → IsNode o.trx k
      node_of_draw k d there = let begun = f.facts.inv.trx.drawers.had_begun k d there in f.facts.inv.trx.ids.nodes k (begun_of d.id begun.0) begun.1

  numbers_apart : AreApart (numbers run.answers)
  numbers_apart = pairs_by (λ x y. x ≢ y) (numbers run.answers) (λ x y above same.
      let at = from_above_found (λ (a : Answer). cts_of a.reply) run.answers x y above in
      one_number at.0 at.1 x at.2 at.3 (at.4 ∙ ap (λ (n : ℕ). Some n) (sym same)))

  pub counts : length (numbers run.answers) ≡ run.commits → CountsCommits w run
  counts many =
      let from = f.facts.inv.trx.draws in
      let low : o.trx.base.ts ≤ w.trx.tso = f.facts.inv.trx.sight.from_base in
      let count : ℕ = w.trx.tso - o.trx.base.ts in
      let tso_is : w.trx.tso ≡ o.trx.base.ts + count = omega (arith, low) in
      let same = as_many o.trx.base.ts count (numbers run.answers) numbers_apart
      (λ n there.
      let a = from_found (λ (x : Answer). cts_of x.reply) run.answers n there in
      let bounds = number_within a.0 n a.1 a.2 in
      let high = bounds.1 in
      (bounds.0, omega (arith, high, tso_is)))
      (λ n above upto. number_there n above (omega (arith, upto, tso_is))) in
      let base = base_is script spelled work opening o w down entries downs f run told in
      omega (arith, tso_is, same, many, base)

  module _ (many : length (numbers run.answers) ≡ run.commits) where
    counted : CountsCommits w run
    counted = counts many

    free_number : (over : List Answer) (y : Answer) (rest : List Answer) → run.answers ≡ over ++ y ∷ rest → (x : Option ℕ) → cts_of y.reply ≡ x → IfSome x (IsFreeNumber run over y)
    free_number over y rest split None is = tt
    free_number over y rest split (Some n) is =
        let there : IsIn y run.answers = subst (IsIn y) (sym split) (last_in over y rest) in
        let x = record_entry script spelled work opening o w down entries downs f run told y n there is in
        let view = view_by script spelled work opening o w down entries downs f run told (x.0).node x.1.entry x.0 x.1.view y x.1.line x.1.kept x.1.found x.1.trx in
        let bounds = number_within y n there is in
        let low = bounds.0 in
        let high = bounds.1 in
        let above = x.1.records.above in
        let base = base_is script spelled work opening o w down entries downs f run told in
        let count = counted in
        record {
          above_base = omega (arith, low, base);
          within = omega (arith, high, count);
          above_view = omega (arith, view, above);
          free = all_of (λ other. other ≢ n) (numbers over) (λ other also same.
              let at = from_found (λ (z : Answer). cts_of z.reply) over other also in
              one_number at.0 y n (subst (StandsAbove at.0 y) (sym split) (over_above over y rest at.0 at.1)) (at.2 ∙ ap (λ (k : ℕ). Some k) same) is);
        }

    pub are_numbered : AreNumbered run
    are_numbered = record {
      each = each_split (λ above answer. IfSome (cts_of answer.reply) (IsFreeNumber run above answer)) run.answers [] run.answers refl (λ over y rest split. free_number over y rest split (cts_of y.reply) refl);
      all = many;
    }

    -- a view that covers the commits above it is right
    began_right : (n : ℕ) (e : Entry) (a : Answer) (line : Line) (P : ℕ → Type 0) → ((view : ℕ) → (run.opening.base ≤ view) × (view ≤ run.opening.base + run.commits) → P view) → (reply : Reply) → SupportsReply work (core_part w n) (down n) e.trace line reply → IfBegan reply P
    began_right n e a line P h (Began view) s =
        let bounds = view_bounds script spelled work opening o w down entries downs f run told counted n (s.0).id (s.0).view s.3 in
        subst P s.4 (h (s.0).view bounds)
    began_right n e a line P h (Got value) s = tt
    began_right n e a line P h (Scanned rows) s = tt
    began_right n e a line P h (Wrote verb) s = tt
    began_right n e a line P h (Committed cts) s = tt
    began_right n e a line P h CommittedNone s = tt
    began_right n e a line P h (Unknown cts) s = tt
    began_right n e a line P h RolledBack s = tt
    began_right n e a line P h (Conflict verb cts) s = tt
    began_right n e a line P h (Held verb name) s = tt
    began_right n e a line P h (Full verb) s = tt
    began_right n e a line P h Skipped s = tt
    began_right n e a line P h (Stopped by) s = tt

    both_began : (P Q R : ℕ → Type 0) → ((v : ℕ) → P v → Q v → R v) → (reply : Reply) → IfBegan reply P → IfBegan reply Q → IfBegan reply R
    both_began P Q R h (Began view) p q = h view p q
    both_began P Q R h (Got value) p q = tt
    both_began P Q R h (Scanned rows) p q = tt
    both_began P Q R h (Wrote verb) p q = tt
    both_began P Q R h (Committed cts) p q = tt
    both_began P Q R h CommittedNone p q = tt
    both_began P Q R h (Unknown cts) p q = tt
    both_began P Q R h RolledBack p q = tt
    both_began P Q R h (Conflict verb cts) p q = tt
    both_began P Q R h (Held verb name) p q = tt
    both_began P Q R h (Full verb) p q = tt
    both_began P Q R h Skipped p q = tt
    both_began P Q R h (Stopped by) p q = tt

    pub views_right : (above answers : List Answer) → ((a : Answer) → IsIn a answers → IsIn a run.answers) → EachBelow (λ over answer. IfShowsView answer (CoversAbove run.mode run.opening.base over)) above answers → EachBelow (λ over answer. IfShowsView answer (IsRightView run over)) above answers
    views_right above [] within each = tt
    views_right above (a ∷ answers) within each =
        let k = kept_answer script spelled work opening o w down entries downs f run told a (within a (inl refl)) in
        let s = supported script spelled work opening o w down entries downs f run told k.0 k.1 a k.2 in (
          both_began (λ view. (run.opening.base ≤ view) × (view ≤ run.opening.base + run.commits)) (CoversAbove run.mode run.opening.base above) (IsRightView run above) (λ v bounds covers. record { low = bounds.0; high = bounds.1; covers = covers }) a.reply
              (began_right k.0 k.1 a s.line (λ view. (run.opening.base ≤ view) × (view ≤ run.opening.base + run.commits)) (λ view bounds. bounds) a.reply s.reply) each.0,
          views_right (above ++ a ∷ []) answers (λ b there. within b (inr there)) each.1,
        )
