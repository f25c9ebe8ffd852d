-- A write that was refused for want of pages: there are more write statements than puts, so they may need more pages than
-- there are.
use Rattle.std.proofs.Common.{◌≡◌, ◌≢◌, ℕ, suc, ◌<◌, ◌≤◌, if◌then◌else◌, Bool, true, false, cond, List, [], ◌∷◌, ◌++◌, length, filter, Option, Some, None, is_some, refl, sym, ap, subst, ◌∙◌, inl, inr, arith}
use mathlib.Core.Bool.{false≢true}
use Rattle.std.specs.Prelude.{count_by}
use Rattle.std.proofs.lemmas.List.Sums.{length-filter}
use Rattle.mp_machine.specs.Lists.{IsIn}
use Rattle.mp_model.specs.declared.histories.Opening.{Opening}
use Rattle.mp_model.specs.declared.replies.Answer.{Answer}
use Rattle.mp_model.specs.declared.replies.Reply.TheVariants.{Full}
use Rattle.mp_model.specs.declared.replies.WriteVerb.{WriteVerb}
use Rattle.mp_model.specs.declared.transcripts.Down.{Down}
use Rattle.mp_script.specs.declared.statements.Line.{Line}
use Rattle.mp_script.specs.declared.statements.Script.{Script}
use Rattle.mp_script.specs.Execution.{Execution, line_at}
use Rattle.mp_script.specs.Right.{MayBeFull}
use Rattle.mp_script.specs.Spelling.{IsSpelled}
use Rattle.mp_script.specs.Transactions.{Target, target_of}
use Rattle.mp_script.proofs.Options.{some_is, not_some}
use Rattle.mp_script.proofs.Ordered.{Pairwise, in_filter}
use Rattle.mp_script.proofs.Looking.{line_is}
use Rattle.mp_script.proofs.Injecting.{fewer}
use Rattle.mp_cells.specs.declared.records.Mtr.{Mtr}
use Rattle.mp_cells.specs.declared.rows.Row.{Row}
use Rattle.mp_cells.specs.PageView.{PageView, bits_set}
use Rattle.mp_core_trx.specs.declared.part.Draw.{Draw}
use Rattle.mp_core_trx.specs.Parts.{draw_of}
use Rattle.mp_histories.specs.Histories.{History, older, entry_at}
use Rattle.mp_histories.proofs.Writers.{decided}
use Rattle.mp_histories.proofs.Noting.{older_first}
use Rattle.mp_core.specs.declared.opening.CoreOpening.{CoreOpening}
use Rattle.mp_core.specs.World.{CoreWorld, core_part}
use Rattle.mp_core.specs.OwnMtrs.{row_put_by, commit_by_mtr, TrxMtr}
use Rattle.mp_facts.specs.Facts.{opening_pages, pages_at_height}
use Rattle.mp_supports.specs.Work.{Work}
use Rattle.mp_supports.specs.Supports.{Trace, SupportsReply}
use Rattle.mp_supports.specs.Kept.{Entry}
use Rattle.mp_verdict.specs.Finished.{Finished}
use Rattle.mp_verdict.specs.Told.{IsToldBy}
use Rattle.mp_verdict.proofs.PlacesOf.{entry_there, one_newer, put_of}
use Rattle.mp_verdict.proofs.WhichTraces.{which_mtr}
use Rattle.mp_verdict.proofs.KeptOrder.{answer_of, entry_of_mtr}
use Rattle.mp_verdict.proofs.ToldAnswers.{IsKeptBy, supported, kept_answer, same_node, one_entry}
use Rattle.mp_verdict.proofs.Telling.{node_of_mtr}
use Rattle.mp_verdict.proofs.NextInOrder.{next_in_order}

abbrev puts_row : Mtr → Bool
puts_row m = is_some (row_put_by m)

-- the places of the puts of a history
abbrev put_places : History → List ℕ
put_places [] = []
put_places (mtr ∷ made) = if puts_row mtr then length made ∷ put_places made else put_places made

places_with : (mtr : Mtr) (made : History) → puts_row mtr ≡ true → put_places (mtr ∷ made) ≡ length made ∷ put_places made
places_with mtr made e = ap (λ (b : Bool). cond b (length made ∷ put_places made) (put_places made)) e

places_without : (mtr : Mtr) (made : History) → puts_row mtr ≡ false → put_places (mtr ∷ made) ≡ put_places made
places_without mtr made e = ap (λ (b : Bool). cond b (length made ∷ put_places made) (put_places made)) e

places_below : (made : History) (p : ℕ) → IsIn p (put_places made) → p < length made
places_below [] p h = absurd h
places_below (mtr ∷ made) p h = elim (decided (puts_row mtr)) [
  | inl e ↦ elim (subst (IsIn p) (places_with mtr made e) h) [
    | inl same ↦ omega (arith, same)
    | inr there ↦ let below = places_below made p there in omega (arith, below)
  ]
  | inr e ↦ let below = places_below made p (subst (IsIn p) (places_without mtr made e) h) in omega (arith, below)
]

places_apart : (made : History) → Pairwise (λ a b. a ≢ b) (put_places made)
places_apart [] = tt
places_apart (mtr ∷ made) = elim (decided (puts_row mtr)) [
  | inl e ↦ subst (Pairwise (λ (a b : ℕ). a ≢ b)) (sym (places_with mtr made e)) (λ y there same. (let below = places_below made y there in absurd (omega (arith, below, same))), places_apart made)
  | inr e ↦ subst (Pairwise (λ (a b : ℕ). a ≢ b)) (sym (places_without mtr made e)) (places_apart made)
]

places_count : (made : History) → length (put_places made) ≡ length (filter puts_row made)
places_count [] = refl
places_count (mtr ∷ made) =
    let rest = places_count made in
    elim (decided (puts_row mtr)) [
      | inl e ↦ ap (λ (l : List ℕ). length l) (places_with mtr made e) ∙ ap suc rest ∙ sym (ap (λ (b : Bool). length (cond b (mtr ∷ filter puts_row made) (filter puts_row made))) e)
      | inr e ↦ ap (λ (l : List ℕ). length l) (places_without mtr made e) ∙ rest ∙ sym (ap (λ (b : Bool). length (cond b (mtr ∷ filter puts_row made) (filter puts_row made))) e)
    ]

places_more : (newer made : History) → length (put_places made) ≤ length (put_places (newer ++ made))
places_more [] made = omega arith
places_more (mtr ∷ newer) made =
    let rest = places_more newer made in
    elim (decided (puts_row mtr)) [
      | inl e ↦ let is = ap (λ (l : List ℕ). length l) (places_with mtr (newer ++ made) e) in omega (arith, rest, is)
      | inr e ↦ let is = ap (λ (l : List ℕ). length l) (places_without mtr (newer ++ made) e) in omega (arith, rest, is)
    ]

-- what stands at the place of a put puts a row
abbrev PutStands : History → ℕ → Type 0
PutStands history p = (mtr : Mtr) × (entry_at p history ≡ Some mtr) × (puts_row mtr ≡ true)

stands_still : (newer : History) (mtr : Mtr) (made : History) (p : ℕ) → PutStands ((newer ++ mtr ∷ []) ++ made) p → PutStands (newer ++ mtr ∷ made) p
stands_still newer mtr made p x = (x.0, ap (entry_at p) (one_newer newer mtr made) ∙ x.1, x.2)

place_puts : (newer made : History) (p : ℕ) → IsIn p (put_places made) → PutStands (newer ++ made) p
place_puts newer [] p h = absurd h
place_puts newer (mtr ∷ made) p h = elim (decided (puts_row mtr)) [
  | inl e ↦ elim (subst (IsIn p) (places_with mtr made e) h) [
    | inl same ↦ (mtr, ap (λ (k : ℕ). entry_at k (newer ++ mtr ∷ made)) same ∙ entry_there newer mtr made, e)
    | inr there ↦ stands_still newer mtr made p (place_puts (newer ++ mtr ∷ []) made p there)
  ]
  | inr e ↦ stands_still newer mtr made p (place_puts (newer ++ mtr ∷ []) made p (subst (IsIn p) (places_without mtr made e) h))
]

some_row : (x : Option Row) → is_some x ≡ true → (row : Row) × (x ≡ Some row)
some_row None e = absurd (false≢true e)
some_row (Some row) e = (row, refl)

module _ (script : Script) (spelled : IsSpelled script) (work : Work) (opening : Opening) (o : CoreOpening) (w : CoreWorld) (down : ℕ → ℕ) (entries : ℕ → List Entry) (downs : List Down)
    (f : Finished work script opening o w down entries downs) (run : Execution) (told : IsToldBy work opening o entries downs run) where
  -- the put at a place is that of a write statement
  record IsPutAtLine (p : ℕ) (line : Line) : Type 0 where
    node : ℕ
    entry : Entry
    answer : Answer
    kept : IsKeptBy script spelled work opening o w down entries downs f run told node entry answer
    mtr : TrxMtr
    made : entry.trace.mtr ≡ Some mtr
    at : mtr.at ≡ p
    found : line_at work.lines answer.session answer.index ≡ Some line

  same_statement : (p q : ℕ) (line : Line) → IsPutAtLine p line → IsPutAtLine q line → p ≡ q
  same_statement p q line x y =
      let a = line_is work.lines x.answer.session x.answer.index line x.found in
      let b = line_is work.lines y.answer.session y.answer.index line y.found in
      let session : x.answer.session ≡ y.answer.session = sym a.1 ∙ b.1 in
      let kept = same_node script spelled work opening o w down entries downs f run told x.node y.node x.entry y.entry x.answer y.answer x.kept y.kept session in
      let one = one_entry script spelled work opening o w down entries downs f run told x.node x.entry y.entry x.answer y.answer x.kept kept session (sym a.2 ∙ b.2) in
      let mtr : x.mtr ≡ y.mtr = some_is x.mtr y.mtr (sym x.made ∙ ap (λ (e : Entry). e.trace.mtr) one ∙ y.made) in
      sym x.at ∙ ap (λ (m : TrxMtr). m.at) mtr ∙ y.at

  line_of_put : (p : ℕ) → IsIn p (put_places w.pages.history) → (line : Line) × IsIn line (filter (λ l. is_some (target_of l.stmt)) work.lines) × IsPutAtLine p line
  line_of_put p there =
      let at = place_puts [] w.pages.history p there in
      let made = f.facts.of_history.all_made p at.0 at.1 in
      let m = made.0 in
      let n = (at.0).node in
      let node = node_of_mtr script spelled work opening o w down entries downs f run told n m made.1 in
      let row = some_row (row_put_by m.mtr) (ap (λ (x : Mtr). is_some (row_put_by x)) made.3 ∙ at.2) in
      let only = put_of o w f.facts n m row.0 made.1 row.1 in
      let x = entry_of_mtr work o w f.facts n (down n) (entries n) (f.kept n node) (f.all n node) (next_in_order script spelled work opening o w down entries downs f n node) m made.1 only.restored in
      let a = answer_of work o w f.facts n (down n) (entries n) (f.kept n node) (f.all n node) (next_in_order script spelled work opening o w down entries downs f n node) x.0 x.1 in
      let kept : IsKeptBy script spelled work opening o w down entries downs f run told n x.0 a.0 = record { node = node; there = x.1; is = a.1 } in
      let s = supported script spelled work opening o w down entries downs f run told n x.0 a.0 kept in
      let no_commit : (d : Draw) → commit_by_mtr m.mtr ≡ Some d → ⊥ = λ d is. not_some d (sym only.commit ∙ is) in
      let target : is_some (target_of s.line.stmt) ≡ true = elim (which_mtr work (core_part w n) (x.0).trace s.line (down n) (a.0).reply m s.reply x.2) [
        | inl q ↦ ap (λ (t : Option Target). is_some t) q.2.writes
        | inr (inl q) ↦ ap (λ (t : Option Target). is_some t) q.2.writes
        | inr (inr (inl q)) ↦ absurd (no_commit (draw_of q.2.id q.0) q.2.records.commit)
        | inr (inr (inr q)) ↦ absurd (no_commit (draw_of q.2.id q.0) q.2.records.commit)
      ] in (
        s.line,
        in_filter (λ (l : Line). is_some (target_of l.stmt)) s.line work.lines (line_is work.lines (a.0).session (a.0).index s.line s.found).0 target,
        record { node = n; entry = x.0; answer = a.0; kept = kept; mtr = m; made = x.2; at = made.2; found = s.found },
      )

  pub full_right : (a : Answer) (verb : WriteVerb) → IsIn a run.answers → a.reply ≡ Full verb → MayBeFull run
  full_right a verb there reply =
      let k = kept_answer script spelled work opening o w down entries downs f run told a there in
      let s = supported script spelled work opening o w down entries downs f run told k.0 k.1 a k.2 in
      let h = subst (SupportsReply work (core_part w k.0) (down k.0) (k.1).trace s.line) reply s.reply in
      let meta = h.3.2.meta in
      let given = f.facts.of_notes.given k.0 meta h.3.2.given in
      let page : bits_set meta.page.bits ≡ bits_set (pages_at_height o w meta.height 0).bits = ap (λ (y : PageView). bits_set y.bits) given.2 ∙ ap (λ (i : ℕ). bits_set (pages_at_height o w meta.height i).bits) h.3.2.number in
      let few = h.3.2.few in
      let most = f.facts.of_versions.room meta.height in
      let first : count_by puts_row (older meta.height w.pages.history) ≡ length (put_places (older meta.height w.pages.history)) = sym (places_count (older meta.height w.pages.history) ∙ length-filter puts_row (older meta.height w.pages.history)) in
      let split = older_first meta.height w.pages.history in
      let more : length (put_places (older meta.height w.pages.history)) ≤ length (put_places w.pages.history) = subst (λ (x : History). length (put_places (older meta.height w.pages.history)) ≤ length (put_places x)) (sym split.split_is) (places_more split.newer (older meta.height w.pages.history)) in
      let refused : IsIn s.line (filter (λ l. is_some (target_of l.stmt)) work.lines) = in_filter (λ (l : Line). is_some (target_of l.stmt)) s.line work.lines (line_is work.lines a.session a.index s.line s.found).0 (ap (λ (t : Option Target). is_some t) h.3.1) in
      let below = fewer IsPutAtLine same_statement (put_places w.pages.history) (filter (λ (l : Line). is_some (target_of l.stmt)) work.lines) s.line refused (places_apart w.pages.history) line_of_put (λ p x.
      let at = line_is work.lines a.session a.index s.line s.found in
      let its = line_is work.lines x.answer.session x.answer.index s.line x.found in
      let session : a.session ≡ x.answer.session = sym at.1 ∙ its.1 in
      let kept = same_node script spelled work opening o w down entries downs f run told k.0 x.node k.1 x.entry a x.answer k.2 x.kept session in
      let one = one_entry script spelled work opening o w down entries downs f run told k.0 k.1 x.entry a x.answer k.2 kept session (sym at.2 ∙ its.2) in
      not_some x.mtr (sym (ap (λ (t : Trace). t.mtr) h.3.3) ∙ ap (λ (e : Entry). e.trace.mtr) one ∙ x.made)) in
      let lines : length (filter (λ (l : Line). is_some (target_of l.stmt)) work.lines) ≡ count_by (λ (l : Line). is_some (target_of l.stmt)) run.lines =
      length-filter (λ (l : Line). is_some (target_of l.stmt)) work.lines ∙ ap (count_by (λ (l : Line). is_some (target_of l.stmt))) (sym told.lines) in
      let taken : run.opening.taken ≡ bits_set (opening_pages o 0).bits = ap (λ (x : Opening). x.taken) told.opening_is ∙ f.opened.taken in
      omega (arith, page, few, most, first, more, below, lines, taken)
