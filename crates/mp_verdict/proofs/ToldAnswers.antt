-- Looking an answer up in an execution finds the one that a primary kept; a transaction has one id, and the view that its
-- `begin` was answered.
use Rattle.std.proofs.Common.{◌≡◌, ℕ, ◌<◌, ◌≤◌, Bool, true, cond, List, Option, Some, None, refl, sym, ap, subst, ◌∙◌, inl, inr, arith}
use mathlib.Core.Bool.{false≢true}
use Rattle.std.specs.Option.{option_map}
use Rattle.std.specs.List.{AllByRecursion}
use Rattle.mp_machine.specs.Lists.{IsIn}
use Rattle.mp_machine.proofs.Lists.{same_item}
use Rattle.mp_model.specs.declared.histories.Opening.{Opening}
use Rattle.mp_model.specs.declared.ids.TrxId.{TrxId}
use Rattle.mp_model.specs.declared.ids.TrxName.{TrxName}
use Rattle.mp_model.specs.declared.replies.Answer.{Answer}
use Rattle.mp_model.specs.declared.replies.Reply.{Reply}
use Rattle.mp_model.specs.declared.replies.Reply.TheVariants.{Wrote}
use Rattle.mp_model.specs.declared.replies.WriteVerb.{WriteVerb}
use Rattle.mp_model.specs.declared.transcripts.Down.{Down}
use Rattle.mp_script.specs.declared.statements.Line.{Line}
use Rattle.mp_script.specs.declared.statements.Script.{Script}
use Rattle.mp_script.specs.declared.statements.SessionOn.{SessionOn}
use Rattle.mp_script.specs.declared.statements.Stmt.{Stmt}
use Rattle.mp_script.specs.declared.statements.Stmt.TheVariants.{Begin}
use Rattle.mp_script.specs.Execution.{Execution, line_at, stmt_in, stmt_at, answer_at, reply_at, is_session_on}
use Rattle.mp_script.specs.Right.{WritesKey}
use Rattle.mp_script.specs.SpelledLines.{IsLineInRange}
use Rattle.mp_script.specs.Spelling.{IsSpelled}
use Rattle.mp_script.specs.Transactions.{target_key, begins, trx_in_lines, view_in, view_of, is_wrote, wrote_at}
use Rattle.mp_script.specs.Standing.{StandsAbove}
use Rattle.mp_script.proofs.Options.{some_is, not_some}
use Rattle.mp_script.proofs.Ordered.{above_or, all_in}
use Rattle.mp_script.proofs.ScriptLines.{IndexesRise, one_primary, lines_rise, lines_within, begin_itself}
use Rattle.mp_script.proofs.Looking.{line_is, answer_is, answer_found}
use Rattle.mp_script.proofs.ReplyForms.{target_same, wrote_verb}
use Rattle.mp_core_trx.specs.declared.part.Begun.{Begun}
use Rattle.mp_core_trx.specs.Parts.{begun_of}
use Rattle.mp_core_trx.specs.Events.{IsNode}
use Rattle.mp_core_trx.specs.World.{begun_in}
use Rattle.mp_histories.proofs.Writers.{decided}
use Rattle.mp_core.specs.declared.opening.CoreOpening.{CoreOpening}
use Rattle.mp_core.specs.World.{CoreWorld, core_part}
use Rattle.mp_supports.specs.Work.{Work, name_of}
use Rattle.mp_supports.specs.Supports.{Supports}
use Rattle.mp_supports.specs.Kept.{Entry}
use Rattle.mp_verdict.specs.Finished.{Finished}
use Rattle.mp_verdict.specs.Told.{IsToldBy}
use Rattle.mp_verdict.proofs.WhichTraces.{which_begin}
use Rattle.mp_verdict.proofs.KeptOrder.{answer_of, support_of, entry_of_begin, index_up, session_here}
use Rattle.mp_verdict.proofs.NamesOfIds.{one_version}
use Rattle.mp_verdict.proofs.NextInOrder.{next_in_order}

module _ (script : Script) (spelled : IsSpelled script) (work : Work) (opening : Opening) (o : CoreOpening) (w : CoreWorld) (down : ℕ → ℕ) (entries : ℕ → List Entry) (downs : List Down)
    (f : Finished work script opening o w down entries downs) (run : Execution) (told : IsToldBy work opening o entries downs run) where
  pub rise : IndexesRise work.lines
  rise = subst IndexesRise (sym f.work_of.lines) (lines_rise script spelled)

  pub one_node : (session n m : ℕ) → is_session_on work.sessions session n ≡ true → is_session_on work.sessions session m ≡ true → n ≡ m
  one_node session n m h k =
      one_primary script spelled session n m (subst (λ (sessions : List SessionOn). is_session_on sessions session n ≡ true) f.work_of.sessions h) (subst (λ (sessions : List SessionOn). is_session_on sessions session m ≡ true) f.work_of.sessions k)

  -- an answer with its entry, and the node that kept it
  pub record IsKeptBy (n : ℕ) (e : Entry) (a : Answer) : Type 0 where
    pub node : IsNode o.trx n
    pub there : IsIn e (entries n)
    pub is : e.answer ≡ Some a

  pub on_node : (n : ℕ) (e : Entry) (a : Answer) → IsKeptBy n e a → is_session_on work.sessions a.session n ≡ true
  on_node n e a k = session_here work o w f.facts n (down n) (entries n) (f.kept n k.node) (f.all n k.node) (next_in_order script spelled work opening o w down entries downs f n k.node) e a k.there k.is

  pub supported : (n : ℕ) (e : Entry) (a : Answer) → IsKeptBy n e a → Supports work (core_part w n) (down n) a e.trace
  supported n e a k = support_of work o w f.facts n (down n) (entries n) (f.kept n k.node) (f.all n k.node) (next_in_order script spelled work opening o w down entries downs f n k.node) e a k.there k.is

  pub kept_answer : (a : Answer) → IsIn a run.answers → (n : ℕ) × (e : Entry) × IsKeptBy n e a
  kept_answer a there = let x = told.only a there in (x.0, x.2.0, record { node = x.1; there = x.2.1; is = x.2.2 })

  pub in_run : (n : ℕ) (e : Entry) (a : Answer) → IsKeptBy n e a → IsIn a run.answers
  in_run n e a k = told.has n e a k.node k.there k.is

  -- answers to statements of one session are kept by one node
  pub same_node : (n m : ℕ) (e x : Entry) (a b : Answer) → IsKeptBy n e a → IsKeptBy m x b → a.session ≡ b.session → IsKeptBy n x b
  same_node n m e x a b k l session =
      let is : n ≡ m = one_node b.session n m (subst (λ (s : ℕ). is_session_on work.sessions s n ≡ true) session (on_node n e a k)) (on_node m x b l) in
      subst (λ (i : ℕ). IsKeptBy i x b) (sym is) l

  -- an entry with a lower index stands above
  pub above_by_index : (n : ℕ) (e x : Entry) (a b : Answer) → IsKeptBy n e a → IsKeptBy n x b → a.session ≡ b.session → a.index < b.index → StandsAbove e x (entries n)
  above_by_index n e x a b k l session lt = elim (above_or e x (entries n) k.there l.there) [
    | inl same ↦
        let one : a ≡ b = some_is a b (sym k.is ∙ ap (λ (y : Entry). y.answer) same ∙ l.is) in
        let index : a.index ≡ b.index = ap (λ (y : Answer). y.index) one in
        absurd (omega (arith, lt, index))
    | inr (inl above) ↦ above
    | inr (inr below) ↦
        let gt = index_up work o w f.facts n (down n) (entries n) (f.kept n k.node) (f.all n k.node) (next_in_order script spelled work opening o w down entries downs f n k.node) x e b a below l.is k.is (sym session) in
        absurd (omega (arith, lt, gt))
  ]

  -- no statement is answered twice
  pub one_entry : (n : ℕ) (e x : Entry) (a b : Answer) → IsKeptBy n e a → IsKeptBy n x b → a.session ≡ b.session → a.index ≡ b.index → e ≡ x
  one_entry n e x a b k l session index = elim (above_or e x (entries n) k.there l.there) [
    | inl same ↦ same
    | inr (inl above) ↦
        let lt = index_up work o w f.facts n (down n) (entries n) (f.kept n k.node) (f.all n k.node) (next_in_order script spelled work opening o w down entries downs f n k.node) e x a b above k.is l.is session in
        absurd (omega (arith, lt, index))
    | inr (inr below) ↦
        let gt = index_up work o w f.facts n (down n) (entries n) (f.kept n k.node) (f.all n k.node) (next_in_order script spelled work opening o w down entries downs f n k.node) x e b a below l.is k.is (sym session) in
        absurd (omega (arith, gt, index))
  ]

  pub one_answer : (a b : Answer) → IsIn a run.answers → IsIn b run.answers → a.session ≡ b.session → a.index ≡ b.index → a ≡ b
  one_answer a b h k session index =
      let x = kept_answer a h in
      let y = kept_answer b k in
      let z = same_node x.0 y.0 x.1 y.1 a b x.2 y.2 session in
      let same = one_entry x.0 x.1 y.1 a b x.2 z session index in
      some_is a b (sym x.2.is ∙ ap (λ (v : Entry). v.answer) same ∙ z.is)

  pub answer_here : (a : Answer) → IsIn a run.answers → answer_at run.answers a.session a.index ≡ Some a
  answer_here a there = answer_found run.answers a there (λ b h session index. one_answer b a h there session index)

  pub reply_here : (a : Answer) → IsIn a run.answers → reply_at run a.session a.index ≡ Some a.reply
  reply_here a there = ap (option_map (λ (x : Answer). x.reply)) (answer_here a there)

  pub stmt_here : (a : Answer) (line : Line) → line_at work.lines a.session a.index ≡ Some line → stmt_at run a.session a.index ≡ Some line.stmt
  stmt_here a line e = ap (λ (lines : List Line). stmt_in lines a.session a.index) told.lines ∙ ap (option_map (λ (l : Line). l.stmt)) e

  -- a write that was answered ok
  pub wrote_there : (a : Answer) (line : Line) (verb other : WriteVerb) (key : ℕ) → IsIn a run.answers → a.reply ≡ Wrote verb → line_at work.lines a.session a.index ≡ Some line → WritesKey line other key → wrote_at run a.session a.index ≡ Some key
  wrote_there a line verb other key there reply found writes =
      let ok : is_wrote (reply_at run a.session a.index) ≡ true = ap is_wrote (reply_here a there ∙ ap (λ (r : Reply). Some r) reply) in
      ap (λ (b : Bool). cond b (target_key (stmt_at run a.session a.index)) None) ok ∙ ap target_key (stmt_here a line found) ∙ target_same line.stmt other key writes

  pub record IsWroteAt (session index key : ℕ) : Type 0 where
    pub answer : Answer
    pub there : IsIn answer run.answers
    pub session_is : answer.session ≡ session
    pub index_is : answer.index ≡ index
    pub verb : WriteVerb
    pub wrote : answer.reply ≡ Wrote verb
    pub target : target_key (stmt_at run session index) ≡ Some key

  pub wrote_is : (session index key : ℕ) → wrote_at run session index ≡ Some key → IsWroteAt session index key
  wrote_is session index key e = elim (decided (is_wrote (reply_at run session index))) [
    | inl ok ↦ by_answer (answer_at run.answers session index) refl ok (sym (ap (λ (b : Bool). cond b (target_key (stmt_at run session index)) None) ok) ∙ e)
    | inr none ↦ absurd (not_some key (sym (ap (λ (b : Bool). cond b (target_key (stmt_at run session index)) None) none) ∙ e))
  ]
    where
      by_answer : (x : Option Answer) → answer_at run.answers session index ≡ x → is_wrote (reply_at run session index) ≡ true → target_key (stmt_at run session index) ≡ Some key → IsWroteAt session index key
      by_answer None is ok target = absurd (false≢true (sym (ap (λ (x : Option Answer). is_wrote (option_map (λ (a : Answer). a.reply) x)) is) ∙ ok))
      by_answer (Some a) is ok target =
          let found = answer_is run.answers session index a is in
          let verb = wrote_verb a.reply (sym (ap (λ (x : Option Answer). is_wrote (option_map (λ (b : Answer). b.reply) x)) is) ∙ ok) in
          record { answer = a; there = found.0; session_is = found.1; index_is = found.2; verb = verb.0; wrote = verb.1; target = target }

  -- a transaction has one id, and one view
  pub one_trx : (n : ℕ) (id other : TrxId) (view shown : ℕ) (name : TrxName) → IsIn (begun_of id view) (begun_in w.trx n) → IsIn (begun_of other shown) (begun_in w.trx n) → name_of work id ≡ Some name → name_of work other ≡ Some name → (id ≡ other) × (view ≡ shown)
  one_trx n id other view shown name h k e g =
      let version = one_version work rise id other name e g in
      let same = same_item (λ (b : Begun). b.id.version) (begun_in w.trx n) (f.facts.inv.trx.ids.differ n) (begun_of id view) (begun_of other shown) h k version in
      (ap (λ (b : Begun). b.id) same, ap (λ (b : Begun). b.view) same)

  begins_so : (lines : List Line) (session index : ℕ) (line : Line) → line_at lines session index ≡ Some line → line.stmt ≡ Begin → begins (stmt_in lines session index) ≡ true
  begins_so lines session index line e is = ap (λ (x : Option Line). begins (option_map (λ (l : Line). l.stmt) x)) e ∙ ap (λ (s : Stmt). begins (Some s)) is

  -- the view of a transaction is the one that its `begin` was answered
  pub view_is : (n : ℕ) (id : TrxId) (view : ℕ) (name : TrxName) → IsNode o.trx n → IsIn (begun_of id view) (begun_in w.trx n) → name_of work id ≡ Some name → view_of run name ≡ view
  view_is n id view name node h e =
      let x = entry_of_begin work o w f.facts n (down n) (entries n) (f.kept n node) (f.all n node) (next_in_order script spelled work opening o w down entries downs f n node) (begun_of id view) h in
      let a = answer_of work o w f.facts n (down n) (entries n) (f.kept n node) (f.all n node) (next_in_order script spelled work opening o w down entries downs f n node) x.0 x.1 in
      let k : IsKeptBy n x.0 a.0 = record { node = node; there = x.1; is = a.1 } in
      let s = supported n x.0 a.0 k in
      let b = which_begin work (core_part w n) (x.0).trace s.line (down n) (a.0).reply (begun_of id view) s.reply x.2 in
      let line = line_is work.lines (a.0).session (a.0).index s.line s.found in
      let within = all_in IsLineInRange s.line work.lines (subst (AllByRecursion IsLineInRange) (sym f.work_of.lines) (lines_within script spelled)) line.0 in
      let low : 1 ≤ s.line.index = within.index_low in
      let low_here : 1 ≤ (a.0).index = let same = line.2 in omega (arith, low, same) in
      let first = begin_itself work.lines (a.0).session (a.0).index low_here (begins_so work.lines (a.0).session (a.0).index s.line s.found b.stmt) in
      let named : name ≡ trx_in_lines work.lines (a.0).session (a.0).index =
      some_is name (trx_in_lines work.lines (a.0).session (a.0).index) (sym e ∙ b.named ∙ ap (λ (i : ℕ). Some (trx_in_lines work.lines i s.line.index)) line.1 ∙ ap (λ (i : ℕ). Some (trx_in_lines work.lines (a.0).session i)) line.2) in
      ap (view_of run) (named ∙ ap (λ (i : ℕ). record { session = (a.0).session; first = i }) first)
      ∙ ap (view_in run.opening.base) (reply_here a.0 (in_run n x.0 a.0 k) ∙ ap (λ (r : Reply). Some r) b.is)
