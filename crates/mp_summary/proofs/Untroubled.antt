-- No statement of a generated script is refused, so each is answered, each put is done and each transaction commits.
use Rattle.std.proofs.Common.{arith, ◌≡◌, ℕ, zero, suc, ◌+◌, ◌*◌, ◌-◌, ◌/◌, ◌<◌, ◌≤◌, ◌==◌, ◌&&◌, ◌||◌, Bool, true, false, cond, is_some, List, [], Option, Some, None, refl, sym, ap, ap₂, subst, ◌∙◌, inl, inr}
use Rattle.std.specs.Prelude.{count_by}
use Rattle.std.specs.List.{list_any, AllByRecursion}
use Rattle.std.specs.Option.{option_map}
use Rattle.std.proofs.lemmas.Bool.{cases_Bool}
use mathlib.Core.Bool.{false≢true}
use Rattle.mp_machine.specs.Lists.{IsIn}
use Rattle.mp_model.specs.declared.histories.Opening.{Opening}
use Rattle.mp_model.specs.declared.ids.TrxName.{TrxName}
use Rattle.mp_model.specs.declared.replies.WriteVerb.{WriteVerb}
use Rattle.mp_model.specs.declared.replies.Answer.{Answer}
use Rattle.mp_model.specs.declared.replies.Reply.{Reply}
use Rattle.mp_model.specs.declared.replies.Reply.TheVariants.{Began, Got, Scanned, Wrote, Committed, CommittedNone, Unknown, RolledBack, Conflict, Held, Full, Skipped, Stopped}
use Rattle.mp_model.specs.declared.transcripts.Down.{Down}
use Rattle.mp_model.specs.declared.transcripts.Transcript.{Transcript}
use Rattle.mp_script.specs.declared.statements.Line.{Line}
use Rattle.mp_script.specs.declared.statements.Script.{Script}
use Rattle.mp_script.specs.declared.statements.Stmt.{Stmt}
use Rattle.mp_script.specs.declared.statements.Stmt.TheVariants as stmts
use Rattle.mp_script.specs.Execution.{Execution, execution_of, all_answers, line_at, stmt_at, answer_at, reply_at, runs_on}
use Rattle.mp_script.specs.Legal.{Legal}
use Rattle.mp_script.specs.Right.{HasOwnWrite, WritesKey, IsRightReply, FollowsRefusal, IsRightAnswer}
use Rattle.mp_script.specs.Spelling.{IsSpelled}
use Rattle.mp_script.specs.Transactions.{begin_in, trx_at, statements_before, is_wrote, is_refusal, Target, target_of, target_key, wrote_at, wrote_before, refused_among, refused_before}
use Rattle.mp_script.specs.WentDown.{IsNamedDown}
use Rattle.mp_script.proofs.AmongWrites.{one_wrote, some_wrote}
use Rattle.mp_script.proofs.Looking.{line_is, answer_is}
use Rattle.mp_script.proofs.Options.{some_is, not_some}
use Rattle.mp_script.proofs.Ordered.{all_in}
use Rattle.mp_script.proofs.ReplyForms.{target_same}
use Rattle.mp_script.proofs.ScriptLines.{IndexesRise, lines_rise}
use Rattle.mp_generate.specs.declared.making.Form.{Form}
use Rattle.mp_generate.specs.declared.making.Form.TheVariants.{Begin, Put, Get, Commit}
use Rattle.mp_generate.specs.Generated.{key_of_round, generated_line, generated_lines, IsGenerated, IsKeyOf, WritesItsOwn}
use Rattle.mp_summary.specs.Summaries.{is_answered, is_acknowledged}
use Rattle.mp_summary.proofs.AllAnswered.{as_stated, line_answered}
use Rattle.mp_summary.proofs.GeneratedLines.{IsMade, made_so, stands, line_found, commits, put_count, commit_begins}

pub keyed : (session : ℕ) (stmt : Stmt) (key : ℕ) → WritesItsOwn session stmt → target_key (Some stmt) ≡ Some key → IsKeyOf session key
keyed session stmts.Begin key own e = absurd (not_some key e)
keyed session (stmts.Get k) key own e = absurd (not_some key e)
keyed session (stmts.Put k value) key own e = subst (IsKeyOf session) (some_is k key e) own
keyed session (stmts.Del k) key own e = subst (IsKeyOf session) (some_is k key e) own
keyed session (stmts.Copy from to) key own e = subst (IsKeyOf session) (some_is to key e) own
keyed session (stmts.Scan low most) key own e = absurd (not_some key e)
keyed session stmts.Commit key own e = absurd (not_some key e)
keyed session stmts.Rollback key own e = absurd (not_some key e)

writes_no_commit : (stmt : Stmt) (target : Target) → target_of stmt ≡ Some target → commits stmt ≡ false
writes_no_commit stmts.Begin target e = refl
writes_no_commit (stmts.Get k) target e = refl
writes_no_commit (stmts.Put k value) target e = refl
writes_no_commit (stmts.Del k) target e = refl
writes_no_commit (stmts.Copy from to) target e = refl
writes_no_commit (stmts.Scan low most) target e = refl
writes_no_commit stmts.Commit target e = absurd (not_some target e)
writes_no_commit stmts.Rollback target e = refl

-- what is known of a generated script and of its transcript
pub record IsSmooth (number : ℕ) (script : Script) (opening : Opening) (transcript : Transcript) : Type 0 where
  pub made : IsGenerated number script
  pub legal : Legal script opening transcript
  pub none_down : transcript.downs.items ≡ []
  pub room : opening.taken + 3760 ≤ 4096
  pub spelled : IsSpelled script
  pub own : AllByRecursion (λ line. WritesItsOwn line.session line.stmt) (generated_lines number)

module _ (number : ℕ) (script : Script) (opening : Opening) (transcript : Transcript) (smooth : IsSmooth number script opening transcript) where
  abbrev run : Execution
  run = execution_of script opening transcript

  owned : (line : Line) → IsIn line script.lines.items → WritesItsOwn line.session line.stmt
  owned line there = all_in (λ (l : Line). WritesItsOwn l.session l.stmt) line (generated_lines number) smooth.own (subst (IsIn line) smooth.made.lines there)

  pub rise : IndexesRise script.lines.items
  rise = lines_rise script smooth.spelled

  pub right_line : (a : Answer) → IsIn a (all_answers transcript) → IsRightAnswer run a
  right_line a there = all_in (IsRightAnswer run) a (all_answers transcript) smooth.legal.right there

  -- what a session wrote is its own
  wrote_own : (session index key : ℕ) → wrote_at run session index ≡ Some key → key / 1000 ≡ session
  wrote_own session index key e = elim (cases_Bool (is_wrote (reply_at run session index))) [
    | inl t ↦ by_line (line_at script.lines.items session index) refl (sym (ap (λ (b : Bool). cond b (target_key (stmt_at run session index)) None) t) ∙ e)
    | inr f ↦ absurd (not_some key (sym (ap (λ (b : Bool). cond b (target_key (stmt_at run session index)) None) f) ∙ e))
  ]
    where
      by_line : (o : Option Line) → line_at script.lines.items session index ≡ o → target_key (stmt_at run session index) ≡ Some key
          → key / 1000 ≡ session
      by_line None found wrote = absurd (not_some key (sym (ap (λ (o : Option Line). target_key (option_map (λ (l : Line). l.stmt) o)) found) ∙ wrote))
      by_line (Some line) found wrote =
          let is = line_is script.lines.items session index line found in
          let its = keyed line.session line.stmt key (owned line is.0) (sym (ap (λ (o : Option Line). target_key (option_map (λ (l : Line). l.stmt) o)) found) ∙ wrote) in
          its.thousand ∙ is.1

  before_own : (session index key : ℕ) → wrote_before run session index key ≡ true → key / 1000 ≡ session
  before_own session index key e =
      let trx : TrxName = trx_at run session index in
      let wrote = one_wrote run trx (statements_before trx index) key e in
      wrote_own session (trx.first + suc wrote.0) key wrote.2

  target_own : (line : Line) (verb : WriteVerb) (key : ℕ) → IsIn line script.lines.items → WritesKey line verb key
      → key / 1000 ≡ line.session
  target_own line verb key there target = (keyed line.session line.stmt key (owned line there) (target_same line.stmt verb key target)).thousand

  not_full : 4096 < opening.taken + 5 * count_by (λ line. is_some (target_of line.stmt)) script.lines.items → ⊥
  not_full over =
      let count : count_by (λ (line : Line). is_some (target_of line.stmt)) script.lines.items ≡ 752 = ap (λ (l : List Line). count_by (λ (line : Line). is_some (target_of line.stmt)) l) smooth.made.lines ∙ put_count number in
      let room = smooth.room in
      absurd (omega (arith, over, count, room))

  reply_kept : (line : Line) (reply : Reply) → IsIn line script.lines.items → IsRightReply run line reply → is_refusal (Some reply) ≡ false
  reply_kept line (Began view) there r = refl
  reply_kept line (Got value) there r = refl
  reply_kept line (Scanned rows) there r = refl
  reply_kept line (Wrote verb) there r = refl
  reply_kept line (Committed cts) there r = refl
  reply_kept line CommittedNone there r = refl
  reply_kept line (Unknown cts) there r = refl
  reply_kept line RolledBack there r = refl
  reply_kept line (Conflict verb cts) there r = absurd (r.2.other (sym (before_own r.2.answer.session r.2.answer.index r.0 r.2.written) ∙ target_own line verb r.0 there r.1))
  reply_kept line (Held verb holder) there r = absurd (r.2.other (sym (wrote_own holder.session r.2.written.index r.0 r.2.written.written) ∙ target_own line verb r.0 there r.1))
  reply_kept line (Full verb) there r = absurd (not_full r.2)
  reply_kept line Skipped there r = refl
  reply_kept line (Stopped by) there r = refl

  -- no answer is a refusal
  kept : (a : Answer) → IsIn a (all_answers transcript) → is_refusal (Some a.reply) ≡ false
  kept a there =
      let right = right_line a there in
      reply_kept right.line a.reply (line_is script.lines.items a.session a.index right.line right.found).0 right.reply

  kept_at : (session index : ℕ) → is_refusal (reply_at run session index) ≡ false
  kept_at session index = by_answer (answer_at (all_answers transcript) session index) refl
    where
      by_answer : (o : Option Answer) → answer_at (all_answers transcript) session index ≡ o
          → is_refusal (reply_at run session index) ≡ false
      by_answer None found = ap (λ (o : Option Answer). is_refusal (option_map (λ (a : Answer). a.reply) o)) found
      by_answer (Some a) found = ap (λ (o : Option Answer). is_refusal (option_map (λ (x : Answer). x.reply) o)) found ∙ kept a (answer_is (all_answers transcript) session index a found).0

  none_refused : (trx : TrxName) (count : ℕ) → refused_among run trx count ≡ false
  none_refused trx zero = refl
  none_refused trx (suc count) = ap₂ (λ (a b : Bool). a || b) (none_refused trx count) (kept_at trx.session (trx.first + suc count))

  not_down : (test : Down → Bool) → list_any test transcript.downs.items ≡ true → ⊥
  not_down test e = false≢true (sym (ap (λ (downs : List Down). list_any test downs) smooth.none_down) ∙ e)

  fine_reply : (line : Line) (reply : Reply) → IsRightReply run line reply → is_refusal (Some reply) ≡ false → FollowsRefusal false reply
      → (is_answered reply ≡ true) × (is_wrote (Some reply) ≡ is_some (target_of line.stmt))
  fine_reply line (Began view) r k f = (refl, sym (ap (λ (s : Stmt). is_some (target_of s)) r))
  fine_reply line (Got value) r k f = (refl, sym (ap (λ (s : Stmt). is_some (target_of s)) r.1))
  fine_reply line (Scanned rows) r k f = (refl, sym (ap (λ (s : Stmt). is_some (target_of s)) r.2))
  fine_reply line (Wrote verb) r k f = (refl, sym (ap (λ (t : Option Target). is_some t) r.1))
  fine_reply line (Committed cts) r k f = (refl, sym (ap (λ (s : Stmt). is_some (target_of s)) r.0))
  fine_reply line CommittedNone r k f = (refl, sym (ap (λ (s : Stmt). is_some (target_of s)) r.0))
  fine_reply line (Unknown cts) r k f = (refl, sym (ap (λ (s : Stmt). is_some (target_of s)) r.0))
  fine_reply line RolledBack r k f = (refl, sym (ap (λ (s : Stmt). is_some (target_of s)) r))
  fine_reply line (Conflict verb cts) r k f = absurd (false≢true (sym k))
  fine_reply line (Held verb holder) r k f = absurd (false≢true (sym k))
  fine_reply line (Full verb) r k f = absurd (false≢true (sym k))
  fine_reply line Skipped r k f = absurd (false≢true f)
  fine_reply line (Stopped by) r k f = absurd (not_down (λ (down : Down). down.by == by && runs_on run line.session down.primary) r)

  -- each answer is neither skipped nor stopped, and an ok write where its statement writes
  pub fine : (a : Answer) → (there : IsIn a (all_answers transcript))
      → (is_answered a.reply ≡ true) × (is_wrote (Some a.reply) ≡ is_some (target_of (right_line a there).line.stmt))
  fine a there =
      let right = right_line a there in
      let none : refused_before run a.session a.index ≡ false = none_refused (trx_at run a.session a.index) (statements_before (trx_at run a.session a.index) a.index) in
      fine_reply right.line a.reply right.reply (kept a there) (subst (λ (b : Bool). FollowsRefusal b a.reply) none right.follows)

  -- what a line was answered
  pub record HasReply (line : Line) : Type 0 where
    pub answer : Answer
    pub there : IsIn answer (all_answers transcript)
    pub session : answer.session ≡ line.session
    pub index : answer.index ≡ line.index
    pub found : answer_at (all_answers transcript) line.session line.index ≡ Some answer
    pub wrote : is_wrote (Some answer.reply) ≡ is_some (target_of line.stmt)

  pub replied : (line : Line) → IsIn line script.lines.items → HasReply line
  replied line there =
      let found = line_answered script.lines.items (all_answers transcript) line (as_stated script opening transcript smooth.spelled smooth.legal line.session) there in
      let is = answer_is (all_answers transcript) line.session line.index found.0 found.1 in
      let right = right_line found.0 is.0 in
      let same : right.line ≡ line = some_is right.line line (sym right.found ∙ ap₂ (λ (s i : ℕ). line_at script.lines.items s i) is.1 is.2 ∙ line_found script.lines.items rise line there) in
      record { answer = found.0; there = is.0; session = is.1; index = is.2; found = found.1; wrote = (fine found.0 is.0).1 ∙ ap (λ (l : Line). is_some (target_of l.stmt)) same }

  -- each line that writes a key wrote it
  line_wrote : (line : Line) → IsIn line script.lines.items → (key : ℕ) → is_some (target_of line.stmt) ≡ true
      → target_key (Some line.stmt) ≡ Some key → wrote_at run line.session line.index ≡ Some key
  line_wrote line there key writes its =
      let reply = replied line there in
      let done : is_wrote (reply_at run line.session line.index) ≡ true = ap (λ (o : Option Answer). is_wrote (option_map (λ (a : Answer). a.reply) o)) reply.found ∙ reply.wrote ∙ writes in
      ap (λ (b : Bool). cond b (target_key (stmt_at run line.session line.index)) None) done
      ∙ ap (λ (o : Option Line). target_key (option_map (λ (l : Line). l.stmt) o)) (line_found script.lines.items rise line there) ∙ its

  -- a commit's transaction wrote the key of its round
  made_commit : (line : Line) → IsMade number line → line.stmt ≡ stmts.Commit → HasOwnWrite run line
  made_commit line made is = by_form made.form (ap (λ (l : Line). l.stmt) made.is) (ap (λ (l : Line). l.index) made.is)
    where
      by_form : (form : Form) → (generated_line number made.round form made.session).stmt ≡ line.stmt
          → (generated_line number made.round form made.session).index ≡ line.index → HasOwnWrite run line
      by_form Begin stmt index = absurd cc
      by_form Put stmt index = absurd cc
      by_form Get stmt index = absurd cc
      by_form Commit stmt index =
          let key : ℕ = key_of_round number made.round made.session in
          let put : Line = generated_line number made.round Put made.session in
          let there : IsIn put script.lines.items = subst (IsIn put) (sym smooth.made.lines) (stands number made.round Put made.session made.round_low made.round_high made.session_low made.session_high) in
          let wrote : wrote_at run made.session (4 * (made.round - 1) + 2) ≡ Some key = line_wrote put there key refl refl in
          let session : made.session ≡ line.session = ap (λ (l : Line). l.session) made.is in
          let begun : begin_in script.lines.items made.session (4 * (made.round - 1) + 4) ≡ 4 * (made.round - 1) + 1 =
          ap (λ (l : List Line). begin_in l made.session (4 * (made.round - 1) + 4)) smooth.made.lines
          ∙ commit_begins number (subst IndexesRise smooth.made.lines rise) made.round made.session made.round_low made.round_high made.session_low made.session_high in
          let trx : TrxName = trx_at run made.session (4 * (made.round - 1) + 4) in
          let place : trx.first + suc 0 ≡ 4 * (made.round - 1) + 2 = omega (arith, begun) in
          let first : 0 < statements_before trx (4 * (made.round - 1) + 4) = omega (arith, begun) in
          let before : wrote_before run made.session (4 * (made.round - 1) + 4) key ≡ true =
          some_wrote run trx (statements_before trx (4 * (made.round - 1) + 4)) key 0 first (ap (λ (i : ℕ). wrote_at run made.session i) place ∙ wrote) in
          (key, ap₂ (λ (s i : ℕ). wrote_before run s i key) (sym session) (sym index) ∙ before)

  acknowledged : (line : Line) (a : Answer) (reply : Reply) → IsIn a (all_answers transcript) → IsIn line script.lines.items
      → a.reply ≡ reply → IsRightReply run line reply → is_refusal (Some reply) ≡ false → is_answered reply ≡ true
      → is_acknowledged reply ≡ commits line.stmt
  acknowledged line a (Began view) at there is r k f = sym (ap commits r)
  acknowledged line a (Got value) at there is r k f = sym (ap commits r.1)
  acknowledged line a (Scanned rows) at there is r k f = sym (ap commits r.2)
  acknowledged line a (Wrote verb) at there is r k f = sym (writes_no_commit line.stmt (record { verb = verb; key = r.0 }) r.1)
  acknowledged line a (Committed cts) at there is r k f = sym (ap commits r.0)
  acknowledged line a CommittedNone at there is r k f =
      let own = made_commit line (made_so number line (subst (IsIn line) smooth.made.lines there)) r.0 in
      absurd (false≢true (sym (r.1 own.0) ∙ own.1))
  acknowledged line a (Unknown cts) at there is r k f =
      let named = all_in (IsNamedDown run) a (all_answers transcript) smooth.legal.downs.named at in
      absurd (not_down (λ (down : Down). down.by == down.primary && runs_on run a.session down.primary) (named cts is))
  acknowledged line a RolledBack at there is r k f = sym (ap commits r)
  acknowledged line a (Conflict verb cts) at there is r k f = absurd (false≢true (sym k))
  acknowledged line a (Held verb holder) at there is r k f = absurd (false≢true (sym k))
  acknowledged line a (Full verb) at there is r k f = absurd (false≢true (sym k))
  acknowledged line a Skipped at there is r k f = absurd (false≢true f)
  acknowledged line a (Stopped by) at there is r k f = absurd (false≢true f)

  -- an answer acknowledges a commit exactly where its statement is one
  pub commits_so : (a : Answer) → (there : IsIn a (all_answers transcript))
      → is_acknowledged a.reply ≡ commits (right_line a there).line.stmt
  commits_so a there =
      let right = right_line a there in
      acknowledged right.line a a.reply there (line_is script.lines.items a.session a.index right.line right.found).0 refl right.reply (kept a there) (fine a there).0
