-- What the answers of a generated script's legal transcript add up to.
use Rattle.std.proofs.Common.{arith, ◌≡◌, ℕ, ◌+◌, ◌*◌, ◌<◌, ◌≤◌, Bool, true, false, cond, is_some, List, [], ◌∷◌, length, Option, Some, None, refl, sym, ap, ap₂, subst, ◌∙◌, inl, inr}
use Rattle.std.specs.Prelude.{count_by}
use Rattle.std.specs.List.{AllByRecursion}
use Rattle.std.specs.Option.{option_map}
use Rattle.std.proofs.lemmas.Bool.{cases_Bool}
use Rattle.std.proofs.lemmas.List.Sums.{sum_by-cons}
use Rattle.mp_machine.specs.Lists.{IsIn}
use Rattle.mp_model.specs.declared.histories.Opening.{Opening}
use Rattle.mp_model.specs.declared.replies.Answer.{Answer}
use Rattle.mp_model.specs.declared.transcripts.Transcript.{Transcript}
use Rattle.mp_script.specs.declared.statements.Line.{Line}
use Rattle.mp_script.specs.declared.statements.Script.{Script}
use Rattle.mp_script.specs.declared.statements.Stmt.{Stmt}
use Rattle.mp_script.specs.Execution.{all_answers, stmt_in}
use Rattle.mp_script.specs.Transactions.{is_wrote, target_of, target_key}
use Rattle.mp_script.proofs.ItemsAbove.{all_of}
use Rattle.mp_script.proofs.Looking.{line_is}
use Rattle.mp_script.proofs.Options.{not_some}
use Rattle.mp_script.proofs.Ordered.{all_in, in_found, from_found}
use Rattle.mp_generate.specs.Generated.{generated_lines, WritesItsOwn, IsPutIn}
use Rattle.mp_summary.specs.Summaries.{is_answered, is_acknowledged, answered_count, acknowledged_count, written_key, keys_written, with_numbers, key_count, summary_line, summary_text}
use Rattle.mp_summary.proofs.AllAnswered.{as_stated}
use Rattle.mp_summary.proofs.BySession.{same_counts}
use Rattle.mp_summary.proofs.EachOnce.{IsGeneratedKey, apart_all, from_all, all_there, keys_512}
use Rattle.mp_summary.proofs.GeneratedLines.{made_so, line_found, commits, commits_count}
use Rattle.mp_summary.proofs.Untroubled.{keyed, IsSmooth, right_line, rise, fine, replied, commits_so}

-- tests that agree on the items count alike
same_tests : {X : Type 0} (p q : X → Bool) (xs : List X) → ((x : X) → IsIn x xs → p x ≡ q x) → count_by p xs ≡ count_by q xs
same_tests p q [] same = refl
same_tests {X} p q (x ∷ xs) same =
    let one = sum_by-cons (λ (y : X). cond (p y) 1 0) x xs in
    let two = sum_by-cons (λ (y : X). cond (q y) 1 0) x xs in
    let here : ◌≡◌ {A = ℕ} (cond (p x) 1 0) (cond (q x) 1 0) = ap (λ (b : Bool). cond b 1 0) (same x (inl refl)) in
    let rest = same_tests p q xs (λ y h. same y (inr h)) in
    omega (arith, one, two, here, rest)

all_counted : {X : Type 0} (xs : List X) → count_by (λ x. true) xs ≡ length xs
all_counted [] = refl
all_counted {X} (x ∷ xs) = let one = sum_by-cons (λ (y : X). 1) x xs in let rest = all_counted xs in omega (arith, one, rest)

abbrev commits_at : Option Stmt → Bool
commits_at None = false
commits_at (Some stmt) = commits stmt

module _ (number : ℕ) (script : Script) (opening : Opening) (transcript : Transcript) (smooth : IsSmooth number script opening transcript) where
  line_session : (line : Line) → IsIn line script.lines.items → (1 ≤ line.session) × (line.session ≤ 16)
  line_session line there =
      let made = made_so number line (subst (IsIn line) smooth.made.lines there) in
      let is : made.session ≡ line.session = ap (λ (l : Line). l.session) made.is in
      let low = made.session_low in
      let high = made.session_high in
      (omega (arith, is, low), omega (arith, is, high))

  lines_below : AllByRecursion (λ line. line.session < 17) script.lines.items
  lines_below = all_of (λ (line : Line). line.session < 17) script.lines.items (λ line there. let high = (line_session line there).1 in omega (arith, high))

  answers_below : AllByRecursion (λ a. a.session < 17) (all_answers transcript)
  answers_below = all_of (λ (a : Answer). a.session < 17) (all_answers transcript) (λ a there.
      let right = right_line number script opening transcript smooth a there in
      let is = line_is script.lines.items a.session a.index right.line right.found in
      let high = (line_session right.line is.0).1 in
      let same = is.1 in
      omega (arith, high, same))

  -- as many answers pass a test of their statement as lines do
  as_lines : (test : ℕ → ℕ → Bool)
      → count_by (λ a. test a.session a.index) (all_answers transcript) ≡ count_by (λ line. test line.session line.index) script.lines.items
  as_lines test = same_counts (λ (a : Answer). a.session) (λ (a : Answer). a.index) (λ (l : Line). l.session) (λ (l : Line). l.index) test 17 (all_answers transcript) script.lines.items answers_below lines_below
      (as_stated script opening transcript smooth.spelled smooth.legal)

  pub all_answered : length (generated_lines number) ≡ 3008 → answered_count (all_answers transcript) ≡ 3008
  all_answered size =
      same_tests (λ (a : Answer). is_answered a.reply) (λ (a : Answer). true) (all_answers transcript) (λ a there. (fine number script opening transcript smooth a there).0)
      ∙ as_lines (λ s i. true) ∙ all_counted script.lines.items ∙ ap (λ (l : List Line). length l) smooth.made.lines ∙ size

  pub all_committed : acknowledged_count (all_answers transcript) ≡ 752
  all_committed =
      same_tests (λ (a : Answer). is_acknowledged a.reply) (λ (a : Answer). commits_at (stmt_in script.lines.items a.session a.index)) (all_answers transcript) answer_so
      ∙ as_lines (λ s i. commits_at (stmt_in script.lines.items s i))
      ∙ same_tests (λ (l : Line). commits_at (stmt_in script.lines.items l.session l.index)) (λ (l : Line). commits l.stmt) script.lines.items line_so
      ∙ ap (λ (ls : List Line). count_by (λ (l : Line). commits l.stmt) ls) smooth.made.lines ∙ commits_count number
    where
      answer_so : (a : Answer) → IsIn a (all_answers transcript)
          → is_acknowledged a.reply ≡ commits_at (stmt_in script.lines.items a.session a.index)
      answer_so a there =
          commits_so number script opening transcript smooth a there
          ∙ sym (ap (λ (o : Option Line). commits_at (option_map (λ (l : Line). l.stmt) o)) (right_line number script opening transcript smooth a there).found)

      line_so : (line : Line) → IsIn line script.lines.items
          → commits_at (stmt_in script.lines.items line.session line.index) ≡ commits line.stmt
      line_so line there = ap (λ (o : Option Line). commits_at (option_map (λ (l : Line). l.stmt) o)) (line_found script.lines.items (rise number script opening transcript smooth) line there)

  key_of_one : (a : Answer) → IsIn a (all_answers transcript) → (key : ℕ) → written_key script.lines.items a ≡ Some key → IsGeneratedKey key
  key_of_one a there key e = elim (cases_Bool (is_wrote (Some a.reply))) [
    | inl t ↦
        let right = right_line number script opening transcript smooth a there in
        let is = line_is script.lines.items a.session a.index right.line right.found in
        let its : target_key (Some right.line.stmt) ≡ Some key =
        sym (ap (λ (o : Option Line). target_key (option_map (λ (l : Line). l.stmt) o)) right.found)
        ∙ sym (ap (λ (b : Bool). cond b (target_key (stmt_in script.lines.items a.session a.index)) None) t) ∙ e in
        let own = all_in (λ (l : Line). WritesItsOwn l.session l.stmt) right.line (generated_lines number) smooth.own (subst (IsIn right.line) smooth.made.lines is.0) in
        let bounds = line_session right.line is.0 in
        record { session = right.line.session; session_low = bounds.0; session_high = bounds.1; its = keyed right.line.session right.line.stmt key own its }
    | inr f ↦ absurd (not_some key (sym (ap (λ (b : Bool). cond b (target_key (stmt_in script.lines.items a.session a.index)) None) f) ∙ e))
  ]

  put_written : (line : Line) → IsIn line script.lines.items → (key : ℕ) → is_some (target_of line.stmt) ≡ true
      → target_key (Some line.stmt) ≡ Some key → IsIn key (keys_written script.lines.items (all_answers transcript))
  put_written line there key writes its =
      let reply = replied number script opening transcript smooth line there in
      let found : stmt_in script.lines.items reply.answer.session reply.answer.index ≡ Some line.stmt =
      ap₂ (λ (s i : ℕ). stmt_in script.lines.items s i) reply.session reply.index ∙ ap (λ (o : Option Line). option_map (λ (l : Line). l.stmt) o) (line_found script.lines.items (rise number script opening transcript smooth) line there) in
      in_found (written_key script.lines.items) reply.answer (all_answers transcript) key reply.there (
      ap (λ (b : Bool). cond b (target_key (stmt_in script.lines.items reply.answer.session reply.answer.index)) None) (reply.wrote ∙ writes)
      ∙ ap target_key found ∙ its
      )

  pub all_keys : ((session least : ℕ) → 1 ≤ session → session ≤ 16 → least < 32 → IsPutIn (generated_lines number) session (1000 * session + least))
      → key_count script.lines.items (all_answers transcript) ≡ 512
  all_keys puts = keys_512 (with_numbers [] written) (apart_all [] written tt) its each
    where
      written : List ℕ
      written = keys_written script.lines.items (all_answers transcript)

      its : (n : ℕ) → IsIn n (with_numbers [] written) → IsGeneratedKey n
      its n h = elim (from_all [] written n h) [
        | inl none ↦ absurd none
        | inr there ↦
            let from = from_found (written_key script.lines.items) (all_answers transcript) n there in
            key_of_one from.0 from.1 n from.2
      ]

      each : (session least : ℕ) → 1 ≤ session → session ≤ 16 → least < 32 → IsIn (1000 * session + least) (with_numbers [] written)
      each session least low high few =
          let put = puts session least low high few in
          let line : Line = put.0 in
          let there : IsIn line script.lines.items = subst (IsIn line) (sym smooth.made.lines) put.1 in
          let stmt = put.4 in
          all_there [] written (1000 * session + least) (put_written line there (1000 * session + least) (ap (λ (s : Stmt). is_some (target_of s)) stmt) (ap (λ (s : Stmt). target_key (Some s)) stmt))

  pub one_summary : length (generated_lines number) ≡ 3008
      → ((session least : ℕ) → 1 ≤ session → session ≤ 16 → least < 32 → IsPutIn (generated_lines number) session (1000 * session + least))
      → summary_text number script transcript ≡ summary_line number 3008 752 512
  one_summary size puts = ap₂ (λ (a k : ℕ). summary_line number a (acknowledged_count (all_answers transcript)) k) (all_answered size) (all_keys puts) ∙ ap (λ (n : ℕ). summary_line number 3008 n 512) all_committed
