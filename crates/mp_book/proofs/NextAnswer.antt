-- What the answer to a session's next statement adds to what is said of its transaction.
use Rattle.std.proofs.Common.{◌≡◌, ◌≢◌, ℕ, zero, suc, ◌+◌, ◌-◌, ◌<◌, ◌≤◌, ◌==◌, ◌&&◌, ◌||◌, ◌⊎◌, Bool, true, false, if◌then◌else◌, List, [], ◌∷◌, ◌++◌, length, map, Option, None, Some, is_some, option_map, slice_get, inl, inr, ⊎_elim, refl, sym, ap, subst, ◌∙◌, arith}
use Rattle.std.specs.Option.{IfSome}
use Rattle.std.specs.List.{list_any}
use Rattle.std.proofs.lemmas.Bool.Decides.{nat_tests}
use Rattle.std.proofs.lemmas.List.{length-append}
use Rattle.std.proofs.lemmas.List.Folds.{list_any-append}
use Rattle.std.proofs.lemmas.Option.{slice_get-map, slice_get_within}
use Rattle.mp_model.specs.Listed.{Listed}
use Rattle.mp_model.specs.declared.ids.TrxName.{TrxName}
use Rattle.mp_model.specs.declared.replies.Answer.{Answer}
use Rattle.mp_model.specs.declared.replies.Reply.{Reply}
use Rattle.mp_model.specs.declared.replies.WriteVerb.{WriteVerb}
use Rattle.mp_model.specs.declared.replies.Reply.TheVariants.{Began, Got, Scanned, Wrote, Committed, CommittedNone, Unknown, RolledBack, Conflict, Held, Full, Skipped, Stopped}
use Rattle.mp_script.specs.declared.statements.Line.{Line}
use Rattle.mp_script.specs.declared.statements.SessionOn.{SessionOn}
use Rattle.mp_script.specs.declared.statements.Stmt.{Stmt}
use Rattle.mp_script.specs.declared.statements.Stmt.TheVariants as stmts
use Rattle.mp_script.specs.Entries.{open_after}
use Rattle.mp_script.specs.Execution.{Execution, line_at, stmt_in, reply_at, answer_at, runs_on}
use Rattle.mp_script.specs.Transactions.{Target, begins, begin_in, target_of, target_key, trx_at, is_number, is_wrote, is_refusal, refused_among, wrote_among, refused_before, wrote_before}
use Rattle.mp_script.specs.Right.{WritesKey, HasOwnWrite, HasNoOwnWrite, FollowsRefusal}
use Rattle.mp_script.specs.Below.{answered, stated}
use Rattle.mp_script.specs.InTheirPart.{belongs, IsNextStatement}
use Rattle.mp_script.specs.Spelling.{MayStand}
use Rattle.mp_script.specs.WentDown.{shows_down, is_stopped}
use Rattle.mp_script.proofs.BeginsWithin.{begin_within, begins_not}
use Rattle.mp_cells.specs.declared.rows.Row.{Row}
use Rattle.mp_cells.specs.Trees.{row_at}
use Rattle.mp_core_trx.specs.declared.part.Begun.{Begun}
use Rattle.mp_book.specs.declared.stage.Refusal.{Refusal}
use Rattle.mp_book.specs.declared.stage.Refusal.TheVariants as refusals
use Rattle.mp_book.specs.declared.stage.Stage.{Stage}
use Rattle.mp_book.specs.declared.stage.Stage.TheVariants.{Closed, Open, Refused, Leaving, Skipping, Outside}
use Rattle.mp_book.specs.declared.session.Session.{Session}
use Rattle.mp_book.specs.Orderly.{session_lines, IsOrderly}
use Rattle.mp_book.specs.Stages.{next_line, HaveOneRowEach, with_former}
use Rattle.mp_book.specs.Answered.{execution_above, NoneShowsDown, HasWrittenHere, WaitsStand, HolderStands, CommitTellsWrites, IsPlaced}
use Rattle.mp_book.specs.Books.{GoesOn, statements_upto, NextFits, TrxStands, RefusalStands, StageStands, SessionStands, IsRefusalReply, skipped_to, KeepsFormer, IsOpenStage, MayAnswer}
use Rattle.mp_book.proofs.Items.{if_some_always, or_left, or_right}
use Rattle.mp_book.proofs.KeptRows.{own_key, former_found, once_more, longer, write_goes_on, target_found, writes_target, or_false, or_true}
use Rattle.mp_book.proofs.OwnLines.{IsFoundAt, found_at, next_in_order}
use Rattle.mp_book.proofs.Above.{answer_other, answer_here, count_here, refused_same, wrote_same, no_waits}
use Rattle.mp_book.proofs.Others.{calm_before}

true_false : true ≡ false → ⊥
true_false e = cc

none_some : {T : Type 0} (x : T) → None ≡ Some x → ⊥
none_some x e = cc

-- the same statement
one_line : (o : Option Line) (x y : Line) → o ≡ Some x → o ≡ Some y → x ≡ y
one_line o x y a b = cc

module _ (lines : List Line) (sessions : List SessionOn) (primary : ℕ) (answers : List Answer) (a : Answer) (s : Session) (line : Line) (orderly : IsOrderly lines) (stands : SessionStands lines sessions primary answers a.session s) (is_next : next_line s ≡ Some line) (index : a.index ≡ line.index) where
  abbrev old : Execution
  old = execution_above lines sessions answers

  abbrev new : Execution
  new = execution_above lines sessions (answers ++ a ∷ [])

  -- the session is of the primary, and its statements are the script's
  on_it : runs_on old a.session primary ≡ true
  on_it = go (runs_on old a.session primary) refl
    where
      go : (b : Bool) → runs_on old a.session primary ≡ b → runs_on old a.session primary ≡ true
      go true e = e
      go false e =
          let none : s.lines.items ≡ [] = stands.lines_are ∙ rw e refl in
          absurd (none_some line (subst (λ (l : List Line). slice_get l s.next ≡ Some line) none is_next))

  own_lines : s.lines.items ≡ session_lines a.session lines
  own_lines = stands.lines_are ∙ rw on_it refl

  place : slice_get (session_lines a.session lines) s.next ≡ Some line
  place = subst (λ (l : List Line). slice_get l s.next ≡ Some line) own_lines is_next

  found : IsFoundAt lines a.session (suc s.next) line
  found = let zero_more : 0 + suc s.next ≡ suc s.next = omega arith in subst (λ n. IsFoundAt lines a.session n line) zero_more (found_at a.session lines 0 false s.next line (orderly a.session) place)

  index_is : a.index ≡ suc s.next
  index_is = index ∙ found.index_is

  -- it is found, and the earlier ones of the session as before
  reply_now : reply_at new a.session (suc s.next) ≡ Some a.reply
  reply_now =
      let none : answer_at answers a.session a.index ≡ None = subst (λ n. answer_at answers a.session n ≡ None) (sym index_is) (stands.unanswered (suc s.next) (omega arith)) in
      let here : answer_at (answers ++ a ∷ []) a.session a.index ≡ Some a = answer_here answers a none in
      ap (λ (o : Option Answer). option_map (λ (x : Answer). x.reply) o) (subst (λ n. answer_at (answers ++ a ∷ []) a.session n ≡ Some a) index_is here)

  reply_before : (i : ℕ) → i ≤ s.next → reply_at new a.session i ≡ reply_at old a.session i
  reply_before i le =
      let at = index_is in
      let apart : (a.session == a.session && a.index == i) ≡ false = grind (arith, nat_tests) in
      ap (λ (o : Option Answer). option_map (λ (x : Answer). x.reply) o) (answer_other answers a a.session i apart)

  -- the `begin` of the session's last answered statement, and how many stand behind it
  first : ℕ
  first = begin_in lines a.session s.next

  -- where the statement is one more of an open transaction
  module _ (inside : begins (Some line.stmt) ≡ false) where
    same_first : begin_in lines a.session (suc s.next) ≡ begin_in lines a.session s.next
    same_first = rw found.found (rw inside refl)

    first_le : begin_in lines a.session s.next ≤ s.next
    first_le = begin_within old a.session s.next

    refused_before_is : refused_before old a.session (suc s.next) ≡ refused_among old (trx_at old a.session s.next) (statements_upto old a.session s.next)
    refused_before_is =
        let count : suc s.next - begin_in lines a.session s.next - 1 ≡ s.next + 1 - begin_in lines a.session s.next - 1 = omega arith in
        ap (λ f. refused_among old (record { session = a.session; first = f }) (suc s.next - f - 1)) same_first
        ∙ ap (λ c. refused_among old (trx_at old a.session s.next) c) count

    wrote_before_is : (key : ℕ) → wrote_before old a.session (suc s.next) key ≡ wrote_among old (trx_at old a.session s.next) (statements_upto old a.session s.next) key
    wrote_before_is key =
        let count : suc s.next - begin_in lines a.session s.next - 1 ≡ s.next + 1 - begin_in lines a.session s.next - 1 = omega arith in
        ap (λ f. wrote_among old (record { session = a.session; first = f }) (suc s.next - f - 1) key) same_first
        ∙ ap (λ c. wrote_among old (trx_at old a.session s.next) c key) count

    count_after : suc s.next + 1 - begin_in lines a.session s.next - 1 ≡ suc (statements_upto old a.session s.next)
    count_after = let le = first_le in omega arith

    last_place : begin_in lines a.session s.next + suc (statements_upto old a.session s.next) ≡ suc s.next
    last_place = let le = first_le in omega arith

    earlier : (j : ℕ) → j ≤ statements_upto old a.session s.next → reply_at new a.session (begin_in lines a.session s.next + j) ≡ reply_at old a.session (begin_in lines a.session s.next + j)
    earlier j le = let within = first_le in reply_before (begin_in lines a.session s.next + j) (omega arith)

    last_reply : reply_at new a.session (begin_in lines a.session s.next + suc (statements_upto old a.session s.next)) ≡ Some a.reply
    last_reply = ap (λ i. reply_at new a.session i) last_place ∙ reply_now

    refused_after : refused_among new (trx_at new a.session (suc s.next)) (statements_upto new a.session (suc s.next)) ≡ (refused_among old (trx_at old a.session s.next) (statements_upto old a.session s.next) || is_refusal (Some a.reply))
    refused_after =
        ap (λ f. refused_among new (record { session = a.session; first = f }) (suc s.next + 1 - f - 1)) same_first
        ∙ ap (λ c. refused_among new (trx_at old a.session s.next) c) count_after
        ∙ ap (λ b. b || is_refusal (reply_at new a.session (begin_in lines a.session s.next + suc (statements_upto old a.session s.next)))) (refused_same lines sessions answers (answers ++ a ∷ []) (trx_at old a.session s.next) (statements_upto old a.session s.next) earlier)
        ∙ ap (λ (o : Option Reply). refused_among old (trx_at old a.session s.next) (statements_upto old a.session s.next) || is_refusal o) last_reply

    last_stmt : stmt_in lines a.session (begin_in lines a.session s.next + suc (statements_upto old a.session s.next)) ≡ Some line.stmt
    last_stmt = ap (λ i. stmt_in lines a.session i) last_place ∙ ap (λ (o : Option Line). option_map (λ (l : Line). l.stmt) o) found.found

    wrote_after : (key : ℕ) → wrote_among new (trx_at new a.session (suc s.next)) (statements_upto new a.session (suc s.next)) key ≡ (wrote_among old (trx_at old a.session s.next) (statements_upto old a.session s.next) key || is_number key (if is_wrote (Some a.reply) then target_key (Some line.stmt) else None))
    wrote_after key =
        ap (λ f. wrote_among new (record { session = a.session; first = f }) (suc s.next + 1 - f - 1) key) same_first
        ∙ ap (λ c. wrote_among new (trx_at old a.session s.next) c key) count_after
        ∙ ap (λ b. b || is_number key (if is_wrote (reply_at new a.session (begin_in lines a.session s.next + suc (statements_upto old a.session s.next))) then target_key (stmt_in lines a.session (begin_in lines a.session s.next + suc (statements_upto old a.session s.next))) else None)) (wrote_same lines sessions answers (answers ++ a ∷ []) (trx_at old a.session s.next) (statements_upto old a.session s.next) key earlier)
        ∙ ap (λ (o : Option Reply). wrote_among old (trx_at old a.session s.next) (statements_upto old a.session s.next) key || is_number key (if is_wrote o then target_key (stmt_in lines a.session (begin_in lines a.session s.next + suc (statements_upto old a.session s.next))) else None)) last_reply
        ∙ ap (λ (o : Option Stmt). wrote_among old (trx_at old a.session s.next) (statements_upto old a.session s.next) key || is_number key (if is_wrote (Some a.reply) then target_key o else None)) last_stmt

  -- where it begins a transaction
  module _ (begun : line.stmt ≡ stmts.Begin) where
    fresh_first : begin_in lines a.session (suc s.next) ≡ suc s.next
    fresh_first = rw found.found (rw begun refl)

    fresh_before : refused_before old a.session (suc s.next) ≡ false
    fresh_before =
        let none : suc s.next - suc s.next - 1 ≡ 0 = omega arith in
        ap (λ f. refused_among old (record { session = a.session; first = f }) (suc s.next - f - 1)) fresh_first
        ∙ ap (λ c. refused_among old (record { session = a.session; first = suc s.next }) c) none

    fresh_refused : refused_among new (trx_at new a.session (suc s.next)) (statements_upto new a.session (suc s.next)) ≡ false
    fresh_refused =
        let none : suc s.next + 1 - suc s.next - 1 ≡ 0 = omega arith in
        ap (λ f. refused_among new (record { session = a.session; first = f }) (suc s.next + 1 - f - 1)) fresh_first
        ∙ ap (λ c. refused_among new (record { session = a.session; first = suc s.next }) c) none

    fresh_wrote : (key : ℕ) → wrote_among new (trx_at new a.session (suc s.next)) (statements_upto new a.session (suc s.next)) key ≡ false
    fresh_wrote key =
        let none : suc s.next + 1 - suc s.next - 1 ≡ 0 = omega arith in
        ap (λ f. wrote_among new (record { session = a.session; first = f }) (suc s.next + 1 - f - 1) key) fresh_first
        ∙ ap (λ c. wrote_among new (record { session = a.session; first = suc s.next }) c key) none

  -- an answer that shows the primary down is among all
  not_down : shows_down a.reply ≡ true → NoneShowsDown (answers ++ a ∷ []) → ⊥
  not_down shows calm =
      let last = or_right (list_any (λ (x : Answer). shows_down x.reply) answers) (list_any (λ (x : Answer). shows_down x.reply) (a ∷ [])) (sym (list_any-append (λ (x : Answer). shows_down x.reply) answers (a ∷ [])) ∙ calm) in
      true_false (sym shows ∙ or_left (shows_down a.reply) false last)

  -- a statement for an open transaction begins none
  stays_inside : NextFits true s → begins (Some line.stmt) ≡ false
  stays_inside fits = begins_not line.stmt (subst (λ (o : Option Line). IfSome o (λ l. MayStand true l.stmt)) is_next fits)

  module _ (after : Session) (stage : Stage) (formers : List Row) (restored : ℕ) (goes : GoesOn s after stage formers restored) where
    next_is : after.next ≡ suc s.next
    next_is = let one = goes.next in omega (arith, one)

    own_after : after.lines.items ≡ session_lines a.session lines
    own_after = ap (λ (l : Listed Line). l.items) goes.lines ∙ own_lines

    fits : (b : Bool) → open_after line.stmt ≡ b → NextFits b after
    fits b is =
        let behind = next_in_order (session_lines a.session lines) 0 false s.next line (orderly a.session) place in
        let at_next : IfSome (slice_get (session_lines a.session lines) after.next) (λ next. MayStand (open_after line.stmt) next.stmt) = subst (λ n. IfSome (slice_get (session_lines a.session lines) n) (λ next. MayStand (open_after line.stmt) next.stmt)) (sym next_is) behind in
        let own : IfSome (next_line after) (λ next. MayStand (open_after line.stmt) next.stmt) = subst (λ (l : List Line). IfSome (slice_get l after.next) (λ next. MayStand (open_after line.stmt) next.stmt)) (sym own_after) at_next in
        subst (λ c. IfSome (next_line after) (λ next. MayStand c next.stmt)) is own

    -- the transaction goes on
    trx_on : (trx : Begun) (written : Option ℕ) → TrxStands old a.session s trx → is_refusal (Some a.reply) ≡ false → (if is_wrote (Some a.reply) then target_key (Some line.stmt) else None) ≡ written → ((key : ℕ) → (is_some (row_at key s.formers.items) || is_number key written) ≡ is_some (row_at key formers)) → HaveOneRowEach formers → open_after line.stmt ≡ true → TrxStands new a.session after trx
    trx_on trx written h unrefused told wrote once goes_on =
        let inside = stays_inside h.next_fits in
        record {
          began = subst (λ n. reply_at new a.session (begin_in lines a.session n) ≡ Some (Began trx.view)) (sym next_is) (ap (λ f. reply_at new a.session f) (same_first inside) ∙ reply_before (begin_in lines a.session s.next) (first_le inside) ∙ h.began);
          unrefused = subst (λ n. refused_among new (trx_at new a.session n) (statements_upto new a.session n) ≡ false) (sym next_is) (refused_after inside ∙ ap (λ b. b || is_refusal (Some a.reply)) h.unrefused ∙ unrefused);
          wrote = λ key. subst (λ n. wrote_among new (trx_at new a.session n) (statements_upto new a.session n) key ≡ is_some (row_at key after.formers.items)) (sym next_is)
              (wrote_after inside key
              ∙ ap (λ b. b || is_number key (if is_wrote (Some a.reply) then target_key (Some line.stmt) else None)) (h.wrote key)
              ∙ ap (λ w. is_some (row_at key s.formers.items) || is_number key w) told
              ∙ wrote key
              ∙ sym (ap (λ (l : List Row). is_some (row_at key l)) goes.formers_are));
          once = subst (λ l. HaveOneRowEach l) (sym goes.formers_are) once;
          next_fits = fits true goes_on;
        }

    -- with nothing written
    reads_on : (trx : Begun) → StageStands old primary a.session s (Open trx) → is_refusal (Some a.reply) ≡ false → is_wrote (Some a.reply) ≡ false → open_after line.stmt ≡ true → formers ≡ s.formers.items → restored ≡ s.restored → StageStands new primary a.session after (Open trx)
    reads_on trx h unrefused unwritten goes_on same_rows same_count =
        let same : (key : ℕ) → (is_some (row_at key s.formers.items) || is_number key None) ≡ is_some (row_at key formers) = λ key. or_false (is_some (row_at key s.formers.items)) ∙ sym (ap (λ (l : List Row). is_some (row_at key l)) same_rows) in
        (trx_on trx None h.0 unrefused (rw unwritten refl) same (subst (λ l. HaveOneRowEach l) (sym same_rows) h.0.once) goes_on, goes.restored_is ∙ same_count ∙ h.1)

    skips_on : begins (Some line.stmt) ≡ false → (refused_among old (trx_at old a.session s.next) (statements_upto old a.session s.next) || is_refusal (Some a.reply)) ≡ true → refused_among new (trx_at new a.session after.next) (statements_upto new a.session after.next) ≡ true
    skips_on inside refused = subst (λ n. refused_among new (trx_at new a.session n) (statements_upto new a.session n) ≡ true) (sym next_is) (refused_after inside ∙ refused)

    at_stage : (from : Stage) → s.stage ≡ from → StageStands old primary a.session s s.stage → StageStands old primary a.session s from
    at_stage from is h = subst (λ st. StageStands old primary a.session s st) is h

    to_stage : (to : Stage) → stage ≡ to → StageStands new primary a.session after to → StageStands new primary a.session after stage
    to_stage to is h = subst (λ st. StageStands new primary a.session after st) (sym is) h

    -- a refusal is answered
    refuses : (reply : Reply) → a.reply ≡ reply → is_refusal (Some reply) ≡ true → StageStands old primary a.session s s.stage
        → ((trx : Begun) × (refusal : Refusal) × (s.stage ≡ Refused trx refusal) × IsRefusalReply refusal line reply × (s.restored ≡ length s.formers.items) × (stage ≡ Skipping) × (formers ≡ s.formers.items) × (restored ≡ s.restored))
        → StageStands new primary a.session after stage
    refuses reply is refusal h may =
        let from = at_stage (Refused may.0 may.1) may.2 h in
        let same : from.1.0 ≡ line = one_line (next_line s) from.1.0 line from.1.1 is_next in
        let write : is_some (target_of line.stmt) ≡ true = subst (λ (l : Line). is_some (target_of l.stmt) ≡ true) same from.1.2 in
        let refused : (refused_among old (trx_at old a.session s.next) (statements_upto old a.session s.next) || is_refusal (Some a.reply)) ≡ true = ap (λ b. b || is_refusal (Some a.reply)) from.0.unrefused ∙ ap (λ (r : Reply). is_refusal (Some r)) is ∙ refusal in
        to_stage Skipping may.5 (skips_on (stays_inside from.0.next_fits) refused, fits true (write_goes_on line.stmt write))

    stage_by : (reply : Reply) → a.reply ≡ reply → StageStands old primary a.session s s.stage → NoneShowsDown (answers ++ a ∷ []) → MayAnswer s line reply stage formers restored → StageStands new primary a.session after stage
    stage_by (Began view) is h calm may =
        let begun = may.2 in
        to_stage (Open may.0) may.4 (
          record {
            began = subst (λ n. reply_at new a.session (begin_in lines a.session n) ≡ Some (Began (may.0).view)) (sym next_is) (ap (λ f. reply_at new a.session f) (fresh_first begun) ∙ reply_now ∙ ap (λ (r : Reply). Some r) is ∙ ap (λ v. Some (Began v)) (sym may.3));
            unrefused = subst (λ n. refused_among new (trx_at new a.session n) (statements_upto new a.session n) ≡ false) (sym next_is) (fresh_refused begun);
            wrote = λ key. subst (λ n. wrote_among new (trx_at new a.session n) (statements_upto new a.session n) key ≡ is_some (row_at key after.formers.items)) (sym next_is) (fresh_wrote begun key ∙ sym (ap (λ (l : List Row). is_some (row_at key l)) (goes.formers_are ∙ may.5)));
            once = subst (λ l. HaveOneRowEach l) (sym (goes.formers_are ∙ may.5)) tt;
            next_fits = fits true (ap (λ (stmt : Stmt). open_after stmt) begun);
          },
          goes.restored_is ∙ may.6,
        )
    stage_by (Got value) is h calm may = to_stage (Open (may.0).0) (may.3 ∙ (may.0).1) (reads_on (may.0).0 (at_stage (Open (may.0).0) (may.0).1 h) (ap (λ (r : Reply). is_refusal (Some r)) is) (ap (λ (r : Reply). is_wrote (Some r)) is) may.1 may.4 may.5)
    stage_by (Scanned rows) is h calm may = to_stage (Open (may.0).0) (may.3 ∙ (may.0).1) (reads_on (may.0).0 (at_stage (Open (may.0).0) (may.0).1 h) (ap (λ (r : Reply). is_refusal (Some r)) is) (ap (λ (r : Reply). is_wrote (Some r)) is) may.1 may.4 may.5)
    stage_by (Wrote verb) is h calm may =
        let from = at_stage (Open (may.2).0) (may.2).1 h in
        let told : (if is_wrote (Some a.reply) then target_key (Some line.stmt) else None) ≡ Some may.0 = ap (λ (r : Reply). if is_wrote (Some r) then target_key (Some line.stmt) else None) is ∙ target_found line verb may.0 may.3 in
        let wrote : (key : ℕ) → (is_some (row_at key s.formers.items) || is_number key (Some may.0)) ≡ is_some (row_at key formers) = λ key. sym (former_found s.formers.items may.0 may.1 may.4 key) ∙ sym (ap (λ (l : List Row). is_some (row_at key l)) may.6) in
        let once : HaveOneRowEach formers = subst (λ l. HaveOneRowEach l) (sym may.6) (once_more s.formers.items may.0 may.1 may.4 from.0.once) in
        to_stage (Open (may.2).0) (may.5 ∙ (may.2).1)
        (trx_on (may.2).0 (Some may.0) from.0 (ap (λ (r : Reply). is_refusal (Some r)) is) told wrote once (write_goes_on line.stmt (writes_target line verb may.0 may.3)), goes.restored_is ∙ may.7 ∙ from.1)
    stage_by (Committed cts) is h calm may = to_stage Closed may.3 (fits false (ap (λ (stmt : Stmt). open_after stmt) may.1))
    stage_by CommittedNone is h calm may = to_stage Closed may.3 (fits false (ap (λ (stmt : Stmt). open_after stmt) may.1))
    stage_by (Unknown cts) is h calm may = absurd (not_down (ap (λ (r : Reply). shows_down r) is) calm)
    stage_by RolledBack is h calm may = to_stage Closed may.4 (fits false (ap (λ (stmt : Stmt). open_after stmt) may.2))
    stage_by (Conflict verb cts) is h calm may = refuses (Conflict verb cts) is refl h may
    stage_by (Held verb name) is h calm may = refuses (Held verb name) is refl h may
    stage_by (Full verb) is h calm may = refuses (Full verb) is refl h may
    stage_by Skipped is h calm may = go (open_after line.stmt) refl
      where
        go : (b : Bool) → open_after line.stmt ≡ b → StageStands new primary a.session after stage
        go true e =
            let from = at_stage Skipping may.0 h in
            let refused : (refused_among old (trx_at old a.session s.next) (statements_upto old a.session s.next) || is_refusal (Some a.reply)) ≡ true = ap (λ b. b || is_refusal (Some a.reply)) from.0 in
            to_stage Skipping (may.1 ∙ ap (λ b. skipped_to b) e) (skips_on (stays_inside from.1) refused, fits true e)
        go false e = to_stage Closed (may.1 ∙ ap (λ b. skipped_to b) e) (fits false e)
    stage_by (Stopped by) is h calm may = absurd (not_down (ap (λ (r : Reply). shows_down r) is) calm)

    as_before : formers ≡ s.formers.items → restored ≡ s.restored → restored ≤ length formers
    as_before rows count =
        let back = stands.restored in
        let long : length formers ≡ length s.formers.items = ap (λ (l : List Row). length l) rows in
        omega (arith, back, long, count)

    with_one : (former : Option Row) → formers ≡ with_former s.formers.items former → restored ≡ s.restored → restored ≤ length formers
    with_one former rows count =
        let back = stands.restored in
        let more = longer s.formers.items former in
        let long : length formers ≡ length (with_former s.formers.items former) = ap (λ (l : List Row). length l) rows in
        omega (arith, back, more, long, count)

    -- no more rows are put back than there are
    back_by : (reply : Reply) → MayAnswer s line reply stage formers restored → restored ≤ length formers
    back_by (Began view) may = let none = may.6 in omega (arith, none)
    back_by (Got value) may = as_before may.4 may.5
    back_by (Scanned rows) may = as_before may.4 may.5
    back_by (Wrote verb) may = with_one may.1 may.6 may.7
    back_by (Committed cts) may = as_before may.4 may.5
    back_by CommittedNone may = as_before may.4 may.5
    back_by (Unknown cts) may = as_before may.4 may.5
    back_by RolledBack may = as_before may.5 may.6
    back_by (Conflict verb cts) may = as_before may.6 may.7
    back_by (Held verb name) may = as_before may.6 may.7
    back_by (Full verb) may = as_before may.6 may.7
    back_by Skipped may = as_before may.2 may.3
    back_by (Stopped by) may = with_one may.0 may.2 may.3

    -- SO THE SESSION STANDS
    pub session_answered : MayAnswer s line a.reply stage formers restored → SessionStands lines sessions primary (answers ++ a ∷ []) a.session after
    session_answered may = record {
      number_is = goes.number ∙ stands.number_is;
      lines_are = ap (λ (l : Listed Line). l.items) goes.lines ∙ stands.lines_are;
      next = count_here answers a ∙ ap (λ n. suc n) stands.next ∙ sym next_is;
      within = let at = slice_get_within s.lines.items s.next line is_next in let count : length after.lines.items ≡ length s.lines.items = ap (λ (l : Listed Line). length l.items) goes.lines in let one = goes.next in omega (arith, at, count, one);
      unanswered = λ i above. answer_other answers a a.session i (let at = index_is in let one = next_is in grind (arith, nat_tests)) ∙ stands.unanswered i (let one = next_is in omega (arith, one, above));
      restored = let back = back_by a.reply may in let rows : length after.formers.items ≡ length formers = ap (λ (l : List Row). length l) goes.formers_are in let count = goes.restored_is in omega (arith, back, rows, count);
      waits = if_some_always (λ (l : Line). WaitsStand new primary l.stmt after.waits.items) (next_line after) (λ l. subst (λ w. WaitsStand new primary l.stmt w) (sym goes.waits) (no_waits new primary l.stmt));
      stage = λ calm. subst (λ st. StageStands new primary a.session after st) (sym goes.stage_is) (stage_by a.reply refl (stands.stage (calm_before answers a calm)) calm may);
    }

  open_trx : (from : Stage) → IsOpenStage from → StageStands old primary a.session s from → (trx : Begun) × TrxStands old a.session s trx
  open_trx from is h = (is.0, (subst (λ st. StageStands old primary a.session s st) is.1 h).0)

  refused_trx : (reply : Reply) (stage : Stage) (formers : List Row) (restored : ℕ) → StageStands old primary a.session s s.stage
      → ((trx : Begun) × (refusal : Refusal) × (s.stage ≡ Refused trx refusal) × IsRefusalReply refusal line reply × (s.restored ≡ length s.formers.items) × (stage ≡ Skipping) × (formers ≡ s.formers.items) × (restored ≡ s.restored))
      → (trx : Begun) × TrxStands old a.session s trx
  refused_trx reply stage formers restored h may = (may.0, (subst (λ st. StageStands old primary a.session s st) may.2 h).0)

  goes_unrefused : (trx : Begun) × TrxStands old a.session s trx → refused_before old a.session a.index ≡ false
  goes_unrefused h = ap (λ i. refused_before old a.session i) index_is ∙ refused_before_is (stays_inside h.1.next_fits) ∙ h.1.unrefused

  -- what is written by the transaction is kept
  own_writes : (trx : Begun) × TrxStands old a.session s trx → (key : ℕ) → wrote_before old line.session line.index key ≡ is_some (row_at key s.formers.items)
  own_writes h key = ap (λ n. wrote_before old n line.index key) found.session_is ∙ ap (λ i. wrote_before old a.session i key) found.index_is ∙ wrote_before_is (stays_inside h.1.next_fits) key ∙ h.1.wrote key

  has_own : (trx : Begun) × TrxStands old a.session s trx → s.formers.items ≢ [] → HasOwnWrite old line
  has_own h some = let own = own_key s.formers.items some in (own.0, own_writes h own.0 ∙ own.1)

  has_none : (trx : Begun) × TrxStands old a.session s trx → s.formers.items ≡ [] → HasNoOwnWrite old line
  has_none h none = λ key. own_writes h key ∙ ap (λ (l : List Row). is_some (row_at key l)) none

  module _ (stage : Stage) (formers : List Row) (restored : ℕ) where
    follows_by : (reply : Reply) → (is_stopped reply ≡ true) ⊎ StageStands old primary a.session s s.stage → MayAnswer s line reply stage formers restored → FollowsRefusal (refused_before old a.session a.index) reply
    follows_by (Began view) (inr h) may = ap (λ i. refused_before old a.session i) index_is ∙ fresh_before may.2
    follows_by (Got value) (inr h) may = goes_unrefused (open_trx s.stage may.0 h)
    follows_by (Scanned rows) (inr h) may = goes_unrefused (open_trx s.stage may.0 h)
    follows_by (Wrote verb) (inr h) may = goes_unrefused (open_trx s.stage may.2 h)
    follows_by (Committed cts) (inr h) may = goes_unrefused (open_trx s.stage may.0 h)
    follows_by CommittedNone (inr h) may = goes_unrefused (open_trx s.stage may.0 h)
    follows_by (Unknown cts) (inr h) may = goes_unrefused (open_trx s.stage may.0 h)
    follows_by RolledBack (inr h) may = goes_unrefused (may.0, (subst (λ st. StageStands old primary a.session s st) may.1 h).0)
    follows_by (Conflict verb cts) (inr h) may = goes_unrefused (refused_trx (Conflict verb cts) stage formers restored h may)
    follows_by (Held verb name) (inr h) may = goes_unrefused (refused_trx (Held verb name) stage formers restored h may)
    follows_by (Full verb) (inr h) may = goes_unrefused (refused_trx (Full verb) stage formers restored h may)
    follows_by Skipped (inr h) may =
        let from = subst (λ st. StageStands old primary a.session s st) may.0 h in
        ap (λ i. refused_before old a.session i) index_is ∙ refused_before_is (stays_inside from.1) ∙ from.0
    follows_by (Stopped by) h may = tt
    follows_by (Began view) (inl wrong) may = absurd (true_false (sym wrong))
    follows_by (Got value) (inl wrong) may = absurd (true_false (sym wrong))
    follows_by (Scanned rows) (inl wrong) may = absurd (true_false (sym wrong))
    follows_by (Wrote verb) (inl wrong) may = absurd (true_false (sym wrong))
    follows_by (Committed cts) (inl wrong) may = absurd (true_false (sym wrong))
    follows_by CommittedNone (inl wrong) may = absurd (true_false (sym wrong))
    follows_by (Unknown cts) (inl wrong) may = absurd (true_false (sym wrong))
    follows_by RolledBack (inl wrong) may = absurd (true_false (sym wrong))
    follows_by (Conflict verb cts) (inl wrong) may = absurd (true_false (sym wrong))
    follows_by (Held verb name) (inl wrong) may = absurd (true_false (sym wrong))
    follows_by (Full verb) (inl wrong) may = absurd (true_false (sym wrong))
    follows_by Skipped (inl wrong) may = absurd (true_false (sym wrong))

    tells_by : (reply : Reply) → (is_stopped reply ≡ true) ⊎ StageStands old primary a.session s s.stage → MayAnswer s line reply stage formers restored → CommitTellsWrites old line reply
    tells_by (Began view) h may = tt
    tells_by (Got value) h may = tt
    tells_by (Scanned rows) h may = tt
    tells_by (Wrote verb) h may = tt
    tells_by (Committed cts) (inr h) may = has_own (open_trx s.stage may.0 h) may.2
    tells_by (Committed cts) (inl wrong) may = absurd (true_false (sym wrong))
    tells_by CommittedNone (inr h) may = has_none (open_trx s.stage may.0 h) may.2
    tells_by CommittedNone (inl wrong) may = absurd (true_false (sym wrong))
    tells_by (Unknown cts) (inr h) may = has_own (open_trx s.stage may.0 h) may.2
    tells_by (Unknown cts) (inl wrong) may = absurd (true_false (sym wrong))
    tells_by RolledBack h may = tt
    tells_by (Conflict verb cts) h may = tt
    tells_by (Held verb name) h may = tt
    tells_by (Full verb) h may = tt
    tells_by Skipped h may = tt
    tells_by (Stopped by) h may = tt

    -- the holder that a refusal names
    holder_of : (refusal : Refusal) (other : Line) (verb : WriteVerb) (name : TrxName) → other ≡ line → RefusalStands old primary other.stmt refusal → IsRefusalReply refusal line (Held verb name) → HolderStands old primary line.stmt (Held verb name)
    holder_of (refusals.Conflict cts) other verb name same stands_as is = absurd is
    holder_of (refusals.Held holder) other verb name same stands_as is =
        subst (λ n. IfSome (target_of line.stmt) (λ target. HasWrittenHere old primary target.key n)) (sym is.0) (subst (λ (l : Line). IfSome (target_of l.stmt) (λ target. HasWrittenHere old primary target.key holder)) same stands_as)
    holder_of refusals.Full other verb name same stands_as is = absurd is

    holder_by : (reply : Reply) → (is_stopped reply ≡ true) ⊎ StageStands old primary a.session s s.stage → MayAnswer s line reply stage formers restored → HolderStands old primary line.stmt reply
    holder_by (Began view) h may = tt
    holder_by (Got value) h may = tt
    holder_by (Scanned rows) h may = tt
    holder_by (Wrote verb) h may = tt
    holder_by (Committed cts) h may = tt
    holder_by CommittedNone h may = tt
    holder_by (Unknown cts) h may = tt
    holder_by RolledBack h may = tt
    holder_by (Conflict verb cts) h may = tt
    holder_by (Held verb name) (inr h) may =
        let from = subst (λ st. StageStands old primary a.session s st) may.2 h in
        holder_of may.1 from.1.0 verb name (one_line (next_line s) from.1.0 line from.1.1 is_next) from.1.3 may.3
    holder_by (Held verb name) (inl wrong) may = absurd (true_false (sym wrong))
    holder_by (Full verb) h may = tt
    holder_by Skipped h may = tt
    holder_by (Stopped by) h may = tt

    down_only : (is_stopped a.reply ≡ true) ⊎ NoneShowsDown answers → list_any (λ (x : Answer). shows_down x.reply) answers ≡ true → is_stopped a.reply ≡ true
    down_only (inl stopped) down = stopped
    down_only (inr calm) down = absurd (true_false (sym down ∙ calm))

    -- AND THE ANSWER IS PLACED
    pub answer_placed : MayAnswer s line a.reply stage formers restored → (is_stopped a.reply ≡ true) ⊎ NoneShowsDown answers → a.waits.items ≡ s.waits.items → IsPlaced lines sessions primary answers a
    answer_placed may calm waits =
        let stood : (is_stopped a.reply ≡ true) ⊎ StageStands old primary a.session s s.stage = ⊎_elim (λ stopped. inl stopped) (λ none. inr (stands.stage none)) calm in
        record {
          next = record {
            its_part = ap (λ b. (primary == 0) || b) on_it ∙ or_true (primary == 0);
            next = ap (λ n. slice_get (stated a.session lines) n) stands.next ∙ slice_get-map (λ (l : Line). l.index) (session_lines a.session lines) s.next ∙ ap (λ (o : Option Line). option_map (λ (l : Line). l.index) o) place ∙ ap (λ i. Some i) (sym index);
          };
          line = line;
          found = ap (λ i. line_at lines a.session i) index_is ∙ found.found;
          follows = follows_by a.reply stood may;
          stays_down = down_only calm;
          commits = tells_by a.reply stood may;
          waits = subst (λ w. WaitsStand old primary line.stmt w) (sym waits) (subst (λ (o : Option Line). IfSome o (λ l. WaitsStand old primary l.stmt s.waits.items)) is_next stands.waits);
          holder = holder_by a.reply stood may;
        }
