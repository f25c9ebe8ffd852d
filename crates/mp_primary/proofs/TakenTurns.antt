-- A turn, by what its try came to, and by what the primary told of itself and found of others behind it.
use Rattle.std.proofs.Common.{◌≡◌, ◌≢◌, ℕ, ◌<◌, ◌⊎◌, if◌then◌else◌, List, [], ◌∷◌, ◌++◌, length, slice_get, Option, None, Some, IfSome, refl, sym, ap, subst, ◌∙◌, inl, inr, ⊎_elim, arith, length-append}
use Rattle.std.proofs.lemmas.List.{append-nil}
use Rattle.std.specs.List.{AllByRecursion}
use mathlib.Core.Logic.{dite}
use native.Mathlib.Decide.{ℕ_discrete}
use Rattle.mp_machine.specs.Lists.{IsIn}
use Rattle.mp_machine.specs.View.{part_in}
use Rattle.mp_model.specs.Listed.{Listed}
use Rattle.mp_model.specs.declared.replies.Answer.{Answer}
use Rattle.mp_model.specs.declared.replies.Reply.TheVariants.{Began, Skipped, Stopped}
use Rattle.mp_model.specs.declared.waiting.Cause.{Cause}
use Rattle.mp_model.specs.declared.waiting.Cause.TheVariants.{Word, Writer, Prep}
use Rattle.mp_model.specs.declared.waiting.Turn.{Turn}
use Rattle.mp_model.specs.declared.waiting.Turn.TheVariants as turns
use Rattle.mp_script.specs.declared.statements.Line.{Line}
use Rattle.mp_script.specs.Below.{answered}
use Rattle.mp_script.specs.Execution.{runs_on}
use Rattle.mp_script.specs.Transactions.{cts_of}
use Rattle.mp_core_pages.specs.declared.part.Placed.{Placed}
use Rattle.mp_cells.specs.declared.records.Mtr.{Mtr}
use Rattle.mp_core.specs.declared.part.CorePart.{CorePart}
use Rattle.mp_core.specs.declared.part.DownPart.{DownPart}
use Rattle.mp_core.specs.CoreExtends.{CoreExtends}
use Rattle.mp_core.specs.Downs.{down_of}
use Rattle.mp_core.specs.OwnMtrs.{TrxMtr}
use Rattle.mp_book.specs.declared.book.Book.{Book}
use Rattle.mp_book.specs.declared.session.Session.{Session}
use Rattle.mp_book.specs.Answered.{execution_above}
use Rattle.mp_book.specs.Orderly.{session_lines}
use Rattle.mp_book.specs.Stages.{next_line}
use Rattle.mp_book.specs.Books.{IsBook}
use Rattle.mp_outside.specs.declared.disks.Disk.{Ghosts}
use Rattle.mp_shared.specs.Nodes.{Run, NodeView, HoldsPart}
use Rattle.mp_shared.proofs.Holding.{held_part}
use Rattle.mp_supports.specs.Work.{Work}
use Rattle.mp_supports.specs.Kept.{Entry}
use Rattle.mp_supports.proofs.Keeping.{if_some_map}
use Rattle.mp_supports.proofs.Extending.{placed_in}
use Rattle.mp_desk.proofs.Moving.{moves_downs}
use Rattle.mp_primary.specs.Primaries.{PrimaryView, PrimaryAgrees, PrimaryAgreesIn, StandsWith}
use Rattle.mp_primary.specs.Downs.{WentOn, OnlyDowns, IsDownAsTold, FoundAllUp, FoundOneDown}
use Rattle.mp_primary.specs.Turns.{IsSessionOf, HasNoStatement, Adds, AddsAnswer, HasWaits, GoesOnBy, WaitsFor, WaitsStill, GoesDownWith, WentDownIn, NamesWait, IfWaiting, IsLeftAfter, ComesTo, ComesToStop, TakesTurn}
use Rattle.mp_primary.specs.Tries.{TriesTurn, HasTried, HasTold, GoesDownBy, TriedLine}
use Rattle.mp_primary.proofs.AddedByCount.{added}
use Rattle.mp_primary.proofs.IfWaits.{waits_both, waits_map}
use Rattle.mp_primary.proofs.OnlyDowns.{downs_none, went_none, went_goes, agrees_in_on, agrees_down}
use Rattle.mp_primary.proofs.OpenSessions.{one_of}

waiting_not_done : (cause : Cause) → turns.Waiting cause ≡ turns.Done → ⊥
waiting_not_done cause e = cc

waiting_not_stopped : (cause : Cause) (by : ℕ) → turns.Waiting cause ≡ turns.Stopped by → ⊥
waiting_not_stopped cause by e = cc

stopped_not_done : (by : ℕ) → turns.Stopped by ≡ turns.Done → ⊥
stopped_not_done by e = cc

stopped_by : (by other : ℕ) → turns.Stopped by ≡ turns.Stopped other → by ≡ other
stopped_by by other e = cc

answered_not_done : turns.Answered ≡ turns.Done → ⊥
answered_not_done e = cc

answered_not_stopped : (by : ℕ) → turns.Answered ≡ turns.Stopped by → ⊥
answered_not_stopped by e = cc

stopped_not_began : (by view : ℕ) → Stopped by ≡ Began view → ⊥
stopped_not_began by view e = cc

stopped_not_skipped : (by : ℕ) → Stopped by ≡ Skipped → ⊥
stopped_not_skipped by e = cc

none_some : (cts : ℕ) → ◌≡◌ {A = Option ℕ} None (Some cts) → ⊥
none_some cts e = cc

some_not_none : (line : Line) → Some line ≡ None → ⊥
some_not_none line e = cc

line_is : (x y : Line) → Some x ≡ Some y → x ≡ y
line_is x y e = cc

longer : (answers : List Answer) (a : Answer) → answers ≡ answers ++ a ∷ [] → ⊥
longer answers a e =
    let more = length-append answers (a ∷ []) in
    let same : length answers ≡ length (answers ++ a ∷ []) = ap (λ (l : List Answer). length l) e in
    omega (arith, more, same)

module _ {D : Type 0} where
  -- whom it needs is told by its number and its work alone
  pub found_as : (old mid : PrimaryView D) → mid.number ≡ old.number → mid.work ≡ old.work → (cause : Cause) (at after : NodeView) → FoundAllUp mid cause at after → FoundAllUp old cause at after
  found_as old mid number work cause at after h =
      let P : ℕ → Work → Type 0 = λ k w. FoundAllUp (record old { number = k; work = w }) cause at after in
      subst (λ (k : ℕ). P k old.work) number (subst (λ (w : Work). P mid.number w) work (record { went = h.went; each = h.each }))

  pub fallen_as : (old mid new after_all : PrimaryView D) → mid.number ≡ old.number → mid.work ≡ old.work → after_all.down ≡ new.down → (cause : Cause) (at after : NodeView) → FoundOneDown mid new cause at after → FoundOneDown old after_all cause at after
  fallen_as old mid new after_all number work down cause at after h =
      let P : ℕ → Work → ℕ → Type 0 = λ k w d. FoundOneDown (record old { number = k; work = w }) (record after_all { down = d }) cause at after in
      subst (λ (k : ℕ). P k old.work after_all.down) number
      (subst (λ (w : Work). P mid.number w after_all.down) work
      (subst (λ (d : ℕ). P mid.number mid.work d) (sym down)
      (record { of = h.of; another = h.another; needed = h.needed; loaded = h.loaded; some = h.some; apart = h.apart })))

module _ {D : Type 0} (g : Ghosts D) (run : Run) (old mid : PrimaryView D) (before at : NodeView) (session : Option ℕ) (turn : Turn)
    (stands : StandsWith g run old before) (told : IsDownAsTold old before) (tries : TriesTurn g run old mid before at session turn) where
  -- its own word says what it said
  pub word_then : (q : CorePart) → part_in at.parts mid.number ≡ Some q → down_of q ≡ old.down
  word_then q there =
      let has = held_part before old.number stands.desk.part in
      ap (λ (d : DownPart). d.own) (moves_downs old.number CoreExtends before at tries.went has.0 q has.1 (ap (part_in at.parts) (sym tries.number) ∙ there))
      ∙ told has.0 has.1

  held_then : HoldsPart at mid.number
  held_then = tries.stands.desk.part

  pub was_up : mid.down ≡ 0 → old.down ≡ 0
  was_up up = ⊎_elim (λ (same : mid.down ≡ old.down). sym same ∙ up) (λ fell. fell.0) tries.down

  pub tried : old.down ≡ 0 → HasTried g run mid at
  tried up = record {
    stands = tries.stands;
    word = λ q there. word_then q there ∙ up;
    own = ⊎_elim (λ (same : mid.down ≡ old.down). inl (same ∙ up)) (λ fell. inr (fell.1 ∙ sym tries.number)) tries.down;
  }

  -- ---- it ends so

  module _ (after : NodeView) (tells : HasTold g run mid at after) (found : IfSome session (λ number. IfWaiting turn (λ cause. FoundAllUp mid cause at after))) where
    went_then : WentOn CoreExtends old.number before after
    went_then = went_goes old.number before at after tries.went (subst (λ (k : ℕ). WentOn OnlyDowns k at after) tries.number tells.went)

    still : (number : ℕ) (cause : Cause) → WaitsFor old number before at cause → FoundAllUp mid cause at after → WaitsStill old number before after cause
    still number cause waits up = record { at = at; waits = waits; found = found_as old mid tries.number tries.work cause at after up }

    cause_then : (o : Option ℕ) → IfSome o (λ number. IfWaiting turn (WaitsFor old number before at)) → IfSome o (λ number. IfWaiting turn (λ cause. FoundAllUp mid cause at after)) → IfSome o (λ number. IfWaiting turn (WaitsStill old number before after))
    cause_then None a b = tt
    cause_then (Some number) a b = waits_both turn (WaitsFor old number before at) (λ cause. FoundAllUp mid cause at after) (WaitsStill old number before after) (still number) a b

    pub turn_taken : TakesTurn g run old mid before after session turn
    turn_taken = record {
      stands = tells.stands;
      number = tries.number;
      work = tries.work;
      went = went_then;
      goes_on = λ entries agreed. let x = tries.goes_on entries agreed in record { more = x.more; agrees = agrees_in_on g mid at after tells.went held_then (entries ++ x.more) x.agrees; adds = x.adds; later = x.later };
      others = tries.others;
      named = tries.named;
      cause = cause_then session tries.cause found;
      down = ⊎_elim (λ same. inl same) (λ fell. inr (fell.0, inl (fell.1, fell.2))) tries.down;
      told = tells.told;
      faults = tries.faults;
      tells = tries.tells;
      may_go_on = tries.may_go_on;
      begins = tries.begins;
      draws = tries.draws;
      skips = tries.skips;
      stops = tries.stops;
      done = tries.done;
      stopped = tries.stopped;
    }

  -- ---- it goes down behind a wait

  module _ (number : ℕ) (is : session ≡ Some number) (cause : Cause) (waiting : turn ≡ turns.Waiting cause) (new : PrimaryView D) (after : NodeView) (falls : GoesDownBy g run mid new at after cause) where
    pub its_wait : TriesTurn g run old mid before at (Some number) (turns.Waiting cause)
    its_wait = subst (λ (o : Option ℕ). TriesTurn g run old mid before at o (turns.Waiting cause)) is
        (subst (λ (t : Turn). TriesTurn g run old mid before at session t) waiting tries)

    old_up : old.down ≡ 0
    old_up = was_up falls.up

    book_is : new.book ≡ mid.book
    book_is = ap (λ (v : PrimaryView D). v.book) falls.rest

    pub number_is : new.number ≡ old.number
    number_is = ap (λ (v : PrimaryView D). v.number) falls.rest ∙ tries.number

    pub work_is : new.work ≡ old.work
    work_is = ap (λ (v : PrimaryView D). v.work) falls.rest ∙ tries.work

    pub answers_is : new.book.answers ≡ old.book.answers
    answers_is = ap (λ (b : Book). b.answers) book_is ∙ its_wait.answers

    media_is : new.media ≡ mid.media
    media_is = ap (λ (v : PrimaryView D). v.media) falls.rest

    went_down : WentOn OnlyDowns mid.number at after
    went_down = subst (λ (k : ℕ). WentOn OnlyDowns k at after) (ap (λ (v : PrimaryView D). v.number) falls.rest) falls.tells.went

    pub went_all : WentOn CoreExtends old.number before after
    went_all = went_goes old.number before at after tries.went (subst (λ (k : ℕ). WentOn OnlyDowns k at after) tries.number went_down)

    -- it goes on to agree, and has added nothing
    pub agrees_fallen : (entries : List Entry) → PrimaryAgreesIn g old entries before → PrimaryAgreesIn g new entries after
    agrees_fallen entries agreed =
        let x = its_wait.goes_on entries agreed in
        let none = x.adds in
        let was : PrimaryAgreesIn g mid entries at = λ q has. subst (λ (l : List Entry). PrimaryAgrees g mid l q) (ap (λ (l : List Entry). entries ++ l) none ∙ append-nil entries) (x.agrees q has) in
        let fell : PrimaryAgreesIn g (record mid { down = new.down }) entries at = λ q has. agrees_down g mid falls.up new.down falls.found.some entries q (was q has) in
        agrees_in_on g new at after falls.tells.went (subst (λ (k : ℕ). HoldsPart at k) (sym (ap (λ (v : PrimaryView D). v.number) falls.rest)) held_then) entries
        (subst (λ (v : PrimaryView D). PrimaryAgreesIn g v entries at) (sym falls.rest) fell)

    pub with_other : (last : PrimaryView D) → last.down ≡ new.down → GoesDownWith old last before after number
    with_other last same = record { cause = cause; at = at; waits = its_wait.cause; found = fallen_as old mid new last tries.number tries.work same cause at after falls.found }

    pub fell_in : (last : PrimaryView D) → last.down ≡ new.down → (last.down ≡ old.down) ⊎ ((old.down ≡ 0) × WentDownIn g old last before after (Some number))
    fell_in last same = inr (old_up, inr (number, refl, with_other last same))

    no_answer : (a : Answer) → Adds old new a → ⊥
    no_answer a more = longer old.book.answers.items a (sym (ap (λ (l : Listed Answer). l.items) answers_is) ∙ more)

    -- a session without a statement waits for no writer
    same_waits : HasNoStatement old (Some number) → NamesWait old new number (turns.Stopped new.down)
    same_waits none x y a b = go cause its_wait.named its_wait.cause
      where
        b_mid : IsSessionOf mid number y
        b_mid = ap (λ (k : Book). slice_get k.sessions.items number) (sym book_is) ∙ b

        go : (c : Cause) → NamesWait old mid number (turns.Waiting c) → WaitsFor old number before at c → y.waits.items ≡ x.waits.items
        go (Word wait) named is_for = named x y a b_mid
        go (Prep name) named is_for = named x y a b_mid
        go (Writer name) named is_for =
            let has = held_part at mid.number held_then in
            let w = is_for has.0 (ap (part_in at.parts) (sym tries.number) ∙ has.1) in
            absurd (some_not_none w.1 (sym w.3.next ∙ none w.0 w.3.found))

    pub leaving_stopped : HasNoStatement old (Some number) → TakesTurn g run old new before after (Some number) (turns.Stopped new.down)
    leaving_stopped none = record {
      stands = falls.tells.stands;
      number = number_is;
      work = work_is;
      went = went_all;
      goes_on = λ entries agreed. record {
        more = [];
        agrees = λ q has. subst (λ (l : List Entry). PrimaryAgrees g new l q) (sym (append-nil entries)) (agrees_fallen entries agreed q has);
        adds = refl;
        later = tt;
      };
      others = λ other ne. ap (λ (b : Book). slice_get b.sessions.items other) book_is ∙ its_wait.others other ne;
      named = same_waits none;
      cause = tt;
      down = fell_in new refl;
      told = falls.tells.told;
      faults = let same = ap (λ m. g.faults m.log.disk) media_is in let more = tries.faults in omega (arith, same, more);
      tells = ap (λ m. g.tells m.log.disk) media_is ∙ tries.tells;
      may_go_on = let may = its_wait.may_go_on in record { session = may.session; found = ap (λ (b : Book). slice_get b.sessions.items number) book_is ∙ may.found; inside = may.inside };
      begins = λ a view more. absurd (no_answer a more);
      draws = λ a cts more. absurd (no_answer a more);
      skips = λ a more. absurd (no_answer a more);
      stops = λ a more. absurd (no_answer a more);
      done = ((λ e. absurd (stopped_not_done new.down e)), (λ up nothing. absurd (waiting_not_done cause (its_wait.done.1 up nothing))));
      stopped = ((λ by e. let same = stopped_by new.down by e in (same, (λ zero. falls.found.some (same ∙ zero)), none)), (λ down without. refl));
    }

    -- ---- and answers its statement so

    module _ (s : Session) (line : Line) (comes : ComesTo g run old before number s line) where
      -- the session, as the wait left it
      abbrev pub t : Session
      t = its_wait.may_go_on.session

      there_mid : IsSessionOf mid number t
      there_mid = its_wait.may_go_on.found

      pub there : IsSessionOf new number t
      there = ap (λ (b : Book). slice_get b.sessions.items number) book_is ∙ there_mid

      is_t : (x : Session) → IsSessionOf new number x → x ≡ t
      is_t x here = one_of (slice_get new.book.sessions.items number) t x there here

      is_s : (x : Session) → IsSessionOf old number x → x ≡ s
      is_s x here = one_of (slice_get old.book.sessions.items number) s x comes.next.found here

      book_mid : IsBook old.work.lines old.work.sessions old.number mid.book
      book_mid = subst (λ (k : ℕ). IsBook old.work.lines old.work.sessions k mid.book) tries.number
          (subst (λ (w : Work). IsBook w.lines w.sessions mid.number mid.book) tries.work tries.stands.primary.book)

      answered_as_was : mid.book.answers.items ≡ old.book.answers.items
      answered_as_was = ap (λ (l : Listed Answer). l.items) its_wait.answers

      -- it has the same statement to try
      pub next_same : next_line t ≡ next_line s
      next_same =
          let was = comes.stands.primary.book.each number s comes.next.found in
          let now = book_mid.each number t there_mid in
          let lines : t.lines.items ≡ s.lines.items =
          now.lines_are ∙ ap (λ (l : List Answer). if runs_on (execution_above old.work.lines old.work.sessions l) number old.number then session_lines number old.work.lines else []) answered_as_was ∙ sym was.lines_are in
          let next : t.next ≡ s.next = sym now.next ∙ ap (λ (l : List Answer). length (answered number l)) answered_as_was ∙ was.next in
          ap (λ (l : List Line). slice_get l t.next) lines ∙ ap (λ (k : ℕ). slice_get s.lines.items k) next

      pub comes_to_stop : ComesToStop g run new after number t line
      comes_to_stop = record {
        stands = falls.tells.stands;
        next = record { found = there; next = next_same ∙ comes.next.next };
        inside = its_wait.may_go_on.inside;
        room = subst (λ (l : Listed Answer). 0 < l.spare) (sym answers_is) comes.room.answer;
      }

      -- what the wait noted
      waits_then : (a : Answer) → (a.reply ≡ Stopped new.down) → a.waits.items ≡ t.waits.items → HasWaits s.waits.items a
      waits_then a reply same = go cause its_wait.named
        where
          go : (c : Cause) → NamesWait old mid number (turns.Waiting c) → HasWaits s.waits.items a
          go (Word wait) named = inl (same ∙ named s t comes.next.found there_mid)
          go (Prep name) named = inl (same ∙ named s t comes.next.found there_mid)
          go (Writer name) named = inr (name, new.down, reply, same ∙ named s t comes.next.found there_mid)

      module _ (last : PrimaryView D) (stop : TriesTurn g run new last after after (Some number) turns.Answered) (replies : (a : Answer) → Adds new last a → (a.reply ≡ Stopped new.down) × (a.waits.items ≡ t.waits.items)) where
        adds_new : (a : Answer) → Adds old last a → Adds new last a
        adds_new a more = more ∙ ap (λ (l : Listed Answer). l.items ++ a ∷ []) (sym answers_is)

        down_same : last.down ≡ new.down
        down_same = ⊎_elim (λ same. same) (λ fell. absurd (falls.found.some fell.0)) stop.down

        has_none : HasNoStatement old (Some number) → ⊥
        has_none none = some_not_none line (sym comes.next.next ∙ none s comes.next.found)

        earlier : (e : Entry) → IsLeftAfter after e → IsLeftAfter before e
        earlier e = if_some_map (λ (m : TrxMtr). (k : ℕ) (q : CorePart) (x : Placed Mtr) → part_in after.parts k ≡ Some q → IsIn x q.pages.made → x.at < m.at)
            (λ m. (k : ℕ) (q : CorePart) (x : Placed Mtr) → part_in before.parts k ≡ Some q → IsIn x q.pages.made → x.at < m.at) e.trace.mtr
            (λ m h k q x has made.
            dite (ℕ_discrete k old.number)
            (λ same. let now = went_all.mine q (ap (part_in before.parts) (sym same) ∙ has) in h k now.0 x (ap (part_in after.parts) same ∙ now.1) (placed_in q now.0 now.2 x made))
            (λ other. h k q x (went_all.others k other ∙ has) made))

        all_earlier : (more : List Entry) → AllByRecursion (IsLeftAfter after) more → AllByRecursion (IsLeftAfter before) more
        all_earlier [] h = tt
        all_earlier (e ∷ more) h = (earlier e h.0, all_earlier more h.1)

        module _ (entries : List Entry) (agreed : PrimaryAgreesIn g old entries before) where
          y : GoesOnBy g new last after after (Some number) entries turns.Answered
          y = stop.goes_on entries (agrees_fallen entries agreed)

          its_adds : (h : AddsAnswer new number y.more) → Adds new last h.answer
          its_adds h =
              let q = held_part after new.number falls.tells.stands.desk.part in
              added g new last after after number entries (agrees_fallen entries agreed) y q.0 q.0 q.1 (ap (part_in after.parts) stop.number ∙ q.1) h

          goes_then : GoesOnBy g old last before after (Some number) entries turns.Answered
          goes_then = record {
            more = y.more;
            agrees = y.agrees;
            adds = ⊎_elim
                (λ (h : AddsAnswer new number y.more).
                let same : h.session ≡ t = is_t h.session h.next.found in
                let told = replies h.answer (its_adds h) in
                inl (record {
                  session = s;
                  line = h.line;
                  next = record { found = comes.next.found; next = sym next_same ∙ ap (λ (v : Session). next_line v) (sym same) ∙ h.next.next };
                  answer = h.answer;
                  of_session = h.of_session;
                  index = h.index;
                  waits = waits_then h.answer told.0 told.1;
                  entry = h.entry;
                  has = h.has;
                  one = h.one;
                }))
                (λ h. absurd (some_not_none line (sym comes.next.next ∙ sym next_same ∙ ap (λ (v : Session). next_line v) (sym (is_t h.session h.found)) ∙ h.through)))
                y.adds;
            later = all_earlier y.more y.later;
          }

        pub line_stopped : TakesTurn g run old last before after (Some number) turns.Answered
        line_stopped = record {
          stands = stop.stands;
          number = stop.number ∙ number_is;
          work = stop.work ∙ work_is;
          went = went_all;
          goes_on = goes_then;
          others = λ other ne. stop.others other ne ∙ ap (λ (b : Book). slice_get b.sessions.items other) book_is ∙ its_wait.others other ne;
          named = stop.named;
          cause = tt;
          down = fell_in last down_same;
          told = λ q has. falls.tells.told q (ap (part_in after.parts) (sym stop.number) ∙ has) ∙ sym down_same;
          faults = let same = ap (λ m. g.faults m.log.disk) media_is in let one = tries.faults in let two = stop.faults in omega (arith, same, one, two);
          tells = stop.tells ∙ ap (λ m. g.tells m.log.disk) media_is ∙ tries.tells;
          may_go_on = stop.may_go_on;
          begins = λ a view more so. absurd (stopped_not_began new.down view (sym (replies a (adds_new a more)).0 ∙ so));
          draws = λ a cts more so. absurd (none_some cts (sym (ap cts_of (replies a (adds_new a more)).0) ∙ so));
          skips = λ a more so. absurd (stopped_not_skipped new.down (sym (replies a (adds_new a more)).0 ∙ so));
          stops = λ a more. stop.stops a (adds_new a more);
          done = ((λ e. absurd (answered_not_done e)), (λ up nothing. absurd (waiting_not_done cause (its_wait.done.1 up nothing))));
          stopped = ((λ by e. absurd (answered_not_stopped by e)), (λ down none. absurd (has_none none)));
        }

-- ---- a turn that changed nothing of the node, and doesn't wait

ends_never : (turn : Turn) (Q : Cause → Type 0) → IfWaiting turn (λ cause. ⊥) → IfWaiting turn Q
ends_never turn Q never = waits_map turn (λ cause. ⊥) Q (λ cause nothing. absurd nothing) never

for_each : (session : Option ℕ) (P : Type 0) → P → IfSome session (λ number. P)
for_each None P p = tt
for_each (Some number) P p = p

pub taken_still : {D : Type 0} (g : Ghosts D) (run : Run) (old new : PrimaryView D) (n : NodeView) (session : Option ℕ) (turn : Turn) → StandsWith g run old n → IsDownAsTold old n → TriesTurn g run old new n n session turn
    → new.down ≡ old.down → IfWaiting turn (λ cause. ⊥) → TakesTurn g run old new n n session turn
taken_still g run old new n session turn stands told tries same never =
    turn_taken g run old new n n session turn stands told tries n
    (record {
      stands = tries.stands;
      went = went_none new.number OnlyDowns downs_none n;
      told = λ q has. word_then g run old new n n session turn stands told tries q has ∙ sym same;
    })
    (for_each session (IfWaiting turn (λ cause. FoundAllUp new cause n n)) (ends_never turn (λ cause. FoundAllUp new cause n n) never))

-- one that is down stays so
pub stays_down : {D : Type 0} (g : Ghosts D) (run : Run) (old new : PrimaryView D) (before after : NodeView) (session : Option ℕ) (turn : Turn) → TriesTurn g run old new before after session turn → old.down ≢ 0 → new.down ≡ old.down
stays_down g run old new before after session turn tries down = ⊎_elim (λ same. same) (λ fell. absurd (down fell.0)) tries.down

-- ---- what the primary heeded

module _ {D : Type 0} (g : Ghosts D) (run : Run) (old mid : PrimaryView D) (before at : NodeView) (number : ℕ) (turn : Turn)
    (stands : StandsWith g run old before) (told : IsDownAsTold old before) (tries : TriesTurn g run old mid before at (Some number) turn) where
  pub heeded_taken : (new : PrimaryView D) (after : NodeView)
      → (new ≡ mid) × HasTold g run new at after × (mid.down ≡ 0 → IfWaiting turn (λ cause. FoundAllUp mid cause at after)) → TakesTurn g run old new before after (Some number) turn
  heeded_taken new after h =
      subst (λ (v : PrimaryView D). TakesTurn g run old v before after (Some number) turn) (sym h.0)
      (turn_taken g run old mid before at (Some number) turn stands told tries after (subst (λ (v : PrimaryView D). HasTold g run v at after) h.0 h.1)
      (dite (ℕ_discrete mid.down 0) h.2
      (λ down. ends_never turn (λ cause. FoundAllUp mid cause at after) (waits_map turn (λ cause. mid.down ≡ 0) (λ cause. ⊥) (λ cause up. down up) tries.up))))

-- ---- the turn of a statement

module _ {D : Type 0} (g : Ghosts D) (run : Run) (old mid : PrimaryView D) (before at : NodeView) (number : ℕ) (s : Session) (line : Line) (turn : Turn) (h : TriedLine g run old mid before at number s line turn) where
  pub line_tried : HasTried g run mid at
  line_tried = tried g run old mid before at (Some number) turn h.comes.stands h.told h.tries h.up

  module _ (new : PrimaryView D) (after : NodeView) (down : (cause : Cause) × (turn ≡ turns.Waiting cause) × GoesDownBy g run mid new at after cause) where
    abbrev pub stop_comes : (x : Session) × ComesToStop g run new after number x line
    stop_comes = (
      t g run old mid before at (Some number) turn h.comes.stands h.told h.tries number refl down.0 down.1 new after down.2 s line h.comes,
      comes_to_stop g run old mid before at (Some number) turn h.comes.stands h.told h.tries number refl down.0 down.1 new after down.2 s line h.comes,
    )

    pub stop_taken : (last : PrimaryView D) (result : Turn) → result ≡ turns.Answered
        → ((r : Run) (n : NodeView) (x : Session) (l : Line) → ComesToStop g r new n number x l → TriesTurn g r new last n n (Some number) turns.Answered)
        → ((a : Answer) → Adds new last a → (a.reply ≡ Stopped new.down) × ((x : Session) → IsSessionOf new number x → a.waits.items ≡ x.waits.items))
        → TakesTurn g run old last before after (Some number) result
    stop_taken last result is stops replies =
        subst (λ (t : Turn). TakesTurn g run old last before after (Some number) t) (sym is)
        (line_stopped g run old mid before at (Some number) turn h.comes.stands h.told h.tries number refl down.0 down.1 new after down.2 s line h.comes last
        (stops run after stop_comes.0 line stop_comes.1)
        (λ a more. let told = replies a more in (told.0, told.1 stop_comes.0 stop_comes.1.next.found)))
