-- A turn that begins a session's transaction, or waits for a slot.
use Rattle.std.proofs.Common.{◌≡◌, ◌≢◌, ℕ, ◌+◌, ◌^◌, ◌<◌, ◌≤◌, false, List, [], ◌∷◌, ◌++◌, length, drop, slice_get, slice_set, Option, None, Some, IfSome, refl, sym, ap, subst, ◌∙◌, inl, inr, arith}
use Rattle.mp_machine.specs.Lists.{IsIn}
use Rattle.mp_machine.specs.View.{part_in}
use Rattle.mp_machine.proofs.Lists.{grows_refl, grows_one}
use Rattle.mp_model.specs.declared.ids.TrxId.{TrxId}
use Rattle.mp_model.specs.declared.ids.TrxName.{TrxName}
use Rattle.mp_model.specs.declared.replies.Answer.{Answer}
use Rattle.mp_model.specs.declared.replies.Reply.TheVariants.{Began, Skipped}
use Rattle.mp_model.specs.declared.waiting.Cause.TheVariants.{Word}
use Rattle.mp_model.specs.declared.waiting.NotYet.{NotYet}
use Rattle.mp_model.specs.declared.waiting.Turn.TheVariants as turns
use Rattle.mp_script.specs.declared.statements.Line.{Line}
use Rattle.mp_script.specs.declared.statements.SessionOn.{SessionOn}
use Rattle.mp_script.specs.BeginNames.{begin_names}
use Rattle.mp_script.specs.Execution.{line_at}
use Rattle.mp_script.specs.Transactions.{cts_of, trx_in_lines}
use Rattle.mp_script.specs.WentDown.{shows_down}
use Rattle.mp_cells.specs.declared.rows.Row.{Row}
use Rattle.mp_core_trx.specs.declared.opening.Base.{Base}
use Rattle.mp_core_trx.specs.declared.opening.TrxOpening.{TrxOpening}
use Rattle.mp_core_trx.specs.declared.part.Begun.{Begun}
use Rattle.mp_core_trx.specs.declared.part.TrxPart.{TrxPart}
use Rattle.mp_core_trx.specs.declared.slot.SlotTag.TheVariants.{Active}
use Rattle.mp_core_trx.specs.Events.{IsNode, slot_row}
use Rattle.mp_core_trx.specs.Parts.{PartExtends}
use Rattle.mp_core_trx.specs.Words.{shows}
use Rattle.mp_core.specs.declared.part.CorePart.{CorePart}
use Rattle.mp_core.specs.CoreExtends.{CoreExtends}
use Rattle.mp_core.specs.OwnMtrs.{TrxMtr, trx_mtrs}
use Rattle.mp_book.specs.declared.book.Book.{Book}
use Rattle.mp_book.specs.declared.session.Session.{Session}
use Rattle.mp_book.specs.declared.stage.Stage.TheVariants.{Closed, Open}
use Rattle.mp_book.specs.Stages.{task_by, trx_of_stage}
use Rattle.mp_book.specs.Through.{is_no_task}
use Rattle.mp_book.specs.Answered.{NoneShowsDown}
use Rattle.mp_book.specs.Books.{IsBook, IsNext, IsAnswered, MayAnswer}
use Rattle.mp_outside.specs.declared.disks.Disk.{Ghosts}
use Rattle.mp_shared.specs.Nodes.{Run, NodeView, HoldsAll, Reached}
use Rattle.mp_shared.specs.Slots.{next_slot, CanUse}
use Rattle.mp_shared.proofs.Holding.{held_part}
use Rattle.mp_trx_fusion.specs.Calls.{with_trx, with_begin, Knows, tso_of, no_slot_for, MayBeginTrx}
use Rattle.mp_buffer_fusion.proofs.Kept.{set_here, set_else}
use Rattle.mp_supports.specs.Work.{name_of}
use Rattle.mp_supports.specs.Supports.{began_trace, SupportsReply, SupportsWaits}
use Rattle.mp_supports.specs.Kept.{Entry}
use Rattle.mp_supports.specs.Agreement.{rows_left, rows_left_by, Opens, Bounds}
use Rattle.mp_supports.specs.Steps.{TrxStep}
use Rattle.mp_supports.proofs.Classes.{did_begin}
use Rattle.mp_supports.proofs.OpenSteps.{opens_begun}
use Rattle.mp_supports.proofs.Unchanged.{waits_kept, mirrors_kept}
use Rattle.mp_supports.proofs.BoundSteps.{bounds_answered}
use Rattle.mp_supports.proofs.Places.{at_place}
use Rattle.mp_desk.specs.Making.{HoldsPartOf}
use Rattle.mp_desk.proofs.ReachedFacts.{known_world}
use Rattle.mp_desk.proofs.TrxStepped.{trx_changed, trx_step, trx_there, moves_trx, trx_at_desk, trx_media}
use Rattle.mp_primary.specs.Primaries.{PrimaryView, PrimaryAgreesIn, PrimaryAgrees}
use Rattle.mp_primary.specs.Turns.{Adds, no_task_in, has_nothing_left, ComesTo, GoesOnBy, TellsDown}
use Rattle.mp_primary.specs.Tries.{TriesTurn}
use Rattle.mp_primary.proofs.OpenSessions.{one_of}
use Rattle.mp_primary.proofs.QuietTurns.{quiet, same_waits}
use Rattle.mp_primary.proofs.StillInTurns.{stage_in, open_in, set_may, comes_may}
use Rattle.mp_primary.proofs.AnsweredTurns.{AnswersWell, goes_on_answered, calm, found_here, line_found}
use Rattle.mp_primary.proofs.PlainTurns.{one_answer, within, answered_not_done, answered_not_stopped, false_not_true, some_not_none}
use Rattle.mp_primary.proofs.BeginPlaced.{name_by, name_at, is_begin, is_named, its_trx, next_trx, version_fresh}

extends_begin : (b : Begun) (q : TrxPart) → PartExtends q (with_begin b q)
extends_begin b q = record {
  same_opening = refl;
  more_begun = grows_one q.begun b;
  more_rows = grows_one q.rows (slot_row b.id (shows Active b.id.version 0));
  more_drawn = grows_refl q.drew;
  more_seen = grows_one q.seen b.view;
  more_loaded = grows_refl q.loaded;
}

began_is : (one other : ℕ) → Began one ≡ Began other → one ≡ other
began_is one other e = cc

began_not_skipped : (view : ℕ) → Began view ≡ Skipped → ⊥
began_not_skipped view e = cc

no_number : (cts : ℕ) → ◌≡◌ {A = Option ℕ} None (Some cts) → ⊥
no_number cts e = cc

waiting_not_done : (wait : NotYet) → turns.Waiting (Word wait) ≡ turns.Done → ⊥
waiting_not_done wait e = cc

waiting_not_stopped : (wait : NotYet) (by : ℕ) → turns.Waiting (Word wait) ≡ turns.Stopped by → ⊥
waiting_not_stopped wait by e = cc

-- a transaction of an id that no begun one has made no mtr
none_made : (n : NodeView) (p : ℕ) (q : CorePart) → Reached n → part_in n.parts p ≡ Some q → (id : TrxId) → ((b : Begun) → IsIn b q.trx.begun → b.id.version ≢ id.version) → (m : TrxMtr) → IsIn m (trx_mtrs q.pages.made) → m.of ≢ Some id
none_made n p q reached has id fresh m there is =
    let known = known_world n reached in
    let same = known.agrees p q has in
    let placed = known.facts.of_history.placed p m (subst (λ (r : CorePart). IsIn m (trx_mtrs r.pages.made)) (sym same) there) in
    let its : placed.3.0 ≡ id = some_id placed.3.0 (sym placed.3.1 ∙ is) in
    fresh (record { id = placed.3.0; view = placed.3.3.0 }) (subst (λ (r : CorePart). IsIn (record { id = placed.3.0; view = placed.3.3.0 }) r.trx.begun) same placed.3.3.1) (ap (λ (i : TrxId). i.version) its)
  where
    some_id : (a : TrxId) → Some a ≡ Some id → a ≡ id
    some_id a e = cc

module _ {D : Type 0} (g : Ghosts D) (run : Run) (old : PrimaryView D) (before : NodeView) (number : ℕ) (s : Session) (line : Line) (comes : ComesTo g run old before number s line) (up : old.down ≡ 0) (closed : s.stage ≡ Closed) where
  abbrev name : TrxName
  name = name_by number line.index

  has : (q : CorePart) × (part_in before.parts old.number ≡ Some q) × IsNode q.trx.opening old.number
  has = held_part before old.number comes.stands.desk.part

  was : PrimaryAgrees g old comes.stands.agrees.0 has.0
  was = comes.stands.agrees.1 has.0 has.1

  old_calm : NoneShowsDown old.book.answers.items
  old_calm = subst NoneShowsDown was.answers (calm comes.stands.agrees.0 (was.kept.up up))

  pub begin_named : IsIn name old.names
  begin_named = subst (IsIn name) (sym comes.stands.primary.names) (is_named old.work old.number number old.book s line comes.stands.primary.book comes.next old_calm closed)

  -- ---- all slots were used

  -- a session that is tried has something left
  busy : has_nothing_left old (Some number) ≡ false
  busy = ap no_task_in comes.next.found ∙ ap (λ (o : Option Line). is_no_task (task_by o s.stage)) comes.next.next

  pub slot_turn : (wait : NotYet) → wait ≡ no_slot_for old.number → next_slot before old.number ≡ None → TriesTurn g run old old before before (Some number) (turns.Waiting (Word wait))
  slot_turn wait is none = quiet g run old before comes.stands (Some number) (comes_may g run old before number s line comes) (turns.Waiting (Word wait)) refl (same_waits g old number) (inr (inl (is, none))) up
      ((λ e. absurd (waiting_not_done wait e)), (λ still nothing. absurd (false_not_true (sym busy ∙ nothing))))
      ((λ by e. absurd (waiting_not_stopped wait by e)), (λ down. absurd (down up)))

  module _ (place : ℕ) (there : slice_get old.names place ≡ Some name) where
    there_too : slice_get (begin_names old.work.lines) place ≡ Some name
    there_too = ap (λ (l : List TrxName). slice_get l place) (sym comes.stands.primary.names) ∙ there

    fresh : (b : Begun) → IsIn b has.0.trx.begun → b.id.version ≢ old.work.base.version + place + 1
    fresh = version_fresh old.work old.number number old.book s line comes.stands.primary.book comes.next old_calm closed has.0 old.down comes.stands.agrees.0 was.kept was.begun was.answers place there_too

    within_begins : old.work.base.version + place + 1 ≤ has.0.trx.opening.base.version + has.0.trx.opening.begins
    within_begins =
        let below = within (begin_names old.work.lines) place name there_too in
        let base : has.0.trx.opening.base.version ≡ old.work.base.version = ap (λ (b : Base). b.version) was.bounds.base in
        let begins = was.exact in
        omega (arith, base, begins, below)

    pub may_begin : (version : ℕ) → version ≡ old.work.base.version + place + 1 → MayBeginTrx before old.number version
    may_begin version is =
        let base : has.0.trx.opening.base.version ≡ old.work.base.version = ap (λ (b : Base). b.version) was.bounds.base in
        let most = within_begins in
        record {
          mine = has.0;
          holds = has.1;
          node = has.2;
          above = omega (arith, is, base);
          within = omega (arith, is, most);
          fresh = λ b at same. fresh b at (same ∙ is);
        }

    -- and it is within the versions that fit
    pub version_fits : old.work.base.version + place + 1 < 2 ^ 24
    version_fits =
        let known = known_world before comes.stands.desk.reached in
        let carried : has.0.trx.opening ≡ before.run.opening.trx = sym (ap (λ (r : CorePart). r.trx.opening) (known.agrees old.number has.0 has.1)) ∙ known.facts.inv.trx.carried old.number in
        let same = ap (λ (o : TrxOpening). o.base.version + o.begins) carried in
        let fits = comes.stands.desk.reached.fair.trx.versions_fit in
        let most = within_begins in
        omega (arith, same, fits, most)

    -- ---- the transaction was begun

    module _ (after : NodeView) (b : Begun) (book : Book) (version : b.id.version ≡ old.work.base.version + place + 1) (becomes : after ≡ with_trx before old.number (with_begin b) 2) (usable : CanUse before old.number b.id.slot) (reached : Reached after)
        (is : IsAnswered old.book book number s line (Began b.view) (Open b) [] 0) (books : IsBook old.work.lines old.work.sessions old.number book) where
      abbrev new : PrimaryView D
      new = record old { book = book }

      abbrev now : CorePart
      now = trx_changed (with_begin b) 2 has.0

      more : PartExtends has.0.trx (with_begin b has.0.trx)
      more = extends_begin b has.0.trx

      step : TrxStep has.0 now
      step = trx_step has.0 (with_begin b) 2 more

      has_now : part_in after.parts old.number ≡ Some now
      has_now = trx_there old.number before after (with_begin b) 2 becomes has.0 has.1 more

      found : slice_get old.book.sessions.items number ≡ Some s
      found = comes.next.found

      named : name_of old.work b.id ≡ Some name
      named = name_at old.work b.id place name version there_too

      fresh_version : (c : Begun) → IsIn c has.0.trx.begun → c.id.version ≢ b.id.version
      fresh_version c at same = fresh c at (same ∙ version)

      -- rows are left of a transaction alone
      rows_none : rows_left is.after ≡ 0
      rows_none =
          ap (λ (o : Option Begun). rows_left_by o is.after) (ap trx_of_stage is.goes.stage_is)
          ∙ ap (λ (i : ℕ). length (drop i is.after.formers.items)) is.goes.restored_is
          ∙ ap (λ (l : List Row). length l) is.goes.formers_are

      module _ (entries : List Entry) (agreed : PrimaryAgrees g old entries has.0) where
        opens_now : Opens old.work now 0 book.sessions.items
        opens_now =
            subst (Opens old.work now 0) (sym is.sessions)
            (opens_begun old.work has.0 now 0 step.extends old.book.sessions.items number s is.after found (λ k x at. (comes.stands.primary.book.each k x at).number_is) (agreed.opens up) b refl refl refl (usable has.0 has.1) fresh_version
            (none_made before old.number has.0 comes.stands.desk.reached has.1 b.id fresh_version)
            (ap trx_of_stage closed)
            (named ∙ ap (λ (n : TrxName). Some n) (sym (next_trx old.work old.number number old.book s line comes.stands.primary.book comes.next old_calm closed)))
            is.goes)

        waits_now : SupportsWaits old.work now line s.waits.items
        waits_now =
            subst (λ (o : Option Line). IfSome o (λ l. SupportsWaits old.work now l s.waits.items)) comes.next.next
            (waits_kept old.work has.0 now 0 step.extends s (agreed.waits s (at_place old.book.sessions.items number s found)))

        supported_now : SupportsReply old.work now old.down (began_trace b) line (Began b.view)
        supported_now = (
          b,
          is_begin old.work old.number number old.book s line comes.stands.primary.book comes.next old_calm closed,
          refl,
          inl refl,
          refl,
          subst (λ (n : ℕ). name_of old.work b.id ≡ Some (trx_in_lines old.work.lines n line.index)) (sym its_session)
              (named ∙ ap (λ (n : TrxName). Some n) (sym (its_trx old.work old.number number old.book s line comes.stands.primary.book comes.next old_calm closed))),
        )
          where
            its_session : line.session ≡ number
            its_session = (found_here old.work.lines old.work.sessions old.number number old.book s line comes.stands.primary.book comes.next).session_is

        well_now : AnswersWell g old new is.answer (began_trace b) has.0 now
        well_now = record {
          down = inl up;
          did = did_begin has.0 now b step refl refl;
          may = record {
            supported = record {
              line = line;
              found = ap (λ (k : ℕ). line_at old.work.lines k is.answer.index) is.session ∙ ap (line_at old.work.lines number) is.index ∙ line_found old.work.lines old.work.sessions old.number number old.book s line comes.stands.primary.book comes.next;
              reply = subst (SupportsReply old.work now old.down (began_trace b) line) (sym is.reply_is) supported_now;
              waits = subst (SupportsWaits old.work now line) (sym is.waits) waits_now;
            };
            in_doubt = λ down. tt;
            up = λ still. ap shows_down is.reply_is;
          };
          opens = λ still. opens_now;
          sessions = opens_now.only;
          waits = opens_now.waits;
          mirrors = mirrors_kept has.0 now step.extends old.down old.desk.llsn old.desk.undo refl refl agreed.mirrors;
          media = trx_media old.number before after (with_begin b) 2 becomes has.0 has.1 more g old.work old.down old.media comes.stands.desk.part
              (λ q at. subst (HoldsPartOf g old.work old.down old.number old.media) (sym (one_of (part_in before.parts old.number) has.0 q has.1 at)) agreed.media) now has_now;
          bounds = subst (λ (l : List Session). Bounds old.work now book.answers.items l) (sym is.sessions)
              (subst (λ (l : List Answer). Bounds old.work now l (slice_set old.book.sessions.items number is.after)) (sym is.answers)
              (bounds_answered old.work has.0 now step.extends old.book.answers.items old.book.sessions.items number s is.after found agreed.bounds (is.answer ∷ []) refl (let same : length now.trx.drew ≡ length has.0.trx.drew = refl in omega (arith, same)) (let none = rows_none in omega (arith, none))));
        }

      goes : (entries : List Entry) → PrimaryAgreesIn g old entries before → GoesOnBy g old new before after (Some number) entries turns.Answered
      goes entries agrees =
          goes_on_answered g old new before after number s line (Began b.view) (Open b) [] 0 comes.next is refl refl (began_trace b) has.0 has.1
          (λ some r agreed at. subst (AnswersWell g old new is.answer (began_trace b) has.0) (one_of (part_in after.parts old.number) r now at has_now) (well_now some agreed)) tt entries agrees

      its_reply : (a : Answer) → Adds old new a → Began b.view ≡ a.reply
      its_reply a added = sym is.reply_is ∙ ap (λ (x : Answer). x.reply) (one_answer old.book.answers.items is.answer a (sym is.answers ∙ added))

      pub began_turn : Knows before old.number b.view → (HoldsAll before → b.view ≡ tso_of before) → TriesTurn g run old new before after (Some number) turns.Answered
      began_turn knows exact = record {
        stands = record {
          primary = record { book = books; names = comes.stands.primary.names; places = comes.stands.primary.places; own = comes.stands.primary.own; up = comes.stands.primary.up };
          desk = trx_at_desk old.number before after (with_begin b) 2 becomes has.0 has.1 more run old.desk comes.stands.desk reached;
          agrees = let next = goes comes.stands.agrees.0 comes.stands.agrees.1 in (comes.stands.agrees.0 ++ next.more, next.agrees);
        };
        number = refl;
        work = refl;
        went = moves_trx old.number before after (with_begin b) 2 becomes has.0 has.1 more CoreExtends step.extends;
        goes_on = goes;
        others = λ other ne. ap (λ (l : List Session). slice_get l other) is.sessions ∙ set_else old.book.sessions.items number other is.after (λ same. ne (ap (λ (k : ℕ). Some k) (sym same)));
        named = λ x at. ap (λ (v : Session). v.waits.items) (one_of (slice_get book.sessions.items number) is.after x (ap (λ (l : List Session). slice_get l number) is.sessions ∙ set_here old.book.sessions.items number is.after (within old.book.sessions.items number s found)) at) ∙ is.goes.waits;
        cause = tt;
        up = tt;
        answers = tt;
        down = inl refl;
        faults = omega arith;
        tells = refl;
        may_go_on = set_may new number old.book.sessions.items s is.after found is.sessions (stage_in is.after.stage (Open b) is.goes.stage_is (open_in b));
        begins = λ a view added so.
            let is_view : b.view ≡ view = began_is b.view view (its_reply a added ∙ so) in
            (subst (Knows before old.number) is_view knows, λ all. sym is_view ∙ exact all);
        draws = λ a cts added so. absurd (no_number cts (ap cts_of (its_reply a added) ∙ so));
        skips = λ a added so. absurd (began_not_skipped b.view (its_reply a added ∙ so));
        stops = λ a added. subst (TellsDown old.down) (its_reply a added) up;
        done = ((λ e. absurd (answered_not_done e)), (λ still nothing. absurd (false_not_true (sym busy ∙ nothing))));
        stopped = ((λ by e. absurd (answered_not_stopped by e)), (λ down none. absurd (some_not_none line (sym comes.next.next ∙ none s found))));
      }

-- the same, of what a method sees inside
module _ {D : Type 0} (g : Ghosts D) (inside old : PrimaryView D) (view : inside ≡ old) (run : Run) (before : NodeView) (number : ℕ) (s : Session) (line : Line) (comes : ComesTo g run old before number s line) (up : old.down ≡ 0) (closed : s.stage ≡ Closed) where
  inside_comes : ComesTo g run inside before number s line
  inside_comes = subst (λ (v : PrimaryView D). ComesTo g run v before number s line) (sym view) comes

  inside_up : inside.down ≡ 0
  inside_up = ap (λ (v : PrimaryView D). v.down) view ∙ up

  pub inside_named : IsIn (name_by number line.index) inside.names
  inside_named = begin_named g run inside before number s line inside_comes inside_up closed

  -- the book may answer it with a transaction that was begun
  pub inside_next : (trx : Begun) → (x : Session) × (l : Line) × IsNext inside.book number x l × MayAnswer x l (Began trx.view) (Open trx) [] 0
  inside_next trx = (s, line, inside_comes.next, (trx, closed, is_begin inside.work inside.number number inside.book s line inside_comes.stands.primary.book inside_comes.next (old_calm g run inside before number s line inside_comes inside_up closed) closed, refl, refl, refl, refl))

  pub inside_slot_turn : (after : NodeView) → after ≡ before → (wait : NotYet) → (next_slot before inside.number ≡ None) × (wait ≡ no_slot_for inside.number) → TriesTurn g run old old before after (Some number) (turns.Waiting (Word wait))
  inside_slot_turn after stays wait is =
      subst (λ (n : NodeView). TriesTurn g run old old before n (Some number) (turns.Waiting (Word wait))) (sym stays)
      (slot_turn g run old before number s line comes up closed wait (is.1 ∙ ap (λ (v : PrimaryView D). no_slot_for v.number) view) (ap (λ (v : PrimaryView D). next_slot before v.number) (sym view) ∙ is.0))

  module _ (place : ℕ) (there : slice_get inside.names place ≡ Some (name_by number line.index)) where
    pub inside_may_begin : MayBeginTrx before inside.number (inside.work.base.version + place + 1)
    inside_may_begin = may_begin g run inside before number s line inside_comes inside_up closed place there (inside.work.base.version + place + 1) refl

    pub inside_version_fits : inside.work.base.version + place + 1 < 2 ^ 24
    inside_version_fits = version_fits g run inside before number s line inside_comes inside_up closed place there

    pub inside_began_turn : (after : NodeView) (b : Begun) (book : Book) → b.id.version ≡ inside.work.base.version + place + 1 → after ≡ with_trx before inside.number (with_begin b) 2 → CanUse before inside.number b.id.slot → Reached after
        → ((x : Session) (l : Line) → IsNext inside.book number x l → IsAnswered inside.book book number x l (Began b.view) (Open b) [] 0)
        → ((lines : List Line) (sessions : List SessionOn) (primary : ℕ) → IsBook lines sessions primary inside.book → NoneShowsDown inside.book.answers.items → IsBook lines sessions primary book)
        → Knows before inside.number b.view → (HoldsAll before → b.view ≡ tso_of before) → TriesTurn g run old (record inside { book = book }) before after (Some number) turns.Answered
    inside_began_turn after b book version becomes usable reached is books knows exact =
        subst (λ (v : PrimaryView D). TriesTurn g run v (record inside { book = book }) before after (Some number) turns.Answered) view
        (began_turn g run inside before number s line inside_comes inside_up closed place there after b book version becomes usable reached (is s line inside_comes.next)
        (books inside.work.lines inside.work.sessions inside.number inside_comes.stands.primary.book (old_calm g run inside before number s line inside_comes inside_up closed)) knows exact)
