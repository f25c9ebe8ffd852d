-- A turn that goes on quietly first, and then as another turn does.
use Rattle.std.proofs.Common.{◌≡◌, ◌≢◌, ℕ, ◌+◌, ◌<◌, ◌≤◌, ◌⊎◌, Bool, true, false, List, [], ◌∷◌, ◌++◌, length, slice_get, Option, None, Some, IfSome, refl, sym, ap, subst, ◌∙◌, inl, inr, arith, length-append}
use mathlib.Core.Logic.{dite}
use native.Mathlib.Decide.{ℕ_discrete}
use Rattle.std.specs.List.{AllByRecursion}
use Rattle.std.proofs.lemmas.List.{append-nil}
use Rattle.mp_machine.specs.Lists.{IsIn}
use Rattle.mp_machine.specs.View.{part_in}
use Rattle.mp_model.specs.declared.ids.TrxName.{TrxName}
use Rattle.mp_model.specs.declared.replies.Answer.{Answer}
use Rattle.mp_model.specs.Listed.{Listed}
use Rattle.mp_model.specs.declared.waiting.Cause.{Cause}
use Rattle.mp_model.specs.declared.waiting.Cause.TheVariants.{Word, Writer, Prep}
use Rattle.mp_model.specs.declared.waiting.NotYet.{NotYet}
use Rattle.mp_model.specs.declared.waiting.Turn.{Turn}
use Rattle.mp_model.specs.declared.waiting.Turn.TheVariants as turns
use Rattle.mp_cells.specs.declared.records.Mtr.{Mtr}
use Rattle.mp_core_pages.specs.declared.part.Placed.{Placed}
use Rattle.mp_core.specs.declared.part.CorePart.{CorePart}
use Rattle.mp_core.specs.CoreExtends.{CoreExtends}
use Rattle.mp_core.specs.OwnMtrs.{TrxMtr}
use Rattle.mp_book.specs.declared.session.Session.{Session}
use Rattle.mp_book.specs.Stages.{next_line, with_name}
use Rattle.mp_outside.specs.declared.disks.Disk.{Ghosts}
use Rattle.mp_outside.specs.Faults.{Rose}
use Rattle.mp_shared.specs.Nodes.{Run, NodeView, HoldsPart}
use Rattle.mp_supports.specs.Supports.{no_trace}
use Rattle.mp_supports.specs.Kept.{Entry, Did}
use Rattle.mp_supports.proofs.Classes.{did_then}
use Rattle.mp_supports.proofs.Extending.{placed_in}
use Rattle.mp_desk.specs.Desks.{Moves, MetWait}
use Rattle.mp_desk.proofs.AtDesk.{newest_grows}
use Rattle.mp_desk.proofs.BackSteps.{rose_later}
use Rattle.mp_desk.proofs.Moving.{moves_as, moves_both, goes_both}
use Rattle.mp_desk.proofs.TrxStepped.{DrewTheSame, tso_same, holds_all, knows_less_before}
use Rattle.mp_primary.specs.Primaries.{PrimaryView, PrimaryAgrees}
use Rattle.mp_primary.specs.Turns.{IsSessionOf, MayTakeTurn, Adds, AddsNext, HasWaits, IsLeftAfter, has_nothing_left, HasNoStatement, NamesWait, IfWaiting, WaitsFor}
use Rattle.mp_primary.specs.Tries.{TriesTurn}
use Rattle.mp_primary.specs.GoingOn.{GoesOnQuietly}
use Rattle.mp_primary.proofs.IfWaits.{on_if_waits}
use Rattle.mp_primary.proofs.OpenSessions.{one_of}

did_extends : (q r : CorePart) → Did q r no_trace → CoreExtends q r
did_extends q r h = h.extends

did_drew : (q r : CorePart) → Did q r no_trace → DrewTheSame q r
did_drew q r h = h.drew

all_left : (a b : NodeView) → ((e : Entry) → IsLeftAfter b e → IsLeftAfter a e) → (more : List Entry) → AllByRecursion (IsLeftAfter b) more → AllByRecursion (IsLeftAfter a) more
all_left a b over [] all = tt
all_left a b over (e ∷ more) all = (over e all.0, all_left a b over more all.1)

true_not_false : (b : Bool) → b ≡ true → b ≡ false → ⊥
true_not_false b is isnt = let both : true ≡ false = sym is ∙ isnt in cc

rose_before : (old mid new : ℕ) → mid ≤ new → Rose old mid → Rose old new
rose_before old mid new le rose = omega (arith, le, rose)

waiting_not_done : (cause : Cause) → turns.Waiting cause ≡ turns.Done → ⊥
waiting_not_done cause e = cc

waiting_not_stopped : (cause : Cause) (by : ℕ) → turns.Waiting cause ≡ turns.Stopped by → ⊥
waiting_not_stopped cause by e = cc

-- it goes down by its own log alone, and once
module _ {D : Type 0} (g : Ghosts D) where
  abbrev Fell : PrimaryView D → PrimaryView D → Type 0
  Fell old new = (new.down ≡ old.down) ⊎ ((old.down ≡ 0) × (new.down ≡ old.number) × Rose (g.faults old.media.log.disk) (g.faults new.media.log.disk))

  down_join : (old mid new : PrimaryView D) → mid.number ≡ old.number → g.faults old.media.log.disk ≤ g.faults mid.media.log.disk → g.faults mid.media.log.disk ≤ g.faults new.media.log.disk → Fell old mid → Fell mid new → Fell old new
  down_join old mid new same one two (inl stayed) (inl still) = inl (still ∙ stayed)
  down_join old mid new same one two (inl stayed) (inr fell) = inr (sym stayed ∙ fell.0, fell.1 ∙ same, rose_later (g.faults old.media.log.disk) (g.faults mid.media.log.disk) (g.faults new.media.log.disk) one fell.2)
  down_join old mid new same one two (inr down) (inl still) = inr (down.0, still ∙ down.1, rose_before (g.faults old.media.log.disk) (g.faults mid.media.log.disk) (g.faults new.media.log.disk) two down.2)
  down_join old mid new same one two (inr down) (inr fell) = inr (down.0, fell.1 ∙ same, rose_before (g.faults old.media.log.disk) (g.faults mid.media.log.disk) (g.faults new.media.log.disk) two down.2)

  -- two quiet goings-on are one
  pub quiet_both : (run : Run) (old mid new : PrimaryView D) (before n after : NodeView) (number : ℕ) → GoesOnQuietly g run old mid before n number → GoesOnQuietly g run mid new n after number → GoesOnQuietly g run old new before after number
  quiet_both run old mid new before n after number one two = record {
    stands = two.stands;
    number = two.number ∙ one.number;
    work = two.work ∙ one.work;
    did = moves_both old.number (λ q r. Did q r no_trace) (λ q r. Did q r no_trace) (λ q r. Did q r no_trace) (λ q r s a b. did_then q r s no_trace a b) before n after one.did
        (subst (λ (k : ℕ). Moves (λ q r. Did q r no_trace) k n after) one.number two.did);
    goes_on = λ entries agreed. two.goes_on entries (one.goes_on entries agreed);
    answers = two.answers ∙ one.answers;
    others = λ other ne. two.others other ne ∙ one.others other ne;
    same = λ s found. let t = one.same s found in let u = two.same t.0 t.1 in (u.0, u.1, u.2 ∙ t.2, u.3 ∙ t.3);
    down = down_join old mid new one.number one.faults two.faults one.down two.down;
    faults = let first = one.faults in let second = two.faults in omega (arith, first, second);
    tells = two.tells ∙ one.tells;
  }

module _ {D : Type 0} (g : Ghosts D) (run : Run) (old mid : PrimaryView D) (before n : NodeView) (number : ℕ) (s : Session) (found : IsSessionOf old number s) (first : GoesOnQuietly g run old mid before n number) (held : HoldsPart before old.number) where
  goes : Moves CoreExtends old.number before n
  goes = moves_as old.number (λ q r. Did q r no_trace) CoreExtends did_extends before n first.did

  drew : Moves DrewTheSame old.number before n
  drew = moves_as old.number (λ q r. Did q r no_trace) DrewTheSame did_drew before n first.did

  -- the session that goes on
  abbrev t : Session
  t = (first.same s found).0

  there : IsSessionOf mid number t
  there = (first.same s found).1

  next_same : next_line t ≡ next_line s
  next_same = (first.same s found).2

  waits_same : t.waits.items ≡ s.waits.items
  waits_same = (first.same s found).3

  is_s : (x : Session) → IsSessionOf old number x → x ≡ s
  is_s x at = one_of (slice_get old.book.sessions.items number) s x found at

  is_t : (x : Session) → IsSessionOf mid number x → x ≡ t
  is_t x at = one_of (slice_get mid.book.sessions.items number) t x there at

  none_over : HasNoStatement old (Some number) → HasNoStatement mid (Some number)
  none_over none = λ x at. ap (λ (v : Session). next_line v) (is_t x at) ∙ next_same ∙ none s found

  none_back : HasNoStatement mid (Some number) → HasNoStatement old (Some number)
  none_back none = λ x at. ap (λ (v : Session). next_line v) (is_s x at) ∙ sym next_same ∙ none t there

  -- ---- it waits

  no_answer : (a : Answer) → Adds old mid a → ⊥
  no_answer a more =
      let longer = length-append old.book.answers.items (a ∷ []) in
      let same : length (old.book.answers.items ++ a ∷ []) ≡ length old.book.answers.items = ap (λ (l : List Answer). length l) (sym more ∙ ap (λ (l : Listed Answer). l.items) first.answers) in
      omega (arith, longer, same)

  pub waiting_turn : mid.down ≡ 0 → has_nothing_left old (Some number) ≡ false → (wait : NotYet) → MetWait old.number before n wait → MayTakeTurn mid number → TriesTurn g run old mid before n (Some number) (turns.Waiting (Word wait))
  waiting_turn up busy wait met may = record {
    stands = first.stands;
    number = first.number;
    work = first.work;
    went = goes;
    goes_on = λ entries agrees. record {
      more = [];
      agrees = λ q has. subst (λ (l : List Entry). PrimaryAgrees g mid l q) (sym (append-nil entries)) (first.goes_on entries agrees q has);
      adds = refl;
      later = tt;
    };
    others = λ other ne. first.others other (λ same. ne (ap (λ (k : ℕ). Some k) (sym same)));
    named = λ x y a b. ap (λ (v : Session). v.waits.items) (is_t y b) ∙ waits_same ∙ sym (ap (λ (v : Session). v.waits.items) (is_s x a));
    cause = inl met;
    up = up;
    answers = first.answers;
    down = first.down;
    faults = first.faults;
    tells = first.tells;
    may_go_on = may;
    begins = λ a view more. absurd (no_answer a more);
    draws = λ a cts more. absurd (no_answer a more);
    skips = λ a more. absurd (no_answer a more);
    stops = λ a more. absurd (no_answer a more);
    done = ((λ e. absurd (waiting_not_done (Word wait) e)), (λ z nothing. absurd (true_not_false (has_nothing_left old (Some number)) nothing busy)));
    stopped = ((λ by e. absurd (waiting_not_stopped (Word wait) by e)), (λ down none. absurd (down up)));
  }

  -- ---- or it goes on by a turn

  earlier : (e : Entry) → IsLeftAfter n e → IsLeftAfter before e
  earlier e = go e.trace.mtr
    where
      go : (o : Option TrxMtr) → IfSome o (λ m. (k : ℕ) (q : CorePart) (x : Placed Mtr) → part_in n.parts k ≡ Some q → IsIn x q.pages.made → x.at < m.at) → IfSome o (λ m. (k : ℕ) (q : CorePart) (x : Placed Mtr) → part_in before.parts k ≡ Some q → IsIn x q.pages.made → x.at < m.at)
      go None h = tt
      go (Some m) h = λ k q x has made.
          dite (ℕ_discrete k old.number)
          (λ same. let now = goes.mine q (ap (part_in before.parts) (sym same) ∙ has) in h k now.0 x (ap (part_in n.parts) same ∙ now.1) (placed_in q now.0 now.2 x made))
          (λ other. h k q x (goes.others k other ∙ has) made)

  module _ (new : PrimaryView D) (after : NodeView) where
    adds_back : (turn : Turn) (more : List Entry) → AddsNext mid new (Some number) more turn → AddsNext old new (Some number) more turn
    adds_back turns.Answered more (inl h) = inl (record {
      session = s;
      line = h.line;
      next = record { found = found; next = sym next_same ∙ ap (λ (v : Session). next_line v) (sym (is_t h.session h.next.found)) ∙ h.next.next };
      answer = h.answer;
      of_session = h.of_session;
      index = h.index;
      waits = subst (λ (l : List TrxName). HasWaits l h.answer) (ap (λ (v : Session). v.waits.items) (is_t h.session h.next.found) ∙ waits_same) h.waits;
      entry = h.entry;
      has = h.has;
      one = h.one;
    })
    adds_back turns.Answered more (inr h) = inr (record {
      none = h.none;
      session = s;
      found = found;
      through = sym next_same ∙ ap (λ (v : Session). next_line v) (sym (is_t h.session h.found)) ∙ h.through;
      ended = h.ended;
    })
    adds_back (turns.Waiting cause) more h = h
    adds_back turns.Done more h = h
    adds_back (turns.Stopped by) more h = h

    waits_back : (x : Session) → IsSessionOf old number x → t.waits.items ≡ x.waits.items
    waits_back x at = waits_same ∙ sym (ap (λ (v : Session). v.waits.items) (is_s x at))

    named_back : (turn : Turn) → NamesWait mid new number turn → NamesWait old new number turn
    named_back turns.Answered h = h
    named_back (turns.Waiting (Writer name)) h = λ x y a b. h t y there b ∙ ap (λ (l : List TrxName). with_name name l) (waits_back x a)
    named_back (turns.Waiting (Word wait)) h = λ x y a b. h t y there b ∙ waits_back x a
    named_back (turns.Waiting (Prep name)) h = λ x y a b. h t y there b ∙ waits_back x a
    named_back turns.Done h = λ x y a b. h t y there b ∙ waits_back x a
    named_back (turns.Stopped by) h = λ x y a b. h t y there b ∙ waits_back x a

    module _ (turn : Turn) (h : TriesTurn g run mid new n after (Some number) turn) where
      adds_mid : (a : Answer) → Adds old new a → Adds mid new a
      adds_mid a more = more ∙ ap (λ (l : List Answer). l ++ a ∷ []) (sym (ap (λ (l : Listed Answer). l.items) first.answers))

      pub then_turn : has_nothing_left old (Some number) ≡ false → turn ≢ turns.Done → IfWaiting turn (WaitsFor old number before after) → TriesTurn g run old new before after (Some number) turn
      then_turn busy not_done cause = record {
        stands = h.stands;
        number = h.number ∙ first.number;
        work = h.work ∙ first.work;
        went = goes_both old.number before n after goes (subst (λ (k : ℕ). Moves CoreExtends k n after) first.number h.went);
        goes_on = λ entries agrees. let x = h.goes_on entries (first.goes_on entries agrees) in record { more = x.more; agrees = x.agrees; adds = adds_back turn x.more x.adds; later = all_left before n earlier x.more x.later };
        others = λ other ne. h.others other ne ∙ first.others other (λ same. ne (ap (λ (k : ℕ). Some k) (sym same)));
        named = named_back turn h.named;
        cause = cause;
        up = h.up;
        answers = on_if_waits turn new.book.answers mid.book.answers old.book.answers first.answers h.answers;
        down = down_join g old mid new first.number first.faults h.faults first.down h.down;
        faults = let one = first.faults in let two = h.faults in omega (arith, one, two);
        tells = h.tells ∙ first.tells;
        may_go_on = h.may_go_on;
        begins = λ a view more is.
            let told = h.begins a view (adds_mid a more) is in (
              λ q has. let now = goes.mine q has in let grew = newest_grows q.trx (now.0).trx now.2.trx in let le = told.0 now.0 (ap (part_in n.parts) first.number ∙ now.1) in omega (arith, grew, le),
              λ all. told.1 (holds_all old.number before n held drew all) ∙ tso_same old.number before n held drew,
            );
        draws = λ a cts more is.
            let told = h.draws a cts (adds_mid a more) is in (
              knows_less_before old.number cts before n goes (λ q has. told.0 q (ap (part_in n.parts) first.number ∙ has)),
              λ all. told.1 (holds_all old.number before n held drew all) ∙ ap (λ (k : ℕ). k + 1) (tso_same old.number before n held drew),
            );
        skips = λ a more. h.skips a (adds_mid a more);
        stops = λ a more. h.stops a (adds_mid a more);
        done = ((λ e. absurd (not_done e)), (λ up nothing. absurd (true_not_false (has_nothing_left old (Some number)) nothing busy)));
        stopped = ((λ by e. let x = h.stopped.0 by e in (x.0, x.1, none_back x.2)), (λ down none. h.stopped.1 down (none_over none)));
      }
