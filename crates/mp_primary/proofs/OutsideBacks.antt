-- A rollback outside a turn: it goes on quietly, and then the transaction is freed.
use Rattle.std.proofs.Common.{◌≡◌, ◌≢◌, ℕ, List, [], ◌++◌, slice_get, get_or, Option, None, Some, Ok, Err, refl, sym, ap, subst, ◌∙◌, inl, inr, arith, ⊎_elim}
use Rattle.std.proofs.lemmas.List.{append-nil}
use Rattle.std.proofs.lemmas.Option.{slice_get_within}
use Rattle.mp_machine.specs.View.{part_in}
use Rattle.mp_model.specs.Listed.{Listed}
use Rattle.mp_model.specs.declared.replies.Answer.{Answer}
use Rattle.mp_core_trx.specs.declared.event.TrxEvent.TheVariants.{StoreEnd}
use Rattle.mp_core_trx.specs.declared.part.Begun.{Begun}
use Rattle.mp_core_trx.specs.declared.slot.SlotTag.TheVariants.{Free}
use Rattle.mp_core_trx.specs.Events.{with_end}
use Rattle.mp_core_trx.specs.Parts.{Shows}
use Rattle.mp_core.specs.declared.event.CoreEvent.TheVariants.{Trx}
use Rattle.mp_core.specs.declared.part.CorePart.{CorePart}
use Rattle.mp_core.specs.CoreExtends.{CoreExtends}
use Rattle.mp_book.specs.declared.book.Book.{Book}
use Rattle.mp_book.specs.declared.session.Session.{Session}
use Rattle.mp_book.specs.declared.stage.Stage.TheVariants.{Open, Outside}
use Rattle.mp_book.specs.Stages.{trx_of_stage, HaveOneRowEach}
use Rattle.mp_book.specs.Books.{IsBook, SetsSession}
use Rattle.mp_outside.specs.declared.disks.Disk.{Ghosts}
use Rattle.mp_outside.specs.Faults.{Rose}
use Rattle.mp_shared.specs.Nodes.{Run, NodeView, MayTake, Reached}
use Rattle.mp_trx_fusion.specs.Calls.{with_trx}
use Rattle.mp_buffer_fusion.proofs.Kept.{set_here, set_else}
use Rattle.mp_supports.specs.Supports.{no_trace}
use Rattle.mp_supports.specs.Kept.{Entry, Did}
use Rattle.mp_desk.specs.declared.halts.BackHalt.{BackHalt}
use Rattle.mp_desk.specs.declared.halts.BackHalt.TheVariants as backs
use Rattle.mp_desk.specs.declared.media.Media.{Media}
use Rattle.mp_desk.specs.Desks.{Moves}
use Rattle.mp_desk.proofs.Moving.{moves_as, goes_both}
use Rattle.mp_primary.specs.Primaries.{PrimaryView, PrimaryAgreesIn, PrimaryAgrees, StandsWith}
use Rattle.mp_primary.specs.Turns.{IsSessionOf}
use Rattle.mp_primary.specs.GoingOn.{GoesBackOf, CountsBack, IsAllBack, LeavesRows, GoesOnQuietly}
use Rattle.mp_primary.specs.OutsideCalls.{HasOpenStill}
use Rattle.mp_primary.specs.OutsideTries.{TriesOutside, BacksOutAs}
use Rattle.mp_primary.proofs.OpenSessions.{one_of}
use Rattle.mp_primary.proofs.FreedSlots.{Freeing, freeing, freed_stands, freed_agrees}
use Rattle.mp_primary.proofs.BackTurns.{stood_at}
use Rattle.mp_primary.proofs.QuietlyOn.{quiet_both}
use Rattle.mp_primary.proofs.BackEnds.{counted_there, may_end_inside}
use Rattle.mp_primary.proofs.TakenBack.{read_trx, staged_quietly, leaves_from}

some_begun : (x y : Begun) → Some x ≡ Some y → x ≡ y
some_begun x y e = cc

did_extends : (q r : CorePart) → Did q r no_trace → CoreExtends q r
did_extends q r h = h.extends

module _ {D : Type 0} (g : Ghosts D) (run : Run) where
  pub quiet_goes : (old mid : PrimaryView D) (before n : NodeView) (number : ℕ) → GoesOnQuietly g run old mid before n number → Moves CoreExtends old.number before n
  quiet_goes old mid before n number h = moves_as old.number (λ q r. Did q r no_trace) CoreExtends did_extends before n h.did

  -- two quiet steps, one after the other
  pub calls_quietly : (old mid new : PrimaryView D) (before n after : NodeView) (number : ℕ) → old.down ≡ 0 → GoesOnQuietly g run old mid before n number → GoesOnQuietly g run mid new n after number → TriesOutside g run old new before after number
  calls_quietly old mid new before n after number up one two = record {
    stands = two.stands;
    number = two.number ∙ one.number;
    work = two.work ∙ one.work;
    answers = ap (λ (l : Listed Answer). l.items) (two.answers ∙ one.answers);
    went = goes_both old.number before n after (quiet_goes old mid before n number one) (subst (λ (k : ℕ). Moves CoreExtends k n after) one.number (quiet_goes mid new n after number two));
    goes_on = λ entries agreed. ([], tt, λ q has. subst (λ (l : List Entry). PrimaryAgrees g new l q) (sym (append-nil entries)) (two.goes_on entries (one.goes_on entries agreed) q has));
    others = λ other ne. two.others other (λ same. ne (sym same)) ∙ one.others other (λ same. ne (sym same));
    down = ⊎_elim (λ same. inl (same ∙ up)) (λ fell. inr (fell.1, fell.2)) (quiet_both g run old mid new before n after number one two).down;
    faults = let first = one.faults in let second = two.faults in omega (arith, first, second);
    tells = two.tells ∙ one.tells;
  }

  -- and a last one
  pub calls_then : (old mid new : PrimaryView D) (before n after : NodeView) (number : ℕ) → TriesOutside g run old mid before n number → StandsWith g run new after → new.number ≡ mid.number → new.work ≡ mid.work → new.book.answers.items ≡ mid.book.answers.items
      → Moves CoreExtends mid.number n after → ((entries : List Entry) → PrimaryAgreesIn g mid entries n → PrimaryAgreesIn g new entries after) → new.media ≡ mid.media → new.down ≡ mid.down
      → ((other : ℕ) → number ≢ other → slice_get new.book.sessions.items other ≡ slice_get mid.book.sessions.items other) → TriesOutside g run old new before after number
  calls_then old mid new before n after session one stands number work answers went goes media down others = record {
    stands = stands;
    number = number ∙ one.number;
    work = work ∙ one.work;
    answers = answers ∙ one.answers;
    went = goes_both old.number before n after one.went (subst (λ (k : ℕ). Moves CoreExtends k n after) one.number went);
    goes_on = λ entries agreed. let x = one.goes_on entries agreed in (x.0, x.1, goes (entries ++ x.0) x.2);
    others = λ other ne. others other ne ∙ one.others other ne;
    down = ⊎_elim (λ zero. inl (down ∙ zero)) (λ here. inr (down ∙ here.0, subst (λ (m : Media D). Rose (g.faults old.media.log.disk) (g.faults m.log.disk)) (sym media) here.1)) one.down;
    faults = let first = one.faults in let same = ap (λ m. g.faults m.log.disk) media in omega (arith, first, same);
    tells = ap (λ m. g.tells m.log.disk) media ∙ one.tells;
  }

-- the session whose transaction is open still, with what it keeps
module _ {D : Type 0} (g : Ghosts D) (run : Run) (old : PrimaryView D) (n : NodeView) (number : ℕ) (stands : StandsWith g run old n) (up : old.down ≡ 0) where
  pub still_open : (trx : Begun) → HasOpenStill old number trx → (s : Session) × IsSessionOf old number s × (trx_of_stage s.stage ≡ Some trx) × HaveOneRowEach s.formers.items
  still_open trx (inl o) = (o.0, o.1, ap trx_of_stage o.2, (stood_at g run old n number stands up o.0 o.1 (Open trx) o.2).0.once)
  still_open trx (inr o) = (o.0, o.1, ap trx_of_stage o.2, o.3)

  pub same_trx : (a b : Begun) → HasOpenStill old number a → HasOpenStill old number b → b ≡ a
  same_trx a b one other =
      let x = still_open a one in
      let y = still_open b other in
      let same : y.0 ≡ x.0 = one_of (slice_get old.book.sessions.items number) x.0 y.0 x.1 y.1 in
      some_begun b a (sym y.2 ∙ ap (λ (v : Session). trx_of_stage v.stage) same ∙ x.2)

module _ {D : Type 0} (g : Ghosts D) (run : Run) (inside old : PrimaryView D) (view : inside ≡ old) (n : NodeView) (number : ℕ) (stands : StandsWith g run old n) (up : old.down ≡ 0) (asked : (trx : Begun) × HasOpenStill old number trx) where
  abbrev own : (s : Session) × IsSessionOf old number s × (trx_of_stage s.stage ≡ Some asked.0) × HaveOneRowEach s.formers.items
  own = still_open g run old n number stands up asked.0 asked.1

  pub found_out : slice_get inside.book.sessions.items number ≡ Some own.0
  found_out = subst (λ (v : PrimaryView D). slice_get v.book.sessions.items number ≡ Some own.0) (sym view) own.1

  pub read_out : (x : Session) → x ≡ get_or inside.book.sessions.items number x → (o : Option Begun) → o ≡ trx_of_stage x.stage → o ≡ Some asked.0
  read_out x is o its = sym (read_trx inside old view number own.0 own.1 x is o its) ∙ own.2

  pub its_trx_is : (result : Option Begun) (trx : Begun) → result ≡ Some asked.0 → result ≡ Some trx → trx ≡ asked.0
  its_trx_is result trx read is = some_begun trx asked.0 (sym is ∙ read)

  -- it is taken out
  module _ (trx : Begun) (trx_is : trx ≡ asked.0) (book : Book) (set : (x : Session) → slice_get inside.book.sessions.items number ≡ Some x → SetsSession inside.book book number (record x { stage = Outside (Some trx) })) (kept : IsBook inside.work.lines inside.work.sessions inside.number inside.book → IsBook inside.work.lines inside.work.sessions inside.number book) where
    abbrev pub out : Session
    out = record (own.0) { stage = Outside (Some trx) }

    stands_in : StandsWith g run inside n
    stands_in = subst (λ (v : PrimaryView D). StandsWith g run v n) (sym view) stands

    pub out_quietly : GoesOnQuietly g run old (record inside { book = book }) n n number
    out_quietly =
        subst (λ (v : PrimaryView D). GoesOnQuietly g run v (record inside { book = book }) n n number) view
        (staged_quietly g run inside n number stands_in own.0 found_out book (Outside (Some trx)) (λ q. tt) (ap (λ (b : Begun). Some b) trx_is ∙ sym own.2) (set own.0 found_out) (kept stands_in.primary.book))

    pub out_there : slice_get book.sessions.items number ≡ Some out
    out_there = ap (λ (l : List Session). slice_get l number) (set own.0 found_out).sessions ∙ set_here inside.book.sessions.items number out (slice_get_within inside.book.sessions.items number own.0 found_out)

    pub out_up : inside.down ≡ 0
    out_up = ap (λ (v : PrimaryView D). v.down) view ∙ up

    pub out_back : GoesBackOf (record inside { book = book }) number out trx
    out_back = record { found = out_there; back = tt; trx_is = refl; once = own.3 }

    -- and its rows are put back
    module _ (mid : PrimaryView D) (n1 : NodeView) (quiet : GoesOnQuietly g run (record inside { book = book }) mid n n1 number) (counts : (count : ℕ) × CountsBack (record inside { book = book }) mid number count) where
      pub out_calls : TriesOutside g run old mid n n1 number
      out_calls = calls_quietly g run old (record inside { book = book }) mid n n n1 number up out_quietly quiet

      abbrev done : Session
      done = record out { restored = counts.0 }

      done_there : IsSessionOf mid number done
      done_there = counted_there (record inside { book = book }) mid number out out_there counts

      mid_number : mid.number ≡ old.number
      mid_number = out_calls.number

      -- a page couldn't be had, or the disk failed
      pub out_halted : (halt : BackHalt) → LeavesRows g (record inside { book = book }) mid n n1 halt → (b : Begun) → HasOpenStill old number b → BacksOutAs g old mid n n1 number b (Err halt)
      out_halted halt left b has =
          by_halt halt (leaves_from g run old (record inside { book = book }) mid n n1 number out_quietly halt left) (same_trx g run old n number stands up asked.0 b asked.1 has ∙ sym trx_is)
        where
          by_halt : (halt : BackHalt) → LeavesRows g old mid n n1 halt → b ≡ trx → BacksOutAs g old mid n n1 number b (Err halt)
          by_halt (backs.Word wait) left same = (left.0, (done, done_there, ap (λ (v : Begun). Outside (Some v)) (sym same), own.3), left.1)
          by_halt backs.Failed left same = (left.0, left.2)

      -- it is freed
      module _ (then_in : PrimaryView D) (view_then : then_in ≡ mid) (mid_up : mid.down ≡ 0) (all : IsAllBack mid number) where
        pub out_may : MayTake (Trx (StoreEnd then_in.number trx.id None)) n1
        out_may = may_end_inside g run then_in mid view_then n1 number mid_up done trx refl quiet.stands done_there all

        pub done_inside : slice_get then_in.book.sessions.items number ≡ Some done
        done_inside = subst (λ (v : PrimaryView D). slice_get v.book.sessions.items number ≡ Some done) (sym view_then) done_there

        module _ (after : NodeView) (becomes : after ≡ with_trx n1 then_in.number (with_end trx.id None) 1) (reached : Reached after) (last : Book)
            (ends : (x : Session) → slice_get then_in.book.sessions.items number ≡ Some x → SetsSession then_in.book last number (record x { stage = Outside None })) (keeps : IsBook then_in.work.lines then_in.work.sessions then_in.number then_in.book → IsBook then_in.work.lines then_in.work.sessions then_in.number last) where
          stands_then : StandsWith g run then_in n1
          stands_then = subst (λ (v : PrimaryView D). StandsWith g run v n1) (sym view_then) quiet.stands

          up_then : then_in.down ≡ 0
          up_then = ap (λ (v : PrimaryView D). v.down) view_then ∙ mid_up

          freed : Freeing g run then_in n1 after number done trx
          freed = freeing g run then_in n1 number done trx stands_then up_then done_inside refl (all done done_there) after becomes reached

          sets_last : SetsSession then_in.book last number (record done { stage = Outside None })
          sets_last = ends done done_inside

          answers_last : last.answers.items ≡ then_in.book.answers.items
          answers_last = ap (λ (l : Listed Answer). l.items) sets_last.answers

          pub freed_calls : TriesOutside g run old (record then_in { book = last }) n after number
          freed_calls =
              calls_then g run old then_in (record then_in { book = last }) n n1 after number (subst (λ (v : PrimaryView D). TriesOutside g run old v n n1 number) (sym view_then) out_calls)
              (freed_stands g run then_in n1 after number done trx stands_then up_then freed (record done { stage = Outside None }) refl (inr (refl, refl)) last answers_last sets_last.sessions (keeps stands_then.primary.book))
              refl refl answers_last freed.goes
              (freed_agrees g run then_in n1 after number done trx stands_then up_then freed (record done { stage = Outside None }) refl (inr (refl, refl)) last answers_last sets_last.sessions (keeps stands_then.primary.book)) refl refl
              (λ other ne. ap (λ (l : List Session). slice_get l other) sets_last.sessions ∙ set_else then_in.book.sessions.items number other (record done { stage = Outside None }) (λ same. ne (sym same)))

          pub freed_ended : (b : Begun) → HasOpenStill old number b → BacksOutAs g old (record then_in { book = last }) n after number b (Ok tt)
          freed_ended b has =
              let same : b ≡ trx = same_trx g run old n number stands up asked.0 b asked.1 has ∙ sym trx_is in
              let number_is : then_in.number ≡ old.number = ap (λ (v : PrimaryView D). v.number) view_then ∙ mid_number in (
                up_then,
                (record done { stage = Outside None }, ap (λ (l : List Session). slice_get l number) sets_last.sessions ∙ set_here then_in.book.sessions.items number (record done { stage = Outside None }) (slice_get_within then_in.book.sessions.items number done done_inside), refl),
                λ q there. subst (λ (v : Begun). Shows q.trx.rows v.id Free) (sym same)
                    (subst (λ (x : CorePart). Shows x.trx.rows trx.id Free) (one_of (part_in after.parts then_in.number) q freed.r (ap (part_in after.parts) number_is ∙ there) freed.there) freed.shows),
              )
