-- A session of a primary is at another stage, with the same transaction: the primary agrees with its part still.
use Rattle.std.proofs.Common.{◌≡◌, ℕ, List, [], length, drop, slice_get, slice_set, Option, None, Some, IfSome, refl, sym, ap, subst, ◌∙◌, inl, inr, arith}
use Rattle.std.proofs.lemmas.List.{append-nil}
use Rattle.std.proofs.lemmas.Option.{slice_get_within}
use Rattle.mp_machine.specs.View.{part_in}
use Rattle.mp_model.specs.Listed.{Listed}
use Rattle.mp_model.specs.declared.ids.TrxName.{TrxName}
use Rattle.mp_model.specs.declared.replies.Answer.{Answer}
use Rattle.mp_script.specs.declared.statements.Line.{Line}
use Rattle.mp_script.specs.Transactions.{trx_in_lines}
use Rattle.mp_cells.specs.declared.rows.Row.{Row}
use Rattle.mp_cells.specs.Trees.{row_at}
use Rattle.mp_core_trx.specs.declared.part.Begun.{Begun}
use Rattle.mp_core.specs.declared.part.CorePart.{CorePart}
use Rattle.mp_book.specs.declared.book.Book.{Book}
use Rattle.mp_book.specs.declared.session.Session.{Session}
use Rattle.mp_book.specs.Stages.{next_line, trx_of_stage}
use Rattle.mp_book.specs.Books.{IsBook, SetsSession}
use Rattle.mp_outside.specs.declared.disks.Disk.{Ghosts}
use Rattle.mp_shared.specs.Nodes.{Run, NodeView}
use Rattle.mp_buffer_fusion.proofs.Kept.{set_here, set_else}
use Rattle.mp_supports.specs.Supports.{no_trace, SupportsWaits}
use Rattle.mp_supports.specs.Kept.{Entry, Did}
use Rattle.mp_supports.specs.Agreement.{IsOpenAs, RefusalSupported, Opens, HasNoNewWait, Bounds, rows_left, rows_left_by}
use Rattle.mp_supports.proofs.BoundSteps.{bounds_answered}
use Rattle.mp_supports.proofs.Classes.{did_looked}
use Rattle.mp_supports.proofs.Extending.{core_extends_refl}
use Rattle.mp_supports.proofs.Keeping.{if_some_map}
use Rattle.mp_supports.proofs.Places.{at_place}
use Rattle.mp_desk.proofs.Moving.{looked_none, moves_none}
use Rattle.mp_primary.specs.Primaries.{PrimaryView, AreSessions, AreWaitsSupported, PrimaryAgreesIn, PrimaryAgrees, StandsWith}
use Rattle.mp_primary.specs.Turns.{IsSessionOf}
use Rattle.mp_primary.specs.GoingOn.{GoesOnQuietly}
use Rattle.mp_primary.proofs.OpenSessions.{one_of, waits_ended, sessions_set, waits_set, opens_set}

module _ {D : Type 0} (g : Ghosts D) (run : Run) (pr : PrimaryView D) (n : NodeView) (number : ℕ) (s : Session) (stands : StandsWith g run pr n) (found : IsSessionOf pr number s)
    (book : Book) (t : Session) (sets : SetsSession pr.book book number t) (rest : t ≡ record s { stage = t.stage; waits = t.waits }) (trx_same : trx_of_stage t.stage ≡ trx_of_stage s.stage) (waits : HasNoNewWait s t)
    (refused : (q : CorePart) → part_in n.parts pr.number ≡ Some q → RefusalSupported pr.work q 0 t.stage (next_line t)) (is_book : IsBook pr.work.lines pr.work.sessions pr.number book) where
  abbrev mid : PrimaryView D
  mid = record pr { book = book }

  next_same : next_line t ≡ next_line s
  next_same = ap (λ (x : Session). next_line x) rest

  left_same : drop t.restored t.formers.items ≡ drop s.restored s.formers.items
  left_same = ap (λ (x : Session). drop x.restored x.formers.items) rest

  rows_same : rows_left t ≡ rows_left s
  rows_same = go (trx_of_stage s.stage) refl
    where
      go : (o : Option Begun) → trx_of_stage s.stage ≡ o → rows_left t ≡ rows_left s
      go None none = ap (λ (o : Option Begun). rows_left_by o t) (trx_same ∙ none) ∙ sym (ap (λ (o : Option Begun). rows_left_by o s) none)
      go (Some trx) some = ap (λ (o : Option Begun). rows_left_by o t) (trx_same ∙ some) ∙ ap (λ (l : List Row). length l) left_same ∙ sym (ap (λ (o : Option Begun). rows_left_by o s) some)

  module _ (q : CorePart) where
    open_same : (trx : Begun) → IsOpenAs pr.work q 0 s trx → IsOpenAs pr.work q 0 t trx
    open_same trx h = record {
      begun = h.begun;
      named = h.named ∙ sym (ap (λ (x : Session). Some (trx_in_lines pr.work.lines x.number x.next)) rest);
      active = h.active;
      formers = λ key. h.formers key ∙ sym (ap (λ (l : List Row). row_at key l) left_same);
      whole = λ none. h.whole (sym (ap (λ (x : Session). x.restored) rest) ∙ none);
    }

    its_waits : HasNoNewWait s t → IfSome (next_line s) (λ line. SupportsWaits pr.work q line s.waits.items) → IfSome (next_line t) (λ line. SupportsWaits pr.work q line t.waits.items)
    its_waits (inl none) h = waits_ended pr.work q t none
    its_waits (inr same) h =
        subst (λ (o : Option Line). IfSome o (λ line. SupportsWaits pr.work q line t.waits.items)) (sym same.0)
        (subst (λ (l : List TrxName). IfSome (next_line s) (λ line. SupportsWaits pr.work q line l)) (sym same.1) h)

    agrees : part_in n.parts pr.number ≡ Some q → (entries : List Entry) → PrimaryAgrees g pr entries q → PrimaryAgrees g mid entries q
    agrees has entries was =
        let there = at_place pr.book.sessions.items number s found in
        let supported = its_waits waits (was.waits s there) in
        record {
          kept = was.kept;
          answers = was.answers ∙ sym (ap (λ (l : Listed Answer). l.items) sets.answers);
          opens = λ up.
              let opens = was.opens up in
              subst (Opens pr.work q 0) (sym sets.sessions)
              (opens_set pr.work q pr.book.sessions.items number s t found trx_same
              (subst (λ (o : Option Begun). IfSome o (IsOpenAs pr.work q 0 t)) (sym trx_same) (if_some_map (IsOpenAs pr.work q 0 s) (IsOpenAs pr.work q 0 t) (trx_of_stage s.stage) open_same (opens.each s there)))
              supported (refused q has) opens);
          sessions = subst (AreSessions q) (sym sets.sessions) (sessions_set pr.work q pr.book.sessions.items number s t found trx_same was.sessions);
          waits = subst (AreWaitsSupported pr.work q) (sym sets.sessions) (waits_set pr.work q pr.book.sessions.items number s t found supported was.waits);
          mirrors = was.mirrors;
          media = was.media;
          bounds = subst (λ (l : List Session). Bounds pr.work q book.answers.items l) (sym sets.sessions)
              (subst (λ (l : List Answer). Bounds pr.work q l (slice_set pr.book.sessions.items number t)) (append-nil pr.book.answers.items ∙ sym (ap (λ (l : Listed Answer). l.items) sets.answers))
              (bounds_answered pr.work q q (core_extends_refl q) pr.book.answers.items pr.book.sessions.items number s t found was.bounds [] refl (omega arith) (let same = rows_same in omega (arith, same))));
          exact = was.exact;
          begun = was.begun;
        }

  pub restaged_agrees : (entries : List Entry) → PrimaryAgreesIn g pr entries n → PrimaryAgreesIn g mid entries n
  restaged_agrees entries agreed q has = agrees q has entries (agreed q has)

  pub restaged_stands : StandsWith g run mid n
  restaged_stands = record {
    primary = record { book = is_book; names = stands.primary.names; places = stands.primary.places; own = stands.primary.own; up = stands.primary.up };
    desk = stands.desk;
    agrees = (stands.agrees.0, restaged_agrees stands.agrees.0 stands.agrees.1);
  }

  pub restaged_quietly : t.waits.items ≡ s.waits.items → GoesOnQuietly g run pr mid n n number
  restaged_quietly same_waits = record {
    stands = restaged_stands;
    number = refl;
    work = refl;
    did = moves_none pr.number (λ q r. Did q r no_trace) (λ q. did_looked q q (looked_none q)) n;
    goes_on = restaged_agrees;
    answers = sets.answers;
    others = λ other ne. ap (λ (l : List Session). slice_get l other) sets.sessions ∙ set_else pr.book.sessions.items number other t ne;
    same = λ x there.
        let same : x ≡ s = one_of (slice_get pr.book.sessions.items number) s x found there in (
          t,
          ap (λ (l : List Session). slice_get l number) sets.sessions ∙ set_here pr.book.sessions.items number t (slice_get_within pr.book.sessions.items number s found),
          next_same ∙ ap (λ (v : Session). next_line v) (sym same),
          same_waits ∙ ap (λ (v : Session). v.waits.items) (sym same),
        );
    down = inl refl;
    faults = omega arith;
    tells = refl;
  }
