-- What a statement waits for, it waits for after further steps; and the session that has noted its writer.
use Rattle.std.proofs.Common.{◌≡◌, ℕ, Bool, true, false, List, [], ◌∷◌, ◌++◌, length, slice_get, slice_set, Option, None, Some, IfSome, MatchOption, if◌then◌else◌, refl, sym, ap, subst, ◌∙◌, inl, inr, arith}
use Rattle.std.specs.List.{AllByRecursion}
use Rattle.std.proofs.lemmas.List.{append-nil}
use Rattle.std.proofs.lemmas.Option.{slice_get_within}
use Rattle.mp_machine.specs.View.{part_in}
use Rattle.mp_model.specs.declared.ids.TrxId.{TrxId}
use Rattle.mp_model.specs.declared.ids.TrxName.{TrxName}
use Rattle.mp_model.specs.declared.replies.Answer.{Answer}
use Rattle.mp_model.specs.declared.waiting.Cause.{Cause}
use Rattle.mp_model.specs.declared.waiting.Cause.TheVariants.{Word, Writer, Prep}
use Rattle.mp_script.specs.declared.statements.Line.{Line}
use Rattle.mp_script.specs.Right.{IsWithoutRepeat}
use Rattle.mp_script.specs.Transactions.{Target, target_of}
use Rattle.mp_script.proofs.Lists.{all_append}
use Rattle.mp_cells.specs.declared.records.Mtr.{Mtr}
use Rattle.mp_core_pages.specs.declared.part.Placed.{Placed}
use Rattle.mp_core_trx.specs.declared.part.Begun.{Begun}
use Rattle.mp_core_trx.specs.declared.slot.Shown.{Shown}
use Rattle.mp_core_trx.specs.Parts.{begun_of}
use Rattle.mp_core.specs.declared.part.CorePart.{CorePart}
use Rattle.mp_core.specs.CoreExtends.{CoreExtends}
use Rattle.mp_book.specs.declared.book.Book.{Book}
use Rattle.mp_book.specs.declared.session.Session.{Session}
use Rattle.mp_book.specs.declared.stage.Stage.{Stage}
use Rattle.mp_book.specs.Stages.{next_line, trx_of_stage, is_named, with_name}
use Rattle.mp_book.specs.Answered.{execution_above, HasWrittenHere, WaitsStand}
use Rattle.mp_book.specs.Books.{IsBook, NotesWait}
use Rattle.mp_outside.specs.declared.disks.Disk.{Ghosts}
use Rattle.mp_shared.specs.Nodes.{Run, NodeView, HoldsPart}
use Rattle.mp_shared.proofs.Holding.{held_part}
use Rattle.mp_buffer_fusion.proofs.Kept.{set_here, set_else}
use Rattle.mp_supports.specs.Work.{Work}
use Rattle.mp_supports.specs.Supports.{IsBlocked, IsTrxOf, IsWaitFor, SupportsWaits}
use Rattle.mp_supports.specs.Kept.{Entry}
use Rattle.mp_supports.specs.Agreement.{IsOpenAs, RefusalSupported, Opens, Bounds, rows_left, rows_left_by}
use Rattle.mp_supports.proofs.BoundSteps.{bounds_answered}
use Rattle.mp_supports.proofs.Extending.{begun_in}
use Rattle.mp_supports.proofs.Keeping.{if_some_map}
use Rattle.mp_supports.proofs.Places.{at_place}
use Rattle.mp_supports.proofs.SeesMore.{newest_more, load_more}
use Rattle.mp_supports.proofs.SupportsMore.{waits_more}
use Rattle.mp_desk.specs.Desks.{Moves}
use Rattle.mp_desk.specs.Statements.{StaysQuiet, IsPreparing}
use Rattle.mp_desk.proofs.Moving.{goes_both}
use Rattle.mp_desk.proofs.SeenMore.{past_more}
use Rattle.mp_primary.specs.Primaries.{PrimaryView, PrimaryAgrees}
use Rattle.mp_primary.specs.Turns.{ComesTo, WaitsFor}
use Rattle.mp_primary.proofs.StillInTurns.{stage_in, set_may}
use Rattle.mp_primary.proofs.OpenSessions.{one_of, opens_set}
use Rattle.mp_primary.proofs.QuietSides.{drew_more, still, quiet_opens}
use Rattle.mp_primary.proofs.TurnEnds.{moved, HasSides, IsRightWait}

-- ---- later

module _ (q r : CorePart) (e : CoreExtends q r) where
  pub trx_of_more : (work : Work) (line : Line) (id : TrxId) (view : ℕ) → IsTrxOf work q line id view → IsTrxOf work r line id view
  trx_of_more work line id view h = record { begun = begun_in q r e (begun_of id view) h.begun; named = h.named }

  pub preparing_more : (reader : TrxId) (view key : ℕ) (id : TrxId) → IsPreparing q reader view key id → IsPreparing r reader view key id
  preparing_more reader view key id h = record {
    leaf = h.leaf;
    newest_row = h.newest_row;
    shows_newest = newest_more q r e h.leaf key h.newest_row h.shows_newest;
    older = h.older;
    row = h.row;
    leads = past_more q r e reader view h.newest_row h.older h.row h.leads;
    in_prep = record {
      writer = h.in_prep.writer;
      other = h.in_prep.other;
      load = h.in_prep.load;
      is_load = load_more q r e id h.in_prep.load h.in_prep.is_load;
      shown = h.in_prep.shown;
    };
  }

-- a row goes on to block a key
pub blocked_on : (q r : CorePart) → CoreExtends q r → (id : TrxId) (key : ℕ) (holder : TrxId) (x : Shown) → IsBlocked q id key holder x
    → IsBlocked r id key holder x
blocked_on q r e id key holder x h = record {
  leaf = h.leaf;
  newest = h.newest;
  its_newest = newest_more q r e h.leaf key h.newest h.its_newest;
  writer = h.writer;
  other = h.other;
  load = h.load;
  is_load = load_more q r e holder h.load h.is_load;
  shown = h.shown;
}

-- a statement waits for one transaction, with the statement's own
abbrev pub WaitsForOne : Work → CorePart → Line → Target → TrxName → Type 0
WaitsForOne work q line target name = (id : TrxId) × (view : ℕ) × IsTrxOf work q line id view × IsWaitFor work q line id target.key name

abbrev pub AllWaited : Work → CorePart → Line → List TrxName → Option Target → Type 0
AllWaited work q line waits o = MatchOption o (waits ≡ [])
    (λ target. IsWithoutRepeat waits × AllByRecursion
    (λ name. (id : TrxId) × (view : ℕ) × IsTrxOf work q line id view × IsWaitFor work q line id target.key name) waits)

pub one_wait : (work : Work) (q : CorePart) (line : Line) (target : Target) (name : TrxName) → target_of line.stmt ≡ Some target
    → WaitsForOne work q line target name → SupportsWaits work q line (name ∷ [])
one_wait work q line target name is h = subst (AllWaited work q line (name ∷ [])) (sym is) ((tt, tt), (h, tt))

pub its_wait : (work : Work) (q : CorePart) (line : Line) (target : Target) (name : TrxName) → target_of line.stmt ≡ Some target
    → SupportsWaits work q line (name ∷ []) → WaitsForOne work q line target name
its_wait work q line target name is h = (subst (AllWaited work q line (name ∷ [])) is h).1.0

module _ {D : Type 0} (old : PrimaryView D) (number : ℕ) (before mid n : NodeView) (held : HoldsPart mid old.number)
    (goes : Moves CoreExtends old.number mid n) where
  pub cause_on : (cause : Cause) → WaitsFor old number before mid cause → WaitsFor old number before n cause
  cause_on (Word wait) (inl met) = inl
      (record { from = met.from; to = met.to; came = met.came; met = met.met; went = goes_both old.number met.to mid n met.went goes })
  cause_on (Word wait) (inr (inl none)) = inr (inl none)
  cause_on (Word wait) (inr (inr h)) = inr (inr (record {
    session = h.session;
    line = h.line;
    next = h.next;
    target = h.target;
    its_target = h.its_target;
    holder = h.holder;
    name = h.name;
    named = h.named;
    blocked = λ r there.
        let q = held_part mid old.number held in
        let e = moved CoreExtends old.number mid n goes q.0 r q.1 there in
        let b = h.blocked q.0 q.1 in
        (b.0, b.1, b.2, trx_of_more q.0 r e old.work h.line b.0 b.1 b.3, blocked_on q.0 r e b.0 h.target.key h.holder b.2 b.4);
    stranger = h.stranger;
    waits_for = h.waits_for;
  }))
  cause_on (Writer name) h = λ r there.
      let q = held_part mid old.number held in
      let e = moved CoreExtends old.number mid n goes q.0 r q.1 there in
      let w = h q.0 q.1 in
      let later = its_wait old.work r w.1 w.2 name w.4
      (waits_more q.0 r e old.work w.1 (name ∷ []) (one_wait old.work q.0 w.1 w.2 name w.4 w.5)) in
      (w.0, w.1, w.2, w.3, w.4, later)
  cause_on (Prep name) h = λ r there.
      let q = held_part mid old.number held in
      let e = moved CoreExtends old.number mid n goes q.0 r q.1 there in
      let w = h q.0 q.1 in
      let t = w.3 in
      (w.0, w.1, w.2, (t.0, t.1, t.2, t.3, trx_of_more q.0 r e old.work w.1 t.0 t.1 t.4, preparing_more q.0 r e t.0 t.1 t.2 t.3 t.5, t.6))

-- ---- noted

-- one name more
with_one : (P : TrxName → Type 0) (waits : List TrxName) (name : TrxName) → P name → AllByRecursion P waits
    → AllByRecursion P (with_name name waits)
with_one P waits name here all = go (is_named name waits)
  where
    go : (b : Bool) → AllByRecursion P (if b then waits else waits ++ name ∷ [])
    go true = all
    go false = all_append P waits (name ∷ []) all (here, tt)

-- each name stands once, by the book; and each is waited for
waits_with : (work : Work) (r : CorePart) (line : Line) (waits : List TrxName) (name : TrxName) (o : Option Target) (target : Target)
    → o ≡ Some target → WaitsForOne work r line target name → AllWaited work r line waits o
    → ((t : Target) → o ≡ Some t → IsWithoutRepeat (with_name name waits)) → AllWaited work r line (with_name name waits) o
waits_with work r line waits name None target is here h once = absurd (none_some is)
  where
    none_some : ◌≡◌ {A = Option Target} None (Some target) → ⊥
    none_some e = cc
waits_with work r line waits name (Some t) target is here h once =
    let same : target ≡ t = some_same t target is in (
      once t refl,
      with_one (λ x. (id : TrxId) × (view : ℕ) × IsTrxOf work r line id view × IsWaitFor work r line id t.key x) waits name
          (subst (λ (y : Target). WaitsForOne work r line y name) same here) h.1,
    )
  where
    some_same : (x y : Target) → Some x ≡ Some y → y ≡ x
    some_same x y e = cc

line_once : (x y : Line) (o : Option Line) → o ≡ Some x → o ≡ Some y → x ≡ y
line_once x y o a b = let both : Some x ≡ Some y = sym a ∙ b in cc

module _ {D : Type 0} (g : Ghosts D) (run : Run) (old : PrimaryView D) (before n : NodeView) (number : ℕ) (s : Session) (line : Line)
    (comes : ComesTo g run old before number s line) (up : old.down ≡ 0) (quiet : Moves StaysQuiet old.number before n)
    (book : Book) (name : TrxName) (notes : NotesWait old.book book number s name)
    (books : IsBook old.work.lines old.work.sessions old.number book) (waits : WaitsFor old number before n (Writer name)) where
  found : slice_get old.book.sessions.items number ≡ Some s
  found = comes.next.found

  here : slice_get book.sessions.items number ≡ Some notes.after
  here = ap (λ (l : List Session). slice_get l number) notes.sets.sessions
      ∙ set_here old.book.sessions.items number notes.after (slice_get_within old.book.sessions.items number s found)

  stage_same : notes.after.stage ≡ s.stage
  stage_same = ap (λ (x : Session). x.stage) notes.rest

  next_same : next_line notes.after ≡ next_line s
  next_same = ap (λ (x : Session). next_line x) notes.rest

  trx_same : trx_of_stage notes.after.stage ≡ trx_of_stage s.stage
  trx_same = ap trx_of_stage stage_same

  rows_same : rows_left notes.after ≡ rows_left s
  rows_same = ap (λ (x : Session). rows_left x) notes.rest ∙ go (trx_of_stage s.stage)
    where
      go : (o : Option Begun) → rows_left_by o (record s { waits = notes.after.waits }) ≡ rows_left_by o s
      go None = refl
      go (Some trx) = refl

  -- by the book each name stands once
  once : (t : Target) → target_of line.stmt ≡ Some t → IsWithoutRepeat (with_name name s.waits.items)
  once t is =
      let stands = (books.each number notes.after here).waits in
      let of_line : WaitsStand (execution_above old.work.lines old.work.sessions book.answers.items) old.number line.stmt
      notes.after.waits.items =
      subst (λ (o : Option Line). IfSome o
      (λ l. WaitsStand (execution_above old.work.lines old.work.sessions book.answers.items) old.number l.stmt
      notes.after.waits.items)) (next_same ∙ comes.next.next) stands in
      let both = subst (λ (o : Option Target). MatchOption o (notes.after.waits.items ≡ [])
      (λ target. IsWithoutRepeat notes.after.waits.items
      × AllByRecursion (HasWrittenHere (execution_above old.work.lines old.work.sessions book.answers.items) old.number target.key)
      notes.after.waits.items)) is of_line in
      subst IsWithoutRepeat notes.waits both.0

  module _ (entries : List Entry) (q r : CorePart) (has : part_in before.parts old.number ≡ Some q)
      (there : part_in n.parts old.number ≡ Some r) (was : PrimaryAgrees g old entries q) where
    open_noted : (trx : Begun) → IsOpenAs old.work r 0 s trx → IsOpenAs old.work r 0 (record s { waits = notes.after.waits }) trx
    open_noted trx h = record { begun = h.begun; named = h.named; active = h.active; formers = h.formers; whole = h.whole }

    opens_before : Opens old.work r 0 old.book.sessions.items
    opens_before = quiet_opens g run old before n number s line comes up quiet entries q r has there was

    waits_before : SupportsWaits old.work r line s.waits.items
    waits_before = subst (λ (o : Option Line). IfSome o (λ l. SupportsWaits old.work r l s.waits.items)) comes.next.next
        (opens_before.waits s (at_place old.book.sessions.items number s found))

    waits_noted : SupportsWaits old.work r line notes.after.waits.items
    waits_noted =
        let w = waits r there in
        let same : s ≡ w.0 = one_of (slice_get old.book.sessions.items number) (w.0) s w.3.found found in
        let its : w.1 ≡ line = line_once (w.1) line (next_line (w.0)) w.3.next
        (ap (λ (x : Session). next_line x) (sym same) ∙ comes.next.next) in
        let of_line : (target_of line.stmt ≡ Some w.2) × WaitsForOne old.work r line w.2 name =
        subst (λ (l : Line). (target_of l.stmt ≡ Some w.2) × WaitsForOne old.work r l w.2 name) its (w.4, w.5) in
        subst (λ (l : List TrxName). SupportsWaits old.work r line l) (sym notes.waits)
        (waits_with old.work r line s.waits.items name (target_of line.stmt) (w.2) of_line.0 of_line.1 waits_before once)

    pub noted_sides : HasSides old.work r book
    noted_sides = record {
      opens = subst (Opens old.work r 0) (sym notes.sets.sessions)
          (opens_set old.work r old.book.sessions.items number s notes.after found trx_same
          (subst (λ (x : Session). IfSome (trx_of_stage x.stage) (IsOpenAs old.work r 0 x)) (sym notes.rest)
          (if_some_map (IsOpenAs old.work r 0 s) (IsOpenAs old.work r 0 (record s { waits = notes.after.waits }))
          (trx_of_stage s.stage) open_noted (opens_before.each s (at_place old.book.sessions.items number s found))))
          (subst (λ (o : Option Line). IfSome o (λ l. SupportsWaits old.work r l notes.after.waits.items))
          (sym (next_same ∙ comes.next.next)) waits_noted)
          (subst (λ (o : Option Line). RefusalSupported old.work r 0 notes.after.stage o) (sym next_same)
          (subst (λ (t : Stage). RefusalSupported old.work r 0 t (next_line s)) (sym stage_same)
          (opens_before.refused s (at_place old.book.sessions.items number s found))))
          opens_before);
      bounds =
          let st = still g run old before n number s line comes up quiet entries q r has there was in
          subst (λ (l : List Session). Bounds old.work r book.answers.items l) (sym notes.sets.sessions)
          (subst (λ (l : List Answer). Bounds old.work r l (slice_set old.book.sessions.items number notes.after))
          (append-nil old.book.answers.items ∙ sym (ap (λ a. a.items) notes.sets.answers))
          (bounds_answered old.work q r st.extends old.book.answers.items old.book.sessions.items number s notes.after found was.bounds []
          (ap (λ (l : List (Placed Mtr)). length l) st.made) (drew_more q r st.extends)
          (let same = rows_same in omega (arith, same))));
    }

  -- a wait for a writer, which the book has noted
  pub noted_wait : (mid : PrimaryView D) → IsRightWait g old before n number (Writer name) (record mid { book = book })
  noted_wait mid = record {
    answers = notes.sets.answers;
    sides = noted_sides;
    others = λ other ne. ap (λ (l : List Session). slice_get l other) notes.sets.sessions
        ∙ set_else old.book.sessions.items number other notes.after (λ same. ne (ap (λ (k : ℕ). Some k) (sym same)));
    named = λ x y a b.
        ap (λ (v : Session). v.waits.items) (one_of (slice_get book.sessions.items number) notes.after y here b) ∙ notes.waits
        ∙ ap (λ (v : Session). with_name name v.waits.items) (one_of (slice_get old.book.sessions.items number) x s a found);
    may_go_on = set_may (record mid { book = book }) number old.book.sessions.items s notes.after found notes.sets.sessions
        (stage_in notes.after.stage s.stage (ap (λ (v : Session). v.stage) notes.rest) comes.inside);
    waits = waits;
  }
