-- A transaction of which all is put back is freed: its session goes on without it.
use Rattle.std.proofs.Common.{◌≡◌, ℕ, List, [], ◌∷◌, ◌++◌, length, drop, slice_set, Option, None, Some, IfSome, refl, sym, ap, subst, ◌∙◌, inl, ⊎_elim, arith}
use Rattle.std.proofs.lemmas.List.{append-nil}
use Rattle.mp_machine.specs.Lists.{IsIn}
use Rattle.mp_machine.specs.Machine.{run, AllAllowed}
use Rattle.mp_machine.specs.View.{part_in}
use Rattle.mp_machine.proofs.Time.{forward}
use Rattle.mp_model.specs.declared.replies.Answer.{Answer}
use Rattle.mp_cells.specs.declared.rows.Row.{Row}
use Rattle.mp_cells.specs.Trees.{row_at}
use Rattle.mp_core_trx.specs.declared.event.TrxEvent.TheVariants.{StoreEnd}
use Rattle.mp_core_trx.specs.declared.opening.TrxOpening.{TrxOpening}
use Rattle.mp_core_trx.specs.declared.part.Begun.{Begun}
use Rattle.mp_core_trx.specs.declared.slot.SlotTag.TheVariants.{Free, Active}
use Rattle.mp_core_trx.specs.Events.{IsNode, ended, with_end}
use Rattle.mp_core_trx.specs.Parts.{PartExtends, HasBegun, Shows}
use Rattle.mp_core_trx.specs.World.{begun_in, slot_rows_in}
use Rattle.mp_core.specs.declared.opening.CoreOpening.{CoreOpening}
use Rattle.mp_core.specs.declared.part.CorePart.{CorePart}
use Rattle.mp_core.specs.declared.event.CoreEvent.{CoreEvent}
use Rattle.mp_core.specs.declared.event.CoreEvent.TheVariants.{Trx}
use Rattle.mp_core.specs.CoreExtends.{CoreExtends}
use Rattle.mp_core.specs.Invariant.{NumbersFit}
use Rattle.mp_core.specs.OwnMtrs.{owner_of, first_former}
use Rattle.mp_core.specs.World.{CoreWorld, core_part, core}
use Rattle.mp_facts.specs.Facts.{opening_pages}
use Rattle.mp_facts.proofs.Joint.{Joint, OwnKey}
use Rattle.mp_facts.proofs.Kept.{joint_in_time}
use Rattle.mp_book.specs.declared.book.Book.{Book}
use Rattle.mp_book.specs.declared.session.Session.{Session}
use Rattle.mp_book.specs.Stages.{trx_of_stage}
use Rattle.mp_book.specs.Books.{IsBook}
use Rattle.mp_outside.specs.declared.disks.Disk.{Ghosts}
use Rattle.mp_shared.specs.Nodes.{Run, NodeView, MayTake, Reached}
use Rattle.mp_shared.proofs.Holding.{held_part}
use Rattle.mp_trx_fusion.specs.Calls.{with_trx}
use Rattle.mp_trx_fusion.proofs.Callers.{drew_nothing}
use Rattle.mp_buffer_fusion.proofs.Visiting.{one_part}
use Rattle.mp_supports.specs.Supports.{no_trace}
use Rattle.mp_supports.specs.Kept.{Entry, Did}
use Rattle.mp_supports.specs.Steps.{TrxStep}
use Rattle.mp_supports.specs.Agreement.{IsOpenAs, Opens, StandAtNumbers, HasNoNewWait, Mirrors, Bounds, rows_left, rows_left_by}
use Rattle.mp_supports.proofs.BoundSteps.{bounds_answered}
use Rattle.mp_supports.proofs.Classes.{did_trx}
use Rattle.mp_supports.proofs.Keeping.{kept_quiet}
use Rattle.mp_supports.proofs.OpenSteps.{opens_ended}
use Rattle.mp_supports.proofs.Places.{at_place}
use Rattle.mp_supports.proofs.Unchanged.{mirrors_kept}
use Rattle.mp_desk.specs.Desks.{Moves, IsAtDesk}
use Rattle.mp_desk.specs.Making.{HoldsPartOf, MediaAgree}
use Rattle.mp_desk.proofs.Committing.{shown_now, shown_else}
use Rattle.mp_desk.proofs.ReachedFacts.{KnownWorld, known_world}
use Rattle.mp_desk.proofs.TrxStepped.{trx_changed, trx_step, extends_end, trx_there, moves_trx, trx_at_desk, trx_media}
use Rattle.mp_primary.specs.Primaries.{PrimaryView, PrimaryAgreesIn, PrimaryAgrees, StandsWith}
use Rattle.mp_primary.specs.Turns.{IsSessionOf}

some_row : (row : Row) → None ≡ Some row → ⊥
some_row row e = cc

drop_all : {T : Type 0} (xs : List T) → drop (length xs) xs ≡ []
drop_all [] = refl
drop_all (x ∷ xs) = drop_all xs

run_joint : (o : CoreOpening) (fair : NumbersFit o) (events : List CoreEvent) → AllAllowed (core o) events → Joint o (run (core o) events)
run_joint o fair = forward (core o) (Joint o) (joint_in_time o fair)

-- where no row is kept of an ACTIVE transaction, it may be freed
module _ (n : NodeView) (reached : Reached n) (p : ℕ) (q : CorePart) (has : part_in n.parts p ≡ Some q) (node : IsNode q.trx.opening p) (trx : Begun) (begun : IsIn trx q.trx.begun) (active : Shows q.trx.rows trx.id Active)
    (none : (key : ℕ) → first_former q.pages.made trx.id key ≡ None) where
  abbrev o : CoreOpening
  o = n.run.opening

  abbrev w : CoreWorld
  w = run (core n.run.opening) reached.backed.0

  same : core_part w p ≡ q
  same = reached.backed.2 p q has

  known : KnownWorld n
  known = known_world n reached

  its_node : trx.id.node ≡ p
  its_node = let there = subst (λ (r : CorePart). IsIn trx r.trx.begun) (sym (known.agrees p q has)) begun in known.facts.inv.trx.ids.own p trx there

  begun_there : HasBegun (w.trx.part p).begun trx.id
  begun_there = subst (λ (r : CorePart). HasBegun r.trx.begun trx.id) (sym same) (trx.view, begun)

  active_there : Shows (w.trx.part p).rows trx.id Active
  active_there = subst (λ (r : CorePart). Shows r.trx.rows trx.id Active) (sym same) active

  own_key : (key : ℕ) → OwnKey (opening_pages o) w.pages.history (w.pages.made p) trx.id key
  own_key key =
      let joint = run_joint o reached.fair reached.backed.0 reached.backed.1 in
      subst (λ k. OwnKey (opening_pages o) w.pages.history (w.pages.made k) trx.id key) its_node
      (joint.own trx.id key (subst (λ k. HasBegun (begun_in w.trx k) trx.id) (sym its_node) begun_there) (inl (subst (λ k. Shows (slot_rows_in w.trx k) trx.id Active) (sym its_node) active_there)))

  owns_none : (key : ℕ) → owner_of q.pages.made key ≡ Some trx.id → ⊥
  owns_none key owner =
      let former = subst (λ (r : CorePart). first_former r.pages.made trx.id key ≡ None) (sym same) (none key) in
      let owner_there = subst (λ (r : CorePart). owner_of r.pages.made key ≡ Some trx.id) (sym same) owner in
      ⊎_elim (λ own. some_row _ (sym former ∙ own.former)) (λ other. other.owner owner_there) (own_key key)

  pub may_end : MayTake (Trx (StoreEnd p trx.id None)) n
  may_end =
      let nothing = drew_nothing n p trx.id reached (q, has, ((node, ((trx.view, begun), active)), tt)) in
      (q, has, ((node, (((trx.view, begun), inl active), nothing)), owns_none))

-- ---- the session's transaction

-- What freeing a session's transaction leaves: its slot is free, and the session may go on without it
pub record Freeing {D : Type 0} (g : Ghosts D) (run_of : Run) (pr : PrimaryView D) (n after : NodeView) (number : ℕ) (s : Session) (trx : Begun) : Type 0 where
  pub q : CorePart
  pub has : part_in n.parts pr.number ≡ Some q
  pub r : CorePart
  pub there : part_in after.parts pr.number ≡ Some r
  pub did : Did q r no_trace
  pub goes : Moves CoreExtends pr.number n after
  pub desk : IsAtDesk run_of pr.desk pr.number after
  pub shows : Shows r.trx.rows trx.id Free
  pub media : MediaAgree g pr.work pr.down pr.media pr.number n → HoldsPartOf g pr.work pr.down pr.number pr.media r
  pub mirrors : Mirrors q pr.down pr.desk.llsn pr.desk.undo → Mirrors r pr.down pr.desk.llsn pr.desk.undo
  pub opens : (t : Session) → trx_of_stage t.stage ≡ None → HasNoNewWait s t → Opens pr.work r 0 (slice_set pr.book.sessions.items number t)
  pub bounds : (t : Session) → trx_of_stage t.stage ≡ None → (more : List Answer) → Bounds pr.work q pr.book.answers.items pr.book.sessions.items
      → Bounds pr.work r (pr.book.answers.items ++ more) (slice_set pr.book.sessions.items number t)

module _ {D : Type 0} (g : Ghosts D) (run_of : Run) (pr : PrimaryView D) (n : NodeView) (number : ℕ) (s : Session) (trx : Begun) (stands : StandsWith g run_of pr n) (up : pr.down ≡ 0)
    (found : IsSessionOf pr number s) (is : trx_of_stage s.stage ≡ Some trx) (all : s.restored ≡ length s.formers.items) where
  abbrev mine : CorePart
  mine = (held_part n pr.number stands.desk.part).0

  abbrev has_mine : part_in n.parts pr.number ≡ Some mine
  has_mine = (held_part n pr.number stands.desk.part).1

  was_open : Opens pr.work mine 0 pr.book.sessions.items
  was_open = (stands.agrees.1 mine has_mine).opens up

  opened : IsOpenAs pr.work mine 0 s trx
  opened = subst (λ (o : Option Begun). IfSome o (IsOpenAs pr.work mine 0 s)) is (was_open.each s (at_place pr.book.sessions.items number s found))

  active : Shows mine.trx.rows trx.id Active
  active = ⊎_elim (λ shown. shown) (λ down. absurd (down refl)) opened.active

  none : (key : ℕ) → first_former mine.pages.made trx.id key ≡ None
  none key = opened.formers key ∙ ap (λ (i : ℕ). row_at key (drop i s.formers.items)) all ∙ ap (λ (l : List Row). row_at key l) (drop_all s.formers.items)

  pub may_free : MayTake (Trx (StoreEnd pr.number trx.id None)) n
  may_free = may_end n stands.desk.reached pr.number mine has_mine (held_part n pr.number stands.desk.part).2 trx opened.begun active none

  module _ (after : NodeView) (becomes : after ≡ with_trx n pr.number (with_end trx.id None) 1) (reached : Reached after) where
    abbrev freed : CorePart
    freed = trx_changed (with_end trx.id None) 1 mine

    ends : PartExtends mine.trx (with_end trx.id None mine.trx)
    ends = extends_end trx.id None mine.trx

    step : TrxStep mine freed
    step = trx_step mine (with_end trx.id None) 1 ends

    there : part_in after.parts pr.number ≡ Some freed
    there = trx_there pr.number n after (with_end trx.id None) 1 becomes mine has_mine ends

    numbered : StandAtNumbers pr.book.sessions.items
    numbered j x at = (stands.primary.book.each j x at).number_is

    pub freeing : Freeing g run_of pr n after number s trx
    freeing = record {
      q = mine;
      has = has_mine;
      r = freed;
      there = there;
      did = did_trx mine freed step refl refl;
      goes = moves_trx pr.number n after (with_end trx.id None) 1 becomes mine has_mine ends CoreExtends step.extends;
      desk = trx_at_desk pr.number n after (with_end trx.id None) 1 becomes mine has_mine ends run_of pr.desk stands.desk reached;
      shows = shown_now trx.id (ended trx.id None) mine.trx.rows;
      media = λ agree. trx_media pr.number n after (with_end trx.id None) 1 becomes mine has_mine ends g pr.work pr.down pr.media stands.desk.part agree freed there;
      mirrors = λ h. mirrors_kept mine freed step.extends pr.down pr.desk.llsn pr.desk.undo refl refl h;
      opens = λ t over waits.
          opens_ended pr.work mine freed 0 step.extends pr.book.sessions.items number s t found numbered was_open trx None refl (λ slot other. shown_else trx.id (ended trx.id None) mine.trx.rows slot other)
          (shown_now trx.id (ended trx.id None) mine.trx.rows) (λ b key. refl) (λ m at. inl at) ((trx.view, opened.begun), inl active) is over waits;
      bounds = λ t over more h.
          bounds_answered pr.work mine freed step.extends pr.book.answers.items pr.book.sessions.items number s t found h more refl (omega arith)
          (let zero : rows_left t ≡ 0 = ap (λ (o : Option Begun). rows_left_by o t) over in omega (arith, zero));
    }

-- ---- and nothing is answered

module _ {D : Type 0} (g : Ghosts D) (run_of : Run) (pr : PrimaryView D) (n after : NodeView) (number : ℕ) (s : Session) (trx : Begun) (stands : StandsWith g run_of pr n) (up : pr.down ≡ 0) (f : Freeing g run_of pr n after number s trx)
    (t : Session) (over : trx_of_stage t.stage ≡ None) (waits : HasNoNewWait s t) (book : Book) (answers : book.answers.items ≡ pr.book.answers.items) (sessions : book.sessions.items ≡ slice_set pr.book.sessions.items number t)
    (is_book : IsBook pr.work.lines pr.work.sessions pr.number book) where
  agrees : (entries : List Entry) → PrimaryAgreesIn g pr entries n → PrimaryAgrees g pr entries f.q → PrimaryAgrees g (record pr { book = book }) entries f.r
  agrees entries agreed was =
      let opens : Opens pr.work f.r 0 book.sessions.items = subst (Opens pr.work f.r 0) (sym sessions) (f.opens t over waits) in
      record {
        kept = kept_quiet pr.work f.q f.r pr.down pr.down entries (inl up) was.kept f.did;
        answers = was.answers ∙ sym answers;
        opens = λ z. opens;
        sessions = opens.only;
        waits = opens.waits;
        mirrors = f.mirrors was.mirrors;
        media = f.media (λ x has. (agreed x has).media);
        bounds = subst (λ (l : List Session). Bounds pr.work f.r book.answers.items l) (sym sessions)
            (subst (λ (l : List Answer). Bounds pr.work f.r l (slice_set pr.book.sessions.items number t)) (append-nil pr.book.answers.items ∙ sym answers) (f.bounds t over [] was.bounds));
        exact = ap (λ (o : TrxOpening). o.begins) f.did.extends.trx.same_opening ∙ was.exact;
        begun = was.begun;
      }

  pub freed_agrees : (entries : List Entry) → PrimaryAgreesIn g pr entries n → PrimaryAgreesIn g (record pr { book = book }) entries after
  freed_agrees entries agreed x has =
      subst (PrimaryAgrees g (record pr { book = book }) entries) (one_part (part_in after.parts pr.number) f.r x f.there has) (agrees entries agreed (agreed f.q f.has))

  pub freed_stands : StandsWith g run_of (record pr { book = book }) after
  freed_stands = record {
    primary = record { book = is_book; names = stands.primary.names; places = stands.primary.places; own = stands.primary.own; up = stands.primary.up };
    desk = f.desk;
    agrees = (stands.agrees.0, freed_agrees stands.agrees.0 stands.agrees.1);
  }
