-- A primary that has answered nothing agrees with the part of its node before any step.
use Rattle.std.proofs.Common.{◌≡◌, ℕ, zero, suc, ◌+◌, ◌<◌, ◌≤◌, Bool, true, false, List, [], ◌∷◌, ◌++◌, length, sum_by, slice_get, Option, None, Some, IfSome, refl, sym, ap, subst, ◌∙◌, inl, arith}
use Rattle.std.proofs.lemmas.List.Sums.{sum_by-cons}
use Rattle.mp_machine.specs.Lists.{IsIn}
use Rattle.mp_machine.specs.View.{part_in}
use Rattle.mp_machine.proofs.Views.{part_in-whole}
use Rattle.mp_script.specs.declared.statements.Line.{Line}
use Rattle.mp_script.specs.BeginNames.{begin_names}
use Rattle.mp_cells.specs.declared.records.Mtr.{Mtr}
use Rattle.mp_core_trx.specs.declared.opening.Base.{Base}
use Rattle.mp_core_trx.specs.declared.part.Begun.{Begun}
use Rattle.mp_core_trx.specs.Events.{IsNode}
use Rattle.mp_core.specs.declared.part.CorePart.{CorePart}
use Rattle.mp_core.specs.Downs.{down_of}
use Rattle.mp_core.specs.World.{core_start, core_part}
use Rattle.mp_book.specs.declared.session.Session.{Session}
use Rattle.mp_book.specs.declared.stage.Stage.{Stage}
use Rattle.mp_book.specs.Stages.{next_line, trx_of_stage}
use Rattle.mp_book.specs.Books.{StartsAs}
use Rattle.mp_outside.specs.declared.disks.Disk.{Ghosts}
use Rattle.mp_shared.specs.Nodes.{Run, first_node}
use Rattle.mp_supports.specs.Work.{Work}
use Rattle.mp_supports.specs.Supports.{SupportsWaits}
use Rattle.mp_supports.specs.Agreement.{IsOpenAs, HasMadeUndo, RefusalSupported, rows_left, rows_left_by}
use Rattle.mp_supports.proofs.KeptBatches.{kept_batches}
use Rattle.mp_book.proofs.Items.{stands_there}
use Rattle.mp_primary.specs.Primaries.{PrimaryView, IsFirstLog, PrimaryAgrees, PrimaryAgreesIn}
use Rattle.mp_primary.specs.Turns.{MayTakeTurn}
use Rattle.mp_primary.proofs.SmallPrimaries.{closed_not_outside}
use Rattle.mp_primary.proofs.OpenSessions.{one_of, waits_ended}
use Rattle.mp_primary.proofs.NamePlaces.{place_in}

true_not_false : (b : Bool) → b ≡ true → b ≡ false → ⊥
true_not_false b is isnt = let both : true ≡ false = sym is ∙ isnt in cc

-- no rows are left where no session has a transaction
none_left : (sessions : List Session) → ((k : ℕ) (s : Session) → slice_get sessions k ≡ Some s → trx_of_stage s.stage ≡ None) → sum_by rows_left sessions ≡ 0
none_left [] closed = refl
none_left (s ∷ sessions) closed =
    let first : rows_left s ≡ 0 = ap (λ (o : Option Begun). rows_left_by o s) (closed zero s refl) in
    let rest = none_left sessions (λ k x at. closed (suc k) x at) in
    let sum = sum_by-cons rows_left s sessions in
    omega (arith, first, rest, sum)

module _ {D : Type 0} (g : Ghosts D) (pr : PrimaryView D) (number_lines : ℕ → List Line) (starts : (k : ℕ) (s : Session) → slice_get pr.book.sessions.items k ≡ Some s → StartsAs k (number_lines k) s) (none : pr.book.answers.items ≡ []) (few : length pr.work.lines ≤ 10000)
    (llsn : pr.desk.llsn ≡ pr.work.base.llsn) (undo : pr.desk.undo ≡ None) (first : IsFirstLog g pr.work pr.number pr.media.log) (forced : pr.media.unforced ≡ false) (run : Run) (node : IsNode run.opening.trx pr.number) (base : run.opening.trx.base ≡ pr.work.base) (begins : run.opening.trx.begins ≡ length (begin_names pr.work.lines)) where
  abbrev first_part : CorePart
  first_part = core_part (core_start run.opening) pr.number

  closed : (k : ℕ) (s : Session) → slice_get pr.book.sessions.items k ≡ Some s → trx_of_stage s.stage ≡ None
  closed k s at = ap trx_of_stage (starts k s at).stage

  closed_in : (s : Session) → IsIn s pr.book.sessions.items → trx_of_stage s.stage ≡ None
  closed_in s there = let at = place_in pr.book.sessions.items s there in closed at.0 s at.1

  no_waits : (s : Session) → IsIn s pr.book.sessions.items → IfSome (next_line s) (λ line. SupportsWaits pr.work first_part line s.waits.items)
  no_waits s there = let at = place_in pr.book.sessions.items s there in waits_ended pr.work first_part s (starts at.0 s at.1).waits

  first_agrees : PrimaryAgrees g pr [] first_part
  first_agrees = record {
    kept = record { supported = tt; traced = tt; began = refl; drew = refl; made = refl; after = tt; in_doubt = tt; up = λ up. tt };
    answers = sym none;
    opens = λ up. record {
      each = λ s there. subst (λ (o : Option Begun). IfSome o (IsOpenAs pr.work first_part 0 s)) (sym (closed_in s there)) tt;
      only = λ b none_begun. absurd none_begun;
      waits = no_waits;
      refused = λ s there. let at = place_in pr.book.sessions.items s there in subst (λ (t : Stage). RefusalSupported pr.work first_part 0 t (next_line s)) (sym (starts at.0 s at.1).stage) tt;
    };
    sessions = λ b none_begun. absurd none_begun;
    waits = no_waits;
    mirrors = record {
      not_below = let base_llsn = ap (λ (b : Base). b.llsn) base in omega (arith, base_llsn, llsn);
      not_above = let base_llsn = ap (λ (b : Base). b.llsn) base in omega (arith, base_llsn, llsn);
      undo_page = subst (λ (o : Option ℕ). IfSome o (λ page. (2 ≤ page) × (page < 4096) × HasMadeUndo first_part page)) (sym undo) tt;
      idle = λ page. inl refl;
    };
    media = record {
      base = base;
      node = first.takes.node;
      on_disk = record {
        images = λ tells c image.
            let stands = first.stands tells in
            record { batches = stands.0; text = stands.1.images c image; log = kept_batches stands.0 [] pr.media.log.tail (g.seen pr.media.log.disk) (g.image pr.media.log.disk) stands.1; later = []; front = ap (λ (l : List Mtr). l ++ []) (sym stands.2); covers = tt };
        live = λ live tells.
            let stands = first.stands tells in
            (stands.0, [], stands.1, ap (λ (l : List Mtr). l ++ []) (sym stands.2), tt);
        last = λ some. absurd (omega (arith, some));
        forced = λ all. (refl, first.nothing);
        closed = λ closed. absurd (true_not_false pr.media.log.tail.live first.takes.live closed);
      };
      some_made = λ some. absurd (true_not_false pr.media.unforced some forced);
    };
    bounds = record {
      base = base;
      begins = omega (arith, begins);
      few = few;
      mtrs = let none_left = none_left pr.book.sessions.items closed in omega (arith, none_left);
    };
    exact = begins;
    begun = tt;
  }

  pub first_agrees_in : PrimaryAgreesIn g pr [] (first_node run)
  first_agrees_in q has =
      subst (PrimaryAgrees g pr []) (one_of (part_in (first_node run).parts pr.number) q first_part has (part_in-whole (core_part (core_start run.opening)) (run.opening.trx.primaries + 1) pr.number (omega (arith, node.1)))) first_agrees

-- its own word says that it is up
pub first_own : (number : ℕ) (run : Run) → IsNode run.opening.trx number → (q : CorePart) → part_in (first_node run).parts number ≡ Some q → down_of q ≡ 0
first_own number run node q has =
    sym (ap down_of (one_of (part_in (first_node run).parts number) q (core_part (core_start run.opening) number) has
    (part_in-whole (core_part (core_start run.opening)) (run.opening.trx.primaries + 1) number (omega (arith, node.1)))))

-- the same, of a primary that was made for this work
pub first_agrees_by : {D : Type 0} (g : Ghosts D) (pr : PrimaryView D) (work : Work) → pr.work ≡ work → (number_lines : ℕ → List Line) → ((k : ℕ) (s : Session) → slice_get pr.book.sessions.items k ≡ Some s → StartsAs k (number_lines k) s) → pr.book.answers.items ≡ [] → length work.lines ≤ 10000
    → pr.desk.llsn ≡ work.base.llsn → pr.desk.undo ≡ None → IsFirstLog g work pr.number pr.media.log → pr.media.unforced ≡ false
    → (run : Run) → IsNode run.opening.trx pr.number → run.opening.trx.base ≡ work.base → run.opening.trx.begins ≡ length (begin_names work.lines) → PrimaryAgreesIn g pr [] (first_node run)
first_agrees_by g pr work is number_lines starts none few llsn undo first forced run node base begins =
    first_agrees_in g pr number_lines starts none
    (subst (λ (w : Work). length w.lines ≤ 10000) (sym is) few)
    (subst (λ (w : Work). pr.desk.llsn ≡ w.base.llsn) (sym is) llsn) undo
    (subst (λ (w : Work). IsFirstLog g w pr.number pr.media.log) (sym is) first) forced run node
    (subst (λ (w : Work). run.opening.trx.base ≡ w.base) (sym is) base)
    (subst (λ (w : Work). run.opening.trx.begins ≡ length (begin_names w.lines)) (sym is) begins)

-- a turn may be taken for each of its sessions
pub first_may : {D : Type 0} (pr : PrimaryView D) (number_lines : ℕ → List Line) → ((k : ℕ) (s : Session) → slice_get pr.book.sessions.items k ≡ Some s → StartsAs k (number_lines k) s) → length pr.book.sessions.items ≡ 65
    → (number : ℕ) → number < 65 → MayTakeTurn pr number
first_may pr number_lines starts whole number below =
    let has = stands_there pr.book.sessions.items number (omega (arith, whole, below)) in
    record { session = has.0; found = has.1; inside = λ trx e. closed_not_outside trx (sym (starts number has.0 has.1).stage ∙ e) }
