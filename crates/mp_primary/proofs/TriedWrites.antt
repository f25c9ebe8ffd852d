-- What the desk's answer to a write leaves of the turn that tried it.
use Rattle.std.proofs.Common.{◌≡◌, ◌≢◌, ℕ, ◌<◌, ◌≤◌, ◌⊎◌, false, List, [], ◌∷◌, Option, None, Some, Result, Ok, Err, IfOk, IfErr, OnOk, OnErr, refl, sym, ap, subst, ◌∙◌, inl, inr}
use mathlib.Core.Logic.{dite}
use native.Mathlib.Decide.{ℕ_discrete}
use Rattle.std.specs.List.{AllByRecursion}
use Rattle.mp_machine.specs.Lists.{IsIn}
use Rattle.mp_machine.specs.View.{part_in}
use Rattle.mp_model.specs.declared.ids.TrxId.{TrxId}
use Rattle.mp_model.specs.declared.replies.WriteVerb.{WriteVerb}
use Rattle.mp_model.specs.declared.waiting.NotYet.{NotYet}
use Rattle.mp_script.specs.declared.statements.Stmt.{Stmt}
use Rattle.mp_script.specs.Right.{WritesKey}
use Rattle.mp_cells.specs.declared.records.Mtr.{Mtr}
use Rattle.mp_cells.specs.declared.rows.Row.{Row}
use Rattle.mp_cells.specs.PageView.{PageView}
use Rattle.mp_core_trx.specs.declared.part.Begun.{Begun}
use Rattle.mp_core_pages.specs.declared.part.GivenPage.{GivenPage}
use Rattle.mp_core_pages.specs.declared.part.Placed.{Placed}
use Rattle.mp_core.specs.declared.part.CorePart.{CorePart}
use Rattle.mp_core.specs.CoreExtends.{durable_of, CoreExtends}
use Rattle.mp_core.specs.OwnMtrs.{row_put_by, row_restored_by, trx_mtrs, TrxMtr}
use Rattle.mp_outside.specs.declared.disks.Disk.{Ghosts}
use Rattle.mp_outside.specs.Faults.{Rose}
use Rattle.mp_shared.specs.Nodes.{Run, NodeView}
use Rattle.mp_shared.proofs.Holding.{held_part}
use Rattle.mp_supports.specs.Supports.{no_trace, wrote_trace, IsValueWritten}
use Rattle.mp_supports.specs.Kept.{Did}
use Rattle.mp_supports.specs.Steps.{trx_mtr_of}
use Rattle.mp_supports.proofs.Classes.{did_make, did_after, did_with_pages}
use Rattle.mp_supports.proofs.Extending.{placed_in, core_extends_trans}
use Rattle.mp_supports.proofs.Formers.{put_owner}
use Rattle.mp_desk.specs.declared.desk.Desk.{Desk}
use Rattle.mp_desk.specs.declared.halts.WriteHalt.{WriteHalt}
use Rattle.mp_desk.specs.declared.halts.WriteHalt.TheVariants as halts
use Rattle.mp_desk.specs.declared.media.Media.{Media}
use Rattle.mp_desk.specs.Desks.{IsAtDesk, Moves, MetWait}
use Rattle.mp_desk.specs.Making.{IsMadeAfter, IsOpenLog, MediaAgree}
use Rattle.mp_desk.specs.Statements.{StaysQuiet, MakesThen}
use Rattle.mp_desk.specs.Writes.{PutsValue, HaltsWrite}
use Rattle.mp_desk.proofs.Moving.{moves_as, moves_both, goes_both}
use Rattle.mp_desk.proofs.PutBackRows.{did_quiet, moves_quiet}
use Rattle.mp_primary.specs.Primaries.{PrimaryView}
use Rattle.mp_primary.specs.Turns.{TriesAt}
use Rattle.mp_primary.specs.WriteTurns.{mtr_of_put, TriesWrite, IsHeldUp, HasPutRow, HasFailedWrite, AfterWrite}
use Rattle.mp_primary.proofs.TurnEnds.{moved}

-- ---- a part that made an mtr behind quiet steps

quiet_then_made : (x : Placed Mtr) (q r s : CorePart) → StaysQuiet q r → MakesThen x r s → MakesThen x q s
quiet_then_made x q r s a b = record { between = b.between; quiet = quiet_then q r b.between a b.quiet; made = b.made }
  where
    quiet_then : (q r s : CorePart) → StaysQuiet q r → StaysQuiet r s → StaysQuiet q s
    quiet_then q r s a b = record { extends = core_extends_trans q r s a.extends b.extends; begun = b.begun ∙ a.begun; rows = b.rows ∙ a.rows; drew = b.drew ∙ a.drew; made = b.made ∙ a.made }

-- what it left, with the pages that it rests on
did_put : (trx : Begun) (x : Placed Mtr) (row : Row) (pages : List (GivenPage PageView)) (q r : CorePart) → MakesThen x q r → row_put_by x.mtr ≡ Some row → row.writer ≡ Some trx.id → row_restored_by x.mtr ≡ None
    → AllByRecursion (λ g. IsIn g r.pages.given) pages → AllByRecursion (λ g. (y : Placed Mtr) → IsIn y q.pages.made → y.at < g.height) pages → Did q r (wrote_trace pages (mtr_of_put trx x))
did_put trx x row pages q r h put writer no_back given since =
    let made = did_make h.between r x h.made no_back in
    let its : trx_mtr_of h.between x ≡ mtr_of_put trx x = ap (λ (o : Option TrxId). record { at = x.at; of = o; mtr = x.mtr }) (put_owner x h.between.pages.made trx.id row put writer) in
    let all = did_after q h.between r (wrote_trace [] (trx_mtr_of h.between x)) (did_quiet q h.between h.quiet) made in
    did_with_pages q r (wrote_trace [] (mtr_of_put trx x)) pages (subst (λ (m : TrxMtr). Did q r (wrote_trace [] m)) its all) given since

module _ {D : Type 0} (g : Ghosts D) (run : Run) (old : PrimaryView D) (before b n : NodeView) (number : ℕ) (trx : Begun) (stmt : Stmt) (tries : TriesAt g run old before number trx stmt) (verb : WriteVerb) (key : ℕ) (writes : WritesKey tries.line verb key) (quiet_b : Moves StaysQuiet old.number before b)
    (desk : Desk) (media : Media D) (at : IsAtDesk run desk old.number n) (own : desk.mtr.node ≡ old.number) (counted : g.faults old.media.log.disk ≤ g.faults media.log.disk) (told : g.tells media.log.disk ≡ g.tells old.media.log.disk) where
  abbrev now : PrimaryView D
  now = record old { desk = desk; media = media }

  abbrev its_tries : TriesWrite g run old now before n number trx verb key
  its_tries = record { session = tries.session; line = tries.line; comes = tries.comes; stage = tries.stage; writes = writes }

  goes_b : Moves CoreExtends old.number before b
  goes_b = moves_as old.number StaysQuiet CoreExtends (λ q r h. h.extends) before b quiet_b

  goes_then : (x : Placed Mtr) → Moves (MakesThen x) old.number b n → Moves CoreExtends old.number b n
  goes_then x made = moves_as old.number (MakesThen x) CoreExtends (λ q r h. core_extends_trans q h.between r h.quiet.extends h.made.extends) b n made

  -- ---- held up

  held_up : IsOpenLog old.number desk.llsn media.log → MediaAgree g old.work 0 media old.number n → Moves StaysQuiet old.number b n → IsHeldUp g run old now before n number trx verb key
  held_up opened agree quiet =
      let all = moves_quiet old.number before b n quiet_b quiet in
      record {
        tries = its_tries;
        work = record { rest = refl; up = tries.up; desk = at; own = own; log = opened; media = agree; did = moves_as old.number StaysQuiet (λ q r. Did q r no_trace) did_quiet before n all; faults = counted; tells = told };
        quiet = all;
      }

  met_before : (wait : NotYet) → MetWait old.number b n wait → MetWait old.number before n wait
  met_before wait h = record { from = h.from; to = h.to; came = goes_both old.number before b h.from goes_b h.came; met = h.met; went = h.went }

  -- ---- the log's disk failed

  failed : (media.log.tail.live ≡ false) → Rose (g.faults old.media.log.disk) (g.faults media.log.disk) → MediaAgree g old.work old.number media old.number n → Moves StaysQuiet old.number b n → HasFailedWrite g run old now before n number trx verb key
  failed closed rose agree quiet =
      let all = moves_quiet old.number before b n quiet_b quiet in
      record {
        tries = its_tries;
        rest = refl;
        gone = record { rest = refl; up = tries.up; desk = at; own = own; closed = closed; media = agree; did = moves_as old.number StaysQuiet (λ q r. Did q r no_trace) did_quiet before n all; rose = rose; faults = counted; tells = told };
        quiet = all;
      }

  -- ---- which it is

  ok_not_failed : (former : Row) → ◌≡◌ {A = Result Row WriteHalt} (Ok former) (Err halts.Failed) → ⊥
  ok_not_failed former e = cc

  open_still : (halt : WriteHalt) → halt ≢ halts.Failed → ((halt ≡ halts.Failed) × (media.log.tail.live ≡ false) × Rose (g.faults old.media.log.disk) (g.faults media.log.disk)) ⊎ IsOpenLog old.number desk.llsn media.log → IsOpenLog old.number desk.llsn media.log
  open_still halt other (inl failed) = absurd (other failed.0)
  open_still halt other (inr opened) = opened

  agree_still : (halt : WriteHalt) → halt ≢ halts.Failed → MediaAgree g old.work 0 media old.number n ⊎ ((◌≡◌ {A = Result Row WriteHalt} (Err halt) (Err halts.Failed)) × MediaAgree g old.work old.number media old.number n) → MediaAgree g old.work 0 media old.number n
  agree_still halt other (inl agree) = agree
  agree_still halt other (inr failed) = absurd (other (same_halt halt failed.0))
    where
      same_halt : (h : WriteHalt) → ◌≡◌ {A = Result Row WriteHalt} (Err h) (Err halts.Failed) → h ≡ halts.Failed
      same_halt h e = cc

  -- media that agree with a primary that is up have a log that takes mtrs
  down_too : (media.log.tail.live ≡ false) → MediaAgree g old.work 0 media old.number n → MediaAgree g old.work old.number media old.number n
  down_too closed agree r there = absurd ((agree r there).on_disk.closed closed refl)

  -- ---- made

  module _ (value : Option (List ℕ)) (pages : List (GivenPage PageView))
      (given : Moves CoreExtends old.number b n → (q r : CorePart) → part_in before.parts old.number ≡ Some q → part_in n.parts old.number ≡ Some r → AllByRecursion (λ g. IsIn g r.pages.given) pages × AllByRecursion (λ g. (x : Placed Mtr) → IsIn x q.pages.made → x.at < g.height) pages)
      (valued : Moves CoreExtends old.number b n → (r : CorePart) → part_in n.parts old.number ≡ Some r → IsValueWritten r pages trx.id trx.view tries.line.stmt value)
      (read_before : (x : Placed Mtr) → Moves (MakesThen x) old.number b n → AllByRecursion (λ g. g.height ≤ x.at) pages) where
    put_row : ((r : CorePart) (x : Placed Mtr) (made : List (Placed Mtr)) → part_in n.parts old.number ≡ Some r → r.pages.made ≡ x ∷ made → durable_of r < x.mtr.llsn)
        → (former : Row) → IsOpenLog old.number desk.llsn media.log → MediaAgree g old.work 0 media old.number n
        → (x : Placed Mtr) → Moves (MakesThen x) old.number b n → IsMadeAfter b x → ((r : CorePart) → part_in n.parts old.number ≡ Some r → PutsValue r trx key value former x.mtr) → HasPutRow g run old now before n number trx verb key former
    put_row fresh former opened agree x made after puts =
        let here = held_part n old.number at.part in
        let p = puts here.0 here.1 in
        let all : Moves (MakesThen x) old.number before n = moves_both old.number StaysQuiet (MakesThen x) (MakesThen x) (quiet_then_made x) before b n quiet_b made in
        record {
          tries = its_tries;
          pages = pages;
          placed = x;
          work = record {
            rest = refl;
            up = tries.up;
            desk = at;
            own = own;
            log = opened;
            media = agree;
            did = record {
              run = all.run;
              frames = all.frames;
              others = all.others;
              mine = λ q has. let r = all.mine q has in let is = given (goes_then x made) q r.0 has r.1 in (r.0, r.1, did_put trx x p.row pages q r.0 r.2 p.put p.writer p.not_restored is.0 is.1, r.3);
            };
            faults = counted;
            tells = told;
          };
          made = all;
          over = λ r there.
              let y = puts r there in
              record {
                was_made = its_mtr r there x all p;
                of = refl;
                row = y.row;
                put = y.put;
                writer = y.writer;
                its_key = y.its_key;
                value = subst (IsValueWritten r pages trx.id trx.view tries.line.stmt) (sym y.value_is) (valued (goes_then x made) r there);
                former = former;
                kept = y.kept;
                over = y.over;
                read_before = read_before x made;
              };
          kept = p.kept;
          not_restored = p.not_restored;
          former_key = p.former_key;
          fresh = λ r there. still_fresh r there x made;
          later = record {
            above_made = λ k q m has inside.
                dite (ℕ_discrete k old.number)
                (λ same.
                let mid = goes_b.mine q (ap (part_in before.parts) (sym same) ∙ has) in
                after.above_made k mid.0 m (ap (part_in b.parts) same ∙ mid.1) (placed_in q mid.0 mid.2 m inside))
                (λ other. after.above_made k q m (goes_b.others k other ∙ has) inside);
          };
        }
      where
        its_mtr : (r : CorePart) → part_in n.parts old.number ≡ Some r → (x : Placed Mtr) → Moves (MakesThen x) old.number before n → PutsValue (held_part n old.number at.part).0 trx key value former x.mtr → IsIn (mtr_of_put trx x) (trx_mtrs r.pages.made)
        its_mtr r there x all p =
            let has = held_part before old.number tries.comes.stands.desk.part in
            let h = moved (MakesThen x) old.number before n all has.0 r has.1 there in
            subst (λ (l : List (Placed Mtr)). IsIn (mtr_of_put trx x) (trx_mtrs l)) (sym h.made.made)
            (inl (ap (λ (o : Option TrxId). record { at = x.at; of = o; mtr = x.mtr }) (sym (put_owner x h.between.pages.made trx.id p.row p.put p.writer))))

        still_fresh : (r : CorePart) → part_in n.parts old.number ≡ Some r → (x : Placed Mtr) → Moves (MakesThen x) old.number b n → durable_of r < x.mtr.llsn
        still_fresh r there x made =
            let mid = goes_b.mine (held_part before old.number tries.comes.stands.desk.part).0 (held_part before old.number tries.comes.stands.desk.part).1 in
            let h = moved (MakesThen x) old.number b n made mid.0 r mid.1 there in
            fresh r x h.between.pages.made there h.made.made

    -- by what the desk answered
    pub after_write : (result : Result Row WriteHalt)
        → IfOk result (λ former. (x : Placed Mtr) × Moves (MakesThen x) old.number b n × IsMadeAfter b x × ((r : CorePart) → part_in n.parts old.number ≡ Some r → PutsValue r trx key value former x.mtr))
        → OnErr result (Moves StaysQuiet old.number b n) → IfErr result (HaltsWrite old.number trx key b n) → OnOk result (IsOpenLog old.number desk.llsn media.log)
        → IfErr result (λ halt. ((halt ≡ halts.Failed) × (media.log.tail.live ≡ false) × Rose (g.faults old.media.log.disk) (g.faults media.log.disk)) ⊎ IsOpenLog old.number desk.llsn media.log)
        → OnOk result ((r : CorePart) (x : Placed Mtr) (made : List (Placed Mtr)) → part_in n.parts old.number ≡ Some r → r.pages.made ≡ x ∷ made → durable_of r < x.mtr.llsn)
        → (result ≡ Err halts.Failed → (media.log.tail.live ≡ false) × Rose (g.faults old.media.log.disk) (g.faults media.log.disk))
        → MediaAgree g old.work 0 media old.number n ⊎ ((result ≡ Err halts.Failed) × MediaAgree g old.work old.number media old.number n)
        → AfterWrite g run old now before n number trx verb key result
    after_write (Ok former) wrote quiet cause opened still fresh failing (inl agree) = put_row fresh former opened agree wrote.0 wrote.1 wrote.2 wrote.3
    after_write (Ok former) wrote quiet cause opened still fresh failing (inr bad) = absurd (ok_not_failed former bad.0)
    after_write (Err halts.Failed) wrote quiet cause opened still fresh failing (inr agree) = let f = failing refl in failed f.0 f.1 agree.1 quiet
    after_write (Err halts.Failed) wrote quiet cause opened still fresh failing (inl agree) = let f = failing refl in failed f.0 f.1 (down_too f.0 agree) quiet
    after_write (Err (halts.Word wait)) wrote quiet cause opened still fresh failing agrees = (held_up (open_still (halts.Word wait) (λ e. absurd cc) still) (agree_still (halts.Word wait) (λ e. absurd cc) agrees) quiet, met_before wait cause)
    after_write (Err (halts.Writer id)) wrote quiet cause opened still fresh failing agrees = (held_up (open_still (halts.Writer id) (λ e. absurd cc) still) (agree_still (halts.Writer id) (λ e. absurd cc) agrees) quiet, cause)
    after_write (Err (halts.Conflict id cts)) wrote quiet cause opened still fresh failing agrees = (held_up (open_still (halts.Conflict id cts) (λ e. absurd cc) still) (agree_still (halts.Conflict id cts) (λ e. absurd cc) agrees) quiet, cause)
    after_write (Err (halts.Held id)) wrote quiet cause opened still fresh failing agrees = (held_up (open_still (halts.Held id) (λ e. absurd cc) still) (agree_still (halts.Held id) (λ e. absurd cc) agrees) quiet, cause)
    after_write (Err halts.Full) wrote quiet cause opened still fresh failing agrees = (held_up (open_still halts.Full (λ e. absurd cc) still) (agree_still halts.Full (λ e. absurd cc) agrees) quiet, cause)
