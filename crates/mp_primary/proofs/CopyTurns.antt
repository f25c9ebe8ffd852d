-- What the turn of a copy hands to the desk once it read its source, and what it has from it.
use Rattle.std.proofs.Common.{◌≡◌, ℕ, ◌<◌, ◌≤◌, ◌⊎◌, false, List, [], ◌∷◌, length, Option, Some, Result, Err, IfOk, IfErr, OnOk, OnErr, sym, ap, subst, inl, inr}
use Rattle.std.specs.List.{AllByRecursion}
use Rattle.mp_machine.specs.Lists.{IsIn}
use Rattle.mp_machine.specs.View.{part_in}
use Rattle.mp_model.specs.declared.replies.WriteVerb.TheVariants as verbs
use Rattle.mp_script.specs.declared.statements.Stmt.{Stmt}
use Rattle.mp_script.specs.declared.statements.Stmt.TheVariants.{Copy}
use Rattle.mp_script.specs.Transactions.{target_of}
use Rattle.mp_script.specs.Right.{WritesKey}
use Rattle.mp_cells.specs.declared.records.Mtr.{Mtr}
use Rattle.mp_cells.specs.declared.rows.Row.{Row}
use Rattle.mp_cells.specs.PageView.{PageView}
use Rattle.mp_core_trx.specs.declared.part.Begun.{Begun}
use Rattle.mp_core_pages.specs.declared.opening.TheConstants.{MOST_MTRS}
use Rattle.mp_core_pages.specs.declared.part.GivenPage.{GivenPage}
use Rattle.mp_core_pages.specs.declared.part.Placed.{Placed}
use Rattle.mp_core.specs.declared.part.CorePart.{CorePart}
use Rattle.mp_core.specs.CoreExtends.{durable_of, CoreExtends}
use Rattle.mp_outside.specs.declared.disks.Disk.{Ghosts}
use Rattle.mp_outside.specs.Faults.{Rose}
use Rattle.mp_shared.specs.Nodes.{Run, NodeView}
use Rattle.mp_shared.proofs.Holding.{held_part}
use Rattle.mp_buffer_fusion.specs.declared.buffer.Buffer.{Buffer}
use Rattle.mp_buffer_fusion.proofs.Visiting.{one_part}
use Rattle.mp_supports.specs.Work.{Work}
use Rattle.mp_supports.specs.Supports.{no_trace, IsValueWritten}
use Rattle.mp_supports.specs.Steps.{OnlyLooked}
use Rattle.mp_supports.proofs.Extending.{core_extends_refl, given_in}
use Rattle.mp_supports.proofs.SeesMore.{sees_more}
use Rattle.mp_desk.specs.declared.desk.Desk.{Desk}
use Rattle.mp_desk.specs.declared.halts.ReadHalt.{ReadHalt}
use Rattle.mp_desk.specs.declared.halts.ReadHalt.TheVariants as reads
use Rattle.mp_desk.specs.declared.halts.WriteHalt.{WriteHalt}
use Rattle.mp_desk.specs.declared.halts.WriteHalt.TheVariants as halts
use Rattle.mp_desk.specs.declared.media.Media.{Media}
use Rattle.mp_desk.specs.Desks.{IsAtDesk, IsReadAfresh, Moves, AreGivenSince}
use Rattle.mp_desk.specs.Making.{IsMadeAfter, IsOpenLog, MediaAgree, MediaAgreeSomehow}
use Rattle.mp_desk.specs.ReadHalts.{HaltsRead, HaltsScan}
use Rattle.mp_desk.specs.Statements.{ReadsIn, StaysQuiet, MakesThen, LooksOn, KnowsView, FindsValue}
use Rattle.mp_desk.specs.Writes.{PutsValue, HaltsWrite}
use Rattle.mp_desk.proofs.PutBackRows.{few_quiet, moves_quiet_looked}
use Rattle.mp_desk.proofs.ValuePut.{quiet_reads}
use Rattle.mp_primary.specs.Primaries.{PrimaryView}
use Rattle.mp_primary.specs.Turns.{TriesAt}
use Rattle.mp_primary.specs.AtWork.{IsAtWork}
use Rattle.mp_primary.specs.Reads.{StopsReading}
use Rattle.mp_primary.specs.WriteTurns.{AfterWrite}
use Rattle.mp_primary.proofs.LookedAtWork.{work_nothing, stops_reading}
use Rattle.mp_primary.proofs.OpenReaders.{knows_view}
use Rattle.mp_primary.proofs.PutTurns.{tries_inside, put_writer, put_few}
use Rattle.mp_primary.proofs.TriedWrites.{after_write}
use Rattle.mp_primary.proofs.TurnEnds.{moved}

module _ {D : Type 0} (g : Ghosts D) (inside old : PrimaryView D) (view : inside ≡ old) (run : Run) (before : NodeView) (number : ℕ) (trx : Begun) (source to : ℕ) (seen : TriesAt g run old before number trx (Copy source to))
    (looked : Desk) (b : NodeView) (at_b : IsAtDesk run looked inside.number b) (looks : LooksOn inside.number inside.desk looked before b) where
  abbrev pub its : TriesAt g run inside before number trx (Copy source to)
  its = tries_inside g inside old view run before number trx (Copy source to) seen

  pub copy_work : IsAtWork g run inside (record inside { desk = looked }) before b no_trace
  copy_work = work_nothing g run inside before b number trx (Copy source to) its looked at_b looks

  -- ---- the source couldn't be read

  scan_halts : (halt : ReadHalt) → HaltsRead inside.number trx source before b halt → HaltsScan inside.number trx before b halt
  scan_halts (reads.Word wait) h = h
  scan_halts (reads.Prep id) h = λ r there. (source, h r there)

  pub copy_stops : (halt : ReadHalt) → HaltsRead inside.number trx source before b halt → StopsReading inside before b its.session halt
  copy_stops halt h = stops_reading g run inside before b number trx (Copy source to) its looked at_b looks halt (scan_halts halt h)

  -- ---- the target is written

  quiet : Moves StaysQuiet inside.number before b
  quiet = moves_quiet_looked inside.number before b looks.looked

  abbrev start : (q : CorePart) × (part_in before.parts inside.number ≡ Some q)
  start = let h = held_part before inside.number its.comes.stands.desk.part in (h.0, h.1)

  abbrev finish : (r : CorePart) × (part_in b.parts inside.number ≡ Some r)
  finish = let h = held_part b inside.number at_b.part in (h.0, h.1)

  given_before : AreGivenSince start.0 start.0 inside.desk.pool
  given_before x there = absurd (subst (λ (l : List Buffer). IsIn x l) (its.comes.stands.primary.up its.up).1 there)

  pub copy_writer : ReadsIn inside.number trx b
  copy_writer = quiet_reads inside.number before b its.comes.stands.desk.part quiet trx (put_writer g inside old view run before number trx (Copy source to) seen)

  pub copy_afresh : IsReadAfresh looked inside.number b
  copy_afresh r there = (start.0, (moved OnlyLooked inside.number before b looks.looked start.0 r start.1 there).extends, looks.given start.0 start.0 r start.1 (core_extends_refl start.0) given_before there)

  pub copy_few : (r : CorePart) → part_in b.parts inside.number ≡ Some r → length r.pages.made < MOST_MTRS
  copy_few = few_quiet inside.number MOST_MTRS before b its.comes.stands.desk.part quiet (put_few g inside old view run before number trx (Copy source to) seen)

  pub copy_agrees : MediaAgreeSomehow g inside.media inside.number b
  copy_agrees = (inside.work, copy_work.media)

  module _ (value : Option (List ℕ)) (got : (s q r : CorePart) → part_in before.parts inside.number ≡ Some q → CoreExtends s q → KnowsView s trx → AreGivenSince s q inside.desk.pool → part_in b.parts inside.number ≡ Some r → FindsValue s r trx source value) where
    found : FindsValue start.0 finish.0 trx source value
    found = got start.0 start.0 finish.0 start.1 (core_extends_refl start.0) (knows_view g run inside before number its.session its.line its.comes its.up trx its.stage start.0 start.1) given_before finish.1

    leaf_given : IsIn found.leaf (finish.0).pages.given
    leaf_given = elim found.sees.rests [
      | inl same ↦ subst (λ (x : GivenPage PageView). IsIn x (finish.0).pages.given) same found.sees.shows.given
      | inr none ↦ absurd none
    ]

    module _ (desk : Desk) (media : Media D) (n : NodeView) (at : IsAtDesk run desk inside.number n) (own : desk.mtr.node ≡ inside.number) (counted : g.faults inside.media.log.disk ≤ g.faults media.log.disk) (told : g.tells media.log.disk ≡ g.tells inside.media.log.disk) where
      in_later : Moves CoreExtends inside.number b n → (r : CorePart) → part_in n.parts inside.number ≡ Some r → CoreExtends finish.0 r
      in_later goes r there = moved CoreExtends inside.number b n goes finish.0 r finish.1 there

      valued : Moves CoreExtends inside.number b n → (r : CorePart) → part_in n.parts inside.number ≡ Some r → IsValueWritten r (found.leaf ∷ []) trx.id trx.view its.line.stmt value
      valued goes r there = subst (λ (x : Stmt). IsValueWritten r (found.leaf ∷ []) trx.id trx.view x value) (sym its.stmt_is)
          (found.found, sees_more finish.0 r (in_later goes r there) (found.leaf ∷ []) trx.id trx.view source found.found found.sees, found.value_is)

      given : Moves CoreExtends inside.number b n → (q r : CorePart) → part_in before.parts inside.number ≡ Some q → part_in n.parts inside.number ≡ Some r → AllByRecursion (λ g. IsIn g r.pages.given) (found.leaf ∷ []) × AllByRecursion (λ g. (x : Placed Mtr) → IsIn x q.pages.made → x.at < g.height) (found.leaf ∷ [])
      given goes q r has there = (
        (given_in finish.0 r (in_later goes r there) found.leaf leaf_given, tt),
        (subst (λ (x : CorePart). (y : Placed Mtr) → IsIn y x.pages.made → y.at < (found.leaf).height) (one_part (part_in before.parts inside.number) start.0 q start.1 has) found.since, tt),
      )

      read_before : (x : Placed Mtr) → Moves (MakesThen x) inside.number b n → AllByRecursion (λ g. g.height ≤ x.at) (found.leaf ∷ [])
      read_before x made =
          let r = held_part n inside.number at.part in
          let h = moved (MakesThen x) inside.number b n made finish.0 r.0 finish.1 r.1 in
          (h.made.later.above_given found.leaf (given_in finish.0 h.between h.quiet.extends found.leaf leaf_given), tt)

      copy_writes : WritesKey its.line verbs.Copy to
      copy_writes = ap target_of its.stmt_is

      pub copy_ends : (result : Result Row WriteHalt)
          → IfOk result (λ former. (x : Placed Mtr) × Moves (MakesThen x) inside.number b n × IsMadeAfter b x × ((r : CorePart) → part_in n.parts inside.number ≡ Some r → PutsValue r trx to value former x.mtr))
          → OnErr result (Moves StaysQuiet inside.number b n) → IfErr result (HaltsWrite inside.number trx to b n) → OnOk result (IsOpenLog inside.number desk.llsn media.log)
          → IfErr result (λ halt. ((halt ≡ halts.Failed) × (media.log.tail.live ≡ false) × Rose (g.faults inside.media.log.disk) (g.faults media.log.disk)) ⊎ IsOpenLog inside.number desk.llsn media.log)
          → OnOk result ((r : CorePart) (x : Placed Mtr) (made : List (Placed Mtr)) → part_in n.parts inside.number ≡ Some r → r.pages.made ≡ x ∷ made → durable_of r < x.mtr.llsn)
          → (result ≡ Err halts.Failed → (media.log.tail.live ≡ false) × Rose (g.faults inside.media.log.disk) (g.faults media.log.disk))
          → ((work : Work) → MediaAgree g work 0 inside.media inside.number b → MediaAgree g work 0 media inside.number n ⊎ ((result ≡ Err halts.Failed) × MediaAgree g work inside.number media inside.number n))
          → AfterWrite g run inside (record inside { desk = desk; media = media }) before n number trx verbs.Copy to result
      copy_ends result wrote kept cause opened still fresh failing agrees =
          after_write g run inside before b n number trx (Copy source to) its verbs.Copy to copy_writes quiet desk media at own counted told value (found.leaf ∷ []) given valued read_before
          result wrote kept cause opened still fresh failing (agrees inside.work copy_work.media)
