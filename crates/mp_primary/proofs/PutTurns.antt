-- What the turn of a write hands to the desk, and what it has from it.
use Rattle.std.proofs.Common.{◌≡◌, ℕ, ◌<◌, ◌≤◌, ◌⊎◌, false, List, [], ◌∷◌, length, Option, Some, Result, Err, IfOk, IfErr, OnOk, OnErr, sym, ap, subst, ◌∙◌}
use Rattle.mp_machine.specs.View.{part_in}
use Rattle.mp_model.specs.declared.replies.WriteVerb.{WriteVerb}
use Rattle.mp_model.specs.declared.waiting.Turn.{Turn}
use Rattle.mp_script.specs.declared.statements.Line.{Line}
use Rattle.mp_script.specs.declared.statements.Stmt.{Stmt}
use Rattle.mp_script.specs.declared.statements.Stmt.TheVariants.{Begin, Get, Put, Del, Copy, Scan, Commit, Rollback}
use Rattle.mp_script.specs.Transactions.{target_of}
use Rattle.mp_script.specs.Right.{WritesKey}
use Rattle.mp_cells.specs.declared.records.Mtr.{Mtr}
use Rattle.mp_cells.specs.declared.rows.Row.{Row}
use Rattle.mp_core_trx.specs.declared.part.Begun.{Begun}
use Rattle.mp_core_pages.specs.declared.opening.TheConstants.{MOST_MTRS}
use Rattle.mp_core_pages.specs.declared.part.Placed.{Placed}
use Rattle.mp_core.specs.declared.part.CorePart.{CorePart}
use Rattle.mp_core.specs.CoreExtends.{durable_of}
use Rattle.mp_outside.specs.declared.disks.Disk.{Ghosts}
use Rattle.mp_outside.specs.Faults.{Rose}
use Rattle.mp_shared.specs.Nodes.{Run, NodeView}
use Rattle.mp_supports.specs.Work.{Work}
use Rattle.mp_supports.specs.Supports.{IsValueWritten}
use Rattle.mp_desk.specs.declared.desk.Desk.{Desk}
use Rattle.mp_desk.specs.declared.halts.WriteHalt.{WriteHalt}
use Rattle.mp_desk.specs.declared.halts.WriteHalt.TheVariants as halts
use Rattle.mp_desk.specs.declared.media.Media.{Media}
use Rattle.mp_desk.specs.Desks.{IsAtDesk, IsReadAfresh, Moves}
use Rattle.mp_desk.specs.Making.{HoldsPartOf, IsMadeAfter, IsOpenLog, MediaAgree, MediaAgreeSomehow}
use Rattle.mp_desk.specs.Statements.{ReadsIn, StaysQuiet, MakesThen}
use Rattle.mp_desk.specs.Writes.{PutsValue, HaltsWrite}
use Rattle.mp_desk.proofs.PutBackRows.{moves_quiet_none}
use Rattle.mp_primary.specs.Primaries.{PrimaryView}
use Rattle.mp_primary.specs.Turns.{TriesAt, IsPutStatement}
use Rattle.mp_primary.specs.Tries.{TriesTurn}
use Rattle.mp_primary.specs.WriteTurns.{AfterWrite}
use Rattle.mp_primary.proofs.FewMtrs.{few_mtrs}
use Rattle.mp_primary.proofs.OpenReaders.{reads_in, starts_afresh}
use Rattle.mp_primary.proofs.TriedWrites.{after_write}

-- what a turn of the primary as it is inside is, is one of what its caller sees
pub seen_turn : {D : Type 0} (g : Ghosts D) (inside old : PrimaryView D) → inside ≡ old → (run : Run) (before after : NodeView) (new : PrimaryView D) (session : Option ℕ) (turn : Turn) → TriesTurn g run inside new before after session turn → TriesTurn g run old new before after session turn
seen_turn {D} g inside old view run before after new session turn h = subst (λ (v : PrimaryView D). TriesTurn g run v new before after session turn) view h

-- a put or a delete writes its key
pub put_writes : (line : Line) (stmt : Stmt) (verb : WriteVerb) (key : ℕ) (value : Option (List ℕ)) → line.stmt ≡ stmt → IsPutStatement stmt verb key value → WritesKey line verb key
put_writes line (Put k v) verb key value is h = ap target_of is ∙ ap (λ (w : WriteVerb). Some (record { verb = w; key = k })) (sym h.0) ∙ ap (λ (i : ℕ). Some (record { verb = verb; key = i })) (sym h.1)
put_writes line (Del k) verb key value is h = ap target_of is ∙ ap (λ (w : WriteVerb). Some (record { verb = w; key = k })) (sym h.0) ∙ ap (λ (i : ℕ). Some (record { verb = verb; key = i })) (sym h.1)
put_writes line Begin verb key value is h = absurd h
put_writes line (Get k) verb key value is h = absurd h
put_writes line (Copy from to) verb key value is h = absurd h
put_writes line (Scan low most) verb key value is h = absurd h
put_writes line Commit verb key value is h = absurd h
put_writes line Rollback verb key value is h = absurd h

-- and this value
put_value : (r : CorePart) (trx : Begun) (stmt : Stmt) (verb : WriteVerb) (key : ℕ) (value : Option (List ℕ)) → IsPutStatement stmt verb key value → IsValueWritten r [] trx.id trx.view stmt value
put_value r trx (Put k v) verb key value h = h.2
put_value r trx (Del k) verb key value h = h.2
put_value r trx Begin verb key value h = absurd h
put_value r trx (Get k) verb key value h = absurd h
put_value r trx (Copy from to) verb key value h = absurd h
put_value r trx (Scan low most) verb key value h = absurd h
put_value r trx Commit verb key value h = absurd h
put_value r trx Rollback verb key value h = absurd h

module _ {D : Type 0} (g : Ghosts D) (inside old : PrimaryView D) (view : inside ≡ old) (run : Run) (before : NodeView) (number : ℕ) (trx : Begun) (stmt : Stmt) (seen : TriesAt g run old before number trx stmt) where
  pub tries_inside : TriesAt g run inside before number trx stmt
  tries_inside = subst (λ (v : PrimaryView D). TriesAt g run v before number trx stmt) (sym view) seen

  pub put_desk : IsAtDesk run inside.desk inside.number before
  put_desk = tries_inside.comes.stands.desk

  pub put_own : inside.desk.mtr.node ≡ inside.number
  put_own = tries_inside.comes.stands.primary.own

  pub put_writer : ReadsIn inside.number trx before
  put_writer = let t = tries_inside in reads_in g run inside before number t.session t.line t.comes t.up trx t.stage

  pub put_afresh : IsReadAfresh inside.desk inside.number before
  put_afresh = let t = tries_inside in starts_afresh g run inside before number t.session t.line t.comes t.up

  pub put_few : (r : CorePart) → part_in before.parts inside.number ≡ Some r → length r.pages.made < MOST_MTRS
  put_few = let t = tries_inside in few_mtrs g run inside before t.comes.stands t.up number trx t.session t.comes.next.found t.stage

  pub put_log : IsOpenLog inside.number inside.desk.llsn inside.media.log
  put_log = let t = tries_inside in (t.comes.stands.primary.up t.up).0

  pub put_media : MediaAgree g inside.work 0 inside.media inside.number before
  put_media r there = let t = tries_inside in subst (λ (k : ℕ). HoldsPartOf g inside.work k inside.number inside.media r) t.up (t.comes.stands.agrees.1 r there).media

  pub put_agrees : MediaAgreeSomehow g inside.media inside.number before
  put_agrees = (inside.work, put_media)

  module _ (verb : WriteVerb) (key : ℕ) (value : Option (List ℕ)) (is : IsPutStatement stmt verb key value) (desk : Desk) (media : Media D) (n : NodeView) (at : IsAtDesk run desk inside.number n) (own : desk.mtr.node ≡ inside.number) (counted : g.faults inside.media.log.disk ≤ g.faults media.log.disk) (told : g.tells media.log.disk ≡ g.tells inside.media.log.disk) where
    pub put_ends : (result : Result Row WriteHalt)
        → IfOk result (λ former. (x : Placed Mtr) × Moves (MakesThen x) inside.number before n × IsMadeAfter before x × ((r : CorePart) → part_in n.parts inside.number ≡ Some r → PutsValue r trx key value former x.mtr))
        → OnErr result (Moves StaysQuiet inside.number before n) → IfErr result (HaltsWrite inside.number trx key before n) → OnOk result (IsOpenLog inside.number desk.llsn media.log)
        → IfErr result (λ halt. ((halt ≡ halts.Failed) × (media.log.tail.live ≡ false) × Rose (g.faults inside.media.log.disk) (g.faults media.log.disk)) ⊎ IsOpenLog inside.number desk.llsn media.log)
        → OnOk result ((r : CorePart) (x : Placed Mtr) (made : List (Placed Mtr)) → part_in n.parts inside.number ≡ Some r → r.pages.made ≡ x ∷ made → durable_of r < x.mtr.llsn)
        → (result ≡ Err halts.Failed → (media.log.tail.live ≡ false) × Rose (g.faults inside.media.log.disk) (g.faults media.log.disk))
        → ((work : Work) → MediaAgree g work 0 inside.media inside.number before → MediaAgree g work 0 media inside.number n ⊎ ((result ≡ Err halts.Failed) × MediaAgree g work inside.number media inside.number n))
        → AfterWrite g run inside (record inside { desk = desk; media = media }) before n number trx verb key result
    put_ends result wrote quiet cause opened still fresh failing agrees =
        let t = tries_inside in
        after_write g run inside before before n number trx stmt t verb key (put_writes t.line stmt verb key value t.stmt_is is) (moves_quiet_none inside.number before) desk media at own counted told value []
        (λ goes q r has there. (tt, tt))
        (λ goes r there. subst (λ (x : Stmt). IsValueWritten r [] trx.id trx.view x value) (sym t.stmt_is) (put_value r trx stmt verb key value is))
        (λ x made. tt)
        result wrote quiet cause opened still fresh failing (agrees inside.work put_media)
