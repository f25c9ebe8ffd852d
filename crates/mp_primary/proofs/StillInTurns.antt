-- A session for which a turn may be taken is one of which the next turn may be taken.
use Rattle.std.proofs.Common.{◌≡◌, ℕ, Bool, true, false, List, slice_get, slice_set, Some, sym, ap, ◌∙◌}
use Rattle.std.proofs.lemmas.Option.{slice_get_within}
use Rattle.mp_model.specs.declared.replies.Reply.{Reply}
use Rattle.mp_model.specs.declared.replies.Reply.TheVariants.{Began, Got, Scanned, Wrote, Committed, CommittedNone, Unknown, RolledBack, Conflict, Held, Full, Skipped, Stopped}
use Rattle.mp_script.specs.declared.statements.Line.{Line}
use Rattle.mp_script.specs.declared.statements.Stmt.{Stmt}
use Rattle.mp_script.specs.Entries.{open_after}
use Rattle.mp_core_trx.specs.declared.part.Begun.{Begun}
use Rattle.mp_book.specs.declared.session.Session.{Session}
use Rattle.mp_book.specs.declared.stage.Refusal.{Refusal}
use Rattle.mp_book.specs.declared.stage.Stage.{Stage}
use Rattle.mp_book.specs.declared.stage.Stage.TheVariants.{Closed, Open, Refused, Leaving, Skipping}
use Rattle.mp_book.specs.Books.{skipped_to, stage_after}
use Rattle.mp_outside.specs.declared.disks.Disk.{Ghosts}
use Rattle.mp_shared.specs.Nodes.{Run, NodeView}
use Rattle.mp_buffer_fusion.proofs.Kept.{set_here}
use Rattle.mp_primary.specs.Primaries.{PrimaryView}
use Rattle.mp_primary.specs.Turns.{IsSessionOf, IsInTurns, MayTakeTurn, ComesTo}
use Rattle.mp_primary.proofs.OpenSessions.{one_of}

-- ---- by the stage

pub stage_in : (a b : Stage) → a ≡ b → IsInTurns b → IsInTurns a
stage_in a b same inside trx e = inside trx (sym same ∙ e)

pub closed_in : IsInTurns Closed
closed_in trx e = cc

pub open_in : (b : Begun) → IsInTurns (Open b)
open_in b trx e = cc

pub refused_in : (b : Begun) (refusal : Refusal) → IsInTurns (Refused b refusal)
refused_in b refusal trx e = cc

pub leaving_in : (b : Begun) → IsInTurns (Leaving b)
leaving_in b trx e = cc

pub skipping_in : IsInTurns Skipping
skipping_in trx e = cc

pub skipped_in : (more : Bool) → IsInTurns (skipped_to more)
skipped_in true = skipping_in
skipped_in false = closed_in

-- so is the stage that a reply leaves
pub stage_after_in : (stage : Stage) (stmt : Stmt) (reply : Reply) → IsInTurns stage → IsInTurns (stage_after stage stmt reply)
stage_after_in stage stmt (Began view) inside = inside
stage_after_in stage stmt (Got value) inside = inside
stage_after_in stage stmt (Scanned rows) inside = inside
stage_after_in stage stmt (Wrote verb) inside = inside
stage_after_in stage stmt (Committed cts) inside = closed_in
stage_after_in stage stmt CommittedNone inside = closed_in
stage_after_in stage stmt (Unknown cts) inside = inside
stage_after_in stage stmt RolledBack inside = closed_in
stage_after_in stage stmt (Conflict verb cts) inside = skipping_in
stage_after_in stage stmt (Held verb name) inside = skipping_in
stage_after_in stage stmt (Full verb) inside = skipping_in
stage_after_in stage stmt Skipped inside = skipped_in (open_after stmt)
stage_after_in stage stmt (Stopped by) inside = inside

-- ---- by the session

module _ {D : Type 0} where
  -- the session that was set at the number
  pub set_may : (pr : PrimaryView D) (number : ℕ) (sessions : List Session) (s t : Session) → slice_get sessions number ≡ Some s → pr.book.sessions.items ≡ slice_set sessions number t → IsInTurns t.stage → MayTakeTurn pr number
  set_may pr number sessions s t found is inside = record {
    session = t;
    found = ap (λ (l : List Session). slice_get l number) is ∙ set_here sessions number t (slice_get_within sessions number s found);
    inside = inside;
  }

  -- the session that is there
  pub found_in : (pr : PrimaryView D) (number : ℕ) (s : Session) → IsSessionOf pr number s → MayTakeTurn pr number → IsInTurns s.stage
  found_in pr number s found may = stage_in s.stage may.session.stage (ap (λ (v : Session). v.stage) (one_of (slice_get pr.book.sessions.items number) may.session s may.found found)) may.inside

  pub comes_may : (g : Ghosts D) (run : Run) (pr : PrimaryView D) (n : NodeView) (number : ℕ) (s : Session) (line : Line) → ComesTo g run pr n number s line → MayTakeTurn pr number
  comes_may g run pr n number s line comes = record { session = s; found = comes.next.found; inside = comes.inside }
