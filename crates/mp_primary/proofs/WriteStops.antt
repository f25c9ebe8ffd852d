-- A write whose log's disk failed leaves its primary down with its own number.
use Rattle.std.proofs.Common.{◌≡◌, ℕ, sym, ap, subst, ◌∙◌}
use Rattle.mp_model.specs.declared.replies.WriteVerb.{WriteVerb}
use Rattle.mp_core_trx.specs.declared.part.Begun.{Begun}
use Rattle.mp_outside.specs.declared.disks.Disk.{Ghosts}
use Rattle.mp_shared.specs.Nodes.{Run, NodeView}
use Rattle.mp_supports.specs.Supports.{no_trace}
use Rattle.mp_primary.specs.Primaries.{PrimaryView}
use Rattle.mp_primary.specs.AtWork.{HasGoneDown}
use Rattle.mp_primary.specs.WriteTurns.{HasFailedWrite}

module _ {D : Type 0} (g : Ghosts D) (run : Run) (old now inside : PrimaryView D) (view : inside ≡ now) (before n : NodeView) (number : ℕ) (trx : Begun) (verb : WriteVerb) (key : ℕ) (failed : HasFailedWrite g run old now before n number trx verb key) where
  number_same : inside.number ≡ old.number
  number_same = ap (λ (v : PrimaryView D). v.number) view ∙ ap (λ (v : PrimaryView D). v.number) failed.rest

  pub failed_inside : HasGoneDown g run old (record inside { down = inside.number }) before n no_trace
  failed_inside =
      subst (λ (k : ℕ). HasGoneDown g run old (record inside { down = k }) before n no_trace) (sym number_same)
      (subst (λ (v : PrimaryView D). HasGoneDown g run old (record v { down = old.number }) before n no_trace) (sym view) failed.gone)
