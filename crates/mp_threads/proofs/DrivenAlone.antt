-- What the turns of a primary on its thread come to, one behind another, and one that is short of memory.
use Rattle.std.proofs.Common.{◌≡◌, ℕ, Bool, true, false, List, [], Option, None, Result, Ok, Err, OnErr, refl, sym, ap, subst, ◌∙◌, inl, append-nil}
use Rattle.std.specs.Result.{IfOk}
use Rattle.mp_machine.specs.View.{part_in}
use Rattle.mp_model.specs.declared.errors.Memory.{Memory}
use Rattle.mp_model.specs.declared.waiting.Turn.{Turn}
use Rattle.mp_model.specs.declared.waiting.Turn.TheVariants as turns
use Rattle.mp_core.specs.declared.event.CoreEvent.TheVariants.{Down}
use Rattle.mp_core.specs.declared.event.DownEvent.TheVariants.{StoreDown}
use Rattle.mp_outside.specs.declared.disks.Disk.{Ghosts}
use Rattle.mp_shared.specs.Nodes.{Run, NodeView, MayTake}
use Rattle.mp_shared.proofs.Holding.{held_part}
use Rattle.mp_supports.specs.Kept.{Entry}
use Rattle.mp_primary.specs.Primaries.{PrimaryView, PrimaryAgreesIn, StandsWith}
use Rattle.mp_primary.specs.Downs.{IsDownAsTold}
use Rattle.mp_primary.specs.Turns.{MayTakeTurn, TakesTurn}
use Rattle.mp_members.specs.Running.{IsThrough, IsSameMember}
use Rattle.mp_members.proofs.SameMembers.{IsSameMember-refl, IsSameMember-trans}
use Rattle.mp_threads.specs.declared.runner.Runner.{Runner}
use Rattle.mp_threads.specs.Threads.{HasOnly, StandsAlone, StandsSomehow, GoesAlone, MayRun, RanAlone}
use Rattle.mp_threads.specs.Dealing.{EndsBy, DroveAlone}
use Rattle.mp_members.proofs.Turns.{through_done, same_behind, same_without}
use Rattle.mp_threads.proofs.TurnsAlone.{turn_alone, GoesAlone-refl, GoesAlone-trans, stands_on}

module _ {D : Type 0} (g : Ghosts D) (run : Run) where
  -- ---- one behind another

  pub drove_nothing : (pr : PrimaryView D) (r : Runner) → MayRun g run pr r → DroveAlone g run pr pr r r
  drove_nothing pr r may = record {
    on = GoesAlone-refl g run pr r.node;
    same = IsSameMember-refl g pr;
    sessions = may.sessions;
    enough = may.enough;
  }

  pub drove_both : (old mid new : PrimaryView D) (before at after : Runner) → DroveAlone g run old mid before at
      → DroveAlone g run mid new at after → DroveAlone g run old new before after
  drove_both old mid new before at after first then_ = record {
    on = GoesAlone-trans g run old mid new before.node at.node after.node first.on then_.on;
    same = IsSameMember-trans g old mid new first.same then_.same;
    sessions = then_.sessions;
    enough = then_.enough;
  }

  pub may_still : (old new : PrimaryView D) (before after : Runner) → MayRun g run old before → DroveAlone g run old new before after
      → MayRun g run new after
  may_still old new before after may drove = record {
    stands = stands_on g run old new before.node after.node drove.on may.stands;
    sessions = drove.sessions;
    enough = drove.enough;
  }

  -- ---- at its end

  pub ran_through : (old new : PrimaryView D) (before after : Runner) → MayRun g run old before → DroveAlone g run old new before after
      → IsThrough new → RanAlone g run old new before after
  ran_through old new before after may drove through = record {
    same = drove.same;
    has_only = (stands_on g run old new before.node after.node drove.on may.stands).2.has_only;
    on = λ enough. drove.on;
    through = λ enough. through;
  }

  pub ran_short : (old new : PrimaryView D) (before after : Runner) → IsSameMember g old new → HasOnly run new.number after.node
      → after.short ≡ true → RanAlone g run old new before after
  ran_short old new before after same only short = record {
    same = same;
    has_only = only;
    on = λ enough. absurd (not_both after.short short enough);
    through = λ enough. absurd (not_both after.short short enough);
  }
    where
      not_both : (b : Bool) → b ≡ true → b ≡ false → ⊥
      not_both b t f = absurd cc

  -- ---- one turn

  module _ (old new : PrimaryView D) (before after : NodeView) where
    -- where there was no memory for it
    abbrev IsStill : Type 0
    IsStill = (new.media ≡ old.media) × (new.down ≡ old.down) × (new.number ≡ old.number) × (new.work ≡ old.work)
        × (new.book.answers.items ≡ old.book.answers.items)

    told_still : after ≡ before → new.down ≡ old.down → new.number ≡ old.number → IsDownAsTold old before → IsDownAsTold new after
    told_still node down number told q has =
        told q (ap (λ (n : NodeView). part_in n.parts old.number) (sym node) ∙ ap (part_in after.parts) (sym number) ∙ has) ∙ sym down

    only_as : after ≡ before → new.number ≡ old.number → HasOnly run old.number before → HasOnly run new.number after
    only_as node number only = subst (λ (k : ℕ). HasOnly run k after) (sym number)
        (subst (λ (n : NodeView). HasOnly run old.number n) (sym node) only)

    goes_without : (after ≡ before) × StandsWith g run new after
        → ((entries : List Entry) → PrimaryAgreesIn g old entries before → PrimaryAgreesIn g new entries after)
        → IsStill → ((number : ℕ) → MayTakeTurn old number → MayTakeTurn new number) → GoesAlone g run old new before after
    goes_without left kept still sessions work entries s = (
      [],
      subst (λ (l : List Entry). StandsAlone g work run new after l) (sym (append-nil entries)) (record {
        work_is = still.3 ∙ s.work_is;
        base = s.base;
        has_only = only_as left.0 still.2 s.has_only;
        stands = left.1;
        agrees = kept entries s.agrees;
        told = told_still left.0 still.1 still.2 s.told;
        may_turn = λ session low. sessions session (s.may_turn session low);
        answered = s.answered;
        views = s.views;
      }),
    )

    module _ (session : Option ℕ) where
      pub turn_goes : (r : Result Turn Memory) → IfOk r (TakesTurn g run old new before after session)
          → OnErr r ((after ≡ before) × StandsWith g run new after)
          → OnErr r ((entries : List Entry) → PrimaryAgreesIn g old entries before → PrimaryAgreesIn g new entries after)
          → OnErr r IsStill → OnErr r ((number : ℕ) → MayTakeTurn old number → MayTakeTurn new number)
          → GoesAlone g run old new before after
      turn_goes (Ok turn) takes left kept still sessions = turn_alone g run old new before after session turn takes
      turn_goes (Err memory) takes left kept still sessions = goes_without left kept still sessions

      pub turn_same : (r : Result Turn Memory) → IfOk r (TakesTurn g run old new before after session) → OnErr r IsStill
          → IsSameMember g old new
      turn_same (Ok turn) takes still = same_behind g old new run before after session turn takes
      turn_same (Err memory) takes still = same_without g old new still.0 still.1 still.2 still.3

      ended_by : (turn : Turn) → TakesTurn g run old new before after session turn → session ≡ None → EndsBy new turn
      ended_by turns.Answered takes none = tt
      ended_by (turns.Waiting cause) takes none = tt
      ended_by turns.Done takes none = through_done g old new run before after session turns.Done takes none refl
      ended_by (turns.Stopped by) takes none = λ up. (takes.stopped.0 by refl).1 (sym (takes.stopped.0 by refl).0 ∙ up)

      pub turn_ends : (r : Result Turn Memory) → IfOk r (TakesTurn g run old new before after session) → session ≡ None
          → IfOk r (EndsBy new)
      turn_ends (Ok turn) takes none = ended_by turn takes none
      turn_ends (Err memory) takes none = tt

  -- ---- telling that it is down

  module _ (pr : PrimaryView D) (n : NodeView) (stands : StandsSomehow g run pr n) where
    -- one that is up may store its own number
    pub may_tell_own : pr.down ≡ 0 → MayTake (Down (StoreDown pr.number pr.number)) n
    may_tell_own up =
        let q = held_part n pr.number stands.2.stands.desk.part in
        (q.0, q.1, (q.2, (stands.2.told q.0 q.1 ∙ up, inl refl)))
