-- What some primaries leave that ran on threads of their own.
use Rattle.std.proofs.Common.{◌≡◌, ℕ, zero, suc, false, List, [], ◌∷◌, length, slice_get, refl, sym, ap, subst, ◌∙◌, arith}
use Rattle.std.specs.List.{AllByRecursion, list_any}
use Rattle.mp_script.proofs.Options.{not_some, some_is}
use Rattle.mp_outside.specs.declared.disks.Disk.{Ghosts}
use Rattle.mp_files.specs.Nine.{At}
use Rattle.mp_shared.specs.Nodes.{Run, Reached}
use Rattle.mp_supports.specs.Work.{Work}
use Rattle.mp_primary.specs.Primaries.{PrimaryView}
use Rattle.mp_members.specs.declared.members.Members.{Members}
use Rattle.mp_members.specs.Running.{IsSameMember, AreSameMembers, RunsApart}
use Rattle.mp_members.proofs.SameMembers.{AreSameMembers-refl}
use Rattle.mp_threads.specs.declared.runner.Runner.{Runner}
use Rattle.mp_threads.specs.Threads.{AllMayRun, AllRanAlone, EndsApart}
use Rattle.mp_threads.specs.Dealing.{IsDealt, HasLeft, AllDealt, MayJoin, joined_runners}
use Rattle.mp_threads.proofs.Gathered.{ends_apart}

module _ {D : Type 0} (g : Ghosts D) where
  -- of no primary nothing is left
  pub none_ran : (run : Run) (prs : List (PrimaryView D)) (rs : List Runner) → length prs ≡ 0 → AllMayRun g run prs rs
      → AllRanAlone g run prs prs rs rs
  none_ran run [] [] none may = tt
  none_ran run [] (r ∷ rs) none may = absurd may
  none_ran run (pr ∷ prs) rs none may = absurd (omega (arith, none))

  module _ (run : Run) where
    pub all_may_join : (olds news : List (PrimaryView D)) (befores afters : List Runner) → AllRanAlone g run olds news befores afters
        → AllByRecursion (λ r. MayJoin run r.node) afters
    all_may_join [] [] [] [] ran = tt
    all_may_join (old ∷ olds) (new ∷ news) (before ∷ befores) (after ∷ afters) ran =
        (record { its_run = ran.0.has_only.its_run; frames = ran.0.has_only.frames }, all_may_join olds news befores afters ran.1)
    all_may_join [] [] [] (after ∷ afters) ran = absurd ran
    all_may_join [] [] (before ∷ befores) afters ran = absurd ran
    all_may_join [] (new ∷ news) befores afters ran = absurd ran
    all_may_join (old ∷ olds) [] befores afters ran = absurd ran
    all_may_join (old ∷ olds) (new ∷ news) [] afters ran = absurd ran
    all_may_join (old ∷ olds) (new ∷ news) (before ∷ befores) [] ran = absurd ran

    pub as_many_ran : (olds news : List (PrimaryView D)) (befores afters : List Runner) → AllRanAlone g run olds news befores afters
        → length news ≡ length olds
    as_many_ran [] [] [] [] ran = refl
    as_many_ran (old ∷ olds) (new ∷ news) (before ∷ befores) (after ∷ afters) ran = ap suc (as_many_ran olds news befores afters ran.1)
    as_many_ran [] [] [] (after ∷ afters) ran = absurd ran
    as_many_ran [] [] (before ∷ befores) afters ran = absurd ran
    as_many_ran [] (new ∷ news) befores afters ran = absurd ran
    as_many_ran (old ∷ olds) [] befores afters ran = absurd ran
    as_many_ran (old ∷ olds) (new ∷ news) [] afters ran = absurd ran
    as_many_ran (old ∷ olds) (new ∷ news) (before ∷ befores) [] ran = absurd ran

    pub each_ran : (olds news : List (PrimaryView D)) (befores afters : List Runner) → AllRanAlone g run olds news befores afters
        → (place : ℕ) → At (IsSameMember g) olds news place
    each_ran [] [] [] [] ran place x y was is = absurd (not_some x was)
    each_ran (old ∷ olds) (new ∷ news) (before ∷ befores) (after ∷ afters) ran zero x y was is =
        subst (λ (p : PrimaryView D). IsSameMember g p y) (some_is old x was)
        (subst (λ (p : PrimaryView D). IsSameMember g old p) (some_is new y is) ran.0.same)
    each_ran (old ∷ olds) (new ∷ news) (before ∷ befores) (after ∷ afters) ran (suc place) x y was is = each_ran olds news befores
        afters ran.1 place x y was is
    each_ran [] [] [] (after ∷ afters) ran place x y was is = absurd ran
    each_ran [] [] (before ∷ befores) afters ran place x y was is = absurd ran
    each_ran [] (new ∷ news) befores afters ran place x y was is = absurd ran
    each_ran (old ∷ olds) [] befores afters ran place x y was is = absurd ran
    each_ran (old ∷ olds) (new ∷ news) [] afters ran place x y was is = absurd ran
    each_ran (old ∷ olds) (new ∷ news) (before ∷ befores) [] ran place x y was is = absurd ran

  pub same_ran : (old new : Members D) (run : Run) (befores afters : List Runner) → new.shared ≡ old.shared → new.idle ≡ old.idle
      → AllRanAlone g run old.primaries.items new.primaries.items befores afters → AreSameMembers g old new
  same_ran old new run befores afters shared idle ran = record {
    shared = shared;
    idle = idle;
    count = as_many_ran run old.primaries.items new.primaries.items befores afters ran;
    each = each_ran run old.primaries.items new.primaries.items befores afters ran;
  }

  -- members of whose node parts were split off are the same
  pub same_dealt : (old new : Members D) → IsDealt old new → AreSameMembers g old new
  same_dealt old new dealt =
      let same = AreSameMembers-refl g old in
      record {
        shared = dealt.shared;
        idle = dealt.idle;
        count = ap (λ p. length p.items) dealt.primaries;
        each = λ place x y was is. same.each place x y was (ap (λ p. slice_get p.items place) (sym dealt.primaries) ∙ is);
      }

  -- ---- a whole run

  module _ (old mid : Members D) (dealt : IsDealt old mid) (befores : List Runner) where
    pub may_apart : AllMayRun g old.shared old.primaries.items befores → AllMayRun g mid.shared mid.primaries.items befores
    may_apart may =
        subst (λ (run : Run). AllMayRun g run mid.primaries.items befores) (sym dealt.shared)
        (subst (λ (prs : List (PrimaryView D)). AllMayRun g old.shared prs befores) (ap (λ p. p.items) (sym dealt.primaries)) may)

    module _ (new : Members D) (afters : List Runner) (shared : new.shared ≡ mid.shared) (idle : new.idle ≡ mid.idle)
        (ran : AllRanAlone g mid.shared mid.primaries.items new.primaries.items befores afters) where
      ran_apart : AllRanAlone g old.shared old.primaries.items new.primaries.items befores afters
      ran_apart =
          subst (λ (run : Run). AllRanAlone g run old.primaries.items new.primaries.items befores afters) dealt.shared
          (subst (λ (prs : List (PrimaryView D)). AllRanAlone g mid.shared prs new.primaries.items befores afters) (ap (λ p. p.items) dealt.primaries) ran)

      pub same_apart : AreSameMembers g old new
      same_apart = same_ran old new old.shared befores afters (shared ∙ dealt.shared) (idle ∙ dealt.idle) ran_apart

      pub ended_apart : HasLeft old.node (length old.primaries.items) mid.node
          → ((work : Work) → RunsApart g work old [] → AllDealt g work old.shared old.primaries.items befores)
          → list_any (λ r. r.short) afters ≡ false → new.node ≡ joined_runners mid.node afters → Reached new.node → EndsApart g old new
      ended_apart left all enough node reached work runs =
          ends_apart g work old new mid.node befores afters runs left (all work runs) ran_apart enough (shared ∙ dealt.shared) node reached
