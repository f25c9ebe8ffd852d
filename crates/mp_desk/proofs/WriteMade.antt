-- A write from its first look to its mtr, through the states that its calls leave.
use Rattle.std.proofs.Common.{◌≡◌, ℕ, ◌+◌, ◌<◌, length, Some, refl, sym, ap, subst, ◌∙◌}
use Rattle.mp_machine.specs.View.{part_in}
use Rattle.mp_cells.specs.declared.records.Mtr.{Mtr}
use Rattle.mp_cells.specs.declared.rows.Row.{Row}
use Rattle.mp_cells.specs.Plans.{plan_of}
use Rattle.mp_core_trx.specs.declared.part.Begun.{Begun}
use Rattle.mp_core_pages.specs.declared.opening.TheConstants.{MOST_MTRS}
use Rattle.mp_core_pages.specs.declared.part.Placed.{Placed}
use Rattle.mp_core.specs.declared.part.CorePart.{CorePart}
use Rattle.mp_shared.specs.Nodes.{Run, NodeView}
use Rattle.mp_shared.proofs.Holding.{held_part}
use Rattle.mp_buffer_fusion.proofs.Visiting.{one_part}
use Rattle.mp_supports.specs.Seeing.{IsSeenBy}
use Rattle.mp_supports.specs.Steps.{OnlyLooked, MadeOne}
use Rattle.mp_tree.specs.declared.write.Write.{Write}
use Rattle.mp_desk.specs.declared.desk.Desk.{Desk}
use Rattle.mp_desk.specs.declared.halts.WriteHalt.{WriteHalt}
use Rattle.mp_desk.specs.Desks.{IsAtDesk, IsReadAfresh, KeepsLocks, Brings, Moves, AreGivenSince}
use Rattle.mp_desk.specs.Planned.{PlansWrite, HasTaken}
use Rattle.mp_desk.specs.Making.{llsn_in, mtr_of_plan, MayPlan, IsMadeAfter, SomeForced}
use Rattle.mp_desk.specs.Statements.{ReadsIn, LooksOn, StaysQuiet, MakesThen}
use Rattle.mp_desk.specs.Writes.{ShowsReplaced, Withstands, HaltsPlan, PutsValue, HaltsWrite}
use Rattle.mp_desk.proofs.Moving.{looks_both, locks_both}
use Rattle.mp_desk.proofs.Looking.{look_brings, still_reads, still_afresh}
use Rattle.mp_desk.proofs.PlanRecords.{plan_of_records}
use Rattle.mp_desk.proofs.Replaced.{replaced_kept, halts_withstood}
use Rattle.mp_desk.proofs.WritePlanned.{may_put, puts_value}
use Rattle.mp_desk.proofs.ValuePut.{force_quiet, makes_then, made_after, force_held, force_locks, quiet_reads, quiet_seen, taken_on, halts_plan}
use Rattle.mp_desk.proofs.PutBackRows.{moves_quiet_looked, few_quiet}

module _ (run : Run) (p : ℕ) (trx : Begun) (key : ℕ) (one two : Desk) (a b c : NodeView) (at : IsAtDesk run one p a) (afresh : IsReadAfresh one p a) (reads : ReadsIn p trx a) (looks : LooksOn p one two a b) (at_two : IsAtDesk run two p b) where
  pub reads_then : ReadsIn p trx b
  reads_then = still_reads run p one two a b at looks trx reads

  module _ (former : Row) (shows : ShowsReplaced two.pool key former) (stood : Brings 0 p two two b c) (at_stood : IsAtDesk run two p c) where
    stood_looks : LooksOn p two two b c
    stood_looks = look_brings p 0 two two b c stood (refl, refl)

    pub stood_looked : Moves OnlyLooked p a c
    stood_looked = looks_both p a b c looks.looked stood.looked

    pub stood_locks : KeepsLocks p a c
    stood_locks = locks_both p a b c looks.locks stood.locks

    pub stood_afresh : IsReadAfresh two p c
    stood_afresh = still_afresh run p two two b c at_two stood_looks (still_afresh run p one two a b at looks afresh)

    pub stood_reads : ReadsIn p trx c
    stood_reads = still_reads run p two two b c at_two stood_looks trx reads_then

    stood_given : (r : CorePart) → part_in c.parts p ≡ Some r → (start : CorePart) × AreGivenSince start r two.pool
    stood_given r there = let was = stood_afresh r there in (was.0, was.2)

    pub stood_halts : (halt : WriteHalt) → ((r : CorePart) → part_in c.parts p ≡ Some r → Withstands r trx former halt) → HaltsWrite p trx key a c halt
    stood_halts halt stops = let has = held_part c p at_stood.part in halts_withstood p trx key a c two.pool former shows stood_given (has.0, has.1) halt stops

    module _ (three : Desk) (d : NodeView) (plans : Brings 22 p two three c d) (at_three : IsAtDesk run three p d) where
      pub planned_looked : Moves OnlyLooked p a d
      planned_looked = looks_both p a c d stood_looked plans.looked

      pub planned_locks : KeepsLocks p a d
      planned_locks = locks_both p a c d stood_locks plans.locks

      pub planned_halts : (halt : WriteHalt) → HaltsPlan p c d halt → HaltsWrite p trx key a d halt
      planned_halts halt h = let has = held_part d p at_three.part in halts_plan p trx key a c d halt (has.0, has.1) stood_looked h

      module _ (e : NodeView) (forced : Moves SomeForced p d e) (at_forced : IsAtDesk run three p e) (write : Write) (of_trx : write.writer ≡ trx.id) (its_key : write.key ≡ key) (planned : PlansWrite three.pool three.undo write three.plan)
          (taken : HasTaken p three.pool three.plan d) (over : (r : CorePart) → part_in c.parts p ≡ Some r → IsSeenBy r trx.id trx.view former) where
        pub forced_quietly : Moves StaysQuiet p a e
        forced_quietly = force_quiet p a d e (moves_quiet_looked p a d planned_looked) forced

        pub forced_keeps : KeepsLocks p a e
        forced_keeps = locks_both p a d e planned_locks (force_locks p d e at_three.part forced)

        pub still_taken : HasTaken p three.pool three.plan e
        still_taken = taken_on p three three.plan d e (force_held p d e at_three.part forced) taken

        after_plan_quiet : Moves StaysQuiet p c e
        after_plan_quiet = force_quiet p c d e (moves_quiet_looked p c d plans.looked) forced

        its_reads : ReadsIn p trx e
        its_reads = quiet_reads p c e at_stood.part after_plan_quiet trx stood_reads

        its_over : (r : CorePart) → part_in e.parts p ≡ Some r → IsSeenBy r trx.id trx.view former
        its_over = quiet_seen p c e at_stood.part after_plan_quiet trx former over

        its_shows : ShowsReplaced three.pool write.key former
        its_shows = subst (λ (k : ℕ). ShowsReplaced three.pool k former) (sym its_key) (replaced_kept two three plans.desk key former shows)

        pub still_few : ((q : CorePart) → part_in a.parts p ≡ Some q → length q.pages.made < MOST_MTRS) → (r : CorePart) → part_in e.parts p ≡ Some r → length r.pages.made < MOST_MTRS
        still_few = few_quiet p MOST_MTRS a e at.part forced_quietly

        pub may_make : (q : CorePart) → part_in e.parts p ≡ Some q → MayPlan q three.plan
        may_make q has = may_put run three p e at_forced write planned former its_shows still_taken q has trx of_trx (its_reads q has) (its_over q has)

        module _ (f : NodeView) (x : Placed Mtr) (is : x.mtr ≡ mtr_of_plan three) (made : Moves (MadeOne x) p e f) (after : IsMadeAfter e x) where
          plan_is : plan_of x.mtr.records ≡ three.plan
          plan_is = ap (λ (m : Mtr). plan_of m.records) is ∙ plan_of_records (three.llsn + 1) (llsn_in three.pool) three.plan

          its_value : (r : CorePart) → part_in f.parts p ≡ Some r → PutsValue r trx key write.value former x.mtr
          its_value r there =
              let has = held_part e p at_forced.part in
              let now = made.mine has.0 has.1 in
              let same = one_part (part_in f.parts p) now.0 r now.1 there in
              subst (λ (k : ℕ). PutsValue r trx k write.value former x.mtr) its_key
              (subst (λ (y : CorePart). PutsValue y trx write.key write.value former x.mtr) same
              (puts_value run three p e at_forced write planned former its_shows still_taken has.0 has.1 trx of_trx (its_reads has.0 has.1) (its_over has.0 has.1) now.0 now.2.extends x.mtr plan_is))

          pub wrote_value : (y : Placed Mtr) × Moves (MakesThen y) p a f × IsMadeAfter a y × ((r : CorePart) → part_in f.parts p ≡ Some r → PutsValue r trx key write.value former y.mtr)
          wrote_value = (x, makes_then p x a e f forced_quietly made, made_after p x a e forced_quietly after, its_value)
