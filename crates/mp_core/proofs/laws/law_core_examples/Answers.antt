use Rattle.std.proofs.Common.{◌≡◌, ℕ, Option, None, Some, is_some, List, [], ◌∷◌, length, refl, sym, ap, ◌∙◌, inl, inr, ⊎_elim, arith, lit≤, lit<}
use mathlib.Core.Bool.{false≢true}
use Rattle.mp_cells.specs.declared.changes.Change.TheVariants.{RestoreRow, TakePage}
use Rattle.mp_cells.specs.declared.records.Mtr.{Mtr}
use Rattle.mp_cells.specs.declared.rows.Row.{Row}
use Rattle.mp_cells.specs.Plans.{Plan}
use Rattle.mp_cells.specs.Writes.{rows_restored}
use Rattle.mp_core_trx.specs.declared.part.Draw.{Draw}
use Rattle.mp_core_trx.specs.Examples.{first_trx}
use Rattle.mp_core_trx.specs.Parts.{draw_of}
use Rattle.mp_core_pages.specs.declared.part.Placed.{Placed}
use Rattle.mp_core.specs.declared.part.CorePart.{CorePart}
use Rattle.mp_core.specs.Commits.{commit_records}
use Rattle.mp_core.specs.MtrKinds.{MayRecordCommit, MayLog}
use Rattle.mp_core.proofs.laws.law_core_examples.Goals as goal

pub returns-clause-records : goal.returns-clause-records
returns-clause-records c = (
  (lit≤ tt, lit≤ tt),
  record { own = refl; above = lit< tt; next = lit≤ tt; few = lit< tt; touched = λ k touch. absurd (false≢true touch); prevs = tt },
  record {
    mtr = record { node_least = lit≤ tt; node_most = lit≤ tt; llsn_least = lit≤ tt; llsn = lit< tt; records = (refl, lit≤ tt, lit< tt) };
    meets = tt;
    kind = inr (inr record { id = first_trx; cts = 1; records = refl; begun = (0, inl refl); prepared = refl; drawn = inl refl; first = λ x c is told. absurd is; whole = λ x is of. absurd is });
  },
)

pub returns-clause-publishes : goal.returns-clause-publishes
returns-clause-publishes c = (
  ((lit≤ tt, lit≤ tt), (((0, inl refl), inr refl), inl refl)),
  record { commit = _; is_made = inl refl; records = refl; durable = lit≤ tt },
)

-- what has no rows puts none, and a plan without a restore puts none back
no_rows : (row : Row) → ¬ ([] ≡ row ∷ [])
no_rows row is = let count = ap (λ (rows : List Row). length rows) is in absurd (omega (arith, count))

no_back : (plan : Plan) (page : ℕ) (row : Row) → rows_restored plan ≡ [] → ¬ (plan ≡ (page, RestoreRow row) ∷ [])
no_back plan page row none is = no_rows row (sym none ∙ ap (λ (p : Plan). rows_restored p) is)

no_commit : (d : Draw) → ¬ (None ≡ Some d)
no_commit d is = absurd (false≢true (ap (λ (x : Option Draw). is_some x) is))

-- a commit record is of no other kind
only_commit : (p : CorePart) (node llsn : ℕ) (P : Type 0) → MayLog p record { node = node; llsn = llsn; records = commit_records first_trx 1 } → (MayRecordCommit p record { node = node; llsn = llsn; records = commit_records first_trx 1 } → P) → P
only_commit p node llsn P may then =
    ⊎_elim (λ put. absurd (no_rows put.row put.well.puts))
    (λ more. ⊎_elim (λ back. absurd (no_back [] back.well.one.0 back.row refl back.well.one.1)) then more) may.kind

pub returns-clause-no_record_before_the_draw : goal.returns-clause-no_record_before_the_draw
returns-clause-no_record_before_the_draw c = λ may. only_commit _ 1 1 ⊥ may.2 (λ commit. commit.drawn)

pub returns-clause-no_second_record : goal.returns-clause-no_second_record
returns-clause-no_second_record c = λ may. only_commit _ 1 2 ⊥ may.2 (λ commit. commit.first _ commit.cts (inl refl) commit.records)

pub returns-clause-no_end_without_record : goal.returns-clause-no_end_without_record
returns-clause-no_end_without_record c = λ may. may.1.is_made

pub returns-clause-no_end_before_durable : goal.returns-clause-no_end_before_durable
returns-clause-no_end_before_durable c = λ may.
    let durable = may.1.durable in
    ⊎_elim (λ is. let llsn = ap (λ (x : Placed Mtr). x.mtr.llsn) is in absurd (omega (arith, llsn, durable))) (λ none. none) may.1.is_made

pub returns-clause-no_change_without_a_row : goal.returns-clause-no_change_without_a_row
returns-clause-no_change_without_a_row c = λ may.
    ⊎_elim (λ put. no_rows put.row put.well.puts)
    (λ more. ⊎_elim (λ back. no_back ((0, TakePage 2) ∷ []) back.well.one.0 back.row refl back.well.one.1) (λ commit. no_commit (draw_of commit.id commit.cts) commit.records) more) may.2.kind

pub returns-clause-down_by_itself : goal.returns-clause-down_by_itself
returns-clause-down_by_itself c = ((lit≤ tt, lit≤ tt), (refl, inl refl))

pub returns-clause-down_after_another : goal.returns-clause-down_after_another
returns-clause-down_after_another c = ((lit≤ tt, lit≤ tt), (refl, inr (2, inl refl)))

pub returns-clause-no_untold_down : goal.returns-clause-no_untold_down
returns-clause-no_untold_down c = λ may. ⊎_elim (λ (own : 2 ≡ 1). absurd (omega (arith, own))) (λ none. none.1) may.1.1

pub returns-clause-no_second_down : goal.returns-clause-no_second_down
returns-clause-no_second_down c = λ may. let up = may.1.0 in absurd (omega (arith, up))
