-- A run that has come to its end: what its primaries kept, over the parts of one world.
use Rattle.std.specs.Prelude.{◌≡◌, ◌≢◌, ℕ, true, List, [], length, is_some}
use Rattle.std.specs.List.{flat_map, AllByRecursion}
use Rattle.mp_model.specs.declared.histories.Opening.{Opening}
use Rattle.mp_model.specs.declared.transcripts.Down.{Down}
use Rattle.mp_script.specs.declared.statements.Script.{Script}
use Rattle.mp_script.specs.Execution.{is_session_on}
use Rattle.mp_script.specs.Below.{EachBelow, answered, stated}
use Rattle.mp_script.specs.BeginNames.{begin_names}
use Rattle.mp_script.specs.DownLines.{down_lines}
use Rattle.mp_cells.specs.PageView.{bits_set}
use Rattle.mp_cells.specs.Trees.{rows_in}
use Rattle.mp_core_trx.specs.Events.{IsNode}
use Rattle.mp_core.specs.declared.opening.CoreOpening.{CoreOpening}
use Rattle.mp_core.specs.Invariant.{NumbersFit}
use Rattle.mp_core.specs.World.{CoreWorld, core_part}
use Rattle.mp_facts.specs.Facts.{opening_pages, Facts}
use Rattle.mp_book.specs.Answered.{IsPlaced}
use Rattle.mp_supports.specs.Work.{Work}
use Rattle.mp_supports.specs.Seeing.{key_value_of}
use Rattle.mp_supports.specs.Kept.{Entry, answers_in, Kept}

-- The opening tells what the pages have that a run began from
pub record BeginsWith (o : CoreOpening) (opening : Opening) : Type 0 where
  pub base : opening.base ≡ o.trx.base.ts
  pub taken : opening.taken ≡ bits_set (opening_pages o 0).bits
  pub rows : opening.rows.items ≡ flat_map (λ row. key_value_of row.key row.value) (rows_in (opening_pages o))

-- What is answered are the script's statements, over what the store had reached
pub record IsWorkOf (work : Work) (script : Script) (o : CoreOpening) : Type 0 where
  pub lines : work.lines ≡ script.lines.items
  pub sessions : work.sessions ≡ script.sessions.items
  pub base : work.base ≡ o.trx.base
  pub primaries : script.primaries ≡ o.trx.primaries
  pub begins : o.trx.begins ≡ length (begin_names work.lines)

-- A RUN HAS COME TO ITS END: what each primary kept agrees with its part of one world that can be reached, each statement is
-- answered, and each primary that is down went down with one whose log failed, itself down
pub record Finished (work : Work) (script : Script) (opening : Opening) (o : CoreOpening) (w : CoreWorld) (down : ℕ → ℕ) (entries : ℕ → List Entry) (downs : List Down) : Type 0 where
  pub fit : NumbersFit o
  pub facts : Facts o w
  pub opened : BeginsWith o opening
  pub work_of : IsWorkOf work script o
  pub kept : (n : ℕ) → IsNode o.trx n → Kept work (core_part w n) (down n) (entries n)
  pub in_order : (n : ℕ) → IsNode o.trx n → EachBelow (IsPlaced work.lines work.sessions n) [] (answers_in (entries n))
  pub all : (n : ℕ) → IsNode o.trx n → AllByRecursion (λ e. is_some e.answer ≡ true) (entries n)
  pub none_left : (n session : ℕ) → IsNode o.trx n → is_session_on work.sessions session n ≡ true → answered session (answers_in (entries n)) ≡ stated session work.lines
  pub cause : (n : ℕ) → IsNode o.trx n → down n ≢ 0 → IsNode o.trx (down n) × (down (down n) ≡ down n)
  pub downs_are : downs ≡ down_lines down 1 o.trx.primaries
