-- What the primary's own sessions tell of the holder of a key: it is of another session than the statement's, and has written the key.
use Rattle.std.proofs.Common.{◌≡◌, ◌≢◌, ℕ, zero, suc, ◌+◌, ◌-◌, ◌==◌, ◌⊎◌, nat_lt, ◌&&◌, ◌||◌, not, Bool, true, false, if◌then◌else◌, List, [], ◌∷◌, length, filter, map, slice_get, Option, None, Some, IfSome, is_some, refl, sym, ap, subst, ◌∙◌, inl, inr, arith, eq-eqb, eqb-true}
use Rattle.std.proofs.lemmas.Bool.{cases_Bool}
use mathlib.Core.Bool.{false≢true}
use Rattle.std.specs.List.{list_any}
use Rattle.mp_model.specs.declared.ids.TrxId.{TrxId}
use Rattle.mp_model.specs.declared.ids.TrxName.{TrxName}
use Rattle.mp_script.specs.declared.statements.Line.{Line}
use Rattle.mp_script.specs.BeginNames.{name_of_line, begin_names}
use Rattle.mp_script.specs.Execution.{Execution, runs_on}
use Rattle.mp_script.specs.Transactions.{begins, begin_in, trx_in_lines, trx_at}
use Rattle.mp_script.specs.Right.{HasWritten}
use Rattle.mp_script.proofs.ScriptLines.{begin_between, begin_upto}
use Rattle.mp_script.proofs.AmongWrites.{one_wrote}
use Rattle.mp_cells.specs.declared.rows.Row.{Row}
use Rattle.mp_cells.specs.Trees.{row_at}
use Rattle.mp_core_trx.specs.declared.part.Begun.{Begun}
use Rattle.mp_core.specs.OwnMtrs.{same_id, is_id}
use Rattle.mp_book.specs.declared.session.Session.{Session}
use Rattle.mp_book.specs.declared.stage.Stage.{Stage}
use Rattle.mp_book.specs.declared.stage.Stage.TheVariants.{Closed, Open, Refused, Leaving, Skipping, Outside}
use Rattle.mp_book.specs.Orderly.{session_lines}
use Rattle.mp_book.specs.Stages.{trx_of_stage}
use Rattle.mp_book.specs.Answered.{execution_above, NoneShowsDown, HasWrittenHere}
use Rattle.mp_book.specs.Books.{TrxStands, StageStands, SessionStands, statements_upto}
use Rattle.mp_outside.specs.declared.disks.Disk.{Ghosts}
use Rattle.mp_shared.specs.Nodes.{Run, NodeView}
use Rattle.mp_shared.proofs.Holding.{held_part}
use Rattle.mp_supports.specs.Work.{Work, name_of}
use Rattle.mp_supports.specs.Agreement.{IsOpenAs}
use Rattle.mp_supports.proofs.Places.{at_place}
use Rattle.mp_primary.specs.Primaries.{PrimaryView, StandsWith}
use Rattle.mp_primary.specs.Holders.{id_in_turns, may_hold, may_hold_in, fits_book}
use Rattle.mp_primary.proofs.AnsweredTurns.{calm}

-- ---- the tests

-- a test of all rows finds whether one is the key's
pub row_any : (rows : List Row) (key : ℕ) → list_any (λ (row : Row). row.key == key) rows ≡ is_some (row_at key rows)
row_any [] key = refl
row_any (row ∷ rows) key = go (row.key == key) refl (row_any rows key)
  where
    go : (b : Bool) → (row.key == key) ≡ b → list_any (λ (x : Row). x.key == key) rows ≡ is_some (row_at key rows) → list_any (λ (x : Row). x.key == key) (row ∷ rows) ≡ is_some (row_at key (row ∷ rows))
    go true e rest = rw e refl
    go false e rest = rw e rest

both_true : (a b : Bool) → (a && b) ≡ true → (a ≡ true) × (b ≡ true)
both_true true b e = (refl, e)
both_true false b e = absurd (false≢true e)

one_true : (a b : Bool) → (a || b) ≡ true → (a ≡ true) ⊎ (b ≡ true)
one_true true b e = inl refl
one_true false b e = inr e

not_true : (a : Bool) → not a ≡ true → a ≡ false
not_true true e = absurd (false≢true e)
not_true false e = refl

same_ids : (a b : TrxId) → same_id a b ≡ true → a ≡ b
same_ids a b e =
    let first = both_true (a.node == b.node && a.slot == b.slot) (a.version == b.version) e in
    let pair = both_true (a.node == b.node) (a.slot == b.slot) first.0 in
    let node : a.node ≡ b.node = eqb-true a.node b.node pair.0 in
    let slot : a.slot ≡ b.slot = eqb-true a.slot b.slot pair.1 in
    let version : a.version ≡ b.version = eqb-true a.version b.version first.1 in
    ap (λ (k : ℕ). record { node = k; slot = a.slot; version = a.version }) node
    ∙ ap (λ (k : ℕ). record { node = b.node; slot = k; version = a.version }) slot
    ∙ ap (λ (k : ℕ). record { node = b.node; slot = b.slot; version = k }) version

-- a name of the script is that of a `begin`, which is a line of its session
begin_is_there : (lines : List Line) (i : ℕ) (name : TrxName) → slice_get (begin_names lines) i ≡ Some name → session_lines name.session lines ≡ [] → ⊥
begin_is_there [] i name e none = absurd cc
begin_is_there (line ∷ lines) i name e none = go (cases_Bool (begins (Some line.stmt))) (λ k is rest. begin_is_there lines k name is rest)
  where
    names_of : Bool → List TrxName
    names_of b = map name_of_line (if b then line ∷ filter (λ (l : Line). begins (Some l.stmt)) lines else filter (λ (l : Line). begins (Some l.stmt)) lines)

    kept_by : Bool → List Line
    kept_by b = if b then line ∷ session_lines name.session lines else session_lines name.session lines

    by_test : ((line.session == name.session) ≡ true) ⊎ ((line.session == name.session) ≡ false) → session_lines name.session lines ≡ []
    by_test (inl t) = let here : line ∷ session_lines name.session lines ≡ [] = sym (ap kept_by t) ∙ none in absurd cc
    by_test (inr f) = sym (ap kept_by f) ∙ none

    rest_none : session_lines name.session lines ≡ []
    rest_none = by_test (cases_Bool (line.session == name.session))

    its_line : name_of_line line ≡ name → ⊥
    its_line is =
        let t : (line.session == name.session) ≡ true = eq-eqb line.session name.session (ap (λ (n : TrxName). n.session) is) in
        let here : line ∷ session_lines name.session lines ≡ [] = sym (ap kept_by t) ∙ none in
        absurd cc

    at : (k : ℕ) → ((j : ℕ) → slice_get (begin_names lines) j ≡ Some name → session_lines name.session lines ≡ [] → ⊥) → slice_get (name_of_line line ∷ begin_names lines) k ≡ Some name → ⊥
    at zero below is = let same : name_of_line line ≡ name = cc in its_line same
    at (suc k) below is = below k is rest_none

    go : (begins (Some line.stmt) ≡ true) ⊎ (begins (Some line.stmt) ≡ false) → ((j : ℕ) → slice_get (begin_names lines) j ≡ Some name → session_lines name.session lines ≡ [] → ⊥) → ⊥
    go (inl t) below = at i below (sym (ap (λ (b : Bool). slice_get (names_of b) i) t) ∙ e)
    go (inr f) below = below i (sym (ap (λ (b : Bool). slice_get (names_of b) i) f) ∙ e) rest_none

name_there : (work : Work) (id : TrxId) (name : TrxName) → name_of work id ≡ Some name → (i : ℕ) × (slice_get (begin_names work.lines) i ≡ Some name)
name_there work id name named = go (cases_Bool (nat_lt work.base.version id.version))
  where
    by : Bool → Option TrxName
    by b = if b then slice_get (begin_names work.lines) (id.version - work.base.version - 1) else None

    go : (nat_lt work.base.version id.version ≡ true) ⊎ (nat_lt work.base.version id.version ≡ false) → (i : ℕ) × (slice_get (begin_names work.lines) i ≡ Some name)
    go (inl t) = (id.version - work.base.version - 1, sym (ap by t) ∙ named)
    go (inr f) = let none : None ≡ Some name = sym (ap by f) ∙ named in absurd cc

-- ---- the session

module _ (run : Execution) (primary number : ℕ) (s : Session) (id : TrxId) where
  -- a transaction with which a session's turns go on stands
  in_turns_stands : (stage : Stage) → StageStands run primary number s stage → is_id id (id_in_turns stage) ≡ true → (trx : Begun) × (trx_of_stage stage ≡ Some trx) × (trx.id ≡ id) × TrxStands run number s trx
  in_turns_stands Closed h e = absurd (false≢true e)
  in_turns_stands (Open trx) h e = (trx, refl, same_ids trx.id id e, h.0)
  in_turns_stands (Refused trx refusal) h e = (trx, refl, same_ids trx.id id e, h.0)
  in_turns_stands (Leaving trx) h e = (trx, refl, same_ids trx.id id e, h.0)
  in_turns_stands Skipping h e = absurd (false≢true e)
  in_turns_stands (Outside trx) h e = absurd (false≢true e)

  -- and has written each key of which it keeps a row
  stands_written : (trx : Begun) → TrxStands run number s trx → (key : ℕ) → is_some (row_at key s.formers.items) ≡ true → HasWritten run (trx_at run number s.next) key
  stands_written trx h key kept =
      let one = one_wrote run (trx_at run number s.next) (statements_upto run number s.next) key (h.wrote key ∙ kept) in
      let first = begin_in run.lines number s.next in
      let upto = begin_upto run.lines number s.next in
      let lt = one.1 in
      record {
        index = first + suc one.0;
        its = ap (λ (k : ℕ). record { session = number; first = k }) (begin_between run.lines number s.next (first + suc one.0) (omega arith) (omega (arith, lt, upto)));
        written = one.2;
      }

module _ {D : Type 0} (g : Ghosts D) (run : Run) (old : PrimaryView D) (before : NodeView) (stands : StandsWith g run old before) (up : old.down ≡ 0) (number : ℕ) (id : TrxId) (key : ℕ) (name : TrxName) (named : name_of old.work id ≡ Some name) (fits : fits_book old number id key name ≡ true) where
  tests : (not (name.session == number) ≡ true) × (may_hold_in (slice_get old.book.sessions.items name.session) id key ≡ true)
  tests = both_true (not (name.session == number)) (may_hold_in (slice_get old.book.sessions.items name.session) id key) fits

  pub fits_apart : name.session ≢ number
  fits_apart is = false≢true (sym (not_true (name.session == number) tests.0) ∙ eq-eqb name.session number is)

  abbrev above : Execution
  above = execution_above old.work.lines old.work.sessions old.book.answers.items

  none_down : NoneShowsDown old.book.answers.items
  none_down =
      let has = held_part before old.number stands.desk.part in
      let was = stands.agrees.1 has.0 has.1 in
      subst NoneShowsDown was.answers (calm stands.agrees.0 (was.kept.up up))

  module _ (x : Session) (found : slice_get old.book.sessions.items name.session ≡ Some x) where
    stood : SessionStands old.work.lines old.work.sessions old.number old.book.answers.items name.session x
    stood = stands.primary.book.each name.session x found

    not_here : (length x.lines.items == 0) ≡ true → runs_on above name.session old.number ≡ true → HasWritten above name key
    not_here empty here =
        let none : x.lines.items ≡ [] = no_items x.lines.items (eqb-true (length x.lines.items) 0 empty) in
        let lines : session_lines name.session old.work.lines ≡ [] = sym (ap (λ (b : Bool). if b then session_lines name.session old.work.lines else []) here) ∙ sym stood.lines_are ∙ none in
        let at = name_there old.work id name named in
        absurd (begin_is_there old.work.lines at.0 name at.1 lines)
      where
        no_items : (xs : List Line) → length xs ≡ 0 → xs ≡ []
        no_items [] e = refl
        no_items (y ∷ xs) e = absurd (omega (arith, e))

    its_own : is_id id (id_in_turns x.stage) ≡ true → is_some (row_at key x.formers.items) ≡ true → HasWritten above name key
    its_own is kept =
        let t = in_turns_stands above old.number name.session x id x.stage (stood.stage none_down) is in
        let has = held_part before old.number stands.desk.part in
        let was = stands.agrees.1 has.0 has.1 in
        let each = (was.opens up).each x (at_place old.book.sessions.items name.session x found) in
        let its : IsOpenAs old.work has.0 0 x t.0 = subst (λ (o : Option Begun). IfSome o (IsOpenAs old.work has.0 0 x)) t.1 each in
        let both : Some name ≡ Some (trx_in_lines old.work.lines name.session x.next) = sym named ∙ ap (name_of old.work) (sym t.2) ∙ its.named ∙ ap (λ (k : ℕ). Some (trx_in_lines old.work.lines k x.next)) stood.number_is in
        let same : trx_in_lines old.work.lines name.session x.next ≡ name = cc in
        subst (λ (n : TrxName). HasWritten above n key) same (stands_written above old.number name.session x id t.0 t.3 key kept)

    by_session : may_hold x id key ≡ true → HasWrittenHere above old.number key name
    by_session holds here = go (one_true (length x.lines.items == 0) (is_id id (id_in_turns x.stage) && is_some (row_at key x.formers.items)) holds)
      where
        go : ((length x.lines.items == 0) ≡ true) ⊎ ((is_id id (id_in_turns x.stage) && is_some (row_at key x.formers.items)) ≡ true) → HasWritten above name key
        go (inl empty) = not_here empty here
        go (inr own) = let both = both_true (is_id id (id_in_turns x.stage)) (is_some (row_at key x.formers.items)) own in its_own both.0 both.1

  -- the holder has written the key, where it is of this primary
  pub fits_wrote : HasWrittenHere above old.number key name
  fits_wrote = go (slice_get old.book.sessions.items name.session) refl tests.1
    where
      go : (o : Option Session) → slice_get old.book.sessions.items name.session ≡ o → may_hold_in o id key ≡ true → HasWrittenHere above old.number key name
      go None is e = absurd (false≢true e)
      go (Some x) is e = by_session x is e
