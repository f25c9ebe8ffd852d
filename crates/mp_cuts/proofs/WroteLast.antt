-- What a commit wrote, by the records of its node, is what its transaction put last; and the commits of a history, however they are
-- ordered, are those of its mtrs.
use Rattle.std.proofs.Common.{◌≡◌, ◌⊎◌, ℕ, ◌==◌, Bool, true, false, cond, if◌then◌else◌, List, [], ◌∷◌, ◌++◌, map, filter, reverse, length, Option, Some, None, refl, sym, ap, subst, ◌∙◌, inl, inr, eq-eqb, append-nil}
use mathlib.Core.Bool.{false≢true}
use Rattle.std.specs.List.{flat_map, AllByRecursion}
use Rattle.std.proofs.lemmas.List.{map-append}
use Rattle.std.proofs.lemmas.Grind.{reverse_onto, flat_map-append}
use Rattle.mp_model.specs.declared.ids.TrxId.{TrxId}
use Rattle.mp_cells.specs.declared.changes.Change.TheVariants.{RestoreRow}
use Rattle.mp_cells.specs.declared.records.Mtr.{Mtr}
use Rattle.mp_cells.specs.declared.rows.Row.{Row}
use Rattle.mp_cells.specs.Trees.{PageMap}
use Rattle.mp_cells.specs.Plans.{Plan, plan_of}
use Rattle.mp_cells.specs.Writes.{rows_put}
use Rattle.mp_histories.specs.KeyOps.{KeyOp, put, same_writer, put_last}
use Rattle.mp_histories.specs.Commits.{Stamp, HasStamp}
use Rattle.mp_histories.specs.Histories.{History, Version, by_version, ops_on, commit_records, commits_in}
use Rattle.mp_histories.specs.Chains.{RunsFrom}
use Rattle.mp_histories.proofs.Lists.{filter-in, filter-out, some_same}
use Rattle.mp_histories.proofs.Writers.{decided, same_is, other_is}
use Rattle.mp_histories.proofs.MtrSteps.{put_on, back_on, none_on}
use Rattle.mp_recover.specs.KeptCommits.{KeptCommit, puts_by, kept_from, kept_commits, stamps_of, last_or_none, last_put, wrote_to}
use Rattle.mp_cuts.proofs.RowsStand.{row_of_version}

-- ---- the last row put

or_none : (x : Option Row) → last_or_none x None ≡ x
or_none None = refl
or_none (Some row) = refl

or_or : (x y z : Option Row) → last_or_none (last_or_none x y) z ≡ last_or_none x (last_or_none y z)
or_or None y z = refl
or_or (Some row) y z = refl

last_append : (key : ℕ) (xs ys : List Row) → last_put key (xs ++ ys) ≡ last_or_none (last_put key ys) (last_put key xs)
last_append key [] ys = sym (or_none (last_put key ys))
last_append key (row ∷ xs) ys =
    let this : Option Row = if row.key == key then Some row else None in
    ap (λ (x : Option Row). last_or_none x this) (last_append key xs ys) ∙ or_or (last_put key ys) (last_put key xs) this

-- the rows of a transaction that its node puts
abbrev pub OwnsPuts : TrxId → Mtr → Type 0
OwnsPuts id m = AllByRecursion (λ row. row.writer ≡ Some id → m.node ≡ id.node) (rows_put (plan_of m.records))

module _ (id : TrxId) where
  abbrev is_its : Row → Bool
  is_its row = same_writer row.writer (Some id)

  abbrev own_rows : Mtr → List Row
  own_rows m = filter is_its (rows_put (plan_of m.records))

  abbrev node_rows : Mtr → List Row
  node_rows m = if m.node == id.node then own_rows m else []

  none_own : (m : Mtr) (rows : List Row) → AllByRecursion (λ row. row.writer ≡ Some id → m.node ≡ id.node) rows → (m.node == id.node) ≡ false → filter is_its rows ≡ []
  none_own m [] owns other = refl
  none_own m (row ∷ rows) owns other = elim (decided (is_its row)) [
    | inl e ↦ absurd (false≢true (sym other ∙ eq-eqb m.node id.node (owns.0 (same_is row.writer (Some id) e))))
    | inr e ↦ filter-out is_its row rows e ∙ none_own m rows owns.1 other
  ]

  rows_of_node : (m : Mtr) → OwnsPuts id m → node_rows m ≡ own_rows m
  rows_of_node m owns = elim (decided (m.node == id.node)) [
    | inl e ↦ ap (λ (b : Bool). cond b (own_rows m) []) e
    | inr e ↦ ap (λ (b : Bool). cond b (own_rows m) []) e ∙ sym (none_own m (rows_put (plan_of m.records)) owns e)
  ]

  puts_step : (m : Mtr) (made : History) → OwnsPuts id m → puts_by id id.node (reverse (m ∷ made)) ≡ puts_by id id.node (reverse made) ++ own_rows m
  puts_step m made owns =
      ap (puts_by id id.node) (reverse_onto made m []) ∙ flat_map-append node_rows (reverse made) (m ∷ [])
      ∙ ap (λ (rows : List Row). puts_by id id.node (reverse made) ++ rows) (append-nil (node_rows m) ∙ rows_of_node m owns)

  module _ (key : ℕ) (opening : PageMap) where
    abbrev Same : History → Type 0
    Same made = last_put key (puts_by id id.node (reverse made)) ≡ row_of_version (put_last by_version (Some id) (ops_on key made))

    -- one more row
    last_step : (m : Mtr) (made : History) → OwnsPuts id m → last_put key (puts_by id id.node (reverse (m ∷ made))) ≡ last_or_none (last_put key (own_rows m)) (last_put key (puts_by id id.node (reverse made)))
    last_step m made owns = ap (last_put key) (puts_step m made owns) ∙ last_append key (puts_by id id.node (reverse made)) (own_rows m)

    by_both : (v : Version) (made : History) (before : Option Row) → before ≡ row_of_version (put_last by_version (Some id) (ops_on key made)) → (own here : Bool) → is_its v.row ≡ own → (v.row.key == key) ≡ here
        → last_or_none (last_put key (filter is_its (v.row ∷ []))) before ≡ row_of_version (put_last by_version (Some id) (cond here (put v ∷ []) [] ++ ops_on key made))
    by_both v made before rest true true e f =
        ap (λ (rows : List Row). last_or_none (last_put key rows) before) (filter-in is_its v.row [] e)
        ∙ ap (λ (t : Bool). last_or_none (last_or_none None (cond t (Some v.row) None)) before) f
        ∙ sym (ap (λ (t : Bool). row_of_version (cond t (Some v) (put_last by_version (Some id) (ops_on key made)))) e)
    by_both v made before rest true false e f =
        ap (λ (rows : List Row). last_or_none (last_put key rows) before) (filter-in is_its v.row [] e)
        ∙ ap (λ (t : Bool). last_or_none (last_or_none None (cond t (Some v.row) None)) before) f
        ∙ rest
    by_both v made before rest false true e f =
        ap (λ (rows : List Row). last_or_none (last_put key rows) before) (filter-out is_its v.row [] e)
        ∙ rest
        ∙ sym (ap (λ (t : Bool). row_of_version (cond t (Some v) (put_last by_version (Some id) (ops_on key made)))) e)
    by_both v made before rest false false e f = ap (λ (rows : List Row). last_or_none (last_put key rows) before) (filter-out is_its v.row [] e) ∙ rest

    one_put : (m : Mtr) (made : History) (row : Row) → rows_put (plan_of m.records) ≡ row ∷ [] → OwnsPuts id m → Same made → (here : Bool) → (row.key == key) ≡ here
        → ops_on key (m ∷ made) ≡ cond here (put (record { at = length made; row = row }) ∷ []) [] ++ ops_on key made → Same (m ∷ made)
    one_put m made row puts owns rest here here_is ops =
        last_step m made owns
        ∙ ap (λ (rows : List Row). last_or_none (last_put key (filter is_its rows)) (last_put key (puts_by id id.node (reverse made)))) puts
        ∙ by_both (record { at = length made; row = row }) made (last_put key (puts_by id id.node (reverse made))) rest (is_its row) here refl here_is
        ∙ ap (λ (l : List (KeyOp Version)). row_of_version (put_last by_version (Some id) l)) (sym ops)

    no_put : (m : Mtr) (made : History) → rows_put (plan_of m.records) ≡ [] → OwnsPuts id m → Same made → put_last by_version (Some id) (ops_on key (m ∷ made)) ≡ put_last by_version (Some id) (ops_on key made) → Same (m ∷ made)
    no_put m made puts owns rest ops =
        last_step m made owns
        ∙ ap (λ (rows : List Row). last_or_none (last_put key (filter is_its rows)) (last_put key (puts_by id id.node (reverse made)))) puts
        ∙ rest ∙ ap row_of_version (sym ops)

    back_same : (m : Mtr) (made : History) (row : Row) (page : ℕ) → plan_of m.records ≡ (page, RestoreRow row) ∷ [] → (here : Bool) → (row.key == key) ≡ here
        → put_last by_version (Some id) (ops_on key (m ∷ made)) ≡ put_last by_version (Some id) (ops_on key made)
    back_same m made row page one true e = ap (put_last by_version (Some id)) (back_on m row page one key true e made)
    back_same m made row page one false e = ap (put_last by_version (Some id)) (back_on m row page one key false e made)

    pub puts_are : (made : History) → RunsFrom opening made → AllByRecursion (OwnsPuts id) made → Same made
    puts_are [] runs owns = refl
    puts_are (m ∷ made) runs owns =
        let rest = puts_are made runs.1 owns.1 in
        elim (runs.0.kind) [
          | inl p ↦ one_put m made p.row p.well.puts owns.0 rest (p.row.key == key) refl (put_on m p.row p.well.puts p.well.restores key (p.row.key == key) refl made)
          | inr (inl p) ↦ no_put m made (ap (λ (plan : Plan). rows_put plan) p.well.one.1) owns.0 rest (back_same m made p.row p.well.one.0 p.well.one.1 (p.row.key == key) refl)
          | inr (inr p) ↦ no_put m made (ap (λ (plan : Plan). rows_put plan) (ap plan_of p.alone)) owns.0 rest (ap (put_last by_version (Some id)) (none_on m p key made))
        ]

-- ---- stamps

pub in_front : (stamps more : List Stamp) (writer : Option TrxId) (cts : ℕ) → HasStamp stamps writer cts → HasStamp (stamps ++ more) writer cts
in_front [] more writer cts has = absurd has
in_front (s ∷ stamps) more writer cts (inl is) = inl is
in_front (s ∷ stamps) more writer cts (inr has) = inr (in_front stamps more writer cts has)

pub in_back : (stamps more : List Stamp) (writer : Option TrxId) (cts : ℕ) → HasStamp more writer cts → HasStamp (stamps ++ more) writer cts
in_back [] more writer cts has = has
in_back (s ∷ stamps) more writer cts has = inr (in_back stamps more writer cts has)

pub in_either : (stamps more : List Stamp) (writer : Option TrxId) (cts : ℕ) → HasStamp (stamps ++ more) writer cts → HasStamp stamps writer cts ⊎ HasStamp more writer cts
in_either [] more writer cts has = inr has
in_either (s ∷ stamps) more writer cts (inl is) = inl (inl is)
in_either (s ∷ stamps) more writer cts (inr has) = elim (in_either stamps more writer cts has) [
  | inl front ↦ inl (inr front)
  | inr back ↦ inr back
]

abbrev pub stamps_in : List Mtr → List Stamp
stamps_in mtrs = flat_map (λ m. commit_records m.records) mtrs

abbrev kept_by : List Mtr → Mtr → Stamp → KeptCommit
kept_by all m stamp = record { id = stamp.id; cts = stamp.cts; puts = puts_by stamp.id m.node all }

one_stamps : (all : List Mtr) (m : Mtr) (stamps : List Stamp) → stamps_of (map (kept_by all m) stamps) ≡ stamps
one_stamps all m [] = refl
one_stamps all m (s ∷ stamps) = ap (λ (l : List Stamp). s ∷ l) (one_stamps all m stamps)

stamps_from : (all mtrs : List Mtr) → stamps_of (kept_from all mtrs) ≡ stamps_in mtrs
stamps_from all [] = refl
stamps_from all (m ∷ mtrs) =
    map-append (λ (k : KeptCommit). record { id = k.id; cts = k.cts }) (map (kept_by all m) (commit_records m.records)) (kept_from all mtrs)
    ∙ ap (λ (l : List Stamp). l ++ stamps_of (kept_from all mtrs)) (one_stamps all m (commit_records m.records))
    ∙ ap (λ (l : List Stamp). commit_records m.records ++ l) (stamps_from all mtrs)

pub stamps_are : (mtrs : List Mtr) → stamps_of (kept_commits mtrs) ≡ stamps_in mtrs
stamps_are mtrs = stamps_from mtrs mtrs

stamps_step : (m : Mtr) (made : History) → stamps_in (reverse (m ∷ made)) ≡ stamps_in (reverse made) ++ commit_records m.records
stamps_step m made =
    ap stamps_in (reverse_onto made m []) ∙ flat_map-append (λ (x : Mtr). commit_records x.records) (reverse made) (m ∷ [])
    ∙ ap (λ (l : List Stamp). stamps_in (reverse made) ++ l) (append-nil (commit_records m.records))

from_reverse : (made : History) (writer : Option TrxId) (cts : ℕ) → HasStamp (stamps_in (reverse made)) writer cts → HasStamp (commits_in made) writer cts
from_reverse [] writer cts has = has
from_reverse (m ∷ made) writer cts has =
    elim (in_either (stamps_in (reverse made)) (commit_records m.records) writer cts (subst (λ (l : List Stamp). HasStamp l writer cts) (stamps_step m made) has)) [
      | inl old ↦ in_back (commit_records m.records) (commits_in made) writer cts (from_reverse made writer cts old)
      | inr new ↦ in_front (commit_records m.records) (commits_in made) writer cts new
    ]

to_reverse : (made : History) (writer : Option TrxId) (cts : ℕ) → HasStamp (commits_in made) writer cts → HasStamp (stamps_in (reverse made)) writer cts
to_reverse [] writer cts has = has
to_reverse (m ∷ made) writer cts has = subst (λ (l : List Stamp). HasStamp l writer cts) (sym (stamps_step m made)) (
    elim (in_either (commit_records m.records) (commits_in made) writer cts has) [
      | inl new ↦ in_back (stamps_in (reverse made)) (commit_records m.records) writer cts new
      | inr old ↦ in_front (stamps_in (reverse made)) (commit_records m.records) writer cts (to_reverse made writer cts old)
    ]
    )

-- the commits that mtrs keep are those of the history, the last first
pub kept_to : (made : History) (writer : Option TrxId) (cts : ℕ) → HasStamp (commits_in made) writer cts → HasStamp (stamps_of (kept_commits (reverse made))) writer cts
kept_to made writer cts has = subst (λ (l : List Stamp). HasStamp l writer cts) (sym (stamps_are (reverse made))) (to_reverse made writer cts has)

pub kept_back : (made : History) (writer : Option TrxId) (cts : ℕ) → HasStamp (stamps_of (kept_commits (reverse made))) writer cts → HasStamp (commits_in made) writer cts
kept_back made writer cts has = from_reverse made writer cts (subst (λ (l : List Stamp). HasStamp l writer cts) (stamps_are (reverse made)) has)

-- ---- what a kept commit wrote

abbrev pub HasOwnPuts : List Mtr → KeptCommit → Type 0
HasOwnPuts all k = k.puts ≡ puts_by k.id k.id.node all

pub wrote_found : (all : List Mtr) (key : ℕ) (id : TrxId) (cts : ℕ) (commits : List KeptCommit) → AllByRecursion (HasOwnPuts all) commits → HasStamp (stamps_of commits) (Some id) cts
    → wrote_to key commits (Some id) ≡ last_put key (puts_by id id.node all)
wrote_found all key id cts [] own has = absurd has
wrote_found all key id cts (k ∷ commits) own has = elim (decided (same_writer (Some k.id) (Some id))) [
  | inl e ↦
      let same : k.id ≡ id = some_same k.id id (same_is (Some k.id) (Some id) e) in
      ap (λ (b : Bool). cond b (last_put key k.puts) (wrote_to key commits (Some id))) e
      ∙ ap (last_put key) (own.0 ∙ ap (λ (x : TrxId). puts_by x x.node all) same)
  | inr e ↦
      ap (λ (b : Bool). cond b (last_put key k.puts) (wrote_to key commits (Some id))) e
      ∙ wrote_found all key id cts commits own.1 (elim has [ inl here ↦ absurd (other_is (Some k.id) (Some id) e here.0) | inr there ↦ there ])
]

-- each commit record is in its transaction's node's mtrs
abbrev pub OwnsCommits : Mtr → Type 0
OwnsCommits m = AllByRecursion (λ (s : Stamp). m.node ≡ s.id.node) (commit_records m.records)

own_here : (all : List Mtr) (m : Mtr) (stamps : List Stamp) → AllByRecursion (λ (s : Stamp). m.node ≡ s.id.node) stamps → (rest : List KeptCommit) → AllByRecursion (HasOwnPuts all) rest
    → AllByRecursion (HasOwnPuts all) (map (kept_by all m) stamps ++ rest)
own_here all m [] owns rest more = more
own_here all m (s ∷ stamps) owns rest more = (ap (λ (n : ℕ). puts_by s.id n all) owns.0, own_here all m stamps owns.1 rest more)

pub own_puts : (all mtrs : List Mtr) → AllByRecursion OwnsCommits mtrs → AllByRecursion (HasOwnPuts all) (kept_from all mtrs)
own_puts all [] owns = tt
own_puts all (m ∷ mtrs) owns = own_here all m (commit_records m.records) owns.0 (kept_from all mtrs) (own_puts all mtrs owns.1)
