-- The newest counted version of a key is the last write of the commits in ascending timestamp.
use Rattle.std.proofs.Common.{◌≡◌, ◌≢◌, ◌⊎◌, ℕ, ◌<◌, ◌≤◌, ◌==◌, Bool, true, false, cond, List, [], ◌∷◌, ◌++◌, Option, Some, None, refl, sym, ap, subst, ◌∙◌, inl, inr, arith}
use Rattle.std.specs.Prelude.{nat_lt, map}
use Rattle.std.specs.List.{flat_map, AllByRecursion}
use Rattle.std.proofs.lemmas.Bool.{cases_Bool, ltb-true, ltb-false}
use Rattle.mp_model.specs.declared.ids.TrxId.{TrxId}
use Rattle.mp_model.specs.declared.key_value.KeyWrite.{KeyWrite}
use Rattle.mp_cells.specs.declared.rows.Row.{Row}
use Rattle.mp_cells.specs.Orders.{placed, sorted_by}
use Rattle.mp_histories.specs.KeyOps.{same_writer, newest_by, newest_below, newest_each}
use Rattle.mp_histories.specs.Commits.{HasStamp, Falls, StandsFor}
use Rattle.mp_histories.specs.Chains.{row_over}
use Rattle.mp_histories.proofs.Writers.{same_is, same_itself, same_from, other_from, other_is}
use Rattle.mp_recover.specs.KeptCommits.{KeptCommit, CommitsOnce, stamps_of, last_or_none, last_put, wrote_to, write_of}
use Rattle.mp_recover.specs.Settled.{is_counted, first_counted}
use Rattle.mp_recover.proofs.LastWrites.{last_value}

abbrev row_by : Row → Option TrxId
row_by row = row.writer

some_row : (a b : Row) → Some a ≡ Some b → a ≡ b
some_row a b h = cc

no_row : (a : Row) → ◌≡◌ {A = Option Row} None (Some a) → ⊥
no_row a h = absurd cc

some_id : (a b : TrxId) → Some a ≡ Some b → a ≡ b
some_id a b h = cc

-- ---- the writes of commits, one after another

-- the value of a row that was put, or what was there before
abbrev pub value_or : Option (List ℕ) → Option Row → Option (List ℕ)
value_or before None = before
value_or before (Some row) = row.value

last_of : (key : ℕ) (row : Row) (rest : Option Row) (before : Option (List ℕ)) → value_or before (last_or_none rest (cond (row.key == key) (Some row) None)) ≡ value_or (cond (row.key == key) row.value before) rest
last_of key row (Some later) before = refl
last_of key row None before = elim (cases_Bool (row.key == key)) [ inl e ↦ rw e refl | inr e ↦ rw e refl ]

last_puts : (key : ℕ) (rows : List Row) (more : List KeyWrite) (before : Option (List ℕ)) → last_value key (map write_of rows ++ more) before ≡ last_value key more (value_or before (last_put key rows))
last_puts key [] more before = refl
last_puts key (row ∷ rows) more before =
    last_puts key rows more (cond (row.key == key) row.value before) ∙ ap (last_value key more) (sym (last_of key row (last_put key rows) before))

abbrev pub writes_of_all : List KeptCommit → List KeyWrite
writes_of_all commits = flat_map (λ k. map write_of k.puts) commits

-- none of the commits wrote to the key
abbrev pub NoneWrote : ℕ → List KeptCommit → Type 0
NoneWrote key commits = AllByRecursion (λ k. last_put key k.puts ≡ None) commits

pub none_last : (key : ℕ) (commits : List KeptCommit) (before : Option (List ℕ)) → NoneWrote key commits → last_value key (writes_of_all commits) before ≡ before
none_last key [] before none = refl
none_last key (k ∷ commits) before none =
    last_puts key k.puts (writes_of_all commits) before ∙ ap (λ (o : Option Row). last_value key (writes_of_all commits) (value_or before o)) none.0 ∙ none_last key commits before none.1

-- ---- the commit with the greatest timestamp among those that wrote to the key

-- a commit wrote nothing to the key, or has a lower timestamp
abbrev pub Lower : ℕ → ℕ → KeptCommit → Type 0
Lower key cts k = (last_put key k.puts ≡ None) ⊎ (k.cts < cts)

-- one wrote this row to the key at this timestamp, and all others are lower
abbrev pub IsBest : ℕ → ℕ → Row → List KeptCommit → Type 0
IsBest key cts row [] = ⊥
IsBest key cts row (k ∷ commits) = ((last_put key k.puts ≡ Some row) × (k.cts ≡ cts) × AllByRecursion (Lower key cts) commits) ⊎ (Lower key cts k × IsBest key cts row commits)

abbrev cts_of : KeptCommit → ℕ
cts_of k = k.cts

all_placed : (P : KeptCommit → Type 0) (x : KeptCommit) (commits : List KeptCommit) → P x → AllByRecursion P commits → AllByRecursion P (placed cts_of x commits)
all_placed P x [] one all = (one, tt)
all_placed P x (k ∷ commits) one all = elim (cases_Bool (nat_lt k.cts x.cts)) [
  | inl lt ↦ rw lt (all.0, all_placed P x commits one all.1)
  | inr ge ↦ rw ge (one, all)
]

pub all_sorted : (P : KeptCommit → Type 0) (commits : List KeptCommit) → AllByRecursion P commits → AllByRecursion P (sorted_by cts_of commits)
all_sorted P [] all = tt
all_sorted P (k ∷ commits) all = all_placed P k (sorted_by cts_of commits) all.0 (all_sorted P commits all.1)

-- timestamps ascend, or stay
abbrev Ascends : List KeptCommit → Type 0
Ascends [] = Unit {0}
Ascends (k ∷ commits) = AllByRecursion (λ later. k.cts ≤ later.cts) commits × Ascends commits

all_above : (low high : ℕ) (commits : List KeptCommit) → low ≤ high → AllByRecursion (λ (k : KeptCommit). high ≤ k.cts) commits → AllByRecursion (λ (k : KeptCommit). low ≤ k.cts) commits
all_above low high [] le all = tt
all_above low high (k ∷ commits) le all = (omega (arith, le, all.0), all_above low high commits le all.1)

placed_ascends : (x : KeptCommit) (commits : List KeptCommit) → Ascends commits → Ascends (placed cts_of x commits)
placed_ascends x [] order = (tt, tt)
placed_ascends x (k ∷ commits) order = elim (cases_Bool (nat_lt k.cts x.cts)) [
  | inl lt ↦ (let below : k.cts < x.cts = ltb-true k.cts x.cts lt in rw lt (all_placed (λ later. k.cts ≤ later.cts) x commits (omega (arith, below)) order.0, placed_ascends x commits order.1))
  | inr ge ↦ (let above : x.cts ≤ k.cts = ltb-false k.cts x.cts ge in rw ge ((above, all_above x.cts k.cts commits above order.0), order))
]

sorted_ascends : (commits : List KeptCommit) → Ascends (sorted_by cts_of commits)
sorted_ascends [] = tt
sorted_ascends (k ∷ commits) = placed_ascends k (sorted_by cts_of commits) (sorted_ascends commits)

best_here : (key cts : ℕ) (row : Row) (x : KeptCommit) (commits : List KeptCommit) → last_put key x.puts ≡ Some row → x.cts ≡ cts → AllByRecursion (Lower key cts) commits → IsBest key cts row (placed cts_of x commits)
best_here key cts row x [] wrote at lower = inl (wrote, at, tt)
best_here key cts row x (k ∷ commits) wrote at lower = elim (cases_Bool (nat_lt k.cts x.cts)) [
  | inl lt ↦ rw lt (inr (lower.0, best_here key cts row x commits wrote at lower.1))
  | inr ge ↦ rw ge (inl (wrote, at, lower))
]

best_later : (key cts : ℕ) (row : Row) (x : KeptCommit) (commits : List KeptCommit) → Lower key cts x → IsBest key cts row commits → IsBest key cts row (placed cts_of x commits)
best_later key cts row x [] low best = absurd best
best_later key cts row x (k ∷ commits) low best = elim (cases_Bool (nat_lt k.cts x.cts)) [
  | inl lt ↦ rw lt (elim best [
    | inl here ↦ inl (here.0, here.1, all_placed (Lower key cts) x commits low here.2)
    | inr later ↦ inr (later.0, best_later key cts row x commits low later.1)
  ])
  | inr ge ↦ rw ge (inr (low, best))
]

best_sorted : (key cts : ℕ) (row : Row) (commits : List KeptCommit) → IsBest key cts row commits → IsBest key cts row (sorted_by cts_of commits)
best_sorted key cts row [] best = absurd best
best_sorted key cts row (k ∷ commits) best = elim best [
  | inl here ↦ best_here key cts row k (sorted_by cts_of commits) here.0 here.1 (all_sorted (Lower key cts) commits here.2)
  | inr later ↦ best_later key cts row k (sorted_by cts_of commits) later.0 (best_sorted key cts row commits later.1)
]

lower_none : (key cts : ℕ) (commits : List KeptCommit) → AllByRecursion (λ (k : KeptCommit). cts ≤ k.cts) commits → AllByRecursion (Lower key cts) commits → NoneWrote key commits
lower_none key cts [] above lower = tt
lower_none key cts (k ∷ commits) above lower = (elim lower.0 [ inl none ↦ none | inr lt ↦ (let ge : cts ≤ k.cts = above.0 in absurd (omega (arith, lt, ge))) ], lower_none key cts commits above.1 lower.1)

best_last : (key cts : ℕ) (row : Row) (commits : List KeptCommit) (before : Option (List ℕ)) → Ascends commits → IsBest key cts row commits → last_value key (writes_of_all commits) before ≡ row.value
best_last key cts row [] before order best = absurd best
best_last key cts row (k ∷ commits) before order best = elim best [
  | inl here ↦
      last_puts key k.puts (writes_of_all commits) before ∙ ap (λ (o : Option Row). last_value key (writes_of_all commits) (value_or before o)) here.0
      ∙ none_last key commits row.value (lower_none key cts commits (subst (λ (n : ℕ). AllByRecursion (λ (later : KeptCommit). n ≤ later.cts) commits) here.1 order.0) here.2)
  | inr later ↦ last_puts key k.puts (writes_of_all commits) before ∙ best_last key cts row commits (value_or before (last_put key k.puts)) order.1 later.1
]

pub best_value : (key cts : ℕ) (row : Row) (commits : List KeptCommit) (before : Option (List ℕ)) → IsBest key cts row commits → last_value key (writes_of_all (sorted_by (λ k. k.cts) commits)) before ≡ row.value
best_value key cts row commits before best = best_last key cts row (sorted_by cts_of commits) before (sorted_ascends commits) (best_sorted key cts row commits best)

pub none_value : (key : ℕ) (commits : List KeptCommit) (before : Option (List ℕ)) → NoneWrote key commits → last_value key (writes_of_all (sorted_by (λ k. k.cts) commits)) before ≡ before
none_value key commits before none = none_last key (sorted_by cts_of commits) before (all_sorted (λ k. last_put key k.puts ≡ None) commits none)

-- ---- each transaction commits once

-- what is known of a commit among some
pub record IsAmong (key : ℕ) (commits : List KeptCommit) (k : KeptCommit) : Type 0 where
  pub has : HasStamp (stamps_of commits) (Some k.id) k.cts
  pub only : (cts : ℕ) → HasStamp (stamps_of commits) (Some k.id) cts → cts ≡ k.cts
  pub wrote : wrote_to key commits (Some k.id) ≡ last_put key k.puts

none_has : (id : TrxId) (commits : List KeptCommit) (cts : ℕ) → AllByRecursion (λ (other : KeptCommit). id ≢ other.id) commits → HasStamp (stamps_of commits) (Some id) cts → ⊥
none_has id [] cts apart h = h
none_has id (k ∷ commits) cts apart (inl is) = apart.0 (sym (some_id k.id id is.0))
none_has id (k ∷ commits) cts apart (inr later) = none_has id commits cts apart.1 later

first_among : (key : ℕ) (k : KeptCommit) (commits : List KeptCommit) → AllByRecursion (λ (other : KeptCommit). k.id ≢ other.id) commits → IsAmong key (k ∷ commits) k
first_among key k commits apart = record { has = inl (refl, refl); only = only; wrote = rw (same_itself (Some k.id)) refl }
  where
    only : (cts : ℕ) → HasStamp (stamps_of (k ∷ commits)) (Some k.id) cts → cts ≡ k.cts
    only cts (inl is) = sym is.1
    only cts (inr later) = absurd (none_has k.id commits cts apart later)

later_among : (key : ℕ) (k j : KeptCommit) (commits : List KeptCommit) → k.id ≢ j.id → IsAmong key commits j → IsAmong key (k ∷ commits) j
later_among key k j commits apart among =
    let other : same_writer (Some k.id) (Some j.id) ≡ false = other_from (Some k.id) (Some j.id) (λ e. apart (some_id k.id j.id e)) in
    record { has = inr among.has; only = only; wrote = rw other among.wrote }
  where
    only : (cts : ℕ) → HasStamp (stamps_of (k ∷ commits)) (Some j.id) cts → cts ≡ j.cts
    only cts (inl is) = absurd (apart (some_id k.id j.id is.0))
    only cts (inr later) = among.only cts later

all_later : (key : ℕ) (k : KeptCommit) (commits js : List KeptCommit) → AllByRecursion (λ (other : KeptCommit). k.id ≢ other.id) js → AllByRecursion (IsAmong key commits) js → AllByRecursion (IsAmong key (k ∷ commits)) js
all_later key k commits [] apart all = tt
all_later key k commits (j ∷ js) apart all = (later_among key k j commits apart.0 all.0, all_later key k commits js apart.1 all.1)

pub all_among : (key : ℕ) (commits : List KeptCommit) → CommitsOnce commits → AllByRecursion (IsAmong key commits) commits
all_among key [] once = tt
all_among key (k ∷ commits) once = (first_among key k commits once.0, all_later key k commits commits once.0 (all_among key commits once.1))

-- ---- the versions of a key

abbrev Stamped : List KeptCommit → Option TrxId → ℕ → Type 0
Stamped commits = HasStamp (stamps_of commits)

-- versions of a writer that isn't asked for are passed over
newest_past : (w by : Option TrxId) (vs rest : List Row) → AllByRecursion (λ v. v.writer ≡ by) vs → by ≢ w → newest_by row_by w (vs ++ rest) ≡ newest_by row_by w rest
newest_past w by [] rest all apart = refl
newest_past w by (v ∷ vs) rest all apart = rw (other_from v.writer w (λ e. apart (sym all.0 ∙ e))) (newest_past w by vs rest all.1 apart)

none_newest : (w by : Option TrxId) (vs : List Row) → AllByRecursion (λ v. v.writer ≡ by) vs → by ≢ w → newest_by row_by w vs ≡ None
none_newest w by [] all apart = refl
none_newest w by (v ∷ vs) all apart = rw (other_from v.writer w (λ e. apart (sym all.0 ∙ e))) (none_newest w by vs all.1 apart)

newest_is : (w : Option TrxId) (vs : List Row) (u : Row) → newest_by row_by w vs ≡ Some u → u.writer ≡ w
newest_is w [] u e = absurd (no_row u e)
newest_is w (v ∷ vs) u e = elim (cases_Bool (same_writer v.writer w)) [
  | inl same ↦ (let is : v ≡ u = some_row v u (sym (rw same refl) ∙ e) in ap row_by (sym is) ∙ same_is v.writer w same)
  | inr other ↦ newest_is w vs u (sym (rw other refl) ∙ e)
]

-- what holds of the newest version of each writer below another's holds of a writer's newest version
newest_in : (P : Row → Type 0) (w by : Option TrxId) (vs : List Row) (u : Row) → w ≢ by → newest_by row_by w vs ≡ Some u → AllByRecursion P (newest_below row_by by vs) → P u
newest_in P w by [] u apart e all = absurd (no_row u e)
newest_in P w by (v ∷ vs) u apart e all = elim (cases_Bool (same_writer v.writer by)) [
  | inl same ↦
      (let own : v.writer ≡ by = same_is v.writer by same in
      newest_in P w by vs u apart (sym (rw (other_from v.writer w (λ z. apart (sym z ∙ own))) refl) ∙ e)
      (subst (λ (b : Bool). AllByRecursion P (cond b (newest_below row_by by vs) (v ∷ newest_below row_by v.writer vs))) same all))
  | inr other ↦
      (let here : AllByRecursion P (v ∷ newest_below row_by v.writer vs) = subst (λ (b : Bool). AllByRecursion P (cond b (newest_below row_by by vs) (v ∷ newest_below row_by v.writer vs))) other all in
      elim (cases_Bool (same_writer v.writer w)) [
        | inl this ↦ subst P (some_row v u (sym (rw this refl) ∙ e)) here.0
        | inr not_this ↦ newest_in P w v.writer vs u (λ z. other_is v.writer w not_this (sym z)) (sym (rw not_this refl) ∙ e) here.1
      ])
]

-- down falling versions each has a timestamp below the first one's
abbrev IsBelow : List KeptCommit → ℕ → Row → Type 0
IsBelow commits cts u = (c : ℕ) × Stamped commits u.writer c × (c < cts)

falls_below : (commits : List KeptCommit) (v : Row) (vs : List Row) (cts high : ℕ) → Falls row_by (Stamped commits) (Stamped commits) (v ∷ vs) → Stamped commits v.writer cts → cts ≤ high → AllByRecursion (IsBelow commits high) vs
falls_below commits v [] cts high falls has le = tt
falls_below commits v (w ∷ ws) cts high falls has le =
    let under = falls.0 in
    let lower : under.cts < cts = under.lower cts has in
    ((under.cts, under.commit, omega (arith, lower, le)), falls_below commits w ws under.cts high falls.1 under.commit (omega (arith, lower, le)))

module _ (key : ℕ) (commits : List KeptCommit) (last : Row) (versions : List Row) (once : CommitsOnce commits)
    (stands : StandsFor (λ (v : Row). v.writer) (HasStamp (stamps_of commits)) (wrote_to key commits) last versions) where
  -- what a commit put is its newest version
  put_newest : (k : KeptCommit) → IsAmong key commits k → last_put key k.puts ≡ newest_by row_by (Some k.id) versions
  put_newest k among = sym among.wrote ∙ sym (stands.newest_wrote (Some k.id) k.cts among.has)

  apart_from : (k : KeptCommit) → IsAmong key commits k → stands.writer ≢ Some k.id
  apart_from k among e = stands.not_listed k.cts (subst (λ (w : Option TrxId). Stamped commits w k.cts) (sym e) among.has)

  put_rest : (k : KeptCommit) → IsAmong key commits k → last_put key k.puts ≡ newest_by row_by (Some k.id) stands.rest
  put_rest k among =
      put_newest k among ∙ ap (newest_by row_by (Some k.id)) stands.split_is ∙ newest_past (Some k.id) stands.writer stands.unlisted stands.rest stands.of_one (apart_from k among)

  none_wrote : (ks : List KeptCommit) → AllByRecursion (IsAmong key commits) ks → stands.rest ≡ [] → NoneWrote key ks
  none_wrote [] all none = tt
  none_wrote (k ∷ ks) all none = (put_rest k all.0 ∙ ap (newest_by row_by (Some k.id)) none, none_wrote ks all.1 none)

  module _ (v : Row) (vs : List Row) (is : stands.rest ≡ v ∷ vs) (cts : ℕ) (has : Stamped commits v.writer cts) where
    all_below : AllByRecursion (IsBelow commits cts) (newest_below row_by v.writer vs)
    all_below = falls_below commits v (newest_below row_by v.writer vs) cts cts (subst (λ (rs : List Row). Falls row_by (Stamped commits) (Stamped commits) (newest_each row_by rs)) is stands.falls) has (omega arith)

    lower_other : (k : KeptCommit) → IsAmong key commits k → v.writer ≢ Some k.id → Lower key cts k
    lower_other k among apart = by_put (last_put key k.puts) refl
      where
        in_rest : last_put key k.puts ≡ newest_by row_by (Some k.id) vs
        in_rest = put_rest k among ∙ ap (newest_by row_by (Some k.id)) is ∙ rw (other_from v.writer (Some k.id) apart) refl

        by_put : (put : Option Row) → last_put key k.puts ≡ put → Lower key cts k
        by_put None e = inl e
        by_put (Some u) e =
            let newest : newest_by row_by (Some k.id) vs ≡ Some u = sym in_rest ∙ e in
            let below : IsBelow commits cts u = newest_in (IsBelow commits cts) (Some k.id) v.writer vs u (λ z. apart (sym z)) newest all_below in
            let same : below.0 ≡ k.cts = among.only below.0 (subst (λ (w : Option TrxId). Stamped commits w below.0) (newest_is (Some k.id) vs u newest) below.1) in
            inr (omega (arith, same, below.2))

    all_lower : (ks : List KeptCommit) → AllByRecursion (IsAmong key commits) ks → AllByRecursion (λ (k : KeptCommit). v.writer ≢ Some k.id) ks → AllByRecursion (Lower key cts) ks
    all_lower [] all apart = tt
    all_lower (k ∷ ks) all apart = (lower_other k all.0 apart.0, all_lower ks all.1 apart.1)

    others_apart : (k : KeptCommit) (ks : List KeptCommit) → Some k.id ≡ v.writer → AllByRecursion (λ (other : KeptCommit). k.id ≢ other.id) ks → AllByRecursion (λ (j : KeptCommit). v.writer ≢ Some j.id) ks
    others_apart k [] e all = tt
    others_apart k (j ∷ ks) e all = ((λ z. all.0 (some_id k.id j.id (e ∙ z))), others_apart k ks e all.1)

    head_put : (k : KeptCommit) → IsAmong key commits k → Some k.id ≡ v.writer → last_put key k.puts ≡ Some v
    head_put k among e = put_rest k among ∙ ap (newest_by row_by (Some k.id)) is ∙ rw (same_from v.writer (Some k.id) (sym e)) refl

    best_of : (ks : List KeptCommit) → AllByRecursion (IsAmong key commits) ks → CommitsOnce ks → HasStamp (stamps_of ks) v.writer cts → IsBest key cts v ks
    best_of [] all once_ there = absurd there
    best_of (k ∷ ks) all once_ (inl here) = inl (head_put k all.0 here.0, here.1, all_lower ks all.1 (others_apart k ks here.0 once_.0))
    best_of (k ∷ ks) all once_ (inr later) = inr (lower_other k all.0 (not_head k ks once_.0 later), best_of ks all.1 once_.1 later)
      where
        not_head : (j : KeptCommit) (js : List KeptCommit) → AllByRecursion (λ (other : KeptCommit). j.id ≢ other.id) js → HasStamp (stamps_of js) v.writer cts → v.writer ≢ Some j.id
        not_head j js apart there e = none_has j.id js cts apart (subst (λ (w : Option TrxId). HasStamp (stamps_of js) w cts) e there)

  -- the commits' last write is the first of the listed versions, or the last version's value
  pub rest_value : (rest : List Row) → stands.rest ≡ rest → last_value key (writes_of_all (sorted_by (λ k. k.cts) commits)) last.value ≡ (row_over rest last).value
  rest_value [] is = none_value key commits last.value (none_wrote commits (all_among key commits once) is)
  rest_value (v ∷ vs) is =
      let listed = subst (AllByRecursion (λ (u : Row). (cts : ℕ) × Stamped commits u.writer cts)) is stands.each_listed in
      best_value key listed.0.0 v commits last.value (best_of v vs is listed.0.0 listed.0.1 commits (all_among key commits once) once listed.0.1)

-- ---- which versions count

abbrev pub ids_of : List KeptCommit → List TrxId
ids_of commits = map (λ k. k.id) commits

listed_counts : (commits : List KeptCommit) (writer : Option TrxId) (cts : ℕ) → HasStamp (stamps_of commits) writer cts → is_counted (ids_of commits) writer ≡ true
listed_counts commits None cts there = refl
listed_counts [] (Some id) cts there = absurd there
listed_counts (k ∷ commits) (Some id) cts (inl here) = rw (same_from (Some k.id) (Some id) here.0) refl
listed_counts (k ∷ commits) (Some id) cts (inr later) = elim (cases_Bool (same_writer (Some k.id) (Some id))) [
  | inl same ↦ rw same refl
  | inr other ↦ rw other (listed_counts commits (Some id) cts later)
]

not_counted : (commits : List KeptCommit) (id : TrxId) → ((cts : ℕ) → HasStamp (stamps_of commits) (Some id) cts → ⊥) → is_counted (ids_of commits) (Some id) ≡ false
not_counted [] id none = refl
not_counted (k ∷ commits) id none = elim (cases_Bool (same_writer (Some k.id) (Some id))) [
  | inl same ↦ absurd (none k.cts (inl (same_is (Some k.id) (Some id) same, refl)))
  | inr other ↦ rw other (not_counted commits id (λ cts h. none cts (inr h)))
]

unlisted_not : (commits : List KeptCommit) (writer : Option TrxId) → writer ≢ None → ((cts : ℕ) → HasStamp (stamps_of commits) writer cts → ⊥) → is_counted (ids_of commits) writer ≡ false
unlisted_not commits None some_ none = absurd (some_ refl)
unlisted_not commits (Some id) some_ none = not_counted commits id none

first_past : (ids : List TrxId) (by : Option TrxId) (vs rest : List Row) (last : Row) → AllByRecursion (λ v. v.writer ≡ by) vs → is_counted ids by ≡ false → first_counted ids (vs ++ rest) last ≡ first_counted ids rest last
first_past ids by [] rest last all not_ = refl
first_past ids by (v ∷ vs) rest last all not_ = rw (all.0, not_) (first_past ids by vs rest last all.1 not_)

-- the first version that counts is the first of the listed ones, or the last
pub first_listed : (key : ℕ) (commits : List KeptCommit) (last : Row) (versions : List Row)
    (stands : StandsFor (λ (v : Row). v.writer) (HasStamp (stamps_of commits)) (wrote_to key commits) last versions) → AllByRecursion (λ (v : Row). v.writer ≢ None) versions
    → first_counted (ids_of commits) versions last ≡ row_over stands.rest last
first_listed key commits last versions stands written =
    ap (λ (vs : List Row). first_counted (ids_of commits) vs last) stands.split_is ∙ past stands.unlisted stands.of_one (fronts stands.unlisted stands.rest (subst (AllByRecursion (λ (v : Row). v.writer ≢ None)) stands.split_is written))
    ∙ front stands.rest stands.each_listed
  where
    fronts : (xs ys : List Row) → AllByRecursion (λ (v : Row). v.writer ≢ None) (xs ++ ys) → AllByRecursion (λ (v : Row). v.writer ≢ None) xs
    fronts [] ys all = tt
    fronts (x ∷ xs) ys all = (all.0, fronts xs ys all.1)

    past : (vs : List Row) → AllByRecursion (λ v. v.writer ≡ stands.writer) vs → AllByRecursion (λ (v : Row). v.writer ≢ None) vs → first_counted (ids_of commits) (vs ++ stands.rest) last ≡ first_counted (ids_of commits) stands.rest last
    past [] own all = refl
    past (v ∷ vs) own all = first_past (ids_of commits) stands.writer (v ∷ vs) stands.rest last own (unlisted_not commits stands.writer (λ e. all.0 (own.0 ∙ e)) stands.not_listed)

    front : (rest : List Row) → AllByRecursion (λ v. (cts : ℕ) × HasStamp (stamps_of commits) v.writer cts) rest → first_counted (ids_of commits) rest last ≡ row_over rest last
    front [] listed = refl
    front (v ∷ vs) listed = rw (listed_counts commits v.writer listed.0.0 listed.0.1) refl
