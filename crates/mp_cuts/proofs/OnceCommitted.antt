-- Mtrs of which no two record one transaction's commit keep each commit once, however they are ordered.
use Rattle.std.proofs.Common.{◌≡◌, ◌≢◌, ◌⊎◌, ℕ, nat_lt, Bool, true, false, cond, List, [], ◌∷◌, ◌++◌, map, filter, reverse, Some, refl, sym, ap, subst, inl, inr}
use Rattle.std.specs.List.{AllByRecursion}
use Rattle.std.proofs.lemmas.Grind.{reverse_onto}
use Rattle.mp_model.specs.declared.ids.TrxId.{TrxId}
use Rattle.mp_cells.specs.declared.records.Mtr.{Mtr}
use Rattle.mp_cells.specs.Orders.{placed, sorted_by}
use Rattle.mp_cells.proofs.KeyEdits.{All-filter, All-append}
use Rattle.mp_histories.specs.Commits.{Stamp, HasStamp}
use Rattle.mp_histories.specs.Histories.{History, commit_records}
use Rattle.mp_histories.specs.Cuts.{log_place, in_log_order}
use Rattle.mp_histories.proofs.Lists.{filter-in, filter-out}
use Rattle.mp_histories.proofs.Writers.{decided}
use Rattle.mp_histories.proofs.Sorting.{all_placed, all_sorted, all_reverse}
use Rattle.mp_recover.specs.KeptCommits.{KeptCommit, CommitsOnce, puts_by, kept_from}

-- no transaction's commit is recorded by both
abbrev pub Apart : Mtr → Mtr → Type 0
Apart m other = (id : TrxId) (cts its : ℕ) → HasStamp (commit_records m.records) (Some id) cts → HasStamp (commit_records other.records) (Some id) its → ⊥

abbrev pub EachApart : List Mtr → Type 0
EachApart [] = Unit {0}
EachApart (m ∷ mtrs) = AllByRecursion (Apart m) mtrs × EachApart mtrs

-- at most one commit is recorded
abbrev pub HasOneCommit : Mtr → Type 0
HasOneCommit m = (commit_records m.records ≡ []) ⊎ ((s : Stamp) × (commit_records m.records ≡ s ∷ []))

turned : (m other : Mtr) → Apart m other → Apart other m
turned m other apart id cts its has there = apart id its cts there has

all_turned : (m : Mtr) (mtrs : List Mtr) → AllByRecursion (Apart m) mtrs → AllByRecursion (λ x. Apart x m) mtrs
all_turned m [] all = tt
all_turned m (x ∷ mtrs) all = (turned m x all.0, all_turned m mtrs all.1)

-- ---- other orders

placed_apart : (m : Mtr) (mtrs : List Mtr) → AllByRecursion (Apart m) mtrs → EachApart mtrs → EachApart (placed log_place m mtrs)
placed_apart m [] all each = (tt, tt)
placed_apart m (x ∷ mtrs) all each = by_test (nat_lt (log_place x) (log_place m)) (placed_apart m mtrs all.1 each.1)
  where
    by_test : (b : Bool) → EachApart (placed log_place m mtrs) → EachApart (cond b (x ∷ placed log_place m mtrs) (m ∷ (x ∷ mtrs)))
    by_test true rest = (all_placed log_place (Apart x) m mtrs (turned m x all.0) each.0, rest)
    by_test false rest = (all, each)

sorted_apart : (mtrs : List Mtr) → EachApart mtrs → EachApart (sorted_by log_place mtrs)
sorted_apart [] each = tt
sorted_apart (m ∷ mtrs) each = placed_apart m (sorted_by log_place mtrs) (all_sorted log_place (Apart m) mtrs each.0) (sorted_apart mtrs each.1)

append_apart : (mtrs : List Mtr) (m : Mtr) → EachApart mtrs → AllByRecursion (λ x. Apart x m) mtrs → EachApart (mtrs ++ m ∷ [])
append_apart [] m each all = (tt, tt)
append_apart (x ∷ mtrs) m each all = (All-append (Apart x) mtrs (m ∷ []) each.0 (all.0, tt), append_apart mtrs m each.1 all.1)

reverse_apart : (mtrs : List Mtr) → EachApart mtrs → EachApart (reverse mtrs)
reverse_apart [] each = tt
reverse_apart (m ∷ mtrs) each = subst EachApart (sym (reverse_onto mtrs m []))
    (append_apart (reverse mtrs) m (reverse_apart mtrs each.1) (all_reverse log_place (λ (x : Mtr). Apart x m) mtrs (all_turned m mtrs each.0)))

filter_apart : (keep : Mtr → Bool) (mtrs : List Mtr) → EachApart mtrs → EachApart (filter keep mtrs)
filter_apart keep [] each = tt
filter_apart keep (m ∷ mtrs) each = elim (decided (keep m)) [
  | inl e ↦ subst EachApart (sym (filter-in keep m mtrs e)) (All-filter (Apart m) keep mtrs each.0, filter_apart keep mtrs each.1)
  | inr e ↦ subst EachApart (sym (filter-out keep m mtrs e)) (filter_apart keep mtrs each.1)
]

-- what holds of all of a history, holds of those kept, in the order of recovery
pub all_logged_kept : (P : Mtr → Type 0) (keep : Mtr → Bool) (made : History) → AllByRecursion P made → AllByRecursion P (in_log_order (filter keep made))
all_logged_kept P keep made all =
    all_reverse log_place P (sorted_by log_place (reverse (filter keep made)))
    (all_sorted log_place P (reverse (filter keep made)) (all_reverse log_place P (filter keep made) (All-filter P keep made all)))

pub logged_apart : (keep : Mtr → Bool) (made : History) → EachApart made → EachApart (reverse (in_log_order (filter keep made)))
logged_apart keep made each =
    reverse_apart (in_log_order (filter keep made)) (reverse_apart (sorted_by log_place (reverse (filter keep made)))
    (sorted_apart (reverse (filter keep made)) (reverse_apart (filter keep made) (filter_apart keep made each))))

-- ---- the commits

abbrev kept_by : List Mtr → Mtr → Stamp → KeptCommit
kept_by all m stamp = record { id = stamp.id; cts = stamp.cts; puts = puts_by stamp.id m.node all }

not_these : (all : List Mtr) (m : Mtr) (id : TrxId) (stamps : List Stamp) → ((cts : ℕ) → HasStamp stamps (Some id) cts → ⊥) → AllByRecursion (λ (k : KeptCommit). id ≢ k.id) (map (kept_by all m) stamps)
not_these all m id [] none = tt
not_these all m id (s ∷ stamps) none = (λ e. none s.cts (inl (ap (λ (x : TrxId). Some x) (sym e), refl)), not_these all m id stamps (λ cts has. none cts (inr has)))

not_in : (all : List Mtr) (m : Mtr) (s : Stamp) → commit_records m.records ≡ s ∷ [] → (mtrs : List Mtr) → AllByRecursion (Apart m) mtrs → AllByRecursion (λ (k : KeptCommit). s.id ≢ k.id) (kept_from all mtrs)
not_in all m s one [] apart = tt
not_in all m s one (x ∷ mtrs) apart =
    All-append (λ (k : KeptCommit). s.id ≢ k.id) (map (kept_by all x) (commit_records x.records)) (kept_from all mtrs)
    (not_these all x s.id (commit_records x.records) (λ cts has. apart.0 s.id s.cts cts (subst (λ (l : List Stamp). HasStamp l (Some s.id) s.cts) (sym one) (inl (refl, refl))) has))
    (not_in all m s one mtrs apart.1)

pub kept_once : (all mtrs : List Mtr) → AllByRecursion HasOneCommit mtrs → EachApart mtrs → CommitsOnce (kept_from all mtrs)
kept_once all [] one each = tt
kept_once all (m ∷ mtrs) one each =
    let rest = kept_once all mtrs one.1 each.1 in
    elim (one.0) [
      | inl none ↦ subst (λ (l : List Stamp). CommitsOnce (map (kept_by all m) l ++ kept_from all mtrs)) (sym none) rest
      | inr some ↦ subst (λ (l : List Stamp). CommitsOnce (map (kept_by all m) l ++ kept_from all mtrs)) (sym some.1) (not_in all m some.0 some.1 mtrs each.0, rest)
    ]
