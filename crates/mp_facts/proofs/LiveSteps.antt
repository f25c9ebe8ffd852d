-- What one mtr more makes of the versions that stand.
use Rattle.std.proofs.Common.{◌≡◌, ◌≢◌, ℕ, ◌≤◌, ◌==◌, nat_lt, Bool, true, false, cond, List, ◌∷◌, [], length, Option, refl, sym, ap, subst, inl, inr, arith}
use Rattle.std.specs.List.{AllByRecursion}
use Rattle.std.proofs.lemmas.Bool.{lt-ltb}
use Rattle.mp_machine.specs.Lists.{IsIn}
use Rattle.mp_model.specs.declared.ids.TrxId.{TrxId}
use Rattle.mp_cells.specs.declared.changes.Change.TheVariants.{RestoreRow}
use Rattle.mp_cells.specs.declared.records.Mtr.{Mtr}
use Rattle.mp_cells.specs.declared.rows.Row.{Row}
use Rattle.mp_cells.specs.Plans.{plan_of}
use Rattle.mp_cells.specs.Writes.{rows_put, rows_restored}
use Rattle.mp_core_pages.specs.declared.part.Placed.{Placed}
use Rattle.mp_core_pages.proofs.Choices.{if_true}
use Rattle.mp_histories.specs.KeyOps.{FirstIs, live, same_writer, without_leading, below_top}
use Rattle.mp_histories.specs.Histories.{History, older, Version, by_version, live_on}
use Rattle.mp_histories.specs.Chains.{MakesCommit}
use Rattle.mp_histories.proofs.MtrSteps.{put_on, back_on, none_on}
use Rattle.mp_histories.proofs.Noting.{older_stays}
use Rattle.mp_core.specs.OwnMtrs.{TrxMtr, trx_mtrs}
use Rattle.mp_facts.proofs.Joint.{CommittedBefore, EachCovers}

-- the version that an mtr puts which comes after this history
abbrev pub new_version : History → Row → Version
new_version history row = record { at = length history; row = row }

module _ (history : History) (m : Mtr) (key : ℕ) where
  pub live_put : (row : Row) → rows_put (plan_of m.records) ≡ row ∷ [] → rows_restored (plan_of m.records) ≡ [] → (b : Bool) → (row.key == key) ≡ b → live_on key (m ∷ history) ≡ cond b (new_version history row ∷ live_on key history) (live_on key history)
  live_put row puts back true e = ap (live by_version) (put_on m row puts back key true e history)
  live_put row puts back false e = ap (live by_version) (put_on m row puts back key false e history)

  pub live_back : (row : Row) (page : ℕ) → plan_of m.records ≡ (page, RestoreRow row) ∷ [] → (b : Bool) → (row.key == key) ≡ b → live_on key (m ∷ history) ≡ cond b (below_top by_version (live_on key history)) (live_on key history)
  live_back row page one true e = ap (live by_version) (back_on m row page one key true e history)
  live_back row page one false e = ap (live by_version) (back_on m row page one key false e history)

  pub live_none : MakesCommit m → live_on key (m ∷ history) ≡ live_on key history
  live_none commit = ap (live by_version) (none_on m commit key history)

-- all mtrs are the first so many
pub older_all : (history : History) → older (length history) history ≡ history
older_all [] = refl
older_all (m ∷ history) = if_true (nat_lt (length history) (length (m ∷ history))) (m ∷ history) (older (length (m ∷ history)) history) (lt-ltb (length history) (length (m ∷ history)) (omega arith))

pub older_one : (height : ℕ) (m : Mtr) (history : History) → height ≤ length history → older height (m ∷ history) ≡ older height history
older_one height m history within = older_stays height (m ∷ []) history within

-- the first so many of one more: all of them, or those before
pub older_cases : (height : ℕ) (m : Mtr) (history : History) (P : History → Type 0) → P (m ∷ history) → P (older height history) → P (older height (m ∷ history))
older_cases height m history P all before = by_test (nat_lt (length history) height)
  where
    by_test : (b : Bool) → P (cond b (m ∷ history) (older height history))
    by_test true = all
    by_test false = before

-- ---- versions below those of the newest one's writer

pub in_leading : (w : Option TrxId) (vs : List Version) (v : Version) → IsIn v (without_leading by_version w vs) → IsIn v vs
in_leading w [] v has = has
in_leading w (x ∷ vs) v has = by_test (same_writer (by_version x) w) has (in_leading w vs v)
  where
    by_test : (b : Bool) → IsIn v (cond b (without_leading by_version w vs) (x ∷ vs)) → (IsIn v (without_leading by_version w vs) → IsIn v vs) → IsIn v (x ∷ vs)
    by_test true has rest = inr (rest has)
    by_test false has rest = has

pub in_below : (vs : List Version) (v : Version) → IsIn v (below_top by_version vs) → IsIn v vs
in_below [] v has = has
in_below (x ∷ vs) v has = inr (in_leading (by_version x) vs v has)

pub all_in : (P : Version → Type 0) (vs : List Version) → AllByRecursion P vs → (v : Version) → IsIn v vs → P v
all_in P [] all v has = absurd has
all_in P (x ∷ vs) all v (inl is) = subst P (sym is) all.0
all_in P (x ∷ vs) all v (inr has) = all_in P vs all.1 v has

pub all_of_in : (P : Version → Type 0) (vs : List Version) → ((v : Version) → IsIn v vs → P v) → AllByRecursion P vs
all_of_in P [] each = tt
all_of_in P (x ∷ vs) each = (each x (inl refl), all_of_in P vs (λ v has. each v (inr has)))

module _ (made : ℕ → List (Placed Mtr)) where
  covers_leading : (w : Option TrxId) (vs : List Version) → EachCovers made vs → EachCovers made (without_leading by_version w vs)
  covers_leading w [] each = tt
  covers_leading w (v ∷ vs) each = by_test (same_writer (by_version v) w) (covers_leading w vs each.1)
    where
      by_test : (b : Bool) → EachCovers made (without_leading by_version w vs) → EachCovers made (cond b (without_leading by_version w vs) (v ∷ vs))
      by_test true rest = rest
      by_test false rest = each

  pub covers_below : (vs : List Version) → EachCovers made vs → EachCovers made (below_top by_version vs)
  covers_below [] each = tt
  covers_below (v ∷ vs) each = covers_leading (by_version v) vs each.1

-- more mtrs leave it
pub covers_more : (made more : ℕ → List (Placed Mtr)) → ((k : ℕ) (t : TrxMtr) → IsIn t (trx_mtrs (made k)) → IsIn t (trx_mtrs (more k))) → (vs : List Version) → EachCovers made vs → EachCovers more vs
covers_more made more grows [] each = tt
covers_more made more grows (v ∷ vs) each = (first_more vs each.0, covers_more made more grows vs each.1)
  where
    first_more : (us : List Version) → FirstIs (λ under. v.row.writer ≢ under.row.writer → CommittedBefore made v under) us → FirstIs (λ under. v.row.writer ≢ under.row.writer → CommittedBefore more v under) us
    first_more [] h = tt
    first_more (u ∷ us) h = λ differ. let c = h differ in (c.0, c.1, c.2, grows c.0.node c.1 c.3, c.4, c.5, c.6)
