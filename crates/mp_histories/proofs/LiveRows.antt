-- What holds of each put holds of each version that stands; and where a version's mtr stands in the history.
use Rattle.std.proofs.Common.{◌≡◌, ℕ, ◌==◌, Bool, false, cond, List, [], ◌∷◌, length, Option, Some, sym, ap, subst, ◌∙◌, inl, inr, arith, ◌<◌}
use Rattle.std.specs.List.{AllByRecursion}
use Rattle.std.proofs.lemmas.Bool.{eq-eqb}
use Rattle.std.proofs.lemmas.Bool.Decides.{nat_tests}
use Rattle.mp_model.specs.declared.ids.TrxId.{TrxId}
use Rattle.mp_cells.specs.declared.records.Mtr.{Mtr}
use Rattle.mp_cells.specs.Trees.{PageMap, IsClean}
use Rattle.mp_histories.specs.KeyOps.{KeyOp, put, restore, live, same_writer, without_leading, below_top}
use Rattle.mp_histories.specs.Histories.{History, entry_at, Version, by_version, ops_on, live_on}
use Rattle.mp_histories.specs.Chains.{RunsFrom, IsPutAt, PlacesFall}
use Rattle.mp_histories.proofs.Writers.{decided}
use Rattle.mp_histories.proofs.Live.{all_below, leading-same, leading-other}
use Rattle.mp_histories.proofs.Standing.{step_of}

module _ {T : Type 0} (by : T → Option TrxId) (P : T → Type 0) where
  -- it holds of each put
  abbrev pub AllPut : List (KeyOp T) → Type 0
  AllPut [] = Unit {0}
  AllPut (put v ∷ ops) = P v × AllPut ops
  AllPut (restore ∷ ops) = AllPut ops

  pub live_all : (ops : List (KeyOp T)) → AllPut ops → AllByRecursion P (live by ops)
  live_all [] h = tt
  live_all (put v ∷ ops) h = (h.0, live_all ops h.1)
  live_all (restore ∷ ops) h = all_below by P (live by ops) (live_all ops h)

-- one more mtr leaves the others at their places
still_there : (mtr : Mtr) (made : History) (key : ℕ) (v : Version) → IsPutAt made key v → IsPutAt (mtr ∷ made) key v
still_there mtr made key v h =
    let test : (length made == v.at) ≡ false = grind (arith, nat_tests, h.before) in
    record {
      mtr = h.mtr;
      before = omega (arith, h.before);
      entry = ap (λ (b : Bool). cond b (Some mtr) (entry_at v.at made)) test ∙ h.entry;
      puts = h.puts;
      key_is = h.key_is;
      writer = h.writer;
    }

all_still : (mtr : Mtr) (made : History) (key : ℕ) (ops : List (KeyOp Version)) → AllPut by_version (IsPutAt made key) ops → AllPut by_version (IsPutAt (mtr ∷ made) key) ops
all_still mtr made key [] h = tt
all_still mtr made key (put v ∷ ops) h = (still_there mtr made key v h.0, all_still mtr made key ops h.1)
all_still mtr made key (restore ∷ ops) h = all_still mtr made key ops h

-- ---- places

places_leading : (w : Option TrxId) (vs : List Version) → PlacesFall vs → PlacesFall (without_leading by_version w vs)
places_leading w [] h = tt
places_leading w (v ∷ vs) h = elim (decided (same_writer (by_version v) w)) [
  | inl e ↦ subst PlacesFall (sym (leading-same by_version w v vs e)) (places_leading w vs h.1)
  | inr e ↦ subst PlacesFall (sym (leading-other by_version w v vs e)) h
]

places_below : (vs : List Version) → PlacesFall vs → PlacesFall (below_top by_version vs)
places_below [] h = tt
places_below (v ∷ vs) h = places_leading (by_version v) vs h.1

all_before : (made : History) (key at : ℕ) (vs : List Version) → at ≡ length made → AllByRecursion (IsPutAt made key) vs → AllByRecursion (λ v. v.at < at) vs
all_before made key at [] e h = tt
all_before made key at (v ∷ vs) e h = (omega (arith, e, h.0.before), all_before made key at vs e h.1)

module _ (base : ℕ) (opening : PageMap) (clean : IsClean base opening) where
  pub all_put_at : (made : History) → RunsFrom opening made → (key : ℕ) → AllPut by_version (IsPutAt made key) (ops_on key made)
  all_put_at [] runs key = tt
  all_put_at (mtr ∷ made) runs key =
      let rest = all_still mtr made key (ops_on key made) (all_put_at made runs.1 key) in
      elim ((step_of base opening clean mtr made runs).keys key) [
        | inl k ↦ subst (AllPut by_version (IsPutAt (mtr ∷ made) key)) (sym k.ops) rest
        | inr (inl k) ↦ subst (AllPut by_version (IsPutAt (mtr ∷ made) key)) (sym k.ops) (
          record {
            mtr = mtr;
            before = omega (arith, k.at);
            entry = ap (λ (b : Bool). cond b (Some mtr) (entry_at k.version.at made)) (eq-eqb (length made) k.version.at (sym k.at));
            puts = k.puts;
            key_is = k.key_is;
            writer = k.writer;
          },
          rest,
        )
        | inr (inr k) ↦ subst (AllPut by_version (IsPutAt (mtr ∷ made) key)) (sym k.ops) rest
      ]

  pub live_put_at : (made : History) → RunsFrom opening made → (key : ℕ) → AllByRecursion (IsPutAt made key) (live_on key made)
  live_put_at made runs key = live_all by_version (IsPutAt made key) (ops_on key made) (all_put_at made runs key)

  pub places_fall : (made : History) → RunsFrom opening made → (key : ℕ) → PlacesFall (live_on key made)
  places_fall [] runs key = tt
  places_fall (mtr ∷ made) runs key =
      let rest = places_fall made runs.1 key in
      elim ((step_of base opening clean mtr made runs).keys key) [
        | inl k ↦ subst (λ (ops : List (KeyOp Version)). PlacesFall (live by_version ops)) (sym k.ops) rest
        | inr (inl k) ↦ subst (λ (ops : List (KeyOp Version)). PlacesFall (live by_version ops)) (sym k.ops) (all_before made key k.version.at (live_on key made) k.at (live_put_at made runs.1 key), rest)
        | inr (inr k) ↦ subst (λ (ops : List (KeyOp Version)). PlacesFall (live by_version ops)) (sym k.ops) (places_below (live_on key made) rest)
      ]
