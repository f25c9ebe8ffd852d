-- Where a run may begin, nothing that nine files hold refuses it.
use Rattle.std.proofs.Common.{◌≡◌, ◌∙◌, ℕ, zero, suc, ◌+◌, ◌<◌, Bool, true, false, cond, List, [], ◌∷◌, ◌++◌, map, filter, Option, Some, None, refl, sym, ap, inl, inr, arith}
use Rattle.std.specs.Prelude.{nat_lt}
use Rattle.std.specs.List.{flat_map, AllByRecursion}
use Rattle.std.proofs.lemmas.Bool.{cases_lt, lt-ltb, le-ltb}
use Rattle.std.proofs.lemmas.List.Elements.{filter-append}
use Rattle.mp_cells.specs.declared.records.Mtr.{Mtr}
use Rattle.mp_cells.specs.Orders.{placed}
use Rattle.mp_files.specs.Nine.{Image, log_of}
use Rattle.mp_histories.specs.Cuts.{log_place}
use Rattle.mp_histories.proofs.Sorting.{filter_sorted}
use Rattle.mp_log.specs.Opening.{first_above}
use Rattle.mp_log.specs.Readers.{log_mtrs}
use Rattle.mp_recover.specs.Images.{all_primaries, base_llsn, logged_above}
use Rattle.mp_recover.specs.PageRecords.{by_log_place}
use Rattle.mp_recover.specs.Redoing.{mtrs_above}
use Rattle.mp_recover.proofs.CleanSound.{clean_is_sound}
use Rattle.mp_recover.proofs.SoundRedone.{sound_no_fault}
use Rattle.mp_opening.specs.declared.refusals.ClusterRefusal.{ClusterRefusal}
use Rattle.mp_opening.specs.declared.refusals.ClusterRefusal.TheVariants as cluster
use Rattle.mp_opening.specs.Openings.{least_above, MayBegin, RefusesRun}
use Rattle.mp_app.specs.Outcomes.{IsOfHeld}

no_some : {T : Type 0} {x : T} → ◌≡◌ {A = Option T} None (Some x) → ⊥
no_some e = cc

pub none_some : {T : Type 0} {x : T} {m : Option T} → m ≡ None → m ≡ Some x → ⊥
none_some none some = no_some (sym none ∙ some)

-- ---- no mtr of a log is above, where none of all logs is

placed_some : (m : Mtr) (mtrs : List Mtr) → placed log_place m mtrs ≡ [] → ⊥
placed_some m [] e = cc
placed_some m (other ∷ mtrs) e = by_test (nat_lt (log_place other) (log_place m)) e
  where
    by_test : (b : Bool) → cond b (other ∷ placed log_place m mtrs) (m ∷ (other ∷ mtrs)) ≡ [] → ⊥
    by_test true e = cc
    by_test false e = cc

nothing_sorted : (mtrs : List Mtr) → by_log_place mtrs ≡ [] → mtrs ≡ []
nothing_sorted [] e = refl
nothing_sorted (m ∷ mtrs) e = absurd (placed_some m (by_log_place mtrs) e)

both_nothing : (one other : List Mtr) → one ++ other ≡ [] → (one ≡ []) × (other ≡ [])
both_nothing [] other e = (refl, e)
both_nothing (m ∷ one) other e = absurd cc

nothing_of_each : (p : Mtr → Bool) (f : ℕ → List Mtr) (ns : List ℕ) → filter p (flat_map f ns) ≡ [] → AllByRecursion (λ n. filter p (f n) ≡ []) ns
nothing_of_each p f [] e = tt
nothing_of_each p f (n ∷ ns) e =
    let both = both_nothing (filter p (f n)) (filter p (flat_map f ns)) (sym (filter-append p (f n) (flat_map f ns)) ∙ e) in
    (both.0, nothing_of_each p f ns both.1)

no_first : (base : ℕ) (mtrs : List Mtr) → mtrs_above base mtrs ≡ [] → first_above base (map (λ mtr. mtr.llsn) mtrs) ≡ None
no_first base [] e = refl
no_first base (m ∷ mtrs) e = elim (cases_lt base m.llsn) [
  | inl lt ↦ (let is = sym (ap (λ (b : Bool). cond b (m ∷ mtrs_above base mtrs) (mtrs_above base mtrs)) (lt-ltb base m.llsn lt)) ∙ e in absurd cc)
  | inr le ↦ (ap (λ (b : Bool). cond b (Some m.llsn) (first_above base (map (λ (x : Mtr). x.llsn) mtrs))) (le-ltb base m.llsn le)
      ∙ no_first base mtrs (sym (ap (λ (b : Bool). cond b (m ∷ mtrs_above base mtrs) (mtrs_above base mtrs)) (le-ltb base m.llsn le)) ∙ e))
]

-- what holds for each primary holds for that of each place
at_each_place : (P : ℕ → Type 0) → AllByRecursion P all_primaries → (place : ℕ) → place < 8 → P (place + 1)
at_each_place P all zero lt = all.0
at_each_place P all (suc zero) lt = all.1.0
at_each_place P all (suc (suc zero)) lt = all.1.1.0
at_each_place P all (suc (suc (suc zero))) lt = all.1.1.1.0
at_each_place P all (suc (suc (suc (suc zero)))) lt = all.1.1.1.1.0
at_each_place P all (suc (suc (suc (suc (suc zero))))) lt = all.1.1.1.1.1.0
at_each_place P all (suc (suc (suc (suc (suc (suc zero)))))) lt = all.1.1.1.1.1.1.0
at_each_place P all (suc (suc (suc (suc (suc (suc (suc zero))))))) lt = all.1.1.1.1.1.1.1.0
at_each_place P all (suc (suc (suc (suc (suc (suc (suc (suc place)))))))) lt = absurd (omega (arith, lt))

none_in_each : (image : Image) → logged_above image ≡ [] → (place : ℕ) → place < 8 → least_above image place ≡ None
none_in_each image none place lt =
    let above : Mtr → Bool = (λ (m : Mtr). nat_lt (base_llsn image) m.llsn) in
    let each : ℕ → List Mtr = (λ (n : ℕ). (log_mtrs n (log_of n image)).0) in
    let nothing = nothing_sorted (filter above (flat_map each all_primaries)) (sym (filter_sorted log_place above (flat_map each all_primaries)) ∙ none) in
    no_first (base_llsn image) (each (place + 1)) (at_each_place (λ n. filter above (each n) ≡ []) (nothing_of_each above each all_primaries nothing) place lt)

-- ---- each refusal for what the files hold

pub never_refused : (image : Image) (begins : ℕ) → MayBegin image begins → (refusal : ClusterRefusal) → IsOfHeld refusal → RefusesRun image begins refusal → ⊥
never_refused image begins may (cluster.Store place) held refuses = none_some may.clean.store.sound refuses
never_refused image begins may cluster.StoreDisk held refuses = held
never_refused image begins may (cluster.Log primary place) held refuses =
    let off = refuses.1.0 in
    none_some ((sound_no_fault image (clean_is_sound image may.clean)).logs off.0 off.1) off.3
never_refused image begins may (cluster.LogDisk primary) held refuses = held
never_refused image begins may (cluster.NeedsRecover primary llsn) held refuses =
    let first = refuses.1 in
    none_some (none_in_each image may.clean.none first.place first.within) first.least
never_refused image begins may cluster.NotClean held refuses = refuses.2 may.clean.store.clean
never_refused image begins may (cluster.Spent what base add) held refuses = none_some may.unspent refuses.1
never_refused image begins may cluster.Memory held refuses = held
