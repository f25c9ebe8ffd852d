-- Where no log has an mtr above the base, nothing is to be redone.
use Rattle.std.proofs.Common.{◌≡◌, ℕ, ◌+◌, ◌<◌, ◌≤◌, Bool, cond, List, [], ◌∷◌, map, Some, None, refl, sym, ap, ◌∙◌, inl, inr, arith}
use Rattle.std.specs.List.{flat_map, AllByRecursion}
use Rattle.std.proofs.lemmas.Bool.{cases_lt, lt-ltb, le-ltb}
use Rattle.mp_cells.specs.declared.records.Mtr.{Mtr}
use Rattle.mp_cells.proofs.KeyEdits.{All-append}
use Rattle.mp_files.specs.Nine.{Image, log_of}
use Rattle.mp_histories.specs.Cuts.{log_place}
use Rattle.mp_histories.proofs.Sorting.{all_sorted}
use Rattle.mp_log.specs.Opening.{first_above}
use Rattle.mp_log.specs.Readers.{log_mtrs}
use Rattle.mp_recover.specs.Images.{all_primaries, base_llsn, all_logged, logged_above, LogsAreSound}
use Rattle.mp_recover.specs.Recovering.{log_files}
use Rattle.mp_recover.specs.ReadingLogs.{SoundBelow}
use Rattle.mp_recover.specs.Redoing.{mtrs_above}
use Rattle.mp_opening.specs.Openings.{least_above}

-- what holds for the primary of each place holds for each primary
each_primary : (P : ℕ → Type 0) → ((place : ℕ) → place < 8 → P (place + 1)) → AllByRecursion P all_primaries
each_primary P at =
    (at 0 (omega arith), (at 1 (omega arith), (at 2 (omega arith), (at 3 (omega arith), (at 4 (omega arith), (at 5 (omega arith), (at 6 (omega arith), (at 7 (omega arith), tt))))))))

pub sound_logs : (image : Image) → SoundBelow (log_files image) 8 → LogsAreSound image
sound_logs image sound = each_primary (λ n. (log_mtrs n (log_of n image)).1 ≡ None) sound

-- no mtr is above one that none of their LLSNs is above
pub none_above : (base : ℕ) (mtrs : List Mtr) → first_above base (map (λ mtr. mtr.llsn) mtrs) ≡ None → AllByRecursion (λ mtr. mtr.llsn ≤ base) mtrs
none_above base [] none = tt
none_above base (m ∷ mtrs) none = elim (cases_lt base m.llsn) [
  | inl lt ↦ (let is = sym (ap (λ (b : Bool). cond b (Some m.llsn) (first_above base (map (λ (x : Mtr). x.llsn) mtrs))) (lt-ltb base m.llsn lt)) ∙ none in absurd cc)
  | inr le ↦ (le, none_above base mtrs (sym (ap (λ (b : Bool). cond b (Some m.llsn) (first_above base (map (λ (x : Mtr). x.llsn) mtrs))) (le-ltb base m.llsn le)) ∙ none))
]

pub none_left : (base : ℕ) (mtrs : List Mtr) → AllByRecursion (λ mtr. mtr.llsn ≤ base) mtrs → mtrs_above base mtrs ≡ []
none_left base [] all = refl
none_left base (m ∷ mtrs) all = ap (λ (b : Bool). cond b (m ∷ mtrs_above base mtrs) (mtrs_above base mtrs)) (le-ltb base m.llsn all.0) ∙ none_left base mtrs all.1

all_flat : (P : Mtr → Type 0) (f : ℕ → List Mtr) (ns : List ℕ) → AllByRecursion (λ n. AllByRecursion P (f n)) ns → AllByRecursion P (flat_map f ns)
all_flat P f [] all = tt
all_flat P f (n ∷ ns) all = All-append P (f n) (flat_map f ns) all.0 (all_flat P f ns all.1)

pub nothing_above : (image : Image) → ((place : ℕ) → place < 8 → least_above image place ≡ None) → logged_above image ≡ []
nothing_above image none =
    let at_most : Mtr → Type 0 = (λ m. m.llsn ≤ base_llsn image) in
    none_left (base_llsn image) (all_logged image)
    (all_sorted log_place at_most (flat_map (λ n. (log_mtrs n (log_of n image)).0) all_primaries)
    (all_flat at_most (λ n. (log_mtrs n (log_of n image)).0) all_primaries
    (each_primary (λ n. AllByRecursion at_most (log_mtrs n (log_of n image)).0) (λ place lt. none_above (base_llsn image) (log_mtrs (place + 1) (log_files image place)).0 (none place lt)))))
