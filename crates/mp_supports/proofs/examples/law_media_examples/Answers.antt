use Rattle.std.proofs.Common.{◌≡◌, ◌<◌, ◌⊎◌, ℕ, true, false, nat_lt, List, [], ◌∷◌, ◌++◌, refl, sym, ap, subst, ◌∙◌, inl, inr, ⊎_elim, arith}
use Rattle.std.specs.List.{AllByRecursion}
use Rattle.mp_script.proofs.Lists.{all_append, all_map}
use Rattle.mp_cells.specs.declared.records.Mtr.{Mtr}
use Rattle.mp_cells.proofs.KeyEdits.{All-filter}
use Rattle.mp_log.specs.Logs.{mtrs_of, IsOf, IsText}
use Rattle.mp_script.specs.declared.statements.Stmt.TheVariants.{Commit}
use Rattle.mp_supports.specs.Media.{above_base}
use Rattle.mp_supports.specs.SmallParts.{work_with, commit_mtr}
use Rattle.mp_supports.proofs.examples.law_media_examples.Goals as goal

-- a closed gate alone
empty_text : IsText [] (0 ∷ [])
empty_text = record { gate = 0; rest = []; closed = λ e. let other : 0 ≡ 165 = e in omega (arith, other); whole = refl }

true_false : true ≡ false → ⊥
true_false e = cc

pub returns-clause-nothing_made : goal.returns-clause-nothing_made
returns-clause-nothing_made c = record {
  images = λ told file is. record { batches = []; text = subst (λ f. IsText [] f) (sym is) empty_text; log = record { mtrs = record { each = tt; rising = refl }; sizes = tt }; later = []; front = refl; covers = tt };
  live = λ live told. (
    [],
    [],
    record {
      reads = empty_text;
      images = λ file is. subst (λ f. IsText [] f) (sym is) empty_text;
      mtrs = record { each = tt; rising = refl };
      sizes = tt;
      place = refl;
      last = refl;
      bytes = refl;
    },
    refl,
    tt,
  );
  last = λ some. let none : 0 < 0 = some in absurd (omega (arith, none));
  forced = λ e. absurd (true_false e);
  closed = λ e. absurd (true_false e);
}

abbrev first_byte : List ℕ → ℕ
first_byte [] = 0
first_byte (x ∷ xs) = x

-- the text of no batch begins with a closed gate
no_batch : (batches : List (List Mtr)) (image : List ℕ) → image ≡ 0 ∷ [] → IsText batches image → batches ≡ []
no_batch [] image is text = refl
no_batch (batch ∷ batches) image is text = let other : 0 ≡ 165 = ap (λ l. first_byte l) (sym is ∙ text.whole) in absurd (omega (arith, other))

pub returns-clause-not_without_its_mtr : goal.returns-clause-not_without_its_mtr
returns-clause-not_without_its_mtr c = λ h.
    let image = h.images refl (0 ∷ []) refl in
    let none = no_batch image.batches (0 ∷ []) refl image.text in
    let later : commit_mtr 1 ∷ [] ≡ image.later = image.front ∙ ap (λ b. above_base (work_with Commit) b ++ image.later) none in
    let covers : AllByRecursion (λ (mtr : Mtr). 1 < mtr.llsn) (commit_mtr 1 ∷ []) = subst (λ l. AllByRecursion (λ (mtr : Mtr). 1 < mtr.llsn) l) (sym later) image.covers in
    let above : 1 < 1 = covers.0 in
    omega (arith, above)

-- an mtr of another primary's log, or one that isn't durable
abbrev IsAnothers : Mtr → Type 0
IsAnothers mtr = (mtr.node ≡ 2) ⊎ (1 < mtr.llsn)

pub returns-clause-not_anothers : goal.returns-clause-not_anothers
returns-clause-not_anothers c = λ file image.
    let logged = all_map (IsOf 2) IsAnothers (above_base (work_with Commit) image.batches) (λ mtr of. inl of.1)
    (All-filter (IsOf 2) (λ (mtr : Mtr). nat_lt 0 mtr.llsn) (mtrs_of image.batches) image.log.mtrs.each) in
    let later = all_map (λ (mtr : Mtr). 1 < mtr.llsn) IsAnothers image.later (λ mtr above. inr above) image.covers in
    let all : AllByRecursion IsAnothers (commit_mtr 1 ∷ []) =
    subst (AllByRecursion IsAnothers) (sym image.front) (all_append IsAnothers (above_base (work_with Commit) image.batches) image.later logged later) in
    ⊎_elim (λ (node : 1 ≡ 2). omega (arith, node)) (λ (above : 1 < 1). omega (arith, above)) all.0
