-- The small put rolled back is settled; as it is it isn't.
use Rattle.std.proofs.Common.{◌≡◌, ◌≢◌, ℕ, zero, suc, ◌<◌, ◌≤◌, ◌==◌, false, [], ◌∷◌, refl, sym, ap, ◌∙◌, subst, if◌then◌else◌, arith}
use Rattle.std.proofs.lemmas.Bool.Decides.{nat_tests}
use Rattle.mp_cells.specs.declared.kinds.Kind.{Kind}
use Rattle.mp_cells.specs.declared.kinds.Kind.TheVariants.{Blank, Meta, Leaf, Undo}
use Rattle.mp_cells.specs.PageView.{PageView, AreBits, blank_page, bit_of, is_of, kind_number}
use Rattle.mp_cells.specs.SmallMaps.{fresh_map, low_bits, gone_row}
use Rattle.mp_cells.specs.Trees.{PageMap}
use Rattle.mp_cells.proofs.Bits.{with_bit-other}
use Rattle.mp_cells.proofs.MtrPages.{mtr_untouched}
use Rattle.mp_cells.proofs.SmallTrees.{fresh_is_tree}
use Rattle.mp_histories.specs.Histories.{pages_after}
use Rattle.mp_histories.specs.SmallHistory.{small_row, small_put}
use Rattle.mp_recover.specs.Settled.{SettledRows, IsSettled}
use Rattle.mp_recover.specs.SmallLogs.{rolled_back}

abbrev put_made : PageMap
put_made = pages_after fresh_map (small_put ∷ [])

other_kind : (a b : Kind) → a ≡ b → kind_number a ≢ kind_number b → ⊥
other_kind a b e different = different (ap kind_number e)

-- the put changes no page behind page 2
no_other : (n m : ℕ) → m < 3 → (suc (suc (suc n)) == m) ≡ false
no_other n m lt = grind (arith, nat_tests)

behind : (n : ℕ) → put_made (suc (suc (suc n))) ≡ blank_page 0
behind n = mtr_untouched small_put fresh_map (suc (suc (suc n)))
    (rw (no_other n 0 (omega arith), no_other n 2 (omega arith), no_other n 1 (omega arith)) refl)

blank_there : (n : ℕ) (kind : Kind) → (put_made (suc (suc (suc n)))).kind ≡ kind → Blank ≡ kind
blank_there n kind e = sym (ap (λ (page : PageView). page.kind) (behind n)) ∙ e

low : AreBits (low_bits 3)
low = (fresh_is_tree.sound 0 (omega arith)).content.1

rows : (n : ℕ) → n < 4096 → (put_made n).kind ≡ Leaf → SettledRows [] put_made (put_made n).rows (rolled_back n).rows
rows zero lt kind = absurd (other_kind Meta Leaf kind (λ e. omega (arith, e)))
rows (suc zero) lt kind = (
  record {
    versions = small_row ∷ [];
    last = gone_row 7;
    head = refl;
    chain = (record { link = record { page = 2; index = 0 }; linked = refl; there = refl }, refl);
    unwritten = refl;
    new_is = refl;
  },
  tt,
)
rows (suc (suc zero)) lt kind = absurd (other_kind Undo Leaf kind (λ e. omega (arith, e)))
rows (suc (suc (suc n))) lt kind = absurd (other_kind Blank Leaf (blank_there n Leaf kind) (λ e. omega (arith, e)))

leaf : (n : ℕ) → n < 4096 → (put_made n).kind ≡ Leaf → rolled_back n ≡ record (put_made n) { rows = (rolled_back n).rows }
leaf zero lt kind = absurd (other_kind Meta Leaf kind (λ e. omega (arith, e)))
leaf (suc zero) lt kind = refl
leaf (suc (suc zero)) lt kind = absurd (other_kind Undo Leaf kind (λ e. omega (arith, e)))
leaf (suc (suc (suc n))) lt kind = absurd (other_kind Blank Leaf (blank_there n Leaf kind) (λ e. omega (arith, e)))

undo : (n : ℕ) → n < 4096 → (put_made n).kind ≡ Undo → rolled_back n ≡ blank_page (put_made n).llsn
undo zero lt kind = absurd (other_kind Meta Undo kind (λ e. omega (arith, e)))
undo (suc zero) lt kind = absurd (other_kind Leaf Undo kind (λ e. omega (arith, e)))
undo (suc (suc zero)) lt kind = refl
undo (suc (suc (suc n))) lt kind = absurd (other_kind Blank Undo (blank_there n Undo kind) (λ e. omega (arith, e)))

bits : (n : ℕ) → n < 4096 → bit_of (rolled_back 0).bits n ≡ (if is_of Undo (put_made n) then 0 else bit_of (put_made 0).bits n)
bits zero lt = refl
bits (suc zero) lt = refl
bits (suc (suc zero)) lt = refl
bits (suc (suc (suc n))) lt = subst (λ (page : PageView). bit_of (low_bits 3) (suc (suc (suc n))) ≡ (if is_of Undo page then 0 else bit_of (put_made 0).bits (suc (suc (suc n))))) (sym (behind n))
    (sym (with_bit-other (low_bits 3) 2 (suc (suc (suc n))) (omega arith) low (λ e. omega (arith, e))))

same : (n : ℕ) → 1 ≤ n → n < 4096 → (put_made n).kind ≢ Leaf → (put_made n).kind ≢ Undo → rolled_back n ≡ put_made n
same zero le lt no_leaf no_undo = absurd (omega (arith, le))
same (suc zero) le lt no_leaf no_undo = absurd (no_leaf refl)
same (suc (suc zero)) le lt no_leaf no_undo = absurd (no_undo refl)
same (suc (suc (suc n))) le lt no_leaf no_undo = sym (behind n)

pub rolled_back_is_settled : IsSettled [] put_made rolled_back
rolled_back_is_settled = record { rows = rows; leaf = leaf; undo = undo; bits = bits; map = λ leaf undo. refl; same = same }

pub unsettled : IsSettled [] put_made put_made → ⊥
unsettled settled = other_kind Undo Blank (ap (λ (page : PageView). page.kind) (settled.undo 2 (omega arith) refl)) (λ e. omega (arith, e))
