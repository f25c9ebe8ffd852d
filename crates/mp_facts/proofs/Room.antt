-- How many bits of the meta page are set: each page that is taken sets one, and a put takes at most five.
use Rattle.std.proofs.Common.{◌≡◌, ℕ, zero, suc, ◌+◌, ◌*◌, ◌/◌, ◌%◌, ◌^◌, ◌≤◌, ◌==◌, max, Bool, true, false, cond, if◌then◌else◌, List, ◌∷◌, [], ◌++◌, length, get_or, Some, None, is_some, IsSome, count_by, refl, sym, ap, subst, inl, inr, arith}
use mathlib.Core.Bool.{false≢true}
use native.Mathlib.Nat.{pow-suc}
use lib.Bits.{or_step, or_zero_r}
use lib.Count.{ones_step}
use Rattle.std.specs.Prelude.{bit_or, count_ones, slice_set}
use Rattle.std.proofs.lemmas.Bool.{eqb-true, cases_lt}
use Rattle.std.proofs.lemmas.List.Sums.{sum_by-cons, sum_by-set}
use Rattle.mp_cells.specs.declared.changes.Change.{Change}
use Rattle.mp_cells.specs.declared.changes.Change.TheVariants.{MakeLeaf, MakeInner, MakeUndo, PutRow, RestoreRow, Cut, PutChild, PutUndo, TakePage}
use Rattle.mp_cells.specs.declared.kinds.Kind.{Kind}
use Rattle.mp_cells.specs.declared.kinds.Kind.TheVariants.{Meta}
use Rattle.mp_cells.specs.declared.records.Mtr.{Mtr}
use Rattle.mp_cells.specs.PageView.{PageView, with_bit, bits_set}
use Rattle.mp_cells.specs.Changes.{takes_page}
use Rattle.mp_cells.specs.Trees.{PageMap, IsClean}
use Rattle.mp_cells.specs.Plans.{Plan, CanApply, page_or, changed_page, after_change, after_plan, Meets, plan_of}
use Rattle.mp_cells.specs.Writes.{page_taken, pages_taken}
use Rattle.mp_cells.proofs.MtrPages.{mtr_content}
use Rattle.mp_histories.specs.Histories.{History, pages_after}
use Rattle.mp_histories.specs.Chains.{RunsFrom}
use Rattle.mp_histories.proofs.Standing.{has_chains}
use Rattle.mp_histories.proofs.Applying.{meets_of}
use Rattle.mp_core.specs.OwnMtrs.{row_put_by}
use Rattle.mp_facts.proofs.MtrShapes.{put_shape}

-- one bit more in a byte
one_bit : (k b : ℕ) → count_ones (bit_or b (2 ^ k)) ≤ count_ones b + 1
one_bit zero b =
    let low : bit_or b 1 ≡ bit_or (b / 2) 0 * 2 + max (b % 2) 1 = or_step b 1 in
    let high : bit_or (b / 2) 0 ≡ b / 2 = or_zero_r (b / 2) in
    let half : bit_or b 1 / 2 ≡ b / 2 = omega (arith, low, high) in
    let ones : count_ones (bit_or b 1) ≡ bit_or b 1 % 2 + count_ones (bit_or b 1 / 2) = ones_step (bit_or b 1) in
    let same : count_ones (bit_or b 1 / 2) ≡ count_ones (b / 2) = ap count_ones half in
    let before : count_ones b ≡ b % 2 + count_ones (b / 2) = ones_step b in
    omega (arith, ones, same, before)
one_bit (suc k) b =
    let twice : 2 ^ suc k ≡ 2 ^ k * 2 = pow-suc 2 k in
    let half_of : 2 ^ suc k / 2 ≡ 2 ^ k = omega (arith, twice) in
    let step : bit_or b (2 ^ suc k) ≡ bit_or (b / 2) (2 ^ suc k / 2) * 2 + max (b % 2) (2 ^ suc k % 2) = or_step b (2 ^ suc k) in
    let upper : bit_or (b / 2) (2 ^ suc k / 2) ≡ bit_or (b / 2) (2 ^ k) = ap (bit_or (b / 2)) half_of in
    let half : bit_or b (2 ^ suc k) / 2 ≡ bit_or (b / 2) (2 ^ k) = omega (arith, step, upper, twice) in
    let low : bit_or b (2 ^ suc k) % 2 ≡ b % 2 = omega (arith, step, upper, twice) in
    let ones : count_ones (bit_or b (2 ^ suc k)) ≡ bit_or b (2 ^ suc k) % 2 + count_ones (bit_or b (2 ^ suc k) / 2) = ones_step (bit_or b (2 ^ suc k)) in
    let same : count_ones (bit_or b (2 ^ suc k) / 2) ≡ count_ones (bit_or (b / 2) (2 ^ k)) = ap count_ones half in
    let before : count_ones b ≡ b % 2 + count_ones (b / 2) = ones_step b in
    let rest = one_bit k (b / 2) in
    omega (arith, ones, same, low, before, rest)

set_behind : (bits : List ℕ) (i x : ℕ) → length bits ≤ i → slice_set bits i x ≡ bits
set_behind [] i x behind = refl
set_behind (b ∷ bits) zero x behind = absurd (omega (arith, behind))
set_behind (b ∷ bits) (suc i) x behind = ap (λ (l : List ℕ). b ∷ l) (set_behind bits i x (omega (arith, behind)))

-- one bit more in a list of bytes
set_one : (bits : List ℕ) (i k : ℕ) → bits_set (slice_set bits i (bit_or (get_or bits i 0) (2 ^ k))) ≤ bits_set bits + 1
set_one bits i k = elim (cases_lt i (length bits)) [
  | inl lt ↦ omega (arith, sum_by-set count_ones bits i (bit_or (get_or bits i 0) (2 ^ k)) 0 lt, one_bit k (get_or bits i 0))
  | inr le ↦ (let same = ap bits_set (set_behind bits i (bit_or (get_or bits i 0) (2 ^ k)) le) in omega (arith, same))
]

-- ---- the meta page

-- a change of the meta page takes a page, and it stays the meta page
record TakesOne (change : Change) (old new : PageView) : Type 0 where
  kind : new.kind ≡ Meta
  bits : bits_set new.bits ≤ bits_set old.bits + length (page_taken change)

module _ (page : PageView) where
  abbrev as_meta : PageView
  as_meta = record page { kind = Meta }

  took : (number : ℕ) (b : Bool) → IsSome (if b then Some (record page { kind = Meta; bits = with_bit page.bits number }) else None) → TakesOne (TakePage number) as_meta (page_or as_meta (if b then Some (record page { kind = Meta; bits = with_bit page.bits number }) else None))
  took number true may = record { kind = refl; bits = set_one page.bits (number / 8) (number % 8) }
  took number false may = absurd (false≢true may)

  meta_takes : (change : Change) → CanApply change as_meta → TakesOne change as_meta (changed_page change as_meta)
  meta_takes (MakeLeaf low high rows) may = absurd (false≢true may)
  meta_takes (MakeInner low high children) may = absurd (false≢true may)
  meta_takes MakeUndo may = absurd (false≢true may)
  meta_takes (PutRow row) may = absurd (false≢true may)
  meta_takes (RestoreRow row) may = absurd (false≢true may)
  meta_takes (Cut from) may = absurd (false≢true may)
  meta_takes (PutChild child) may = absurd (false≢true may)
  meta_takes (PutUndo row) may = absurd (false≢true may)
  meta_takes (TakePage number) may = took number (takes_page number as_meta) may

meta_stays : (change : Change) (page : PageView) → page.kind ≡ Meta → CanApply change page → TakesOne change page (changed_page change page)
meta_stays change page kind may =
    subst (λ (k : Kind). CanApply change (record page { kind = k }) → TakesOne change (record page { kind = k }) (changed_page change (record page { kind = k }))) (sym kind) (meta_takes page change) may

-- what a plan leaves of page 0
record TakesPages (plan : Plan) (old new : PageView) : Type 0 where
  kind : new.kind ≡ Meta
  bits : bits_set new.bits ≤ bits_set old.bits + length (pages_taken plan)

taken_more : (step : ℕ × Change) (plan : Plan) → length (pages_taken (step ∷ plan)) ≡ length (page_taken step.1) + length (pages_taken plan)
taken_more step plan = grow (page_taken step.1)
  where
    grow : (numbers : List ℕ) → length (numbers ++ pages_taken plan) ≡ length numbers + length (pages_taken plan)
    grow [] = omega arith
    grow (number ∷ numbers) = let rest = grow numbers in omega (arith, rest)

plan_takes : (plan : Plan) (pages : PageMap) → Meets plan pages → (pages 0).kind ≡ Meta → TakesPages plan (pages 0) (after_plan plan pages 0)
plan_takes [] pages meets kind = record { kind = kind; bits = omega arith }
plan_takes (step ∷ plan) pages meets kind =
    let first = step_takes (0 == step.0) refl in
    let rest = plan_takes plan (after_change step pages) meets.1 first.kind in
    record {
      kind = rest.kind;
      bits = (let one = first.bits in let more = rest.bits in let all = taken_more step plan in omega (arith, one, more, all));
    }
  where
    step_takes : (b : Bool) → (0 == step.0) ≡ b → TakesOne step.1 (pages 0) (if b then changed_page step.1 (pages step.0) else pages 0)
    step_takes true e = subst (λ (k : ℕ). TakesOne step.1 (pages k) (changed_page step.1 (pages step.0))) (sym (eqb-true 0 step.0 e)) (meta_stays step.1 (pages step.0) (subst (λ (k : ℕ). (pages k).kind ≡ Meta) (eqb-true 0 step.0 e) kind) meets.0)
    step_takes false e = record { kind = kind; bits = omega arith }

-- ---- histories

abbrev is_put : Mtr → Bool
is_put m = is_some (row_put_by m)

module _ (base : ℕ) (opening : PageMap) (clean : IsClean base opening) where
  mtr_takes : (m : Mtr) (history : History) → RunsFrom opening (m ∷ history) → bits_set (pages_after opening (m ∷ history) 0).bits ≤ bits_set (pages_after opening history 0).bits + length (pages_taken (plan_of m.records))
  mtr_takes m history runs =
      let takes = plan_takes (plan_of m.records) (pages_after opening history) (meets_of base opening clean history m runs) (has_chains base opening clean history runs.1).tree.meta in
      let same = ap (λ (p : PageView). bits_set p.bits) (mtr_content m (pages_after opening history) 0) in
      let bits = takes.bits in
      omega (arith, bits, same)

  five_most : (m : Mtr) (history : History) → RunsFrom opening (m ∷ history) → length (pages_taken (plan_of m.records)) ≤ 5 * (if is_put m then 1 else 0)
  five_most m history runs = elim (runs.0.kind) [
    | inl p ↦
        let put : is_put m ≡ true = ap (λ x. is_some x) (put_shape m p.row (pages_after opening history) p.well).put in
        let one = ap {B = ℕ} (λ (b : Bool). if b then 1 else 0) put in
        let taken = p.well.taken in
        omega (arith, one, taken)
    | inr (inl p) ↦ (let none = ap (λ (plan : Plan). length (pages_taken plan)) p.well.one.1 in omega (arith, none))
    | inr (inr p) ↦ (let none = ap (λ (plan : Plan). length (pages_taken plan)) (ap plan_of p.alone) in omega (arith, none))
  ]

  pub room : (history : History) → RunsFrom opening history → bits_set (pages_after opening history 0).bits ≤ bits_set (opening 0).bits + 5 * count_by is_put history
  room [] runs = omega arith
  room (m ∷ history) runs =
      let rest = room history runs.1 in
      let more = mtr_takes m history runs in
      let most = five_most m history runs in
      let count : count_by is_put (m ∷ history) ≡ (if is_put m then 1 else 0) + count_by is_put history = sum_by-cons (λ (y : Mtr). cond (is_put y) 1 0) m history in
      omega (arith, rest, more, most, count)
