-- What a reader gives of a log ascends; so a merge that read nothing yet has all of the logs' mtrs left.
use Rattle.std.proofs.Common.{◌≡◌, ℕ, zero, suc, ◌+◌, ◌-◌, ◌*◌, ◌<◌, ◌≤◌, ◌==◌, ◌&&◌, nat_lt, List, [], ◌∷◌, ◌++◌, length, map, take, drop, get_or, option_map, Option, Some, None, Ok, Err, refl, sym, ap, subst, ◌∙◌, inl, inr, arith}
use Rattle.std.specs.List.{flat_map, AllByRecursion}
use Rattle.std.proofs.lemmas.Bool.{and_parts, ltb-true, eqb-true}
use Rattle.std.proofs.lemmas.List.{length-map, get_or_past}
use Rattle.std.proofs.lemmas.Option.{slice_get_cases, slice_get-map, get_or_from_slice_get}
use Rattle.mp_outside.specs.declared.disks.Disk.{Ghosts}
use Rattle.mp_cells.specs.declared.records.Mtr.{Mtr}
use Rattle.mp_redo.specs.Reading.{Read, and_then, field, mtr_at}
use Rattle.mp_redo.proofs.Fields.{both_read, field_read}
use Rattle.mp_files.specs.declared.disks.Disks.{Disks}
use Rattle.mp_files.specs.Nine.{log_of, as_read, seen_of, seen_at}
use Rattle.mp_histories.specs.Cuts.{log_place}
use Rattle.mp_log.specs.Logs.{last_after}
use Rattle.mp_log.specs.Reading.{from_place, open_at, mtrs_at, batch_at, batch_behind, next_at}
use Rattle.mp_log.specs.Readers.{given_from, given_at, log_mtrs}
use Rattle.mp_log.proofs.Given.{fresh_remains}
use Rattle.mp_recover.specs.declared.lanes.Lane.{Lane}
use Rattle.mp_recover.specs.PageRecords.{by_log_place}
use Rattle.mp_recover.specs.Images.{all_logged}
use Rattle.mp_recover.specs.Merging.{LaneLeft, AreFresh, fault_at, places_from, InLogOrder, all_left, Merges}

-- mtrs of a node, each with an LLSN above the one before, the first one above this
abbrev RiseFrom : ℕ → ℕ → List Mtr → Type 0
RiseFrom node last [] = Unit {0}
RiseFrom node last (mtr ∷ mtrs) = (mtr.node ≡ node) × (last < mtr.llsn) × RiseFrom node mtr.llsn mtrs

abbrev read : {A : Type 0} → A → Read A
read x = Ok x

read_same : {A : Type 0} (x y : A) → read x ≡ read y → x ≡ y
read_same x y h = cc

some_same : {A : Type 0} (x y : A) → Some x ≡ Some y → x ≡ y
some_same x y h = cc

batch_rises : (fuel node last : ℕ) (bytes : List ℕ) (place : ℕ) (mtrs : List Mtr) → mtrs_at fuel node last bytes place ≡ Ok mtrs → RiseFrom node last mtrs
batch_rises fuel node last [] place mtrs h = subst (RiseFrom node last) (read_same [] mtrs h) tt
batch_rises zero node last (byte ∷ bytes) place mtrs h = absurd cc
batch_rises (suc fuel) node last (byte ∷ bytes) place mtrs h =
    let all = byte ∷ bytes in
    let a = both_read (from_place place (mtr_at all)) (λ found.
    and_then (field place (found.0.node == node && nat_lt last found.0.llsn) found.0) (λ mtr.
    and_then (mtrs_at fuel node mtr.llsn (drop found.1 all) (place + found.1)) (λ more. Ok (mtr ∷ more)))) mtrs h in
    let found = a.0 in
    let b = both_read (field place (found.0.node == node && nat_lt last found.0.llsn) found.0) (λ mtr.
    and_then (mtrs_at fuel node mtr.llsn (drop found.1 all) (place + found.1)) (λ more. Ok (mtr ∷ more))) mtrs a.2 in
    let tested = field_read place (found.0.node == node && nat_lt last found.0.llsn) found.0 b.0 b.1 in
    let c = both_read (mtrs_at fuel node b.0.llsn (drop found.1 all) (place + found.1)) (λ more. Ok (b.0 ∷ more)) mtrs b.2 in
    let rest = batch_rises fuel node b.0.llsn (drop found.1 all) (place + found.1) c.0 c.1 in
    let parts = and_parts (found.0.node == node) (nat_lt last found.0.llsn) tested.0 in
    let own : b.0.node ≡ node = ap (λ (m : Mtr). m.node) (sym tested.1) ∙ eqb-true found.0.node node parts.0 in
    let above : last < b.0.llsn = subst (λ (m : Mtr). last < m.llsn) tested.1 (ltb-true last found.0.llsn parts.1) in
    subst (RiseFrom node last) (read_same (b.0 ∷ c.0) mtrs c.2) (own, above, rest)

next_rises : (node last : ℕ) (file : List ℕ) (gate : ℕ) (next : List Mtr × ℕ) → next_at node last file gate ≡ Ok (Some next) → RiseFrom node last next.0
next_rises node last file gate next h =
    let a = both_read (open_at file gate) (λ count. batch_behind node last file gate count) (Some next) h in by_count a.0 a.2
  where
    by_count : (count : Option ℕ) → batch_behind node last file gate count ≡ Ok (Some next) → RiseFrom node last next.0
    by_count None e = absurd cc
    by_count (Some count) e =
        let b = both_read (batch_at node last file gate count) (λ batch. Ok (Some (batch, count))) (Some next) e in
        let same : (b.0, count) ≡ next = some_same (b.0, count) next (read_same (Some (b.0, count)) (Some next) b.2) in
        subst (λ (n : List Mtr × ℕ). RiseFrom node last n.0) same (batch_rises count node last (take count (drop (gate + 5) file)) (gate + 5) b.0 b.1)

rise_append : (node last : ℕ) (xs ys : List Mtr) → RiseFrom node last xs → RiseFrom node (last_after last xs) ys → RiseFrom node last (xs ++ ys)
rise_append node last [] ys all more = more
rise_append node last (x ∷ xs) ys all more = (all.0, all.1, rise_append node x.llsn xs ys all.2 more)

given_rises : (fuel node last : ℕ) (file : List ℕ) (gate : ℕ) → RiseFrom node last (given_at fuel node last file gate).0
given_rises zero node last file gate = tt
given_rises (suc fuel) node last file gate = by_next (next_at node last file gate) refl (λ l g. given_rises fuel node l file g)
  where
    by_next : (next : Read (Option (List Mtr × ℕ))) → next_at node last file gate ≡ next → ((l g : ℕ) → RiseFrom node l (given_at fuel node l file g).0)
        → RiseFrom node last (given_from last gate (λ l g. given_at fuel node l file g) next).0
    by_next (Err place) e more = tt
    by_next (Ok None) e more = tt
    by_next (Ok (Some next)) e more =
        rise_append node last next.0 (given_at fuel node (last_after last next.0) file (gate + (5 + next.1))).0 (next_rises node last file gate next e)
        (more (last_after last next.0) (gate + (5 + next.1)))

rise_behind : (node last low : ℕ) (mtrs : List Mtr) → RiseFrom node last mtrs → low ≡ 16 * last + node → AllByRecursion (λ later. low < log_place later) mtrs
rise_behind node last low [] all e = tt
rise_behind node last low (m ∷ mtrs) all e =
    let here : 16 * last + node < 16 * m.llsn + m.node = omega (arith, all.0, all.1) in
    (subst (λ (n : ℕ). n < log_place m) (sym e) here, each_lower low (log_place m) mtrs (omega (arith, here, e)) (rise_behind node m.llsn (log_place m) mtrs all.2 (omega (arith, all.0))))
  where
    each_lower : (a b : ℕ) (ms : List Mtr) → a ≤ b → AllByRecursion (λ later. b < log_place later) ms → AllByRecursion (λ later. a < log_place later) ms
    each_lower a b [] le alls = tt
    each_lower a b (x ∷ ms) le alls = (omega (arith, le, alls.0), each_lower a b ms le alls.1)

rise_order : (node last : ℕ) (mtrs : List Mtr) → RiseFrom node last mtrs → InLogOrder mtrs
rise_order node last [] all = tt
rise_order node last (m ∷ mtrs) all = (rise_behind node m.llsn (log_place m) mtrs all.2 (omega (arith, all.0)), rise_order node m.llsn mtrs all.2)

pub log_order : (node : ℕ) (file : List ℕ) → InLogOrder (log_mtrs node file).0
log_order node file = rise_order node 0 (log_mtrs node file).0 (given_rises (length file + 1) node 0 file 0)

-- all that is in the logs
flat_each : (f h : ℕ → List Mtr) → ((k : ℕ) → f k ≡ h k) → (ks : List ℕ) → flat_map f ks ≡ flat_map h ks
flat_each f h same [] = refl
flat_each f h same (k ∷ ks) = ap (λ (xs : List Mtr). xs ++ flat_map f ks) (same k) ∙ ap (λ (ys : List Mtr). h k ++ ys) (flat_each f h same ks)

flat_shift : (f : ℕ → List Mtr) (ks : List ℕ) → flat_map f (map (λ k. k + 1) ks) ≡ flat_map (λ k. f (k + 1)) ks
flat_shift f [] = refl
flat_shift f (k ∷ ks) = ap (λ (ys : List Mtr). f (k + 1) ++ ys) (flat_shift f ks)

module _ {D : Type 0} (g : Ghosts D) where
  pub seen_is : (logs : List D) (k : ℕ) → get_or (map g.seen logs) k [] ≡ seen_at g logs k
  seen_is logs k = elim (slice_get_cases logs k).1 [
    | inl found ↦
        get_or_from_slice_get (map g.seen logs) k (g.seen found.0) [] (slice_get-map g.seen logs k ∙ ap (λ x. option_map g.seen x) found.2) ∙ sym (ap (seen_of g) found.2)
    | inr past ↦ get_or_past (map g.seen logs) k [] (omega (arith, past.0, length-map logs g.seen)) ∙ sym (ap (seen_of g) past.1)
  ]

  lefts_of : Disks D → ℕ → List Mtr
  lefts_of disks k = (log_mtrs (k + 1) (seen_at g disks.logs.items k)).0

  all_is : (disks : Disks D) → all_logged (as_read g disks) ≡ all_left (lefts_of disks)
  unfolding lefts_of
  all_is disks =
      let image = as_read g disks in
      ap by_log_place (flat_shift (λ n. (log_mtrs n (log_of n image)).0) (places_from 0 8)
      ∙ flat_each (λ k. (log_mtrs (k + 1) (log_of (k + 1) image)).0) (lefts_of disks)
      (λ k. ap (λ (f : List ℕ). (log_mtrs (k + 1) f).0) (ap (λ (n : ℕ). get_or image.logs n []) (back k) ∙ seen_is disks.logs.items k)) (places_from 0 8))
    where
      back : (k : ℕ) → k + 1 - 1 ≡ k
      back k = omega arith

  -- lanes that read nothing yet have all that the logs hold
  pub all_to_merge : (lanes : List Lane) (disks : Disks D) → AreFresh lanes → Merges lanes (seen_at g disks.logs.items) (all_logged (as_read g disks))
  unfolding lefts_of
  all_to_merge lanes disks fresh = record {
    lefts = lefts_of disks;
    left = λ place lane is. subst (λ (l : Lane). LaneLeft l (seen_at g disks.logs.items place) (lefts_of disks place) (fault_at (seen_at g disks.logs.items) place)) (sym (fresh place lane is))
        (fresh_remains (place + 1) (seen_at g disks.logs.items place));
    ascend = λ place. log_order (place + 1) (seen_at g disks.logs.items place);
    mtrs_are = all_is disks;
  }
