-- What a store shows where a side that isn't in force was written.
use Rattle.std.proofs.Common.{◌≡◌, ◌≢◌, ◌⊎◌, inl, inr, ℕ, ◌+◌, ◌<◌, ◌≤◌, Bool, true, false, List, length, Option, Some, None, Result, Ok, Err, OnOk, refl, sym, ap, ◌∙◌, subst, arith}
use Rattle.std.specs.Prelude.{◌&&◌, ◌||◌, not, nat_lt, nat_le, ◌==◌, if◌then◌else◌}
use Rattle.std.proofs.lemmas.Bool.{cases_Bool, cases_lt, leb-true, le-leb, lt-ltb, le-ltb, true≢false}
use Rattle.std.proofs.lemmas.Bool.Decides.{nat_tests}
use Rattle.mp_cells.specs.PageView.{PageView, blank_page}
use Rattle.mp_store.specs.declared.headers.Header.{Header}
use Rattle.mp_store.specs.declared.sides.Side.{Side}
use Rattle.mp_store.specs.declared.sides.Side.TheVariants.{First, Second}
use Rattle.mp_store.specs.Layout.{part, is_open, pick, other, header_place, page_place, header_side, page_side}
use Rattle.mp_store.specs.HeaderSides.{header_generation, header_of, header_in}
use Rattle.mp_store.specs.PageSides.{page_generation, page_llsn, page_in, counts, outranks, side_in_force, idle, shown_page}
use Rattle.mp_store.specs.StoreFiles.{header_side_in_force, header_in_force, page_side_in_force, page_in_force}
use Rattle.mp_store.specs.SideWrites.{SameOutside, SideIs, SideLeft, PageLeft, HeaderLeft, idle_place, idle_header_place, yields, kept_side, page_alone}
use Rattle.mp_outside.specs.Disks.{written}
use Rattle.mp_store.proofs.Outside.{part_same, part_written, written_outside}
use Rattle.mp_store.proofs.NewSides.{Shows}

-- ---- which parts are apart

pub header_below : (side : Side) (number : ℕ) (written : Side) → header_place side + 64 ≤ page_place number written
header_below First number First = omega arith
header_below First number Second = omega arith
header_below Second number First = omega arith
header_below Second number Second = omega arith

homes_apart : (m n : ℕ) (s t : Side) → m < n → page_place m s + 1040 ≤ page_place n t
homes_apart m n First First lt = omega arith
homes_apart m n First Second lt = omega arith
homes_apart m n Second First lt = omega arith
homes_apart m n Second Second lt = omega arith

pub pages_apart : (m n : ℕ) (s t : Side) → m ≢ n → (page_place m s + 1040 ≤ page_place n t) ⊎ (page_place n t + 1040 ≤ page_place m s)
pages_apart m n s t differ = elim (cases_lt m n) [
  | inl below ↦ inl (homes_apart m n s t below)
  | inr above ↦ inr (homes_apart n m t s (omega arith))
]

pub sides_apart : (n : ℕ) (s : Side) → (page_place n (other s) + 1040 ≤ page_place n s) ⊎ (page_place n s + 1040 ≤ page_place n (other s))
sides_apart n First = inr (omega arith)
sides_apart n Second = inl (omega arith)

-- ---- the header where a page's side was written

module _ (number : ℕ) (written : Side) (old new : List ℕ) (h : SameOutside (page_place number written) (page_place number written + 1040) old new) where
  pub header_side_kept : (side : Side) → header_side side new ≡ header_side side old
  header_side_kept side = part_same (page_place number written) (page_place number written + 1040) (header_place side) 64 old new h (inl (header_below side number written))

  pub header_kept : header_in_force new ≡ header_in_force old
  unfolding header_in_force
  header_kept =
      let first = header_side_kept First in
      let second = header_side_kept Second in
      let side_is : header_side_in_force new ≡ header_side_in_force old =
      ap (λ (x : List ℕ). header_in x (header_side Second new)) first ∙ ap (λ (x : List ℕ). header_in (header_side First old) x) second in
      ap (λ (s : Side). header_of (header_side s new)) side_is ∙ ap header_of (header_side_kept (header_side_in_force old))

  -- the other pages
  pub page_kept : (g m : ℕ) → m ≢ number → page_in_force g m new ≡ page_in_force g m old
  unfolding page_in_force
  page_kept g m differ =
      let kept = λ (side : Side). part_same (page_place number written) (page_place number written + 1040) (page_place m side) 1040 old new h (pages_apart m number side written differ) in
      rw (kept First, kept Second) refl

  -- the other side of this page
  pub other_kept : page_side number (other written) new ≡ page_side number (other written) old
  other_kept = part_same (page_place number written) (page_place number written + 1040) (page_place number (other written)) 1040 old new h (sides_apart number written)

-- ---- the page whose side was written, by which sides count and which outranks the other

unfoldable pub force : Bool → Bool → Bool → Option Side
force first second later = if second && (not first || later) then Some Second else (if first then Some First else None)

unfoldable pub shown_by : Option Side → PageView → PageView → PageView
shown_by None p q = blank_page 0
shown_by (Some First) p q = p
shown_by (Some Second) p q = q

-- the page that a home shows
unfoldable pub page_of_home : ℕ → List ℕ → List ℕ → PageView
page_of_home g first second = shown_page (side_in_force g first second) first second

shown_page_is : (in_force : Option Side) (first second : List ℕ) → shown_page in_force first second ≡ shown_by in_force (page_in first) (page_in second)
unfolding shown_by
shown_page_is None first second = refl
shown_page_is (Some First) first second = refl
shown_page_is (Some Second) first second = refl

pub home_is : (g : ℕ) (first second : List ℕ) → page_of_home g first second ≡ shown_by (force (counts g first) (counts g second) (outranks second first)) (page_in first) (page_in second)
unfolding page_of_home side_in_force force
home_is g first second = shown_page_is (side_in_force g first second) first second

-- where the first side isn't in force: it may count no more, or count anew
pub first_gone : (x y z later : Bool) (p q new : PageView) → idle (force x y z) ≡ First → shown_by (force false y later) new q ≡ shown_by (force x y z) p q
unfolding force shown_by
first_gone false false z later p q new e = refl
first_gone false true z later p q new e = refl
first_gone true true true later p q new e = refl
first_gone true true false later p q new e = absurd (cc)
first_gone true false z later p q new e = absurd (cc)

first_new : (x y z later : Bool) (p q new : PageView) → idle (force x y z) ≡ First
    → (shown_by (force true y later) new q ≡ shown_by (force x y z) p q) ⊎ (shown_by (force true y later) new q ≡ new)
unfolding force shown_by
first_new x false z later p q new e = inr refl
first_new x true z false p q new e = inr refl
first_new false true z true p q new e = inl refl
first_new true true true true p q new e = inl refl
first_new true true false true p q new e = absurd (cc)

-- where the second side isn't in force, and the first one is
pub second_gone : (x y z later : Bool) (p q new : PageView) → idle (force x y z) ≡ Second → shown_by (force x false later) p new ≡ shown_by (force x y z) p q
unfolding force shown_by
second_gone true false z later p q new e = refl
second_gone true true false later p q new e = refl
second_gone true true true later p q new e = absurd (cc)
second_gone false true z later p q new e = absurd (cc)
second_gone false false z later p q new e = absurd (cc)

second_new : (x y z later : Bool) (p q new : PageView) → idle (force x y z) ≡ Second
    → (shown_by (force x true later) p new ≡ shown_by (force x y z) p q) ⊎ (shown_by (force x true later) p new ≡ new)
unfolding force shown_by
second_new true y z true p q new e = inr refl
second_new true false z false p q new e = inl refl
second_new true true false false p q new e = inl refl
second_new true true true false p q new e = absurd (cc)
second_new false true z later p q new e = absurd (cc)
second_new false false z later p q new e = absurd (cc)

-- a side that isn't open doesn't count, and a new one counts where its generation does
pub shut_counts : (g : ℕ) (side : List ℕ) → is_open side ≡ false → counts g side ≡ false
shut_counts g side shut = rw shut refl

pub new_counts : (g : ℕ) (side : List ℕ) (generation : ℕ) (page : PageView) → Shows side generation page → counts g side ≡ nat_le generation g
new_counts g side generation page h = rw (h.opened, h.generation_is) refl

-- the home where its first side was written, or its second
first_written : (g generation : ℕ) (page : PageView) (side first second new : List ℕ) → Shows side generation page → idle (side_in_force g first second) ≡ First → SideIs side first new
    → (page_of_home g new second ≡ page_of_home g first second) ⊎ ((generation ≤ g) × (page_of_home g new second ≡ page))
unfolding force side_in_force
first_written g generation page side first second new shows idle_is (inl kept) = inl (ap (λ x. page_of_home g x second) kept)
first_written g generation page side first second new shows idle_is (inr (inl shut)) =
    let none = shut_counts g new shut in
    let gone = first_gone (counts g first) (counts g second) (outranks second first) (outranks second new) (page_in first) (page_in second) (page_in new) idle_is in
    inl (home_is g new second ∙ ap (λ x. shown_by (force x (counts g second) (outranks second new)) (page_in new) (page_in second)) none ∙ gone ∙ sym (home_is g first second))
first_written g generation page side first second new shows idle_is (inr (inr whole)) = by_count (cases_Bool (nat_le generation g))
  where
    counted : counts g new ≡ nat_le generation g
    counted = ap (counts g) whole ∙ new_counts g side generation page shows

    at : (b : Bool) → counts g new ≡ b → page_of_home g new second ≡ shown_by (force b (counts g second) (outranks second new)) (page_in new) (page_in second)
    at b is = home_is g new second ∙ ap (λ x. shown_by (force x (counts g second) (outranks second new)) (page_in new) (page_in second)) is

    by_count : (nat_le generation g ≡ true) ⊎ (nat_le generation g ≡ false)
        → (page_of_home g new second ≡ page_of_home g first second) ⊎ ((generation ≤ g) × (page_of_home g new second ≡ page))
    by_count (inl small) =
        elim (first_new (counts g first) (counts g second) (outranks second first) (outranks second new) (page_in first) (page_in second) (page_in new) idle_is) [
          | inl old ↦ inl (at true (counted ∙ small) ∙ old ∙ sym (home_is g first second))
          | inr new_ ↦ inr (leb-true generation g small, at true (counted ∙ small) ∙ new_ ∙ ap page_in whole ∙ shows.page_is)
        ]
    by_count (inr large) =
        inl (at false (counted ∙ large) ∙ first_gone (counts g first) (counts g second) (outranks second first) (outranks second new) (page_in first) (page_in second) (page_in new) idle_is ∙ sym (home_is g first second))

second_written : (g generation : ℕ) (page : PageView) (side first second new : List ℕ) → Shows side generation page → idle (side_in_force g first second) ≡ Second → SideIs side second new
    → (page_of_home g first new ≡ page_of_home g first second) ⊎ ((generation ≤ g) × (page_of_home g first new ≡ page))
unfolding force side_in_force
second_written g generation page side first second new shows idle_is (inl kept) = inl (ap (λ x. page_of_home g first x) kept)
second_written g generation page side first second new shows idle_is (inr (inl shut)) =
    let none = shut_counts g new shut in
    let gone = second_gone (counts g first) (counts g second) (outranks second first) (outranks new first) (page_in first) (page_in second) (page_in new) idle_is in
    inl (home_is g first new ∙ ap (λ x. shown_by (force (counts g first) x (outranks new first)) (page_in first) (page_in new)) none ∙ gone ∙ sym (home_is g first second))
second_written g generation page side first second new shows idle_is (inr (inr whole)) = by_count (cases_Bool (nat_le generation g))
  where
    counted : counts g new ≡ nat_le generation g
    counted = ap (counts g) whole ∙ new_counts g side generation page shows

    at : (b : Bool) → counts g new ≡ b → page_of_home g first new ≡ shown_by (force (counts g first) b (outranks new first)) (page_in first) (page_in new)
    at b is = home_is g first new ∙ ap (λ x. shown_by (force (counts g first) x (outranks new first)) (page_in first) (page_in new)) is

    by_count : (nat_le generation g ≡ true) ⊎ (nat_le generation g ≡ false)
        → (page_of_home g first new ≡ page_of_home g first second) ⊎ ((generation ≤ g) × (page_of_home g first new ≡ page))
    by_count (inl small) =
        elim (second_new (counts g first) (counts g second) (outranks second first) (outranks new first) (page_in first) (page_in second) (page_in new) idle_is) [
          | inl old ↦ inl (at true (counted ∙ small) ∙ old ∙ sym (home_is g first second))
          | inr new_ ↦ inr (leb-true generation g small, at true (counted ∙ small) ∙ new_ ∙ ap page_in whole ∙ shows.page_is)
        ]
    by_count (inr large) =
        inl (at false (counted ∙ large) ∙ second_gone (counts g first) (counts g second) (outranks second first) (outranks new first) (page_in first) (page_in second) (page_in new) idle_is ∙ sym (home_is g first second))

-- ---- a page's side was written

pub file_home : (g number : ℕ) (file : List ℕ) → page_in_force g number file ≡ page_of_home g (page_side number First file) (page_side number Second file)
unfolding page_in_force page_of_home
file_home g number file = refl

this_page : (store number generation : ℕ) (page : PageView) (side old new : List ℕ) (written : Side) → idle (page_side_in_force store number old) ≡ written → Shows side generation page
    → page_side number (other written) new ≡ page_side number (other written) old → SideIs side (page_side number written old) (page_side number written new)
    → (page_in_force store number new ≡ page_in_force store number old) ⊎ ((generation ≤ store) × (page_in_force store number new ≡ page))
this_page store number generation page side old new First idle_is shows kept is =
    let home = file_home store number new ∙ ap (λ x. page_of_home store (page_side number First new) x) kept in
    elim (first_written store generation page side (page_side number First old) (page_side number Second old) (page_side number First new) shows idle_is is) [
      | inl same_ ↦ inl (home ∙ same_ ∙ sym (file_home store number old))
      | inr new_ ↦ inr (new_.0, home ∙ new_.1)
    ]
this_page store number generation page side old new Second idle_is shows kept is =
    let home = file_home store number new ∙ ap (λ x. page_of_home store x (page_side number Second new)) kept in
    elim (second_written store generation page side (page_side number First old) (page_side number Second old) (page_side number Second new) shows idle_is is) [
      | inl same_ ↦ inl (home ∙ same_ ∙ sym (file_home store number old))
      | inr new_ ↦ inr (new_.0, home ∙ new_.1)
    ]

-- a home in any generation, where its first side was written, or its second
first_any : (x y z : Bool) (p q : PageView) → (shown_by (force x y z) p q ≡ p) ⊎ (shown_by (force x y z) p q ≡ (if y then q else blank_page 0))
unfolding force shown_by
first_any true true true p q = inr refl
first_any true true false p q = inl refl
first_any true false z p q = inl refl
first_any false true z p q = inr refl
first_any false false z p q = inr refl

second_any : (x y z : Bool) (p q : PageView) → (shown_by (force x y z) p q ≡ q) ⊎ (shown_by (force x y z) p q ≡ (if x then p else blank_page 0))
unfolding force shown_by
second_any true true true p q = inl refl
second_any true true false p q = inr refl
second_any true false z p q = inr refl
second_any false true z p q = inl refl
second_any false false z p q = inr refl

first_alone : (y z : Bool) (p q : PageView) → shown_by (force false y z) p q ≡ (if y then q else blank_page 0)
unfolding force shown_by
first_alone true z p q = refl
first_alone false z p q = refl

second_alone : (x z : Bool) (p q : PageView) → shown_by (force x false z) p q ≡ (if x then p else blank_page 0)
unfolding force shown_by
second_alone true z p q = refl
second_alone false z p q = refl

any_first : (g : ℕ) (page : PageView) (side first second new : List ℕ) → page_in side ≡ page → SideIs side first new
    → (page_of_home g new second ≡ page_of_home g first second) ⊎ ((page_of_home g new second ≡ page) ⊎ (page_of_home g new second ≡ page_alone g second))
any_first g page side first second new reads (inl kept) = inl (ap (λ x. page_of_home g x second) kept)
any_first g page side first second new reads (inr (inl shut)) =
    inr (inr (home_is g new second ∙ ap (λ x. shown_by (force x (counts g second) (outranks second new)) (page_in new) (page_in second)) (shut_counts g new shut)
    ∙ first_alone (counts g second) (outranks second new) (page_in new) (page_in second)))
any_first g page side first second new reads (inr (inr whole)) = elim (first_any (counts g new) (counts g second) (outranks second new) (page_in new) (page_in second)) [
  | inl this ↦ inr (inl (home_is g new second ∙ this ∙ ap page_in whole ∙ reads))
  | inr that ↦ inr (inr (home_is g new second ∙ that))
]

any_second : (g : ℕ) (page : PageView) (side first second new : List ℕ) → page_in side ≡ page → SideIs side second new
    → (page_of_home g first new ≡ page_of_home g first second) ⊎ ((page_of_home g first new ≡ page) ⊎ (page_of_home g first new ≡ page_alone g first))
any_second g page side first second new reads (inl kept) = inl (ap (page_of_home g first) kept)
any_second g page side first second new reads (inr (inl shut)) =
    inr (inr (home_is g first new ∙ ap (λ x. shown_by (force (counts g first) x (outranks new first)) (page_in first) (page_in new)) (shut_counts g new shut)
    ∙ second_alone (counts g first) (outranks new first) (page_in first) (page_in new)))
any_second g page side first second new reads (inr (inr whole)) = elim (second_any (counts g first) (counts g new) (outranks new first) (page_in first) (page_in new)) [
  | inl this ↦ inr (inl (home_is g first new ∙ this ∙ ap page_in whole ∙ reads))
  | inr that ↦ inr (inr (home_is g first new ∙ that))
]

any_page : (g number : ℕ) (page : PageView) (side old new : List ℕ) (written : Side) → page_in side ≡ page
    → page_side number (other written) new ≡ page_side number (other written) old → SideIs side (page_side number written old) (page_side number written new)
    → (page_in_force g number new ≡ page_in_force g number old) ⊎ ((page_in_force g number new ≡ page) ⊎ (page_in_force g number new ≡ page_alone g (page_side number (other written) old)))
any_page g number page side old new First reads kept is =
    let home = file_home g number new ∙ ap (λ x. page_of_home g (page_side number First new) x) kept in
    elim (any_first g page side (page_side number First old) (page_side number Second old) (page_side number First new) reads is) [
      | inl same_ ↦ inl (home ∙ same_ ∙ sym (file_home g number old))
      | inr (inl new_) ↦ inr (inl (home ∙ new_))
      | inr (inr alone) ↦ inr (inr (home ∙ alone))
    ]
any_page g number page side old new Second reads kept is =
    let home = file_home g number new ∙ ap (λ x. page_of_home g x (page_side number Second new)) kept in
    elim (any_second g page side (page_side number First old) (page_side number Second old) (page_side number Second new) reads is) [
      | inl same_ ↦ inl (home ∙ same_ ∙ sym (file_home g number old))
      | inr (inl new_) ↦ inr (inl (home ∙ new_))
      | inr (inr alone) ↦ inr (inr (home ∙ alone))
    ]

pub page_left : (store number generation : ℕ) (page : PageView) (side old new : List ℕ) → length side ≡ 1040 → Shows side generation page
    → SideLeft (idle_place store number old) side old new → PageLeft store number generation page old new
page_left store number generation page side old new long shows left =
    let written = idle (page_side_in_force store number old) in
    let place = page_place number written in
    let elsewhere : SameOutside place (place + 1040) old new = subst (λ n. SameOutside place (place + n) old new) long left.elsewhere in
    let is = subst (λ n. SideIs side (part place n old) (part place n new)) long left.side_is in
    record {
      header = header_kept number written old new elsewhere;
      others = page_kept number written old new elsewhere;
      sides = λ m s differ. part_same place (place + 1040) (page_place m s) 1040 old new elsewhere (pages_apart m number s written differ);
      page_is = this_page store number generation page side old new written refl shows (other_kept number written old new elsewhere) is;
      later = λ g. any_page g number page side old new written shows.page_is (other_kept number written old new elsewhere) is;
    }

-- ---- a page's side is whole

first_wins : (count later pair : Bool) (q new : PageView) → (not count || pair) ≡ true → (pair ≡ true → later ≡ false) → shown_by (force true count later) new q ≡ new
unfolding force shown_by
first_wins false later pair q new smaller below = refl
first_wins true false pair q new smaller below = refl
first_wins true true true q new smaller below = absurd (true≢false (below refl))
first_wins true true false q new smaller below = absurd (cc)

second_wins : (count later : Bool) (p new : PageView) → (not count || later) ≡ true → shown_by (force count true later) p new ≡ new
unfolding force shown_by
second_wins false later p new above = refl
second_wins true true p new above = refl
second_wins true false p new above = absurd (cc)

pair_below : (g h l m : ℕ) → (nat_lt g h || (g == h && nat_lt l m)) ≡ true → (nat_lt h g || (h == g && nat_lt m l)) ≡ false
pair_below g h l m below = grind (arith, nat_tests)

pub side_shown : (g number generation : ℕ) (page : PageView) (side old new : List ℕ) (written : Side) → Shows side generation page → generation ≤ g
    → yields g generation page.llsn (page_side number (other written) old) ≡ true → page_side number (other written) new ≡ page_side number (other written) old
    → part (page_place number written) 1040 new ≡ side → page_in_force g number new ≡ page
side_shown g number generation page side old new written shows counted smaller kept is = by_side written smaller kept is
  where
    counted_side : counts g side ≡ true
    counted_side = new_counts g side generation page shows ∙ le-leb generation g counted

    by_side : (written : Side) → yields g generation page.llsn (page_side number (other written) old) ≡ true → page_side number (other written) new ≡ page_side number (other written) old
        → part (page_place number written) 1040 new ≡ side → page_in_force g number new ≡ page
    by_side First smaller kept is =
        let kept_side_ = page_side number Second old in
        let later : outranks kept_side_ side ≡ (nat_lt generation (page_generation kept_side_) || (generation == page_generation kept_side_ && nat_lt page.llsn (page_llsn kept_side_))) =
        rw (shows.generation_is, shows.llsn_is) refl in
        file_home g number new ∙ ap (λ x. page_of_home g x (page_side number Second new)) is ∙ ap (λ x. page_of_home g side x) kept ∙ home_is g side kept_side_
        ∙ ap (λ x. shown_by (force x (counts g kept_side_) (outranks kept_side_ side)) (page_in side) (page_in kept_side_)) counted_side
        ∙ first_wins (counts g kept_side_) (outranks kept_side_ side) _ (page_in kept_side_) (page_in side) smaller
        (λ below. later ∙ pair_below (page_generation kept_side_) generation (page_llsn kept_side_) page.llsn below)
        ∙ shows.page_is
    by_side Second smaller kept is =
        let kept_side_ = page_side number First old in
        let later : outranks side kept_side_ ≡ (nat_lt (page_generation kept_side_) generation || (page_generation kept_side_ == generation && nat_lt (page_llsn kept_side_) page.llsn)) =
        rw (shows.generation_is, shows.llsn_is) refl in
        let above : (not (counts g kept_side_) || outranks side kept_side_) ≡ true = ap (λ x. not (counts g kept_side_) || x) later ∙ smaller in
        file_home g number new ∙ ap (λ x. page_of_home g (page_side number First new) x) is ∙ ap (λ x. page_of_home g x side) kept ∙ home_is g kept_side_ side
        ∙ ap (λ x. shown_by (force (counts g kept_side_) x (outranks side kept_side_)) (page_in kept_side_) (page_in side)) counted_side
        ∙ second_wins (counts g kept_side_) (outranks side kept_side_) (page_in kept_side_) (page_in side) above
        ∙ shows.page_is

pub page_after : (store g number generation : ℕ) (page : PageView) (side old new : List ℕ) → length side ≡ 1040 → Shows side generation page → generation ≤ g
    → yields g generation page.llsn (kept_side store number old) ≡ true
    → SameOutside (idle_place store number old) (idle_place store number old + 1040) old new → part (idle_place store number old) 1040 new ≡ side
    → page_in_force g number new ≡ page
page_after store g number generation page side old new long shows counted smaller elsewhere is =
    side_shown g number generation page side old new (idle (page_side_in_force store number old)) shows counted smaller (other_kept number _ old new elsewhere) is

-- ---- a header's side was written

unfoldable pub header_of_home : List ℕ → List ℕ → Header
header_of_home first second = header_of (pick (header_in first second) first second)

picked : (side : Side) (file : List ℕ) → header_side side file ≡ pick side (header_side First file) (header_side Second file)
picked First file = refl
picked Second file = refl

pub header_home : (file : List ℕ) → header_in_force file ≡ header_of_home (header_side First file) (header_side Second file)
unfolding header_in_force header_of_home
header_home file = ap header_of (picked (header_side_in_force file) file)

-- whichever is in force, it is one of the two
either : (first second : List ℕ) → (header_of_home first second ≡ header_of first) ⊎ (header_of_home first second ≡ header_of second)
unfolding header_of_home
either first second = by_side (header_in first second)
  where
    by_side : (side : Side) → (header_of (pick side first second) ≡ header_of first) ⊎ (header_of (pick side first second) ≡ header_of second)
    by_side First = inl refl
    by_side Second = inr refl

-- the header of a home by what is known of its sides
pub header_by : (side : Side) (first second : List ℕ) → header_in first second ≡ side → header_of_home first second ≡ header_of (pick side first second)
unfolding header_of_home
header_by side first second is = ap (λ s. header_of (pick s first second)) is

pub second_shut : (first second : List ℕ) → is_open second ≡ false → header_in first second ≡ First
second_shut first second shut = rw shut refl

first_shut : (first second : List ℕ) → is_open first ≡ false → is_open second ≡ true → header_in first second ≡ Second
first_shut first second shut opened = rw (shut, opened) refl

second_open : (x y z : Bool) → (if y && (not x || z) then Second else First) ≡ Second → y ≡ true
second_open x true z e = refl
second_open x false z e = absurd (cc)

-- where the second side was written, the first being in force, and the other way round
second_header : (header : Header) (side first second new : List ℕ) → header_of side ≡ header → header_in first second ≡ First → SideIs side second new
    → (header_of_home first new ≡ header_of_home first second) ⊎ (header_of_home first new ≡ header)
second_header header side first second new reads first_in (inl kept) = inl (ap (header_of_home first) kept)
second_header header side first second new reads first_in (inr (inl shut)) = inl (header_by First first new (second_shut first new shut) ∙ sym (header_by First first second first_in))
second_header header side first second new reads first_in (inr (inr whole)) =
    elim (either first new) [
      | inl old ↦ inl (old ∙ sym (header_by First first second first_in))
      | inr new_ ↦ inr (new_ ∙ ap header_of whole ∙ reads)
    ]

first_header : (header : Header) (side first second new : List ℕ) → header_of side ≡ header → header_in first second ≡ Second → SideIs side first new
    → (header_of_home new second ≡ header_of_home first second) ⊎ (header_of_home new second ≡ header)
first_header header side first second new reads second_in (inl kept) = inl (ap (λ x. header_of_home x second) kept)
first_header header side first second new reads second_in (inr (inl shut)) =
    let opened = second_open (is_open first) (is_open second) (nat_lt (header_generation first) (header_generation second)) second_in in
    inl (header_by Second new second (first_shut new second shut opened) ∙ sym (header_by Second first second second_in))
first_header header side first second new reads second_in (inr (inr whole)) =
    elim (either new second) [
      | inl new_ ↦ inr (new_ ∙ ap header_of whole ∙ reads)
      | inr old ↦ inl (old ∙ sym (header_by Second first second second_in))
    ]

headers_apart : (s : Side) → (header_place (other s) + 64 ≤ header_place s) ⊎ (header_place s + 64 ≤ header_place (other s))
headers_apart First = inr (omega arith)
headers_apart Second = inl (omega arith)

module _ (written : Side) (old new : List ℕ) (h : SameOutside (header_place written) (header_place written + 64) old new) where
  pub pages_kept : (g number : ℕ) → page_in_force g number new ≡ page_in_force g number old
  unfolding page_in_force
  pages_kept g number =
      let kept = λ (side : Side). part_same (header_place written) (header_place written + 64) (page_place number side) 1040 old new h (inr (header_below written number side)) in
      rw (kept First, kept Second) refl

  pub other_header : header_side (other written) new ≡ header_side (other written) old
  other_header = part_same (header_place written) (header_place written + 64) (header_place (other written)) 64 old new h (headers_apart written)

this_header : (header : Header) (side old new : List ℕ) (in_force : Side) → header_side_in_force old ≡ in_force → header_of side ≡ header → header_side in_force new ≡ header_side in_force old
    → SideIs side (header_side (other in_force) old) (header_side (other in_force) new) → (header_in_force new ≡ header_in_force old) ⊎ (header_in_force new ≡ header)
this_header header side old new First first_in reads kept is =
    let home = header_home new ∙ ap (λ x. header_of_home x (header_side Second new)) kept in
    elim (second_header header side (header_side First old) (header_side Second old) (header_side Second new) reads first_in is) [
      | inl same_ ↦ inl (home ∙ same_ ∙ sym (header_home old))
      | inr new_ ↦ inr (home ∙ new_)
    ]
this_header header side old new Second second_in reads kept is =
    let home = header_home new ∙ ap (λ x. header_of_home (header_side First new) x) kept in
    elim (first_header header side (header_side First old) (header_side Second old) (header_side First new) reads second_in is) [
      | inl same_ ↦ inl (home ∙ same_ ∙ sym (header_home old))
      | inr new_ ↦ inr (home ∙ new_)
    ]

pub other_other : (side : Side) → other (other side) ≡ side
other_other First = refl
other_other Second = refl

pub header_left : (header : Header) (side old new : List ℕ) → length side ≡ 64 → header_of side ≡ header → SideLeft (idle_header_place old) side old new → HeaderLeft header old new
header_left header side old new long reads left =
    let in_force = header_side_in_force old in
    let place = header_place (other in_force) in
    let elsewhere : SameOutside place (place + 64) old new = subst (λ n. SameOutside place (place + n) old new) long left.elsewhere in
    let is = subst (λ n. SideIs side (part place n old) (part place n new)) long left.side_is in
    let kept = subst (λ s. header_side s new ≡ header_side s old) (other_other in_force) (other_header (other in_force) old new elsewhere) in
    record {
      pages = pages_kept (other in_force) old new elsewhere;
      header_is = this_header header side old new in_force refl reads kept is;
    }

-- the header's side is whole, and of a greater generation
pub header_read : (side : List ℕ) (header : Header) → header_of side ≡ header → header_generation side ≡ header.generation
unfolding header_of
header_read side header reads = ap (λ h. h.generation) reads

second_chosen : (first second : List ℕ) → is_open second ≡ true → header_generation first < header_generation second → header_in first second ≡ Second
second_chosen first second opened greater =
    let later : nat_lt (header_generation first) (header_generation second) ≡ true = lt-ltb (header_generation first) (header_generation second) greater in
    rw (opened, later) (by_open (is_open first))
  where
    by_open : (x : Bool) → (if true && (not x || true) then Second else First) ≡ Second
    by_open true = refl
    by_open false = refl

first_chosen : (first second : List ℕ) → is_open first ≡ true → header_generation second < header_generation first → header_in first second ≡ First
first_chosen first second opened greater =
    let later : nat_lt (header_generation first) (header_generation second) ≡ false = le-ltb (header_generation first) (header_generation second) (omega arith) in
    rw (opened, later) (by_open (is_open second))
  where
    by_open : (y : Bool) → (if y && (not true || false) then Second else First) ≡ First
    by_open true = refl
    by_open false = refl

after_by : (header : Header) (side old new : List ℕ) (in_force : Side) → header_side_in_force old ≡ in_force → is_open side ≡ true → header_of side ≡ header → (header_in_force old).generation < header.generation
    → header_side in_force new ≡ header_side in_force old → header_side (other in_force) new ≡ side → header_in_force new ≡ header
after_by header side old new First first_in opened reads greater kept is =
    let a = header_side First old in
    let was : header_in_force old ≡ header_of a = header_home old ∙ header_by First a (header_side Second old) first_in in
    let less : header_generation a < header_generation side = subst (λ n. header_generation a < n) (sym (header_read side header reads)) (subst (λ n. n < header.generation) (ap (λ h. h.generation) was ∙ sym (header_read a (header_of a) refl)) greater) in
    header_home new ∙ ap (λ x. header_of_home x (header_side Second new)) kept ∙ ap (header_of_home a) is ∙ header_by Second a side (second_chosen a side opened less) ∙ reads
after_by header side old new Second second_in opened reads greater kept is =
    let b = header_side Second old in
    let was : header_in_force old ≡ header_of b = header_home old ∙ header_by Second (header_side First old) b second_in in
    let less : header_generation b < header_generation side = subst (λ n. header_generation b < n) (sym (header_read side header reads)) (subst (λ n. n < header.generation) (ap (λ h. h.generation) was ∙ sym (header_read b (header_of b) refl)) greater) in
    header_home new ∙ ap (λ x. header_of_home (header_side First new) x) kept ∙ ap (λ x. header_of_home x b) is ∙ header_by First side b (first_chosen side b opened less) ∙ reads

pub header_after : (header : Header) (side old new : List ℕ) → is_open side ≡ true → header_of side ≡ header → (header_in_force old).generation < header.generation
    → SameOutside (idle_header_place old) (idle_header_place old + 64) old new → part (idle_header_place old) 64 new ≡ side → header_in_force new ≡ header
header_after header side old new opened reads greater elsewhere is =
    let in_force = header_side_in_force old in
    after_by header side old new in_force refl opened reads greater (subst (λ s. header_side s new ≡ header_side s old) (other_other in_force) (other_header (other in_force) old new elsewhere)) is

-- ---- the file with the whole side written

pub page_written : (store g number generation : ℕ) (page : PageView) (side old new : List ℕ) → length side ≡ 1040 → Shows side generation page → generation ≤ g
    → yields g generation page.llsn (kept_side store number old) ≡ true → idle_place store number old + 1040 ≤ length old → new ≡ written (idle_place store number old) side old
    → page_in_force g number new ≡ page
page_written store g number generation page side old new long shows counted smaller room is =
    let place = idle_place store number old in
    let file = written place side old in
    let elsewhere : SameOutside place (place + 1040) old file = subst (λ n. SameOutside place (place + n) old file) long (written_outside place side old (omega arith)) in
    let whole : part place 1040 file ≡ side = subst (λ n. part place n file ≡ side) long (part_written place side old (omega arith)) in
    subst (λ f. page_in_force g number f ≡ page) (sym is) (page_after store g number generation page side old file long shows counted smaller elsewhere whole)

pub header_written : (header : Header) (side old new : List ℕ) → length side ≡ 64 → is_open side ≡ true → header_of side ≡ header → (header_in_force old).generation < header.generation
    → idle_header_place old + 64 ≤ length old → new ≡ written (idle_header_place old) side old → header_in_force new ≡ header
header_written header side old new long opened reads greater room is =
    let place = idle_header_place old in
    let file = written place side old in
    let elsewhere : SameOutside place (place + 64) old file = subst (λ n. SameOutside place (place + n) old file) long (written_outside place side old (omega arith)) in
    let whole : part place 64 file ≡ side = subst (λ n. part place n file ≡ side) long (part_written place side old (omega arith)) in
    subst (λ f. header_in_force f ≡ header) (sym is) (header_after header side old file opened reads greater elsewhere whole)

pub on_ok_both : {T E A B C : Type 0} (result : Result T E) → OnOk result A → OnOk result B → (A → B → C) → OnOk result C
on_ok_both (Ok done) a b then_ = then_ a b
on_ok_both (Err e) a b then_ = tt
