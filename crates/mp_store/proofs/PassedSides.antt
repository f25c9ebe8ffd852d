-- What a pass over many sides leaves of each of them and of the file, and what the store then shows.
use Rattle.std.proofs.Common.{◌≡◌, ◌≢◌, ◌⊎◌, inl, inr, ℕ, ◌+◌, ◌^◌, ◌<◌, ◌≤◌, Bool, true, false, eqb, IsTrue, List, [], ◌∷◌, length, drop, take, None, Result, Ok, Err, OnOk, refl, sym, ap, ◌∙◌, subst, drop-drop, arith}
use Rattle.std.specs.Prelude.{nat_le}
use Rattle.std.proofs.lemmas.Bool.{cases_Bool, cases_eq, cases_lt, eqb-true, true≢false}
use Rattle.std.proofs.lemmas.List.{drop-take, get_or_past}
use Rattle.byteorder.specs.Numbers.{little_number-reads_back}
use Rattle.mp_cells.specs.Numbers.{number_at}
use Rattle.mp_cells.specs.Trees.{PageMap}
use Rattle.mp_outside.specs.Disks.{written, first_changed, Torn, Follows, Only, Quiet}
use Rattle.mp_store.specs.declared.headers.Header.{Header}
use Rattle.mp_store.specs.declared.passes.Pass.{Pass}
use Rattle.mp_store.specs.declared.passes.Pass.TheVariants.{Close, Fill, Open}
use Rattle.mp_store.specs.declared.sides.Side.{Side}
use Rattle.mp_store.specs.declared.sides.Side.TheVariants.{First, Second}
use Rattle.mp_store.specs.Checks.{only_if}
use Rattle.mp_store.specs.Layout.{part, is_open, pick, other, store_length, header_place, page_place, header_side, page_side}
use Rattle.mp_store.specs.HeaderSides.{headers_fault}
use Rattle.mp_store.specs.PageSides.{page_body, page_generation, page_in, counts, outranks, side_in_force, idle, side_fault}
use Rattle.mp_store.specs.StoreFiles.{header_in_force, page_in_force, home_fault, homes_fault, is_map, is_root, roots_fault, length_fault, store_fault}
use Rattle.mp_store.specs.SideWrites.{SameOutside, SideIs, open_side, yields, kept_side}
use Rattle.mp_store.specs.Passes.{is_marked, idle_side, renewed, bodies_of, PassSide, PassDone, SidesPassed, AllPassed, PassedBelow, PagesBelow, WrittenBeside, AllWritten}
use Rattle.mp_store.proofs.Halves.{gate_of_part}
use Rattle.mp_store.proofs.HomeChecks.{home_none}
use Rattle.mp_store.proofs.Outside.{torn_outside, written_outside, part_written, part_same}
use Rattle.mp_store.proofs.NewSides.{page_shown}
use Rattle.mp_store.proofs.ShownAfter.{header_below, pages_apart, sides_apart, force, shown_by, page_of_home, home_is, first_gone, second_gone, shut_counts, file_home, header_of_home, header_home, side_shown}
use Rattle.mp_store.proofs.SoundAfter.{each_home, both_sound, sound_both, home_left, new_side_sound, sound_parts, parts_sound, roots_parts, parts_roots}
use Rattle.mp_store.proofs.LaterShown.{place_below, places_apart, pages_differ}

-- ---- a side, by its gate and its body

open_split : (side : List ℕ) → is_open side ≡ true → side ≡ 165 ∷ drop 1 side
open_split [] h = absurd (cc)
open_split (byte ∷ rest) h = ap (λ b. b ∷ rest) (eqb-true byte 165 h)

-- a side that a pass left so is as it was, not open, or whole
pub side_is : (pass : Pass) (body old new : List ℕ) → PassSide pass body old new → SideIs (open_side body) old new
side_is Close body old new (inl same) = inl same
side_is Close body old new (inr (was, e)) = elim (cases_Bool (is_open new)) [
  | inl yes_ ↦ inl (open_split new yes_ ∙ ap (λ x. 165 ∷ x) e ∙ sym (open_split old was))
  | inr no_ ↦ inr (inl no_)
]
side_is Fill body old new h = inr (inl h)
side_is Open body old new h = elim (cases_Bool (is_open new)) [
  | inl yes_ ↦ inr (inr (open_split new yes_ ∙ ap (λ x. 165 ∷ x) h))
  | inr no_ ↦ inr (inl no_)
]

-- such a side of a later generation is as it was, or doesn't count
counts_not : (store : ℕ) (body old new : List ℕ) → counts store (open_side body) ≡ false → SideIs (open_side body) old new → (new ≡ old) ⊎ (counts store new ≡ false)
counts_not store body old new later (inl same) = inl same
counts_not store body old new later (inr (inl shut)) = inr (shut_counts store new shut)
counts_not store body old new later (inr (inr whole)) = inr (ap (counts store) whole ∙ later)

pub side_counts_not : (store generation llsn : ℕ) (pages : PageMap) (n : ℕ) → store < generation → generation < 2 ^ 64 → counts store (open_side (bodies_of generation llsn pages n)) ≡ false
unfolding page_body number_at
side_counts_not store generation llsn pages n lt fits = late (page_generation (open_side (bodies_of generation llsn pages n))) (little_number-reads_back 8 generation [] fits)
  where
    late : (g : ℕ) → g ≡ generation → nat_le g store ≡ false
    late g e = grind (arith, e, lt)

-- ---- which side is in force stays

first_idle : (y z : Bool) → idle (force false y z) ≡ First
unfolding force
first_idle true z = refl
first_idle false z = refl

second_idle : (x y z z' : Bool) → idle (force x y z) ≡ Second → idle (force x false z') ≡ Second
unfolding force
second_idle true y z z' e = refl
second_idle false true z z' e = absurd (cc)
second_idle false false z z' e = absurd (cc)

home_idle_first : (g : ℕ) (a a' b : List ℕ) → idle (side_in_force g a b) ≡ First → (a' ≡ a) ⊎ (counts g a' ≡ false) → idle (side_in_force g a' b) ≡ First
unfolding force side_in_force
home_idle_first g a a' b was (inl same) = ap (λ x. idle (side_in_force g x b)) same ∙ was
home_idle_first g a a' b was (inr none) = ap (λ x. idle (force x (counts g b) (outranks b a'))) none ∙ first_idle (counts g b) (outranks b a')

home_idle_second : (g : ℕ) (a b b' : List ℕ) → idle (side_in_force g a b) ≡ Second → (b' ≡ b) ⊎ (counts g b' ≡ false) → idle (side_in_force g a b') ≡ Second
unfolding force side_in_force
home_idle_second g a b b' was (inl same) = ap (λ x. idle (side_in_force g a x)) same ∙ was
home_idle_second g a b b' was (inr none) = ap (λ x. idle (force (counts g a) x (outranks b' a))) none ∙ second_idle (counts g a) (counts g b) (outranks b a) (outranks b' a) was

idle_at : (store n : ℕ) (file new : List ℕ) (s : Side) → idle_side store n file ≡ s → page_side n (other s) new ≡ page_side n (other s) file
    → (page_side n s new ≡ page_side n s file) ⊎ (counts store (page_side n s new) ≡ false) → idle_side store n new ≡ s
idle_at store n file new First was kept is =
    ap (λ x. idle (side_in_force store (page_side n First new) x)) kept ∙ home_idle_first store (page_side n First file) (page_side n First new) (page_side n Second file) was is
idle_at store n file new Second was kept is =
    ap (λ x. idle (side_in_force store x (page_side n Second new))) kept ∙ home_idle_second store (page_side n First file) (page_side n Second file) (page_side n Second new) was is

pub idle_stays : (pass : Pass) (store : ℕ) (marks : List Bool) (bodies : ℕ → List ℕ) (file new : List ℕ) (n : ℕ) → is_marked marks n ≡ true → counts store (open_side (bodies n)) ≡ false
    → SidesPassed pass store marks bodies file new → idle_side store n new ≡ idle_side store n file
idle_stays pass store marks bodies file new n marked later h =
    idle_at store n file new (idle_side store n file) refl (h.kept n) (counts_not store (bodies n) _ _ later (side_is pass (bodies n) _ _ (h.marked n marked)))

-- ---- a write in the range of one side

module _ (n : ℕ) (s : Side) (from to : ℕ) (c d : List ℕ) (low : page_place n s ≤ from) (high : to ≤ page_place n s + 1040) (near : SameOutside from to c d) where
  side_apart : (m : ℕ) (t : Side) → (page_place m t + 1040 ≤ page_place n s) ⊎ (page_place n s + 1040 ≤ page_place m t) → page_side m t d ≡ page_side m t c
  side_apart m t (inl below) = part_same from to (page_place m t) 1040 c d near (inl (omega (arith, low, below)))
  side_apart m t (inr above) = part_same from to (page_place m t) 1040 c d near (inr (omega (arith, high, above)))

  pub other_sides : (m : ℕ) (t : Side) → page_place m t ≢ page_place n s → page_side m t d ≡ page_side m t c
  other_sides m t differ = side_apart m t (places_apart m n t s differ)

  pub one_write : (pass : Pass) (store : ℕ) (marks : List Bool) (bodies : ℕ → List ℕ) (file : List ℕ) → is_marked marks n ≡ true → s ≡ idle_side store n file
      → SidesPassed pass store marks bodies file c → PassSide pass (bodies n) (page_side n s file) (page_side n s d) → SidesPassed pass store marks bodies file d
  one_write pass store marks bodies file marked_n is h made = record {
    header = λ t. (let before = header_below t n s in part_same from to (header_place t) 64 c d near (inl (omega (arith, low, before)))) ∙ h.header t;
    kept = λ m. kept_now m ∙ h.kept m;
    unmarked = λ m none. side_apart m (idle_side store m file) (pages_apart m n (idle_side store m file) s (λ e. true≢false (sym marked_n ∙ sym (ap (is_marked marks) e) ∙ none))) ∙ h.unmarked m none;
    marked = made_now;
    long = near.long ∙ h.long;
  }
    where
      kept_now : (m : ℕ) → page_side m (other (idle_side store m file)) d ≡ page_side m (other (idle_side store m file)) c
      kept_now m = elim (cases_eq m n) [
        | inl e ↦ subst (λ k. page_side k (other (idle_side store k file)) d ≡ page_side k (other (idle_side store k file)) c) (sym e)
            (subst (λ t. page_side n (other t) d ≡ page_side n (other t) c) is (side_apart n (other s) (sides_apart n s)))
        | inr differ ↦ side_apart m (other (idle_side store m file)) (pages_apart m n (other (idle_side store m file)) s differ)
      ]

      made_now : (m : ℕ) → is_marked marks m ≡ true → PassSide pass (bodies m) (page_side m (idle_side store m file) file) (page_side m (idle_side store m file) d)
      made_now m marked_m = elim (cases_eq m n) [
        | inl e ↦ subst (λ k. PassSide pass (bodies k) (page_side k (idle_side store k file) file) (page_side k (idle_side store k file) d)) (sym e)
            (subst (λ t. PassSide pass (bodies n) (page_side n t file) (page_side n t d)) is made)
        | inr differ ↦ subst (λ x. PassSide pass (bodies m) (page_side m (idle_side store m file) file) x)
            (sym (side_apart m (idle_side store m file) (pages_apart m n (idle_side store m file) s differ))) (h.marked m marked_m)
      ]

-- the gate and the body of a side
gate_part : (place : ℕ) (file : List ℕ) → is_open (part place 1040 file) ≡ is_open (part place 1 file)
gate_part place file = gate_of_part place 1040 file (omega arith) ∙ sym (gate_of_part place 1 file (omega arith))

body_part : (place : ℕ) (file : List ℕ) → drop 1 (part place 1040 file) ≡ part (place + 1) 1039 file
body_part place file = drop-take 1 1039 (drop place file) ∙ ap (take 1039) (drop-drop 1 place file)

body_kept : (place : ℕ) (c d : List ℕ) → SameOutside place (place + 1) c d → drop 1 (part place 1040 d) ≡ drop 1 (part place 1040 c)
body_kept place c d near = body_part place d ∙ part_same place (place + 1) (place + 1) 1039 c d near (inr (omega arith)) ∙ sym (body_part place c)

gate_kept : (place : ℕ) (c d : List ℕ) → SameOutside (place + 1) (place + 1040) c d → is_open (part place 1040 d) ≡ is_open (part place 1040 c)
gate_kept place c d near = gate_part place d ∙ ap is_open (part_same (place + 1) (place + 1040) place 1 c d near (inl (omega arith))) ∙ sym (gate_part place c)

-- what closing left, by the side as it was
closed_body : (body old new : List ℕ) → PassSide Close body old new → drop 1 new ≡ drop 1 old
closed_body body old new (inl same) = ap (drop 1) same
closed_body body old new (inr (was, e)) = e

was_open_before : (body old new : List ℕ) → PassSide Close body old new → is_open new ≡ true → is_open old ≡ true
was_open_before body old new (inl same) opened = ap is_open (sym same) ∙ opened
was_open_before body old new (inr (was, e)) opened = was

-- ---- all images of a disk after a write

all_after : (pass : Pass) (store : ℕ) (marks : List Bool) (bodies : ℕ → List ℕ) (file seen : List ℕ) (image later : List ℕ → Type 0) (from to : ℕ) → AllPassed pass store marks bodies file seen image
    → Follows (Torn (first_changed from seen) to) image later → from ≤ to → to ≤ store_length
    → ((c d : List ℕ) → SidesPassed pass store marks bodies file c → SameOutside from to c d → SidesPassed pass store marks bodies file d)
    → (d : List ℕ) → later d → SidesPassed pass store marks bodies file d
all_after pass store marks bodies file seen image later from to all follows ordered most step d left =
    let f = follows d left in
    let h = all.leaves f.0 f.1 in
    let long = h.long in
    let seen_long = all.reads.long in
    let room = all.room in
    let at : first_changed from seen ≡ from = omega (arith, seen_long, room, ordered, most) in
    let torn = subst (λ p. Torn p to f.0 d) at f.2 in
    step f.0 d h (torn_outside from to f.0 d (omega (arith, long, room, ordered, most)) (omega (arith, long, room, most)) torn)

module _ (store : ℕ) (marks : List Bool) (bodies : ℕ → List ℕ) (file seen : List ℕ) (image later : List ℕ → Type 0) (n : ℕ) (s : Side) (lt : n < 4096) (marked : is_marked marks n ≡ true) (is : s ≡ idle_side store n file) where
  pub close_all : AllPassed Close store marks bodies file seen image → is_open (page_side n s seen) ≡ true
      → Follows (Torn (first_changed (page_place n s) seen) (page_place n s + 1)) image later → (d : List ℕ) → later d → SidesPassed Close store marks bodies file d
  close_all all opened follows =
      let within = place_below n s lt in
      let reads = subst (λ t. PassSide Close (bodies n) (page_side n t file) (page_side n t seen)) (sym is) (all.reads.marked n marked) in
      let was = was_open_before (bodies n) _ _ reads opened in
      all_after Close store marks bodies file seen image later (page_place n s) (page_place n s + 1) all follows (omega arith) (omega (arith, within)) (λ c d h near.
      one_write n s (page_place n s) (page_place n s + 1) c d (omega arith) (omega arith) near Close store marks bodies file marked is h
      (inr (was, body_kept (page_place n s) c d near ∙ closed_body (bodies n) _ _ (subst (λ t. PassSide Close (bodies n) (page_side n t file) (page_side n t c)) (sym is) (h.marked n marked)))))

  pub fill_all : AllPassed Fill store marks bodies file seen image
      → Follows (Torn (first_changed (page_place n s + 1) seen) (page_place n s + 1 + 1039)) image later → (d : List ℕ) → later d → SidesPassed Fill store marks bodies file d
  fill_all all follows =
      let within = place_below n s lt in
      let to : page_place n s + 1 + 1039 ≡ page_place n s + 1040 = omega arith in
      all_after Fill store marks bodies file seen image later (page_place n s + 1) (page_place n s + 1 + 1039) all follows (omega arith) (omega (arith, within)) (λ c d h near.
      one_write n s (page_place n s + 1) (page_place n s + 1 + 1039) c d (omega arith) (omega arith) near Fill store marks bodies file marked is h
      (gate_kept (page_place n s) c d (subst (λ e. SameOutside (page_place n s + 1) e c d) to near) ∙ subst (λ t. is_open (page_side n t c) ≡ false) (sym is) (h.marked n marked)))

  pub open_all : AllPassed Open store marks bodies file seen image
      → Follows (Torn (first_changed (page_place n s) seen) (page_place n s + 1)) image later → (d : List ℕ) → later d → SidesPassed Open store marks bodies file d
  open_all all follows =
      let within = place_below n s lt in
      all_after Open store marks bodies file seen image later (page_place n s) (page_place n s + 1) all follows (omega arith) (omega (arith, within)) (λ c d h near.
      one_write n s (page_place n s) (page_place n s + 1) c d (omega arith) (omega arith) near Open store marks bodies file marked is h
      (body_kept (page_place n s) c d near ∙ subst (λ t. drop 1 (page_side n t c) ≡ bodies n) (sym is) (h.marked n marked)))

-- ---- what a write makes of the side that it is of

pub gate_made : (place byte : ℕ) (file : List ℕ) → place < length file → is_open (part place 1040 (written place (byte ∷ []) file)) ≡ eqb byte 165
gate_made place byte file lt = gate_part place (written place (byte ∷ []) file) ∙ ap is_open (part_written place (byte ∷ []) file (omega arith))

pub body_made : (place : ℕ) (body file : List ℕ) → length body ≡ 1039 → place + 1 ≤ length file → drop 1 (part place 1040 (written (place + 1) body file)) ≡ body
body_made place body file long room =
    body_part place (written (place + 1) body file) ∙ subst (λ w. part (place + 1) w (written (place + 1) body file) ≡ body) long (part_written (place + 1) body file room)

pub others_made : (n : ℕ) (s : Side) (from : ℕ) (bytes file : List ℕ) → page_place n s ≤ from → from + length bytes ≤ page_place n s + 1040 → from + length bytes ≤ length file
    → (m : ℕ) (t : Side) → page_place m t ≢ page_place n s → page_side m t (written from bytes file) ≡ page_side m t file
others_made n s from bytes file low high room m t differ =
    other_sides n s from (from + length bytes) file (written from bytes file) low high (written_outside from bytes file room) m t differ

-- ---- the pages so far

pub quiet_passed : (pass : Pass) (store : ℕ) (marks : List Bool) (bodies : ℕ → List ℕ) (file seen seen_after : List ℕ) (image image_after : List ℕ → Type 0) → Quiet seen image seen_after image_after
    → AllPassed pass store marks bodies file seen image → AllPassed pass store marks bodies file seen_after image_after
quiet_passed pass store marks bodies file seen seen_after image image_after quiet all =
    record { room = all.room; reads = subst (SidesPassed pass store marks bodies file) (sym quiet.same) all.reads; leaves = λ c left. all.leaves c (quiet.no_new c left) }

pub picked_page : (side : Side) (n : ℕ) (first second file : List ℕ) → first ≡ page_side n First file → second ≡ page_side n Second file → pick side first second ≡ page_side n side file
picked_page First n first second file f s = f
picked_page Second n first second file f s = s

-- the side to be written, by what was read of the two
pub idle_read : (pass : Pass) (store : ℕ) (marks : List Bool) (bodies : ℕ → List ℕ) (file seen : List ℕ) (n : ℕ) (first second : List ℕ) → is_marked marks n ≡ true
    → counts store (open_side (bodies n)) ≡ false → SidesPassed pass store marks bodies file seen → first ≡ page_side n First seen → second ≡ page_side n Second seen
    → idle (side_in_force store first second) ≡ idle_side store n file
idle_read pass store marks bodies file seen n first second marked later h f s =
    ap (λ x. idle (side_in_force store x second)) f ∙ ap (λ x. idle (side_in_force store (page_side n First seen) x)) s ∙ idle_stays pass store marks bodies file seen n marked later h

pub below_more : (pass : Pass) (store : ℕ) (marks : List Bool) (bodies : ℕ → List ℕ) (file seen new : List ℕ) (n : ℕ) (s : Side) → s ≡ idle_side store n file
    → PassedBelow n pass store marks bodies file seen → ((m : ℕ) (t : Side) → page_place m t ≢ page_place n s → page_side m t new ≡ page_side m t seen)
    → PassDone pass (bodies n) (page_side n s new) → PassedBelow (n + 1) pass store marks bodies file new
below_more pass store marks bodies file seen new n s is before kept done m lt marked = elim (cases_lt m n) [
  | inl below ↦ subst (PassDone pass (bodies m)) (sym (kept m (idle_side store m file) (pages_differ m n (idle_side store m file) s below))) (before m below marked)
  | inr above ↦ (let e : n ≡ m = omega (arith, lt, above) in subst (λ k. PassDone pass (bodies k) (page_side k (idle_side store k file) new)) e
      (subst (λ t. PassDone pass (bodies n) (page_side n t new)) is done))
]

pub unmarked_more : (P : ℕ → Type 0) (marks : List Bool) (n : ℕ) → is_marked marks n ≡ false → ((m : ℕ) → m < n → is_marked marks m ≡ true → P m)
    → (m : ℕ) → m < n + 1 → is_marked marks m ≡ true → P m
unmarked_more P marks n none before m lt marked = elim (cases_lt m n) [
  | inl below ↦ before m below marked
  | inr above ↦ (let e : m ≡ n = omega (arith, lt, above) in absurd (true≢false (sym marked ∙ ap (is_marked marks) e ∙ none)))
]

pub marked_more : (P : ℕ → Type 0) (marks : List Bool) (n : ℕ) → P n → ((m : ℕ) → m < n → is_marked marks m ≡ true → P m)
    → (m : ℕ) → m < n + 1 → is_marked marks m ≡ true → P m
marked_more P marks n this before m lt marked = elim (cases_lt m n) [
  | inl below ↦ before m below marked
  | inr above ↦ (let e : n ≡ m = omega (arith, lt, above) in subst P e this)
]

pub both_ok : {T E A C : Type 0} {B : ℕ → Side → Type 0} {P : ℕ → Side → Type 0} (result : Result T E) → OnOk result A → ((m : ℕ) (t : Side) → P m t → OnOk result (B m t))
    → (A → ((m : ℕ) (t : Side) → P m t → B m t) → C) → OnOk result C
both_ok (Ok done) a b then_ = then_ a b
both_ok (Err e) a b then_ = tt

pub any_ok : {T E A : Type 0} (result : Result T E) → A → OnOk result A
any_ok (Ok done) a = a
any_ok (Err e) a = tt

-- ---- the passes one after another

within : (marks : List Bool) (n : ℕ) → length marks ≡ 4096 → is_marked marks n ≡ true → n < 4096
within marks n long is = elim (cases_lt n 4096) [
  | inl lt ↦ lt
  | inr from ↦ absurd (true≢false (sym is ∙ get_or_past marks n false (omega (arith, long, from))))
]

pub none_passed : (store : ℕ) (marks : List Bool) (bodies : ℕ → List ℕ) (file : List ℕ) (image : List ℕ → Type 0) → store_length ≤ length file → Only file image
    → AllPassed Close store marks bodies file file image
none_passed store marks bodies file image room only =
    let same : SidesPassed Close store marks bodies file file = record { header = λ s. refl; kept = λ n. refl; unmarked = λ n e. refl; marked = λ n e. inl refl; long = refl } in
    record { room = room; reads = same; leaves = λ c left. subst (SidesPassed Close store marks bodies file) (sym (only c left)) same }

-- a pass made safe is where the next one begins
only_passed : (pass : Pass) (store : ℕ) (marks : List Bool) (bodies : ℕ → List ℕ) (file seen : List ℕ) (image : List ℕ → Type 0) → store_length ≤ length file → Only seen image
    → SidesPassed pass store marks bodies file seen → AllPassed pass store marks bodies file seen image
only_passed pass store marks bodies file seen image room only h =
    record { room = room; reads = h; leaves = λ c left. subst (SidesPassed pass store marks bodies file) (sym (only c left)) h }

module _ (store : ℕ) (marks : List Bool) (bodies : ℕ → List ℕ) (file seen : List ℕ) (image : List ℕ → Type 0) (long : length marks ≡ 4096) (only : Only seen image) where
  pub then_fill : AllPassed Close store marks bodies file seen image → PassedBelow 4096 Close store marks bodies file seen → AllPassed Fill store marks bodies file seen image
  then_fill all done = let h = all.reads in only_passed Fill store marks bodies file seen image all.room only
      (record { header = h.header; kept = h.kept; unmarked = h.unmarked; marked = λ n is. done n (within marks n long is) is; long = h.long })

  pub then_open : AllPassed Fill store marks bodies file seen image → PassedBelow 4096 Fill store marks bodies file seen → AllPassed Open store marks bodies file seen image
  then_open all done = let h = all.reads in only_passed Open store marks bodies file seen image all.room only
      (record { header = h.header; kept = h.kept; unmarked = h.unmarked; marked = λ n is. done n (within marks n long is) is; long = h.long })

-- ---- what the store shows

beside_first : (g : ℕ) (a a' b : List ℕ) → idle (side_in_force g a b) ≡ First → (a' ≡ a) ⊎ (counts g a' ≡ false) → page_of_home g a' b ≡ page_of_home g a b
unfolding force side_in_force
beside_first g a a' b idle_is (inl same) = ap (λ x. page_of_home g x b) same
beside_first g a a' b idle_is (inr none) =
    home_is g a' b ∙ ap (λ x. shown_by (force x (counts g b) (outranks b a')) (page_in a') (page_in b)) none
    ∙ first_gone (counts g a) (counts g b) (outranks b a) (outranks b a') (page_in a) (page_in b) (page_in a') idle_is ∙ sym (home_is g a b)

beside_second : (g : ℕ) (a b b' : List ℕ) → idle (side_in_force g a b) ≡ Second → (b' ≡ b) ⊎ (counts g b' ≡ false) → page_of_home g a b' ≡ page_of_home g a b
unfolding force side_in_force
beside_second g a b b' idle_is (inl same) = ap (page_of_home g a) same
beside_second g a b b' idle_is (inr none) =
    home_is g a b' ∙ ap (λ x. shown_by (force (counts g a) x (outranks b' a)) (page_in a) (page_in b')) none
    ∙ second_gone (counts g a) (counts g b) (outranks b a) (outranks b' a) (page_in a) (page_in b) (page_in b') idle_is ∙ sym (home_is g a b)

beside_page : (store n : ℕ) (file new : List ℕ) (s : Side) → idle_side store n file ≡ s → page_side n (other s) new ≡ page_side n (other s) file
    → (page_side n s new ≡ page_side n s file) ⊎ (counts store (page_side n s new) ≡ false) → page_in_force store n new ≡ page_in_force store n file
beside_page store n file new First was kept is =
    file_home store n new ∙ ap (page_of_home store (page_side n First new)) kept
    ∙ beside_first store (page_side n First file) (page_side n First new) (page_side n Second file) was is ∙ sym (file_home store n file)
beside_page store n file new Second was kept is =
    file_home store n new ∙ ap (λ x. page_of_home store x (page_side n Second new)) kept
    ∙ beside_second store (page_side n First file) (page_side n Second file) (page_side n Second new) was is ∙ sym (file_home store n file)

side_beside : (g place : ℕ) (old new : List ℕ) → (new ≡ old) ⊎ (counts g new ≡ false) → only_if (counts g old) (side_fault place old) ≡ None → only_if (counts g new) (side_fault place new) ≡ None
side_beside g place old new (inl same) was = subst (λ x. only_if (counts g x) (side_fault place x) ≡ None) (sym same) was
side_beside g place old new (inr none) was = rw none refl

home_beside : (g n : ℕ) (file new : List ℕ) (s : Side) → page_side n (other s) new ≡ page_side n (other s) file
    → (page_side n s new ≡ page_side n s file) ⊎ (counts g (page_side n s new) ≡ false) → home_fault g n file ≡ None → home_fault g n new ≡ None
home_beside g n file new First kept is was =
    let parts = both_sound g (page_place n First) (page_side n First file) (page_side n Second file) was in
    sound_both g (page_place n First) (page_side n First new) (page_side n Second new)
    (side_beside g (page_place n First) (page_side n First file) (page_side n First new) is parts.0)
    (subst (λ x. only_if (counts g x) (side_fault (page_place n First + 1040) x) ≡ None) (sym kept) parts.1)
home_beside g n file new Second kept is was =
    let parts = both_sound g (page_place n First) (page_side n First file) (page_side n Second file) was in
    sound_both g (page_place n First) (page_side n First new) (page_side n Second new)
    (subst (λ x. only_if (counts g x) (side_fault (page_place n First) x) ≡ None) (sym kept) parts.0)
    (side_beside g (page_place n First + 1040) (page_side n Second file) (page_side n Second new) is parts.1)

pub passed_beside : (pass : Pass) (store : ℕ) (marks : List Bool) (bodies : ℕ → List ℕ) (file new : List ℕ) → ((n : ℕ) → counts store (open_side (bodies n)) ≡ false)
    → SidesPassed pass store marks bodies file new → WrittenBeside store file new
passed_beside pass store marks bodies file new later h = record { header = header_is; pages = page_is; sound = sound_is; long = h.long }
  where
    side : (n : ℕ) → (page_side n (idle_side store n file) new ≡ page_side n (idle_side store n file) file) ⊎ (counts store (page_side n (idle_side store n file) new) ≡ false)
    side n = elim (cases_Bool (is_marked marks n)) [
      | inl yes_ ↦ counts_not store (bodies n) _ _ (later n) (side_is pass (bodies n) _ _ (h.marked n yes_))
      | inr no_ ↦ inl (h.unmarked n no_)
    ]

    header_is : header_in_force new ≡ header_in_force file
    header_is = header_home new ∙ ap (λ x. header_of_home x (header_side Second new)) (h.header First) ∙ ap (header_of_home (header_side First file)) (h.header Second) ∙ sym (header_home file)

    page_is : (n : ℕ) → page_in_force store n new ≡ page_in_force store n file
    page_is n = beside_page store n file new (idle_side store n file) refl (h.kept n) (side n)

    homes : homes_fault store 4096 file ≡ None → homes_fault store 4096 new ≡ None
    homes was = each_home store 4096 new (λ n lt. home_beside store n file new (idle_side store n file) (h.kept n) (side n) (home_none store 4096 n file lt was))

    sound_is : (header_in_force file).generation ≡ store → store_fault file ≡ None → store_fault new ≡ None
    sound_is is sound =
        let parts = sound_parts file sound in
        let roots = roots_parts store file (subst (λ g. roots_fault g file ≡ None) is parts.roots) in
        let now : (header_in_force new).generation ≡ store = ap (λ (x : Header). x.generation) header_is ∙ is in
        parts_sound new (record {
          long = ap length_fault h.long ∙ parts.long;
          headers = ap (λ x. headers_fault x (header_side Second new)) (h.header First) ∙ ap (headers_fault (header_side First file)) (h.header Second) ∙ parts.headers;
          homes = subst (λ g. homes_fault g 4096 new ≡ None) (sym now) (homes (subst (λ g. homes_fault g 4096 file ≡ None) is parts.homes));
          roots = subst (λ g. roots_fault g new ≡ None) (sym now) (parts_roots store new (ap is_map (page_is 0) ∙ roots.0) (ap is_root (page_is 1) ∙ roots.1));
        })

-- ---- the sides are whole

either_side : (P : Side → Type 0) (s : Side) → P s → P (other s) → (t : Side) → P t
either_side P First p q First = p
either_side P First p q Second = q
either_side P Second p q First = q
either_side P Second p q Second = p

pub all_written : (store generation llsn : ℕ) (marks : List Bool) (pages : PageMap) (file new : List ℕ) → 1 ≤ generation → generation < 2 ^ 64 → length marks ≡ 4096
    → SidesPassed Open store marks (bodies_of generation llsn pages) file new → PassedBelow 4096 Open store marks (bodies_of generation llsn pages) file new
    → PagesBelow 4096 marks llsn pages → AllWritten store generation llsn marks pages file new
all_written store generation llsn marks pages file new least fits long h opened sound = record { homes = homes; shown = shown; others = others }
  where
    whole : (n : ℕ) → is_marked marks n ≡ true → page_side n (idle_side store n file) new ≡ open_side (bodies_of generation llsn pages n)
    whole n is = open_split (page_side n (idle_side store n file) new) (opened n (within marks n long is) is) ∙ ap (λ x. 165 ∷ x) (h.marked n is)

    others : (n : ℕ) (side : Side) → is_marked marks n ≡ false → page_side n side new ≡ page_side n side file
    others n side none = either_side (λ t. page_side n t new ≡ page_side n t file) (idle_side store n file) (h.unmarked n none) (h.kept n) side

    homes : homes_fault generation 4096 file ≡ None → homes_fault generation 4096 new ≡ None
    homes was = each_home generation 4096 new (λ n lt. elim (cases_Bool (is_marked marks n)) [
      | inl is ↦ home_left generation n (idle_side store n file) (open_side (bodies_of generation llsn pages n)) file new
          (λ place. new_side_sound place generation (renewed llsn pages n) least fits (sound n lt is)) (h.kept n) (inr (inr (whole n is))) (home_none generation 4096 n file lt was)
      | inr none ↦ home_beside generation n file new First (others n Second none) (inl (others n First none)) (home_none generation 4096 n file lt was)
    ])

    shown : (n : ℕ) → is_marked marks n ≡ true → IsTrue (yields generation generation llsn (kept_side store n file)) → page_in_force generation n new ≡ renewed llsn pages n
    shown n is smaller =
        side_shown generation n generation (renewed llsn pages n) (open_side (bodies_of generation llsn pages n)) file new (idle_side store n file)
        (page_shown generation (renewed llsn pages n) fits (sound n (within marks n long is) is)) (omega arith) smaller (h.kept n) (whole n is)
