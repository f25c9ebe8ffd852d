-- Where a file is of the grammar, what writing a side leaves is too.
use Rattle.std.proofs.Common.{◌≡◌, ◌≢◌, inl, inr, ℕ, zero, suc, ◌+◌, ◌^◌, ◌<◌, ◌≤◌, Bool, true, false, IsTrue, List, [], ◌∷◌, length, Option, None, refl, sym, ap, ◌∙◌, subst, arith}
use Rattle.std.specs.Prelude.{◌&&◌, ◌||◌, not, nat_lt, nat_le, ◌==◌, if◌then◌else◌}
use Rattle.std.proofs.lemmas.Bool.{le-leb, lt-ltb}
use Rattle.byteorder.specs.Endian.{little_bytes, little_number}
use Rattle.byteorder.specs.Numbers.{little_number-reads_back}
use Rattle.std.proofs.lemmas.Bool.Decides.{eqb_tells}
use Rattle.mp_cells.specs.Numbers.{number_at}
use Rattle.mp_cells.specs.PageView.{PageView, IsPage}
use Rattle.mp_page.proofs.PageAgain.{spelling-sound}
use Rattle.mp_store.specs.declared.headers.Header.{Header}
use Rattle.mp_store.specs.declared.sides.Side.{Side}
use Rattle.mp_store.specs.declared.sides.Side.TheVariants.{First, Second}
use Rattle.mp_store.specs.Checks.{unless, only_if, first_of}
use Rattle.mp_store.specs.Layout.{part, is_open, other, header_place, page_place, header_side, page_side}
use Rattle.mp_store.specs.HeaderSides.{IsHeader, header_body, header_of, header_generation, header_fault, headers_fault, header_in}
use Rattle.mp_store.specs.PageSides.{page_body, page_generation, counts, side_fault, sides_fault, idle}
use Rattle.mp_store.specs.StoreFiles.{header_side_in_force, header_in_force, page_side_in_force, page_in_force, home_fault, homes_fault, is_map, is_root, map_fault, roots_fault, length_fault, store_fault}
use Rattle.mp_store.specs.SideWrites.{SameOutside, SideIs, SideLeft, PageLeft, open_side, idle_place, idle_header_place}
use Rattle.mp_store.proofs.HeaderChecks.{none_first, none_unless}
use Rattle.mp_store.proofs.HomeChecks.{home_none, sound_in_force}
use Rattle.mp_store.proofs.Outside.{part_same}
use Rattle.mp_store.proofs.NewSides.{page_shown, header_shown}
use Rattle.mp_store.proofs.ShownAfter.{header_side_kept, other_kept, shut_counts, pages_apart, page_left, header_left, other_other, other_header, header_read, header_below}

-- the four checks of a file that is of the grammar
pub record Sound (file : List ℕ) : Type 0 where
  pub long : length_fault (length file) ≡ None
  pub headers : headers_fault (header_side First file) (header_side Second file) ≡ None
  pub homes : homes_fault (header_in_force file).generation 4096 file ≡ None
  pub roots : roots_fault (header_in_force file).generation file ≡ None

pub sound_parts : (file : List ℕ) → store_fault file ≡ None → Sound file
unfolding store_fault
sound_parts file h =
    let homes = homes_fault (header_in_force file).generation 4096 file in
    let roots = roots_fault (header_in_force file).generation file in
    let headers = headers_fault (header_side First file) (header_side Second file) in
    let a = none_first (length_fault (length file)) (headers ∷ homes ∷ roots ∷ []) h in
    let b = none_first headers (homes ∷ roots ∷ []) a.1 in
    let c = none_first homes (roots ∷ []) b.1 in
    record { long = a.0; headers = b.0; homes = c.0; roots = (none_first roots [] c.1).0 }

pub parts_sound : (file : List ℕ) → Sound file → store_fault file ≡ None
unfolding store_fault
parts_sound file h = rw (h.long, h.headers, h.homes, h.roots) refl

-- ---- homes

pub each_home : (g all : ℕ) (file : List ℕ) → ((number : ℕ) → number < all → home_fault g number file ≡ None) → homes_fault g all file ≡ None
unfolding homes_fault
each_home g zero file each = refl
each_home g (suc all) file each = rw (each_home g all file (λ number lt. each number (omega arith)), each all (omega arith)) refl

pub both_sound : (g place : ℕ) (first second : List ℕ) → sides_fault g place first second ≡ None
    → (only_if (counts g first) (side_fault place first) ≡ None) × (only_if (counts g second) (side_fault (place + 1040) second) ≡ None)
unfolding sides_fault
both_sound g place first second h =
    let f = only_if (counts g first) (side_fault place first) in
    let s = only_if (counts g second) (side_fault (place + 1040) second) in
    let a = none_first f (s ∷ []) h in
    (a.0, (none_first s [] a.1).0)

pub sound_both : (g place : ℕ) (first second : List ℕ) → only_if (counts g first) (side_fault place first) ≡ None → only_if (counts g second) (side_fault (place + 1040) second) ≡ None
    → sides_fault g place first second ≡ None
unfolding sides_fault
sound_both g place first second f s = rw (f, s) refl

-- a side that was written
side_left : (g place : ℕ) (side old new : List ℕ) → SideIs side old new → side_fault place side ≡ None → only_if (counts g old) (side_fault place old) ≡ None
    → only_if (counts g new) (side_fault place new) ≡ None
side_left g place side old new (inl kept) whole was = subst (λ s. only_if (counts g s) (side_fault place s) ≡ None) (sym kept) was
side_left g place side old new (inr (inl shut)) whole was = let none : counts g new ≡ false = shut_counts g new shut in rw none refl
side_left g place side old new (inr (inr is)) whole was = ap (only_if (counts g new)) (ap (side_fault place) is ∙ whole) ∙ by_count (counts g new) where
  by_count : (counted : Bool) → only_if counted None ≡ None
  by_count true = refl
  by_count false = refl

-- a new side has no fault
pub new_side_sound : (place generation : ℕ) (page : PageView) → 1 ≤ generation → generation < 2 ^ 64 → IsPage page → side_fault place (open_side (page_body generation page)) ≡ None
unfolding side_fault page_body number_at
new_side_sound place generation page least fits is_page =
    let shows = page_shown generation page fits is_page in
    let test : nat_le 1 (page_generation (open_side (page_body generation page))) ≡ true = ap (nat_le 1) (shows.generation_is) ∙ le-leb 1 generation least in
    rw (test, (spelling-sound page is_page).0) refl

pub home_left : (g number : ℕ) (written : Side) (side old new : List ℕ) → ((place : ℕ) → side_fault place side ≡ None)
    → page_side number (other written) new ≡ page_side number (other written) old → SideIs side (page_side number written old) (page_side number written new)
    → home_fault g number old ≡ None → home_fault g number new ≡ None
home_left g number First side old new whole kept is was =
    let parts = both_sound g (page_place number First) (page_side number First old) (page_side number Second old) was in
    sound_both g (page_place number First) (page_side number First new) (page_side number Second new)
    (side_left g (page_place number First) side (page_side number First old) (page_side number First new) is (whole (page_place number First)) parts.0)
    (subst (λ s. only_if (counts g s) (side_fault (page_place number First + 1040) s) ≡ None) (sym kept) parts.1)
home_left g number Second side old new whole kept is was =
    let parts = both_sound g (page_place number First) (page_side number First old) (page_side number Second old) was in
    sound_both g (page_place number First) (page_side number First new) (page_side number Second new)
    (subst (λ s. only_if (counts g s) (side_fault (page_place number First) s) ≡ None) (sym kept) parts.0)
    (side_left g (page_place number First + 1040) side (page_side number Second old) (page_side number Second new) is (whole (page_place number First + 1040)) parts.1)

homes_left : (g number : ℕ) (written : Side) (side old new : List ℕ) → ((place : ℕ) → side_fault place side ≡ None)
    → SameOutside (page_place number written) (page_place number written + 1040) old new → SideIs side (page_side number written old) (page_side number written new)
    → homes_fault g 4096 old ≡ None → homes_fault g 4096 new ≡ None
homes_left g number written side old new whole elsewhere is was = each_home g 4096 new each where
  kept : (m : ℕ) → m ≢ number → (s : Side) → page_side m s new ≡ page_side m s old
  kept m differ s = part_same (page_place number written) (page_place number written + 1040) (page_place m s) 1040 old new elsewhere (pages_apart m number s written differ)

  each : (m : ℕ) → m < 4096 → home_fault g m new ≡ None
  each m lt = elim (eqb_tells m number) [
    | inl same_ ↦ subst (λ n. home_fault g n new ≡ None) (sym same_.1)
        (home_left g number written side old new whole (other_kept number written old new elsewhere) is (subst (λ n. home_fault g n old ≡ None) same_.1 (home_none g 4096 m old lt was)))
    | inr differs ↦
        ap (λ x. sides_fault g (page_place m First) x (page_side m Second new)) (kept m differs.1 First) ∙ ap (λ x. sides_fault g (page_place m First) (page_side m First old) x) (kept m differs.1 Second)
        ∙ home_none g 4096 m old lt was
  ]

-- ---- pages 0 and 1

pub roots_parts : (g : ℕ) (file : List ℕ) → roots_fault g file ≡ None → (is_map (page_in_force g 0 file) ≡ true) × (is_root (page_in_force g 1 file) ≡ true)
unfolding roots_fault
roots_parts g file h =
    let m = unless (is_map (page_in_force g 0 file)) 128 in
    let r = unless (is_root (page_in_force g 1 file)) 2208 in
    let a = none_first m (r ∷ []) h in
    (none_unless (is_map (page_in_force g 0 file)) 128 a.0, none_unless (is_root (page_in_force g 1 file)) 2208 (none_first r [] a.1).0)

pub parts_roots : (g : ℕ) (file : List ℕ) → is_map (page_in_force g 0 file) ≡ true → is_root (page_in_force g 1 file) ≡ true → roots_fault g file ≡ None
unfolding roots_fault
parts_roots g file m r = rw (m, r) refl

-- a page of a file that was left so is what it was, or new
page_test : (test : PageView → Bool) (store n number generation : ℕ) (page : PageView) (old new : List ℕ) → PageLeft store number generation page old new
    → test (page_in_force store n old) ≡ true → (number ≡ n → test page ≡ true) → test (page_in_force store n new) ≡ true
page_test test store n number generation page old new left was fits = elim (eqb_tells n number) [
  | inl same_ ↦ elim (left.page_is) [
    | inl kept ↦ ap test (subst (λ m. page_in_force store m new ≡ page_in_force store m old) (sym same_.1) kept) ∙ was
    | inr new_ ↦ ap test (subst (λ m. page_in_force store m new ≡ page) (sym same_.1) new_.1) ∙ fits (sym same_.1)
  ]
  | inr differs ↦ ap test (left.others store n differs.1) ∙ was
]

-- ---- a page's side was written

pub page_sound : (header : Header) (number generation : ℕ) (page : PageView) (old new : List ℕ) → length (open_side (page_body generation page)) ≡ 1040 → 1 ≤ generation → generation < 2 ^ 64 → IsPage page
    → SideLeft (idle_place header.generation number old) (open_side (page_body generation page)) old new → header ≡ header_in_force old → store_fault old ≡ None
    → (number ≡ 0 → IsTrue (is_map page)) → (number ≡ 1 → IsTrue (is_root page)) → store_fault new ≡ None
page_sound header number generation page old new long least fits is_page left is sound fits_map fits_root =
    let store = header.generation in
    let side = open_side (page_body generation page) in
    let written = idle (page_side_in_force store number old) in
    let place = page_place number written in
    let elsewhere : SameOutside place (place + 1040) old new = subst (λ n. SameOutside place (place + n) old new) long left.elsewhere in
    let side_is = subst (λ n. SideIs side (part place n old) (part place n new)) long left.side_is in
    let view = page_left store number generation page side old new long (page_shown generation page fits is_page) left in
    let parts = sound_parts old sound in
    let at = λ (s : Side). header_side_kept number written old new elsewhere s in
    let same_header : (header_in_force new).generation ≡ store = ap (λ h. h.generation) (view.header ∙ sym is) in
    let was : (header_in_force old).generation ≡ store = ap (λ h. h.generation) (sym is) in
    let homes = homes_left store number written side old new (λ p. new_side_sound p generation page least fits is_page) elsewhere side_is (subst (λ g. homes_fault g 4096 old ≡ None) was parts.homes) in
    let roots = roots_parts store old (subst (λ g. roots_fault g old ≡ None) was parts.roots) in
    let roots' = parts_roots store new (page_test is_map store 0 number generation page old new view roots.0 fits_map) (page_test is_root store 1 number generation page old new view roots.1 fits_root) in
    parts_sound new (record {
      long = ap length_fault left.elsewhere.long ∙ parts.long;
      headers = ap (λ x. headers_fault x (header_side Second new)) (at First) ∙ ap (headers_fault (header_side First old)) (at Second) ∙ parts.headers;
      homes = subst (λ g. homes_fault g 4096 new ≡ None) (sym same_header) homes;
      roots = subst (λ g. roots_fault g new ≡ None) (sym same_header) roots';
    })

-- a page's side that was written leaves the homes without a fault in a store of each generation
pub page_homes : (store number generation : ℕ) (page : PageView) (old new : List ℕ) → length (open_side (page_body generation page)) ≡ 1040 → 1 ≤ generation → generation < 2 ^ 64 → IsPage page
    → SideLeft (idle_place store number old) (open_side (page_body generation page)) old new → (g : ℕ) → homes_fault g 4096 old ≡ None → homes_fault g 4096 new ≡ None
page_homes store number generation page old new long least fits is_page left g was =
    let side = open_side (page_body generation page) in
    let written = idle (page_side_in_force store number old) in
    let place = page_place number written in
    let elsewhere : SameOutside place (place + 1040) old new = subst (λ n. SameOutside place (place + n) old new) long left.elsewhere in
    let side_is = subst (λ n. SideIs side (part place n old) (part place n new)) long left.side_is in
    homes_left g number written side old new (λ p. new_side_sound p generation page least fits is_page) elsewhere side_is was

-- ---- the header's side was written

pub new_header_sound : (place : ℕ) (header : Header) → IsHeader header → header_fault place (open_side (header_body header)) ≡ None
unfolding header_fault header_body number_at
new_header_sound place header h =
    let g : nat_le 1 (little_number 8 (little_bytes 8 header.generation)) ≡ true = ap (nat_le 1) (little_number-reads_back 8 header.generation [] h.generation) ∙ le-leb 1 header.generation h.generation_least in
    let b : nat_lt (little_number 8 (little_bytes 8 header.base)) (2 ^ 38) ≡ true = ap (λ n. nat_lt n (2 ^ 38)) (little_number-reads_back 8 header.base [] (omega (arith, h.base))) ∙ lt-ltb header.base (2 ^ 38) h.base in
    let l : nat_lt (little_number 8 (little_bytes 8 header.llsn)) (2 ^ 62) ≡ true = ap (λ n. nat_lt n (2 ^ 62)) (little_number-reads_back 8 header.llsn [] (omega (arith, h.llsn))) ∙ lt-ltb header.llsn (2 ^ 62) h.llsn in
    let v : nat_lt (little_number 8 (little_bytes 8 header.version)) (2 ^ 24) ≡ true = ap (λ n. nat_lt n (2 ^ 24)) (little_number-reads_back 8 header.version [] (omega (arith, h.version))) ∙ lt-ltb header.version (2 ^ 24) h.version in
    rw (g, b, l, v) refl

-- the checks of two sides, by which are open and what their faults are
checks_of : Bool → Bool → Option ℕ → Option ℕ → Bool → Option ℕ
checks_of first second f g one = first_of (unless (first || second) 0 ∷ only_if first f ∷ only_if second g ∷ unless (not (first && second && one)) 64 ∷ [])

headers_by : (first second : List ℕ) → headers_fault first second ≡ checks_of (is_open first) (is_open second) (header_fault 0 first) (header_fault 64 second) (header_generation first == header_generation second)
unfolding headers_fault checks_of
headers_by first second = refl

-- the first one is in force, and the second one was closed, or is new and of another generation
first_stays : (first second later one one' : Bool) (f g : Option ℕ) → checks_of first second f g one ≡ None → (if second && (not first || later) then Second else First) ≡ First
    → (first ≡ true) × (f ≡ None)
unfolding checks_of
first_stays true second later one one' f g h e = (refl, (none_first f (only_if second g ∷ unless (not (true && second && one)) 64 ∷ []) h).0)
first_stays false true later one one' f g h e = absurd (cc)
first_stays false false later one one' f g h e = absurd (cc)

second_stays : (first second later one : Bool) (f g : Option ℕ) → checks_of first second f g one ≡ None → (if second && (not first || later) then Second else First) ≡ Second
    → (second ≡ true) × (g ≡ None)
unfolding checks_of
second_stays true true later one f g h e =
    let rest = none_first f (g ∷ unless (not (true && true && one)) 64 ∷ []) h in (refl, (none_first g (unless (not (true && true && one)) 64 ∷ []) rest.1).0)
second_stays false true later one f g h e = (refl, (none_first g (unless (not (false && true && one)) 64 ∷ []) h).0)
second_stays first false later one f g h e = absurd (cc)

one_open : (f g : Option ℕ) (one : Bool) → f ≡ None → checks_of true false f g one ≡ None
unfolding checks_of
one_open f g one e = rw e refl

other_open : (f g : Option ℕ) (one : Bool) → g ≡ None → checks_of false true f g one ≡ None
unfolding checks_of
other_open f g one e = rw e refl

two_open : (f g : Option ℕ) → f ≡ None → g ≡ None → checks_of true true f g false ≡ None
unfolding checks_of
two_open f g e e' = rw (e, e') refl

differ : (n m : ℕ) → n ≢ m → (n == m) ≡ false
differ n m apart = elim (eqb_tells n m) [ inl same_ ↦ absurd (apart same_.1) | inr differs ↦ differs.0 ]

second_written : (side a b new : List ℕ) → headers_fault a b ≡ None → header_in a b ≡ First → SideIs side b new → is_open side ≡ true → header_fault 64 side ≡ None
    → header_generation a < header_generation side → headers_fault a new ≡ None
second_written side a b new was in_force (inl kept) opened whole greater = ap (headers_fault a) kept ∙ was
second_written side a b new was in_force (inr (inl shut)) opened whole greater =
    let one = header_generation a == header_generation b in
    let later = nat_lt (header_generation a) (header_generation b) in
    let stays = first_stays (is_open a) (is_open b) later one one (header_fault 0 a) (header_fault 64 b) (sym (headers_by a b) ∙ was) in_force in
    let f = header_fault 0 a in
    let g = header_fault 64 new in
    let o = header_generation a == header_generation new in
    headers_by a new ∙ ap (λ x. checks_of x (is_open new) f g o) stays.0 ∙ ap (λ x. checks_of true x f g o) shut ∙ one_open f g o stays.1
second_written side a b new was in_force (inr (inr is)) opened whole greater =
    let one = header_generation a == header_generation b in
    let later = nat_lt (header_generation a) (header_generation b) in
    let stays = first_stays (is_open a) (is_open b) later one one (header_fault 0 a) (header_fault 64 b) (sym (headers_by a b) ∙ was) in_force in
    let f = header_fault 0 a in
    let g = header_fault 64 side in
    let apart : (header_generation a == header_generation side) ≡ false = differ (header_generation a) (header_generation side) (λ e. omega arith) in
    ap (headers_fault a) is ∙ headers_by a side ∙ ap (λ x. checks_of x (is_open side) f g (header_generation a == header_generation side)) stays.0
    ∙ ap (λ x. checks_of true x f g (header_generation a == header_generation side)) opened ∙ ap (checks_of true true f g) apart ∙ two_open f g stays.1 whole

first_written : (side a b new : List ℕ) → headers_fault a b ≡ None → header_in a b ≡ Second → SideIs side a new → is_open side ≡ true → header_fault 0 side ≡ None
    → header_generation b < header_generation side → headers_fault new b ≡ None
first_written side a b new was in_force (inl kept) opened whole greater = ap (λ x. headers_fault x b) kept ∙ was
first_written side a b new was in_force (inr (inl shut)) opened whole greater =
    let one = header_generation a == header_generation b in
    let later = nat_lt (header_generation a) (header_generation b) in
    let stays = second_stays (is_open a) (is_open b) later one (header_fault 0 a) (header_fault 64 b) (sym (headers_by a b) ∙ was) in_force in
    let f = header_fault 0 new in
    let g = header_fault 64 b in
    let o = header_generation new == header_generation b in
    headers_by new b ∙ ap (λ x. checks_of x (is_open b) f g o) shut ∙ ap (λ x. checks_of false x f g o) stays.0 ∙ other_open f g o stays.1
first_written side a b new was in_force (inr (inr is)) opened whole greater =
    let one = header_generation a == header_generation b in
    let later = nat_lt (header_generation a) (header_generation b) in
    let stays = second_stays (is_open a) (is_open b) later one (header_fault 0 a) (header_fault 64 b) (sym (headers_by a b) ∙ was) in_force in
    let f = header_fault 0 side in
    let g = header_fault 64 b in
    let apart : (header_generation side == header_generation b) ≡ false = differ (header_generation side) (header_generation b) (λ e. omega arith) in
    ap (λ x. headers_fault x b) is ∙ headers_by side b ∙ ap (λ x. checks_of x (is_open b) f g (header_generation side == header_generation b)) opened
    ∙ ap (λ x. checks_of true x f g (header_generation side == header_generation b)) stays.0 ∙ ap (checks_of true true f g) apart ∙ two_open f g whole stays.1

headers_left : (side old new : List ℕ) (in_force : Side) → header_side_in_force old ≡ in_force → headers_fault (header_side First old) (header_side Second old) ≡ None
    → header_side in_force new ≡ header_side in_force old → SideIs side (header_side (other in_force) old) (header_side (other in_force) new) → is_open side ≡ true
    → ((place : ℕ) → header_fault place side ≡ None) → header_generation (header_side in_force old) < header_generation side → headers_fault (header_side First new) (header_side Second new) ≡ None
headers_left side old new First in_force was kept is opened whole greater =
    ap (λ x. headers_fault x (header_side Second new)) kept ∙ second_written side (header_side First old) (header_side Second old) (header_side Second new) was in_force is opened (whole 64) greater
headers_left side old new Second in_force was kept is opened whole greater =
    ap (headers_fault (header_side First new)) kept ∙ first_written side (header_side First old) (header_side Second old) (header_side First new) was in_force is opened (whole 0) greater

generation_is : (side : List ℕ) (file : List ℕ) → header_in_force file ≡ header_of (header_side (header_side_in_force file) file)
unfolding header_in_force
generation_is side file = refl

pub header_sound_after : (header : Header) (old new : List ℕ) → length (open_side (header_body header)) ≡ 64 → IsHeader header → SideLeft (idle_header_place old) (open_side (header_body header)) old new
    → (header_in_force old).generation < header.generation → store_fault old ≡ None → homes_fault header.generation 4096 old ≡ None → roots_fault header.generation old ≡ None → store_fault new ≡ None
header_sound_after header old new long h left greater sound homes roots =
    let side = open_side (header_body header) in
    let in_force = header_side_in_force old in
    let place = header_place (other in_force) in
    let elsewhere : SameOutside place (place + 64) old new = subst (λ n. SameOutside place (place + n) old new) long left.elsewhere in
    let side_is = subst (λ n. SideIs side (part place n old) (part place n new)) long left.side_is in
    let reads : header_of side ≡ header = header_shown header h.generation (omega (arith, h.base)) (omega (arith, h.llsn)) (omega (arith, h.version)) in
    let view = header_left header side old new long reads left in
    let parts = sound_parts old sound in
    let kept = subst (λ s. header_side s new ≡ header_side s old) (other_other in_force) (other_header (other in_force) old new elsewhere) in
    let was : header_generation (header_side in_force old) ≡ (header_in_force old).generation = header_read (header_side in_force old) (header_in_force old) (sym (generation_is side old)) in
    let will : header_generation side ≡ header.generation = header_read side header reads in
    let page_kept = λ (m : ℕ) (s : Side). part_same place (place + 64) (page_place m s) 1040 old new elsewhere (inr (header_below (other in_force) m s)) in
    let homes_kept = λ (g : ℕ) (none : homes_fault g 4096 old ≡ None). each_home g 4096 new (λ m lt.
    ap (λ x. sides_fault g (page_place m First) x (page_side m Second new)) (page_kept m First) ∙ ap (λ x. sides_fault g (page_place m First) (page_side m First old) x) (page_kept m Second)
    ∙ home_none g 4096 m old lt none) in
    let roots_kept = λ (g : ℕ) (none : roots_fault g old ≡ None). (
    let tests = roots_parts g old none in
    parts_roots g new (ap is_map (view.pages g 0) ∙ tests.0) (ap is_root (view.pages g 1) ∙ tests.1)) in
    let rest : (homes_fault (header_in_force new).generation 4096 new ≡ None) × (roots_fault (header_in_force new).generation new ≡ None) = elim view.header_is [
      | inl same_ ↦ (subst (λ x. homes_fault x.generation 4096 new ≡ None) (sym same_) (homes_kept (header_in_force old).generation parts.homes), subst (λ x. roots_fault x.generation new ≡ None) (sym same_) (roots_kept (header_in_force old).generation parts.roots))
      | inr new_ ↦ (subst (λ x. homes_fault x.generation 4096 new ≡ None) (sym new_) (homes_kept header.generation homes), subst (λ x. roots_fault x.generation new ≡ None) (sym new_) (roots_kept header.generation roots))
    ] in
    parts_sound new (record {
      long = ap length_fault left.elsewhere.long ∙ parts.long;
      headers = headers_left side old new in_force refl parts.headers kept side_is refl (λ p. new_header_sound p header h) (omega arith);
      homes = rest.0;
      roots = rest.1;
    })

-- the map of a file that is of the grammar has no fault
pub map_sound : (file : List ℕ) → store_fault file ≡ None → map_fault (header_in_force file).generation file ≡ None
map_sound file sound =
    let parts = sound_parts file sound in
    let g = (header_in_force file).generation in
    rw (sound_in_force g 4096 0 file (omega arith) parts.homes, (roots_parts g file parts.roots).0) refl
