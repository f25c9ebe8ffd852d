-- A file of zeros with three sides written is a fresh store.
use Rattle.std.proofs.Common.{◌≡◌, ◌⊎◌, inl, inr, ℕ, zero, suc, ◌+◌, ◌-◌, ◌*◌, ◌<◌, ◌≤◌, Bool, true, false, eqb, List, [], ◌∷◌, ◌++◌, length, take, drop, get_or, replicate, None, refl, sym, ap, ◌∙◌, subst, arith}
use Rattle.std.proofs.lemmas.List.{length-replicate, take_all, drop_all, replicate-append-replicate, append-nil, get_or-drop}
use Rattle.mp_outside.specs.Disks.{written}
use Rattle.mp_cells.specs.Numbers.{number_at}
use Rattle.mp_cells.specs.PageView.{PageView, IsPage, AreBits, blank_page}
use Rattle.mp_page.specs.Grammar.{spelling, header_bytes}
use Rattle.mp_page.proofs.PageAgain.{spelling-sound}
use Rattle.mp_store.specs.declared.sides.Side.TheVariants.{First, Second}
use Rattle.mp_store.specs.Checks.{first_of, only_if}
use Rattle.mp_store.specs.Layout.{store_length, part, is_open, page_place, header_side, page_side}
use Rattle.mp_store.specs.HeaderSides.{header_body, header_of, header_fault, headers_fault}
use Rattle.mp_store.specs.PageSides.{page_body, page_generation, page_in, counts, outranks, side_fault, sides_fault}
use Rattle.mp_store.specs.StoreFiles.{header_in_force, page_in_force, home_fault, homes_fault, roots_fault, store_fault}
use Rattle.mp_store.specs.SideWrites.{SameOutside, open_side}
use Rattle.mp_store.specs.FreshStores.{zeros, fresh_header, fresh_meta, fresh_root, closed_file, pages_file, fresh_file, IsFresh}
use Rattle.std.proofs.lemmas.Bool.{true≢false}
use Rattle.mp_store.specs.OpenStores.{NoLater}
use Rattle.mp_store.proofs.Halves.{gate_of_part}
use Rattle.mp_store.proofs.WrittenSides.{side_split, gate_of}
use Rattle.mp_store.proofs.Outside.{part_same, part_written, written_outside}
use Rattle.mp_store.proofs.NewSides.{Shows, page_shown, header_shown}
use Rattle.mp_store.proofs.ShownAfter.{force, shown_by, page_of_home, home_is, file_home, header_of_home, header_home, header_by, second_shut, shut_counts, new_counts}

-- zeros that are written behind zeros
pub zeros_more : (n m : ℕ) (bytes file : List ℕ) → bytes ≡ replicate m 0 → file ≡ zeros n → written n bytes file ≡ zeros (n + m)
unfolding zeros
zeros_more n m bytes file is so_far =
    let long : length file ≡ n = ap length so_far ∙ length-replicate {A = ℕ} n 0 in
    let front : take n file ≡ file = take_all n file (omega (arith, long)) in
    let gap : n - length file ≡ 0 = omega (arith, long) in
    let rest : drop (n + length bytes) file ≡ [] = drop_all (n + length bytes) file (omega (arith, long)) in
    rw (front, gap, rest, append-nil bytes, is, so_far) (replicate-append-replicate n m 0)

pub map_spelled : (head : List ℕ) → head ≡ 1 ∷ 1 ∷ 2 ∷ 0 ∷ 0 ∷ 0 ∷ 0 ∷ 0 ∷ 0 ∷ 0 ∷ 0 ∷ 0 ∷ 0 ∷ 0 ∷ 0 ∷ 0 ∷ 0 ∷ 0 ∷ 0 ∷ 0 ∷ 0 ∷ 0 ∷ 0 ∷ 0 ∷ 0 ∷ 0 ∷ 0 ∷ 0 ∷ 0 ∷ 0 ∷ 0 ∷ 0 ∷ 3 ∷ []
    → head ++ replicate (1024 - length head) 0 ≡ spelling fresh_meta
unfolding spelling header_bytes zeros lib.Count.ones
map_spelled head is = rw is refl

pub root_spelled : (head : List ℕ) → head ≡ 2 ∷ 1 ∷ 0 ∷ 0 ∷ 0 ∷ 0 ∷ 0 ∷ 0 ∷ 0 ∷ 0 ∷ 0 ∷ 0 ∷ 0 ∷ 0 ∷ 0 ∷ 0 ∷ 0 ∷ 0 ∷ 0 ∷ 0 ∷ 0 ∷ 0 ∷ 0 ∷ 0 ∷ 0 ∷ 0 ∷ 0 ∷ 0 ∷ 1 ∷ 0 ∷ 0 ∷ 0 ∷ []
    → head ++ replicate (1024 - length head) 0 ≡ spelling fresh_root
unfolding spelling header_bytes
root_spelled head is = rw is refl

-- ---- zeros are no open side

pub length-zeros : (n : ℕ) → length (zeros n) ≡ n
unfolding zeros
length-zeros n = length-replicate {A = ℕ} n 0

zero_at : (n p : ℕ) → get_or (zeros n) p 0 ≡ 0
unfolding zeros
zero_at zero p = refl
zero_at (suc n) zero = refl
zero_at (suc n) (suc p) = zero_at n p

pub zeros_shut : (place width n : ℕ) → 0 < width → is_open (part place width (zeros n)) ≡ false
zeros_shut place width n some = gate_of_part place width (zeros n) some ∙ ap (λ byte. eqb byte 165) (get_or-drop place (zeros n) 0 0 ∙ zero_at n (place + 0))

-- ---- the three sides

bits_are : AreBits (3 ∷ zeros 511)
bits_are = record { count = omega (arith, length-zeros 511); bytes = small } where
  small : (i : ℕ) → get_or (3 ∷ zeros 511) i 0 < 256
  small zero = omega arith
  small (suc i) = let none : get_or (zeros 511) i 0 ≡ 0 = zero_at 511 i in omega arith

pub map_is_page : IsPage fresh_meta
map_is_page = record { llsn = omega arith; content = (refl, bits_are) }

pub root_is_page : IsPage fresh_root
root_is_page = record { llsn = omega arith; content = (refl, refl, tt) }

map_sound : side_fault 128 (open_side (page_body 1 fresh_meta)) ≡ None
unfolding side_fault page_body number_at
map_sound = rw ((spelling-sound fresh_meta map_is_page).0) refl

root_sound : side_fault 2208 (open_side (page_body 1 fresh_root)) ≡ None
unfolding side_fault page_body number_at
root_sound = rw ((spelling-sound fresh_root root_is_page).0) refl

header_is_sound : header_fault 0 (open_side (header_body fresh_header)) ≡ None
unfolding header_fault header_body number_at
header_is_sound = refl

-- ---- the file

-- a file of three sides in which all other gates are closed
pub record ThreeSides (map root header file : List ℕ) : Type 0 where
  pub long : length file ≡ store_length
  pub header_there : header_side First file ≡ header
  pub root_there : page_side 1 First file ≡ root
  pub map_there : page_side 0 First file ≡ map
  pub elsewhere : (place width : ℕ) → 64 ≤ place → (place + width ≤ 128) ⊎ (1168 ≤ place) → (place + width ≤ 2208) ⊎ (3248 ≤ place) → 0 < width → is_open (part place width file) ≡ false

-- a side by its gate and its body
gate_and_body : (place width : ℕ) (body file : List ℕ) → place < length file → part place 1 file ≡ 165 ∷ [] → part (place + 1) width file ≡ body → part place (suc width) file ≡ open_side body
gate_and_body place width body file lt gate body_is =
    let byte : get_or file place 0 ≡ 165 = sym (gate_of place 0 file lt) ∙ ap (λ side. get_or side 0 0) gate in
    side_split place width file lt ∙ rw (byte, body_is) refl

-- the sides' bodies and then their gates, written into zeros
module _ (map root header : List ℕ) (map_long : length map ≡ 1039) (root_long : length root ≡ 1039) (header_long : length header ≡ 63) where
  a : List ℕ
  a = written 129 map (zeros store_length)

  b : List ℕ
  b = written 2209 root a

  c : List ℕ
  c = written 1 header b

  d : List ℕ
  d = written 128 (165 ∷ []) c

  e : List ℕ
  e = written 2208 (165 ∷ []) d

  f : List ℕ
  f = written 0 (165 ∷ []) e

  zeros_long : length (zeros store_length) ≡ store_length
  zeros_long = length-zeros store_length

  a_out : SameOutside 129 1168 (zeros store_length) a
  unfolding a
  a_out = subst (λ n. SameOutside 129 (129 + n) (zeros store_length) a) map_long (written_outside 129 map (zeros store_length) (omega (arith, map_long, zeros_long)))

  b_out : SameOutside 2209 3248 a b
  unfolding b
  b_out = subst (λ n. SameOutside 2209 (2209 + n) a b) root_long (written_outside 2209 root a (omega (arith, root_long, a_out.long, zeros_long)))

  c_out : SameOutside 1 64 b c
  unfolding c
  c_out = subst (λ n. SameOutside 1 (1 + n) b c) header_long (written_outside 1 header b (omega (arith, header_long, b_out.long, a_out.long, zeros_long)))

  d_out : SameOutside 128 129 c d
  unfolding d
  d_out = written_outside 128 (165 ∷ []) c (omega (arith, c_out.long, b_out.long, a_out.long, zeros_long))

  e_out : SameOutside 2208 2209 d e
  unfolding e
  e_out = written_outside 2208 (165 ∷ []) d (omega (arith, d_out.long, c_out.long, b_out.long, a_out.long, zeros_long))

  f_out : SameOutside 0 1 e f
  unfolding f
  f_out = written_outside 0 (165 ∷ []) e (omega (arith, e_out.long, d_out.long, c_out.long, b_out.long, a_out.long, zeros_long))

  f_long : length f ≡ store_length
  f_long = f_out.long ∙ e_out.long ∙ d_out.long ∙ c_out.long ∙ b_out.long ∙ a_out.long ∙ zeros_long

  -- parts that the gates leave alone
  behind_gates : (place width : ℕ) → 1 ≤ place → (place + width ≤ 128) ⊎ (129 ≤ place) → (place + width ≤ 2208) ⊎ (2209 ≤ place) → part place width f ≡ part place width c
  behind_gates place width one two three =
      part_same 0 1 place width e f f_out (inr one) ∙ part_same 2208 2209 place width d e e_out three ∙ part_same 128 129 place width c d d_out two

  header_gate : part 0 1 f ≡ 165 ∷ []
  unfolding f
  header_gate = part_written 0 (165 ∷ []) e (omega arith)

  root_gate : part 2208 1 f ≡ 165 ∷ []
  unfolding e
  root_gate =
      part_same 0 1 2208 1 e f f_out (inr (omega arith))
      ∙ part_written 2208 (165 ∷ []) d (omega (arith, d_out.long, c_out.long, b_out.long, a_out.long, zeros_long))

  map_gate : part 128 1 f ≡ 165 ∷ []
  unfolding d
  map_gate =
      part_same 0 1 128 1 e f f_out (inr (omega arith)) ∙ part_same 2208 2209 128 1 d e e_out (inl (omega arith))
      ∙ part_written 128 (165 ∷ []) c (omega (arith, c_out.long, b_out.long, a_out.long, zeros_long))

  header_body_there : part 1 63 f ≡ header
  unfolding c
  header_body_there =
      behind_gates 1 63 (omega arith) (inl (omega arith)) (inl (omega arith))
      ∙ subst (λ n. part 1 n c ≡ header) header_long (part_written 1 header b (omega (arith, b_out.long, a_out.long, zeros_long)))

  root_body_there : part 2209 1039 f ≡ root
  unfolding b
  root_body_there =
      behind_gates 2209 1039 (omega arith) (inr (omega arith)) (inr (omega arith)) ∙ part_same 1 64 2209 1039 b c c_out (inr (omega arith))
      ∙ subst (λ n. part 2209 n b ≡ root) root_long (part_written 2209 root a (omega (arith, a_out.long, zeros_long)))

  map_body_there : part 129 1039 f ≡ map
  unfolding a
  map_body_there =
      behind_gates 129 1039 (omega arith) (inr (omega arith)) (inl (omega arith)) ∙ part_same 1 64 129 1039 b c c_out (inr (omega arith))
      ∙ part_same 2209 3248 129 1039 a b b_out (inl (omega arith)) ∙ subst (λ n. part 129 n a ≡ map) map_long (part_written 129 map (zeros store_length) (omega (arith, zeros_long)))

  left_zeros : (place width : ℕ) → 64 ≤ place → (place + width ≤ 128) ⊎ (1168 ≤ place) → (place + width ≤ 2208) ⊎ (3248 ≤ place) → 0 < width → is_open (part place width f) ≡ false
  left_zeros place width one two three some =
      ap is_open (behind_gates place width (omega arith) (nearer two) (near three) ∙ part_same 1 64 place width b c c_out (inr one)
      ∙ part_same 2209 3248 place width a b b_out (next three) ∙ part_same 129 1168 place width (zeros store_length) a a_out (after two))
      ∙ zeros_shut place width store_length some
    where
      nearer : (place + width ≤ 128) ⊎ (1168 ≤ place) → (place + width ≤ 128) ⊎ (129 ≤ place)
      nearer (inl below) = inl below
      nearer (inr above) = inr (omega arith)

      near : (place + width ≤ 2208) ⊎ (3248 ≤ place) → (place + width ≤ 2208) ⊎ (2209 ≤ place)
      near (inl below) = inl below
      near (inr above) = inr (omega arith)

      next : (place + width ≤ 2208) ⊎ (3248 ≤ place) → (place + width ≤ 2209) ⊎ (3248 ≤ place)
      next (inl below) = inl (omega arith)
      next (inr above) = inr above

      after : (place + width ≤ 128) ⊎ (1168 ≤ place) → (place + width ≤ 129) ⊎ (1168 ≤ place)
      after (inl below) = inl (omega arith)
      after (inr above) = inr above

  pub three_sides : ThreeSides (open_side map) (open_side root) (open_side header) (written 0 (165 ∷ []) (written 2208 (165 ∷ []) (written 128 (165 ∷ []) (written 1 header (written 2209 root (written 129 map (zeros store_length)))))))
  unfolding a b c d e f
  three_sides = record {
    long = f_long;
    header_there = gate_and_body 0 63 header f (omega (arith, f_long)) header_gate header_body_there;
    root_there = gate_and_body 2208 1039 root f (omega (arith, f_long)) root_gate root_body_there;
    map_there = gate_and_body 128 1039 map f (omega (arith, f_long)) map_gate map_body_there;
    elsewhere = left_zeros;
  }

module _ (map root header file : List ℕ) (h : ThreeSides map root header file) where
  pub second_header_shut : is_open (header_side Second file) ≡ false
  second_header_shut = h.elsewhere 64 64 (omega arith) (inl (omega arith)) (inl (omega arith)) (omega arith)

  pub second_map_shut : is_open (page_side 0 Second file) ≡ false
  second_map_shut = h.elsewhere 1168 1040 (omega arith) (inr (omega arith)) (inl (omega arith)) (omega arith)

  pub second_root_shut : is_open (page_side 1 Second file) ≡ false
  second_root_shut = h.elsewhere 3248 1040 (omega arith) (inr (omega arith)) (inr (omega arith)) (omega arith)

  pub other_first_shut : (number : ℕ) → 2 ≤ number → is_open (page_side number First file) ≡ false
  other_first_shut number le = h.elsewhere (128 + 2080 * number) 1040 (omega arith) (inr (omega arith)) (inr (omega arith)) (omega arith)

  pub other_second_shut : (number : ℕ) → 2 ≤ number → is_open (page_side number Second file) ≡ false
  other_second_shut number le = h.elsewhere (128 + 2080 * number + 1040) 1040 (omega arith) (inr (omega arith)) (inr (omega arith)) (omega arith)

-- a home of an open side and a closed one, and one of two closed ones
one_side : (side second : List ℕ) (page : PageView) → Shows side 1 page → is_open second ≡ false → page_of_home 1 side second ≡ page
unfolding force shown_by
one_side side second page shows shut =
    let first_counts : counts 1 side ≡ true = new_counts 1 side 1 page shows in
    let second_counts : counts 1 second ≡ false = shut_counts 1 second shut in
    home_is 1 side second ∙ ap (λ x. shown_by (force x (counts 1 second) (outranks second side)) (page_in side) (page_in second)) first_counts
    ∙ ap (λ x. shown_by (force true x (outranks second side)) (page_in side) (page_in second)) second_counts ∙ shows.page_is

no_side : (first second : List ℕ) → is_open first ≡ false → is_open second ≡ false → page_of_home 1 first second ≡ blank_page 0
unfolding force shown_by
no_side first second shut shut' =
    let first_counts : counts 1 first ≡ false = shut_counts 1 first shut in
    let second_counts : counts 1 second ≡ false = shut_counts 1 second shut' in
    home_is 1 first second ∙ ap (λ x. shown_by (force x (counts 1 second) (outranks second first)) (page_in first) (page_in second)) first_counts
    ∙ ap (λ x. shown_by (force false x (outranks second first)) (page_in first) (page_in second)) second_counts

-- their faults
one_sound : (place : ℕ) (side second : List ℕ) → side_fault place side ≡ None → is_open second ≡ false → sides_fault 1 place side second ≡ None
unfolding sides_fault
one_sound place side second sound shut = let second_counts : counts 1 second ≡ false = shut_counts 1 second shut in rw (second_counts, sound) (by_count (counts 1 side)) where
  by_count : (counted : Bool) → first_of (only_if counted None ∷ None ∷ []) ≡ None
  by_count true = refl
  by_count false = refl

none_sound : (place : ℕ) (first second : List ℕ) → is_open first ≡ false → is_open second ≡ false → sides_fault 1 place first second ≡ None
unfolding sides_fault
none_sound place first second shut shut' =
    let first_counts : counts 1 first ≡ false = shut_counts 1 first shut in
    let second_counts : counts 1 second ≡ false = shut_counts 1 second shut' in
    rw (first_counts, second_counts) refl

all_homes : (generation : ℕ) (file : List ℕ) → ((number : ℕ) → home_fault generation number file ≡ None) → (number : ℕ) → homes_fault generation number file ≡ None
unfolding homes_fault
all_homes generation file each zero = refl
all_homes generation file each (suc number) = rw (all_homes generation file each number, each number) refl

each_home : (map root header file : List ℕ) → ThreeSides map root header file → map ≡ open_side (page_body 1 fresh_meta) → root ≡ open_side (page_body 1 fresh_root)
    → (number : ℕ) → home_fault 1 number file ≡ None
each_home map root header file h map_is root_is zero =
    ap (λ x. sides_fault 1 128 x (page_side 0 Second file)) (h.map_there ∙ map_is) ∙ one_sound 128 (open_side (page_body 1 fresh_meta)) (page_side 0 Second file) map_sound (second_map_shut map root header file h)
each_home map root header file h map_is root_is (suc zero) =
    ap (λ x. sides_fault 1 2208 x (page_side 1 Second file)) (h.root_there ∙ root_is) ∙ one_sound 2208 (open_side (page_body 1 fresh_root)) (page_side 1 Second file) root_sound (second_root_shut map root header file h)
each_home map root header file h map_is root_is (suc (suc n)) =
    none_sound (page_place (suc (suc n)) First) (page_side (suc (suc n)) First file) (page_side (suc (suc n)) Second file)
    (other_first_shut map root header file h (suc (suc n)) (omega arith)) (other_second_shut map root header file h (suc (suc n)) (omega arith))

-- no side is of a later generation
no_later : (map root header file : List ℕ) → ThreeSides map root header file → page_generation map ≡ 1 → page_generation root ≡ 1 → NoLater 1 file
no_later map root header file h map_is root_is zero First lt opened = omega (arith, ap page_generation h.map_there ∙ map_is)
no_later map root header file h map_is root_is zero Second lt opened = absurd (true≢false (sym opened ∙ second_map_shut map root header file h))
no_later map root header file h map_is root_is (suc zero) First lt opened = omega (arith, ap page_generation h.root_there ∙ root_is)
no_later map root header file h map_is root_is (suc zero) Second lt opened = absurd (true≢false (sym opened ∙ second_root_shut map root header file h))
no_later map root header file h map_is root_is (suc (suc n)) First lt opened = absurd (true≢false (sym opened ∙ other_first_shut map root header file h (suc (suc n)) (omega arith)))
no_later map root header file h map_is root_is (suc (suc n)) Second lt opened = absurd (true≢false (sym opened ∙ other_second_shut map root header file h (suc (suc n)) (omega arith)))

-- a fresh store
pub fresh_store : (map root header file : List ℕ) → ThreeSides map root header file → map ≡ open_side (page_body 1 fresh_meta) → root ≡ open_side (page_body 1 fresh_root)
    → header ≡ open_side (header_body fresh_header) → IsFresh file
unfolding store_fault headers_fault roots_fault zeros
fresh_store map root header file h map_is root_is header_is =
    let map_shows : Shows map 1 fresh_meta = subst (λ s. Shows s 1 fresh_meta) (sym map_is) (page_shown 1 fresh_meta (omega arith) map_is_page) in
    let root_shows : Shows root 1 fresh_root = subst (λ s. Shows s 1 fresh_root) (sym root_is) (page_shown 1 fresh_root (omega arith) root_is_page) in
    let opened : is_open header ≡ true = ap is_open header_is in
    let reads : header_of header ≡ fresh_header = ap header_of header_is ∙ header_shown fresh_header (omega arith) (omega arith) (omega arith) (omega arith) in
    let first_header = h.header_there in
    let shut = second_header_shut map root header file h in
    let header_fact : header_in_force file ≡ fresh_header =
    header_home file ∙ ap (λ x. header_of_home x (header_side Second file)) first_header ∙ header_by First header (header_side Second file) (second_shut header (header_side Second file) shut) ∙ reads in
    let map_fact : page_in_force 1 0 file ≡ fresh_meta =
    file_home 1 0 file ∙ ap (λ x. page_of_home 1 x (page_side 0 Second file)) (h.map_there) ∙ one_side map (page_side 0 Second file) fresh_meta map_shows (second_map_shut map root header file h) in
    let root_fact : page_in_force 1 1 file ≡ fresh_root =
    file_home 1 1 file ∙ ap (λ x. page_of_home 1 x (page_side 1 Second file)) (h.root_there) ∙ one_side root (page_side 1 Second file) fresh_root root_shows (second_root_shut map root header file h) in
    let header_ok : header_fault 0 (header_side First file) ≡ None = ap (header_fault 0) (first_header ∙ header_is) ∙ header_is_sound in
    let opened' : is_open (header_side First file) ≡ true = ap is_open first_header ∙ opened in
    let homes_ok : homes_fault 1 4096 file ≡ None = all_homes 1 file (each_home map root header file h map_is root_is) 4096 in
    let long = h.long in record {
      sound = rw (long, opened', shut, header_ok, header_fact, homes_ok, map_fact, root_fact) refl;
      long = long;
      header = header_fact;
      map = map_fact;
      root = root_fact;
      blank = λ number le. file_home 1 number file ∙ no_side (page_side number First file) (page_side number Second file) (other_first_shut map root header file h number le) (other_second_shut map root header file h number le);
      later = no_later map root header file h map_shows.generation_is root_shows.generation_is;
    }

map_body_long : length (page_body 1 fresh_meta) ≡ 1039
unfolding page_body spelling header_bytes zeros
map_body_long = refl

root_body_long : length (page_body 1 fresh_root) ≡ 1039
unfolding page_body spelling header_bytes
root_body_long = refl

header_body_long : length (header_body fresh_header) ≡ 63
unfolding header_body
header_body_long = refl

-- so is the file that is made
pub fresh_is : IsFresh fresh_file
unfolding fresh_file pages_file closed_file
fresh_is =
    fresh_store (open_side (page_body 1 fresh_meta)) (open_side (page_body 1 fresh_root)) (open_side (header_body fresh_header)) fresh_file
    (three_sides (page_body 1 fresh_meta) (page_body 1 fresh_root) (header_body fresh_header) map_body_long root_body_long header_body_long) refl refl refl
