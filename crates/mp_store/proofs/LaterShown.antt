-- Gates of later sides that were closed: what a store shows stays, and where there is no later side each later generation shows the same.
use Rattle.std.proofs.Common.{◌≡◌, ◌≢◌, ◌⊎◌, inl, inr, ℕ, ◌+◌, ◌<◌, ◌≤◌, Bool, true, false, IsTrue, List, [], ◌∷◌, length, take, drop, None, refl, sym, ap, ◌∙◌, subst, drop-drop, arith}
use Rattle.std.specs.Prelude.{◌&&◌, nat_le, nat_lt}
use Rattle.std.proofs.lemmas.Bool.{cases_lt, le-leb}
use Rattle.std.proofs.lemmas.Bool.Decides.{eqb_tells}
use borrow.Author.Tests.{ltb-true}
use Rattle.std.proofs.lemmas.List.{drop-take}
use Rattle.mp_outside.specs.Disks.{written, first_changed, Torn, Only, Quiet}
use Rattle.byteorder.specs.Endian.{little_number}
use Rattle.mp_cells.specs.Numbers.{number_at}
use Rattle.mp_cells.specs.PageView.{PageView}
use Rattle.mp_store.specs.declared.headers.Header.{Header}
use Rattle.mp_store.specs.declared.sides.Side.{Side}
use Rattle.mp_store.specs.declared.sides.Side.TheVariants.{First, Second}
use Rattle.mp_store.specs.Checks.{only_if, first_of}
use Rattle.mp_store.specs.Layout.{part, is_open, store_length, header_place, page_place, header_side, page_side}
use Rattle.mp_store.specs.HeaderSides.{headers_fault}
use Rattle.mp_store.specs.PageSides.{page_generation, page_in, counts, outranks, side_fault, sides_fault}
use Rattle.mp_store.specs.StoreFiles.{header_in_force, page_in_force, homes_fault, is_map, is_root, roots_fault, length_fault, store_fault}
use Rattle.mp_store.specs.SideWrites.{SameOutside}
use Rattle.mp_store.specs.OpenStores.{is_later, NoLaterBelow, NoLater, LaterLeft}
use Rattle.mp_store.specs.LaterSides.{SideShut, GatesShut, AllShut}
use Rattle.mp_store.proofs.HomeChecks.{home_none}
use Rattle.mp_store.proofs.Outside.{torn_outside, written_outside, part_same}
use Rattle.mp_store.proofs.ShownAfter.{header_below, force, shown_by, page_of_home, home_is, file_home, header_of_home, header_home}
use Rattle.mp_store.proofs.SoundAfter.{each_home, sound_parts, parts_sound, roots_parts, parts_roots}

-- ---- sides at different places are apart

pub places_apart : (m n : ℕ) (s t : Side) → page_place m s ≢ page_place n t → (page_place m s + 1040 ≤ page_place n t) ⊎ (page_place n t + 1040 ≤ page_place m s)
places_apart m n First First differ = elim (cases_lt m n) [
  | inl below ↦ inl (omega arith)
  | inr above ↦ elim (cases_lt n m) [ inl below ↦ inr (omega arith) | inr also ↦ absurd (differ (omega arith)) ]
]
places_apart m n First Second differ = elim (cases_lt n m) [ inl below ↦ inr (omega arith) | inr above ↦ inl (omega arith) ]
places_apart m n Second First differ = elim (cases_lt m n) [ inl below ↦ inl (omega arith) | inr above ↦ inr (omega arith) ]
places_apart m n Second Second differ = elim (cases_lt m n) [
  | inl below ↦ inl (omega arith)
  | inr above ↦ elim (cases_lt n m) [ inl below ↦ inr (omega arith) | inr also ↦ absurd (differ (omega arith)) ]
]

pub place_below : (n : ℕ) (s : Side) → n < 4096 → page_place n s + 1040 ≤ store_length
place_below n First lt = omega arith
place_below n Second lt = omega arith

-- ---- a side that counts, or is later, by its bytes behind the gate

behind : (side : List ℕ) → drop 7 (drop 1 side) ≡ drop 8 side
behind side = drop-drop 7 1 side

generation_kept : (old new : List ℕ) → drop 1 new ≡ drop 1 old → page_generation new ≡ page_generation old
unfolding number_at
generation_kept old new e = ap (little_number 8) (sym (behind new) ∙ ap (drop 7) e ∙ behind old)

later_open : (g : ℕ) (side : List ℕ) → IsTrue (is_later g side) → (is_open side ≡ true) × (g < page_generation side)
later_open g side h = by_open (is_open side) refl h
  where
    by_open : (b : Bool) → is_open side ≡ b → (b && nat_lt g (page_generation side)) ≡ true → (is_open side ≡ true) × (g < page_generation side)
    by_open true is h = (is, ltb-true g (page_generation side) h)
    by_open false is h = absurd (cc)

not_counted : (h : ℕ) (side : List ℕ) → h < page_generation side → counts h side ≡ false
not_counted h side above = let late : nat_le (page_generation side) h ≡ false = grind (arith, above) in ap (λ x. is_open side && x) late ∙ none (is_open side)
  where
    none : (b : Bool) → (b && false) ≡ false
    none true = refl
    none false = refl

-- a side that was shut so is as it was, or counts neither before nor after
pub shut_counts_not : (g h : ℕ) (old new : List ℕ) → h ≤ g → SideShut g old new → (new ≡ old) ⊎ ((counts h old ≡ false) × (counts h new ≡ false))
shut_counts_not g h old new le (inl same) = inl same
shut_counts_not g h old new le (inr (later, e)) =
    let above = (later_open g old later).1 in
    inr (not_counted h old (omega arith), not_counted h new (omega (arith, generation_kept old new e)))

-- ---- homes of such sides

first_out : (y z z' : Bool) (p p' q : PageView) → shown_by (force false y z) p q ≡ shown_by (force false y z') p' q
unfolding force shown_by
first_out true z z' p p' q = refl
first_out false z z' p p' q = refl

second_out : (x z z' : Bool) (p q q' : PageView) → shown_by (force x false z) p q ≡ shown_by (force x false z') p q'
unfolding force shown_by
second_out true z z' p q q' = refl
second_out false z z' p q q' = refl

first_home : (h : ℕ) (a a' b : List ℕ) → (a' ≡ a) ⊎ ((counts h a ≡ false) × (counts h a' ≡ false)) → page_of_home h a' b ≡ page_of_home h a b
first_home h a a' b (inl same) = ap (λ x. page_of_home h x b) same
first_home h a a' b (inr (was, is)) =
    home_is h a' b ∙ ap (λ x. shown_by (force x (counts h b) (outranks b a')) (page_in a') (page_in b)) is
    ∙ first_out (counts h b) (outranks b a') (outranks b a) (page_in a') (page_in a) (page_in b)
    ∙ sym (home_is h a b ∙ ap (λ x. shown_by (force x (counts h b) (outranks b a)) (page_in a) (page_in b)) was)

second_home : (h : ℕ) (a b b' : List ℕ) → (b' ≡ b) ⊎ ((counts h b ≡ false) × (counts h b' ≡ false)) → page_of_home h a b' ≡ page_of_home h a b
second_home h a b b' (inl same) = ap (page_of_home h a) same
second_home h a b b' (inr (was, is)) =
    home_is h a b' ∙ ap (λ x. shown_by (force (counts h a) x (outranks b' a)) (page_in a) (page_in b')) is
    ∙ second_out (counts h a) (outranks b' a) (outranks b a) (page_in a) (page_in b') (page_in b)
    ∙ sym (home_is h a b ∙ ap (λ x. shown_by (force (counts h a) x (outranks b a)) (page_in a) (page_in b)) was)

side_check : (h place : ℕ) (old new : List ℕ) → (new ≡ old) ⊎ ((counts h old ≡ false) × (counts h new ≡ false))
    → only_if (counts h new) (side_fault place new) ≡ only_if (counts h old) (side_fault place old)
side_check h place old new (inl same) = ap (λ x. only_if (counts h x) (side_fault place x)) same
side_check h place old new (inr (was, is)) = rw (was, is) refl

sides_check : (h place : ℕ) (a a' b b' : List ℕ) → (a' ≡ a) ⊎ ((counts h a ≡ false) × (counts h a' ≡ false)) → (b' ≡ b) ⊎ ((counts h b ≡ false) × (counts h b' ≡ false))
    → sides_fault h place a' b' ≡ sides_fault h place a b
unfolding sides_fault
sides_check h place a a' b b' f s = ap (λ x. first_of (x ∷ only_if (counts h b') (side_fault (place + 1040) b') ∷ [])) (side_check h place a a' f)
    ∙ ap (λ x. first_of (only_if (counts h a) (side_fault place a) ∷ x ∷ [])) (side_check h (place + 1040) b b' s)

-- ---- a file of which such gates were shut

module _ (g : ℕ) (old new : List ℕ) (left : GatesShut g old new) where
  pub page_stays : (h n : ℕ) → h ≤ g → page_in_force h n new ≡ page_in_force h n old
  page_stays h n le =
      file_home h n new
      ∙ first_home h (page_side n First old) (page_side n First new) (page_side n Second new) (shut_counts_not g h (page_side n First old) (page_side n First new) le (left.pages n First))
      ∙ second_home h (page_side n First old) (page_side n Second old) (page_side n Second new) (shut_counts_not g h (page_side n Second old) (page_side n Second new) le (left.pages n Second))
      ∙ sym (file_home h n old)

  pub homes_stay : (h : ℕ) → h ≤ g → homes_fault h 4096 old ≡ None → homes_fault h 4096 new ≡ None
  homes_stay h le was = each_home h 4096 new (λ n lt.
      sides_check h (page_place n First) (page_side n First old) (page_side n First new) (page_side n Second old) (page_side n Second new)
      (shut_counts_not g h (page_side n First old) (page_side n First new) le (left.pages n First)) (shut_counts_not g h (page_side n Second old) (page_side n Second new) le (left.pages n Second))
      ∙ home_none h 4096 n old lt was)

  pub header_stays : header_in_force new ≡ header_in_force old
  header_stays =
      header_home new ∙ ap (λ x. header_of_home x (header_side Second new)) (left.header First) ∙ ap (header_of_home (header_side First old)) (left.header Second) ∙ sym (header_home old)

  sound_stays : (header_in_force old).generation ≤ g → store_fault old ≡ None → store_fault new ≡ None
  sound_stays le sound =
      let parts = sound_parts old sound in
      let h = (header_in_force old).generation in
      let roots = roots_parts h old parts.roots in
      parts_sound new (record {
        long = ap length_fault left.long ∙ parts.long;
        headers = ap (λ x. headers_fault x (header_side Second new)) (left.header First) ∙ ap (headers_fault (header_side First old)) (left.header Second) ∙ parts.headers;
        homes = subst (λ (x : Header). homes_fault x.generation 4096 new ≡ None) (sym header_stays) (homes_stay h le parts.homes);
        roots = subst (λ (x : Header). roots_fault x.generation new ≡ None) (sym header_stays) (parts_roots h new (ap is_map (page_stays h 0 le) ∙ roots.0) (ap is_root (page_stays h 1 le) ∙ roots.1));
      })

  pub shut_left : LaterLeft g old new
  shut_left = record { header = header_stays; pages = page_stays; homes = homes_stay; sound = sound_stays; long = left.long }

pub none_shut : (g : ℕ) (file : List ℕ) → GatesShut g file file
none_shut g file = record { header = λ s. refl; pages = λ n s. inl refl; long = refl }

-- ---- one gate more

-- a side that is later as it is read now was later before
pub later_before : (g : ℕ) (old new : List ℕ) → SideShut g old new → IsTrue (is_later g new) → IsTrue (is_later g old)
later_before g old new (inl same) later = subst (λ x. IsTrue (is_later g x)) same later
later_before g old new (inr (was, e)) later = was

body_of : (place : ℕ) (file : List ℕ) → drop 1 (part place 1040 file) ≡ part (place + 1) 1039 file
body_of place file = drop-take 1 1039 (drop place file) ∙ ap (take 1039) (drop-drop 1 place file)

body_shut : (g : ℕ) (old new : List ℕ) → SideShut g old new → drop 1 new ≡ drop 1 old
body_shut g old new (inl same) = ap (drop 1) same
body_shut g old new (inr (was, e)) = e

pub torn_shut : (g n : ℕ) (s : Side) (file c d : List ℕ) → n < 4096 → store_length ≤ length file → IsTrue (is_later g (page_side n s file)) → GatesShut g file c
    → SameOutside (page_place n s) (page_place n s + 1) c d → GatesShut g file d
torn_shut g n s file c d lt room later h near = record {
  header = λ t. part_same place (place + 1) (header_place t) 64 c d near (inl (header_below t n s)) ∙ h.header t;
  pages = side;
  long = near.long ∙ h.long;
}
  where
    place : ℕ
    place = page_place n s

    changed : (p : ℕ) → p ≡ place → IsTrue (is_later g (part p 1040 file)) → drop 1 (part p 1040 c) ≡ drop 1 (part p 1040 file) → SideShut g (part p 1040 file) (part p 1040 d)
    changed p e later_there was =
        inr (later_there, body_of p d ∙ part_same place (place + 1) (p + 1) 1039 c d near (inr (omega (arith, e))) ∙ sym (body_of p c) ∙ was)

    side : (m : ℕ) (t : Side) → SideShut g (page_side m t file) (page_side m t d)
    side m t = elim (eqb_tells (page_place m t) place) [
      | inl same_ ↦
          changed (page_place m t) same_.1 (subst (λ p. IsTrue (is_later g (part p 1040 file))) (sym same_.1) later)
          (body_shut g (page_side m t file) (page_side m t c) (h.pages m t))
      | inr differs ↦
          let kept : page_side m t d ≡ page_side m t c = part_same place (place + 1) (page_place m t) 1040 c d near (apart (places_apart m n t s differs.1)) in
          subst (λ x. SideShut g (page_side m t file) x) (sym kept) (h.pages m t)
    ]
      where
        apart : (page_place m t + 1040 ≤ place) ⊎ (place + 1040 ≤ page_place m t) → (page_place m t + 1040 ≤ place) ⊎ (place + 1 ≤ page_place m t)
        apart (inl below) = inl below
        apart (inr above) = inr (omega arith)

-- ---- no later side

-- a side without a later generation counts in each later one as in this one
same_count : (g h : ℕ) (side : List ℕ) → g ≤ h → (IsTrue (is_open side) → page_generation side ≤ g) → counts h side ≡ counts g side
same_count g h side le early = by_open (is_open side) early
  where
    by_open : (b : Bool) → (IsTrue b → page_generation side ≤ g) → (b && nat_le (page_generation side) h) ≡ (b && nat_le (page_generation side) g)
    by_open false early = refl
    by_open true early = let small = early refl in le-leb (page_generation side) h (omega (arith, small)) ∙ sym (le-leb (page_generation side) g small)

home_later : (g h : ℕ) (a b : List ℕ) → counts h a ≡ counts g a → counts h b ≡ counts g b → page_of_home h a b ≡ page_of_home g a b
home_later g h a b f s =
    home_is h a b ∙ ap (λ x. shown_by (force x (counts h b) (outranks b a)) (page_in a) (page_in b)) f ∙ ap (λ x. shown_by (force (counts g a) x (outranks b a)) (page_in a) (page_in b)) s
    ∙ sym (home_is g a b)

pub page_later : (g h n : ℕ) (file : List ℕ) → NoLater g file → g ≤ h → n < 4096 → page_in_force h n file ≡ page_in_force g n file
page_later g h n file none le lt =
    file_home h n file
    ∙ home_later g h (page_side n First file) (page_side n Second file) (same_count g h (page_side n First file) le (none n First lt)) (same_count g h (page_side n Second file) le (none n Second lt))
    ∙ sym (file_home g n file)

sides_later : (g h place : ℕ) (a b : List ℕ) → counts h a ≡ counts g a → counts h b ≡ counts g b → sides_fault h place a b ≡ sides_fault g place a b
unfolding sides_fault
sides_later g h place a b f s = rw (f, s) refl

pub homes_later : (g h : ℕ) (file : List ℕ) → NoLater g file → g ≤ h → homes_fault g 4096 file ≡ None → homes_fault h 4096 file ≡ None
homes_later g h file none le was = each_home h 4096 file (λ n lt.
    sides_later g h (page_place n First) (page_side n First file) (page_side n Second file) (same_count g h (page_side n First file) le (none n First lt)) (same_count g h (page_side n Second file) le (none n Second lt))
    ∙ home_none g 4096 n file lt was)

-- a side that isn't later isn't open, or not of a later generation
pub early_side : (g : ℕ) (side : List ℕ) → is_later g side ≡ false → IsTrue (is_open side) → page_generation side ≤ g
early_side g side none opened = grind (arith)

-- a side whose gate isn't open isn't later
pub shut_early : (g : ℕ) (side : List ℕ) → is_open side ≡ false → is_later g side ≡ false
shut_early g side shut = rw shut refl

-- a torn gate of a side that was later, in a file that is as long
pub gate_shut : (g n : ℕ) (s : Side) (file seen c d : List ℕ) → n < 4096 → store_length ≤ length file → IsTrue (is_later g (page_side n s file)) → GatesShut g file seen → GatesShut g file c
    → Torn (first_changed (page_place n s) seen) (page_place n s + 1) c d → GatesShut g file d
gate_shut g n s file seen c d lt room later reads h torn =
    let within = place_below n s lt in
    let from : first_changed (page_place n s) seen ≡ page_place n s = omega (arith, reads.long) in
    let torn' = subst (λ p. Torn p (page_place n s + 1) c d) from torn in
    torn_shut g n s file c d lt room later h (torn_outside (page_place n s) (page_place n s + 1) c d (omega (arith, h.long)) (omega (arith, h.long)) torn')

-- a gate that was written
pub gate_written : (n : ℕ) (s : Side) (file : List ℕ) → page_place n s < length file → SameOutside (page_place n s) (page_place n s + 1) file (written (page_place n s) (0 ∷ []) file)
gate_written n s file lt = written_outside (page_place n s) (0 ∷ []) file (omega arith)

pub others_kept : (n : ℕ) (s : Side) (file : List ℕ) (m : ℕ) (t : Side) → page_place n s < length file → page_place m t ≢ page_place n s
    → page_side m t (written (page_place n s) (0 ∷ []) file) ≡ page_side m t file
others_kept n s file m t lt differ = part_same (page_place n s) (page_place n s + 1) (page_place m t) 1040 file (written (page_place n s) (0 ∷ []) file) (gate_written n s file lt) (apart (places_apart m n t s differ))
  where
    apart : (page_place m t + 1040 ≤ page_place n s) ⊎ (page_place n s + 1040 ≤ page_place m t) → (page_place m t + 1040 ≤ page_place n s) ⊎ (page_place n s + 1 ≤ page_place m t)
    apart (inl below) = inl below
    apart (inr above) = inr (omega arith)

-- ---- a disk's file and images

pub quiet_shut : (g : ℕ) (file seen seen_after : List ℕ) (image image_after : List ℕ → Type 0) → Quiet seen image seen_after image_after → AllShut g file seen image → AllShut g file seen_after image_after
quiet_shut g file seen seen_after image image_after quiet all = record { reads = subst (GatesShut g file) (sym quiet.same) all.reads; leaves = λ c left. all.leaves c (quiet.no_new c left) }

pub only_shut : (g : ℕ) (file : List ℕ) (image : List ℕ → Type 0) → Only file image → AllShut g file file image
only_shut g file image only = record { reads = none_shut g file; leaves = λ c left. subst (GatesShut g file) (sym (only c left)) (none_shut g file) }

-- one page more without a later side
pub one_more_early : (g n : ℕ) (file new : List ℕ) → NoLaterBelow n g file → ((m : ℕ) (t : Side) → m < n → page_side m t new ≡ page_side m t file)
    → is_later g (page_side n First new) ≡ false → is_later g (page_side n Second new) ≡ false → NoLaterBelow (n + 1) g new
one_more_early g n file new before kept first second m t lt = elim (cases_lt m n) [
  | inl below ↦ subst (λ x. IsTrue (is_open x) → page_generation x ≤ g) (sym (kept m t below)) (before m t below)
  | inr above ↦ let e : n ≡ m = omega arith in subst (λ k. IsTrue (is_open (page_side k t new)) → page_generation (page_side k t new) ≤ g) e (this t)
]
  where
    this : (s : Side) → IsTrue (is_open (page_side n s new)) → page_generation (page_side n s new) ≤ g
    this First = early_side g (page_side n First new) first
    this Second = early_side g (page_side n Second new) second

-- the two sides of a page, and those of two pages, lie at different places
pub sides_differ : (n : ℕ) → page_place n Second ≢ page_place n First
sides_differ n e = absurd (omega arith)

pub pages_differ : (m n : ℕ) (s t : Side) → m < n → page_place m s ≢ page_place n t
pages_differ m n First First lt e = absurd (omega arith)
pages_differ m n First Second lt e = absurd (omega arith)
pages_differ m n Second First lt e = absurd (omega arith)
pages_differ m n Second Second lt e = absurd (omega arith)
