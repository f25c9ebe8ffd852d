-- A table of places is made anew, buffer by buffer.
use Rattle.std.proofs.Common.{◌≡◌, ◌≢◌, ℕ, suc, ◌+◌, ◌<◌, ◌≤◌, not, Bool, true, false, cond, List, [], ◌∷◌, map, length, slice_get, slice_set, Some, refl, sym, ap, ◌∙◌, arith}
use Rattle.std.proofs.lemmas.Option.{slice_get_within, slice_get-map}
use mathlib.Core.Logic.{dite}
use native.Mathlib.Decide.{ℕ_discrete}
use Rattle.mp_core_pages.specs.declared.opening.TheConstants.{PAGES}
use Rattle.mp_buffer_fusion.specs.declared.pool.TheConstants.{BUFFERS}
use Rattle.mp_buffer_fusion.specs.declared.buffer.Buffer.{Buffer}
use Rattle.mp_buffer_fusion.specs.Places.{IsKeptPool, ListsNone, AreApart}
use Rattle.mp_buffer_fusion.specs.Buffers.{unpinned_buffer, dirty_buffers}
use Rattle.mp_buffer_fusion.proofs.Buffered.{passed_place, passed_distinct}
use Rattle.mp_buffer_fusion.proofs.Kept.{one_value, set_here, set_else, set_length, distinct}
use Rattle.mp_buffer_fusion.proofs.Agreeing.{was_some}

-- The table has the places of the first buffers, so many of them, and no others
pub record ListsUpTo (buffers : List Buffer) (places : List ℕ) (n : ℕ) : Type 0 where
  pub table : length places ≡ PAGES
  pub placed : (i : ℕ) (b : Buffer) → i < n → slice_get buffers i ≡ Some b → slice_get places b.number ≡ Some (i + 1)
  pub pointed : (k i : ℕ) → slice_get places k ≡ Some (i + 1) → (i < n) × ((b : Buffer) × (slice_get buffers i ≡ Some b) × (b.number ≡ k))

pub lists_none : (buffers : List Buffer) (places : List ℕ) → ListsNone places → ListsUpTo buffers places 0
lists_none buffers places empty = record {
  table = empty.table;
  placed = λ i b less at. absurd (omega (arith, less));
  pointed = λ k i at. absurd (empty.none k i at);
}

-- The table has no place of the first buffers, so many of them
pub record ForgotUpTo (buffers : List Buffer) (places : List ℕ) (n : ℕ) : Type 0 where
  pub table : length places ≡ PAGES
  pub pointed : (k i : ℕ) → slice_get places k ≡ Some (i + 1) → (n ≤ i) × ((b : Buffer) × (slice_get buffers i ≡ Some b) × (b.number ≡ k))

pub forgot_none : (buffers : List Buffer) (places : List ℕ) → IsKeptPool buffers places → ForgotUpTo buffers places 0
forgot_none buffers places kept = record { table = kept.table; pointed = λ k i at. (omega arith, kept.pointed k i at) }

pub forgot_more : (buffers : List Buffer) (places : List ℕ) (n : ℕ) → ForgotUpTo buffers places n → (x : Buffer) → slice_get buffers n ≡ Some x
    → ForgotUpTo buffers (slice_set places x.number 0) (n + 1)
forgot_more buffers places n forgot x here = record {
  table = set_length places x.number 0 ∙ forgot.table;
  pointed = λ k i at.
      dite (ℕ_discrete k x.number)
      (λ same.
      let inside = slice_get_within (slice_set places x.number 0) k (i + 1) at in
      let one : 0 ≡ i + 1 = one_value (sym (set_here places x.number 0 (omega (arith, inside, same, set_length places x.number 0))) ∙ ap (slice_get (slice_set places x.number 0)) (sym same) ∙ at) in
      absurd (omega (arith, one)))
      (λ other.
      let was = forgot.pointed k i (sym (set_else places x.number k 0 other) ∙ at) in
      let later : n ≢ i = λ same. other (sym was.1.2 ∙ ap (λ (y : Buffer). y.number) (one_buffer (sym was.1.1 ∙ ap (slice_get buffers) (sym same) ∙ here))) in
      (omega (arith, was.0, later), was.1));
}
  where
    one_buffer : {b c : Buffer} → Some b ≡ Some c → b ≡ c
    one_buffer e = cc

pub forgot_all : (buffers : List Buffer) (places : List ℕ) (n : ℕ) → length buffers ≤ n → ForgotUpTo buffers places n → ListsNone places
forgot_all buffers places n all forgot = record {
  table = forgot.table;
  none = λ k i at.
      let was = forgot.pointed k i at in
      let within = slice_get_within buffers i was.1.0 was.1.1 in
      omega (arith, was.0, within, all);
}

pub lists_more : (buffers : List Buffer) → AreApart buffers → (places : List ℕ) (n : ℕ) → ListsUpTo buffers places n → (x : Buffer) → slice_get buffers n ≡ Some x
    → ListsUpTo buffers (slice_set places x.number (n + 1)) (n + 1)
lists_more buffers apart places n lists x here = record {
  table = set_length places x.number (n + 1) ∙ lists.table;
  placed = λ i b less at.
      dite (ℕ_discrete i n)
      (λ same.
      let one : Some x ≡ Some b = sym here ∙ ap (slice_get buffers) (sym same) ∙ at in
      let is : x ≡ b = cc in
      ap (slice_get (slice_set places x.number (n + 1))) (ap (λ (y : Buffer). y.number) (sym is))
      ∙ set_here places x.number (n + 1) (omega (arith, lists.table, apart.within n x here)) ∙ ap (λ j. Some (j + 1)) (sym same))
      (λ other.
      set_else places x.number b.number (n + 1) (λ e. other (apart.distinct i n b x at here e)) ∙ lists.placed i b (omega (arith, less, other)) at);
  pointed = λ k i at.
      dite (ℕ_discrete k x.number)
      (λ same.
      let one : n + 1 ≡ i + 1 = one_value (sym (set_here places x.number (n + 1) (omega (arith, lists.table, apart.within n x here))) ∙ ap (slice_get (slice_set places x.number (n + 1))) (sym same) ∙ at) in
      let is : n ≡ i = omega arith in
      (omega arith, (x, ap (slice_get buffers) (sym is) ∙ here, sym same)))
      (λ other.
      let was = lists.pointed k i (sym (set_else places x.number k (n + 1) other) ∙ at) in
      (omega (arith, was.0), was.1));
}

pub lists_all : (buffers : List Buffer) (places : List ℕ) (n : ℕ) → length buffers ≤ n → length buffers ≤ BUFFERS → ListsUpTo buffers places n → IsKeptPool buffers places
lists_all buffers places n all few lists = record {
  few = few;
  table = lists.table;
  placed = λ i b at. let within = slice_get_within buffers i b at in lists.placed i b (omega (arith, within, all)) at;
  pointed = λ k i at. (lists.pointed k i at).1;
}

-- the buffers of a pool are apart, and so are those of them that are not clean
pub kept_apart : (buffers : List Buffer) (places : List ℕ) → IsKeptPool buffers places → AreApart buffers
kept_apart buffers places kept = record {
  within = λ i b at. let inside = slice_get_within places b.number (i + 1) (kept.placed i b at) in omega (arith, inside, kept.table);
  distinct = distinct buffers places kept;
}

mapped_was : (f : Buffer → Buffer) (xs : List Buffer) (i : ℕ) (b : Buffer) → slice_get (map f xs) i ≡ Some b → (a : Buffer) × (slice_get xs i ≡ Some a) × (f a ≡ b)
mapped_was f xs i b at = was_some f (slice_get xs i) b (sym (slice_get-map f xs i) ∙ at)

pub dirty_apart : (buffers : List Buffer) → AreApart buffers → AreApart (map unpinned_buffer (dirty_buffers buffers))
dirty_apart buffers apart = record {
  within = λ i b at.
      let was = mapped_was unpinned_buffer (dirty_buffers buffers) i b at in
      let old = passed_place (λ x. not x.clean) buffers i was.0 was.1 in
      let less = apart.within old.0 was.0 old.1 in
      let same = ap (λ (y : Buffer). y.number) was.2 in
      omega (arith, less, same);
  distinct = λ i j b c at also same.
      let was = mapped_was unpinned_buffer (dirty_buffers buffers) i b at in
      let other = mapped_was unpinned_buffer (dirty_buffers buffers) j c also in
      passed_distinct (λ x. not x.clean) buffers apart.distinct i j was.0 other.0 was.1 other.1
      (ap (λ (y : Buffer). y.number) was.2 ∙ same ∙ sym (ap (λ (y : Buffer). y.number) other.2));
}

length_mapped : (f : Buffer → Buffer) (xs : List Buffer) → length (map f xs) ≡ length xs
length_mapped f [] = refl
length_mapped f (x ∷ xs) = ap suc (length_mapped f xs)

cond_bound : (t : Bool) (x : Buffer) (xs ys : List Buffer) → length xs ≤ length ys → length (cond t (x ∷ xs) xs) ≤ length (x ∷ ys)
cond_bound true x xs ys most = omega (arith, most)
cond_bound false x xs ys most = omega (arith, most)

dirty_bound : (xs : List Buffer) → length (dirty_buffers xs) ≤ length xs
dirty_bound [] = omega arith
dirty_bound (x ∷ xs) = cond_bound (not x.clean) x (dirty_buffers xs) xs (dirty_bound xs)

pub dirty_few : (xs : List Buffer) → length xs ≤ BUFFERS → length (map unpinned_buffer (dirty_buffers xs)) ≤ BUFFERS
dirty_few xs few = let same = length_mapped unpinned_buffer (dirty_buffers xs) in let most = dirty_bound xs in omega (arith, same, most, few)
