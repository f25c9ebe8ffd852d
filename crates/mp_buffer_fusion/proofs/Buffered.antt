-- The buffer of a page, by its place in the list, and after each change of the list.
use Rattle.std.proofs.Common.{◌≡◌, ℕ, zero, suc, ◌+◌, ◌==◌, not, Bool, true, false, cond, if◌then◌else◌, List, [], ◌∷◌, ◌++◌, map, filter, length, slice_get, slice_set, Option, Some, None, refl, sym, ap, ◌∙◌, subst, arith}
use Rattle.std.specs.Option.{option_map}
use mathlib.Core.Logic.{dite}
use native.Mathlib.Decide.{ℕ_discrete}
use Rattle.mp_core_pages.proofs.Choices.{if_equal, if_differs}
use Rattle.mp_buffer_fusion.specs.declared.buffer.Buffer.{Buffer}
use Rattle.mp_buffer_fusion.specs.Buffers.{buffer_of, with_buffer}

-- nothing is something
pub not_some : {X A : Type 0} (o : Option X) (x : X) → o ≡ None → o ≡ Some x → A
not_some o x none some = absurd (cc)

-- no two places of the list have buffers of one page
abbrev pub Distinct : List Buffer → Type 0
Distinct buffers = (i j : ℕ) (b c : Buffer) → slice_get buffers i ≡ Some b → slice_get buffers j ≡ Some c → b.number ≡ c.number → i ≡ j

distinct_rest : (x : Buffer) (buffers : List Buffer) → Distinct (x ∷ buffers) → Distinct buffers
distinct_rest x buffers d i j b c at also same = let one = d (suc i) (suc j) b c at also same in omega arith

first_apart : (x : Buffer) (buffers : List Buffer) → Distinct (x ∷ buffers) → (i : ℕ) (b : Buffer) → slice_get buffers i ≡ Some b → ¬ (b.number ≡ x.number)
first_apart x buffers d i b at same = let one = d (suc i) zero b x at refl same in absurd (omega arith)

-- a buffer in the list is its page's
pub found_at : (buffers : List Buffer) → Distinct buffers → (i : ℕ) (b : Buffer) → slice_get buffers i ≡ Some b → buffer_of buffers b.number ≡ Some b
found_at [] d i b at = absurd (cc)
found_at (x ∷ buffers) d zero b at =
    let same : x ≡ b = cc in
    if_equal b.number x.number (Some x) (buffer_of buffers b.number) (ap (λ (y : Buffer). y.number) (sym same)) ∙ at
found_at (x ∷ buffers) d (suc i) b at =
    if_differs b.number x.number (Some x) (buffer_of buffers b.number) (first_apart x buffers d i b at)
    ∙ found_at buffers (distinct_rest x buffers d) i b at

-- and a page's buffer is in the list
pub place_found : (buffers : List Buffer) (k : ℕ) (b : Buffer) → buffer_of buffers k ≡ Some b → (i : ℕ) × (slice_get buffers i ≡ Some b) × (b.number ≡ k)
place_found [] k b is = absurd (cc)
place_found (x ∷ buffers) k b is =
    dite (ℕ_discrete k x.number)
    (λ same.
    let first : Some x ≡ Some b = sym (if_equal k x.number (Some x) (buffer_of buffers k) same) ∙ is in
    let one : x ≡ b = cc in
    (zero, first, ap (λ (y : Buffer). y.number) (sym one) ∙ sym same))
    (λ other.
    let rest = place_found buffers k b (sym (if_differs k x.number (Some x) (buffer_of buffers k) other) ∙ is) in
    (suc rest.0, rest.1, rest.2))

-- a page without a buffer has none in the list
pub lacks_from : (buffers : List Buffer) (k : ℕ) → ((i : ℕ) (b : Buffer) → slice_get buffers i ≡ Some b → ¬ (b.number ≡ k)) → buffer_of buffers k ≡ None
lacks_from [] k none = refl
lacks_from (x ∷ buffers) k none =
    if_differs k x.number (Some x) (buffer_of buffers k) (λ same. none zero x refl (sym same))
    ∙ lacks_from buffers k (λ i b at. none (suc i) b at)

-- one buffer more, at the end
pub in_longer : (buffers : List Buffer) (x : Buffer) (k : ℕ) (b : Buffer) → buffer_of buffers k ≡ Some b → buffer_of (buffers ++ x ∷ []) k ≡ Some b
in_longer [] x k b is = absurd (cc)
in_longer (y ∷ buffers) x k b is =
    dite (ℕ_discrete k y.number)
    (λ same. if_equal k y.number (Some y) (buffer_of (buffers ++ x ∷ []) k) same ∙ sym (if_equal k y.number (Some y) (buffer_of buffers k) same) ∙ is)
    (λ other. if_differs k y.number (Some y) (buffer_of (buffers ++ x ∷ []) k) other ∙ in_longer buffers x k b (sym (if_differs k y.number (Some y) (buffer_of buffers k) other) ∙ is))

pub last_of_longer : (buffers : List Buffer) (x : Buffer) (k : ℕ) → buffer_of buffers k ≡ None → buffer_of (buffers ++ x ∷ []) k ≡ buffer_of (x ∷ []) k
last_of_longer [] x k none = refl
last_of_longer (y ∷ buffers) x k none =
    dite (ℕ_discrete k y.number)
    (λ same. not_some (buffer_of (y ∷ buffers) k) y none (if_equal k y.number (Some y) (buffer_of buffers k) same))
    (λ other. if_differs k y.number (Some y) (buffer_of (buffers ++ x ∷ []) k) other ∙ last_of_longer buffers x k (sym (if_differs k y.number (Some y) (buffer_of buffers k) other) ∙ none))

-- each buffer changed, none in its page's number
pub of_mapped : (f : Buffer → Buffer) → ((b : Buffer) → (f b).number ≡ b.number) → (buffers : List Buffer) (k : ℕ) → buffer_of (map f buffers) k ≡ option_map f (buffer_of buffers k)
of_mapped f same [] k = refl
of_mapped f same (x ∷ buffers) k =
    dite (ℕ_discrete k x.number)
    (λ is. if_equal k (f x).number (Some (f x)) (buffer_of (map f buffers) k) (is ∙ sym (same x)) ∙ ap (option_map f) (sym (if_equal k x.number (Some x) (buffer_of buffers k) is)))
    (λ other. if_differs k (f x).number (Some (f x)) (buffer_of (map f buffers) k) (λ is. other (is ∙ same x)) ∙ of_mapped f same buffers k ∙ ap (option_map f) (sym (if_differs k x.number (Some x) (buffer_of buffers k) other)))

-- the change of one page's buffer
abbrev pub change_of : ℕ → (Buffer → Buffer) → Buffer → Buffer
change_of k f b = if k == b.number then f b else b

module _ (f : Buffer → Buffer) (same : (b : Buffer) → (f b).number ≡ b.number) where
  pub change_keeps : (k : ℕ) (b : Buffer) → (change_of k f b).number ≡ b.number
  change_keeps k b =
      dite (ℕ_discrete k b.number)
      (λ is. ap (λ (y : Buffer). y.number) (if_equal k b.number (f b) b is) ∙ same b)
      (λ other. ap (λ (y : Buffer). y.number) (if_differs k b.number (f b) b other))

  pub of_changed : (buffers : List Buffer) (k j : ℕ) → buffer_of (with_buffer buffers k f) j ≡ option_map (change_of k f) (buffer_of buffers j)
  of_changed buffers k j = of_mapped (change_of k f) (change_keeps k) buffers j

  pub of_changed_here : (buffers : List Buffer) (k : ℕ) (b : Buffer) → buffer_of buffers k ≡ Some b → buffer_of (with_buffer buffers k f) k ≡ Some (f b)
  of_changed_here buffers k b is =
      of_changed buffers k k ∙ ap (option_map (change_of k f)) is ∙ ap Some (if_equal k b.number (f b) b (sym (place_found buffers k b is).2))

  option_same : (k j : ℕ) → ¬ (j ≡ k) → (buffers : List Buffer) (o : Option Buffer) → buffer_of buffers j ≡ o → option_map (change_of k f) o ≡ o
  option_same k j other buffers None is = refl
  option_same k j other buffers (Some b) is = ap Some (if_differs k b.number (f b) b (λ e. other (sym (place_found buffers j b is).2 ∙ sym e)))

  pub of_changed_else : (buffers : List Buffer) (k j : ℕ) → ¬ (j ≡ k) → buffer_of (with_buffer buffers k f) j ≡ buffer_of buffers j
  of_changed_else buffers k j other = of_changed buffers k j ∙ option_same k j other buffers (buffer_of buffers j) refl

untouched : (f : Buffer → Buffer) (k : ℕ) (buffers : List Buffer) → ((i : ℕ) (b : Buffer) → slice_get buffers i ≡ Some b → ¬ (b.number ≡ k)) → with_buffer buffers k f ≡ buffers
untouched f k [] none = refl
untouched f k (x ∷ buffers) none =
    λ i. if_differs k x.number (f x) x (λ e. none zero x refl (sym e)) i ∷ untouched f k buffers (λ j b at. none (suc j) b at) i

-- it is written at the buffer's place
pub written_at : (f : Buffer → Buffer) (buffers : List Buffer) → Distinct buffers → (k i : ℕ) (b : Buffer) → slice_get buffers i ≡ Some b → b.number ≡ k → slice_set buffers i (f b) ≡ with_buffer buffers k f
written_at f [] d k i b at is = absurd (cc)
written_at f (x ∷ buffers) d k zero b at is =
    let same : x ≡ b = cc in
    let first : f b ≡ change_of k f x = ap f (sym same) ∙ sym (if_equal k x.number (f x) x (sym is ∙ ap (λ (y : Buffer). y.number) (sym same))) in
    let rest = untouched f k buffers (λ j c there e. first_apart x buffers d j c there (e ∙ sym is ∙ ap (λ (y : Buffer). y.number) (sym same))) in
    λ i. first i ∷ sym rest i
written_at f (x ∷ buffers) d k (suc i) b at is =
    let first = if_differs k x.number (f x) x (λ e. first_apart x buffers d i b at (is ∙ e)) in
    let rest = written_at f buffers (distinct_rest x buffers d) k i b at is in
    λ j. sym first j ∷ rest j

-- the buffers that pass a test
either : (xs ys : List Buffer) (k : ℕ) (b : Buffer) (t : Bool) → buffer_of xs k ≡ Some b → buffer_of ys k ≡ Some b → buffer_of (cond t xs ys) k ≡ Some b
either xs ys k b true first second = first
either xs ys k b false first second = second

place_in : (x b : Buffer) (buffers passed : List Buffer) (t : Bool) → ((i : ℕ) → slice_get passed i ≡ Some b → (j : ℕ) × (slice_get buffers j ≡ Some b))
    → (i : ℕ) → slice_get (cond t (x ∷ passed) passed) i ≡ Some b → (j : ℕ) × (slice_get (x ∷ buffers) j ≡ Some b)
place_in x b buffers passed true was zero at = (zero, at)
place_in x b buffers passed true was (suc i) at = let rest = was i at in (suc rest.0, rest.1)
place_in x b buffers passed false was i at = let rest = was i at in (suc rest.0, rest.1)

module _ (test : Buffer → Bool) where
  pub passed_stays : (buffers : List Buffer) (k : ℕ) (b : Buffer) → buffer_of buffers k ≡ Some b → test b ≡ true → buffer_of (filter test buffers) k ≡ Some b
  passed_stays [] k b is passes = absurd (cc)
  passed_stays (x ∷ buffers) k b is passes =
      dite (ℕ_discrete k x.number)
      (λ same.
      let first : Some x ≡ Some b = sym (if_equal k x.number (Some x) (buffer_of buffers k) same) ∙ is in
      let one : x ≡ b = cc in
      ap (λ t. buffer_of (cond t (x ∷ filter test buffers) (filter test buffers)) k) (ap test one ∙ passes)
      ∙ if_equal k x.number (Some x) (buffer_of (filter test buffers) k) same ∙ first)
      (λ other.
      let rest = passed_stays buffers k b (sym (if_differs k x.number (Some x) (buffer_of buffers k) other) ∙ is) passes in
      either (x ∷ filter test buffers) (filter test buffers) k b (test x) (if_differs k x.number (Some x) (buffer_of (filter test buffers) k) other ∙ rest) rest)

  pub passed_place : (buffers : List Buffer) (i : ℕ) (b : Buffer) → slice_get (filter test buffers) i ≡ Some b → (j : ℕ) × (slice_get buffers j ≡ Some b)
  passed_place [] i b at = absurd (cc)
  passed_place (x ∷ buffers) i b at = place_in x b buffers (filter test buffers) (test x) (λ j there. passed_place buffers j b there) i at

  pub passed_was : (buffers : List Buffer) → Distinct buffers → (k : ℕ) (b : Buffer) → buffer_of (filter test buffers) k ≡ Some b → buffer_of buffers k ≡ Some b
  passed_was buffers d k b is =
      let at = place_found (filter test buffers) k b is in
      let was = passed_place buffers at.0 b at.1 in
      subst (λ j. buffer_of buffers j ≡ Some b) at.2 (found_at buffers d was.0 b was.1)

  abbrev AtMostOne : Buffer → Buffer → List Buffer → Type 0
  AtMostOne b c buffers = (i j : ℕ) → slice_get buffers i ≡ Some b → slice_get buffers j ≡ Some c → i ≡ j

  longer_one : (x b c : Buffer) (buffers : List Buffer) (t : Bool) → AtMostOne b c buffers
      → ((i : ℕ) → x ≡ b → slice_get buffers i ≡ Some c → ⊥) → ((i : ℕ) → x ≡ c → slice_get buffers i ≡ Some b → ⊥)
      → AtMostOne b c (cond t (x ∷ buffers) buffers)
  longer_one x b c buffers true rest first second zero zero at also = refl
  longer_one x b c buffers true rest first second zero (suc j) at also = absurd (first j (cc) also)
  longer_one x b c buffers true rest first second (suc i) zero at also = absurd (second i (cc) at)
  longer_one x b c buffers true rest first second (suc i) (suc j) at also = ap suc (rest i j at also)
  longer_one x b c buffers false rest first second i j at also = rest i j at also

  pub passed_distinct : (buffers : List Buffer) → Distinct buffers → Distinct (filter test buffers)
  passed_distinct [] d i j b c at also same = absurd (cc)
  passed_distinct (x ∷ buffers) d i j b c at also same =
      let apart = λ (i : ℕ) (y : Buffer) (there : slice_get (filter test buffers) i ≡ Some y) (e : y.number ≡ x.number). let was = passed_place buffers i y there in first_apart x buffers d was.0 y was.1 e in
      longer_one x b c (filter test buffers) (test x)
      (λ i j at also. passed_distinct buffers (distinct_rest x buffers d) i j b c at also same)
      (λ i is there. apart i c there (sym same ∙ ap (λ (y : Buffer). y.number) (sym is)))
      (λ i is there. apart i b there (same ∙ ap (λ (y : Buffer). y.number) (sym is)))
      i j at also
