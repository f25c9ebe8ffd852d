-- After a write into a disk in memory, what is true of its fields stays true, and it reads as written.
use Rattle.std.proofs.Common.{◌≡◌, ◌⊎◌, inl, inr, ℕ, ◌+◌, ◌-◌, ◌/◌, ◌<◌, ◌≤◌, min, max, get_or, List, ◌++◌, length, take, drop, replicate, refl, sym, ap, ◌∙◌, append_assoc, length-append, length-take, arith}
use Rattle.std.proofs.lemmas.List.{length-replicate, take-take, take-replicate, drop-replicate, drop-drop, get_or-take, get_or-replicate, get_or_append_left, get_or-append_right, take_all}
use Rattle.std.proofs.lemmas.Bool.{cases_lt}
use Rattle.mp_outside.specs.Disks.{written}
use Rattle.mp_outside.specs.Marks.{mark_at, marked}
use Rattle.mp_outside.specs.Calls.{Calls}
use Rattle.mp_outside.specs.MemDisks.{IsMemDisk, after_write}
use Rattle.mp_outside.specs.declared.marks.Mark.{Mark}
use Rattle.mp_outside.specs.declared.marks.Mark.TheVariants.{Untouched, Gap, Front, Back}
use Rattle.mp_outside.proofs.Overlays.{over, length-over, take-over, drop-over, take_over_end, get_or-over_out, get_or-over_in}

-- what a write puts over the bytes, and over the marks, from where it begins to change them
abbrev pub put_in : ℕ → ℕ → List ℕ → List ℕ
put_in place size bytes = replicate (place - size) 0 ++ bytes

abbrev pub marks_in : ℕ → ℕ → ℕ → List Mark
marks_in place size count = replicate (place - size) Gap ++ (replicate (count / 2) Front ++ replicate (count - count / 2) Back)

pub length-put_in : (place size : ℕ) (bytes : List ℕ) → min place size + length (put_in place size bytes) ≡ place + length bytes
length-put_in place size bytes = omega (arith, length-append (replicate (place - size) 0) bytes, length-replicate {A = ℕ} (place - size) 0)

pub length-marks_in : (place size count : ℕ) → min place size + length (marks_in place size count) ≡ place + count
length-marks_in place size count =
    omega (
      arith,
      length-append (replicate (place - size) Gap) (replicate (count / 2) Front ++ replicate (count - count / 2) Back),
      length-append (replicate (count / 2) Front) (replicate (count - count / 2) Back),
      length-replicate (place - size) Gap,
      length-replicate (count / 2) Front,
      length-replicate (count - count / 2) Back,
    )

pub put_is : (buffer bytes : List ℕ) (place size : ℕ)
    → take (min place size) buffer ++ (replicate (place - size) 0 ++ (bytes ++ drop (place + length bytes) buffer)) ≡ over (min place size) buffer (put_in place size bytes)
put_is buffer bytes place size = rw (length-put_in place size bytes) (simp append_assoc)

pub marked_is : (marks : List Mark) (place count size : ℕ) → marked place count size marks ≡ over (min place size) marks (marks_in place size count)
marked_is marks place count size = rw (length-marks_in place size count) (simp append_assoc)

-- no place in the front of a list has an untouched mark, and none behind it
touched_by : (n k : ℕ) (mark : Mark) (rest : List Mark) → (mark ≡ Untouched → ⊥) → ((j : ℕ) → j < length rest → mark_at rest j ≡ Untouched → ⊥)
    → k < length (replicate n mark ++ rest) → (k < n) ⊎ (n ≤ k) → mark_at (replicate n mark ++ rest) k ≡ Untouched → ⊥
touched_by n k mark rest here there lt (inl below) is =
    let front : k < length (replicate n mark) = omega (arith, length-replicate n mark) in
    here (sym (get_or_append_left (replicate n mark) rest Untouched k front ∙ get_or-replicate n k mark Untouched below) ∙ is)
touched_by n k mark rest here there lt (inr above) is =
    there (k - n) (omega (arith, length-append (replicate n mark) rest, length-replicate n mark)) (sym (get_or-append_right (replicate n mark) rest n k Untouched (length-replicate n mark) above) ∙ is)

pub touched : (place size count k : ℕ) → k < length (marks_in place size count) → mark_at (marks_in place size count) k ≡ Untouched → ⊥
touched place size count k lt is =
    touched_by (place - size) k Gap (replicate (count / 2) Front ++ replicate (count - count / 2) Back) (λ e. cc)
    (λ j lt'. touched_by (count / 2) j Front (replicate (count - count / 2) Back) (λ e. cc) (λ i lt''. back i (omega (arith, length-replicate (count - count / 2) Back))) lt' (cases_lt j (count / 2)))
    lt (cases_lt k (place - size)) is where
      back : (i : ℕ) → i < count - count / 2 → mark_at (replicate (count - count / 2) Back) i ≡ Untouched → ⊥
      back i below e = let f = sym (get_or-replicate (count - count / 2) i Back Untouched below) ∙ e in cc

-- a place outside what was written is as it was, and one inside is touched
untouched_still : (bytes synced : List ℕ) (marks : List Mark) (size synced_size from to first : ℕ) (body : List ℕ) (mbody : List Mark)
    → IsMemDisk bytes synced marks size synced_size from to → first ≤ size → first + length body ≤ length bytes → length mbody ≡ length body
    → ((k : ℕ) → k < length mbody → mark_at mbody k ≡ Untouched → ⊥)
    → (place : ℕ) → place < max size (first + length body) → mark_at (over first marks mbody) place ≡ Untouched
    → (place < first) ⊎ (first ≤ place) → (place < first + length body) ⊎ (first + length body ≤ place)
    → get_or (take (max size (first + length body)) (over first bytes body)) place 0 ≡ get_or (take synced_size synced) place 0
untouched_still bytes synced marks size synced_size from to first body mbody h le room same marked place lt is (inl below) high =
    let lt' : place < size = omega arith in
    let short : first ≤ length bytes = omega (arith, h.within) in
    let mshort : first ≤ length marks = omega (arith, h.within, h.marks_room) in
    get_or-take (max size (first + length body)) (over first bytes body) place 0 lt ∙ get_or-over_out first place bytes body 0 short (inl below) ∙ sym (get_or-take size bytes place 0 lt')
    ∙ h.untouched place lt' (sym (get_or-over_out first place marks mbody Untouched mshort (inl below)) ∙ is)
untouched_still bytes synced marks size synced_size from to first body mbody h le room same marked place lt is (inr above) (inl inside) =
    let mshort : first ≤ length marks = omega (arith, h.within, h.marks_room) in
    let k : place - first < length mbody = omega arith in
    let sum : first + (place - first) ≡ place = omega arith in
    absurd (marked (place - first) k (sym (get_or-over_in first (place - first) marks mbody Untouched mshort k) ∙ ap (mark_at (over first marks mbody)) sum ∙ is))
untouched_still bytes synced marks size synced_size from to first body mbody h le room same marked place lt is (inr above) (inr past) =
    let lt' : place < size = omega arith in
    let short : first ≤ length bytes = omega (arith, h.within) in
    let mshort : first ≤ length marks = omega (arith, h.within, h.marks_room) in
    let past' : first + length mbody ≤ place = omega arith in
    get_or-take (max size (first + length body)) (over first bytes body) place 0 lt ∙ get_or-over_out first place bytes body 0 short (inr past) ∙ sym (get_or-take size bytes place 0 lt')
    ∙ h.untouched place lt' (sym (get_or-over_out first place marks mbody Untouched mshort (inr past')) ∙ is)

pub kept : (bytes synced : List ℕ) (marks : List Mark) (size synced_size from to first : ℕ) (body : List ℕ) (mbody : List Mark)
    → IsMemDisk bytes synced marks size synced_size from to → first ≤ size → first + length body ≤ length bytes → length mbody ≡ length body
    → ((k : ℕ) → k < length mbody → mark_at mbody k ≡ Untouched → ⊥)
    → IsMemDisk (over first bytes body) synced (over first marks mbody) (max size (first + length body)) synced_size (min from first) (max to (first + length body))
kept bytes synced marks size synced_size from to first body mbody h le room same marked =
    let mroom : first + length mbody ≤ length marks = omega (arith, h.marks_room) in
    let long : length (over first bytes body) ≡ length bytes = length-over first bytes body room in
    let mlong : length (over first marks mbody) ≡ length marks = length-over first marks mbody mroom in
    let short : first ≤ length bytes = omega (arith, h.within) in
    let mshort : first ≤ length marks = omega (arith, h.within, h.marks_room) in
    let low = min from first in
    let high = max to (first + length body) in
    let to_high : to + (high - to) ≡ high = omega arith in
    record {
      synced_room = h.synced_room ∙ sym long;
      marks_room = mlong ∙ h.marks_room ∙ sym long;
      within = omega (arith, long, h.within, room);
      synced_within = omega (arith, long, h.synced_within);
      ordered = omega (arith, h.ordered);
      ends = omega (arith, long, h.ends, room);
      below = (
        take-over first low bytes body (omega arith) short ∙ sym (take-take low from bytes (omega arith)) ∙ ap (take low) (h.below.0) ∙ take-take low from synced (omega arith),
        take-over first low marks mbody (omega arith) mshort ∙ sym (take-take low from marks (omega arith)) ∙ ap (take low) (h.below.1) ∙ take-replicate low from Untouched (omega arith),
      );
      above = (
        drop-over first high bytes body (omega arith) short ∙ ap (λ n. drop n bytes) (sym to_high) ∙ sym (drop-drop (high - to) to bytes) ∙ ap (drop (high - to)) (h.above.0)
            ∙ drop-drop (high - to) to synced ∙ ap (λ n. drop n synced) to_high,
        drop-over first high marks mbody (omega arith) mshort ∙ ap (λ n. drop n marks) (sym to_high) ∙ sym (drop-drop (high - to) to marks) ∙ ap (drop (high - to)) (h.above.1)
            ∙ drop-replicate (high - to) (length bytes - to) Untouched ∙ ap (λ n. replicate n Untouched) (omega (arith, long)),
      );
      untouched = λ place lt is.
          untouched_still bytes synced marks size synced_size from to first body mbody h le room same marked place lt is (cases_lt place first) (cases_lt place (first + length body));
    }

take_both_by : (n m : ℕ) (xs : List ℕ) → (n < m) ⊎ (m ≤ n) → take n (take m xs) ≡ take (min n m) xs
take_both_by n m xs (inl less) = take-take n m xs (omega arith) ∙ ap (λ k. take k xs) (omega arith)
take_both_by n m xs (inr more) = take_all n (take m xs) (omega (arith, length-take m xs)) ∙ ap (λ k. take k xs) (omega arith)

pub take_both : (n m : ℕ) (xs : List ℕ) → take n (take m xs) ≡ take (min n m) xs
take_both n m xs = take_both_by n m xs (cases_lt n m)

-- the buffer reads as written
pub reads_written : (buffer bytes : List ℕ) (place size : ℕ) → size ≤ length buffer
    → take (max size (place + length bytes)) (over (min place size) buffer (put_in place size bytes)) ≡ written place bytes (take size buffer)
reads_written buffer bytes place size le =
    let file : length (take size buffer) ≡ size = omega (arith, length-take size buffer) in
    let all = length-put_in place size bytes in
    rw (file, ← all, take_over_end (min place size) size buffer (put_in place size bytes) (omega arith), take_both place size buffer) (simp append_assoc)

-- the same of any fields that are what these calls make of them
pub still_is : (bytes synced bytes' : List ℕ) (marks marks' : List Mark) (size synced_size from to size' from' to' place : ℕ) (data' : List ℕ)
    → IsMemDisk bytes synced marks size synced_size from to → place + length data' ≤ length bytes
    → bytes' ≡ take (min place size) bytes ++ (replicate (place - size) 0 ++ (data' ++ drop (place + length data') bytes)) → marks' ≡ marked place (length data') size marks
    → size' ≡ max size (place + length data') → from' ≡ min from (min place size) → to' ≡ max to (place + length data')
    → IsMemDisk bytes' synced marks' size' synced_size from' to'
still_is bytes synced bytes' marks marks' size synced_size from to size' from' to' place data' h room b m s f t =
    let e = length-put_in place size data' in
    let r : min place size + length (put_in place size data') ≤ length bytes = omega arith in
    let same : length (marks_in place size (length data')) ≡ length (put_in place size data') = omega (arith, length-marks_in place size (length data')) in
    let all = kept bytes synced marks size synced_size from to (min place size) (put_in place size data') (marks_in place size (length data')) h (omega arith) r same (touched place size (length data')) in
    rw (b, m, s, f, t, put_is bytes data' place size, marked_is marks place (length data') size, ← e) all

pub as_written : (bytes synced bytes' : List ℕ) (marks marks' : List Mark) (size synced_size size' place least most most' : ℕ) (data' : List ℕ) (calls : Calls) → size ≤ length bytes → place + length data' ≤ length bytes
    → bytes' ≡ take (min place size) bytes ++ (replicate (place - size) 0 ++ (data' ++ drop (place + length data') bytes)) → marks' ≡ marked place (length data') size marks
    → size' ≡ max size (place + length data') → most' ≡ max most (place + length data')
    → (record { seen = take size' bytes'; synced = take synced_size synced; marks = marks'; least = least; most = most'; room = length bytes'; calls = calls })
    ≡ after_write place data' (record { seen = take size bytes; synced = take synced_size synced; marks = marks; least = least; most = most; room = length bytes; calls = calls }) calls
as_written bytes synced bytes' marks marks' size synced_size size' place least most most' data' calls le room b m s long_most =
    let file : length (take size bytes) ≡ size = omega (arith, length-take size bytes) in
    let r : min place size + length (put_in place size data') ≤ length bytes = omega (arith, length-put_in place size data') in
    let long = length-over (min place size) bytes (put_in place size data') r in
    let seen = reads_written bytes data' place size le in
    rw (b, m, s, long_most, put_is bytes data' place size, seen, long, file) refl
