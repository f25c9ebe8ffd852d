-- Each image of a disk in memory after a write or a cut is what the disk model makes of an image before it; after a sync there is one.
use Rattle.std.proofs.Common.{◌≡◌, ◌⊎◌, inl, inr, ℕ, ◌+◌, ◌-◌, ◌<◌, ◌≤◌, min, max, get_or, List, ◌++◌, length, take, drop, replicate, zero, suc, refl, sym, ap, ◌∙◌, length-append, length-take, length-drop, arith}
use Rattle.std.proofs.lemmas.List.{length-replicate, take_all, take_at, take_min, drop_all, get_or-take, get_or-drop, get_or_append_left, get_or-append_right, get_or_past, ext_get_or}
use Rattle.std.proofs.lemmas.Bool.{cases_lt}
use Rattle.mp_outside.specs.Calls.{Calls}
use Rattle.mp_outside.specs.Disks.{written, first_changed, Torn, Cut, Follows, Only}
use Rattle.mp_outside.specs.Marks.{mark_at, marked}
use Rattle.mp_outside.specs.MemDisks.{MemDiskState, MemImage, settled, after_write, after_call}
use Rattle.mp_outside.specs.declared.marks.Mark.{Mark}
use Rattle.mp_outside.specs.declared.marks.Mark.TheVariants.{Untouched}
use Rattle.mp_outside.proofs.Overlays.{over, take-over, drop-over, get_or-over_out, get_or-over_in}
use Rattle.mp_outside.proofs.Writes.{marks_in, length-marks_in, marked_is, put_in, length-put_in, put_is, take_both}

-- a file as it was is a torn one, and a cut one
pub Torn-refl : (from to : ℕ) (file : List ℕ) → Torn from to file file
Torn-refl from to file = record { before = take_min from file; after = refl; no_shorter = omega arith }

pub Cut-refl : (size : ℕ) (file : List ℕ) → Cut size file file
Cut-refl size file = record { no_shorter = omega arith; front = sym (take_all (length file) file (omega arith)) }

-- a call that changed no byte
pub call_tears : (disk : MemDiskState) (calls : Calls) (from to : ℕ) → Follows (Torn from to) (MemImage disk) (MemImage (after_call disk calls))
call_tears disk calls from to c (inl seen) = (c, inl seen, Torn-refl from to c)
call_tears disk calls from to c (inr h) = (c, inr (record { least = h.least; most = h.most; untouched = h.untouched }), Torn-refl from to c)

pub call_cuts : (disk : MemDiskState) (calls : Calls) (size : ℕ) → Follows (Cut size) (MemImage disk) (MemImage (after_call disk calls))
call_cuts disk calls size c (inl seen) = (c, inl seen, Cut-refl size c)
call_cuts disk calls size c (inr h) = (c, inr (record { least = h.least; most = h.most; untouched = h.untouched }), Cut-refl size c)

-- the synced bytes of a range, with zeros past their end
synced_part : (synced : List ℕ) (from n : ℕ) → List ℕ
synced_part synced from n = take n (drop from (synced ++ replicate {A = ℕ} (from + n) 0))

length-synced_part : (synced : List ℕ) (from n : ℕ) → length (synced_part synced from n) ≡ n
unfolding synced_part
length-synced_part synced from n =
    omega (arith, length-take n (drop from (synced ++ replicate {A = ℕ} (from + n) 0)), length-drop from (synced ++ replicate {A = ℕ} (from + n) 0), length-append synced (replicate {A = ℕ} (from + n) 0), length-replicate {A = ℕ} (from + n) 0)

past_end_by : (xs : List ℕ) (n p : ℕ) → (p < length xs) ⊎ (length xs ≤ p) → get_or {A = ℕ} (xs ++ replicate n 0) p 0 ≡ get_or xs p 0
past_end_by xs n p (inl below) = get_or_append_left {A = ℕ} xs (replicate n 0) 0 p below
past_end_by xs n p (inr past) = get_or-append_right {X = ℕ} xs (replicate n 0) (length xs) p 0 refl past ∙ zeros n (p - length xs) ∙ sym (get_or_past {X = ℕ} xs p 0 past) where
  zeros : (n i : ℕ) → get_or {A = ℕ} (replicate n 0) i 0 ≡ 0
  zeros zero i = refl
  zeros (suc n) zero = refl
  zeros (suc n) (suc i) = zeros n i

get_or-synced_part : (synced : List ℕ) (from n k : ℕ) → k < n → get_or (synced_part synced from n) k 0 ≡ get_or synced (from + k) 0
unfolding synced_part
get_or-synced_part synced from n k lt =
    get_or-take n (drop from (synced ++ replicate {A = ℕ} (from + n) 0)) k 0 lt ∙ get_or-drop from (synced ++ replicate {A = ℕ} (from + n) 0) k 0 ∙ past_end_by synced (from + n) (from + k) (cases_lt (from + k) (length synced))

-- a cut
cut_long : (disk : MemDiskState) (size : ℕ) (c : List ℕ) → disk.least ≤ disk.most → size ≤ length c → length c < disk.least
    → ((place : ℕ) → place < length c → mark_at disk.marks place ≡ Untouched → get_or c place 0 ≡ get_or disk.synced place 0)
    → (d : List ℕ) × MemImage disk d × Cut size d c
cut_long disk size c bounds long short untouched =
    let rest = synced_part disk.synced (length c) (disk.least - length c) in
    let rest_long = length-synced_part disk.synced (length c) (disk.least - length c) in
    let all : length (c ++ rest) ≡ disk.least = omega (arith, length-append c rest) in (
      c ++ rest,
      inr (record {
        least = omega (arith, all);
        most = omega (arith, all, bounds);
        untouched = λ place lt is. by_place place (omega arith) is (cases_lt place (length c));
      }),
      record { no_shorter = omega arith; front = sym (take_at c rest (length c) refl) },
    ) where
      by_place : (place : ℕ) → place < disk.least → mark_at disk.marks place ≡ Untouched → (place < length c) ⊎ (length c ≤ place)
          → get_or (c ++ synced_part disk.synced (length c) (disk.least - length c)) place 0 ≡ get_or disk.synced place 0
      by_place place lt is (inl below) = get_or_append_left c (synced_part disk.synced (length c) (disk.least - length c)) 0 place below ∙ untouched place below is
      by_place place lt is (inr above) =
          get_or-append_right c (synced_part disk.synced (length c) (disk.least - length c)) (length c) place 0 refl above
          ∙ get_or-synced_part disk.synced (length c) (disk.least - length c) (place - length c) (omega arith) ∙ ap (λ n. get_or disk.synced n 0) (omega arith)

pub cut_follows : (disk : MemDiskState) (size : ℕ) (seen' : List ℕ) (least' : ℕ) (calls : Calls) → disk.least ≤ disk.most → seen' ≡ take size disk.seen → least' ≡ min size disk.least
    → Follows (Cut size) (MemImage disk) (MemImage (record { seen = seen'; synced = disk.synced; marks = disk.marks; least = least'; most = disk.most; room = disk.room; calls = calls }))
cut_follows disk size seen' least' calls bounds e low c (inl now) =
    let long : length c ≡ min size (length disk.seen) = ap length now ∙ ap length e ∙ length-take size disk.seen in
    (disk.seen, inl refl, record { no_shorter = omega arith; front = now ∙ e ∙ sym (take_min size disk.seen) ∙ ap (λ n. take n disk.seen) (sym long) })
cut_follows disk size seen' least' calls bounds e low c (inr h) = elim (cases_lt (length c) disk.least) [
  | inl short ↦ cut_long disk size c bounds (omega (arith, h.least, short, low)) short h.untouched
  | inr long ↦ (c, inr (record { least = long; most = h.most; untouched = h.untouched }), Cut-refl size c)
]

-- all is synced
pub all_untouched : (n p : ℕ) → mark_at (replicate n Untouched) p ≡ Untouched
all_untouched zero p = refl
all_untouched (suc n) zero = refl
all_untouched (suc n) (suc p) = all_untouched n p

pub settled_only : (file : List ℕ) (room : ℕ) (calls : Calls) → Only file (MemImage (settled file room calls))
settled_only file room calls c (inl now) = now
settled_only file room calls c (inr h) =
    let long : length c ≡ length file = omega (arith, h.least, h.most) in
    ext_get_or 0 c file long (λ i lt. h.untouched i lt (all_untouched room i))

-- a write: what it makes of the file as it reads
written_is : (file bytes : List ℕ) (place : ℕ) → written place bytes file ≡ over (first_changed place file) file (put_in place (length file) bytes)
written_is file bytes place = rw (← take_min place file) (put_is file bytes place (length file))

pub written_tears : (file bytes : List ℕ) (place : ℕ) → Torn (first_changed place file) (place + length bytes) file (written place bytes file)
written_tears file bytes place =
    let first = first_changed place file in
    let body = put_in place (length file) bytes in
    let ends = length-put_in place (length file) bytes in
    let is = written_is file bytes place in
    let low : min first (length file) ≡ first = omega arith in
    record {
      before = rw (is, low) (take-over first first file body (omega arith) (omega arith));
      after = rw is (drop-over first (place + length bytes) file body (omega arith) (omega arith));
      no_shorter = rw is (omega (arith, length-append (take first file) (body ++ drop (first + length body) file), length-append body (drop (first + length body) file), length-take first file, length-drop (first + length body) file));
    }

length-written : (file bytes : List ℕ) (place : ℕ) → length (written place bytes file) ≡ max (length file) (place + length bytes)
length-written file bytes place =
    let first = first_changed place file in
    let body = put_in place (length file) bytes in
    ap length (written_is file bytes place) ∙ omega (arith, length-put_in place (length file) bytes, length-append (take first file) (body ++ drop (first + length body) file), length-append body (drop (first + length body) file), length-take first file, length-drop (first + length body) file)

-- outside what a write reached, the marks are as they were
marks_out : (marks : List Mark) (place count size p : ℕ) → min place size ≤ length marks → (p < min place size) ⊎ (place + count ≤ p)
    → mark_at marks p ≡ Untouched → mark_at (marked place count size marks) p ≡ Untouched
marks_out marks place count size p short out is =
    ap (λ ms. mark_at ms p) (marked_is marks place count size) ∙ get_or-over_out (min place size) p marks (marks_in place size count) Untouched short (elim out [ inl below ↦ inl below | inr above ↦ inr (omega (arith, length-marks_in place size count)) ]) ∙ is

-- an image before it, from one after it that reaches where it began: the synced bytes where it wrote
back_by : (marks marks' : List Mark) (synced c mid : List ℕ) (first end n p : ℕ) → first + length mid ≡ end → first ≤ length c → n ≤ length c → p < n
    → ((k : ℕ) → k < length mid → get_or mid k 0 ≡ get_or synced (first + k) 0)
    → ((p < first) ⊎ (end ≤ p) → mark_at marks p ≡ Untouched → get_or c p 0 ≡ get_or synced p 0)
    → mark_at marks p ≡ Untouched → (p < first) ⊎ (first ≤ p) → (p < end) ⊎ (end ≤ p)
    → get_or (take n (over first c mid)) p 0 ≡ get_or synced p 0
back_by marks marks' synced c mid first end n p ends reach le lt inside outside is (inl below) high =
    get_or-take n (over first c mid) p 0 lt ∙ get_or-over_out first p c mid 0 reach (inl below) ∙ outside (inl below) is
back_by marks marks' synced c mid first end n p ends reach le lt inside outside is (inr above) (inl under) =
    let k : p - first < length mid = omega arith in
    let sum : first + (p - first) ≡ p = omega arith in
    get_or-take n (over first c mid) p 0 lt ∙ ap (λ m. get_or (over first c mid) m 0) (sym sum) ∙ get_or-over_in first (p - first) c mid 0 reach k ∙ inside (p - first) k ∙ ap (λ m. get_or synced m 0) sum
back_by marks marks' synced c mid first end n p ends reach le lt inside outside is (inr above) (inr past) =
    let past' : first + length mid ≤ p = omega arith in
    get_or-take n (over first c mid) p 0 lt ∙ get_or-over_out first p c mid 0 reach (inr past') ∙ outside (inr past) is

back_tears_by : (c mid : List ℕ) (first end n : ℕ) → first + length mid ≡ end → first ≤ length c → n ≤ length c → length c ≤ max n end → (n < end) ⊎ (end ≤ n)
    → length (over first c mid) ≡ max end (length c) → drop end c ≡ drop end (take n (over first c mid))
back_tears_by c mid first end n ends reach le most (inl under) long =
    drop_all end c (omega arith) ∙ sym (drop_all end (take n (over first c mid)) (omega (arith, length-take n (over first c mid))))
back_tears_by c mid first end n ends reach le most (inr past) long =
    sym (ap (drop end) (take_all n (over first c mid) (omega arith)) ∙ drop-over first end c mid (omega arith) reach)

write_back : (disk : MemDiskState) (place : ℕ) (bytes c : List ℕ) (n : ℕ) → length disk.seen ≤ length disk.marks → first_changed place disk.seen ≤ length c
    → n ≤ length c → length c ≤ max n (place + length bytes) → disk.least ≤ n → n ≤ disk.most
    → ((p : ℕ) → p < length c → mark_at (marked place (length bytes) (length disk.seen) disk.marks) p ≡ Untouched → get_or c p 0 ≡ get_or disk.synced p 0)
    → (d : List ℕ) × MemImage disk d × Torn (first_changed place disk.seen) (place + length bytes) d c
write_back disk place bytes c n room reach le most low high untouched =
    let first = first_changed place disk.seen in
    let end = place + length bytes in
    let mid = synced_part disk.synced first (end - first) in
    let mid_long : length mid ≡ end - first = length-synced_part disk.synced first (end - first) in
    let ends : first + length mid ≡ end = omega arith in
    let long : length (over first c mid) ≡ max end (length c) =
    omega (arith, length-append (take first c) (mid ++ drop (first + length mid) c), length-append mid (drop (first + length mid) c), length-take first c, length-drop (first + length mid) c) in
    let all : length (take n (over first c mid)) ≡ n = omega (arith, length-take n (over first c mid)) in (
      take n (over first c mid),
      inr (record {
        least = omega (arith, all, low);
        most = omega (arith, all, high);
        untouched = λ p lt is.
            let below : p < n = omega arith in
            back_by disk.marks disk.marks disk.synced c mid first end n p ends reach le below
            (λ k k_lt. get_or-synced_part disk.synced first (end - first) k (omega arith))
            (λ out old. untouched p (omega arith) (marks_out disk.marks place (length bytes) (length disk.seen) p (omega arith) out old))
            is (cases_lt p first) (cases_lt p end);
      }),
      record {
        before = rw all (sym (take_both first n (over first c mid) ∙ take-over first (min first n) c mid (omega arith) reach));
        after = back_tears_by c mid first end n ends reach le most (cases_lt n end) long;
        no_shorter = omega arith;
      },
    )

pub write_follows : (disk : MemDiskState) (place : ℕ) (bytes : List ℕ) (calls : Calls) → length disk.seen ≤ length disk.marks → disk.least ≤ disk.most → length disk.seen ≤ disk.most
    → Follows (Torn (first_changed place disk.seen) (place + length bytes)) (MemImage disk) (MemImage (after_write place bytes disk calls))
write_follows disk place bytes calls room bounds high c (inl now) = (disk.seen, inl refl, rw now (written_tears disk.seen bytes place))
write_follows disk place bytes calls room bounds high c (inr h) = elim (cases_lt (length c) (first_changed place disk.seen)) [
  | inl short ↦ (
    c,
    inr (record {
      least = h.least;
      most = omega (arith, short, high);
      untouched = λ p lt is. h.untouched p lt (marks_out disk.marks place (length bytes) (length disk.seen) p (omega arith) (inl (omega arith)) is);
    }),
    Torn-refl (first_changed place disk.seen) (place + length bytes) c,
  )
  | inr reach ↦ write_back disk place bytes c (min disk.most (length c)) room reach (omega arith) (omega (arith, h.most)) (omega (arith, bounds, h.least)) (omega arith) h.untouched
]
