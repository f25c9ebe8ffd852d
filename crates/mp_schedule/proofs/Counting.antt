-- How the counts of tries change where one try stands otherwise, and where marks are forgotten.
use Rattle.std.proofs.Common.{◌≡◌, ℕ, zero, suc, ◌+◌, ◌<◌, ◌≤◌, Bool, true, false, cond, List, [], ◌∷◌, ◌++◌, map, filter, length, count_by, Option, None, Some, slice_get, slice_set, refl, sym, ap, ap₂, subst, ◌∙◌, arith}
use Rattle.std.specs.List.{AllByRecursion}
use Rattle.std.proofs.lemmas.List.Sums.{sum_by-cons, sum_by-set}
use Rattle.std.proofs.lemmas.Option.{get_or_from_slice_get, slice_get_within}
use Rattle.mp_script.specs.declared.statements.Line.{Line}
use Rattle.mp_script.specs.declared.statements.SessionOn.{SessionOn}
use Rattle.mp_script.specs.Entries.{is_declared}
use Rattle.mp_script.specs.InTheirPart.{count_from}
use Rattle.mp_schedule.specs.declared.schedule.Try.{Try}
use Rattle.mp_schedule.specs.declared.schedule.TryState.{TryState}
use Rattle.mp_schedule.specs.declared.schedule.TryState.TheVariants.{Free, Waiting, Over}
use Rattle.mp_schedule.specs.Schedules.{free_try, first_tries, tries_on, sessions_of_primary, is_left, is_free, HasSessions, without_mark, without_marks, StandsSo, count_left, count_free}

is_no_item : (x : Try) → ◌≡◌ {A = Option Try} None (Some x) → ⊥
is_no_item x e = absurd cc

same_item : (x y : Try) → ◌≡◌ {A = Option Try} (Some x) (Some y) → x ≡ y
same_item x y e = cc

-- one item is another: the count loses the old one's and gains the new one's
count_set : (p : Try → Bool) (tries : List Try) (place : ℕ) (t u : Try) → slice_get tries place ≡ Some t → count_by p (slice_set tries place u) + cond (p t) 1 0 ≡ count_by p tries + cond (p u) 1 0
count_set p tries place t u is =
    subst (λ (x : Try). count_by p (slice_set tries place u) + cond (p x) 1 0 ≡ count_by p tries + cond (p u) 1 0) (get_or_from_slice_get tries place t t is)
    (sum_by-set (λ x. cond (p x) 1 0) tries place u t (slice_get_within tries place t is))

number_of : (b : Bool) → b ≡ true → ◌≡◌ {A = ℕ} (cond b 1 0) 1
number_of b is = ap (λ (x : Bool). cond x 1 0) is

pub left_over : (old new : List Try) (place : ℕ) (t : Try) → slice_get old place ≡ Some t → is_left t.state ≡ true → StandsSo old place Over new → count_left old ≡ suc (count_left new)
left_over old new place t at left stands =
    let sum = count_set (λ x. is_left x.state) old place t (record t { state = Over }) at in
    let one = number_of (is_left t.state) left in
    let count : count_left new ≡ count_left (slice_set old place (record t { state = Over })) = ap count_left (stands t at) in
    omega (arith, sum, one, count)

pub left_waiting : (old new : List Try) (place : ℕ) (t : Try) → slice_get old place ≡ Some t → is_left t.state ≡ true → StandsSo old place Waiting new → count_left new ≡ count_left old
left_waiting old new place t at left stands =
    let sum = count_set (λ x. is_left x.state) old place t (record t { state = Waiting }) at in
    let one = number_of (is_left t.state) left in
    let count : count_left new ≡ count_left (slice_set old place (record t { state = Waiting })) = ap count_left (stands t at) in
    omega (arith, sum, one, count)

pub free_waiting : (old new : List Try) (place : ℕ) (t : Try) → slice_get old place ≡ Some t → is_free t.state ≡ true → StandsSo old place Waiting new → count_free old ≡ suc (count_free new)
free_waiting old new place t at free stands =
    let sum = count_set (λ x. is_free x.state) old place t (record t { state = Waiting }) at in
    let one = number_of (is_free t.state) free in
    let count : count_free new ≡ count_free (slice_set old place (record t { state = Waiting })) = ap count_free (stands t at) in
    omega (arith, sum, one, count)

left_unmarked : (s : TryState) (session : ℕ) → is_left (without_mark (record { session = session; state = s })).state ≡ is_left s
left_unmarked Free session = refl
left_unmarked Waiting session = refl
left_unmarked Over session = refl

pub left_forgotten : (tries : List Try) → count_left (without_marks tries) ≡ count_left tries
left_forgotten [] = refl
left_forgotten (x ∷ tries) =
    sum_by-cons (λ t. cond (is_left t.state) 1 0) (without_mark x) (without_marks tries)
    ∙ ap₂ (λ b n. cond b 1 0 + n) (left_unmarked x.state x.session) (left_forgotten tries)
    ∙ sym (sum_by-cons (λ t. cond (is_left t.state) 1 0) x tries)

-- ---- sessions stay

sessions_set : (tries : List Try) (place : ℕ) (t : Try) (state : TryState) → slice_get tries place ≡ Some t → HasSessions tries → HasSessions (slice_set tries place (record t { state = state }))
sessions_set [] place t state is all = absurd (is_no_item t is)
sessions_set (x ∷ tries) zero t state is all = (subst (λ (y : Try). y.session ≤ 64) (same_item x t is) all.0, all.1)
sessions_set (x ∷ tries) (suc place) t state is all = (all.0, sessions_set tries place t state is all.1)

item_within : (tries : List Try) (place : ℕ) → place < length tries → (t : Try) × (slice_get tries place ≡ Some t)
item_within [] place less = absurd (omega (arith, less))
item_within (x ∷ tries) zero less = (x, refl)
item_within (x ∷ tries) (suc place) less = item_within tries place (omega (arith, less))

pub sessions_stand : (old new : List Try) (place : ℕ) (state : TryState) → place < length old → StandsSo old place state new → HasSessions old → HasSessions new
sessions_stand old new place state less stands all =
    let item = item_within old place less in
    subst HasSessions (sym (stands item.0 item.1)) (sessions_set old place item.0 state item.1 all)

pub sessions_forgotten : (tries : List Try) → HasSessions tries → HasSessions (without_marks tries)
sessions_forgotten [] all = tt
sessions_forgotten (x ∷ tries) all = (all.0, sessions_forgotten tries all.1)

-- ---- the sessions of a script's tries

sessions_append : (xs ys : List Try) → HasSessions xs → HasSessions ys → HasSessions (xs ++ ys)
sessions_append [] ys all more = more
sessions_append (x ∷ xs) ys all more = (all.0, sessions_append xs ys all.1 more)

sessions_lines : (lines : List Line) → AllByRecursion (λ line. line.session ≤ 64) lines → HasSessions (map (λ line. free_try line.session) lines)
sessions_lines [] all = tt
sessions_lines (line ∷ lines) all = (all.0, sessions_lines lines all.1)

sessions_ends : (p : ℕ → Bool) (first count : ℕ) → first + count ≤ 65 → HasSessions (map free_try (filter p (count_from first count)))
sessions_ends p first zero fits = tt
sessions_ends p first (suc count) fits = go (p first) (sessions_ends p (first + 1) count (omega (arith, fits)))
  where
    go : (b : Bool) → HasSessions (map free_try (filter p (count_from (first + 1) count))) → HasSessions (map free_try (cond b (first ∷ filter p (count_from (first + 1) count)) (filter p (count_from (first + 1) count))))
    go true rest = (omega (arith, fits), rest)
    go false rest = rest

pub sessions_first : (lines : List Line) (sessions : List SessionOn) → AllByRecursion (λ line. line.session ≤ 64) lines → HasSessions (first_tries lines sessions)
sessions_first lines sessions all =
    sessions_append (map (λ line. free_try line.session) lines) (map free_try (filter (is_declared sessions) (count_from 1 64)))
    (sessions_lines lines all) (sessions_ends (is_declared sessions) 1 64 (omega arith))

lines_kept : (p : Line → Bool) (lines : List Line) → AllByRecursion (λ line. line.session ≤ 64) lines → AllByRecursion (λ line. line.session ≤ 64) (filter p lines)
lines_kept p [] all = tt
lines_kept p (line ∷ lines) all = go (p line) (lines_kept p lines all.1)
  where
    go : (b : Bool) → AllByRecursion (λ line. line.session ≤ 64) (filter p lines) → AllByRecursion (λ line. line.session ≤ 64) (cond b (line ∷ filter p lines) (filter p lines))
    go true rest = (all.0, rest)
    go false rest = rest

pub sessions_on_primary : (primary : ℕ) (lines : List Line) (sessions : List SessionOn) → AllByRecursion (λ line. line.session ≤ 64) lines → HasSessions (tries_on primary lines sessions)
sessions_on_primary primary lines sessions all =
    sessions_first (filter (λ line. is_declared (sessions_of_primary primary sessions) line.session) lines) (sessions_of_primary primary sessions)
    (lines_kept (λ line. is_declared (sessions_of_primary primary sessions) line.session) lines all)
