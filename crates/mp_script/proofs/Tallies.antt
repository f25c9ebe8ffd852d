-- The reader's tallies and sessions follow what is said.
use Rattle.std.proofs.Common.{arith, ◌≡◌, ◌≢◌, ◌==◌, ◌+◌, ◌<◌, ◌≤◌, ◌||◌, ◌++◌, ℕ, nat_eq, nat_le, List, [], ◌∷◌, length, Bool, true, false, refl, sym, ap, ◌∙◌, Option, Some, None, is_some, cond, if◌then◌else◌, add-zero, zero-add, slice_index_or, slice_set, replicate, nat_lt, slice_get, take}
use Rattle.std.specs.List.{list_all}
use Rattle.std.specs.Map.{lookup}
use Rattle.std.proofs.lemmas.Bool.{eqb-true, ltb-true}
use Rattle.std.proofs.lemmas.Bool.Decides.{nat_tests}
use Rattle.std.proofs.lemmas.List.{map-append, get_or-set_other, get_or-replicate, get_or_past, length-replicate, take_more, take_all}
use Rattle.std.proofs.lemmas.Option.{slice_get_within, get_or_from_slice_get}
use Rattle.std.proofs.lemmas.Grind.{get_or-set_at}
use Rattle.std.proofs.lemmas.List.Sums.{sum_by-append, count_by-le-length}
use Rattle.std.proofs.lemmas.List.Folds.{list_all-append}
use Rattle.mp_script.specs.declared.statements.Line.{Line}
use Rattle.mp_script.specs.declared.statements.SessionOn.{SessionOn}
use Rattle.mp_script.specs.declared.drafts.Tally.{Tally}
use Rattle.mp_script.specs.Entries.{Said, is_declared, statements, open_after, open_behind, has_open_trx}
use Rattle.mp_script.specs.Drafts.{sessions_of, no_tally, tally_of}
use Rattle.mp_script.proofs.Splitting.{and-parts, both}

-- a look-up in the map finds the declared sessions
pub is_some-lookup : (entries : List (ℕ × ℕ)) (session : ℕ) → is_some (lookup (nat_eq session) entries) ≡ is_declared (sessions_of entries) session
is_some-lookup [] session = refl
is_some-lookup (e ∷ entries) session = by_test (session == e.0) (is_some-lookup entries session)
  where
    by_test : (b : Bool) → is_some (lookup (nat_eq session) entries) ≡ is_declared (sessions_of entries) session → is_some (cond b (Some e.1) (lookup (nat_eq session) entries)) ≡ (b || is_declared (sessions_of entries) session)
    by_test true h = refl
    by_test false h = h

none-from_false : {X : Type 0} (o : Option X) → is_some o ≡ false → o ≡ None
none-from_false None h = refl
none-from_false (Some x) h = cc

pub lookup-None : (entries : List (ℕ × ℕ)) (session : ℕ) → is_declared (sessions_of entries) session ≡ false → lookup (nat_eq session) entries ≡ None
lookup-None entries session h = none-from_false _ (is_some-lookup entries session ∙ h)

-- no session above 64 is declared
pub not_declared : (entries : List (ℕ × ℕ)) (session : ℕ) → list_all (λ e. nat_le e.0 64) entries ≡ true → 64 < session → is_declared (sessions_of entries) session ≡ false
not_declared [] session h l = refl
not_declared (e ∷ entries) session h l =
    let parts : (nat_le e.0 64 ≡ true) × (list_all (λ e. nat_le e.0 64) entries ≡ true) = and-parts h in
    neither (differs e.0 session parts.0 l) (not_declared entries session parts.1 l)
  where
    differs : (a b : ℕ) → nat_le a 64 ≡ true → 64 < b → (b == a) ≡ false
    differs a b h l = grind (arith, nat_tests)

    neither : {p q : Bool} → p ≡ false → q ≡ false → (p || q) ≡ false
    neither e f = cc

pub declared-within : (entries : List (ℕ × ℕ)) (session : ℕ) → list_all (λ e. nat_le e.0 64) entries ≡ true → is_declared (sessions_of entries) session ≡ true → session ≤ 64
declared-within entries session h d = by_test (nat_le session 64) refl
  where
    above : nat_le session 64 ≡ false → 64 < session
    above e = grind (arith, nat_tests)

    within : nat_le session 64 ≡ true → session ≤ 64
    within e = grind (arith, nat_tests)

    by_test : (b : Bool) → nat_le session 64 ≡ b → session ≤ 64
    by_test true e = within e
    by_test false e = let n : is_declared (sessions_of entries) session ≡ false = not_declared entries session h (above e) in cc

-- one more statement
pub statements-push : (lines : List Line) (line : Line) (session : ℕ) → statements (lines ++ line ∷ []) session ≡ statements lines session + cond (line.session == session) 1 0
statements-push lines line session = sum_by-append _ lines (line ∷ []) ∙ ap (λ n. statements lines session + n) (zero-add (cond (line.session == session) 1 0))

pub open_behind-push : (open_now : Bool) (lines : List Line) (line : Line) (session : ℕ) → open_behind open_now (lines ++ line ∷ []) session ≡ (if line.session == session then open_after line.stmt else open_behind open_now lines session)
open_behind-push open_now [] line session = refl
open_behind-push open_now (x ∷ lines) line session = open_behind-push (if x.session == session then open_after x.stmt else open_now) lines line session

pub statements-le : (lines : List Line) (session : ℕ) → statements lines session ≤ length lines
statements-le lines session = count_by-le-length _ lines

same_session : (n : ℕ) → (n == n) ≡ true
same_session n = grind (arith, nat_tests)

other_session : (n m : ℕ) → n ≢ m → (n == m) ≡ false
other_session n m h = grind (arith, nat_tests)

abbrev pub tally : ℕ → Bool → Tally
tally statements has_open_trx = record { statements = statements; has_open_trx = has_open_trx }

by_session : (lines : List Line) (line : Line) (session : ℕ) (b : Bool) → (line.session == session) ≡ b → tally_of (lines ++ line ∷ []) session ≡ tally (statements lines session + cond b 1 0) (if b then open_after line.stmt else has_open_trx lines session)
by_session lines line session b e =
    ap (λ n. tally n (has_open_trx (lines ++ line ∷ []) session)) (statements-push lines line session ∙ ap (λ t. statements lines session + cond t 1 0) e)
    ∙ ap (λ o. tally (statements lines session + cond b 1 0) o) (open_behind-push false lines line session ∙ ap (λ t. if t then open_after line.stmt else has_open_trx lines session) e)

-- the tallies below one more statement
pub tallies-push : (tallies : List Tally) (lines : List Line) (line : Line) (now : Bool) → length tallies ≡ 65 → ((session : ℕ) → session ≤ 64 → slice_index_or tallies session no_tally ≡ tally_of lines session) → line.session ≤ 64 → line.index ≡ statements lines line.session + 1 → now ≡ open_after line.stmt → (session : ℕ) → session ≤ 64 → slice_index_or (slice_set tallies line.session (tally line.index now)) session no_tally ≡ tally_of (lines ++ line ∷ []) session
tallies-push tallies lines line now whole h within index is session small = by_test (line.session == session) refl
  where
    differs : (a b : ℕ) → (a == b) ≡ false → b ≢ a
    differs a b e = grind (arith, nat_tests)

    by_test : (b : Bool) → (line.session == session) ≡ b → slice_index_or (slice_set tallies line.session (tally line.index now)) session no_tally ≡ tally_of (lines ++ line ∷ []) session
    by_test true e =
        let same : line.session ≡ session = eqb-true _ _ e in
        get_or-set_at tallies line.session session (tally line.index now) no_tally (sym same) (omega (arith, whole, within))
        ∙ ap (λ n. tally n now) (index ∙ ap (λ s. statements lines s + 1) same)
        ∙ ap (tally (statements lines session + 1)) is
        ∙ sym (by_session lines line session true e)
    by_test false e =
        let other : session ≢ line.session = differs line.session session e in
        get_or-set_other tallies line.session session (tally line.index now) no_tally other
        ∙ h session small
        ∙ ap (λ n. tally n (has_open_trx lines session)) (sym (add-zero (statements lines session)))
        ∙ sym (by_session lines line session false e)

-- one more session
pub within-push : (entries : List (ℕ × ℕ)) (session primary : ℕ) → list_all (λ e. nat_le e.0 64) entries ≡ true → session ≤ 64 → list_all (λ e. nat_le e.0 64) (entries ++ (session, primary) ∷ []) ≡ true
within-push entries session primary h l = list_all-append (λ e. nat_le e.0 64) entries ((session, primary) ∷ []) ∙ both h (both (small session l) refl)
  where
    small : (n : ℕ) → n ≤ 64 → nat_le n 64 ≡ true
    small n l = grind (arith, nat_tests)

pub sessions_of-push : (entries : List (ℕ × ℕ)) (s : SessionOn) → sessions_of (entries ++ (s.session, s.primary) ∷ []) ≡ sessions_of entries ++ s ∷ []
sessions_of-push entries s = map-append _ entries ((s.session, s.primary) ∷ [])

abbrev pub said : ℕ → List SessionOn → List Line → Said
said primaries sessions lines = record { primaries = primaries; sessions = sessions; lines = lines }

-- an array of no tallies
pub all-none : (n session : ℕ) → slice_index_or (replicate n no_tally) session no_tally ≡ no_tally
all-none n session = by_test (nat_lt session n) refl
  where
    above : nat_lt session n ≡ false → n ≤ session
    above e = grind (arith, nat_tests)

    by_test : (b : Bool) → nat_lt session n ≡ b → slice_index_or (replicate n no_tally) session no_tally ≡ no_tally
    by_test true e = get_or-replicate n session no_tally no_tally (ltb-true _ _ e)
    by_test false e = get_or_past (replicate n no_tally) session no_tally (omega (arith, above e, length-replicate n no_tally))

-- the sessions of one more entry
pub sessions_of-take : (entries : List (ℕ × ℕ)) (i session primary : ℕ) → slice_get entries i ≡ Some (session, primary) → sessions_of (take (i + 1) entries) ≡ sessions_of (take i entries) ++ record { session = session; primary = primary } ∷ []
sessions_of-take entries i session primary h =
    ap sessions_of (take_more entries i (session, primary) (slice_get_within entries i (session, primary) h) ∙ ap (λ x. take i entries ++ x ∷ []) (get_or_from_slice_get entries i (session, primary) (session, primary) h))
    ∙ map-append _ (take i entries) ((session, primary) ∷ [])

pub sessions_of-all : (entries : List (ℕ × ℕ)) (i : ℕ) → length entries ≤ i → sessions_of (take i entries) ≡ sessions_of entries
sessions_of-all entries i h = ap sessions_of (take_all i entries h)
