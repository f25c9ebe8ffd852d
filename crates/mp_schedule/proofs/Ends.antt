-- The ends of declared sessions are pushed one by one, in ascending number, behind the statements.
use Rattle.std.proofs.Common.{◌≡◌, ℕ, zero, suc, ◌+◌, ◌-◌, ◌<◌, Bool, true, false, cond, List, [], ◌∷◌, ◌++◌, map, filter, sym, ap, ap₂, subst, ◌∙◌, arith, append-nil, append_assoc, refl}
use Rattle.std.specs.List.{AllByRecursion}
use Rattle.std.proofs.lemmas.Option.{none-some, same_Some}
use Rattle.mp_script.specs.declared.statements.Line.{Line}
use Rattle.mp_script.specs.declared.statements.SessionOn.{SessionOn}
use Rattle.mp_script.specs.Entries.{is_declared}
use Rattle.mp_script.specs.InTheirPart.{count_from}
use Rattle.mp_schedule.specs.declared.schedule.Try.{Try}
use Rattle.mp_schedule.specs.declared.schedule.TryState.TheVariants.{Free}
use Rattle.mp_schedule.specs.Schedules.{free_try, first_tries, tries_on, sessions_of_primary, is_left, is_free, NoneWaitsFrom}

-- the ends of the sessions from a number on
abbrev pub ends_from : (ℕ → Bool) → ℕ → List Try
ends_from p first = map free_try (filter p (count_from first (65 - first)))

ends_next : (p : ℕ → Bool) (s : ℕ) → s < 65 → ends_from p s ≡ map free_try (cond (p s) (s ∷ filter p (count_from (s + 1) (65 - (s + 1)))) (filter p (count_from (s + 1) (65 - (s + 1)))))
ends_next p s less =
    let more : 65 - s ≡ suc (65 - (s + 1)) = omega (arith, less) in
    ap (λ k. map free_try (filter p (count_from s k))) more

pub ends_pushed : (p : ℕ → Bool) (s : ℕ) (items new all : List Try) → s < 65 → p s ≡ true → new ≡ items ++ free_try s ∷ [] → items ++ ends_from p s ≡ all → new ++ ends_from p (s + 1) ≡ all
ends_pushed p s items new all less is pushed rest =
    ap (λ (l : List Try). l ++ ends_from p (s + 1)) pushed
    ∙ append_assoc items (free_try s ∷ []) (ends_from p (s + 1))
    ∙ ap (λ (b : Bool). items ++ map free_try (cond b (s ∷ filter p (count_from (s + 1) (65 - (s + 1)))) (filter p (count_from (s + 1) (65 - (s + 1)))))) (sym is)
    ∙ ap (λ (l : List Try). items ++ l) (sym (ends_next p s less)) ∙ rest

pub ends_passed : (p : ℕ → Bool) (s : ℕ) (items new all : List Try) → s < 65 → p s ≡ false → new ≡ items → items ++ ends_from p s ≡ all → new ++ ends_from p (s + 1) ≡ all
ends_passed p s items new all less is same rest =
    ap (λ (l : List Try). l ++ ends_from p (s + 1)) same
    ∙ ap (λ (b : Bool). items ++ map free_try (cond b (s ∷ filter p (count_from (s + 1) (65 - (s + 1)))) (filter p (count_from (s + 1) (65 - (s + 1)))))) (sym is)
    ∙ ap (λ (l : List Try). items ++ l) (sym (ends_next p s less)) ∙ rest

pub ends_all : (p : ℕ → Bool) (s : ℕ) (items all : List Try) → s ≡ 65 → items ++ ends_from p s ≡ all → items ≡ all
ends_all p s items all is rest =
    let none : 65 - s ≡ 0 = omega (arith, is) in
    sym (append-nil items) ∙ ap (λ k. items ++ map free_try (filter p (count_from s k))) (sym none) ∙ rest

-- first the statements, and then the ends
pub both_pushed : (lines script_lines : List Line) (sessions script_sessions : List SessionOn) (none some all : List Try) → none ≡ [] → lines ≡ script_lines → sessions ≡ script_sessions
    → some ≡ none ++ map (λ line. free_try line.session) lines → all ≡ some ++ map free_try (filter (is_declared sessions) (count_from 1 64)) → all ≡ first_tries script_lines script_sessions
both_pushed lines script_lines sessions script_sessions none some all empty lines_are sessions_are statements ends =
    ends
    ∙ ap₂ (λ (l : List Try) (on : List SessionOn). l ++ map free_try (filter (is_declared on) (count_from 1 64)))
    (statements ∙ ap₂ (λ (l : List Try) (of : List Line). l ++ map (λ line. free_try line.session) of) empty lines_are) sessions_are

-- the same for the sessions of one primary
pub primary_pushed : (primary : ℕ) (lines script_lines : List Line) (own own_too script_sessions : List SessionOn) (none some all : List Try) → none ≡ [] → lines ≡ script_lines
    → own ≡ sessions_of_primary primary script_sessions → own_too ≡ sessions_of_primary primary script_sessions
    → some ≡ none ++ map (λ line. free_try line.session) (filter (λ line. is_declared own line.session) lines)
    → all ≡ some ++ map free_try (filter (is_declared own_too) (count_from 1 64)) → all ≡ tries_on primary script_lines script_sessions
primary_pushed primary lines script_lines own own_too script_sessions none some all empty lines_are own_is too_is statements ends =
    both_pushed (filter (λ line. is_declared own line.session) lines) (filter (λ line. is_declared (sessions_of_primary primary script_sessions) line.session) script_lines)
    own_too (sessions_of_primary primary script_sessions) none some all empty
    (ap₂ (λ (on : List SessionOn) (l : List Line). filter (λ line. is_declared on line.session) l) own_is lines_are) too_is statements ends

-- ---- none of them waits

abbrev AreFree : List Try → Type 0
AreFree tries = AllByRecursion (λ t. t.state ≡ Free) tries

none_waits : (tries : List Try) → AreFree tries → NoneWaitsFrom 0 tries
none_waits [] all k t behind at = absurd (none-some t at)
none_waits (x ∷ tries) all zero t behind at = subst (λ (y : Try). is_left y.state ≡ is_free y.state) (same_Some x t at) (ap is_left all.0 ∙ sym (ap is_free all.0))
none_waits (x ∷ tries) all (suc k) t behind at = none_waits tries all.1 k t (omega arith) at

free_lines : (lines : List Line) → AreFree (map (λ line. free_try line.session) lines)
free_lines [] = tt
free_lines (line ∷ lines) = (refl, free_lines lines)

free_ends : (sessions : List ℕ) → AreFree (map free_try sessions)
free_ends [] = tt
free_ends (session ∷ sessions) = (refl, free_ends sessions)

free_append : (xs ys : List Try) → AreFree xs → AreFree ys → AreFree (xs ++ ys)
free_append [] ys all more = more
free_append (x ∷ xs) ys all more = (all.0, free_append xs ys all.1 more)

pub first_unmarked : (lines : List Line) (sessions : List SessionOn) (tries : List Try) → tries ≡ first_tries lines sessions → NoneWaitsFrom 0 tries
first_unmarked lines sessions tries are =
    subst (NoneWaitsFrom 0) (sym are) (none_waits (first_tries lines sessions)
    (free_append (map (λ line. free_try line.session) lines) (map free_try (filter (is_declared sessions) (count_from 1 64)))
    (free_lines lines) (free_ends (filter (is_declared sessions) (count_from 1 64)))))
