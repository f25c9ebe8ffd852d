-- Each try of a spelled script is of a session that is declared on one of its primaries.
use Rattle.std.proofs.Common.{◌≡◌, ℕ, ◌==◌, ◌&&◌, Bool, true, cond, List, [], ◌∷◌, map, filter, refl, sym, ap, subst, ◌∙◌, inl, inr, arith, eq-eqb}
use Rattle.std.proofs.lemmas.Bool.{eqb-true, and_parts, cases_Bool}
use Rattle.mp_machine.specs.Lists.{IsIn}
use Rattle.mp_script.specs.declared.statements.Line.{Line}
use Rattle.mp_script.specs.declared.statements.SessionOn.{SessionOn}
use Rattle.mp_script.specs.declared.statements.Script.{Script}
use Rattle.mp_script.specs.Below.{stated}
use Rattle.mp_script.specs.Entries.{is_declared}
use Rattle.mp_script.specs.InTheirPart.{count_from}
use Rattle.mp_script.specs.Spelling.{IsSpelled}
use Rattle.mp_script.proofs.Declared.{declared_on, undeclared_states}
use Rattle.mp_script.proofs.Looking.{any_is}
use Rattle.mp_script.proofs.Ordered.{in_either, in_map, from_map, in_filter}
use Rattle.mp_script.proofs.SpelledLines.{session_within, spelled_in_order}
use Rattle.mp_schedule.specs.declared.schedule.Try.{Try}
use Rattle.mp_schedule.specs.Schedules.{free_try, first_tries}
use Rattle.mp_driver.specs.Driving.{AreOnMembers}

-- what a filter leaves passes
passes_filter : {T : Type 0} (test : T → Bool) (x : T) (xs : List T) → IsIn x (filter test xs) → test x ≡ true
passes_filter test x [] there = absurd there
passes_filter test x (y ∷ xs) there = elim (cases_Bool (test y)) [
  | inl t ↦ elim (subst (IsIn x) (ap (λ (b : Bool). cond b (y ∷ filter test xs) (filter test xs)) t) there) [
    | inl same ↦ ap test same ∙ t
    | inr later ↦ passes_filter test x xs later
  ]
  | inr f ↦ passes_filter test x xs (subst (IsIn x) (ap (λ (b : Bool). cond b (y ∷ filter test xs) (filter test xs)) f) there)
]

not_in_none : {T : Type 0} (x : T) (xs : List T) → xs ≡ [] → IsIn x xs → ⊥
not_in_none x xs none there = subst (IsIn x) none there

module _ (script : Script) (spelled : IsSpelled script) where
  -- a statement's session is declared
  line_declared : (line : Line) → IsIn line script.lines.items → is_declared script.sessions.items line.session ≡ true
  line_declared line there = elim (cases_Bool (is_declared script.sessions.items line.session)) [
    | inl declared ↦ declared
    | inr undeclared ↦ absurd (not_in_none line.index (stated line.session script.lines.items) (undeclared_states script spelled line.session undeclared)
        (in_map (λ (x : Line). x.index) line (filter (λ (x : Line). x.session == line.session) script.lines.items) (in_filter (λ (x : Line). x.session == line.session) line script.lines.items there (eq-eqb line.session line.session refl))))
  ]

  try_declared : (t : Try) → IsIn t (first_tries script.lines.items script.sessions.items) → is_declared script.sessions.items t.session ≡ true
  try_declared t there = elim (in_either t (map (λ (line : Line). free_try line.session) script.lines.items) (map free_try (filter (is_declared script.sessions.items) (count_from 1 64))) there) [
    | inl first ↦
        let line = from_map (λ (x : Line). free_try x.session) script.lines.items t first in
        subst (λ (x : Try). is_declared script.sessions.items x.session ≡ true) line.2 (line_declared line.0 line.1)
    | inr last ↦
        let session = from_map free_try (filter (is_declared script.sessions.items) (count_from 1 64)) t last in
        subst (λ (x : Try). is_declared script.sessions.items x.session ≡ true) session.2 (passes_filter (is_declared script.sessions.items) session.0 (count_from 1 64) session.1)
  ]

  tries_on : (count : ℕ) → count ≡ script.primaries → AreOnMembers script.sessions.items count (first_tries script.lines.items script.sessions.items)
  tries_on count same t there =
      let declared = try_declared t there in
      let at = declared_on script spelled t.session declared in
      let on = any_is (λ (x : SessionOn). x.session == t.session && x.primary == at.0) script.sessions.items at.3 in
      let both = and_parts ((on.0).session == t.session) ((on.0).primary == at.0) on.2 in
      let its : (on.0).session ≡ t.session = eqb-true (on.0).session t.session both.0 in
      let primary : (on.0).primary ≡ at.0 = eqb-true (on.0).primary at.0 both.1 in
      let high = (session_within script.sessions.items t.session (spelled_in_order script spelled).declared declared).1 in
      let some = at.1 in
      let most = at.2 in
      (on.0, on.1, its, omega (arith, its, high), omega (arith, primary, some), omega (arith, primary, most, same))

  -- so it is with equal lists
  pub same_tries_on : (sessions : List SessionOn) (tries : List Try) (count : ℕ) → sessions ≡ script.sessions.items → tries ≡ first_tries script.lines.items script.sessions.items → count ≡ script.primaries → AreOnMembers sessions count tries
  same_tries_on sessions tries count sessions_are tries_are same =
      subst (λ (ss : List SessionOn). AreOnMembers ss count tries) (sym sessions_are) (subst (AreOnMembers script.sessions.items count) (sym tries_are) (tries_on count same))
