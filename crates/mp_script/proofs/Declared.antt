-- Of a spelled script: each line's session is declared, on one of its primaries.
use Rattle.std.proofs.Common.{◌≡◌, ◌≢◌, ℕ, ◌≤◌, ◌==◌, ◌&&◌, ◌||◌, Bool, true, false, cond, List, [], ◌∷◌, ◌++◌, map, filter, refl, sym, ap, subst, ◌∙◌, inl, inr, eq-eqb, ne_eqb}
use Rattle.std.specs.List.{AllByRecursion}
use Rattle.std.proofs.lemmas.Bool.{eqb-true, and_from, cases_Bool}
use mathlib.Core.Bool.{false≢true}
use Rattle.mp_machine.specs.Lists.{IsIn}
use Rattle.mp_script.specs.declared.statements.Line.{Line}
use Rattle.mp_script.specs.declared.statements.SessionOn.{SessionOn}
use Rattle.mp_script.specs.declared.statements.Script.{Script}
use Rattle.mp_script.specs.declared.entries.Entry.{Entry}
use Rattle.mp_script.specs.declared.entries.Entry.TheVariants.{Session, Statement}
use Rattle.mp_script.specs.Below.{stated}
use Rattle.mp_script.specs.Entries.{Said, nothing_said, with_entry, said_after, is_declared}
use Rattle.mp_script.specs.Spelling.{AllFit, IsSpelled}
use Rattle.mp_script.specs.Execution.{is_session_on}
use Rattle.mp_script.proofs.Lists.{all_append, all_map}
use Rattle.mp_script.proofs.Ordered.{all_in}
use Rattle.mp_script.proofs.Looking.{any_in, any_more}

abbrev AreOnPrimaries : ℕ → List SessionOn → Type 0
AreOnPrimaries primaries sessions = AllByRecursion (λ s. (1 ≤ s.primary) × (s.primary ≤ primaries)) sessions

abbrev AreDeclared : List SessionOn → List Line → Type 0
AreDeclared sessions lines = AllByRecursion (λ line. is_declared sessions line.session ≡ true) lines

on_after : (said : Said) (entries : List Entry) → AllFit said entries → AreOnPrimaries said.primaries said.sessions → AreOnPrimaries said.primaries (said_after said entries).sessions
on_after said [] fit on = on
on_after said (Session s ∷ entries) fit on = on_after (with_entry said (Session s)) entries fit.1 (all_append (λ (x : SessionOn). (1 ≤ x.primary) × (x.primary ≤ said.primaries)) said.sessions (s ∷ []) on ((fit.0.primary_low, fit.0.primary_high), tt))
on_after said (Statement line ∷ entries) fit on = on_after (with_entry said (Statement line)) entries fit.1 on

declared_after : (said : Said) (entries : List Entry) → AllFit said entries → AreDeclared said.sessions said.lines → AreDeclared (said_after said entries).sessions (said_after said entries).lines
declared_after said [] fit declared = declared
declared_after said (Session s ∷ entries) fit declared =
    declared_after (with_entry said (Session s)) entries fit.1 (all_map (λ (line : Line). is_declared said.sessions line.session ≡ true) (λ (line : Line). is_declared (said.sessions ++ s ∷ []) line.session ≡ true) said.lines (λ line e. any_more (λ (x : SessionOn). line.session == x.session) said.sessions (s ∷ []) e) declared)
declared_after said (Statement line ∷ entries) fit declared =
    declared_after (with_entry said (Statement line)) entries fit.1 (all_append (λ (l : Line). is_declared said.sessions l.session ≡ true) said.lines (line ∷ []) declared (fit.0.declared, tt))

declared_is : (sessions : List SessionOn) (session : ℕ) → is_declared sessions session ≡ true → (x : SessionOn) × IsIn x sessions × (x.session ≡ session)
declared_is [] session e = absurd (false≢true e)
declared_is (s ∷ sessions) session e = elim (cases_Bool (session == s.session)) [
  | inl t ↦ (s, inl refl, sym (eqb-true session s.session t))
  | inr t ↦ let rest = declared_is sessions session (sym (ap (λ (b : Bool). b || is_declared sessions session) t) ∙ e) in (rest.0, inr rest.1, rest.2)
]

pub on_declared : (sessions : List SessionOn) (session primary : ℕ) → is_session_on sessions session primary ≡ true → is_declared sessions session ≡ true
on_declared [] session primary e = absurd (false≢true e)
on_declared (s ∷ sessions) session primary e = elim (cases_Bool (s.session == session)) [
  | inl t ↦ ap (λ (b : Bool). b || is_declared sessions session) (eq-eqb session s.session (sym (eqb-true s.session session t)))
  | inr t ↦
      let here : (s.session == session && s.primary == primary) ≡ false = ap (λ (b : Bool). b && s.primary == primary) t in
      let rest = on_declared sessions session primary (sym (ap (λ (b : Bool). b || is_session_on sessions session primary) here) ∙ e) in
      ap (λ (b : Bool). (session == s.session) || b) rest ∙ or_so (session == s.session)
]
  where
    or_so : (b : Bool) → (b || true) ≡ true
    or_so true = refl
    or_so false = refl

-- a declared session is on a primary of the script
pub declared_on : (script : Script) → IsSpelled script → (session : ℕ) → is_declared script.sessions.items session ≡ true → (n : ℕ) × (1 ≤ n) × (n ≤ script.primaries) × (is_session_on script.sessions.items session n ≡ true)
declared_on script spelled session e =
    let s = spelled.1.spelled in
    let x = declared_is script.sessions.items session e in
    let on : AreOnPrimaries script.primaries script.sessions.items = subst (λ (said : Said). AreOnPrimaries script.primaries said.sessions) s.whole (on_after (nothing_said script.primaries) spelled.1.entries s.fit tt) in
    let bounds = all_in (λ (y : SessionOn). (1 ≤ y.primary) × (y.primary ≤ script.primaries)) x.0 script.sessions.items on x.1 in (
      (x.0).primary,
      bounds.0,
      bounds.1,
      any_in (λ (y : SessionOn). y.session == session && y.primary == (x.0).primary) x.0 script.sessions.items x.1 (and_from ((x.0).session == session) ((x.0).primary == (x.0).primary) (eq-eqb (x.0).session session x.2) (eq-eqb (x.0).primary (x.0).primary refl)),
    )

none_stated : (session : ℕ) (lines : List Line) → AllByRecursion (λ line. line.session ≢ session) lines → stated session lines ≡ []
none_stated session [] h = refl
none_stated session (line ∷ lines) h =
    ap (λ (b : Bool). map (λ (x : Line). x.index) (cond b (line ∷ filter (λ (x : Line). x.session == session) lines) (filter (λ (x : Line). x.session == session) lines))) (ne_eqb line.session session h.0)
    ∙ none_stated session lines h.1

-- one that isn't declared states nothing
pub undeclared_states : (script : Script) → IsSpelled script → (session : ℕ) → is_declared script.sessions.items session ≡ false → stated session script.lines.items ≡ []
undeclared_states script spelled session e =
    let s = spelled.1.spelled in
    let declared : AreDeclared script.sessions.items script.lines.items = subst (λ (said : Said). AreDeclared said.sessions said.lines) s.whole (declared_after (nothing_said script.primaries) spelled.1.entries s.fit tt) in
    none_stated session script.lines.items (all_map (λ (line : Line). is_declared script.sessions.items line.session ≡ true) (λ (line : Line). line.session ≢ session) script.lines.items (λ line d same. false≢true (sym e ∙ ap (is_declared script.sessions.items) (sym same) ∙ d)) declared)
