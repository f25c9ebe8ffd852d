-- Of a spelled script: each session is on one primary, its statements' numbers rise, and each transaction has one name.
use Rattle.std.proofs.Common.{◌≡◌, ◌≢◌, ℕ, zero, suc, ◌+◌, ◌<◌, ◌≤◌, ◌==◌, ◌&&◌, ◌||◌, Bool, true, false, cond, List, [], ◌∷◌, ◌++◌, map, filter, slice_get, Some, refl, sym, ap, subst, ◌∙◌, inl, inr, arith, eq-eqb}
use Rattle.std.specs.List.{AllByRecursion}
use Rattle.std.proofs.lemmas.Bool.{cases_lt, eqb-true, and_parts, cases_Bool}
use mathlib.Core.Bool.{false≢true}
use Rattle.mp_machine.specs.Lists.{IsIn}
use Rattle.mp_model.specs.declared.ids.TrxName.{TrxName}
use Rattle.mp_model.specs.Folded.{AscendsFrom}
use Rattle.mp_script.specs.declared.statements.Line.{Line}
use Rattle.mp_script.specs.declared.statements.SessionOn.{SessionOn}
use Rattle.mp_script.specs.declared.statements.Script.{Script}
use Rattle.mp_script.specs.declared.entries.Entry.{Entry}
use Rattle.mp_script.specs.declared.entries.Entry.TheVariants.{Session, Statement}
use Rattle.mp_script.specs.Below.{stated}
use Rattle.mp_script.specs.InTheirPart.{count_from}
use Rattle.mp_script.specs.Entries.{Said, nothing_said, with_entry, said_after, is_declared, statements}
use Rattle.mp_script.specs.Execution.{stmt_in, is_session_on}
use Rattle.mp_script.specs.Spelling.{AllFit, IsSpelled}
use Rattle.mp_script.specs.SpelledLines.{IsLineInRange, HaveTheirBegin}
use Rattle.mp_script.specs.Transactions.{begins, begin_in}
use Rattle.mp_script.specs.BeginNames.{name_of_line, begin_names}
use Rattle.mp_script.proofs.SpelledLines.{spelled_in_order}
use Rattle.mp_script.proofs.Options.{some_is, not_some}
use Rattle.mp_script.proofs.Ordered.{Pairwise, pairwise_append, pairwise_filter}

-- ---- sessions

abbrev AreApart : List SessionOn → Type 0
AreApart sessions = Pairwise (λ a b. a.session ≢ b.session) sessions

declared_in : (sessions : List SessionOn) (x : SessionOn) → IsIn x sessions → is_declared sessions x.session ≡ true
declared_in [] x h = absurd h
declared_in (s ∷ sessions) x (inl e) = ap (λ (b : Bool). b || is_declared sessions x.session) (eq-eqb x.session s.session (ap (λ (y : SessionOn). y.session) e))
declared_in (s ∷ sessions) x (inr h) = ap (λ (b : Bool). (x.session == s.session) || b) (declared_in sessions x h) ∙ or_true (x.session == s.session)
  where
    or_true : (b : Bool) → (b || true) ≡ true
    or_true true = refl
    or_true false = refl

apart_one_more : (sessions : List SessionOn) (s : SessionOn) → is_declared sessions s.session ≡ false → AreApart sessions → AreApart (sessions ++ s ∷ [])
apart_one_more sessions s new apart = pairwise_append (λ a b. a.session ≢ b.session) sessions (s ∷ []) apart (λ y none. absurd none, tt)
    (λ a b h k. elim k [
      | inl e ↦ λ (same : a.session ≡ b.session). false≢true (sym new ∙ subst (λ (n : ℕ). is_declared sessions n ≡ true) (same ∙ ap (λ (y : SessionOn). y.session) e) (declared_in sessions a h))
      | inr none ↦ absurd none
    ])

apart_after : (said : Said) (entries : List Entry) → AllFit said entries → AreApart said.sessions → AreApart (said_after said entries).sessions
apart_after said [] fit apart = apart
apart_after said (Session s ∷ entries) fit apart = apart_after (with_entry said (Session s)) entries fit.1 (apart_one_more said.sessions s fit.0.new apart)
apart_after said (Statement line ∷ entries) fit apart = apart_after (with_entry said (Statement line)) entries fit.1 apart

pub on_in : (sessions : List SessionOn) (session primary : ℕ) → is_session_on sessions session primary ≡ true → (x : SessionOn) × IsIn x sessions × (x.session ≡ session) × (x.primary ≡ primary)
on_in [] session primary h = absurd (false≢true h)
on_in (s ∷ sessions) session primary h = elim (cases_Bool (s.session == session && s.primary == primary)) [
  | inl e ↦ let both = and_parts (s.session == session) (s.primary == primary) e in (s, inl refl, eqb-true s.session session both.0, eqb-true s.primary primary both.1)
  | inr e ↦
      let rest = on_in sessions session primary (sym (ap (λ (b : Bool). b || is_session_on sessions session primary) e) ∙ h) in
      (rest.0, inr rest.1, rest.2, rest.3)
]

one_session : (sessions : List SessionOn) → AreApart sessions → (x y : SessionOn) → IsIn x sessions → IsIn y sessions → x.session ≡ y.session → x ≡ y
one_session [] apart x y h k e = absurd h
one_session (s ∷ sessions) apart x y (inl h) (inl k) e = h ∙ sym k
one_session (s ∷ sessions) apart x y (inl h) (inr k) e = absurd (apart.0 y k (ap (λ (z : SessionOn). z.session) (sym h) ∙ e))
one_session (s ∷ sessions) apart x y (inr h) (inl k) e = absurd (apart.0 x h (ap (λ (z : SessionOn). z.session) (sym k) ∙ sym e))
one_session (s ∷ sessions) apart x y (inr h) (inr k) e = one_session sessions apart.1 x y h k e

-- a session is on one primary
pub one_primary : (script : Script) → IsSpelled script → (session n m : ℕ) → is_session_on script.sessions.items session n ≡ true → is_session_on script.sessions.items session m ≡ true → n ≡ m
one_primary script spelled session n m h k =
    let s = spelled.1.spelled in
    let apart : AreApart script.sessions.items = subst (λ (said : Said). AreApart said.sessions) s.whole (apart_after (nothing_said script.primaries) spelled.1.entries s.fit tt) in
    let x = on_in script.sessions.items session n h in
    let y = on_in script.sessions.items session m k in
    let same = one_session script.sessions.items apart x.0 y.0 x.1 y.1 (x.2 ∙ sym y.2) in
    sym x.3 ∙ ap (λ (z : SessionOn). z.primary) same ∙ y.3

-- ---- statements

abbrev NumbersRise : ℕ → List ℕ → Type 0
NumbersRise low numbers = AscendsFrom (λ n. n) low numbers

pub count_rises : (first count : ℕ) → NumbersRise first (count_from first count)
count_rises first zero = tt
count_rises first (suc count) = (omega arith, count_rises (first + 1) count)

rises_lower : (low high : ℕ) (numbers : List ℕ) → low ≤ high → NumbersRise high numbers → NumbersRise low numbers
rises_lower low high [] le h = tt
rises_lower low high (n ∷ numbers) le h = let from = h.0 in (omega (arith, le, from), h.1)

rises_from : (low : ℕ) (numbers : List ℕ) → NumbersRise low numbers → (n : ℕ) → IsIn n numbers → low ≤ n
rises_from low [] h n there = absurd there
rises_from low (x ∷ numbers) h n (inl e) = let from = h.0 in omega (arith, from, e)
rises_from low (x ∷ numbers) h n (inr there) = let from = h.0 in let rest = rises_from (x + 1) numbers h.1 n there in omega (arith, from, rest)

stated_here : (session : ℕ) (line : Line) (lines : List Line) → (line.session == session) ≡ true → stated session (line ∷ lines) ≡ line.index ∷ stated session lines
stated_here session line lines e = ap (λ (b : Bool). map (λ (l : Line). l.index) (cond b (line ∷ filter (λ (l : Line). l.session == session) lines) (filter (λ (l : Line). l.session == session) lines))) e

stated_else : (session : ℕ) (line : Line) (lines : List Line) → (line.session == session) ≡ false → stated session (line ∷ lines) ≡ stated session lines
stated_else session line lines e = ap (λ (b : Bool). map (λ (l : Line). l.index) (cond b (line ∷ filter (λ (l : Line). l.session == session) lines) (filter (λ (l : Line). l.session == session) lines))) e

stated_in : (session : ℕ) (lines : List Line) (line : Line) → IsIn line lines → line.session ≡ session → IsIn line.index (stated session lines)
stated_in session [] line h is = absurd h
stated_in session (x ∷ lines) line (inl e) is =
    let test : (x.session == session) ≡ true = eq-eqb x.session session (ap (λ (l : Line). l.session) (sym e) ∙ is) in
    subst (IsIn line.index) (sym (stated_here session x lines test)) (inl (ap (λ (l : Line). l.index) e))
stated_in session (x ∷ lines) line (inr h) is = elim (cases_Bool (x.session == session)) [
  | inl e ↦ subst (IsIn line.index) (sym (stated_here session x lines e)) (inr (stated_in session lines line h is))
  | inr e ↦ subst (IsIn line.index) (sym (stated_else session x lines e)) (stated_in session lines line h is)
]

abbrev pub IndexesRise : List Line → Type 0
IndexesRise lines = Pairwise (λ a b. a.session ≡ b.session → a.index < b.index) lines

indexes_rise : (lines : List Line) → ((session : ℕ) → NumbersRise 0 (stated session lines)) → IndexesRise lines
indexes_rise [] rise = tt
indexes_rise (x ∷ lines) rise = (
  λ y there same.
      let here : NumbersRise 0 (x.index ∷ stated x.session lines) = subst (NumbersRise 0) (stated_here x.session x lines (eq-eqb x.session x.session refl)) (rise x.session) in
      let above = rises_from (x.index + 1) (stated x.session lines) here.1 y.index (stated_in x.session lines y there (sym same)) in
      omega (arith, above),
  indexes_rise lines (λ session. elim (cases_Bool (x.session == session)) [
    | inl e ↦
        let here : NumbersRise 0 (x.index ∷ stated session lines) = subst (NumbersRise 0) (stated_here session x lines e) (rise session) in
        rises_lower 0 (x.index + 1) (stated session lines) (omega arith) here.1
    | inr e ↦ subst (NumbersRise 0) (stated_else session x lines e) (rise session)
  ]),
)

pub lines_rise : (script : Script) → IsSpelled script → IndexesRise script.lines.items
lines_rise script spelled =
    indexes_rise script.lines.items (λ session. subst (NumbersRise 0) (sym ((spelled_in_order script spelled).numbered session)) (rises_lower 0 1 (count_from 1 (statements script.lines.items session)) (omega arith) (count_rises 1 (statements script.lines.items session))))

pub lines_within : (script : Script) → IsSpelled script → AllByRecursion IsLineInRange script.lines.items
lines_within script spelled = (spelled_in_order script spelled).within

pub have_begins : (script : Script) → IsSpelled script → HaveTheirBegin script.lines.items
have_begins script spelled = (spelled_in_order script spelled).begun

-- ---- the `begin` of a statement

-- the statements between a `begin` and one of its transaction are of it
pub begin_between : (lines : List Line) (session index before : ℕ) → begin_in lines session index ≤ before → before ≤ index → begin_in lines session before ≡ begin_in lines session index
begin_between lines session zero before low high = let is : before ≡ 0 = omega (arith, high) in ap (begin_in lines session) is
begin_between lines session (suc index) before low high = elim (cases_lt index before) [
  | inl past ↦ let is : before ≡ suc index = omega (arith, past, high) in ap (begin_in lines session) is
  | inr upto ↦ elim (cases_Bool (begins (stmt_in lines session (suc index)))) [
    | inl e ↦
        let here : begin_in lines session (suc index) ≡ suc index = ap (λ (b : Bool). cond b (suc index) (begin_in lines session index)) e in
        absurd (omega (arith, here, low, upto))
    | inr e ↦
        let here : begin_in lines session (suc index) ≡ begin_in lines session index = ap (λ (b : Bool). cond b (suc index) (begin_in lines session index)) e in
        begin_between lines session index before (omega (arith, here, low)) upto ∙ sym here
  ]
]

pub begin_upto : (lines : List Line) (session index : ℕ) → begin_in lines session index ≤ index
begin_upto lines session zero = omega arith
begin_upto lines session (suc index) = elim (cases_Bool (begins (stmt_in lines session (suc index)))) [
  | inl e ↦ let here : begin_in lines session (suc index) ≡ suc index = ap (λ (b : Bool). cond b (suc index) (begin_in lines session index)) e in omega (arith, here)
  | inr e ↦
      let here : begin_in lines session (suc index) ≡ begin_in lines session index = ap (λ (b : Bool). cond b (suc index) (begin_in lines session index)) e in
      let rest = begin_upto lines session index in
      omega (arith, here, rest)
]

pub begin_itself : (lines : List Line) (session index : ℕ) → 1 ≤ index → begins (stmt_in lines session index) ≡ true → begin_in lines session index ≡ index
begin_itself lines session zero le e = absurd (omega (arith, le))
begin_itself lines session (suc index) le e = ap (λ (b : Bool). cond b (suc index) (begin_in lines session index)) e

-- ---- names

map_apart : (lines : List Line) → IndexesRise lines → Pairwise (λ a b. a ≢ b) (map name_of_line lines)
map_apart [] rise = tt
map_apart (x ∷ lines) rise = (
  λ name there same.
      let from = from_map lines name there in
      let session : x.session ≡ (from.0).session = ap (λ (n : TrxName). n.session) (same ∙ sym from.2) in
      let index : x.index ≡ (from.0).index = ap (λ (n : TrxName). n.first) (same ∙ sym from.2) in
      let above = rise.0 from.0 from.1 session in
      absurd (omega (arith, above, index)),
  map_apart lines rise.1,
)
  where
    from_map : (ls : List Line) (name : TrxName) → IsIn name (map name_of_line ls) → (line : Line) × IsIn line ls × (name_of_line line ≡ name)
    from_map [] name h = absurd h
    from_map (l ∷ ls) name (inl e) = (l, inl refl, sym e)
    from_map (l ∷ ls) name (inr h) = let rest = from_map ls name h in (rest.0, inr rest.1, rest.2)

pub names_apart : (lines : List Line) → IndexesRise lines → Pairwise (λ a b. a ≢ b) (begin_names lines)
names_apart lines rise = map_apart (filter (λ line. begins (Some line.stmt)) lines) (pairwise_filter (λ a b. a.session ≡ b.session → a.index < b.index) (λ line. begins (Some line.stmt)) lines rise)

pub got_in : (names : List TrxName) (i : ℕ) (name : TrxName) → slice_get names i ≡ Some name → IsIn name names
got_in [] i name e = absurd (not_some name e)
got_in (x ∷ names) zero name e = inl (sym (some_is x name e))
got_in (x ∷ names) (suc i) name e = inr (got_in names i name e)

pub got_once : (names : List TrxName) → Pairwise (λ a b. a ≢ b) names → (i j : ℕ) (name : TrxName) → slice_get names i ≡ Some name → slice_get names j ≡ Some name → i ≡ j
got_once [] apart i j name e g = absurd (not_some name e)
got_once (x ∷ names) apart zero zero name e g = refl
got_once (x ∷ names) apart zero (suc j) name e g = absurd (apart.0 name (got_in names j name g) (some_is x name e))
got_once (x ∷ names) apart (suc i) zero name e g = absurd (apart.0 name (got_in names i name e) (some_is x name g))
got_once (x ∷ names) apart (suc i) (suc j) name e g = ap suc (got_once names apart.1 i j name e g)
