-- What is looked up in a list.
use Rattle.std.proofs.Common.{◌≡◌, ℕ, ◌==◌, ◌&&◌, ◌||◌, Bool, true, false, cond, List, [], ◌∷◌, Some, refl, sym, ap, subst, ◌∙◌, inl, inr, eq-eqb, ◌++◌}
use Rattle.std.specs.List.{list_any}
use Rattle.std.proofs.lemmas.Bool.{and_from, cases_Bool, and_parts, eqb-true}
use Rattle.std.specs.Prelude.{find}
use mathlib.Core.Bool.{false≢true}
use Rattle.mp_machine.specs.Lists.{IsIn}
use Rattle.mp_model.specs.declared.replies.Answer.{Answer}
use Rattle.mp_script.specs.declared.statements.Line.{Line}
use Rattle.mp_script.specs.Execution.{line_at, answer_at}
use Rattle.mp_script.proofs.Options.{some_is, not_some}

pub any_in : {T : Type 0} (test : T → Bool) (x : T) (xs : List T) → IsIn x xs → test x ≡ true → list_any test xs ≡ true
any_in test x [] h e = absurd h
any_in test x (z ∷ zs) (inl same) e = ap (λ (b : Bool). b || list_any test zs) (ap test (sym same) ∙ e)
any_in test x (z ∷ zs) (inr h) e = ap (λ (b : Bool). test z || b) (any_in test x zs h e) ∙ or_so (test z)
  where
    or_so : (b : Bool) → (b || true) ≡ true
    or_so true = refl
    or_so false = refl

pub any_is : {T : Type 0} (test : T → Bool) (xs : List T) → list_any test xs ≡ true → (x : T) × IsIn x xs × (test x ≡ true)
any_is test [] e = absurd (false≢true e)
any_is test (x ∷ xs) e = elim (cases_Bool (test x)) [
  | inl t ↦ (x, inl refl, t)
  | inr t ↦ let rest = any_is test xs (sym (ap (λ (c : Bool). c || list_any test xs) t) ∙ e) in (rest.0, inr rest.1, rest.2)
]

pub any_more : {T : Type 0} (test : T → Bool) (xs ys : List T) → list_any test xs ≡ true → list_any test (xs ++ ys) ≡ true
any_more test [] ys e = absurd (false≢true e)
any_more test (x ∷ xs) ys e = elim (cases_Bool (test x)) [
  | inl t ↦ ap (λ (b : Bool). b || list_any test (xs ++ ys)) t
  | inr t ↦ ap (λ (b : Bool). b || list_any test (xs ++ ys)) t ∙ any_more test xs ys (sym (ap (λ (b : Bool). b || list_any test xs) t) ∙ e)
]

pub find_one : (test : Answer → Bool) (answers : List Answer) (a : Answer) → IsIn a answers → test a ≡ true → ((b : Answer) → IsIn b answers → test b ≡ true → b ≡ a) → find test answers ≡ Some a
find_one test [] a there passes one = absurd there
find_one test (x ∷ answers) a there passes one = elim (cases_Bool (test x)) [
  | inl t ↦ ap (λ (b : Bool). cond b (Some x) (find test answers)) t ∙ ap (λ (y : Answer). Some y) (one x (inl refl) t)
  | inr t ↦ elim there [
    | inl e ↦ absurd (false≢true (sym t ∙ ap test (sym e) ∙ passes))
    | inr h ↦ ap (λ (b : Bool). cond b (Some x) (find test answers)) t ∙ find_one test answers a h passes (λ b k. one b (inr k))
  ]
]

pub found_is : (test : Answer → Bool) (answers : List Answer) (a : Answer) → find test answers ≡ Some a → IsIn a answers × (test a ≡ true)
found_is test [] a e = absurd (not_some a e)
found_is test (x ∷ answers) a e = elim (cases_Bool (test x)) [
  | inl t ↦
      let same : x ≡ a = some_is x a (sym (ap (λ (b : Bool). cond b (Some x) (find test answers)) t) ∙ e) in
      (inl (sym same), subst (λ (y : Answer). test y ≡ true) same t)
  | inr t ↦ let rest = found_is test answers a (sym (ap (λ (b : Bool). cond b (Some x) (find test answers)) t) ∙ e) in (inr rest.0, rest.1)
]

-- what is looked up is an answer there; and an answer that is the only one of its statement is found
pub answer_is : (answers : List Answer) (session index : ℕ) (a : Answer) → answer_at answers session index ≡ Some a → IsIn a answers × (a.session ≡ session) × (a.index ≡ index)
answer_is [] session index a e = absurd (not_some a e)
answer_is (x ∷ answers) session index a e = elim (cases_Bool (x.session == session && x.index == index)) [
  | inl t ↦
      let same : x ≡ a = some_is x a (sym (ap (λ (b : Bool). cond b (Some x) (answer_at answers session index)) t) ∙ e) in
      let both = and_parts (x.session == session) (x.index == index) t in
      (inl (sym same), ap (λ (y : Answer). y.session) (sym same) ∙ eqb-true x.session session both.0, ap (λ (y : Answer). y.index) (sym same) ∙ eqb-true x.index index both.1)
  | inr t ↦
      let rest = answer_is answers session index a (sym (ap (λ (b : Bool). cond b (Some x) (answer_at answers session index)) t) ∙ e) in
      (inr rest.0, rest.1, rest.2)
]

pub answer_found : (answers : List Answer) (a : Answer) → IsIn a answers → ((b : Answer) → IsIn b answers → b.session ≡ a.session → b.index ≡ a.index → b ≡ a) → answer_at answers a.session a.index ≡ Some a
answer_found [] a there one = absurd there
answer_found (x ∷ answers) a there one = elim (cases_Bool (x.session == a.session && x.index == a.index)) [
  | inl t ↦
      let both = and_parts (x.session == a.session) (x.index == a.index) t in
      ap (λ (b : Bool). cond b (Some x) (answer_at answers a.session a.index)) t ∙ ap (λ (y : Answer). Some y) (one x (inl refl) (eqb-true x.session a.session both.0) (eqb-true x.index a.index both.1))
  | inr t ↦ elim there [
    | inl e ↦ absurd (false≢true (sym t ∙ and_from (x.session == a.session) (x.index == a.index) (eq-eqb x.session a.session (ap (λ (y : Answer). y.session) (sym e))) (eq-eqb x.index a.index (ap (λ (y : Answer). y.index) (sym e)))))
    | inr h ↦ ap (λ (b : Bool). cond b (Some x) (answer_at answers a.session a.index)) t ∙ answer_found answers a h (λ b k. one b (inr k))
  ]
]

-- ---- looking a line up

pub line_is : (lines : List Line) (session index : ℕ) (line : Line) → line_at lines session index ≡ Some line → IsIn line lines × (line.session ≡ session) × (line.index ≡ index)
line_is [] session index line e = absurd (not_some line e)
line_is (x ∷ lines) session index line e = elim (cases_Bool (x.session == session && x.index == index)) [
  | inl t ↦
      let same : x ≡ line = some_is x line (sym (ap (λ (b : Bool). cond b (Some x) (line_at lines session index)) t) ∙ e) in
      let both = and_parts (x.session == session) (x.index == index) t in
      (inl (sym same), ap (λ (l : Line). l.session) (sym same) ∙ eqb-true x.session session both.0, ap (λ (l : Line). l.index) (sym same) ∙ eqb-true x.index index both.1)
  | inr t ↦
      let rest = line_is lines session index line (sym (ap (λ (b : Bool). cond b (Some x) (line_at lines session index)) t) ∙ e) in
      (inr rest.0, rest.1, rest.2)
]
