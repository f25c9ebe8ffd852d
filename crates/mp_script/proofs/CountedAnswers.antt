-- The answers of one session among others, and how many they are.
use Rattle.std.proofs.Common.{◌≡◌, ℕ, ◌+◌, ◌<◌, ◌≤◌, ◌==◌, Bool, true, false, cond, List, [], ◌∷◌, ◌++◌, length, map, filter, Option, Some, None, refl, sym, ap, subst, ◌∙◌, inl, inr, arith, eq-eqb, ◌≢◌, zero, suc, slice_get, ne_eqb, ◌⊎◌}
use Rattle.std.proofs.lemmas.Bool.{cases_Bool, cases_lt}
use Rattle.std.specs.List.{cons_option}
use Rattle.mp_machine.specs.Lists.{IsIn}
use Rattle.mp_model.specs.declared.replies.Answer.{Answer}
use Rattle.mp_model.specs.declared.transcripts.Part.{Part}
use Rattle.mp_script.specs.Below.{answered, from_first}
use Rattle.mp_script.specs.Standing.{StandsAbove}
use Rattle.mp_script.specs.InTheirPart.{count_from}
use Rattle.mp_script.specs.Answers.{AreApartAnswers, IsWholePart}
use Rattle.mp_script.proofs.Options.{some_is, not_some}
use Rattle.mp_script.proofs.Ordered.{Pairwise}

answers_here : (session : ℕ) (a : Answer) (answers : List Answer) → (a.session == session) ≡ true → answered session (a ∷ answers) ≡ a.index ∷ answered session answers
answers_here session a answers e = ap (λ (b : Bool). map (λ (x : Answer). x.index) (cond b (a ∷ filter (λ (x : Answer). x.session == session) answers) (filter (λ (x : Answer). x.session == session) answers))) e

answers_else : (session : ℕ) (a : Answer) (answers : List Answer) → (a.session == session) ≡ false → answered session (a ∷ answers) ≡ answered session answers
answers_else session a answers e = ap (λ (b : Bool). map (λ (x : Answer). x.index) (cond b (a ∷ filter (λ (x : Answer). x.session == session) answers) (filter (λ (x : Answer). x.session == session) answers))) e

pub count_more : (session : ℕ) (above : List Answer) (a : Answer) → length (answered session above) ≤ length (answered session (above ++ a ∷ []))
count_more session [] a = omega arith
count_more session (x ∷ above) a =
    let rest = count_more session above a in
    elim (cases_Bool (x.session == session)) [
      | inl e ↦
          let here = ap (λ (l : List ℕ). length l) (answers_here session x above e) in
          let more = ap (λ (l : List ℕ). length l) (answers_here session x (above ++ a ∷ []) e) in
          omega (arith, here, more, rest)
      | inr e ↦
          let here = ap (λ (l : List ℕ). length l) (answers_else session x above e) in
          let more = ap (λ (l : List ℕ). length l) (answers_else session x (above ++ a ∷ []) e) in
          omega (arith, here, more, rest)
    ]

pub count_own : (above : List Answer) (a : Answer) → length (answered a.session above) + 1 ≤ length (answered a.session (above ++ a ∷ []))
count_own [] a = let here = ap (λ (l : List ℕ). length l) (answers_here a.session a [] (eq-eqb a.session a.session refl)) in omega (arith, here)
count_own (x ∷ above) a =
    let rest = count_own above a in
    elim (cases_Bool (x.session == a.session)) [
      | inl e ↦
          let here = ap (λ (l : List ℕ). length l) (answers_here a.session x above e) in
          let more = ap (λ (l : List ℕ). length l) (answers_here a.session x (above ++ a ∷ []) e) in
          omega (arith, here, more, rest)
      | inr e ↦
          let here = ap (λ (l : List ℕ). length l) (answers_else a.session x above e) in
          let more = ap (λ (l : List ℕ). length l) (answers_else a.session x (above ++ a ∷ []) e) in
          omega (arith, here, more, rest)
    ]

-- answers of other sessions
pub none_answered : (session : ℕ) (answers : List Answer) → ((a : Answer) → IsIn a answers → a.session ≢ session) → answered session answers ≡ []
none_answered session [] h = refl
none_answered session (a ∷ answers) h =
    ap (λ (b : Bool). map (λ (x : Answer). x.index) (cond b (a ∷ filter (λ (x : Answer). x.session == session) answers) (filter (λ (x : Answer). x.session == session) answers))) (ne_eqb a.session session (h a (inl refl)))
    ∙ none_answered session answers (λ b there. h b (inr there))

pub apart_by : (answers : List Answer) → Pairwise (λ (x y : Answer). x.session ≡ y.session → x.index ≢ y.index) answers → AreApartAnswers answers
apart_by [] p = tt
apart_by (x ∷ answers) p = (p.0, apart_by answers p.1)

-- one answer more, or none, before the same answers of a session
pub same_answered : (session : ℕ) (o : Option Answer) (xs ys : List Answer) → answered session xs ≡ answered session ys → answered session (cons_option o xs) ≡ answered session (cons_option o ys)
same_answered session None xs ys e = e
same_answered session (Some a) xs ys e = elim (cases_Bool (a.session == session)) [
  | inl t ↦ here xs t ∙ ap (λ (l : List ℕ). a.index ∷ l) e ∙ sym (here ys t)
  | inr t ↦ past xs t ∙ e ∙ sym (past ys t)
]
  where
    here : (zs : List Answer) → (a.session == session) ≡ true → answered session (a ∷ zs) ≡ a.index ∷ answered session zs
    here zs t = ap (λ (b : Bool). map (λ (x : Answer). x.index) (cond b (a ∷ filter (λ (x : Answer). x.session == session) zs) (filter (λ (x : Answer). x.session == session) zs))) t

    past : (zs : List Answer) → (a.session == session) ≡ false → answered session (a ∷ zs) ≡ answered session zs
    past zs t = ap (λ (b : Bool). map (λ (x : Answer). x.index) (cond b (a ∷ filter (λ (x : Answer). x.session == session) zs) (filter (λ (x : Answer). x.session == session) zs))) t

pub other_answered : (session : ℕ) (o : Option Answer) (xs : List Answer) → ((a : Answer) → o ≡ Some a → a.session ≢ session) → answered session (cons_option o xs) ≡ answered session xs
other_answered session None xs h = refl
other_answered session (Some a) xs h = ap (λ (b : Bool). map (λ (x : Answer). x.index) (cond b (a ∷ filter (λ (x : Answer). x.session == session) xs) (filter (λ (x : Answer). x.session == session) xs))) (ne_eqb a.session session (h a refl))

pub apart_pairs : (answers : List Answer) → AreApartAnswers answers → Pairwise (λ (x y : Answer). x.session ≡ y.session → x.index ≢ y.index) answers
apart_pairs [] a = tt
apart_pairs (x ∷ answers) a = (a.0, apart_pairs answers a.1)

pub in_count : (n first count : ℕ) → first ≤ n → n < first + count → IsIn n (count_from first count)
in_count n first zero low high = absurd (omega (arith, low, high))
in_count n first (suc count) low high = elim (cases_lt first n) [
  | inl past ↦ inr (in_count n (first + 1) count (omega (arith, past)) (omega (arith, high)))
  | inr ge ↦ inl (omega (arith, low, ge))
]

pub from_count : (n first count : ℕ) → IsIn n (count_from first count) → (first ≤ n) × (n < first + count)
from_count n first zero h = absurd h
from_count n first (suc count) (inl e) = (omega (arith, e), omega (arith, e))
from_count n first (suc count) (inr h) = let rest = from_count n (first + 1) count h in let low = rest.0 in let high = rest.1 in (omega (arith, low), omega (arith, high))

-- what is among those from the first that passes on is the first, or stands below it
pub from_first_is : (test : Answer → Bool) (answers : List Answer) (x : Answer) → IsIn x (from_first test answers) → (first : Answer) × (test first ≡ true) × IsIn first answers × ((first ≡ x) ⊎ StandsAbove first x answers)
from_first_is test [] x h = absurd h
from_first_is test (a ∷ answers) x h = elim (cases_Bool (test a)) [
  | inl t ↦ elim (subst (IsIn x) (ap (λ (b : Bool). cond b (a ∷ answers) (from_first test answers)) t) h) [
    | inl e ↦ (a, t, inl refl, inl (sym e))
    | inr there ↦ (a, t, inl refl, inr (inl (refl, there)))
  ]
  | inr t ↦
      let rest = from_first_is test answers x (subst (IsIn x) (ap (λ (b : Bool). cond b (a ∷ answers) (from_first test answers)) t) h) in (
        rest.0,
        rest.1,
        inr rest.2,
        elim rest.3 [
          | inl e ↦ inl e
          | inr above ↦ inr (inr above)
        ],
      )
]

-- the one part of a list of parts
pub one_part : (answers : List Answer) (parts : List Part) → IsWholePart answers parts → (part : Part) × (parts ≡ part ∷ []) × (part.primary ≡ 0) × (part.answers.items ≡ answers)
one_part answers [] h = absurd h
one_part answers (part ∷ parts) h = (part, ap (λ (ps : List Part). part ∷ ps) h.2, h.0, h.1)

pub counted_at : (first count place n : ℕ) → slice_get (count_from first count) place ≡ Some n → n ≡ place + first
counted_at first zero place n e = absurd (not_some n e)
counted_at first (suc count) zero n e = let is = some_is first n e in omega (arith, is)
counted_at first (suc count) (suc place) n e = let rest = counted_at (first + 1) count place n e in omega (arith, rest)
