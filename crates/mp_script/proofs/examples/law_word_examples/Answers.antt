use Rattle.std.proofs.Common.{◌≡◌, refl, ap, inl, inr, arith}
use Rattle.mp_script.proofs.examples.law_word_examples.Goals as goal

pub returns-clause-sets_none : goal.returns-clause-sets_none
returns-clause-sets_none c = refl

pub returns-clause-other_key : goal.returns-clause-other_key
returns-clause-other_key c = refl

pub returns-clause-stands : goal.returns-clause-stands
returns-clause-stands c = refl

pub returns-clause-gone : goal.returns-clause-gone
returns-clause-gone c = refl

pub returns-clause-above : goal.returns-clause-above
returns-clause-above c = inl (refl, inl refl)

pub returns-clause-not_above : goal.returns-clause-not_above
returns-clause-not_above c = λ h. elim h [
  | inl first ↦ absurd (omega (arith, first.0))
  | inr (inl second) ↦ absurd second.1
  | inr (inr none) ↦ absurd none
]

pub returns-clause-on : goal.returns-clause-on
returns-clause-on c = refl

pub returns-clause-not_on : goal.returns-clause-not_on
returns-clause-not_on c = refl

pub returns-clause-names : goal.returns-clause-names
returns-clause-names c = refl

pub returns-clause-apart : goal.returns-clause-apart
returns-clause-apart c = (
  λ other there session index. elim there [
    | inl same ↦ let at : other.index ≡ 2 = ap (λ x. x.index) same in absurd (omega (arith, at, index))
    | inr none ↦ absurd none
  ],
  (λ other none. absurd none, tt),
)

pub returns-clause-twice : goal.returns-clause-twice
returns-clause-twice c = λ a h. h.0 a (inl refl) refl refl

pub returns-clause-begun : goal.returns-clause-begun
returns-clause-begun c = refl

pub returns-clause-lines : goal.returns-clause-lines
returns-clause-lines c = refl

pub returns-clause-whole : goal.returns-clause-whole
returns-clause-whole c = (refl, refl, refl)

pub returns-clause-not_whole : goal.returns-clause-not_whole
returns-clause-not_whole c = λ h. let wrong : 1 ≡ 0 = h.0 in absurd (omega (arith, wrong))
