-- The texts are computed.
use Rattle.std.proofs.Common.{◌≡◌, ℕ, List, get_or, codes, refl, ap, arith}
use Rattle.std.specs.Fmt.{digits}
use Rattle.mp_app.proofs.examples.law_recovered_text.Goals as goal

pub returns-clause-two : goal.returns-clause-two
unfolding digits
returns-clause-two c = λ made base kept undone rows. rw (base, kept, undone, rows) refl

pub returns-clause-undone : goal.returns-clause-undone
unfolding digits
returns-clause-undone c = λ made base kept undone rows. rw (base, kept, undone, rows) refl

-- the byte behind the words of the last line
differ : codes "recovered base 0 kept 0 undone 0\nend rows 0\n" ≡ codes "recovered base 0 kept 0 undone 0\nend rows 1\n" → ⊥
differ same = omega (arith, ap (λ (text : List ℕ). get_or text 42 0) same)

pub returns-clause-count : goal.returns-clause-count
unfolding digits
returns-clause-count c = λ made base kept undone rows is. differ (rw (base, kept, undone, rows) at is)
