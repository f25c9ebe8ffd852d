-- The decimal text of a number below 2^64 is read as that number.
use Rattle.std.proofs.Common.{◌≡◌, ◌∙◌, ℕ, false, true, Result, Ok, Err, sym, ap}
use Rattle.std.specs.Fmt.{decimal}
use Rattle.std.proofs.lemmas.Fmt.{parse-decimal}
use Rattle.mp_app.proofs.words.read_number.Goals as goal

same_ok : {E : Type 0} {m n : ℕ} → ◌≡◌ {A = Result ℕ E} (Ok m) (Ok n) → m ≡ n
same_ok e = cc

no_true : false ≡ true → ⊥
no_true is = cc

no_ok : {E : Type 0} {e : E} {n : ℕ} → ◌≡◌ {A = Result ℕ E} (Err e) (Ok n) → ⊥
no_ok is = cc

pub returns-in-Ok-2-clause-none : goal.returns-in-Ok-2-clause-none
returns-in-Ok-2-clause-none c = λ none number small is.
    let same = same_ok (sym c.in-Ok.is ∙ parse-decimal 64 number c.args.word.now c.parse.result small small is c.parse.ensures.value.0) in
    no_true (sym c.if-is_word.false ∙ c.is_word.ensures.1 (c.format.ensures.text ∙ ap decimal same ∙ sym is))

pub returns-in-Err-clause-none : goal.returns-in-Err-clause-none
returns-in-Err-clause-none c = λ none number small is.
    no_ok (sym c.in-Err.is ∙ parse-decimal 64 number c.args.word.now c.parse.result small small is c.parse.ensures.value.0)
