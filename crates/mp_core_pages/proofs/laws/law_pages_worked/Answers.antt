use Rattle.std.proofs.Common.{◌≡◌, ℕ, zero, suc, ◌≤◌, [], ◌∷◌, Some, refl, ap, inl, arith}
use Rattle.mp_machine.specs.Lists.{IsIn}
use Rattle.mp_core_pages.specs.declared.opening.Brief.{Brief}
use Rattle.mp_core_pages.specs.Histories.{Touches, oldest, llsn_at, folded}
use Rattle.mp_core_pages.specs.PageInvariant.{IsDurable}
use Rattle.mp_core_pages.specs.Briefs.{llsn_ops}
use Rattle.mp_core_pages.specs.PageExamples.{two_pages, brief}
use Rattle.mp_core_pages.proofs.laws.law_pages_worked.Goals as goal

pub returns-clause-out_of_order : goal.returns-clause-out_of_order
returns-clause-out_of_order c = λ h.
    let rise = h.0.llsns_rise 0 refl in
    let same : ◌≡◌ {A = ℕ} 1 rise.0 = ap (llsn_at llsn_ops) rise.1 in
    let less = rise.2 in
    absurd (omega arith)

-- no first mtrs leave the page at LLSN 1 and are durable
no_prefix : (h : ℕ) → h ≤ 1 → Some 1 ≡ folded llsn_ops two_pages (oldest h (brief 1 1 0 ∷ [])) 0
    → ((m : Brief) → IsIn m (oldest h (brief 1 1 0 ∷ [])) → Touches llsn_ops m 0 → IsDurable llsn_ops 0 (λ _. []) m) → ⊥
no_prefix zero within is durable = let none : ◌≡◌ {A = ℕ} 1 0 = ap (llsn_at llsn_ops) is in absurd (omega arith)
no_prefix (suc zero) within is durable = let all = durable (brief 1 1 0) (inl refl) refl in absurd (omega arith)
no_prefix (suc (suc h)) within is durable = absurd (omega arith)

pub returns-clause-undurable_frame : goal.returns-clause-undurable_frame
returns-clause-undurable_frame c = λ f. no_prefix f.height f.within f.is_folded f.durable

pub returns-clause-given_undurable : goal.returns-clause-given_undurable
returns-clause-given_undurable c = λ g.
    let durable = g.of_others (brief 1 1 0) (inl refl) (λ own. absurd (omega arith)) refl in absurd (omega arith)
