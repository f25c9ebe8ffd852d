-- The agreement of small pools with small parts.
use Rattle.std.proofs.Common.{◌≡◌, ℕ, ◌<◌, ◌==◌, Bool, true, false, if◌then◌else◌, List, [], ◌∷◌, Option, Some, None, refl, sym, ap, ◌∙◌, subst, arith, ne_eqb}
use mathlib.Core.Logic.{dite}
use native.Mathlib.Decide.{ℕ_discrete}
use Rattle.mp_cells.specs.PageView.{PageView, blank_page}
use Rattle.mp_core_pages.specs.PageParts.{gave_at, content_at, own_llsn}
use Rattle.mp_core_pages.proofs.Choices.{if_equal, if_differs}
use Rattle.mp_core.specs.Contents.{page_ops}
use Rattle.mp_buffer_fusion.specs.declared.buffer.Buffer.{Buffer}
use Rattle.mp_buffer_fusion.specs.Buffers.{buffer_of}
use Rattle.mp_buffer_fusion.specs.Agreement.{IsDirty, AgreesWith}
use Rattle.mp_buffer_fusion.specs.PoolExamples.{blank_buffer, given_part, owing_part}
use Rattle.mp_buffer_fusion.proofs.Buffered.{not_some}

shows_five : (clean : Bool) (k : ℕ) (b : Buffer) → buffer_of (blank_buffer 5 clean ∷ []) k ≡ Some b → content_at page_ops given_part.contents k ≡ Some b.page
shows_five clean k b is =
    dite (ℕ_discrete k 1)
    (λ same.
    let first : Some (blank_buffer 5 clean) ≡ Some b = sym (if_equal k 1 (Some (blank_buffer 5 clean)) None same) ∙ is in
    let one : blank_buffer 5 clean ≡ b = cc in
    if_equal k 1 (Some (blank_page 5)) None same ∙ ap (λ (x : Buffer). Some x.page) one)
    (λ other. not_some (buffer_of (blank_buffer 5 clean ∷ []) k) b (if_differs k 1 (Some (blank_buffer 5 clean)) None other) is)

pub content_agrees : AgreesWith (blank_buffer 5 true ∷ []) given_part
content_agrees = record { shows = shows_five true; keeps = λ k less. absurd (omega (arith, less)) }

own_else : (k : ℕ) → ¬ (k ≡ 1) → own_llsn page_ops owing_part.made k ≡ 0
own_else k other = ap (λ t. if (if t then true else false) then 5 else 0) (ne_eqb k 1 other)

pub owing_agrees : AgreesWith (blank_buffer 5 false ∷ []) owing_part
owing_agrees = record {
  shows = shows_five false;
  keeps = λ k less.
      dite (ℕ_discrete k 1)
      (λ same. subst IsDirty (sym (if_equal k 1 (Some (blank_buffer 5 false)) None same)) refl)
      (λ other. let none = own_else k other in absurd (omega (arith, none, less)));
}

pub other_differs : ¬ AgreesWith (blank_buffer 4 true ∷ []) given_part
other_differs agrees =
    let shown : Some (blank_page 5) ≡ Some (blank_page 4) = agrees.shows 1 (blank_buffer 4 true) refl in
    let one : blank_page 5 ≡ blank_page 4 = cc in
    let llsns : 5 ≡ 4 = ap (λ (y : PageView). y.llsn) one in
    absurd (omega (arith, llsns))

pub clean_differs : ¬ AgreesWith (blank_buffer 5 true ∷ []) owing_part
clean_differs agrees = let dirty : true ≡ false = agrees.keeps 1 (omega arith) in absurd (cc)

pub dropped_differs : ¬ AgreesWith [] owing_part
dropped_differs agrees = agrees.keeps 1 (omega arith)
