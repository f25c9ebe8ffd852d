-- The texts of the taken pages, one page more.
use Rattle.std.proofs.Common.{◌≡◌, ℕ, ◌+◌, List, ◌++◌, refl, add-one, sym, ap, ◌∙◌, append_assoc}
use Rattle.mp_cells.specs.PageView.{PageView}
use Rattle.mp_commands.specs.Dumps.{taken_text, taken_texts}

pub taken_more : (generation : ℕ) (map : PageView) (number : ℕ) (file : List ℕ)
    → taken_texts generation map (number + 1) file ≡ taken_texts generation map number file ++ taken_text generation map number file
unfolding taken_texts
taken_more generation map number file = rw (add-one) refl

-- behind what was printed
pub printed_more : (generation : ℕ) (map : PageView) (number : ℕ) (file before text after : List ℕ) → text ≡ before ++ taken_texts generation map number file → after ≡ text ++ taken_text generation map number file
    → after ≡ before ++ taken_texts generation map (number + 1) file
printed_more generation map number file before text after so_far this =
    this ∙ ap (λ t. t ++ taken_text generation map number file) so_far ∙ append_assoc before (taken_texts generation map number file) (taken_text generation map number file)
    ∙ ap (λ t. before ++ t) (sym (taken_more generation map number file))
