-- A child's cell is read as the child, and a cell that is read as a child is the cell of that child.
use Rattle.std.proofs.Common.{◌≡◌, ℕ, ◌+◌, ◌<◌, ◌≤◌, ◌&&◌, ◌==◌, true, List, [], ◌∷◌, ◌++◌, length, take, drop, get_or, refl, sym, ap, ◌∙◌, arith}
use Rattle.std.proofs.lemmas.Bool.{and_parts, and_from, leb-true, ltb-true, eqb-true}
use Rattle.std.proofs.lemmas.List.{take-append-drop, get_or-drop, length-drop}
use Rattle.byteorder.specs.Endian.{little_bytes}
use Rattle.byteorder.specs.Numbers.{little_number-reads_back, little_from-lt}
use Rattle.mp_cells.specs.declared.children.Child.{Child}
use Rattle.mp_cells.specs.Numbers.{number_at}
use Rattle.mp_cells.specs.Children.{IsChild, is_child_page}
use Rattle.mp_cells.specs.ChildCell.{child_cell, child_of, is_child_cell}
use Rattle.mp_cells.proofs.NumberBytes.{written_again}

-- the range of a child's page
pub child_page_range : (page : ℕ) → is_child_page page ≡ true → (2 ≤ page) × (page < 4096)
child_page_range page h = let a = and_parts _ _ h in (leb-true _ _ a.0, ltb-true _ _ a.1)

pub child_of-child_cell : (child : Child) (rest : List ℕ) → IsChild child → child_of (child_cell child ++ rest) ≡ child
unfolding child_of child_cell number_at
child_of-child_cell child rest h =
    let page = child_page_range child.page h.page in
    ap (λ (n : ℕ). record { low = n; page = number_at 4 2 (child_cell child ++ rest) }) (little_number-reads_back 4 child.low [] h.low)
    ∙ ap (λ (n : ℕ). record { low = child.low; page = n }) (little_number-reads_back 2 child.page [] (omega (arith, page.1)))

pub length-child_cell : (child : Child) → length (child_cell child) ≡ 8
unfolding child_cell
length-child_cell child = refl

pub is_child_cell-child_cell : (child : Child) (rest : List ℕ) → IsChild child → is_child_cell (child_cell child ++ rest) ≡ true
unfolding is_child_cell child_cell number_at
is_child_cell-child_cell child rest h =
    let page = child_page_range child.page h.page in
    let read : number_at 4 2 (child_cell child ++ rest) ≡ child.page = little_number-reads_back 2 child.page [] (omega (arith, page.1)) in
    and_from _ _ (and_from _ _ (ap is_child_page read ∙ h.page) refl) refl

-- eight bytes, one by one
cells : (bytes : List ℕ) → 8 ≤ length bytes → take 8 bytes ≡ take 4 bytes ++ (take 2 (drop 4 bytes) ++ get_or bytes 6 0 ∷ get_or bytes 7 0 ∷ [])
cells [] h = absurd (omega arith)
cells (a ∷ []) h = absurd (omega arith)
cells (a ∷ b ∷ []) h = absurd (omega arith)
cells (a ∷ b ∷ c ∷ []) h = absurd (omega arith)
cells (a ∷ b ∷ c ∷ d ∷ []) h = absurd (omega arith)
cells (a ∷ b ∷ c ∷ d ∷ e ∷ []) h = absurd (omega arith)
cells (a ∷ b ∷ c ∷ d ∷ e ∷ f ∷ []) h = absurd (omega arith)
cells (a ∷ b ∷ c ∷ d ∷ e ∷ f ∷ g ∷ []) h = absurd (omega arith)
cells (a ∷ b ∷ c ∷ d ∷ e ∷ f ∷ g ∷ i ∷ rest) h = refl

pub child_cell-child_of : (bytes : List ℕ) → 8 ≤ length bytes → ((i : ℕ) → get_or bytes i 0 < 256) → is_child_cell bytes ≡ true → IsChild (child_of bytes) × (take 8 bytes ≡ child_cell (child_of bytes))
unfolding is_child_cell child_of child_cell number_at
child_cell-child_of bytes long fits h =
    let a = and_parts (is_child_page (number_at 4 2 bytes) && get_or bytes 6 0 == 0) (get_or bytes 7 0 == 0) h in
    let b = and_parts (is_child_page (number_at 4 2 bytes)) (get_or bytes 6 0 == 0) a.0 in
    let six : get_or bytes 6 0 ≡ 0 = eqb-true (get_or bytes 6 0) 0 b.1 in
    let seven : get_or bytes 7 0 ≡ 0 = eqb-true (get_or bytes 7 0) 0 a.1 in
    let low : little_bytes 4 (number_at 0 4 bytes) ≡ take 4 bytes = written_again 4 bytes fits (omega arith) in
    let page : little_bytes 2 (number_at 4 2 bytes) ≡ take 2 (drop 4 bytes) = written_again 2 (drop 4 bytes) (λ i. rw (get_or-drop 4 bytes i 0) (fits (4 + i))) (omega (arith, length-drop 4 bytes)) in (
      record { low = little_from-lt 0 4 bytes fits; page = b.0 },
      cells bytes long
          ∙ ap (λ (x : List ℕ). x ++ (take 2 (drop 4 bytes) ++ get_or bytes 6 0 ∷ get_or bytes 7 0 ∷ [])) (sym low)
          ∙ ap (λ (x : List ℕ). little_bytes 4 (number_at 0 4 bytes) ++ (x ++ get_or bytes 6 0 ∷ get_or bytes 7 0 ∷ [])) (sym page)
          ∙ ap (λ (x : ℕ). little_bytes 4 (number_at 0 4 bytes) ++ (little_bytes 2 (number_at 4 2 bytes) ++ x ∷ get_or bytes 7 0 ∷ [])) six
          ∙ ap (λ (x : ℕ). little_bytes 4 (number_at 0 4 bytes) ++ (little_bytes 2 (number_at 4 2 bytes) ++ 0 ∷ x ∷ [])) seven,
    )

pub found : (bytes : List ℕ) → 8 ≤ length bytes → ((i : ℕ) → get_or bytes i 0 < 256) → is_child_cell bytes ≡ true → (child : Child) → child ≡ child_of bytes → IsChild child × (take 8 bytes ≡ child_cell child)
found bytes long fits h child e = rw e (child_cell-child_of bytes long fits h)

pub reads_only : (bytes : List ℕ) (child : Child) → IsChild child → take 8 bytes ≡ child_cell child → (child_of bytes ≡ child) × (is_child_cell bytes ≡ true)
reads_only bytes child h spelled =
    let whole : bytes ≡ child_cell child ++ drop 8 bytes = sym (take-append-drop 8 bytes) ∙ ap (λ (front : List ℕ). front ++ drop 8 bytes) spelled in
    (ap child_of whole ∙ child_of-child_cell child (drop 8 bytes) h, ap is_child_cell whole ∙ is_child_cell-child_cell child (drop 8 bytes) h)
