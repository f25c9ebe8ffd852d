-- Pages with one LLSN that have the same bytes are one page.
use Rattle.std.proofs.Common.{◌≡◌, ℕ, ◌^◌, ◌<◌, Bool, true, false, ◌&&◌, List, [], ◌∷◌, eqb, IsTrue, refl, sym, ap, ◌∙◌, arith}
use lib.Pointwise.{pointwise}
use Rattle.std.proofs.lemmas.Bool.{eq-eqb, and_from}
use Rattle.std.specs.Cmp.Lexicographic.{same_text}
use Rattle.mp_cells.specs.PageView.{PageView, IsPage, SameContent}
use Rattle.mp_cells.proofs.SamePages.{page_with}
use Rattle.mp_page.specs.Grammar.{spelling, page_of}
use Rattle.mp_page.proofs.PageAgain.{spelling-sound}
use Rattle.mp_page.proofs.page.Page.shows_as.Goals as goal

itself : (xs : List ℕ) → pointwise eqb xs xs ≡ true
itself [] = refl
itself (x ∷ xs) = and_from _ _ (eq-eqb x x refl) (itself xs)

at_zero : (page : PageView) → IsPage page → page_of (spelling (record page { llsn = 0 })) ≡ record page { llsn = 0 }
at_zero page h = (spelling-sound (record page { llsn = 0 }) (page_with page (record page { llsn = 0 }) refl (omega arith) h)).1

same_content : (page other : PageView) → IsPage page → IsPage other → spelling (record page { llsn = 0 }) ≡ spelling (record other { llsn = 0 }) → SameContent page other
same_content page other h k e =
    let same : record page { llsn = 0 } ≡ record other { llsn = 0 } = sym (at_zero page h) ∙ ap page_of e ∙ at_zero other k in
    ap (λ (p : PageView). record p { llsn = other.llsn }) same

pub returns : goal.returns
returns c = (
  λ h. same_content c.args.self.now c.args.other.now c.content_bytes.ensures.page c.content_bytes-2.ensures.page
      (sym c.content_bytes.ensures.value ∙ same_text c.content_bytes.result c.content_bytes-2.result (sym h ∙ c.eq.ensures) ∙ c.content_bytes-2.ensures.value),
  λ same.
      let bytes : c.content_bytes.result ≡ c.content_bytes-2.result = c.content_bytes.ensures.value ∙ ap (λ (p : PageView). spelling (record p { llsn = 0 })) same ∙ sym c.content_bytes-2.ensures.value in
      c.eq.ensures ∙ ap (λ (xs : List ℕ). pointwise eqb xs c.content_bytes-2.result) bytes ∙ itself c.content_bytes-2.result,
)
