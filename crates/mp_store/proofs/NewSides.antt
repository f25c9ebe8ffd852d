-- What a new side is read as.
use Rattle.std.proofs.Common.{◌≡◌, ℕ, ◌^◌, ◌<◌, List, [], true, refl, ap, ◌∙◌, arith}
use Rattle.byteorder.specs.Numbers.{little_number-reads_back}
use Rattle.mp_cells.specs.Numbers.{number_at}
use Rattle.mp_cells.specs.PageView.{PageView, IsPage}
use Rattle.mp_page.specs.Grammar.{spelling, header_bytes}
use Rattle.mp_page.proofs.PageAgain.{spelling-sound}
use Rattle.mp_store.specs.declared.headers.Header.{Header}
use Rattle.mp_store.specs.Layout.{is_open}
use Rattle.mp_store.specs.HeaderSides.{header_body, header_of}
use Rattle.mp_store.specs.PageSides.{page_body, page_generation, page_llsn, page_in}
use Rattle.mp_store.specs.SideWrites.{open_side}

-- an open side of a generation with this page
pub record Shows (side : List ℕ) (generation : ℕ) (page : PageView) : Type 0 where
  pub opened : is_open side ≡ true
  pub generation_is : page_generation side ≡ generation
  pub llsn_is : page_llsn side ≡ page.llsn
  pub page_is : page_in side ≡ page

pub page_shown : (generation : ℕ) (page : PageView) → generation < 2 ^ 64 → IsPage page → Shows (open_side (page_body generation page)) generation page
unfolding page_body number_at spelling header_bytes
page_shown generation page fits h = record {
  opened = refl;
  generation_is = little_number-reads_back 8 generation [] fits;
  llsn_is = little_number-reads_back 8 page.llsn [] (omega (arith, h.llsn));
  page_is = (spelling-sound page h).1;
}

abbrev made : ℕ → ℕ → ℕ → ℕ → Header
made generation base llsn version = record { generation = generation; base = base; llsn = llsn; version = version }

made_same : (g b l v g' b' l' v' : ℕ) → g ≡ g' → b ≡ b' → l ≡ l' → v ≡ v' → made g b l v ≡ made g' b' l' v'
made_same g b l v g' b' l' v' e f h i = ap (λ x. made x b l v) e ∙ ap (λ x. made g' x l v) f ∙ ap (λ x. made g' b' x v) h ∙ ap (λ x. made g' b' l' x) i

pub header_shown : (header : Header) → header.generation < 2 ^ 64 → header.base < 2 ^ 64 → header.llsn < 2 ^ 64 → header.version < 2 ^ 64 → header_of (open_side (header_body header)) ≡ header
unfolding header_body header_of number_at
header_shown header g b l v =
    made_same _ _ _ _ header.generation header.base header.llsn header.version (little_number-reads_back 8 header.generation [] g) (little_number-reads_back 8 header.base [] b)
    (little_number-reads_back 8 header.llsn [] l) (little_number-reads_back 8 header.version [] v)
