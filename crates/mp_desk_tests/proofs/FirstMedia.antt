-- A log without an mtr agrees with the part of a primary that made none.
use Rattle.std.proofs.Common.{◌≡◌, ℕ, Bool, true, false, nat_lt, cond, if◌then◌else◌, List, [], ◌∷◌, ◌++◌, map, filter, length, reverse, Some, None, refl, sym, ap, ◌∙◌, subst, arith}
use Rattle.mp_machine.specs.View.{part_in}
use Rattle.mp_cells.specs.declared.records.Mtr.{Mtr}
use Rattle.mp_cells.specs.PageView.{PageView}
use Rattle.mp_core_pages.specs.declared.part.PagesPart.{PagesPart}
use Rattle.mp_core_pages.specs.PageParts.{last_llsn, durable_llsn}
use Rattle.mp_core.specs.Contents.{page_ops}
use Rattle.mp_outside.specs.declared.disks.Disk.{Ghosts}
use Rattle.mp_log.specs.Logs.{mtrs_of, IsLog}
use Rattle.mp_log.specs.Opening.{IsOpened, first_above}
use Rattle.mp_shared.specs.Nodes.{NodeView}
use Rattle.mp_buffer_fusion.proofs.Visiting.{one_part}
use Rattle.mp_supports.specs.Work.{Work}
use Rattle.mp_supports.specs.Media.{mtrs_in_order, above_base, OnDisk}
use Rattle.mp_desk.specs.declared.media.Media.{Media}
use Rattle.mp_desk.specs.Making.{HoldsPartOf, MediaAgreeSomehow}
use Rattle.mp_desk_tests.specs.Handover.{KnowsNoPage, IsFreshLog}

none_above : (base : ℕ) (mtrs : List Mtr) → first_above base (map (λ mtr. mtr.llsn) mtrs) ≡ None
    → filter (λ mtr. nat_lt base mtr.llsn) mtrs ≡ []
none_above base [] none = refl
none_above base (m ∷ mtrs) none = by_test (nat_lt base m.llsn) refl (none_above base mtrs)
  where
    by_test : (t : Bool) → nat_lt base m.llsn ≡ t
        → (first_above base (map (λ (mtr : Mtr). mtr.llsn) mtrs) ≡ None → filter (λ (mtr : Mtr). nat_lt base mtr.llsn) mtrs ≡ [])
        → filter (λ (mtr : Mtr). nat_lt base mtr.llsn) (m ∷ mtrs) ≡ []
    by_test true is rest =
        let first : Some m.llsn ≡ None = sym
        (ap (λ (b : Bool). if b then Some m.llsn else first_above base (map (λ (mtr : Mtr). mtr.llsn) mtrs)) is) ∙ none in
        absurd (cc)
    by_test false is rest =
        ap (λ (b : Bool). cond b (m ∷ filter (λ (mtr : Mtr). nat_lt base mtr.llsn) mtrs)
        (filter (λ (mtr : Mtr). nat_lt base mtr.llsn) mtrs)) is
        ∙ rest (sym (ap (λ (b : Bool). if b then Some m.llsn else first_above base (map (λ (mtr : Mtr). mtr.llsn) mtrs)) is) ∙ none)

module _ {D : Type 0} (g : Ghosts D) (media : Media D) (p : ℕ) (n : NodeView) (k : KnowsNoPage n p) (log : IsFreshLog g p media.log)
    (forced : media.unforced ≡ false) where
  abbrev work : Work
  work = record { lines = []; sessions = []; base = k.mine.trx.opening.base }

  none_made : mtrs_in_order k.mine ≡ []
  none_made = ap (λ (x : PagesPart PageView Mtr). map (λ y. y.mtr) (reverse x.made)) k.pages

  front : (o : IsOpened p media.log.tail media.log.llsns (g.seen media.log.disk) (g.image media.log.disk))
      → mtrs_in_order k.mine ≡ above_base work o.batches ++ []
  front o =
      let above : first_above k.mine.trx.opening.base.llsn media.log.llsns ≡ None = subst (λ b. first_above b media.log.llsns ≡ None)
      (sym k.base) log.none in
      let none = none_above k.mine.trx.opening.base.llsn (mtrs_of o.batches)
      (sym (ap (first_above k.mine.trx.opening.base.llsn) o.llsns_are) ∙ above) in
      none_made ∙ sym (ap (λ (l : List Mtr). l ++ []) none)

  on_disk : OnDisk work k.mine 0 media.log.tail media.unforced (g.tells media.log.disk) (g.seen media.log.disk) (g.image media.log.disk)
  on_disk = record {
    images = λ tells c image.
        let o = log.opened tells in
        record { batches = o.batches; text = o.stands.images c image; log = subst (λ m. IsLog m o.batches) (sym log.takes.node) o.log; later = []; front = front o; covers = tt };
    live = λ alive tells. let o = log.opened tells in (o.batches, [], o.stands, front o, tt);
    last = λ some. let none = ap (λ (x : PagesPart PageView Mtr). length x.made) k.pages in absurd (omega (arith, some, none));
    forced = λ it. (
      ap (λ (x : PagesPart PageView Mtr). last_llsn page_ops k.mine.trx.opening.base.llsn x.made) k.pages
          ∙ sym (ap (λ (x : PagesPart PageView Mtr). durable_llsn k.mine.trx.opening.base.llsn x.durables) k.pages),
      log.nothing,
    );
    closed = λ dead. let both : true ≡ false = sym log.takes.live ∙ dead in absurd (cc);
  }

  pub media_first : MediaAgreeSomehow g media p n
  media_first = (
    work,
    λ q has. subst (HoldsPartOf g work 0 p media) (one_part (part_in n.parts p) k.mine q k.holds has) record {
      base = refl;
      node = log.takes.node;
      on_disk = on_disk;
      some_made = λ it. let both : true ≡ false = sym it ∙ forced in absurd (cc);
    },
  )
