-- What the media hold goes along with the part.
use Rattle.std.proofs.Common.{◌≡◌, ◌≢◌, ℕ, ◌<◌, ◌≤◌, true, false, List, [], ◌∷◌, ◌++◌, length, Some, sym, ap, subst, ◌∙◌, arith}
use Rattle.mp_machine.specs.View.{part_in}
use Rattle.mp_cells.specs.declared.records.Mtr.{Mtr}
use Rattle.mp_core_trx.specs.declared.opening.TrxOpening.{TrxOpening}
use Rattle.mp_core_pages.specs.declared.part.Placed.{Placed}
use Rattle.mp_core.specs.declared.part.CorePart.{CorePart}
use Rattle.mp_core.specs.CoreExtends.{durable_of, CoreExtends}
use Rattle.mp_outside.specs.declared.disks.Disk.{Ghosts}
use Rattle.mp_log.specs.Logs.{most_batch_bytes, with_batch, HoldsEither}
use Rattle.mp_log.specs.Tails.{LogStands}
use Rattle.mp_shared.specs.Nodes.{NodeView, HoldsPart, Reached}
use Rattle.mp_shared.proofs.Holding.{held_part}
use Rattle.mp_buffer_fusion.proofs.Visiting.{one_part}
use Rattle.mp_supports.specs.Work.{Work}
use Rattle.mp_supports.specs.Steps.{OnlyLooked, MadeOne, Forced}
use Rattle.mp_supports.specs.Agreement.{last_made_llsn}
use Rattle.mp_supports.specs.Media.{OnDisk}
use Rattle.mp_supports.proofs.Media.{disk_kept, disk_made}
use Rattle.mp_desk.specs.declared.media.Media.{Media}
use Rattle.mp_desk.specs.Desks.{Moves}
use Rattle.mp_desk.specs.Making.{HoldsPartOf, MediaAgree}
use Rattle.mp_desk.specs.LetGo.{OnlyGaveBack}
use Rattle.mp_desk.proofs.ForcedMedia.{media_refused, media_forced}
use Rattle.mp_desk.proofs.GivenBack.{part_ascends}

pub not_zero : (p : ℕ) → 1 ≤ p → p ≢ 0
not_zero p one zero_is = absurd (omega (arith, one, zero_is))

-- an mtr or none fewer
count_more : (q r : CorePart) → r.pages.made ≡ q.pages.made → 0 < length q.pages.made → 0 < length r.pages.made
count_more q r made some = let count = ap (λ (l : List (Placed Mtr)). length l) made in omega (arith, some, count)

base_kept : (work : Work) (q r : CorePart) → CoreExtends q r → q.trx.opening.base ≡ work.base → r.trx.opening.base ≡ work.base
base_kept work q r e is = ap (λ (o : TrxOpening). o.base) e.trx.same_opening ∙ is

module _ {D : Type 0} (g : Ghosts D) (work : Work) (p : ℕ) where
  -- a look
  pub part_looked : (down : ℕ) (media : Media D) (q r : CorePart) → OnlyLooked q r → HoldsPartOf g work down p media q → HoldsPartOf g work down p media r
  part_looked down media q r looked h = record {
    base = base_kept work q r looked.extends h.base;
    node = h.node;
    on_disk = disk_kept q r looked.extends looked.made looked.durables work down media.log.tail media.unforced (g.tells media.log.disk) (g.seen media.log.disk) (g.image media.log.disk) h.on_disk;
    some_made = λ e. count_more q r looked.made (h.some_made e);
  }

  pub media_gave_back : (down : ℕ) (media : Media D) (a b : NodeView) → HoldsPart a p → Moves OnlyGaveBack p a b → MediaAgree g work down media p a → MediaAgree g work down media p b
  media_gave_back down media a b held moves agree r there =
      let has = held_part a p held in
      let now = moves.mine has.0 has.1 in
      subst (HoldsPartOf g work down p media) (one_part (part_in b.parts p) now.0 r now.1 there) (part_looked down media has.0 now.0 now.2.looked (agree has.0 has.1))

  -- an mtr was appended
  module _ (old new : Media D) (a b : NodeView) (q : CorePart) (has : part_in a.parts p ≡ Some q) (x : Placed Mtr) (m : Mtr) (its : x.mtr ≡ m) (moves : Moves (MadeOne x) p a b) (above : durable_of q < m.llsn)
      (disk : new.log.disk ≡ old.log.disk) (unforced : new.unforced ≡ true) (node : new.log.tail.node ≡ old.log.tail.node) (last : new.log.tail.last ≡ m.llsn) (live : new.log.tail.live ≡ old.log.tail.live)
      (appended : (batches : List (List Mtr)) (pending : List Mtr) → LogStands batches pending old.log.tail (g.seen old.log.disk) (g.image old.log.disk) → LogStands batches (pending ++ m ∷ []) new.log.tail (g.seen new.log.disk) (g.image new.log.disk)) where
    part_made : (r : CorePart) → MadeOne x q r → HoldsPartOf g work 0 p old q → HoldsPartOf g work 0 p new r
    part_made r step h =
        let durable : durable_of r ≡ durable_of q = ap (λ (o : TrxOpening). durable_of (record r { trx = record (r.trx) { opening = o } })) step.extends.trx.same_opening ∙ ap (λ l. durable_of (record q { pages = record (q.pages) { durables = l } })) step.durables in
        let llsn = ap (λ (y : Mtr). y.llsn) its in
        let d = old.log.disk in
        let on_disk = disk_made work q r 0 (g.tells d) (g.seen d) (g.image d) x old.log.tail new.log.tail old.unforced step (omega (arith, durable, llsn, above)) h.on_disk
        (λ batches pending stands. subst (λ (y : Mtr). LogStands batches (pending ++ y ∷ []) new.log.tail (g.seen d) (g.image d)) (sym its) (subst (λ e. LogStands batches (pending ++ m ∷ []) new.log.tail (g.seen e) (g.image e)) disk (appended batches pending stands)))
        node (last ∙ sym llsn) live in
        record {
          base = base_kept work q r step.extends h.base;
          node = node ∙ h.node;
          on_disk = subst (λ u. OnDisk work r 0 new.log.tail u (g.tells new.log.disk) (g.seen new.log.disk) (g.image new.log.disk)) (sym unforced) (subst (λ e. OnDisk work r 0 new.log.tail true (g.tells e) (g.seen e) (g.image e)) (sym disk) on_disk);
          some_made = λ e. let count = ap (λ (l : List (Placed Mtr)). length l) step.made in omega (arith, count);
        }

    pub media_made : MediaAgree g work 0 old p a → MediaAgree g work 0 new p b
    media_made agree r there =
        let now = moves.mine q has in
        subst (HoldsPartOf g work 0 p new) (one_part (part_in b.parts p) now.0 r now.1 there) (part_made now.0 now.2 (agree q has))

  -- the log was forced, or that was refused
  module _ (old new : Media D) (a : NodeView) (reached : Reached a) (live : old.log.tail.live ≡ true) (tells : g.tells new.log.disk ≡ g.tells old.log.disk) (node : new.log.tail.node ≡ old.log.tail.node) (last : new.log.tail.last ≡ old.log.tail.last) (agree : MediaAgree g work 0 old p a) where
    pub media_not_forced : (down : ℕ) → down ≢ 0 → length old.log.tail.bytes ≤ most_batch_bytes → new.unforced ≡ true → old.unforced ≡ true → new.log.tail.live ≡ false
        → ((batches : List (List Mtr)) (pending : List Mtr) → g.tells old.log.disk ≡ true → LogStands batches pending old.log.tail (g.seen old.log.disk) (g.image old.log.disk) → HoldsEither batches (with_batch batches pending) (g.image new.log.disk))
        → MediaAgree g work down new p a
    media_not_forced down some fits unforced was closed either q has =
        let h = agree q has in
        let on_disk = media_refused work q h.base (part_ascends a reached p q has) old.log.tail new.log.tail old.unforced (g.tells old.log.disk) (g.seen old.log.disk) (g.image old.log.disk) h.on_disk live (g.seen new.log.disk) (g.image new.log.disk) last down some node fits closed either in
        record {
          base = h.base;
          node = node ∙ h.node;
          on_disk = subst (λ u. OnDisk work q down new.log.tail u (g.tells new.log.disk) (g.seen new.log.disk) (g.image new.log.disk)) (sym unforced) (subst (λ t. OnDisk work q down new.log.tail true t (g.seen new.log.disk) (g.image new.log.disk)) (sym tells) on_disk);
          some_made = λ _. h.some_made was;
        }

    part_forced : (q r : CorePart) → part_in a.parts p ≡ Some q → Forced (last_made_llsn q) q r → last_made_llsn r ≡ durable_of r → new.unforced ≡ false → new.log.tail.live ≡ true → new.log.tail.bytes ≡ []
        → ((batches : List (List Mtr)) (pending : List Mtr) → g.tells old.log.disk ≡ true → LogStands batches pending old.log.tail (g.seen old.log.disk) (g.image old.log.disk) → LogStands (with_batch batches pending) [] new.log.tail (g.seen new.log.disk) (g.image new.log.disk))
        → HoldsPartOf g work 0 p new r
    part_forced q r has step durable unforced is_open none stands =
        let h = agree q has in
        let on_disk = media_forced work q h.base (part_ascends a reached p q has) old.log.tail new.log.tail old.unforced (g.tells old.log.disk) (g.seen old.log.disk) (g.image old.log.disk) h.on_disk live (g.seen new.log.disk) (g.image new.log.disk) last r step durable is_open none stands in
        record {
          base = base_kept work q r step.extends h.base;
          node = node ∙ h.node;
          on_disk = subst (λ u. OnDisk work r 0 new.log.tail u (g.tells new.log.disk) (g.seen new.log.disk) (g.image new.log.disk)) (sym unforced) (subst (λ t. OnDisk work r 0 new.log.tail false t (g.seen new.log.disk) (g.image new.log.disk)) (sym tells) on_disk);
          some_made = λ e. absurd (false_true (sym unforced ∙ e));
        }
      where
        false_true : false ≡ true → ⊥
        false_true e = cc

    pub media_forced_on : (b : NodeView) (q : CorePart) → part_in a.parts p ≡ Some q → (r : CorePart) → part_in b.parts p ≡ Some r → Forced (last_made_llsn q) q r → last_made_llsn r ≡ durable_of r → new.unforced ≡ false → new.log.tail.live ≡ true → new.log.tail.bytes ≡ []
        → ((batches : List (List Mtr)) (pending : List Mtr) → g.tells old.log.disk ≡ true → LogStands batches pending old.log.tail (g.seen old.log.disk) (g.image old.log.disk) → LogStands (with_batch batches pending) [] new.log.tail (g.seen new.log.disk) (g.image new.log.disk))
        → MediaAgree g work 0 new p b
    media_forced_on b q has r there step durable unforced is_open none stands s has_s =
        subst (HoldsPartOf g work 0 p new) (one_part (part_in b.parts p) r s there has_s) (part_forced q r has step durable unforced is_open none stands)
