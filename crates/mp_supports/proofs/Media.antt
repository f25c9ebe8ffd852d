-- What the media hold, where a step makes nothing and forces nothing, and where it makes an mtr or forces.
use Rattle.std.proofs.Common.{◌≡◌, ℕ, ◌<◌, Bool, true, false, List, [], ◌∷◌, ◌++◌, length, map, reverse, sym, ap, subst, ◌∙◌, append_assoc, append-nil, arith}
use Rattle.std.specs.List.{AllByRecursion}
use Rattle.std.proofs.lemmas.List.{map-append, reverse-append}
use Rattle.mp_script.proofs.Lists.{all_append}
use Rattle.mp_cells.specs.declared.records.Mtr.{Mtr}
use Rattle.mp_core_trx.specs.declared.opening.TrxOpening.{TrxOpening}
use Rattle.mp_core_pages.specs.declared.part.Placed.{Placed}
use Rattle.mp_core_pages.specs.PageParts.{durable_llsn, last_llsn}
use Rattle.mp_core.specs.declared.part.CorePart.{CorePart}
use Rattle.mp_core.specs.Contents.{page_ops}
use Rattle.mp_core.specs.CoreExtends.{durable_of, CoreExtends}
use Rattle.mp_log.specs.Logs.{IsLog}
use Rattle.mp_log.specs.Tails.{TailView, LogStands}
use Rattle.mp_supports.specs.Work.{Work}
use Rattle.mp_supports.specs.Steps.{MadeOne, Forced}
use Rattle.mp_supports.specs.Agreement.{last_made_llsn}
use Rattle.mp_supports.specs.Media.{mtrs_in_order, above_base, IsOnImage, OnDisk}
use Rattle.mp_supports.proofs.Unchanged.{same_last}
use Rattle.mp_supports.proofs.KeptBatches.{kept_batches}

module _ (p q : CorePart) (e : CoreExtends p q) (made : q.pages.made ≡ p.pages.made) (durables : q.pages.durables ≡ p.pages.durables) where
  same_durable : durable_of q ≡ durable_of p
  same_durable = ap (λ l. durable_llsn q.trx.opening.base.llsn l) durables ∙ ap (λ (o : TrxOpening). durable_llsn o.base.llsn p.pages.durables) e.trx.same_opening

  same_order : mtrs_in_order q ≡ mtrs_in_order p
  same_order = ap (λ (l : List (Placed Mtr)). mtrs_in_order (record p { pages = record (p.pages) { made = l } })) made

  image_kept : (work : Work) (number : ℕ) (c : List ℕ) → IsOnImage work number p c → IsOnImage work number q c
  image_kept work number c h = record {
    batches = h.batches;
    text = h.text;
    log = h.log;
    later = h.later;
    front = same_order ∙ h.front;
    covers = subst (λ n. AllByRecursion (λ (mtr : Mtr). n < mtr.llsn) h.later) (sym same_durable) h.covers;
  }

  pub disk_kept : (work : Work) (down : ℕ) (tail : TailView) (unforced tells : Bool) (seen : List ℕ) (image : List ℕ → Type 0) → OnDisk work p down tail unforced tells seen image → OnDisk work q down tail unforced tells seen image
  disk_kept work down tail unforced tells seen image h = record {
    images = λ told c is. image_kept work tail.node c (h.images told c is);
    live = λ live told. let stands = h.live live told in (stands.0, stands.1, stands.2, same_order ∙ stands.3, subst (λ n. AllByRecursion (λ (mtr : Mtr). n < mtr.llsn) stands.1) (sym same_durable) stands.4);
    last = λ some. h.last (let count : length q.pages.made ≡ length p.pages.made = ap (λ (l : List (Placed Mtr)). length l) made in omega (arith, some, count)) ∙ sym (same_last p q e made);
    forced = λ none. let both = h.forced none in (same_last p q e made ∙ both.0 ∙ sym same_durable, both.1);
    closed = h.closed;
  }

-- the mtr that was made comes last
order_more : (p q : CorePart) (x : Placed Mtr) → q.pages.made ≡ x ∷ p.pages.made → mtrs_in_order q ≡ mtrs_in_order p ++ x.mtr ∷ []
order_more p q x made =
    ap (λ (l : List (Placed Mtr)). map (λ (y : Placed Mtr). y.mtr) (reverse l)) made
    ∙ ap (λ (l : List (Placed Mtr)). map (λ (y : Placed Mtr). y.mtr) l) (reverse-append (x ∷ []) p.pages.made)
    ∙ map-append (λ (y : Placed Mtr). y.mtr) (reverse p.pages.made) (x ∷ [])

module _ (work : Work) (p q : CorePart) (down : ℕ) (tells : Bool) (seen : List ℕ) (image : List ℕ → Type 0) where
  -- one mtr more, which isn't durable, was appended
  pub disk_made : (x : Placed Mtr) (old tail : TailView) (unforced : Bool) → MadeOne x p q → durable_of q < x.mtr.llsn → OnDisk work p down old unforced tells seen image
      → ((batches : List (List Mtr)) (pending : List Mtr) → LogStands batches pending old seen image → LogStands batches (pending ++ x.mtr ∷ []) tail seen image)
      → tail.node ≡ old.node → tail.last ≡ x.mtr.llsn → tail.live ≡ old.live → OnDisk work q down tail true tells seen image
  disk_made x old tail unforced step above h appended node last live = record {
    images = λ told c is.
        let before = h.images told c is in
        record {
          batches = before.batches;
          text = before.text;
          log = subst (λ n. IsLog n before.batches) (sym node) before.log;
          later = before.later ++ x.mtr ∷ [];
          front = order_more p q x step.made ∙ ap (λ l. l ++ x.mtr ∷ []) before.front ∙ append_assoc (above_base work before.batches) before.later (x.mtr ∷ []);
          covers = undurable before.later before.covers;
        };
    live = λ is_live told.
        let stands = h.live (sym live ∙ is_live) told in (
          stands.0,
          stands.1 ++ x.mtr ∷ [],
          appended stands.0 stands.1 stands.2,
          order_more p q x step.made ∙ ap (λ l. l ++ x.mtr ∷ []) stands.3 ∙ append_assoc (above_base work stands.0) stands.1 (x.mtr ∷ []),
          undurable stands.1 stands.4,
        );
    last = λ some. last ∙ sym (ap (λ (l : List (Placed Mtr)). last_llsn page_ops q.trx.opening.base.llsn l) step.made);
    forced = λ e. absurd (true_false e);
    closed = λ e. h.closed (sym live ∙ e);
  }
    where
      true_false : true ≡ false → ⊥
      true_false e = cc

      durable : durable_of q ≡ durable_of p
      durable = ap (λ l. durable_llsn q.trx.opening.base.llsn l) step.durables ∙ ap (λ (o : TrxOpening). durable_llsn o.base.llsn p.pages.durables) step.extends.trx.same_opening

      undurable : (mtrs : List Mtr) → AllByRecursion (λ (mtr : Mtr). durable_of p < mtr.llsn) mtrs → AllByRecursion (λ (mtr : Mtr). durable_of q < mtr.llsn) (mtrs ++ x.mtr ∷ [])
      undurable mtrs each = all_append (λ (mtr : Mtr). durable_of q < mtr.llsn) mtrs (x.mtr ∷ []) (subst (λ n. AllByRecursion (λ (mtr : Mtr). n < mtr.llsn) mtrs) (sym durable) each) (above, tt)

  -- all was forced, and the durable LLSN says so
  pub disk_forced : (tail : TailView) (batches : List (List Mtr)) → Forced (last_made_llsn p) p q → LogStands batches [] tail seen image → mtrs_in_order p ≡ above_base work batches
      → tail.live ≡ true → (0 < length p.pages.made → tail.last ≡ last_made_llsn p) → OnDisk work q down tail false tells seen image
  disk_forced tail batches step stands order is_live last = record {
    images = λ told c is. record { batches = batches; text = stands.images c is; log = kept_batches batches [] tail seen image stands; later = []; front = all; covers = tt };
    live = λ live told. (batches, [], stands, all, tt);
    last = λ some. last (let count : length q.pages.made ≡ length p.pages.made = ap (λ (l : List (Placed Mtr)). length l) step.made in omega (arith, some, count)) ∙ sym (same_last p q step.extends step.made);
    forced = λ e. (same_last p q step.extends step.made ∙ sym (ap (λ l. durable_llsn q.trx.opening.base.llsn l) step.durables), stands.bytes);
    closed = λ e. absurd (true_false (sym is_live ∙ e));
  }
    where
      true_false : true ≡ false → ⊥
      true_false e = cc

      all : mtrs_in_order q ≡ above_base work batches ++ []
      all = ap (λ (l : List (Placed Mtr)). map (λ (y : Placed Mtr). y.mtr) (reverse l)) step.made ∙ order ∙ sym (append-nil (above_base work batches))
