-- What the media hold after a force, and after one that was refused; and what the step tells that says so.
use Rattle.std.proofs.Common.{◌≡◌, ◌≢◌, ℕ, ◌<◌, ◌≤◌, nat_lt, Bool, true, false, cond, List, [], ◌∷◌, ◌++◌, length, map, filter, reverse, Some, refl, sym, ap, subst, ◌∙◌, inl, inr, ⊎_elim, append-nil, arith}
use Rattle.std.specs.List.{AllByRecursion}
use Rattle.std.proofs.lemmas.Bool.{lt-ltb, false≢true}
use Rattle.std.proofs.lemmas.List.{map-append, reverse-append}
use Rattle.std.proofs.lemmas.List.Elements.{filter-append}
use Rattle.mp_machine.specs.Machine.{run}
use Rattle.mp_machine.specs.View.{part_in}
use Rattle.mp_machine.proofs.Lists.{grows_refl, grows_one}
use Rattle.mp_script.proofs.Lists.{all_append}
use Rattle.mp_cells.specs.declared.records.Mtr.{Mtr}
use Rattle.mp_core_trx.proofs.Growth.{extends_refl}
use Rattle.mp_core_pages.specs.declared.part.Placed.{Placed}
use Rattle.mp_core_pages.specs.declared.event.PagesEvent.TheVariants.{StoreDurable}
use Rattle.mp_core_pages.specs.PageEvents.{with_durable}
use Rattle.mp_core_pages.specs.PageInvariant.{Ascends}
use Rattle.mp_core_pages.specs.PageParts.{last_llsn}
use Rattle.mp_core.specs.declared.part.CorePart.{CorePart}
use Rattle.mp_core.specs.declared.event.CoreEvent.TheVariants.{Pages}
use Rattle.mp_core.specs.Contents.{page_ops}
use Rattle.mp_core.specs.CoreExtends.{durable_of, CoreExtends}
use Rattle.mp_core.specs.World.{core}
use Rattle.mp_core.proofs.Downs.{downs_extend_refl}
use Rattle.mp_core.proofs.Law.{law}
use Rattle.mp_log.specs.Logs.{mtrs_of, most_batch_bytes, with_batch, IsLog, IsText, HoldsEither}
use Rattle.mp_log.specs.Tails.{TailView, LogStands}
use Rattle.mp_log.proofs.Opened.{mtrs_more}
use Rattle.mp_shared.specs.Nodes.{Run, NodeView, Reached, TookUnseen}
use Rattle.mp_shared.specs.PageSteps.{with_pages}
use Rattle.mp_shared.proofs.PageCalls.{pages_changed, part_after}
use Rattle.mp_shared.proofs.PageTold.{by_pages}
use Rattle.mp_buffer_fusion.proofs.Visiting.{one_part}
use Rattle.mp_supports.specs.Work.{Work}
use Rattle.mp_supports.specs.Steps.{Forced}
use Rattle.mp_supports.specs.Agreement.{last_made_llsn}
use Rattle.mp_supports.proofs.Extending.{core_extends_refl}
use Rattle.mp_supports.proofs.Unchanged.{same_last}
use Rattle.mp_supports.specs.Media.{mtrs_in_order, above_base, OnDisk}
use Rattle.mp_supports.proofs.KeptBatches.{kept_batches, kept_with_batch}
use Rattle.mp_desk.specs.declared.desk.Desk.{Desk}
use Rattle.mp_desk.specs.Desks.{DeskAgrees, Moves, IsAtDesk}
use Rattle.mp_desk.specs.Making.{AllForced}
use Rattle.mp_desk.proofs.Moving.{moves_pages, moves_as, holds_on, locks_pages}
use Rattle.mp_desk.proofs.MtrMade.{durable_made}

-- ---- the step

pub forced_extends : (q r : CorePart) → AllForced q r → CoreExtends q r
forced_extends q r (durable, inl same) = subst (CoreExtends q) (sym same) (core_extends_refl q)
forced_extends q r (durable, inr forced) = forced.extends

forced_one : (q : CorePart) (v : ℕ) → durable_of q ≤ v → Forced v q (pages_changed (with_durable v) 1 q)
forced_one q v more = record {
  extends = record {
    trx = extends_refl q.trx;
    pages = record {
      more_made = grows_refl q.pages.made;
      more_durables = grows_one q.pages.durables v;
      more_locks = grows_refl q.pages.locks;
      more_frames = grows_refl q.pages.frames;
      more_gave = grows_refl q.pages.gave;
      more_contents = grows_refl q.pages.contents;
      more_given = grows_refl q.pages.given;
    };
    durable = more;
    made_later = λ x there. inl there;
    given_later = λ g there. inl there;
    downs = downs_extend_refl q.downs;
  };
  trx = refl;
  made = refl;
  locks = refl;
  given = refl;
  durables = refl;
}

module _ (before after : NodeView) (p v : ℕ) (q : CorePart) (has : part_in before.parts p ≡ Some q) (is : v ≡ last_made_llsn q) (more : durable_of q ≤ v) (took : TookUnseen (Pages (StoreDurable p v)) before after) where
  becomes : after ≡ with_pages before p (with_durable v) 1
  becomes = took.1.becomes ∙ by_pages before (StoreDurable p v) took.0 took.1.note (with_durable v) (λ l. refl) refl

  abbrev pub forced_part : CorePart
  forced_part = pages_changed (with_durable v) 1 q

  pub has_forced : part_in after.parts p ≡ Some forced_part
  has_forced = ap (λ (n : NodeView). part_in n.parts p) becomes ∙ part_after before p q has (with_durable v) 1

  pub step_forced : Forced (last_made_llsn q) q forced_part
  step_forced = subst (λ l. Forced l q forced_part) is (forced_one q v more)

  pub now_durable : last_made_llsn forced_part ≡ durable_of forced_part
  now_durable = sym is

  pub moves_forced : Moves AllForced p before after
  moves_forced = moves_pages p before after q has AllForced (with_durable v) 1 becomes (now_durable, inr step_forced)

  pub forced_at_desk : (run : Run) (desk : Desk) → IsAtDesk run desk p before → Reached after → IsAtDesk run desk p after
  forced_at_desk run desk at reached = record {
    its_run = moves_forced.run ∙ at.its_run;
    reached = reached;
    part = holds_on p before after (moves_as p AllForced CoreExtends forced_extends before after moves_forced) p at.part;
    frames = moves_forced.frames ∙ at.frames;
    agrees = λ r there.
        let was = at.agrees q has in
        subst (DeskAgrees desk) (one_part (part_in after.parts p) forced_part r has_forced there) record {
          pool = record { shows = was.pool.shows; keeps = was.pool.keeps };
          not_below = was.not_below;
          not_above = was.not_above;
          seen = was.seen;
          undo_page = was.undo_page;
        };
    written = λ k b is dirty. locks_pages p before after q has (with_durable v) 1 refl becomes k ∙ at.written k b is dirty;
  }

-- all is durable already
pub not_forced : (p : ℕ) (n : NodeView) → ((q : CorePart) → part_in n.parts p ≡ Some q → last_made_llsn q ≡ durable_of q) → Moves AllForced p n n
not_forced p n durable = record { run = refl; frames = refl; others = λ k other. refl; mine = λ q has. (q, has, (durable q has, inl refl), refl) }

-- what is durable was made
pub durable_below : (n : NodeView) → Reached n → (p : ℕ) (q : CorePart) → part_in n.parts p ≡ Some q → durable_of q ≤ last_made_llsn q
durable_below n reached p q has =
    durable_made n.run.opening reached.fair (run (core n.run.opening) reached.backed.0) (law n.run.opening reached.fair reached.backed.0 reached.backed.1) p q (reached.backed.2 p q has)

-- ---- mtrs above the base

base_least : (base : ℕ) (made : List (Placed Mtr)) → Ascends page_ops base made → base ≤ last_llsn page_ops base made
base_least base [] up = omega arith
base_least base (x ∷ made) up = let rest = base_least base made up.1 in let above = up.0 in omega (arith, rest, above)

abbrev IsAbove : ℕ → Mtr → Type 0
IsAbove base mtr = base < mtr.llsn

made_above : (base : ℕ) (made : List (Placed Mtr)) → Ascends page_ops base made → AllByRecursion (IsAbove base) (map (λ x. x.mtr) (reverse made))
made_above base [] up = tt
made_above base (x ∷ made) up =
    let order : map (λ (y : Placed Mtr). y.mtr) (reverse (x ∷ made)) ≡ map (λ (y : Placed Mtr). y.mtr) (reverse made) ++ x.mtr ∷ [] =
    ap (λ (l : List (Placed Mtr)). map (λ (y : Placed Mtr). y.mtr) l) (reverse-append (x ∷ []) made) ∙ map-append (λ (y : Placed Mtr). y.mtr) (reverse made) (x ∷ []) in
    let least = base_least base made up.1 in
    let above = up.0 in
    subst (AllByRecursion (IsAbove base)) (sym order) (all_append (IsAbove base) (map (λ (y : Placed Mtr). y.mtr) (reverse made)) (x.mtr ∷ []) (made_above base made up.1) (omega (arith, least, above), tt))

all_behind : (P : Mtr → Type 0) (xs ys : List Mtr) → AllByRecursion P (xs ++ ys) → AllByRecursion P ys
all_behind P [] ys all = all
all_behind P (x ∷ xs) ys all = all_behind P xs ys all.1

none_left_out : (base : ℕ) (mtrs : List Mtr) → AllByRecursion (IsAbove base) mtrs → filter (λ mtr. nat_lt base mtr.llsn) mtrs ≡ mtrs
none_left_out base [] all = refl
none_left_out base (mtr ∷ mtrs) all =
    ap (λ (t : Bool). cond t (mtr ∷ filter (λ (m : Mtr). nat_lt base m.llsn) mtrs) (filter (λ (m : Mtr). nat_lt base m.llsn) mtrs)) (lt-ltb base mtr.llsn all.0)
    ∙ ap (λ (l : List Mtr). mtr ∷ l) (none_left_out base mtrs all.1)

batch_more : (batches : List (List Mtr)) (pending : List Mtr) → mtrs_of (with_batch batches pending) ≡ mtrs_of batches ++ pending
batch_more batches [] = sym (append-nil (mtrs_of batches))
batch_more batches (mtr ∷ pending) = mtrs_more batches (mtr ∷ pending)

-- ---- the media

module _ (work : Work) (q : CorePart) (base : q.trx.opening.base ≡ work.base) (up : Ascends page_ops q.trx.opening.base.llsn q.pages.made) where
  pending_above : (batches : List (List Mtr)) (pending : List Mtr) → mtrs_in_order q ≡ above_base work batches ++ pending → AllByRecursion (IsAbove work.base.llsn) pending
  pending_above batches pending order =
      all_behind (IsAbove work.base.llsn) (above_base work batches) pending
      (subst (AllByRecursion (IsAbove work.base.llsn)) order (subst (λ b. AllByRecursion (IsAbove b.llsn) (mtrs_in_order q)) base (made_above q.trx.opening.base.llsn q.pages.made up)))

  -- the new batch has all that was appended
  whole_order : (batches : List (List Mtr)) (pending : List Mtr) → mtrs_in_order q ≡ above_base work batches ++ pending → mtrs_in_order q ≡ above_base work (with_batch batches pending)
  whole_order batches pending order =
      let test = λ (mtr : Mtr). nat_lt work.base.llsn mtr.llsn in
      order
      ∙ ap (λ (l : List Mtr). above_base work batches ++ l) (sym (none_left_out work.base.llsn pending (pending_above batches pending order)))
      ∙ sym (filter-append test (mtrs_of batches) pending)
      ∙ ap (filter test) (sym (batch_more batches pending))

  module _ (tail later : TailView) (unforced tells : Bool) (seen : List ℕ) (image : List ℕ → Type 0) (h : OnDisk work q 0 tail unforced tells seen image) (live : tail.live ≡ true)
      (seen_after : List ℕ) (image_after : List ℕ → Type 0) (last : later.last ≡ tail.last) where
    -- a force that was refused
    pub media_refused : (down : ℕ) → down ≢ 0 → later.node ≡ tail.node → length tail.bytes ≤ most_batch_bytes → later.live ≡ false → ((batches : List (List Mtr)) (pending : List Mtr) → tells ≡ true → LogStands batches pending tail seen image → HoldsEither batches (with_batch batches pending) image_after)
        → OnDisk work q down later true tells seen_after image_after
    media_refused down some node fits closed either = record {
      images = λ told c is.
          let stands = h.live live told in
          let before = kept_batches stands.0 stands.1 tail seen image stands.2 in
          let more = kept_with_batch stands.0 stands.1 tail seen image stands.2 fits in
          ⊎_elim
          (λ (old : IsText stands.0 c). record { batches = stands.0; text = old; log = subst (λ n. IsLog n stands.0) (sym node) before; later = stands.1; front = stands.3; covers = stands.4 })
          (λ (new : IsText (with_batch stands.0 stands.1) c). record { batches = with_batch stands.0 stands.1; text = new; log = subst (λ n. IsLog n (with_batch stands.0 stands.1)) (sym node) more; later = []; front = whole_order stands.0 stands.1 stands.3 ∙ sym (append-nil (above_base work (with_batch stands.0 stands.1))); covers = tt })
          (either stands.0 stands.1 told stands.2 c is);
      live = λ is told. absurd (false≢true (sym closed ∙ is));
      last = λ some_made. last ∙ h.last some_made;
      forced = λ e. absurd (false≢true (sym e));
      closed = λ _. some;
    }

    -- a force
    pub media_forced : (r : CorePart) → Forced (last_made_llsn q) q r → last_made_llsn r ≡ durable_of r → later.live ≡ true → later.bytes ≡ []
        → ((batches : List (List Mtr)) (pending : List Mtr) → tells ≡ true → LogStands batches pending tail seen image → LogStands (with_batch batches pending) [] later seen_after image_after)
        → OnDisk work r 0 later false tells seen_after image_after
    media_forced r step durable is_open none stands_after = record {
      images = λ told c is.
          let stands = h.live live told in
          let then = stands_after stands.0 stands.1 told stands.2 in
          record { batches = with_batch stands.0 stands.1; text = then.images c is; log = kept_batches (with_batch stands.0 stands.1) [] later seen_after image_after then; later = []; front = order_after stands.0 stands.1 stands.3; covers = tt };
      live = λ is told.
          let stands = h.live live told in
          (with_batch stands.0 stands.1, [], stands_after stands.0 stands.1 told stands.2, order_after stands.0 stands.1 stands.3, tt);
      last = λ some. last ∙ h.last (let count : length r.pages.made ≡ length q.pages.made = ap (λ (l : List (Placed Mtr)). length l) step.made in omega (arith, some, count)) ∙ sym (same_last q r step.extends step.made);
      forced = λ e. (durable, none);
      closed = λ e. absurd (false≢true (sym e ∙ is_open));
    }
      where
        order_after : (batches : List (List Mtr)) (pending : List Mtr) → mtrs_in_order q ≡ above_base work batches ++ pending → mtrs_in_order r ≡ above_base work (with_batch batches pending) ++ []
        order_after batches pending order =
            ap (λ (l : List (Placed Mtr)). map (λ (y : Placed Mtr). y.mtr) (reverse l)) step.made
            ∙ whole_order batches pending order
            ∙ sym (append-nil (above_base work (with_batch batches pending)))
