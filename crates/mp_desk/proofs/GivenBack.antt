-- Pages go into their frames, and locks are given back.
use Rattle.std.proofs.Common.{◌≡◌, ℕ, zero, suc, ◌+◌, ◌<◌, ◌≤◌, not, ◌==◌, if◌then◌else◌, ◌⊎◌, Bool, true, false, cond, List, [], ◌∷◌, length, map, slice_get, Option, None, Some, refl, sym, ap, subst, ◌∙◌, inl, inr, ⊎_elim, arith}
use Rattle.std.proofs.lemmas.Bool.{cases_Bool, cases_lt, false≢true}
use Rattle.std.proofs.lemmas.Option.{slice_get-map}
use Rattle.std.specs.Option.{option_map}
use mathlib.Core.Logic.{dite}
use native.Mathlib.Decide.{ℕ_discrete}
use Rattle.mp_machine.specs.Lists.{IsIn}
use Rattle.mp_machine.specs.Machine.{run}
use Rattle.mp_machine.specs.View.{part_in}
use Rattle.mp_machine.proofs.Lists.{grows_refl, grows_one}
use Rattle.mp_cells.specs.declared.records.Mtr.{Mtr}
use Rattle.mp_cells.specs.PageView.{PageView}
use Rattle.mp_core_trx.specs.declared.opening.TrxOpening.{TrxOpening}
use Rattle.mp_core_pages.specs.declared.opening.TheConstants.{PAGES}
use Rattle.mp_core_pages.specs.declared.page_lock.Held.{Held}
use Rattle.mp_core_pages.specs.declared.page_lock.Held.TheVariants.{No, Read, Write}
use Rattle.mp_core_pages.specs.declared.part.ContentStep.TheVariants.{Dropped}
use Rattle.mp_core_pages.specs.declared.part.PagesPart.{PagesPart}
use Rattle.mp_core_pages.specs.declared.part.Placed.{Placed}
use Rattle.mp_core_pages.specs.declared.event.PagesEvent.TheVariants.{UnlockWord}
use Rattle.mp_core_pages.specs.Histories.{is_touched}
use Rattle.mp_core_pages.specs.PageEvents.{with_unlock}
use Rattle.mp_core_pages.specs.PageInvariant.{Ascends}
use Rattle.mp_core_pages.specs.PageParts.{lock_row, held_at, out_at, gave_at, durable_llsn, last_llsn, own_llsn}
use Rattle.mp_core_pages.proofs.Choices.{if_equal, if_differs, if_true, if_false}
use Rattle.mp_core.specs.declared.part.CorePart.{CorePart}
use Rattle.mp_core.specs.declared.event.CoreEvent.TheVariants.{Pages}
use Rattle.mp_core.specs.Contents.{page_ops}
use Rattle.mp_core.specs.CoreExtends.{durable_of, CoreExtends}
use Rattle.mp_core.specs.World.{core}
use Rattle.mp_core.proofs.Law.{law}
use Rattle.mp_shared.specs.Nodes.{Run, NodeView, HoldsPart, Reached, MayTake}
use Rattle.mp_shared.specs.KeptNodes.{CarriesAllOut}
use Rattle.mp_shared.specs.PageSteps.{held_in, with_pages}
use Rattle.mp_shared.proofs.Holding.{held_part}
use Rattle.mp_shared.proofs.PageCalls.{pages_changed, part_after}
use Rattle.mp_buffer_fusion.specs.declared.buffer.Buffer.{Buffer}
use Rattle.mp_buffer_fusion.specs.Buffers.{buffer_of, StandsAt, with_buffer, cleaned_buffer, unpinned_buffer, dirty_buffers}
use Rattle.mp_buffer_fusion.specs.Agreement.{IsDirty, AgreesWith, AgreesIn, IsDurablePage}
use Rattle.mp_buffer_fusion.specs.Visits.{with_visit, Visits}
use Rattle.mp_buffer_fusion.proofs.Buffered.{not_some, place_found, change_of, of_changed}
use Rattle.mp_buffer_fusion.proofs.Visiting.{one_part, held_is}
use Rattle.mp_supports.specs.Steps.{OnlyLooked}
use Rattle.mp_supports.specs.Agreement.{last_made_llsn}
use Rattle.mp_supports.proofs.Extending.{core_extends_trans}
use Rattle.mp_supports.proofs.Unchanged.{same_last}
use Rattle.mp_desk.specs.declared.desk.Desk.{Desk}
use Rattle.mp_desk.specs.Desks.{DeskAgrees, IsAtDesk, Moves}
use Rattle.mp_desk.specs.Making.{AllForced}
use Rattle.mp_desk.specs.LetGo.{OnlyGaveBack, IsAllDurable, HasLetGo}
use Rattle.mp_desk.proofs.Moving.{looked_then, looked_pages, looked_visit, moves_both, moves_as, moves_pages, holds_on, locks_pages}
use Rattle.mp_desk.proofs.ReachedFacts.{known_world, known_content}
use Rattle.mp_desk.proofs.AtDesk.{told_grows, desk_looked}
use Rattle.mp_desk.proofs.HeldPages.{held_within}

-- ---- steps that give back

gave_then : (q r s : CorePart) → OnlyGaveBack q r → OnlyGaveBack r s → OnlyGaveBack q s
gave_then q r s a b = record { looked = looked_then q r s a.looked b.looked; trx = b.trx ∙ a.trx }

gave_extends : (q r : CorePart) → OnlyGaveBack q r → CoreExtends q r
gave_extends q r h = h.looked.extends

pub gives_both : (p : ℕ) (a b c : NodeView) → Moves OnlyGaveBack p a b → Moves OnlyGaveBack p b c → Moves OnlyGaveBack p a c
gives_both p a b c = moves_both p OnlyGaveBack OnlyGaveBack OnlyGaveBack gave_then a b c

gives_go : (p : ℕ) (a b : NodeView) → Moves OnlyGaveBack p a b → Moves CoreExtends p a b
gives_go p a b = moves_as p OnlyGaveBack CoreExtends gave_extends a b

same_durable : (q r : CorePart) → OnlyLooked q r → durable_of r ≡ durable_of q
same_durable q r looked = ap (λ l. durable_llsn r.trx.opening.base.llsn l) looked.durables ∙ ap (λ (o : TrxOpening). durable_llsn o.base.llsn q.pages.durables) looked.extends.trx.same_opening

durable_kept : (q r : CorePart) → OnlyGaveBack q r → last_made_llsn q ≡ durable_of q → last_made_llsn r ≡ durable_of r
durable_kept q r h is = same_last q r h.looked.extends h.looked.made ∙ is ∙ sym (same_durable q r h.looked)

-- all that was made stays durable
pub durable_on : (p : ℕ) (a b : NodeView) → HoldsPart a p → Moves OnlyGaveBack p a b → IsAllDurable p a → IsAllDurable p b
durable_on p a b held moves durable r there =
    let has = held_part a p held in
    let now = moves.mine has.0 has.1 in
    subst (λ (x : CorePart). last_made_llsn x ≡ durable_of x) (one_part (part_in b.parts p) now.0 r now.1 there) (durable_kept has.0 now.0 now.2 (durable has.0 has.1))

-- a force leaves all that was made durable
pub durable_forced : (p : ℕ) (a b : NodeView) → HoldsPart a p → Moves AllForced p a b → IsAllDurable p b
durable_forced p a b held moves r there =
    let has = held_part a p held in
    let now = moves.mine has.0 has.1 in
    subst (λ (x : CorePart). last_made_llsn x ≡ durable_of x) (one_part (part_in b.parts p) now.0 r now.1 there) now.2.0

-- what a node's last mtr on a page has, its last mtr has
pub own_below : (base : ℕ) (made : List (Placed Mtr)) (k : ℕ) → Ascends page_ops base made → own_llsn page_ops made k ≤ last_llsn page_ops base made
own_below base [] k up = omega arith
own_below base (x ∷ made) k up =
    let rest = own_below base made k up.1 in
    let above = up.0 in
    elim (cases_Bool (is_touched k (page_ops.touches x.mtr))) [
      | inl touch ↦ let own = if_true (is_touched k (page_ops.touches x.mtr)) x.mtr.llsn (own_llsn page_ops made k) touch in omega (arith, own)
      | inr apart ↦ let own = if_false (is_touched k (page_ops.touches x.mtr)) x.mtr.llsn (own_llsn page_ops made k) apart in omega (arith, own, rest, above)
    ]

pub part_ascends : (n : NodeView) → Reached n → (p : ℕ) (q : CorePart) → part_in n.parts p ≡ Some q → Ascends page_ops q.trx.opening.base.llsn q.pages.made
part_ascends n reached p q has =
    let i = law n.run.opening reached.fair reached.backed.0 reached.backed.1 in
    let is = reached.backed.2 p q has in
    subst (λ (r : CorePart). Ascends page_ops r.trx.opening.base.llsn r.pages.made) is
    (subst (λ (o : TrxOpening). Ascends page_ops o.base.llsn ((run (core n.run.opening) reached.backed.0).pages.made p)) (sym (i.trx.carried p)) (i.pages.mtr_logs.ascend p))

pub page_durable : (n : NodeView) → Reached n → (p k : ℕ) → IsAllDurable p n → IsDurablePage n p k
page_durable n reached p k durable q has =
    let own = own_below q.trx.opening.base.llsn q.pages.made k (part_ascends n reached p q has) in
    let all = durable q has in
    omega (arith, own, all)

-- ---- a page goes into its frame

was_some : (f : Buffer → Buffer) (o : Option Buffer) (b : Buffer) → option_map f o ≡ Some b → (c : Buffer) × (o ≡ Some c) × (f c ≡ b)
was_some f None b e = absurd cc
was_some f (Some c) b e = (c, refl, cc)

module _ (k : ℕ) (pool : List Buffer) where
  -- a buffer then, and as it was
  cleaned_was : (j : ℕ) (b : Buffer) → buffer_of (with_buffer pool k cleaned_buffer) j ≡ Some b → (c : Buffer) × (buffer_of pool j ≡ Some c) × (change_of k cleaned_buffer c ≡ b)
  cleaned_was j b is = was_some (change_of k cleaned_buffer) (buffer_of pool j) b (sym (of_changed cleaned_buffer (λ _. refl) pool k j) ∙ is)

cleaned_page : (k : ℕ) (c : Buffer) → (change_of k cleaned_buffer c).page ≡ c.page
cleaned_page k c = dite (ℕ_discrete k c.number) (λ is. ap (λ (x : Buffer). x.page) (if_equal k c.number (cleaned_buffer c) c is)) (λ other. ap (λ (x : Buffer). x.page) (if_differs k c.number (cleaned_buffer c) c other))

-- a clean one stays clean
cleaned_stays : (k : ℕ) (c : Buffer) → c.clean ≡ true → (change_of k cleaned_buffer c).clean ≡ true
cleaned_stays k c clean = dite (ℕ_discrete k c.number) (λ is. ap (λ (x : Buffer). x.clean) (if_equal k c.number (cleaned_buffer c) c is)) (λ other. ap (λ (x : Buffer). x.clean) (if_differs k c.number (cleaned_buffer c) c other) ∙ clean)

not_both : {A : Type 0} (b : Bool) → b ≡ true → b ≡ false → A
not_both b one two = absurd (false≢true (sym two ∙ one))

was_dirty : (k : ℕ) (c : Buffer) → (change_of k cleaned_buffer c).clean ≡ false → c.clean ≡ false
was_dirty k c dirty = elim (cases_Bool c.clean) [
  | inl clean ↦ not_both (change_of k cleaned_buffer c).clean (cleaned_stays k c clean) dirty
  | inr is ↦ is
]

module _ (p k : ℕ) (found left : PageView) (before after : NodeView) (visit : Visits p k found left before after) (held : HoldsPart before p) where
  abbrev vq : CorePart
  vq = (held_part before p held).0

  vhas : part_in before.parts p ≡ Some vq
  vhas = (held_part before p held).1

  pub moves_pushed : Moves OnlyGaveBack p before after
  moves_pushed =
      moves_pages p before after vq vhas OnlyGaveBack (with_visit k found left visit.known visit.height) 2 visit.becomes
      record { looked = looked_visit vq k found left visit.known visit.height (λ x made. visit.since p vq x vhas made); trx = refl }

  module _ (run : Run) (desk : Desk) (at : IsAtDesk run desk p before) (later : Desk) (rest : later ≡ record desk { pool = with_buffer desk.pool k cleaned_buffer })
      (agrees : AgreesIn (with_buffer desk.pool k cleaned_buffer) after p) (reached : Reached after) where
    abbrev cleaned : Desk
    cleaned = record desk { pool = with_buffer desk.pool k cleaned_buffer }

    desk_pushed : (r : CorePart) → part_in after.parts p ≡ Some r → DeskAgrees cleaned r
    desk_pushed r there =
        let now = moves_pushed.mine vq vhas in
        let one = one_part (part_in after.parts p) now.0 r now.1 there in
        let looked : OnlyLooked vq r = subst (OnlyLooked vq) one now.2.looked in
        let was = at.agrees vq vhas in
        desk_looked desk cleaned vq r looked was (agrees r there) refl (omega arith)
        (let last = same_last vq r looked.extends looked.made in
        let told = told_grows vq r looked.extends in
        let above = was.not_above in
        omega (arith, last, told, above))
        (λ j b is.
        let c = cleaned_was k desk.pool j b is in
        let below = was.seen j c.0 c.1 in
        let page = ap (λ (y : PageView). y.llsn) (sym (cleaned_page k c.0) ∙ ap (λ (x : Buffer). x.page) c.2) in
        omega (arith, below, page))

    pub pushed_at_desk : IsAtDesk run later p after
    pushed_at_desk = subst (λ (d : Desk). IsAtDesk run d p after) (sym rest) (record {
      its_run = moves_pushed.run ∙ at.its_run;
      reached = reached;
      part = holds_on p before after (gives_go p before after moves_pushed) p held;
      frames = moves_pushed.frames ∙ at.frames;
      agrees = desk_pushed;
      written = λ j b is dirty.
          let c = cleaned_was k desk.pool j b is in
          locks_pages p before after vq vhas (with_visit k found left visit.known visit.height) 2 refl visit.becomes j
          ∙ at.written j c.0 c.1 (was_dirty k c.0 (ap (λ (x : Buffer). x.clean) c.2 ∙ dirty));
    })

-- the buffers up to a place are clean
abbrev pub CleanUpTo : ℕ → List Buffer → Type 0
CleanUpTo i pool = (j : ℕ) (b : Buffer) → j < i → slice_get pool j ≡ Some b → b.clean ≡ true

cleaned_at : (k : ℕ) (pool : List Buffer) (j : ℕ) (b : Buffer) → slice_get (with_buffer pool k cleaned_buffer) j ≡ Some b → (c : Buffer) × (slice_get pool j ≡ Some c) × (change_of k cleaned_buffer c ≡ b)
cleaned_at k pool j b is = was_some (change_of k cleaned_buffer) (slice_get pool j) b (sym (slice_get-map (change_of k cleaned_buffer) pool j) ∙ is)

one_item : (o : Option Buffer) (b c : Buffer) → o ≡ Some b → o ≡ Some c → b ≡ c
one_item o b c first second = let both : Some b ≡ Some c = sym first ∙ second in cc

-- one more, whose page went into its frame
pub clean_pushed : (i k : ℕ) (pool : List Buffer) (x : Buffer) → slice_get pool i ≡ Some x → x.number ≡ k → CleanUpTo i pool → CleanUpTo (i + 1) (with_buffer pool k cleaned_buffer)
clean_pushed i k pool x at number clean j b less is =
    let c = cleaned_at k pool j b is in
    dite (ℕ_discrete j i)
    (λ same.
    let here : c.0 ≡ x = one_item (slice_get pool i) c.0 x (ap (slice_get pool) (sym same) ∙ c.1) at in
    sym (ap (λ (y : Buffer). y.clean) c.2)
    ∙ ap (λ (y : Buffer). y.clean) (if_equal k (c.0).number (cleaned_buffer c.0) c.0 (sym number ∙ sym (ap (λ (y : Buffer). y.number) here))))
    (λ other. sym (ap (λ (y : Buffer). y.clean) c.2) ∙ cleaned_stays k c.0 (clean j c.0 (omega (arith, less, other)) c.1))

-- or that was clean, or isn't there
pub clean_more : (i : ℕ) (pool : List Buffer) → ((b : Buffer) → slice_get pool i ≡ Some b → b.clean ≡ true) → CleanUpTo i pool → CleanUpTo (i + 1) pool
clean_more i pool here clean j b less is =
    dite (ℕ_discrete j i)
    (λ same. here b (ap (slice_get pool) (sym same) ∙ is))
    (λ other. clean j b (omega (arith, less, other)) is)

-- no buffer is left where all were clean
none_dirty : (pool : List Buffer) → ((i : ℕ) (b : Buffer) → slice_get pool i ≡ Some b → b.clean ≡ true) → dirty_buffers pool ≡ []
none_dirty [] clean = refl
none_dirty (b ∷ pool) clean =
    ap (λ (t : Bool). cond (not t) (b ∷ dirty_buffers pool) (dirty_buffers pool)) (clean zero b refl)
    ∙ none_dirty pool (λ i c at. clean (suc i) c at)

pub none_left : (pool later : List Buffer) → later ≡ map unpinned_buffer (dirty_buffers pool) → ((i : ℕ) (b : Buffer) → slice_get pool i ≡ Some b → b.clean ≡ true) → later ≡ []
none_left pool later is clean = is ∙ ap (map unpinned_buffer) (none_dirty pool clean)

-- the desk without a buffer
pub emptied_at_desk : (run : Run) (desk : Desk) (p : ℕ) (n : NodeView) → IsAtDesk run desk p n → ((q : PagesPart PageView Mtr) → AgreesWith desk.pool q → AgreesWith [] q) → IsAtDesk run (record desk { pool = [] }) p n
emptied_at_desk run desk p n at empties = record {
  its_run = at.its_run;
  reached = at.reached;
  part = at.part;
  frames = at.frames;
  agrees = λ q has.
      let was = at.agrees q has in
      record { pool = empties q.pages was.pool; not_below = was.not_below; not_above = was.not_above; seen = λ k b is. absurd cc; undo_page = was.undo_page };
  written = λ k b is dirty. absurd cc;
}

-- ---- a lock is given back

module _ (run : Run) (desk : Desk) (p : ℕ) (n : NodeView) (at : IsAtDesk run desk p n) (empty : desk.pool ≡ []) where
  abbrev uq : CorePart
  uq = (held_part n p at.part).0

  uhas : part_in n.parts p ≡ Some uq
  uhas = (held_part n p at.part).1

  none_missing : (k : ℕ) → own_llsn page_ops uq.pages.made k ≤ gave_at uq.pages.gave k
  none_missing k = elim (cases_lt (gave_at uq.pages.gave k) (own_llsn page_ops uq.pages.made k)) [
    | inr le ↦ le
    | inl less ↦ absurd (subst (λ l. IsDirty (buffer_of l k)) empty ((at.agrees uq uhas).pool.keeps k less))
  ]

  none_out : (k : ℕ) → CarriesAllOut n.parts n.frames → (o : Option PageView) → out_at uq.pages.frames k ≡ o → o ≡ None
  none_out k carries None is = refl
  none_out k carries (Some y) is = absurd (subst (λ l. IsIn k l) at.frames (carries p k uq y uhas is))

  pub may_release : (k : ℕ) → k < PAGES → ¬ (held_in n p k ≡ No) → IsAllDurable p n → CarriesAllOut n.parts n.frames → MayTake (Pages (UnlockWord p k)) n
  may_release k page held durable carries = (
    uq,
    uhas,
    (
      (held_part n p at.part).2,
      record {
        in_range = page;
        has_lock = λ none. held (held_is n p k uq uhas ∙ none);
        home = none_out k carries (out_at uq.pages.frames k) refl;
        released = (page_durable n at.reached p k durable uq uhas, none_missing k);
      },
      tt,
    ),
  )

  module _ (k : ℕ) (later : NodeView) (becomes : later ≡ with_pages n p (with_unlock k) 1) (reached : Reached later) where
    unlocked : OnlyGaveBack uq (pages_changed (with_unlock k) 1 uq)
    unlocked = record {
      looked = looked_pages uq (with_unlock k) 1
          (record {
            more_made = grows_refl uq.pages.made;
            more_durables = grows_refl uq.pages.durables;
            more_locks = grows_one uq.pages.locks (lock_row k No);
            more_frames = grows_refl uq.pages.frames;
            more_gave = grows_refl uq.pages.gave;
            more_contents = grows_one uq.pages.contents (Dropped k);
            more_given = grows_refl uq.pages.given;
          }) refl refl (λ g there. inl there);
      trx = refl;
    }

    pub moves_released : Moves OnlyGaveBack p n later
    moves_released = moves_pages p n later uq uhas OnlyGaveBack (with_unlock k) 1 becomes unlocked

    has_later : part_in later.parts p ≡ Some (pages_changed (with_unlock k) 1 uq)
    has_later = ap (λ (x : NodeView). part_in x.parts p) becomes ∙ part_after n p uq uhas (with_unlock k) 1

    held_later : (j : ℕ) → held_in later p j ≡ (if j == k then No else held_at uq.pages.locks j)
    held_later j = held_is later p j (pages_changed (with_unlock k) 1 uq) has_later

    pub released_at_desk : IsAtDesk run desk p later
    released_at_desk = record {
      its_run = moves_released.run ∙ at.its_run;
      reached = reached;
      part = holds_on p n later (gives_go p n later moves_released) p at.part;
      frames = moves_released.frames ∙ at.frames;
      agrees = λ r there.
          let was = at.agrees uq uhas in
          subst (DeskAgrees desk) (one_part (part_in later.parts p) (pages_changed (with_unlock k) 1 uq) r has_later there) record {
            pool = record {
              shows = λ j b is. not_some (buffer_of desk.pool j) b (ap (λ l. buffer_of l j) empty) is;
              keeps = was.pool.keeps;
            };
            not_below = was.not_below;
            not_above = was.not_above;
            seen = was.seen;
            undo_page = was.undo_page;
          };
      written = λ j b is dirty. not_some (buffer_of desk.pool j) b (ap (λ l. buffer_of l j) empty) is;
    }

    -- the locks below a page number that are given back
    pub none_held_more : ((j : ℕ) → j < k → held_in n p j ≡ No) → (j : ℕ) → j < k + 1 → held_in later p j ≡ No
    none_held_more below j less =
        dite (ℕ_discrete j k)
        (λ same. held_later j ∙ if_equal j k No (held_at uq.pages.locks j) same)
        (λ other. held_later j ∙ if_differs j k No (held_at uq.pages.locks j) other ∙ sym (held_is n p j uq uhas) ∙ below j (omega (arith, less, other)))

-- all are given back
let_go_part : (q r : CorePart) → OnlyGaveBack q r → last_made_llsn q ≡ durable_of q → ((k : ℕ) → held_at r.pages.locks k ≡ No) → HasLetGo q r
let_go_part q r gave durable idle = record { extends = gave.looked.extends; trx = gave.trx; made = gave.looked.made; durable = durable_kept q r gave durable; idle = idle }

pub moves_let_go : (p : ℕ) (a b : NodeView) → HoldsPart a p → Reached b → Moves OnlyGaveBack p a b → IsAllDurable p a → ((k : ℕ) → k < PAGES → held_in b p k ≡ No) → Moves HasLetGo p a b
moves_let_go p a b held reached moves durable idle = record {
  run = moves.run;
  frames = moves.frames;
  others = moves.others;
  mine = λ q has.
      let now = moves.mine q has in (
        now.0,
        now.1,
        let_go_part q now.0 now.2 (durable q has) (λ k. elim (cases_lt k PAGES) [
          | inl less ↦ sym (held_is b p k now.0 now.1) ∙ idle k less
          | inr beyond ↦ held_within b reached p now.0 now.1 k beyond
        ]),
        now.3,
      );
}

-- after the force and after pages were put into their frames
go_forced : (q r s : CorePart) → AllForced q r → HasLetGo r s → HasLetGo q s
go_forced q r s (durable, inl same) go = subst (λ (x : CorePart). HasLetGo x s) same go
go_forced q r s (durable, inr forced) go = record {
  extends = core_extends_trans q r s forced.extends go.extends;
  trx = go.trx ∙ forced.trx;
  made = go.made ∙ forced.made;
  durable = go.durable;
  idle = go.idle;
}

go_pushed : (q r s : CorePart) → OnlyGaveBack q r → HasLetGo r s → HasLetGo q s
go_pushed q r s gave go = record {
  extends = core_extends_trans q r s gave.looked.extends go.extends;
  trx = go.trx ∙ gave.trx;
  made = go.made ∙ gave.looked.made;
  durable = go.durable;
  idle = go.idle;
}

pub moves_gone : (p : ℕ) (a b c d : NodeView) → Moves AllForced p a b → Moves OnlyGaveBack p b c → Moves HasLetGo p c d → Moves HasLetGo p a d
moves_gone p a b c d forced pushed gone = moves_both p AllForced HasLetGo HasLetGo go_forced a b d forced (moves_both p OnlyGaveBack HasLetGo HasLetGo go_pushed b c d pushed gone)

-- The pages of the first buffers, so many of them, were put into their frames
pub record PushedUpTo (run : Run) (first : Desk) (p : ℕ) (before : NodeView) (i : ℕ) (desk : Desk) (n : NodeView) : Type 0 where
  pub at : IsAtDesk run desk p n
  pub moves : Moves OnlyGaveBack p before n
  pub durable : IsAllDurable p n
  pub clean : CleanUpTo i desk.pool
  pub count : length desk.pool ≡ length first.pool
  pub rest : desk ≡ record first { pool = desk.pool }

-- The locks of the first pages, so many of them, aren't held
pub record ReleasedUpTo (run : Run) (desk : Desk) (p : ℕ) (before : NodeView) (k : ℕ) (n : NodeView) : Type 0 where
  pub at : IsAtDesk run desk p n
  pub moves : Moves OnlyGaveBack p before n
  pub durable : IsAllDurable p n
  pub idle : (j : ℕ) → j < k → held_in n p j ≡ No

-- a page that has a buffer is one that there is
pub pages_within : (run : Run) (desk : Desk) (p : ℕ) (n : NodeView) → IsAtDesk run desk p n → (k : ℕ) (b : Buffer) → buffer_of desk.pool k ≡ Some b → k < PAGES
pages_within run desk p n at k b is =
    let held = held_part n p at.part in
    let known = known_world n at.reached in
    (known_content n p held.0 held.1 known.world known.facts known.agrees k b.page ((at.agrees held.0 held.1).pool.shows k b is)).0

length_cleaned : (k : ℕ) (pool : List Buffer) → length (with_buffer pool k cleaned_buffer) ≡ length pool
length_cleaned k [] = refl
length_cleaned k (b ∷ pool) = ap suc (length_cleaned k pool)

module _ (run : Run) (first : Desk) (p : ℕ) (before : NodeView) (i : ℕ) (desk : Desk) (n : NodeView) (so_far : PushedUpTo run first p before i desk n) where
  -- one more page goes into its frame
  pub pushed_more : (number : ℕ) (x : Buffer) → StandsAt desk.pool number i x → (c : Buffer) (found : PageView) (after : NodeView) → Visits p number found c.page n after
      → (pool : List Buffer) → pool ≡ with_buffer desk.pool number cleaned_buffer → AgreesIn pool after p → Reached after
      → (later : Desk) → later ≡ record desk { pool = pool } → PushedUpTo run first p before (i + 1) later after
  pushed_more number x stands c found after visit pool cleaned agrees reached later is =
      let moves = moves_pushed p number found c.page n after visit so_far.at.part in
      let whole : later ≡ record desk { pool = with_buffer desk.pool number cleaned_buffer } = is ∙ ap (λ (l : List Buffer). record desk { pool = l }) cleaned in
      subst (λ (d : Desk). PushedUpTo run first p before (i + 1) d after) (sym whole) (record {
        at = pushed_at_desk p number found c.page n after visit so_far.at.part run desk so_far.at (record desk { pool = with_buffer desk.pool number cleaned_buffer }) refl (subst (λ l. AgreesIn l after p) cleaned agrees) reached;
        moves = gives_both p before n after so_far.moves moves;
        durable = durable_on p n after so_far.at.part moves so_far.durable;
        clean = clean_pushed i number desk.pool x stands.0 (place_found desk.pool number x stands.1).2 so_far.clean;
        count = length_cleaned number desk.pool ∙ so_far.count;
        rest = ap (λ (d : Desk). record d { pool = with_buffer desk.pool number cleaned_buffer }) so_far.rest;
      })

  -- or has no need to
  pub pushed_none : ((b : Buffer) → slice_get desk.pool i ≡ Some b → b.clean ≡ true) → PushedUpTo run first p before (i + 1) desk n
  pushed_none here = record { at = so_far.at; moves = so_far.moves; durable = so_far.durable; clean = clean_more i desk.pool here so_far.clean; count = so_far.count; rest = so_far.rest }

module _ (run : Run) (desk : Desk) (p : ℕ) (before : NodeView) (k : ℕ) (n : NodeView) (empty : desk.pool ≡ []) (so_far : ReleasedUpTo run desk p before k n) where
  -- one more lock is given back
  pub released_more : (after : NodeView) → after ≡ with_pages n p (with_unlock k) 1 → Reached after → ReleasedUpTo run desk p before (k + 1) after
  released_more after becomes reached =
      let moves = moves_released run desk p n so_far.at empty k after becomes reached in
      record {
        at = released_at_desk run desk p n so_far.at empty k after becomes reached;
        moves = gives_both p before n after so_far.moves moves;
        durable = durable_on p n after so_far.at.part moves so_far.durable;
        idle = none_held_more run desk p n so_far.at empty k after becomes reached so_far.idle;
      }

  -- or those up to a later page aren't held
  pub released_to : (later : ℕ) → ((j : ℕ) → k ≤ j → j < later → held_in n p j ≡ No) → ReleasedUpTo run desk p before later n
  released_to later none = record {
    at = so_far.at;
    moves = so_far.moves;
    durable = so_far.durable;
    idle = λ j less. ⊎_elim (λ before. so_far.idle j before) (λ from. none j from less) (cases_lt j k);
  }
