-- Only one primary's part changes, through several calls: what is held goes along, and what only looked stays a look.
use Rattle.std.proofs.Common.{◌≡◌, ◌≢◌, ℕ, ◌<◌, ◌≤◌, ◌⊎◌, List, [], ◌∷◌, None, Some, refl, sym, ap, subst, ◌∙◌, inl, inr, arith}
use mathlib.Core.Logic.{dite}
use native.Mathlib.Decide.{ℕ_discrete}
use Rattle.mp_machine.specs.Lists.{IsIn}
use Rattle.mp_machine.specs.View.{part_in}
use Rattle.mp_machine.proofs.Lists.{grows_refl, grows_one}
use Rattle.mp_cells.specs.declared.records.Mtr.{Mtr}
use Rattle.mp_cells.specs.PageView.{PageView}
use Rattle.mp_core_trx.specs.declared.opening.TrxOpening.{TrxOpening}
use Rattle.mp_core_trx.specs.Events.{IsNode}
use Rattle.mp_core_trx.proofs.Growth.{extends_refl}
use Rattle.mp_core_pages.specs.declared.page_lock.Held.{Held}
use Rattle.mp_core_pages.specs.declared.page_lock.Held.TheVariants.{No, Read, Write}
use Rattle.mp_core_pages.specs.declared.part.ContentStep.TheVariants.{Given}
use Rattle.mp_core_pages.specs.declared.part.GivenPage.{GivenPage}
use Rattle.mp_core_pages.specs.declared.part.PagesPart.{PagesPart}
use Rattle.mp_core_pages.specs.declared.part.Placed.{Placed}
use Rattle.mp_core_pages.specs.PageEvents.{with_lock}
use Rattle.mp_core_pages.specs.PageParts.{PagesExtends, lock_row, frame_row, gave_row, given_page, held_at, durable_llsn}
use Rattle.mp_core_pages.proofs.Choices.{if_equal, if_differs}
use Rattle.mp_core_pages.proofs.Growth.{pages_extends_refl}
use Rattle.mp_core.specs.declared.part.CorePart.{CorePart}
use Rattle.mp_core.specs.OwnMtrs.{trx_mtrs}
use Rattle.mp_core.specs.CoreExtends.{durable_of, CoreExtends}
use Rattle.mp_core.proofs.Downs.{downs_extend_refl}
use Rattle.mp_shared.specs.Nodes.{NodeView, HoldsPart}
use Rattle.mp_shared.specs.PageSteps.{held_in, with_pages, with_ops}
use Rattle.mp_shared.proofs.Holding.{held_part, holds_the_part}
use Rattle.mp_shared.proofs.PageCalls.{pages_changed, part_after, part_else, held_after}
use Rattle.mp_lock_fusion.specs.LockCalls.{CameToRead, CameToWrite, CouldNotRead, CouldNotWrite}
use Rattle.mp_buffer_fusion.specs.Visits.{with_visit, Visits}
use Rattle.mp_buffer_fusion.proofs.Visiting.{one_part, held_is}
use Rattle.mp_supports.specs.Steps.{OnlyLooked}
use Rattle.mp_supports.proofs.Extending.{core_extends_refl, core_extends_trans}
use Rattle.mp_desk.specs.Desks.{Moves, KeepsLocks}

-- ---- parts

pub looked_none : (q : CorePart) → OnlyLooked q q
looked_none q = record { extends = core_extends_refl q; begun = refl; rows = refl; drew = refl; made = refl; durables = refl }

pub looked_then : (q r s : CorePart) → OnlyLooked q r → OnlyLooked r s → OnlyLooked q s
looked_then q r s a b = record {
  extends = core_extends_trans q r s a.extends b.extends;
  begun = b.begun ∙ a.begun;
  rows = b.rows ∙ a.rows;
  drew = b.drew ∙ a.drew;
  made = b.made ∙ a.made;
  durables = b.durables ∙ a.durables;
}

pub looked_extends : (q r : CorePart) → OnlyLooked q r → CoreExtends q r
looked_extends q r h = h.extends

-- a change of what is known of pages, that makes nothing and forces nothing, is a look
pub looked_pages : (q : CorePart) (f : PagesPart PageView Mtr → PagesPart PageView Mtr) (steps : ℕ) → PagesExtends q.pages (f q.pages) → (f q.pages).made ≡ q.pages.made → (f q.pages).durables ≡ q.pages.durables
    → ((g : GivenPage PageView) → IsIn g (f q.pages).given → IsIn g q.pages.given ⊎ ((x : Placed Mtr) → IsIn x q.pages.made → x.at < g.height))
    → OnlyLooked q (pages_changed f steps q)
looked_pages q f steps more made durables later = record {
  extends = record {
    trx = extends_refl q.trx;
    pages = more;
    durable = subst (λ (l : List ℕ). durable_of q ≤ durable_llsn q.trx.opening.base.llsn l) (sym durables) (omega arith);
    made_later = λ x there. inl (subst (λ (l : List (Placed Mtr)). IsIn x (trx_mtrs l)) made there);
    given_later = later;
    downs = downs_extend_refl q.downs;
  };
  begun = refl;
  rows = refl;
  drew = refl;
  made = made;
  durables = durables;
}

-- it is one too that changes no content, and gives no frame back
pub record LookedAway (q r : CorePart) : Type 0 where
  pub looked : OnlyLooked q r
  pub contents : r.pages.contents ≡ q.pages.contents
  pub gave : r.pages.gave ≡ q.pages.gave

pub away_none : (q : CorePart) → LookedAway q q
away_none q = record { looked = looked_none q; contents = refl; gave = refl }

pub away_lock : (q : CorePart) (k : ℕ) (held : Held) (steps : ℕ) → LookedAway q (pages_changed (with_lock k held) steps q)
away_lock q k held steps = record {
  looked = looked_pages q (with_lock k held) steps
      (record {
        more_made = grows_refl q.pages.made;
        more_durables = grows_refl q.pages.durables;
        more_locks = grows_one q.pages.locks (lock_row k held);
        more_frames = grows_refl q.pages.frames;
        more_gave = grows_refl q.pages.gave;
        more_contents = grows_refl q.pages.contents;
        more_given = grows_refl q.pages.given;
      }) refl refl (λ g there. inl there);
  contents = refl;
  gave = refl;
}

pub away_ops : (q : CorePart) (steps : ℕ) → LookedAway q (pages_changed (λ x. x) steps q)
away_ops q steps = record { looked = looked_pages q (λ x. x) steps (pages_extends_refl q.pages) refl refl (λ g there. inl there); contents = refl; gave = refl }

pub looked_visit : (q : CorePart) (k : ℕ) (found left : PageView) (known height : ℕ) → ((x : Placed Mtr) → IsIn x q.pages.made → x.at < height) → OnlyLooked q (pages_changed (with_visit k found left known height) 2 q)
looked_visit q k found left known height since =
    looked_pages q (with_visit k found left known height) 2
    (record {
      more_made = grows_refl q.pages.made;
      more_durables = grows_refl q.pages.durables;
      more_locks = grows_refl q.pages.locks;
      more_frames = (frame_row k None ∷ frame_row k (Some found) ∷ [], refl);
      more_gave = grows_one q.pages.gave (gave_row k left.llsn);
      more_contents = grows_one q.pages.contents (Given k left);
      more_given = grows_one q.pages.given (given_page k left known height);
    }) refl refl (λ g there. newest g there)
  where
    newest : (g : GivenPage PageView) → IsIn g (given_page k left known height ∷ q.pages.given) → IsIn g q.pages.given ⊎ ((x : Placed Mtr) → IsIn x q.pages.made → x.at < g.height)
    newest g (inl is) = inr (λ x made. subst (λ (y : GivenPage PageView). x.at < y.height) (sym is) (since x made))
    newest g (inr old) = inl old

-- ---- nodes

module _ (p : ℕ) where
  pub moves_none : (So : CorePart → CorePart → Type 0) → ((q : CorePart) → So q q) → (n : NodeView) → Moves So p n n
  moves_none So itself n = record { run = refl; frames = refl; others = λ k other. refl; mine = λ q has. (q, has, itself q, refl) }

  pub moves_both : (First Second Both : CorePart → CorePart → Type 0) → ((q r s : CorePart) → First q r → Second r s → Both q s) → (a b c : NodeView) → Moves First p a b → Moves Second p b c → Moves Both p a c
  moves_both First Second Both join a b c one two = record {
    run = two.run ∙ one.run;
    frames = two.frames ∙ one.frames;
    others = λ k other. two.others k other ∙ one.others k other;
    mine = λ q has. let r = one.mine q has in let s = two.mine r.0 r.1 in (s.0, s.1, join q r.0 s.0 r.2 s.2, s.3 ∙ r.3);
  }

  pub moves_as : (First Second : CorePart → CorePart → Type 0) → ((q r : CorePart) → First q r → Second q r) → (a b : NodeView) → Moves First p a b → Moves Second p a b
  moves_as First Second weaker a b one = record { run = one.run; frames = one.frames; others = one.others; mine = λ q has. let r = one.mine q has in (r.0, r.1, weaker q r.0 r.2, r.3) }

  -- what the primary knows of primaries that are down stays
  pub moves_downs : (So : CorePart → CorePart → Type 0) → (a b : NodeView) → Moves So p a b → (q r : CorePart) → part_in a.parts p ≡ Some q → part_in b.parts p ≡ Some r → r.downs ≡ q.downs
  moves_downs So a b moves q r has there =
      let now = moves.mine q has in
      ap (λ (x : CorePart). x.downs) (one_part (part_in b.parts p) r now.0 there now.1) ∙ now.3

  -- looks are a preorder, and so are steps of any kind
  pub looks_none : (n : NodeView) → Moves OnlyLooked p n n
  looks_none = moves_none OnlyLooked looked_none

  pub looks_both : (a b c : NodeView) → Moves OnlyLooked p a b → Moves OnlyLooked p b c → Moves OnlyLooked p a c
  looks_both = moves_both OnlyLooked OnlyLooked OnlyLooked looked_then

  pub goes_none : (n : NodeView) → Moves CoreExtends p n n
  goes_none = moves_none CoreExtends core_extends_refl

  pub goes_both : (a b c : NodeView) → Moves CoreExtends p a b → Moves CoreExtends p b c → Moves CoreExtends p a c
  goes_both = moves_both CoreExtends CoreExtends CoreExtends core_extends_trans

  pub looks_go : (a b : NodeView) → Moves OnlyLooked p a b → Moves CoreExtends p a b
  looks_go = moves_as OnlyLooked CoreExtends looked_extends

  pub away_looks : (a b : NodeView) → Moves LookedAway p a b → Moves OnlyLooked p a b
  away_looks = moves_as LookedAway OnlyLooked (λ q r h. h.looked)

  -- whose part is held, it is held still
  pub holds_on : (a b : NodeView) → Moves CoreExtends p a b → (k : ℕ) → HoldsPart a k → HoldsPart b k
  holds_on a b moves k held =
      let has = held_part a k held in
      dite (ℕ_discrete k p)
      (λ same.
      let now = moves.mine has.0 (ap (part_in a.parts) (sym same) ∙ has.1) in
      holds_the_part b k now.0 (ap (part_in b.parts) same ∙ now.1) (subst (λ (o : TrxOpening). IsNode o k) (sym now.2.trx.same_opening) has.2))
      (λ other. holds_the_part b k has.0 (moves.others k other ∙ has.1) has.2)

  -- a node that is as it was
  pub moves_same : (So : CorePart → CorePart → Type 0) → ((q : CorePart) → So q q) → (a b : NodeView) → b ≡ a → Moves So p a b
  moves_same So itself a b is = subst (Moves So p a) (sym is) (moves_none So itself a)

module _ (p : ℕ) (a b : NodeView) (q : CorePart) (has : part_in a.parts p ≡ Some q) where
  -- a change of what one primary knows of pages
  pub moves_pages : (So : CorePart → CorePart → Type 0) (f : PagesPart PageView Mtr → PagesPart PageView Mtr) (steps : ℕ) → b ≡ with_pages a p f steps → So q (pages_changed f steps q) → Moves So p a b
  moves_pages So f steps is so = record {
    run = ap (λ (n : NodeView). n.run) is;
    frames = ap (λ (n : NodeView). n.frames) is;
    others = λ k other. ap (λ (n : NodeView). part_in n.parts k) is ∙ part_else a p q has f steps k other;
    mine = λ r there.
        let same : q ≡ r = one_part (part_in a.parts p) q r has there in (
          pages_changed f steps q,
          ap (λ (n : NodeView). part_in n.parts p) is ∙ part_after a p q has f steps,
          subst (λ (x : CorePart). So x (pages_changed f steps q)) same so,
          ap (λ (x : CorePart). x.downs) same,
        );
  }

  moves_lock : (k : ℕ) (held : Held) (steps : ℕ) → b ≡ with_pages a p (with_lock k held) steps → Moves LookedAway p a b
  moves_lock k held steps is = moves_pages LookedAway (with_lock k held) steps is (away_lock q k held steps)

  pub moves_ops : (steps : ℕ) → b ≡ with_ops a p steps → Moves LookedAway p a b
  moves_ops steps is = moves_pages LookedAway (λ x. x) steps is (away_ops q steps)

  -- the calls on locks
  pub moves_read : (k : ℕ) → CameToRead p k a b → Moves LookedAway p a b
  moves_read k (inl kept) = moves_same p LookedAway away_none a b kept.1
  moves_read k (inr took) = moves_lock k Read took.tries took.becomes

  pub moves_write : (k : ℕ) → CameToWrite p k a b → Moves LookedAway p a b
  moves_write k (inl kept) = moves_same p LookedAway away_none a b kept.1
  moves_write k (inr took) = moves_lock k Write 1 took.1

  pub moves_not_read : (k seen : ℕ) → CouldNotRead p k a seen b → Moves LookedAway p a b
  moves_not_read k seen could_not = elim could_not.1 [
    | inl saw ↦ moves_ops 1 saw.becomes
    | inr saw ↦ moves_ops 2 saw.becomes
  ]

  pub moves_not_write : (k seen : ℕ) → CouldNotWrite p k a seen b → Moves LookedAway p a b
  moves_not_write k seen could_not = moves_ops 1 could_not.becomes

  -- a frame is taken and given back
  pub moves_visit : (k : ℕ) (found left : PageView) → Visits p k found left a b → Moves OnlyLooked p a b
  moves_visit k found left v =
      moves_pages OnlyLooked (with_visit k found left v.known v.height) 2 v.becomes
      (looked_visit q k found left v.known v.height (λ x made. v.since p q x has made))

  -- what is held of locks after a change of what is known of pages
  pub held_pages : (f : PagesPart PageView Mtr → PagesPart PageView Mtr) (steps : ℕ) → b ≡ with_pages a p f steps → (j : ℕ) → held_in b p j ≡ held_at (f q.pages).locks j
  held_pages f steps is j = ap (λ (n : NodeView). held_in n p j) is ∙ held_after a p q has f steps j

  -- a change that leaves the locks leaves what is held
  pub locks_pages : (f : PagesPart PageView Mtr → PagesPart PageView Mtr) (steps : ℕ) → (f q.pages).locks ≡ q.pages.locks → b ≡ with_pages a p f steps → (j : ℕ) → held_in b p j ≡ held_in a p j
  locks_pages f steps same is j = held_pages f steps is j ∙ ap (λ rows. held_at rows j) same ∙ sym (held_is a p j q has)

  locks_lock : (k : ℕ) (held : Held) (steps : ℕ) → held ≢ No → (held_in a p k ≡ Write → held ≡ Write) → b ≡ with_pages a p (with_lock k held) steps → KeepsLocks p a b
  locks_lock k held steps some writes is = record {
    written = λ j was. dite (ℕ_discrete j k) (λ same. here j same ∙ writes (ap (held_in a p) (sym same) ∙ was)) (λ other. there j other ∙ was);
    held = λ j was none. dite (ℕ_discrete j k) (λ same. some (sym (here j same) ∙ none)) (λ other. was (sym (there j other) ∙ none));
  }
    where
      here : (j : ℕ) → j ≡ k → held_in b p j ≡ held
      here j same = held_pages (with_lock k held) steps is j ∙ if_equal j k held (held_at q.pages.locks j) same

      there : (j : ℕ) → j ≢ k → held_in b p j ≡ held_in a p j
      there j other = held_pages (with_lock k held) steps is j ∙ if_differs j k held (held_at q.pages.locks j) other ∙ sym (held_is a p j q has)

-- ---- locks

pub locks_same : (p : ℕ) (a b : NodeView) → ((j : ℕ) → held_in b p j ≡ held_in a p j) → KeepsLocks p a b
locks_same p a b same = record { written = λ k was. same k ∙ was; held = λ k was none. was (sym (same k) ∙ none) }

pub locks_none : (p : ℕ) (n : NodeView) → KeepsLocks p n n
locks_none p n = locks_same p n n (λ j. refl)

pub locks_both : (p : ℕ) (a b c : NodeView) → KeepsLocks p a b → KeepsLocks p b c → KeepsLocks p a c
locks_both p a b c one two = record { written = λ k was. two.written k (one.written k was); held = λ k was. two.held k (one.held k was) }

read_not_none : Read ≢ No
read_not_none e = absurd cc

write_not_none : Write ≢ No
write_not_none e = absurd cc

none_not_write : (h : Held) → h ≡ No → h ≡ Write → Read ≡ Write
none_not_write h none writes = absurd cc

module _ (p : ℕ) (a b : NodeView) (q : CorePart) (has : part_in a.parts p ≡ Some q) where
  locks_as : b ≡ a → KeepsLocks p a b
  locks_as is = locks_same p a b (λ j. ap (λ (n : NodeView). held_in n p j) is)

  pub locks_read : (k : ℕ) → CameToRead p k a b → KeepsLocks p a b
  locks_read k (inl kept) = locks_as kept.1
  locks_read k (inr took) = locks_lock p a b q has k Read took.tries read_not_none (none_not_write (held_in a p k) took.held) took.becomes

  pub locks_write : (k : ℕ) → CameToWrite p k a b → KeepsLocks p a b
  locks_write k (inl kept) = locks_as kept.1
  locks_write k (inr took) = locks_lock p a b q has k Write 1 write_not_none (λ was. refl) took.1

  pub locks_ops : (steps : ℕ) → b ≡ with_ops a p steps → KeepsLocks p a b
  locks_ops steps is = locks_same p a b (locks_pages p a b q has (λ x. x) steps refl is)

  pub locks_not_read : (k seen : ℕ) → CouldNotRead p k a seen b → KeepsLocks p a b
  locks_not_read k seen could_not = elim could_not.1 [
    | inl saw ↦ locks_ops 1 saw.becomes
    | inr saw ↦ locks_ops 2 saw.becomes
  ]

  pub locks_not_write : (k seen : ℕ) → CouldNotWrite p k a seen b → KeepsLocks p a b
  locks_not_write k seen could_not = locks_ops 1 could_not.becomes
