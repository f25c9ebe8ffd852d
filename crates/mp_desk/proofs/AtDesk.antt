-- What a call for a page makes of the desk.
use Rattle.std.proofs.Common.{◌≡◌, ℕ, ◌+◌, ◌<◌, ◌≤◌, max, ◌⊎◌, not, true, List, [], ◌∷◌, ◌++◌, Option, None, Some, refl, sym, ap, subst, ◌∙◌, inl, inr, ⊎_elim, arith}
use Rattle.std.specs.Option.{IfSome}
use mathlib.Core.Logic.{dite}
use native.Mathlib.Decide.{ℕ_discrete}
use Rattle.mp_machine.specs.Lists.{IsIn}
use Rattle.mp_machine.specs.View.{part_in}
use Rattle.mp_model.specs.declared.waiting.NotYet.{NotYet}
use Rattle.mp_cells.specs.declared.records.Mtr.{Mtr}
use Rattle.mp_cells.specs.PageView.{PageView}
use Rattle.mp_core_trx.specs.declared.opening.TrxOpening.{TrxOpening}
use Rattle.mp_core_trx.specs.declared.part.TrxPart.{TrxPart}
use Rattle.mp_core_trx.specs.Parts.{PartExtends, greatest_seen, newest}
use Rattle.mp_core_pages.specs.declared.part.GivenPage.{GivenPage}
use Rattle.mp_core_pages.specs.declared.part.PagesPart.{PagesPart}
use Rattle.mp_core_pages.specs.declared.part.Placed.{Placed}
use Rattle.mp_core_pages.specs.PageParts.{content_at, gave_at, own_llsn, given_page, told_llsn}
use Rattle.mp_core_pages.proofs.Choices.{if_equal, if_differs}
use Rattle.mp_core.specs.declared.part.CorePart.{CorePart}
use Rattle.mp_core.specs.Contents.{page_ops}
use Rattle.mp_core.specs.CoreExtends.{CoreExtends}
use Rattle.mp_shared.specs.Nodes.{Run, NodeView, Reached}
use Rattle.mp_shared.proofs.Holding.{held_part}
use Rattle.mp_buffer_fusion.specs.declared.buffer.Buffer.{Buffer}
use Rattle.mp_buffer_fusion.specs.Buffers.{buffer_of, new_buffer, dirty_buffers}
use Rattle.mp_buffer_fusion.specs.Agreement.{AgreesWith}
use Rattle.mp_buffer_fusion.proofs.Visiting.{one_part}
use Rattle.mp_histories.proofs.Lists.{filter-out}
use Rattle.mp_supports.specs.Steps.{OnlyLooked}
use Rattle.mp_supports.specs.Agreement.{last_made_llsn, HasMadeUndo}
use Rattle.mp_supports.proofs.Extending.{placed_in, given_in, core_extends_trans}
use Rattle.mp_supports.proofs.Keeping.{if_some_map}
use Rattle.mp_supports.proofs.Unchanged.{same_last}
use Rattle.mp_desk.specs.declared.desk.Desk.{Desk}
use Rattle.mp_desk.specs.Desks.{DeskAgrees, Moves, IsAtDesk, AreGivenSince, KeepsDesk, KeepsLocks, Brings, MissesHere, MetWait}
use Rattle.mp_desk.proofs.Moving.{LookedAway, away_looks, looks_go, goes_none, goes_both, looks_none, looks_both, holds_on, locks_none, locks_both}

-- ---- what is known grows

seen_more : (base : ℕ) (more seen : List ℕ) → greatest_seen base seen ≤ greatest_seen base (more ++ seen)
seen_more base [] seen = omega arith
seen_more base (v ∷ more) seen = let rest = seen_more base more seen in omega (arith, rest)

pub newest_grows : (old new : TrxPart) → PartExtends old new → newest old ≤ newest new
newest_grows old new e =
    let more = seen_more old.opening.base.ts e.more_seen.0 old.seen in
    let same : newest new ≡ greatest_seen old.opening.base.ts (e.more_seen.0 ++ old.seen) =
    ap (λ (o : TrxOpening). greatest_seen o.base.ts new.seen) e.same_opening ∙ ap (greatest_seen old.opening.base.ts) e.more_seen.1 in
    omega (arith, more, same)

told_more : (more given : List (GivenPage PageView)) → told_llsn page_ops given ≤ told_llsn page_ops (more ++ given)
told_more [] given = omega arith
told_more (g ∷ more) given = let rest = told_more more given in omega (arith, rest)

pub told_grows : (q r : CorePart) → CoreExtends q r → told_llsn page_ops q.pages.given ≤ told_llsn page_ops r.pages.given
told_grows q r e = subst (λ (l : List (GivenPage PageView)). told_llsn page_ops q.pages.given ≤ told_llsn page_ops l) (sym e.pages.more_given.1) (told_more e.pages.more_given.0 q.pages.given)

-- ---- the desk's agreement

module _ (old new : Desk) (q r : CorePart) (looked : OnlyLooked q r) (agrees : DeskAgrees old q) where
  -- after a look the desk agrees where its buffers do, and its LLSN is not below them
  pub desk_looked : AgreesWith new.pool r.pages → new.undo ≡ old.undo → old.llsn ≤ new.llsn → new.llsn ≤ max (last_made_llsn r) (told_llsn page_ops r.pages.given)
      → ((k : ℕ) (b : Buffer) → buffer_of new.pool k ≡ Some b → b.page.llsn ≤ new.llsn) → DeskAgrees new r
  desk_looked pool undo more told seen = record {
    pool = pool;
    not_below = let last = same_last q r looked.extends looked.made in let below = agrees.not_below in omega (arith, last, below, more);
    not_above = told;
    seen = seen;
    undo_page =
        subst (λ (o : Option ℕ). IfSome o (λ page. (2 ≤ page) × (page < 4096) × HasMadeUndo r page)) (sym undo)
        (if_some_map (λ page. (2 ≤ page) × (page < 4096) × HasMadeUndo q page) (λ page. (2 ≤ page) × (page < 4096) × HasMadeUndo r page) old.undo
        (λ page u. (u.0, u.1, (u.2.0, placed_in q r looked.extends u.2.0 u.2.1, u.2.2))) agrees.undo_page);
  }

pub agrees_away : (pool : List Buffer) (q r : CorePart) → LookedAway q r → AgreesWith pool q.pages → AgreesWith pool r.pages
agrees_away pool q r away agrees = record {
  shows = λ k b is. ap (λ l. content_at page_ops l k) away.contents ∙ agrees.shows k b is;
  keeps = λ k less.
      agrees.keeps k
      (let gave = ap (λ l. gave_at l k) away.gave in
      let own = ap (λ (l : List (Placed Mtr)). own_llsn page_ops l k) away.looked.made in
      omega (arith, gave, own, less));
}

pub desk_away : (desk : Desk) (q r : CorePart) → LookedAway q r → DeskAgrees desk q → DeskAgrees desk r
desk_away desk q r away agrees =
    desk_looked desk desk q r away.looked agrees (agrees_away desk.pool q r away agrees.pool) refl (omega arith)
    (let last = same_last q r away.looked.extends away.looked.made in
    let told = told_grows q r away.looked.extends in
    let above = agrees.not_above in
    omega (arith, last, told, above))
    agrees.seen

-- the primary is at its desk still, where it looked away from pages
pub at_desk_away : (run : Run) (desk : Desk) (p : ℕ) (a b : NodeView) → IsAtDesk run desk p a → Moves LookedAway p a b → KeepsLocks p a b → Reached b → IsAtDesk run desk p b
at_desk_away run desk p a b at moves locks reached =
    let has = held_part a p at.part in
    let now = moves.mine has.0 has.1 in
    record {
      its_run = moves.run ∙ at.its_run;
      reached = reached;
      part = holds_on p a b (looks_go p a b (away_looks p a b moves)) p at.part;
      frames = moves.frames ∙ at.frames;
      agrees = λ r there. subst (λ (x : CorePart). DeskAgrees desk x) (one_part (part_in b.parts p) now.0 r now.1 there) (desk_away desk has.0 now.0 now.2 (at.agrees has.0 has.1));
      written = λ k buffer is dirty. locks.written k (at.written k buffer is dirty);
    }

-- ---- pages given since a part

pub given_stays : (start q r : CorePart) (pool : List Buffer) → CoreExtends q r → AreGivenSince start q pool → AreGivenSince start r pool
given_stays start q r pool e given b there =
    let was = given b there in
    (was.0, (was.1.0, record { given = given_in q r e was.1.0 was.1.1.given; number = was.1.1.number; page_is = was.1.1.page_is; knew = was.1.1.knew; since = was.1.1.since }))

in_either : (b : Buffer) (pool more : List Buffer) → IsIn b (pool ++ more) → IsIn b pool ⊎ IsIn b more
in_either b [] more there = inr there
in_either b (c ∷ pool) more (inl is) = inl (inl is)
in_either b (c ∷ pool) more (inr there) = ⊎_elim (λ old. inl (inr old)) (λ new. inr new) (in_either b pool more there)

-- a page that just came in is one
pub given_new : (start q r : CorePart) (pool : List Buffer) (k : ℕ) (y : PageView) (known height : ℕ) → CoreExtends start q → CoreExtends q r → r.pages.given ≡ given_page k y known height ∷ q.pages.given
    → newest q.trx ≤ known → ((x : Placed Mtr) → IsIn x q.pages.made → x.at < height) → AreGivenSince start q pool → AreGivenSince start r (pool ++ new_buffer k y ∷ [])
given_new start q r pool k y known height before e given knew since old b there = elim (in_either b pool (new_buffer k y ∷ []) there) [
  | inl was ↦ given_stays start q r pool e old b was
  | inr (inl is) ↦ (
    ap (λ (c : Buffer). c.clean) is,
    (
      given_page k y known height,
      record {
        given = subst (λ (l : List (GivenPage PageView)). IsIn (given_page k y known height) l) (sym given) (inl refl);
        number = sym (ap (λ (c : Buffer). c.number) is);
        page_is = sym (ap (λ (c : Buffer). c.page) is);
        knew = let more = newest_grows start.trx q.trx before.trx in omega (arith, more, knew);
        since = λ x made. since x (placed_in start q before x made);
      },
    ),
  )
  | inr (inr none) ↦ absurd none
]

-- a page's buffer stands in the pool
pub buffer_in : (pool : List Buffer) (k : ℕ) (b : Buffer) → buffer_of pool k ≡ Some b → IsIn b pool × (b.number ≡ k)
buffer_in [] k b is = absurd cc
buffer_in (c ∷ pool) k b is =
    dite (ℕ_discrete k c.number)
    (λ same.
    let here : Some c ≡ Some b = sym (if_equal k c.number (Some c) (buffer_of pool k) same) ∙ is in
    let one : b ≡ c = cc in
    (inl one, ap (λ (x : Buffer). x.number) one ∙ sym same))
    (λ other. let rest = buffer_in pool k b (sym (if_differs k c.number (Some c) (buffer_of pool k) other) ∙ is) in (inr rest.0, rest.1))

-- ---- what is brought

pub desk_kept : (desk : Desk) → KeepsDesk desk desk
desk_kept desk = record { undo = refl; llsn = omega arith; buffers = λ k b is. (b, is, refl, refl) }

module _ (p : ℕ) where
  pub brings_none : (desk : Desk) (n : NodeView) → Brings 0 p desk desk n n
  brings_none desk n = record {
    looked = looks_none p n;
    desk = desk_kept desk;
    locks = locks_none p n;
    few = omega arith;
    given = λ start q r has before old there. subst (λ (x : CorePart). AreGivenSince start x desk.pool) (one_part (part_in n.parts p) q r has there) old;
  }

  -- it looked away from pages
  pub brings_away : (desk : Desk) (a b : NodeView) → Moves OnlyLooked p a b → KeepsLocks p a b → Brings 0 p desk desk a b
  brings_away desk a b looked locks = record {
    looked = looked;
    desk = desk_kept desk;
    locks = locks;
    few = omega arith;
    given = λ start q r has before old there.
        let now = looked.mine q has in
        given_stays start q r desk.pool (subst (CoreExtends q) (one_part (part_in b.parts p) now.0 r now.1 there) now.2.extends) old;
  }

  pub brings_both : (m n : ℕ) (one two three : Desk) (a b c : NodeView) → Brings m p one two a b → Brings n p two three b c → Brings (m + n) p one three a c
  brings_both m n one two three a b c first second = record {
    looked = looks_both p a b c first.looked second.looked;
    desk = record {
      undo = second.desk.undo ∙ first.desk.undo;
      llsn = let x = first.desk.llsn in let y = second.desk.llsn in omega (arith, x, y);
      buffers = λ k buffer is.
          let mid = first.desk.buffers k buffer is in
          let end = second.desk.buffers k mid.0 mid.1 in
          (end.0, end.1, end.2 ∙ mid.2, end.3 ∙ mid.3);
    };
    locks = locks_both p a b c first.locks second.locks;
    few = let x = first.few in let y = second.few in omega (arith, x, y);
    given = λ start q r has before old there.
        let mid = first.looked.mine q has in
        second.given start mid.0 r mid.1 (core_extends_trans start q mid.0 before mid.2.extends) (first.given start q mid.0 has before old mid.1) there;
  }

  pub brings_upto : (m n : ℕ) (one two : Desk) (a b : NodeView) → m ≤ n → Brings m p one two a b → Brings n p one two a b
  brings_upto m n one two a b le h = record { looked = h.looked; desk = h.desk; locks = h.locks; few = let x = h.few in omega (arith, x, le); given = h.given }

  -- ---- waits

  pub wait_here : (a b : NodeView) (wait : NotYet) → MissesHere p a b wait → MetWait p a b wait
  wait_here a b wait met = record { from = a; to = b; came = goes_none p a; met = met; went = goes_none p b }

  pub wait_later : (a b c : NodeView) (wait : NotYet) → Moves CoreExtends p a b → MetWait p b c wait → MetWait p a c wait
  wait_later a b c wait first met = record { from = met.from; to = met.to; came = goes_both p a b met.from first met.came; met = met.met; went = met.went }

-- ---- what changes no part

-- another plan
pub desk_planned : (run : Run) (p : ℕ) (n : NodeView) (old new : Desk) → new ≡ record old { plan = new.plan } → IsAtDesk run old p n → IsAtDesk run new p n
desk_planned run p n old new is at =
    subst (λ (d : Desk). IsAtDesk run d p n) (sym is)
    (record {
      its_run = at.its_run;
      reached = at.reached;
      part = at.part;
      frames = at.frames;
      agrees = λ q has. let a = at.agrees q has in record { pool = a.pool; not_below = a.not_below; not_above = a.not_above; seen = a.seen; undo_page = a.undo_page };
      written = at.written;
    })

pub brings_planned : (m p : ℕ) (old mid new : Desk) (a b : NodeView) → new ≡ record mid { plan = new.plan } → Brings m p old mid a b → Brings m p old new a b
brings_planned m p old mid new a b is h =
    subst (λ (d : Desk). Brings m p old d a b) (sym is)
    (record { looked = h.looked; desk = record { undo = h.desk.undo; llsn = h.desk.llsn; buffers = h.desk.buffers }; locks = h.locks; few = h.few; given = h.given })

-- what a desk keeps that had another plan
pub undo_planned : (old mid new : Desk) → mid ≡ record old { plan = mid.plan } → KeepsDesk mid new → KeepsDesk old new
undo_planned old mid new is kept = record {
  undo = kept.undo ∙ ap (λ (d : Desk). d.undo) is;
  llsn = let more = kept.llsn in let same : mid.llsn ≡ old.llsn = ap (λ (d : Desk). d.llsn) is in omega (arith, more, same);
  buffers = λ k b there. kept.buffers k b (ap (λ (d : Desk). buffer_of d.pool k) is ∙ there);
}

-- no buffers at all
pub desk_emptied : (run : Run) (p : ℕ) (n : NodeView) (old new : Desk) → new.pool ≡ [] → new.llsn ≡ old.llsn → new.undo ≡ old.undo → ((part : PagesPart PageView Mtr) → AgreesWith old.pool part → AgreesWith new.pool part)
    → IsAtDesk run old p n → IsAtDesk run new p n
desk_emptied run p n old new none llsn undo agrees at = record {
  its_run = at.its_run;
  reached = at.reached;
  part = at.part;
  frames = at.frames;
  agrees = λ q has.
      let a = at.agrees q has in
      record {
        pool = agrees q.pages a.pool;
        not_below = let below = a.not_below in omega (arith, below, llsn);
        not_above = let above = a.not_above in omega (arith, above, llsn);
        seen = λ k b is. absurd (no_buffer k b is);
        undo_page = subst (λ (o : Option ℕ). IfSome o (λ page. (2 ≤ page) × (page < 4096) × HasMadeUndo q page)) (sym undo) a.undo_page;
      };
  written = λ k b is. absurd (no_buffer k b is);
}
  where
    no_buffer : (k : ℕ) (b : Buffer) → buffer_of new.pool k ≡ Some b → ⊥
    no_buffer k b is = let both : None ≡ Some b = sym (ap (λ (l : List Buffer). buffer_of l k) none) ∙ is in absurd cc

-- where all buffers are clean, none is left when the clean ones are dropped
pub none_dirty : (pool : List Buffer) → ((b : Buffer) → IsIn b pool → b.clean ≡ true) → dirty_buffers pool ≡ []
none_dirty [] all = refl
none_dirty (b ∷ pool) all = filter-out (λ (x : Buffer). not x.clean) b pool (ap not (all b (inl refl))) ∙ none_dirty pool (λ x there. all x (inr there))

pub given_emptied : (start q : CorePart) (pool : List Buffer) → pool ≡ [] → AreGivenSince start q pool
given_emptied start q pool none b there = absurd (subst (λ (l : List Buffer). IsIn b l) none there)

-- the current undo page is one of the store's
pub undo_ranges : (run : Run) (desk : Desk) (p : ℕ) (n : NodeView) → IsAtDesk run desk p n → IfSome desk.undo (λ u. (2 ≤ u) × (u < 4096))
undo_ranges run desk p n at =
    let has = held_part n p at.part in
    if_some_map (λ page. (2 ≤ page) × (page < 4096) × HasMadeUndo has.0 page) (λ page. (2 ≤ page) × (page < 4096)) desk.undo (λ page u. (u.0, u.1)) (at.agrees has.0 has.1).undo_page

pub undo_range : (run : Run) (desk : Desk) (p : ℕ) (n : NodeView) → IsAtDesk run desk p n → (u : ℕ) → desk.undo ≡ Some u → u < 4096
undo_range run desk p n at u is = (subst (λ (o : Option ℕ). IfSome o (λ x. (2 ≤ x) × (x < 4096))) is (undo_ranges run desk p n at)).1
