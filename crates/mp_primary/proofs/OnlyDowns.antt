-- A part that knows no more than before but of primaries that are down: what stood on it stands, and so does its primary.
use Rattle.std.proofs.Common.{◌≡◌, ◌≢◌, ℕ, List, [], ◌∷◌, ◌++◌, Option, Some, refl, sym, ap, subst, ◌∙◌, inl, inr, append_assoc}
use Rattle.mp_machine.specs.Lists.{IsIn}
use Rattle.mp_machine.specs.View.{part_in}
use Rattle.mp_machine.proofs.Lists.{in_grown}
use Rattle.mp_cells.specs.declared.records.Mtr.{Mtr}
use Rattle.mp_cells.specs.PageView.{PageView}
use Rattle.mp_core_trx.specs.declared.opening.TrxOpening.{TrxOpening}
use Rattle.mp_core_trx.specs.declared.part.Begun.{Begun}
use Rattle.mp_core_trx.specs.declared.part.TrxPart.{TrxPart}
use Rattle.mp_core_trx.specs.Events.{IsNode}
use Rattle.mp_core_trx.specs.Parts.{IsOpen}
use Rattle.mp_core_pages.specs.declared.part.PagesPart.{PagesPart}
use Rattle.mp_core_pages.specs.PageParts.{held_at}
use Rattle.mp_core.specs.declared.part.CorePart.{CorePart}
use Rattle.mp_core.specs.declared.part.DownLoad.{DownLoad}
use Rattle.mp_core.specs.CoreExtends.{durable_of, CoreExtends}
use Rattle.mp_core.specs.Downs.{down_load}
use Rattle.mp_book.specs.declared.session.Session.{Session}
use Rattle.mp_book.specs.Stages.{next_line, trx_of_stage}
use Rattle.mp_outside.specs.declared.disks.Disk.{Ghosts}
use Rattle.mp_shared.specs.Nodes.{Run, NodeView, HoldsPart, Reached}
use Rattle.mp_shared.specs.PageSteps.{held_in, held_by_part}
use Rattle.mp_shared.proofs.Holding.{held_part, holds_the_part}
use Rattle.mp_buffer_fusion.proofs.Visiting.{one_part}
use Rattle.mp_supports.specs.Supports.{SupportsWaits}
use Rattle.mp_supports.specs.Kept.{Entry}
use Rattle.mp_supports.specs.Steps.{OnlyLooked}
use Rattle.mp_supports.proofs.Classes.{did_looked}
use Rattle.mp_supports.proofs.Extending.{core_extends_refl, core_extends_trans}
use Rattle.mp_supports.proofs.Keeping.{if_some_map, kept_quiet}
use Rattle.mp_supports.proofs.SupportsMore.{waits_more}
use Rattle.mp_supports.proofs.Unchanged.{opens_same, mirrors_kept, bounds_kept}
use Rattle.mp_desk.specs.declared.desk.Desk.{Desk}
use Rattle.mp_desk.specs.Desks.{DeskAgrees, IsAtDesk, Moves}
use Rattle.mp_desk.proofs.MediaMoved.{part_looked}
use Rattle.mp_primary.specs.Primaries.{PrimaryView, AreSessions, PrimaryAgrees, PrimaryAgreesIn, StandsWith}
use Rattle.mp_primary.specs.Downs.{WentOn, OnlyDowns, OnlyLoads, LoadedSince}

-- ---- parts

pub downs_none : (q : CorePart) → OnlyDowns q q
downs_none q = record { extends = core_extends_refl q; rest = refl }

pub downs_both : (q r s : CorePart) → OnlyDowns q r → OnlyDowns r s → OnlyDowns q s
downs_both q r s a b = record {
  extends = core_extends_trans q r s a.extends b.extends;
  rest = b.rest ∙ ap (λ (x : CorePart). record x { downs = s.downs; ops = s.ops }) a.rest;
}

pub loads_none : (q : CorePart) → OnlyLoads q q
loads_none q = record { only = downs_none q; own = refl }

pub loads_both : (q r s : CorePart) → OnlyLoads q r → OnlyLoads r s → OnlyLoads q s
loads_both q r s a b = record { only = downs_both q r s a.only b.only; own = b.own ∙ a.own }

pub loads_downs : (q r : CorePart) → OnlyLoads q r → OnlyDowns q r
loads_downs q r h = h.only

-- what was loaded since a part was loaded since an earlier one, and is so for a later one
pub loaded_after : (of by : ℕ) (q r s : CorePart) → OnlyDowns q r → LoadedSince of by r s → LoadedSince of by q s
loaded_after of by q r s a b = let more = a.extends.downs.loaded in record {
  only = downs_both q r s a b.only;
  more = b.more ++ more.0;
  loaded = b.loaded ∙ ap (λ (l : List DownLoad). b.more ++ l) more.1 ∙ sym (append_assoc b.more more.0 q.downs.loaded);
  its = in_front (down_load of by) b.more more.0 b.its;
}
  where
    in_front : (x : DownLoad) (xs ys : List DownLoad) → IsIn x xs → IsIn x (xs ++ ys)
    in_front x [] ys h = absurd h
    in_front x (z ∷ zs) ys (inl is) = inl is
    in_front x (z ∷ zs) ys (inr h) = inr (in_front x zs ys h)

pub loaded_before : (of by : ℕ) (q r s : CorePart) → LoadedSince of by q r → OnlyDowns r s → LoadedSince of by q s
loaded_before of by q r s a b = let more = b.extends.downs.loaded in record {
  only = downs_both q r s a.only b;
  more = more.0 ++ a.more;
  loaded = more.1 ∙ ap (λ (l : List DownLoad). more.0 ++ l) a.loaded ∙ sym (append_assoc more.0 a.more q.downs.loaded);
  its = in_grown a.more more.0 (down_load of by) a.its;
}

module _ (q r : CorePart) (h : OnlyDowns q r) where
  pub trx_same : r.trx ≡ q.trx
  trx_same = ap (λ (x : CorePart). x.trx) h.rest

  pub pages_same : r.pages ≡ q.pages
  pages_same = ap (λ (x : CorePart). x.pages) h.rest

  made_same : r.pages.made ≡ q.pages.made
  made_same = ap (λ (p : PagesPart PageView Mtr). p.made) pages_same

  pub only_looked : OnlyLooked q r
  only_looked = record {
    extends = h.extends;
    begun = ap (λ (t : TrxPart). t.begun) trx_same;
    rows = ap (λ (t : TrxPart). t.rows) trx_same;
    drew = ap (λ (t : TrxPart). t.drew) trx_same;
    made = made_same;
    durables = ap (λ (p : PagesPart PageView Mtr). p.durables) pages_same;
  }

  pub desk_agrees_on : (desk : Desk) → DeskAgrees desk q → DeskAgrees desk r
  desk_agrees_on desk agrees = subst (λ (x : CorePart). DeskAgrees desk x) (sym h.rest) (record {
    pool = agrees.pool;
    not_below = agrees.not_below;
    not_above = agrees.not_above;
    seen = agrees.seen;
    undo_page = agrees.undo_page;
  })

  module _ {D : Type 0} (g : Ghosts D) (pr : PrimaryView D) (entries : List Entry) (was : PrimaryAgrees g pr entries q) where
    sessions_on : AreSessions r pr.book.sessions.items
    sessions_on =
        let P : TrxPart → Type 0 = λ t. (b : Begun) → IsIn b t.begun → IsOpen t b.id → (s : Session) × IsIn s pr.book.sessions.items × (trx_of_stage s.stage ≡ Some b) in
        subst P (sym trx_same) was.sessions

    pub agrees_on : PrimaryAgrees g pr entries r
    agrees_on = record {
      kept = kept_quiet pr.work q r pr.down pr.down entries (inr (refl, sym durable)) was.kept (did_looked q r only_looked);
      answers = was.answers;
      opens = λ up. opens_same pr.work q r 0 h.extends only_looked.begun only_looked.rows made_same pr.book.sessions.items (was.opens up);
      sessions = sessions_on;
      waits = λ s there. if_some_map (λ line. SupportsWaits pr.work q line s.waits.items) (λ line. SupportsWaits pr.work r line s.waits.items) (next_line s)
          (λ line waits. waits_more q r h.extends pr.work line s.waits.items waits) (was.waits s there);
      mirrors = mirrors_kept q r h.extends pr.down pr.desk.llsn pr.desk.undo made_same (ap (λ (p : PagesPart PageView Mtr). p.locks) pages_same) was.mirrors;
      media = part_looked g pr.work pr.number pr.down pr.media q r only_looked was.media;
      bounds = bounds_kept q r h.extends pr.work pr.book.answers.items pr.book.sessions.items made_same was.bounds;
      exact = ap (λ (t : TrxPart). t.opening.begins) trx_same ∙ was.exact;
      begun = was.begun;
    }
      where
        durable : durable_of r ≡ durable_of q
        durable = ap (λ (x : CorePart). durable_of x) h.rest

-- ---- a primary that goes down with the number of another, its log open

module _ {D : Type 0} (g : Ghosts D) (pr : PrimaryView D) (up : pr.down ≡ 0) (by : ℕ) (some : by ≢ 0) where
  abbrev fallen : PrimaryView D
  fallen = record pr { down = by }

  pub agrees_down : (entries : List Entry) (q : CorePart) → PrimaryAgrees g pr entries q → PrimaryAgrees g fallen entries q
  agrees_down entries q was = record {
    kept = kept_quiet pr.work q q pr.down by entries (inl up) was.kept (did_looked q q (only_looked q q (downs_none q)));
    answers = was.answers;
    opens = λ zero. absurd (some zero);
    sessions = was.sessions;
    waits = was.waits;
    mirrors = record { not_below = was.mirrors.not_below; not_above = was.mirrors.not_above; undo_page = was.mirrors.undo_page; idle = λ page. inr some };
    media = record {
      base = was.media.base;
      node = was.media.node;
      on_disk = record {
        images = was.media.on_disk.images;
        live = was.media.on_disk.live;
        last = was.media.on_disk.last;
        forced = was.media.on_disk.forced;
        closed = λ closed. some;
      };
      some_made = was.media.some_made;
    };
    bounds = was.bounds;
    exact = was.exact;
    begun = was.begun;
  }

  pub stands_down : (run : Run) (n : NodeView) → StandsWith g run pr n → StandsWith g run fallen n
  stands_down run n stands = record {
    primary = record {
      book = stands.primary.book;
      names = stands.primary.names;
      places = stands.primary.places;
      own = stands.primary.own;
      up = λ zero. absurd (some zero);
    };
    desk = stands.desk;
    agrees = (stands.agrees.0, λ q has. agrees_down stands.agrees.0 q (stands.agrees.1 q has));
  }

-- ---- nodes

module _ (p : ℕ) where
  pub went_none : (So : CorePart → CorePart → Type 0) → ((q : CorePart) → So q q) → (n : NodeView) → WentOn So p n n
  went_none So itself n = record { run = refl; frames = refl; others = λ k other. refl; mine = λ q has. (q, has, itself q) }

  pub went_both : (First Second Both : CorePart → CorePart → Type 0) → ((q r s : CorePart) → First q r → Second r s → Both q s) → (a b c : NodeView) → WentOn First p a b → WentOn Second p b c → WentOn Both p a c
  went_both First Second Both join a b c one two = record {
    run = two.run ∙ one.run;
    frames = two.frames ∙ one.frames;
    others = λ k other. two.others k other ∙ one.others k other;
    mine = λ q has. let r = one.mine q has in let s = two.mine r.0 r.1 in (s.0, s.1, join q r.0 s.0 r.2 s.2);
  }

  pub went_as : (First Second : CorePart → CorePart → Type 0) → ((q r : CorePart) → First q r → Second q r) → (a b : NodeView) → WentOn First p a b → WentOn Second p a b
  went_as First Second weaker a b one = record { run = one.run; frames = one.frames; others = one.others; mine = λ q has. let r = one.mine q has in (r.0, r.1, weaker q r.0 r.2) }

  -- moves that leave what is known of primaries that are down
  pub went_moved : (So : CorePart → CorePart → Type 0) → (a b : NodeView) → Moves So p a b → WentOn So p a b
  went_moved So a b moves = record { run = moves.run; frames = moves.frames; others = moves.others; mine = λ q has. let r = moves.mine q has in (r.0, r.1, r.2) }

  pub went_goes : (a b c : NodeView) → Moves CoreExtends p a b → WentOn OnlyDowns p b c → WentOn CoreExtends p a c
  went_goes a b c one two = went_both CoreExtends OnlyDowns CoreExtends (λ q r s x y. core_extends_trans q r s x y.extends) a b c (went_moved CoreExtends a b one) two

  pub went_downs : (a b c : NodeView) → WentOn OnlyDowns p a b → WentOn OnlyDowns p b c → WentOn OnlyDowns p a c
  went_downs = went_both OnlyDowns OnlyDowns OnlyDowns downs_both

  module _ (So : CorePart → CorePart → Type 0) (a b : NodeView) (went : WentOn So p a b) where
    -- the part that it was, of the part that it is
    pub went_back : (held : HoldsPart a p) (r : CorePart) → part_in b.parts p ≡ Some r → (q : CorePart) × (part_in a.parts p ≡ Some q) × So q r
    went_back held r there =
        let has = held_part a p held in
        let now = went.mine has.0 has.1 in
        (has.0, has.1, subst (λ (x : CorePart). So has.0 x) (one_part (part_in b.parts p) now.0 r now.1 there) now.2)

  module _ (a b : NodeView) (went : WentOn OnlyDowns p a b) where
    part_on : HoldsPart a p → HoldsPart b p
    part_on held =
        let has = held_part a p held in
        let now = went.mine has.0 has.1 in
        holds_the_part b p now.0 now.1 (subst (λ (o : TrxOpening). IsNode o p) (sym (ap (λ (t : TrxPart). t.opening) (trx_same has.0 now.0 now.2))) has.2)

    locks_on : HoldsPart a p → (k : ℕ) → held_in b p k ≡ held_in a p k
    locks_on held k =
        let has = held_part a p held in
        let now = went.mine has.0 has.1 in
        ap (λ (o : Option CorePart). held_by_part o k) now.1
        ∙ ap (λ (x : PagesPart PageView Mtr). held_at x.locks k) (pages_same has.0 now.0 now.2)
        ∙ sym (ap (λ (o : Option CorePart). held_by_part o k) has.1)

    pub desk_on : (run : Run) (desk : Desk) → Reached b → IsAtDesk run desk p a → IsAtDesk run desk p b
    desk_on run desk reached at = record {
      its_run = went.run ∙ at.its_run;
      reached = reached;
      part = part_on at.part;
      frames = went.frames ∙ at.frames;
      agrees = λ r there. let was = went_back OnlyDowns a b went at.part r there in desk_agrees_on was.0 r was.2 desk (at.agrees was.0 was.1);
      written = λ k buffer there dirty. locks_on at.part k ∙ at.written k buffer there dirty;
    }

module _ {D : Type 0} (g : Ghosts D) (pr : PrimaryView D) (a b : NodeView) (went : WentOn OnlyDowns pr.number a b) (held : HoldsPart a pr.number) where
  pub agrees_in_on : (entries : List Entry) → PrimaryAgreesIn g pr entries a → PrimaryAgreesIn g pr entries b
  agrees_in_on entries agrees r there =
      let was = went_back pr.number OnlyDowns a b went held r there in
      agrees_on was.0 r was.2 g pr entries (agrees was.0 was.1)

pub stands_on : {D : Type 0} (g : Ghosts D) (run : Run) (pr : PrimaryView D) (a b : NodeView) → WentOn OnlyDowns pr.number a b → Reached b → StandsWith g run pr a → StandsWith g run pr b
stands_on g run pr a b went reached stands = record {
  primary = stands.primary;
  desk = desk_on pr.number a b went run pr.desk reached stands.desk;
  agrees = (stands.agrees.0, agrees_in_on g pr a b went stands.desk.part stands.agrees.0 stands.agrees.1);
}
