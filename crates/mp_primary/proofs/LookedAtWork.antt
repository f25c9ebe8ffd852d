-- Where a statement only looked, its primary is at work, and its trace has the pages on which it rests.
use Rattle.std.proofs.Common.{◌≡◌, ℕ, ◌<◌, false, List, [], ◌∷◌, Option, Some, refl, sym, ap, subst, ◌∙◌, inl, inr, arith}
use Rattle.std.specs.List.{AllByRecursion}
use Rattle.mp_machine.specs.Lists.{IsIn}
use Rattle.mp_machine.specs.View.{part_in}
use Rattle.mp_model.specs.declared.key_value.KeyValue.{KeyValue}
use Rattle.mp_model.specs.declared.replies.Reply.TheVariants.{Got, Scanned}
use Rattle.mp_model.specs.declared.waiting.Turn.{Turn}
use Rattle.mp_model.specs.Listed.{Listed}
use Rattle.mp_script.specs.declared.statements.Stmt.{Stmt}
use Rattle.mp_script.specs.declared.statements.Stmt.TheVariants.{Get, Scan}
use Rattle.mp_script.specs.Transactions.{begins}
use Rattle.mp_cells.specs.declared.records.Mtr.{Mtr}
use Rattle.mp_cells.specs.PageView.{PageView}
use Rattle.mp_core_trx.specs.declared.part.Begun.{Begun}
use Rattle.mp_core_pages.specs.declared.part.GivenPage.{GivenPage}
use Rattle.mp_core_pages.specs.declared.part.Placed.{Placed}
use Rattle.mp_core.specs.declared.part.CorePart.{CorePart}
use Rattle.mp_core.specs.CoreExtends.{CoreExtends}
use Rattle.mp_outside.specs.declared.disks.Disk.{Ghosts}
use Rattle.mp_shared.specs.Nodes.{Run, NodeView}
use Rattle.mp_shared.proofs.Holding.{held_part}
use Rattle.mp_buffer_fusion.proofs.Visiting.{one_part}
use Rattle.mp_supports.specs.Supports.{Trace, no_trace, looked_trace, SupportsReply}
use Rattle.mp_supports.specs.Kept.{Did}
use Rattle.mp_supports.specs.Steps.{OnlyLooked}
use Rattle.mp_supports.proofs.Classes.{did_looked, did_with_pages}
use Rattle.mp_supports.proofs.Extending.{core_extends_refl}
use Rattle.mp_desk.specs.declared.desk.Desk.{Desk}
use Rattle.mp_desk.specs.declared.halts.ReadHalt.{ReadHalt}
use Rattle.mp_desk.specs.Desks.{IsAtDesk, Moves, AreGivenSince}
use Rattle.mp_desk.specs.Making.{HoldsPartOf, MediaAgree}
use Rattle.mp_desk.specs.Statements.{StaysQuiet, LooksOn, KnowsView, FindsValue, FindsRows}
use Rattle.mp_desk.specs.ReadHalts.{HaltsScan}
use Rattle.mp_desk.proofs.MediaMoved.{part_looked}
use Rattle.mp_desk.proofs.Moving.{moves_as}
use Rattle.mp_desk.proofs.PutBackRows.{moves_quiet_looked, did_quiet}
use Rattle.mp_primary.specs.Primaries.{PrimaryView, StandsWith}
use Rattle.mp_primary.specs.Turns.{TriesAt}
use Rattle.mp_primary.specs.Tries.{TriesTurn}
use Rattle.mp_primary.specs.AtWork.{IsAtWork}
use Rattle.mp_primary.specs.Reads.{FindsReply, StopsReading}
use Rattle.mp_primary.proofs.OpenReaders.{starts_given, knows_view, is_trx_of}
use Rattle.mp_primary.proofs.TurnEnds.{moved}
use Rattle.mp_primary.proofs.WaitsGoOn.{trx_of_more}

-- what all parts did so, the part of one primary did
did_so : (p : ℕ) (a b : NodeView) (looked : Moves OnlyLooked p a b) (trace : Trace)
    → ((q r : CorePart) → part_in a.parts p ≡ Some q → part_in b.parts p ≡ Some r → OnlyLooked q r → Did q r trace)
    → Moves (λ q r. Did q r trace) p a b
did_so p a b looked trace so = record {
  run = looked.run;
  frames = looked.frames;
  others = looked.others;
  mine = λ q has. let r =
      looked.mine q has in (r.0, r.1, so q r.0 has r.1 r.2, r.3);
}

-- a quiet part left nothing
pub quiet_work : {D : Type 0} (g : Ghosts D) (run : Run) (old now : PrimaryView D) (before n : NodeView) (trace : Trace)
    → IsAtWork g run old now before n trace → Moves StaysQuiet old.number before n → IsAtWork g run old now before n no_trace
quiet_work g run old now before n trace h quiet = record {
  rest = h.rest;
  up = h.up;
  desk = h.desk;
  own = h.own;
  log = h.log;
  media = h.media;
  did = moves_as old.number StaysQuiet (λ q r. Did q r no_trace) did_quiet before n quiet;
  faults = h.faults;
  tells = h.tells;
}

module _ {D : Type 0} (g : Ghosts D) (run : Run) (old : PrimaryView D) (before n : NodeView) (stands : StandsWith g run old before)
    (up : old.down ≡ 0) (desk : Desk) (at : IsAtDesk run desk old.number n) (looks : LooksOn old.number old.desk desk before n) where
  looked_media : MediaAgree g old.work 0 old.media old.number n
  looked_media r there =
      let has = held_part before old.number stands.desk.part in
      let was = stands.agrees.1 has.0 has.1 in
      part_looked g old.work old.number 0 old.media has.0 r (moved OnlyLooked old.number before n looks.looked has.0 r has.1 there)
      (subst (λ (k : ℕ). HoldsPartOf g old.work k old.number old.media has.0) up was.media)

  pub looked_work : (trace : Trace) → Moves (λ q r. Did q r trace) old.number before n
      → IsAtWork g run old (record old { desk = desk }) before n trace
  looked_work trace did = record {
    rest = refl;
    up = up;
    desk = at;
    own = ap (λ (m : Mtr). m.node) looks.work.1 ∙ stands.primary.own;
    log = let l = (stands.primary.up up).0 in record
        { live = l.live; node = l.node; last = (let last = l.last in let llsn = looks.llsn in omega (arith, last, llsn)); fits = l.fits };
    media = looked_media;
    did = did;
    faults = omega arith;
    tells = refl;
  }

  pub looked_nothing : IsAtWork g run old (record old { desk = desk }) before n no_trace
  looked_nothing = looked_work no_trace (did_so old.number before n looks.looked no_trace (λ q r has there l. did_looked q r l))

  -- with the pages that it rests on
  pub looked_pages : (pages : List (GivenPage PageView))
      → ((q r : CorePart) → part_in before.parts old.number ≡ Some q → part_in n.parts old.number ≡ Some r
      → AllByRecursion (λ g. IsIn g r.pages.given) pages
      × AllByRecursion (λ g. (x : Placed Mtr) → IsIn x q.pages.made → x.at < g.height) pages)
      → IsAtWork g run old (record old { desk = desk }) before n (looked_trace pages)
  looked_pages pages are =
      looked_work (looked_trace pages)
      (did_so old.number before n looks.looked (looked_trace pages)
      (λ q r has there l. let so = are q r has there in did_with_pages q r no_trace pages (did_looked q r l) so.0 so.1))

-- ---- a get

all_in : {T : Type 0} (P : T → Type 0) (xs : List T) → ((x : T) → IsIn x xs → P x) → AllByRecursion P xs
all_in P [] f = tt
all_in P (x ∷ xs) f = (f x (inl refl), all_in P xs (λ y there. f y (inr there)))

module _ {D : Type 0} (g : Ghosts D) (run : Run) (old : PrimaryView D) (before n : NodeView) (number : ℕ) (trx : Begun) (stmt : Stmt)
    (tries : TriesAt g run old before number trx stmt) (desk : Desk) (at : IsAtDesk run desk old.number n)
    (looks : LooksOn old.number old.desk desk before n) where
  pub start : (q : CorePart) × (part_in before.parts old.number ≡ Some q)
  start = let h = held_part before old.number tries.comes.stands.desk.part in (h.0, h.1)

  given_before : AreGivenSince start.0 start.0 old.desk.pool
  given_before = starts_given g run old before number tries.session tries.line tries.comes tries.up start.0

  knows : KnowsView start.0 trx
  knows = knows_view g run old before number tries.session tries.line tries.comes tries.up trx tries.stage start.0 start.1

  pub work_nothing : IsAtWork g run old (record old { desk = desk }) before n no_trace
  work_nothing = looked_nothing g run old before n tries.comes.stands tries.up desk at looks

  pub stops_reading : (halt : ReadHalt) → HaltsScan old.number trx before n halt → StopsReading old before n tries.session halt
  stops_reading halt cause = record
      { trx = trx; stage = tries.stage; quiet = moves_quiet_looked old.number before n looks.looked; cause = cause }

  -- what was found holds of each part that the primary has before and after, since it has one
  module _ (key : ℕ) (its : stmt ≡ Get key) (value : Option (List ℕ))
      (got : (s q r : CorePart) → part_in before.parts old.number ≡ Some q → CoreExtends s q → KnowsView s trx
      → AreGivenSince s q old.desk.pool → part_in n.parts old.number ≡ Some r → FindsValue s r trx key value) where
    pub finish : (r : CorePart) × (part_in n.parts old.number ≡ Some r)
    finish = let h = held_part n old.number at.part in (h.0, h.1)

    pub value_found : FindsValue start.0 finish.0 trx key value
    value_found = got start.0 start.0 finish.0 start.1 (core_extends_refl start.0) knows given_before finish.1

    abbrev pub got_pages : List (GivenPage PageView)
    got_pages = value_found.leaf ∷ []

    got_given : IsIn value_found.leaf (finish.0).pages.given
    got_given = elim value_found.sees.rests [
      | inl same ↦ subst (λ (x : GivenPage PageView). IsIn x (finish.0).pages.given) same value_found.sees.shows.given
      | inr none ↦ absurd none
    ]

    pub got_work : IsAtWork g run old (record old { desk = desk }) before n (looked_trace got_pages)
    got_work = looked_pages g run old before n tries.comes.stands tries.up desk at looks got_pages (λ q r has there. (
      (
        subst (λ (x : CorePart). IsIn value_found.leaf x.pages.given)
            (one_part (part_in n.parts old.number) (finish.0) r finish.1 there) got_given,
        tt,
      ),
      (
        subst (λ (x : CorePart). (y : Placed Mtr) → IsIn y x.pages.made → y.at < (value_found.leaf).height)
            (one_part (part_in before.parts old.number) (start.0) q start.1 has) value_found.since,
        tt,
      ),
    ))

    pub got_reply : FindsReply old before n tries.session tries.line (Got value) got_pages
    got_reply = record {
      trx = trx;
      stage = tries.stage;
      reads = inl (key, value, tries.stmt_is ∙ its, refl);
      quiet = moves_quiet_looked old.number before n looks.looked;
      supported = λ r there. subst (λ (x : CorePart). SupportsReply old.work x 0 (looked_trace got_pages) tries.line (Got value))
          (one_part (part_in n.parts old.number) (finish.0) r finish.1 there) supported_here;
    }
      where
        no_begin : begins (Some tries.line.stmt) ≡ false
        no_begin = ap (λ (x : Stmt). begins (Some x)) (tries.stmt_is ∙ its)

        e : CoreExtends start.0 finish.0
        e = (moved OnlyLooked old.number before n looks.looked start.0 finish.0 start.1 finish.1).extends

        supported_here : SupportsReply old.work (finish.0) 0 (looked_trace got_pages) tries.line (Got value)
        supported_here = (
          trx.id,
          trx.view,
          trx_of_more (start.0) (finish.0) e old.work tries.line trx.id trx.view
              (is_trx_of g run old before number tries.session tries.line tries.comes tries.up trx tries.stage
              (start.0) start.1 no_begin),
          (key, value_found.found, tries.stmt_is ∙ its, value_found.sees, value_found.value_is, refl),
        )

  -- ---- a scan

  module _ (low most : ℕ) (its : stmt ≡ Scan low most) (rows : Listed KeyValue)
      (scanned : (s q r : CorePart) → part_in before.parts old.number ≡ Some q → CoreExtends s q → KnowsView s trx
      → AreGivenSince s q old.desk.pool → part_in n.parts old.number ≡ Some r → FindsRows s r trx low most rows.items) where
    pub scan_end : (r : CorePart) × (part_in n.parts old.number ≡ Some r)
    scan_end = let h = held_part n old.number at.part in (h.0, h.1)

    pub rows_found : FindsRows start.0 scan_end.0 trx low most rows.items
    rows_found = scanned start.0 start.0 scan_end.0 start.1 (core_extends_refl start.0) knows given_before scan_end.1

    abbrev pub scanned_pages : List (GivenPage PageView)
    scanned_pages = rows_found.pages

    pub scanned_work : IsAtWork g run old (record old { desk = desk }) before n (looked_trace scanned_pages)
    scanned_work = looked_pages g run old before n tries.comes.stands tries.up desk at looks scanned_pages (λ q r has there. (
      all_in (λ x. IsIn x r.pages.given) rows_found.pages
          (λ x inside. subst (λ (y : CorePart). IsIn x y.pages.given)
          (one_part (part_in n.parts old.number) (scan_end.0) r scan_end.1 there) (rows_found.given x inside)),
      all_in (λ x. (y : Placed Mtr) → IsIn y q.pages.made → y.at < x.height) rows_found.pages
          (λ x inside. subst (λ (z : CorePart). (y : Placed Mtr) → IsIn y z.pages.made → y.at < x.height)
          (one_part (part_in before.parts old.number) (start.0) q start.1 has) (rows_found.since x inside)),
    ))

    pub scanned_reply : FindsReply old before n tries.session tries.line (Scanned rows) scanned_pages
    scanned_reply = record {
      trx = trx;
      stage = tries.stage;
      reads = inr (low, most, rows, tries.stmt_is ∙ its, refl);
      quiet = moves_quiet_looked old.number before n looks.looked;
      supported = λ r there. subst (λ (x : CorePart). SupportsReply old.work x 0 (looked_trace scanned_pages) tries.line (Scanned rows))
          (one_part (part_in n.parts old.number) (scan_end.0) r scan_end.1 there) supported_here;
    }
      where
        no_begin : begins (Some tries.line.stmt) ≡ false
        no_begin = ap (λ (x : Stmt). begins (Some x)) (tries.stmt_is ∙ its)

        e : CoreExtends start.0 scan_end.0
        e = (moved OnlyLooked old.number before n looks.looked start.0 scan_end.0 start.1 scan_end.1).extends

        supported_here : SupportsReply old.work (scan_end.0) 0 (looked_trace scanned_pages) tries.line (Scanned rows)
        supported_here = (
          trx.id,
          trx.view,
          trx_of_more (start.0) (scan_end.0) e old.work tries.line trx.id trx.view
              (is_trx_of g run old before number tries.session tries.line tries.comes tries.up trx tries.stage
              (start.0) start.1 no_begin),
          (low, most, rows_found.high, rows_found.count, tries.stmt_is ∙ its, rows_found.scans, rows_found.few, rows_found.end, refl),
        )

-- ---- of what a method sees inside

pub tries_inside : {D : Type 0} (g : Ghosts D) (run : Run) (view now : PrimaryView D) → view ≡ now
    → (before : NodeView) (number : ℕ) (trx : Begun) (stmt : Stmt) → TriesAt g run now before number trx stmt
    → TriesAt g run view before number trx stmt
tries_inside g run view now same before number trx stmt tries =
    subst (λ (v : PrimaryView _). TriesAt g run v before number trx stmt) (sym same) tries

pub turn_outside : {D : Type 0} (g : Ghosts D) (run : Run) (view now : PrimaryView D) → view ≡ now
    → (new : PrimaryView D) (before n : NodeView) (number : ℕ) (turn : Turn) → TriesTurn g run view new before n (Some number) turn
    → TriesTurn g run now new before n (Some number) turn
turn_outside g run view now same new before n number turn h =
    subst (λ (v : PrimaryView _). TriesTurn g run v new before n (Some number) turn) same h
