-- How a primary's commit comes into its log: its record is made, is said to be durable, and then the commit may be published.
use Rattle.std.proofs.Common.{◌≡◌, ℕ, ◌+◌, ◌<◌, ◌≤◌, ◌^◌, List, [], ◌∷◌, length, Option, Some, None, true, IsTrue, refl, sym, ap, ◌∙◌, subst, inl, inr, ⊎_elim, arith}
use Rattle.std.proofs.Math.Nat.{le-max_left}
use Rattle.std.proofs.lemmas.Grind.{common_steps}
use mathlib.Core.Bool.{false≢true}
use Rattle.mp_machine.specs.Machine.{run}
use Rattle.mp_machine.specs.View.{part_in}
use Rattle.mp_machine.specs.Lists.{IsIn}
use Rattle.mp_machine.proofs.Views.{part_in-with_here, part_in-with_else}
use Rattle.mp_model.specs.declared.ids.TrxId.{TrxId}
use Rattle.mp_cells.specs.declared.records.Record.{Record}
use Rattle.mp_cells.specs.declared.records.Record.TheVariants as records
use Rattle.mp_cells.specs.declared.records.Mtr.{Mtr}
use Rattle.mp_cells.specs.Rows.{is_writer}
use Rattle.mp_cells.specs.Mtrs.{IsMtr, AreRecords}
use Rattle.mp_cells.specs.Plans.{Meets, plan_of}
use Rattle.mp_core_trx.specs.declared.opening.TrxOpening.{TrxOpening}
use Rattle.mp_core_trx.specs.declared.part.Begun.{Begun}
use Rattle.mp_core_trx.specs.declared.event.TrxEvent.TheVariants.{StoreEnd}
use Rattle.mp_core_trx.specs.Parts.{begun_of, draw_of, HasBegun}
use Rattle.mp_core_trx.proofs.Bounds.{tso_fits}
use Rattle.mp_core_pages.specs.declared.part.Placed.{Placed}
use Rattle.mp_core_pages.specs.declared.event.PagesEvent.TheVariants.{StoreLlsn, StoreDurable}
use Rattle.mp_core_pages.specs.Histories.{is_touched, placed, PrevsFit, llsn_at}
use Rattle.mp_core_pages.specs.PageParts.{content_at, durable_llsn, last_llsn, told_llsn}
use Rattle.mp_core_pages.specs.PageEvents.{MayMake}
use Rattle.mp_core.specs.declared.part.CorePart.{CorePart}
use Rattle.mp_core.specs.declared.event.CoreEvent.{CoreEvent}
use Rattle.mp_core.specs.declared.event.CoreEvent.TheVariants.{Trx, Pages}
use Rattle.mp_core.specs.Contents.{touched_by, page_ops, contents_of}
use Rattle.mp_core.specs.Commits.{commit_records}
use Rattle.mp_core.specs.MtrKinds.{MayLog}
use Rattle.mp_core.specs.OwnMtrs.{commit_told, commit_by_mtr, row_restored_by, TrxMtr, trx_mtrs}
use Rattle.mp_core.specs.World.{core_node_of, core_part, core_made, core}
use Rattle.mp_core.proofs.Law.{law}
use Rattle.mp_shared.specs.Nodes.{NodeView, Reached, MayTake, changed_part, TookUnseen}
use Rattle.mp_shared.proofs.Numbered.{carried, numbered}
use Rattle.mp_trx_fusion.specs.Calls.{MayBeginTrx, MayLook}
use Rattle.mp_trx_fusion.specs.CommitLogs.{MayCommitAt, LogEndsAt}
use Rattle.mp_trx_fusion.proofs.CommitsAlone.{IsCommitRecord, one_commit, none_restored}

-- a step of one primary: the node before it and after it
module _ (n later : NodeView) (e : CoreEvent) (took : TookUnseen e n later) where
  pub took_here : (q : CorePart) → part_in n.parts (core_node_of e) ≡ Some q → part_in later.parts (core_node_of e) ≡ Some (core_made e took.0 took.1.note q)
  took_here q has =
      let k = core_node_of e in
      let f = core_made e took.0 took.1.note in
      ap (λ (v : NodeView). part_in v.parts k) took.1.becomes ∙ ap (λ x. part_in (changed_part n.parts k f x) k) has ∙ part_in-with_here n.parts k (f q) q has

  pub took_else : (k : ℕ) → ¬ (k ≡ core_node_of e) → part_in later.parts k ≡ part_in n.parts k
  took_else k other = ap (λ (v : NodeView). part_in v.parts k) took.1.becomes ∙ of_held (part_in n.parts (core_node_of e))
    where
      of_held : (x : Option CorePart) → part_in (changed_part n.parts (core_node_of e) (core_made e took.0 took.1.note) x) k ≡ part_in n.parts k
      of_held (Some q) = part_in-with_else n.parts (core_node_of e) k (core_made e took.0 took.1.note q) other
      of_held None = refl

  pub may_look_took : (k : ℕ) (id : TrxId) → ¬ (k ≡ core_node_of e) → MayLook n k id → MayLook later k id
  may_look_took k id other may = (may.0, took_else k other ∙ may.1, may.2, may.3, may.4)

-- the version that records commit first
abbrev version_in : List Record → ℕ
version_in [] = 0
version_in (records.Page page prev change ∷ items) = 0
version_in (records.Commit id cts ∷ items) = id.version

-- a transaction of a primary that may be committed, and the mtr that records it
module _ (n : NodeView) (reached : Reached n) (p : ℕ) (id : TrxId) (cts : ℕ) (may : MayCommitAt n p id cts) (llsn version : ℕ) (log : LogEndsAt n p llsn version) where
  same : log.mine ≡ may.mine
  same = let both = sym log.holds ∙ may.holds in cc

  last_is : last_llsn page_ops may.mine.trx.opening.base.llsn may.mine.pages.made ≡ llsn
  last_is = subst (λ (q : CorePart). last_llsn page_ops q.trx.opening.base.llsn q.pages.made ≡ llsn) same log.last

  few_are : length may.mine.pages.made ≤ llsn
  few_are = subst (λ (q : CorePart). length q.pages.made ≤ llsn) same log.few

  below_are : (x : Placed Mtr) (other : TrxId) (c : ℕ) → IsIn x may.mine.pages.made → x.mtr.records ≡ commit_records other c → other.version < version
  below_are = subst (λ (q : CorePart). (x : Placed Mtr) (other : TrxId) (c : ℕ) → IsIn x q.pages.made → x.mtr.records ≡ commit_records other c → other.version < version) same log.below

  alone_are : (x : Placed Mtr) → IsIn x may.mine.pages.made → IsCommitRecord x
  alone_are = subst (λ (q : CorePart). (x : Placed Mtr) → IsIn x q.pages.made → IsCommitRecord x) same log.alone

  -- its id and its timestamp stay within their formats
  id_fits : IsTrue (is_writer id)
  id_fits =
      let w = run (core n.run.opening) reached.backed.0 in
      let i = law n.run.opening reached.fair reached.backed.0 reached.backed.1 in
      let is : core_part w p ≡ may.mine = reached.backed.2 p may.mine may.holds in
      let begun : HasBegun (w.trx.part p).begun id = subst (λ (x : CorePart). HasBegun x.trx.begun id) (sym is) may.begun in
      let own = i.trx.ids.own p (begun_of id begun.0) begun.1 in
      let node = i.trx.ids.nodes p (begun_of id begun.0) begun.1 in
      let slot = i.trx.ids.slots p (begun_of id begun.0) begun.1 in
      let versions = i.trx.ids.versions p (begun_of id begun.0) begun.1 in
      let few = reached.fair.trx.some_primaries.1 in
      let fits = reached.fair.trx.versions_fit in
      writer_fits (omega (arith, own, node.0)) (omega (arith, own, node.1, few)) (omega (arith, slot)) (omega (arith, versions.0)) (omega (arith, versions.1, fits))
    where
      writer_fits : 1 ≤ id.node → id.node ≤ 8 → id.slot < 8192 → 1 ≤ id.version → id.version < 2 ^ 24 → IsTrue (is_writer id)
      writer_fits a b c d e = grind (arith, common_steps)

  cts_fits : (1 ≤ cts) × (cts < 2 ^ 38)
  cts_fits =
      let w = run (core n.run.opening) reached.backed.0 in
      let i = law n.run.opening reached.fair reached.backed.0 reached.backed.1 in
      let is : core_part w p ≡ may.mine = reached.backed.2 p may.mine may.holds in
      let drawn : IsIn (draw_of id cts) (w.trx.part p).drew = subst (λ (x : CorePart). IsIn (draw_of id cts) x.trx.drew) (sym is) may.drawn in
      let within = i.trx.draws.within p (draw_of id cts) drawn in
      let small = tso_fits n.run.opening.trx w.trx i.trx reached.fair.trx in
      (omega (arith, within.0), omega (arith, within.1, small))

  -- what it said to be durable is in its log
  durable_below : durable_llsn may.mine.trx.opening.base.llsn may.mine.pages.durables ≤ llsn
  durable_below =
      let w = run (core n.run.opening) reached.backed.0 in
      let i = law n.run.opening reached.fair reached.backed.0 reached.backed.1 in
      let is : core_part w p ≡ may.mine = reached.backed.2 p may.mine may.holds in
      let base = n.run.opening.trx.base.llsn in
      let here : durable_llsn base may.mine.pages.durables ≤ last_llsn page_ops base may.mine.pages.made = subst (λ (q : CorePart). durable_llsn base q.pages.durables ≤ last_llsn page_ops base q.pages.made) is (i.pages.mtr_logs.durable p).1 in
      let there = subst (λ (o : TrxOpening). durable_llsn o.base.llsn may.mine.pages.durables ≤ last_llsn page_ops o.base.llsn may.mine.pages.made) (sym (carried n reached p may.mine may.holds)) here in
      omega (arith, there, last_is)

  module _ (m : Mtr) (own : m.node ≡ p) (is : m.records ≡ commit_records id cts) (next : m.llsn ≡ llsn + 1) (few : llsn < 30000) (above : version ≤ id.version) where
    is_mtr : IsMtr m
    is_mtr =
        let most = numbered n reached p may.mine may.holds may.node in
        let least = may.node.0 in
        record {
          node_least = omega (arith, own, least);
          node_most = omega (arith, own, most);
          llsn_least = omega (arith, next);
          llsn = omega (arith, next, few);
          records = subst (λ items. AreRecords m.llsn items) (sym is) (id_fits, cts_fits.0, cts_fits.1);
        }

    makes : MayMake page_ops may.mine.trx.opening.base.llsn may.mine.pages p m
    makes = record {
      own = own;
      above = omega (arith, next, last_is);
      next = let most = le-max_left (last_llsn page_ops may.mine.trx.opening.base.llsn may.mine.pages.made) (told_llsn page_ops may.mine.pages.given) in omega (arith, next, last_is, most);
      few = omega (arith, few, few_are);
      touched = λ k touch. absurd (false≢true (subst (λ items. is_touched k (touched_by items) ≡ true) is touch));
      prevs = subst (λ items. PrevsFit m.llsn (λ k. llsn_at page_ops (content_at page_ops may.mine.pages.contents k)) (touched_by items)) (sym is) tt;
    }

    logs : MayLog may.mine m
    logs = record {
      mtr = is_mtr;
      meets = subst (λ items. Meets (plan_of items) (contents_of may.mine)) (sym is) tt;
      kind = inr (inr record {
        id = id;
        cts = cts;
        records = ap commit_told is;
        begun = may.begun;
        prepared = may.prepared;
        drawn = may.drawn;
        first = λ x c has told. let less = below_are x id c has (one_commit x (alone_are x has) id c told) in absurd (omega (arith, less, above));
        whole = λ x has of. none_restored may.mine.pages.made alone_are x has;
      });
    }

    -- the mtr may be made
    pub may_record : MayTake (Pages (StoreLlsn p m)) n
    may_record = (may.mine, may.holds, (may.node, makes, logs))

    module _ (mid : NodeView) (made : TookUnseen (Pages (StoreLlsn p m)) n mid) where
      abbrev with_record : CorePart
      with_record = core_made (Pages (StoreLlsn p m)) made.0 made.1.note may.mine

      there : part_in mid.parts p ≡ Some with_record
      there = took_here n mid (Pages (StoreLlsn p m)) made may.mine may.holds

      -- and then be said to be durable
      pub may_force : (v : ℕ) → v ≡ m.llsn → MayTake (Pages (StoreDurable p v)) mid
      may_force v all = (with_record, there, (may.node, (let below = durable_below in omega (arith, all, next, below), omega (arith, all)), tt))

      module _ (v : ℕ) (all : v ≡ m.llsn) (later : NodeView) (forced : TookUnseen (Pages (StoreDurable p v)) mid later) where
        abbrev with_durable_record : CorePart
        with_durable_record = core_made (Pages (StoreDurable p v)) forced.0 forced.1.note with_record

        there_then : part_in later.parts p ≡ Some with_durable_record
        there_then = took_here mid later (Pages (StoreDurable p v)) forced with_record there

        -- and then the commit may be published
        pub may_publish : MayTake (Trx (StoreEnd p id (Some cts))) later
        may_publish = (
          with_durable_record,
          there_then,
          (
            (may.node, ((may.begun, inr may.prepared), may.drawn)),
            record {
              commit = placed made.1.note.height m;
              is_made = inl refl;
              records = is;
              durable = omega (arith, all);
            },
          ),
        )

        -- the log ends at the record
        pub log_recorded : LogEndsAt later p m.llsn (id.version + 1)
        log_recorded = record {
          mine = with_durable_record;
          holds = there_then;
          last = refl;
          few = omega (arith, few_are, next);
          alone = λ x has.
              ⊎_elim
              (λ (new : x ≡ placed made.1.note.height m). (id, cts, ap (λ (y : Placed Mtr). y.mtr.records) new ∙ is))
              (λ (old : IsIn x may.mine.pages.made). alone_are x old)
              has;
          below = λ x other c has same_records.
              ⊎_elim
              (λ (new : x ≡ placed made.1.note.height m).
              let version_is : other.version ≡ id.version = ap version_in (sym same_records ∙ ap (λ (y : Placed Mtr). y.mtr.records) new ∙ is) in
              omega (arith, version_is))
              (λ (old : IsIn x may.mine.pages.made). let less = below_are x other c old same_records in omega (arith, less, above))
              has;
        }

        -- what may be begun stays
        pub may_begin_recorded : (other : ℕ) → MayBeginTrx n p other → MayBeginTrx later p other
        may_begin_recorded other begin =
            let is_mine : begin.mine ≡ may.mine = (let both = sym begin.holds ∙ may.holds in cc) in
            record {
              mine = with_durable_record;
              holds = there_then;
              node = may.node;
              above = subst (λ (q : CorePart). q.trx.opening.base.version < other) is_mine begin.above;
              within = subst (λ (q : CorePart). other ≤ q.trx.opening.base.version + q.trx.opening.begins) is_mine begin.within;
              fresh = subst (λ (q : CorePart). (b : Begun) → IsIn b q.trx.begun → ¬ (b.id.version ≡ other)) is_mine begin.fresh;
            }
