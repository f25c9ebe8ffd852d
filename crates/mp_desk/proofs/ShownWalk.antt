-- The walk from a key's newest version past the hidden ones, call by call.
use Rattle.std.proofs.Common.{◌≡◌, ℕ, ◌+◌, ◌≤◌, List, [], ◌∷◌, ◌++◌, length, Some, refl, arith, length-append}
use Rattle.mp_machine.specs.View.{part_in}
use Rattle.mp_model.specs.declared.ids.TrxId.{TrxId}
use Rattle.mp_cells.specs.declared.rows.Link.{Link}
use Rattle.mp_cells.specs.declared.rows.Row.{Row}
use Rattle.mp_cells.specs.Rows.{IsRow}
use Rattle.mp_core_trx.specs.declared.part.Begun.{Begun}
use Rattle.mp_core.specs.declared.part.CorePart.{CorePart}
use Rattle.mp_shared.specs.Nodes.{Run, NodeView}
use Rattle.mp_shared.proofs.Holding.{held_part}
use Rattle.mp_supports.specs.Seeing.{IsHidden, IsSeenBy, LeadsToSeen}
use Rattle.mp_supports.proofs.SeesMore.{hidden_more}
use Rattle.mp_desk.specs.declared.desk.Desk.{Desk}
use Rattle.mp_desk.specs.Desks.{IsAtDesk, IsReadAfresh, Brings, LiesAt, IsRecordAt}
use Rattle.mp_desk.specs.Statements.{ReadsIn, LooksOn, IsNewestIn, HasBegunWriter, LeadsPast, IsInPrep, IsPreparing}
use Rattle.mp_desk.proofs.Looking.{look_brings, look_both, look_none, still_reads, still_afresh, still_newest, part_then}
use Rattle.mp_desk.proofs.SeenMore.{past_more, past_one, past_seen}
use Rattle.mp_desk.proofs.ShownChain.{walk_few, walk_begun, walk_lies}

-- so many versions were passed, each hidden, from the newest on; the next is this one
pub record HasPassed (run : Run) (p : ℕ) (trx : Begun) (newest row : Row) (count : ℕ) (old new : Desk) (a b : NodeView) : Type 0 where
  pub desk : IsAtDesk run new p b
  pub looks : LooksOn p old new a b
  pub kept : IsRow row
  pub passed : (q : CorePart) → part_in b.parts p ≡ Some q → (older : List Row) × (length older ≡ count) × LeadsPast q trx.id trx.view newest older row

module _ (run : Run) (p : ℕ) (trx : Begun) (newest : Row) (old : Desk) (a : NodeView) (at : IsAtDesk run old p a) (shows : IsNewestIn p a newest.key newest) where
  pub passed_none : IsRow newest → HasPassed run p trx newest newest 0 old old a a
  passed_none kept = record { desk = at; looks = look_none p old a; kept = kept; passed = λ q has. ([], refl, refl) }

  module _ (row : Row) (count : ℕ) (new : Desk) (b : NodeView) (w : HasPassed run p trx newest row count old new a b) where
    pub passed_reads : ReadsIn p trx a → ReadsIn p trx b
    passed_reads = still_reads run p old new a b at w.looks trx

    pub passed_writer : HasBegunWriter b row
    passed_writer =
        let has = held_part b p w.desk.part in
        let first = still_newest run p old new a b at w.looks newest.key newest shows has.0 has.1 in
        let passed = w.passed has.0 has.1 in
        walk_begun p b w.desk.reached has.0 has.1 trx.id trx.view first.0 newest.key newest first.1 passed.0 row passed.2

    -- there are not so many
    pub passed_few : count ≤ 240000
    passed_few =
        let has = held_part b p w.desk.part in
        let first = still_newest run p old new a b at w.looks newest.key newest shows has.0 has.1 in
        let passed = w.passed has.0 has.1 in
        let few = walk_few p b w.desk.reached has.0 has.1 trx.id trx.view first.0 newest.key newest first.1 passed.0 row passed.2 in
        let counted = passed.1 in
        omega (arith, few, counted)

    -- and then how the reader sees the version is found
    module _ (c : NodeView) (now : IsAtDesk run new p c) (brings : Brings 0 p new new b c) where
      looks_to : LooksOn p new new b c
      looks_to = look_brings p 0 new new b c brings (refl, refl)

      pub sight_looks : LooksOn p old new a c
      sight_looks = look_both p old new new a b c w.looks looks_to

      leads_now : (r : CorePart) → part_in c.parts p ≡ Some r → (older : List Row) × (length older ≡ count) × LeadsPast r trx.id trx.view newest older row
      leads_now r there =
          let has = held_part b p w.desk.part in
          let passed = w.passed has.0 has.1 in
          (passed.0, passed.1, past_more has.0 r (part_then run p new new b c w.desk looks_to has.0 r has.1 there) trx.id trx.view newest passed.0 row passed.2)

      pub sight_seen : ((r : CorePart) → part_in c.parts p ≡ Some r → IsSeenBy r trx.id trx.view row) → (r : CorePart) → part_in c.parts p ≡ Some r → (older : List Row) × LeadsToSeen r trx.id trx.view newest older row
      sight_seen seen r there = let leads = leads_now r there in (leads.0, past_seen r trx.id trx.view newest leads.0 row leads.2 (seen r there))

      pub sight_prep : (id : TrxId) → ((r : CorePart) → part_in c.parts p ≡ Some r → IsInPrep r trx.id row id) → (r : CorePart) → part_in c.parts p ≡ Some r → IsPreparing r trx.id trx.view newest.key id
      sight_prep id prep r there =
          let leads = leads_now r there in
          let first = still_newest run p old new a c at sight_looks newest.key newest shows r there in
          record { leaf = first.0; newest_row = newest; shows_newest = first.1; older = leads.0; row = row; leads = leads.2; in_prep = prep r there }

      module _ (hidden : (r : CorePart) → part_in c.parts p ≡ Some r → IsHidden r trx.id trx.view row) where
        -- an undo record lies at a hidden version's link
        pub hidden_lies : (link : Link) → row.link ≡ Some link → LiesAt p c link
        hidden_lies link is =
            let has = held_part c p now.part in
            let leads = leads_now has.0 has.1 in
            let first = still_newest run p old new a c at sight_looks newest.key newest shows has.0 has.1 in
            let h = hidden has.0 has.1 in
            walk_lies p c now.reached has.0 has.1 trx.id trx.view first.0 newest.key newest first.1 leads.0 row leads.2 h.writer h.its_writer link is

        pub hidden_afresh : IsReadAfresh old p a → IsReadAfresh new p c
        hidden_afresh = still_afresh run p old new a c at sight_looks

        -- the next version
        pub passed_more : (link : Link) → row.link ≡ Some link → (next : Row) (last : Desk) (d : NodeView) → IsAtDesk run last p d → LooksOn p new last c d → IsRow next
            → ((q : CorePart) → part_in d.parts p ≡ Some q → IsRecordAt q link next) → HasPassed run p trx newest next (count + 1) old last a d
        passed_more link is next last d then looks kept at_link = record {
          desk = then;
          looks = look_both p old new last a c d sight_looks looks;
          kept = kept;
          passed = λ q there.
              let has = held_part c p now.part in
              let leads = leads_now has.0 has.1 in
              let e = part_then run p new last c d now looks has.0 q has.1 there in
              let found = at_link q there in (
                leads.0 ++ next ∷ [],
                (let counted = leads.1 in let more = length-append leads.0 (next ∷ []) in omega (arith, counted, more)),
                past_one q trx.id trx.view newest leads.0 row next (past_more has.0 q e trx.id trx.view newest leads.0 row leads.2) (hidden_more has.0 q e trx.id trx.view row (hidden has.0 has.1)) record {
                  link = link;
                  linked = is;
                  page = found.page;
                  given = found.given;
                  number = found.number;
                  next_is = found.row_is;
                },
              );
        }
