-- Each step of the small runs may come when it does.
use Rattle.std.proofs.Common.{◌≡◌, ℕ, ◌==◌, ◌⊎◌, Bool, true, false, if◌then◌else◌, List, [], ◌∷◌, ◌++◌, None, Some, refl, sym, subst, inl, inr, lit≤, lit<}
use Rattle.std.proofs.lemmas.Bool.{eqb-true}
use mathlib.Core.Bool.{false≢true}
use Rattle.mp_model.specs.declared.ids.TrxId.{TrxId}
use Rattle.mp_cells.specs.Mtrs.{IsMtr}
use Rattle.mp_cells.specs.SmallMaps.{fresh_map, gone_row}
use Rattle.mp_cells.specs.Plans.{plan_of}
use Rattle.mp_core_trx.specs.Events.{IsNode, MayStoreActive}
use Rattle.mp_core_trx.specs.declared.event.TrxEvent.TheVariants.{StoreActive}
use Rattle.mp_core_pages.specs.declared.page_lock.Held.TheVariants.{No, Read, Write}
use Rattle.mp_core_pages.specs.Histories.{Touches}
use Rattle.mp_core_pages.specs.PageEvents.{MayTouch, MayMake}
use Rattle.mp_histories.specs.Histories.{pages_after}
use Rattle.mp_histories.specs.SmallHistory.{small_trx, small_row, small_put, small_restore}
use Rattle.mp_histories.proofs.Contents.{put_else, restore_else}
use Rattle.mp_histories.proofs.SmallPuts.{gone_is_row, small_is_row, small_put_is_well}
use Rattle.mp_core.specs.declared.event.CoreEvent.{CoreEvent}
use Rattle.mp_core.specs.declared.event.CoreEvent.TheVariants.{Trx}
use Rattle.mp_core.specs.declared.part.CorePart.{CorePart}
use Rattle.mp_core.specs.Contents.{page_ops, contents_of}
use Rattle.mp_core.specs.MtrKinds.{MayLog}
use Rattle.mp_core.specs.World.{core_part, core}
use Rattle.mp_machine.specs.Machine.{AllowedFrom}
use Rattle.mp_facts.specs.SmallRuns.{three_pages, world_after, MayAllCome, comes_to_write, puts_row, then_puts_back, then_hands_over, puts_back, hands_leaf_over}
use Rattle.mp_facts.proofs.SmallRestore.{restore_well}

pub writes : Write ≡ No → ⊥
writes e = absurd cc

pub reads : Read ≡ No → ⊥
reads e = absurd cc

one : IsNode three_pages.trx 1
one = (lit≤ tt, lit≤ tt)

two : IsNode three_pages.trx 2
two = (lit≤ tt, lit≤ tt)

-- node 1's part before the put, and after it
abbrev before_put : List CoreEvent
before_put = Trx (StoreActive 1 (small_trx 0)) ∷ comes_to_write 0 ++ comes_to_write 1 ++ comes_to_write 2

abbrev putter : CorePart
putter = core_part (world_after before_put) 1

abbrev restorer : CorePart
restorer = core_part (world_after puts_row) 1

-- what touches a page has a record on it, or a later one
touched_cases : (k page : ℕ) (rest : Bool) → (if k == page then true else rest) ≡ true → (k ≡ page) ⊎ (rest ≡ true)
touched_cases k page rest touch = by_test (k == page) refl touch
  where
    by_test : (b : Bool) → (k == page) ≡ b → (if b then true else rest) ≡ true → (k ≡ page) ⊎ (rest ≡ true)
    by_test true e t = inl (eqb-true k page e)
    by_test false e t = inr t

abbrev MayPutOn : ℕ → Type 0
MayPutOn k = MayTouch page_ops 5 putter.pages k

put_touched : (k : ℕ) → Touches page_ops small_put k → MayPutOn k
put_touched k touch = elim (touched_cases k 0 _ touch) [
  | inl zero_is ↦ subst MayPutOn (sym zero_is) (lit< tt, refl, (_, refl, lit< tt))
  | inr more ↦ elim (touched_cases k 2 _ more) [
    | inl two_is ↦ subst MayPutOn (sym two_is) (lit< tt, refl, (_, refl, lit< tt))
    | inr again ↦ elim (touched_cases k 2 _ again) [
      | inl two_is ↦ subst MayPutOn (sym two_is) (lit< tt, refl, (_, refl, lit< tt))
      | inr last ↦ elim (touched_cases k 1 _ last) [
        | inl one_is ↦ subst MayPutOn (sym one_is) (lit< tt, refl, (_, refl, lit< tt))
        | inr none ↦ absurd (false≢true none)
      ]
    ]
  ]
]

put_made : MayMake page_ops 4 putter.pages 1 small_put
put_made = record { own = refl; above = lit< tt; next = lit≤ tt; few = lit< tt; touched = put_touched; prevs = (refl, (refl, (refl, (refl, tt)))) }

put_mtr : IsMtr small_put
put_mtr = record {
  node_least = lit≤ tt;
  node_most = lit≤ tt;
  llsn_least = lit≤ tt;
  llsn = lit< tt;
  records = (lit≤ tt, lit≤ tt, ((lit< tt, lit≤ tt, refl), ((lit< tt, lit≤ tt, tt), ((lit< tt, lit≤ tt, gone_is_row), ((lit< tt, lit≤ tt, small_is_row), tt)))));
}

put_logged : MayLog putter small_put
put_logged = record {
  mtr = put_mtr;
  meets = (refl, (refl, (refl, (refl, tt))));
  kind = inl record {
    row = small_row;
    id = small_trx 0;
    writer = refl;
    begun = (0, inl refl);
    active = refl;
    well = put_else (plan_of small_put.records) fresh_map (contents_of putter) small_row (refl, (refl, (refl, (refl, tt)))) small_put_is_well;
    over = inl refl;
  };
}

abbrev MayPutBackOn : ℕ → Type 0
MayPutBackOn k = MayTouch page_ops 6 restorer.pages k

restore_touched : (k : ℕ) → Touches page_ops small_restore k → MayPutBackOn k
restore_touched k touch = elim (touched_cases k 1 _ touch) [
  | inl one_is ↦ subst MayPutBackOn (sym one_is) (lit< tt, refl, (_, refl, lit< tt))
  | inr none ↦ absurd (false≢true none)
]

restore_made : MayMake page_ops 4 restorer.pages 1 small_restore
restore_made = record { own = refl; above = lit< tt; next = lit≤ tt; few = lit< tt; touched = restore_touched; prevs = (refl, tt) }

restore_logged : MayLog restorer small_restore
restore_logged = record {
  mtr = record { node_least = lit≤ tt; node_most = lit≤ tt; llsn_least = lit≤ tt; llsn = lit< tt; records = (lit≤ tt, lit≤ tt, ((lit< tt, lit≤ tt, gone_is_row), tt)) };
  meets = (refl, tt);
  kind = inr (inl record {
    row = gone_row 7;
    id = small_trx 0;
    owner = refl;
    begun = (0, inl refl);
    active = refl;
    former = refl;
    well = restore_else (plan_of small_restore.records) (pages_after fresh_map (small_put ∷ [])) (contents_of restorer) (gone_row 7) (refl, tt) restore_well;
  });
}

-- no key is anybody's then
owner_gone : (b : Bool) (id : TrxId) → (if b then None else (if b then Some (small_trx 0) else None)) ≡ Some id → ⊥
owner_gone true id is = absurd cc
owner_gone false id is = absurd cc

begins : MayStoreActive ((world_after []).trx.part 1) 1 (small_trx 0)
begins = record { own = refl; above = lit< tt; within = lit≤ tt; fresh = λ b has. absurd has; in_range = lit< tt; usable = refl }

-- the steps up to the put may come, and then any that may come behind it
puts_row_then : (later : List CoreEvent) → AllowedFrom (core three_pages) (world_after puts_row) later → MayAllCome (puts_row ++ later)
puts_row_then later rest = (
  ([], (((one, begins), tt), tt)),
  (
    ([], ((one, (lit< tt, inr (inl refl, refl)), tt), tt)),
    (
      ([], ((one, (lit< tt, writes), tt), tt)),
      (
        (_, ((one, record { in_range = lit< tt; has_lock = writes; gives_back = inl refl }, tt), refl)),
        (
          ([], ((one, (lit< tt, inr (inl refl, refl)), tt), tt)),
          (
            ([], ((one, (lit< tt, writes), tt), tt)),
            (
              (_, ((one, record { in_range = lit< tt; has_lock = writes; gives_back = inl refl }, tt), refl)),
              (
                ([], ((one, (lit< tt, inr (inl refl, refl)), tt), tt)),
                (
                  ([], ((one, (lit< tt, writes), tt), tt)),
                  (
                    (_, ((one, record { in_range = lit< tt; has_lock = writes; gives_back = inl refl }, tt), refl)),
                    (
                      ([], ((one, put_made, put_logged), tt)),
                      rest,
                    ),
                  ),
                ),
              ),
            ),
          ),
        ),
      ),
    ),
  ),
)

pub rolled_back : MayAllCome puts_back
rolled_back = puts_row_then then_puts_back (
  ([], ((one, restore_made, restore_logged), tt)),
  (([], (((one, (((0, inl refl), inl refl), λ cts drew. drew)), λ key is. owner_gone (7 == key) (small_trx 0) is), tt)), tt),
)

pub handed_over : MayAllCome hands_leaf_over
handed_over = puts_row_then then_hands_over (
  ([], ((one, (lit≤ tt, lit≤ tt), tt), tt)),
  (
    ([], ((one, (lit< tt, writes), tt), tt)),
    (
      (_, ((one, record { in_range = lit< tt; has_lock = writes; gives_back = inr record { took = (_, refl); writes = refl; has = refl; durable = lit≤ tt } }, tt), refl)),
      (
        ([], ((one, record { in_range = lit< tt; has_lock = writes; home = refl; released = (lit≤ tt, lit≤ tt) }, tt), tt)),
        (
          ([], ((two, (lit< tt, inl ((lit< tt, refl), refl)), tt), tt)),
          (([], ((two, (lit< tt, reads), tt), tt)), tt),
        ),
      ),
    ),
  ),
)
