use Rattle.std.proofs.Common.{◌≡◌, ◌<◌, ◌+◌, [], ◌∷◌, None, Some, refl, sym, ap, ◌∙◌, inl, inr, ⊎_elim, replicate, lit≤, lit<, arith}
use Rattle.mp_cells.specs.declared.rows.Row.{Row}
use Rattle.mp_cells.specs.PageView.{PageView, bits_set}
use Rattle.mp_core_pages.specs.declared.part.GivenPage.{GivenPage}
use Rattle.mp_core_trx.specs.declared.slot.SlotTag.TheVariants.{Active, Committed}
use Rattle.mp_core_trx.specs.Words.{shows}
use Rattle.mp_model.specs.declared.ids.TrxId.{TrxId}
use Rattle.mp_script.specs.declared.statements.Stmt.TheVariants.{Del}
use Rattle.mp_model.specs.declared.replies.WriteVerb.TheVariants.{Del as Delete}
use Rattle.mp_supports.specs.Supports.{IsHeldBy}
use Rattle.mp_supports.specs.SmallParts.{own_trx, older_trx, older_name, younger_trx, line_of, version_by, only_leaf, only_meta, load_showing}
use Rattle.mp_supports.proofs.SmallParts.{only_one, id_is, view_is, others_older, holder_is, key_written}
use Rattle.mp_supports.proofs.examples.law_supports_refusal_examples.Goals as goal

pub returns-clause-conflict : goal.returns-clause-conflict
returns-clause-conflict c = record {
  line = line_of 1 2 (Del 5);
  found = refl;
  reply = (
    own_trx,
    3,
    record { begun = inl refl; named = refl },
    (
      5,
      older_trx,
      refl,
      record {
        leaf = only_leaf (version_by (Some older_trx) None 97);
        newest = version_by (Some older_trx) None 97;
        its_newest = record { given = inl refl; its_leaf = record { kind = refl; from = lit≤ tt; until = lit< tt }; newest_is = refl };
        writer = refl;
        other = others_older;
        load = load_showing older_trx (shows Committed 1 7);
        is_load = record { loaded = inl refl; of = refl; slot = refl };
        shown = refl;
      },
      lit< tt,
      refl,
      (older_name, record { named = refl; apart = λ same. absurd (let two : 2 ≡ 1 = same in omega (arith, two)) }),
    ),
  );
  waits = (tt, tt);
}

pub returns-clause-no_conflict_within_the_view : goal.returns-clause-no_conflict_within_the_view
returns-clause-no_conflict_within_the_view c = λ s.
    let view : s.reply.1 ≡ 3 = view_is (Del 5) (load_showing older_trx (shows Committed 1 2) ∷ []) (only_leaf (version_by (Some older_trx) None 97) ∷ []) [] s.line s.reply.0 s.reply.1 s.reply.2 in
    let above : s.reply.1 < 2 = s.reply.3.4 in
    omega (arith, view, above)

pub returns-clause-held : goal.returns-clause-held
returns-clause-held c = record {
  line = line_of 1 2 (Del 5);
  found = refl;
  reply = (
    own_trx,
    3,
    record { begun = inl refl; named = refl },
    (
      5,
      older_trx,
      refl,
      inl record {
        leaf = only_leaf (version_by (Some older_trx) None 97);
        newest = version_by (Some older_trx) None 97;
        its_newest = record { given = inl refl; its_leaf = record { kind = refl; from = lit≤ tt; until = lit< tt }; newest_is = refl };
        writer = refl;
        other = others_older;
        load = load_showing older_trx (shows Active 1 0);
        is_load = record { loaded = inl refl; of = refl; slot = refl };
        shown = refl;
      },
      lit< tt,
      record { named = refl; apart = λ same. absurd (let two : 2 ≡ 1 = same in omega (arith, two)) },
      refl,
    ),
  );
  waits = (tt, tt);
}

pub returns-clause-not_held_by_a_younger_one : goal.returns-clause-not_held_by_a_younger_one
returns-clause-not_held_by_a_younger_one c = λ s.
    let held = s.reply.3 in
    let load = load_showing younger_trx (shows Active 3 0) in
    let id = id_is (Del 5) (load ∷ []) (only_leaf (version_by (Some younger_trx) None 97) ∷ []) [] s.line s.reply.0 s.reply.1 s.reply.2 in
    let holder : held.1 ≡ younger_trx = holder_is (load ∷ []) younger_trx held.0 (key_written Delete s.line s.found held.0 held.2) s.reply.0 held.1 held.3 in
    let version : (held.1).version ≡ 3 = ap (λ (i : TrxId). i.version) holder in
    let own : (s.reply.0).version ≡ 2 = ap (λ (i : TrxId). i.version) id in
    let older : (held.1).version < (s.reply.0).version = held.4 in
    omega (arith, version, own, older)

pub returns-clause-full : goal.returns-clause-full
unfolding lib.Count.ones
returns-clause-full c = record {
  line = line_of 1 2 (Del 5);
  found = refl;
  reply = (own_trx, 3, record { begun = inl refl; named = refl }, (5, refl, record { meta = only_meta (replicate 512 255); given = inl refl; number = refl; few = lit< tt }, refl));
  waits = (tt, tt);
}

pub returns-clause-not_full : goal.returns-clause-not_full
returns-clause-not_full c = λ s.
    let room = s.reply.3.2 in
    let meta : room.meta ≡ only_meta [] = only_one room.meta (only_meta []) room.given in
    let few : 4096 < bits_set room.meta.page.bits + 5 = room.few in
    let none : bits_set room.meta.page.bits ≡ 0 = ap (λ (g : GivenPage PageView). bits_set g.page.bits) meta in
    omega (arith, few, none)
