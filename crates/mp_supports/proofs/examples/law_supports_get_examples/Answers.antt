use Rattle.std.proofs.Common.{[], ◌∷◌, None, Some, refl, inl, inr, lit≤, lit<}
use Rattle.mp_core_trx.specs.declared.slot.SlotTag.TheVariants.{Active, Committed}
use Rattle.mp_core_trx.specs.Words.{shows}
use Rattle.mp_script.specs.declared.statements.Stmt.TheVariants.{Get}
use Rattle.mp_supports.specs.SmallParts.{own_trx, younger_trx, line_of, version_by, only_leaf, only_undo, first_link, load_showing}
use Rattle.mp_supports.proofs.SmallParts.{not_got, at_four, while_open, others}
use Rattle.mp_supports.proofs.examples.law_supports_get_examples.Goals as goal

pub returns-clause-own : goal.returns-clause-own
returns-clause-own c = record {
  line = line_of 1 2 (Get 5);
  found = refl;
  reply = (
    own_trx,
    3,
    record { begun = inl refl; named = refl },
    (
      5,
      version_by (Some own_trx) None 97,
      refl,
      record {
        leaf = only_leaf (version_by (Some own_trx) None 97);
        rests = inl refl;
        knew = lit≤ tt;
        newest = version_by (Some own_trx) None 97;
        shows = record { given = inl refl; its_leaf = record { kind = refl; from = lit≤ tt; until = lit< tt }; newest_is = refl };
        older = [];
        leads = (refl, inl refl);
        only_put = λ m there of below. absurd there;
      },
      refl,
      refl,
    ),
  );
  waits = refl;
}

pub returns-clause-at_the_view : goal.returns-clause-at_the_view
returns-clause-at_the_view c = record {
  line = line_of 1 2 (Get 5);
  found = refl;
  reply = (
    own_trx,
    3,
    record { begun = inl refl; named = refl },
    (
      5,
      version_by (Some younger_trx) None 97,
      refl,
      record {
        leaf = only_leaf (version_by (Some younger_trx) None 97);
        rests = inl refl;
        knew = lit≤ tt;
        newest = version_by (Some younger_trx) None 97;
        shows = record { given = inl refl; its_leaf = record { kind = refl; from = lit≤ tt; until = lit< tt }; newest_is = refl };
        older = [];
        leads = (refl, inr (inr record { writer = younger_trx; its_writer = refl; load = load_showing younger_trx (shows Committed 3 3); is_load = record { loaded = inl refl; of = refl; slot = refl }; cts = 3; committed = refl; within = lit≤ tt }));
        only_put = λ m there of below. absurd there;
      },
      refl,
      refl,
    ),
  );
  waits = refl;
}

pub returns-clause-below_an_open_one : goal.returns-clause-below_an_open_one
returns-clause-below_an_open_one c = record {
  line = line_of 1 2 (Get 5);
  found = refl;
  reply = (
    own_trx,
    3,
    record { begun = inl refl; named = refl },
    (
      5,
      version_by None None 98,
      refl,
      record {
        leaf = only_leaf (version_by (Some younger_trx) (Some first_link) 97);
        rests = inl refl;
        knew = lit≤ tt;
        newest = version_by (Some younger_trx) (Some first_link) 97;
        shows = record { given = inl refl; its_leaf = record { kind = refl; from = lit≤ tt; until = lit< tt }; newest_is = refl };
        older = version_by None None 98 ∷ [];
        leads = (
          record { writer = younger_trx; its_writer = refl; other = others; load = load_showing younger_trx (shows Active 3 0); is_load = record { loaded = inl refl; of = refl; slot = refl }; hides = inl (refl, lit≤ tt) },
          record { link = first_link; linked = refl; page = only_undo (version_by None None 98); given = inr (inl refl); number = refl; next_is = refl },
          (refl, inr (inl refl)),
        );
        only_put = λ m there of below. absurd there;
      },
      refl,
      refl,
    ),
  );
  waits = refl;
}

pub returns-clause-below_a_later_one : goal.returns-clause-below_a_later_one
returns-clause-below_a_later_one c = record {
  line = line_of 1 2 (Get 5);
  found = refl;
  reply = (
    own_trx,
    3,
    record { begun = inl refl; named = refl },
    (
      5,
      version_by None None 98,
      refl,
      record {
        leaf = only_leaf (version_by (Some younger_trx) (Some first_link) 97);
        rests = inl refl;
        knew = lit≤ tt;
        newest = version_by (Some younger_trx) (Some first_link) 97;
        shows = record { given = inl refl; its_leaf = record { kind = refl; from = lit≤ tt; until = lit< tt }; newest_is = refl };
        older = version_by None None 98 ∷ [];
        leads = (
          record { writer = younger_trx; its_writer = refl; other = others; load = load_showing younger_trx (shows Committed 3 4); is_load = record { loaded = inl refl; of = refl; slot = refl }; hides = inr (inl (4, refl, lit< tt)) },
          record { link = first_link; linked = refl; page = only_undo (version_by None None 98); given = inr (inl refl); number = refl; next_is = refl },
          (refl, inr (inl refl)),
        );
        only_put = λ m there of below. absurd there;
      },
      refl,
      refl,
    ),
  );
  waits = refl;
}

pub returns-clause-not_above_the_view : goal.returns-clause-not_above_the_view
returns-clause-not_above_the_view c = λ s. not_got (load_showing younger_trx (shows Committed 3 4)) at_four s

pub returns-clause-not_an_open_one : goal.returns-clause-not_an_open_one
returns-clause-not_an_open_one c = λ s. not_got (load_showing younger_trx (shows Active 3 0)) while_open s
