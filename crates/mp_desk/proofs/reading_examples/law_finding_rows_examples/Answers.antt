use Rattle.std.proofs.Common.{◌≡◌, ◌≤◌, List, [], ◌∷◌, Some, None, refl, subst, inl, inr, lit≤, lit<, arith}
use Rattle.mp_model.specs.declared.key_value.KeyValue.{KeyValue}
use Rattle.mp_cells.specs.SmallMaps.{fresh_map}
use Rattle.mp_cells.proofs.SmallTrees.{fresh_is_tree}
use Rattle.mp_core_trx.specs.declared.slot.SlotTag.TheVariants.{Prep}
use Rattle.mp_core_trx.specs.Words.{shows}
use Rattle.mp_core_pages.specs.PageParts.{given_page}
use Rattle.mp_core.specs.declared.part.CorePart.{CorePart}
use Rattle.mp_supports.specs.Seeing.{ShowsNewest}
use Rattle.mp_supports.specs.SmallParts.{own_trx, younger_trx, part_before_steps, version_by, only_leaf, load_showing}
use Rattle.mp_supports.proofs.SmallParts.{no_none, others}
use Rattle.mp_desk.specs.Statements.{IsPreparing}
use Rattle.mp_desk.specs.SmallDesks.{preparing_part, blocked_part}
use Rattle.mp_desk.proofs.SmallMaking.{only_first}
use Rattle.mp_desk.proofs.SmallDesks.{met_here, met_no_least}
use Rattle.mp_desk.proofs.reading_examples.law_finding_rows_examples.Goals as goal

pub returns-clause-seen : goal.returns-clause-seen
returns-clause-seen c = inr (inl refl)

pub returns-clause-not_hidden : goal.returns-clause-not_hidden
returns-clause-not_hidden c = λ h. no_none h.writer h.its_writer

blocked_shows : ShowsNewest blocked_part (only_leaf (version_by (Some younger_trx) None 97)) 5 (version_by (Some younger_trx) None 97)
blocked_shows = record { given = inl refl; its_leaf = record { kind = refl; from = lit≤ tt; until = lit< tt }; newest_is = refl }

pub returns-clause-newest : goal.returns-clause-newest
returns-clause-newest c = λ run q has.
    let leaf = only_leaf (version_by (Some younger_trx) None 97) in
    (leaf, subst (λ (r : CorePart). ShowsNewest r leaf 5 (version_by (Some younger_trx) None 97)) (only_first run blocked_part 1 q has) blocked_shows)

pub returns-clause-no_newest : goal.returns-clause-no_newest
returns-clause-no_newest c = λ run h. absurd (h part_before_steps refl).1.given

pub returns-clause-shows : goal.returns-clause-shows
returns-clause-shows c = record {
  leaf = only_leaf (version_by (Some younger_trx) None 97);
  since = record { given = inl refl; number = refl; page_is = refl; knew = lit≤ tt; since = λ x none. absurd none };
  shows = blocked_shows;
}

pub returns-clause-shows_none : goal.returns-clause-shows_none
returns-clause-shows_none c = λ h. absurd h.since.given

pub returns-clause-rows : goal.returns-clause-rows
returns-clause-rows c = record {
  leaf = given_page 1 (fresh_map 1) 3 2;
  since = record { given = inl refl; number = refl; page_is = refl; knew = lit≤ tt; since = λ x none. absurd none };
  its_leaf = record { kind = refl; from = lit≤ tt; until = lit< tt };
  page = fresh_is_tree.sound 1 (lit< tt);
  rows = refl;
  next = refl;
}

pub returns-clause-no_rows : goal.returns-clause-no_rows
returns-clause-no_rows c = λ h. absurd h.since.given

pub returns-clause-leads : goal.returns-clause-leads
returns-clause-leads c = refl

pub returns-clause-not_past : goal.returns-clause-not_past
returns-clause-not_past c = λ h. no_none h.0.writer h.0.its_writer

small_preparing : IsPreparing preparing_part own_trx 3 5 younger_trx
small_preparing = record {
  leaf = only_leaf (version_by (Some younger_trx) None 97);
  newest_row = version_by (Some younger_trx) None 97;
  shows_newest = record { given = inl refl; its_leaf = record { kind = refl; from = lit≤ tt; until = lit< tt }; newest_is = refl };
  older = [];
  row = version_by (Some younger_trx) None 97;
  leads = refl;
  in_prep = record { writer = refl; other = others; load = load_showing younger_trx (shows Prep 3 0); is_load = record { loaded = inl refl; of = refl; slot = refl }; shown = refl };
}

pub returns-clause-preparing : goal.returns-clause-preparing
returns-clause-preparing c = small_preparing

pub returns-clause-not_preparing : goal.returns-clause-not_preparing
returns-clause-not_preparing c = λ h. absurd h.shows_newest.given

pub returns-clause-value : goal.returns-clause-value
returns-clause-value c = record {
  leaf = only_leaf (version_by None None 97);
  found = version_by None None 97;
  sees = record {
    leaf = only_leaf (version_by None None 97);
    rests = inl refl;
    knew = lit≤ tt;
    newest = version_by None None 97;
    shows = record { given = inl refl; its_leaf = record { kind = refl; from = lit≤ tt; until = lit< tt }; newest_is = refl };
    older = [];
    leads = (refl, inr (inl refl));
    only_put = λ m there of below. absurd there;
  };
  value_is = refl;
  since = λ x none. absurd none;
}

pub returns-clause-no_value : goal.returns-clause-no_value
returns-clause-no_value c = λ h. absurd h.sees.shows.given

pub returns-clause-none_asked : goal.returns-clause-none_asked
returns-clause-none_asked c = record {
  pages = [];
  high = 0;
  count = 0;
  scans = (refl, refl);
  few = lit≤ tt;
  end = inr refl;
  given = λ g none. absurd none;
  since = λ g none. absurd none;
}

pub returns-clause-not_more : goal.returns-clause-not_more
returns-clause-not_more c = λ h. let few : 1 ≤ 0 = h.few in omega (arith, few)

pub returns-clause-stretch : goal.returns-clause-stretch
returns-clause-stretch c = record {
  leaf = only_leaf (version_by None None 97);
  more = record { key = 5; value = 97 ∷ [] } ∷ [];
  added = refl;
  stretch = record {
    leaf = only_leaf (version_by None None 97);
    rests = inl refl;
    given = inl refl;
    its_leaf = record { kind = refl; from = lit≤ tt; until = lit< tt };
    some_keys = lit< tt;
    within = lit≤ tt;
    knew = lit≤ tt;
    seen = ([], version_by None None 97, [], (refl, inr (inl refl)), refl, refl);
    only_put = λ m there of below. absurd there;
  };
  since = λ x none. absurd none;
}

none_more : (x : KeyValue) (l : List KeyValue) → [] ≡ x ∷ l → ⊥
none_more x l e = absurd cc

pub returns-clause-keeps : goal.returns-clause-keeps
returns-clause-keeps c = λ h. none_more (record { key = 5; value = 97 ∷ [] }) h.more h.added

pub returns-clause-halts : goal.returns-clause-halts
returns-clause-halts c = λ run before r has. subst (λ (x : CorePart). IsPreparing x own_trx 3 5 younger_trx) (only_first run preparing_part 1 r has) small_preparing

pub returns-clause-not_for_a_view : goal.returns-clause-not_for_a_view
returns-clause-not_for_a_view c = met_no_least

pub returns-clause-halts_scan : goal.returns-clause-halts_scan
returns-clause-halts_scan c = met_here

pub returns-clause-not_in_an_empty_part : goal.returns-clause-not_in_an_empty_part
returns-clause-not_in_an_empty_part c = λ run before h. absurd (h part_before_steps refl).1.shows_newest.given
