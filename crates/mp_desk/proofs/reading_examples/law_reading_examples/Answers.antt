use Rattle.std.proofs.Common.{◌≡◌, ◌≤◌, List, [], ◌∷◌, length, refl, sym, ap, subst, ◌∙◌, inl, inr, lit≤, arith}
use Rattle.mp_cells.specs.declared.records.Mtr.{Mtr}
use Rattle.mp_core_trx.specs.declared.part.Begun.{Begun}
use Rattle.mp_core_trx.specs.declared.part.SlotLoad.{SlotLoad}
use Rattle.mp_core_trx.specs.declared.slot.Shown.{Shown}
use Rattle.mp_core_trx.specs.declared.slot.SlotTag.TheVariants.{Active, Prep}
use Rattle.mp_core_trx.specs.Words.{shows, shown_of}
use Rattle.mp_core_trx.specs.Parts.{trx, begun_of}
use Rattle.mp_core_pages.specs.declared.part.Placed.{Placed}
use Rattle.mp_core.specs.Downs.{first_down_part}
use Rattle.mp_core.proofs.Downs.{downs_extend_refl}
use Rattle.mp_supports.specs.SmallParts.{own_trx, younger_trx, small_part, open_part, load_showing, commit_mtr, made_at_four}
use Rattle.mp_supports.proofs.Extending.{core_extends_refl}
use Rattle.mp_supports.proofs.SmallParts.{no_none, only_one, others}
use Rattle.mp_desk.specs.Statements.{IsReader}
use Rattle.mp_desk.proofs.Looking.{look_none}
use Rattle.mp_desk.proofs.ReachedFacts.{known_world}
use Rattle.mp_desk.proofs.SmallMaking.{only_first}
use Rattle.mp_desk.proofs.SmallDesks.{none_begun, free_not_active, active_not_prep}
use Rattle.mp_desk.proofs.reading_examples.law_reading_examples.Goals as goal

pub returns-clause-quiet : goal.returns-clause-quiet
returns-clause-quiet c = record {
  extends = record {
    trx = record { same_opening = refl; more_begun = ([], refl); more_rows = ([], refl); more_drawn = ([], refl); more_seen = ([], refl); more_loaded = ([], refl) };
    pages = record { more_made = ([], refl); more_durables = (2 ∷ [], refl); more_locks = ([], refl); more_frames = ([], refl); more_gave = ([], refl); more_contents = ([], refl); more_given = ([], refl) };
    durable = lit≤ tt;
    made_later = λ m none. absurd none;
    given_later = λ g none. absurd none;
    downs = downs_extend_refl first_down_part;
  };
  begun = refl;
  rows = refl;
  drew = refl;
  made = refl;
}

pub returns-clause-not_quiet : goal.returns-clause-not_quiet
returns-clause-not_quiet c = λ h. let count : 1 ≡ 0 = ap (λ (l : List Begun). length l) h.begun in omega (arith, count)

pub returns-clause-makes : goal.returns-clause-makes
returns-clause-makes c = record {
  between = small_part [] [] [];
  quiet = record { extends = core_extends_refl (small_part [] [] []); begun = refl; rows = refl; drew = refl; made = refl };
  made = record {
    extends = record {
      trx = record { same_opening = refl; more_begun = ([], refl); more_rows = ([], refl); more_drawn = ([], refl); more_seen = ([], refl); more_loaded = ([], refl) };
      pages = record { more_made = (made_at_four (commit_mtr 1), refl); more_durables = ([], refl); more_locks = ([], refl); more_frames = ([], refl); more_gave = ([], refl); more_contents = ([], refl); more_given = ([], refl) };
      durable = lit≤ tt;
      made_later = λ m there. inr (record { above_made = λ x none. absurd none; above_given = λ g none. absurd none });
      given_later = λ g none. absurd none;
      downs = downs_extend_refl first_down_part;
    };
    trx = refl;
    made = refl;
    durables = refl;
    later = record { above_made = λ x none. absurd none; above_given = λ g none. absurd none };
  };
}

pub returns-clause-makes_none : goal.returns-clause-makes_none
returns-clause-makes_none c = λ h.
    let x : Placed Mtr = record { at = 4; mtr = commit_mtr 1 } in
    let count : 0 ≡ 1 = ap (λ (l : List (Placed Mtr)). length l) (h.made.made ∙ ap (λ (l : List (Placed Mtr)). x ∷ l) h.quiet.made) in
    omega (arith, count)

small_reader : IsReader 1 (begun_of own_trx 3) open_part
small_reader = record { node = refl; begun = inl refl; active = refl; whole = λ m none. absurd none }

pub returns-clause-reader : goal.returns-clause-reader
returns-clause-reader c = small_reader

pub returns-clause-another_reader : goal.returns-clause-another_reader
returns-clause-another_reader c = λ h. let two : 2 ≡ 1 = h.node in omega (arith, two)

pub returns-clause-reads : goal.returns-clause-reads
returns-clause-reads c = λ run q has. subst (IsReader 1 (begun_of own_trx 3)) (only_first run open_part 1 q has) small_reader

pub returns-clause-not_yet_active : goal.returns-clause-not_yet_active
returns-clause-not_yet_active c = λ run h. free_not_active (ap (λ (x : Shown). x.tag) (h (small_part [] [] []) refl).active)

pub returns-clause-looks : goal.returns-clause-looks
returns-clause-looks c = look_none

pub returns-clause-another_undo_page : goal.returns-clause-another_undo_page
returns-clause-another_undo_page c = λ p desk n h. no_none 2 (sym h.undo)

pub returns-clause-no_writer : goal.returns-clause-no_writer
returns-clause-no_writer c = λ n id is. absurd (no_none id is)

pub returns-clause-never_begun : goal.returns-clause-never_begun
returns-clause-never_begun c = λ n reached h.
    let k = known_world n reached in
    none_begun n reached (trx 1 0 0) refl (h (trx 1 0 0) refl k.world k.facts k.agrees)

pub returns-clause-knows : goal.returns-clause-knows
returns-clause-knows c = lit≤ tt

pub returns-clause-never_saw : goal.returns-clause-never_saw
returns-clause-never_saw c = λ h. let below : 3 ≤ 0 = h in omega (arith, below)

pub returns-clause-in_prep : goal.returns-clause-in_prep
returns-clause-in_prep c = record { writer = refl; other = others; load = load_showing younger_trx (shows Prep 3 0); is_load = record { loaded = inl refl; of = refl; slot = refl }; shown = refl }

pub returns-clause-not_in_prep : goal.returns-clause-not_in_prep
returns-clause-not_in_prep c = λ h.
    let load = only_one h.load (load_showing younger_trx (shows Active 3 0)) h.is_load.loaded in
    let shown : shows Active 3 0 ≡ shows Prep 3 0 = sym (ap (λ (l : SlotLoad). shown_of l.word) load) ∙ h.shown in
    active_not_prep (ap (λ (x : Shown). x.tag) shown)
