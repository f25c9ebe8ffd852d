use Rattle.std.proofs.Common.{◌≡◌, ◌<◌, [], ◌∷◌, Some, None, refl, sym, ap, subst, ◌∙◌, inl, inr, ⊎_elim, replicate, lit≤, lit<, arith}
use Rattle.mp_cells.specs.declared.rows.Row.{Row}
use Rattle.mp_core_trx.specs.declared.part.SlotLoad.{SlotLoad}
use Rattle.mp_core_trx.specs.declared.slot.Shown.{Shown}
use Rattle.mp_core_trx.specs.declared.slot.SlotTag.TheVariants.{Active, Prep, Committed}
use Rattle.mp_core_trx.specs.Words.{shows, shown_of}
use Rattle.mp_core_trx.specs.Parts.{trx}
use Rattle.mp_core.specs.declared.part.CorePart.{CorePart}
use Rattle.mp_trx_fusion.specs.declared.slot_status.SlotStatus.TheVariants as statuses
use Rattle.mp_supports.specs.Supports.{IsHeldBy, HasNoRoom}
use Rattle.mp_supports.specs.SmallParts.{own_trx, older_trx, younger_trx, part_before_steps, small_part, version_by, only_leaf, only_meta, first_link, load_showing}
use Rattle.mp_supports.proofs.SmallParts.{no_none, some_one, only_one, others}
use Rattle.mp_desk.specs.Writes.{ShowsWriter}
use Rattle.mp_desk.specs.SmallDesks.{root_buffer, blocked_part}
use Rattle.mp_desk.proofs.ReachedFacts.{known_world}
use Rattle.mp_desk.proofs.SmallMaking.{only_first}
use Rattle.mp_desk.proofs.SmallDesks.{root_is_leaf, way_to_root, none_begun, active_not_committed, committed_not_active, committed_not_prep}
use Rattle.mp_desk.proofs.writing_examples.law_writing_examples.Goals as goal

pub returns-clause-puts : goal.returns-clause-puts
returns-clause-puts c = record {
  row = version_by (Some own_trx) (Some first_link) 98;
  put = refl;
  writer = refl;
  its_key = refl;
  value_is = refl;
  not_restored = refl;
  kept = refl;
  former_key = refl;
  over = inr (inr record { writer = older_trx; its_writer = refl; load = load_showing older_trx (shows Committed 1 2); is_load = record { loaded = inl refl; of = refl; slot = refl }; cts = 2; committed = refl; within = lit≤ tt });
}

pub returns-clause-no_other_value : goal.returns-clause-no_other_value
returns-clause-no_other_value c = λ h.
    let row = some_one (version_by (Some own_trx) (Some first_link) 98) h.row h.put in
    no_none (98 ∷ []) (sym (sym (ap (λ (r : Row). r.value) row) ∙ h.value_is))

pub returns-clause-replaced : goal.returns-clause-replaced
returns-clause-replaced c = record { number = 1; leaf = root_buffer; buffer = refl; its_leaf = root_is_leaf 5 (lit< tt); row_is = refl; way = way_to_root }

pub returns-clause-not_without_buffers : goal.returns-clause-not_without_buffers
returns-clause-not_without_buffers c = λ h. no_none h.leaf h.buffer

pub returns-clause-unwritten : goal.returns-clause-unwritten
returns-clause-unwritten c = λ n id is. absurd (no_none id is)

pub returns-clause-never_begun : goal.returns-clause-never_begun
returns-clause-never_begun c = λ n reached h.
    let k = known_world n reached in
    none_begun n reached (trx 1 0 0) refl (h (trx 1 0 0) refl k.world k.facts k.agrees).0

blocked_writer : ShowsWriter blocked_part own_trx (version_by (Some younger_trx) None 97) younger_trx (shows Active 3 0)
blocked_writer = record { writer = refl; other = others; load = load_showing younger_trx (shows Active 3 0); is_load = record { loaded = inl refl; of = refl; slot = refl }; shown = refl }

pub returns-clause-shows_active : goal.returns-clause-shows_active
returns-clause-shows_active c = blocked_writer

-- what the only load shows
shown_by_load : (shown : Shown) (x : Shown) → ShowsWriter (small_part (load_showing younger_trx shown ∷ []) [] []) own_trx (version_by (Some younger_trx) None 97) younger_trx x → shown_of (load_showing younger_trx shown).word ≡ x
shown_by_load shown x h = sym (ap (λ (l : SlotLoad). shown_of l.word) (only_one h.load (load_showing younger_trx shown) h.is_load.loaded)) ∙ h.shown

pub returns-clause-not_committed : goal.returns-clause-not_committed
returns-clause-not_committed c = λ h.
    let load = only_one h.load (load_showing younger_trx (shows Active 3 0)) h.is_load.loaded in
    let shown : shows Active 3 0 ≡ shows Committed 3 4 = sym (ap (λ (l : SlotLoad). shown_of l.word) load) ∙ h.shown in
    active_not_committed (ap (λ (x : Shown). x.tag) shown)

pub returns-clause-open : goal.returns-clause-open
returns-clause-open c = inl blocked_writer

pub returns-clause-not_open : goal.returns-clause-not_open
returns-clause-not_open c = λ h.
    ⊎_elim
    (λ active. committed_not_active (ap (λ (x : Shown). x.tag) (shown_by_load (shows Committed 3 4) (shows Active 3 0) active)))
    (λ prep. committed_not_prep (ap (λ (x : Shown). x.tag) (shown_by_load (shows Committed 3 4) (shows Prep 3 0) prep)))
    h

pub returns-clause-open_status : goal.returns-clause-open_status
returns-clause-open_status c = inl refl

free_not_active_status : statuses.Free ≡ statuses.Active → ⊥
free_not_active_status e = cc

free_not_prep_status : statuses.Free ≡ statuses.Prep → ⊥
free_not_prep_status e = cc

pub returns-clause-freed_status : goal.returns-clause-freed_status
returns-clause-freed_status c = λ h. ⊎_elim free_not_active_status free_not_prep_status h

pub returns-clause-conflict : goal.returns-clause-conflict
returns-clause-conflict c = (refl, refl, lit< tt)

pub returns-clause-no_conflict_at_the_view : goal.returns-clause-no_conflict_at_the_view
returns-clause-no_conflict_at_the_view c = λ h. let above : 3 < 3 = h.2 in omega (arith, above)

pub returns-clause-withstands : goal.returns-clause-withstands
returns-clause-withstands c = (inl blocked_writer, lit≤ tt)

pub returns-clause-not_as_an_older_one : goal.returns-clause-not_as_an_older_one
returns-clause-not_as_an_older_one c = λ h. let older : 3 < 2 = h.1 in omega (arith, older)

full_part : HasNoRoom (small_part [] (only_meta (replicate 512 255) ∷ []) [])
unfolding lib.Count.ones
full_part = record { meta = only_meta (replicate 512 255); given = inl refl; number = refl; few = lit< tt }

pub returns-clause-full : goal.returns-clause-full
returns-clause-full c = λ run before r has. subst HasNoRoom (only_first run (small_part [] (only_meta (replicate 512 255) ∷ []) []) 1 r has) full_part

pub returns-clause-no_writer_halts_a_plan : goal.returns-clause-no_writer_halts_a_plan
returns-clause-no_writer_halts_a_plan c = λ p before after h. absurd h

held_by_younger : IsHeldBy blocked_part own_trx 5 younger_trx
held_by_younger = inl record {
  leaf = only_leaf (version_by (Some younger_trx) None 97);
  newest = version_by (Some younger_trx) None 97;
  its_newest = record { given = inl refl; its_leaf = record { kind = refl; from = lit≤ tt; until = lit< tt }; newest_is = refl };
  writer = refl;
  other = others;
  load = load_showing younger_trx (shows Active 3 0);
  is_load = record { loaded = inl refl; of = refl; slot = refl };
  shown = refl;
}

pub returns-clause-waits : goal.returns-clause-waits
returns-clause-waits c = λ run before r has. (subst (λ (x : CorePart). IsHeldBy x own_trx 5 younger_trx) (only_first run blocked_part 1 r has) held_by_younger, lit≤ tt)

pub returns-clause-not_in_an_empty_part : goal.returns-clause-not_in_an_empty_part
returns-clause-not_in_an_empty_part c = λ run before h. ⊎_elim (λ active. absurd active.its_newest.given) (λ prep. absurd prep.its_newest.given) (h part_before_steps refl).0
