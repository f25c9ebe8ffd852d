use Rattle.std.proofs.Common.{◌≡◌, ◌≤◌, [], ◌∷◌, None, Some, refl, sym, ap, ◌∙◌, inl, lit≤, lit<, arith}
use Rattle.mp_core_trx.specs.declared.slot.SlotTag.TheVariants.{Active}
use Rattle.mp_core_trx.specs.Words.{shows}
use Rattle.mp_model.specs.declared.ids.TrxId.{TrxId}
use Rattle.mp_script.specs.declared.statements.Stmt.TheVariants.{Del}
use Rattle.mp_supports.specs.SmallParts.{own_trx, older_trx, younger_trx, line_of, small_part, version_by, only_leaf, load_showing}
use Rattle.mp_supports.proofs.SmallParts.{id_is, others, holder_is, is_another}
use Rattle.mp_supports.proofs.examples.law_supports_wait_examples.Goals as goal

pub returns-clause-younger : goal.returns-clause-younger
returns-clause-younger c = (
  (tt, tt),
  (
    (
      own_trx,
      3,
      record { begun = inl refl; named = refl },
      (
        younger_trx,
        inl record {
          leaf = only_leaf (version_by (Some younger_trx) None 97);
          newest = version_by (Some younger_trx) None 97;
          its_newest = record { given = inl refl; its_leaf = record { kind = refl; from = lit≤ tt; until = lit< tt }; newest_is = refl };
          writer = refl;
          other = others;
          load = load_showing younger_trx (shows Active 3 0);
          is_load = record { loaded = inl refl; of = refl; slot = refl };
          shown = refl;
        },
        lit≤ tt,
        record { named = refl; apart = λ same. absurd (let two : 2 ≡ 1 = same in omega (arith, two)) },
      ),
    ),
    tt,
  ),
)

pub returns-clause-not_older : goal.returns-clause-not_older
returns-clause-not_older c = λ waits.
    let wait = waits.1.0 in
    let held = wait.3 in
    let load = load_showing older_trx (shows Active 1 0) in
    let id = id_is (Del 5) (load ∷ []) (only_leaf (version_by (Some older_trx) None 97) ∷ []) [] (line_of 1 2 (Del 5)) wait.0 wait.1 wait.2 in
    let holder : held.0 ≡ older_trx = holder_is (load ∷ []) older_trx 5 refl wait.0 held.0 held.1 in
    let version : (held.0).version ≡ 1 = ap (λ (i : TrxId). i.version) holder in
    let own : (wait.0).version ≡ 2 = ap (λ (i : TrxId). i.version) id in
    let no_older : (wait.0).version ≤ (held.0).version = held.2 in
    omega (arith, version, own, no_older)

pub returns-clause-not_itself : goal.returns-clause-not_itself
returns-clause-not_itself c = λ waits.
    let wait = waits.1.0 in
    let held = wait.3 in
    let load = load_showing own_trx (shows Active 2 0) in
    let given = only_leaf (version_by (Some own_trx) None 97) ∷ [] in
    let id = id_is (Del 5) (load ∷ []) given [] (line_of 1 2 (Del 5)) wait.0 wait.1 wait.2 in
    let holder : held.0 ≡ own_trx = holder_is (load ∷ []) own_trx 5 refl wait.0 held.0 held.1 in
    is_another (small_part (load ∷ []) given []) wait.0 5 held.0 held.1 (holder ∙ sym id)
