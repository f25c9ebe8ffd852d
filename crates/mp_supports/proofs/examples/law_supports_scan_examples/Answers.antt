use Rattle.std.proofs.Common.{◌≡◌, ◌<◌, ℕ, zero, suc, [], ◌∷◌, None, Some, refl, sym, ap, ◌∙◌, inl, inr, ⊎_elim, lit≤, lit<, arith, length, List}
use Rattle.mp_model.specs.declared.key_value.KeyValue.{KeyValue}
use Rattle.mp_model.specs.declared.ids.TrxId.{TrxId}
use Rattle.mp_script.specs.declared.statements.Line.{Line}
use Rattle.mp_script.specs.declared.statements.Stmt.{Stmt}
use Rattle.mp_script.specs.declared.statements.Stmt.TheVariants.{Scan}
use Rattle.mp_cells.specs.Trees.{top}
use Rattle.mp_core.specs.declared.part.CorePart.{CorePart}
use Rattle.mp_supports.specs.Seeing.{ScansTo}
use Rattle.mp_supports.specs.SmallParts.{own_trx, line_of, version_by, only_leaf}
use Rattle.mp_supports.proofs.SmallParts.{the_line}
use Rattle.mp_supports.proofs.examples.law_supports_scan_examples.Goals as goal

pub returns-clause-all_rows : goal.returns-clause-all_rows
returns-clause-all_rows c = record {
  line = line_of 1 2 (Scan 0 10);
  found = refl;
  reply = (
    own_trx,
    3,
    record { begun = inl refl; named = refl },
    (
      0,
      10,
      top,
      1,
      refl,
      (
        top,
        record { key = 5; value = 97 ∷ [] } ∷ [],
        [],
        record {
          leaf = only_leaf (version_by (Some own_trx) None 97);
          rests = inl refl;
          given = inl refl;
          its_leaf = record { kind = refl; from = lit≤ tt; until = lit< tt };
          some_keys = lit< tt;
          within = lit≤ tt;
          knew = lit≤ tt;
          seen = ([], version_by (Some own_trx) None 97, [], (refl, inl refl), refl, refl);
          only_put = λ m there of below. absurd there;
        },
        (refl, refl),
        refl,
      ),
      lit≤ tt,
      inl refl,
      refl,
    ),
  );
  waits = refl;
}

-- without a page nothing is scanned
no_stretch : (p : CorePart) (reader : TrxId) (view count low high : ℕ) (rows : List KeyValue) → ScansTo p [] reader view count low high rows → low ≡ high
no_stretch p reader view zero low high rows h = h.0
no_stretch p reader view (suc count) low high rows h = absurd h.3.rests

abbrev low_of : Stmt → ℕ
low_of (Scan low most) = low
low_of stmt = 0

abbrev most_of : Stmt → ℕ
most_of (Scan low most) = most
most_of stmt = 0

pub returns-clause-not_cut_short : goal.returns-clause-not_cut_short
returns-clause-not_cut_short c = λ s.
    let scan = s.reply.3 in
    let line = the_line (Scan 0 10) s.line s.found in
    let low : scan.0 ≡ 0 = sym (ap (λ stmt. low_of stmt) scan.4) ∙ ap (λ (l : Line). low_of l.stmt) line in
    let most : scan.1 ≡ 10 = sym (ap (λ stmt. most_of stmt) scan.4) ∙ ap (λ (l : Line). most_of l.stmt) line in
    let same : scan.0 ≡ scan.2 = no_stretch _ s.reply.0 s.reply.1 scan.3 scan.0 scan.2 [] scan.5 in
    ⊎_elim (λ all. let big : 0 < top = lit< tt in omega (arith, low, same, all, big)) (λ enough. let none : 0 ≡ scan.1 = enough in omega (arith, most, none)) scan.7
