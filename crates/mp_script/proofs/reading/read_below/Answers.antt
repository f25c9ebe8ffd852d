-- The next kept line is added, or has the first fault.
use Rattle.std.proofs.Common.{arith, ◌≡◌, ◌+◌, [], ◌∷◌, ℕ, List, drop, sym, ap, ◌∙◌, subst, get_or, Err, Bor}
use Rattle.mp_script.specs.Words.{Kept, kept_from, words_of}
use Rattle.mp_script.specs.Entries.{nothing_said}
use Rattle.mp_script.specs.Faults.{said_below}
use Rattle.mp_script.specs.Drafts.{said_in, IsTallied}
use Rattle.mp_script.specs.Readings.{GivesSaid}
use Rattle.mp_script.proofs.Below.{texts, texts-drop, kept, kept-skipped, kept-read, below-ok, below-err, gives-same}
use Rattle.mp_script.proofs.reading.read_below.Goals as goal
use Rattle.mp_script.proofs.reading.read_below.Goals.{then-not-is_skipped+in_ok-read_line, else-not-is_skipped}

abbrev nothing : Bor (List ℕ)
nothing = record { ref_ptr = (0, 0); now = [] }

next_number : (above i : ℕ) → above + i + 2 + 1 ≡ above + (i + 1) + 2
next_number above i = omega arith

pub returns-in_err-read_line : goal.returns-in_err-read_line
returns-in_err-read_line c =
    let line : Bor (List ℕ) = get_or c.args.lines.now c.loop-i.i nothing in
    let number : ℕ = c.args.above + c.loop-i.i + 2 in
    let rest : List Kept = kept_from (number + 1) (texts (drop (c.loop-i.i + 1) c.args.lines.now)) in
    let here : kept_from number (texts (drop c.loop-i.i c.args.lines.now)) ≡ kept number line.now ∷ rest = ap (kept_from number) (texts-drop c.args.lines.now c.loop-i.i nothing c.loop-i-test.true) ∙ kept-read number line.now (texts (drop (c.loop-i.i + 1) c.args.lines.now)) (sym c.is_skipped.ensures ∙ c.if-not-is_skipped.true) in
    let all : said_below (said_in c.loop-i.draft) (kept number line.now ∷ rest) ≡ said_below (nothing_said c.args.primaries) (kept_from (c.args.above + 2) (texts c.args.lines.now)) = ap (said_below (said_in c.loop-i.draft)) (sym here) ∙ c.loop-i.invariant.rest in
    gives-same said_in _ c.from_residual.result c.in_err-read_line.field-0.0 c.from_residual.ensures.1
    (subst (λ w. GivesSaid said_in w (Err c.in_err-read_line.field-0.0)) all (below-err (said_in c.loop-i.draft) (said_in c.read_line.new.draft) number (words_of line.now) rest c.in_err-read_line.field-0.0 c.in_err-read_line.ensures.said))

pub loop-i-preserved : goal.loop-i-preserved
loop-i-preserved c =
    let line : Bor (List ℕ) = get_or c.args.lines.now c.loop-i.i nothing in
    let number : ℕ = c.args.above + c.loop-i.i + 2 in
    let more : List (List ℕ) = texts (drop (c.loop-i.i + 1) c.args.lines.now) in
    let here : kept_from number (texts (drop c.loop-i.i c.args.lines.now)) ≡ kept_from number (line.now ∷ more) = ap (kept_from number) (texts-drop c.args.lines.now c.loop-i.i nothing c.loop-i-test.true) in
    let renumbered : kept_from (c.args.above + (c.loop-i.i + 1) + 2) more ≡ kept_from (number + 1) more = ap (λ n. kept_from n more) (sym (next_number c.args.above c.loop-i.i)) in
    let all : said_below (said_in c.loop-i.draft) (kept_from number (line.now ∷ more)) ≡ said_below (nothing_said c.args.primaries) (kept_from (c.args.above + 2) (texts c.args.lines.now)) = ap (said_below (said_in c.loop-i.draft)) (sym here) ∙ c.loop-i.invariant.rest in
    elim c.if-not-is_skipped.branch [
      | then-not-is_skipped+in_ok-read_line w ↦
          let read : kept_from number (line.now ∷ more) ≡ kept number line.now ∷ kept_from (number + 1) more = kept-read number line.now more (sym c.is_skipped.ensures ∙ w.if-not-is_skipped.true) in
          let step : said_below (said_in c.loop-i.draft) (kept number line.now ∷ kept_from (number + 1) more) ≡ said_below (said_in w.read_line.new.draft) (kept_from (number + 1) more) = below-ok (said_in c.loop-i.draft) (said_in w.read_line.new.draft) number (words_of line.now) (kept_from (number + 1) more) w.in_ok-read_line.ensures.said in
          record {
            rest = ap (λ d. said_below (said_in d) (kept_from (c.args.above + (c.loop-i.i + 1) + 2) more)) w.draft-is ∙ ap (said_below (said_in w.read_line.new.draft)) renumbered ∙ sym step ∙ ap (said_below (said_in c.loop-i.draft)) (sym read) ∙ all;
            tallied = subst IsTallied (sym w.draft-is) w.in_ok-read_line.ensures.tallied;
          }
      | else-not-is_skipped w ↦
          let skipped : kept_from number (line.now ∷ more) ≡ kept_from (number + 1) more = kept-skipped number line.now more (sym c.is_skipped.ensures ∙ w.if-not-is_skipped.false) in
          record {
            rest = ap (λ d. said_below (said_in d) (kept_from (c.args.above + (c.loop-i.i + 1) + 2) more)) w.draft-is ∙ ap (said_below (said_in c.loop-i.draft)) (renumbered ∙ sym skipped) ∙ all;
            tallied = subst IsTallied (sym w.draft-is) c.loop-i.invariant.tallied;
          }
    ]
