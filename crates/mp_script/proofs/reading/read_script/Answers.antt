-- The first kept line has the number of primaries, and the rest stands below it.
use Rattle.std.proofs.Common.{arith, ◌≡◌, ◌+◌, ◌-◌, ◌∷◌, [], ℕ, List, Bor, length, drop, take, sym, ap, subst, ◌∙◌, get_or}
use Rattle.std.proofs.lemmas.List.{take_all, length-drop}
use Rattle.mp_script.specs.Words.{kept_from, words_of}
use Rattle.mp_script.specs.Entries.{nothing_said}
use Rattle.mp_script.specs.Faults.{said_below, said_by}
use Rattle.mp_script.specs.Drafts.{said_in}
use Rattle.mp_script.specs.Readings.{GivesSaid}
use Rattle.mp_script.proofs.Below.{texts, texts-drop, kept, kept-read, by-ok}
use Rattle.mp_script.proofs.reading.read_script.Goals as goal

abbrev nothing : Bor (List ℕ)
nothing = record { ref_ptr = (0, 0); now = [] }

next_number : (i : ℕ) → i + 1 + 1 ≡ i + 2
next_number i = omega arith

pub returns-then-not-is_skipped : goal.returns-then-not-is_skipped
returns-then-not-is_skipped c =
    let line : Bor (List ℕ) = get_or c.args.lines.now c.loop-i.i nothing in
    let more : List (List ℕ) = texts (drop (c.loop-i.i + 1) c.args.lines.now) in
    let here : kept_from (c.loop-i.i + 1) (texts (drop c.loop-i.i c.args.lines.now)) ≡ kept (c.loop-i.i + 1) line.now ∷ kept_from (c.loop-i.i + 1 + 1) more = ap (kept_from (c.loop-i.i + 1)) (texts-drop c.args.lines.now c.loop-i.i nothing c.loop-i-test.true) ∙ kept-read (c.loop-i.i + 1) line.now more (sym c.is_skipped.ensures ∙ c.if-not-is_skipped.true) in
    let all : said_by (kept (c.loop-i.i + 1) line.now ∷ kept_from (c.loop-i.i + 1 + 1) more) ≡ said_by (kept_from 1 (texts c.args.lines.now)) = ap said_by (sym here ∙ c.loop-i.invariant) in
    let step : said_by (kept (c.loop-i.i + 1) line.now ∷ kept_from (c.loop-i.i + 1 + 1) more) ≡ said_below (nothing_said c.in_ok-primaries.primaries) (kept_from (c.loop-i.i + 1 + 1) more) = by-ok c.in_ok-primaries.primaries (c.loop-i.i + 1) (words_of line.now) (kept_from (c.loop-i.i + 1 + 1) more) c.in_ok-primaries.ensures in
    let e : said_below (nothing_said c.in_ok-primaries.primaries) (kept_from (c.loop-i.i + 2) more) ≡ said_by (kept_from 1 (texts c.args.lines.now)) = ap (λ n. said_below (nothing_said c.in_ok-primaries.primaries) (kept_from n more)) (sym (next_number c.loop-i.i)) ∙ sym step ∙ all in
    let behind : take (length c.args.lines.now - (c.loop-i.i + 1)) (drop (c.loop-i.i + 1) c.args.lines.now) ≡ drop (c.loop-i.i + 1) c.args.lines.now = take_all _ _ (omega (arith, length-drop (c.loop-i.i + 1) c.args.lines.now)) in
    subst (λ w. GivesSaid said_in w c.read_below.result) e (subst (λ xs. GivesSaid said_in (said_below (nothing_said c.in_ok-primaries.primaries) (kept_from (c.loop-i.i + 2) (texts xs))) c.read_below.result) behind c.read_below.ensures)
