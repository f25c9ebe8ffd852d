-- The first place of the byte is where the word is cut.
use Rattle.std.proofs.Common.{◌∙◌, ap, sym}
use Rattle.std.specs.Option.{option_map}
use Rattle.mp_report.proofs.Cut.{parted, at_first}
use Rattle.mp_report.proofs.read.words.cut_at.Goals as goal

pub returns-in_err-place : goal.returns-in_err-place
returns-in_err-place c =
    let word = c.args.word.now in
    rw c.from_residual.ensures (sym (at_first c.args.byte word ∙ ap (option_map (parted word)) (sym c.place_of.ensures.value ∙ c.in_err-place.was)))

pub returns : goal.returns
returns c =
    let word = c.args.word.now in
    rw (c.split_at.ensures.front, c.split_at-2.ensures.back) (sym (at_first c.args.byte word ∙ ap (option_map (parted word)) (sym c.place_of.ensures.value ∙ c.in_ok-place.was)))
