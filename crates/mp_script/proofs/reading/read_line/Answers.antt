-- What is said fits.
use Rattle.std.proofs.Common.{◌≡◌, ◌∙◌, ap, sym, map}
use Rattle.mp_script.specs.Drafts.{said_in}
use Rattle.mp_script.specs.Words.{words_of}
use Rattle.mp_script.specs.Faults.{entry_of}
use Rattle.mp_script.proofs.EntryLaws.{entry_of-Ok}
use Rattle.mp_script.proofs.reading.read_line.Goals as goal

pub add-requires-clause-fits : goal.add-requires-clause-fits
add-requires-clause-fits c =
    let words : map (λ w. w.now) c.deref.result.now ≡ words_of c.args.line.now = ap (map (λ w. w.now)) c.deref.ensures.value ∙ c.in_ok-words.ensures in
    (entry_of-Ok (said_in c.args.draft.now) (words_of c.args.line.now) c.in-Ok.entry (ap (entry_of (said_in c.args.draft.now)) (sym words) ∙ sym c.in-Ok.ensures.entry)).0
