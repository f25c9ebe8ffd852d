-- What an mtr has fits a header.
use Rattle.std.proofs.Common.{◌≡◌, ◌++◌, List, ap, ◌∙◌}
use Rattle.mp_cells.specs.declared.records.Record.{Record}
use Rattle.mp_recover.specs.declared.found.Found.{Found}
use Rattle.mp_recover.specs.Finding.{greatest_of, records_versions, FoundFits}
use Rattle.mp_recover.specs.Redoing.{commit_ids}
use Rattle.mp_recover.proofs.FoundMore.{ok_so, noted_fits}
use Rattle.mp_recover.proofs.found.Found.note.Goals as goal

pub returns-clause-fits : goal.returns-clause-fits
returns-clause-fits c =
    let old = c.args.self.now in
    let mtr = c.args.mtr.now in
    let new : Found = record { ids = c.note.new.ids; llsn = c.larger-self.result; version = c.newest_version-self.result } in
    ok_so c.note.result (c.note.new.ids.items ≡ old.ids.items ++ commit_ids c.as_slice-2.result.now) (FoundFits new)
    (λ ids. noted_fits mtr old new c.requires.mtr c.requires.fits
    (record { llsn_is = c.larger-self.ensures; version_is = c.newest_version-self.ensures ∙ ap (λ (items : List Record). greatest_of old.version (records_versions items)) c.as_slice.ensures.value })
    (ids ∙ ap (λ (items : List Record). old.ids.items ++ commit_ids items) c.as_slice-2.ensures.value))
    c.note.ensures
