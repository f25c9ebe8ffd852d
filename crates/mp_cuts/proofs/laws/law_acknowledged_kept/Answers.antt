use Rattle.std.proofs.Common.{Some}
use Rattle.mp_recover.specs.KeptCommits.{kept_commits}
use Rattle.mp_cuts.specs.ValidCuts.{mtrs_of_cut}
use Rattle.mp_cuts.proofs.Acknowledged.{has_number, acknowledged_forced}
use Rattle.mp_cuts.proofs.Recoverable.{forced_kept}
use Rattle.mp_cuts.proofs.laws.law_acknowledged_kept.Goals as goal

pub returns : goal.returns
returns c = λ o w count work n down answer trace number fair f valid s is.
    let forced = acknowledged_forced o w f work n down trace s.line number answer.reply s.reply is in
    has_number (kept_commits (mtrs_of_cut w count)) (Some forced.0) number (forced_kept o fair w f count valid forced.0 number forced.1)
