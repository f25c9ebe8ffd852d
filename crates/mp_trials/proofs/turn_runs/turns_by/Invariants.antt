use Rattle.mp_trials.proofs.turn_runs.turns_by.Given as goal

abbrev pub ghosts-turns_of : goal.ghosts-turns_of
ghosts-turns_of a = record { name = a.blank.name; parts = a.blank.parts }
