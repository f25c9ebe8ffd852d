use Rattle.mp_cluster.proofs.step.step_all.Given as goal

abbrev pub ghosts-step_members : goal.ghosts-step_members
ghosts-step_members g a = record { name = a.blank.name; parts = a.blank.parts }
