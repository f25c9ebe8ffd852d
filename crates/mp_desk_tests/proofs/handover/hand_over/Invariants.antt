use Rattle.mp_desk_tests.proofs.handover.hand_over.Given as goal

abbrev pub ghosts-hand_over_counted : goal.ghosts-hand_over_counted
ghosts-hand_over_counted g a = record { name = a.blank.name; parts = a.blank.parts }
