use Rattle.mp_desk.proofs.ending_turn.changed_page.Goals as goal

pub is_clean-requires : goal.is_clean-requires
is_clean-requires c = c.requires c.in_ok-number.number c.in_ok-number.ensures.its.0 c.in_ok-number.ensures.its.1.1
