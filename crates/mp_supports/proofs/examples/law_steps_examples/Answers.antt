use Rattle.std.proofs.Common.{◌≡◌, ◌≤◌, ◌<◌, ℕ, List, [], ◌∷◌, length, refl, ap, inl, inr, ⊎_elim, lit≤, arith}
use Rattle.mp_cells.specs.declared.records.Mtr.{Mtr}
use Rattle.mp_cells.specs.PageView.{PageView}
use Rattle.mp_core_pages.specs.declared.part.PagesPart.{PagesPart}
use Rattle.mp_core_pages.specs.declared.part.Placed.{Placed}
use Rattle.mp_core.specs.Downs.{first_down_part}
use Rattle.mp_core.proofs.Downs.{downs_extend_refl}
use Rattle.mp_supports.specs.SmallParts.{made_at_four, commit_mtr, open_part}
use Rattle.mp_supports.proofs.examples.law_steps_examples.Goals as goal

pub returns-clause-made : goal.returns-clause-made
returns-clause-made c = record {
  extends = record {
    trx = record { same_opening = refl; more_begun = ([], refl); more_rows = ([], refl); more_drawn = ([], refl); more_seen = ([], refl); more_loaded = ([], refl) };
    pages = record { more_made = (made_at_four (commit_mtr 1), refl); more_durables = ([], refl); more_locks = ([], refl); more_frames = ([], refl); more_gave = ([], refl); more_contents = ([], refl); more_given = ([], refl) };
    durable = lit≤ tt;
    made_later = λ m there. inr (record { above_made = λ x none. absurd none; above_given = λ g none. absurd none });
    given_later = λ g none. absurd none;
    downs = downs_extend_refl first_down_part;
  };
  trx = refl;
  made = refl;
  durables = refl;
  later = record { above_made = λ x none. absurd none; above_given = λ g none. absurd none };
}

pub returns-clause-not_made : goal.returns-clause-not_made
returns-clause-not_made c = λ h. let count : 0 ≡ 1 = ap (λ (l : List (Placed Mtr)). length l) h.made in omega (arith, count)

pub returns-clause-forced : goal.returns-clause-forced
returns-clause-forced c = record {
  extends = record {
    trx = record { same_opening = refl; more_begun = ([], refl); more_rows = ([], refl); more_drawn = ([], refl); more_seen = ([], refl); more_loaded = ([], refl) };
    pages = record { more_made = ([], refl); more_durables = (2 ∷ [], refl); more_locks = ([], refl); more_frames = ([], refl); more_gave = ([], refl); more_contents = ([], refl); more_given = ([], refl) };
    durable = lit≤ tt;
    made_later = λ m none. absurd none;
    given_later = λ g none. absurd none;
    downs = downs_extend_refl first_down_part;
  };
  trx = refl;
  made = refl;
  locks = refl;
  given = refl;
  durables = refl;
}

pub returns-clause-not_forced : goal.returns-clause-not_forced
returns-clause-not_forced c = λ h. let count : 1 ≡ 2 = ap (λ (l : List ℕ). length l) h.durables in omega (arith, count)

pub returns-clause-trx : goal.returns-clause-trx
returns-clause-trx c = record {
  extends = record {
    trx = record { same_opening = refl; more_begun = ([], refl); more_rows = (open_part.trx.rows, refl); more_drawn = ([], refl); more_seen = ([], refl); more_loaded = ([], refl) };
    pages = record { more_made = ([], refl); more_durables = ([], refl); more_locks = ([], refl); more_frames = ([], refl); more_gave = ([], refl); more_contents = ([], refl); more_given = ([], refl) };
    durable = lit≤ tt;
    made_later = λ m none. absurd none;
    given_later = λ g none. absurd none;
    downs = downs_extend_refl first_down_part;
  };
  pages = refl;
}

pub returns-clause-not_trx : goal.returns-clause-not_trx
returns-clause-not_trx c = λ h. let count : 1 ≡ 0 = ap (λ (l : PagesPart PageView Mtr). length l.made) h.pages in omega (arith, count)

pub returns-clause-precedes : goal.returns-clause-precedes
returns-clause-precedes c = record { below = tt; above = (lit≤ tt, tt) }

pub returns-clause-not_precedes : goal.returns-clause-not_precedes
returns-clause-not_precedes c = λ h. let low : 4 < 2 = h.below.0 in omega (arith, low)

pub returns-clause-goes_down : goal.returns-clause-goes_down
returns-clause-goes_down c = inl refl

pub returns-clause-not_up_again : goal.returns-clause-not_up_again
returns-clause-not_up_again c = λ h. ⊎_elim (λ up. let wrong : 2 ≡ 0 = up in omega (arith, wrong)) (λ stays. let wrong : 2 ≡ 0 = stays.0 in omega (arith, wrong)) h
