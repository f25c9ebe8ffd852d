use Rattle.std.proofs.Common.{◌≡◌, ◌+◌, ℕ, List, [], ◌∷◌, refl, ap, ◌∙◌, inl, inr, lit≤, lit<, arith}
use Rattle.mp_cells.specs.declared.records.Mtr.{Mtr}
use Rattle.mp_core_trx.specs.declared.slot.Shown.{Shown}
use Rattle.mp_core_trx.specs.Parts.{begun_of}
use Rattle.mp_core_pages.specs.declared.part.Placed.{Placed}
use Rattle.mp_supports.specs.Steps.{MadeOne}
use Rattle.mp_core.specs.Downs.{first_down_part}
use Rattle.mp_core.proofs.Downs.{downs_extend_refl}
use Rattle.mp_supports.specs.SmallParts.{own_trx, commit_mtr, made_at_four, forced_to}
use Rattle.mp_supports.proofs.SmallParts.{no_none}
use Rattle.mp_desk.specs.Making.{AllForced}
use Rattle.mp_desk.specs.Statements.{IsReader}
use Rattle.mp_desk.specs.Writes.{IsInTheBalance}
use Rattle.mp_desk.specs.SmallDesks.{ready_part, recorded_part}
use Rattle.mp_desk.proofs.Committing.{drawn_part, in_the_balance, published}
use Rattle.mp_desk.proofs.PutBackRows.{moves_quiet_none}
use Rattle.mp_desk.proofs.SmallDesks.{prep_not_committed, committed_not_prep}
use Rattle.mp_desk.proofs.ending_examples.law_commit_examples.Goals as goal

ready_reads : IsReader 1 (begun_of own_trx 3) ready_part
ready_reads = record { node = refl; begun = inl refl; active = refl; whole = λ m none. absurd none }

abbrev record_made : Placed Mtr
record_made = record { at = 4; mtr = commit_mtr 1 }

makes_record : MadeOne record_made (drawn_part own_trx 5 ready_part) recorded_part
makes_record = record {
  extends = record {
    trx = record { same_opening = refl; more_begun = ([], refl); more_rows = ([], refl); more_drawn = ([], refl); more_seen = ([], refl); more_loaded = ([], refl) };
    pages = record { more_made = (made_at_four (commit_mtr 1), refl); more_durables = ([], refl); more_locks = ([], refl); more_frames = ([], refl); more_gave = ([], refl); more_contents = ([], refl); more_given = ([], refl) };
    durable = lit≤ tt;
    made_later = λ m there. inr (record { above_made = λ x none. absurd none; above_given = λ g none. absurd none });
    given_later = λ g none. absurd none;
    downs = downs_extend_refl first_down_part;
  };
  trx = refl;
  made = refl;
  durables = refl;
  later = record { above_made = λ x none. absurd none; above_given = λ g none. absurd none };
}

small_balance : IsInTheBalance (begun_of own_trx 3) 5 ready_part recorded_part
small_balance = in_the_balance 1 (begun_of own_trx 3) 5 0 ready_part recorded_part ready_reads (lit≤ tt) (lit< tt) (lit≤ tt) record_made refl makes_record

all_forced : AllForced recorded_part (forced_to 1 recorded_part)
all_forced = (
  refl,
  inr record {
    extends = record {
      trx = record { same_opening = refl; more_begun = ([], refl); more_rows = ([], refl); more_drawn = ([], refl); more_seen = ([], refl); more_loaded = ([], refl) };
      pages = record { more_made = ([], refl); more_durables = (1 ∷ [], refl); more_locks = ([], refl); more_frames = ([], refl); more_gave = ([], refl); more_contents = ([], refl); more_given = ([], refl) };
      durable = lit≤ tt;
      made_later = λ m there. inl there;
      given_later = λ g none. absurd none;
      downs = downs_extend_refl first_down_part;
    };
    trx = refl;
    made = refl;
    locks = refl;
    given = refl;
    durables = refl;
  },
)

none_one : (x : ℕ) (xs : List ℕ) → x ∷ xs ≡ [] → ⊥
none_one x xs e = absurd cc

pub returns-clause-recorded : goal.returns-clause-recorded
returns-clause-recorded c = small_balance.commits

pub returns-clause-not_recorded : goal.returns-clause-not_recorded
returns-clause-not_recorded c = λ h. let count : 0 ≡ 1 = h.counted in omega (arith, count)

pub returns-clause-in_the_balance : goal.returns-clause-in_the_balance
returns-clause-in_the_balance c = small_balance

pub returns-clause-not_once_published : goal.returns-clause-not_once_published
returns-clause-not_once_published c = λ h. committed_not_prep (ap (λ (x : Shown). x.tag) h.shown)

pub returns-clause-published : goal.returns-clause-published
returns-clause-published c = published (begun_of own_trx 3) 5 ready_part recorded_part (forced_to 1 recorded_part) small_balance all_forced (lit< tt, tt)

pub returns-clause-not_in_the_balance : goal.returns-clause-not_in_the_balance
returns-clause-not_in_the_balance c = λ h. prep_not_committed (ap (λ (x : Shown). x.tag) h.shown)

pub returns-clause-stops : goal.returns-clause-stops
returns-clause-stops c = λ p n. moves_quiet_none p n

pub returns-clause-not_with_a_frame : goal.returns-clause-not_with_a_frame
returns-clause-not_with_a_frame c = λ p n none h. none_one 3 [] (h.frames ∙ none)

pub returns-clause-stamp : goal.returns-clause-stamp
returns-clause-stamp c = refl

pub returns-clause-no_stamp : goal.returns-clause-no_stamp
returns-clause-no_stamp c = λ h. no_none 5 h

pub returns-clause-planned : goal.returns-clause-planned
returns-clause-planned c = refl

pub returns-clause-not_the_llsn : goal.returns-clause-not_the_llsn
returns-clause-not_the_llsn c = λ desk h. let same : desk.llsn + 1 ≡ desk.llsn = h in omega (arith, same)
