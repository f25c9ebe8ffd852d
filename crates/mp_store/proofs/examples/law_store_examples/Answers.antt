-- The definitions compute.
use Rattle.std.proofs.Common.{refl, sym, inl, inr}
use Rattle.std.proofs.lemmas.Bool.{true≢false}
use Rattle.mp_cells.specs.Numbers.{number_at}
use Rattle.mp_store.specs.HeaderSides.{header_fault}
use Rattle.mp_store.specs.PageSides.{side_in_force}
use Rattle.mp_store.specs.StoreFiles.{store_fault}
use Rattle.mp_store.proofs.FreshImages.{none_is_no_store}
use Rattle.mp_store.proofs.examples.law_store_examples.Goals as goal

pub returns-clause-greater : goal.returns-clause-greater
unfolding side_in_force number_at
returns-clause-greater c = refl

pub returns-clause-llsn : goal.returns-clause-llsn
unfolding side_in_force number_at
returns-clause-llsn c = refl

pub returns-clause-equal : goal.returns-clause-equal
unfolding side_in_force number_at
returns-clause-equal c = refl

pub returns-clause-later : goal.returns-clause-later
unfolding side_in_force number_at
returns-clause-later c = refl

pub returns-clause-none : goal.returns-clause-none
unfolding side_in_force number_at
returns-clause-none c = refl

pub returns-clause-header : goal.returns-clause-header
unfolding number_at
returns-clause-header c = refl

pub returns-clause-first : goal.returns-clause-first
unfolding number_at
returns-clause-first c = refl

pub returns-clause-empty : goal.returns-clause-empty
unfolding store_fault
returns-clause-empty c = refl

pub returns-clause-short : goal.returns-clause-short
unfolding store_fault
returns-clause-short c = λ file. λ long. rw long refl

pub returns-clause-mark : goal.returns-clause-mark
unfolding header_fault
returns-clause-mark c = λ rest. refl

pub returns-clause-is_later : goal.returns-clause-is_later
unfolding number_at
returns-clause-is_later c = refl

pub returns-clause-in_time : goal.returns-clause-in_time
unfolding number_at
returns-clause-in_time c = refl

pub returns-clause-gate : goal.returns-clause-gate
unfolding number_at
returns-clause-gate c = inr (refl, refl)

pub returns-clause-counting : goal.returns-clause-counting
unfolding number_at
returns-clause-counting c (inl same) = absurd (cc)
returns-clause-counting c (inr (later, rest)) = absurd (true≢false (sym later))

pub returns-clause-no_header : goal.returns-clause-no_header
returns-clause-no_header c = λ file. λ none. λ sound. none_is_no_store file none sound
