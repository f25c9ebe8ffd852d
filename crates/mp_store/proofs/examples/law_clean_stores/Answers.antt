-- A fresh store's pages are a fresh map; a clean store has no fault.
use Rattle.std.proofs.Common.{arith}
use Rattle.mp_store.proofs.FreshImages.{none_is_no_store}
use Rattle.mp_store.proofs.CleanFiles.{fresh_is_clean_store}
use Rattle.mp_store.proofs.examples.law_clean_stores.Goals as goal

pub returns-clause-fresh : goal.returns-clause-fresh
returns-clause-fresh c = fresh_is_clean_store

pub returns-clause-no_header : goal.returns-clause-no_header
returns-clause-no_header c = λ file. λ none. λ clean. none_is_no_store file none clean.sound

pub returns-clause-llsn : goal.returns-clause-llsn
returns-clause-llsn c = λ file. λ low. λ clean. (let high = clean.clean.llsns 1 (omega arith) in absurd (omega (arith, low, high)))
