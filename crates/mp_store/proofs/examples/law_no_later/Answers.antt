-- Each side counts in both generations, or in neither.
use Rattle.mp_store.proofs.LaterShown.{page_later, homes_later}
use Rattle.mp_store.proofs.examples.law_no_later.Goals as goal

pub returns-clause-pages : goal.returns-clause-pages
returns-clause-pages c = λ g. λ h. λ n. λ file. λ none. λ le. λ lt. page_later g h n file none le lt

pub returns-clause-homes : goal.returns-clause-homes
returns-clause-homes c = λ g. λ h. λ file. λ none. λ le. λ sound. homes_later g h file none le sound
