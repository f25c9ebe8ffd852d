-- A printed answer reads back as itself, whatever free places its lists have.
use Rattle.std.proofs.Common.{◌≡◌, ℕ, ◌-◌, ◌^◌, ◌<◌, ◌&&◌, Bool, true, false, List, [], ◌∷◌, ◌++◌, length, map, Some, None, codes, decimal, refl, lit<, arith}
use Rattle.std.proofs.lemmas.Bool.{le-leb}
use Rattle.std.specs.List.{AllByRecursion}
use Rattle.std.specs.Str.{bytes_eq}
use Rattle.mp_model.specs.declared.ids.TrxName.{TrxName}
use Rattle.mp_model.specs.declared.key_value.KeyValue.{KeyValue}
use Rattle.mp_model.specs.declared.replies.WriteVerb.TheVariants.{Put, Del, Copy}
use Rattle.mp_model.specs.declared.replies.Reply.{Reply}
use Rattle.mp_model.specs.declared.replies.Reply.TheVariants.{Began, Got, Scanned, Wrote, Committed, CommittedNone, Unknown, RolledBack, Conflict, Held, Full, Skipped, Stopped}
use Rattle.mp_model.specs.declared.replies.Answer.{Answer}
use Rattle.mp_report.specs.Answers.{name_word, row_word, reply_words, wait_words, answer_words}
use Rattle.mp_report.specs.Bare.{bare_reply, bare_answer}
use Rattle.mp_report.specs.Readable.{IsStamp, IsPrimary, IsName, IsReply, IsAnswer}
use Rattle.mp_script.specs.SpelledLines.{IsRowInRange}
use Rattle.mp_report.specs.Reading.{read_stamp, read_primary, read_rows, read_names, read_reply, read_waits, read_answer}
use Rattle.mp_report.proofs.WordsRead.{number_read, number_differs, statement_read, row_read}

pub stamp_read : (stamp : ℕ) → IsStamp stamp → read_stamp (decimal stamp) ≡ Some stamp
stamp_read stamp is = number_read 0 (2 ^ 38 - 1) stamp (omega arith) (omega (arith, is)) (omega (arith, is))

pub primary_read : (primary : ℕ) → IsPrimary primary → read_primary (decimal primary) ≡ Some primary
primary_read primary is = number_read 1 8 primary is.0 is.1 (omega (arith, is.1))

rows_read : (rows : List KeyValue) (words : List (List ℕ)) → AllByRecursion IsRowInRange rows → read_rows (length rows) (map row_word rows ++ words) ≡ Some (rows, words)
rows_read [] words are = refl
rows_read (row ∷ rows) words are = rw (row_read row are.0, rows_read rows words are.1) refl

names_read : (names : List TrxName) → AllByRecursion IsName names → read_names (map name_word names) ≡ Some names
names_read [] are = refl
names_read (name ∷ names) are = rw (statement_read name.session name.first are.0, names_read names are.1) refl

waits_read : (names : List TrxName) → AllByRecursion IsName names → read_waits (wait_words names) ≡ Some names
waits_read [] are = refl
waits_read (name ∷ names) are = rw (le-leb 1 (length (map name_word (name ∷ names))) (omega arith), names_read (name ∷ names) are) refl

pub and-false : (b : Bool) → (b && false) ≡ false
and-false true = refl
and-false false = refl

reply_read : (reply : Reply) (names : List TrxName) → IsReply reply → read_reply (reply_words reply ++ wait_words names) ≡ Some (bare_reply reply, wait_words names)
reply_read (Began view) names is = rw (stamp_read view is) refl
reply_read (Got (Some value)) [] is = rw (and-false (bytes_eq value (codes "no")), is) refl
reply_read (Got (Some value)) (name ∷ names) is = rw (and-false (bytes_eq value (codes "no")), is) refl
reply_read (Got None) names is = refl
reply_read (Scanned rows) names is = rw (number_read 0 (2 ^ 64 - 1) (length rows.items) (omega arith) (omega (arith, is.0)) is.0, rows_read rows.items (wait_words names) is.1) refl
reply_read (Wrote Put) names is = refl
reply_read (Wrote Del) names is = refl
reply_read (Wrote Copy) names is = refl
reply_read (Committed cts) names is =
    let small : cts < 2 ^ 64 = omega (arith, is) in
    rw (number_differs 110 (codes "one") cts (lit< tt) small, number_differs 117 (codes "nknown") cts (lit< tt) small, stamp_read cts is) refl
reply_read CommittedNone names is = refl
reply_read (Unknown cts) names is = rw (stamp_read cts is) refl
reply_read RolledBack names is = refl
reply_read (Conflict Put cts) names is = rw (stamp_read cts is) refl
reply_read (Conflict Del cts) names is = rw (stamp_read cts is) refl
reply_read (Conflict Copy cts) names is = rw (stamp_read cts is) refl
reply_read (Held Put name) names is = rw (statement_read name.session name.first is) refl
reply_read (Held Del name) names is = rw (statement_read name.session name.first is) refl
reply_read (Held Copy name) names is = rw (statement_read name.session name.first is) refl
reply_read (Full Put) names is = refl
reply_read (Full Del) names is = refl
reply_read (Full Copy) names is = refl
reply_read Skipped names is = refl
reply_read (Stopped by) names is = rw (primary_read by is) refl

pub answer_read : (answer : Answer) → IsAnswer answer → read_answer (answer_words answer) ≡ Some (bare_answer answer)
answer_read answer is =
    rw (statement_read answer.session answer.index is.statement, reply_read answer.reply answer.waits.items is.reply, waits_read answer.waits.items is.waits) refl
