-- Each line of a transcript is words, which have no byte at or below the space.
use Rattle.std.proofs.Common.{◌≡◌, ◌∙◌, ℕ, ◌^◌, ◌<◌, ◌&&◌, nat_le, true, List, [], ◌∷◌, ◌++◌, length, map, Some, None, codes, decimal, refl, arith}
use Rattle.std.proofs.lemmas.Bool.{and_parts, and_from, le-leb}
use Rattle.std.proofs.lemmas.List.Folds.{list_all-append}
use Rattle.std.proofs.lemmas.Fmt.{decimal_is_IsNumeral}
use Rattle.std.proofs.lemmas.Str.Parse.{digit_from_value}
use Rattle.std.specs.List.{AllByRecursion, list_all}
use Rattle.std.specs.Str.Parse.{AllDigits}
use Rattle.mp_model.specs.Values.{is_value, is_value_byte}
use Rattle.mp_model.specs.declared.ids.TrxName.{TrxName}
use Rattle.mp_model.specs.declared.key_value.KeyValue.{KeyValue}
use Rattle.mp_model.specs.declared.replies.WriteVerb.TheVariants.{Put, Del, Copy}
use Rattle.mp_model.specs.declared.replies.Reply.{Reply}
use Rattle.mp_model.specs.declared.replies.Reply.TheVariants.{Began, Got, Scanned, Wrote, Committed, CommittedNone, Unknown, RolledBack, Conflict, Held, Full, Skipped, Stopped}
use Rattle.mp_model.specs.declared.replies.Answer.{Answer}
use Rattle.mp_report.specs.Answers.{statement_word, name_word, row_word, reply_words, wait_words, answer_words}
use Rattle.mp_report.specs.Readable.{IsStamp, IsStatement, IsName, IsReply, IsAnswer}
use Rattle.mp_script.specs.SpelledLines.{IsRowInRange}
use Rattle.mp_report.proofs.LinesCut.{is_word, is_line}

digits_word : (ds : List ℕ) → AllDigits 10 ds → is_word ds ≡ true
digits_word [] digits = refl
digits_word (d ∷ ds) digits = and_from (nat_le 33 d) (is_word ds) (le-leb 33 d (omega (arith, digit_from_value d digits.0))) (digits_word ds digits.1)

pub number_word : (n : ℕ) → n < 2 ^ 64 → is_word (decimal n) ≡ true
number_word n small = digits_word (decimal n) (decimal_is_IsNumeral n small).0.1

value_bytes : (bytes : List ℕ) → list_all is_value_byte bytes ≡ true → is_word bytes ≡ true
value_bytes [] are = refl
value_bytes (b ∷ bytes) are =
    let parts = and_parts (is_value_byte b) (list_all is_value_byte bytes) are in
    and_from (nat_le 33 b) (is_word bytes) (and_parts (nat_le 33 b) (nat_le b 126) parts.0).0 (value_bytes bytes parts.1)

value_word : (bytes : List ℕ) → is_value bytes ≡ true → is_word bytes ≡ true
value_word bytes is = value_bytes bytes (and_parts (nat_le 1 (length bytes) && nat_le (length bytes) 32) (list_all is_value_byte bytes) is).1

joined_word : (front back : List ℕ) → is_word front ≡ true → is_word back ≡ true → is_word (front ++ back) ≡ true
joined_word front back left right = list_all-append (λ b. nat_le 33 b) front back ∙ and_from (is_word front) (is_word back) left right

statement_is_word : (session index : ℕ) → IsStatement session index → is_word (statement_word session index) ≡ true
statement_is_word session index is =
    joined_word (decimal session) (codes "." ++ decimal index) (number_word session (omega (arith, is.most_sessions))) (number_word index (omega (arith, is.most_statements)))

row_is_word : (row : KeyValue) → IsRowInRange row → is_word (row_word row) ≡ true
row_is_word row is = joined_word (decimal row.key) (codes "=" ++ row.value) (number_word row.key (omega (arith, is.key))) (value_word row.value is.value)

names_are_words : (names : List TrxName) → AllByRecursion IsName names → list_all is_word (map name_word names) ≡ true
names_are_words [] are = refl
names_are_words (name ∷ names) are = and_from (is_word (name_word name)) (list_all is_word (map name_word names)) (statement_is_word name.session name.first are.0) (names_are_words names are.1)

rows_are_words : (rows : List KeyValue) → AllByRecursion IsRowInRange rows → list_all is_word (map row_word rows) ≡ true
rows_are_words [] are = refl
rows_are_words (row ∷ rows) are = and_from (is_word (row_word row)) (list_all is_word (map row_word rows)) (row_is_word row are.0) (rows_are_words rows are.1)

waits_are_words : (names : List TrxName) → AllByRecursion IsName names → list_all is_word (wait_words names) ≡ true
waits_are_words [] are = refl
waits_are_words (name ∷ names) are = names_are_words (name ∷ names) are

stamp_word : (stamp : ℕ) → IsStamp stamp → is_word (decimal stamp) ≡ true
stamp_word stamp is = number_word stamp (omega (arith, is))

reply_is_words : (reply : Reply) → IsReply reply → list_all is_word (reply_words reply) ≡ true
reply_is_words (Began view) is = rw (stamp_word view is) refl
reply_is_words (Got (Some value)) is = rw (value_word value is) refl
reply_is_words (Got None) is = refl
reply_is_words (Scanned rows) is = rw (number_word (length rows.items) is.0) (rows_are_words rows.items is.1)
reply_is_words (Wrote Put) is = refl
reply_is_words (Wrote Del) is = refl
reply_is_words (Wrote Copy) is = refl
reply_is_words (Committed cts) is = rw (stamp_word cts is) refl
reply_is_words CommittedNone is = refl
reply_is_words (Unknown cts) is = rw (stamp_word cts is) refl
reply_is_words RolledBack is = refl
reply_is_words (Conflict Put cts) is = rw (stamp_word cts is) refl
reply_is_words (Conflict Del cts) is = rw (stamp_word cts is) refl
reply_is_words (Conflict Copy cts) is = rw (stamp_word cts is) refl
reply_is_words (Held Put name) is = rw (statement_is_word name.session name.first is) refl
reply_is_words (Held Del name) is = rw (statement_is_word name.session name.first is) refl
reply_is_words (Held Copy name) is = rw (statement_is_word name.session name.first is) refl
reply_is_words (Full Put) is = refl
reply_is_words (Full Del) is = refl
reply_is_words (Full Copy) is = refl
reply_is_words Skipped is = refl
reply_is_words (Stopped by) is = rw (number_word by (omega (arith, is.1))) refl

pub answer_is_line : (answer : Answer) → IsAnswer answer → is_line (answer_words answer) ≡ true
answer_is_line answer is =
    and_from (is_word (statement_word answer.session answer.index)) _ (statement_is_word answer.session answer.index is.statement)
    (list_all-append is_word (reply_words answer.reply) (wait_words answer.waits.items)
    ∙ and_from _ _ (reply_is_words answer.reply is.reply) (waits_are_words answer.waits.items is.waits))
