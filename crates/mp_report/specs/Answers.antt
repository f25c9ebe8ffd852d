-- How an answer is printed.
use Rattle.std.specs.Prelude.{ℕ, List, [], ◌∷◌, ◌++◌, length, map, Option, Some, None, codes, decimal}
use Rattle.mp_model.specs.declared.ids.TrxName.{TrxName}
use Rattle.mp_model.specs.declared.key_value.KeyValue.{KeyValue}
use Rattle.mp_model.specs.declared.replies.WriteVerb.{WriteVerb}
use Rattle.mp_model.specs.declared.replies.WriteVerb.TheVariants.{Put, Del, Copy}
use Rattle.mp_model.specs.declared.replies.Reply.{Reply}
use Rattle.mp_model.specs.declared.replies.Reply.TheVariants.{Began, Got, Scanned, Wrote, Committed, CommittedNone, Unknown, RolledBack, Conflict, Held, Full, Skipped, Stopped}
use Rattle.mp_model.specs.declared.replies.Answer.{Answer}

-- a statement by its session and its number there, as s2.3
abbrev pub statement_word : ℕ → ℕ → List ℕ
statement_word session index = codes "s" ++ (decimal session ++ (codes "." ++ decimal index))

-- a transaction, by its `begin`
abbrev pub name_word : TrxName → List ℕ
name_word name = statement_word name.session name.first

-- a row, as 7=a
abbrev pub row_word : KeyValue → List ℕ
row_word row = decimal row.key ++ (codes "=" ++ row.value)

abbrev pub verb_word : WriteVerb → List ℕ
verb_word Put = codes "put"
verb_word Del = codes "del"
verb_word Copy = codes "copy"

-- the words of a reply
abbrev pub reply_words : Reply → List (List ℕ)
reply_words (Began view) = codes "begin" ∷ decimal view ∷ []
reply_words (Got value) = codes "get" ∷ found value
  where
    found : Option (List ℕ) → List (List ℕ)
    found (Some value) = value ∷ []
    found None = codes "no" ∷ codes "row" ∷ []
reply_words (Scanned rows) = codes "scan" ∷ decimal (length rows.items) ∷ map row_word rows.items
reply_words (Wrote verb) = verb_word verb ∷ codes "ok" ∷ []
reply_words (Committed cts) = codes "commit" ∷ decimal cts ∷ []
reply_words CommittedNone = codes "commit" ∷ codes "none" ∷ []
reply_words (Unknown cts) = codes "commit" ∷ codes "unknown" ∷ decimal cts ∷ []
reply_words RolledBack = codes "rollback" ∷ codes "ok" ∷ []
reply_words (Conflict verb cts) = verb_word verb ∷ codes "conflict" ∷ decimal cts ∷ []
reply_words (Held verb name) = verb_word verb ∷ codes "held" ∷ name_word name ∷ []
reply_words (Full verb) = verb_word verb ∷ codes "full" ∷ codes "4096" ∷ []
reply_words Skipped = codes "skipped" ∷ []
reply_words (Stopped by) = codes "stopped" ∷ decimal by ∷ []

-- the transactions that a statement waited for, if any
abbrev pub wait_words : List TrxName → List (List ℕ)
wait_words [] = []
wait_words (name ∷ names) = codes "after" ∷ map name_word (name ∷ names)

-- the words of an answer
abbrev pub answer_words : Answer → List (List ℕ)
answer_words answer = statement_word answer.session answer.index ∷ (reply_words answer.reply ++ wait_words answer.waits.items)
