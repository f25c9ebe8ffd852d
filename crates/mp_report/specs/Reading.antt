-- How printed words are read.
use Rattle.std.specs.Prelude.{ℕ, zero, suc, ◌-◌, ◌^◌, ◌==◌, ◌&&◌, nat_le, Bool, false, if◌then◌else◌, List, [], ◌∷◌, length, drop, Option, Some, None, option_and_then, codes, decimal}
use Rattle.std.specs.Str.{bytes_eq}
use Rattle.std.specs.Str.Parse.{digits_value}
use Rattle.mp_model.specs.Values.{is_value}
use Rattle.mp_model.specs.declared.ids.TrxName.{TrxName}
use Rattle.mp_model.specs.declared.key_value.KeyValue.{KeyValue}
use Rattle.mp_model.specs.declared.replies.WriteVerb.{WriteVerb}
use Rattle.mp_model.specs.declared.replies.WriteVerb.TheVariants.{Put, Del, Copy}
use Rattle.mp_model.specs.declared.replies.Reply.{Reply}
use Rattle.mp_model.specs.declared.replies.Reply.TheVariants.{Began, Got, Scanned, Wrote, Committed, CommittedNone, Unknown, RolledBack, Conflict, Held, Full, Skipped, Stopped}
use Rattle.mp_model.specs.declared.replies.Answer.{Answer}
use Rattle.mp_report.specs.Bare.{listed}

infixl 10 ◌>>=◌
abbrev pub ◌>>=◌ : {A B : Type 0} → Option A → (A → Option B) → Option B
o >>= f = option_and_then f o

-- the number from low to high whose decimal text the word is
abbrev pub read_number : ℕ → ℕ → List ℕ → Option ℕ
read_number low high word =
    let number = digits_value 10 word in
    if nat_le low number && (nat_le number high && bytes_eq (decimal number) word) then Some number else None

abbrev pub read_stamp : List ℕ → Option ℕ
read_stamp = read_number 0 (2 ^ 38 - 1)

abbrev pub read_primary : List ℕ → Option ℕ
read_primary = read_number 1 8

-- what stands before and after the first such byte
abbrev pub cut_at : ℕ → List ℕ → Option (List ℕ × List ℕ)
cut_at byte [] = None
cut_at byte (x ∷ xs) = if x == byte then Some ([], xs) else (cut_at byte xs >>= λ parts. Some (x ∷ parts.0, parts.1))

-- a statement, as s2.3
abbrev pub read_statement : List ℕ → Option TrxName
read_statement [] = None
read_statement (x ∷ word) =
    if x == 115 then (cut_at 46 word >>= λ parts.
    read_number 1 64 parts.0 >>= λ session.
    read_number 1 10000 parts.1 >>= λ index.
    Some (record { session = session; first = index })) else None

-- a row, as 7=a
abbrev pub read_row : List ℕ → Option KeyValue
read_row word =
    cut_at 61 word >>= λ parts.
    read_number 0 (2 ^ 32 - 1) parts.0 >>= λ key.
    if is_value parts.1 then Some (record { key = key; value = parts.1 }) else None

-- so many rows, and the words behind them
abbrev pub read_rows : ℕ → List (List ℕ) → Option (List KeyValue × List (List ℕ))
read_rows zero words = Some ([], words)
read_rows (suc count) [] = None
read_rows (suc count) (word ∷ words) =
    read_row word >>= λ row.
    read_rows count words >>= λ rows.
    Some (row ∷ rows.0, rows.1)

-- what each of the words says, where each says something
abbrev pub read_all : {A : Type 0} → (List ℕ → Option A) → List (List ℕ) → Option (List A)
read_all read [] = Some []
read_all read (word ∷ words) =
    read word >>= λ item.
    read_all read words >>= λ items.
    Some (item ∷ items)

-- each of the words, as a transaction
abbrev pub read_names : List (List ℕ) → Option (List TrxName)
read_names words = read_all read_statement words

-- the first of the words is this one
abbrev pub is_first : List ℕ → List (List ℕ) → Bool
is_first first [] = false
is_first first (word ∷ words) = bytes_eq word first

-- the words behind the first, which gives a part of the reply
abbrev pub with_first : {A : Type 0} → (List ℕ → Option A) → (A → Reply) → List (List ℕ) → Option (Reply × List (List ℕ))
with_first read reply [] = None
with_first read reply (word ∷ words) = read word >>= λ part. Some (reply part, words)

-- the words behind this first one
abbrev pub after_word : List ℕ → Reply → List (List ℕ) → Option (Reply × List (List ℕ))
after_word first reply [] = None
after_word first reply (word ∷ words) = if bytes_eq word first then Some (reply, words) else None

abbrev pub read_value : List ℕ → Option (List ℕ)
read_value word = if is_value word then Some word else None

-- what a `get` found
abbrev pub read_found : List (List ℕ) → Option (Reply × List (List ℕ))
read_found words =
    if is_first (codes "no") words && is_first (codes "row") (drop 1 words) then Some (Got None, drop 2 words)
    else with_first read_value (λ value. Got (Some value)) words

-- the rows of a `scan`
abbrev pub read_scan : List (List ℕ) → Option (Reply × List (List ℕ))
read_scan [] = None
read_scan (word ∷ words) =
    read_number 0 (2 ^ 64 - 1) word >>= λ count.
    read_rows count words >>= λ rows.
    Some (Scanned (listed rows.0), rows.1)

-- how a `commit` ended
abbrev pub read_commit : List (List ℕ) → Option (Reply × List (List ℕ))
read_commit words =
    if is_first (codes "none") words then Some (CommittedNone, drop 1 words)
    else (if is_first (codes "unknown") words then with_first read_stamp Unknown (drop 1 words) else with_first read_stamp Committed words)

abbrev pub read_verb : List ℕ → Option WriteVerb
read_verb word =
    if bytes_eq word (codes "put") then Some Put
    else (if bytes_eq word (codes "del") then Some Del else (if bytes_eq word (codes "copy") then Some Copy else None))

-- how a write ended
abbrev pub read_write : WriteVerb → List (List ℕ) → Option (Reply × List (List ℕ))
read_write verb words =
    if is_first (codes "ok") words then Some (Wrote verb, drop 1 words)
    else (if is_first (codes "conflict") words then with_first read_stamp (Conflict verb) (drop 1 words)
    else (if is_first (codes "held") words then with_first read_statement (Held verb) (drop 1 words)
    else (if is_first (codes "full") words then after_word (codes "4096") (Full verb) (drop 1 words) else None)))

-- a reply that begins with none of `begin`, `get`, `scan` and `commit`, and the words behind it
abbrev pub read_other : List ℕ → List (List ℕ) → Option (Reply × List (List ℕ))
read_other word words =
    if bytes_eq word (codes "rollback") then after_word (codes "ok") RolledBack words
    else (if bytes_eq word (codes "skipped") then Some (Skipped, words)
    else (if bytes_eq word (codes "stopped") then with_first read_primary Stopped words
    else (read_verb word >>= λ verb. read_write verb words)))

-- a reply and the words behind it
abbrev pub read_reply : List (List ℕ) → Option (Reply × List (List ℕ))
read_reply [] = None
read_reply (word ∷ words) =
    if bytes_eq word (codes "begin") then with_first read_stamp Began words
    else (if bytes_eq word (codes "get") then read_found words
    else (if bytes_eq word (codes "scan") then read_scan words
    else (if bytes_eq word (codes "commit") then read_commit words
    else (read_other word words))))

-- the transactions that a statement waited for
abbrev pub read_waits : List (List ℕ) → Option (List TrxName)
read_waits [] = Some []
read_waits (word ∷ words) = if bytes_eq word (codes "after") && nat_le 1 (length words) then read_names words else None

-- an answer
abbrev pub read_answer : List (List ℕ) → Option Answer
read_answer [] = None
read_answer (word ∷ words) =
    read_statement word >>= λ statement.
    read_reply words >>= λ reply.
    read_waits reply.1 >>= λ waits.
    Some (record { session = statement.session; index = statement.first; reply = reply.0; waits = listed waits })
