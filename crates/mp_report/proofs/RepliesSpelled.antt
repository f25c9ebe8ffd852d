-- An answer or a line that is read is the text of what was read.
use Rattle.std.proofs.Common.{◌≡◌, ◌∙◌, ℕ, ◌-◌, ◌^◌, inl, inr, ◌&&◌, nat_le, true, false, List, [], ◌∷◌, ◌++◌, append_assoc, drop-drop, length, drop, map, Option, Some, None, codes, decimal, refl, sym, ap, subst, arith}
use Rattle.std.proofs.lemmas.Bool.{and_parts}
use Rattle.std.specs.List.{AllByRecursion}
use Rattle.std.specs.Str.{bytes_eq}
use Rattle.mp_model.specs.Values.{is_value}
use Rattle.mp_model.specs.declared.ids.TrxName.{TrxName}
use Rattle.mp_model.specs.declared.replies.WriteVerb.{WriteVerb}
use Rattle.mp_model.specs.declared.replies.Reply.{Reply}
use Rattle.mp_model.specs.declared.replies.Reply.TheVariants.{Began, Got, Scanned, Wrote, Committed, CommittedNone, Unknown, RolledBack, Conflict, Held, Full, Skipped, Stopped}
use Rattle.mp_model.specs.declared.replies.Answer.{Answer}
use Rattle.mp_report.specs.Answers.{name_word, verb_word, reply_words, wait_words, answer_words}
use Rattle.mp_report.specs.Bare.{listed}
use Rattle.mp_report.specs.Readable.{IsStamp, IsPrimary, IsName, IsReply, IsAnswer}
use Rattle.mp_report.specs.Reading.{read_number, read_stamp, read_primary, read_statement, read_rows, is_first, with_first, after_word, read_value, read_found, read_scan, read_commit, read_verb, read_write, read_reply, read_waits, read_answer}
use Rattle.mp_report.proofs.RepliesRead.{and-false}
use Rattle.mp_report.proofs.WordsSpelled.{same_from_bytes, if_some, if_cases, if_then, some_inj, then_some, number_spelled, statement_spelled, names_spelled, rows_spelled}

-- the words, of which the first is given, are those of a reply and those behind it
pub record Spells (words : List (List ℕ)) (found : Reply × List (List ℕ)) : Type 0 where
  pub spelled : words ≡ reply_words found.0 ++ found.1
  pub is : IsReply found.0

pub stamp_spelled : (word : List ℕ) (stamp : ℕ) → read_stamp word ≡ Some stamp → (decimal stamp ≡ word) × IsStamp stamp
stamp_spelled word stamp e = let n = number_spelled 0 (2 ^ 38 - 1) word stamp e in (n.spelled, omega (arith, n.most))

pub primary_spelled : (word : List ℕ) (primary : ℕ) → read_primary word ≡ Some primary → (decimal primary ≡ word) × IsPrimary primary
primary_spelled word primary e = let n = number_spelled 1 8 word primary e in (n.spelled, (n.least, n.most))

-- the words begin with this one
first_is : (first : List ℕ) (words : List (List ℕ)) → is_first first words ≡ true → words ≡ first ∷ drop 1 words
first_is first [] e = let no : false ≡ true = e in cc
first_is first (word ∷ words) e = ap (λ w. w ∷ words) (same_from_bytes word first e)

-- a reply of the words in front, whose last word says one thing
with_spelled : {A : Type 0} (read : List ℕ → Option A) (reply : A → Reply) (front : List (List ℕ)) (show : A → List ℕ) (words : List (List ℕ)) (found : Reply × List (List ℕ))
    → ((word : List ℕ) (x : A) → read word ≡ Some x → (show x ≡ word) × IsReply (reply x)) → ((x : A) → reply_words (reply x) ≡ front ++ show x ∷ [])
    → with_first read reply words ≡ Some found → Spells (front ++ words) found
with_spelled read reply front show [] found each text e = absurd (let no : None ≡ Some found = e in cc)
with_spelled read reply front show (word ∷ words) found each text e =
    let one = then_some (read word) _ found e in
    let is = each word one.0 one.1 in
    subst (Spells (front ++ word ∷ words)) (some_inj _ _ one.2)
    (record { spelled = rw (text one.0, append_assoc front (show one.0 ∷ []) words, is.0) refl; is = is.1 })

verb_spelled : (word : List ℕ) (verb : WriteVerb) → read_verb word ≡ Some verb → verb_word verb ≡ word
verb_spelled word verb e =
    elim (if_cases (bytes_eq word (codes "put")) _ _ verb e) [
      | inl put ↦ subst (λ (v : WriteVerb). verb_word v ≡ word) (some_inj _ _ put.1) (sym (same_from_bytes word (codes "put") put.0))
      | inr other ↦ elim (if_cases (bytes_eq word (codes "del")) _ _ verb other.1) [
        | inl del ↦ subst (λ (v : WriteVerb). verb_word v ≡ word) (some_inj _ _ del.1) (sym (same_from_bytes word (codes "del") del.0))
        | inr third ↦ let copy = if_some (bytes_eq word (codes "copy")) _ verb third.1 in subst (λ (v : WriteVerb). verb_word v ≡ word) copy.1 (sym (same_from_bytes word (codes "copy") copy.0))
      ]
    ]

-- a reply of given words alone
plain_spelled : (words rest : List (List ℕ)) (reply : Reply) (found : Reply × List (List ℕ)) → words ≡ reply_words reply ++ rest → IsReply reply → Some (reply, rest) ≡ Some found → Spells words found
plain_spelled words rest reply found same is e = subst (Spells words) (some_inj _ _ e) (record { spelled = same; is = is })

after_spelled : (first : List ℕ) (reply : Reply) (front words : List (List ℕ)) (found : Reply × List (List ℕ))
    → reply_words reply ≡ front ++ first ∷ [] → IsReply reply → after_word first reply words ≡ Some found → Spells (front ++ words) found
after_spelled first reply front [] found text is e = absurd (let no : None ≡ Some found = e in cc)
after_spelled first reply front (word ∷ words) found text is e =
    let one = if_then (bytes_eq word first) (Some (reply, words)) found e in
    plain_spelled (front ++ word ∷ words) words reply found (rw (text, append_assoc front (first ∷ []) words, same_from_bytes word first one.0) refl) is one.1

value_spelled : (word value : List ℕ) → read_value word ≡ Some value → (value ≡ word) × (is_value value ≡ true)
value_spelled word value e = let one = if_some (is_value word) word value e in (sym one.1, subst (λ v. is_value v ≡ true) one.1 one.0)

found_spelled : (words : List (List ℕ)) (found : Reply × List (List ℕ)) → read_found words ≡ Some found → Spells (codes "get" ∷ words) found
found_spelled words found e =
    elim (if_cases (is_first (codes "no") words && is_first (codes "row") (drop 1 words)) _ _ found e) [
      | inl none ↦
          let tests = and_parts (is_first (codes "no") words) (is_first (codes "row") (drop 1 words)) none.0 in
          plain_spelled (codes "get" ∷ words) (drop 2 words) (Got None) found
          (ap (λ ws. codes "get" ∷ ws) (first_is (codes "no") words tests.0)
          ∙ ap (λ ws. codes "get" ∷ codes "no" ∷ ws) (first_is (codes "row") (drop 1 words) tests.1)
          ∙ ap (λ ws. codes "get" ∷ codes "no" ∷ codes "row" ∷ ws) (drop-drop 1 1 words)) tt none.1
      | inr some ↦ with_spelled read_value (λ value. Got (Some value)) (codes "get" ∷ []) (λ value. value) words found value_spelled (λ x. refl) some.1
    ]

scan_spelled : (words : List (List ℕ)) (found : Reply × List (List ℕ)) → read_scan words ≡ Some found → Spells (codes "scan" ∷ words) found
scan_spelled [] found e = absurd (let no : None ≡ Some found = e in cc)
scan_spelled (word ∷ words) found e =
    let count = then_some (read_number 0 (2 ^ 64 - 1) word) _ found e in
    let rows = then_some (read_rows count.0 words) _ found count.2 in
    let n = number_spelled 0 (2 ^ 64 - 1) word count.0 count.1 in
    let r = rows_spelled count.0 words rows.0 rows.1 in
    plain_spelled (codes "scan" ∷ word ∷ words) rows.0.1 (Scanned (listed rows.0.0)) found
    (ap (λ w. codes "scan" ∷ w ∷ words) (sym n.spelled ∙ ap decimal (sym r.count_is)) ∙ ap (λ ws. codes "scan" ∷ decimal (length rows.0.0) ∷ ws) r.spelled)
    (omega (arith, n.most, r.count_is), r.are) rows.2

commit_spelled : (words : List (List ℕ)) (found : Reply × List (List ℕ)) → read_commit words ≡ Some found → Spells (codes "commit" ∷ words) found
commit_spelled words found e =
    elim (if_cases (is_first (codes "none") words) _ _ found e) [
      | inl none ↦ plain_spelled (codes "commit" ∷ words) (drop 1 words) CommittedNone found (ap (λ ws. codes "commit" ∷ ws) (first_is (codes "none") words none.0)) tt none.1
      | inr other ↦ elim (if_cases (is_first (codes "unknown") words) _ _ found other.1) [
        | inl unknown ↦ rw (first_is (codes "unknown") words unknown.0)
            (with_spelled read_stamp Unknown (codes "commit" ∷ codes "unknown" ∷ []) decimal (drop 1 words) found stamp_spelled (λ x. refl) unknown.1)
        | inr known ↦ with_spelled read_stamp Committed (codes "commit" ∷ []) decimal words found stamp_spelled (λ x. refl) known.1
      ]
    ]

write_spelled : (verb : WriteVerb) (words : List (List ℕ)) (found : Reply × List (List ℕ)) → read_write verb words ≡ Some found → Spells (verb_word verb ∷ words) found
write_spelled verb words found e =
    elim (if_cases (is_first (codes "ok") words) _ _ found e) [
      | inl ok ↦ plain_spelled (verb_word verb ∷ words) (drop 1 words) (Wrote verb) found (ap (λ ws. verb_word verb ∷ ws) (first_is (codes "ok") words ok.0)) tt ok.1
      | inr other ↦ elim (if_cases (is_first (codes "conflict") words) _ _ found other.1) [
        | inl conflict ↦ rw (first_is (codes "conflict") words conflict.0)
            (with_spelled read_stamp (Conflict verb) (verb_word verb ∷ codes "conflict" ∷ []) decimal (drop 1 words) found stamp_spelled (λ x. refl) conflict.1)
        | inr third ↦ elim (if_cases (is_first (codes "held") words) _ _ found third.1) [
          | inl held ↦ rw (first_is (codes "held") words held.0)
              (with_spelled read_statement (Held verb) (verb_word verb ∷ codes "held" ∷ []) name_word (drop 1 words) found statement_spelled (λ x. refl) held.1)
          | inr fourth ↦
              let full = if_then (is_first (codes "full") words) _ found fourth.1 in
              rw (first_is (codes "full") words full.0)
              (after_spelled (codes "4096") (Full verb) (verb_word verb ∷ codes "full" ∷ []) (drop 1 words) found refl tt full.1)
        ]
      ]
    ]

reply_spelled : (words : List (List ℕ)) (found : Reply × List (List ℕ)) → read_reply words ≡ Some found → Spells words found
reply_spelled [] found e = absurd (let no : None ≡ Some found = e in cc)
reply_spelled (word ∷ words) found e =
    elim (if_cases (bytes_eq word (codes "begin")) _ _ found e) [
      | inl is ↦ rw (same_from_bytes word (codes "begin") is.0) (with_spelled read_stamp Began (codes "begin" ∷ []) decimal words found stamp_spelled (λ x. refl) is.1)
      | inr e1 ↦ elim (if_cases (bytes_eq word (codes "get")) _ _ found e1.1) [
        | inl is ↦ rw (same_from_bytes word (codes "get") is.0) (found_spelled words found is.1)
        | inr e2 ↦ elim (if_cases (bytes_eq word (codes "scan")) _ _ found e2.1) [
          | inl is ↦ rw (same_from_bytes word (codes "scan") is.0) (scan_spelled words found is.1)
          | inr e3 ↦ elim (if_cases (bytes_eq word (codes "commit")) _ _ found e3.1) [
            | inl is ↦ rw (same_from_bytes word (codes "commit") is.0) (commit_spelled words found is.1)
            | inr e4 ↦ elim (if_cases (bytes_eq word (codes "rollback")) _ _ found e4.1) [
              | inl is ↦ rw (same_from_bytes word (codes "rollback") is.0) (after_spelled (codes "ok") RolledBack (codes "rollback" ∷ []) words found refl tt is.1)
              | inr e5 ↦ elim (if_cases (bytes_eq word (codes "skipped")) _ _ found e5.1) [
                | inl is ↦ plain_spelled (word ∷ words) words Skipped found (ap (λ w. w ∷ words) (same_from_bytes word (codes "skipped") is.0)) tt is.1
                | inr e6 ↦ elim (if_cases (bytes_eq word (codes "stopped")) _ _ found e6.1) [
                  | inl is ↦ rw (same_from_bytes word (codes "stopped") is.0) (with_spelled read_primary Stopped (codes "stopped" ∷ []) decimal words found primary_spelled (λ x. refl) is.1)
                  | inr e7 ↦
                      let verb = then_some (read_verb word) _ found e7.1 in
                      rw (← verb_spelled word verb.0 verb.1) (write_spelled verb.0 words found verb.2)
                ]
              ]
            ]
          ]
        ]
      ]
    ]

after_names : (names : List TrxName) (first : List ℕ) (words : List (List ℕ)) → map name_word names ≡ first ∷ words → wait_words names ≡ codes "after" ∷ first ∷ words
after_names [] first words e = let no : [] ≡ first ∷ words = e in cc
after_names (name ∷ names) first words e = ap (λ ws. codes "after" ∷ ws) e

waits_spelled : (words : List (List ℕ)) (names : List TrxName) → read_waits words ≡ Some names → (wait_words names ≡ words) × AllByRecursion IsName names
waits_spelled [] names e = subst (λ (ns : List TrxName). (wait_words ns ≡ []) × AllByRecursion IsName ns) (some_inj _ _ e) (refl, tt)
waits_spelled (word ∷ []) names e = let one = if_then (bytes_eq word (codes "after") && false) _ names e in absurd (let no : true ≡ false = sym one.0 ∙ and-false (bytes_eq word (codes "after")) in cc)
waits_spelled (word ∷ first ∷ words) names e =
    let one = if_then (bytes_eq word (codes "after") && nat_le 1 (length (first ∷ words))) _ names e in
    let tests = and_parts (bytes_eq word (codes "after")) (nat_le 1 (length (first ∷ words))) one.0 in
    let are = names_spelled (first ∷ words) names one.1 in
    (rw (same_from_bytes word (codes "after") tests.0) (after_names names first words are.0), are.1)

pub answer_spelled : (words : List (List ℕ)) (answer : Answer) → read_answer words ≡ Some answer → (answer_words answer ≡ words) × IsAnswer answer
answer_spelled [] answer e = absurd (let no : None ≡ Some answer = e in cc)
answer_spelled (word ∷ words) answer e =
    let statement = then_some (read_statement word) _ answer e in
    let reply = then_some (read_reply words) _ answer statement.2 in
    let waits = then_some (read_waits reply.0.1) _ answer reply.2 in
    let s = statement_spelled word statement.0 statement.1 in
    let r = reply_spelled words reply.0 reply.1 in
    let w = waits_spelled reply.0.1 waits.0 waits.1 in
    subst (λ (a : Answer). (answer_words a ≡ word ∷ words) × IsAnswer a) (some_inj _ _ waits.2) (
      ap (λ v. v ∷ (reply_words reply.0.0 ++ wait_words waits.0)) s.0 ∙ ap (λ ws. word ∷ (reply_words reply.0.0 ++ ws)) w.0 ∙ ap (λ ws. word ∷ ws) (sym r.spelled),
      record { statement = s.1; reply = r.is; waits = w.1 },
    )
