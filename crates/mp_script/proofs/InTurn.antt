-- Answers to each session's next statement are the answers to its statements in order.
use Rattle.std.proofs.Common.{◌≡◌, ℕ, zero, suc, Bool, true, false, List, [], ◌∷◌, ◌++◌, length, take, Some, refl, sym, ap, ◌∙◌, arith, ◌==◌, if◌then◌else◌}
use Rattle.std.specs.Prelude.{slice_get}
use Rattle.std.proofs.Math.Seq.{take-length}
use Rattle.std.proofs.lemmas.Bool.Decides.{nat_tests}
use Rattle.std.proofs.lemmas.List.{append-nil, append_assoc}
use Rattle.mp_model.specs.declared.replies.Answer.{Answer}
use Rattle.mp_model.specs.declared.transcripts.Part.{Part}
use Rattle.mp_script.specs.Execution.{Execution}
use Rattle.mp_script.specs.Below.{EachBelow, answered, stated}
use Rattle.mp_script.specs.InTheirPart.{belongs, IsNextStatement, LeavesNone, AnswersEachOnce}

-- the item behind a list's front
get_behind : (front rest : List ℕ) (x : ℕ) → slice_get (front ++ x ∷ rest) (length front) ≡ Some x
get_behind [] rest x = refl
get_behind (y ∷ front) rest x = get_behind front rest x

-- one item more of the front
take_more : (xs : List ℕ) (k x : ℕ) → slice_get xs k ≡ Some x → take k xs ++ x ∷ [] ≡ take (suc k) xs
take_more [] k x is = cc
take_more (y ∷ xs) zero x is = cc
take_more (y ∷ xs) (suc k) x is = ap (λ more. y ∷ more) (take_more xs k x is)

answered_append : (session : ℕ) (first more : List Answer) → answered session (first ++ more) ≡ answered session first ++ answered session more
answered_append session [] more = refl
answered_append session (answer ∷ first) more = go (answer.session == session) refl (answered_append session first more)
  where
    go : (b : Bool) → (answer.session == session) ≡ b → answered session (first ++ more) ≡ answered session first ++ answered session more → answered session (answer ∷ first ++ more) ≡ answered session (answer ∷ first) ++ answered session more
    go true e rest = rw e (ap (λ xs. answer.index ∷ xs) rest)
    go false e rest = rw e rest

answered_its : (answer : Answer) (rest : List Answer) → answered answer.session (answer ∷ rest) ≡ answer.index ∷ answered answer.session rest
answered_its answer rest = let same : (answer.session == answer.session) ≡ true = grind (arith, nat_tests) in rw same refl

answered_other : (session : ℕ) (answer : Answer) (rest : List Answer) → (answer.session == session) ≡ false → answered session (answer ∷ rest) ≡ answered session rest
answered_other session answer rest other = rw other refl

not_nil : (front rest : List ℕ) (x : ℕ) → front ++ x ∷ rest ≡ [] → ⊥
not_nil [] rest x is = cc
not_nil (y ∷ front) rest x is = cc

length_more : (xs : List ℕ) (x : ℕ) → length (xs ++ x ∷ []) ≡ suc (length xs)
length_more [] x = refl
length_more (y ∷ xs) x = let e = length_more xs x in omega (arith, e)

module _ (run : Execution) (primary : ℕ) where
  -- an answer that stands in its place is the one to the next statement
  pub once-next : (above rest : List Answer) → ((session : ℕ) → answered session (above ++ rest) ≡ (if belongs run primary session then stated session run.lines else [])) → EachBelow (IsNextStatement run primary) above rest
  once-next above [] once = tt
  once-next above (answer ∷ rest) once = (here (belongs run primary answer.session) refl, once-next (above ++ answer ∷ []) rest (λ session. rw (append_assoc above (answer ∷ []) rest) (once session)))
    where
      split : answered answer.session (above ++ answer ∷ rest) ≡ answered answer.session above ++ answer.index ∷ answered answer.session rest
      split = answered_append answer.session above (answer ∷ rest) ∙ ap (λ more. answered answer.session above ++ more) (answered_its answer rest)

      here : (b : Bool) → belongs run primary answer.session ≡ b → IsNextStatement run primary above answer
      here true e =
          let is : answered answer.session above ++ answer.index ∷ answered answer.session rest ≡ stated answer.session run.lines = sym split ∙ once answer.session ∙ rw e refl in
          record { its_part = e; next = rw (← is) (get_behind (answered answer.session above) (answered answer.session rest) answer.index) }
      here false e = absurd (not_nil (answered answer.session above) (answered answer.session rest) answer.index (sym split ∙ once answer.session ∙ rw e refl))

  -- the other way round, what is answered so far is the front of what is stated
  front : (session : ℕ) (above rest : List Answer) → EachBelow (IsNextStatement run primary) above rest → answered session above ≡ take (length (answered session above)) (stated session run.lines) → answered session (above ++ rest) ≡ take (length (answered session (above ++ rest))) (stated session run.lines)
  front session above [] each so_far = rw (append-nil above) so_far
  front session above (answer ∷ rest) each so_far = rw (← append_assoc above (answer ∷ []) rest) (front session (above ++ answer ∷ []) rest each.1 (here (answer.session == session) refl))
    where
      here : (b : Bool) → (answer.session == session) ≡ b → answered session (above ++ answer ∷ []) ≡ take (length (answered session (above ++ answer ∷ []))) (stated session run.lines)
      here true e =
          let its : answer.session ≡ session = grind (arith, nat_tests) in
          let more : answered session (above ++ answer ∷ []) ≡ answered session above ++ answer.index ∷ [] = answered_append session above (answer ∷ []) ∙ ap (λ xs. answered session above ++ xs) (rw e refl) in
          let next : slice_get (stated session run.lines) (length (answered session above)) ≡ Some answer.index = rw (← its) each.0.next in
          let grown : take (length (answered session above)) (stated session run.lines) ++ answer.index ∷ [] ≡ take (suc (length (answered session above))) (stated session run.lines) = take_more (stated session run.lines) (length (answered session above)) answer.index next in
          rw (more, length_more (answered session above) answer.index) (ap (λ xs. xs ++ answer.index ∷ []) so_far ∙ grown)
      here false e =
          let same : answered session (above ++ answer ∷ []) ≡ answered session above = answered_append session above (answer ∷ []) ∙ ap (λ xs. answered session above ++ xs) (answered_other session answer [] e) ∙ append-nil (answered session above) in
          rw same so_far

  -- and a session of another part has no answer
  none_of : (session : ℕ) (above rest : List Answer) → EachBelow (IsNextStatement run primary) above rest → belongs run primary session ≡ false → answered session rest ≡ []
  none_of session above [] each out = refl
  none_of session above (answer ∷ rest) each out = go (answer.session == session) refl (none_of session (above ++ answer ∷ []) rest each.1 out)
    where
      go : (b : Bool) → (answer.session == session) ≡ b → answered session rest ≡ [] → answered session (answer ∷ rest) ≡ []
      go true e none = absurd (let its : answer.session ≡ session = grind (arith, nat_tests) in clash (rw its at each.0.its_part))
        where
          clash : belongs run primary session ≡ true → ⊥
          clash in_it = cc
      go false e none = answered_other session answer rest e ∙ none

  pub next-once : (answers : List Answer) → EachBelow (IsNextStatement run primary) [] answers → ((session : ℕ) → belongs run primary session ≡ true → length (answered session answers) ≡ length (stated session run.lines)) → (session : ℕ) → answered session answers ≡ (if belongs run primary session then stated session run.lines else [])
  next-once answers each whole session = go (belongs run primary session) refl
    where
      go : (b : Bool) → belongs run primary session ≡ b → answered session answers ≡ (if belongs run primary session then stated session run.lines else [])
      go true e = rw e (front session [] answers each refl ∙ ap (λ n. take n (stated session run.lines)) (whole session e) ∙ take-length (stated session run.lines))
      go false e = rw e (none_of session [] answers each e)

pub once-none_left : (run : Execution) (part : Part) → AnswersEachOnce run part → LeavesNone run part
once-none_left run part once session e = ap length (once session ∙ rw e refl)
