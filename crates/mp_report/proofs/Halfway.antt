-- Of a text that is read line by line, what was read and what is left are the whole, and the first fault lies in what is left.
use Rattle.std.proofs.Common.{◌≡◌, ◌∙◌, ℕ, ◌+◌, ◌-◌, ◌<◌, ◌≤◌, ◌==◌, ◌&&◌, nat_le, Bool, true, false, if◌then◌else◌, inl, inr, List, [], ◌∷◌, ◌++◌, length, Option, Some, None, refl, sym, ap, subst, append_assoc, append-nil, length-append, lit≤, arith}
use Rattle.std.proofs.lemmas.Bool.{eqb-true}
use Rattle.std.proofs.lemmas.List.Splits.{length-slice_split}
use Rattle.std.specs.Option.{option_and_then}
use Rattle.std.specs.List.{slice_split}
use Rattle.mp_report.specs.declared.read.lines.Line.{Line}
use Rattle.mp_report.specs.declared.read.lines.Line.TheVariants.{Head, Primary, Answered, WentDown, End}
use Rattle.mp_model.specs.declared.transcripts.Mode.TheVariants.{Step, Run}
use Rattle.mp_report.specs.declared.read.stands.Stand.{Stand}
use Rattle.mp_report.specs.declared.read.stands.Stand.TheVariants.{Top, Opened, Among, Downs, Ended}
use Rattle.mp_report.specs.Readable.{is_commit}
use Rattle.mp_report.specs.Reading.{◌>>=◌, cut_at}
use Rattle.mp_report.specs.ReadingLines.{words_of, read_line}
use Rattle.mp_report.specs.Grammar.{allowed, commits_at, next_stand, is_ended, fault_at, fault_in, transcript_fault}
use Rattle.mp_report.specs.Drafts.{TranscriptSaid, nothing, ReadsLines}
use Rattle.mp_report.proofs.WordsSpelled.{if_cases, if_then, some_inj, then_some, cut_spelled}

pub record Halfway (bytes : List ℕ) (stand : Stand) (said : TranscriptSaid) (rest : List ℕ) : Type 0 where
  pub above : List ℕ
  pub joined : above ++ rest ≡ bytes
  pub reads : ReadsLines stand said above
  pub fault : fault_in stand (length above) (slice_split (λ b. b == 10) rest) ≡ transcript_fault bytes
  pub room : commits_at stand ≤ length above

pub halfway_start : (bytes : List ℕ) (stand : Stand) (said : TranscriptSaid) → stand ≡ Top → said ≡ nothing → Halfway bytes stand said bytes
halfway_start bytes stand said behind_head none =
    subst (λ (s : Stand). Halfway bytes s said bytes) (sym behind_head)
    (record { above = []; joined = refl; reads = (none, refl); fault = refl; room = lit≤ tt })

-- a cut at a byte is where the text is split first
cut_split : (byte : ℕ) (word : List ℕ) (parts : List ℕ × List ℕ) → cut_at byte word ≡ Some parts → slice_split (λ b. b == byte) word ≡ parts.0 ∷ slice_split (λ b. b == byte) parts.1
cut_split byte [] parts e = absurd (let no : None ≡ Some parts = e in cc)
cut_split byte (x ∷ word) parts e =
    elim (if_cases (x == byte) (Some ([], word)) (cut_at byte word >>= λ rest. Some (x ∷ rest.0, rest.1)) parts e) [
      | inl here ↦ rw here.0 (ap (λ (p : List ℕ × List ℕ). p.0 ∷ slice_split (λ b. b == byte) p.1) (some_inj _ _ here.1))
      | inr later ↦
          let step = then_some (cut_at byte word) (λ rest. Some (x ∷ rest.0, rest.1)) parts later.1 in
          rw (later.0, cut_split byte word step.0 step.1) (ap (λ (p : List ℕ × List ℕ). p.0 ∷ slice_split (λ b. b == byte) p.1) (some_inj _ _ step.2))
    ]

if_none : {A : Type 0} (b : Bool) (x : A) (o : Option A) → (if b then Some x else o) ≡ None → (b ≡ false) × (o ≡ None)
if_none true x o e = absurd (let no : Some x ≡ None = e in cc)
if_none false x o e = (refl, e)

then_none : (x : ℕ) (o : Option (List ℕ × List ℕ)) → option_and_then {T = List ℕ × List ℕ} {U = List ℕ × List ℕ} (λ rest. Some (x ∷ rest.0, rest.1)) o ≡ None → o ≡ None
then_none x None e = refl
then_none x (Some parts) e = absurd (let no : Some (x ∷ parts.0, parts.1) ≡ None = e in cc)

-- a text without the byte is one piece
uncut_split : (byte : ℕ) (word : List ℕ) → cut_at byte word ≡ None → slice_split (λ b. b == byte) word ≡ word ∷ []
uncut_split byte [] e = refl
uncut_split byte (x ∷ word) e =
    let later = if_none (x == byte) ([], word) _ e in
    rw (later.0, uncut_split byte word (then_none x (cut_at byte word) later.1)) refl

one_more : (b : Bool) (c : ℕ) → (if b then c + 1 else c) ≤ c + 1
one_more true c = omega arith
one_more false c = omega arith

-- a line counts one commit at most
commits_step : (stand next : Stand) (l : Line) → allowed stand l ≡ Some next → commits_at next ≤ commits_at stand + 1
commits_step Top next (Head Step base) e = subst (λ (n : Stand). commits_at n ≤ 0 + 1) (some_inj _ _ e) (lit≤ tt)
commits_step Top next (Head Run base) e = subst (λ (n : Stand). commits_at n ≤ 0 + 1) (some_inj _ _ e) (lit≤ tt)
commits_step Top next (Primary n) e = absurd (let no : None ≡ Some next = e in cc)
commits_step Top next (Answered answer) e = absurd (let no : None ≡ Some next = e in cc)
commits_step Top next (WentDown down) e = absurd (let no : None ≡ Some next = e in cc)
commits_step Top next (End count) e = absurd (let no : None ≡ Some next = e in cc)
commits_step Opened next (Head mode base) e = absurd (let no : None ≡ Some next = e in cc)
commits_step Opened next (Primary n) e = subst (λ (n : Stand). commits_at n ≤ 0 + 1) (some_inj _ _ (if_then (n == 1) _ next e).1) (lit≤ tt)
commits_step Opened next (Answered answer) e = absurd (let no : None ≡ Some next = e in cc)
commits_step Opened next (WentDown down) e = absurd (let no : None ≡ Some next = e in cc)
commits_step Opened next (End count) e = absurd (let no : None ≡ Some next = e in cc)
commits_step (Among primary c) next (Head mode base) e = absurd (let no : None ≡ Some next = e in cc)
commits_step (Among primary c) next (Primary n) e = subst (λ (n : Stand). commits_at n ≤ c + 1) (some_inj _ _ (if_then (nat_le 1 primary && n == primary + 1) _ next e).1) (omega arith)
commits_step (Among primary c) next (Answered answer) e = subst (λ (n : Stand). commits_at n ≤ c + 1) (some_inj _ _ e) (one_more (is_commit answer.reply) c)
commits_step (Among primary c) next (WentDown down) e = subst (λ (n : Stand). commits_at n ≤ c + 1) (some_inj _ _ e) (omega arith)
commits_step (Among primary c) next (End count) e = subst (λ (n : Stand). commits_at n ≤ c + 1) (some_inj _ _ (if_then (count == c) _ next e).1) (omega arith)
commits_step (Downs c) next (Head mode base) e = absurd (let no : None ≡ Some next = e in cc)
commits_step (Downs c) next (Primary n) e = absurd (let no : None ≡ Some next = e in cc)
commits_step (Downs c) next (Answered answer) e = absurd (let no : None ≡ Some next = e in cc)
commits_step (Downs c) next (WentDown down) e = subst (λ (n : Stand). commits_at n ≤ c + 1) (some_inj _ _ e) (omega arith)
commits_step (Downs c) next (End count) e = subst (λ (n : Stand). commits_at n ≤ c + 1) (some_inj _ _ (if_then (count == c) _ next e).1) (omega arith)
commits_step Ended next l e = absurd (let no : None ≡ Some next = e in cc)

behind_fault : (stand next : Stand) (at : ℕ) (text : List ℕ) (texts : List (List ℕ)) → 1 ≤ length texts → next_stand stand text ≡ Some next
    → fault_in stand at (text ∷ texts) ≡ fault_in next (at + (length text + 1)) texts
behind_fault stand next at text [] some e = absurd (omega arith)
behind_fault stand next at text (other ∷ texts) some e = ap (λ o. fault_at at o (λ n. fault_in n (at + (length text + 1)) (other ∷ texts))) e

pub halfway_next : (bytes : List ℕ) (stand next : Stand) (said new : TranscriptSaid) (rest text below : List ℕ) → Halfway bytes stand said rest → Some (text, below) ≡ cut_at 10 rest
    → next_stand stand text ≡ Some next → ((above : List ℕ) → ReadsLines stand said above → ReadsLines next new (above ++ (text ++ 10 ∷ []))) → Halfway bytes next new below
halfway_next bytes stand next said new rest text below half cut taken reads =
    let at = length half.above in
    let line = then_some (read_line (words_of text)) (allowed stand) next taken in
    let spelled : rest ≡ text ++ 10 ∷ below = cut_spelled 10 rest (text, below) (sym cut) in
    let size : length (half.above ++ (text ++ 10 ∷ [])) ≡ at + (length text + 1) = omega (arith, length-append half.above (text ++ 10 ∷ []), length-append text (10 ∷ [])) in
    record {
      above = half.above ++ (text ++ 10 ∷ []);
      joined = append_assoc half.above (text ++ 10 ∷ []) below ∙ ap (λ r. half.above ++ r) (append_assoc text (10 ∷ []) below ∙ sym spelled) ∙ half.joined;
      reads = reads half.above half.reads;
      fault = ap (λ n. fault_in next n (slice_split (λ b. b == 10) below)) size
          ∙ sym (behind_fault stand next at text (slice_split (λ b. b == 10) below) (omega (arith, length-slice_split (λ b. b == 10) below)) taken)
          ∙ ap (fault_in stand at) (sym (cut_split 10 rest (text, below) (sym cut))) ∙ half.fault;
      room = omega (arith, commits_step stand next line.0 line.2, half.room, size);
    }

fault_here : (stand : Stand) (at : ℕ) (text : List ℕ) (texts : List (List ℕ)) → 1 ≤ length texts → next_stand stand text ≡ None → fault_in stand at (text ∷ texts) ≡ Some at
fault_here stand at text [] some e = absurd (omega arith)
fault_here stand at text (other ∷ texts) some e = ap (λ o. fault_at at o (λ n. fault_in n (at + (length text + 1)) (other ∷ texts))) e

place_is : (bytes : List ℕ) (above rest : List ℕ) → above ++ rest ≡ bytes → length above ≡ length bytes - length rest
place_is bytes above rest joined = omega (arith, ap length joined, length-append above rest)

pub halfway_fault : (bytes : List ℕ) (stand : Stand) (said : TranscriptSaid) (rest text below : List ℕ) → Halfway bytes stand said rest → Some (text, below) ≡ cut_at 10 rest
    → next_stand stand text ≡ None → transcript_fault bytes ≡ Some (length bytes - length rest)
halfway_fault bytes stand said rest text below half cut none =
    let at = length half.above in
    sym half.fault ∙ ap (fault_in stand at) (cut_split 10 rest (text, below) (sym cut))
    ∙ fault_here stand at text (slice_split (λ b. b == 10) below) (omega (arith, length-slice_split (λ b. b == 10) below)) none
    ∙ ap Some (place_is bytes half.above rest half.joined)

pub halfway_missing : (bytes : List ℕ) (stand : Stand) (said : TranscriptSaid) (rest : List ℕ) → Halfway bytes stand said rest → cut_at 10 rest ≡ None
    → (is_ended stand && length rest == 0) ≡ false → transcript_fault bytes ≡ Some (length bytes - length rest)
halfway_missing bytes stand said rest half uncut missing =
    let at = length half.above in
    sym half.fault ∙ ap (fault_in stand at) (uncut_split 10 rest uncut) ∙ ap (λ (b : Bool). if b then None else Some at) missing
    ∙ ap Some (place_is bytes half.above rest half.joined)

pub cut_shorter : (rest text below : List ℕ) → Some (text, below) ≡ cut_at 10 rest → length below < length rest
cut_shorter rest text below cut = omega (arith, ap length (cut_spelled 10 rest (text, below) (sym cut)), length-append text (10 ∷ below))

nothing_left : (rest : List ℕ) → (length rest == 0) ≡ true → rest ≡ []
nothing_left [] e = refl
nothing_left (x ∷ rest) e = absurd (omega (arith, eqb-true (length (x ∷ rest)) 0 e))

pub halfway_end : (bytes : List ℕ) (stand : Stand) (said : TranscriptSaid) (rest : List ℕ) → Halfway bytes stand said rest → (is_ended stand && length rest == 0) ≡ true → ReadsLines Ended said bytes
halfway_end bytes Top said rest half whole = absurd (let no : false ≡ true = whole in cc)
halfway_end bytes Opened said rest half whole = absurd (let no : false ≡ true = whole in cc)
halfway_end bytes (Among primary c) said rest half whole = absurd (let no : false ≡ true = whole in cc)
halfway_end bytes (Downs c) said rest half whole = absurd (let no : false ≡ true = whole in cc)
halfway_end bytes Ended said rest half whole =
    let all : half.above ≡ bytes = sym (append-nil half.above) ∙ ap (λ r. half.above ++ r) (sym (nothing_left rest whole)) ∙ half.joined in
    subst (λ (a : List ℕ). ReadsLines Ended said a) all half.reads
