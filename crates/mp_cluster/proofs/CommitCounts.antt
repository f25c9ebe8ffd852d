-- How many commits some answers show, one answer after another, and those of parts, one part after another.
use Rattle.std.proofs.Common.{◌≡◌, ℕ, suc, ◌+◌, ◌<◌, List, [], ◌∷◌, ◌++◌, length, take, drop, get_or, Option, Some, None, is_some, if◌then◌else◌, sym, ap, ◌∙◌, arith, add-one, append-nil, length-append}
use Rattle.std.specs.List.{cons_option, flat_map}
use Rattle.std.proofs.Math.Seq.{drop-cons}
use Rattle.std.proofs.lemmas.Grind.{flat_map-append}
use Rattle.std.proofs.lemmas.List.{take_more}
use Rattle.std.proofs.lemmas.List.Elements.{filter_map-append}
use Rattle.mp_model.specs.declared.replies.Answer.{Answer}
use Rattle.mp_model.specs.declared.transcripts.Part.{Part}
use Rattle.mp_script.specs.Below.{numbers}
use Rattle.mp_script.specs.Transactions.{cts_of}

one_more : (o : Option ℕ) (rest : List ℕ) → length (cons_option o rest) ≡ (if is_some o then 1 else 0) + length rest
one_more None rest = omega arith
one_more (Some n) rest = omega arith

-- the commits from one answer on are its own, if it is one, and those of the answers behind it
pub counts_on : (answers : List Answer) (i : ℕ) (a : Answer) → i < length answers → a ≡ get_or answers i a
    → length (numbers (drop i answers)) ≡ (if is_some (cts_of a.reply) then 1 else 0) + length (numbers (drop (i + 1) answers))
counts_on answers i a within is =
    let front : drop i answers ≡ a ∷ drop (suc i) answers = drop-cons answers i a within ∙ ap (λ (x : Answer). x ∷ drop (suc i) answers) (sym is) in
    ap (λ (l : List Answer). length (numbers l)) front
    ∙ one_more (cts_of a.reply) (numbers (drop (suc i) answers))
    ∙ ap (λ (n : ℕ). (if is_some (cts_of a.reply) then 1 else 0) + length (numbers (drop n answers))) (sym (add-one i))

answers_of : List Part → List Answer
answers_of parts = flat_map (λ part. part.answers.items) parts

-- those of the parts up to one are those of the parts before it and its own
pub counts_part : (parts : List Part) (i : ℕ) (part : Part) (answers : List Answer) → i < length parts → part ≡ get_or parts i part → answers ≡ part.answers.items
    → length (numbers (flat_map (λ p. p.answers.items) (take (i + 1) parts))) ≡ length (numbers (flat_map (λ p. p.answers.items) (take i parts))) + length (numbers answers)
unfolding answers_of
counts_part parts i part answers within is its =
    let next : take (i + 1) parts ≡ take i parts ++ part ∷ [] = take_more parts i part within ∙ ap (λ (x : Part). take i parts ++ x ∷ []) (sym is) in
    let joined : answers_of (take i parts ++ part ∷ []) ≡ answers_of (take i parts) ++ (part.answers.items ++ []) = flat_map-append (λ (p : Part). p.answers.items) (take i parts) (part ∷ []) in
    let whole : answers_of (take (i + 1) parts) ≡ answers_of (take i parts) ++ answers =
    ap answers_of next ∙ joined ∙ ap (λ (l : List Answer). answers_of (take i parts) ++ l) (append-nil part.answers.items ∙ sym its) in
    ap (λ (l : List Answer). length (numbers l)) whole
    ∙ ap (λ (l : List ℕ). length l) (filter_map-append (λ (a : Answer). cts_of a.reply) (answers_of (take i parts)) answers)
    ∙ length-append (numbers (answers_of (take i parts))) (numbers answers)
