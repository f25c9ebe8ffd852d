-- A line that is read is the text of what was read, and says what a transcript may say.
use Rattle.std.proofs.Common.{◌≡◌, ◌∙◌, ℕ, ◌-◌, ◌^◌, inl, inr, List, [], ◌∷◌, Some, None, codes, decimal, sym, ap, subst, arith}
use Rattle.std.specs.Str.{bytes_eq}
use Rattle.mp_model.specs.declared.transcripts.Mode.{Mode}
use Rattle.mp_report.specs.declared.read.lines.Line.{Line}
use Rattle.mp_report.specs.Transcripts.{mode_word}
use Rattle.mp_report.specs.ReadingLines.{read_mode, read_head, read_primary_line, read_down, read_end, read_line, line_words, IsLine}
use Rattle.mp_report.specs.Reading.{read_number, read_stamp, read_primary, read_answer}
use Rattle.mp_report.proofs.WordsSpelled.{same_from_bytes, if_some, if_cases, if_then, some_inj, then_some, number_spelled}
use Rattle.mp_report.proofs.RepliesSpelled.{stamp_spelled, primary_spelled, answer_spelled}

-- the words are those of the line
pub record SpellsLine (words : List (List ℕ)) (line : Line) : Type 0 where
  pub spelled : line_words line ≡ words
  pub is : IsLine line

mode_spelled : (word : List ℕ) (mode : Mode) → read_mode word ≡ Some mode → mode_word mode ≡ word
mode_spelled word mode e =
    elim (if_cases (bytes_eq word (codes "step")) _ _ mode e) [
      | inl step ↦ subst (λ (m : Mode). mode_word m ≡ word) (some_inj _ _ step.1) (sym (same_from_bytes word (codes "step") step.0))
      | inr other ↦ let run = if_some (bytes_eq word (codes "run")) _ mode other.1 in subst (λ (m : Mode). mode_word m ≡ word) run.1 (sym (same_from_bytes word (codes "run") run.0))
    ]

head_spelled : (words : List (List ℕ)) (line : Line) → read_head words ≡ Some line → SpellsLine (codes "transcript" ∷ words) line
head_spelled [] line e = absurd (let no : None ≡ Some line = e in cc)
head_spelled (mode ∷ []) line e = absurd (let no : None ≡ Some line = e in cc)
head_spelled (mode ∷ name ∷ []) line e = absurd (let no : None ≡ Some line = e in cc)
head_spelled (mode ∷ name ∷ base ∷ more ∷ words) line e = absurd (let no : None ≡ Some line = e in cc)
head_spelled (mode ∷ name ∷ base ∷ []) line e =
    let test = if_then (bytes_eq name (codes "base")) _ line e in
    let m = then_some (read_mode mode) _ line test.1 in
    let b = then_some (read_stamp base) _ line m.2 in
    let stamp = stamp_spelled base b.0 b.1 in
    subst (SpellsLine (codes "transcript" ∷ mode ∷ name ∷ base ∷ [])) (some_inj _ _ b.2)
    (record {
      spelled = ap (λ w. codes "transcript" ∷ w ∷ codes "base" ∷ decimal b.0 ∷ []) (mode_spelled mode m.0 m.1)
          ∙ ap (λ w. codes "transcript" ∷ mode ∷ w ∷ decimal b.0 ∷ []) (sym (same_from_bytes name (codes "base") test.0))
          ∙ ap (λ w. codes "transcript" ∷ mode ∷ name ∷ w ∷ []) stamp.0;
      is = stamp.1;
    })

primary_line_spelled : (words : List (List ℕ)) (line : Line) → read_primary_line words ≡ Some line → SpellsLine (codes "primary" ∷ words) line
primary_line_spelled [] line e = absurd (let no : None ≡ Some line = e in cc)
primary_line_spelled (word ∷ more ∷ words) line e = absurd (let no : None ≡ Some line = e in cc)
primary_line_spelled (word ∷ []) line e =
    let p = then_some (read_primary word) _ line e in
    let primary = primary_spelled word p.0 p.1 in
    subst (SpellsLine (codes "primary" ∷ word ∷ [])) (some_inj _ _ p.2) (record { spelled = ap (λ w. codes "primary" ∷ w ∷ []) primary.0; is = primary.1 })

down_spelled : (words : List (List ℕ)) (line : Line) → read_down words ≡ Some line → SpellsLine (codes "down" ∷ words) line
down_spelled [] line e = absurd (let no : None ≡ Some line = e in cc)
down_spelled (primary ∷ []) line e = absurd (let no : None ≡ Some line = e in cc)
down_spelled (primary ∷ name ∷ []) line e = absurd (let no : None ≡ Some line = e in cc)
down_spelled (primary ∷ name ∷ by ∷ more ∷ words) line e = absurd (let no : None ≡ Some line = e in cc)
down_spelled (primary ∷ name ∷ by ∷ []) line e =
    let test = if_then (bytes_eq name (codes "by")) _ line e in
    let p = then_some (read_primary primary) _ line test.1 in
    let b = then_some (read_primary by) _ line p.2 in
    let one = primary_spelled primary p.0 p.1 in
    let other = primary_spelled by b.0 b.1 in
    subst (SpellsLine (codes "down" ∷ primary ∷ name ∷ by ∷ [])) (some_inj _ _ b.2)
    (record {
      spelled = ap (λ w. codes "down" ∷ w ∷ codes "by" ∷ decimal b.0 ∷ []) one.0
          ∙ ap (λ w. codes "down" ∷ primary ∷ w ∷ decimal b.0 ∷ []) (sym (same_from_bytes name (codes "by") test.0))
          ∙ ap (λ w. codes "down" ∷ primary ∷ name ∷ w ∷ []) other.0;
      is = record { primary = one.1; by = other.1 };
    })

end_spelled : (words : List (List ℕ)) (line : Line) → read_end words ≡ Some line → SpellsLine (codes "end" ∷ words) line
end_spelled [] line e = absurd (let no : None ≡ Some line = e in cc)
end_spelled (name ∷ []) line e = absurd (let no : None ≡ Some line = e in cc)
end_spelled (name ∷ count ∷ more ∷ words) line e = absurd (let no : None ≡ Some line = e in cc)
end_spelled (name ∷ count ∷ []) line e =
    let test = if_then (bytes_eq name (codes "commits")) _ line e in
    let c = then_some (read_number 0 (2 ^ 64 - 1) count) _ line test.1 in
    let n = number_spelled 0 (2 ^ 64 - 1) count c.0 c.1 in
    subst (SpellsLine (codes "end" ∷ name ∷ count ∷ [])) (some_inj _ _ c.2)
    (record {
      spelled = ap (λ w. codes "end" ∷ w ∷ decimal c.0 ∷ []) (sym (same_from_bytes name (codes "commits") test.0)) ∙ ap (λ w. codes "end" ∷ name ∷ w ∷ []) n.spelled;
      is = omega (arith, n.most);
    })

pub line_spelled : (words : List (List ℕ)) (line : Line) → read_line words ≡ Some line → SpellsLine words line
line_spelled [] line e = absurd (let no : None ≡ Some line = e in cc)
line_spelled (word ∷ words) line e =
    elim (if_cases (bytes_eq word (codes "transcript")) _ _ line e) [
      | inl is ↦ rw (same_from_bytes word (codes "transcript") is.0) (head_spelled words line is.1)
      | inr e1 ↦ elim (if_cases (bytes_eq word (codes "primary")) _ _ line e1.1) [
        | inl is ↦ rw (same_from_bytes word (codes "primary") is.0) (primary_line_spelled words line is.1)
        | inr e2 ↦ elim (if_cases (bytes_eq word (codes "down")) _ _ line e2.1) [
          | inl is ↦ rw (same_from_bytes word (codes "down") is.0) (down_spelled words line is.1)
          | inr e3 ↦ elim (if_cases (bytes_eq word (codes "end")) _ _ line e3.1) [
            | inl is ↦ rw (same_from_bytes word (codes "end") is.0) (end_spelled words line is.1)
            | inr e4 ↦
                let a = then_some (read_answer (word ∷ words)) _ line e4.1 in
                let answer = answer_spelled (word ∷ words) a.0 a.1 in
                subst (SpellsLine (word ∷ words)) (some_inj _ _ a.2) (record { spelled = answer.0; is = answer.1 })
          ]
        ]
      ]
    ]
