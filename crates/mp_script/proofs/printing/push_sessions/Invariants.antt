-- The text so far with the sessions from here on has all.
use Rattle.std.proofs.Common.{◌≡◌, ◌++◌, map, drop}
use Rattle.mp_script.specs.Text.{session_words, words_text, lines_text}
use Rattle.mp_script.proofs.printing.push_sessions.Given as goal

abbrev pub invariant-loop-session : goal.invariant-loop-session
invariant-loop-session l = l.text.items ++ lines_text (map (λ s. words_text (session_words s)) (drop l.session-index l.sessions)) ≡ l.initial.text.items ++ lines_text (map (λ s. words_text (session_words s)) l.sessions)
