-- What contracts see of slices of words.
use Rattle.std.specs.Prelude.{ℕ, List, map}
use Rattle.std.specs.Borrow.{Bor}
use Rattle.mp_model.specs.declared.replies.Reply.{Reply}
use Rattle.mp_report.specs.Bare.{bare_reply}

-- the words that the slices hold
abbrev pub texts : List (Bor (List ℕ)) → List (List ℕ)
texts words = map (λ word. word.now) words

-- a reply, whatever free places its list has, and the words behind it
abbrev pub bare_found : Reply × Bor (List (Bor (List ℕ))) → Reply × List (List ℕ)
bare_found found = (bare_reply found.0, texts found.1.now)
