use Rattle.std.proofs.Common.{◌≡◌, ◌+◌, ◌≤◌, length, drop}
use Rattle.mp_script.specs.Below.{numbers}
use Rattle.mp_cluster.proofs.transcripts.count_commits.Given as goal

-- the commits so far, and those of the answers from here on, are all
abbrev pub invariant-loop-answer : goal.invariant-loop-answer
invariant-loop-answer l = record {
  few : l.commits ≤ l.answer-index;
  all : l.commits + length (numbers (drop l.answer-index l.answers)) ≡ length (numbers l.answers);
}
