use Rattle.std.proofs.Common.{◌≡◌, ◌+◌, ◌++◌, map, vec_len}
use Rattle.mp_script.specs.InTheirPart.{count_from}
use Rattle.mp_cluster.proofs.transcripts.parts_of.Given as goal

abbrev pub invariant-loop-place : goal.invariant-loop-place
invariant-loop-place l = record {
  left : vec_len l.lists + l._place ≡ vec_len l.initial.lists;
  numbered : l.primary ≡ l._place;
  primaries : map (λ part. part.primary) l.parts.items ≡ count_from 1 l._place;
  answers : map (λ part. part.answers.items) l.parts.items ++ map (λ list. list.items) l.lists.items ≡ map (λ list. list.items) l.initial.lists.items;
}
