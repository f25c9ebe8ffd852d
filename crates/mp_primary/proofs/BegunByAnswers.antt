-- Each transaction was begun by a statement that was answered: with entries more, and what follows of a version.
use Rattle.std.proofs.Common.{List, [], ◌∷◌, ◌++◌, Some}
use Rattle.std.specs.List.{AllByRecursion}
use Rattle.mp_model.specs.declared.replies.Answer.{Answer}
use Rattle.mp_supports.specs.Supports.{Trace}
use Rattle.mp_supports.specs.Kept.{Entry}
use Rattle.mp_primary.specs.Primaries.{BeginsByAnswer}

pub begun_more : (entries more : List Entry) → AllByRecursion BeginsByAnswer entries → AllByRecursion BeginsByAnswer more → AllByRecursion BeginsByAnswer (entries ++ more)
begun_more [] more all then_all = then_all
begun_more (e ∷ entries) more all then_all = (all.0, begun_more entries more all.1 then_all)

-- an entry with an answer
pub begun_answered : (answer : Answer) (trace : Trace) → BeginsByAnswer (record { answer = Some answer; trace = trace })
begun_answered answer trace none = absurd cc

-- one entry more
pub begun_one : (entries : List Entry) (e : Entry) → AllByRecursion BeginsByAnswer entries → BeginsByAnswer e → AllByRecursion BeginsByAnswer (entries ++ e ∷ [])
begun_one entries e all its = begun_more entries (e ∷ []) all (its, tt)
