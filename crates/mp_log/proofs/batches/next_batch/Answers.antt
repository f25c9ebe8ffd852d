-- The gate, the count, the bytes, and the mtrs that they are.
use Rattle.std.proofs.Common.{◌≡◌, ◌+◌, ◌∙◌, List, ℕ, IsTrue, ap, subst, take, drop, Option, Ok}
use Rattle.std.specs.Prelude.{IfSome}
use Rattle.byteorder.specs.Endian.{little_bytes}
use Rattle.mp_log.specs.Reading.{is_batch_count}
use Rattle.mp_log.proofs.NextBatch.{next_is}
use Rattle.mp_log.proofs.Tied.{tied_checked}
use Rattle.mp_log.proofs.batches.next_batch.Goals as goal

pub returns-clause-exact : goal.returns-clause-exact
returns-clause-exact g c = λ tells same.
    let file = g.D.Disk.seen c.args.disk.now in
    let tells' : IsTrue (g.D.Disk.tells c.open_at.new.disk) = rw c.in_ok-count.ensures.tells tells in
    let bytes : c.split_at.result.0.now ≡ take c.in-Some.count (drop (c.args.place.gate + 5) file) =
    c.split_at.ensures.front ∙ c.in_ok-read_batch.ensures.bytes tells' ∙ ap (λ (f : List ℕ). take c.in-Some.count (drop (c.args.place.gate + 5) f)) c.in_ok-count.ensures.quiet.same in
    next_is c.args.place.node c.args.place.last c.args.place.gate c.in-Some.count c.in_ok-end.end c.args.size file c.split_at.result.0.now c.args.llsns.now.items c.check_batch.new.llsns.items same
    (c.in_ok-count.ensures.exact tells same ∙ ap Ok c.in-Some.is)
    (subst (λ (found : Option ℕ). IfSome found (λ count. take 4 (drop (c.args.place.gate + 1) file) ≡ little_bytes 4 count)) c.in-Some.is (c.in_ok-count.ensures.spelled tells))
    (subst (λ (found : Option ℕ). IfSome found (λ count. IsTrue (is_batch_count c.args.size c.args.place.gate count))) c.in-Some.is c.in_ok-count.ensures.fits)
    bytes c.in_ok-end.ensures

pub returns-clause-tied : goal.returns-clause-tied
returns-clause-tied g c = λ tied. tied_checked _ _ _ _ _ _ _ c.in_ok-end.ensures tied
