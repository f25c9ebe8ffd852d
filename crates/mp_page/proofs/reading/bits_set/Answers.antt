-- A byte more has at most eight bits.
use Rattle.std.proofs.Common.{◌∙◌, sym, ap, ◌+◌, ◌<◌, ◌≤◌, ◌^◌, get_or, arith}
use Rattle.std.specs.Prelude.{count_ones}
use Rattle.std.proofs.lemmas.List.Sums.{sum_by_more}
use borrow.Author.Numbers.{ones_of_8}
use Rattle.mp_page.proofs.reading.bits_set.Goals as goal

pub loop-byte-preserved : goal.loop-byte-preserved
loop-byte-preserved c =
    let byte = get_or c.args.bits.now c.loop-byte.byte-index 0 in
    let fits : byte < 2 ^ 8 = omega (arith, c.type_inv.bits c.loop-byte.byte-index) in
    let eight : count_ones byte ≤ 8 = ones_of_8 byte fits in
    record {
      count = ap (λ n. n + count_ones byte) c.loop-byte.invariant.count ∙ sym (sum_by_more count_ones c.args.bits.now c.loop-byte.byte-index 0 c.loop-byte-test.true);
      most = omega (arith, eight);
    }
