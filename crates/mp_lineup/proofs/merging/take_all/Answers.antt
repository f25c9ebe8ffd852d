use Rattle.std.proofs.Common.{◌≡◌, ℕ, ◌+◌, ◌-◌, ◌<◌, ◌≤◌, [], ◌∷◌, ◌++◌, length, take, map, sym, ap, subst, ◌∙◌, arith}
use Rattle.mp_lineup.proofs.TakenAnswers.{AreTaken, next, next_listed, next_taken}
use Rattle.mp_lineup.proofs.merging.take_all.Goals as goal

pub take_last-requires : goal.take_last-requires
take_last-requires c =
    let order = c.args.order.now in
    let m = length order - 1 - c.loop-above.above in
    let test = c.loop-above-test.true in
    let within : m < length order = omega (arith, test) in
    let left : length order - c.loop-above.above ≡ m + 1 = omega (arith, test) in
    let h = c.requires.listed in
    let whole = map (λ list. list.items) c.args.lists.now.items in
    let lists = map (λ list. list.items) c.loop-above.lists.items in
    let so = subst (λ (k : ℕ). AreTaken h.0 order k lists c.loop-above.taken.items) left (c.loop-above.invariant.so_far h.0 h.1) in
    (take m h.0, next h.0 order whole h.1 m within, take m order, next_listed h.0 order whole h.1 m within 0 lists c.loop-above.taken.items so)

pub loop-above-preserved : goal.loop-above-preserved
loop-above-preserved c = record {
  count = c.push_reserved.ensures.len ∙ ap (λ (k : ℕ). k + 1) c.loop-above.invariant.count;
  room = subst (λ (k : ℕ). length c.args.order.now ≤ k) (sym c.push_reserved.ensures.capacity) c.loop-above.invariant.room;
  so_far = λ given listed.
      let order = c.args.order.now in
      let m = length order - 1 - c.loop-above.above in
      let test = c.loop-above-test.true in
      let within : m < length order = omega (arith, test) in
      let left : length order - c.loop-above.above ≡ m + 1 = omega (arith, test) in
      let whole = map (λ list. list.items) c.args.lists.now.items in
      let lists = map (λ list. list.items) c.loop-above.lists.items in
      let after = map (λ list. list.items) c.take_last.new.lists.items in
      let so = subst (λ (k : ℕ). AreTaken given order k lists c.loop-above.taken.items) left (c.loop-above.invariant.so_far given listed) in
      let took = c.take_last.ensures (take m given) (next given order whole listed m within) (take m order) (next_listed given order whole listed m within 0 lists c.loop-above.taken.items so) in
      let fewer : m ≡ length order - (c.loop-above.above + 1) = omega (arith, test) in
      subst (λ t. AreTaken given order (length order - (c.loop-above.above + 1)) after t) (sym c.push_reserved.ensures.items)
      (subst (λ (k : ℕ). AreTaken given order k after (c.loop-above.taken.items ++ c.take_last.result ∷ [])) fewer
      (next_taken given order whole listed m within 0 lists c.loop-above.taken.items so after c.take_last.result took.0 took.1));
}
