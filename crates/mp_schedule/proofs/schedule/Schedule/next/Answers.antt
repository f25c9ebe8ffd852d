use Rattle.std.proofs.Common.{◌≡◌, ℕ, ◌+◌, ◌<◌, Bool, true, false, List, length, Some, get_or, slice_get, slice_set, refl, ap, ◌∙◌, arith, add-one, rules}
use Rattle.std.specs.Vec.{vec_len}
use Rattle.std.proofs.lemmas.List.{length-set}
use Rattle.std.proofs.lemmas.Option.{slice_get_read, slice_get-get_or}
use Rattle.mp_schedule.proofs.Scanning.{scanned_so, scanned_over, scanned_waiting, scanned_behind, may_be_tried, next_within}
use Rattle.mp_schedule.proofs.Marks.{scan_begins_behind}
use Rattle.mp_schedule.proofs.schedule.Schedule.next.Goals as goal
use Rattle.mp_schedule.proofs.schedule.Schedule.next.Goals.{in-Over, in-Waiting, in-Free+else-not-busy-own}

-- whether a session is busy, by its place in the array
busy_at : (busy : List Bool) (session : ℕ) (b : Bool) → length busy ≡ 256 → session < 256 → get_or busy session false ≡ b → slice_get busy session ≡ Some b
busy_at busy session b size small is = slice_get-get_or busy session false (omega (arith, small, size)) ∙ ap (λ (x : Bool). Some x) is

pub loop-place-init : goal.loop-place-init
loop-place-init c = record {
  size = refl;
  scan = scan_begins_behind c.args.self.now.tries.items c.args.self.now.first 256 (omega arith) c.args.self.now.over;
}

pub returns-then-not-busy-own : goal.returns-then-not-busy-own
returns-then-not-busy-own c =
    let tries = c.args.self.now.tries.items in
    let t = c.index-it.result.now in
    let scan = c.loop-place.invariant.scan in
    let count : vec_len c.args.self.now.tries ≡ length c.args.self.now.tries.items = search rules in
    let at = slice_get_read tries c.len-place-end.result c.loop-place.place t (c.len-place-end.ensures ∙ count) c.loop-place-test.true c.index-it.ensures in
    let small : c.index-it.result.now.session < 256 = search rules in
    let idle = busy_at c.loop-place.busy t.session false c.loop-place.invariant.size small c.if-not-busy-own.true in
    record {
      next = (may_be_tried tries c.loop-place.place c.loop-place.busy c.loop-place.waits scan t at small c.in-Free.is idle, scan.none);
      within = next_within tries c.loop-place.place t at;
    }

pub loop-place-preserved : goal.loop-place-preserved
loop-place-preserved c =
    let tries = c.args.self.now.tries.items in
    let t = c.index-it.result.now in
    let place = c.loop-place.place in
    let busy = c.loop-place.busy in
    let waits = c.loop-place.waits in
    let scan = c.loop-place.invariant.scan in
    let count : vec_len c.args.self.now.tries ≡ length c.args.self.now.tries.items = search rules in
    let at = slice_get_read tries c.len-place-end.result place t (c.len-place-end.ensures ∙ count) c.loop-place-test.true c.index-it.ensures in
    let small : c.index-it.result.now.session < 256 = search rules in
    elim c.match-it.branch [
      | in-Over w ↦ record {
        size = ap length w.busy-is ∙ c.loop-place.invariant.size;
        scan = scanned_so tries place (place + 1) busy c.match-it.busy waits c.match-it.waits (add-one place) w.busy-is w.waits-is
            (scanned_over tries place busy waits scan t at small w.in-Over.is);
      }
      | in-Waiting w ↦ record {
        size = ap length w.busy-is ∙ length-set busy t.session true ∙ c.loop-place.invariant.size;
        scan = scanned_so tries place (place + 1) (slice_set busy t.session true) c.match-it.busy true c.match-it.waits (add-one place) w.busy-is w.waits-is
            (scanned_waiting tries place busy waits scan t at small w.in-Waiting.is);
      }
      | in-Free+else-not-busy-own w ↦ record {
        size = ap length w.busy-is ∙ c.loop-place.invariant.size;
        scan = scanned_so tries place (place + 1) busy c.match-it.busy waits c.match-it.waits (add-one place) w.busy-is w.waits-is
            (scanned_behind tries place busy waits scan t at small w.in-Free.is (busy_at busy t.session true c.loop-place.invariant.size small w.if-not-busy-own.false));
      }
    ]
