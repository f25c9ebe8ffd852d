-- The body is that of what was appended; what the four calls leave is the text of whole batches.
use Rattle.std.proofs.Common.{◌≡◌, ◌∙◌, ◌++◌, ◌∷◌, [], ◌<◌, ◌≤◌, List, ℕ, length, ap, arith}
use Rattle.byteorder.specs.Endian.{little_bytes}
use Rattle.mp_log.proofs.Forced.{body_length, nothing, is_within, either, unreached, forced}
use Rattle.mp_log.proofs.log.Log.force.Goals as goal

pub returns-then-is_empty-clause-forced : goal.returns-then-is_empty-clause-forced
returns-then-is_empty-clause-forced g c = rw (← c.self.view_is) (λ batches pending tells stands.
    nothing batches pending c.self.inside.tail (g.D.Disk.seen c.self.inside.disk) (g.D.Disk.image c.self.inside.disk) stands (c.is_empty.ensures.none c.if-is_empty.true))

pub returns-in-Ok-clause-forced : goal.returns-in-Ok-clause-forced
returns-in-Ok-clause-forced g c = rw (← c.self.view_is) (λ batches pending tells stands.
    let tail = c.self.inside.tail in
    let seen = g.D.Disk.seen c.self.inside.disk in
    let image = g.D.Disk.image c.self.inside.disk in
    let body : c.as_slice.result.now ≡ little_bytes 4 (length tail.bytes) ++ (tail.bytes ++ 0 ∷ []) = c.as_slice.ensures ∙ c.fill.ensures ∙ ap (λ (bytes : List ℕ). little_bytes 4 (length bytes) ++ (bytes ++ 0 ∷ [])) c.bytes.ensures.bytes in
    let within : c.place.result < length seen = rw c.place.ensures.place (is_within batches pending tail seen image stands) in
    let most : length tail.bytes ≤ 65536 = rw (← c.bytes.ensures.bytes) c.bytes.ensures.most in
    forced batches pending tail seen image stands c.place.result c.as_slice.result.now c.move_on.new.self (g.D.Disk.seen c.write_gated.new.disk) (g.D.Disk.image c.write_gated.new.disk) c.place.ensures.place body (c.is_empty.ensures.some c.if-is_empty.false) most c.move_on.ensures (c.in-Ok.ensures.done tells within) (c.in-Ok.ensures.safe tells within))

pub returns-in-Ok-clause-either : goal.returns-in-Ok-clause-either
returns-in-Ok-clause-either g c = rw (← c.self.view_is) (λ batches pending tells stands.
    let tail = c.self.inside.tail in
    let seen = g.D.Disk.seen c.self.inside.disk in
    let image = g.D.Disk.image c.self.inside.disk in
    let body : c.as_slice.result.now ≡ little_bytes 4 (length tail.bytes) ++ (tail.bytes ++ 0 ∷ []) = c.as_slice.ensures ∙ c.fill.ensures ∙ ap (λ (bytes : List ℕ). little_bytes 4 (length bytes) ++ (bytes ++ 0 ∷ [])) c.bytes.ensures.bytes in
    let within : c.place.result < length seen = rw c.place.ensures.place (is_within batches pending tail seen image stands) in
    either batches pending tail seen image stands c.place.result c.as_slice.result.now (g.D.Disk.image c.write_gated.new.disk) c.place.ensures.place body (c.is_empty.ensures.some c.if-is_empty.false) (c.in-Ok.ensures.images tells within))

pub returns-in-Err-clause-either : goal.returns-in-Err-clause-either
returns-in-Err-clause-either g c = rw (← c.self.view_is) (λ batches pending tells stands.
    let tail = c.self.inside.tail in
    let seen = g.D.Disk.seen c.self.inside.disk in
    let image = g.D.Disk.image c.self.inside.disk in
    let body : c.as_slice.result.now ≡ little_bytes 4 (length tail.bytes) ++ (tail.bytes ++ 0 ∷ []) = c.as_slice.ensures ∙ c.fill.ensures ∙ ap (λ (bytes : List ℕ). little_bytes 4 (length bytes) ++ (bytes ++ 0 ∷ [])) c.bytes.ensures.bytes in
    let within : c.place.result < length seen = rw c.place.ensures.place (is_within batches pending tail seen image stands) in
    either batches pending tail seen image stands c.place.result c.as_slice.result.now (g.D.Disk.image c.write_gated.new.disk) c.place.ensures.place body (c.is_empty.ensures.some c.if-is_empty.false) (c.in-Err.ensures.images tells within))

pub returns-in-Err-clause-unreached : goal.returns-in-Err-clause-unreached
returns-in-Err-clause-unreached g c = rw (← c.self.view_is) (λ batches pending tells stands before.
    let tail = c.self.inside.tail in
    let seen = g.D.Disk.seen c.self.inside.disk in
    let image = g.D.Disk.image c.self.inside.disk in
    let within : c.place.result < length seen = rw c.place.ensures.place (is_within batches pending tail seen image stands) in
    unreached batches pending tail seen image stands c.place.result c.as_slice.result.now (g.D.Disk.image c.write_gated.new.disk) c.place.ensures.place (c.in-Err.ensures.unreached tells within before))

pub write_gated-requires-clause-some : goal.write_gated-requires-clause-some
write_gated-requires-clause-some g c = omega (arith, body_length c.bytes.result.now c.as_slice.result.now (c.as_slice.ensures ∙ c.fill.ensures))

pub write_gated-requires-clause-end : goal.write_gated-requires-clause-end
write_gated-requires-clause-end g c =
    omega (arith, c.place.ensures.below, c.bytes.ensures.most, body_length c.bytes.result.now c.as_slice.result.now (c.as_slice.ensures ∙ c.fill.ensures))

pub move_on-requires : goal.move_on-requires
move_on-requires g c =
    omega (arith, c.place.ensures.place, c.in-Ok.ensures.bounded, ap length c.bytes.ensures.bytes, body_length c.bytes.result.now c.as_slice.result.now (c.as_slice.ensures ∙ c.fill.ensures))
