use Rattle.std.proofs.Common.{◌≡◌, ◌+◌, ℕ, length, slice_get, slice_set, Some, refl, sym, subst, arith}
use Rattle.std.proofs.lemmas.Option.{slice_get_read}
use Rattle.mp_buffer_fusion.proofs.Listing.{ForgotUpTo, kept_apart, forgot_more, forgot_all}
use Rattle.mp_buffer_fusion.proofs.changing.forget_places.Goals as goal

pub bounds-places-from : goal.bounds-places-from
bounds-places-from c =
    let here : slice_get c.args.buffers.now c.loop-buffer.buffer-index ≡ Some c.buffer-item.result =
    slice_get_read c.args.buffers.now (length c.args.buffers.now) c.loop-buffer.buffer-index c.buffer-item.result refl c.loop-buffer-test.true c.buffer-item.is in
    let within = (kept_apart c.args.buffers.now c.args.places.now c.requires).within c.loop-buffer.buffer-index c.buffer-item.result here in
    omega (arith, within, c.from.ensures, c.loop-buffer.invariant.table)

pub loop-buffer-preserved : goal.loop-buffer-preserved
loop-buffer-preserved c =
    let here : slice_get c.args.buffers.now c.loop-buffer.buffer-index ≡ Some c.buffer-item.result =
    slice_get_read c.args.buffers.now (length c.args.buffers.now) c.loop-buffer.buffer-index c.buffer-item.result refl c.loop-buffer-test.true c.buffer-item.is in
    subst (λ (n : ℕ). ForgotUpTo c.args.buffers.now (slice_set c.loop-buffer.places n 0) (c.loop-buffer.buffer-index + 1)) (sym c.from.ensures)
    (forgot_more c.args.buffers.now c.loop-buffer.places c.loop-buffer.buffer-index c.loop-buffer.invariant c.buffer-item.result here)

pub returns : goal.returns
returns c = forgot_all c.args.buffers.now c.loop-buffer.places c.loop-buffer.buffer-index (omega (arith, c.loop-buffer-test.false)) c.loop-buffer.invariant
