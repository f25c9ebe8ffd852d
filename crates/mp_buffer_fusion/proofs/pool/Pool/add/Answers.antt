use Rattle.std.proofs.Common.{rules, ◌≡◌, ℕ, ◌+◌, ◌<◌, List, [], ◌∷◌, ◌++◌, None, length, slice_set, sym, ap, ◌∙◌, subst, arith}
use Rattle.mp_buffer_fusion.specs.declared.pool.TheConstants.{BUFFERS}
use Rattle.mp_buffer_fusion.specs.declared.buffer.Buffer.{Buffer}
use Rattle.mp_buffer_fusion.specs.Buffers.{buffer_of, new_buffer}
use Rattle.mp_buffer_fusion.specs.Places.{IsKeptPool}
use Rattle.mp_buffer_fusion.proofs.Kept.{kept_longer}
use Rattle.mp_buffer_fusion.proofs.pool.Pool.add.Goals as goal

pub invariant_of-self : goal.invariant_of-self
invariant_of-self c =
    let x = new_buffer c.args.number c.args.page in
    let buffers = c.self.inside.buffers.items in
    let places = c.self.inside.places.items in
    let lacks = subst (λ items. buffer_of items c.args.number ≡ None) (sym c.self.view_is) c.requires.lacks in
    let room = subst (λ (items : List Buffer). length items < BUFFERS) (sym c.self.view_is) c.requires.room in
    let longer = kept_longer buffers places c.self.invariant.0 x lacks room c.requires.page in
    let put = c.push_reserved.ensures in
    let count : c.len-i.result ≡ length buffers = search rules in (
      subst (λ (items : List Buffer). IsKeptPool items (slice_set places c.from.result (c.len-i.result + 1))) (sym put.items)
          (subst (λ k. IsKeptPool (buffers ++ x ∷ []) (slice_set places k (c.len-i.result + 1))) (sym c.from.ensures)
          (subst (λ n. IsKeptPool (buffers ++ x ∷ []) (slice_set places c.args.number (n + 1))) (sym count) longer)),
      search rules,
    )
