use Rattle.std.proofs.Common.{rules, ◌≡◌, [], Some, length, sym, ap, ◌∙◌, subst, arith}
use Rattle.std.specs.Vec.{vec_len}
use Rattle.std.proofs.lemmas.Option.{get_or_from_slice_get, slice_get_within}
use Rattle.mp_cells.specs.PageView.{PageView}
use Rattle.mp_buffer_fusion.specs.declared.buffer.Buffer.{Buffer}
use Rattle.mp_buffer_fusion.specs.Buffers.{StandsAt, with_buffer, cleaned_buffer}
use Rattle.mp_buffer_fusion.specs.Visits.{with_visit, Visits}
use Rattle.mp_buffer_fusion.proofs.Written.{set_is, kept_set}
use Rattle.mp_buffer_fusion.proofs.Fetches.{agrees_written, content_buffered, run_stays, frames_stay}
use Rattle.mp_buffer_fusion.proofs.pool.Pool.push.Goals as goal

pub write_frame-requires-clause-content : goal.write_frame-requires-clause-content
write_frame-requires-clause-content c =
    let items = c.self.inside.buffers.items in
    let i = c.index_of-i.result in
    let b = c.index_of-i.ensures.0 in
    let stands = subst (λ pool. StandsAt pool c.args.number i b) (sym c.self.view_is) c.index_of-i.ensures.1 in
    let read = c.index.ensures ∙ get_or_from_slice_get items i b c.index.result.now stands.0 in
    content_buffered c.args.self.now c.args.node.now c.args.p c.args.number b _ c.index_of-i.ensures.1.1 (ap (λ (x : Buffer). x.page) read) c.requires.agrees

pub index_mut-requires : goal.index_mut-requires
index_mut-requires c =
    let items = c.self.inside.buffers.items in
    let i = c.index_of-i.result in
    let b = c.index_of-i.ensures.0 in
    let stands = subst (λ pool. StandsAt pool c.args.number i b) (sym c.self.view_is) c.index_of-i.ensures.1 in
    let within = slice_get_within items i b stands.0 in
    let count : length items ≡ vec_len c.self.inside.buffers = search rules in
    omega (arith, within, count)

pub invariant_of-self : goal.invariant_of-self
invariant_of-self c =
    let items = c.self.inside.buffers.items in
    let i = c.index_of-i.result in
    let b = c.index_of-i.ensures.0 in
    let stands = subst (λ pool. StandsAt pool c.args.number i b) (sym c.self.view_is) c.index_of-i.ensures.1 in
    let read = c.index_mut.ensures.value ∙ get_or_from_slice_get items i b c.index_mut.result.now stands.0 in (
      kept_set items c.self.inside.places.items c.self.invariant.0 c.args.number i b stands _ (ap (λ (y : Buffer). y.number) read),
      search rules,
    )

pub returns-clause-left : goal.returns-clause-left
returns-clause-left c =
    let items = c.self.inside.buffers.items in
    let i = c.index_of-i.result in
    let b = c.index_of-i.ensures.0 in
    let stands = subst (λ pool. StandsAt pool c.args.number i b) (sym c.self.view_is) c.index_of-i.ensures.1 in
    let read = c.index.ensures ∙ get_or_from_slice_get items i b c.index.result.now stands.0 in
    let visit = c.write_frame.ensures.visit in (
      b,
      c.index_of-i.ensures.1.1,
      (visit.0, subst (λ (y : PageView). Visits c.args.p c.args.number visit.0 y c.args.node.now c.write_frame.new.node) (ap (λ (x : Buffer). x.page) read) visit.1),
    )

pub returns-clause-cleaned : goal.returns-clause-cleaned
returns-clause-cleaned c =
    let items = c.self.inside.buffers.items in
    let i = c.index_of-i.result in
    let b = c.index_of-i.ensures.0 in
    let stands = subst (λ pool. StandsAt pool c.args.number i b) (sym c.self.view_is) c.index_of-i.ensures.1 in
    let read = c.index_mut.ensures.value ∙ get_or_from_slice_get items i b c.index_mut.result.now stands.0 in
    set_is items c.self.inside.places.items c.self.invariant.0 c.args.number i b stands cleaned_buffer _ (ap cleaned_buffer read)
    ∙ ap (λ pool. with_buffer pool c.args.number cleaned_buffer) c.self.view_is

pub returns-clause-agrees : goal.returns-clause-agrees
returns-clause-agrees c =
    let items = c.self.inside.buffers.items in
    let i = c.index_of-i.result in
    let b = c.index_of-i.ensures.0 in
    let stands = subst (λ pool. StandsAt pool c.args.number i b) (sym c.self.view_is) c.index_of-i.ensures.1 in
    let seen = c.index.ensures ∙ get_or_from_slice_get items i b c.index.result.now stands.0 in
    let read = c.index_mut.ensures.value ∙ get_or_from_slice_get items i b c.index_mut.result.now stands.0 in
    let is = set_is items c.self.inside.places.items c.self.invariant.0 c.args.number i b stands cleaned_buffer _ (ap cleaned_buffer read)
    ∙ ap (λ pool. with_buffer pool c.args.number cleaned_buffer) c.self.view_is in
    let visit = c.write_frame.ensures.visit in
    agrees_written c.args.self.now _ c.args.node.now c.write_frame.new.node c.args.p c.args.number visit.0 _ visit.1 c.requires.part c.write_frame.ensures.in_frame c.requires.agrees b c.index_of-i.ensures.1.1 (sym (ap (λ (x : Buffer). x.page) seen)) is

pub returns-clause-node : goal.returns-clause-node
returns-clause-node c =
    let visit = c.write_frame.ensures.visit in
    let f = with_visit c.args.number visit.0 c.index.result.now.page visit.1.known visit.1.height in (
      run_stays c.args.node.now c.write_frame.new.node c.args.p 2 f visit.1.becomes,
      frames_stay c.args.node.now c.write_frame.new.node c.args.p 2 f visit.1.becomes c.requires.frames,
    )
