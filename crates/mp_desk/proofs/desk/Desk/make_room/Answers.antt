use Rattle.std.proofs.Common.{◌≡◌, [], List, length, map, refl, ap, ◌∙◌, arith}
use Rattle.mp_buffer_fusion.specs.declared.buffer.Buffer.{Buffer}
use Rattle.mp_buffer_fusion.specs.Buffers.{unpinned_buffer}
use Rattle.mp_desk.proofs.AtDesk.{desk_emptied, none_dirty, given_emptied}
use Rattle.mp_desk.proofs.desk.Desk.make_room.Goals as goal

pub returns-then-free-lt32-clause-agrees : goal.returns-then-free-lt32-clause-agrees
returns-then-free-lt32-clause-agrees c = λ run p n start q given at.
    let none : c.unpin_all.new.self ≡ [] = c.unpin_all.ensures.left ∙ ap (λ (l : List Buffer). map unpinned_buffer l) (none_dirty c.args.self.now.pool (λ b there. (given b there).0)) in
    desk_emptied run p n c.args.self.now (record c.args.self.now { pool = c.unpin_all.new.self }) none refl refl c.unpin_all.ensures.agrees at

pub returns-then-free-lt32-clause-room : goal.returns-then-free-lt32-clause-room
returns-then-free-lt32-clause-room c = λ start q given.
    let none : c.unpin_all.new.self ≡ [] = c.unpin_all.ensures.left ∙ ap (λ (l : List Buffer). map unpinned_buffer l) (none_dirty c.args.self.now.pool (λ b there. (given b there).0)) in
    let count : length c.unpin_all.new.self ≡ 0 = ap (λ (l : List Buffer). length l) none in
    (given_emptied start q c.unpin_all.new.self none, omega (arith, count))
