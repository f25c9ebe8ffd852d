-- Where a store has no fault, its map has none.
use Rattle.std.proofs.Common.{◌≡◌, Option, ℕ, None, sym, subst}
use Rattle.mp_store.specs.declared.headers.Header.{Header}
use Rattle.mp_store.specs.StoreFiles.{map_fault}
use Rattle.mp_store.specs.Answers.{StoreFinds}
use Rattle.mp_store.proofs.SoundAfter.{map_sound}
use Rattle.mp_store.proofs.store.Store.read_map.Goals as goal

pub returns-clause-whole : goal.returns-clause-whole
returns-clause-whole g c = λ tells. λ sound.
    let file = g.D.Disk.seen c.args.self.now.disk.now in
    let stands = c.args.self.now.stands c.requires.open tells in
    let none = subst (λ (h : Header). map_fault h.generation file ≡ None) (sym stands.header_is) (map_sound file sound) in
    subst (λ (f : Option ℕ). StoreFinds f c.read_map_in_force.result) none (c.read_map_in_force.ensures.finds tells)
