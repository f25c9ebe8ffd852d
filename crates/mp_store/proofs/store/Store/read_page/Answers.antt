-- Where no home has a fault, the side in force has none.
use Rattle.std.proofs.Common.{◌≡◌, Option, ℕ, None, sym, subst}
use Rattle.mp_store.specs.declared.headers.Header.{Header}
use Rattle.mp_store.specs.StoreFiles.{homes_fault, page_fault_in_force}
use Rattle.mp_store.specs.Answers.{StoreFinds}
use Rattle.mp_store.proofs.HomeChecks.{sound_in_force}
use Rattle.mp_store.proofs.SoundAfter.{sound_parts}
use Rattle.mp_store.proofs.store.Store.read_page.Goals as goal

pub returns-clause-whole : goal.returns-clause-whole
returns-clause-whole g c = λ tells. λ sound.
    let file = g.D.Disk.seen c.args.self.now.disk.now in
    let store = c.args.self.now.header in
    let stands = c.args.self.now.stands c.requires.open tells in
    let homes = subst (λ (h : Header). homes_fault h.generation 4096 file ≡ None) (sym stands.header_is) (sound_parts file sound).homes in
    let none : page_fault_in_force store.generation c.args.number file ≡ None = sound_in_force store.generation 4096 c.args.number file c.requires.number homes in
    subst (λ (f : Option ℕ). StoreFinds f c.read_in_force.result) none (c.read_in_force.ensures.finds tells)
