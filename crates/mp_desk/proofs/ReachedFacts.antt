-- What a node knows holds in a world of which the facts hold, and what its buffers show are pages of that world.
use Rattle.std.proofs.Common.{◌≡◌, ℕ, ◌<◌, List, Option, None, Some, refl, sym, ap, ◌∙◌}
use Rattle.std.specs.Option.{option_map}
use Rattle.mp_machine.specs.Machine.{run, AllAllowed}
use Rattle.mp_machine.specs.View.{part_in, ViewAgrees}
use Rattle.mp_machine.proofs.Time.{forward}
use Rattle.mp_cells.specs.PageView.{PageView}
use Rattle.mp_cells.specs.Trees.{IsTree, height_of}
use Rattle.mp_core_pages.specs.PageParts.{content_at}
use Rattle.mp_core.specs.declared.opening.CoreOpening.{CoreOpening}
use Rattle.mp_core.specs.declared.part.CorePart.{CorePart}
use Rattle.mp_core.specs.declared.event.CoreEvent.{CoreEvent}
use Rattle.mp_core.specs.Contents.{page_ops}
use Rattle.mp_core.specs.Invariant.{NumbersFit}
use Rattle.mp_core.specs.World.{CoreWorld, core_part, core}
use Rattle.mp_core.proofs.Law.{law_in_time}
use Rattle.mp_facts.specs.Facts.{Facts, pages_now}
use Rattle.mp_facts.specs.Standing.{CommitsStand}
use Rattle.mp_facts.proofs.Kept.{joint_in_time}
use Rattle.mp_facts.proofs.Groups.{facts as all_facts}
use Rattle.mp_facts.proofs.AllCommits.{commits_stand}
use Rattle.mp_page.specs.Pagers.{Extends}
use Rattle.mp_shared.specs.Nodes.{NodeView, Reached}
use Rattle.mp_buffer_fusion.specs.declared.buffer.Buffer.{Buffer}
use Rattle.mp_buffer_fusion.specs.Buffers.{buffer_of}
use Rattle.mp_buffer_fusion.specs.Agreement.{AgreesWith}
use Rattle.mp_desk.specs.Desks.{shown_by}

-- the facts of a world to which allowed steps lead
module _ (o : CoreOpening) (fair : NumbersFit o) where
  pub run_facts : (events : List CoreEvent) → AllAllowed (core o) events → Facts o (run (core o) events)
  run_facts = forward (core o) (Facts o) (λ events allowed. all_facts o fair _ (law_in_time o fair events allowed) (joint_in_time o fair events allowed))

  pub run_commits : (events : List CoreEvent) → AllAllowed (core o) events → CommitsStand o (run (core o) events)
  run_commits = forward (core o) (CommitsStand o) (λ events allowed. commits_stand o fair _ (law_in_time o fair events allowed) (joint_in_time o fair events allowed))

-- A world that agrees with what a node knows, with its facts
pub record KnownWorld (n : NodeView) : Type 0 where
  pub world : CoreWorld
  pub facts : Facts n.run.opening world
  pub commits : CommitsStand n.run.opening world
  pub agrees : ViewAgrees (core_part world) n.parts

pub known_world : (n : NodeView) → Reached n → KnownWorld n
known_world n reached =
    let events = reached.backed.0 in
    record {
      world = run (core n.run.opening) events;
      facts = run_facts n.run.opening reached.fair events reached.backed.1;
      commits = run_commits n.run.opening reached.fair events reached.backed.1;
      agrees = reached.backed.2;
    }

-- its pages are a tree
pub known_tree : (n : NodeView) (k : KnownWorld n) → IsTree (pages_now n.run.opening k.world) (height_of (pages_now n.run.opening k.world))
known_tree n k = k.commits.chains.tree

-- the content that a part in a node has of a page is the world's page
pub known_content : (n : NodeView) (p : ℕ) (q : CorePart) → part_in n.parts p ≡ Some q → (w : CoreWorld) → Facts n.run.opening w → ViewAgrees (core_part w) n.parts
    → (k : ℕ) (page : PageView) → content_at page_ops q.pages.contents k ≡ Some page → (k < 4096) × (page ≡ pages_now n.run.opening w k)
known_content n p q has w facts agrees k page content =
    facts.of_present.contents p k page (ap (λ (r : CorePart). content_at page_ops r.pages.contents k) (agrees p q has) ∙ content)

-- what buffers show is what they have
pub shown_buffer : (pool : List Buffer) (k : ℕ) (b : Buffer) → buffer_of pool k ≡ Some b → shown_by pool k ≡ Some b.page
shown_buffer pool k b is = ap (λ (o : Option Buffer). option_map (λ (c : Buffer). c.page) o) is

some_shown : (o : Option Buffer) (page : PageView) → option_map (λ (c : Buffer). c.page) o ≡ Some page → (b : Buffer) × (o ≡ Some b) × (b.page ≡ page)
some_shown None page e = absurd cc
some_shown (Some b) page e = (b, refl, cc)

pub buffer_shown : (pool : List Buffer) (k : ℕ) (page : PageView) → shown_by pool k ≡ Some page → (b : Buffer) × (buffer_of pool k ≡ Some b) × (b.page ≡ page)
buffer_shown pool k page e = some_shown (buffer_of pool k) page e

-- so the world's pages extend what the buffers show
pub world_shows : (n : NodeView) (p : ℕ) (q : CorePart) → part_in n.parts p ≡ Some q → (pool : List Buffer) → AgreesWith pool q.pages → (w : CoreWorld) → Facts n.run.opening w → ViewAgrees (core_part w) n.parts
    → Extends (pages_now n.run.opening w) (shown_by pool)
world_shows n p q has pool agrees w facts known k page shown =
    let b = buffer_shown pool k page shown in
    sym (known_content n p q has w facts known k (b.0).page (agrees.shows k b.0 b.1)).1 ∙ b.2
