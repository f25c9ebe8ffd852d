-- The text of the store as it was opened is that of the file.
use Rattle.std.proofs.Common.{◌≡◌, ◌∙◌, ℕ, IsTrue, List, IfOk, ap, subst}
use Rattle.mp_cells.specs.PageView.{PageView}
use Rattle.mp_store.specs.declared.headers.Header.{Header}
use Rattle.mp_store.specs.StoreFiles.{header_in_force, page_in_force}
use Rattle.mp_commands.specs.Dumps.{store_text, dump_text}
use Rattle.mp_commands.proofs.dumping.dump.Goals as goal

-- the map that was read
map_read : (header : Header) (map : PageView) (seen file : List ℕ) → seen ≡ file → header ≡ header_in_force file → map ≡ page_in_force header.generation 0 seen → map ≡ page_in_force (header_in_force file).generation 0 file
map_read header map seen file same is read = read ∙ ap (λ (s : List ℕ). page_in_force header.generation 0 s) same ∙ ap (λ (h : Header). page_in_force h.generation 0 file) is

dump_is : (header : Header) (map : PageView) (seen file : List ℕ) → seen ≡ file → header ≡ header_in_force file → map ≡ page_in_force (header_in_force file).generation 0 file → store_text header map seen ≡ dump_text file
unfolding dump_text
dump_is header map seen file same is map_is =
    ap (λ (s : List ℕ). store_text header map s) same ∙ ap (λ (h : Header). store_text h map file) is ∙ ap (λ (m : PageView). store_text (header_in_force file) m file) map_is

pub returns-clause-text : goal.returns-clause-text
returns-clause-text g c = λ tells.
    let file = g.D.Disk.seen c.args.disk.now in
    let opened = c.in-Ok.ensures in
    let read = c.in_ok-map.ensures in
    let still : IsTrue (g.D.Disk.tells c.in-Ok.store.disk.now) = rw (opened.tells) tells in
    let still' : IsTrue (g.D.Disk.tells c.read_map.new.self.disk.now) = rw (read.tells) still in
    let same = read.quiet.same ∙ opened.quiet.same in
    let header = read.header ∙ opened.header tells in
    let map = map_read c.in-Ok.store.header c.in_ok-map.map _ file opened.quiet.same (opened.header tells) (read.page still) in
    let same_text = dump_is c.read_map.new.self.header c.in_ok-map.map _ file same header map in
    subst (λ (t : List ℕ). IfOk c.print_store.result (λ text. text.items ≡ t)) same_text (c.print_store.ensures.text still')
