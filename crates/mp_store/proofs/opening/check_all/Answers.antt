-- The first check that finds a fault decides; the disk is as it was at each of them.
use Rattle.std.proofs.Common.{◌≡◌, ℕ, IsTrue, List, [], ◌∷◌, length, Option, None, Err, sym, ap, ◌∙◌, refl, subst}
use Rattle.std.proofs.lemmas.Result.{err_from_is_err_and}
use Rattle.mp_store.specs.declared.headers.Header.{Header}
use Rattle.mp_store.specs.declared.sides.Side.TheVariants.{First, Second}
use Rattle.mp_store.specs.Layout.{header_side}
use Rattle.mp_store.specs.HeaderSides.{headers_fault}
use Rattle.mp_store.specs.StoreFiles.{header_in_force, length_fault, homes_fault, roots_fault, store_fault}
use Rattle.mp_store.specs.Answers.{StoreFinds}
use Rattle.mp_store.proofs.HeaderChecks.{long_enough}
use Rattle.mp_store.proofs.HomeChecks.{first_found, later_found}
use Rattle.mp_store.proofs.opening.check_all.Goals as goal

-- the four checks of a file
abbrev the_length : List ℕ → Option ℕ
the_length file = length_fault (length file)

abbrev the_header : List ℕ → Option ℕ
the_header file = headers_fault (header_side First file) (header_side Second file)

abbrev the_homes : ℕ → List ℕ → Option ℕ
the_homes generation file = homes_fault generation 4096 file

abbrev the_roots : ℕ → List ℕ → Option ℕ
the_roots generation file = roots_fault generation file

abbrev in_force : List ℕ → ℕ
in_force file = (header_in_force file).generation

pub returns-in_err-check_length-clause-finds : goal.returns-in_err-check_length-clause-finds
unfolding store_fault
returns-in_err-check_length-clause-finds g c = λ tells.
    let file = g.D.Disk.seen c.args.disk.now in
    let fault = c.in_err-check_length.field-0.0 in
    let tells' : IsTrue (g.D.Disk.tells c.sync.new.self) = rw (c.in_ok-sync.ensures.tells) tells in
    let found = subst (λ (s : List ℕ). StoreFinds {T = Unit {0}} (the_length s) (Err fault)) c.in_ok-sync.ensures.quiet.same (c.in_err-check_length.ensures.finds tells') in
    let returned = err_from_is_err_and c.from_residual-in_err-check_length.result c.from_residual-in_err-check_length.ensures.1 in
    rw (returned.1, returned.2) (first_found (Unit {0}) Header (the_length file) (the_header file ∷ the_homes (in_force file) file ∷ the_roots (in_force file) file ∷ []) fault found)

pub returns-in_err-header-clause-finds : goal.returns-in_err-header-clause-finds
unfolding store_fault
returns-in_err-header-clause-finds g c = λ tells.
    let file = g.D.Disk.seen c.args.disk.now in
    let fault = c.in_err-header.field-0.0 in
    let tells' : IsTrue (g.D.Disk.tells c.sync.new.self) = rw (c.in_ok-sync.ensures.tells) tells in
    let tells'' : IsTrue (g.D.Disk.tells c.check_length.new.disk) = rw (c.in_ok-check_length.ensures.tells) tells' in
    let same : g.D.Disk.seen c.check_length.new.disk ≡ file = c.in_ok-check_length.ensures.quiet.same ∙ c.in_ok-sync.ensures.quiet.same in
    let long = subst (λ (s : List ℕ). the_length s ≡ None) c.in_ok-sync.ensures.quiet.same (c.in_ok-check_length.ensures.finds tells') in
    let found = subst (λ (s : List ℕ). StoreFinds {T = Header} (the_header s) (Err fault)) same (c.in_err-header.ensures.finds tells'') in
    let rest = the_homes (in_force file) file ∷ the_roots (in_force file) file ∷ [] in
    let returned = err_from_is_err_and c.from_residual-in_err-header.result c.from_residual-in_err-header.ensures.1 in
    rw (returned.1, returned.2) (later_found Header (the_length file) (the_header file ∷ rest) (Err fault) long (first_found Header Header (the_header file) rest fault found))

pub returns-in_err-check_homes-clause-finds : goal.returns-in_err-check_homes-clause-finds
unfolding store_fault
returns-in_err-check_homes-clause-finds g c = λ tells.
    let file = g.D.Disk.seen c.args.disk.now in
    let fault = c.in_err-check_homes.field-0.0 in
    let header = c.in_ok-header.header in
    let tells' : IsTrue (g.D.Disk.tells c.sync.new.self) = rw (c.in_ok-sync.ensures.tells) tells in
    let tells'' : IsTrue (g.D.Disk.tells c.check_length.new.disk) = rw (c.in_ok-check_length.ensures.tells) tells' in
    let tells''' : IsTrue (g.D.Disk.tells c.check_headers.new.disk) = rw (c.in_ok-header.ensures.tells) tells'' in
    let same : g.D.Disk.seen c.check_length.new.disk ≡ file = c.in_ok-check_length.ensures.quiet.same ∙ c.in_ok-sync.ensures.quiet.same in
    let same' : g.D.Disk.seen c.check_headers.new.disk ≡ file = c.in_ok-header.ensures.quiet.same ∙ same in
    let is : header ≡ header_in_force file = c.in_ok-header.ensures.header tells'' ∙ ap header_in_force same in
    let long = subst (λ (s : List ℕ). the_length s ≡ None) c.in_ok-sync.ensures.quiet.same (c.in_ok-check_length.ensures.finds tells') in
    let sound = subst (λ (s : List ℕ). the_header s ≡ None) same (c.in_ok-header.ensures.finds tells'') in
    let found = subst (λ (s : List ℕ). StoreFinds {T = Unit {0}} (the_homes header.generation s) (Err fault)) same' (c.in_err-check_homes.ensures.finds tells''') in
    let found' = subst (λ (h : Header). StoreFinds {T = Unit {0}} (the_homes h.generation file) (Err fault)) is found in
    let homes = the_homes (in_force file) file in
    let roots = the_roots (in_force file) file ∷ [] in
    let returned = err_from_is_err_and c.from_residual-in_err-check_homes.result c.from_residual-in_err-check_homes.ensures.1 in
    rw (returned.1, returned.2) (later_found Header (the_length file) (the_header file ∷ homes ∷ roots) (Err fault) long
    (later_found Header (the_header file) (homes ∷ roots) (Err fault) sound (first_found (Unit {0}) Header homes roots fault found')))

pub returns-in_err-check_roots-clause-finds : goal.returns-in_err-check_roots-clause-finds
unfolding store_fault
returns-in_err-check_roots-clause-finds g c = λ tells.
    let file = g.D.Disk.seen c.args.disk.now in
    let fault = c.in_err-check_roots.field-0.0 in
    let header = c.in_ok-header.header in
    let tells' : IsTrue (g.D.Disk.tells c.sync.new.self) = rw (c.in_ok-sync.ensures.tells) tells in
    let tells'' : IsTrue (g.D.Disk.tells c.check_length.new.disk) = rw (c.in_ok-check_length.ensures.tells) tells' in
    let tells''' : IsTrue (g.D.Disk.tells c.check_headers.new.disk) = rw (c.in_ok-header.ensures.tells) tells'' in
    let told : IsTrue (g.D.Disk.tells c.check_homes.new.disk) = rw (c.in_ok-check_homes.ensures.tells) tells''' in
    let same : g.D.Disk.seen c.check_length.new.disk ≡ file = c.in_ok-check_length.ensures.quiet.same ∙ c.in_ok-sync.ensures.quiet.same in
    let same' : g.D.Disk.seen c.check_headers.new.disk ≡ file = c.in_ok-header.ensures.quiet.same ∙ same in
    let same'' : g.D.Disk.seen c.check_homes.new.disk ≡ file = c.in_ok-check_homes.ensures.quiet.same ∙ same' in
    let is : header ≡ header_in_force file = c.in_ok-header.ensures.header tells'' ∙ ap header_in_force same in
    let long = subst (λ (s : List ℕ). the_length s ≡ None) c.in_ok-sync.ensures.quiet.same (c.in_ok-check_length.ensures.finds tells') in
    let sound = subst (λ (s : List ℕ). the_header s ≡ None) same (c.in_ok-header.ensures.finds tells'') in
    let homes_sound = subst (λ (s : List ℕ). the_homes header.generation s ≡ None) same' (c.in_ok-check_homes.ensures.finds tells''') in
    let homes_sound' = subst (λ (h : Header). the_homes h.generation file ≡ None) is homes_sound in
    let known_sound = subst (λ (s : List ℕ). the_homes header.generation s ≡ None) (sym same'') homes_sound in
    let found = subst (λ (s : List ℕ). StoreFinds {T = Unit {0}} (the_roots header.generation s) (Err fault)) same'' (c.in_err-check_roots.ensures.finds told known_sound) in
    let found' = subst (λ (h : Header). StoreFinds {T = Unit {0}} (the_roots h.generation file) (Err fault)) is found in
    let homes = the_homes (in_force file) file in
    let roots = the_roots (in_force file) file in
    let returned = err_from_is_err_and c.from_residual-in_err-check_roots.result c.from_residual-in_err-check_roots.ensures.1 in
    rw (returned.1, returned.2) (later_found Header (the_length file) (the_header file ∷ homes ∷ roots ∷ []) (Err fault) long
    (later_found Header (the_header file) (homes ∷ roots ∷ []) (Err fault) sound (later_found Header homes (roots ∷ []) (Err fault) homes_sound' (first_found (Unit {0}) Header roots [] fault found'))))

pub returns-clause-finds : goal.returns-clause-finds
unfolding store_fault
returns-clause-finds g c = λ tells.
    let file = g.D.Disk.seen c.args.disk.now in
    let header = c.in_ok-header.header in
    let tells' : IsTrue (g.D.Disk.tells c.sync.new.self) = rw (c.in_ok-sync.ensures.tells) tells in
    let tells'' : IsTrue (g.D.Disk.tells c.check_length.new.disk) = rw (c.in_ok-check_length.ensures.tells) tells' in
    let tells''' : IsTrue (g.D.Disk.tells c.check_headers.new.disk) = rw (c.in_ok-header.ensures.tells) tells'' in
    let told : IsTrue (g.D.Disk.tells c.check_homes.new.disk) = rw (c.in_ok-check_homes.ensures.tells) tells''' in
    let same : g.D.Disk.seen c.check_length.new.disk ≡ file = c.in_ok-check_length.ensures.quiet.same ∙ c.in_ok-sync.ensures.quiet.same in
    let same' : g.D.Disk.seen c.check_headers.new.disk ≡ file = c.in_ok-header.ensures.quiet.same ∙ same in
    let same'' : g.D.Disk.seen c.check_homes.new.disk ≡ file = c.in_ok-check_homes.ensures.quiet.same ∙ same' in
    let is : header ≡ header_in_force file = c.in_ok-header.ensures.header tells'' ∙ ap header_in_force same in
    let long = subst (λ (s : List ℕ). the_length s ≡ None) c.in_ok-sync.ensures.quiet.same (c.in_ok-check_length.ensures.finds tells') in
    let sound = subst (λ (s : List ℕ). the_header s ≡ None) same (c.in_ok-header.ensures.finds tells'') in
    let homes_sound = subst (λ (s : List ℕ). the_homes header.generation s ≡ None) same' (c.in_ok-check_homes.ensures.finds tells''') in
    let homes_sound' = subst (λ (h : Header). the_homes h.generation file ≡ None) is homes_sound in
    let known_sound = subst (λ (s : List ℕ). the_homes header.generation s ≡ None) (sym same'') homes_sound in
    let roots_sound = subst (λ (s : List ℕ). the_roots header.generation s ≡ None) same'' (c.in_ok-check_roots.ensures.finds told known_sound) in
    let roots_sound' = subst (λ (h : Header). the_roots h.generation file ≡ None) is roots_sound in
    rw (long, sound, homes_sound', roots_sound') refl

pub returns-clause-long : goal.returns-clause-long
returns-clause-long g c = λ tells.
    let file = g.D.Disk.seen c.args.disk.now in
    let tells' : IsTrue (g.D.Disk.tells c.sync.new.self) = rw (c.in_ok-sync.ensures.tells) tells in
    long_enough (length file) (subst (λ (s : List ℕ). the_length s ≡ None) c.in_ok-sync.ensures.quiet.same (c.in_ok-check_length.ensures.finds tells'))
