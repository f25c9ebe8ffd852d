use Rattle.std.proofs.Common.{◌≡◌, ◌≢◌, ℕ, ◌⊎◌, Result, Ok, Err, refl, sym, ap, subst, ◌∙◌, inl, inr, ⊎_elim}
use Rattle.mp_desk.specs.declared.halts.BackHalt.{BackHalt}
use Rattle.mp_desk.specs.declared.halts.BackHalt.TheVariants as backs
use Rattle.mp_primary.proofs.GoneBack.{open_asked, formers_asked, once_asked, within_asked, few_asked, agrees_asked, counts_out, failed_quietly, failed_leaves, agrees_then, agree_then, refused_quietly, refused_leaves, gone_quietly, up_then, all_back, leaves, media_asked, media_still}
use Rattle.mp_primary.proofs.primary.Primary.go_back.Goals as goal

pub go_back-went-requires-clause-open : goal.go_back-went-requires-clause-open
go_back-went-requires-clause-open g c = open_asked g.D.Disk c.args.shared.now _ c.args.self.now c.self.view_is c.args.node.now c.requires.stands c.requires.up c.args.number c.args.id c.requires.back

pub go_back-went-requires-clause-formers : goal.go_back-went-requires-clause-formers
go_back-went-requires-clause-formers g c = formers_asked g.D.Disk c.args.shared.now _ c.args.self.now c.self.view_is c.args.node.now c.requires.stands c.requires.up c.args.number c.args.id c.requires.back c.index.result.now c.index-2.result.now c.as_slice.result.now c.index.ensures c.index-2.ensures c.as_slice.ensures

pub go_back-went-requires-clause-once : goal.go_back-went-requires-clause-once
go_back-went-requires-clause-once g c = once_asked g.D.Disk c.args.shared.now _ c.args.self.now c.self.view_is c.args.node.now c.requires.stands c.requires.up c.args.number c.args.id c.requires.back c.index.result.now c.index-2.result.now c.as_slice.result.now c.index.ensures c.index-2.ensures c.as_slice.ensures

pub go_back-went-requires-clause-within : goal.go_back-went-requires-clause-within
go_back-went-requires-clause-within g c = within_asked g.D.Disk c.args.shared.now _ c.args.self.now c.self.view_is c.args.node.now c.requires.stands c.requires.up c.args.number c.args.id c.requires.back c.index.result.now c.index-2.result.now c.as_slice.result.now c.index.ensures c.index-2.ensures c.as_slice.ensures

pub go_back-went-requires-clause-few : goal.go_back-went-requires-clause-few
go_back-went-requires-clause-few g c = few_asked g.D.Disk c.args.shared.now _ c.args.self.now c.self.view_is c.args.node.now c.requires.stands c.requires.up c.args.number c.args.id c.requires.back c.index.result.now c.index-2.result.now c.as_slice.result.now c.index.ensures c.index-2.ensures c.as_slice.ensures

pub go_back-went-requires-clause-agrees : goal.go_back-went-requires-clause-agrees
go_back-went-requires-clause-agrees g c = agrees_asked g.D.Disk c.args.shared.now _ c.args.self.now c.self.view_is c.args.node.now c.requires.stands c.requires.up c.args.number c.args.id c.requires.back

pub returns-then-has_failed-clause-quiet : goal.returns-then-has_failed-clause-quiet
returns-then-has_failed-clause-quiet g c =
    let is = c.has_failed.ensures.yes c.if-has_failed.true in
    failed_quietly g.D.Disk c.args.shared.now _ c.args.self.now c.self.view_is c.args.node.now c.requires.stands c.requires.up c.args.number c.args.id c.requires.back c.index.result.now c.index-2.result.now c.as_slice.result.now c.index.ensures c.index-2.ensures c.as_slice.ensures c.go_back-went.new.self c.go_back-went.new.media c.go_back-went.new.node c.go_back-went.new.restored c.count_back.new.self _ c.count_back.ensures.counts c.count_back.ensures.rest c.self-2.view_is c.go_back-went.ensures.desk c.go_back-went.ensures.own c.go_back-went.ensures.back c.go_back-went.ensures.counted c.go_back-went.ensures.tells (c.go_back-went.ensures.failed is).1 (c.go_back-went.ensures.down _ (media_asked g.D.Disk c.args.shared.now _ c.args.self.now c.self.view_is c.args.node.now c.requires.stands c.requires.up c.args.number c.args.id c.requires.back) is)

pub returns-then-has_failed-clause-counts : goal.returns-then-has_failed-clause-counts
returns-then-has_failed-clause-counts g c = counts_out g.D.Disk c.args.shared.now _ c.args.self.now c.self.view_is c.args.node.now c.requires.stands c.requires.up c.args.number c.args.id c.requires.back c.index.result.now c.index-2.result.now c.as_slice.result.now c.index.ensures c.index-2.ensures c.as_slice.ensures c.go_back-went.new.self c.go_back-went.new.media c.go_back-went.new.node c.go_back-went.new.restored c.count_back.new.self _ c.count_back.ensures.counts c.count_back.ensures.rest c.self-2.view_is c.go_back-went.ensures.desk c.go_back-went.ensures.own c.go_back-went.ensures.back c.go_back-went.ensures.counted c.go_back-went.ensures.tells

pub returns-then-has_failed-clause-cause : goal.returns-then-has_failed-clause-cause
returns-then-has_failed-clause-cause g c = failed_leaves g.D.Disk c.args.shared.now _ c.args.self.now c.self.view_is c.args.node.now c.requires.stands c.requires.up c.args.number c.args.id c.requires.back c.index.result.now c.index-2.result.now c.as_slice.result.now c.index.ensures c.index-2.ensures c.as_slice.ensures c.go_back-went.new.self c.go_back-went.new.media c.go_back-went.new.node c.go_back-went.new.restored c.count_back.new.self _ c.count_back.ensures.counts c.count_back.ensures.rest c.self-2.view_is c.go_back-went.ensures.desk c.go_back-went.ensures.own c.go_back-went.ensures.back c.go_back-went.ensures.counted c.go_back-went.ensures.tells (c.go_back-went.ensures.failed (c.has_failed.ensures.yes c.if-has_failed.true)).1

pub let_go-requires-clause-agrees : goal.let_go-requires-clause-agrees
let_go-requires-clause-agrees g c = agrees_then g.D.Disk c.args.shared.now _ c.args.self.now c.self.view_is c.args.node.now c.requires.stands c.requires.up c.args.number c.args.id c.requires.back c.index.result.now c.index-2.result.now c.as_slice.result.now c.index.ensures c.index-2.ensures c.as_slice.ensures c.go_back-went.new.self c.go_back-went.new.media c.go_back-went.new.node c.go_back-went.new.restored c.count_back.new.self _ c.count_back.ensures.counts c.count_back.ensures.rest c.self-2.view_is c.go_back-went.ensures.desk c.go_back-went.ensures.own c.go_back-went.ensures.back c.go_back-went.ensures.counted c.go_back-went.ensures.tells (media_still g.D.Disk c.args.shared.now _ c.args.self.now c.self.view_is c.args.node.now c.requires.stands c.requires.up c.args.number c.args.id c.requires.back c.index.result.now c.index-2.result.now c.as_slice.result.now c.index.ensures c.index-2.ensures c.as_slice.ensures c.go_back-went.new.self c.go_back-went.new.media c.go_back-went.new.node c.go_back-went.new.restored c.count_back.new.self _ c.count_back.ensures.counts c.count_back.ensures.rest c.self-2.view_is c.go_back-went.ensures.desk c.go_back-went.ensures.own c.go_back-went.ensures.back c.go_back-went.ensures.counted c.go_back-went.ensures.tells c.go_back-went.result (c.has_failed.ensures.no c.if-has_failed.false) (c.go_back-went.ensures.media _ (media_asked g.D.Disk c.args.shared.now _ c.args.self.now c.self.view_is c.args.node.now c.requires.stands c.requires.up c.args.number c.args.id c.requires.back)))

pub returns-in-Err-clause-quiet : goal.returns-in-Err-clause-quiet
returns-in-Err-clause-quiet g c = refused_quietly g.D.Disk c.args.shared.now _ c.args.self.now c.self.view_is c.args.node.now c.requires.stands c.requires.up c.args.number c.args.id c.requires.back c.index.result.now c.index-2.result.now c.as_slice.result.now c.index.ensures c.index-2.ensures c.as_slice.ensures c.go_back-went.new.self c.go_back-went.new.media c.go_back-went.new.node c.go_back-went.new.restored c.count_back.new.self _ c.count_back.ensures.counts c.count_back.ensures.rest c.self-2.view_is c.go_back-went.ensures.desk c.go_back-went.ensures.own c.go_back-went.ensures.back c.go_back-went.ensures.counted c.go_back-went.ensures.tells (media_still g.D.Disk c.args.shared.now _ c.args.self.now c.self.view_is c.args.node.now c.requires.stands c.requires.up c.args.number c.args.id c.requires.back c.index.result.now c.index-2.result.now c.as_slice.result.now c.index.ensures c.index-2.ensures c.as_slice.ensures c.go_back-went.new.self c.go_back-went.new.media c.go_back-went.new.node c.go_back-went.new.restored c.count_back.new.self _ c.count_back.ensures.counts c.count_back.ensures.rest c.self-2.view_is c.go_back-went.ensures.desk c.go_back-went.ensures.own c.go_back-went.ensures.back c.go_back-went.ensures.counted c.go_back-went.ensures.tells c.go_back-went.result (c.has_failed.ensures.no c.if-has_failed.false) (c.go_back-went.ensures.media _ (media_asked g.D.Disk c.args.shared.now _ c.args.self.now c.self.view_is c.args.node.now c.requires.stands c.requires.up c.args.number c.args.id c.requires.back))) c.let_go.new.self c.let_go.new.media c.let_go.new.node c.let_go.ensures.desk c.let_go.ensures.counts.no_fall c.let_go.ensures.tells c.in-Err.ensures.refused c.in-Err.ensures.counts.cause (c.in-Err.ensures.media _ (agree_then g.D.Disk c.args.shared.now _ c.args.self.now c.self.view_is c.args.node.now c.requires.stands c.requires.up c.args.number c.args.id c.requires.back c.index.result.now c.index-2.result.now c.as_slice.result.now c.index.ensures c.index-2.ensures c.as_slice.ensures c.go_back-went.new.self c.go_back-went.new.media c.go_back-went.new.node c.go_back-went.new.restored c.count_back.new.self _ c.count_back.ensures.counts c.count_back.ensures.rest c.self-2.view_is c.go_back-went.ensures.desk c.go_back-went.ensures.own c.go_back-went.ensures.back c.go_back-went.ensures.counted c.go_back-went.ensures.tells (media_still g.D.Disk c.args.shared.now _ c.args.self.now c.self.view_is c.args.node.now c.requires.stands c.requires.up c.args.number c.args.id c.requires.back c.index.result.now c.index-2.result.now c.as_slice.result.now c.index.ensures c.index-2.ensures c.as_slice.ensures c.go_back-went.new.self c.go_back-went.new.media c.go_back-went.new.node c.go_back-went.new.restored c.count_back.new.self _ c.count_back.ensures.counts c.count_back.ensures.rest c.self-2.view_is c.go_back-went.ensures.desk c.go_back-went.ensures.own c.go_back-went.ensures.back c.go_back-went.ensures.counted c.go_back-went.ensures.tells c.go_back-went.result (c.has_failed.ensures.no c.if-has_failed.false) (c.go_back-went.ensures.media _ (media_asked g.D.Disk c.args.shared.now _ c.args.self.now c.self.view_is c.args.node.now c.requires.stands c.requires.up c.args.number c.args.id c.requires.back))))).1

pub returns-in-Err-clause-counts : goal.returns-in-Err-clause-counts
returns-in-Err-clause-counts g c = counts_out g.D.Disk c.args.shared.now _ c.args.self.now c.self.view_is c.args.node.now c.requires.stands c.requires.up c.args.number c.args.id c.requires.back c.index.result.now c.index-2.result.now c.as_slice.result.now c.index.ensures c.index-2.ensures c.as_slice.ensures c.go_back-went.new.self c.go_back-went.new.media c.go_back-went.new.node c.go_back-went.new.restored c.count_back.new.self _ c.count_back.ensures.counts c.count_back.ensures.rest c.self-2.view_is c.go_back-went.ensures.desk c.go_back-went.ensures.own c.go_back-went.ensures.back c.go_back-went.ensures.counted c.go_back-went.ensures.tells

pub returns-in-Err-clause-cause : goal.returns-in-Err-clause-cause
returns-in-Err-clause-cause g c = refused_leaves g.D.Disk c.args.shared.now _ c.args.self.now c.self.view_is c.args.node.now c.requires.stands c.requires.up c.args.number c.args.id c.requires.back c.index.result.now c.index-2.result.now c.as_slice.result.now c.index.ensures c.index-2.ensures c.as_slice.ensures c.go_back-went.new.self c.go_back-went.new.media c.go_back-went.new.node c.go_back-went.new.restored c.count_back.new.self _ c.count_back.ensures.counts c.count_back.ensures.rest c.self-2.view_is c.go_back-went.ensures.desk c.go_back-went.ensures.own c.go_back-went.ensures.back c.go_back-went.ensures.counted c.go_back-went.ensures.tells (media_still g.D.Disk c.args.shared.now _ c.args.self.now c.self.view_is c.args.node.now c.requires.stands c.requires.up c.args.number c.args.id c.requires.back c.index.result.now c.index-2.result.now c.as_slice.result.now c.index.ensures c.index-2.ensures c.as_slice.ensures c.go_back-went.new.self c.go_back-went.new.media c.go_back-went.new.node c.go_back-went.new.restored c.count_back.new.self _ c.count_back.ensures.counts c.count_back.ensures.rest c.self-2.view_is c.go_back-went.ensures.desk c.go_back-went.ensures.own c.go_back-went.ensures.back c.go_back-went.ensures.counted c.go_back-went.ensures.tells c.go_back-went.result (c.has_failed.ensures.no c.if-has_failed.false) (c.go_back-went.ensures.media _ (media_asked g.D.Disk c.args.shared.now _ c.args.self.now c.self.view_is c.args.node.now c.requires.stands c.requires.up c.args.number c.args.id c.requires.back))) c.let_go.new.self c.let_go.new.media c.let_go.new.node c.let_go.ensures.desk c.let_go.ensures.counts.no_fall c.let_go.ensures.tells c.in-Err.ensures.refused c.in-Err.ensures.counts.cause

pub returns-clause-quiet : goal.returns-clause-quiet
returns-clause-quiet g c = gone_quietly g.D.Disk c.args.shared.now _ c.args.self.now c.self.view_is c.args.node.now c.requires.stands c.requires.up c.args.number c.args.id c.requires.back c.index.result.now c.index-2.result.now c.as_slice.result.now c.index.ensures c.index-2.ensures c.as_slice.ensures c.go_back-went.new.self c.go_back-went.new.media c.go_back-went.new.node c.go_back-went.new.restored c.count_back.new.self _ c.count_back.ensures.counts c.count_back.ensures.rest c.self-2.view_is c.go_back-went.ensures.desk c.go_back-went.ensures.own c.go_back-went.ensures.back c.go_back-went.ensures.counted c.go_back-went.ensures.tells (media_still g.D.Disk c.args.shared.now _ c.args.self.now c.self.view_is c.args.node.now c.requires.stands c.requires.up c.args.number c.args.id c.requires.back c.index.result.now c.index-2.result.now c.as_slice.result.now c.index.ensures c.index-2.ensures c.as_slice.ensures c.go_back-went.new.self c.go_back-went.new.media c.go_back-went.new.node c.go_back-went.new.restored c.count_back.new.self _ c.count_back.ensures.counts c.count_back.ensures.rest c.self-2.view_is c.go_back-went.ensures.desk c.go_back-went.ensures.own c.go_back-went.ensures.back c.go_back-went.ensures.counted c.go_back-went.ensures.tells c.go_back-went.result (c.has_failed.ensures.no c.if-has_failed.false) (c.go_back-went.ensures.media _ (media_asked g.D.Disk c.args.shared.now _ c.args.self.now c.self.view_is c.args.node.now c.requires.stands c.requires.up c.args.number c.args.id c.requires.back))) c.let_go.new.self c.let_go.new.media c.let_go.new.node c.let_go.ensures.desk c.let_go.ensures.counts.no_fall c.let_go.ensures.tells c.in_default.ensures.emptied c.in_default.ensures.gone (c.in_default.ensures.media _ (agree_then g.D.Disk c.args.shared.now _ c.args.self.now c.self.view_is c.args.node.now c.requires.stands c.requires.up c.args.number c.args.id c.requires.back c.index.result.now c.index-2.result.now c.as_slice.result.now c.index.ensures c.index-2.ensures c.as_slice.ensures c.go_back-went.new.self c.go_back-went.new.media c.go_back-went.new.node c.go_back-went.new.restored c.count_back.new.self _ c.count_back.ensures.counts c.count_back.ensures.rest c.self-2.view_is c.go_back-went.ensures.desk c.go_back-went.ensures.own c.go_back-went.ensures.back c.go_back-went.ensures.counted c.go_back-went.ensures.tells (media_still g.D.Disk c.args.shared.now _ c.args.self.now c.self.view_is c.args.node.now c.requires.stands c.requires.up c.args.number c.args.id c.requires.back c.index.result.now c.index-2.result.now c.as_slice.result.now c.index.ensures c.index-2.ensures c.as_slice.ensures c.go_back-went.new.self c.go_back-went.new.media c.go_back-went.new.node c.go_back-went.new.restored c.count_back.new.self _ c.count_back.ensures.counts c.count_back.ensures.rest c.self-2.view_is c.go_back-went.ensures.desk c.go_back-went.ensures.own c.go_back-went.ensures.back c.go_back-went.ensures.counted c.go_back-went.ensures.tells c.go_back-went.result (c.has_failed.ensures.no c.if-has_failed.false) (c.go_back-went.ensures.media _ (media_asked g.D.Disk c.args.shared.now _ c.args.self.now c.self.view_is c.args.node.now c.requires.stands c.requires.up c.args.number c.args.id c.requires.back))))).0 c.in_default.ensures.open c.in_default.ensures.unforced

pub returns-clause-counts : goal.returns-clause-counts
returns-clause-counts g c = counts_out g.D.Disk c.args.shared.now _ c.args.self.now c.self.view_is c.args.node.now c.requires.stands c.requires.up c.args.number c.args.id c.requires.back c.index.result.now c.index-2.result.now c.as_slice.result.now c.index.ensures c.index-2.ensures c.as_slice.ensures c.go_back-went.new.self c.go_back-went.new.media c.go_back-went.new.node c.go_back-went.new.restored c.count_back.new.self _ c.count_back.ensures.counts c.count_back.ensures.rest c.self-2.view_is c.go_back-went.ensures.desk c.go_back-went.ensures.own c.go_back-went.ensures.back c.go_back-went.ensures.counted c.go_back-went.ensures.tells

pub returns-clause-all : goal.returns-clause-all
returns-clause-all g c = all_back g.D.Disk c.args.shared.now _ c.args.self.now c.self.view_is c.args.node.now c.requires.stands c.requires.up c.args.number c.args.id c.requires.back c.index.result.now c.index-2.result.now c.as_slice.result.now c.index.ensures c.index-2.ensures c.as_slice.ensures c.go_back-went.new.self c.go_back-went.new.media c.go_back-went.new.node c.go_back-went.new.restored c.count_back.new.self _ c.count_back.ensures.counts c.count_back.ensures.rest c.self-2.view_is c.go_back-went.ensures.desk c.go_back-went.ensures.own c.go_back-went.ensures.back c.go_back-went.ensures.counted c.go_back-went.ensures.tells (media_still g.D.Disk c.args.shared.now _ c.args.self.now c.self.view_is c.args.node.now c.requires.stands c.requires.up c.args.number c.args.id c.requires.back c.index.result.now c.index-2.result.now c.as_slice.result.now c.index.ensures c.index-2.ensures c.as_slice.ensures c.go_back-went.new.self c.go_back-went.new.media c.go_back-went.new.node c.go_back-went.new.restored c.count_back.new.self _ c.count_back.ensures.counts c.count_back.ensures.rest c.self-2.view_is c.go_back-went.ensures.desk c.go_back-went.ensures.own c.go_back-went.ensures.back c.go_back-went.ensures.counted c.go_back-went.ensures.tells c.go_back-went.result (c.has_failed.ensures.no c.if-has_failed.false) (c.go_back-went.ensures.media _ (media_asked g.D.Disk c.args.shared.now _ c.args.self.now c.self.view_is c.args.node.now c.requires.stands c.requires.up c.args.number c.args.id c.requires.back))) c.let_go.new.self c.let_go.new.media c.let_go.new.node c.let_go.ensures.desk c.let_go.ensures.counts.no_fall c.let_go.ensures.tells c.in_default.ensures.emptied c.in_default.ensures.gone c.go_back-went.result c.go_back-went.ensures.all

pub returns-clause-cause : goal.returns-clause-cause
returns-clause-cause g c = leaves g.D.Disk c.args.shared.now _ c.args.self.now c.self.view_is c.args.node.now c.requires.stands c.requires.up c.args.number c.args.id c.requires.back c.index.result.now c.index-2.result.now c.as_slice.result.now c.index.ensures c.index-2.ensures c.as_slice.ensures c.go_back-went.new.self c.go_back-went.new.media c.go_back-went.new.node c.go_back-went.new.restored c.count_back.new.self _ c.count_back.ensures.counts c.count_back.ensures.rest c.self-2.view_is c.go_back-went.ensures.desk c.go_back-went.ensures.own c.go_back-went.ensures.back c.go_back-went.ensures.counted c.go_back-went.ensures.tells (media_still g.D.Disk c.args.shared.now _ c.args.self.now c.self.view_is c.args.node.now c.requires.stands c.requires.up c.args.number c.args.id c.requires.back c.index.result.now c.index-2.result.now c.as_slice.result.now c.index.ensures c.index-2.ensures c.as_slice.ensures c.go_back-went.new.self c.go_back-went.new.media c.go_back-went.new.node c.go_back-went.new.restored c.count_back.new.self _ c.count_back.ensures.counts c.count_back.ensures.rest c.self-2.view_is c.go_back-went.ensures.desk c.go_back-went.ensures.own c.go_back-went.ensures.back c.go_back-went.ensures.counted c.go_back-went.ensures.tells c.go_back-went.result (c.has_failed.ensures.no c.if-has_failed.false) (c.go_back-went.ensures.media _ (media_asked g.D.Disk c.args.shared.now _ c.args.self.now c.self.view_is c.args.node.now c.requires.stands c.requires.up c.args.number c.args.id c.requires.back))) c.let_go.new.self c.let_go.new.media c.let_go.new.node c.let_go.ensures.desk c.let_go.ensures.counts.no_fall c.let_go.ensures.tells c.in_default.ensures.emptied c.in_default.ensures.gone c.go_back-went.result (c.has_failed.ensures.no c.if-has_failed.false) c.go_back-went.ensures.cause
