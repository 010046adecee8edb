use Rattle.std.proofs.Common.{◌≡◌, length, sym, subst, arith}
use Rattle.ctl_fixpoint.specs.States.{AreStateSets}
use Rattle.ctl_fixpoint.specs.Steps.{IsRowBy, AreRowsTo}
use Rattle.ctl_fixpoint.proofs.StepLemmas.{rows_none, rows_more, rows_all}
use Rattle.ctl_fixpoint.proofs.part.sat.Goals as goal

pub loop-i-init : goal.loop-i-init
loop-i-init c =
    let f = c.args.f.now in
    subst (λ rows. AreRowsTo c.args.g.now.graph.now f.nodes f.decls f.tokens 0 rows) (sym c.in_ok-rows.ensures.items)
    (rows_none c.args.g.now.graph.now c.args.g.now.sound f.nodes f.decls f.tokens)

pub loop-i-preserved : goal.loop-i-preserved
loop-i-preserved c =
    let g = c.args.g.now.graph.now in
    let f = c.args.f.now in
    let node = c.node.result.now in
    rows_more g c.args.g.now.sound f.nodes f.decls f.tokens c.loop-i.i c.loop-i.rows.items c.push.new.self.items
    c.in_ok-of.field-0 node c.loop-i.invariant c.node.ensures.kids c.node.ensures.is
    (subst (λ row. IsRowBy f.decls f.tokens g c.loop-i.rows.items node row) (sym c.in_ok-of.ensures.sets)
    (subst (λ rows. IsRowBy f.decls f.tokens g rows node c.in_ok-row.row.items) c.deref.ensures.value c.in_ok-row.ensures))
    c.in_ok-push.ensures.items

pub returns : goal.returns
returns c =
    let g = c.args.g.now.graph.now in
    let f = c.args.f.now in
    let all : c.loop-i.i ≡ length f.nodes = omega (arith, c.len-i-end.ensures.len) in
    subst (λ rows. AreStateSets g f rows) (sym c.new.ensures.rows)
    (rows_all g c.args.g.now.sound f c.loop-i.rows.items
    (subst (λ n. AreRowsTo g f.nodes f.decls f.tokens n c.loop-i.rows.items) all c.loop-i.invariant)
    c.root-root.ensures.sound.guarded_by_parts c.requires)
