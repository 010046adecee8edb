use Rattle.std.proofs.Common.{◌≡◌, refl, arith, Ok, Err}
use Rattle.c_expr.specs.declared.fault.ParseFault.TheVariants.{NoTree}
use Rattle.c_file.proofs.ReadLemmas.{reads-whole, shallow-of-Ok, shallow-of-NoTree}
use Rattle.c_file.proofs.item.read_item.Goals as goal

pub returns-in-Ok : goal.returns-in-Ok
returns-in-Ok c =
    let h = reads-whole c.args.names.now c.args.tokens.now (Ok c.in-Ok.tree) c.in-Ok.ensures.reads in (
      refl,
      shallow-of-Ok c.args.names.now c.args.tokens.now c.in-Ok.tree h,
      c.in-Ok.tree,
      h.found,
      omega (arith, c.count_nodes.ensures.value, c.if-count_nodes-gt-MOST_NODES.true),
    )

pub returns-in-Ok-2 : goal.returns-in-Ok-2
returns-in-Ok-2 c =
    let h = reads-whole c.args.names.now c.args.tokens.now (Ok c.in-Ok.tree) c.in-Ok.ensures.reads in
    (shallow-of-Ok c.args.names.now c.args.tokens.now c.in-Ok.tree h, h.found, omega (arith, c.count_nodes.ensures.value, c.if-count_nodes-gt-MOST_NODES.false))

pub returns-in-Err-NoTree : goal.returns-in-Err-NoTree
returns-in-Err-NoTree c =
    let e : c.parse_item.result ≡ Err NoTree = rw c.in-Err-NoTree.field-0-is at c.in-Err-NoTree.is in
    let h = reads-whole c.args.names.now c.args.tokens.now c.parse_item.result c.parse_item.ensures.reads in
    (refl, shallow-of-NoTree c.args.names.now c.args.tokens.now c.parse_item.result h e, h.no_tree e)
