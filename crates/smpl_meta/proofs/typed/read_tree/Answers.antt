use Rattle.std.proofs.Common.{◌≡◌, Ok, Err}
use Rattle.c_expr.specs.declared.fault.ParseFault.TheVariants.{NoTree, TooDeep}
use Rattle.smpl_meta.proofs.TypedLemmas.{reads-all, read-found, read-no_tree, read-too_deep}
use Rattle.smpl_meta.proofs.typed.read_tree.Goals as goal

pub returns-in-Ok : goal.returns-in-Ok
returns-in-Ok c =
    read-found c.args.kind c.args.tokens.now c.in-Ok.tree
    (reads-all c.args.kind c.args.names.now c.args.tokens.now (Ok c.in-Ok.tree) c.requires.listed c.in-Ok.ensures.reads)

pub returns-in-Err-NoTree : goal.returns-in-Err-NoTree
returns-in-Err-NoTree c =
    let e : c.parse_kind.result ≡ Err NoTree = rw c.in-Err-NoTree.field-0-is at c.in-Err-NoTree.is in
    read-no_tree c.args.kind c.args.tokens.now c.parse_kind.result
    (reads-all c.args.kind c.args.names.now c.args.tokens.now c.parse_kind.result c.requires.listed c.parse_kind.ensures.reads) e

pub returns-in-Err-TooDeep : goal.returns-in-Err-TooDeep
returns-in-Err-TooDeep c =
    let e : c.parse_kind.result ≡ Err TooDeep = rw c.in-Err-TooDeep.field-0-is at c.in-Err-TooDeep.is in
    read-too_deep c.args.kind c.args.tokens.now c.parse_kind.result
    (reads-all c.args.kind c.args.names.now c.args.tokens.now c.parse_kind.result c.requires.listed c.parse_kind.ensures.reads) e
