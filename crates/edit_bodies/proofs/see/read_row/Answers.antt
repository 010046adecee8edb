use Rattle.edit_bodies.proofs.ReadLemmas.{read_none, read_some}
use Rattle.edit_bodies.proofs.see.read_row.Goals as goal

pub returns-in-Ok : goal.returns-in-Ok
returns-in-Ok c = read_some c.args.names.now c.args.tokens.now c.in-Ok.tree c.in-Ok.ensures.reads

pub returns-in-Err-NoTree : goal.returns-in-Err-NoTree
returns-in-Err-NoTree c =
    read_none c.args.names.now c.args.tokens.now c.in-Err-NoTree.field-0 c.in-Err-NoTree.ensures.reads c.in-Err-NoTree.field-0-is
