use Rattle.std.proofs.Common.{◌≡◌, Ok, Err}
use Rattle.c_expr.specs.declared.fault.ParseFault.TheVariants.{NoTree, TooDeep}
use Rattle.smpl_places.proofs.UnspelledLemmas.{IsRead, is_read, tells_tree, tells_none, tells_deep}
use Rattle.smpl_places.proofs.code.is_spelled.Goals as goal
use Rattle.smpl_places.proofs.code.is_spelled.Goals.{in-Ok, in-Err-NoTree, in-Err-TooDeep, in-Err-NoMemory}

pub returns : goal.returns
returns c =
    let tokens = c.args.tokens.now in
    let r = c.parse_kind.result in
    let read : IsRead tokens r = is_read c.args.names.now tokens r c.requires c.parse_kind.ensures.reads in
    elim c.match-parse_kind.branch [
      | in-Ok w ↦ rw w.result-is (tells_tree tokens r w.in-Ok.field-0 read w.in-Ok.is)
      | in-Err-NoTree w ↦ rw w.result-is (let e : r ≡ Err NoTree = cc in tells_none tokens r read e)
      | in-Err-TooDeep w ↦ rw w.result-is (let e : r ≡ Err TooDeep = cc in tells_deep tokens r read e)
      | in-Err-NoMemory w ↦ rw w.result-is tt
    ]
