use Rattle.std.proofs.Common.{◌≡◌, false}
use Rattle.iso_file.specs.Stepped.{is_no_memory}
use Rattle.iso_file.proofs.VarLemmas.{none_of}
use Rattle.iso_file.proofs.vars.no_vars.Goals as goal

pub returns : goal.returns
returns c =
    let other : is_no_memory c.args.fault ≡ false = cc (c.is_no_memory.ensures, c.if-is_no_memory.false) in
    none_of c.ranges_have_one_tree.ensures c.args.tokens.now c.args.fault other c.requires
