use Rattle.std.proofs.Common.{◌≡◌, drop}
use Rattle.c_terms.specs.declared.tree.Tree.{Tree}
use Rattle.c_terms.specs.Names.{listed_names}
use Rattle.smpl_body.specs.Spelled.{IsFirst}
use Rattle.smpl_body.proofs.reading.read_first.Given as goal

abbrev pub invariant-loop-form : goal.invariant-loop-form
invariant-loop-form l = record {
  into : (t : Tree) → IsFirst (drop l.form-index l.forms) l.tokens t → IsFirst l.forms l.tokens t;
  from : (t : Tree) → IsFirst l.forms l.tokens t → IsFirst (drop l.form-index l.forms) l.tokens t;
  names : l.names ≡ listed_names;
}
