use Rattle.std.proofs.Common.{◌≡◌, ◌||◌, drop}
use Rattle.c_terms.specs.declared.tree.Tree.{Tree}
use Rattle.c_terms.specs.Names.{has_name}
use Rattle.iso_expand.specs.IsoForms.Spelled.{spelled}
use Rattle.iso_expand.specs.IsoForms.Forms.{is_among}
use Rattle.iso_expand.proofs.iso_forms.listed.Seen.of.Given as goal

abbrev pub invariant-loop-tree : goal.invariant-loop-tree
invariant-loop-tree l = (t : Tree) → has_name l.seen (spelled t) || is_among (drop l.tree-index l.list) t ≡ is_among l.list t
