use Rattle.std.proofs.Common.{◌||◌, List, sym, ap, ◌∙◌}
use Rattle.std.specs.List.{list_any}
use Rattle.c_terms.specs.declared.tree.Tree.{Tree}
use Rattle.smpl_meta.specs.TypeNames.{names_type, is_named_in}
use Rattle.smpl_meta.proofs.NamingLemmas.{named_branch}
use Rattle.smpl_meta.proofs.type_names.TypeNames.+is_named_in.Goals as goal

pub loop-child-init : goal.loop-child-init
loop-child-init t c =
    let types = c.args.self.now in
    let l = c.in-Branch.label in
    ap (λ (cs : List Tree). list_any (λ k. names_type types l k || is_named_in types k) cs) c.as_slice-child-items.ensures
    ∙ sym (ap (is_named_in types) c.in-Branch.is ∙ named_branch types l c.in-Branch.children)
