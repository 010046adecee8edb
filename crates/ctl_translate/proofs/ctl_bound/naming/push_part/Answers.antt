use Rattle.std.proofs.Common.{◌∙◌, sym, ap, Bool, ◌&&◌, ◌||◌, List}
use Rattle.std.specs.Prelude.{nat_eq, slice_get}
use Rattle.smpl_terms.specs.declared.var.Var.{Var}
use Rattle.smpl_patch.specs.Patterns.{sure}
use Rattle.pattern_vars.specs.Reads.{has}
use Rattle.ctl_formula.specs.declared.node.Node.{Node}
use Rattle.ctl_translate.specs.CtlBound.Naming.{names, is_marked}
use Rattle.ctl_translate.proofs.CtlBound.NamingLemmas.{has-numbered, some-same}
use Rattle.ctl_translate.proofs.ctl_bound.naming.push_part.Goals as goal

pub returns : goal.returns
returns c = λ x i k n number is.
    let declared = sym (c.requires.vars x) ∙ has-numbered c.args.vars.now x k number in
    let node = some-same c.node.result.now n (slice_get c.args.parts.now c.args.part) c.node.ensures.node is in
    let surely = sure c.args.decls.now c.args.tokens.now in
    c.in_ok-push_marks.ensures x i k number
    ∙ ap (λ (z : Bool). is_marked c.args.marks.now.items i k || (nat_eq c.args.part i && z))
    (c.in_ok-put_names.ensures x declared ∙ ap (λ (z : List Var). has z x || names surely c.node.result.now x) c.new-set.ensures
    ∙ ap (λ (z : Node). names surely z x) node)
