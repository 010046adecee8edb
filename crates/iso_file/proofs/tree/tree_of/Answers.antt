use Rattle.std.proofs.Common.{◌≡◌, ◌∙◌, map}
use Rattle.std.proofs.lemmas.Result.{IfOk-weaker}
use Rattle.smpl_meta.specs.Patterns.{made}
use Rattle.iso_file.specs.Isos.{IsSide}
use Rattle.iso_file.specs.Stepped.{Decides, Tells}
use Rattle.iso_file.proofs.Trees.{decides}
use Rattle.iso_file.proofs.tree.tree_of.Goals as goal

pub returns : goal.returns
returns c =
    let vars = c.args.vars.now in
    let side = c.args.side.now in
    let r = c.parse_expr.result in
    let same : c.as_slice-tokens.result.now ≡ map (made vars 0) side = c.as_slice-tokens.ensures ∙ c.in_ok-tokens.ensures in
    IfOk-weaker c.answered.result (λ found. Tells r found) (λ tree. Decides (IsSide vars side) tree)
    (λ found e. decides vars side c.as_slice-tokens.result.now c.args.names.now r found same c.requires c.parse_expr.ensures.reads e) c.answered.ensures
