use Rattle.std.proofs.Common.{ap, ◌∙◌, ◌||◌, List, Some}
use Rattle.std.specs.List.{list_any}
use Rattle.smpl_terms.specs.declared.var.Var.{Var}
use Rattle.smpl_patch.specs.declared.pattern.VarDecl.{VarDecl}
use Rattle.smpl_patch.specs.declared.pattern.PatToken.{PatToken}
use Rattle.smpl_patch.specs.Patterns.{in_plus}
use Rattle.pattern_vars.specs.Reads.{has}
use Rattle.smpl_file.proofs.smpl_check.plus.in_plus_code.Goals as goal

pub returns : goal.returns
returns c x =
    let ts = c.as_slice-tokens.result.now in
    c.in_ok-put_tokens.ensures x
    ∙ ap (λ (vs : List Var). has vs x || list_any (λ t. in_plus c.in_ok-known.known (Some t) x) ts) c.new-set.ensures
    ∙ ap (λ (ds : List VarDecl). list_any (λ t. in_plus ds (Some t) x) ts) (c.in_ok-known.ensures ∙ c.in_ok-decls.ensures ∙ c.as_slice.ensures)
    ∙ ap (λ (us : List PatToken). list_any (λ t. in_plus c.args.rule.now.vars (Some t) x) us) c.as_slice-tokens.ensures
