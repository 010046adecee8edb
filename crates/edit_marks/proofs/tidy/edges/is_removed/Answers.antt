use Rattle.std.proofs.Common.{◌∙◌, sym, arith}
use Rattle.edit_marks.proofs.Tidied.RemovedLemmas.{any_none, is_found}
use Rattle.edit_marks.proofs.tidy.edges.is_removed.Goals as goal

pub returns-then-token : goal.returns-then-token
returns-then-token c = sym (any_none c.args.removed.now c.args.token (λ i less is. omega (arith, c.if-token.true, c.type_inv.removed i, is)))

pub returns : goal.returns
returns c = c.is_ok.ensures.value ∙ is_found c.args.removed.now c.args.token c.binary_search.result c.binary_search.ensures.position c.requires
