use Rattle.std.proofs.Common.{◌∙◌}
use Rattle.c_expr.proofs.OperandLemmas.{leaf_operand, leaf_only, leaf_empty}
use Rattle.c_expr.proofs.parse.take_leaf.Goals as goal

pub returns-in_ok-token-in-len1-up-clause-found : goal.returns-in_ok-token-in-len1-up-clause-found
returns-in_ok-token-in-len1-up-clause-found c =
    leaf_operand c.args.kind c.args.rest.now c.seen-item.result c.in_ok-token-in-len1-up.token c.requires
    c.in-len1-up.len_at_least c.seen-item.is (c.in_ok-token-in-len1-up.ensures.same ∙ c.token.ensures.value)

pub returns-in_ok-token-in-len1-up-clause-only : goal.returns-in_ok-token-in-len1-up-clause-only
returns-in_ok-token-in-len1-up-clause-only c =
    leaf_only c.args.most c.args.kind c.args.rest.now c.seen-item.result c.in_ok-token-in-len1-up.token c.requires
    c.seen-item.is (c.in_ok-token-in-len1-up.ensures.same ∙ c.token.ensures.value)

pub returns-in-empty-clause-refused : goal.returns-in-empty-clause-refused
returns-in-empty-clause-refused c = leaf_empty c.args.most c.args.kind c.args.rest.now c.in-empty.len_below c.requires
