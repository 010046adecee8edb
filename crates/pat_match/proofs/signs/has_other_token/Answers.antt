use Rattle.pat_match.proofs.Pieces.{all_fit-other}
use Rattle.pat_match.proofs.signs.has_other_token.Goals as goal

pub returns-then-is_other_token : goal.returns-then-is_other_token
returns-then-is_other_token c = λ _ decls tokens types env. all_fit-other decls tokens types env c.args.forms.now c.args.trees.now c.loop-i.i
    c.index-forms-i.result c.index-trees-i.result c.loop-i-test.true c.requires.even c.index-forms-i.is c.index-trees-i.is
    (c.is_other_token.ensures c.if-is_other_token.true decls tokens types env)
