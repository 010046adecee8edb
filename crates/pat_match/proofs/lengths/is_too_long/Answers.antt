use Rattle.std.proofs.Common.{sym, ◌∙◌}
use Rattle.pat_match.proofs.LengthLemmas.{too_long}
use Rattle.pat_match.proofs.lengths.is_too_long.Goals as goal

pub returns : goal.returns
returns c = λ h decls tokens types env. too_long decls tokens types c.args.label env c.args.forms.now c.args.trees.now
    (sym c.has_wild.ensures ∙ c.if-has_wild.false) (c.has_more_members.ensures h)
