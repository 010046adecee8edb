use Rattle.std.proofs.Common.{sym}
use Rattle.pat_match.proofs.LiveLemmas.{first_is_live}
use Rattle.pat_match.proofs.live.is_live_at.Goals as goal

pub returns-then-form-eq0 : goal.returns-then-form-eq0
returns-then-form-eq0 c = sym (first_is_live c.args.context.now.decls.now c.args.context.now.tokens.now c.args.form.now.pattern.now
    c.args.form.now.number c.args.form.now.tree.now
    c.if-form-eq0.true c.requires.within c.requires.form)
