use Rattle.std.proofs.Common.{◌&&◌, sym, ◌∙◌}
use Rattle.c_terms.specs.Places.{Place}
use Rattle.pat_match.specs.Spots.{seats, fits_at}
use Rattle.pat_match.specs.Roles.{may_stand}
use Rattle.pat_match.specs.Matching.{is_live_in}
use Rattle.pat_match.proofs.InsideLemmas.{no_seat, not_live}
use Rattle.pat_match.proofs.solving.solve_form.Goals as goal

pub returns-then-is_none-clause-meaning : goal.returns-then-is_none-clause-meaning
returns-then-is_none-clause-meaning c = λ env.
    let nothing = c.is_none.ensures c.if-is_none.true env in
    nothing ∙ sym (no_seat (is_live_in c.args.context.now.decls.now c.args.context.now.tokens.now c.args.form.now.pattern.now
    c.args.form.now.tree.now && may_stand c.args.role c.args.form.now.tree.now)
    (λ (s : Place). fits_at c.args.context.now.decls.now c.args.context.now.tokens.now c.args.context.now.types.now env c.args.form.now.pattern.now.spot
    c.args.role.kind c.args.form.now.tree.now s.tree)
    (seats c.args.form.now.pattern.now.spot c.args.role.kind c.args.tree.now) (sym (c.in_ok-set.ensures.meaning env) ∙ nothing))

pub returns-else-may_fit-clause-meaning : goal.returns-else-may_fit-clause-meaning
returns-else-may_fit-clause-meaning c = λ env. c.none.ensures.meaning env
    ∙ sym (not_live (is_live_in c.args.context.now.decls.now c.args.context.now.tokens.now c.args.form.now.pattern.now
    c.args.form.now.tree.now && may_stand c.args.role c.args.form.now.tree.now)
    (λ (s : Place). fits_at c.args.context.now.decls.now c.args.context.now.tokens.now c.args.context.now.types.now env c.args.form.now.pattern.now.spot
    c.args.role.kind c.args.form.now.tree.now s.tree)
    (seats c.args.form.now.pattern.now.spot c.args.role.kind c.args.tree.now) (sym c.may_fit.ensures ∙ c.if-may_fit.false))
