use Rattle.std.proofs.Common.{Bool, not, ◌∙◌, ap, subst, refl}
use Rattle.std.specs.Result.{IfOk}
use Rattle.smpl_terms.specs.declared.var.Var.{Var}
use Rattle.smpl_patch.specs.Bodies.{Body, body}
use Rattle.ctl_formula.specs.Plain.{Plain}
use Rattle.ctl_formula.specs.Tables.{Makes}
use Rattle.pattern_vars.specs.VarPlaces.Placing.{Reading, is_alone}
use Rattle.ctl_table.specs.Blocks.{blocks}
use Rattle.ctl_translate.proofs.RuleLemmas.{rule-formula, kept-is}
use Rattle.ctl_translate.proofs.rule.root_of.Goals as goal

pub returns : goal.returns
returns c =
    let r = c.args.rule.now in
    let decls = c.args.reader.now.decls.now in
    let tokens = c.args.reader.now.tokens.now in
    let xs = c.args.locals.now in
    let other : Reading → Body → Var → Bool = λ d b x. not (is_alone d b x) in
    record {
      made = subst (λ (z : Plain). IfOk c.sequence.result (λ i. Makes c.args.parts.now c.sequence.new.parts i z))
          (rule-formula r decls tokens c.ranges_over_all-forall_walks.result xs c.args.found.now.alone c.in_ok-blocks.blocks c.as_slice-b.result.now
          c.as_slice-placed.result.now c.in_ok-around.around
          c.requires.decls c.requires.tokens c.ranges_over_all-forall_walks.ensures c.requires.locals
          (c.requires.alone ∙ kept-is is_alone r decls tokens r.body xs c.requires.decls c.requires.tokens refl c.requires.locals)
          (c.in_ok-blocks.ensures ∙ ap (λ z. blocks (body z)) c.as_slice-b.ensures) c.as_slice-b.ensures
          (c.as_slice-placed.ensures ∙ c.requires.placed ∙ kept-is other r decls tokens r.body xs c.requires.decls c.requires.tokens refl c.requires.locals)
          c.in_ok-around.ensures)
          c.sequence.ensures.made;
    }
