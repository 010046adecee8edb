use Rattle.std.proofs.Common.{◌≡◌, ◌++◌, map, ap, ◌∙◌}
use Rattle.std.proofs.lemmas.Result.{IfOk-weaker}
use Rattle.smpl_terms.specs.Environments.{total}
use Rattle.smpl_patch.specs.declared.witness.Witness.TheVariants.{Touch}
use Rattle.wit_forest.specs.WitSteps.Touches.{touches_of}
use Rattle.wit_forest.proofs.WitSteps.TouchLemmas.{touches_are}
use Rattle.wit_forest.proofs.wit_steps.touches.put_touches.Goals as goal

pub returns : goal.returns
returns c =
    let f = c.args.f.now in
    let env = total c.args.env.now in
    let is = touches_are c.decls.result.now f.decls c.tokens.result.now c.tokens-2.result.now f.tokens c.types-types.result c.args.g.now c.args.p.now
    c.args.s env c.label.result c.in_ok-places.places.items
    c.decls.ensures.decls c.tokens.ensures.tokens c.tokens-2.ensures.tokens c.types-types.ensures.value c.if-not-is_touched.ensures c.label.ensures.value
    c.in_ok-places.ensures.exact in
    IfOk-weaker c.put_places.result
    (λ _. c.put_places.new.found.items ≡ c.args.found.now.items ++ map (λ a. Touch c.args.s c.args.p.now.atom a.path) c.in_ok-places.places.items)
    (λ _. c.put_places.new.found.items ≡ c.args.found.now.items ++ touches_of f.decls f.tokens c.args.g.now c.args.p.now c.args.s env)
    (λ _ h. h ∙ ap (λ ws. c.args.found.now.items ++ ws) is)
    c.put_places.ensures
