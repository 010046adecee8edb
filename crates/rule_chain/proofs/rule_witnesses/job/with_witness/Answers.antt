use Rattle.std.proofs.Common.{◌≡◌, [], ◌∷◌, ◌++◌, ap, ◌∙◌, map}
use Rattle.std.proofs.lemmas.Result.{IfOk-weaker, err_from_is_err_and}
use Rattle.smpl_patch.specs.declared.witness.RuleWitness.{RuleWitness}
use Rattle.rule_chain.specs.RuleWitnesses.Bare.{bare_witness}
use Rattle.rule_chain.specs.RuleWitnesses.Jobs.{witness_at}
use Rattle.rule_chain.proofs.RuleWitnesses.JobLemmas.{same_made, many_made, large_last}
use Rattle.rule_chain.proofs.rule_witnesses.job.with_witness.Goals as goal

pub returns-clause-found : goal.returns-clause-found
returns-clause-found c =
    let f = c.args.query.now.f.now in
    let g = c.args.place.now.g.now in
    let ws = c.args.so_far.witnesses in
    let made : RuleWitness = record {
      rule = c.args.query.now.number;
      item = c.args.place.now.item;
      node =
          c.args.place.now.node;
      env = c.in_ok-env.env;
      forest = c.from_vec-forest.result;
    } in
    IfOk-weaker c.with.result (λ now. now.witnesses ≡ ws ++ made ∷ [])
    (λ now. map bare_witness now.witnesses ≡ map bare_witness
    (ws ++ witness_at f g [] c.args.query.now.number c.args.place.now.item c.args.place.now.node c.args.env.now ∷ []))
    (λ now h. ap (map bare_witness) h
    ∙ same_made f g c.args.query.now.number c.args.place.now.item c.args.place.now.node c.args.env.now c.in_ok-env.env
    c.in_ok-trees.trees.items c.from_vec-forest.result ws
    c.in_ok-env.ensures.same c.from_vec-forest.ensures c.in_ok-trees.ensures.trees)
    c.with.ensures.added

pub returns-clause-too_many : goal.returns-clause-too_many
returns-clause-too_many c = λ h.
    many_made c.args.query.now.f.now c.args.place.now.g.now c.args.query.now.number c.args.place.now.item c.args.place.now.node
    c.args.env.now c.in_ok-env.env c.in_ok-trees.trees.items c.from_vec-forest.result
    c.args.so_far.witnesses c.in_ok-env.ensures.same c.from_vec-forest.ensures c.in_ok-trees.ensures.trees (c.with.ensures.too_many h)

pub returns-in_err-trees-clause-too_many : goal.returns-in_err-trees-clause-too_many
returns-in_err-trees-clause-too_many c = λ h.
    let p = err_from_is_err_and c.from_residual.result c.from_residual.ensures.1 in
    large_last c.args.so_far.witnesses (witness_at c.args.query.now.f.now c.args.place.now.g.now [] c.args.query.now.number
    c.args.place.now.item c.args.place.now.node c.args.env.now)
    (c.in_err-trees.ensures.too_many (cc (h, p.1, p.2)))
