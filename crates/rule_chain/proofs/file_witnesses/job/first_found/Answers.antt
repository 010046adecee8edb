use Rattle.std.proofs.Common.{◌≤◌, ap, sym, ◌∙◌, subst, arith, Some, map}
use Rattle.rule_chain.specs.RuleWitnesses.Bare.{bare_witness}
use Rattle.rule_chain.specs.RuleWitnesses.Jobs.{touches_and_binds}
use Rattle.rule_chain.specs.FileWitnesses.Kept.{IsKept}
use Rattle.rule_chain.proofs.FileWitnesses.KeptLemmas.{matched_told, nothing_found, nothing_kept, told_kept}
use Rattle.rule_chain.proofs.file_witnesses.job.first_found.Goals as goal

pub returns-then-is_empty-clause-found : goal.returns-then-is_empty-clause-found
returns-then-is_empty-clause-found c =
    let f = c.args.query.now.f.now in
    let m = c.in_ok-matched.matched in
    let none = nothing_found f c.args.g.now.graph.now c.args.g.now.sound m c.in_ok-matched.ensures.matched (c.is_empty.ensures.0 c.if-is_empty.true)
    c.in_ok-matched.ensures.root
    c.args.query.now.exports.now c.args.query.now.number c.args.item c.args.env.now in
    record {
      same = ap (map bare_witness) (c.nothing.ensures.found ∙ sym none);
      few = subst (λ ws. touches_and_binds ws ≤ 1000000) (sym none) (omega arith);
    }

pub returns-then-is_empty-clause-kept : goal.returns-then-is_empty-clause-kept
returns-then-is_empty-clause-kept c =
    let f = c.args.query.now.f.now in
    let g = c.args.g.now.graph.now in
    let m = c.in_ok-matched.matched in
    subst (λ o. IsKept f (Some g) o) (sym c.nothing.ensures.kept)
    (nothing_kept f g c.args.g.now.sound m c.in_ok-matched.ensures.matched (c.is_empty.ensures.0 c.if-is_empty.true)
    c.in_ok-matched.ensures.root)

pub returns-clause-kept : goal.returns-clause-kept
returns-clause-kept c =
    let f = c.args.query.now.f.now in
    let g = c.args.g.now.graph.now in
    let m = c.in_ok-matched.matched in
    subst (λ o. IsKept f (Some g) o) (sym c.kept_if.ensures)
    (told_kept f g c.args.keep m (matched_told f g c.args.g.now.sound m c.in_ok-matched.ensures.matched))
