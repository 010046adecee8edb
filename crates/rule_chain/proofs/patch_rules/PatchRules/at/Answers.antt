use Rattle.std.proofs.Common.{◌<◌, ap, sym, ◌∙◌, subst, arith, List, length, get_or}
use Rattle.std.proofs.lemmas.Slice.Zip.{AllZip-long}
use Rattle.smpl_patch.specs.declared.rule.Rule.{Rule}
use Rattle.rule_envs.specs.RuleFormulas.Prepared.{IsPrepared}
use Rattle.rule_chain.specs.Required.{MayRun}
use Rattle.rule_chain.proofs.RunLemmas.{at_pair, on_slices}
use Rattle.rule_chain.proofs.patch_rules.PatchRules.at.Goals as goal

pub bounds-rules-number : goal.bounds-rules-number
bounds-rules-number c = omega (arith, c.requires.within, ap length c.as_slice-rules.ensures)

pub bounds-prepared-number : goal.bounds-prepared-number
bounds-prepared-number c =
    let same = AllZip-long MayRun c.args.self.now.patch.now.rules c.args.self.now.prepared.now.rules c.args.self.now.may in
    omega (arith, same, c.requires.within, ap length c.as_slice-prepared.ensures)

pub invariant_of-result : goal.invariant_of-result
invariant_of-result c =
    let rules = c.as_slice-rules.result.now in
    let prepared = c.as_slice-prepared.result.now in
    let within = subst (λ (xs : List Rule). c.args.number < length xs) (sym c.as_slice-rules.ensures) c.requires.within in
    record {
      prepared_is = at_pair IsPrepared rules prepared c.args.number c.index-rules-number.result c.index-prepared-number.result
          (on_slices IsPrepared c.args.self.now.patch.now.rules rules c.args.self.now.prepared.now.rules prepared
          c.as_slice-rules.ensures c.as_slice-prepared.ensures c.args.self.now.prepared_are)
          within c.index-rules-number.is c.index-prepared-number.is;
      may = at_pair MayRun rules prepared c.args.number c.index-rules-number.result c.index-prepared-number.result
          (on_slices MayRun c.args.self.now.patch.now.rules rules c.args.self.now.prepared.now.rules prepared
          c.as_slice-rules.ensures c.as_slice-prepared.ensures c.args.self.now.may)
          within c.index-rules-number.is c.index-prepared-number.is;
    }

pub returns-clause-rule : goal.returns-clause-rule
returns-clause-rule c =
    c.index-rules-number.is
    ∙ ap (λ (xs : List Rule). get_or xs c.args.number c.index-rules-number.result) c.as_slice-rules.ensures
