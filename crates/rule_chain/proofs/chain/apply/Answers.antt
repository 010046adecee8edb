use Rattle.std.proofs.Common.{ℕ, List, subst}
use Rattle.std.specs.Prelude.{All}
use Rattle.std.proofs.lemmas.Result.{err_from_is_err_and}
use Rattle.rule_chain.specs.Passed.{LacksWord}
use Rattle.rule_chain.proofs.StepLemmas.{chain_done, chain_refused, by_passing}
use Rattle.rule_chain.proofs.chain.apply.Goals as goal

pub returns-then-is_passed : goal.returns-then-is_passed
returns-then-is_passed g c =
    let rules = c.args.rules.now.patch.now.rules in
    let choice = c.args.rules.now.unread in
    let left = c.in_ok-untouched.ensures choice in
    let lack = subst (λ (bytes : List ℕ). All (LacksWord bytes) rules) c.as_slice.ensures.value (c.is_passed.ensures.lack c.if-is_passed.true) in
    record {
      result = (
        left.0,
        (
          by_passing c.args.rules.now.tidy choice rules c.args.rules.now.defined.now c.args.bytes.items left.0
              (c.is_passed.ensures.choice c.if-is_passed.true) lack left.1.0,
          left.1.1,
        ),
      );
    }

pub returns : goal.returns
returns g c = record {
  result = chain_done c.args.rules.now.tidy c.args.rules.now.unread c.args.rules.now.patch.now.rules
      c.args.rules.now.defined.now c.args.bytes.items c.in_ok-reached.reached
      c.in_ok-reached.ensures.cut c.in_ok-reached.ensures.reads (c.in_ok-reached.ensures.at c.in_ok-reached.ensures.reads)
      c.in_ok-applied.applied c.in_ok-applied.ensures.done;
}

pub returns-in_err-applied : goal.returns-in_err-applied
returns-in_err-applied g c =
    let p = err_from_is_err_and c.from_residual-in_err-applied.result c.from_residual-in_err-applied.ensures.1 in
    record {
      result = rw (p.1, p.2) (chain_refused c.args.rules.now.tidy c.args.rules.now.unread c.args.rules.now.patch.now.rules
          c.args.rules.now.defined.now c.args.bytes.items
          c.in_ok-reached.reached
          c.in_ok-reached.ensures.cut c.in_ok-reached.ensures.reads (c.in_ok-reached.ensures.at c.in_ok-reached.ensures.reads)
          c.in_err-applied.field-0.0 c.in_err-applied.ensures.fault);
    }
