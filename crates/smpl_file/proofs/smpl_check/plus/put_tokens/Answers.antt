use Rattle.std.proofs.Common.{refl, arith, List, Some}
use Rattle.std.specs.List.{list_any}
use Rattle.smpl_patch.specs.declared.pattern.PatToken.{PatToken}
use Rattle.pattern_vars.specs.Reads.{has}
use Rattle.pattern_vars.proofs.SetLemmas.{any-step, any-end}
use Rattle.smpl_patch.specs.Patterns.{in_plus}
use Rattle.smpl_file.proofs.smpl_check.plus.put_tokens.Goals as goal

pub loop-token-preserved : goal.loop-token-preserved
loop-token-preserved c y =
    any-step (λ (t : PatToken). in_plus c.args.decls.now (Some t) y)
    (λ (ts : List PatToken). list_any (λ t. in_plus c.args.decls.now (Some t) y) ts) (λ t ts. refl)
    c.args.tokens.now c.loop-token.token-index c.token-item.result (has c.loop-token.set y) (has c.put_token.new.set y) _
    c.loop-token-test.true c.token-item.is (c.in_ok-put_token.ensures y) (c.loop-token.invariant y)

pub returns : goal.returns
returns c y =
    any-end (λ (ts : List PatToken). list_any (λ t. in_plus c.args.decls.now (Some t) y) ts) refl c.args.tokens.now c.loop-token.token-index
    (has c.loop-token.set y) _ (omega arith) (c.loop-token.invariant y)
