use Rattle.std.proofs.Common.{refl, arith, List}
use Rattle.std.specs.List.{list_any}
use Rattle.c_terms.specs.declared.token.Token.{Token}
use Rattle.smpl_patch.specs.Patterns.{is_meta_of}
use Rattle.pattern_vars.specs.Reads.{has}
use Rattle.pattern_vars.proofs.SetLemmas.{any-step, any-end}
use Rattle.pattern_vars.proofs.reads.put_line.Goals as goal

pub loop-token-preserved : goal.loop-token-preserved
loop-token-preserved c y =
    let decls = c.args.decls.now in
    any-step (λ (t : Token). is_meta_of decls t t.kind y) (λ (ts : List Token). list_any (λ t. is_meta_of decls t t.kind y) ts) (λ t ts. refl)
    c.as_slice-token-items.result.now c.loop-token.token-index c.token-item.result
    (has c.loop-token.set y) (has c.put_meta.new.set y) _ c.loop-token-test.true c.token-item.is (c.in_ok-put_meta.ensures y) (c.loop-token.invariant y)

pub returns : goal.returns
returns c y =
    let decls = c.args.decls.now in
    any-end (λ (ts : List Token). list_any (λ t. is_meta_of decls t t.kind y) ts) refl c.as_slice-token-items.result.now c.loop-token.token-index
    (has c.loop-token.set y) _ (omega arith) (c.loop-token.invariant y)
