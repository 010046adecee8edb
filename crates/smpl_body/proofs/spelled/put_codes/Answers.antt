use Rattle.smpl_body.specs.Spelled.{code_forms, IsRead}
use Rattle.smpl_body.proofs.SpelledLemmas.{codes-into, codes-from, codes-end}
use Rattle.smpl_body.proofs.spelled.put_codes.Goals as goal

pub loop-code-preserved : goal.loop-code-preserved
loop-code-preserved c =
    let is : IsRead code_forms c.code-item.result.tokens c.in-Some.tree = rw (c.in-Some.is, c.as_slice.ensures) at c.in_ok-read_code.ensures in
    let codes = c.args.codes.now in
    let i = c.loop-code.code-index in
    record {
      into = codes-into codes i c.code-item.result c.loop-code.trees.items c.push.new.self.items c.args.trees.items c.in-Some.tree c.loop-code-test.true
          c.code-item.is c.in_ok-push-in-Some.ensures.items is c.loop-code.invariant.into;
      none = codes-from codes i c.code-item.result c.loop-code-test.true c.code-item.is c.loop-code.invariant.none;
      names = c.requires;
    }

pub returns : goal.returns
returns c =
    codes-end c.args.codes.now c.loop-code.code-index c.loop-code.trees.items c.args.trees.items c.loop-code-test.false c.loop-code.invariant.into
