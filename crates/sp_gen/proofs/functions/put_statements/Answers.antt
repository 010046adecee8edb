use Rattle.std.proofs.Common.{◌++◌, sym, ap, ◌∙◌, append_assoc, add-one}
use Rattle.std.proofs.lemmas.List.{append-nil}
use Rattle.sp_gen.specs.Generated.{statement, after_statement, statements}
use Rattle.sp_gen.proofs.Statements.{no_statement, after_none, statements_more, after_more}
use Rattle.sp_gen.proofs.functions.put_statements.Goals as goal

pub loop-init : goal.loop-init
loop-init c = record {
  text = sym (ap (λ t. c.args.text.now.items ++ t) (no_statement c.args.draws.now.state) ∙ append-nil c.args.text.now.items);
  state = sym (after_none c.args.draws.now.state);
}

pub loop-preserved : goal.loop-preserved
loop-preserved c =
    let s = c.args.draws.now.state in
    let n = c.loop.counter in
    record {
      text = rw (add-one, statements_more n s) (c.in_ok-put_statement.ensures.text
          ∙ ap (λ t. t ++ statement c.loop.draws.state) c.loop.invariant.text
          ∙ append_assoc c.args.text.now.items (statements n s) (statement c.loop.draws.state)
          ∙ ap (λ k. c.args.text.now.items ++ (statements n s ++ statement k)) c.loop.invariant.state);
      state = rw (add-one, after_more n s) (c.in_ok-put_statement.ensures.state ∙ ap after_statement c.loop.invariant.state);
    }
