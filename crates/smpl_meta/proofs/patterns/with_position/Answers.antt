use Rattle.std.proofs.Common.{◌++◌, ◌∷◌, [], List, sym, ap, ◌∙◌}
use Rattle.smpl_terms.specs.declared.var.Var.{Var as Variable}
use Rattle.smpl_meta.specs.Patterns.{with_position}
use Rattle.smpl_meta.proofs.Placing.{with_last}
use Rattle.smpl_meta.proofs.patterns.with_position.Goals as goal

pub returns-in_ok-push-in-Some-2 : goal.returns-in_ok-push-in-Some-2
returns-in_ok-push-in-Some-2 c =
    let whole = ap (with_position c.args.v) c.in-Some.ensures ∙ with_last c.args.v c.pop.new.self c.in-Some.last in
    sym (whole ∙ sym (c.in_ok-push-in-Some-2.ensures.ok
    ∙ ap (λ (vs : List Variable). c.pop.new.self
    ++ record {
      token = c.in-Some.last.token;
      at = c.in-Some.last.at;
      sign = c.in-Some.last.sign;
      line =
          c.in-Some.last.line;
      positions = vs;
    } ∷ []) c.in_ok-push-in-Some.ensures.ok))
