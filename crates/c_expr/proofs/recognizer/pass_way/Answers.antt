use Rattle.std.proofs.Common.{arith, length, drop}
use Rattle.c_expr.proofs.CallLemmas.{chosen_fine, chosen_smaller}
use Rattle.c_expr.proofs.RecognizerLemmas.{way_steps, way_stuck}
use Rattle.c_expr.proofs.recognizer.pass_way.Goals as goal

pub returns-in-None-clause-refused : goal.returns-in-None-clause-refused
returns-in-None-clause-refused c =
    way_stuck c.args.most c.args.seen.now c.args.fork c.args.spot.row.now c.args.spot.at c.rest_at.result.now c.front.result
    c.requires c.rest_at.ensures c.front.ensures.value c.in-None.ensures.value

pub returns-in-Some-clause-steps : goal.returns-in-Some-clause-steps
returns-in-Some-clause-steps c = record {
  moves = record {
    leads = way_steps c.args.most c.args.seen.now c.args.fork c.args.spot.row.now c.in-Some.way.now c.args.spot.at
        c.args.spot.deepest c.args.spot.parts.items c.rest_at.result.now c.front.result c.requires c.rest_at.ensures
        c.front.ensures.value c.in-Some.ensures.value;
    ahead = omega arith;
  };
  fine = chosen_fine c.args.fork c.front.result c.in-Some.way.now c.in-Some.ensures.value;
  smaller = chosen_smaller c.args.fork c.front.result c.args.spot.row.now c.in-Some.way.now
      (length (drop c.args.spot.at c.args.seen.now)) c.in-Some.ensures.value;
}
