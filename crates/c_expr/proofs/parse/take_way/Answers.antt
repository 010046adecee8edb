use Rattle.std.proofs.Common.{ap, sym, ◌∙◌, length}
use Rattle.c_rows.specs.Choice.{choose}
use Rattle.c_expr.proofs.CallLemmas.{way_taken, way_refused, chosen_fine, chosen_smaller}
use Rattle.c_expr.proofs.parse.take_way.Goals as goal

pub returns-in-None-clause-refused : goal.returns-in-None-clause-refused
returns-in-None-clause-refused c =
    way_refused c.args.most c.args.fork c.args.at.row.now c.args.at.rest.now c.args.at.children c.requires.fine
    (ap (choose c.args.fork) (sym c.front.ensures.value) ∙ c.in-None.ensures.value)

pub returns-clause-takes : goal.returns-clause-takes
returns-clause-takes c = record {
  leads = way_taken c.args.most c.args.fork c.args.at.row.now c.in-Some.way.now c.args.at.rest.now c.args.at.children
      c.requires.fine (ap (choose c.args.fork) (sym c.front.ensures.value) ∙ c.in-Some.ensures.value);
  sound = record { fine = chosen_fine c.args.fork c.front.result c.in-Some.way.now c.in-Some.ensures.value; deep = c.requires.deep };
  smaller = chosen_smaller c.args.fork c.front.result c.args.at.row.now c.in-Some.way.now (length c.args.at.rest.now) c.in-Some.ensures.value;
}
