use Rattle.std.proofs.Common.{◌∙◌, ap, Some}
use Rattle.std.proofs.lemmas.Result.{IfOk-weaker}
use Rattle.run_words.specs.Orders.{Say}
use Rattle.run_words.specs.Shown.{shown_options}
use Rattle.run_words.proofs.Ordered.{refused, said, worked}
use Rattle.run_words.proofs.words.order_given.Goals as goal

pub returns-then-not-are_filled : goal.returns-then-not-are_filled
returns-then-not-are_filled c = record { order = refused (shown_options c.args.given) c.if-not-are_filled.ensures; jobs = tt }

pub returns-then-asks_text : goal.returns-then-asks_text
returns-then-asks_text c = record {
  order = ap (λ s. Some (Say s)) c.saying_in.ensures ∙ said (shown_options c.args.given) c.if-not-are_filled.ensures c.if-asks_text.ensures;
  jobs = tt;
}

pub returns : goal.returns
returns c = record {
  order = IfOk-weaker c.working.result _ _ (λ r h. h ∙ worked (shown_options c.args.given) c.if-not-are_filled.ensures c.if-asks_text.ensures)
      c.working.ensures.order;
  jobs = c.working.ensures.jobs;
}
