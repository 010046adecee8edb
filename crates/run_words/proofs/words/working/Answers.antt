use Rattle.std.proofs.Common.{◌∙◌, ap, sym, Some, None}
use Rattle.std.proofs.lemmas.Result.{IfOk-weaker}
use Rattle.run_words.specs.Shown.{shown_options, shown_value}
use Rattle.run_words.proofs.Ordered.{jobless, unsaid, working_told}
use Rattle.run_words.proofs.words.working.Goals as goal

pub returns-then-not-has_jobs : goal.returns-then-not-has_jobs
returns-then-not-has_jobs c = record { order = jobless (shown_options c.args.given) c.if-not-has_jobs.ensures; jobs = tt }

pub returns-then-not-has_unread : goal.returns-then-not-has_unread
returns-then-not-has_unread c = record {
  order = unsaid (shown_options c.args.given) c.if-not-has_jobs.ensures c.if-not-has_unread.ensures;
  jobs = tt;
}

pub generating-requires : goal.generating-requires
generating-requires c = sym c.if-not-has_jobs.ensures

pub returns-in-Some : goal.returns-in-Some
returns-in-Some c = record {
  order = c.generating.ensures.order ∙ working_told (shown_options c.args.given) c.if-not-has_jobs.ensures c.if-not-has_unread.ensures
      (Some c.in-Some.value.now) (ap shown_value c.in-Some.is);
  jobs = c.generating.ensures.jobs;
}

pub editing-requires : goal.editing-requires
editing-requires c = sym c.if-not-has_jobs.ensures

pub returns : goal.returns
returns c = record {
  order = IfOk-weaker c.editing.result _ _ (λ r h. h ∙ working_told (shown_options c.args.given) c.if-not-has_jobs.ensures
      c.if-not-has_unread.ensures None (ap shown_value c.in-None.is)) c.editing.ensures.order;
  jobs = c.editing.ensures.jobs;
}
