use Rattle.std.proofs.Common.{◌≡◌, ◌∙◌, ap, sym, subst, map, option_map, IfOk, IfSome, Some, None}
use Rattle.std.proofs.lemmas.Result.{IfOk-weaker}
use Rattle.run_words.specs.Options.{options_of}
use Rattle.run_words.specs.Shown.{HasJobs, shown_options}
use Rattle.run_words.proofs.Ordered.{jobs_told, order_told}
use Rattle.run_words.proofs.words.order_of.Goals as goal

pub returns-in-Some : goal.returns-in-Some
returns-in-Some c =
    let words = map (λ w. w.now) c.args.words.now in
    let options = shown_options c.in-Some.given in
    let given : Some options ≡ options_of words = ap (option_map shown_options) (sym c.in-Some.is) ∙ c.in_ok-given.ensures in record {
      order = IfOk-weaker c.order_given.result _ _ (λ r h. h ∙ order_told words c.requires (Some options) given) c.order_given.ensures.order;
      jobs = subst (λ n. IfOk c.order_given.result (λ order. IfSome order (HasJobs n))) (jobs_told words options given) c.order_given.ensures.jobs;
    }

pub returns-in-None : goal.returns-in-None
returns-in-None c = record {
  order = order_told (map (λ w. w.now) c.args.words.now) c.requires None (ap (option_map shown_options) (sym c.in-None.is) ∙ c.in_ok-given.ensures);
  jobs = tt;
}
