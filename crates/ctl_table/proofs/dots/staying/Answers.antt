use Rattle.std.proofs.Common.{◌∙◌, ap, List, [], ◌∷◌, ◌++◌, ℕ}
use Rattle.std.specs.Option.{option_copied}
use Rattle.std.proofs.lemmas.Result.{IfOk-weaker}
use Rattle.ctl_formula.specs.Plain.{Inside}
use Rattle.ctl_table.proofs.MakingLemmas.{made-as}
use Rattle.ctl_table.proofs.DotsLemmas.{staying-none, staying-made}
use Rattle.ctl_table.proofs.dots.staying.Goals as goal

pub returns-in-None : goal.returns-in-None
returns-in-None c = record {
  made = IfOk-weaker c.copied_numbers.result _ _
      (λ is e. staying-none c.args.parts.now (option_copied c.args.around) is.items c.args.whens.now (ap option_copied c.in-None.is) c.requires e)
      c.copied_numbers.ensures;
}

pub returns-in_ok-push_numbers-in-Some : goal.returns-in_ok-push_numbers-in-Some
returns-in_ok-push_numbers-in-Some c =
    let a = c.args.parts.now in
    let b = c.push.new.self in
    let i = c.in_ok-inside-in-Some.inside in
    record {
      made = staying-made a b (option_copied c.args.around) c.in-Some.b.now i c.push-in-Some.new.self.items
          c.push_numbers.new.numbers.items c.args.whens.now (ap option_copied c.in-Some.is) c.requires
          (made-as a b i (Inside c.in_ok-b-in-Some.b) (Inside c.in-Some.b.now) (ap Inside c.in_ok-b-in-Some.ensures.same)
          c.in_ok-inside-in-Some.ensures.made)
          (c.in_ok-push-in-Some.ensures.items ∙ ap (λ (z : List ℕ). z ++ i ∷ []) c.new-firsts.ensures.items)
          c.in_ok-push_numbers-in-Some.ensures;
    }
