use Rattle.std.proofs.Common.{◌≡◌, ◌∙◌, refl, sym, ap, map, option_map, Some, None}
use Rattle.std.proofs.lemmas.Result.{IfOk-weaker}
use Rattle.run_words.specs.Options.{options_of}
use Rattle.run_words.specs.Shown.{shown_options}
use Rattle.run_words.proofs.Told.{first_told, later_told}
use Rattle.run_words.proofs.faults.word_fault.Goals as goal

pub returns-then-is_some : goal.returns-then-is_some
returns-then-is_some c = record {
  fault = first_told (map (λ w. w.now) c.args.words.now) c.requires c.in_ok-fault.fault c.in_ok-fault.ensures c.if-is_some.ensures;
}

pub returns-in-Some : goal.returns-in-Some
returns-in-Some c =
    let words = map (λ w. w.now) c.args.words.now in
    let options = shown_options c.in-Some.given in
    let given : Some options ≡ options_of words = ap (option_map shown_options) (sym c.in-Some.is) ∙ c.in_ok-given.ensures in record {
      fault = IfOk-weaker c.options_fault.result _ _
          (λ f h. later_told words c.requires c.in_ok-fault.fault c.in_ok-fault.ensures c.if-is_some.ensures (Some options) given f h)
          c.options_fault.ensures;
    }

pub returns : goal.returns
returns c =
    let words = map (λ w. w.now) c.args.words.now in
    let given : None ≡ options_of words = ap (option_map shown_options) (sym c.in-None.is) ∙ c.in_ok-given.ensures in record {
      fault = later_told words c.requires c.in_ok-fault.fault c.in_ok-fault.ensures c.if-is_some.ensures None given None refl;
    }
