use Rattle.std.proofs.Common.{◌∙◌, ap, Option}
use Rattle.std.specs.Option.{option_or}
use Rattle.run_words.specs.declared.fault.WordFault.{WordFault}
use Rattle.run_words.specs.Shown.{shown_options}
use Rattle.run_words.proofs.Told.{asked_fine, options_told}
use Rattle.run_words.proofs.faults.options_fault.Goals as goal

pub returns-then-asks_only : goal.returns-then-asks_only
returns-then-asks_only c = asked_fine (shown_options c.args.given.now) c.if-asks_only.ensures

pub returns : goal.returns
returns c =
    c.or-2.ensures ∙ (ap (λ (x : Option WordFault). option_or x c.apart_fault.result) c.or.ensures
    ∙ options_told (shown_options c.args.given.now) c.if-asks_only.ensures c.in_ok-value.value c.need_fault.result c.apart_fault.result
    c.in_ok-value.ensures c.need_fault.ensures c.apart_fault.ensures)
