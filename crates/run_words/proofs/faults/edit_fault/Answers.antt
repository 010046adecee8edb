use Rattle.std.proofs.Common.{◌≡◌, ◌∙◌, ap, is_some}
use Rattle.run_words.specs.declared.option_name.OptionName.TheVariants.{Functions}
use Rattle.run_words.specs.declared.fault.WordFault.TheVariants.{ApartFromFiles}
use Rattle.run_words.specs.Faults.{told_if}
use Rattle.run_words.specs.Shown.{shown_value}
use Rattle.run_words.proofs.Told.{is_shown}
use Rattle.run_words.proofs.faults.edit_fault.Goals as goal

pub returns : goal.returns
returns c =
    let given = c.args.given.now in
    let functions : c.told_if-functions.result ≡ told_if (is_some (shown_value given.functions)) (ApartFromFiles Functions) =
    c.told_if-functions.ensures ∙ ap (λ b. told_if b (ApartFromFiles Functions)) (c.is_some.ensures ∙ is_shown given.functions) in
    cc
