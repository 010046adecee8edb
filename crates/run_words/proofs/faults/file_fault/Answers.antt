use Rattle.std.proofs.Common.{◌≡◌, ◌∙◌, ap, is_some}
use Rattle.run_words.specs.declared.option_name.OptionName.TheVariants.{Generate, IsoFile, Define}
use Rattle.run_words.specs.declared.fault.WordFault.TheVariants.{Apart, ApartFromFiles}
use Rattle.run_words.specs.Faults.{told_if}
use Rattle.run_words.specs.Orders.{has_files}
use Rattle.run_words.specs.Shown.{shown_options, shown_value}
use Rattle.run_words.proofs.Told.{is_shown}
use Rattle.run_words.proofs.faults.file_fault.Goals as goal

pub returns : goal.returns
returns c =
    let given = c.args.given.now in
    let files : c.told_if.result ≡ told_if (has_files (shown_options given)) (ApartFromFiles Generate) =
    c.told_if.ensures ∙ ap (λ b. told_if b (ApartFromFiles Generate)) c.has_files.ensures in
    let isos : c.apart_if.result ≡ told_if (is_some (shown_value given.iso_file)) (Apart Generate IsoFile) =
    c.apart_if.ensures ∙ ap (λ b. told_if b (Apart Generate IsoFile)) (c.is_some.ensures ∙ is_shown given.iso_file) in
    let define : c.apart_if-2.result ≡ told_if (is_some (shown_value given.define)) (Apart Generate Define) =
    c.apart_if-2.ensures ∙ ap (λ b. told_if b (Apart Generate Define)) (c.is_some-2.ensures ∙ is_shown given.define) in
    cc
