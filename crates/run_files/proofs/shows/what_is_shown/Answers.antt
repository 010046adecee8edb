use Rattle.std.proofs.Common.{◌∙◌}
use Rattle.run_files.proofs.TreatLemmas.{shown_report, shown_name, shown_nothing, shown_text}
use Rattle.run_files.proofs.shows.what_is_shown.Goals as goal

pub returns-then-mode : goal.returns-then-mode
returns-then-mode c = λ patch name bytes s is. shown_report c.args.mode patch name bytes s c.if-mode.true

pub returns-then-mode-2 : goal.returns-then-mode-2
returns-then-mode-2 c = λ patch name bytes s is.
    c.name_if.ensures patch name s ∙ shown_name c.args.mode patch name bytes s c.args.hit c.if-mode.false c.if-mode-2.true is

pub returns-then-mode-3 : goal.returns-then-mode-3
returns-then-mode-3 c = λ patch name bytes s is.
    shown_nothing c.args.mode patch name bytes s c.if-mode.false c.if-mode-2.false c.if-mode-3.true

pub returns : goal.returns
returns c = λ patch name bytes s is.
    shown_text c.args.mode patch name bytes s c.if-mode.false c.if-mode-2.false c.if-mode-3.false
