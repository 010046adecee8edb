use Rattle.std.proofs.Common.{sym, ap, ◌∙◌}
use Rattle.iso_expand.specs.IsoForms.Stepped.{grown}
use Rattle.iso_expand.proofs.IsoForms.ChoiceLemmas.{grown-by_none}
use Rattle.iso_expand.proofs.iso_forms.choices.all_grown.Goals as goal

pub returns-in-None : goal.returns-in-None
returns-in-None c =
    c.new.ensures.items ∙ sym (grown-by_none c.args.choices.items) ∙ ap (grown c.args.choices.items) (sym c.in-None.ensures.0)
