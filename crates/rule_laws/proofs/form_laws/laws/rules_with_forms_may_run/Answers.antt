use Rattle.std.proofs.Common.{◌∙◌}
use Rattle.std.proofs.lemmas.List.Elements.{All-from_recursion, recursion_from_All}
use Rattle.rule_laws.specs.Ready.{IsReady}
use Rattle.rule_laws.proofs.ChainLaws.RequiredLemmas.{all-may}
use Rattle.rule_laws.proofs.FormLaws.ReadyLemmas.{rules-ready, few-rules}
use Rattle.rule_laws.proofs.form_laws.laws.rules_with_forms_may_run.Goals as goal

pub returns : goal.returns
returns c =
    let shape = c.formulas_keep_their_shape.ensures in
    record {
      may = λ bytes isos patch whole prepared of is are.
          all-may whole.rules prepared
          (All-from_recursion IsReady whole.rules
          (rules-ready isos shape.formula shape.stands shape.sure shape.bound patch.rules whole.rules is.rules
          (recursion_from_All IsReady patch.rules (c.rules_may_run.ensures.rules bytes patch of))))
          are;
      fault = λ bytes isos patch whole f of is found.
          c.rules_have_formulas.ensures.fault whole f (c.accepted_patches_stay_accepted.ensures.fault isos patch whole is ∙ of.checked) found;
      count = λ bytes isos patch whole of is. few-rules isos patch.rules whole.rules is.rules (c.patches_are_sound.ensures.count bytes patch of.spelled);
    }
