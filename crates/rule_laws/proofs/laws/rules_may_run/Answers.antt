use Rattle.std.proofs.lemmas.List.Elements.{All-from_recursion}
use Rattle.rule_laws.specs.Ready.{IsReady}
use Rattle.rule_laws.proofs.ApartLemmas.{patch-apart}
use Rattle.rule_laws.proofs.EvenLemmas.{patch-even}
use Rattle.rule_laws.proofs.RightLemmas.{rules-right}
use Rattle.rule_laws.proofs.BindLemmas.{patch-binds}
use Rattle.rule_laws.proofs.ReadyLemmas.{rules-stand, rules-run, made-stands, made-binds}
use Rattle.rule_laws.proofs.laws.rules_may_run.Goals as goal

pub returns : goal.returns
returns c = record {
  rules = λ bytes patch s.
      let sound = c.spelled_patches_are_sound.ensures.sound bytes patch s.spelled in
      All-from_recursion IsReady patch.rules
      (rules-run patch.rules (rules-stand patch.rules (c.patches_are_sound.ensures.sure bytes patch s.spelled))
      (patch-binds c.exported_variables_are_bound.ensures.bound patch sound (rules-right 0 patch.rules s.checked))
      (patch-apart bytes patch s.spelled sound) (patch-even patch sound));
  stand = made-stands;
  binds = made-binds;
}
