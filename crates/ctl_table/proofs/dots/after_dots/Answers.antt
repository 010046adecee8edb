use Rattle.std.proofs.Common.{subst, false, ◌++◌, Option}
use Rattle.std.specs.Option.{option_copied}
use Rattle.ctl_table.specs.Table as table
use Rattle.ctl_table.specs.declared.end_atoms.EndAtoms.{EndAtoms}
use Rattle.ctl_table.specs.Settings.{setting_at, element_or_none}
use Rattle.ctl_table.specs.EndAtoms.{MakesEndAtoms}
use Rattle.ctl_table.proofs.EndLemmas.{after-none, after-some}
use Rattle.ctl_table.proofs.dots.after_dots.Goals as goal

pub returns-in-None : goal.returns-in-None
returns-in-None c =
    let m = setting_at c.args.m.now in
    let after = element_or_none (option_copied c.args.after) in
    record {
      made = after-none c.args.parts.now c.ends_of_option.new.parts m after c.args.scope.now c.args.any c.if-any.false
          (subst (λ (z : Option EndAtoms). MakesEndAtoms c.args.parts.now c.ends_of_option.new.parts z
          (λ more. table.ends_of_option m false after (c.args.scope.now ++ more)))
          c.in-None.is c.in_ok-ends_of_option.ensures.made);
    }

pub returns-in-Some : goal.returns-in-Some
returns-in-Some c =
    let m = setting_at c.args.m.now in
    let after = element_or_none (option_copied c.args.after) in
    record {
      made = after-some c.args.parts.now c.ends_of_option.new.parts c.at_inner-in-Some.new.parts m after c.args.scope.now
          c.args.any c.in-Some.end_atoms c.new.result
          c.at_inner-in-Some.result c.if-any.false c.new.ensures
          (subst (λ (z : Option EndAtoms). MakesEndAtoms c.args.parts.now c.ends_of_option.new.parts z
          (λ more. table.ends_of_option m false after (c.args.scope.now ++ more)))
          c.in-Some.is c.in_ok-ends_of_option.ensures.made)
          c.at_inner-in-Some.ensures.made;
    }
