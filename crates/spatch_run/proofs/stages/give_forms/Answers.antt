use Rattle.std.proofs.Common.{[], refl}
use Rattle.run_words.specs.Shown.{shown_target}
use Rattle.run_files.specs.RunStages.Stages.{Doing, ReadIsos}
use Rattle.run_files.specs.RunStages.Ends.LeadsBy.{from}
use Rattle.spatch_run.proofs.stages.give_forms.Goals as goal

pub use_patch-requires-clause-few : goal.use_patch-requires-clause-few
use_patch-requires-clause-few g c κs within = c.requires.few

pub use_patch-requires-clause-usable : goal.use_patch-requires-clause-usable
use_patch-requires-clause-usable g c κs within = c.patches_may_be_used.ensures.read c.requires.read.0 c.args.noted.patch c.requires.read.1

pub returns-in-None-clause-ends : goal.returns-in-None-clause-ends
returns-in-None-clause-ends g c =
    rw c.in-None.is c.use_patch.ensures.ends

pub returns-in-Some-clause-ends : goal.returns-in-Some-clause-ends
returns-in-Some-clause-ends g c =
    rw c.in-Some.is (from (Doing [] (ReadIsos c.args.noted.patch c.args.noted.notes c.in-Some.name.now
    c.args.order.now.defined.items
    (shown_target c.args.order.now.target))) refl c.load_isos.ensures.ends)
