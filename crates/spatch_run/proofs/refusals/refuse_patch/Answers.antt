use Rattle.std.proofs.Common.{◌≡◌, ◌∙◌, refl, inl}
use Rattle.std.proofs.lemmas.Result.{err_from_is_err_and}
use Rattle.run_acts.specs.Acts.{Report}
use Rattle.run_acts.proofs.BreaksLemmas.{NoneFell-refl}
use Rattle.run_files.specs.RunLines.Patches.{patch_fault_line}
use Rattle.run_files.specs.RunStages.Stages.{refusing}
use Rattle.spatch_run.proofs.Chain.{broken}
use Rattle.spatch_run.proofs.refusals.refuse_patch.Goals as goal

pub returns-in_err-line : goal.returns-in_err-line
returns-in_err-line g c = record {
  ends = λ files out stores s o.
      let p = err_from_is_err_and c.from_residual.result c.from_residual.ensures.1 in
      rw (p.1, p.2) (broken (refusing (patch_fault_line c.args.name.now c.args.place c.args.fault.now) 2)
      (Report (patch_fault_line c.args.name.now c.args.place c.args.fault.now)) refl (NoneFell-refl _) (inl (refl, refl)));
}

pub returns : goal.returns
returns g c = record {
  ends = λ files out stores s o.
      let put : c.deref.result.now ≡ patch_fault_line c.args.name.now c.args.place c.args.fault.now = c.deref.ensures.value ∙ c.in_ok-line.ensures.bytes in
      rw put at (c.end_by.ensures.ends files out stores s o);
}
