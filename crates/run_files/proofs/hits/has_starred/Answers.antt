use Rattle.std.proofs.Common.{◌∙◌, ap, map}
use Rattle.run_files.specs.Treatment.{has_star}
use Rattle.run_files.proofs.HitLemmas.{any_starred}
use Rattle.run_files.proofs.hits.has_starred.Goals as goal

pub returns : goal.returns
returns c =
    c.some_starred.ensures
    ∙ any_starred c.args.patch.now c.as_slice-starred.result.now c.args.witnesses.now
    (c.as_slice-starred.ensures.value ∙ c.in_ok-table.ensures ∙ ap (map has_star) c.as_slice.ensures)
