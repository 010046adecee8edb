use Rattle.std.proofs.lemmas.Result.{IfOk-weaker}
use Rattle.env_sets.proofs.RunLemmas.{put_both}
use Rattle.env_sets.proofs.excluded.Values.put_in.Goals as goal

pub returns : goal.returns
returns c = IfOk-weaker c.put_runs.result _ _ (λ u h z.
    put_both c.args.out.now.items c.as_slice.result.now c.self.inside.runs.first c.put_all.new.out.items
    c.put_runs.new.out.items c.args.self.now c.as_slice-2.result.now c.self.inside.runs.rest z
    c.in_ok-put_all.ensures c.as_slice.ensures.items c.as_slice-2.ensures.items c.self.view_is (h z)) c.put_runs.ensures
