use Rattle.std.proofs.Common.{◌≡◌, ◌<◌, ap, ◌∙◌, sym, subst, arith, None, Some, length, get_or, option_copied}
use Rattle.rule_chain.specs.declared.file_witnesses.job.Cached.TheVariants.{Anew}
use Rattle.rule_chain.specs.FileWitnesses.Kept.{IsKept}
use Rattle.rule_chain.specs.FileWitnesses.Lent.{lent_graph}
use Rattle.rule_chain.proofs.FileWitnesses.RequiredLemmas.{new_told}
use Rattle.rule_chain.proofs.FileWitnesses.EachLemmas.{any_default}
use Rattle.rule_chain.proofs.file_witnesses.worker.NextFinderWorker.answer.Goals as goal

pub next_found-requires-clause-new : goal.next_found-requires-clause-new
next_found-requires-clause-new c = new_told c.args.self.now.query.exports.now c.args.self.now.env.now c.args.self.now.new

pub next_found-requires-clause-kept : goal.next_found-requires-clause-kept
next_found-requires-clause-kept c =
    let w = c.args.self.now in
    let job = c.args.job in
    let low : job < length w.kept.now = omega (arith, c.requires.known, w.kept_count) in
    let graph : lent_graph w.graphs.now job ≡ Some c.of.result.graph.now =
    ap option_copied (any_default w.graphs.now job None _ c.requires.known ∙ c.in-Some.is) ∙ ap Some (sym c.of.ensures.same) in
    subst (λ o. IsKept w.query.f.now o (get_or w.kept.now job c.index-self-job.result)) graph
    (subst (λ k. IsKept w.query.f.now (lent_graph w.graphs.now job) k) (any_default w.kept.now job Anew c.index-self-job.result low)
    (w.each_kept job c.requires.known))
