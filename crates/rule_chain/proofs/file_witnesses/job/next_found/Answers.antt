use Rattle.std.proofs.Common.{Some, subst}
use Rattle.rule_chain.specs.FileWitnesses.Kept.{IsKept}
use Rattle.rule_chain.proofs.FileWitnesses.KeptLemmas.{told_matched}
use Rattle.rule_chain.proofs.file_witnesses.job.next_found.Goals as goal

pub item_witnesses-requires-clause-matched : goal.item_witnesses-requires-clause-matched
item_witnesses-requires-clause-matched c =
    let f = c.args.query.now.f.now in
    let g = c.args.g.now.graph.now in
    told_matched f g c.args.g.now.sound c.in-Sets.matched (subst (λ k. IsKept f (Some g) k) c.in-Sets.is c.requires.kept)
