use Rattle.rule_chain.proofs.FileWitnesses.RequiredLemmas.{new_told}
use Rattle.rule_chain.proofs.file_witnesses.worker.FirstFinderWorker.answer.Goals as goal

pub first_found-requires : goal.first_found-requires
first_found-requires c = record { new = new_told c.args.self.now.query.exports.now c.args.self.now.env.now c.args.self.now.new }
