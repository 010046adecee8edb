use Rattle.wit_forest.proofs.ReachLaws.ReachLemmas.{both_ways}
use Rattle.wit_forest.proofs.reach_laws.ends_of_untils_are_those_of_walks.Goals as goal

pub returns : goal.returns
returns c = λ g ok test s n lt. both_ways g ok test s n lt
