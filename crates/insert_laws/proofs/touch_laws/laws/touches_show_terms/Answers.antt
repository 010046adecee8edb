use Rattle.insert_laws.proofs.TouchLaws.MatchingLemmas.{graphs_of, all_show, all_carried}
use Rattle.insert_laws.proofs.touch_laws.laws.touches_show_terms.Goals as goal

pub returns : goal.returns
returns c = record {
  found = λ defined had number rule pieces items file_envs metas ready unbound are reads carried.
      all_show c.formulas_have_patterns_of_their_bodies.ensures.patterns c.atoms_have_their_variables.ensures c.blocks_are_hidden.ensures
      rule metas are ready unbound number items (graphs_of c.every_item_has_a_graph.ensures.sound pieces items reads) defined had file_envs carried;
  carried = λ defined had number rule pieces items file_envs metas ready unbound are reads carried.
      all_carried c.formulas_have_patterns_of_their_bodies.ensures.patterns c.atoms_have_their_variables.ensures c.blocks_are_hidden.ensures
      rule metas are ready unbound number items (graphs_of c.every_item_has_a_graph.ensures.sound pieces items reads) defined had file_envs carried;
}
