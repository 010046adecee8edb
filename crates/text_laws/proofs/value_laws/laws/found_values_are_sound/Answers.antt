use Rattle.text_laws.proofs.ValueLaws.MatchingLemmas.{all_found, all_carried}
use Rattle.text_laws.proofs.value_laws.laws.found_values_are_sound.Goals as goal

pub returns : goal.returns
returns c = record {
  found = λ defined had number rule pieces items file_envs cuts reads carried.
      all_found c.values_are_sound.ensures pieces number rule items (c.trees_are_sound.ensures pieces items cuts reads) defined had file_envs carried;
  carried = λ defined had number rule pieces items file_envs cuts reads carried.
      all_carried c.values_are_sound.ensures pieces number rule items (c.trees_are_sound.ensures pieces items cuts reads) defined had file_envs carried;
}
