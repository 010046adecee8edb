use Rattle.type_laws.proofs.PlaceLemmas.{part-in, same-key-place}
use Rattle.type_laws.proofs.keys_tell_places_apart.Goals as goal

pub returns : goal.returns
returns c = λ item j k p q distinct few e f token same. same-key-place item distinct p q few (part-in item j p e) (part-in item k q f) token same
