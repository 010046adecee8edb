-- The values that a variable can have in a graph.
use Rattle.std.specs.Prelude.{Bool, List, ◌++◌, map}
use Rattle.std.specs.List.{list_any}
use Rattle.smpl_terms.specs.declared.value.Value.{Value}
use Rattle.smpl_terms.specs.declared.value.Value.TheVariants.{Term, Place}
use Rattle.smpl_terms.specs.Values.{same}
use Rattle.cfg_build.specs.CfgGraph.Flow.{Flow}
use Rattle.cfg_build.specs.CfgGraph.Values.{terms_of, places_of}

-- the terms in its labels, and the places of its tokens and braces
abbrev pub values_of : Flow → List Value
values_of g = map Term (terms_of g) ++ map Place (places_of g)

-- v is one of the values, up to the ids of tokens
abbrev pub is_among : List Value → Value → Bool
is_among vs v = list_any (λ u. same u v) vs
