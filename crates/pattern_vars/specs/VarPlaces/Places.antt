-- The places of a sequence's elements: what is quantified at, inside and around each.
use Rattle.std.specs.Prelude.{Bool, not, List, [], ◌∷◌, ◌++◌}
use Rattle.std.specs.List.{filter}
use Rattle.smpl_terms.specs.declared.var.Var.{Var}
use Rattle.smpl_patch.specs.declared.pattern.Pattern.{Pattern}
use Rattle.smpl_patch.specs.Patterns as patterns
use Rattle.smpl_patch.specs.Bodies.{Element, Body, End, Then}
use Rattle.pattern_vars.specs.Reads.{reads}
use Rattle.pattern_vars.specs.VarPlaces.Placing.{Reading, occurs_element, at_suffix}
use Rattle.pattern_vars.specs.declared.var_places.reader.Reader.{Reader}
use Rattle.pattern_vars.specs.declared.var_places.place.Place.{Place}

abbrev pub reading_at : Reader → Reading
reading_at r = record {
  stands = patterns.stands r.decls.now r.tokens.now;
  used = patterns.used r.decls.now r.tokens.now;
  is_statement = patterns.is_statement;
}

-- whether the variable appears in the pattern or, if the flag says so, is used there
abbrev pub reads_by : Reader → Bool → Pattern → Var → Bool
reads_by r plus p x = reads r.decls.now r.tokens.now plus p x

-- the place of the first element of a suffix
abbrev pub place_at : Reading → Element → Body → List Var → List Var → Place
place_at r e rest w s = record {
  here = filter (at_suffix r e rest) w;
  inside = filter (occurs_element r e) (filter (λ x. not (at_suffix r e rest x)) w);
  scope = s ++ filter (at_suffix r e rest) w;
}

-- what is quantified later in the sequence
abbrev pub later_at : Reading → Element → Body → List Var → List Var
later_at r e rest w = filter (λ x. not (occurs_element r e x)) (filter (λ x. not (at_suffix r e rest x)) w)

-- the places of a sequence's elements
abbrev pub places : Reading → Body → List Var → List Var → List Place
places r End w s = []
places r (Then e rest) w s =
    place_at r e rest w s ∷ places r rest (later_at r e rest w) (s ++ filter (at_suffix r e rest) w)
