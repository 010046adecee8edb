-- A list of values in order that is stored as several lists.
use Rattle.std.specs.Prelude.{cond, List, [], ◌∷◌}
use Rattle.std.specs.declared.cmp.Ordering.{Ordering}
use Rattle.std.specs.declared.cmp.Ordering.TheVariants.{Less, Equal, Greater}
use Rattle.smpl_terms.specs.declared.value.Value.{Value}
use Rattle.smpl_terms.specs.Values.{same, value_order}
use Rattle.env_sets.specs.Rising.{Rise}

abbrev pub by_order : Ordering → List Value → List Value → List Value → List Value
by_order Less a b c = a
by_order Equal a b c = b
by_order Greater a b c = c

-- the list with one more value at its place, or unchanged if it has the value
abbrev pub with_value : Value → List Value → List Value
with_value v [] = v ∷ []
with_value v (w ∷ ws) = by_order (value_order v w) (v ∷ w ∷ ws) (w ∷ ws) (w ∷ with_value v ws)

abbrev pub with_values : List Value → List Value → List Value
with_values [] ws = ws
with_values (v ∷ vs) ws = with_value v (with_values vs ws)

-- the values of a list and of others, in one list
abbrev pub all_of : List Value → List (List Value) → List Value
all_of vs [] = vs
all_of vs (ws ∷ rest) = with_values vs (all_of ws rest)

-- each list is in order
abbrev pub AllRise : List (List Value) → Type 0
AllRise [] = Unit {0}
AllRise (vs ∷ rest) = Rise vs × AllRise rest

-- what is added before ws: v, unless ws begins with it
abbrev pub unless_first : Value → List Value → List Value
unless_first v [] = v ∷ []
unless_first v (w ∷ ws) = cond (same w v) [] (v ∷ [])
