-- Lists of values in order, each once.
use Rattle.std.specs.Prelude.{◌≡◌, true, not, List, [], ◌∷◌}
use Rattle.std.specs.List.{list_all}
use Rattle.std.specs.Ordering.{is_lt}
use Rattle.std.specs.declared.cmp.Ordering.TheVariants.{Less}
use Rattle.smpl_terms.specs.declared.value.Value.{Value}
use Rattle.smpl_terms.specs.Values.{value_order}

-- v is before the first of them
abbrev pub BeforeFirst : Value → List Value → Type 0
BeforeFirst v [] = Unit {0}
BeforeFirst v (w ∷ ws) = value_order v w ≡ Less

-- each value is before the next
abbrev pub Rise : List Value → Type 0
Rise [] = Unit {0}
Rise (v ∷ vs) = BeforeFirst v vs × Rise vs

-- v is before none of them
abbrev pub NoneAbove : Value → List Value → Type 0
NoneAbove v vs = list_all (λ u. not (is_lt (value_order v u))) vs ≡ true
