-- Notes that are some of others.
use Rattle.std.specs.Prelude.{List, [], ◌∷◌}
use Rattle.rule_chain.specs.declared.rule_run.state.SkipNote.{SkipNote}

-- The first notes are the second with some left out.
pub data AreSome : List SkipNote → List SkipNote → Type 0 where
  nothing : AreSome [] []
  with_note : (note : SkipNote) (notes all : List SkipNote) → AreSome notes all → AreSome (note ∷ notes) (note ∷ all)
  without_note : (note : SkipNote) (notes all : List SkipNote) → AreSome notes all → AreSome notes (note ∷ all)
