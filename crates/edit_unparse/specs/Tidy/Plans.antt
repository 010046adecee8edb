-- Which tokens go, and which inserts stand where, as a plan has it.
use Rattle.std.specs.Prelude.{ℕ, ◌≡◌, ◌<◌, ◌≤◌, ◌+◌, Bool, true, false, List, [], drop, filter, get_or, length}
use Rattle.c_lexer.specs.Pieces.{TextPiece}
use Rattle.edit_marks.specs.declared.edit_conflict.edit.Edit.{Edit}
use Rattle.edit_unparse.specs.declared.tidy.flags.Extent.{Extent}
use Rattle.edit_unparse.specs.declared.tidy.plan.Placed.{Placed}
use Rattle.edit_unparse.specs.declared.tidy.plan.Plan.{Plan}
use Rattle.edit_unparse.specs.Output.{is_removed}
use Rattle.edit_unparse.specs.Tidy.Places.{inserts_after, inserts_before, joints}
use Rattle.edit_unparse.specs.Tidy.Spots.{is_number, placed_texts, spot, spot_number}
use Rattle.edit_unparse.specs.Tidy.Text.{Placement, token_pieces}

-- the inserts on one side of a token's place, as the plan has it
abbrev pub inserts_there : Plan → ℕ → Bool → List Placed
inserts_there plan token after = filter (is_number (spot_number (spot token after))) plan.inserts.items

-- their texts
abbrev pub texts_there : List Edit → Plan → ℕ → Bool → List (List ℕ)
texts_there edits plan token after = placed_texts edits (inserts_there plan token after)

-- what a plan says of these edits
abbrev pub placement_in : List Edit → Plan → Placement
placement_in edits plan = record {
  goes = λ n. get_or plan.removed.items n false;
  joined = λ n. get_or plan.joined.items n false;
  before = λ n. texts_there edits plan n false;
  after = λ n. texts_there edits plan n true;
}

-- what a plan says of a token, given which tokens are joined to the one before them
pub record IsPlanAt (edits : List Edit) (depths : List ℕ) (joined : List Bool) (plan : Plan) (n : ℕ) : Type 0 where
  pub goes : get_or plan.removed.items n false ≡ is_removed n edits
  pub before : inserts_there plan n false ≡ inserts_before edits depths (is_removed n edits) (get_or joined n false) n (drop (n + 1) joined)
  pub after : inserts_there plan n true ≡ inserts_after edits depths (is_removed n edits) n

-- what a plan says of a token that the text doesn't have: it doesn't go, and no inserts stand there
pub record IsPlanBeyond (plan : Plan) (n : ℕ) : Type 0 where
  pub goes : get_or plan.removed.items n false ≡ false
  pub before : inserts_there plan n false ≡ []
  pub after : inserts_there plan n true ≡ []

-- the plan of these edits in this text
pub record IsPlan (pieces : List TextPiece) (edits : List Edit) (gone : List Extent) (depths : List ℕ) (plan : Plan) : Type 0 where
  pub pieces_are : plan.pieces.items ≡ token_pieces 0 pieces
  pub joined_are : plan.joined.items ≡ joints edits gone pieces
  pub tokens_are : (n : ℕ) → n < length (token_pieces 0 pieces) → IsPlanAt edits depths (joints edits gone pieces) plan n
  pub beyond : (n : ℕ) → length (token_pieces 0 pieces) ≤ n → IsPlanBeyond plan n
