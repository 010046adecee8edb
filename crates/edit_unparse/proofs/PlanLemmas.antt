-- A plan says of the tokens what the edits do.
use Rattle.std.proofs.Common.{◌≡◌, ◌<◌, ◌≤◌, ◌+◌, ℕ, Bool, true, false, ap, ◌∙◌, arith, List, length, get_or, drop, filter}
use Rattle.std.proofs.lemmas.List.{get_or_past}
use Rattle.c_lexer.specs.Pieces.{TextPiece}
use Rattle.edit_marks.specs.declared.edit_conflict.edit.Edit.{Edit}
use Rattle.edit_unparse.specs.declared.tidy.flags.Extent.{Extent}
use Rattle.edit_unparse.specs.declared.tidy.plan.Plan.{Plan}
use Rattle.edit_unparse.specs.Output.{is_removed}
use Rattle.edit_unparse.specs.Tidy.Places.{inserts_after, inserts_before, joints}
use Rattle.edit_unparse.specs.Tidy.Plans.{IsPlan, IsPlanAt, IsPlanBeyond, placement_in}
use Rattle.edit_unparse.specs.Tidy.Found.{all_inserts}
use Rattle.edit_unparse.specs.Tidy.Spots.{is_number, placed_texts, spot, spot_number}
use Rattle.edit_unparse.specs.Tidy.Text.{placement_with, token_pieces}
use Rattle.edit_unparse.proofs.OwnerLemmas.{runs_go}
use Rattle.edit_unparse.proofs.PieceLemmas.{Agree}
use Rattle.edit_unparse.proofs.PlacementLemmas.{RunsGo, none_after, none_before, placed_after, placed_before}

pub plans_tokens : (pieces : List TextPiece) (edits : List Edit) (gone : List Extent) (depths : List ℕ) (plan : Plan) (count : ℕ)
    → plan.joined.items ≡ joints edits gone pieces → length plan.joined.items ≡ count
    → ((n : ℕ) → n < count → get_or plan.removed.items n false ≡ is_removed n edits)
    → ((token : ℕ) (after : Bool) → filter (is_number (spot_number (spot token after))) plan.inserts.items
    ≡ filter (is_number (spot_number (spot token after))) (all_inserts edits plan.removed.items depths 0 0 plan.joined.items))
    → (n : ℕ) → n < count → IsPlanAt edits depths (joints edits gone pieces) plan n
plans_tokens pieces edits gone depths plan count are long removed inserts n less =
    let runs : RunsGo plan.removed.items plan.joined.items = runs_go edits gone pieces plan.removed.items plan.joined.items count are long removed in
    let within : n < length plan.joined.items = omega arith in
    record {
      goes = removed n less;
      before = inserts n false
          ∙ placed_before edits plan.removed.items depths plan.joined.items runs n within
          ∙ (λ i. inserts_before edits depths (removed n less i) (get_or (are i) n false) n (drop (n + 1) (are i)));
      after = inserts n true
          ∙ placed_after edits plan.removed.items depths plan.joined.items runs n within
          ∙ (λ i. inserts_after edits depths (removed n less i) n);
    }

pub plans_beyond : (pieces : List TextPiece) (edits : List Edit) (gone : List Extent) (depths : List ℕ) (plan : Plan) (count : ℕ)
    → plan.joined.items ≡ joints edits gone pieces → length plan.joined.items ≡ count → length plan.removed.items ≡ count
    → ((n : ℕ) → n < count → get_or plan.removed.items n false ≡ is_removed n edits)
    → ((token : ℕ) (after : Bool) → filter (is_number (spot_number (spot token after))) plan.inserts.items
    ≡ filter (is_number (spot_number (spot token after))) (all_inserts edits plan.removed.items depths 0 0 plan.joined.items))
    → (n : ℕ) → count ≤ n → IsPlanBeyond plan n
plans_beyond pieces edits gone depths plan count are long flags removed inserts n past =
    let runs : RunsGo plan.removed.items plan.joined.items = runs_go edits gone pieces plan.removed.items plan.joined.items count are long removed in
    let behind : length plan.joined.items ≤ n = omega arith in
    record {
      goes = get_or_past plan.removed.items n false (omega arith);
      before = inserts n false ∙ none_before edits plan.removed.items depths plan.joined.items runs n behind;
      after = inserts n true ∙ none_after edits plan.removed.items depths plan.joined.items runs n behind;
    }

pub plan_agrees : (pieces : List TextPiece) (edits : List Edit) (gone : List Extent) (depths : List ℕ) (plan : Plan)
    → IsPlan pieces edits gone depths plan
    → Agree (length (token_pieces 0 pieces)) (placement_in edits plan) (placement_with edits depths (joints edits gone pieces))
plan_agrees pieces edits gone depths plan is = record {
  goes = λ n less. (is.tokens_are n less).goes;
  joined = λ n. ap (λ (l : List Bool). get_or l n false) is.joined_are;
  before = λ n less. ap (placed_texts edits) (is.tokens_are n less).before;
  after = λ n less. ap (placed_texts edits) (is.tokens_are n less).after;
}
