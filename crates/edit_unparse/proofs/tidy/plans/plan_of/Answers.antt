use Rattle.std.proofs.Common.{◌≡◌, ℕ, Bool, ap, ◌∙◌, arith, List, length, filter, subst}
use Rattle.edit_marks.specs.declared.edit_conflict.edit.Edit.{Edit}
use Rattle.edit_unparse.specs.Tidy.Flags.{IsOwners}
use Rattle.edit_unparse.specs.Tidy.Found.{all_inserts}
use Rattle.edit_unparse.specs.Tidy.Spots.{is_number, spot, spot_number}
use Rattle.edit_unparse.specs.Tidy.Text.{token_pieces}
use Rattle.edit_unparse.proofs.PlanLemmas.{plans_beyond, plans_tokens}
use Rattle.edit_unparse.proofs.tidy.plans.plan_of.Goals as goal

pub returns : goal.returns
returns c =
    let pieces = c.args.lexed.now in
    let edits = c.args.edits.now in
    let gone = c.args.gone.now in
    let owners = c.in_ok-owners.owners in
    let joined = c.in_ok-joined.joined in
    let tokens = token_pieces 0 pieces in
    let own = c.in_ok-pieces.ensures.pieces in
    let many : c.len-count.result ≡ length c.in_ok-pieces.pieces.items = omega (arith, c.len-count.ensures, c.in_ok-pieces.pieces.ok.0) in
    let count : c.len-count.result ≡ length tokens = many ∙ ap length own in
    let are : IsOwners (length tokens) edits gone owners =
    subst (λ (es : List Edit). IsOwners (length tokens) es gone owners) c.edits-all.ensures.edits
    (subst (λ (n : ℕ). IsOwners n c.edits-all.result.now gone owners) count c.in_ok-owners.ensures) in
    let joined_are = c.in_ok-joined.ensures.joints edits gone are in
    let number = λ (token : ℕ) (after : Bool). is_number (spot_number (spot token after)) in
    let there = λ (token : ℕ) (after : Bool). c.in_ok-inserts.ensures.all token after
    ∙ ap (λ (l : List Bool). filter (number token after) (all_inserts edits l c.args.depths.now 0 0 c.as_slice-flags.result.now))
    c.as_slice-goes.ensures.value
    ∙ ap (λ (l : List Bool). filter (number token after) (all_inserts edits owners.removed.items c.args.depths.now 0 0 l))
    c.as_slice-flags.ensures.value in
    record {
      pieces_are = own;
      joined_are = joined_are;
      tokens_are = plans_tokens pieces edits gone c.args.depths.now _ (length tokens) joined_are c.in_ok-joined.ensures.len are.removed there;
      beyond = plans_beyond pieces edits gone c.args.depths.now _ (length tokens) joined_are c.in_ok-joined.ensures.len are.lengths.0 are.removed there;
    }
