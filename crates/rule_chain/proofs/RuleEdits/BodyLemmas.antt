-- The last token of a body that is no list of statements any more is a token of the text.
use Rattle.std.proofs.Common.{◌≡◌, ◌<◌, ◌-◌, ℕ, Bool, true, false, None, Some, refl, sym, subst, List, [], ◌∷◌, ◌++◌, length, map}
use Rattle.std.proofs.Math.Path.{subst₂}
use Rattle.std.specs.Prelude.{All, IfSome, Option, if◌then◌else◌, not, slice_get, ◌&&◌}
use Rattle.std.specs.List.{cons_option, filter_map}
use Rattle.std.specs.Option.{option_map}
use Rattle.std.proofs.lemmas.List.Elements.{All-nil, All-cons, All-append, All-contains}
use Rattle.std.proofs.lemmas.Option.{get_or_from_slice_get, slice_get_within}
use Rattle.c_terms.specs.declared.tree.Tree.{Tree}
use Rattle.c_terms.specs.Trees.{leaves}
use Rattle.c_lexer.specs.Pieces.{TextPiece}
use Rattle.c_lexer.specs.Ids.{ids_of}
use Rattle.cpp_lines.specs.declared.reading.Item.{Item}
use Rattle.smpl_patch.specs.declared.rule.Rule.{Rule}
use Rattle.smpl_patch.specs.declared.witness.RuleWitness.{RuleWitness}
use Rattle.edit_marks.specs.declared.edit_walk.nodes.ItemNodes.{ItemNodes}
use Rattle.edit_marks.specs.declared.tidy.shape.Body.{Body}
use Rattle.edit_marks.specs.declared.tidy.touch.PatternStatement.{PatternStatement}
use Rattle.edit_marks.specs.declared.tidy.walk.TidiedEdits.{TidiedEdits}
use Rattle.edit_marks.specs.EditWalk.Keys.{number_of}
use Rattle.edit_marks.specs.EditWalk.Named.{tree_of}
use Rattle.edit_marks.specs.Tidy.Outlines.{tokens_of_item, tokens_of_items}
use Rattle.edit_marks.specs.Tidy.Walk.{AreTidyEdits}
use Rattle.edit_marks.proofs.EditWalk.NumberLemmas.{number_within}
use Rattle.edit_bodies.specs.declared.fault.BodyFault.{BodyFault}
use Rattle.edit_bodies.specs.declared.fault.BodyFault.TheVariants as bodies
use Rattle.edit_bodies.specs.Laid.{IsBroken, IsFault, new_text, nothing_seen}
use Rattle.edit_bodies.specs.Looks.{Seen, is_function_row, is_looked_at, is_torn, last_of, last_token, own_leaves, row_of, see, see_all}
use Rattle.edit_bodies.specs.Looks.{seen_function, seen_row, seen_statement, some_token}
use Rattle.edit_bodies.specs.Needs.{RowForm, form_of}
use Rattle.edit_bodies.specs.Rows.{NewText, tokens_in}

-- ---- the tokens of items

module _ (ids : List ℕ) where
  abbrev Own : List ℕ → Type 0
  Own numbers = All (λ n. n < length ids) numbers

  one_within : (o : Option ℕ) (numbers : List ℕ) → IfSome o (λ n. n < length ids) → Own numbers → Own (cons_option o numbers)
  one_within None numbers here rest = rest
  one_within (Some n) numbers here rest = All-cons (λ k. k < length ids) n numbers here rest

  found_within : (keys : List ℕ) → Own (filter_map (number_of ids) keys)
  found_within [] = All-nil (λ n. n < length ids)
  found_within (k ∷ keys) = one_within (number_of ids k) (filter_map (number_of ids) keys) (number_within ids k) (found_within keys)

  item_within : (t : Option Tree) → Own (tokens_of_item ids t)
  item_within None = All-nil (λ n. n < length ids)
  item_within (Some t) = found_within (map (λ l. l.id) (leaves t))

  items_within : (items : List Item) (touched : List ℕ) → Own (tokens_of_items ids items touched)
  items_within items [] = All-nil (λ n. n < length ids)
  items_within items (n ∷ touched) =
      All-append (λ k. k < length ids) (tokens_of_item ids (tree_of items n)) (tokens_of_items ids items touched)
      (item_within (tree_of items n)) (items_within items touched)

pub leaves_within : (ws : List RuleWitness) (rule : Rule) (items : List Item) (nodes : List ItemNodes) (pieces : List TextPiece) (made : TidiedEdits)
    → AreTidyEdits ws rule items nodes pieces made → All (λ n. n < length (ids_of pieces)) made.outline.leaves.items
leaves_within ws rule items nodes pieces made are =
    subst (λ (numbers : List ℕ). All (λ n. n < length (ids_of pieces)) numbers) (sym are.outlined.leaves) (items_within (ids_of pieces) items are.touched)

-- ---- the last tokens of broken bodies

module _ (count : ℕ) where
  abbrev pub Within : List ℕ → Type 0
  Within numbers = All (λ n. n < count) numbers

  module _ (text : NewText) (own : List ℕ) (statements : List (ℕ × PatternStatement)) (within : Within own) where
    token_within : (o : Option ℕ) → ((n : ℕ) → o ≡ Some n → n < count) → Within (some_token o)
    token_within None h = All-nil (λ n. n < count)
    token_within (Some n) h = All-cons (λ k. k < count) n [] (h n refl) (All-nil (λ k. k < count))

    leaf_within : (i n : ℕ) → slice_get own i ≡ Some n → n < count
    leaf_within i n is = subst (λ (k : ℕ). k < count) (get_or_from_slice_get own i n n is) (within i n (slice_get_within own i n is))

    last_within : (b : Body) → Within (last_token text own statements b)
    last_within b = token_within (last_of text own statements b) (λ n is. leaf_within ((own_leaves text own statements b).to - 1) n is)

    pick : (t : Bool) (x y : Seen) → Within x.broken → Within y.broken → Within (if t then x else y).broken
    pick true x y one two = one
    pick false x y one two = two

    row_within : (b : Body) (form : Option RowForm) (s : Seen) → Within s.broken → Within (seen_row text own statements b form s).broken
    row_within b None s h = All-append (λ n. n < count) s.broken (last_token text own statements b) h (last_within b)
    row_within b (Some f) s h = h

    body_within : (b : Body) (form : Option RowForm) (s : Seen) → Within s.broken → Within (see text own statements b form s).broken
    body_within b form s h =
        pick b.is_function (seen_function text own statements b s) (seen_statement text own statements b form s)
        (pick (is_torn text own statements b && not (is_function_row (tokens_in (row_of text own statements b s.braces))))
        (record s { broken = s.broken ++ last_token text own statements b }) s
        (All-append (λ n. n < count) s.broken (last_token text own statements b) h (last_within b)) h)
        (pick (is_looked_at text own statements b) (seen_row text own statements b form s) s (row_within b form s h) h)

    all_within : (bodies : List Body) (forms : List (Option RowForm)) (s : Seen) → Within s.broken
        → Within (see_all text own statements bodies forms s).broken
    all_within [] forms s h = h
    all_within (b ∷ bodies) [] s h = h
    all_within (b ∷ bodies) (form ∷ forms) s h = all_within bodies forms (see text own statements b form s) (body_within b form s h)

  pub broken_within : (pieces : List TextPiece) (items : List Item) (made : TidiedEdits) (token : ℕ) → Within made.outline.leaves.items
      → IsBroken pieces items made token → token < count
  broken_within pieces items made token within b =
      let seen = b.are_seen in
      All-contains (λ n. n < count) b.seen.broken token
      (subst (λ (s : Seen). Within s.broken) (sym seen.seen_so)
      (all_within (new_text pieces made.list b.plan b.lists seen.words) made.outline.leaves.items made.statements.items within
      made.outline.bodies.items (map (option_map form_of) seen.readings) nothing_seen (All-nil (λ n. n < count)))) b.among

-- ---- the fault of a layout, over lists that are equal

module _ (ps pieces : List TextPiece) (is items : List Item) (made : TidiedEdits) (f : BodyFault) (token : ℕ) (same : ps ≡ pieces)
    (told : f ≡ bodies.Body token) (fault : IsFault ps is made f) where
  pub token_is_within : All (λ n. n < length (ids_of pieces)) made.outline.leaves.items → token < length (ids_of ps)
  token_is_within own =
      broken_within (length (ids_of ps)) ps is made token
      (subst (λ (x : List TextPiece). All (λ n. n < length (ids_of x)) made.outline.leaves.items) (sym same) own)
      (subst (IsFault ps is made) told fault)

  pub body_is_broken : is ≡ items → IsBroken pieces items made token
  body_is_broken alike =
      subst₂ (λ (x : List TextPiece) (its : List Item). IsBroken x its made token) same alike (subst (IsFault ps is made) told fault)
