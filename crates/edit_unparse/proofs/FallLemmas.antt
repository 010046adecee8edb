-- What goes with the commas, by the flags of the parts.
use Rattle.std.proofs.Common.{◌≡◌, ◌<◌, ◌+◌, ◌&&◌, ℕ, suc, Bool, not, refl, sym, ap, ◌∙◌, arith, map, subst}
use Rattle.std.proofs.Common.{List, [], ◌∷◌, length, fold}
use Rattle.std.specs.List.{items_where_true, list_any}
use Rattle.std.proofs.lemmas.List.{length-map}
use Rattle.c_lexer.specs.Pieces.{TextPiece}
use Rattle.edit_marks.specs.declared.edit_conflict.edit.Edit.{Edit}
use Rattle.edit_unparse.specs.declared.tidy.commas.CommaList.{CommaList}
use Rattle.edit_unparse.specs.declared.tidy.parts.TextPart.{TextPart}
use Rattle.edit_unparse.specs.declared.tidy.plan.Plan.{Plan}
use Rattle.edit_unparse.specs.Output.{Part}
use Rattle.edit_unparse.specs.Tidy.Fallen.{LooksAs, all_origins, all_parts, falls_from, has_part, insert_falls, is_origin, line_flags, numbered, piece_falls}
use Rattle.edit_unparse.specs.Tidy.Made.{origin_in, origins_in, part_in, parts_in}
use Rattle.edit_unparse.specs.Tidy.Plans.{placement_in}
use Rattle.edit_unparse.specs.Tidy.Text.{token_pieces, with_commas}
use Rattle.edit_unparse.proofs.AlikeLemmas.{looks_numbered}
use Rattle.edit_unparse.proofs.NumberLemmas.{Apart, AreBelow, below_gone, falls_is, gone_are, numbered_apart, ties}
use Rattle.edit_unparse.proofs.PlacedApart.{placed_apart, placed_high}

numbered_length : (next : ℕ) (parts : List Part) → length (numbered next parts) ≡ length parts
numbered_length next [] = refl
numbered_length next (p ∷ parts) = ap suc (numbered_length (next + 1) parts)

module _ (pieces : List TextPiece) (edits : List Edit) (plan : Plan) (lists : List CommaList) (parts : List TextPart) (stays : List Bool)
    (tokens : plan.pieces.items ≡ token_pieces 0 pieces) (are : parts_in pieces parts ≡ all_parts edits plan pieces) (long : length stays ≡ length parts)
    (left : (ps : List Part) → LooksAs plan.pieces.items ps (parts_in pieces parts)
    → items_where_true stays ps ≡ fold (with_commas (placement_in edits plan) plan.pieces.items) ps lists) where
  abbrev made : List Part
  made = parts_in pieces parts

  abbrev own : List Part
  own = numbered (length pieces + 1) made

  abbrev commas : List Part → List Part
  commas ps = fold (with_commas (placement_in edits plan) plan.pieces.items) ps lists

  apart : Apart made
  apart = subst Apart (sym are) (placed_apart (placement_in edits plan) [] (line_flags edits plan pieces) 0 0 pieces)

  below : AreBelow (length pieces) made
  below = subst (AreBelow (length pieces)) (sym are)
      (λ n most. placed_high (placement_in edits plan) [] (line_flags edits plan pieces) 0 0 pieces n (omega arith))

  left_is : items_where_true stays own ≡ commas own
  left_is = left own (looks_numbered pieces plan.pieces.items made tokens)

  own_long : length stays ≡ length own
  own_long = omega (arith, long, numbered_length (length pieces + 1) made, length-map parts (part_in pieces))

  pub piece_is : (n : ℕ) (flag : Bool) → n < length pieces → flag ≡ has_part n (items_where_true (map not stays) made)
      → flag ≡ piece_falls edits plan pieces lists n
  piece_is n flag less is =
      is
      ∙ sym (below_gone n (length pieces + 1) (map not stays) made (omega arith))
      ∙ gone_are n stays own own_long (numbered_apart (length pieces) (length pieces + 1) made (omega arith) apart below)
      ∙ ap (λ (l : List Part). has_part n own && not (has_part n l)) left_is
      ∙ ap (λ (l : List Part). has_part n (numbered (length pieces + 1) l) && not (has_part n (commas (numbered (length pieces + 1) l)))) are

  pub place_is : (edit insert offset : ℕ) (flag : Bool) → origins_in parts ≡ all_origins edits plan pieces
      → flag ≡ list_any (is_origin edit insert offset) (items_where_true (map not stays) (map origin_in parts))
      → flag ≡ insert_falls edits plan pieces lists edit insert offset
  place_is edit insert offset flag origins is =
      is
      ∙ falls_is edit insert offset (length pieces + 1) (origins_in parts) stays (items_where_true stays own)
      (ties pieces (length pieces) (length pieces + 1) parts stays [] (omega arith) long below (λ n most. refl))
      ∙ (λ i. falls_from edit insert offset (length pieces + 1) (origins i) (left_is i))
      ∙ ap (λ (l : List Part). falls_from edit insert offset (length pieces + 1) (all_origins edits plan pieces) (commas (numbered (length pieces + 1) l))) are

-- the same of slices, whose lists are known by equations
module _ (pieces : List TextPiece) (edits all : List Edit) (plan : Plan) (lists : List CommaList) (made parts : List TextPart) (kept stays : List Bool)
    (same : all ≡ edits) (parts_is : parts ≡ made) (stays_is : stays ≡ kept) (tokens : plan.pieces.items ≡ token_pieces 0 pieces)
    (are : parts_in pieces made ≡ all_parts all plan pieces) (long : length kept ≡ length parts)
    (left : (ps : List Part) → LooksAs plan.pieces.items ps (parts_in pieces parts)
    → items_where_true kept ps ≡ fold (with_commas (placement_in all plan) plan.pieces.items) ps lists) where
  parts_are : parts_in pieces parts ≡ all_parts all plan pieces
  parts_are = ap (parts_in pieces) parts_is ∙ are

  stays_long : length stays ≡ length parts
  stays_long = ap length stays_is ∙ long

  left_are : (ps : List Part) → LooksAs plan.pieces.items ps (parts_in pieces parts)
      → items_where_true stays ps ≡ fold (with_commas (placement_in all plan) plan.pieces.items) ps lists
  left_are ps looks = ap (λ (fs : List Bool). items_where_true fs ps) stays_is ∙ left ps looks

  pub piece_falls_is : (n : ℕ) (flag : Bool) → n < length pieces → flag ≡ has_part n (items_where_true (map not stays) (parts_in pieces parts))
      → flag ≡ piece_falls edits plan pieces lists n
  piece_falls_is n flag less is =
      piece_is pieces all plan lists parts stays tokens parts_are stays_long left_are n flag less is
      ∙ ap (λ (es : List Edit). piece_falls es plan pieces lists n) same

  pub insert_falls_is : (edit insert offset : ℕ) (flag : Bool) → origins_in made ≡ all_origins all plan pieces
      → flag ≡ list_any (is_origin edit insert offset) (items_where_true (map not stays) (map origin_in parts))
      → flag ≡ insert_falls edits plan pieces lists edit insert offset
  insert_falls_is edit insert offset flag origins is =
      place_is pieces all plan lists parts stays tokens parts_are stays_long left_are edit insert offset flag (ap origins_in parts_is ∙ origins) is
      ∙ ap (λ (es : List Edit). insert_falls es plan pieces lists edit insert offset) same
