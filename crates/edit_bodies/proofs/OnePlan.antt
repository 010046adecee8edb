-- Two plans of the same edits say the same, and the same goes with the commas of lists.
use Rattle.std.proofs.Common.{◌≡◌, ◌+◌, ◌&&◌, ℕ, Bool, true, false, not, refl, sym, ap, ◌∙◌, inl, inr}
use Rattle.std.proofs.Common.{List, [], ◌∷◌, ◌++◌, length, get_or, drop, fold}
use Rattle.std.proofs.lemmas.Bool.{cases_lt}
use Rattle.c_lexer.specs.declared.piece.PieceKind.{PieceKind}
use Rattle.c_lexer.specs.declared.piece.PieceKind.TheVariants.{Word, Blank, Comment, Line}
use Rattle.c_lexer.specs.Pieces.{TextPiece}
use Rattle.c_lexer.specs.Lexes.{id_after}
use Rattle.tidy_flags.specs.Lines.{emptied}
use Rattle.edit_marks.specs.declared.edit_conflict.edit.Edit.{Edit}
use Rattle.edit_unparse.specs.declared.tidy.commas.CommaList.{CommaList}
use Rattle.edit_unparse.specs.declared.tidy.flags.Extent.{Extent}
use Rattle.edit_unparse.specs.declared.tidy.plan.Plan.{Plan}
use Rattle.edit_unparse.specs.Output.{added, kept}
use Rattle.edit_unparse.specs.Tidy.Fallen.{all_origins, all_parts, falls_from, has_part, insert_falls, insert_origins, left_numbered, line_flags}
use Rattle.edit_unparse.specs.Tidy.Fallen.{no_origins, numbered, origins, origins_at, piece_falls}
use Rattle.edit_unparse.specs.Tidy.Plans.{IsPlan, inserts_there, placement_in}
use Rattle.edit_unparse.specs.Tidy.Spots.{placed_texts}
use Rattle.edit_unparse.specs.Tidy.Text.{Placement, bytes_at, line_bytes, tidy_parts, tidy_placed, token_pieces, with_commas}

-- the plans say the same of all tokens
pub record SayTheSame (edits : List Edit) (p q : Plan) : Type 0 where
  pub pieces : p.pieces.items ≡ q.pieces.items
  pub inserts : inserts_there p ≡ inserts_there q
  pub placement : placement_in edits p ≡ placement_in edits q

module _ (pieces : List TextPiece) (edits : List Edit) (gone : List Extent) (depths : List ℕ) (p q : Plan) (one : IsPlan pieces edits gone depths p)
    (two : IsPlan pieces edits gone depths q) where
  goes_same : (n : ℕ) → get_or p.removed.items n false ≡ get_or q.removed.items n false
  goes_same n = elim (cases_lt n (length (token_pieces 0 pieces))) [
    | inl less ↦ (one.tokens_are n less).goes ∙ sym (two.tokens_are n less).goes
    | inr past ↦ (one.beyond n past).goes ∙ sym (two.beyond n past).goes
  ]

  inserts_same : (n : ℕ) (after : Bool) → inserts_there p n after ≡ inserts_there q n after
  inserts_same n false = elim (cases_lt n (length (token_pieces 0 pieces))) [
    | inl less ↦ (one.tokens_are n less).before ∙ sym (two.tokens_are n less).before
    | inr past ↦ (one.beyond n past).before ∙ sym (two.beyond n past).before
  ]
  inserts_same n true = elim (cases_lt n (length (token_pieces 0 pieces))) [
    | inl less ↦ (one.tokens_are n less).after ∙ sym (two.tokens_are n less).after
    | inr past ↦ (one.beyond n past).after ∙ sym (two.beyond n past).after
  ]

  joined_same : p.joined.items ≡ q.joined.items
  joined_same = one.joined_are ∙ sym two.joined_are

  pub plans_same : SayTheSame edits p q
  plans_same = record {
    pieces = one.pieces_are ∙ sym two.pieces_are;
    inserts = λ i. λ n after. inserts_same n after i;
    placement = λ i. record {
      goes = λ n. goes_same n i;
      joined = λ n. get_or (joined_same i) n false;
      before = λ n. placed_texts edits (inserts_same n false i);
      after = λ n. placed_texts edits (inserts_same n true i);
    };
  }

-- ---- what goes with the commas of lists

module _ (edits : List Edit) (p q : Plan) (same : SayTheSame edits p q) where
  origins_there : (kind : PieceKind) (flags : List Bool) (token number : ℕ) (piece : TextPiece)
      → origins_at edits p kind flags token number piece ≡ origins_at edits q kind flags token number piece
  origins_there (Word kind id) flags token number piece = λ i. insert_origins edits (same.inserts i token false)
      ++ (no_origins (kept ((same.placement i).goes token) number piece) ++ insert_origins edits (same.inserts i token true))
  origins_there Blank flags token number piece = λ i. no_origins (tidy_parts (same.placement i) added [] Blank flags token number piece)
  origins_there Comment flags token number piece = refl
  origins_there Line flags token number piece = refl

  origins_same : (flags : List Bool) (token number : ℕ) (pieces : List TextPiece) → origins edits p flags token number pieces
      ≡ origins edits q flags token number pieces
  origins_same flags token number [] = refl
  origins_same flags token number (piece ∷ pieces) =
      let next = id_after piece.kind token in
      let rest = λ (at : Placement). drop (length (bytes_at at piece.kind token piece.text)) flags in
      let more : origins edits p (rest (placement_in edits p)) next (number + 1) pieces
      ≡ origins edits q (rest (placement_in edits q)) next (number + 1) pieces =
      ap (λ (at : Placement). origins edits p (rest at) next (number + 1) pieces) same.placement
      ∙ origins_same (rest (placement_in edits q)) next (number + 1) pieces in
      λ i. origins_there piece.kind flags token number piece i ++ more i

  module _ (pieces : List TextPiece) where
    all_origins_same : all_origins edits p pieces ≡ all_origins edits q pieces
    all_origins_same =
        ap (λ (at : Placement). origins edits p (emptied (line_bytes at 0 pieces)) 0 0 pieces) same.placement
        ∙ origins_same (line_flags edits q pieces) 0 0 pieces

    all_parts_same : all_parts edits p pieces ≡ all_parts edits q pieces
    all_parts_same = ap (λ (at : Placement). tidy_placed at added [] (emptied (line_bytes at 0 pieces)) 0 0 pieces) same.placement

    left_same : (lists : List CommaList) → left_numbered edits p pieces lists ≡ left_numbered edits q pieces lists
    left_same lists = λ i. fold (with_commas (same.placement i) (same.pieces i)) (numbered (length pieces + 1) (all_parts_same i)) lists

    pub piece_falls_same : (lists : List CommaList) (number : ℕ) → piece_falls edits p pieces lists number ≡ piece_falls edits q pieces lists number
    piece_falls_same lists number =
        λ i. has_part number (numbered (length pieces + 1) (all_parts_same i)) && not (has_part number (left_same lists i))

    pub insert_falls_same : (lists : List CommaList) (edit insert offset : ℕ)
        → insert_falls edits p pieces lists edit insert offset ≡ insert_falls edits q pieces lists edit insert offset
    insert_falls_same lists edit insert offset = λ i. falls_from edit insert offset (length pieces + 1) (all_origins_same i) (left_same lists i)
