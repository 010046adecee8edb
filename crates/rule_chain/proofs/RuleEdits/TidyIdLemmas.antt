-- Ids stay below the next one where the text is tidied.
use Rattle.std.proofs.Common.{◌<◌, ◌≤◌, ◌+◌, ℕ, Bool, true, false, if◌then◌else◌, Some, ◌&&◌, get_or, arith, List, [], ◌∷◌, ◌++◌, length, drop}
use Rattle.std.specs.Prelude.{All, fold}
use Rattle.c_lexer.specs.Pieces.{TextPiece}
use Rattle.c_lexer.specs.declared.piece.PieceKind.{PieceKind}
use Rattle.c_lexer.specs.declared.piece.PieceKind.TheVariants.{Word, Blank, Comment, Line}
use Rattle.c_lexer.specs.Lexes.{id_after}
use Rattle.c_lexer.specs.Ids.{ids_of}
use Rattle.cpp_lines.specs.declared.reading.Item.{Item}
use Rattle.tidy_flags.specs.declared.signs.ListState.{ListState}
use Rattle.tidy_flags.specs.declared.signs.Sign.{Sign}
use Rattle.tidy_flags.specs.declared.signs.Sign.TheVariants as sign
use Rattle.tidy_flags.specs.Lines.{emptied, left_of_lines}
use Rattle.tidy_flags.specs.Signs.{depth_after, is_own_comma, list_start, state_after, stays_early}
use Rattle.edit_marks.specs.declared.edit_conflict.edit.Edit.{Edit}
use Rattle.edit_marks.specs.declared.tidy.walk.TidiedEdits.{TidiedEdits}
use Rattle.edit_unparse.specs.declared.tidy.commas.CommaList.{CommaList}
use Rattle.edit_unparse.specs.declared.tidy.parts.Brace.{Brace}
use Rattle.edit_unparse.specs.Output.{Part, added, kept}
use Rattle.edit_unparse.specs.Tidy.Commas.{blank_step, front_of, has_no_token, inside, is_from, rest_of, sign_of}
use Rattle.edit_unparse.specs.Tidy.Commas.{with_list, without_blanks, without_commas, without_early, without_last}
use Rattle.edit_unparse.specs.Tidy.Made.{frame_of}
use Rattle.edit_unparse.specs.Tidy.Text.{Frame, Placement, braces_at, bytes_at, is_touched, line_bytes, placement_of}
use Rattle.edit_unparse.specs.Tidy.Text.{tidied_parts, tidy_parts, tidy_placed, token_pieces, unless_empty, with_braces, with_commas}
use Rattle.rule_chain.specs.RuleEdits.Pages.{Page}
use Rattle.rule_chain.specs.RuleEdits.Tidied.{IsTidyPage}
use Rattle.rule_chain.specs.RuleEdits.Tidied.IsTidyPage.{stays, changes}
use Rattle.rule_chain.proofs.RuleEdits.IdLemmas.{OneBelow, OldBelow, old-append, old-added, old-kept, one-below, rest-below, spaced_below}

-- ---- the old parts

module _ (next : ℕ) where
  choose : (b : Bool) (ps qs : List Part) → OldBelow next ps → OldBelow next qs → OldBelow next (if b then ps else qs)
  choose true ps qs one two = one
  choose false ps qs one two = two

  -- ---- the parts at each place

  own : (number : ℕ) (text : List ℕ) → OldBelow next (unless_empty number Blank text)
  own number [] = tt
  own number (b ∷ bytes) = (tt, tt)

  module _ (at : Placement) (braces : List Brace) where
    at_place : (kind : PieceKind) (flags : List Bool) (token number : ℕ) (p : TextPiece) → OneBelow next (Some number) p.kind
        → OldBelow next (tidy_parts at added braces kind flags token number p)
    at_place (Word k id) flags token number p h =
        old-append next (added (with_braces (braces_at braces token false) (at.before token)))
        (kept (at.goes token) number p ++ added (with_braces (braces_at braces token true) (at.after token)))
        (old-added next (with_braces (braces_at braces token false) (at.before token)))
        (old-append next (kept (at.goes token) number p) (added (with_braces (braces_at braces token true) (at.after token)))
        (old-kept next number (at.goes token) p h) (old-added next (with_braces (braces_at braces token true) (at.after token))))
    at_place Blank flags token number p h =
        choose (at.joined token) [] (unless_empty number Blank (left_of_lines flags p.text)) tt (own number (left_of_lines flags p.text))
    at_place Comment flags token number p h = (h, tt)
    at_place Line flags token number p h = (h, tt)

    placed_below : (flags : List Bool) (token number : ℕ) (pieces : List TextPiece) → All (λ id. id < next) (ids_of pieces)
        → OldBelow next (tidy_placed at added braces flags token number pieces)
    placed_below flags token number [] h = tt
    placed_below flags token number (p ∷ ps) h =
        let more : List Bool = drop (length (bytes_at at p.kind token p.text)) flags in
        old-append next (tidy_parts at added braces p.kind flags token number p)
        (tidy_placed at added braces more (id_after p.kind token) (number + 1) ps)
        (at_place p.kind flags token number p (one-below next number p.kind (ids_of ps) h))
        (placed_below more (id_after p.kind token) (number + 1) ps (rest-below next p.kind (ids_of ps) h))

  -- ---- without commas

  front_below : (n : ℕ) (ps : List Part) → OldBelow next ps → OldBelow next (front_of n ps)
  front_below n [] h = tt
  front_below n (p ∷ ps) h = choose (is_from n p.from) [] (p ∷ front_of n ps) tt (h.0, front_below n ps h.1)

  rest_below : (n : ℕ) (ps : List Part) → OldBelow next ps → OldBelow next (rest_of n ps)
  rest_below n [] h = tt
  rest_below n (p ∷ ps) h = choose (is_from n p.from) (p ∷ ps) (rest_of n ps) h (rest_below n ps h.1)

  early_below : (s : ListState) (ps : List Part) → OldBelow next ps → OldBelow next (without_early s ps)
  early_below s [] h = tt
  early_below s (p ∷ ps) h =
      let rest : List Part = without_early (state_after s (sign_of p)) ps in
      let below = early_below (state_after s (sign_of p)) ps h.1 in
      choose (stays_early s (sign_of p)) (p ∷ rest) rest (h.0, below) below

  step_below : (s : Sign) (p : Part) (ps left : List Part) → OldBelow next (p ∷ ps) → OldBelow next left → OldBelow next (blank_step s p ps left)
  step_below sign.Blank p ps left h k = k
  step_below sign.Splice p ps left h k = (h.0, k)
  step_below s p ps left h k = h

  blanks_below : (ps : List Part) → OldBelow next ps → OldBelow next (without_blanks ps)
  blanks_below [] h = tt
  blanks_below (p ∷ ps) h = step_below (sign_of p) p ps (without_blanks ps) h (blanks_below ps h.1)

  last_below : (depth : ℕ) (ps : List Part) → OldBelow next ps → OldBelow next (without_last depth ps)
  last_below depth [] h = tt
  last_below depth (p ∷ ps) h =
      choose (is_own_comma depth (sign_of p) && has_no_token ps) (without_blanks ps) (p ∷ without_last (depth_after depth (sign_of p)) ps)
      (blanks_below ps h.1) (h.0, last_below (depth_after depth (sign_of p)) ps h.1)

  commas_below : (may_end : Bool) (ps : List Part) → OldBelow next ps → OldBelow next (without_commas may_end ps)
  commas_below may_end ps h =
      let left : List Part = without_early list_start ps in
      let below = early_below list_start ps h in
      choose may_end left (without_last 0 left) below (last_below 0 left below)

  inside_below : (may_end : Bool) (close : ℕ) (ps : List Part) → OldBelow next ps → OldBelow next (inside may_end close ps)
  inside_below may_end close [] h = tt
  inside_below may_end close (p ∷ ps) h = (
    h.0,
    old-append next (without_commas may_end (front_of close ps)) (rest_of close ps)
        (commas_below may_end (front_of close ps) (front_below close ps h.1)) (rest_below close ps h.1),
  )

  list_below : (may_end : Bool) (begin close : ℕ) (ps : List Part) → OldBelow next ps → OldBelow next (with_list may_end begin close ps)
  list_below may_end begin close ps h =
      old-append next (front_of begin ps) (inside may_end close (rest_of begin ps)) (front_below begin ps h)
      (inside_below may_end close (rest_of begin ps) (rest_below begin ps h))

  module _ (at : Placement) (tokens : List ℕ) where
    one_list : (ps : List Part) (l : CommaList) → OldBelow next ps → OldBelow next (with_commas at tokens ps l)
    one_list ps l h =
        choose (is_touched at tokens l) (with_list l.may_end (get_or tokens l.opening 0) (get_or tokens l.closing 0) ps) ps
        (list_below l.may_end (get_or tokens l.opening 0) (get_or tokens l.closing 0) ps h) h

    all_lists : (lists : List CommaList) (ps : List Part) → OldBelow next ps → OldBelow next (fold (with_commas at tokens) ps lists)
    all_lists [] ps h = h
    all_lists (l ∷ lists) ps h = all_lists lists (with_commas at tokens ps l) (one_list ps l h)

  parts_below : (pieces : List TextPiece) (edits : List Edit) (frame : Frame) → All (λ id. id < next) (ids_of pieces)
      → OldBelow next (tidied_parts added pieces edits frame)
  parts_below pieces edits frame h =
      let at : Placement = placement_of pieces edits frame in
      let flags : List Bool = emptied (line_bytes at 0 pieces) in
      all_lists at (token_pieces 0 pieces) frame.lists (tidy_placed at added frame.braces flags 0 0 pieces)
      (placed_below at frame.braces flags 0 0 pieces h)

-- ---- pages

module _ (next : ℕ) (pieces : List TextPiece) (items : List Item) (made : TidiedEdits) where
  pub tidy_page_below : (page : Page) → IsTidyPage next pieces items made page → All (λ id. id < next) (ids_of pieces)
      → All (λ id. id < page.next) page.ids
  tidy_page_below _ (stays none) h = h
  tidy_page_below _ (changes laid some is) h =
      spaced_below next (tidied_parts added pieces made.list (frame_of laid.layout)) (parts_below next pieces made.list (frame_of laid.layout) h)

  pub tidy_page_rises : (page : Page) → IsTidyPage next pieces items made page → next ≤ page.next
  tidy_page_rises _ (stays none) = omega arith
  tidy_page_rises _ (changes laid some is) = omega arith
