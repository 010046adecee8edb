-- The tidied text has the lasting parts of the plain one.
use Rattle.std.proofs.Common.{◌≡◌, ◌+◌, ◌&&◌, ℕ, Bool, true, false, refl, sym, ap, ◌∙◌, cond, map}
use Rattle.std.proofs.Common.{List, [], ◌∷◌, ◌++◌, length, drop, filter, fold, get_or}
use Rattle.std.specs.Prelude.{if◌then◌else◌}
use Rattle.std.proofs.lemmas.List.{append-nil}
use Rattle.std.proofs.lemmas.List.Elements.{filter-append}
use Rattle.c_lexer.specs.declared.piece.PieceKind.{PieceKind}
use Rattle.c_lexer.specs.declared.piece.PieceKind.TheVariants.{Word, Blank, Comment, Line}
use Rattle.c_lexer.specs.Pieces.{TextPiece}
use Rattle.c_lexer.specs.Lexes.{id_after}
use Rattle.edit_marks.specs.declared.edit_conflict.edit.Side.TheVariants.{Before, After}
use Rattle.edit_marks.specs.declared.edit_conflict.edit.Edit.{Edit}
use Rattle.tidy_flags.specs.declared.signs.Sign.{Sign}
use Rattle.tidy_flags.specs.declared.signs.Sign.TheVariants as sign
use Rattle.tidy_flags.specs.declared.signs.ListState.{ListState}
use Rattle.tidy_flags.specs.Signs.{depth_after, is_own_comma, list_start, state_after, stays_early}
use Rattle.tidy_flags.specs.Lines.{emptied, left_of_lines}
use Rattle.edit_unparse.specs.declared.tidy.commas.CommaList.{CommaList}
use Rattle.edit_unparse.specs.declared.tidy.parts.Brace.{Brace}
use Rattle.edit_unparse.specs.Output.{Part, added, inserted, is_removed, kept, new_part, new_parts, old_part, parts_at, placed}
use Rattle.edit_unparse.specs.Cutting.{cut}
use Rattle.edit_unparse.specs.Tidy.Commas.{blank_step, front_of, has_no_token, inside, is_from, rest_of, sign_for, sign_of, with_list}
use Rattle.edit_unparse.specs.Tidy.Commas.{without_blanks, without_commas, without_early, without_last}
use Rattle.edit_unparse.specs.Tidy.Places.{is_plain}
use Rattle.edit_unparse.specs.Tidy.Text.{Frame, Placement, braces_at, bytes_at, is_touched, line_bytes, placement_of, tidied_parts, tidy_parts, tidy_placed}
use Rattle.edit_unparse.specs.Tidy.Text.{token_pieces, unless_empty, with_braces, with_commas}
use Rattle.edit_unparse.specs.Tidy.Lasting.{is_lasting, is_old, lasts}

abbrev pub left_in : List Part → List Part
left_in parts = filter is_lasting parts

same_head : (p : Part) (xs ys : List Part) → left_in xs ≡ left_in ys → left_in (p ∷ xs) ≡ left_in (p ∷ ys)
same_head p xs ys e = ap (λ (l : List Part). cond (is_lasting p) (p ∷ l) l) e

and_false : (b : Bool) → (b && false) ≡ false
and_false true = refl
and_false false = refl

both_first : (a b : Bool) → (a && b) ≡ true → a ≡ true
both_first true b e = refl
both_first false b e = absurd cc

gone : (p : Part) (xs : List Part) → lasts (sign_of p) ≡ false → left_in (p ∷ xs) ≡ left_in xs
gone p xs e = ap (λ (b : Bool). cond b (p ∷ left_in xs) (left_in xs)) (ap (λ (b : Bool). is_old p.from && b) e ∙ and_false (is_old p.from))

-- commas and blanks that go

goes_early : (s : ListState) (x : Sign) → stays_early s x ≡ false → lasts x ≡ false
goes_early s sign.Opening e = absurd cc
goes_early s sign.Closing e = absurd cc
goes_early s sign.Comma e = refl
goes_early s sign.Token e = absurd cc
goes_early s sign.Blank e = refl
goes_early s sign.Splice e = absurd cc
goes_early s sign.Solid e = absurd cc

early_left : (s : ListState) (parts : List Part) → left_in (without_early s parts) ≡ left_in parts
early_left s [] = refl
early_left s (p ∷ parts) = by (stays_early s (sign_of p)) refl (early_left (state_after s (sign_of p)) parts)
  where
    by : (b : Bool) → stays_early s (sign_of p) ≡ b → left_in (without_early (state_after s (sign_of p)) parts) ≡ left_in parts
        → left_in (if b then p ∷ without_early (state_after s (sign_of p)) parts else without_early (state_after s (sign_of p)) parts) ≡ left_in (p ∷ parts)
    by true e rest = same_head p (without_early (state_after s (sign_of p)) parts) parts rest
    by false e rest = rest ∙ sym (gone p parts (goes_early s (sign_of p) e))

blanks_left : (parts : List Part) → left_in (without_blanks parts) ≡ left_in parts
blanks_left [] = refl
blanks_left (p ∷ parts) = by (sign_of p) refl (blanks_left parts)
  where
    by : (x : Sign) → sign_of p ≡ x → left_in (without_blanks parts) ≡ left_in parts
        → left_in (blank_step x p parts (without_blanks parts)) ≡ left_in (p ∷ parts)
    by sign.Opening e rest = refl
    by sign.Closing e rest = refl
    by sign.Comma e rest = refl
    by sign.Token e rest = refl
    by sign.Blank e rest = rest ∙ sym (gone p parts (ap lasts e))
    by sign.Splice e rest = same_head p (without_blanks parts) parts rest
    by sign.Solid e rest = refl

own_goes : (depth : ℕ) (x : Sign) → is_own_comma depth x ≡ true → lasts x ≡ false
own_goes depth sign.Opening e = absurd cc
own_goes depth sign.Closing e = absurd cc
own_goes depth sign.Comma e = refl
own_goes depth sign.Token e = absurd cc
own_goes depth sign.Blank e = absurd cc
own_goes depth sign.Splice e = absurd cc
own_goes depth sign.Solid e = absurd cc

last_left : (depth : ℕ) (parts : List Part) → left_in (without_last depth parts) ≡ left_in parts
last_left depth [] = refl
last_left depth (p ∷ parts) = by (is_own_comma depth (sign_of p) && has_no_token parts) refl (last_left (depth_after depth (sign_of p)) parts)
  where
    by : (b : Bool) → (is_own_comma depth (sign_of p) && has_no_token parts) ≡ b
        → left_in (without_last (depth_after depth (sign_of p)) parts) ≡ left_in parts
        → left_in (if b then without_blanks parts else p ∷ without_last (depth_after depth (sign_of p)) parts) ≡ left_in (p ∷ parts)
    by true e rest = blanks_left parts ∙ sym (gone p parts (own_goes depth (sign_of p) (both_first (is_own_comma depth (sign_of p)) (has_no_token parts) e)))
    by false e rest = same_head p (without_last (depth_after depth (sign_of p)) parts) parts rest

commas_left : (may_end : Bool) (parts : List Part) → left_in (without_commas may_end parts) ≡ left_in parts
commas_left true parts = early_left list_start parts
commas_left false parts = last_left 0 (without_early list_start parts) ∙ early_left list_start parts

two : (n : ℕ) (parts : List Part) → front_of n parts ++ rest_of n parts ≡ parts
two n [] = refl
two n (p ∷ parts) = by (is_from n p.from) (two n parts)
  where
    by : (b : Bool) → front_of n parts ++ rest_of n parts ≡ parts
        → (if b then [] else p ∷ front_of n parts) ++ (if b then p ∷ parts else rest_of n parts) ≡ p ∷ parts
    by true rest = refl
    by false rest = ap (λ (l : List Part). p ∷ l) rest

inside_left : (may_end : Bool) (close : ℕ) (parts : List Part) → left_in (inside may_end close parts) ≡ left_in parts
inside_left may_end close [] = refl
inside_left may_end close (p ∷ parts) =
    let front = front_of close parts in
    let rest = rest_of close parts in
    same_head p (without_commas may_end front ++ rest) parts
    (filter-append is_lasting (without_commas may_end front) rest
    ∙ ap (λ (l : List Part). l ++ left_in rest) (commas_left may_end front)
    ∙ sym (filter-append is_lasting front rest)
    ∙ ap left_in (two close parts))

pub list_left : (may_end : Bool) (begin close : ℕ) (parts : List Part) → left_in (with_list may_end begin close parts) ≡ left_in parts
list_left may_end begin close parts =
    let front = front_of begin parts in
    let rest = rest_of begin parts in
    filter-append is_lasting front (inside may_end close rest)
    ∙ ap (λ (l : List Part). left_in front ++ l) (inside_left may_end close rest)
    ∙ sym (filter-append is_lasting front rest)
    ∙ ap left_in (two begin parts)

lists_left : (at : Placement) (tokens : List ℕ) (lists : List CommaList) (parts : List Part)
    → left_in (fold (with_commas at tokens) parts lists) ≡ left_in parts
lists_left at tokens [] parts = refl
lists_left at tokens (l ∷ lists) parts = lists_left at tokens lists (with_commas at tokens parts l) ∙ by (is_touched at tokens l)
  where
    by : (b : Bool) → left_in (if b then with_list l.may_end (get_or tokens l.opening 0) (get_or tokens l.closing 0) parts else parts) ≡ left_in parts
    by true = list_left l.may_end (get_or tokens l.opening 0) (get_or tokens l.closing 0) parts
    by false = refl

-- the parts at the places of pieces

none_of : (ps : List TextPiece) → left_in (map new_part ps) ≡ []
none_of [] = refl
none_of (p ∷ ps) = none_of ps

none_added : (texts : List (List ℕ)) → left_in (added texts) ≡ []
none_added [] = refl
none_added (t ∷ texts) = filter-append is_lasting (new_parts t) (added texts) ∙ (λ i. none_of (cut t) i ++ none_added texts i)

middle : (xs ys : List (List ℕ)) (parts : List Part) → left_in (added xs ++ (parts ++ added ys)) ≡ left_in parts
middle xs ys parts =
    filter-append is_lasting (added xs) (parts ++ added ys)
    ∙ (λ i. none_added xs i ++ (filter-append is_lasting parts (added ys) ∙ ap (λ (l : List Part). left_in parts ++ l) (none_added ys)) i)
    ∙ append-nil (left_in parts)

blank_goes : (text : List ℕ) → lasts (sign_for Blank text) ≡ false
blank_goes text = elim (is_plain Blank text) as (λ b. lasts (if b then sign.Blank else sign.Splice) ≡ false) [ true ↦ refl | false ↦ refl ]

blank_left : (number : ℕ) (text : List ℕ) → left_in (unless_empty number Blank text) ≡ []
blank_left number [] = refl
blank_left number (b ∷ bytes) = gone (old_part number (record { kind = Blank; text = b ∷ bytes })) [] (blank_goes (b ∷ bytes))

module _ (at : Placement) (edits : List Edit) (same : (n : ℕ) → at.goes n ≡ is_removed n edits) (braces : List Brace) where
  here_left : (k : PieceKind) (flags : List Bool) (token number : ℕ) (p : TextPiece) → p.kind ≡ k
      → left_in (tidy_parts at added braces k flags token number p) ≡ left_in (parts_at k edits token number p)
  here_left (Word kind id) flags token number p is =
      middle (with_braces (braces_at braces token false) (at.before token)) (with_braces (braces_at braces token true) (at.after token))
      (kept (at.goes token) number p)
      ∙ ap (λ (b : Bool). left_in (kept b number p)) (same token)
      ∙ sym (middle (inserted Before token edits) (inserted After token edits) (kept (is_removed token edits) number p))
  here_left Blank flags token number p is = by (at.joined token)
      ∙ sym (gone (old_part number p) [] (ap (λ (k : PieceKind). lasts (sign_for k p.text)) is ∙ blank_goes p.text))
    where
      by : (b : Bool) → left_in (if b then [] else unless_empty number Blank (left_of_lines flags p.text)) ≡ []
      by true = refl
      by false = blank_left number (left_of_lines flags p.text)
  here_left Comment flags token number p is = refl
  here_left Line flags token number p is = refl

  all_left : (pieces : List TextPiece) (flags : List Bool) (token number : ℕ)
      → left_in (tidy_placed at added braces flags token number pieces) ≡ left_in (placed edits token number pieces)
  all_left [] flags token number = refl
  all_left (p ∷ pieces) flags token number =
      let later : List Bool = drop (length (bytes_at at p.kind token p.text)) flags in
      filter-append is_lasting (tidy_parts at added braces p.kind flags token number p)
      (tidy_placed at added braces later (id_after p.kind token) (number + 1) pieces)
      ∙ (λ i. here_left p.kind flags token number p refl i ++ all_left pieces later (id_after p.kind token) (number + 1) i)
      ∙ sym (filter-append is_lasting (parts_at p.kind edits token number p) (placed edits (id_after p.kind token) (number + 1) pieces))

-- nothing else goes
pub lasting_stays : (pieces : List TextPiece) (edits : List Edit) (frame : Frame)
    → filter is_lasting (tidied_parts added pieces edits frame) ≡ filter is_lasting (placed edits 0 0 pieces)
lasting_stays pieces edits frame =
    let at = placement_of pieces edits frame in
    lists_left at (token_pieces 0 pieces) frame.lists (tidy_placed at added frame.braces (emptied (line_bytes at 0 pieces)) 0 0 pieces)
    ∙ all_left at edits (λ n. refl) frame.braces pieces (emptied (line_bytes at 0 pieces)) 0 0
