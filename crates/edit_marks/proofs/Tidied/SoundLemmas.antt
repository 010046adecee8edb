-- The text of tidied plus code consists of blanks and plain tokens.
use Rattle.std.proofs.Common.{◌≡◌, ◌⊎◌, ◌+◌, ◌-◌, ◌==◌, ◌&&◌, ◌||◌, ℕ, zero, suc, Bool, true, false, inl, inr, refl, sym, ap, subst, ◌∙◌, arith, codes}
use Rattle.std.proofs.Common.{List, [], ◌∷◌, ◌++◌, length, take, drop, IsTrue}
use Rattle.std.specs.Prelude.{Option, None, Some, IfSome, not, option_and_then, slice_get, if◌then◌else◌}
use Rattle.std.specs.Str.{bytes_eq}
use Rattle.c_terms.specs.declared.token.Token.{Token}
use Rattle.c_terms.specs.declared.token.TokenKind.TheVariants.{Punct}
use Rattle.c_terms.specs.declared.tree.Tree.{Tree}
use Rattle.c_terms.specs.Places.{subtree}
use Rattle.c_terms.specs.Trees.{leaves}
use Rattle.c_lexer.specs.declared.piece.PieceKind.{PieceKind}
use Rattle.c_lexer.specs.declared.state.Kind.{Kind}
use Rattle.c_lexer.specs.declared.state.Kind.TheVariants as kind
use Rattle.c_lexer.specs.declared.state.Splice.TheVariants.{Plain}
use Rattle.c_lexer.specs.declared.state.State.{State}
use Rattle.c_lexer.specs.declared.state.State.TheVariants.{Digits, One, Two, Open, Rest}
use Rattle.c_lexer.specs.Beside.{is_plain}
use Rattle.c_lexer.specs.Kinds.{step, kind_at, kind_of}
use Rattle.c_lexer.specs.Pieces.{TextPiece}
use Rattle.c_lexer.specs.Words.{is_digit, is_two}
use Rattle.c_lexer.proofs.Walks.{came}
use Rattle.c_show.specs.PlainText.{IsPlainText}
use Rattle.c_show.specs.Joint.{never_accepts, is_longer, is_longer_from, runs_together}
use Rattle.smpl_patch.specs.declared.pattern.VarDecl.{VarDecl}
use Rattle.smpl_patch.specs.declared.pattern.PatToken.{PatToken}
use Rattle.smpl_patch.specs.declared.pattern.PlusBlock.{PlusBlock}
use Rattle.smpl_patch.specs.declared.pattern.PlusLine.{PlusLine}
use Rattle.edit_marks.specs.declared.edit_conflict.edit.Edit.{Edit}
use Rattle.edit_marks.specs.declared.file_tokens.FileToken.{FileToken}
use Rattle.edit_marks.specs.declared.insert.Anchor.{Anchor}
use Rattle.edit_marks.specs.declared.insert.Anchor.TheVariants.{Removed, AfterLine, AfterToken, BeforeToken}
use Rattle.edit_marks.specs.declared.line.Chunk.{Chunk}
use Rattle.edit_marks.specs.declared.removals.Aligned.{Aligned}
use Rattle.edit_marks.specs.declared.spot.PlusSpot.{PlusSpot}
use Rattle.edit_marks.specs.declared.tidy.edges.PlacedBlock.{PlacedBlock}
use Rattle.edit_marks.specs.declared.tidy.words.BlockWord.{BlockWord}
use Rattle.edit_marks.specs.Blocks.{Environment, block_ends, chunk_text, is_together, left_after, left_at}
use Rattle.edit_marks.specs.Edits.{ArePlainInserts, HaveBlankIndents, HaveSoundBlocks, block_of}
use Rattle.edit_marks.specs.EditWalk.Keys.{number_of}
use Rattle.edit_marks.specs.Inserts.{line_end}
use Rattle.edit_marks.specs.Plain.{IsCToken, AreSpaces, AreSoundTokens, AreSoundGaps, AreSoundLines, IsJoint}
use Rattle.edit_marks.specs.Tidy.Words.{words_of_line, words_from, words_of, closed_up, without_lists}
use Rattle.edit_marks.specs.Tidy.Brackets.{bracketed, with_brackets_if, with_brackets, needs_brackets, first_token}
use Rattle.edit_marks.specs.Tidy.Layout.{words_text, without_lead, count_at, last_word, line_of, tidy_lines, is_close_to_left, tidy_insert_of, tidy_text}
use Rattle.edit_marks.specs.Tidy.Neighbours.{left_of, right_of, words_at, words_in}
use Rattle.edit_marks.specs.Tidy.Reach.{indent_at, indent_in, indent_of, reach_of}
use Rattle.edit_marks.specs.Tidy.Edits.{TouchAt, TidyEditOf, anchor_in, block_if, blocks_at, indent_at_anchor, insert_if, or_own, tidy_inserts}
use Rattle.edit_marks.proofs.BlankAfter.{Gap, and_false, plain_gap, plain_named}
use Rattle.edit_marks.proofs.Edited.{joint_of, plain_both}
use Rattle.edit_marks.proofs.Rows.{Row, BlankPiece, WordPiece, after, right_of as right_of_piece, row_plain, spelled}
use Rattle.edit_marks.proofs.Sound.{Left, Rowed, Rows, Whole, both_rows, token_row, whole, chunk_row, then_rows, no_rows, drop_spaces, joint_row, insert_rows}

-- a word that consists of plain tokens, with only spaces before it
pub record IsSoundWord (w : BlockWord) : Type 0 where
  pub gap : AreSpaces w.gap
  pub chunk : Whole w.chunk

abbrev pub AreSoundWords : List BlockWord → Type 0
AreSoundWords [] = Unit {0}
AreSoundWords (w ∷ words) = IsSoundWord w × AreSoundWords words

sound_both : (xs ys : List BlockWord) → AreSoundWords xs → AreSoundWords ys → AreSoundWords (xs ++ ys)
sound_both [] ys h k = k
sound_both (x ∷ xs) ys h k = (h.0, sound_both xs ys h.1 k)

sound_take : (n : ℕ) (words : List BlockWord) → AreSoundWords words → AreSoundWords (take n words)
sound_take zero words h = tt
sound_take (suc n) [] h = tt
sound_take (suc n) (w ∷ words) h = (h.0, sound_take n words h.1)

sound_drop : (n : ℕ) (words : List BlockWord) → AreSoundWords words → AreSoundWords (drop n words)
sound_drop zero words h = h
sound_drop (suc n) [] h = tt
sound_drop (suc n) (w ∷ words) h = sound_drop n words h.1

-- ---- the words of a block

module _ (decls : List VarDecl) (env : Environment) where
  line_sound : (line : ℕ) (gaps : List (List ℕ)) (tokens : List Token) → AreSoundGaps gaps → AreSoundTokens decls env tokens
      → AreSoundWords (words_of_line decls env line gaps tokens)
  line_sound line gaps [] g h = tt
  line_sound line [] (t ∷ tokens) g h = tt
  line_sound line (gap ∷ gaps) (t ∷ tokens) g h =
      (record { gap = g.0; chunk = whole decls env t h.0 }, line_sound line gaps tokens g.1 h.1)

  lines_sound : (line : ℕ) (lines : List PlusLine) → AreSoundLines decls env lines → AreSoundWords (words_from decls env line lines)
  lines_sound line [] h = tt
  lines_sound line (l ∷ lines) h =
      sound_both (words_of_line decls env line l.gaps l.tokens) (words_from decls env (line + 1) lines)
      (line_sound line l.gaps l.tokens h.0.0 h.0.1) (lines_sound (line + 1) lines h.1)

closed_sound : (words : List BlockWord) → AreSoundWords words → AreSoundWords (closed_up words)
closed_sound [] h = tt
closed_sound (w ∷ words) h = (record { gap = refl; chunk = h.0.chunk }, h.1)

pair_sound : (w v : BlockWord) (words : List BlockWord) → IsSoundWord w → AreSoundWords (without_lists words) → AreSoundWords (without_lists (v ∷ words))
    → (goes takes : Bool) → AreSoundWords (if goes then without_lists words
    else if takes then w ∷ closed_up (without_lists words)
    else w ∷ without_lists (v ∷ words))
pair_sound w v words h rest more true takes = rest
pair_sound w v words h rest more false true = (h, closed_sound (without_lists words) rest)
pair_sound w v words h rest more false false = (h, more)

kept_sound : (words : List BlockWord) → AreSoundWords words → AreSoundWords (without_lists words)
kept_sound [] h = tt
kept_sound (w ∷ []) h = h
kept_sound (w ∷ v ∷ words) h =
    pair_sound w v words h.0 (kept_sound words h.1.1) (kept_sound (v ∷ words) h.1) (w.is_comma && v.is_empty_list) (w.is_empty_list && v.is_comma)

pub words_sound : (decls : List VarDecl) (env : Environment) (lines : List PlusLine) → AreSoundLines decls env lines → AreSoundWords (words_of decls env lines)
words_sound decls env lines h = kept_sound (words_from decls env 0 lines) (lines_sound decls env 0 lines h)

-- ---- the text of words

words_rows : (left : Left) (words : List BlockWord) → AreSoundWords words → Rows left (words_text left words)
words_rows left [] h = no_rows left
words_rows left (w ∷ words) h =
    let next = left_after (left_at left w.gap) w.chunk.last in
    then_rows left next (chunk_text left w.gap w.chunk) (words_text next words) (chunk_row left w.gap w.chunk h.0.gap h.0.chunk) (words_rows next words h.1)

lead_sound : (m : ℕ) (words : List BlockWord) → AreSoundWords words → AreSoundWords (without_lead m words)
lead_sound m [] h = tt
lead_sound m (w ∷ words) h = (record { gap = drop_spaces m w.gap h.0.gap; chunk = h.0.chunk }, h.1)

line_rows : (m number : ℕ) (words : List BlockWord) → AreSoundWords words → Rows None (line_of m number words)
line_rows m number words h =
    let row = take (count_at number words) words in
    words_rows None (without_lead m row) (lead_sound m row (sound_take (count_at number words) words h))

more_rows : (m : ℕ) (joint : List ℕ) (left : Left) (number n : ℕ) (words : List BlockWord) → IsJoint joint → AreSoundWords words
    → Rows left (tidy_lines m joint (suc number) n words)
more_rows m joint left number zero words j h = no_rows left
more_rows m joint left number (suc n) words j h =
    let here = line_rows m (suc number) words h in
    let rest = tidy_lines m joint (suc number + 1) n (drop (count_at (suc number) words) words) in
    let next : suc (suc number) ≡ suc number + 1 = omega arith in
    let later : Rows here.right rest =
    subst (λ (k : ℕ). Rows here.right (tidy_lines m joint k n (drop (count_at (suc number) words) words))) next
    (more_rows m joint here.right (suc number) n (drop (count_at (suc number) words) words) j (sound_drop (count_at (suc number) words) words h)) in
    then_rows left None joint (line_of m (suc number) words ++ rest) (joint_row left joint j)
    (then_rows None here.right (line_of m (suc number) words) rest here.rowed later)

lines_rows : (m : ℕ) (joint : List ℕ) (n : ℕ) (words : List BlockWord) → IsJoint joint → AreSoundWords words → Rows None (tidy_lines m joint 0 n words)
lines_rows m joint zero words j h = no_rows None
lines_rows m joint (suc n) words j h =
    let here = line_rows m 0 words h in
    let rest = tidy_lines m joint 1 n (drop (count_at 0 words) words) in
    then_rows None here.right (line_of m 0 words) rest here.rowed
    (more_rows m joint here.right 0 n (drop (count_at 0 words) words) j (sound_drop (count_at 0 words) words h))

-- ---- brackets

-- nothing, or a token that is not a Stray
abbrev PlainLeft : Left → Type 0
PlainLeft None = Unit {0}
PlainLeft (Some l) = (k : Kind) × (kind_of l ≡ Some k) × IsTrue (is_plain k)

one_end : (left : Left) (p : TextPiece) → BlankPiece p ⊎ WordPiece left p → PlainLeft (right_of_piece p.kind p.text)
one_end left p (inl b) = subst (λ (k : PieceKind). PlainLeft (right_of_piece k p.text)) (sym b.blank) tt
one_end left p (inr w) = let s = spelled left p w in subst (λ (k : PieceKind). PlainLeft (right_of_piece k p.text)) (sym w.word) (s.k, s.of, s.plain)

row_ends : (left : Left) (ps : List TextPiece) → PlainLeft left → Row left ps → PlainLeft (after left ps)
row_ends left [] h row = h
row_ends left (p ∷ ps) h row = row_ends (right_of_piece p.kind p.text) ps (one_end left p row.0) row.1

-- nothing runs together with a closing bracket behind it

close_gap : Gap 41
close_gap = record {
  word = refl;
  quote = refl;
  sign = refl;
  digit = refl;
  operator = refl;
  dot = refl;
  equals = refl;
  greater = refl;
  slash = refl;
  star = refl;
}

close_not_longer : (text : List ℕ) (k : Kind) → kind_of text ≡ Some k → IsTrue (is_plain k) → is_longer text (41 ∷ []) ≡ false
close_not_longer text k e plain =
    let at = came text k e in
    let q = at.state in
    let none = plain_gap 41 close_gap q at.shape at.has (plain_named text at.shape k at.name plain) in
    ap (λ (r : Option State). is_longer_from r (41 ∷ [])) at.is
    ∙ ap (λ (r : Option Kind). elim r as (λ x. Bool) [ None ↦ true | Some j ↦ not (never_accepts q (41 ∷ [])) ]) at.has
    ∙ ap (λ (r : Option State). not (elim r as (λ x. Bool) [
      | None ↦ true
      | Some t ↦ elim (kind_at t) as (λ x. Bool) [ None ↦ never_accepts t [] | Some j ↦ false ]
    ])) none

close_apart : (o : Left) → PlainLeft o → is_together o (Some (codes ")")) ≡ false
unfolding runs_together
close_apart None h = refl
close_apart (Some l) h =
    (λ i. close_not_longer l h.0 h.1 h.2 i || (bytes_eq l (46 ∷ []) && false)) ∙ and_false (bytes_eq l (46 ∷ []))

-- nor does an opening bracket with what is behind it

open_alone : (b : ℕ) → is_two 40 b ≡ false
open_alone b = λ i. (and_false (40 == b) i || and_false (b == 61) i) || (40 == 45 && b == 62)

open_none : (b : ℕ) → step (One 40) b ≡ None
open_none b = ap (λ (x : Bool). if x || (40 == 46 && b == 46) then Some (Two 40 b) else
    (if 40 == 46 && is_digit b then Some (Digits b) else (if 40 == 47 && b == 47 then Some (Rest Plain) else (if 40 == 47 && b == 42 then Some (Open false) else None))))
    (open_alone b)

open_never : (right : List ℕ) → never_accepts (One 40) right ≡ true
open_never [] = refl
open_never (b ∷ right) =
    ap (λ (r : Option State). elim r as (λ x. Bool) [
      | None ↦ true
      | Some t ↦ elim (kind_at t) as (λ x. Bool) [ None ↦ never_accepts t right | Some j ↦ false ]
    ]) (open_none b)

open_apart : (o : Left) → is_together (Some (codes "(")) o ≡ false
unfolding runs_together
open_apart None = refl
open_apart (Some f) = λ i. not (open_never f i) || (false && bytes_eq (take 1 f) (46 ∷ []))

open_token : IsCToken Punct (codes "(")
open_token = record { plain = refl; of = refl }

close_token : IsCToken Punct (codes ")")
close_token = record { plain = refl; of = refl }

open_plain : PlainLeft (Some (codes "("))
open_plain = (kind.Punct, refl, refl)

some_none : (l : List ℕ) → Some l ≡ None → ⊥
some_none l e = absurd cc

bracketed_whole : (c : Chunk) → Whole c → Whole (bracketed c)
bracketed_whole c w = record {
  rows = λ left e.
      let opens = token_row left Punct (codes "(") open_token e in
      let inner = w.rows (Some (codes "(")) (open_apart c.first) in
      let mid = left_after (Some (codes "(")) c.last in
      let plain : PlainLeft mid = subst PlainLeft inner.ends (row_ends (Some (codes "(")) inner.pieces open_plain inner.row) in
      let closes = token_row mid Punct (codes ")") close_token (close_apart mid plain) in
      both_rows left mid (Some (codes ")")) (codes "(" ++ c.text) (codes ")")
      (both_rows left (Some (codes "(")) mid (codes "(") c.text opens inner) closes;
  none = λ e. absurd (some_none (codes ")") e);
}

if_sound : (needs : Bool) (w : BlockWord) → IsSoundWord w → IsSoundWord (with_brackets_if needs w)
if_sound true w h = record { gap = h.gap; chunk = bracketed_whole w.chunk h.chunk }
if_sound false w h = h

brackets_sound : (left right : Option (List ℕ)) (words : List BlockWord) → AreSoundWords words → AreSoundWords (with_brackets left right words)
brackets_sound left right [] h = tt
brackets_sound left right (w ∷ words) h =
    (if_sound (needs_brackets w.hold left (first_token words right)) w h.0, brackets_sound (left_after left w.chunk.last) right words h.1)

-- ---- inserts

close_rows : (close : Bool) (joint text : List ℕ) (ends : Bool) → IsJoint joint → Rows None text → Rows None (if close then text else 32 ∷ text)
close_rows true joint text ends j h = h
close_rows false joint text ends j h = insert_rows AfterToken joint text ends j h

tidy_rows : (anchor : Anchor) (joint text : List ℕ) (ends : Bool) → IsJoint joint → Rows None text → Rows None (tidy_insert_of anchor joint text ends)
tidy_rows Removed joint text ends j h = h
tidy_rows AfterLine joint text ends j h = insert_rows AfterLine joint text ends j h
tidy_rows AfterToken joint text ends j h = close_rows (is_close_to_left text) joint text ends j h
tidy_rows BeforeToken joint text ends j h = insert_rows BeforeToken joint text ends j h

text_plain : (anchor : Anchor) (joint : List ℕ) (lead lines : ℕ) (words : List BlockWord) → IsJoint joint → AreSoundWords words
    → IsPlainText (tidy_text anchor joint lead lines words)
text_plain anchor joint lead lines words j h =
    let all = tidy_rows anchor joint (tidy_lines lead joint 0 lines words) (block_ends (last_word None words)) j (lines_rows lead joint lines words j h) in
    row_plain None all.rowed.pieces (tidy_text anchor joint lead lines words) all.rowed.is all.rowed.row

abbrev IsSpacing : Option (List ℕ) → Type 0
IsSpacing o = IfSome o AreSpaces

module _ (ids : List ℕ) (files : List FileToken) (blank : HaveBlankIndents files) where
  file_spacing : (o : Option FileToken) → IfSome o (λ f. AreSpaces f.indent) → IsSpacing (indent_in o)
  file_spacing None h = tt
  file_spacing (Some f) h = h

  number_spacing : (o : Option ℕ) → IsSpacing (option_and_then (λ n. indent_in (slice_get files n)) o)
  number_spacing None = tt
  number_spacing (Some n) = file_spacing (slice_get files n) (blank n)

  leaf_spacing : (o : Option Token) → IsSpacing (option_and_then (λ first. indent_at ids files first.id) o)
  leaf_spacing None = tt
  leaf_spacing (Some first) = number_spacing (number_of ids first.id)

  tree_spacing : (o : Option Tree) → IsSpacing (option_and_then (λ own. option_and_then (λ first. indent_at ids files first.id) (slice_get (leaves own) 0)) o)
  tree_spacing None = tt
  tree_spacing (Some own) = leaf_spacing (slice_get (leaves own) 0)

  found_spacing : (t : TouchAt) (anchor : Anchor) (o : Option Tree)
      → IsSpacing (option_and_then (λ tree. indent_of ids files tree (reach_of anchor t.inside t.depth tree t.path)) o)
  found_spacing t anchor None = tt
  found_spacing t anchor (Some tree) = tree_spacing (subtree tree (reach_of anchor t.inside t.depth tree t.path))

  own_spaces : (own : List ℕ) (o : Option (List ℕ)) → AreSpaces own → IsSpacing o → AreSpaces (or_own own o)
  own_spaces own None h k = h
  own_spaces own (Some indent) h k = k

  indent_spaces : (t : TouchAt) (anchor : Anchor) (f : FileToken) → AreSpaces f.indent → AreSpaces (indent_at_anchor ids files t anchor f)
  indent_spaces t anchor f h =
      own_spaces f.indent (option_and_then (λ tree. indent_of ids files tree (reach_of anchor t.inside t.depth tree t.path)) t.tree) h
      (found_spacing t anchor t.tree)

  module _ (t : TouchAt) (removed : List ℕ) (blocks : List PlacedBlock) (sound : (n : ℕ) → AreSoundWords (words_in (slice_get blocks n))) where
    plain_if : (number : ℕ) (b : PlacedBlock) (o : Option FileToken) → IfSome o (λ f. AreSpaces f.indent)
        → ArePlainInserts (insert_if ids files t removed blocks number b o)
    plain_if number b None h = tt
    plain_if number b (Some f) h =
        let anchor = anchor_in ids files t removed b f in (
          text_plain anchor (line_end f.returns ++ indent_at_anchor ids files t anchor f) b.lead b.lines (words_at files removed blocks number)
              (joint_of f.returns (indent_at_anchor ids files t anchor f) (indent_spaces t anchor f h))
              (brackets_sound (left_of files removed blocks number) (right_of files removed blocks number) (words_in (slice_get blocks number)) (sound number)),
          tt,
        )

    plain_all : (number : ℕ) (bs : List PlacedBlock) → ArePlainInserts (tidy_inserts ids files t removed blocks number bs)
    plain_all number [] = tt
    plain_all number (b ∷ bs) =
        plain_both (insert_if ids files t removed blocks number b (slice_get files b.spot.token)) (tidy_inserts ids files t removed blocks (number + 1) bs)
        (plain_if number b (slice_get files b.spot.token) (blank b.spot.token)) (plain_all (number + 1) bs)

module _ (decls : List VarDecl) (tokens : List PatToken) (env : Environment) (sound : HaveSoundBlocks decls tokens env) where
  one_word : (s : PlusSpot) (o : Option PlusBlock) (rest : List PlacedBlock) → IfSome o (λ b. AreSoundLines decls env b.lines)
      → ((n : ℕ) → AreSoundWords (words_in (slice_get rest n))) → (n : ℕ) → AreSoundWords (words_in (slice_get (block_if decls env s o ++ rest) n))
  one_word s None rest h k n = k n
  one_word s (Some b) rest h k zero = words_sound decls env b.lines h
  one_word s (Some b) rest h k (suc n) = k n

  no_words : (n : ℕ) → AreSoundWords (words_in (slice_get [] n))
  no_words n = tt

  blocks_sound : (spots : List PlusSpot) (n : ℕ) → AreSoundWords (words_in (slice_get (blocks_at decls tokens env spots) n))
  blocks_sound [] n = no_words n
  blocks_sound (s ∷ spots) n = one_word s (block_of tokens s) (blocks_at decls tokens env spots) (sound s) (blocks_sound spots) n

-- the inserts of a tidied edit consist of blanks and plain tokens
pub tidy_edit_plain : (decls : List VarDecl) (tokens : List PatToken) (env : Environment) (ids : List ℕ) (files : List FileToken) (t : TouchAt)
    (pairs : List Aligned) (edit : Edit) → TidyEditOf decls tokens env ids files t pairs edit → HaveSoundBlocks decls tokens env → HaveBlankIndents files
    → ArePlainInserts edit.inserts
tidy_edit_plain decls tokens env ids files t pairs edit is sound blank =
    let blocks = blocks_at decls tokens env is.spots in
    subst ArePlainInserts (sym is.inserts) (plain_all ids files blank t edit.removed blocks (blocks_sound decls tokens env sound is.spots) 0 blocks)
