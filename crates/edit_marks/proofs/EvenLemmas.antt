-- The test of lines of plus code says exactly that they have as many gaps as tokens.
use Rattle.std.proofs.Common.{◌≡◌, ◌==◌, ◌&&◌, ℕ, zero, suc, Bool, true, false, refl, List, [], ◌∷◌, length}
use Rattle.std.specs.Prelude.{Option, None, Some, IfSome, slice_get}
use Rattle.std.specs.List.{list_all}
use Rattle.std.proofs.lemmas.Bool.Decides.{Decides-eqb}
use Rattle.smpl_patch.specs.declared.pattern.PatToken.{PatToken}
use Rattle.smpl_patch.specs.declared.pattern.PlusLine.{PlusLine}
use Rattle.smpl_patch.specs.declared.pattern.PlusBlock.{PlusBlock}
use Rattle.edit_marks.specs.declared.spot.PlusSpot.{PlusSpot}
use Rattle.edit_marks.specs.Blocks.{AreEven}
use Rattle.edit_marks.specs.Edits.{side_block, block_of, HaveEvenBlocks}
use Rattle.edit_marks.specs.Even.{is_even_line, is_even_block, is_even_side, is_even_token}

both_of : (a b : Bool) → (a && b) ≡ true → (a ≡ true) × (b ≡ true)
both_of true b e = (refl, e)
both_of false b e = absurd cc

both : (a b : Bool) → a ≡ true → b ≡ true → (a && b) ≡ true
both true b x y = y
both false b x y = absurd cc

lines_even : (lines : List PlusLine) → list_all is_even_line lines ≡ true → AreEven lines
lines_even [] e = tt
lines_even (line ∷ lines) e =
    let h = both_of (is_even_line line) (list_all is_even_line lines) e in
    ((Decides-eqb (length line.gaps) (length line.tokens)).0 h.0, lines_even lines h.1)

even_lines : (lines : List PlusLine) → AreEven lines → list_all is_even_line lines ≡ true
even_lines [] h = refl
even_lines (line ∷ lines) h =
    both (is_even_line line) (list_all is_even_line lines) ((Decides-eqb (length line.gaps) (length line.tokens)).1 h.0) (even_lines lines h.1)

abbrev Even : Option PlusBlock → Type 0
Even side = IfSome side (λ block. AreEven block.lines)

side_even : (side : Option PlusBlock) → is_even_side side ≡ true → Even side
side_even None e = tt
side_even (Some block) e = lines_even block.lines e

even_side : (side : Option PlusBlock) → Even side → is_even_side side ≡ true
even_side None h = refl
even_side (Some block) h = even_lines block.lines h

here : (after : Bool) (t : PatToken) → is_even_token t ≡ true → Even (side_block after t)
here true t e = side_even t.after (both_of (is_even_side t.before) (is_even_side t.after) e).1
here false t e = side_even t.before (both_of (is_even_side t.before) (is_even_side t.after) e).0

at_spot : (tokens : List PatToken) (token : ℕ) (after : Bool) (pattern : ℕ) → list_all is_even_token tokens ≡ true
    → Even (block_of tokens (record { token = token; after = after; pattern = pattern }))
at_spot [] token after pattern e = tt
at_spot (t ∷ tokens) token after zero e = here after t (both_of (is_even_token t) (list_all is_even_token tokens) e).0
at_spot (t ∷ tokens) token after (suc pattern) e = at_spot tokens token after pattern (both_of (is_even_token t) (list_all is_even_token tokens) e).1

pub blocks_even : (tokens : List PatToken) → list_all is_even_token tokens ≡ true → HaveEvenBlocks tokens
blocks_even tokens e = λ s. at_spot tokens s.token s.after s.pattern e

pub even_blocks : (tokens : List PatToken) → HaveEvenBlocks tokens → list_all is_even_token tokens ≡ true
even_blocks [] h = refl
even_blocks (t ∷ tokens) h =
    let spot = λ (after : Bool) (pattern : ℕ). let s : PlusSpot = record { token = 0; after = after; pattern = pattern } in s in
    let first : is_even_token t ≡ true = both (is_even_side t.before) (is_even_side t.after)
    (even_side t.before (h (spot false 0))) (even_side t.after (h (spot true 0))) in
    let rest : HaveEvenBlocks tokens = λ s. h (record s { pattern = suc s.pattern }) in
    both (is_even_token t) (list_all is_even_token tokens) first (even_blocks tokens rest)
