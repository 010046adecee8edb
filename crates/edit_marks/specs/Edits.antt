-- The edit of a touch: what an alignment removes, and the plus code that it inserts.
use Rattle.std.specs.Prelude.{ℕ, ◌≡◌, ◌↔◌, ◌==◌, Bool, true, false, List, [], ◌∷◌, ◌++◌, Contains, IfSome, Option, None, Some}
use Rattle.std.specs.Prelude.{option_and_then, slice_get, if◌then◌else◌}
use Rattle.std.specs.List.{list_any}
use Rattle.std.specs.List.Sorted.{IsPermutation, IsSortedBy, IsStrictlyIncreasing}
use Rattle.std.specs.Ordering.{is_lt}
use Rattle.smpl_patch.specs.declared.pattern.VarDecl.{VarDecl}
use Rattle.edit_marks.specs.declared.edit_conflict.edit.Side.{Side}
use Rattle.edit_marks.specs.declared.edit_conflict.edit.Side.TheVariants.{Before, After}
use Rattle.edit_marks.specs.declared.edit_conflict.edit.Insert.{Insert}
use Rattle.edit_marks.specs.declared.edit_conflict.edit.Edit.{Edit}
use Rattle.edit_marks.specs.declared.insert.Anchor.{Anchor}
use Rattle.edit_marks.specs.declared.insert.Anchor.TheVariants.{Removed, AfterLine, AfterToken, BeforeToken}
use Rattle.smpl_patch.specs.declared.pattern.PatToken.{PatToken}
use Rattle.edit_marks.specs.declared.removals.Aligned.{Aligned}
use Rattle.smpl_patch.specs.declared.pattern.PlusBlock.{PlusBlock}
use Rattle.edit_marks.specs.declared.spot.PlusSpot.{PlusSpot}
use Rattle.edit_marks.specs.declared.file_tokens.FileToken.{FileToken}
use Rattle.edit_marks.specs.Blocks.{Environment, block_text, last_of_lines, block_ends, ends_line, AreEven}
use Rattle.edit_marks.specs.Inserts.{insert_of, line_end}
use Rattle.c_show.specs.PlainText.{IsPlainText}
use Rattle.edit_marks.specs.Plain.{AreSpaces, AreSoundLines}
use Rattle.edit_marks.specs.Removals.{minus_tokens}
use Rattle.edit_marks.specs.Spots.{spot_order, all_spots}

abbrev pub side_block : Bool → PatToken → Option PlusBlock
side_block true t = t.after
side_block false t = t.before

abbrev pub block_of : List PatToken → PlusSpot → Option PlusBlock
block_of tokens s = option_and_then (side_block s.after) (slice_get tokens s.pattern)

abbrev pub side_of : Bool → Side
side_of true = After
side_of false = Before

-- the anchor, given whether the token is removed, whether the block comes after it, and the token's text
abbrev pub anchor_of : Bool → Bool → List ℕ → Anchor
anchor_of true after text = Removed
anchor_of false true text = if ends_line text then AfterLine else AfterToken
anchor_of false false text = BeforeToken

abbrev pub insert_text_of : List VarDecl → Environment → PlusBlock → Anchor → List ℕ → List ℕ
insert_text_of decls env block anchor joint = insert_of anchor joint (block_text decls env joint block) (block_ends (last_of_lines decls env None block.lines))

abbrev pub insert_of_block : List VarDecl → Environment → List ℕ → PlusSpot → PlusBlock → FileToken → Insert
insert_of_block decls env removed s block file = record {
  token = s.token;
  side = side_of s.after;
  many = block.many;
  text = insert_text_of decls env block (anchor_of (list_any (λ n. n == s.token) removed) s.after file.text) (line_end file.returns ++ file.indent);
}

abbrev pub insert_if : List VarDecl → Environment → List ℕ → PlusSpot → Option PlusBlock → Option FileToken → List Insert
insert_if decls env removed s None file = []
insert_if decls env removed s (Some block) None = []
insert_if decls env removed s (Some block) (Some file) = insert_of_block decls env removed s block file ∷ []

abbrev pub inserts_at : List VarDecl → List PatToken → Environment → List FileToken → List ℕ → List PlusSpot → List Insert
inserts_at decls tokens env files removed [] = []
inserts_at decls tokens env files removed (s ∷ spots) =
    insert_if decls env removed s (block_of tokens s) (slice_get files s.token) ++ inserts_at decls tokens env files removed spots

abbrev pub HaveEvenBlocks : List PatToken → Type 0
HaveEvenBlocks tokens = (s : PlusSpot) → IfSome (block_of tokens s) (λ block. AreEven block.lines)

-- the tokens aligned with minus tokens, and the blocks of all plus code whose anchors are aligned, in order
pub record EditOf (decls : List VarDecl) (tokens : List PatToken) (env : Environment) (files : List FileToken)
    (pairs : List Aligned) (edit : Edit) : Type 0 where
  pub rise : IsStrictlyIncreasing edit.removed
  pub removed : (n : ℕ) → Contains edit.removed n ↔ Contains (minus_tokens tokens pairs) n
  pub spots : List PlusSpot
  pub all : IsPermutation (all_spots tokens pairs) spots
  pub sorted : IsSortedBy (λ a b. is_lt (spot_order a b)) spots
  pub inserts : edit.inserts ≡ inserts_at decls tokens env files edit.removed spots

-- every block consists of tokens of C and metavariables with such terms
abbrev pub HaveSoundBlocks : List VarDecl → List PatToken → Environment → Type 0
HaveSoundBlocks decls tokens env = (s : PlusSpot) → IfSome (block_of tokens s) (λ block. AreSoundLines decls env block.lines)

abbrev pub HaveBlankIndents : List FileToken → Type 0
HaveBlankIndents files = (n : ℕ) → IfSome (slice_get files n) (λ file. AreSpaces file.indent)

abbrev pub ArePlainInserts : List Insert → Type 0
ArePlainInserts [] = Unit {0}
ArePlainInserts (i ∷ inserts) = IsPlainText i.text × ArePlainInserts inserts
