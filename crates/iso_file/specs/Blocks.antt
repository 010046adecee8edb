-- Blocks: the first begins at the file's first line, and each other one begins at the line before a line `@ name @`
-- that is not the first such line.
use Rattle.std.specs.Prelude.{ℕ, ◌&&◌, ◌||◌, Bool, true, false, List, [], ◌∷◌, Option, Some, None}
use Rattle.smpl_lexer.specs.declared.token.PatchToken.{PatchToken}
use Rattle.smpl_lexer.specs.Tokens.{is_at, is_name}
use Rattle.iso_file.specs.Lines.{put, filled}

-- `@ name @`, alone on its line
abbrev pub is_header : List PatchToken → Bool
is_header (first ∷ name ∷ last ∷ []) = is_at first && is_name name && is_at last
is_header _ = false

-- the name in such a line
abbrev pub header_name : List PatchToken → Option (List ℕ)
header_name (first ∷ name ∷ ts) = Some name.token.text
header_name _ = None

abbrev pub header_next : List (List PatchToken) → Bool
header_next [] = false
header_next (l ∷ ls) = is_header l

-- a block begins here, or does not
abbrev pub begin : Bool → List (List (List PatchToken)) → List (List (List PatchToken))
begin true gs = [] ∷ gs
begin false gs = gs

-- the lines of each block, the first of which may have begun earlier; `seen`: an earlier line is a line `@ name @`
abbrev pub parts : Bool → List (List PatchToken) → List (List (List PatchToken))
parts seen [] = [] ∷ []
parts seen (l ∷ ls) = begin ((seen || is_header l) && header_next ls) (put l (parts (seen || is_header l) ls))

abbrev pub blocks : List (List PatchToken) → List (List (List PatchToken))
blocks ls = filled (parts false ls)
