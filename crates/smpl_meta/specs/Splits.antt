-- The lengths of the parts of declarations.
use Rattle.std.specs.Prelude.{ℕ, suc, ◌&&◌, not, Bool, if◌then◌else◌, List, [], ◌∷◌, codes}
use Rattle.smpl_lexer.specs.declared.token.PatchToken.{PatchToken}
use Rattle.smpl_lexer.specs.Tokens.{is_sign}
use Rattle.smpl_meta.specs.Forms.{within_after}

-- the number of tokens before the first comma outside braces
abbrev pub chunk_length : Bool → List PatchToken → ℕ
chunk_length within [] = 0
chunk_length within (t ∷ ts) =
    if is_sign (codes ",") t && not within then 0 else suc (chunk_length (within_after within t) ts)

-- the number of tokens in the first declaration, including its `;`
abbrev pub part_length : List PatchToken → ℕ
part_length [] = 0
part_length (t ∷ ts) = if is_sign (codes ";") t then 1 else suc (part_length ts)
