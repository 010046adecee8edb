-- Typed declarations as specifiers and declarators.
use Rattle.std.specs.Prelude.{◌≡◌, ◌++◌, ℕ, Bool, true, false, not, List, Some}
use Rattle.c_terms.specs.declared.token.TokenKind.{TokenKind}
use Rattle.c_terms.specs.declared.token.TokenKind.TheVariants as kind
use Rattle.c_terms.specs.declared.tree.Tree.{Tree}
use Rattle.c_rows.specs.Branches.{is_plain}
use Rattle.smpl_patch.specs.declared.wanted.NameWanted.{NameWanted}
use Rattle.smpl_lexer.specs.declared.token.PatchToken.{PatchToken}
use Rattle.smpl_meta.specs.declared.item.Item.{Item}
use Rattle.smpl_meta.specs.Typed.{AreSpecs, AreDeclarators}

abbrev pub is_metavariable : TokenKind → Bool
is_metavariable (kind.Meta k) = true
is_metavariable _ = false

-- not a metavariable, as no token of a patch's text is
abbrev pub literal : PatchToken → Bool
literal t = not (is_metavariable t.token.kind)

-- The tokens are specifiers that define no structure and no enumeration, and then declarators with names, which have these
-- items.
pub record AreParts (types : List (List ℕ)) (name : NameWanted) (tokens : List PatchToken) (items : List Item) : Type 0 where
  pub front : List PatchToken
  pub back : List PatchToken
  pub whole : tokens ≡ front ++ back
  pub specs : Tree
  pub are_specs : AreSpecs types front (Some specs)
  pub plain : is_plain specs ≡ true
  pub declares : AreDeclarators types name specs back (Some items)
