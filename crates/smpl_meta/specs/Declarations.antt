-- What declarations declare.
use Rattle.std.specs.Prelude.{ℕ, ◌≡◌, ◌&&◌, Bool, false, Option, None, Some, List, [], ◌∷◌, codes, MatchBool}
use Rattle.smpl_patch.specs.declared.wanted.NameWanted.TheVariants as names
use Rattle.smpl_lexer.specs.declared.token.PatchToken.{PatchToken}
use Rattle.smpl_lexer.specs.Tokens.{is_word}
use Rattle.smpl_meta.specs.declared.item.Item.{Item}
use Rattle.smpl_meta.specs.Forms.{before_sign, is_kind_word, kind_items}
use Rattle.smpl_meta.specs.TypeNames.{with_type_names}
use Rattle.smpl_meta.specs.Typed.{IsTyped, AreNames}

-- A declaration that doesn't begin with the word for a kind is typed.
abbrev pub AreItems : List (List ℕ) → List PatchToken → Option (List Item) → Type 0
AreItems types [] items = items ≡ None
AreItems types (t ∷ ts) items =
    MatchBool (is_kind_word t) (items ≡ kind_items (t ∷ ts))
    (MatchBool (is_word (codes "idexpression") t) (AreNames types names.Name ts items) (IsTyped types names.Any (t ∷ ts) items))

-- the two words `local idexpression` are in front
abbrev pub is_local : List PatchToken → Bool
is_local (t ∷ u ∷ ts) = is_word (codes "local") t && is_word (codes "idexpression") u
is_local _ = false

-- the items of a declaration without its `;`; `local idexpression` are two words
abbrev pub AreFrontItems : List (List ℕ) → List PatchToken → Option (List Item) → Type 0
AreFrontItems types (t ∷ u ∷ ts) items =
    MatchBool (is_word (codes "local") t && is_word (codes "idexpression") u) (AreNames types names.Local ts items)
    (AreItems types (t ∷ u ∷ ts) items)
AreFrontItems types ts items = AreItems types ts items

abbrev pub AreItemsBefore : List (List ℕ) → Option (List PatchToken) → Option (List Item) → Type 0
AreItemsBefore types None items = items ≡ None
AreItemsBefore types (Some front) items = AreFrontItems types front items

-- the items of a declaration, which ends in `;`, or none if it is malformed, given the rule's `type` metavariables so far
abbrev pub IsDeclared : List (List ℕ) → List PatchToken → Option (List Item) → Type 0
IsDeclared types part items = AreItemsBefore types (before_sign (codes ";") part) items

abbrev pub items_or_none : Option (List Item) → List Item
items_or_none None = []
items_or_none (Some items) = items

-- What each of these declarations declares, the rule's `type` metavariables so far being those before them. There is one list.
abbrev pub AreDeclared : List (List ℕ) → List (List PatchToken) → List (Option (List Item)) → Type 0
AreDeclared types [] [] = Unit {0}
AreDeclared types [] (items ∷ more) = ⊥
AreDeclared types (part ∷ parts) [] = ⊥
AreDeclared types (part ∷ parts) (items ∷ more) =
    IsDeclared types part items × AreDeclared (with_type_names types (items_or_none items)) parts more
