-- What variables that ask for no types want: the same with any types.
use Rattle.std.proofs.Common.{◌≡◌, ℕ, Bool, true, false, not, ◌&&◌, ◌||◌, cond, refl, ap, true≢false, List, [], ◌∷◌, Option, None, Some}
use Rattle.c_terms.specs.declared.token.Token.{Token}
use Rattle.c_terms.specs.declared.token.TokenKind.{TokenKind}
use Rattle.c_terms.specs.declared.token.TokenKind.TheVariants as kind
use Rattle.c_terms.specs.declared.token.MetaKind.{MetaKind}
use Rattle.c_terms.specs.declared.tree.Tree.{Tree, out-Tree}
use Rattle.c_types.specs.declared.ty.Ty.{Ty}
use Rattle.c_types.specs.Tables.{ItemTypes, type_in}
use Rattle.smpl_terms.specs.Environments.{Environment}
use Rattle.smpl_terms.specs.declared.value.Value.TheVariants.{Term}
use Rattle.smpl_terms.specs.Values.{same}
use Rattle.smpl_patch.specs.declared.pattern.VarDecl.{VarDecl}
use Rattle.smpl_patch.specs.declared.pattern.PatToken.{PatToken}
use Rattle.smpl_patch.specs.declared.wanted.NameWanted.{NameWanted}
use Rattle.smpl_patch.specs.declared.wanted.NameWanted.TheVariants as names
use Rattle.smpl_patch.specs.declared.wanted.TypeWanted.{TypeWanted}
use Rattle.smpl_patch.specs.declared.wanted.TypeWanted.TheVariants as types
use Rattle.smpl_patch.specs.declared.wanted.Wanted.{Wanted}
use Rattle.smpl_patch.specs.Patterns.{declared_as, is_position_kind}
use Rattle.c_terms.specs.Same.{same_bytes}
use Rattle.smpl_patch.specs.Wants.{is_local_wanted, is_typed, asks_types, ask_types}
use Rattle.pat_match.specs.Kinds.{is_of_kind, is_named}
use Rattle.pat_match.specs.Wants.{is_name_wanted, is_type_wanted, is_wanted}
use Rattle.pat_match.specs.Tokens.{first_id, meta_fits, token_fits, stands, leaf_fits}

left_false : (a b : Bool) → (a || b) ≡ false → a ≡ false
left_false true b h = h
left_false false b h = refl

right_false : (a b : Bool) → (a || b) ≡ false → b ≡ false
right_false true b h = absurd (true≢false h)
right_false false b h = h

name_same : (known also : ItemTypes) (n : NameWanted) (t : Tree) → is_local_wanted n ≡ false → is_name_wanted known n t ≡ is_name_wanted also n t
name_same known also names.Any t h = refl
name_same known also names.Name t h = refl
name_same known also names.Local t h = absurd (true≢false h)

type_same : (w : TypeWanted) (found other : Option Ty) → is_typed w ≡ false → is_type_wanted w found ≡ is_type_wanted w other
type_same types.Any found other h = refl
type_same (types.Is ty) found other h = absurd (true≢false h)
type_same (types.Pointer n) found other h = absurd (true≢false h)

pub wanted_same : (known also : ItemTypes) (w : Wanted) (t : Tree) → asks_types w ≡ false → is_wanted known w t ≡ is_wanted also w t
wanted_same known also w t h =
    let name : is_name_wanted known w.name t ≡ is_name_wanted also w.name t =
    name_same known also w.name t (left_false (is_local_wanted w.name) (is_typed w.ty) h) in
    let ty : is_type_wanted w.ty (type_in known t) ≡ is_type_wanted w.ty (type_in also t) =
    type_same w.ty (type_in known t) (type_in also t) (right_false (is_local_wanted w.name) (is_typed w.ty) h) in
    λ i. name i && ty i

-- the declaration, if there is one, asks for no types
abbrev AsksNone : Option VarDecl → Type 0
AsksNone None = Unit {0}
AsksNone (Some d) = asks_types d.wanted ≡ false

picked_none : (b : Bool) (d : VarDecl) (rest : Option VarDecl) → asks_types d.wanted ≡ false → AsksNone rest → AsksNone (cond b (Some d) rest)
picked_none true d rest h g = h
picked_none false d rest h g = g

declared_none : (decls : List VarDecl) (name : List ℕ) → ask_types decls ≡ false → AsksNone (declared_as decls name)
declared_none [] name h = tt
declared_none (d ∷ ds) name h =
    picked_none (not (is_position_kind d.kind) && same_bytes d.var.name name) d (declared_as ds name)
    (left_false (asks_types d.wanted) (ask_types ds) h) (declared_none ds name (right_false (asks_types d.wanted) (ask_types ds) h))

module _ (known also : ItemTypes) where
  meta_same : (decls : List VarDecl) (env : Environment) (k : MetaKind) (found : Option VarDecl) (t : Tree) → AsksNone found
      → meta_fits decls env known k found t ≡ meta_fits decls env also k found t
  meta_same decls env k None t h = refl
  meta_same decls env k (Some d) t h =
      let w : is_wanted known d.wanted t ≡ is_wanted also d.wanted t = wanted_same known also d.wanted t h in
      λ i. is_of_kind k (out-Tree t) && (not (is_named d.not_names (out-Tree t)) && (w i && same (Term t) (env d.var)))

  module _ (decls : List VarDecl) (none : ask_types decls ≡ false) where
    token_same : (env : Environment) (k : TokenKind) (a : Token) (t : Tree) → token_fits decls env known k a t ≡ token_fits decls env also k a t
    token_same env (kind.Meta k) a t = meta_same decls env k (declared_as decls a.text) t (declared_none decls a.text none)
    token_same env kind.Dots a t = refl
    token_same env kind.Pat a t = refl
    token_same env _ a t = refl

    pub leaf_same : (tokens : List PatToken) (env : Environment) (a : Token) (t : Tree)
        → leaf_fits decls tokens env known a t ≡ leaf_fits decls tokens env also a t
    leaf_same tokens env a t = ap (λ (b : Bool). b && stands decls tokens env a (first_id t)) (token_same env a.kind a t)
