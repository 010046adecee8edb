-- What variables that want a type take, at each place of an item.
use Rattle.std.proofs.Common.{◌≡◌, ℕ, ◌<◌, ◌^◌, ◌++◌, ◌↔◌, Bool, true, false, not, ◌&&◌, nat_eq, refl, sym, ap, subst, ◌∙◌, true≢false}
use Rattle.std.proofs.Common.{List, length, Option, Some, None}
use Rattle.std.specs.List.{IsDistinct}
use Rattle.c_terms.specs.declared.token.MetaKind.{MetaKind}
use Rattle.c_terms.specs.declared.tree.Tree.{Tree, out-Tree}
use Rattle.c_terms.specs.Trees.{leaves, levels}
use Rattle.c_terms.specs.Places.{Place, parts}
use Rattle.c_terms.specs.Shapes.{is_expression_part}
use Rattle.c_types.specs.declared.ty.Ty.{Ty}
use Rattle.c_types.specs.TreeKeys.{key_of}
use Rattle.c_types.specs.Tables.{type_in}
use Rattle.c_typing.specs.declared.scope.Scope.{Scope}
use Rattle.c_typing.specs.Declarations.{own_name}
use Rattle.c_typing.specs.Parts.{part_type}
use Rattle.c_typing.specs.ItemTypes.{item_types}
use Rattle.smpl_terms.specs.declared.value.Value.TheVariants.{Term}
use Rattle.smpl_terms.specs.Values.{same}
use Rattle.smpl_terms.specs.Environments.{Environment}
use Rattle.smpl_patch.specs.declared.pattern.VarDecl.{VarDecl}
use Rattle.smpl_patch.specs.declared.wanted.TypeWanted.{TypeWanted}
use Rattle.smpl_patch.specs.declared.wanted.TypeWanted.TheVariants as type
use Rattle.smpl_patch.specs.declared.wanted.Wanted.{Wanted}
use Rattle.smpl_patch.specs.Wants.{is_typed}
use Rattle.pat_match.specs.Kinds.{is_of_kind, is_named}
use Rattle.pat_match.specs.Wants.{is_name_wanted, is_pointer, is_type_wanted, is_wanted}
use Rattle.pat_match.specs.Tokens.{meta_fits}
use Rattle.type_laws.specs.Places.{ids}
use Rattle.type_laws.specs.Typed.{HasType, of_type, of_pointers, without_type}
use Rattle.type_laws.proofs.SameLemmas.{type-equal, type-refl}
use Rattle.type_laws.proofs.TableLemmas.{From, table-from}
use Rattle.type_laws.proofs.PlaceLemmas.{IsAt, IsIn, part-in, same-key-place, type-found}

-- what has no known type isn't wanted if a type is
never : (w : TypeWanted) → is_typed w ≡ true → is_type_wanted w None ≡ false
never type.Any t = absurd (true≢false (sym t))
never (type.Is ty) t = refl
never (type.Pointer n) t = refl

-- a type is one of the tests of a variable
tests : (a b n t s : Bool) → (a && (b && ((n && t) && s))) ≡ true → ((a && (b && ((n && true) && s))) ≡ true) × (t ≡ true)
tests true true true true s h = (h, refl)
tests true true true false s h = absurd (true≢false (sym h))
tests true true false t s h = absurd (true≢false (sym h))
tests true false n t s h = absurd (true≢false (sym h))
tests false b n t s h = absurd (true≢false (sym h))

module _ (s : Scope) (item : Tree) (distinct : IsDistinct nat_eq (ids item)) (few : levels item < 2 ^ 64)
    (tokens : (k : ℕ) (q : Place) → IsAt item k q → 0 < length (leaves q.tree)) (p : Place) (at : IsIn item p) where
  abbrev found : Option Ty
  found = type_in (item_types s item) p.tree

  has-type : (ty : Ty) → HasType s item p ty → found ≡ Some ty
  has-type ty h = type-found item distinct s h.0.0 p (Some ty) few h.0.1 h.1 (tokens h.0.0 p h.0.1)

  of-type : (ty : Ty) → found ≡ Some ty → HasType s item p ty
  of-type ty e =
      let type_of : Place → Option Ty = part_type (s.names ++ own_name item) s.fields item in
      let f : From (λ (q : Place). key_of q.tree) type_of (parts is_expression_part item) (key_of p.tree) ty
      = table-from (λ (q : Place). key_of q.tree) type_of (parts is_expression_part item) (key_of p.tree) ty e in
      let same : f.1 ≡ p = same-key-place item distinct f.1 p few (part-in item f.0 f.1 f.2) at (tokens f.0 f.1 f.2) (sym f.3) in
      subst (λ (q : Place). HasType s item q ty) same ((f.0, f.2), f.4)

  pub wanted-types : (w : TypeWanted) → is_typed w ≡ true
      → (is_type_wanted w found ≡ true) ↔ ((ty : Ty) × HasType s item p ty × (is_type_wanted w (Some ty) ≡ true))
  wanted-types w t = (by found refl, λ h. ap (is_type_wanted w) (has-type h.0 h.1) ∙ h.2)
    where
      by : (o : Option Ty) → found ≡ o → is_type_wanted w o ≡ true → (ty : Ty) × HasType s item p ty × (is_type_wanted w (Some ty) ≡ true)
      by None e h = absurd (true≢false (sym h ∙ never w t))
      by (Some ty) e h = (ty, of-type ty e, h)

  pub is-type : (ty : Ty) → (is_type_wanted (type.Is ty) found ≡ true) ↔ HasType s item p ty
  is-type ty = (
    λ h. let x = (wanted-types (type.Is ty) refl).0 h in subst (λ u. HasType s item p u) (sym (type-equal ty x.0 x.2)) x.1,
    λ h. (wanted-types (type.Is ty) refl).1 (ty, h, type-refl ty),
  )

  pub takes : (ty : Ty) → (is_wanted (item_types s item) (of_type ty) p.tree ≡ true) ↔ HasType s item p ty
  takes ty = is-type ty

  pub points : (n : ℕ) → (is_wanted (item_types s item) (of_pointers n) p.tree ≡ true) ↔ ((ty : Ty) × HasType s item p ty × (is_pointer n ty ≡ true))
  points n = wanted-types (type.Pointer n) refl

  pub fits : (decls : List VarDecl) (env : Environment) (kind : MetaKind) (d : VarDecl) (ty : Ty) → d.wanted.ty ≡ type.Is ty
      → (meta_fits decls env (item_types s item) kind (Some d) p.tree ≡ true)
      ↔ ((meta_fits decls env (item_types s item) kind (Some (without_type d)) p.tree ≡ true) × HasType s item p ty)
  fits decls env kind d ty e =
      let of_kind : Bool = is_of_kind kind (out-Tree p.tree) in
      let other : Bool = not (is_named d.not_names (out-Tree p.tree)) in
      let named : Bool = is_name_wanted (item_types s item) d.wanted.name p.tree in
      let value : Bool = same (Term p.tree) (env d.var) in
      let same_type : is_type_wanted d.wanted.ty found ≡ is_type_wanted (type.Is ty) found = ap (λ w. is_type_wanted w found) e in (
        λ h. let x = tests of_kind other named (is_type_wanted d.wanted.ty found) value h in (x.0, (is-type ty).0 (sym same_type ∙ x.1)),
        λ h. ap (λ b. of_kind && (other && ((named && b) && value))) (same_type ∙ (is-type ty).1 h.1) ∙ h.0,
      )

  pub unknown : (w : Wanted) → is_typed w.ty ≡ true → ((ty : Ty) → HasType s item p ty → ⊥) → is_wanted (item_types s item) w p.tree ≡ false
  unknown w t none = by (is_type_wanted w.ty found) refl (is_name_wanted (item_types s item) w.name p.tree)
    where
      by : (b : Bool) → is_type_wanted w.ty found ≡ b → (a : Bool) → (a && b) ≡ false
      by true e a = let x = (wanted-types w.ty t).0 e in absurd (none x.0 x.1)
      by false e true = refl
      by false e false = refl
