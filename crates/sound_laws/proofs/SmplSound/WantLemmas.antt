-- What variables take: only an expression has to be more than that, and an inherited one takes what it takes in its rule.
use Rattle.std.proofs.Common.{◌≡◌, ℕ, suc, ◌+◌, Bool, true, false, ◌&&◌, refl, sym, ap, ◌∙◌, subst, List, [], ◌∷◌}
use Rattle.std.proofs.Common.{cond, nat_eq, arith, inl, inr}
use Rattle.std.specs.List.{list_all}
use Rattle.std.proofs.lemmas.Bool.Decides.{nat_tests}
use Rattle.c_terms.specs.Same.{same_bytes}
use Rattle.c_terms.proofs.SameLaws.{bytes-refl}
use Rattle.c_types.specs.declared.ty.Ty.{Ty}
use Rattle.c_types.specs.declared.ty.Ty.TheOpen.{Ty-F}
use Rattle.c_types.specs.declared.ty.Ty.TheBlock.{the_family, member-Ty}
use Rattle.c_types.specs.declared.ty.Ty.TheFolds.{ind-Ty, claims, map-Ty}
use Rattle.c_types.specs.declared.ty.Ty.TheVariants.{rolls-Basic, rolls-Named, rolls-Tag, rolls-Enumer, rolls-Ptr, rolls-Array, rolls-Fun}
use Rattle.c_types.specs.declared.ty.Ty.TheViews.{roll-Ty}
use Rattle.c_types.specs.Types.{same_words, same_flag, same_type}
use Rattle.c_types.proofs.TypeLemmas.{same_basic, same_named, same_tag, same_enumer, same_ptr, same_array, same_fun}
use denote.Hole.Holds.{Such}
use Rattle.smpl_terms.specs.declared.var.Var.{Var as Variable}
use Rattle.smpl_terms.specs.Vars.{same_var}
use Rattle.smpl_terms.proofs.VarLaws.{same_var-refl}
use Rattle.smpl_patch.specs.declared.pattern.VarDecl.{VarDecl}
use Rattle.smpl_patch.specs.declared.wanted.NameWanted.{NameWanted}
use Rattle.smpl_patch.specs.declared.wanted.NameWanted.TheVariants as name
use Rattle.smpl_patch.specs.declared.wanted.TypeWanted.{TypeWanted}
use Rattle.smpl_patch.specs.declared.wanted.TypeWanted.TheVariants as type
use Rattle.smpl_patch.specs.declared.wanted.Wanted.{Wanted}
use Rattle.smpl_patch.specs.Wants.{same_name, same_wanted_type, same_wanted}
use Rattle.smpl_patch.specs.declared.rule.Rule.{Rule}
use Rattle.smpl_patch.specs.Sound.{is_declared_with, wanted_in, is_sound_wanted}
use Rattle.smpl_meta.specs.declared.head.RuleHead.{RuleHead}
use Rattle.sound_laws.proofs.SmplSound.BoolLemmas.{both-true, or-left, or-right}
use Rattle.sound_laws.proofs.SmplSound.OwnLemmas.{OwnIn, Home, takes, GoodDecl, GoodDecls}
use Rattle.sound_laws.proofs.SmplSound.ExportLemmas.{Under}

-- ---- what is wanted is the same as itself

same_flag-refl : (b : Bool) → same_flag b b ≡ true
same_flag-refl true = refl
same_flag-refl false = refl

same_words-refl : (ws : List (List ℕ)) → same_words ws ws ≡ true
same_words-refl [] = refl
same_words-refl (w ∷ ws) = both-true (same_bytes w w) (same_words ws ws) (bytes-refl w) (same_words-refl ws)

abbrev Same : Ty → Type 0
Same t = same_type t t ≡ true

-- a type is the same as itself if the types inside it are
form-refl : (y : Ty-F (Such the_family (claims Same) member-Ty)) → Same (roll-Ty (map-Ty (Such the_family (claims Same) member-Ty) Ty (λ e. e.0) y))
form-refl (Ty-F.Basic a) = subst Same (sym (rolls-Basic a)) (same_basic a a ∙ same_words-refl a)
form-refl (Ty-F.Named a) = subst Same (sym (rolls-Named a)) (same_named a a ∙ bytes-refl a)
form-refl (Ty-F.Tag u a) =
    subst Same (sym (rolls-Tag u a)) (same_tag u a u a ∙ both-true (same_flag u u) (same_bytes a a) (same_flag-refl u) (bytes-refl a))
form-refl (Ty-F.Enumer a) = subst Same (sym (rolls-Enumer a)) (same_enumer a a ∙ bytes-refl a)
form-refl (Ty-F.Ptr e) = subst Same (sym (rolls-Ptr e.0)) (same_ptr e.0 e.0 ∙ e.1)
form-refl (Ty-F.Array e) = subst Same (sym (rolls-Array e.0)) (same_array e.0 e.0 ∙ e.1)
form-refl (Ty-F.Fun e) = subst Same (sym (rolls-Fun e.0)) (same_fun e.0 e.0 ∙ e.1)

same_type-refl : (t : Ty) → same_type t t ≡ true
same_type-refl = ind-Ty Same (λ x y e. subst (λ z. Same (roll-Ty z)) e (form-refl y))

same_name-refl : (n : NameWanted) → same_name n n ≡ true
same_name-refl name.Any = refl
same_name-refl name.Name = refl
same_name-refl name.Local = refl

same_wanted_type-refl : (t : TypeWanted) → same_wanted_type t t ≡ true
same_wanted_type-refl type.Any = refl
same_wanted_type-refl (type.Is t) = same_type-refl t
same_wanted_type-refl (type.Pointer n) = grind (arith, nat_tests)

same_wanted-refl : (w : Wanted) → same_wanted w w ≡ true
same_wanted-refl w = both-true (same_name w.name w.name) (same_wanted_type w.ty w.ty) (same_name-refl w.name) (same_wanted_type-refl w.ty)

-- ---- what an inherited variable takes

own-wanted : (d : VarDecl) (ds : List VarDecl) → OwnIn ds d.var d.kind d.wanted → is_declared_with ds d ≡ true
own-wanted d [] o = absurd o
own-wanted d (e ∷ ds) (inl is) =
    or-left (same_var e.var d.var && same_wanted e.wanted d.wanted) (is_declared_with ds d)
    (both-true (same_var e.var d.var) (same_wanted e.wanted d.wanted) (ap (λ (y : Variable). same_var y d.var) is.0 ∙ same_var-refl d.var)
    (ap (λ (w : Wanted). same_wanted w d.wanted) is.3 ∙ same_wanted-refl d.wanted))
own-wanted d (e ∷ ds) (inr o) = or-right (same_var e.var d.var && same_wanted e.wanted d.wanted) (is_declared_with ds d) (own-wanted d ds o)

same-number : (n m : ℕ) → n ≡ m → nat_eq n m ≡ true
same-number n m e = grind (arith, nat_tests)

home-wanted : (vs : List Variable) (n : ℕ) (hs : List RuleHead) (rs : List Rule) (d : VarDecl) → Under vs hs rs → Home n hs d.var d.kind d.wanted
    → wanted_in n rs d ≡ true
home-wanted vs n [] rs d u o = absurd o
home-wanted vs n (h ∷ hs) [] d u o = absurd u
home-wanted vs n (h ∷ hs) (r ∷ rs) d u (inl is) =
    or-left (nat_eq n d.var.rule && is_declared_with r.vars d) (wanted_in (n + 1) rs d)
    (both-true (nat_eq n d.var.rule) (is_declared_with r.vars d) (same-number n d.var.rule is.0)
    (ap (λ (ds : List VarDecl). is_declared_with ds d) u.0.0 ∙ own-wanted d h.vars is.1))
home-wanted vs n (h ∷ hs) (r ∷ rs) d u (inr o) =
    let more : wanted_in (n + 1) rs d ≡ true = ap (λ (m : ℕ). wanted_in m rs d) (omega arith) ∙ home-wanted vs (suc n) hs rs d u.1 o in
    or-right (nat_eq n d.var.rule && is_declared_with r.vars d) (wanted_in (n + 1) rs d) more

-- ---- sound declarations

module _ (vs : List Variable) (hs : List RuleHead) (rs : List Rule) (under : Under vs hs rs) where
  decl-wanted : (d : VarDecl) → GoodDecl hs d → is_sound_wanted rs d ≡ true
  decl-wanted d g = both-true (takes d.kind d.wanted) (cond d.inherited (wanted_in 0 rs d) true) g.wants (by d.inherited refl)
    where
      by : (b : Bool) → d.inherited ≡ b → cond b (wanted_in 0 rs d) true ≡ true
      by true i = home-wanted vs 0 hs rs d under (g.inherits i)
      by false i = refl

  pub decls-wanted : (ds : List VarDecl) → GoodDecls hs ds → list_all (is_sound_wanted rs) ds ≡ true
  decls-wanted [] g = refl
  decls-wanted (d ∷ ds) g = both-true (is_sound_wanted rs d) (list_all (is_sound_wanted rs) ds) (decl-wanted d g.0) (decls-wanted ds g.1)
