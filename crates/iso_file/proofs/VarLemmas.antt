-- The declarations of a block have one list of variables, or a fault.
use Rattle.std.proofs.Common.{◌≡◌, inl, inr, Bool, true, false, true≢false, List, [], Option, None, Some, refl, sym, ap, ◌∙◌, subst}
use Rattle.std.specs.Prelude.{if◌then◌else◌}
use Rattle.smpl_patch.specs.declared.pattern.VarDecl.{VarDecl}
use Rattle.smpl_patch.specs.declared.fault.PatchFault.{PatchFault}
use Rattle.smpl_patch.specs.Faults.{first_of}
use Rattle.smpl_lexer.specs.declared.token.PatchToken.{PatchToken}
use Rattle.smpl_lexer.specs.Texts.{OrNoMemory}
use Rattle.smpl_meta.specs.declared.item.Item.{Item}
use Rattle.smpl_meta.specs.Decls.{vars_of, decl_faults, IsDecls, IsDeclFault}
use Rattle.smpl_meta.proofs.DeclsOnce.{OneTree, answers-once}
use Rattle.iso_file.specs.Sides.{are_of_kinds, have_kinds, with_kinds}
use Rattle.iso_file.specs.Isos.{AreVars}
use Rattle.iso_file.specs.Stepped.{Decides, is_no_memory}

module _ (law : OneTree) (tokens : List PatchToken) where
  decls_once : (one other : List VarDecl) → IsDecls [] 0 tokens one → IsDecls [] 0 tokens other → one ≡ other
  decls_once one other a b =
      a.vars_are ∙ (ap (λ (l : List (Option (List Item))). vars_of [] 0 l) (answers-once law tokens a.answers b.answers a.read b.read)
      ∙ sym b.vars_are)

  pub vars_once : (one other : List VarDecl) → AreVars tokens one → AreVars tokens other → one ≡ other
  vars_once one other a b = decls_once one other a.decls b.decls

  -- declarations with a fault declare nothing
  faulty : (fault : PatchFault) → IsDeclFault [] tokens fault → Decides (AreVars tokens) None
  faulty fault f vars a =
      let d = a.decls in
      let same : f.answers ≡ d.answers = answers-once law tokens f.answers d.answers f.read d.read in
      let first : first_of (decl_faults [] d.answers tokens) ≡ Some fault
      = subst (λ (l : List (Option (List Item))). first_of (decl_faults [] l tokens) ≡ Some fault) same f.first in
      let none : None ≡ Some fault = sym (ap first_of d.faultless) ∙ first in
      absurd (cc)

  pub none_of : (fault : PatchFault) → is_no_memory fault ≡ false → OrNoMemory (IsDeclFault [] tokens) fault → Decides (AreVars tokens) None
  none_of fault other (inl e) = absurd (true≢false (sym (ap is_no_memory e) ∙ other))
  none_of fault other (inr f) = faulty fault f

  -- declarations without a fault, whatever kinds they declare
  pub of_kinds : (vars : List VarDecl) → are_of_kinds true tokens ≡ true → IsDecls [] 0 tokens vars → Decides (AreVars tokens) (with_kinds vars)
  of_kinds vars kinds d = by (have_kinds vars) refl
    where
      by : (b : Bool) → have_kinds vars ≡ b → Decides (AreVars tokens) (if b then Some vars else None)
      by true e = record { kinds = kinds; decls = d; have = e }
      by false e = λ other a.
          true≢false (sym a.have ∙ (ap have_kinds (decls_once other vars a.decls d) ∙ e))
