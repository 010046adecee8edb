-- Properties of patterns whose forms are sound.
use Rattle.std.proofs.Common.{◌≡◌, ℕ, ◌<◌, ◌≤◌, refl, ap, ◌∙◌, arith, List, [], ◌∷◌, map, length}
use Rattle.std.specs.Prelude.{Bool, true, ◌&&◌}
use Rattle.std.specs.List.{list_all}
use Rattle.c_terms.specs.declared.token.Token.{Token}
use Rattle.c_terms.specs.declared.tree.Tree.{Tree}
use Rattle.c_terms.specs.Trees.{leaves, join, greatest, width}
use Rattle.c_terms.proofs.TreeLemmas.{leaves-Leaf, leaves-Branch, width-Leaf, width-Branch}
use Rattle.smpl_patch.specs.declared.pattern.VarDecl.{VarDecl}
use Rattle.smpl_patch.specs.declared.pattern.PatToken.{PatToken}
use Rattle.smpl_patch.specs.declared.pattern.Pattern.{Pattern}
use Rattle.smpl_patch.specs.Sound.{has_form}
use Rattle.sound_laws.specs.SmplFormed.Shapes.{Sound, sound_token, sound_branch, AllSound, no_more, one_more}
use Rattle.sound_laws.specs.SmplFormed.Bodies.{AllStand}
use Rattle.sound_laws.proofs.SmplFormed.SequenceLemmas.{and_both, all_append, is_small, small, AllGood}
use Rattle.sound_laws.proofs.SmplFormed.SureLemmas.{sure_stands}

pub any_tokens : (ts : List Token) → list_all (λ (t : Token). true) ts ≡ true
any_tokens [] = refl
any_tokens (t ∷ ts) = any_tokens ts

module _ (ok : Token → Bool) (most : ℕ) where
  mutual
    leaves_pass : {t : Tree} → Sound ok most t → list_all ok (leaves t) ≡ true
    leaves_pass (sound_token a h) = ap (list_all ok) (leaves-Leaf a) ∙ and_both (ok a) true h refl
    leaves_pass (sound_branch l cs f le all) = ap (list_all ok) (leaves-Branch l cs) ∙ all_pass all

    all_pass : {cs : List Tree} → AllSound ok most cs → list_all ok (join (map leaves cs)) ≡ true
    all_pass no_more = refl
    all_pass (one_more c cs one rest) = all_append ok (leaves c) (join (map leaves cs)) (leaves_pass one) (all_pass rest)

  mutual
    narrow : {t : Tree} → Sound ok most t → width t ≤ most
    narrow (sound_token a h) = omega (arith, width-Leaf a)
    narrow (sound_branch l cs f le all) = omega (arith, width-Branch l cs, le, all_narrow all)

    all_narrow : {cs : List Tree} → AllSound ok most cs → greatest (map width cs) ≤ most
    all_narrow no_more = omega arith
    all_narrow (one_more c cs one rest) = omega (arith, narrow one, all_narrow rest)

  abbrev pub fits : Pattern → Bool
  fits p = has_form p.forms && list_all (λ f. list_all ok (leaves f)) p.forms

  pub patterns_fit : (ps : List Pattern) → AllGood ok most ps → list_all fits ps ≡ true
  patterns_fit [] g = refl
  patterns_fit (p ∷ ps) g =
      and_both (fits p) (list_all fits ps)
      (ap (λ (fs : List Tree). has_form fs && list_all (λ f. list_all ok (leaves f)) fs) g.0.are
      ∙ and_both (list_all ok (leaves g.0.form)) true (leaves_pass g.0.sound) refl)
      (patterns_fit ps g.1)

  abbrev pub is_few : Pattern → Bool
  is_few p = list_all is_small (length p.forms ∷ map width p.forms)

  pub patterns_few : (ps : List Pattern) → most < 4294967296 → AllGood ok most ps → list_all is_few ps ≡ true
  patterns_few [] s g = refl
  patterns_few (p ∷ ps) s g =
      and_both (is_few p) (list_all is_few ps)
      (ap (λ (fs : List Tree). list_all is_small (length fs ∷ map width fs)) g.0.are
      ∙ and_both (is_small 1) (is_small (width g.0.form) && true) (small 1 (omega arith))
      (and_both (is_small (width g.0.form)) true (small (width g.0.form) (omega (arith, narrow g.0.sound, s))) refl))
      (patterns_few ps s g.1)

  pub patterns_stand : (decls : List VarDecl) (tokens : List PatToken) (ps : List Pattern) → AllGood ok most ps → AllStand decls tokens ps
  patterns_stand decls tokens [] g = tt
  patterns_stand decls tokens (p ∷ ps) g = ((λ x. sure_stands decls tokens x ok most p g.0), patterns_stand decls tokens ps g.1)
