-- What bodies keep when their patterns get forms: where dots are, how many branches there are, the numbers of atoms.
use Rattle.std.proofs.Common.{◌≡◌, ℕ, ◌+◌, suc, Bool, true, false, not, ◌&&◌, Option, Some, None, List, [], ◌∷◌, ◌++◌, map, nat_eq, refl, sym, ap, ◌∙◌}
use Rattle.std.specs.Prelude.{nat_le}
use Rattle.std.specs.List.{list_any}
use Rattle.smpl_patch.specs.declared.pattern.Pattern.{Pattern}
use Rattle.smpl_patch.specs.declared.pattern.PatToken.{PatToken}
use Rattle.smpl_patch.specs.declared.rule.Iso.{Iso}
use Rattle.smpl_patch.specs.Bodies.{Element, Atom, Compound, Block, Gap, Nest, AnyOf, AllOf, Body, End, Then, Bodies, NoMore, More}
use Rattle.smpl_patch.specs.Shapes.{is_dots, begins_with_dots, ends_with_dots, are_parted, has_no_dots_at_edge, count}
use Rattle.smpl_patch.specs.Shapes.{is_formed, each_formed, are_formed, is_formed_body, option_patterns, patterns_element}
use Rattle.smpl_patch.specs.Shapes.{patterns_body, patterns_bodies}
use Rattle.smpl_patch.specs.Sound.{none_alike}
use Rattle.iso_expand.specs.Bodies.{expanded_pattern, expanded_option, expanded_element, expanded_body, expanded_bodies}

map-append : {A B : Type 0} (f : A → B) (xs ys : List A) → map f (xs ++ ys) ≡ map f xs ++ map f ys
map-append f [] ys = refl
map-append f (x ∷ xs) ys = ap (λ zs. f x ∷ zs) (map-append f xs ys)

any-atoms : (f : Pattern → Pattern) → ((p : Pattern) → (f p).atom ≡ p.atom) → (n : ℕ) (ps : List Pattern)
    → list_any (λ q. nat_eq n q.atom) (map f ps) ≡ list_any (λ q. nat_eq n q.atom) ps
any-atoms f e n [] = refl
any-atoms f e n (p ∷ ps) = let a = e p in let b = any-atoms f e n ps in cc

-- numbers of atoms that differ still differ
pub atoms-differ : (f : Pattern → Pattern) → ((p : Pattern) → (f p).atom ≡ p.atom) → (ps : List Pattern)
    → none_alike (λ (p : Pattern) (q : Pattern). nat_eq p.atom q.atom) (map f ps) ≡ none_alike (λ (p : Pattern) (q : Pattern). nat_eq p.atom q.atom) ps
atoms-differ f e [] = refl
atoms-differ f e (p ∷ ps) =
    let a : list_any (λ q. nat_eq (f p).atom q.atom) (map f ps) ≡ list_any (λ q. nat_eq p.atom q.atom) ps =
    ap (λ (n : ℕ). list_any (λ q. nat_eq n q.atom) (map f ps)) (e p) ∙ any-atoms f e p.atom ps in
    let b = atoms-differ f e ps in
    cc

module _ (isos : List Iso) (tokens : List PatToken) where
  abbrev X : Pattern → Pattern
  X = expanded_pattern isos tokens

  dots-same : (e : Element) → is_dots (expanded_element isos tokens e) ≡ is_dots e
  dots-same (Atom p) = refl
  dots-same (Compound h bs t) = refl
  dots-same (Block o b c) = refl
  dots-same (Gap ws any strict) = refl
  dots-same (Nest plus b ws any strict) = refl
  dots-same (AnyOf bs) = refl
  dots-same (AllOf bs) = refl

  begins-same : (b : Body) → begins_with_dots (expanded_body isos tokens b) ≡ begins_with_dots b
  begins-same End = refl
  begins-same (Then e rest) = dots-same e

  ends-same : (b : Body) → ends_with_dots (expanded_body isos tokens b) ≡ ends_with_dots b
  ends-same End = refl
  ends-same (Then e End) = dots-same e
  ends-same (Then e (Then f rest)) = ends-same (Then f rest)

  parted-same : (b : Body) → are_parted (expanded_body isos tokens b) ≡ are_parted b
  parted-same End = refl
  parted-same (Then e rest) = let a = dots-same e in let b = begins-same rest in let c = parted-same rest in cc

  count-same : (bs : Bodies) → count (expanded_bodies isos tokens bs) ≡ count bs
  count-same NoMore = refl
  count-same (More b bs) = ap suc (count-same bs)

  edge-same : (b : Body) → has_no_dots_at_edge (expanded_body isos tokens b) ≡ has_no_dots_at_edge b
  edge-same b = let x = begins-same b in let y = ends-same b in cc

  mutual
    formed-element : (e : Element) → is_formed (expanded_element isos tokens e) ≡ is_formed e
    formed-element (Atom p) = refl
    formed-element (Compound h bs t) = formed-bodies bs
    formed-element (Block o b c) = let x = parted-same b in let y = formed-body b in cc
    formed-element (Gap ws any strict) = formed-bodies ws
    formed-element (Nest plus b ws any strict) =
        let x = edge-same b in let y = parted-same b in let z = formed-body b in let w = formed-bodies ws in cc
    formed-element (AnyOf bs) = let x = count-same bs in let y = formed-bodies bs in cc
    formed-element (AllOf bs) = let x = count-same bs in let y = formed-bodies bs in cc

    formed-body : (b : Body) → each_formed (expanded_body isos tokens b) ≡ each_formed b
    formed-body End = refl
    formed-body (Then e rest) = let x = formed-element e in let y = formed-body rest in cc

    formed-bodies : (bs : Bodies) → are_formed (expanded_bodies isos tokens bs) ≡ are_formed bs
    formed-bodies NoMore = refl
    formed-bodies (More b bs) =
        let x = edge-same b in let y = parted-same b in let z = formed-body b in let w = formed-bodies bs in cc

  pub formed-same : (b : Body) → is_formed_body (expanded_body isos tokens b) ≡ is_formed_body b
  formed-same b = let x = edge-same b in let y = parted-same b in let z = formed-body b in cc

  option-same : (p : Option Pattern) → option_patterns (expanded_option isos tokens p) ≡ map X (option_patterns p)
  option-same None = refl
  option-same (Some p) = refl

  mutual
    patterns-element : (e : Element) → patterns_element (expanded_element isos tokens e) ≡ map X (patterns_element e)
    patterns-element (Atom p) = refl
    patterns-element (Compound h bs t) =
        ap (λ (ps : List Pattern). X h ∷ ps ++ option_patterns (expanded_option isos tokens t)) (patterns-bodies bs)
        ∙ ap (λ (ps : List Pattern). X h ∷ map X (patterns_bodies bs) ++ ps) (option-same t)
        ∙ ap (λ (ps : List Pattern). X h ∷ ps) (sym (map-append X (patterns_bodies bs) (option_patterns t)))
    patterns-element (Block o b c) =
        ap (λ (ps : List Pattern). X o ∷ ps ++ X c ∷ []) (patterns-body b)
        ∙ ap (λ (ps : List Pattern). X o ∷ ps) (sym (map-append X (patterns_body b) (c ∷ [])))
    patterns-element (Gap ws any strict) = patterns-bodies ws
    patterns-element (Nest plus b ws any strict) =
        ap (λ (ps : List Pattern). ps ++ patterns_bodies (expanded_bodies isos tokens ws)) (patterns-body b)
        ∙ ap (λ (ps : List Pattern). map X (patterns_body b) ++ ps) (patterns-bodies ws)
        ∙ sym (map-append X (patterns_body b) (patterns_bodies ws))
    patterns-element (AnyOf bs) = patterns-bodies bs
    patterns-element (AllOf bs) = patterns-bodies bs

    pub patterns-body : (b : Body) → patterns_body (expanded_body isos tokens b) ≡ map X (patterns_body b)
    patterns-body End = refl
    patterns-body (Then e rest) =
        ap (λ (ps : List Pattern). ps ++ patterns_body (expanded_body isos tokens rest)) (patterns-element e)
        ∙ ap (λ (ps : List Pattern). map X (patterns_element e) ++ ps) (patterns-body rest)
        ∙ sym (map-append X (patterns_element e) (patterns_body rest))

    patterns-bodies : (bs : Bodies) → patterns_bodies (expanded_bodies isos tokens bs) ≡ map X (patterns_bodies bs)
    patterns-bodies NoMore = refl
    patterns-bodies (More b bs) =
        ap (λ (ps : List Pattern). ps ++ patterns_bodies (expanded_bodies isos tokens bs)) (patterns-body b)
        ∙ ap (λ (ps : List Pattern). map X (patterns_body b) ++ ps) (patterns-bodies bs)
        ∙ sym (map-append X (patterns_body b) (patterns_bodies bs))
