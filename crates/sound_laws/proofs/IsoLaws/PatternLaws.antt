-- The patterns of a rule, and the lengths of its lists, when its patterns are given their forms.
use Rattle.std.proofs.Common.{◌≡◌, ℕ, ◌+◌, suc, ◌<◌, ◌≤◌, Bool, true, false, true≢false, ◌&&◌, Option, Some, None, List, [], ◌∷◌, ◌++◌}
use Rattle.std.proofs.Common.{length, map, refl, sym, ap, ◌∙◌, arith}
use Rattle.std.specs.Prelude.{nat_lt}
use Rattle.std.specs.List.{list_all}
use Rattle.std.proofs.lemmas.Bool.Decides.{nat_tests}
use Rattle.std.proofs.lemmas.List.Folds.{list_all-append}
use Rattle.c_terms.specs.declared.token.Token.{Token}
use Rattle.c_terms.specs.declared.token.TokenKind.{TokenKind}
use Rattle.c_terms.specs.declared.token.TokenKind.TheVariants as kind
use Rattle.c_terms.specs.declared.tree.Tree.{Tree}
use Rattle.c_terms.specs.Trees.{join, leaves, width}
use Rattle.c_terms.proofs.Induct.{Each}
use Rattle.smpl_patch.specs.declared.elem.Elem.{Elem}
use Rattle.smpl_patch.specs.declared.pattern.VarDecl.{VarDecl}
use Rattle.smpl_patch.specs.declared.pattern.Pattern.{Pattern}
use Rattle.smpl_patch.specs.declared.pattern.PatToken.{PatToken}
use Rattle.smpl_patch.specs.declared.rule.Iso.{Iso}
use Rattle.smpl_patch.specs.Bodies.{Element, Atom, Compound, Block, Gap, Nest, AnyOf, AllOf, Body, End, Then, Bodies, NoMore, More, body}
use Rattle.smpl_patch.specs.Shapes.{count, members, lengths_element, lengths_body, lengths_bodies, option_patterns, patterns_element}
use Rattle.smpl_patch.specs.Shapes.{patterns_body, patterns_bodies}
use Rattle.smpl_patch.specs.Sound.{is_declared, has_form, is_sound_pattern}
use Rattle.iso_expand.specs.IsoForms.Forms.{forms}
use Rattle.iso_expand.proofs.IsoForms.FormLemmas.{has_form as has_a_form}
use Rattle.iso_expand.specs.Bodies.{forms_of_first, expanded_pattern, expanded_element, expanded_body, expanded_bodies}
use Rattle.iso_expand.specs.Bodies.{forms_pattern, forms_option, forms_element, forms_body, forms_bodies}
use Rattle.sound_laws.specs.IsoLaws.Fine.{is_variable}
use Rattle.sound_laws.proofs.IsoLaws.GoodLemmas.{both_true, left_true, right_true, Good}
use Rattle.sound_laws.proofs.IsoLaws.MakingLemmas.{Passes}
use Rattle.sound_laws.proofs.IsoLaws.FormLaws.{AllFine, forms_good}

abbrev pub most : ℕ
most = 4294967296

abbrev pub small : ℕ → Bool
small n = nat_lt n 4294967296

below : (m n : ℕ) → nat_lt m n ≡ true → m < n
below m n h = grind (arith, nat_tests)

above : (m n : ℕ) → m < n → nat_lt m n ≡ true
above m n h = grind (arith, nat_tests)

-- ---- the tokens of a rule

module _ (vars : List VarDecl) (tokens : List PatToken) where
  abbrev pub fits_rule : Token → Bool
  fits_rule t = nat_lt t.id (length tokens) && is_declared vars t.kind t.text

  plain_declared : (k : TokenKind) (text : List ℕ) → is_variable k ≡ false → is_declared vars k text ≡ true
  plain_declared (kind.Meta k) text h = absurd (true≢false h)
  plain_declared kind.Name text h = refl
  plain_declared kind.Keyword text h = refl
  plain_declared kind.Number text h = refl
  plain_declared kind.Char text h = refl
  plain_declared kind.Str text h = refl
  plain_declared kind.Punct text h = refl
  plain_declared kind.Stray text h = refl
  plain_declared kind.Dots text h = refl
  plain_declared kind.Pat text h = refl

  pub ids_fit : (a : Token) → fits_rule a ≡ true → Passes fits_rule a.id
  ids_fit a h k text m =
      both_true (nat_lt a.id (length tokens)) (is_declared vars k text)
      (left_true (nat_lt a.id (length tokens)) (is_declared vars a.kind a.text) h) (plain_declared k text m)

-- ---- a pattern

abbrev pub lengths_pattern : Pattern → List ℕ
lengths_pattern p = length p.forms ∷ map width p.forms

some_form : (fs : List Tree) → 0 < length fs → has_form fs ≡ true
some_form [] h = absurd (omega (arith, h))
some_form (f ∷ fs) h = refl

module _ (vars : List VarDecl) (tokens : List PatToken) (isos : List Iso)
    (fine : AllFine (fits_rule vars tokens) most (ids_fit vars tokens) tokens isos) where
  abbrev P : Token → Bool
  P = fits_rule vars tokens

  abbrev all_fit : List Tree → Bool
  all_fit fs = list_all (λ f. list_all (λ t. nat_lt t.id (length tokens) && is_declared vars t.kind t.text) (leaves f)) fs

  good_fit : (fs : List Tree) → Each (Good P most) fs → all_fit fs ≡ true
  good_fit [] e = refl
  good_fit (f ∷ fs) e = both_true (list_all P (leaves f)) (all_fit fs) e.0.0 (good_fit fs e.1)

  good_narrow : (fs : List Tree) → Each (Good P most) fs → list_all small (map width fs) ≡ true
  good_narrow [] e = refl
  good_narrow (f ∷ fs) e = both_true (small (width f)) (list_all small (map width fs)) (above (width f) 4294967296 e.0.1) (good_narrow fs e.1)

  abbrev Kept : List Tree → Type 0
  Kept fs = ((has_form fs && all_fit fs) ≡ true) × (list_all small (length fs ∷ map width fs) ≡ true)

  forms_kept : (fs : List Tree) → (has_form fs && all_fit fs) ≡ true → list_all small (length fs ∷ map width fs) ≡ true
      → length (forms_of_first isos tokens fs) ≤ 10000 → Kept (forms_of_first isos tokens fs)
  forms_kept [] h w few = absurd (true≢false (sym h))
  forms_kept (t ∷ ts) h w few =
      let fit : list_all P (leaves t) ≡ true = left_true (list_all P (leaves t)) (all_fit ts) h in
      let rest : list_all small (map width (t ∷ ts)) ≡ true = right_true (small (length (t ∷ ts))) (list_all small (map width (t ∷ ts))) w in
      let thin : width t < 4294967296 = below (width t) 4294967296 (left_true (small (width t)) (list_all small (map width ts)) rest) in
      let good = forms_good P most (ids_fit vars tokens) tokens isos fine t (fit, thin) in
      let some = some_form (forms tokens isos t) (has_some t) in (
        both_true (has_form (forms tokens isos t)) (all_fit (forms tokens isos t)) some (good_fit (forms tokens isos t) good),
        both_true (small (length (forms tokens isos t))) (list_all small (map width (forms tokens isos t)))
            (above (length (forms tokens isos t)) 4294967296 (omega (arith, few))) (good_narrow (forms tokens isos t) good),
      )
    where
      has_some : (u : Tree) → 0 < length (forms tokens isos u)
      has_some u = has_a_form tokens isos u

  abbrev X : Pattern → Pattern
  X = expanded_pattern isos tokens

  pub pattern_kept : (p : Pattern) → is_sound_pattern vars tokens p ≡ true → list_all small (lengths_pattern p) ≡ true
      → forms_pattern isos tokens p ≤ 10000
      → (is_sound_pattern vars tokens (X p) ≡ true) × (list_all small (lengths_pattern (X p)) ≡ true)
  pattern_kept p h w few = forms_kept p.forms h w few

  -- ---- the patterns of a body

  abbrev pub total : List Pattern → ℕ
  total [] = 0
  total (p ∷ ps) = forms_pattern isos tokens p + total ps

  total-append : (ps qs : List Pattern) → total (ps ++ qs) ≡ total ps + total qs
  total-append [] qs = omega arith
  total-append (p ∷ ps) qs = let e = total-append ps qs in omega (arith, e)

  total-option : (p : Option Pattern) → forms_option isos tokens p ≡ total (option_patterns p)
  total-option None = refl
  total-option (Some p) = omega arith

  mutual
    total-element : (e : Element) → forms_element isos tokens e ≡ total (patterns_element e)
    total-element (Atom p) = omega arith
    total-element (Compound h bs t) =
        let x = total-bodies bs in
        let y = total-option t in
        let z = total-append (patterns_bodies bs) (option_patterns t) in
        omega (arith, x, y, z)
    total-element (Block o b c) =
        let x = total-body b in
        let z = total-append (patterns_body b) (c ∷ []) in
        omega (arith, x, z)
    total-element (Gap ws any strict) = total-bodies ws
    total-element (Nest plus b ws any strict) =
        let x = total-body b in
        let y = total-bodies ws in
        let z = total-append (patterns_body b) (patterns_bodies ws) in
        omega (arith, x, y, z)
    total-element (AnyOf bs) = total-bodies bs
    total-element (AllOf bs) = total-bodies bs

    pub total-body : (b : Body) → forms_body isos tokens b ≡ total (patterns_body b)
    total-body End = refl
    total-body (Then e rest) =
        let x = total-element e in
        let y = total-body rest in
        let z = total-append (patterns_element e) (patterns_body rest) in
        omega (arith, x, y, z)

    total-bodies : (bs : Bodies) → forms_bodies isos tokens bs ≡ total (patterns_bodies bs)
    total-bodies NoMore = refl
    total-bodies (More b bs) =
        let x = total-body b in
        let y = total-bodies bs in
        let z = total-append (patterns_body b) (patterns_bodies bs) in
        omega (arith, x, y, z)

  pub patterns_kept : (ps : List Pattern) → list_all (is_sound_pattern vars tokens) ps ≡ true → list_all small (join (map lengths_pattern ps)) ≡ true
      → total ps ≤ 10000
      → (list_all (is_sound_pattern vars tokens) (map X ps) ≡ true) × (list_all small (join (map lengths_pattern (map X ps))) ≡ true)
  patterns_kept [] h w few = (refl, refl)
  patterns_kept (p ∷ ps) h w few =
      let sum : forms_pattern isos tokens p + total ps ≤ 10000 = few in
      let parts : (list_all small (lengths_pattern p) && list_all small (join (map lengths_pattern ps))) ≡ true =
      sym (list_all-append small (lengths_pattern p) (join (map lengths_pattern ps))) ∙ w in
      let one = pattern_kept p (left_true (is_sound_pattern vars tokens p) (list_all (is_sound_pattern vars tokens) ps) h)
      (left_true (list_all small (lengths_pattern p)) (list_all small (join (map lengths_pattern ps))) parts) (omega (arith, sum)) in
      let more = patterns_kept ps (right_true (is_sound_pattern vars tokens p) (list_all (is_sound_pattern vars tokens) ps) h)
      (right_true (list_all small (lengths_pattern p)) (list_all small (join (map lengths_pattern ps))) parts) (omega (arith, sum)) in (
        both_true (is_sound_pattern vars tokens (X p)) (list_all (is_sound_pattern vars tokens) (map X ps)) one.0 more.0,
        list_all-append small (lengths_pattern (X p)) (join (map lengths_pattern (map X ps)))
            ∙ both_true (list_all small (lengths_pattern (X p))) (list_all small (join (map lengths_pattern (map X ps)))) one.1 more.1,
      )

-- ---- the lists of a body

one_more : {m n : ℕ} {xs ys : List ℕ} → m ≡ n → xs ≡ ys → m ∷ xs ≡ n ∷ ys
one_more e f = cc

appended : {xs ys us vs : List ℕ} → xs ≡ ys → us ≡ vs → xs ++ us ≡ ys ++ vs
appended e f = cc

more_after : {m n : ℕ} {xs ys us vs : List ℕ} → m ≡ n → xs ≡ ys → us ≡ vs → m ∷ (xs ++ us) ≡ n ∷ (ys ++ vs)
more_after e f g = cc

module _ (isos : List Iso) (tokens : List PatToken) where
  count-same : (bs : Bodies) → count (expanded_bodies isos tokens bs) ≡ count bs
  count-same NoMore = refl
  count-same (More b bs) = ap suc (count-same bs)

  pub members-same : (b : Body) → members (expanded_body isos tokens b) ≡ members b
  members-same End = refl
  members-same (Then e rest) = ap suc (members-same rest)

  of_bodies : (bs : Bodies) → lengths_bodies (expanded_bodies isos tokens bs) ≡ lengths_bodies bs
      → count (expanded_bodies isos tokens bs) ∷ lengths_bodies (expanded_bodies isos tokens bs) ≡ count bs ∷ lengths_bodies bs
  of_bodies bs e = one_more (count-same bs) e

  mutual
    lengths-element : (e : Element) → lengths_element (expanded_element isos tokens e) ≡ lengths_element e
    lengths-element (Atom p) = refl
    lengths-element (Compound h bs t) = of_bodies bs (lengths-bodies bs)
    lengths-element (Block o b c) = one_more (members-same b) (lengths-body b)
    lengths-element (Gap ws any strict) = of_bodies ws (lengths-bodies ws)
    lengths-element (Nest plus b ws any strict) =
        more_after (members-same b) (lengths-body b) (of_bodies ws (lengths-bodies ws))
    lengths-element (AnyOf bs) = of_bodies bs (lengths-bodies bs)
    lengths-element (AllOf bs) = of_bodies bs (lengths-bodies bs)

    pub lengths-body : (b : Body) → lengths_body (expanded_body isos tokens b) ≡ lengths_body b
    lengths-body End = refl
    lengths-body (Then e rest) = appended (lengths-element e) (lengths-body rest)

    lengths-bodies : (bs : Bodies) → lengths_bodies (expanded_bodies isos tokens bs) ≡ lengths_bodies bs
    lengths-bodies NoMore = refl
    lengths-bodies (More b bs) = more_after (members-same b) (lengths-body b) (lengths-bodies bs)

pub members_are : (es : List Elem) → members (body es) ≡ length es
members_are [] = refl
members_are (e ∷ es) = ap suc (members_are es)
