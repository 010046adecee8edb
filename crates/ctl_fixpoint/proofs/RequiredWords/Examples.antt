-- Which words formulas need, above all where two readings would differ.
use Rattle.std.proofs.Common.{◌≡◌, ℕ, true, false, ◌&&◌, ◌||◌, refl, ap, ap₂, ◌∙◌, List, [], ◌∷◌}
use Rattle.std.specs.Prelude.{codes}
use Rattle.c_terms.specs.declared.token.Token.{Token}
use Rattle.c_terms.specs.declared.token.TokenKind.{TokenKind}
use Rattle.c_terms.specs.declared.token.TokenKind.TheVariants as kind
use Rattle.c_terms.specs.declared.token.MetaKind.TheVariants as meta
use Rattle.c_terms.specs.declared.label.Label.TheVariants as label
use Rattle.c_terms.specs.declared.tree.Tree.TheVariants.{Leaf, Branch}
use Rattle.smpl_terms.specs.declared.var.Var.{Var}
use Rattle.smpl_patch.specs.declared.pattern.Pattern.{Pattern}
use Rattle.ctl_formula.specs.Plain.{True, Atom, EarlyExit, BraceOpen, Inside, Outside, Not, And, Or, AX, EX, AU, EU, After, InBranch, Exists}
use Rattle.ctl_fixpoint.specs.RequiredWords.Words.{is_word, spells, spelled, needs}
use Rattle.ctl_fixpoint.proofs.RequiredWords.WordLemmas.{spells-Leaf, spells-Branch}

abbrev token : TokenKind → List ℕ → Token
token k text = record { kind = k; text = text; id = 0 }

-- ---- tokens

-- names, keywords, numbers and literals are words
a_name : is_word (codes "lock") (token kind.Name (codes "lock")) ≡ true
a_name = refl

a_keyword : is_word (codes "goto") (token kind.Keyword (codes "goto")) ≡ true
a_keyword = refl

a_number : is_word (codes "0") (token kind.Number (codes "0")) ≡ true
a_number = refl

-- a different text is a different word
a_longer_name : is_word (codes "lock") (token kind.Name (codes "locked")) ≡ false
a_longer_name = refl

-- a variable's name says nothing about the tokens that it matches; brackets are everywhere
a_variable : is_word (codes "x") (token (kind.Meta meta.Expr) (codes "x")) ≡ false
a_variable = refl

a_bracket : is_word (codes "(") (token kind.Punct (codes "(")) ≡ false
a_bracket = refl

some_dots : is_word (codes "...") (token kind.Dots (codes "...")) ≡ false
some_dots = refl

-- ---- forms

abbrev lock : Token
lock = token kind.Name (codes "lock")

abbrev free : Token
free = token kind.Name (codes "free")

abbrev bar : Token
bar = token kind.Pat (codes "\\|")

-- a disjunction without branches fits nothing, and spells nothing
no_branch : spells (codes "lock") (Branch label.PatOr []) ≡ false
no_branch = spells-Branch (codes "lock") label.PatOr []

-- all children of another branch must fit
a_call : spells (codes "lock") (Branch label.Call (Leaf lock ∷ Leaf free ∷ [])) ≡ true
a_call = spells-Branch (codes "lock") label.Call (Leaf lock ∷ Leaf free ∷ [])
    ∙ ap (λ b. b || (spells (codes "lock") (Leaf free) || false)) (spells-Leaf (codes "lock") lock)

-- ---- formulas

module _ (w : List ℕ) (p q : Pattern) (b x : Var) (here : spelled w p ≡ true) (absent : spelled w q ≡ false) where
  an_atom : needs w (Atom p) ≡ true
  an_atom = here

  a_brace : needs w (BraceOpen p b) ≡ true
  a_brace = here

  -- both parts of an `and` are needed, whichever has the word
  either_part : needs w (And (Atom p) (Atom q)) ≡ true
  either_part = ap₂ (λ y z. y || z) here absent

  the_other_part : needs w (And (Atom q) (Atom p)) ≡ true
  the_other_part = ap₂ (λ y z. y || z) absent here

  -- what only one part of an `or` needs isn't needed
  one_branch : needs w (Or (Atom p) (Atom q)) ≡ false
  one_branch = ap₂ (λ y z. y && z) here absent

  both_branches : needs w (Or (Atom p) (AX (Atom p))) ≡ true
  both_branches = ap₂ (λ y z. y && z) here here

  -- dots may leave the function instead of reaching what follows them
  or_leaves : needs w (Or (Atom p) EarlyExit) ≡ false
  or_leaves = ap (λ y. y && false) here

  -- the way of an until may be empty
  the_way : needs w (EU (Atom p) (Atom q)) ≡ false
  the_way = absent

  the_end : needs w (AU (Atom q) (Atom p)) ≡ true
  the_end = here

  -- what must not occur there isn't needed
  under_not : needs w (Not (Atom p)) ≡ false
  under_not = refl

  under_not_twice : needs w (Not (Not (Atom p))) ≡ false
  under_not_twice = refl

  elsewhere : needs w (And (Atom q) (After (InBranch 0 (EX (Exists x (Atom p)))))) ≡ true
  elsewhere = ap₂ (λ y z. y || z) absent here

  nothing : needs w (And True (And (Inside b) (Outside b))) ≡ false
  nothing = refl
