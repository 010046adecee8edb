-- Bodies in which each pattern has the forms of its first form.
use Rattle.std.specs.Prelude.{ℕ, ◌+◌, Option, None, Some, List, [], ◌∷◌, length}
use Rattle.c_terms.specs.declared.tree.Tree.{Tree}
use Rattle.smpl_patch.specs.declared.pattern.Pattern.{Pattern}
use Rattle.smpl_patch.specs.declared.pattern.PatToken.{PatToken}
use Rattle.smpl_patch.specs.declared.rule.Iso.{Iso}
use Rattle.smpl_patch.specs.Bodies.{Element, Atom, Compound, Block, Gap, Nest, AnyOf, AllOf, Body, End, Then, Bodies, NoMore, More}
use Rattle.iso_expand.specs.IsoForms.Forms.{forms}

module _ (isos : List Iso) (tokens : List PatToken) where
  abbrev pub forms_of_first : List Tree → List Tree
  forms_of_first [] = []
  forms_of_first (t ∷ ts) = forms tokens isos t

  abbrev pub expanded_pattern : Pattern → Pattern
  expanded_pattern p = record { atom = p.atom; spot = p.spot; forms = forms_of_first p.forms }

  abbrev pub expanded_option : Option Pattern → Option Pattern
  expanded_option None = None
  expanded_option (Some p) = Some (expanded_pattern p)

  abbrev mutual
    pub expanded_element : Element → Element
    expanded_element (Atom p) = Atom (expanded_pattern p)
    expanded_element (Compound h bs t) = Compound (expanded_pattern h) (expanded_bodies bs) (expanded_option t)
    expanded_element (Block o b c) = Block (expanded_pattern o) (expanded_body b) (expanded_pattern c)
    expanded_element (Gap whens any strict) = Gap (expanded_bodies whens) any strict
    expanded_element (Nest plus b whens any strict) = Nest plus (expanded_body b) (expanded_bodies whens) any strict
    expanded_element (AnyOf bs) = AnyOf (expanded_bodies bs)
    expanded_element (AllOf bs) = AllOf (expanded_bodies bs)

    pub expanded_body : Body → Body
    expanded_body End = End
    expanded_body (Then e rest) = Then (expanded_element e) (expanded_body rest)

    pub expanded_bodies : Bodies → Bodies
    expanded_bodies NoMore = NoMore
    expanded_bodies (More b bs) = More (expanded_body b) (expanded_bodies bs)

  -- the number of forms
  abbrev pub forms_pattern : Pattern → ℕ
  forms_pattern p = length (forms_of_first p.forms)

  abbrev pub forms_option : Option Pattern → ℕ
  forms_option None = 0
  forms_option (Some p) = forms_pattern p

  abbrev mutual
    pub forms_element : Element → ℕ
    forms_element (Atom p) = forms_pattern p
    forms_element (Compound h bs t) = forms_pattern h + forms_bodies bs + forms_option t
    forms_element (Block o b c) = forms_pattern o + forms_body b + forms_pattern c
    forms_element (Gap whens any strict) = forms_bodies whens
    forms_element (Nest plus b whens any strict) = forms_body b + forms_bodies whens
    forms_element (AnyOf bs) = forms_bodies bs
    forms_element (AllOf bs) = forms_bodies bs

    pub forms_body : Body → ℕ
    forms_body End = 0
    forms_body (Then e rest) = forms_element e + forms_body rest

    pub forms_bodies : Bodies → ℕ
    forms_bodies NoMore = 0
    forms_bodies (More b bs) = forms_body b + forms_bodies bs
