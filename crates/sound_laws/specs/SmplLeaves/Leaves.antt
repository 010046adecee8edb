-- The tokens of elements in order. Tokens of `when` code aren't among them; dots and the signs of patterns don't count.
use Rattle.std.specs.Prelude.{ℕ, ◌+◌, Bool, true, false, if◌then◌else◌, List, [], ◌∷◌, ◌++◌, drop, length, Option, None, Some}
use Rattle.c_terms.specs.declared.token.Token.{Token}
use Rattle.c_terms.specs.declared.token.TokenKind.{TokenKind}
use Rattle.c_terms.specs.declared.token.TokenKind.TheVariants as kind
use Rattle.c_terms.specs.declared.label.Label.{Label}
use Rattle.c_terms.specs.declared.tree.Tree.{Tree}
use Rattle.c_terms.specs.Trees.{leaves, join}
use Rattle.c_terms.specs.Shapes.{is_body}
use Rattle.smpl_patch.specs.declared.pattern.Pattern.{Pattern}
use Rattle.smpl_patch.specs.Bodies.{Element, Atom, Compound, Block, Gap, Nest, AnyOf, AllOf, Body, End, Then, Bodies, NoMore, More}
use Rattle.smpl_body.specs.SmplElem.Forms.{kids, label_at}

-- a token of C, or a metavariable
abbrev pub is_code : TokenKind → Bool
is_code kind.Dots = false
is_code kind.Pat = false
is_code _ = true

abbrev pub code : List Token → List Token
code [] = []
code (t ∷ ts) = if is_code t.kind then t ∷ code ts else code ts

abbrev pub form_tokens : List Tree → List Token
form_tokens [] = []
form_tokens (f ∷ fs) = leaves f

abbrev pub first_part : List (List Token) → List Token
first_part [] = []
first_part (p ∷ ps) = p

-- the tokens of a head's children, from child i of n on, with the given parts in the places of its bodies
abbrev pub woven : Label → (n i : ℕ) → List Tree → List (List Token) → List Token
woven l n i [] parts = []
woven l n i (c ∷ cs) parts =
    if is_body l n i then first_part parts ++ woven l n (i + 1) cs (drop 1 parts) else leaves c ++ woven l n (i + 1) cs parts

abbrev pub head_tokens : List Tree → List (List Token) → List Token
head_tokens [] parts = []
head_tokens (f ∷ fs) parts = woven (label_at f) (length (kids f)) 0 (kids f) parts

abbrev pub tail_tokens : Option Pattern → List Token
tail_tokens None = []
tail_tokens (Some p) = form_tokens p.forms

abbrev mutual
  pub element_tokens : Element → List Token
  element_tokens (Atom p) = form_tokens p.forms
  element_tokens (Compound h bs t) = head_tokens h.forms (each_tokens bs) ++ tail_tokens t
  element_tokens (Block o b c) = form_tokens o.forms ++ body_tokens b ++ form_tokens c.forms
  element_tokens (Gap whens any strict) = []
  element_tokens (Nest plus b whens any strict) = body_tokens b
  element_tokens (AnyOf bs) = join (each_tokens bs)
  element_tokens (AllOf bs) = join (each_tokens bs)

  pub body_tokens : Body → List Token
  body_tokens End = []
  body_tokens (Then e rest) = element_tokens e ++ body_tokens rest

  pub each_tokens : Bodies → List (List Token)
  each_tokens NoMore = []
  each_tokens (More b bs) = body_tokens b ∷ each_tokens bs
