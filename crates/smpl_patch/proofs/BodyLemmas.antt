-- What the elements of a body are as plain data.
use Rattle.std.proofs.Common.{◌≡◌, Bool, sym, ap, ◌∙◌, Option, List, map}
use Rattle.smpl_patch.specs.declared.pattern.Pattern.{Pattern}
use Rattle.smpl_patch.specs.declared.elem.Elem.{Elem}
use Rattle.smpl_patch.specs.declared.elem.Elem.TheVariants as elem
use Rattle.smpl_patch.specs.declared.elem.Elem.TheFolds.{fold-Dots, fold-roll-Elem}
use Rattle.smpl_patch.specs.declared.elem.Dots.{Dots}
use Rattle.smpl_patch.specs.Bodies.{Element, Atom, Compound, Block, Gap, Nest, AnyOf, AllOf, Bodies, DotsOf, sequences, element_step, dots_step, element, body}

-- sequences of elements as the code has them
abbrev pub bodies : List (List Elem) → Bodies
bodies bs = sequences (map (map element) bs)

-- dots as plain data
abbrev pub dots_of : Dots → DotsOf
dots_of = fold-Dots Element DotsOf element_step dots_step

pub element-Atom : (p : Pattern) → element (elem.Atom p) ≡ Atom p
element-Atom p = ap element (sym (elem.rolls-Atom p)) ∙ fold-roll-Elem Element DotsOf element_step dots_step _

pub element-Compound : (h : Pattern) (bs : List (List Elem)) (t : Option Pattern) → element (elem.Compound h bs t) ≡ Compound h (bodies bs) t
element-Compound h bs t = ap element (sym (elem.rolls-Compound h bs t)) ∙ fold-roll-Elem Element DotsOf element_step dots_step _

pub element-Block : (o : Pattern) (b : List Elem) (c : Pattern) → element (elem.Block o b c) ≡ Block o (body b) c
element-Block o b c = ap element (sym (elem.rolls-Block o b c)) ∙ fold-roll-Elem Element DotsOf element_step dots_step _

pub element-Gap : (d : Dots) → element (elem.Gap d) ≡ Gap (dots_of d).whens (dots_of d).any (dots_of d).strict
element-Gap d = ap element (sym (elem.rolls-Gap d)) ∙ fold-roll-Elem Element DotsOf element_step dots_step _

pub element-Nest : (plus : Bool) (b : List Elem) (d : Dots)
    → element (elem.Nest plus b d) ≡ Nest plus (body b) (dots_of d).whens (dots_of d).any (dots_of d).strict
element-Nest plus b d = ap element (sym (elem.rolls-Nest plus b d)) ∙ fold-roll-Elem Element DotsOf element_step dots_step _

pub element-AnyOf : (bs : List (List Elem)) → element (elem.AnyOf bs) ≡ AnyOf (bodies bs)
element-AnyOf bs = ap element (sym (elem.rolls-AnyOf bs)) ∙ fold-roll-Elem Element DotsOf element_step dots_step _

pub element-AllOf : (bs : List (List Elem)) → element (elem.AllOf bs) ≡ AllOf (bodies bs)
element-AllOf bs = ap element (sym (elem.rolls-AllOf bs)) ∙ fold-roll-Elem Element DotsOf element_step dots_step _
