-- Bodies of rules as plain data: sequences of elements.
use Rattle.std.specs.Prelude.{Bool, Option, List, [], ◌∷◌, map}
use Rattle.smpl_patch.specs.declared.pattern.Pattern.{Pattern}
use Rattle.smpl_patch.specs.declared.elem.Elem.{Elem}
use Rattle.smpl_patch.specs.declared.elem.Elem.TheOpen.{Elem-F, Dots-F}
use Rattle.smpl_patch.specs.declared.elem.Elem.TheFolds.{fold-Elem}

mutual
  pub data Element : Type 0 where
    Atom : Pattern → Element
    -- the head, the bodies, and the tail of `do`
    Compound : Pattern → Bodies → Option Pattern → Element
    Block : Pattern → Body → Pattern → Element
    -- `...`: the pieces of `when` code, and whether there are `when any` and `when strict`
    Gap : Bodies → Bool → Bool → Element
    -- `<... ...>`, or `<+... ...+>` if the first is true
    Nest : Bool → Body → Bodies → Bool → Bool → Element
    AnyOf : Bodies → Element
    AllOf : Bodies → Element

  pub data Body : Type 0 where
    End : Body
    Then : Element → Body → Body

  pub data Bodies : Type 0 where
    NoMore : Bodies
    More : Body → Bodies → Bodies

-- the clauses of dots
pub record DotsOf : Type 0 where
  pub whens : Bodies
  pub any : Bool
  pub strict : Bool

abbrev pub sequence : List Element → Body
sequence [] = End
sequence (e ∷ es) = Then e (sequence es)

abbrev pub several : List Body → Bodies
several [] = NoMore
several (b ∷ bs) = More b (several bs)

abbrev pub sequences : List (List Element) → Bodies
sequences bs = several (map sequence bs)

abbrev pub element_step : Elem-F Element DotsOf → Element
element_step (Elem-F.Atom p) = Atom p
element_step (Elem-F.Compound h bs t) = Compound h (sequences bs) t
element_step (Elem-F.Block o b c) = Block o (sequence b) c
element_step (Elem-F.Gap d) = Gap d.whens d.any d.strict
element_step (Elem-F.Nest plus b d) = Nest plus (sequence b) d.whens d.any d.strict
element_step (Elem-F.AnyOf bs) = AnyOf (sequences bs)
element_step (Elem-F.AllOf bs) = AllOf (sequences bs)

abbrev pub dots_step : Dots-F Element DotsOf → DotsOf
dots_step d = record { whens = sequences d.whens; any = d.any; strict = d.strict }

abbrev pub element : Elem → Element
element = fold-Elem Element DotsOf element_step dots_step

abbrev pub body : List Elem → Body
body es = sequence (map element es)
