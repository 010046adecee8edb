-- Bodies that are equal as plain data are equal.
use Rattle.std.proofs.Common.{◌≡◌, Bool, List, [], ◌∷◌, map, Option, refl, sym, ap, ◌∙◌}
use Rattle.smpl_patch.specs.declared.pattern.Pattern.{Pattern}
use Rattle.smpl_patch.specs.declared.elem.Elem.{Elem}
use Rattle.smpl_patch.specs.declared.elem.Elem.TheOpen.{Elem-F}
use Rattle.smpl_patch.specs.declared.elem.Elem.TheViews.{out-Elem, roll-Elem, roll-out-Elem}
use Rattle.smpl_patch.specs.declared.elem.Elem.TheFolds.{fold-Dots, fold-roll-Elem, fold_out-Dots}
use Rattle.smpl_patch.specs.declared.elem.Dots.{Dots, out-Dots, roll-Dots}
use Rattle.smpl_patch.specs.declared.elem.Elem.TheViews.{roll-out-Dots}
use Rattle.smpl_patch.specs.Bodies.{Element, Atom, Compound, Block, Gap, Nest, AnyOf, AllOf, Body, End, Then, Bodies, NoMore}
use Rattle.smpl_patch.specs.Bodies.{More, DotsOf, sequences, element_step, dots_step, element, body}

abbrev bodies : List (List Elem) → Bodies
bodies [] = NoMore
bodies (b ∷ bs) = More (body b) (bodies bs)

abbrev dots_of : Dots → DotsOf
dots_of = fold-Dots Element DotsOf element_step dots_step

-- ---- an element as plain data, by its first layer

abbrev opened : Elem-F Elem Dots → Element
opened (Elem-F.Atom p) = Atom p
opened (Elem-F.Compound h bs t) = Compound h (bodies bs) t
opened (Elem-F.Block o b c) = Block o (body b) c
opened (Elem-F.Gap d) = Gap (dots_of d).whens (dots_of d).any (dots_of d).strict
opened (Elem-F.Nest plus b d) = Nest plus (body b) (dots_of d).whens (dots_of d).any (dots_of d).strict
opened (Elem-F.AnyOf bs) = AnyOf (bodies bs)
opened (Elem-F.AllOf bs) = AllOf (bodies bs)

several-are : (bs : List (List Elem)) → sequences (map (map element) bs) ≡ bodies bs
several-are [] = refl
several-are (b ∷ bs) = ap (λ (x : Bodies). More (body b) x) (several-are bs)

opens : (y : Elem-F Elem Dots) → element (roll-Elem y) ≡ opened y
opens (Elem-F.Atom p) = fold-roll-Elem Element DotsOf element_step dots_step _
opens (Elem-F.Compound h bs t) = fold-roll-Elem Element DotsOf element_step dots_step _ ∙ ap (λ (x : Bodies). Compound h x t) (several-are bs)
opens (Elem-F.Block o b c) = fold-roll-Elem Element DotsOf element_step dots_step _
opens (Elem-F.Gap d) = fold-roll-Elem Element DotsOf element_step dots_step _
opens (Elem-F.Nest plus b d) = fold-roll-Elem Element DotsOf element_step dots_step _
opens (Elem-F.AnyOf bs) = fold-roll-Elem Element DotsOf element_step dots_step _ ∙ ap AnyOf (several-are bs)
opens (Elem-F.AllOf bs) = fold-roll-Elem Element DotsOf element_step dots_step _ ∙ ap AllOf (several-are bs)

element-is : (e : Elem) → element e ≡ opened (out-Elem e)
element-is e = ap element (sym (roll-out-Elem e)) ∙ opens (out-Elem e)

abbrev dots_made : List (List Elem) → Bool → Bool → Dots
dots_made whens any strict = roll-Dots (record { whens = whens; any = any; strict = strict })

-- dots of these parts
record AreDots (d : Dots) (whens : Bodies) (any strict : Bool) : Type 0 where
  pub code : List (List Elem)
  pub is : d ≡ dots_made code any strict
  pub whens_are : bodies code ≡ whens

are-dots : (d : Dots) (whens : Bodies) (any strict : Bool) → (dots_of d).whens ≡ whens → (dots_of d).any ≡ any → (dots_of d).strict ≡ strict
    → AreDots d whens any strict
are-dots d whens any strict a b c =
    let out = fold_out-Dots Element DotsOf element_step dots_step d in
    let is_any : (out-Dots d).any ≡ any = sym (ap (λ (z : DotsOf). z.any) out) ∙ b in
    let is_strict : (out-Dots d).strict ≡ strict = sym (ap (λ (z : DotsOf). z.strict) out) ∙ c in
    record {
      code = (out-Dots d).whens;
      is = sym (roll-out-Dots d) ∙ ap (λ (x : Bool). dots_made (out-Dots d).whens x (out-Dots d).strict) is_any
          ∙ ap (λ (x : Bool). dots_made (out-Dots d).whens any x) is_strict;
      whens_are = sym (several-are (out-Dots d).whens) ∙ sym (ap (λ (z : DotsOf). z.whens) out) ∙ a;
    }

-- ---- what a layer is whose element is known

see-Atom : (p : Pattern) (y : Elem-F Elem Dots) → opened y ≡ Atom p → y ≡ Elem-F.Atom p
see-Atom p (Elem-F.Atom q) e = let same : q ≡ p = cc in ap (λ (x : Pattern). Elem-F.Atom x) same
see-Atom p (Elem-F.Compound h bs t) e = absurd cc
see-Atom p (Elem-F.Block o b c) e = absurd cc
see-Atom p (Elem-F.Gap d) e = absurd cc
see-Atom p (Elem-F.Nest plus b d) e = absurd cc
see-Atom p (Elem-F.AnyOf bs) e = absurd cc
see-Atom p (Elem-F.AllOf bs) e = absurd cc

record SeenBodies (y : Elem-F Elem Dots) (make : List (List Elem) → Elem-F Elem Dots) (bs : Bodies) : Type 0 where
  pub code : List (List Elem)
  pub is : y ≡ make code
  pub are : bodies code ≡ bs

see-Compound : (h : Pattern) (bs : Bodies) (t : Option Pattern) (y : Elem-F Elem Dots) → opened y ≡ Compound h bs t
    → SeenBodies y (λ code. Elem-F.Compound h code t) bs
see-Compound h bs t (Elem-F.Compound k cs u) e =
    let head : k ≡ h = cc in
    let tail : u ≡ t = cc in
    record { code = cs; is = ap (λ (x : Pattern). Elem-F.Compound x cs u) head ∙ ap (λ (x : Option Pattern). Elem-F.Compound h cs x) tail; are = cc }
see-Compound h bs t (Elem-F.Atom q) e = absurd cc
see-Compound h bs t (Elem-F.Block o b c) e = absurd cc
see-Compound h bs t (Elem-F.Gap d) e = absurd cc
see-Compound h bs t (Elem-F.Nest plus b d) e = absurd cc
see-Compound h bs t (Elem-F.AnyOf cs) e = absurd cc
see-Compound h bs t (Elem-F.AllOf cs) e = absurd cc

see-AnyOf : (bs : Bodies) (y : Elem-F Elem Dots) → opened y ≡ AnyOf bs → SeenBodies y (λ code. Elem-F.AnyOf code) bs
see-AnyOf bs (Elem-F.AnyOf cs) e = record { code = cs; is = refl; are = cc }
see-AnyOf bs (Elem-F.Atom q) e = absurd cc
see-AnyOf bs (Elem-F.Compound h cs t) e = absurd cc
see-AnyOf bs (Elem-F.Block o b c) e = absurd cc
see-AnyOf bs (Elem-F.Gap d) e = absurd cc
see-AnyOf bs (Elem-F.Nest plus b d) e = absurd cc
see-AnyOf bs (Elem-F.AllOf cs) e = absurd cc

see-AllOf : (bs : Bodies) (y : Elem-F Elem Dots) → opened y ≡ AllOf bs → SeenBodies y (λ code. Elem-F.AllOf code) bs
see-AllOf bs (Elem-F.AllOf cs) e = record { code = cs; is = refl; are = cc }
see-AllOf bs (Elem-F.Atom q) e = absurd cc
see-AllOf bs (Elem-F.Compound h cs t) e = absurd cc
see-AllOf bs (Elem-F.Block o b c) e = absurd cc
see-AllOf bs (Elem-F.Gap d) e = absurd cc
see-AllOf bs (Elem-F.Nest plus b d) e = absurd cc
see-AllOf bs (Elem-F.AnyOf cs) e = absurd cc

record SeenBody (y : Elem-F Elem Dots) (first : Pattern) (b : Body) (last : Pattern) : Type 0 where
  pub code : List Elem
  pub is : y ≡ Elem-F.Block first code last
  pub are : body code ≡ b

see-Block : (o : Pattern) (b : Body) (c : Pattern) (y : Elem-F Elem Dots) → opened y ≡ Block o b c → SeenBody y o b c
see-Block o b c (Elem-F.Block p d q) e =
    let first : p ≡ o = cc in
    let last : q ≡ c = cc in
    record { code = d; is = ap (λ (x : Pattern). Elem-F.Block x d q) first ∙ ap (λ (x : Pattern). Elem-F.Block o d x) last; are = cc }
see-Block o b c (Elem-F.Atom q) e = absurd cc
see-Block o b c (Elem-F.Compound h cs t) e = absurd cc
see-Block o b c (Elem-F.Gap d) e = absurd cc
see-Block o b c (Elem-F.Nest plus d f) e = absurd cc
see-Block o b c (Elem-F.AnyOf cs) e = absurd cc
see-Block o b c (Elem-F.AllOf cs) e = absurd cc

see-Gap : (whens : Bodies) (any strict : Bool) (y : Elem-F Elem Dots) → opened y ≡ Gap whens any strict
    → SeenBodies y (λ code. Elem-F.Gap (dots_made code any strict)) whens
see-Gap whens any strict (Elem-F.Gap d) e =
    let dots = are-dots d whens any strict (cc) (cc) (cc) in
    record { code = dots.code; is = ap (λ (x : Dots). Elem-F.Gap x) dots.is; are = dots.whens_are }
see-Gap whens any strict (Elem-F.Atom q) e = absurd cc
see-Gap whens any strict (Elem-F.Compound h cs t) e = absurd cc
see-Gap whens any strict (Elem-F.Block o b c) e = absurd cc
see-Gap whens any strict (Elem-F.Nest plus b d) e = absurd cc
see-Gap whens any strict (Elem-F.AnyOf cs) e = absurd cc
see-Gap whens any strict (Elem-F.AllOf cs) e = absurd cc

record SeenNest (y : Elem-F Elem Dots) (plus : Bool) (b : Body) (whens : Bodies) (any strict : Bool) : Type 0 where
  pub inner : List Elem
  pub code : List (List Elem)
  pub is : y ≡ Elem-F.Nest plus inner (dots_made code any strict)
  pub inner_is : body inner ≡ b
  pub are : bodies code ≡ whens

see-Nest : (plus : Bool) (b : Body) (whens : Bodies) (any strict : Bool) (y : Elem-F Elem Dots) → opened y ≡ Nest plus b whens any strict
    → SeenNest y plus b whens any strict
see-Nest plus b whens any strict (Elem-F.Nest p c d) e =
    let dots = are-dots d whens any strict (cc) (cc) (cc) in
    let first : p ≡ plus = cc in
    record {
      inner = c;
      code = dots.code;
      is = ap (λ (x : Bool). Elem-F.Nest x c d) first ∙ ap (λ (x : Dots). Elem-F.Nest plus c x) dots.is;
      inner_is = cc;
      are = dots.whens_are;
    }
see-Nest plus b whens any strict (Elem-F.Atom q) e = absurd cc
see-Nest plus b whens any strict (Elem-F.Compound h cs t) e = absurd cc
see-Nest plus b whens any strict (Elem-F.Block o c d) e = absurd cc
see-Nest plus b whens any strict (Elem-F.Gap d) e = absurd cc
see-Nest plus b whens any strict (Elem-F.AnyOf cs) e = absurd cc
see-Nest plus b whens any strict (Elem-F.AllOf cs) e = absurd cc

-- ---- bodies of one shape are one

mutual
  pub layer-one : (x : Element) (y z : Elem-F Elem Dots) → opened y ≡ x → opened z ≡ x → y ≡ z
  layer-one (Atom p) y z e f = see-Atom p y e ∙ sym (see-Atom p z f)
  layer-one (Compound h bs t) y z e f =
      let a = see-Compound h bs t y e in
      let b = see-Compound h bs t z f in
      a.is ∙ ap (λ (code : List (List Elem)). Elem-F.Compound h code t) (bodies-one bs a.code b.code a.are b.are) ∙ sym b.is
  layer-one (Block o x c) y z e f =
      let a = see-Block o x c y e in
      let b = see-Block o x c z f in
      a.is ∙ ap (λ (code : List Elem). Elem-F.Block o code c) (body-one x a.code b.code a.are b.are) ∙ sym b.is
  layer-one (Gap whens any strict) y z e f =
      let a = see-Gap whens any strict y e in
      let b = see-Gap whens any strict z f in
      a.is ∙ ap (λ (code : List (List Elem)). Elem-F.Gap (dots_made code any strict)) (bodies-one whens a.code b.code a.are b.are) ∙ sym b.is
  layer-one (Nest plus x whens any strict) y z e f =
      let a = see-Nest plus x whens any strict y e in
      let b = see-Nest plus x whens any strict z f in
      a.is ∙ ap (λ (code : List (List Elem)). Elem-F.Nest plus a.inner (dots_made code any strict)) (bodies-one whens a.code b.code a.are b.are)
      ∙ ap (λ (code : List Elem). Elem-F.Nest plus code (dots_made b.code any strict)) (body-one x a.inner b.inner a.inner_is b.inner_is) ∙ sym b.is
  layer-one (AnyOf bs) y z e f =
      let a = see-AnyOf bs y e in
      let b = see-AnyOf bs z f in
      a.is ∙ ap (λ (code : List (List Elem)). Elem-F.AnyOf code) (bodies-one bs a.code b.code a.are b.are) ∙ sym b.is
  layer-one (AllOf bs) y z e f =
      let a = see-AllOf bs y e in
      let b = see-AllOf bs z f in
      a.is ∙ ap (λ (code : List (List Elem)). Elem-F.AllOf code) (bodies-one bs a.code b.code a.are b.are) ∙ sym b.is

  pub body-one : (x : Body) (es fs : List Elem) → body es ≡ x → body fs ≡ x → es ≡ fs
  body-one End [] [] e f = refl
  body-one End [] (b ∷ fs) e f = absurd cc
  body-one End (a ∷ es) fs e f = absurd cc
  body-one (Then x rest) [] fs e f = absurd cc
  body-one (Then x rest) (a ∷ es) [] e f = absurd cc
  body-one (Then x rest) (a ∷ es) (b ∷ fs) e f =
      let first : element a ≡ x = cc in
      let other : element b ≡ x = cc in
      let layer = layer-one x (out-Elem a) (out-Elem b) (sym (element-is a) ∙ first) (sym (element-is b) ∙ other) in
      let one : a ≡ b = sym (roll-out-Elem a) ∙ ap roll-Elem layer ∙ roll-out-Elem b in
      let more : es ≡ fs = body-one rest es fs (cc) (cc) in
      λ i. one i ∷ more i

  pub bodies-one : (x : Bodies) (bs cs : List (List Elem)) → bodies bs ≡ x → bodies cs ≡ x → bs ≡ cs
  bodies-one NoMore [] [] e f = refl
  bodies-one NoMore [] (c ∷ cs) e f = absurd cc
  bodies-one NoMore (b ∷ bs) cs e f = absurd cc
  bodies-one (More x rest) [] cs e f = absurd cc
  bodies-one (More x rest) (b ∷ bs) [] e f = absurd cc
  bodies-one (More x rest) (b ∷ bs) (c ∷ cs) e f =
      let one : b ≡ c = body-one x b c (cc) (cc) in
      let more : bs ≡ cs = bodies-one rest bs cs (cc) (cc) in
      λ i. one i ∷ more i
