-- The rows whose parts are made in several tables: blocks, heads with bodies, branches, `when` code.
use Rattle.std.proofs.Common.{◌≡◌, ℕ, sym, ap, ◌∙◌, List, [], ◌++◌}
use Rattle.std.proofs.Common.{Option, None, Result}
use Rattle.std.specs.List.{filter}
use Rattle.std.specs.Result.{IfOk}
use Rattle.smpl_terms.specs.declared.var.Var.{Var}
use Rattle.smpl_patch.specs.declared.elem.Elem.{Elem}
use Rattle.smpl_patch.specs.declared.pattern.Pattern.{Pattern}
use Rattle.smpl_patch.specs.Bodies.{Element, Body, Bodies}
use Rattle.smpl_patch.specs.declared.elem.Dots.{Dots, out-Dots}
use Rattle.smpl_patch.proofs.BodyLemmas.{bodies, dots_of}
use Rattle.ctl_table.proofs.MadeLemmas.{dots-whens-are}
use Rattle.ctl_formula.specs.Plain.{Plain, Atom, BraceOpen, BraceClose, Not, And, InBranch, Exists}
use Rattle.ctl_formula.specs.declared.node.Node.{Node}
use Rattle.ctl_formula.specs.Tables.{at, plains, Grows, Makes}
use Rattle.ctl_formula.proofs.TableLemmas.{grows-trans}
use Rattle.pattern_vars.specs.VarPlaces.Placing.{occurs_body}
use Rattle.ctl_table.specs.Table as table
use Rattle.pattern_vars.specs.declared.var_places.place.Place.{Place}
use Rattle.ctl_table.specs.declared.follow.Continuation.TheVariants as made
use Rattle.ctl_table.specs.declared.follow.Start.TheVariants as start
use Rattle.ctl_table.specs.Settings.{parts_at, follow_of, compound_at, block_at, when_at, MakesAll}
use Rattle.ctl_table.proofs.MakingLemmas.{made-up, stays}

-- a block's braces and their contents
pub block-made : {E : Type 0} (m n : table.Setting) (a b c d : List Node) (o e : Pattern) (es : Body) (w v s : List Var)
    (x : Var) (close inside : ℕ) (r : Result ℕ E)
    → x ≡ table.hidden m o → n ≡ table.within m x → Makes a b close (table.own m w e (BraceClose e x)) → v ≡ filter (occurs_body m.reading es) w
    → Makes b c inside (table.seq n None es (follow_of (plains b) n None (made.Part start.Brace close)) v s s)
    → IfOk r (λ f. Makes c d f (Exists x (And (table.own m w o (BraceOpen o x)) (InBranch 0 (at (plains c) inside)))))
    → IfOk r (λ f. Makes a d f (block_at m o es e w s))
block-made m n a b c d o e es w v s x close inside r q l k u i z =
    let held = λ (y : table.Setting) (p : Plain). table.seq y None es (record { start = table.Brace; at = λ t. p }) (filter (occurs_body m.reading es) w) s s in
    let whole = λ (y : Var) (p : Plain). Exists y (And (table.own m w o (BraceOpen o y)) (InBranch 0 p)) in
    let inside_is : at (plains c) inside ≡ held (table.within m x) (table.own m w e (BraceClose e x)) =
    i.is ∙ ap (λ (z : List Var). table.seq n None es (follow_of (plains b) n None (made.Part start.Brace close)) z s s) u ∙ ap (held n) k.is
    ∙ ap (λ (y : table.Setting). held y (table.own m w e (BraceClose e x))) l in
    made-up a c d r (whole x (at (plains c) inside)) (block_at m o es e w s)
    (grows-trans a b c k.grows i.grows)
    (ap (whole x) inside_is ∙ ap (λ (y : Var). whole y (held (table.within m y) (table.own m w e (BraceClose e y)))) q) z

-- a head with its bodies and its tail
pub compound-made : {E : Type 0} (m : table.Setting) (a b c : List Node) (h : Pattern) (tail : Option Pattern) (bs : Bodies)
    (w s : List Var) (is js : List ℕ) (r : Result ℕ E)
    → js ≡ is → MakesAll a b is (table.each m bs table.nothing w s)
    → IfOk r (λ f. Makes b c f (table.with_tail m w tail (table.and_all (table.own m w h (Atom h)) (table.in_branches 0 (parts_at b js)))))
    → IfOk r (λ f. Makes a c f (compound_at m h bs tail w s))
compound-made m a b c h tail bs w s is js r j x y =
    let row = λ (z : List Plain). table.with_tail m w tail (table.and_all (table.own m w h (Atom h)) (table.in_branches 0 z)) in
    made-up a b c r (row (parts_at b js)) (compound_at m h bs tail w s) x.grows (ap row (ap (parts_at b) j ∙ x.are)) y

-- a piece of `when` code
pub when-made : {E : Type 0} (m : table.Setting) (a b c : List Node) (f : ℕ) (w : Body) (al ar v s : List Var) (r : Result ℕ E)
    → al ≡ table.lone m w → ar ≡ s ++ al → v ≡ []
    → Makes a b f (table.seq m None w table.nothing v ar ar)
    → IfOk r (λ i. Makes b c i (Not (table.exists_all al (at (plains b) f))))
    → IfOk r (λ i. Makes a c i (when_at m w s))
when-made m a b c f w al ar v s r p q n x y =
    made-up a b c r (Not (table.exists_all al (at (plains b) f))) (when_at m w s) x.grows
    (ap (λ (z : Plain). Not (table.exists_all al z))
    (x.is ∙ ap (λ (z : List Var). table.seq m None w table.nothing z ar ar) n ∙ ap (λ (z : List Var). table.seq m None w table.nothing [] z z) q)
    ∙ ap (λ (z : List Var). Not (table.exists_all z (table.seq m None w table.nothing [] (s ++ z) (s ++ z)))) p) y

-- an element's row, given that what is quantified inside and around it is that of its place
pub elem-at : (m : table.Setting) (after : Option Element) (y : Element) (k : table.Follow) (v s : List Var) (p : Place) → v ≡ p.inside → s ≡ p.scope
    → (before : Option Element) (t : List Var) → table.elem m before after y k v s t ≡ table.elem m before after y k p.inside p.scope t
elem-at m after y k v s p e f before t =
    ap (λ (z : List Var). table.elem m before after y k z s t) e ∙ ap (λ (z : List Var). table.elem m before after y k p.inside z t) f

-- the parts of `when` code, in the form that dots have them
pub whens-are : (m : table.Setting) (a b : List Node) (is : List ℕ) (d : Dots) (ws : List (List Elem)) (s : List Var)
    (p : Place) → ws ≡ (out-Dots d).whens → s ≡ p.scope
    → MakesAll a b is (table.when_parts m (bodies ws) s) → parts_at b is ≡ table.when_parts m (dots_of d).whens p.scope
whens-are m a b is d ws s p e f x =
    x.are ∙ ap (λ (z : List (List Elem)). table.when_parts m (bodies z) s) e ∙ ap (λ (z : Bodies). table.when_parts m z s) (sym (dots-whens-are d))
    ∙ ap (table.when_parts m (dots_of d).whens) f

-- the part of a nest, in the table in which its dots are made
pub nest-is : (m : table.Setting) (a b c : List Node) (i : ℕ) (es : Body) (w s : List Var) (p : Place) → w ≡ p.inside → s ≡ p.scope
    → Makes a b i (table.seq m None es table.nothing (filter (occurs_body m.reading es) w) s s) → Grows b c
    → at (plains c) i ≡ table.seq m None es table.nothing (filter (occurs_body m.reading es) p.inside) p.scope p.scope
nest-is m a b c i es w s p e f x g =
    stays b c i g x.within ∙ x.is ∙ ap (λ (z : List Var). table.seq m None es table.nothing (filter (occurs_body m.reading es) z) s s) e
    ∙ ap (λ (z : List Var). table.seq m None es table.nothing (filter (occurs_body m.reading es) p.inside) z z) f
