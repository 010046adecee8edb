-- Elements made of a few parts, one after another.
use Rattle.std.proofs.Common.{◌≡◌, ℕ, ◌<◌, Bool, sym, ap, ◌∙◌, List, length, Option, Some, Result}
use Rattle.std.specs.Result.{IfOk}
use Rattle.smpl_terms.specs.declared.var.Var.{Var}
use Rattle.smpl_patch.specs.declared.elem.Dots.{Dots, out-Dots}
use Rattle.smpl_patch.specs.declared.elem.Elem.TheFolds.{fold_out-Dots}
use Rattle.smpl_patch.specs.declared.pattern.Pattern.{Pattern}
use Rattle.smpl_patch.specs.Bodies.{Element, DotsOf, element_step, dots_step}
use Rattle.smpl_patch.proofs.BodyLemmas.{bodies, dots_of}
use Rattle.ctl_formula.specs.Plain.{Plain, Atom, Not, And, InBranch, Exists}
use Rattle.ctl_formula.specs.declared.node.Node.{Node}
use Rattle.ctl_formula.specs.Tables.{at, plains, Makes}
use Rattle.ctl_formula.proofs.TableLemmas.{grows-trans}
use Rattle.ctl_table.specs.Table as table
use Rattle.ctl_table.specs.declared.follow.Continuation.{Continuation}
use Rattle.ctl_table.specs.Settings.{parts_at, made_start, next_at, next_of, MakesAll}
use Rattle.ctl_table.proofs.MakingLemmas.{made-up, stays, and-of}
use Rattle.ctl_table.proofs.FollowLemmas.{all-kept}

pub dots-any : (d : Dots) → (dots_of d).any ≡ (out-Dots d).any
dots-any d = ap (λ (z : DotsOf). z.any) (fold_out-Dots Element DotsOf element_step dots_step d)

pub dots-strict : (d : Dots) → (dots_of d).strict ≡ (out-Dots d).strict
dots-strict d = ap (λ (z : DotsOf). z.strict) (fold_out-Dots Element DotsOf element_step dots_step d)

pub dots-whens-are : (d : Dots) → (dots_of d).whens ≡ bodies (out-Dots d).whens
dots-whens-are d = ap (λ (z : DotsOf). z.whens) (fold_out-Dots Element DotsOf element_step dots_step d)

-- `not` a part under quantifiers
pub not-made : {E : Type 0} (a b c : List Node) (f : ℕ) (g : Plain) (r : Result ℕ E) → Makes a b f g
    → IfOk r (λ i. Makes b c i (Not (at (plains b) f))) → IfOk r (λ i. Makes a c i (Not g))
not-made a b c f g r x y = made-up a b c r (Not (at (plains b) f)) (Not g) x.grows (ap Not x.is) y

-- a part with a tail
pub tail-made : {E : Type 0} (m : table.Setting) (a b c d : List Node) (w : List Var) (tail : Option Pattern) (p : Pattern) (f own down : ℕ) (r : Result ℕ E)
    → f < length a → tail ≡ Some p → Makes a b own (table.own m w p (Atom p)) → Makes b c down (InBranch 1 (at (plains b) own))
    → IfOk r (λ i. Makes c d i (And (at (plains c) f) (at (plains c) down)))
    → IfOk r (λ i. Makes a d i (table.with_tail m w tail (at (plains a) f)))
tail-made m a b c d w tail p f own down r l q x y z =
    let ac = grows-trans a b c x.grows y.grows in
    made-up a c d r (And (at (plains c) f) (at (plains c) down)) (table.with_tail m w tail (at (plains a) f)) ac
    (and-of (at (plains c) f) (at (plains c) down) (at (plains a) f) (InBranch 1 (table.own m w p (Atom p))) (stays a c f ac l) (y.is ∙ ap (InBranch 1) x.is)
    ∙ ap (λ (v : Option Pattern). table.with_tail m w v (at (plains a) f)) (sym q)) z

-- a head with its bodies and its tail
pub headed-made : {E : Type 0} (m : table.Setting) (a b c d e : List Node) (w : List Var) (tail : Option Pattern) (h : Plain)
    (is js : List ℕ) (fs : List Plain) (head f : ℕ) (r : Result ℕ E)
    → js ≡ is → MakesAll a b is fs → Makes b c head h → Makes c d f (table.and_all (at (plains c) head) (parts_at c js))
    → IfOk r (λ i. Makes d e i (table.with_tail m w tail (at (plains d) f)))
    → IfOk r (λ i. Makes a e i (table.with_tail m w tail (table.and_all h fs)))
headed-made m a b c d e w tail h is js fs head f r j x y z o =
    made-up a d e r (table.with_tail m w tail (at (plains d) f)) (table.with_tail m w tail (table.and_all h fs))
    (grows-trans a c d (grows-trans a b c x.grows y.grows) z.grows)
    (ap (table.with_tail m w tail)
    (z.is ∙ ap (λ (v : Plain). table.and_all v (parts_at c js)) y.is ∙ ap (table.and_all h) (ap (parts_at c) j ∙ all-kept a b c is fs x y.grows))) o

-- an atom or a statement variable, and what follows it
pub joined-made : {E : Type 0} (m : table.Setting) (a b c : List Node) (next : Continuation) (s : List Var) (statement : Bool)
    (start : table.Start) (f g : ℕ) (r : Result ℕ E)
    → f < length a → start ≡ made_start next
    → Makes a b g (next_at (plains a) m next s)
    → IfOk r (λ i. Makes b c i (table.joined m.forall_walks statement (at (plains b) f) start (at (plains b) g)))
    → IfOk r (λ i. Makes a c i (table.joined m.forall_walks statement (at (plains a) f) (next_of (plains a) m next).start ((next_of (plains a) m next).at s)))
joined-made m a b c next s statement start f g r l q y z =
    made-up a b c r (table.joined m.forall_walks statement (at (plains b) f) start (at (plains b) g))
    (table.joined m.forall_walks statement (at (plains a) f) (made_start next) (next_at (plains a) m next s)) y.grows
    (ap (λ (v : Plain). table.joined m.forall_walks statement v start (at (plains b) g)) (stays a b f y.grows l)
    ∙ ap (λ (v : table.Start). table.joined m.forall_walks statement (at (plains a) f) v (at (plains b) g)) q
    ∙ ap (table.joined m.forall_walks statement (at (plains a) f) (made_start next)) y.is) z

-- an opening brace and the contents of its block
pub braced-made : {E : Type 0} (a b c d e : List Node) (v : Var) (h : Plain) (inside opening down both : ℕ) (r : Result ℕ E) → inside < length a
    → Makes a b opening h → Makes b c down (InBranch 0 (at (plains b) inside)) → Makes c d both (And (at (plains c) opening) (at (plains c) down))
    → IfOk r (λ i. Makes d e i (Exists v (at (plains d) both)))
    → IfOk r (λ i. Makes a e i (Exists v (And h (InBranch 0 (at (plains a) inside)))))
braced-made a b c d e v h inside opening down both r l x y z o =
    made-up a d e r (Exists v (at (plains d) both)) (Exists v (And h (InBranch 0 (at (plains a) inside))))
    (grows-trans a c d (grows-trans a b c x.grows y.grows) z.grows)
    (ap (Exists v)
    (z.is ∙ and-of (at (plains c) opening) (at (plains c) down) h (InBranch 0 (at (plains a) inside)) (stays b c opening y.grows x.within ∙ x.is)
    (y.is ∙ ap (InBranch 0) (stays a b inside x.grows l)))) o
