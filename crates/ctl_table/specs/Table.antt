-- The table from the elements of a body to formulas.
use Rattle.std.specs.Prelude.{ℕ, suc, Bool, true, false, not, ◌&&◌, cond, if◌then◌else◌, Option, None, Some, List, [], ◌∷◌, ◌++◌}
use Rattle.std.specs.List.{filter, list_any}
use Rattle.std.specs.Fmt.{decimal}
use Rattle.smpl_terms.specs.declared.var.Var.{Var}
use Rattle.smpl_terms.specs.Vars.{same_var}
use Rattle.smpl_patch.specs.declared.pattern.Pattern.{Pattern}
use Rattle.smpl_patch.specs.Bodies.{Element, Compound, Block, Gap, Nest, AnyOf, AllOf, Body, End, Then, Bodies, NoMore, More}
use Rattle.smpl_patch.specs.Bodies as bodies
use Rattle.ctl_formula.specs.Plain.{Plain, True, Atom, EarlyExit, BraceOpen, BraceClose, Inside, Outside, Not, And, Or, AX, EX, AU, EU, After, InBranch, Exists}
use Rattle.pattern_vars.specs.VarPlaces.Placing.{Reading, is_dots, any_body, occurs_element, occurs_body, at_suffix, is_alone}
use Rattle.ctl_table.specs.Blocks.{blocks, index_of}

-- the inputs of the table, besides the current element
pub record Setting : Type 0 where
  pub reading : Reading
  -- dots go over all walks; otherwise they go over some walk
  pub forall_walks : Bool
  -- the variables that are neither exported nor inherited, in declared order
  pub locals : List Var
  -- those of them that occur only in `when` code
  pub alone : List Var
  -- the atoms of the opening braces, in the order of their hidden variables
  pub blocks : List ℕ
  -- the hidden variable of the innermost enclosing block, if there is one
  pub around : Option Var

-- the same setting inside a block
abbrev pub within : Setting → Var → Setting
within m b = record {
  reading = m.reading;
  forall_walks = m.forall_walks;
  locals = m.locals;
  alone = m.alone;
  blocks = m.blocks;
  around = Some b;
}

-- which variables are quantified around a place of the formula
abbrev pub Scope : Type 0
Scope = List Var

abbrev pub in_scope : Scope → Var → Bool
in_scope s x = list_any (λ v. same_var v x) s

-- how what follows begins: with nothing, a closing brace, dots, or another element
pub data Start : Type 0 where
  Nothing : Start
  Brace : Start
  Dots : Start
  Other : Start

-- What follows a sequence: how it begins, and its formula. The scope is the one at the end of the sequence, on which
-- the neighbours of dots depend; a variable that is quantified inside a branch occurs nowhere else in what follows it.
pub record Follow : Type 0 where
  pub start : Start
  pub at : Scope → Plain

abbrev pub nothing : Follow
nothing = record { start = Nothing; at = λ t. True }

abbrev pub start_of : Body → Start → Start
start_of End start = start
start_of (Then e rest) start = cond (is_dots e) Dots Other

abbrev pub first_of : Body → Option Element
first_of End = None
first_of (Then e rest) = Some e

abbrev pub is_end : Body → Bool
is_end End = true
is_end (Then e rest) = false

-- the first variable is the outermost
abbrev pub exists_all : List Var → Plain → Plain
exists_all [] f = f
exists_all (x ∷ xs) f = Exists x (exists_all xs f)

-- parts are grouped to the left
abbrev pub and_all : Plain → List Plain → Plain
and_all f [] = f
and_all f (g ∷ gs) = and_all (And f g) gs

abbrev pub or_all : Plain → List Plain → Plain
or_all f [] = f
or_all f (g ∷ gs) = or_all (Or f g) gs

-- without parts: True
abbrev pub all_of : List Plain → Plain
all_of [] = True
all_of (f ∷ fs) = and_all f fs

-- without parts: not True
abbrev pub any_of : List Plain → Plain
any_of [] = Not True
any_of (f ∷ fs) = or_all f fs

abbrev pub or_some : List Plain → Option Plain
or_some [] = None
or_some (f ∷ fs) = Some (or_all f fs)

abbrev pub option_list : Option Plain → List Plain
option_list None = []
option_list (Some f) = f ∷ []

abbrev pub nots : Option Plain → List Plain
nots None = []
nots (Some f) = Not f ∷ []

-- the variable of a block, whose value is the place of its `{`: no declared name begins with a brace
abbrev pub hidden : Setting → Pattern → Var
hidden m o = record { rule = 0; name = 123 ∷ decimal (index_of o.atom m.blocks) }

-- an atom, a brace or a tail, with the quantifiers of those of the variables that occur in it
abbrev pub own : Setting → List Var → Pattern → Plain → Plain
own m w p f = exists_all (filter (λ x. m.reading.used p x) w) f

-- an atom in the condition of dots: variables that aren't quantified around the place are quantified around the atom
abbrev pub copy : Setting → Pattern → Scope → Plain
copy m p s = exists_all (filter (λ x. m.reading.stands p x && not (in_scope s x)) m.locals) (Atom p)

-- the last or the first atoms of an element that is beside dots
abbrev mutual
  pub ends_of : Setting → Bool → Element → Scope → Option Plain
  ends_of m last (bodies.Atom p) s = cond (m.reading.is_statement p) None (Some (copy m p s))
  ends_of m last (Compound h bs t) s = Some (copy m h s)
  ends_of m last (Block o b c) s = None
  ends_of m last (Gap ws any strict) s = None
  ends_of m last (Nest plus b ws any strict) s = None
  ends_of m last (AnyOf bs) s = or_some (ends_of_each m last bs s)
  ends_of m last (AllOf bs) s = ends_of_first m last bs s

  pub ends_of_body : Setting → Bool → Body → Scope → Option Plain
  ends_of_body m last End s = None
  ends_of_body m last (Then e rest) s = cond (last && not (is_end rest)) (ends_of_body m last rest s) (ends_of m last e s)

  pub ends_of_each : Setting → Bool → Bodies → Scope → List Plain
  ends_of_each m last NoMore s = []
  ends_of_each m last (More b bs) s = option_list (ends_of_body m last b s) ++ ends_of_each m last bs s

  pub ends_of_first : Setting → Bool → Bodies → Scope → Option Plain
  ends_of_first m last NoMore s = None
  ends_of_first m last (More b bs) s = ends_of_body m last b s

abbrev pub ends_of_option : Setting → Bool → Option Element → Scope → Option Plain
ends_of_option m last None s = None
ends_of_option m last (Some e) s = ends_of m last e s

-- at all next nodes, or at some
abbrev pub next_of : Bool → Plain → Plain
next_of forall_walks f = if forall_walks then AX f else EX f

-- after an atom, or a statement variable, and what follows
abbrev pub joined : Bool → Bool → Plain → Start → Plain → Plain
joined forall_walks statement f Nothing g = f
joined forall_walks statement f Dots g = And f (if statement then After g else next_of forall_walks g)
joined forall_walks statement f Brace g = And f (After g)
joined forall_walks statement f Other g = And f (After g)

-- The target of dots. Dots in a block reach what follows them only inside that block; their way may end where it leaves
-- the block, but only if nothing except the block's end follows them.
abbrev pub target : Option Var → Start → Plain → Plain
target None start f = f
target (Some b) Brace f = Or f (Outside b)
target (Some b) Nothing f = And (Inside b) f
target (Some b) Dots f = And (Inside b) f
target (Some b) Other f = And (Inside b) f

-- dots in a block stay in that block
abbrev pub stays : Option Var → List Plain
stays None = []
stays (Some b) = Inside b ∷ []

abbrev pub or_early_exit : Bool → Plain → Plain
or_early_exit strict t = if strict then t else Or t EarlyExit

-- dots with their condition and their target
abbrev pub until : Bool → Bool → Plain → Plain → Plain
until forall_walks strict d t = if forall_walks then And (AU d (or_early_exit strict t)) (EU d t) else EU d t

-- a nest with the dots' condition, its part and its target
abbrev pub nested : Bool → Bool → Bool → Plain → Plain → Plain → Plain
nested forall_walks plus strict d p t =
    let f = until forall_walks strict (And d (Or p (Not p))) t in
    if plus then And f (EU d (And (And d p) (EU d t))) else f

-- what holds at each node that dots pass: first that they stay in their block, then the parts for `when` code, and then
-- that the node is no neighbour, unless there is a `when any`
abbrev pub condition : Bool → List Plain → Option Plain → Option Plain → Plain
condition any firsts before after = all_of (firsts ++ (if any then [] else nots before ++ nots after))

-- the variables that occur only in `when` code, and in this piece
abbrev pub lone : Setting → Body → List Var
lone m w = filter (λ x. any_body true (λ p. m.reading.stands p x) w) m.alone

abbrev pub closing : Setting → List Var → Pattern → Var → Follow
closing m w c v = record { start = Brace; at = λ t. own m w c (BraceClose c v) }

abbrev pub with_tail : Setting → List Var → Option Pattern → Plain → Plain
with_tail m w None f = f
with_tail m w (Some p) f = And f (InBranch 1 (own m w p (Atom p)))

-- each part at the body with its number
abbrev pub in_branches : ℕ → List Plain → List Plain
in_branches i [] = []
in_branches i (f ∷ fs) = InBranch i f ∷ in_branches (suc i) fs

-- each branch with what follows it and the negations of the branches before it
abbrev pub choices : List Plain → List Plain → List Plain → List Plain
choices earlier [] gs = []
choices earlier (f ∷ fs) [] = and_all f earlier ∷ choices earlier fs []
choices earlier (f ∷ fs) (g ∷ gs) = and_all f earlier ∷ choices (earlier ++ Not g ∷ []) fs gs

-- The rows. `w` are the variables that are quantified inside the current part, since all their occurrences are in it;
-- `s` is what is quantified around it.
abbrev mutual
  -- A sequence after some element, and what follows it. The neighbours of dots at its start depend on the scope `t`.
  pub seq : Setting → Option Element → Body → Follow → List Var → Scope → Scope → Plain
  seq m before End k w s t = k.at t
  seq m before (Then e rest) k w s t =
      let here = filter (at_suffix m.reading e rest) w in
      let inside = filter (λ x. not (at_suffix m.reading e rest x)) w in
      let later = filter (λ x. not (occurs_element m.reading e x)) inside in
      exists_all here
      (elem m before (first_of rest) e
      (record { start = start_of rest k.start; at = λ u. seq m (Some e) rest k later (s ++ here) u })
      (filter (occurs_element m.reading e) inside) (s ++ here) (t ++ here))

  -- an element between two others, and what follows it
  pub elem : Setting → Option Element → Option Element → Element → Follow → List Var → Scope → Scope → Plain
  elem m before after (bodies.Atom p) k w s t =
      joined m.forall_walks (m.reading.is_statement p) (own m w p (Atom p)) k.start (k.at s)
  elem m before after (Compound h bs tail) k w s t =
      And (with_tail m w tail (and_all (own m w h (Atom h)) (in_branches 0 (each m bs nothing w s)))) (After (k.at s))
  elem m before after (Block o b c) k w s t =
      let v = hidden m o in
      let inside = seq (within m v) None b (closing m w c v) (filter (occurs_body m.reading b) w) s s in
      And (Exists v (And (own m w o (BraceOpen o v)) (InBranch 0 inside))) (After (k.at s))
  elem m before after (Gap ws any strict) k w s t =
      until m.forall_walks strict
      (condition any (stays m.around ++ when_parts m ws s) (ends_of_option m true before t) (ends_of_option m false after s))
      (target m.around k.start (k.at s))
  elem m before after (Nest plus b ws any strict) k w s t =
      nested m.forall_walks plus strict
      (condition any (stays m.around ++ when_parts m ws s) (ends_of_option m true before t) (ends_of_option m false after s))
      (seq m None b nothing (filter (occurs_body m.reading b) w) s s)
      (target m.around k.start (k.at s))
  elem m before after (AnyOf bs) k w s t = any_of (choices [] (each m bs k w s) (each m bs nothing w s))
  elem m before after (AllOf bs) k w s t = first_and m bs k w s

  -- bodies or branches with what follows each
  pub each : Setting → Bodies → Follow → List Var → Scope → List Plain
  each m NoMore k w s = []
  each m (More b bs) k w s = seq m None b k (filter (occurs_body m.reading b) w) s s ∷ each m bs k w s

  -- the first branch with what follows, and the others
  pub first_and : Setting → Bodies → Follow → List Var → Scope → Plain
  first_and m NoMore k w s = k.at s
  first_and m (More b bs) k w s =
      and_all (seq m None b k (filter (occurs_body m.reading b) w) s s) (each m bs nothing w s)

  -- `not` each piece of `when` code; variables that occur only in `when` code are quantified around the piece
  pub when_parts : Setting → Bodies → Scope → List Plain
  when_parts m NoMore s = []
  when_parts m (More w ws) s =
      let alone = lone m w in
      Not (exists_all alone (seq m None w nothing [] (s ++ alone) (s ++ alone))) ∷ when_parts m ws s

-- the formula of a body; the variables that are neither exported nor inherited are given in declared order
abbrev pub setting : Reading → Bool → List Var → Body → Setting
setting r forall_walks locals b = record {
  reading = r;
  forall_walks = forall_walks;
  locals = locals;
  alone = filter (is_alone r b) locals;
  blocks = blocks b;
  around = None;
}

abbrev pub formula : Reading → Bool → List Var → Body → Plain
formula r forall_walks locals b =
    seq (setting r forall_walks locals b) None b nothing (filter (λ x. not (is_alone r b x)) locals) [] []
