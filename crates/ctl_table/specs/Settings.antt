-- What the code works with, in the terms of the definitions.
use Rattle.std.specs.Prelude.{◌≡◌, ℕ, Bool, true, false, not, ◌&&◌, nat_lt, List, [], ◌∷◌, ◌++◌, map, drop, length, cond, Option, None, Some}
use Rattle.std.specs.List.{list_all, list_any, filter}
use Rattle.std.specs.Option.{option_copied}
use Rattle.smpl_terms.specs.declared.var.Var.{Var}
use Rattle.pattern_vars.specs.Reads.{has}
use Rattle.smpl_patch.specs.declared.elem.Elem.{Elem}
use Rattle.smpl_patch.specs.declared.pattern.Pattern.{Pattern}
use Rattle.smpl_patch.specs.Bodies.{element, Element, Body, Bodies}
use Rattle.ctl_formula.specs.Plain.{Plain, True, Atom, BraceOpen, Not, And, InBranch, Exists}
use Rattle.ctl_formula.specs.declared.node.Node.{Node}
use Rattle.ctl_formula.specs.Tables.{at, plains, Grows}
use Rattle.pattern_vars.specs.VarPlaces.Placing.{is_dots, occurs_body}
use Rattle.pattern_vars.specs.VarPlaces.Places.{reading_at}
use Rattle.pattern_vars.specs.declared.var_places.place.Place.{Place}
use Rattle.ctl_table.specs.Table as table
use Rattle.ctl_table.specs.declared.setting.Setting.{Setting}
use Rattle.ctl_table.specs.declared.follow.Start.{Start}
use Rattle.ctl_table.specs.declared.follow.Start.TheVariants as start
use Rattle.ctl_table.specs.declared.follow.NestPart.{NestPart}
use Rattle.ctl_table.specs.declared.follow.DotsContinuation.{DotsContinuation}
use Rattle.ctl_table.specs.declared.follow.Continuation.{Continuation}
use Rattle.ctl_table.specs.declared.follow.Continuation.TheVariants as made
use Rattle.ctl_table.specs.declared.end_atoms.EndAtoms.{EndAtoms}
use Rattle.ctl_table.specs.declared.end_atoms.LastAtoms.{LastAtoms}
use Rattle.ctl_table.specs.EndAtoms.{end_atoms_at, end_atoms_below, names_in}

abbrev pub setting_at : Setting → table.Setting
setting_at m = record {
  reading = reading_at m.reader;
  forall_walks = m.forall_walks;
  locals = m.locals.now;
  alone = m.alone.now;
  blocks = m.blocks.now;
  around = option_copied m.around;
}

-- an element, if there is one
abbrev pub element_or_none : Option Elem → Option Element
element_or_none None = None
element_or_none (Some e) = Some (element e)

-- each number is below n
abbrev pub all_below : ℕ → List ℕ → Bool
all_below n is = list_all (λ i. nat_lt i n) is

-- the formulas of some parts
abbrev pub parts_at : List Node → List ℕ → List Plain
parts_at ns is = map (at (plains ns)) is

-- parts of the new table are the formulas, and the old parts are unchanged
pub record MakesAll (old new : List Node) (is : List ℕ) (fs : List Plain) : Type 0 where
  pub within : all_below (length new) is ≡ true
  pub are : parts_at new is ≡ fs
  pub grows : Grows old new

abbrev pub some_below : ℕ → Option ℕ → Bool
some_below n None = true
some_below n (Some i) = nat_lt i n

abbrev pub some_at : List Plain → Option ℕ → Option Plain
some_at fs None = None
some_at fs (Some i) = Some (at fs i)

abbrev pub option_numbers : Option ℕ → List ℕ
option_numbers None = []
option_numbers (Some i) = i ∷ []

-- the same for one formula, or none
pub record MakesSome (old new : List Node) (i : Option ℕ) (f : Option Plain) : Type 0 where
  pub within : some_below (length new) i ≡ true
  pub is : some_at (plains new) i ≡ f
  pub grows : Grows old new

abbrev pub start_at : Start → table.Start
start_at start.Nothing = table.Nothing
start_at start.Brace = table.Brace
start_at start.Dots = table.Dots
start_at start.Other = table.Other

abbrev pub nest_below : ℕ → Option NestPart → Bool
nest_below n None = true
nest_below n (Some p) = nat_lt p.part n

abbrev pub last_atoms_below : ℕ → LastAtoms → Bool
last_atoms_below n b = some_below n b.alone && end_atoms_below n b.atoms

abbrev pub before_below : ℕ → Option LastAtoms → Bool
before_below n None = true
before_below n (Some b) = last_atoms_below n b

-- the last atoms of an element, given that these of their variables are quantified inside it too
abbrev pub from_inner : List Plain → LastAtoms → List Var → Option Plain
from_inner fs b [] = some_at fs b.alone
from_inner fs b (x ∷ xs) = end_atoms_at fs b.atoms (b.inner ++ x ∷ xs)

-- the same from a scope: what it has besides the variables around the current place counts as quantified inside the
-- element
abbrev pub last_atoms_at : List Plain → LastAtoms → List Var → Option Plain
last_atoms_at fs b t = from_inner fs b (filter (has b.names) (drop b.around t))

abbrev pub before_at : List Plain → Option LastAtoms → List Var → Option Plain
before_at fs None t = None
before_at fs (Some b) t = last_atoms_at fs b t

-- the numbers of the parts of made dots are below n
abbrev pub dots_below : ℕ → DotsContinuation → Bool
dots_below n d = all_below n d.firsts.items && some_below n d.after && nest_below n d.nest

abbrev pub made_below : ℕ → Continuation → Bool
made_below n made.Nothing = true
made_below n (made.Part s i) = nat_lt i n
made_below n (made.Dots d i b) = dots_below n d && nat_lt i n && before_below n b

-- dots or a nest, given the condition and the target
abbrev pub passed : List Plain → Bool → Option NestPart → Bool → Plain → Plain → Plain
passed fs forall_walks None strict d t = table.until forall_walks strict d t
passed fs forall_walks (Some p) strict d t = table.nested forall_walks p.plus strict d (at fs p.part) t

-- made dots that lead to a part, as reached from a scope; which atoms are before them depends on the scope too
abbrev pub dots_at : List Plain → Bool → (List Var → Option Plain) → DotsContinuation → ℕ → List Var → Plain
dots_at fs forall_walks before d i t =
    table.exists_all d.here
    (passed fs forall_walks d.nest d.strict
    (table.condition d.any (map (at fs) d.firsts.items) (before (t ++ d.here)) (some_at fs d.after))
    (at fs i))

abbrev pub made_start : Continuation → table.Start
made_start made.Nothing = table.Nothing
made_start (made.Part s i) = start_at s
made_start (made.Dots d i b) = table.Dots

-- what was made, as reached from a scope after this element or none, whatever atoms the dots know
abbrev pub made_at : List Plain → table.Setting → Option Element → Continuation → List Var → Plain
made_at fs m before made.Nothing t = True
made_at fs m before (made.Part s i) t = at fs i
made_at fs m before (made.Dots d i b) t = dots_at fs m.forall_walks (table.ends_of_option m true before) d i t

-- the same, after the element whose atoms the dots know
abbrev pub next_at : List Plain → table.Setting → Continuation → List Var → Plain
next_at fs m made.Nothing t = True
next_at fs m (made.Part s i) t = at fs i
next_at fs m (made.Dots d i b) t = dots_at fs m.forall_walks (before_at fs b) d i t

-- what was made, as what follows an element
abbrev pub follow_of : List Plain → table.Setting → Option Element → Continuation → table.Follow
follow_of fs m before f = record { start = made_start f; at = λ t. made_at fs m before f t }

-- the same, after the element whose atoms the dots know
abbrev pub next_of : List Plain → table.Setting → Continuation → table.Follow
next_of fs m f = record { start = made_start f; at = λ t. next_at fs m f t }

-- the same, as the code has it
abbrev pub follow : List Node → Setting → Continuation → table.Follow
follow ns m f = next_of (plains ns) (setting_at m) f

-- dots know of no element before them
abbrev pub is_first : Continuation → Bool
is_first made.Nothing = true
is_first (made.Part s i) = true
is_first (made.Dots d i None) = true
is_first (made.Dots d i (Some b)) = false

-- dots that may not pass their neighbours
abbrev pub looks_back : Continuation → Bool
looks_back made.Nothing = false
looks_back (made.Part s i) = false
looks_back (made.Dots d i b) = not d.any

-- the same, after an element with these last atoms
abbrev pub behind : Option LastAtoms → Continuation → Continuation
behind b made.Nothing = made.Nothing
behind b (made.Part s i) = made.Part s i
behind b (made.Dots d i o) = made.Dots d i b

-- what was made is what follows that begins like this and has this formula after an element, from a scope
pub record MakesFollow (m : table.Setting) (old new : List Node) (f : Continuation) (begins : table.Start)
    (is_at : Option Element → List Var → Plain) : Type 0 where
  pub within : made_below (length new) f ≡ true
  pub starts : made_start f ≡ begins
  pub first : is_first f ≡ true
  pub is : (before : Option Element) (t : List Var) → made_at (plains new) m before f t ≡ is_at before t
  pub grows : Grows old new

-- the numbers of the parts of each thing that may follow are below n
abbrev pub all_made_below : ℕ → List Continuation → Bool
all_made_below n fs = list_all (made_below n) fs

-- two things that may follow are equal from each scope that begins with these variables
pub record Agree (s : List Var) (k h : table.Follow) : Type 0 where
  pub starts : k.start ≡ h.start
  pub same : (more : List Var) → k.at (s ++ more) ≡ h.at (s ++ more)

-- the two lists have the same length, and any two items at the same place are related
abbrev pub Pairwise : {A B : Type 0} → (A → B → Type 0) → List A → List B → Type 0
Pairwise R [] [] = Unit {0}
Pairwise R (x ∷ xs) (y ∷ ys) = R x y × Pairwise R xs ys
Pairwise R [] (y ∷ ys) = ⊥
Pairwise R (x ∷ xs) [] = ⊥

-- For each of the given things, what was made is what follows that begins like this and has this formula. The old parts
-- are unchanged.
pub record MakesFollows {A : Type 0} (m : table.Setting) (old new : List Node) (xs : List A) (fs : List Continuation)
    (begins : A → table.Start) (is_at : A → Option Element → List Var → Plain) : Type 0 where
  pub each : Pairwise (λ x f. MakesFollow m old new f (begins x) (is_at x)) xs fs
  pub grows : Grows old new

-- what is kept of an element's atoms, which depend on a scope: their variables, their part if nothing is quantified
-- inside the element, and the number of variables in the scope
pub record MakesLastAtoms (old new : List Node) (s : List Var) (atoms : EndAtoms) (b : LastAtoms) : Type 0 where
  pub within : last_atoms_below (length new) b ≡ true
  pub atoms_are : b.atoms ≡ atoms
  pub inner_is : b.inner ≡ []
  pub names_are : (x : Var) → has b.names x ≡ names_in atoms x
  pub alone_is : some_at (plains new) b.alone ≡ end_atoms_at (plains new) atoms []
  pub around_is : b.around ≡ length s
  pub grows : Grows old new

-- the same atoms, from each scope that begins with these variables
pub record MakesDeeper (old new : List Node) (s : List Var) (b c : LastAtoms) : Type 0 where
  pub within : last_atoms_below (length new) c ≡ true
  pub is : (more : List Var) → last_atoms_at (plains new) c (s ++ more) ≡ last_atoms_at (plains old) b (s ++ more)
  pub grows : Grows old new

-- the same for one thing
pub record IsSame (m : table.Setting) (s : List Var) (old new : List Node) (f g : Continuation) : Type 0 where
  pub within : made_below (length new) g ≡ true
  pub agrees : Agree s (next_of (plains new) m g) (next_of (plains old) m f)
  pub grows : Grows old new

-- what was made in place of what may follow is equal to it from each scope that begins with these variables
pub record MakesSame (m : table.Setting) (s : List Var) (old new : List Node) (fs gs : List Continuation) : Type 0 where
  pub within : all_made_below (length new) gs ≡ true
  pub each : Pairwise (λ f g. Agree s (next_of (plains new) m g) (next_of (plains old) m f)) fs gs
  pub grows : Grows old new

-- the last atoms of an element in a scope are made, if dots may follow it
pub record MakesLast (m : table.Setting) (e : Element) (s : List Var) (old new : List Node) (fs : List Continuation) (b : Option LastAtoms) : Type 0 where
  pub within : before_below (length new) b ≡ true
  pub is : list_any looks_back fs ≡ true → (more : List Var) → before_at (plains new) b (s ++ more) ≡ table.ends_of_option m true (Some e) (s ++ more)
  pub grows : Grows old new

-- what was made is what follows the element in a scope, and the old parts are unchanged
pub record MakesBehind (m : table.Setting) (e : Element) (s : List Var) (old new : List Node) (fs gs : List Continuation) : Type 0 where
  pub within : all_made_below (length new) gs ≡ true
  pub each : Pairwise (λ f g. Agree s (next_of (plains new) m g) (follow_of (plains old) m (Some e) f)) fs gs
  pub grows : Grows old new

-- a suffix that begins with the element, after another and from a scope
abbrev pub suffix_at : table.Setting → Option Element → Element → table.Follow → Place → Option Element → List Var → Plain
suffix_at m after e k p before t =
    table.exists_all p.here (table.elem m before after e k p.inside p.scope (t ++ p.here))

abbrev pub start_with : Element → table.Start
start_with e = cond (is_dots e) table.Dots table.Other

-- a head with its bodies and its tail
abbrev pub compound_at : table.Setting → Pattern → Bodies → Option Pattern → List Var → List Var → Plain
compound_at m h bs tail w s =
    table.with_tail m w tail (table.and_all (table.own m w h (Atom h)) (table.in_branches 0 (table.each m bs table.nothing w s)))

-- a block's braces and their contents
abbrev pub block_at : table.Setting → Pattern → Body → Pattern → List Var → List Var → Plain
block_at m o b c w s =
    let v = table.hidden m o in
    Exists v (And (table.own m w o (BraceOpen o v))
    (InBranch 0 (table.seq (table.within m v) None b (table.closing m w c v) (filter (occurs_body m.reading b) w) s s)))

-- a piece of `when` code
abbrev pub when_at : table.Setting → Body → List Var → Plain
when_at m w s =
    let alone = table.lone m w in
    Not (table.exists_all alone (table.seq m None w table.nothing [] (s ++ alone) (s ++ alone)))

-- dots or the end of a nest at their place, given what comes before the neighbours in their condition
abbrev pub dots_row : table.Setting → List Node → Option Element → Option Element → List Plain → Bool → Bool → Option NestPart
    → table.Follow → Place → List Var → Plain
dots_row m ns before after firsts any strict nest k p t =
    table.exists_all p.here
    (passed (plains ns) m.forall_walks nest strict
    (table.condition any firsts (table.ends_of_option m true before (t ++ p.here)) (table.ends_of_option m false after p.scope))
    (table.target m.around k.start (k.at p.scope)))

-- made dots before what follows them, which they reach from a scope
abbrev pub dots_before : List Plain → table.Setting → DotsContinuation → table.Follow → List Var → Option Element → List Var → Plain
dots_before fs m d k s before t =
    table.exists_all d.here
    (passed fs m.forall_walks d.nest d.strict
    (table.condition d.any (map (at fs) d.firsts.items) (table.ends_of_option m true before (t ++ d.here)) (some_at fs d.after))
    (table.target m.around k.start (k.at s)))

-- `not` the first of some formulas, if there is one
abbrev pub not_first : List Plain → List Plain
not_first [] = []
not_first (f ∷ fs) = Not f ∷ []
