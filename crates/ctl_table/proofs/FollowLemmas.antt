-- What was made keeps its formula while the table grows.
use Rattle.std.proofs.Common.{◌≡◌, ℕ, ◌<◌, Bool, true, false, not, ◌&&◌, ◌++◌, nat_lt, refl, sym, ap, ◌∙◌, List, [], ◌∷◌, map}
use Rattle.std.proofs.Common.{drop, length, append_assoc, Option, None, Some}
use Rattle.std.proofs.Math.Path.{fun_ext}
use Rattle.std.specs.List.{filter}
use Rattle.smpl_terms.specs.declared.var.Var.{Var}
use Rattle.pattern_vars.specs.Reads.{has}
use Rattle.smpl_patch.specs.Bodies.{Element}
use Rattle.ctl_formula.specs.Plain.{Plain}
use Rattle.ctl_formula.specs.declared.node.Node.{Node}
use Rattle.ctl_formula.specs.Tables.{at, plains, Grows, Makes}
use Rattle.ctl_formula.proofs.TableLemmas.{and-left, and-right, lt-true}
use Rattle.ctl_table.specs.Table as table
use Rattle.ctl_table.specs.declared.follow.NestPart.{NestPart}
use Rattle.ctl_table.specs.declared.follow.DotsContinuation.{DotsContinuation}
use Rattle.ctl_table.specs.declared.follow.Continuation.{Continuation}
use Rattle.ctl_table.specs.declared.follow.Continuation.TheVariants as made
use Rattle.ctl_table.specs.Settings.{some_below}
use Rattle.ctl_table.specs.declared.end_atoms.LastAtoms.{LastAtoms}
use Rattle.ctl_table.specs.EndAtoms.{end_atoms_below}
use Rattle.ctl_table.specs.Settings.{all_below, parts_at, some_at, nest_below, dots_below, made_below, passed, dots_at}
use Rattle.ctl_table.specs.Settings.{made_start, made_at, next_at, follow_of, next_of, last_atoms_below, from_inner, before_at}
use Rattle.ctl_table.specs.Settings.{before_below, is_first, looks_back, behind, Agree, MakesAll}
use Rattle.ctl_table.proofs.MakingLemmas.{stays, stands-still, all-stay, all-stand, lt-test, both-true}
use Rattle.ctl_table.proofs.EndAtomLemmas.{end_atoms-stands, end_atoms-stays}

-- a part that was made, in a table that grew
pub kept : (a b c : List Node) (i : ℕ) (f : Plain) → Makes a b i f → Grows b c → at (plains c) i ≡ f
kept a b c i f m g = stays b c i g m.within ∙ m.is

pub kept-within : (a b c : List Node) (i : ℕ) (f : Plain) → Makes a b i f → Grows b c → i < length c
kept-within a b c i f m g = stands-still b c i g m.within

pub all-kept : (a b c : List Node) (is : List ℕ) (fs : List Plain) → MakesAll a b is fs → Grows b c → parts_at c is ≡ fs
all-kept a b c is fs m g = all-stay b c is g m.within ∙ m.are

pub all-kept-within : (a b c : List Node) (is : List ℕ) (fs : List Plain) → MakesAll a b is fs → Grows b c → all_below (length c) is ≡ true
all-kept-within a b c is fs m g = all-stand b c is g m.within

pub some-stands : (a b : List Node) (o : Option ℕ) → Grows a b → some_below (length a) o ≡ true → some_below (length b) o ≡ true
some-stands a b None g h = refl
some-stands a b (Some i) g h = lt-test i (length b) (stands-still a b i g (lt-true i (length a) h))

pub some-stays : (a b : List Node) (o : Option ℕ) → Grows a b → some_below (length a) o ≡ true → some_at (plains b) o ≡ some_at (plains a) o
some-stays a b None g h = refl
some-stays a b (Some i) g h = ap Some (stays a b i g (lt-true i (length a) h))

pub nest-stands : (a b : List Node) (o : Option NestPart) → Grows a b → nest_below (length a) o ≡ true → nest_below (length b) o ≡ true
nest-stands a b None g h = refl
nest-stands a b (Some p) g h = lt-test p.part (length b) (stands-still a b p.part g (lt-true p.part (length a) h))

pub before-stands : (a b : List Node) (o : Option LastAtoms) → Grows a b → before_below (length a) o ≡ true → before_below (length b) o ≡ true
before-stands a b None g h = refl
before-stands a b (Some n) g h =
    both-true (some_below (length b) n.alone) (end_atoms_below (length b) n.atoms)
    (some-stands a b n.alone g (and-left (some_below (length a) n.alone) (end_atoms_below (length a) n.atoms) h))
    (end_atoms-stands a b g n.atoms (and-right (some_below (length a) n.alone) (end_atoms_below (length a) n.atoms) h))

inner-stays : (a b : List Node) (n : LastAtoms) (vars : List Var) → Grows a b → last_atoms_below (length a) n ≡ true
    → from_inner (plains b) n vars ≡ from_inner (plains a) n vars
inner-stays a b n [] g h = some-stays a b n.alone g (and-left (some_below (length a) n.alone) (end_atoms_below (length a) n.atoms) h)
inner-stays a b n (x ∷ xs) g h = end_atoms-stays a b (n.inner ++ x ∷ xs) g n.atoms
    (and-right (some_below (length a) n.alone) (end_atoms_below (length a) n.atoms) h)

pub before-stays : (a b : List Node) (o : Option LastAtoms) (t : List Var) → Grows a b → before_below (length a) o ≡ true
    → before_at (plains b) o t ≡ before_at (plains a) o t
before-stays a b None t g h = refl
before-stays a b (Some n) t g h = inner-stays a b n (filter (has n.names) (drop n.around t)) g h

pub passed-stays : (a b : List Node) (forall_walks : Bool) (o : Option NestPart) (strict : Bool) (d t : Plain) → Grows a b → nest_below (length a) o ≡ true
    → passed (plains b) forall_walks o strict d t ≡ passed (plains a) forall_walks o strict d t
passed-stays a b forall_walks None strict d t g h = refl
passed-stays a b forall_walks (Some p) strict d t g h =
    ap (λ (z : Plain). table.nested forall_walks p.plus strict d z t) (stays a b p.part g (lt-true p.part (length a) h))

-- what dots_below says, part by part
pub dots-firsts : (n : ℕ) (d : DotsContinuation) → dots_below n d ≡ true → all_below n d.firsts.items ≡ true
dots-firsts n d h = and-left (all_below n d.firsts.items) (some_below n d.after)
    (and-left (all_below n d.firsts.items && some_below n d.after) (nest_below n d.nest) h)

pub dots-after : (n : ℕ) (d : DotsContinuation) → dots_below n d ≡ true → some_below n d.after ≡ true
dots-after n d h = and-right (all_below n d.firsts.items) (some_below n d.after)
    (and-left (all_below n d.firsts.items && some_below n d.after) (nest_below n d.nest) h)

pub dots-nest : (n : ℕ) (d : DotsContinuation) → dots_below n d ≡ true → nest_below n d.nest ≡ true
dots-nest n d h = and-right (all_below n d.firsts.items && some_below n d.after) (nest_below n d.nest) h

-- what made_below says of dots, part by part
pub made-dots : (n : ℕ) (d : DotsContinuation) (i : ℕ) (o : Option LastAtoms) → made_below n (made.Dots d i o) ≡ true → dots_below n d ≡ true
made-dots n d i o h = and-left (dots_below n d) (nat_lt i n) (and-left (dots_below n d && nat_lt i n) (before_below n o) h)

pub made-target : (n : ℕ) (d : DotsContinuation) (i : ℕ) (o : Option LastAtoms) → made_below n (made.Dots d i o) ≡ true → i < n
made-target n d i o h = lt-true i n (and-right (dots_below n d) (nat_lt i n) (and-left (dots_below n d && nat_lt i n) (before_below n o) h))

pub made-end_atoms : (n : ℕ) (d : DotsContinuation) (i : ℕ) (o : Option LastAtoms) → made_below n (made.Dots d i o) ≡ true → before_below n o ≡ true
made-end_atoms n d i o h = and-right (dots_below n d && nat_lt i n) (before_below n o) h

pub dots-stand : (a b : List Node) (d : DotsContinuation) → Grows a b → dots_below (length a) d ≡ true → dots_below (length b) d ≡ true
dots-stand a b d g h =
    both-true _ _ (both-true _ _ (all-stand a b d.firsts.items g (dots-firsts (length a) d h)) (some-stands a b d.after g (dots-after (length a) d h)))
    (nest-stands a b d.nest g (dots-nest (length a) d h))

pub dots-stay : (a b : List Node) (forall_walks : Bool) (before : List Var → Option Plain) (d : DotsContinuation) (i : ℕ)
    (t : List Var) → Grows a b → dots_below (length a) d ≡ true → i < length a
    → dots_at (plains b) forall_walks before d i t ≡ dots_at (plains a) forall_walks before d i t
dots-stay a b forall_walks before d i t g h l =
    let ends_of = before (t ++ d.here) in
    let w : map (at (plains b)) d.firsts.items ≡ map (at (plains a)) d.firsts.items = all-stay a b d.firsts.items g (dots-firsts (length a) d h) in
    let f = some-stays a b d.after g (dots-after (length a) d h) in
    let e = stays a b i g l in
    ap (λ (z : List Plain). table.exists_all d.here
    (passed (plains b) forall_walks d.nest d.strict (table.condition d.any z ends_of (some_at (plains b) d.after)) (at (plains b) i))) w
    ∙ ap (λ (z : Option Plain). table.exists_all d.here
    (passed (plains b) forall_walks d.nest d.strict (table.condition d.any (map (at (plains a)) d.firsts.items) ends_of z) (at (plains b) i))) f
    ∙ ap (λ (z : Plain). table.exists_all d.here
    (passed (plains b) forall_walks d.nest d.strict (table.condition d.any (map (at (plains a)) d.firsts.items) ends_of (some_at (plains a) d.after)) z)) e
    ∙ ap (table.exists_all d.here) (passed-stays a b forall_walks d.nest d.strict _ _ g (dots-nest (length a) d h))

-- the same dots after the same atoms
pub dots-end_atoms : (fs : List Plain) (forall_walks : Bool) (before after : List Var → Option Plain) (d : DotsContinuation)
    (i : ℕ) (t : List Var) → before (t ++ d.here) ≡ after (t ++ d.here)
    → dots_at fs forall_walks before d i t ≡ dots_at fs forall_walks after d i t
dots-end_atoms fs forall_walks before after d i t e =
    ap (λ (z : Option Plain). table.exists_all d.here
    (passed fs forall_walks d.nest d.strict (table.condition d.any (map (at fs) d.firsts.items) z (some_at fs d.after)) (at fs i))) e

-- with `when any`, the elements beside the dots don't count
dots-any : (fs : List Plain) (forall_walks : Bool) (before other : List Var → Option Plain) (d : DotsContinuation) (i : ℕ) (t : List Var) → d.any ≡ true
    → dots_at fs forall_walks before d i t ≡ dots_at fs forall_walks other d i t
dots-any fs forall_walks before other d i t e =
    let row = λ (b : List Var → Option Plain) (any : Bool).
    table.exists_all d.here (passed fs forall_walks d.nest d.strict
    (table.condition any (map (at fs) d.firsts.items) (b (t ++ d.here)) (some_at fs d.after)) (at fs i)) in
    ap (row before) e ∙ sym (ap (row other) e)

pub made-stands : (a b : List Node) (f : Continuation) → Grows a b → made_below (length a) f ≡ true → made_below (length b) f ≡ true
made-stands a b made.Nothing g h = refl
made-stands a b (made.Part s i) g h = lt-test i (length b) (stands-still a b i g (lt-true i (length a) h))
made-stands a b (made.Dots d i o) g h =
    both-true (dots_below (length b) d && nat_lt i (length b)) (before_below (length b) o)
    (both-true (dots_below (length b) d) (nat_lt i (length b)) (dots-stand a b d g (made-dots (length a) d i o h))
    (lt-test i (length b) (stands-still a b i g (made-target (length a) d i o h))))
    (before-stands a b o g (made-end_atoms (length a) d i o h))

pub made-stays : (a b : List Node) (m : table.Setting) (before : Option Element) (f : Continuation) (t : List Var) → Grows a b → made_below (length a) f ≡ true
    → made_at (plains b) m before f t ≡ made_at (plains a) m before f t
made-stays a b m before made.Nothing t g h = refl
made-stays a b m before (made.Part s i) t g h = stays a b i g (lt-true i (length a) h)
made-stays a b m before (made.Dots d i o) t g h =
    dots-stay a b m.forall_walks (table.ends_of_option m true before) d i t g (made-dots (length a) d i o h) (made-target (length a) d i o h)

pub next-stays : (a b : List Node) (m : table.Setting) (f : Continuation) (t : List Var) → Grows a b → made_below (length a) f ≡ true
    → next_at (plains b) m f t ≡ next_at (plains a) m f t
next-stays a b m made.Nothing t g h = refl
next-stays a b m (made.Part s i) t g h = stays a b i g (lt-true i (length a) h)
next-stays a b m (made.Dots d i o) t g h =
    dots-stay a b m.forall_walks (before_at (plains b) o) d i t g (made-dots (length a) d i o h) (made-target (length a) d i o h)
    ∙ dots-end_atoms (plains a) m.forall_walks (before_at (plains b) o) (before_at (plains a) o) d i t
    (before-stays a b o (t ++ d.here) g (made-end_atoms (length a) d i o h))

pub follow-stays : (a b : List Node) (m : table.Setting) (f : Continuation) → Grows a b → made_below (length a) f ≡ true
    → next_of (plains b) m f ≡ next_of (plains a) m f
follow-stays a b m f g h =
    ap (λ (z : List Var → Plain). record { start = made_start f; at = z }) (fun_ext (λ t. next-stays a b m f t g h))

-- dots that know of no element before them
pub first-next : (fs : List Plain) (m : table.Setting) (f : Continuation) (t : List Var) → is_first f ≡ true → next_at fs m f t ≡ made_at fs m None f t
first-next fs m made.Nothing t h = refl
first-next fs m (made.Part s i) t h = refl
first-next fs m (made.Dots d i None) t h = dots-end_atoms fs m.forall_walks (before_at fs None) (table.ends_of_option m true None) d i t refl
first-next fs m (made.Dots d i (Some o)) t h = absurd cc

-- dots after the element whose last atoms they know
pub behind-next : (a b : List Node) (m : table.Setting) (e : Element) (s : List Var) (o : Option LastAtoms) (f : Continuation)
    (more : List Var) → Grows a b → made_below (length a) f ≡ true
    → (looks_back f ≡ true → (vars : List Var) → before_at (plains b) o (s ++ vars) ≡ table.ends_of_option m true (Some e) (s ++ vars))
    → next_at (plains b) m (behind o f) (s ++ more) ≡ made_at (plains a) m (Some e) f (s ++ more)
behind-next a b m e s o made.Nothing more g h q = refl
behind-next a b m e s o (made.Part u i) more g h q = stays a b i g (lt-true i (length a) h)
behind-next a b m e s o (made.Dots d i n) more g h q =
    dots-stay a b m.forall_walks (before_at (plains b) o) d i (s ++ more) g (made-dots (length a) d i n h) (made-target (length a) d i n h)
    ∙ by d.any refl
  where
    by : (any : Bool) → d.any ≡ any → dots_at (plains a) m.forall_walks (before_at (plains b) o) d i (s ++ more)
        ≡ dots_at (plains a) m.forall_walks (table.ends_of_option m true (Some e)) d i (s ++ more)
    by false u =
        dots-end_atoms (plains a) m.forall_walks (before_at (plains b) o) (table.ends_of_option m true (Some e)) d i (s ++ more)
        (ap (before_at (plains b) o) (append_assoc s more d.here) ∙ q (ap not u) (more ++ d.here)
        ∙ sym (ap (table.ends_of_option m true (Some e)) (append_assoc s more d.here)))
    by true u = dots-any (plains a) m.forall_walks (before_at (plains b) o) (table.ends_of_option m true (Some e)) d i (s ++ more) u

behind-start : (o : Option LastAtoms) (f : Continuation) → made_start (behind o f) ≡ made_start f
behind-start o made.Nothing = refl
behind-start o (made.Part s i) = refl
behind-start o (made.Dots d i n) = refl

pub behind-below : (a b : List Node) (o : Option LastAtoms) (f : Continuation) → Grows a b → made_below (length a) f ≡ true → before_below (length b) o ≡ true
    → made_below (length b) (behind o f) ≡ true
behind-below a b o made.Nothing g h w = refl
behind-below a b o (made.Part s i) g h w = lt-test i (length b) (stands-still a b i g (lt-true i (length a) h))
behind-below a b o (made.Dots d i n) g h w =
    both-true (dots_below (length b) d && nat_lt i (length b)) (before_below (length b) o)
    (both-true (dots_below (length b) d) (nat_lt i (length b)) (dots-stand a b d g (made-dots (length a) d i n h))
    (lt-test i (length b) (stands-still a b i g (made-target (length a) d i n h)))) w

pub behind-agrees : (a b : List Node) (m : table.Setting) (e : Element) (s : List Var) (o : Option LastAtoms) (f : Continuation)
    → Grows a b → made_below (length a) f ≡ true
    → (looks_back f ≡ true → (vars : List Var) → before_at (plains b) o (s ++ vars) ≡ table.ends_of_option m true (Some e) (s ++ vars))
    → Agree s (next_of (plains b) m (behind o f)) (follow_of (plains a) m (Some e) f)
behind-agrees a b m e s o f g h q = record { starts = behind-start o f; same = λ more. behind-next a b m e s o f more g h q }
