-- What is beside dots, made one after another.
use Rattle.std.proofs.Common.{◌≡◌, ℕ, zero, suc, ◌+◌, ◌-◌, ◌<◌, ◌≤◌, Bool, true, false, ◌&&◌, ◌||◌, not, if◌then◌else◌, arith, refl, sym, ap, subst, ◌∙◌}
use Rattle.std.proofs.Common.{List, [], ◌∷◌, ◌++◌, length, take, get_or, append_assoc, append-nil, Option, None, Some, Result}
use Rattle.std.specs.List.{filter}
use Rattle.std.specs.Result.{IfOk}
use Rattle.std.proofs.lemmas.List.{map-append, take_more}
use Rattle.std.proofs.lemmas.Result.{IfOk-weaker}
use Rattle.smpl_terms.specs.declared.var.Var.{Var}
use Rattle.smpl_patch.specs.declared.pattern.Pattern.{Pattern}
use Rattle.smpl_patch.specs.declared.elem.Elem.{Elem}
use Rattle.smpl_patch.specs.Bodies.{Element, element, body}
use Rattle.smpl_patch.proofs.BodyLemmas.{bodies}
use Rattle.ctl_formula.specs.Plain.{Plain}
use Rattle.ctl_formula.specs.Plain as plain
use Rattle.ctl_formula.specs.declared.node.Node.{Node}
use Rattle.ctl_formula.specs.Tables.{at, plains, Grows, Makes}
use Rattle.ctl_formula.proofs.TableLemmas.{grows-refl, grows-trans, and-left, and-right, lt-true}
use Rattle.pattern_vars.proofs.VarPlaces.KeptLemmas.{filter-filter, filter-same}
use Rattle.ctl_table.specs.Table as table
use Rattle.ctl_table.specs.declared.end_atoms.EndAtoms.{EndAtoms}
use Rattle.ctl_table.specs.declared.end_atoms.EndAtoms.TheVariants.{Atom, Any}
use Rattle.ctl_table.specs.Settings.{all_below, parts_at, option_numbers, MakesAll, MakesSome}
use Rattle.ctl_table.specs.EndAtoms.{end_atoms_at, each_end_atoms_at, or_none_at, end_atoms_below, each_end_atoms_below}
use Rattle.ctl_table.specs.EndAtoms.{or_none_below, end_atoms_list, MakesEndAtoms, MakesEachEndAtoms}
use Rattle.ctl_table.proofs.MakingLemmas.{all-stay, all-stand, lt-test, both-true}
use Rattle.ctl_table.proofs.EndAtomLemmas.{in_more, at-Atom, at-Any, below-Atom, below-Any, end_atoms-stays, each_end_atoms-stand, each_end_atoms-stay}
use Rattle.ctl_table.proofs.RowLemmas.{all-more, all-as, taken}

-- the atoms may be written in another way
pub end_atoms-as : (a b : List Node) (o : Option EndAtoms) (f g : table.Scope → Option Plain) → ((s : table.Scope) → f s ≡ g s)
    → MakesEndAtoms a b o f → MakesEndAtoms a b o g
end_atoms-as a b o f g e x = record { within = x.within; is = λ s. x.is s ∙ e s; grows = x.grows }

pub none-end_atoms : (a : List Node) (f : table.Scope → Option Plain) → ((s : table.Scope) → f s ≡ None) → MakesEndAtoms a a None f
none-end_atoms a f e = record { within = refl; is = λ s. sym (e s); grows = grows-refl a }

outside-both : (a b c : Bool) → ((a && not b) && not c) ≡ (a && not (b || c))
outside-both true true c = refl
outside-both true false c = refl
outside-both false b c = refl

-- an atom whose part is made
pub atom-made : (m : table.Setting) (a b : List Node) (p q : Pattern) (i : ℕ) (s standing vars : List Var)
    → standing ≡ filter (λ x. m.reading.stands p x) m.locals
    → vars ≡ filter (λ x. not (table.in_scope s x)) standing → q ≡ p → Makes a b i (plain.Atom q)
    → MakesEndAtoms a b (Some (Atom i vars)) (λ more. Some (table.copy m p (s ++ more)))
atom-made m a b p q i s standing vars e o u x =
    let stands = λ (v : Var). m.reading.stands p v in
    let free = λ (v : Var). not (table.in_scope s v) in
    record {
      within = below-Atom (length b) i vars ∙ lt-test i (length b) x.within;
      is = λ more.
          let inner = λ (v : Var). not (table.in_scope more v) in
          at-Atom (plains b) i vars more
          ∙ ap (λ (z : Plain). Some (table.exists_all (filter inner vars) z)) (x.is ∙ ap plain.Atom u)
          ∙ ap (λ (z : List Var). Some (table.exists_all z (plain.Atom p)))
          (ap (filter inner) (o ∙ ap (filter free) e ∙ filter-filter stands free m.locals)
          ∙ filter-filter (λ v. stands v && free v) inner m.locals
          ∙ filter-same (λ v. (stands v && free v) && inner v) (λ v. stands v && not (table.in_scope (s ++ more) v)) m.locals
          (λ v. outside-both (stands v) (table.in_scope s v) (table.in_scope more v) ∙ ap (λ (z : Bool). stands v && not z) (sym (in_more s more v))));
      grows = x.grows;
    }

pub no-each_end_atoms : (a : List Node) (bs : List EndAtoms) → bs ≡ [] → MakesEachEndAtoms a a bs (λ more. [])
no-each_end_atoms a bs q = subst (λ z. MakesEachEndAtoms a a z (λ more. [])) (sym q) (record { within = refl; are = λ more. refl; grows = grows-refl a })

each_end_atoms-more : (n : ℕ) (bs : List EndAtoms) (o : Option EndAtoms) → each_end_atoms_below n bs ≡ true
    → or_none_below n o ≡ true → each_end_atoms_below n (bs ++ end_atoms_list o) ≡ true
each_end_atoms-more n bs None h w = ap (each_end_atoms_below n) (append-nil bs) ∙ h
each_end_atoms-more n [] (Some b) h w = both-true (end_atoms_below n b) true w refl
each_end_atoms-more n (d ∷ bs) (Some b) h w =
    both-true (end_atoms_below n d) (each_end_atoms_below n (bs ++ b ∷ [])) (and-left (end_atoms_below n d) (each_end_atoms_below n bs) h)
    (each_end_atoms-more n bs (Some b) (and-right (end_atoms_below n d) (each_end_atoms_below n bs) h) w)

each_end_atoms-at-more : (fs : List Plain) (s : table.Scope) (bs : List EndAtoms) (o : Option EndAtoms)
    → each_end_atoms_at fs (bs ++ end_atoms_list o) s ≡ each_end_atoms_at fs bs s ++ table.option_list (or_none_at fs o s)
each_end_atoms-at-more fs s bs None = ap (λ (z : List EndAtoms). each_end_atoms_at fs z s) (append-nil bs) ∙ sym (append-nil (each_end_atoms_at fs bs s))
each_end_atoms-at-more fs s [] (Some b) = append-nil (table.option_list (end_atoms_at fs b s))
each_end_atoms-at-more fs s (d ∷ bs) (Some b) =
    ap (λ (z : List Plain). table.option_list (end_atoms_at fs d s) ++ z) (each_end_atoms-at-more fs s bs (Some b))
    ∙ sym (append_assoc (table.option_list (end_atoms_at fs d s)) (each_end_atoms_at fs bs s) (table.option_list (end_atoms_at fs b s)))

-- one of several, all of which are made
pub any-made : (m : table.Setting) (last : Bool) (a b : List Node) (s : List Var) (found ds : List EndAtoms) (bs : List (List Elem)) → ds ≡ found
    → MakesEachEndAtoms a b found (λ more. table.ends_of_each m last (bodies bs) (s ++ more))
    → MakesEndAtoms a b (Some (Any ds)) (λ more. table.or_some (table.ends_of_each m last (bodies bs) (s ++ more)))
any-made m last a b s found ds bs q x = record {
  within = below-Any (length b) ds ∙ ap (each_end_atoms_below (length b)) q ∙ x.within;
  is = λ more. at-Any (plains b) ds more ∙ ap (λ (z : List EndAtoms). table.or_some (each_end_atoms_at (plains b) z more)) q ∙ ap table.or_some (x.are more);
  grows = x.grows;
}

-- the last or the first element of a sequence
pub ends_of-at : (m : table.Setting) (last : Bool) (es : List Elem) (s : List Var) (i : ℕ) (e : Elem) → i < length es
    → i ≡ (if last then length es - 1 else 0) → e ≡ get_or es i e
    → table.ends_of_body m last (body es) s ≡ table.ends_of m last (element e) s
ends_of-at m last [] s i e l n q = absurd (omega (arith, l))
ends_of-at m false (d ∷ es) s i e l n q =
    sym (ap (λ (z : Elem). table.ends_of m false (element z) s) (q ∙ ap (λ (j : ℕ). get_or (d ∷ es) j e) n))
ends_of-at m true (d ∷ []) s i e l n q =
    let z : i ≡ 0 = omega (arith, l) in
    sym (ap (λ (z : Elem). table.ends_of m true (element z) s) (q ∙ ap (λ (j : ℕ). get_or (d ∷ []) j e) z))
ends_of-at m true (d ∷ d2 ∷ es) s i e l n q =
    let j : ℕ = length (d2 ∷ es) - 1 in
    let z : i ≡ suc (length (d2 ∷ es) - 1) = omega (arith, n) in
    ends_of-at m true (d2 ∷ es) s (length (d2 ∷ es) - 1) e (omega arith) refl (q ∙ ap (λ (k : ℕ). get_or (d ∷ d2 ∷ es) k e) z)

-- one more, if there is one
pub some-more : (a b c : List Node) (is : List ℕ) (fs : List Plain) (o : Option ℕ) (f : Option Plain) → MakesAll a b is fs → MakesSome b c o f
    → MakesAll a c (is ++ option_numbers o) (fs ++ table.option_list f)
some-more a b c is fs None f x y =
    let e : table.option_list f ≡ [] = ap table.option_list (sym y.is) in
    record {
      within = ap (all_below (length c)) (append-nil is) ∙ all-stand b c is y.grows x.within;
      are = ap (parts_at c) (append-nil is) ∙ all-stay b c is y.grows x.within ∙ x.are ∙ sym (append-nil fs) ∙ ap (λ (z : List Plain). fs ++ z) (sym e);
      grows = grows-trans a b c x.grows y.grows;
    }
some-more a b c is fs (Some i) f x y =
    let e : at (plains c) i ∷ [] ≡ table.option_list f = ap table.option_list y.is in
    record {
      within = all-more (length c) is i (all-stand b c is y.grows x.within) (lt-true i (length c) y.within);
      are = map-append (at (plains c)) is (i ∷ []) ∙ ap (λ (z : List Plain). z ++ at (plains c) i ∷ []) (all-stay b c is y.grows x.within ∙ x.are)
          ∙ ap (λ (z : List Plain). fs ++ z) e;
      grows = grows-trans a b c x.grows y.grows;
    }

ends_of_each-more : (m : table.Setting) (last : Bool) (bs : List (List Elem)) (b : List Elem) (s : List Var)
    → table.ends_of_each m last (bodies (bs ++ b ∷ [])) s ≡ table.ends_of_each m last (bodies bs) s ++ table.option_list (table.ends_of_body m last (body b) s)
ends_of_each-more m last [] b s = append-nil (table.option_list (table.ends_of_body m last (body b) s))
ends_of_each-more m last (c ∷ bs) b s =
    ap (λ (z : List Plain). table.option_list (table.ends_of_body m last (body c) s) ++ z) (ends_of_each-more m last bs b s)
    ∙ sym (append_assoc (table.option_list (table.ends_of_body m last (body c) s)) (table.ends_of_each m last (bodies bs) s)
    (table.option_list (table.ends_of_body m last (body b) s)))

-- one more branch
pub ends_of-step : (m : table.Setting) (last : Bool) (a b c : List Node) (s : List Var) (bs : List (List Elem))
    (x y : List Elem) (ds next : List EndAtoms) (i : ℕ) (o : Option EndAtoms)
    → i < length bs → x ≡ get_or bs i x → y ≡ x → next ≡ ds ++ end_atoms_list o
    → MakesEachEndAtoms a b ds (λ more. table.ends_of_each m last (bodies (take i bs)) (s ++ more))
    → MakesEndAtoms b c o (λ more. table.ends_of_body m last (body y) (s ++ more))
    → MakesEachEndAtoms a c next (λ more. table.ends_of_each m last (bodies (take (i + 1) bs)) (s ++ more))
ends_of-step m last a b c s bs x y ds next i o n q p u made one =
    let each = λ (bs : List (List Elem)) (more : List Var). table.ends_of_each m last (bodies bs) (s ++ more) in
    let g : (more : List Var) → each (take i bs) more ++ table.option_list (table.ends_of_body m last (body y) (s ++ more)) ≡ each (take (i + 1) bs) more =
    λ more. ap (λ (z : List Elem). each (take i bs) more ++ table.option_list (table.ends_of_body m last (body z) (s ++ more))) p
    ∙ sym (ends_of_each-more m last (take i bs) x (s ++ more))
    ∙ ap (λ (z : List (List Elem)). each z more) (ap (λ (z : List Elem). take i bs ++ z ∷ []) q ∙ sym (take_more bs i x n)) in
    subst (λ (z : List EndAtoms). MakesEachEndAtoms a c z (each (take (i + 1) bs))) (sym u) (record {
      within = each_end_atoms-more (length c) ds o (each_end_atoms-stand b c one.grows ds made.within) one.within;
      are = λ more. each_end_atoms-at-more (plains c) more ds o
          ∙ ap (λ (z : List Plain). z ++ table.option_list (or_none_at (plains c) o more))
          (each_end_atoms-stay b c more one.grows ds made.within ∙ made.are more)
          ∙ ap (λ (z : Option Plain). each (take i bs) more ++ table.option_list z) (one.is more)
          ∙ g more;
      grows = grows-trans a b c made.grows one.grows;
    })

pub ends_of-none : (m : table.Setting) (last : Bool) (es : List Elem) (s : List Var) → length es ≡ 0 → table.ends_of_body m last (body es) s ≡ None
ends_of-none m last [] s e = refl
ends_of-none m last (d ∷ es) s e = absurd (omega (arith, e))

pub ends_of_first-none : (m : table.Setting) (last : Bool) (bs : List (List Elem)) (s : List Var) → length bs ≡ 0
    → table.ends_of_first m last (bodies bs) s ≡ None
ends_of_first-none m last [] s e = refl
ends_of_first-none m last (b ∷ bs) s e = absurd (omega (arith, e))

pub ends_of_first-at : (m : table.Setting) (last : Bool) (bs : List (List Elem)) (x y : List Elem) (s : List Var) → 1 ≤ length bs → x ≡ get_or bs 0 x → y ≡ x
    → table.ends_of_body m last (body y) s ≡ table.ends_of_first m last (bodies bs) s
ends_of_first-at m last [] x y s l q p = absurd (omega (arith, l))
ends_of_first-at m last (b ∷ bs) x y s l q p = ap (λ (z : List Elem). table.ends_of_body m last (body z) s) (p ∙ q)

-- the atoms from a scope

pub some-made : (a b : List Node) (i : ℕ) (f : Plain) (o : Option Plain) → o ≡ Some f → Makes a b i f → MakesSome a b (Some i) o
some-made a b i f o e m = record { within = lt-test i (length b) m.within; is = ap Some m.is ∙ sym e; grows = m.grows }

pub some-none : (a : List Node) (o : Option Plain) → o ≡ None → MakesSome a a None o
some-none a o e = record { within = refl; is = sym e; grows = grows-refl a }

pub some-up : {E : Type 0} (a b c : List Node) (r : Result (Option ℕ) E) (f g : Option Plain) → Grows a b → f ≡ g
    → IfOk r (λ o. MakesSome b c o f) → IfOk r (λ o. MakesSome a c o g)
some-up a b c r f g s e h =
    IfOk-weaker r (λ o. MakesSome b c o f) (λ o. MakesSome a c o g)
    (λ o m. record { within = m.within; is = m.is ∙ e; grows = grows-trans a b c s m.grows }) h

pub each_end_atoms-item : (n : ℕ) (xs : List EndAtoms) (i : ℕ) (x d : EndAtoms) → i < length xs → x ≡ get_or xs i d
    → each_end_atoms_below n xs ≡ true → end_atoms_below n x ≡ true
each_end_atoms-item n [] i x d l q h = absurd (omega (arith, l))
each_end_atoms-item n (y ∷ xs) zero x d l q h = ap (end_atoms_below n) q ∙ and-left (end_atoms_below n y) (each_end_atoms_below n xs) h
each_end_atoms-item n (y ∷ xs) (suc i) x d l q h =
    each_end_atoms-item n xs i x d (omega (arith, l)) q (and-right (end_atoms_below n y) (each_end_atoms_below n xs) h)

pub several-below : (n : ℕ) (b : EndAtoms) (ds xs : List EndAtoms) → b ≡ Any ds → xs ≡ ds → end_atoms_below n b ≡ true → each_end_atoms_below n xs ≡ true
several-below n b ds xs e q h = ap (each_end_atoms_below n) q ∙ sym (below-Any n ds) ∙ sym (ap (end_atoms_below n) e) ∙ h

-- one more of several
pub several-step : (a b c : List Node) (s : table.Scope) (xs : List EndAtoms) (i : ℕ) (x d : EndAtoms) (is next : List ℕ) (o : Option ℕ)
    → i < length xs → x ≡ get_or xs i d → next ≡ is ++ option_numbers o → each_end_atoms_below (length a) xs ≡ true
    → MakesAll a b is (each_end_atoms_at (plains a) (take i xs) s) → MakesSome b c o (end_atoms_at (plains b) x s)
    → MakesAll a c next (each_end_atoms_at (plains a) (take (i + 1) xs) s)
several-step a b c s xs i x d is next o l q u h made one =
    let fs = each_end_atoms_at (plains a) (take i xs) s in
    let g : fs ++ table.option_list (end_atoms_at (plains b) x s) ≡ each_end_atoms_at (plains a) (take (i + 1) xs) s =
    ap (λ (z : Option Plain). fs ++ table.option_list z) (end_atoms-stays a b s made.grows x (each_end_atoms-item (length a) xs i x d l q h))
    ∙ sym (each_end_atoms-at-more (plains a) s (take i xs) (Some x))
    ∙ ap (λ (z : List EndAtoms). each_end_atoms_at (plains a) z s) (ap (λ (z : EndAtoms). take i xs ++ z ∷ []) q ∙ sym (take_more xs i d l)) in
    subst (λ (z : List ℕ). MakesAll a c z (each_end_atoms_at (plains a) (take (i + 1) xs) s)) (sym u)
    (all-as a c (is ++ option_numbers o) (fs ++ table.option_list (end_atoms_at (plains b) x s)) (each_end_atoms_at (plains a) (take (i + 1) xs) s) g
    (some-more a b c is fs o (end_atoms_at (plains b) x s) made one))

-- one of several
pub several-made : {E : Type 0} (a b c : List Node) (s : table.Scope) (d : EndAtoms) (ds xs : List EndAtoms) (i : ℕ) (is js : List ℕ) (r : Result (Option ℕ) E)
    → d ≡ Any ds → xs ≡ ds → i ≡ length xs → js ≡ is → MakesAll a b is (each_end_atoms_at (plains a) (take i xs) s)
    → IfOk r (λ o. MakesSome b c o (table.or_some (parts_at b js))) → IfOk r (λ o. MakesSome a c o (end_atoms_at (plains a) d s))
several-made a b c s d ds xs i is js r e q l j made found =
    some-up a b c r (table.or_some (parts_at b js)) (end_atoms_at (plains a) d s) made.grows
    (ap table.or_some (ap (parts_at b) j ∙ made.are ∙ ap (λ (z : List EndAtoms). each_end_atoms_at (plains a) z s) (taken i xs l ∙ q))
    ∙ sym (at-Any (plains a) ds s) ∙ sym (ap (λ (z : EndAtoms). end_atoms_at (plains a) z s) e)) found

-- the first atoms of the element after dots, from the scope of the dots

pub after-none : (a b : List Node) (m : table.Setting) (after : Option Element) (s : List Var) (any : Bool) → any ≡ false
    → MakesEndAtoms a b None (λ more. table.ends_of_option m false after (s ++ more))
    → MakesSome a b None (if any then None else table.ends_of_option m false after s)
after-none a b m after s any e x = record {
  within = refl;
  is = x.is [] ∙ ap (table.ends_of_option m false after) (append-nil s) ∙ sym (ap (λ (z : Bool). if z then None else table.ends_of_option m false after s) e);
  grows = x.grows;
}

pub after-some : {E : Type 0} (a b c : List Node) (m : table.Setting) (after : Option Element) (s : List Var) (any : Bool)
    (d : EndAtoms) (inner : List Var) (r : Result (Option ℕ) E)
    → any ≡ false → inner ≡ [] → MakesEndAtoms a b (Some d) (λ more. table.ends_of_option m false after (s ++ more))
    → IfOk r (λ o. MakesSome b c o (end_atoms_at (plains b) d inner))
    → IfOk r (λ o. MakesSome a c o (if any then None else table.ends_of_option m false after s))
after-some a b c m after s any d inner r e q x y =
    some-up a b c r (end_atoms_at (plains b) d inner) (if any then None else table.ends_of_option m false after s) x.grows
    (ap (end_atoms_at (plains b) d) q ∙ x.is [] ∙ ap (table.ends_of_option m false after) (append-nil s)
    ∙ sym (ap (λ (z : Bool). if z then None else table.ends_of_option m false after s) e)) y
