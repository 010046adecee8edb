-- Sequences and their elements, before each of the things that may follow.
use Rattle.std.proofs.Common.{◌≡◌, ℕ, ◌+◌, ◌<◌, Bool, true, false, if◌then◌else◌, arith, refl, sym, ap, subst, ◌∙◌, List, [], ◌∷◌, ◌++◌}
use Rattle.std.proofs.Common.{map, length, get_or, drop, Option, None, Some}
use Rattle.smpl_terms.specs.declared.var.Var.{Var}
use Rattle.smpl_patch.specs.declared.elem.Elem.{Elem}
use Rattle.smpl_patch.specs.Bodies.{Element, element, body}
use Rattle.ctl_formula.specs.Plain.{Plain, And, After}
use Rattle.ctl_formula.specs.declared.node.Node.{Node}
use Rattle.ctl_formula.specs.Tables.{at, plains, Grows, Makes}
use Rattle.ctl_formula.proofs.TableLemmas.{grows-refl, grows-trans}
use Rattle.pattern_vars.specs.VarPlaces.Placing.{is_dots}
use Rattle.pattern_vars.specs.VarPlaces.Places.{places}
use Rattle.pattern_vars.specs.declared.var_places.place.Place.{Place}
use Rattle.ctl_table.specs.Table as table
use Rattle.ctl_table.specs.declared.follow.NestPart.{NestPart}
use Rattle.ctl_table.specs.declared.follow.Continuation.{Continuation}
use Rattle.ctl_table.specs.Suffixes.{begins, along}
use Rattle.ctl_table.specs.declared.follow.DotsContinuation.{DotsContinuation}
use Rattle.ctl_table.specs.Settings.{all_below, parts_at, some_at, passed, nest_below, dots_below, made_below, all_made_below}
use Rattle.ctl_table.specs.Settings.{made_start, next_at, follow_of, next_of, suffix_at, start_with, dots_row, dots_before}
use Rattle.ctl_table.specs.Settings.{Agree, Pairwise, MakesAll, MakesSome, MakesBehind, MakesSame, MakesFollow, MakesFollows}
use Rattle.ctl_table.proofs.MakingLemmas.{all-stay, and-of}
use Rattle.ctl_table.proofs.FollowLemmas.{next-stays, follow-stays, first-next, some-stays, passed-stays, dots-firsts, dots-after, dots-nest}
use Rattle.ctl_table.proofs.AgreeLemmas.{elem-agrees}
use Rattle.ctl_table.proofs.AlongLemmas.{along-is, suffixes-last, suffixes-step}
use Rattle.ctl_table.proofs.ElementLemmas.{part-row, dots-row, condition-skip}
use Rattle.ctl_table.proofs.EachLemmas.{map-same, follow-as, pair-as, pair-weaker, pair-trans, pair-map, pair-parts}

-- all parts, made in a grown table and their formulas written in another way
pub all-up : (a b c : List Node) (is : List ℕ) (fs gs : List Plain) → Grows a b → fs ≡ gs → MakesAll b c is fs → MakesAll a c is gs
all-up a b c is fs gs g e x = record { within = x.within; are = x.are ∙ e; grows = grows-trans a b c g x.grows }

-- the last suffix
pub last-each : (m : table.Setting) (k : Continuation → table.Follow) (a b : List Node) (nexts fs : List Continuation)
    (es : List Elem) (ps : List Place) (i : ℕ) (e : Elem) (p : Place)
    → i + 1 ≡ length es → length ps ≡ length es → e ≡ get_or es i e → p ≡ get_or ps i p
    → MakesFollows m a b nexts fs (λ n. start_with (element e)) (λ n. suffix_at m None (element e) (k n) p)
    → MakesFollows m a b nexts fs (λ n. begins (drop i es) (k n).start) (λ n. along m (k n) (drop i es) (drop i ps))
last-each m k a b nexts fs es ps i e p l o q r y = record {
  each = pair-weaker (λ n f. MakesFollow m a b f (start_with (element e)) (suffix_at m None (element e) (k n) p))
      (λ n f. MakesFollow m a b f (begins (drop i es) (k n).start) (along m (k n) (drop i es) (drop i ps)))
      (λ n f u. suffixes-last m (k n) a b f es ps i e p l o q r u) nexts fs y.each;
  grows = y.grows;
}

-- a suffix before something that agrees with what follows it
pub agreed-row : (m : table.Setting) (b c : List Node) (after : Option Element) (e : Element) (k h : table.Follow) (p : Place)
    (g : Continuation) → Agree p.scope k h
    → MakesFollow m b c g (start_with e) (suffix_at m after e k p) → MakesFollow m b c g (start_with e) (suffix_at m after e h p)
agreed-row m b c after e k h p g q x =
    follow-as m b b c g (start_with e) (suffix_at m after e k p) (suffix_at m after e h p) (grows-refl b)
    (λ before t. ap (table.exists_all p.here) (elem-agrees m before after e k h p.inside p.scope (t ++ p.here) q)) x

-- the suffix before
pub step-each : (m : table.Setting) (k : Continuation → table.Follow) (a b b2 c : List Node)
    (nexts fs hs gs : List Continuation) (es : List Elem) (ps : List Place) (i : ℕ) (d e : Elem) (p : Place)
    → i + 1 < length es → length ps ≡ length es → d ≡ get_or es (i + 1) d → e ≡ get_or es i e → p ≡ get_or ps i p
    → MakesFollows m a b nexts fs (λ n. begins (drop (i + 1) es) (k n).start) (λ n. along m (k n) (drop (i + 1) es) (drop (i + 1) ps))
    → MakesBehind m (element e) p.scope b b2 fs hs
    → MakesFollows m b2 c hs gs (λ f. start_with (element e)) (λ f. suffix_at m (Some (element d)) (element e) (next_of (plains b2) m f) p)
    → MakesFollows m a c nexts gs (λ n. begins (drop i es) (k n).start) (λ n. along m (k n) (drop i es) (drop i ps))
step-each m k a b b2 c nexts fs hs gs es ps i d e p l o t q r y w z =
    let row = λ (n : table.Follow) (g : Continuation). MakesFollow m b2 c g (start_with (element e)) (suffix_at m (Some (element d)) (element e) n p) in
    let old = λ (f : Continuation). follow_of (plains b) m (Some (element e)) f in
    let rows = pair-trans (λ f h. Agree p.scope (next_of (plains b2) m h) (old f)) (λ h g. row (next_of (plains b2) m h) g) (λ f g. row (old f) g)
    (λ f h g u v. agreed-row m b2 c (Some (element d)) (element e) (next_of (plains b2) m h) (old f) p g u v) fs hs gs w.each z.each in
    record {
      each = pair-trans (λ n f. MakesFollow m a b f (begins (drop (i + 1) es) (k n).start) (along m (k n) (drop (i + 1) es) (drop (i + 1) ps)))
          (λ f g. row (old f) g)
          (λ n g. MakesFollow m a c g (begins (drop i es) (k n).start) (along m (k n) (drop i es) (drop i ps)))
          (λ n f g u v. suffixes-step m (k n) a b c f g es ps i d e p l o t q r u
          (follow-as m b b2 c g (start_with (element e)) (suffix_at m (Some (element d)) (element e) (old f) p)
          (suffix_at m (Some (element d)) (element e) (old f) p) w.grows (λ s x. refl) v)) nexts fs gs y.each rows;
      grows = grows-trans a b c y.grows (grows-trans b b2 c w.grows z.grows);
    }

-- all suffixes
pub whole-each : (m : table.Setting) (k : Continuation → table.Follow) (a b : List Node) (nexts fs : List Continuation)
    (es : List Elem) (ps : List Place) (i : ℕ) → i ≡ 0
    → MakesFollows m a b nexts fs (λ n. begins (drop i es) (k n).start) (λ n. along m (k n) (drop i es) (drop i ps))
    → MakesFollows m a b nexts fs (λ n. begins es (k n).start) (λ n. along m (k n) es ps)
whole-each m k a b nexts fs es ps i q y =
    subst (λ (z : ℕ). MakesFollows m a b nexts fs (λ n. begins (drop z es) (k n).start) (λ n. along m (k n) (drop z es) (drop z ps))) q y

-- a whole sequence
pub sequences-made : (m : table.Setting) (k : Continuation → table.Follow) (a b c : List Node) (nexts fs : List Continuation)
    (is : List ℕ) (es : List Elem) (w s : List Var) (ps : List Place)
    → ps ≡ places m.reading (body es) w s
    → MakesFollows m a b nexts fs (λ n. begins es (k n).start) (λ n. along m (k n) es ps)
    → MakesAll b c is (map (λ f. next_at (plains b) m f s) fs)
    → MakesAll a c is (map (λ n. table.seq m None (body es) (k n) w s s) nexts)
sequences-made m k a b c nexts fs is es w s ps q y z =
    all-up a b c is (map (λ f. next_at (plains b) m f s) fs) (map (λ n. table.seq m None (body es) (k n) w s s) nexts) y.grows
    (pair-map (λ n f. MakesFollow m a b f (begins es (k n).start) (along m (k n) es ps)) (λ n. table.seq m None (body es) (k n) w s s)
    (λ f. next_at (plains b) m f s)
    (λ n f u. first-next (plains b) m f s u.first ∙ u.is None s ∙ ap (λ (v : List Place). along m (k n) es v None s) q
    ∙ sym (along-is m (k n) es w s None s)) nexts fs y.each) z

-- nothing but what follows
pub sequences-none : (m : table.Setting) (k : Continuation → table.Follow) (a b : List Node) (nexts : List Continuation)
    (is : List ℕ) (es : List Elem) (w s : List Var) → length es ≡ 0
    → MakesAll a b is (map (λ n. (k n).at s) nexts) → MakesAll a b is (map (λ n. table.seq m None (body es) (k n) w s s) nexts)
sequences-none m k a b nexts is [] w s e x = x
sequences-none m k a b nexts is (d ∷ es) w s e x = absurd (omega (arith, e))

-- an element other than dots, as the suffix that begins with it
pub row-each : (m : table.Setting) (a b c : List Node) (after : Option Element) (x y : Element)
    (k : Continuation → table.Follow) (p : Place) (nexts : List Continuation) (is js : List ℕ) (fs : List Continuation) (h : Continuation → Plain)
    → x ≡ y → is_dots y ≡ false → js ≡ is → MakesAll a b is (map h nexts)
    → ((n : Continuation) (before : Option Element) (t : List Var) → h n ≡ table.elem m before after y (k n) p.inside p.scope t)
    → MakesFollows m b c js fs (λ f. table.Other) (λ f before t. table.exists_all p.here (at (plains b) f))
    → MakesFollows m a c nexts fs (λ n. start_with x) (λ n. suffix_at m after x (k n) p)
row-each m a b c after x y k p nexts is js fs h q o r u e z = record {
  each = pair-trans (λ n i. Makes a b i (h n)) (λ i f. MakesFollow m b c f table.Other (λ before t. table.exists_all p.here (at (plains b) i)))
      (λ n f. MakesFollow m a c f (start_with x) (suffix_at m after x (k n) p))
      (λ n i f v w. part-row m a b c after x y (k n) p i f (h n) q o v (e n) w) nexts js fs
      (subst (λ (v : List ℕ). Pairwise (λ n i. Makes a b i (h n)) nexts v) (sym r) (pair-parts a b h nexts is u.grows u.within u.are)) z.each;
  grows = grows-trans a b c u.grows z.grows;
}

-- dots, as the suffix that begins with them
pub dots-each : (m : table.Setting) (a b c : List Node) (after : Option Element) (x y : Element)
    (k l : Continuation → table.Follow) (p : Place) (nexts fs : List Continuation) (vs ws : List Plain) (any strict : Bool) (nest : Option NestPart)
    → x ≡ y → is_dots y ≡ true → Grows a b → vs ≡ ws
    → all_made_below (length a) nexts ≡ true → ((n : Continuation) → made_below (length a) n ≡ true → l n ≡ k n)
    → ((n : Continuation) (before : Option Element) (t : List Var)
    → dots_row m b before after ws any strict nest (k n) p t ≡ suffix_at m after y (k n) p before t)
    → MakesFollows m b c nexts fs (λ n. table.Dots) (λ n before t. dots_row m b before after vs any strict nest (l n) p t)
    → MakesFollows m a c nexts fs (λ n. start_with x) (λ n. suffix_at m after x (k n) p)
dots-each m a b c after x y k l p nexts fs vs ws any strict nest q o s v h f e z = record {
  each = pair-as (made_below (length a)) (λ n g. MakesFollow m b c g table.Dots (λ before t. dots_row m b before after vs any strict nest (l n) p t))
      (λ n g. MakesFollow m a c g (start_with x) (suffix_at m after x (k n) p))
      (λ n g w u. dots-row m a b c after x y (k n) (l n) p g vs ws any strict nest q o s v (f n w) (e n) u) nexts fs h z.each;
  grows = grows-trans a b c s z.grows;
}

-- a statement's part, and what follows past the statement
pub past-each : (m : table.Setting) (a b c : List Node) (f : ℕ) (h : Plain) (nexts : List Continuation) (is : List ℕ) (s : List Var)
    → all_made_below (length a) nexts ≡ true → Makes a b f h
    → MakesAll b c is (map (λ n. And (at (plains b) f) (After ((next_of (plains b) m n).at s))) nexts)
    → MakesAll a c is (map (λ n. And h (After ((next_of (plains a) m n).at s))) nexts)
past-each m a b c f h nexts is s w x y =
    all-up a b c is (map (λ n. And (at (plains b) f) (After ((next_of (plains b) m n).at s))) nexts)
    (map (λ n. And h (After ((next_of (plains a) m n).at s))) nexts) x.grows
    (map-same (made_below (length a)) (λ n. And (at (plains b) f) (After (next_at (plains b) m n s))) (λ n. And h (After (next_at (plains a) m n s)))
    (λ n v. and-of (at (plains b) f) (After (next_at (plains b) m n s)) h (After (next_at (plains a) m n s)) x.is
    (ap After (next-stays a b m n s x.grows v))) nexts w) y

-- an atom's part, and what follows
pub joined-each : (m : table.Setting) (a b c : List Node) (statement is_statement : Bool) (f : ℕ) (h : Plain)
    (nexts : List Continuation) (is : List ℕ) (s : List Var)
    → all_made_below (length a) nexts ≡ true → statement ≡ is_statement → Makes a b f h
    → MakesAll b c is (map (λ n. table.joined m.forall_walks statement (at (plains b) f) (next_of (plains b) m n).start ((next_of (plains b) m n).at s)) nexts)
    → MakesAll a c is (map (λ n. table.joined m.forall_walks is_statement h (next_of (plains a) m n).start ((next_of (plains a) m n).at s)) nexts)
joined-each m a b c statement is_statement f h nexts is s w q x y =
    let old = λ (n : Continuation). table.joined m.forall_walks statement (at (plains b) f) (made_start n) (next_at (plains b) m n s) in
    let new = λ (n : Continuation). table.joined m.forall_walks is_statement h (made_start n) (next_at (plains a) m n s) in
    all-up a b c is (map old nexts) (map new nexts) x.grows
    (map-same (made_below (length a)) old new
    (λ n v. ap (λ (z : Bool). table.joined m.forall_walks z (at (plains b) f) (made_start n) (next_at (plains b) m n s)) q
    ∙ ap (λ (z : Plain). table.joined m.forall_walks is_statement z (made_start n) (next_at (plains b) m n s)) x.is
    ∙ ap (table.joined m.forall_walks is_statement h (made_start n)) (next-stays a b m n s x.grows v)) nexts w) y

-- dots whose parts are made, before what follows them, in a table that grew
pub dots_row-whole : (m : table.Setting) (a b : List Node) (d : DotsContinuation) (firsts : List Plain)
    (after before : Option Element) (n : Continuation) (p : Place) (t : List Var)
    → Grows a b → d.here ≡ p.here → parts_at b d.firsts.items ≡ firsts → nest_below (length a) d.nest ≡ true → made_below (length a) n ≡ true
    → some_at (plains b) d.after ≡ (if d.any then None else table.ends_of_option m false after p.scope)
    → dots_before (plains b) m d (next_of (plains b) m n) p.scope before t
    ≡ dots_row m a before after firsts d.any d.strict d.nest (next_of (plains a) m n) p t
dots_row-whole m a b d firsts after before n p t g q h u w o =
    let ends_of = λ (v : List Var). table.ends_of_option m true before (t ++ v) in
    let end_atoms = table.ends_of_option m false after p.scope in
    let k = λ (ns : List Node). next_of (plains ns) m n in
    let goes = λ (ns : List Node). table.target m.around (k ns).start ((k ns).at p.scope) in
    let held = table.condition d.any firsts (ends_of p.here) end_atoms in
    ap (λ (v : List Var). table.exists_all v
    (passed (plains b) m.forall_walks d.nest d.strict
    (table.condition d.any (parts_at b d.firsts.items) (ends_of v) (some_at (plains b) d.after)) (goes b))) q
    ∙ ap (λ (v : List Plain). table.exists_all p.here
    (passed (plains b) m.forall_walks d.nest d.strict (table.condition d.any v (ends_of p.here) (some_at (plains b) d.after)) (goes b))) h
    ∙ ap (λ (v : Option Plain). table.exists_all p.here
    (passed (plains b) m.forall_walks d.nest d.strict (table.condition d.any firsts (ends_of p.here) v) (goes b))) o
    ∙ ap (λ (v : Plain). table.exists_all p.here (passed (plains b) m.forall_walks d.nest d.strict v (goes b)))
    (condition-skip d.any firsts (ends_of p.here) end_atoms)
    ∙ ap (λ (v : table.Follow). table.exists_all p.here
    (passed (plains b) m.forall_walks d.nest d.strict held (table.target m.around v.start (v.at p.scope)))) (follow-stays a b m n g w)
    ∙ ap (table.exists_all p.here) (passed-stays a b m.forall_walks d.nest d.strict held (goes a) g u)

-- dots before each of the things that may follow them
pub dots-whole : (m : table.Setting) (a b c : List Node) (d : DotsContinuation) (firsts : List Plain) (after : Option Element)
    (p : Place) (any strict : Bool) (nexts fs : List Continuation)
    → Grows a b → parts_at b d.firsts.items ≡ firsts → nest_below (length a) d.nest ≡ true → all_made_below (length a) nexts ≡ true → d.here ≡ p.here
    → d.any ≡ any → d.strict ≡ strict
    → some_at (plains b) d.after ≡ (if d.any then None else table.ends_of_option m false after p.scope)
    → MakesFollows m b c nexts fs (λ n. table.Dots) (λ n. dots_before (plains b) m d (next_of (plains b) m n) p.scope)
    → MakesFollows m a c nexts fs (λ n. table.Dots) (λ n s t. dots_row m a s after firsts any strict d.nest (next_of (plains a) m n) p t)
dots-whole m a b c d firsts after p any strict nexts fs g w u h q o r x z =
    let row = λ (n : Continuation) (s : Option Element) (t : List Var). dots_row m a s after firsts any strict d.nest (next_of (plains a) m n) p t in
    record {
      each = pair-as (made_below (length a)) (λ n f. MakesFollow m b c f table.Dots (dots_before (plains b) m d (next_of (plains b) m n) p.scope))
          (λ n f. MakesFollow m a c f table.Dots (row n))
          (λ n f l v. follow-as m a b c f table.Dots (dots_before (plains b) m d (next_of (plains b) m n) p.scope) (row n) g
          (λ s t. dots_row-whole m a b d firsts after s n p t g q w u l x
          ∙ ap (λ (y : Bool). dots_row m a s after firsts y d.strict d.nest (next_of (plains a) m n) p t) o
          ∙ ap (λ (y : Bool). dots_row m a s after firsts any y d.nest (next_of (plains a) m n) p t) r) v) nexts fs h z.each;
      grows = grows-trans a b c g z.grows;
    }

-- made dots before what follows them, in a table that grew
pub dots_before-stays : (m : table.Setting) (a b : List Node) (d : DotsContinuation) (n : Continuation) (s : List Var) (before : Option Element) (t : List Var)
    → Grows a b → dots_below (length a) d ≡ true → made_below (length a) n ≡ true
    → dots_before (plains b) m d (next_of (plains b) m n) s before t ≡ dots_before (plains a) m d (next_of (plains a) m n) s before t
dots_before-stays m a b d n s before t g h w =
    let ends_of = table.ends_of_option m true before (t ++ d.here) in
    let k = λ (ns : List Node). next_of (plains ns) m n in
    let goes = λ (ns : List Node). table.target m.around (k ns).start ((k ns).at s) in
    ap (λ (v : List Plain). table.exists_all d.here
    (passed (plains b) m.forall_walks d.nest d.strict (table.condition d.any v ends_of (some_at (plains b) d.after))
    (goes b))) (all-stay a b d.firsts.items g (dots-firsts (length a) d h))
    ∙ ap (λ (v : Option Plain). table.exists_all d.here
    (passed (plains b) m.forall_walks d.nest d.strict (table.condition d.any (parts_at a d.firsts.items) ends_of v)
    (goes b))) (some-stays a b d.after g (dots-after (length a) d h))
    ∙ ap (λ (v : table.Follow). table.exists_all d.here
    (passed (plains b) m.forall_walks d.nest d.strict
    (table.condition d.any (parts_at a d.firsts.items) ends_of (some_at (plains a) d.after))
    (table.target m.around v.start (v.at s)))) (follow-stays a b m n g w)
    ∙ ap (table.exists_all d.here) (passed-stays a b m.forall_walks d.nest d.strict
    (table.condition d.any (parts_at a d.firsts.items) ends_of (some_at (plains a) d.after)) (goes a) g (dots-nest (length a) d h))

-- rows before what is the same from further inside
pub same-rows : (m : table.Setting) (s : List Var) (a b c : List Node) (y : Element) (vars : List Var)
    (nexts gs : List Continuation) (is : List ℕ) → MakesSame m s a b nexts gs
    → MakesAll b c is (map (λ n. table.elem m None None y (next_of (plains b) m n) vars s s) gs)
    → MakesAll a c is (map (λ n. table.elem m None None y (next_of (plains a) m n) vars s s) nexts)
same-rows m s a b c y vars nexts gs is x z =
    let new = λ (n : Continuation). table.elem m None None y (next_of (plains b) m n) vars s s in
    let old = λ (n : Continuation). table.elem m None None y (next_of (plains a) m n) vars s s in
    all-up a b c is (map new gs) (map old nexts) x.grows
    (pair-map (λ f g. Agree s (next_of (plains b) m g) (next_of (plains a) m f)) old new
    (λ f g r. elem-agrees m None None y (next_of (plains b) m g) (next_of (plains a) m f) vars s s r) nexts gs x.each) z
