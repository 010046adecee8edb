-- The patterns of a body have different numbers.
-- Proof: the body's own patterns are numbered from 0, and those of the `when` code after them, one piece of code after
-- another. Each piece comes after one token, and that token occurs once in the body.
use Rattle.std.proofs.Common.{◌≡◌, ℕ, zero, suc, ◌+◌, ◌≤◌, refl, sym, ap, subst, arith, List, [], ◌∷◌, ◌++◌, length, slice_get, inl, inr, ◌⊎◌}
use Rattle.std.proofs.lemmas.List.{append-nil}
use Rattle.std.specs.Prelude.{Bool, true, false, ◌==◌, nat_eq, if◌then◌else◌}
use Rattle.c_terms.specs.declared.token.Token.{Token}
use Rattle.c_terms.specs.declared.tree.Tree.{Tree}
use Rattle.c_terms.specs.Trees.{leaves}
use Rattle.smpl_patch.specs.declared.pattern.Pattern.{Pattern}
use Rattle.smpl_patch.specs.declared.elem.Dots.{Dots}
use Rattle.smpl_patch.specs.declared.elem.Elem.{Elem}
use Rattle.smpl_patch.specs.Bodies.{Bodies, body}
use Rattle.smpl_patch.specs.Shapes.{patterns_body, patterns_bodies}
use Rattle.smpl_patch.specs.Sound.{none_alike}
use Rattle.smpl_patch.proofs.BodyLemmas.{bodies}
use Rattle.smpl_meta.specs.declared.patterns.Placed.{Placed}
use Rattle.smpl_body.specs.declared.smpl_when.clauses.WhenFlags.{WhenFlags}
use Rattle.smpl_body.specs.declared.smpl_when.cutting.Code.{Code}
use Rattle.smpl_body.specs.SmplWhen.Cutting.{cut}
use Rattle.smpl_body.specs.SmplWhen.Grammar.{IsCut, numbers_at, said_from}
use Rattle.smpl_body.specs.SmplElem.Elements.{atoms, elements}
use Rattle.smpl_body.specs.Spelled.{body_forms}
use Rattle.smpl_body.specs.Bodies.{is_any, is_strict, codes_of, code_dots, code_at, whens_of, body_dots, starts_from, IsBody}
use Rattle.sound_laws.proofs.SmplFormed.AtomLemmas.{occurs, occurs_append, hits, hits_split, hits_once, behind, load, tree_light, all_differ}
use Rattle.sound_laws.specs.SmplFormed.Bodies.{CountFrom}
use Rattle.sound_laws.proofs.SmplFormed.CutLemmas.{AllShort, parts_short, bit, times, own_times, count_once, codes_at}
use Rattle.sound_laws.proofs.SmplFormed.ReadLemmas.{dots_rolled, IsTop, top_read, AllTop, all_top}

-- ---- values in a list

abbrev sum : List ℕ → ℕ
sum [] = 0
sum (v ∷ vs) = v + sum vs

abbrev nth : List ℕ → ℕ → ℕ
nth [] i = 0
nth (v ∷ vs) zero = v
nth (v ∷ vs) (suc i) = nth vs i

-- so many values from one on
abbrev run : List ℕ → (first count : ℕ) → ℕ
run vs j zero = 0
run vs j (suc m) = nth vs j + run vs (suc j) m

run_none : (j m : ℕ) → run [] j m ≡ 0
run_none j zero = refl
run_none j (suc m) = omega (arith, run_none (suc j) m)

run_rest : (v : ℕ) (vs : List ℕ) (j m : ℕ) → run (v ∷ vs) (suc j) m ≡ run vs j m
run_rest v vs j zero = refl
run_rest v vs j (suc m) = omega (arith, run_rest v vs (suc j) m)

run_all : (vs : List ℕ) (m : ℕ) → run vs 0 m ≤ sum vs
run_all [] m = omega (arith, run_none 0 m)
run_all (v ∷ vs) zero = omega arith
run_all (v ∷ vs) (suc m) = omega (arith, run_rest v vs 0 m, run_all vs m)

module _ (vs : List ℕ) where
  -- the values of some places
  abbrev tally : List ℕ → ℕ
  tally [] = 0
  tally (k ∷ ks) = nth vs k + tally ks

  -- of each token the values of its codes
  abbrev spread : ℕ → List Code → List Token → ℕ
  spread j cs [] = 0
  spread j cs (t ∷ ts) = tally (numbers_at t.id j cs) + spread j cs ts

  abbrev heads : ℕ → ℕ → List Token → ℕ
  heads h v [] = 0
  heads h v (t ∷ ts) = (if t.id == h then v else 0) + heads h v ts

  no_heads : (h v : ℕ) (ts : List Token) → times h ts ≡ 0 → heads h v ts ≡ 0
  no_heads h v [] e = refl
  no_heads h v (t ∷ ts) e = by (t.id == h) e (no_heads h v ts)
    where
      by : (b : Bool) → bit b + times h ts ≡ 0 → (times h ts ≡ 0 → heads h v ts ≡ 0) → (if b then v else 0) + heads h v ts ≡ 0
      by true g r = absurd (omega (arith, g))
      by false g r = omega (arith, r (omega (arith, g)))

  one_head : (h v : ℕ) (ts : List Token) → times h ts ≤ 1 → heads h v ts ≤ v
  one_head h v [] e = omega arith
  one_head h v (t ∷ ts) e = by (t.id == h) e (one_head h v ts)
    where
      by : (b : Bool) → bit b + times h ts ≤ 1 → (times h ts ≤ 1 → heads h v ts ≤ v) → (if b then v else 0) + heads h v ts ≤ v
      by true g r = omega (arith, no_heads h v ts (omega (arith, g)))
      by false g r = omega (arith, r (omega (arith, g)))

  spread_more : (j : ℕ) (c : Code) (cs : List Code) (ts : List Token) → spread j (c ∷ cs) ts ≡ heads c.host (nth vs j) ts + spread (suc j) cs ts
  spread_more j c cs [] = refl
  spread_more j c cs (t ∷ ts) = by (t.id == c.host) (spread_more j c cs ts)
    where
      by : (b : Bool) → spread j (c ∷ cs) ts ≡ heads c.host (nth vs j) ts + spread (suc j) cs ts
          → tally (if b then j ∷ numbers_at t.id (suc j) cs else numbers_at t.id (suc j) cs) + spread j (c ∷ cs) ts
          ≡ ((if b then nth vs j else 0) + heads c.host (nth vs j) ts) + (tally (numbers_at t.id (suc j) cs) + spread (suc j) cs ts)
      by true r = omega (arith, r)
      by false r = omega (arith, r)

  spread_none : (j : ℕ) (ts : List Token) → spread j [] ts ≡ 0
  spread_none j [] = refl
  spread_none j (t ∷ ts) = omega (arith, spread_none j ts)

  spread_all : (j : ℕ) (cs : List Code) (ts : List Token) → ((h : ℕ) → times h ts ≤ 1) → spread j cs ts ≤ run vs j (length cs)
  spread_all j [] ts o = omega (arith, spread_none j ts)
  spread_all j (c ∷ cs) ts o = omega (arith, spread_more j c cs ts, one_head c.host (nth vs j) ts (o c.host), spread_all (suc j) cs ts o)

-- what is said of a token are its codes, or nothing
abbrev Told : List WhenFlags → List Code → ℕ → Type 0
Told said cs id = (codes_of (slice_get said id) ≡ []) ⊎ (codes_of (slice_get said id) ≡ numbers_at id 0 cs)

told : (ps : List Placed) → IsCut ps (cut ps) → (id : ℕ) → Told (cut ps).said (cut ps).codes id
told ps c id = subst (λ (l : List WhenFlags). Told l (cut ps).codes id) (sym c.said)
    (subst (λ (ds : List Code). Told (said_from 0 ps c.parts) ds id) (sym c.codes) (codes_at ps c.parts id))

told_cost : (vs : List ℕ) (b : ℕ) (said : List WhenFlags) (cs : List Code) (id : ℕ)
    → b ≤ tally vs (codes_of (slice_get said id)) → Told said cs id → b ≤ tally vs (numbers_at id 0 cs)
told_cost vs b said cs id le (inl e) = omega (arith, le, ap (tally vs) e)
told_cost vs b said cs id le (inr e) = omega (arith, le, ap (tally vs) e)

-- ---- the patterns of code

module _ (x : ℕ) where
  -- how often each code's patterns have the number, where the first of them has the number n
  abbrev costs : ℕ → List Tree → List ℕ
  costs n [] = []
  costs n (t ∷ ts) = hits x n (atoms t) ∷ costs (n + atoms t) ts

  abbrev all_atoms : List Tree → ℕ
  all_atoms [] = 0
  all_atoms (t ∷ ts) = atoms t + all_atoms ts

  costs_sum : (n : ℕ) (ts : List Tree) → sum (costs n ts) ≡ hits x n (all_atoms ts)
  costs_sum n [] = refl
  costs_sum n (t ∷ ts) = omega (arith, costs_sum (n + atoms t) ts, hits_split x n (atoms t) (all_atoms ts))

  no_load : (dots : ℕ → Dots) → ((id : ℕ) → behind x dots id ≡ 0) → (ts : List Token) → load x dots ts ≡ 0
  no_load dots h [] = refl
  no_load dots h (t ∷ ts) = omega (arith, h t.id, no_load dots h ts)

  bodies_append : (xs ys : List (List Elem))
      → occurs x (patterns_bodies (bodies (xs ++ ys))) ≡ occurs x (patterns_bodies (bodies xs)) + occurs x (patterns_bodies (bodies ys))
  bodies_append [] ys = omega arith
  bodies_append (b ∷ xs) ys =
      omega (
        arith,
        occurs_append x (patterns_body (body b)) (patterns_bodies (bodies (xs ++ ys))),
        occurs_append x (patterns_body (body b)) (patterns_bodies (bodies xs)),
        bodies_append xs ys,
      )

  loaded : (dots : ℕ → Dots) (vs : List ℕ) (cs : List Code) → ((id : ℕ) → behind x dots id ≤ tally vs (numbers_at id 0 cs))
      → (ts : List Token) → load x dots ts ≤ spread vs 0 cs ts
  loaded dots vs cs h [] = omega arith
  loaded dots vs cs h (t ∷ ts) = omega (arith, h t.id, loaded dots vs cs h ts)

  module _ (said : List WhenFlags) where
    code_bare : (id : ℕ) → behind x (code_dots said) id ≡ 0
    code_bare id = ap (λ (b : Bodies). occurs x (patterns_bodies b)) (dots_rolled [] (is_any (slice_get said id)) (is_strict (slice_get said id)))

    code_cost : {m : ℕ} {tokens : List Token} (t : Tree) → IsTop m tokens t → (n : ℕ)
        → occurs x (patterns_body (body (elements (code_dots said) n t))) ≤ hits x n (atoms t)
    code_cost t top n = omega (arith, tree_light x (code_dots said) top.formed n, no_load (code_dots said) code_bare (leaves t))

    at_cost : (m : ℕ) (cs : List Code) (ts : List Tree) (n k : ℕ) → AllTop m cs ts
        → occurs x (patterns_bodies (bodies (code_at said (slice_get ts k) (slice_get (starts_from n ts) k)))) ≤ nth (costs n ts) k
    at_cost m [] [] n k h = omega arith
    at_cost m [] (t ∷ ts) n k h = absurd h
    at_cost m (c ∷ cs) [] n k h = absurd h
    at_cost m (c ∷ cs) (t ∷ ts) n zero h =
        omega (arith, ap (λ (ps : List Pattern). occurs x ps) (append-nil (patterns_body (body (elements (code_dots said) n t)))), code_cost t h.0 n)
    at_cost m (c ∷ cs) (t ∷ ts) n (suc k) h = at_cost m cs ts (n + atoms t) k h.1

    whens_cost : (m : ℕ) (cs : List Code) (ts : List Tree) (n : ℕ) (ks : List ℕ) → AllTop m cs ts
        → occurs x (patterns_bodies (bodies (whens_of said ts (starts_from n ts) ks))) ≤ tally (costs n ts) ks
    whens_cost m cs ts n [] h = omega arith
    whens_cost m cs ts n (k ∷ ks) h =
        omega (
          arith,
          bodies_append (code_at said (slice_get ts k) (slice_get (starts_from n ts) k))
              (whens_of said ts (starts_from n ts) ks),
          at_cost m cs ts n k h,
          whens_cost m cs ts n ks h,
        )

    behind_cost : (m : ℕ) (cs : List Code) (ts : List Tree) (n id : ℕ) → AllTop m cs ts
        → behind x (body_dots said ts (starts_from n ts)) id ≤ tally (costs n ts) (codes_of (slice_get said id))
    behind_cost m cs ts n id h =
        let ks = codes_of (slice_get said id) in
        omega (
          arith,
          ap (λ (b : Bodies). occurs x (patterns_bodies b))
              (dots_rolled (whens_of said ts (starts_from n ts) ks) (is_any (slice_get said id)) (is_strict (slice_get said id))),
          whens_cost m cs ts n ks h,
        )

  -- ---- bodies

  module _ (ps : List Placed) (es : List Elem) where
    pub number_once : IsCut ps (cut ps) → CountFrom 0 ps → IsBody ps es → occurs x (patterns_body (body es)) ≤ 1
    number_once c number is =
        let n = length ps in let ts = is.codes in let said = (cut ps).said in let cs = (cut ps).codes in let main = (cut ps).main in
        let short = parts_short c.are in
        let each_short : AllShort n cs = subst (λ (ds : List Code). AllShort n ds) (sym c.codes) short.each in
        let main_short : length main ≤ n = omega (arith, ap length c.main, short.own) in
        let tops = all_top n cs ts each_short is.spells.code in
        let top = top_read body_forms n main is.tree main_short is.spells.body in
        let first = atoms is.tree in
        let dots = body_dots said ts (starts_from first ts) in
        let vs = costs first ts in
        let once : (h : ℕ) → times h main ≤ 1 = λ h. omega (arith, ap (times h) c.main, own_times h c.are, count_once h 0 ps number) in
        let token_cost : (id : ℕ) → behind x dots id ≤ tally vs (numbers_at id 0 cs) =
        λ id. told_cost vs (behind x dots id) said cs id (behind_cost said n cs ts first id tops) (told ps c id) in
        let all : load x dots main ≤ spread vs 0 cs main = loaded dots vs cs token_cost main in
        let light : occurs x (patterns_body (body (elements dots 0 is.tree))) ≤ hits x 0 first + load x dots (leaves is.tree) =
        tree_light x dots top.formed 0 in
        let zero' : 0 + first ≡ first = omega arith in
        omega (
          arith,
          ap (λ (xs : List Elem). occurs x (patterns_body (body xs))) is.are,
          light,
          ap (load x dots) top.are,
          all,
          spread_all vs 0 cs main once,
          run_all vs (length cs),
          costs_sum first ts,
          hits_split x 0 first (all_atoms ts),
          ap (λ j. hits x j (all_atoms ts)) zero',
          hits_once x 0 (first + all_atoms ts),
        )

pub body_atoms : (ps : List Placed) (es : List Elem) → IsCut ps (cut ps) → CountFrom 0 ps → IsBody ps es
    → none_alike (λ (p q : Pattern). nat_eq p.atom q.atom) (patterns_body (body es)) ≡ true
body_atoms ps es c number is = all_differ (patterns_body (body es)) (λ x. number_once x ps es c number is)
