-- The parts of a set by the values of one variable.
use Rattle.std.proofs.Common.{◌≡◌, ℕ, suc, zero, ◌+◌, ◌<◌, ◌≤◌, Bool, true, false, ◌&&◌, ◌||◌, not, cond, refl, sym, ap, ◌∙◌}
use Rattle.std.proofs.Common.{arith, List, [], ◌∷◌, ◌++◌, append-nil, subst, length, get_or, take, drop, set, inl, inr, ◌⊎◌}
use Rattle.std.proofs.Common.{⊎_elim}
use Rattle.std.specs.List.{list_any}
use Rattle.std.proofs.lemmas.Grind.{common_steps}
use Rattle.std.proofs.lemmas.Bool.{cases_eq}
use Rattle.std.proofs.lemmas.List.{get_or-set_same, get_or-set_other, get_or_default, length-set, take_more}
use Rattle.smpl_terms.specs.declared.var.Var.{Var}
use Rattle.smpl_terms.specs.declared.value.Value.{Value}
use Rattle.smpl_terms.specs.Values.{same}
use Rattle.smpl_terms.specs.Vars.{same_var}
use Rattle.smpl_terms.specs.Environments.{Environment}
use Rattle.smpl_terms.proofs.ValueLaws.{same-sym, same-along}
use Rattle.smpl_terms.proofs.VarLaws.{same_var-equal}
use Rattle.env_sets.specs.declared.bounds.Bound.{Bound}
use Rattle.env_sets.specs.Bounds.{fits}
use Rattle.env_sets.specs.Rising.{Rise}
use Rattle.env_sets.specs.Sets.{entry_denotes, entry_vars, set_denotes, set_vars}
use Rattle.env_sets.specs.Splits.{passes, without, restricted, are_allowed, occurs, size_of, AreRestrictions}
use Rattle.env_sets.proofs.LoopLemmas.{and-true}
use Rattle.env_sets.proofs.BoundLemmas.{fits-along, any_same-along}
use Rattle.env_sets.proofs.RisingLemmas.{rise_apart, less_apart}
use Rattle.env_sets.proofs.SplitLemmas.{restricted-push, occurs_size}

first_false : (a b : Bool) → (a || b) ≡ false → a ≡ false
first_false true b h = absurd cc
first_false false b h = refl

second_false : (a b : Bool) → (a || b) ≡ false → b ≡ false
second_false true b h = absurd cc
second_false false b h = h

-- what no member passes, one does not pass
pub any_none : {X : Type 0} (q : X → Bool) (xs : List X) (i : ℕ) (x : X) → i < length xs → x ≡ get_or xs i x → list_any q xs ≡ false → q x ≡ false
any_none q [] i x lt e h = absurd (omega arith)
any_none q (y ∷ ys) zero x lt e h = ap q e ∙ first_false (q y) (list_any q ys) h
any_none q (y ∷ ys) (suc i) x lt e h = any_none q ys i x (omega arith) e (second_false (q y) (list_any q ys) h)

-- what an entry adds to a part
abbrev pub added : Var → Value → List (Var × Bound) → List (List (Var × Bound))
added x v e = cond (passes x (fits v) e) (without x e ∷ []) []

adds_none : (x : Var) (v : Value) (e : List (Var × Bound)) (part es : List (List (Var × Bound))) → passes x (fits v) e ≡ false → part ≡ restricted x (fits v) es
    → part ≡ restricted x (fits v) (es ++ e ∷ [])
adds_none x v e part es h k = k ∙ sym (append-nil (restricted x (fits v) es))
    ∙ ap (λ b. restricted x (fits v) es ++ cond b (without x e ∷ []) []) (sym h) ∙ sym (restricted-push x (fits v) es e)

adds_one : (x : Var) (v : Value) (e : List (Var × Bound)) (part next es : List (List (Var × Bound)))
    → part ≡ restricted x (fits v) es → next ≡ part ++ added x v e
    → next ≡ restricted x (fits v) (es ++ e ∷ [])
adds_one x v e part next es h k = k ∙ ap (λ p. p ++ added x v e) h ∙ sym (restricted-push x (fits v) es e)

-- no part allows the entry
pub parts_kept : (x : Var) (values : List Value) (parts : List (List (List (Var × Bound)))) (e : List (Var × Bound)) (v : Value)
    → ((u : Value) → same v u ≡ false → passes x (fits u) e ≡ false) → list_any (λ w. same w v) values ≡ false
    → (es : List (List (Var × Bound))) → AreRestrictions x values es parts → AreRestrictions x values (es ++ e ∷ []) parts
parts_kept x values parts e v only none es h = (
  h.0,
  λ k u lt at.
      let apart : same u v ≡ false = any_none (λ w. same w v) values k u lt at none in
      adds_none x u e (get_or parts k []) es (only u (same-sym v u ∙ apart)) (h.1 k u lt at),
)

apart_cases : (j k : ℕ) → (j ≡ k → ⊥) → (j < k) ⊎ (k < j)
apart_cases zero zero h = absurd (h refl)
apart_cases zero (suc k) h = inl (omega arith)
apart_cases (suc j) zero h = inr (omega arith)
apart_cases (suc j) (suc k) h = ⊎_elim (λ (l : j < k). inl (omega (arith, l))) (λ (l : k < j). inr (omega (arith, l))) (apart_cases j k (λ e. h (ap suc e)))

before : (j n : ℕ) → (j ≡ n → ⊥) → j < n + 1 → j < n
before j n other less = ⊎_elim (λ (l : j < n). l) (λ (l : n < j). absurd (omega arith)) (apart_cases j n other)

-- values of two places are not the same
pub two_places : (ws : List Value) (j k : ℕ) (x y : Value) → Rise ws → (j ≡ k → ⊥) → j < length ws → k < length ws
    → x ≡ get_or ws j x → y ≡ get_or ws k y → same y x ≡ false
two_places ws j k x y r ne lj lk e f =
    ⊎_elim
    (λ (h : j < k). same-sym y x ∙ less_apart x y (rise_apart ws j k x y r h lk e f))
    (λ (h : k < j). less_apart y x (rise_apart ws k j y x r h lj f e))
    (apart_cases j k ne)

-- one part allows the entry
pub parts_put : (x : Var) (values : List Value) (parts next : List (List (List (Var × Bound)))) (e : List (Var × Bound)) (v w : Value) (k : ℕ)
    → Rise values → ((u : Value) → same v u ≡ false → passes x (fits u) e ≡ false) → k < length values → w ≡ get_or values k w → same w v ≡ true
    → next ≡ set parts k (get_or parts k [] ++ added x w e)
    → (es : List (List (Var × Bound))) → AreRestrictions x values es parts → AreRestrictions x values (es ++ e ∷ []) next
parts_put x values parts next e v w k r only within here fits_there is es h = (
  ap length is ∙ length-set parts k (get_or parts k [] ++ added x w e) ∙ h.0,
  λ j u lt at. ⊎_elim
      (λ (same_place : j ≡ k).
      let equal : u ≡ w = at ∙ ap (λ i. get_or values i u) same_place ∙ get_or_default values k u w within ∙ sym here in
      let now : get_or next j [] ≡ get_or parts k [] ++ added x w e =
      (λ i. get_or (is i) (same_place i) []) ∙ get_or-set_same parts k (get_or parts k [] ++ added x w e) [] (omega (arith, within, h.0)) in
      adds_one x w e (get_or parts k []) (get_or next j []) es (h.1 k w within here) now ∙ ap (λ z. restricted x (fits z) (es ++ e ∷ [])) (sym equal))
      (λ (other : j ≡ k → ⊥).
      let apart : same w u ≡ false = two_places values j k u w r other lt within at here in
      let not_allowed : passes x (fits u) e ≡ false = only u (same-sym v u ∙ sym (same-along w v fits_there u) ∙ same-sym u w ∙ apart) in
      ap (λ ps. get_or ps j []) is ∙ get_or-set_other parts k j (get_or parts k [] ++ added x w e) [] other
      ∙ adds_none x u e (get_or parts j []) es not_allowed (h.1 j u lt at))
      (cases_eq j k),
)

-- each part so far has the entry, if the entry allows its value
abbrev pub Halfway : Var → List Value → List (List (Var × Bound)) → List (Var × Bound) → ℕ → List (List (List (Var × Bound))) → Type 0
Halfway x values es e n parts = (length parts ≡ length values) × ((j : ℕ) (u : Value) → j < length values → u ≡ get_or values j u
    → (j < n → get_or parts j [] ≡ restricted x (fits u) (es ++ e ∷ [])) × (n ≤ j → get_or parts j [] ≡ restricted x (fits u) es))

pub halfway_start : (x : Var) (values : List Value) (es : List (List (Var × Bound))) (e : List (Var × Bound))
    (parts : List (List (List (Var × Bound)))) → AreRestrictions x values es parts → Halfway x values es e 0 parts
halfway_start x values es e parts h = (h.0, λ j u lt at. (λ no. absurd (omega arith), λ _. h.1 j u lt at))

pub halfway_end : (x : Var) (values : List Value) (es : List (List (Var × Bound))) (e : List (Var × Bound)) (n : ℕ)
    (parts : List (List (List (Var × Bound)))) → length values ≤ n → Halfway x values es e n parts → AreRestrictions x values (es ++ e ∷ []) parts
halfway_end x values es e n parts all h = (h.0, λ j u lt at. (h.1 j u lt at).0 (omega arith))

pub halfway_step : (x : Var) (values : List Value) (es : List (List (Var × Bound))) (e : List (Var × Bound)) (n : ℕ) (w : Value)
    (parts next : List (List (List (Var × Bound))))
    → n < length values → w ≡ get_or values n w → next ≡ set parts n (get_or parts n [] ++ added x w e)
    → Halfway x values es e n parts → Halfway x values es e (n + 1) next
halfway_step x values es e n w parts next within here is h = (
  ap length is ∙ length-set parts n (get_or parts n [] ++ added x w e) ∙ h.0,
  λ j u lt at. ⊎_elim
      (λ (same_place : j ≡ n).
      let equal : u ≡ w = at ∙ ap (λ i. get_or values i u) same_place ∙ get_or_default values n u w within ∙ sym here in
      let now : get_or next j [] ≡ get_or parts n [] ++ added x w e =
      (λ i. get_or (is i) (same_place i) []) ∙ get_or-set_same parts n (get_or parts n [] ++ added x w e) [] (omega (arith, within, h.0)) in (
        λ _. adds_one x u e (get_or parts n []) (get_or next j []) es
            ((h.1 n u within (at ∙ ap (λ i. get_or values i u) same_place)).1 (omega arith)) (now ∙ ap (λ z. get_or parts n [] ++ added x z e) (sym equal)),
        λ more. absurd (omega arith),
      ))
      (λ (other : j ≡ n → ⊥).
      let kept : get_or next j [] ≡ get_or parts j [] =
      ap (λ ps. get_or ps j []) is ∙ get_or-set_other parts n j (get_or parts n [] ++ added x w e) [] other in (
        λ less. kept ∙ (h.1 j u lt at).0 (before j n other less),
        λ more. kept ∙ (h.1 j u lt at).1 (omega arith),
      ))
      (cases_eq j n),
)

-- an entry that bounds x alone
pub lone_entry : (x : Var) (env : Environment) (ps : List (Var × Bound)) → entry_vars (λ y. same_var y x) ps ≡ true
    → entry_denotes ps env ≡ passes x (fits (env x)) ps
lone_entry x env [] h = refl
lone_entry x env (p ∷ ps) h =
    let here : same_var p.0 x ≡ true = grind (arith, common_steps) in
    let rest = lone_entry x env ps (grind (arith, common_steps)) in
    let equal = ap (λ y. fits (env y) p.1) (same_var-equal p.0 x here) in
    grind (arith, common_steps)

pub lone_set : (x : Var) (env : Environment) (es : List (List (Var × Bound))) → set_vars (λ y. same_var y x) es ≡ true
    → set_denotes es env ≡ list_any (λ e. passes x (fits (env x)) e) es
lone_set x env [] h = refl
lone_set x env (e ∷ es) h =
    let first = lone_entry x env e (grind (arith, common_steps)) in
    let rest = lone_set x env es (grind (arith, common_steps)) in
    (λ i. first i || rest i)

-- values that are the same are allowed alike
passes_along : (x : Var) (v z : Value) → same v z ≡ true → (ps : List (Var × Bound)) → passes x (fits v) ps ≡ passes x (fits z) ps
passes_along x v z h [] = refl
passes_along x v z h (p ∷ ps) = λ i. (not (same_var p.0 x) || fits-along v z h p.1 i) && passes_along x v z h ps i

any_passes_along : (x : Var) (v z : Value) → same v z ≡ true → (es : List (List (Var × Bound)))
    → list_any (λ e. passes x (fits v) e) es ≡ list_any (λ e. passes x (fits z) e) es
any_passes_along x v z h [] = refl
any_passes_along x v z h (e ∷ es) = λ i. passes_along x v z h e i || any_passes_along x v z h es i

-- what parts of a set whose other entries bound x alone allow
pub allowed_alike : (x : Var) (v : Value) (env : Environment) (fixed : List Value) (others : List (List (Var × Bound)))
    → set_vars (λ y. same_var y x) others ≡ true
    → same v (env x) ≡ true → are_allowed x v fixed others ≡ (list_any (λ w. same w (env x)) fixed || set_denotes others env)
allowed_alike x v env fixed others lone h =
    let e = any_passes_along x v (env x) h others ∙ sym (lone_set x env others lone) in
    (λ i. any_same-along v (env x) h fixed i || e i)

-- an entry with one bound, of x
pub one_bound : (e pairs : List (Var × Bound)) (p : Var × Bound) (x : Var) (env : Environment) → pairs ≡ e → 1 ≤ length pairs → length pairs < 2
    → p ≡ get_or pairs 0 p → same_var p.0 x ≡ true → entry_denotes e env ≡ fits (env x) p.1
one_bound e [] p x env f some one at here = absurd (omega arith)
one_bound e (q ∷ []) p x env f some one at here =
    ap (λ ps. entry_denotes ps env) (sym f) ∙ and-true (fits (env q.0) q.1) ∙ ap (λ (r : Var × Bound). fits (env r.0) r.1) (sym at)
    ∙ ap (λ y. fits (env y) p.1) (same_var-equal p.0 x here)
one_bound e (q ∷ r ∷ ps) p x env f some one at here = absurd (omega arith)

-- values, of which those outside the set are kept
pub lone_end : (any A : Bool) → (any ≡ false → A ≡ true) → (any && not A) ≡ not A
lone_end true A h = refl
lone_end false A h = ap not (sym (h refl))

-- no parts yet
pub parts_start : (x : Var) (values : List Value) (parts : List (List (List (Var × Bound)))) (n : ℕ) → n ≡ length values
    → length parts ≡ n → ((k : ℕ) → get_or parts k [] ≡ []) → AreRestrictions x values [] parts
parts_start x values parts n e count empty = (count ∙ e, λ k v lt at. empty k)

pub empty_more : (parts : List (List (List (Var × Bound)))) (y : List (List (Var × Bound))) (k : ℕ) → y ≡ []
    → ((j : ℕ) → get_or parts j [] ≡ []) → get_or (parts ++ y ∷ []) k [] ≡ []
empty_more [] y zero e h = e
empty_more [] y (suc k) e h = refl
empty_more (p ∷ ps) y zero e h = h 0
empty_more (p ∷ ps) y (suc k) e h = empty_more ps y k e (λ j. h (suc j))

-- one more entry is read
pub parts_more : (x : Var) (values : List Value) (a : List (List (Var × Bound))) (i : ℕ) (e : List (Var × Bound)) (new whole : List (List (List (Var × Bound))))
    → i < length a → e ≡ get_or a i e → whole ≡ new → AreRestrictions x values (take i a ++ e ∷ []) new → AreRestrictions x values (take (i + 1) a) whole
parts_more x values a i e new whole lt at is h =
    let read : take i a ++ e ∷ [] ≡ take (i + 1) a = ap (λ d. take i a ++ d ∷ []) at ∙ sym (take_more a i e lt) in
    subst (λ es. AreRestrictions x values es whole) read (subst (λ ps. AreRestrictions x values (take i a ++ e ∷ []) ps) (sym is) h)

take_front : {X : Type 0} (xs ys : List X) (n : ℕ) → n ≡ length xs → take n (xs ++ ys) ≡ xs
take_front [] ys n e = ap (λ k. take k ys) e
take_front (x ∷ xs) ys zero e = absurd (omega (arith, e))
take_front (x ∷ xs) ys (suc n) e = ap (λ zs. x ∷ zs) (take_front xs ys n (omega (arith, e)))

pub written_back : {X : Type 0} (new old : List X) (n : ℕ) → n ≡ length new → take n (new ++ drop (length new) old) ≡ new
written_back new old n e = take_front new (drop (length new) old) n e

-- a part has fewer bounds than the set
pub some_value : (ws : List Value) (i : ℕ) → i < length ws → (v : Value) × (v ≡ get_or ws i v)
some_value [] i lt = absurd (omega arith)
some_value (w ∷ ws) zero lt = (w, refl)
some_value (w ∷ ws) (suc i) lt = some_value ws i (omega arith)

pub part_smaller : (x : Var) (values : List Value) (a : List (List (Var × Bound))) (parts : List (List (List (Var × Bound))))
    (i : ℕ) (part : List (List (Var × Bound)))
    → AreRestrictions x values a parts → i < length values → part ≡ get_or parts i [] → occurs x a ≡ true → size_of part < size_of a
part_smaller x values a parts i part h lt at l =
    let v = some_value values i lt in
    let e : size_of part ≡ size_of (restricted x (fits v.0) a) = ap size_of (at ∙ h.1 i v.0 lt v.1) in
    omega (arith, e, occurs_size x (fits v.0) a l)

-- what all parts leave out
pub part_is : (x : Var) (values : List Value) (a : List (List (Var × Bound))) (parts : List (List (List (Var × Bound)))) (i : ℕ)
    (part : List (List (Var × Bound))) (v : Value)
    → AreRestrictions x values a parts → i < length values → part ≡ get_or parts i [] → v ≡ get_or values i v → part ≡ restricted x (fits v) a
part_is x values a parts i part v h lt at e = at ∙ h.1 i v lt e
