-- Sets of names, and the witnesses of each rule.
use Rattle.std.proofs.Common.{arith, ◌≡◌, ◌≢◌, ℕ, ◌+◌, ◌<◌, ◌≤◌, ◌⊎◌, inl, inr, Bool, true, false, ◌||◌, cond, eqb, refl, sym}
use Rattle.std.proofs.Common.{ap, ◌∙◌, List, [], ◌∷◌, ◌++◌, map, length, get_or, take, set, nat_eq}
use Rattle.std.specs.List.{list_any, filter}
use Rattle.std.proofs.lemmas.List.Folds.{list_any-append}
use Rattle.std.proofs.lemmas.List.Elements.{filter-append, filter_more}
use Rattle.std.proofs.lemmas.List.{get_or-set_same, get_or-set_other, length-set, take_more, map-set, length-map, map-append, get_or-map, append-nil}
use Rattle.std.specs.Prelude.{Vec}
use Rattle.std.specs.Borrow.{Bor}
use Rattle.std.specs.Cmp.Lexicographic.{pointwise}
use Rattle.std.proofs.lemmas.Bool.{eq-eqb}
use Rattle.std.proofs.lemmas.Bool.Decides.{eqb_tells}
use Rattle.c_terms.proofs.NamesLemmas.{put-new}
use Rattle.c_terms.specs.Same.{same_bytes}
use Rattle.c_terms.specs.Names.{has_name, with_name}
use Rattle.smpl_patch.specs.declared.witness.RuleWitness.{RuleWitness}
use Rattle.smpl_terms.specs.declared.var.Var.{Var}
use Rattle.smpl_patch.specs.declared.pattern.VarDecl.{VarDecl}
use Rattle.wit_print.specs.Report.{is_reported}
use Rattle.wit_print.specs.Groups.{own, AreGroups, shown_groups}
use Rattle.c_terms.proofs.SameLaws.{bytes-sym, bytes-along}

present : (names : List (List ℕ)) (name m : List ℕ) → has_name names name ≡ true → same_bytes m name ≡ true → has_name names m ≡ true
present [] name m h e = absurd (cc)
present (x ∷ xs) name m h e = by (same_bytes m x) (same_bytes name x) (λ k. present xs name m k e) refl refl h
  where
    by : (a b : Bool) → (has_name xs name ≡ true → has_name xs m ≡ true) → same_bytes m x ≡ a → same_bytes name x ≡ b
        → (b || has_name xs name) ≡ true → (a || has_name xs m) ≡ true
    by true b next p q k = refl
    by false true next p q k = let along = bytes-along m name e x in absurd (cc)
    by false false next p q k = next k

-- one more name in a set
pub has_more : (names : List (List ℕ)) (name m : List ℕ) → has_name (names ++ name ∷ []) m ≡ (has_name names m || same_bytes name m)
has_more names name m = let e = list_any-append (same_bytes m) names (name ∷ []) in by (same_bytes m name) refl e
  where
    by : (b : Bool) → same_bytes m name ≡ b → has_name (names ++ name ∷ []) m ≡ (has_name names m || (same_bytes m name || false))
        → has_name (names ++ name ∷ []) m ≡ (has_name names m || same_bytes name m)
    by true h e = let s = bytes-sym m name in grind (arith, s, h, e)
    by false h e = let s = bytes-sym m name in grind (arith, s, h, e)

-- a name that is already in the set
pub has_again : (names : List (List ℕ)) (name m : List ℕ) → has_name names name ≡ true → has_name names m ≡ (has_name names m || same_bytes name m)
has_again names name m h = by (same_bytes m name) refl
  where
    by : (b : Bool) → same_bytes m name ≡ b → has_name names m ≡ (has_name names m || same_bytes name m)
    by true e = let p = present names name m h e in let s = bytes-sym m name in grind (arith, p, s, e)
    by false e = let s = bytes-sym m name in grind (arith, s, e)

-- ---- witnesses

own_more : (n : ℕ) (ws : List RuleWitness) (w : RuleWitness) → own n (ws ++ w ∷ []) ≡ own n ws ++ cond (eqb w.rule n) (w ∷ []) []
own_more n ws w = filter-append (λ v. eqb v.rule n) ws (w ∷ [])

own_it : (n : ℕ) (ws : List RuleWitness) (w : RuleWitness) → eqb w.rule n ≡ true → own n (ws ++ w ∷ []) ≡ own n ws ++ w ∷ []
own_it n ws w e = own_more n ws w ∙ ap (λ b. own n ws ++ cond b (w ∷ []) []) e

own_not : (n : ℕ) (ws : List RuleWitness) (w : RuleWitness) → eqb w.rule n ≡ false → own n (ws ++ w ∷ []) ≡ own n ws
own_not n ws w e = own_more n ws w ∙ ap (λ b. own n ws ++ cond b (w ∷ []) []) e ∙ append-nil (own n ws)

-- a witness of one of the rules is added to its rule's group
pub group_more : (count : ℕ) (ws : List RuleWitness) (w : RuleWitness) (groups : List (List RuleWitness)) → w.rule < count → AreGroups count ws groups
    → AreGroups count (ws ++ w ∷ []) (set groups w.rule (get_or groups w.rule [] ++ w ∷ []))
group_more count ws w groups lt are = record {
  many = length-set groups w.rule (get_or groups w.rule [] ++ w ∷ []) ∙ are.many;
  each = λ n below. by n below (eqb_tells w.rule n);
}
  where
    by : (n : ℕ) → n < count → ((eqb w.rule n ≡ true) × (w.rule ≡ n)) ⊎ ((eqb w.rule n ≡ false) × (w.rule ≢ n))
        → get_or (set groups w.rule (get_or groups w.rule [] ++ w ∷ [])) n [] ≡ own n (ws ++ w ∷ [])
    by n below (inl (e, same)) =
        let inside : w.rule < length groups = omega (arith, lt, are.many) in
        ap (λ k. get_or (set groups w.rule (get_or groups w.rule [] ++ w ∷ [])) k []) (sym same)
        ∙ get_or-set_same groups w.rule (get_or groups w.rule [] ++ w ∷ []) [] inside
        ∙ ap (λ k. get_or groups k [] ++ w ∷ []) same ∙ ap (λ g. g ++ w ∷ []) (are.each n below) ∙ sym (own_it n ws w e)
    by n below (inr (e, other)) =
        get_or-set_other groups w.rule n (get_or groups w.rule [] ++ w ∷ []) [] (λ s. other (sym s)) ∙ are.each n below ∙ sym (own_not n ws w e)

-- a witness of any other rule is added to no group
pub group_none : (count : ℕ) (ws : List RuleWitness) (w : RuleWitness) (groups : List (List RuleWitness)) → count ≤ w.rule → AreGroups count ws groups
    → AreGroups count (ws ++ w ∷ []) groups
group_none count ws w groups le are = record {
  many = are.many;
  each = λ n below. by n below (eqb_tells w.rule n);
}
  where
    by : (n : ℕ) → n < count → ((eqb w.rule n ≡ true) × (w.rule ≡ n)) ⊎ ((eqb w.rule n ≡ false) × (w.rule ≢ n)) → get_or groups n [] ≡ own n (ws ++ w ∷ [])
    by n below (inl (e, same)) = absurd (omega (arith, same, below, le))
    by n below (inr (e, other)) = are.each n below ∙ sym (own_not n ws w e)

-- a set to which a missing name is added
pub has_put : {K : Type 0} (f : K → List ℕ) (keys new : List K) (k : K) (name m : List ℕ) → f k ≡ name → has_name (map f keys) name ≡ false
    → new ≡ cond (list_any (λ x. pointwise nat_eq (f k) (f x)) keys) keys (keys ++ k ∷ [])
    → has_name (map f new) m ≡ (has_name (map f keys) m || same_bytes name m)
has_put f keys new k name m e h is =
    let added : map f new ≡ with_name (map f keys) name = ap (map f) is ∙ put-new f keys k name e h in
    ap (λ names. has_name names m) (added ∙ rw h refl) ∙ has_more (map f keys) name m

-- what processing one more witness does
pub group_next : (count i : ℕ) (ws : List RuleWitness) (w : RuleWitness) (groups : List (List RuleWitness)) → i < length ws → get_or ws i w ≡ w
    → AreGroups count (take i ws ++ w ∷ []) groups → AreGroups count (take (i + 1) ws) groups
group_next count i ws w groups lt is are = rw (take_more ws i w lt, is) are

-- the groups that the borrows lead to: the witness is added to its own group, or to none
pub group_put : {Z : Type 0} (count : ℕ) (before : List RuleWitness) (groups : List (Vec (Bor RuleWitness) Z))
    (w : Bor RuleWitness) (old new : Vec (Bor RuleWitness) Z)
    → w.now.rule < length groups → old ≡ get_or groups w.now.rule old → new.items ≡ old.items ++ w ∷ []
    → AreGroups count before (shown_groups groups) → AreGroups count (before ++ w.now ∷ []) (shown_groups (set groups w.now.rule new))
group_put {Z} count before groups w old new lt is pushed are =
    let shown = λ (g : Vec (Bor RuleWitness) Z). map (λ v. v.now) g.items in
    let many : length groups ≡ count = sym (length-map groups shown) ∙ are.many in
    let here : get_or (shown_groups groups) w.now.rule [] ≡ shown old = get_or-map shown groups w.now.rule old [] lt ∙ ap shown (sym is) in
    let grown : shown new ≡ get_or (shown_groups groups) w.now.rule [] ++ w.now ∷ [] =
    ap (map (λ v. v.now)) pushed ∙ map-append (λ v. v.now) old.items (w ∷ []) ∙ ap (λ g. g ++ w.now ∷ []) (sym here) in
    let all = group_more count before w.now (shown_groups groups) (omega (arith, lt, many)) are in
    rw (map-set shown groups w.now.rule new, grown) all

-- ---- variables

pub reported_next : (exports : List Var) (keys : List (List ℕ)) (all : List VarDecl) (i : ℕ) (d : VarDecl) (old new : List VarDecl) (told : Bool)
    → i < length all → get_or all i d ≡ d → ((name : List ℕ) → has_name keys name ≡ list_any (λ x. same_bytes x.name name) exports)
    → told ≡ (d.inherited || has_name keys d.var.name) → old ≡ filter (is_reported exports) (take i all) → new ≡ old ++ cond told (d ∷ []) []
    → new ≡ filter (is_reported exports) (take (i + 1) all)
reported_next exports keys all i d old new told lt is names tells before after =
    after ∙ ap (λ b. old ++ cond b (d ∷ []) []) (tells ∙ ap (λ b. d.inherited || b) (names d.var.name))
    ∙ ap (λ vs. vs ++ cond (is_reported exports d) (d ∷ []) []) before
    ∙ ap (λ e. filter (is_reported exports) (take i all) ++ cond (is_reported exports e) (e ∷ []) []) (sym is)
    ∙ sym (filter_more (is_reported exports) all i d lt)
