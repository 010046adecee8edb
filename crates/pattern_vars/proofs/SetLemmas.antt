-- Sets of variables, and loops that put more in.
use Rattle.std.proofs.Common.{◌≡◌, ℕ, nat_lt, not, None, Some, suc, add-one, if◌then◌else◌, ◌+◌, ◌<◌, Bool, true, false, ◌&&◌}
use Rattle.std.proofs.Common.{◌||◌, cond, eqb, List, [], ◌∷◌, ◌++◌, map, length, get_or, drop, refl, sym, ap, ◌∙◌}
use Rattle.std.proofs.lemmas.List.{drop_more, length-map}
use Rattle.std.proofs.lemmas.List.Folds.{list_any-append}
use Rattle.std.specs.List.{list_any, position, position_or_len}
use Rattle.c_terms.proofs.NamesLemmas.{pointwise-same}
use Rattle.smpl_terms.specs.declared.var.Var.{Var}
use Rattle.smpl_terms.specs.Vars.{same_var}
use Rattle.smpl_terms.proofs.VarLaws.{same_var-equal, same_var-sym}
use Rattle.pattern_vars.specs.declared.set.Key.{Key}
use Rattle.pattern_vars.specs.Reads.{has, number_of}
use Rattle.c_terms.specs.declared.tree.Tree.{Tree}
use Rattle.smpl_patch.specs.Held.{kept}
use Rattle.pattern_vars.specs.Keys.{same_key}

pub or_false : (b : Bool) → (b || false) ≡ b
or_false true = refl
or_false false = refl

or_true : (b : Bool) → b ≡ true → b ≡ (b || true)
or_true true h = refl
or_true false h = h

pub or_assoc : (a b c : Bool) → ((a || b) || c) ≡ (a || (b || c))
or_assoc true b c = refl
or_assoc false b c = refl

abbrev pub vars_of : List Key → List Var
vars_of keys = map (λ k. k.var) keys

-- keys are the same if their variables are
pub key-same : (a b : Key) → same_key a b ≡ same_var b.var a.var
key-same a b = ap (λ (q : Bool). eqb a.var.rule b.var.rule && q) (pointwise-same a.var.name b.var.name) ∙ same_var-sym a.var b.var

pub looked_up : (keys : List Key) (k : Key) → list_any (same_key k) keys ≡ has (vars_of keys) k.var
looked_up [] k = refl
looked_up (q ∷ keys) k = ap (λ (b : Bool). b || list_any (same_key k) keys) (key-same k q) ∙ ap (λ (b : Bool). same_var q.var k.var || b) (looked_up keys k)

not_found : (keys : List Key) (k : Key)
    → position_or_len (same_key k) keys ≡ position_or_len (λ v. same_var v k.var) (vars_of keys)
not_found [] k = refl
not_found (q ∷ keys) k =
    ap (λ (b : Bool). cond (not b) (1 + position_or_len (same_key k) keys) 0) (key-same k q)
    ∙ ap (λ (n : ℕ). cond (not (same_var q.var k.var)) (1 + n) 0) (not_found keys k)

-- the number of a key is that of its variable
pub numbered : (keys : List Key) (k : Key) → position (same_key k) keys ≡ number_of (vars_of keys) k.var
numbered keys k =
    let n = position_or_len (λ v. same_var v k.var) (vars_of keys) in
    ap (λ (m : ℕ). cond (nat_lt m (length keys)) (Some m) None) (not_found keys k)
    ∙ ap (λ (m : ℕ). cond (nat_lt n m) (Some n) None) (sym (length-map keys (λ q. q.var)))

vars-append : (keys : List Key) (k : Key) → vars_of (keys ++ k ∷ []) ≡ vars_of keys ++ k.var ∷ []
vars-append [] k = refl
vars-append (q ∷ keys) k = ap (λ vs. q.var ∷ vs) (vars-append keys k)

-- one more key
pub put_more : (keys : List Key) (k : Key) (y : Var)
    → has (vars_of (cond (list_any (same_key k) keys) keys (keys ++ k ∷ []))) y ≡ (has (vars_of keys) y || same_var k.var y)
put_more keys k y = by (list_any (same_key k) keys) refl
  where
    known : has (vars_of keys) k.var ≡ true → (q : Bool) → same_var k.var y ≡ q → has (vars_of keys) y ≡ (has (vars_of keys) y || q)
    known h false e = sym (or_false (has (vars_of keys) y))
    known h true e = or_true (has (vars_of keys) y) (ap (has (vars_of keys)) (sym (same_var-equal k.var y e)) ∙ h)

    by : (b : Bool) → list_any (same_key k) keys ≡ b → has (vars_of (cond b keys (keys ++ k ∷ []))) y ≡ (has (vars_of keys) y || same_var k.var y)
    by true h = known (sym (looked_up keys k) ∙ h) (same_var k.var y) refl
    by false h =
        ap (λ vs. has vs y) (vars-append keys k) ∙ list_any-append (λ q. same_var q y) (vars_of keys) (k.var ∷ [])
        ∙ ap (λ (b : Bool). has (vars_of keys) y || b) (or_false (same_var k.var y))

-- a loop that puts in what each element of a list gives
pub any-step : {X : Type 0} (one : X → Bool) (all : List X → Bool) → ((x : X) (xs : List X) → all (x ∷ xs) ≡ (one x || all xs))
    → (xs : List X) (i : ℕ) (x : X) (old new whole : Bool) → i < length xs → x ≡ get_or xs i x → new ≡ (old || one x)
    → (old || all (drop i xs)) ≡ whole → (new || all (drop (i + 1) xs)) ≡ whole
any-step one all first xs i x old new whole l q n h =
    let rest = all (drop (i + 1) xs) in
    ap (λ (b : Bool). b || rest) n ∙ or_assoc old (one x) rest
    ∙ ap (λ (b : Bool). old || b) (sym (first x (drop (i + 1) xs)))
    ∙ ap (λ z. old || all (z ∷ drop (i + 1) xs)) q
    ∙ ap (λ z. old || all z) (sym (drop_more xs i x l)) ∙ h

pub drop-end : {X : Type 0} (xs : List X) → drop (length xs) xs ≡ []
drop-end [] = refl
drop-end (x ∷ xs) = drop-end xs

pub any-end : {X : Type 0} (all : List X → Bool) → all [] ≡ false → (xs : List X) (i : ℕ) (old whole : Bool) → i ≡ length xs
    → (old || all (drop i xs)) ≡ whole → old ≡ whole
any-end all none xs i old whole e h =
    sym (or_false old) ∙ ap (λ (b : Bool). old || b) (sym (ap all (ap (λ n. drop n xs) e ∙ drop-end xs) ∙ none)) ∙ h

-- two puts, one after the other
pub put-two : (old mid new a b : Bool) → mid ≡ (old || a) → new ≡ (mid || b) → new ≡ (old || (a || b))
put-two old mid new a b h k = k ∙ ap (λ (c : Bool). c || b) h ∙ or_assoc old a b

-- nothing is put in
pub put-none : (old a : Bool) → a ≡ false → old ≡ (old || a)
put-none old a h = sym (ap (λ (b : Bool). old || b) h ∙ or_false old)

pub kept-more : (f : Tree → Bool) (test : ℕ → Bool) (i : ℕ) (t : Tree) (ts : List Tree)
    → list_any f (kept test i (t ∷ ts)) ≡ ((test i && f t) || list_any f (kept test (suc i) ts))
kept-more f test i t ts = by (test i)
  where
    by : (b : Bool) → list_any f (if b then t ∷ kept test (suc i) ts else kept test (suc i) ts) ≡ ((b && f t) || list_any f (kept test (suc i) ts))
    by true = refl
    by false = refl

-- one more of the trees that are compared
pub kept-step : (f : Tree → Bool) (test : ℕ → Bool) (ts : List Tree) (i : ℕ) (t : Tree) (old new whole : Bool) → i < length ts → t ≡ get_or ts i t
    → new ≡ (old || (test i && f t)) → (old || list_any f (kept test i (drop i ts))) ≡ whole
    → (new || list_any f (kept test (i + 1) (drop (i + 1) ts))) ≡ whole
kept-step f test ts i t old new whole l q n h =
    let rest = list_any f (kept test (i + 1) (drop (i + 1) ts)) in
    ap (λ (b : Bool). b || rest) n ∙ or_assoc old (test i && f t) rest
    ∙ ap (λ k. old || ((test i && f t) || list_any f (kept test k (drop (i + 1) ts)))) (add-one i)
    ∙ ap (λ (b : Bool). old || b) (sym (kept-more f test i t (drop (i + 1) ts)))
    ∙ ap (λ z. old || list_any f (kept test i (z ∷ drop (i + 1) ts))) q
    ∙ ap (λ z. old || list_any f (kept test i z)) (sym (drop_more ts i t l)) ∙ h

pub kept-end : (f : Tree → Bool) (test : ℕ → Bool) (ts : List Tree) (i : ℕ) (old whole : Bool) → i ≡ length ts
    → (old || list_any f (kept test i (drop i ts))) ≡ whole → old ≡ whole
kept-end f test ts i old whole e h =
    sym (or_false old) ∙ ap (λ z. old || list_any f (kept test i z)) (sym (ap (λ n. drop n ts) e ∙ drop-end ts)) ∙ h
