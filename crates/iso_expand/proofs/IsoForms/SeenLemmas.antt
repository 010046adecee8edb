-- Spellings that are seen, together with the trees of a list.
use Rattle.std.proofs.Common.{◌≡◌, ℕ, ◌+◌, ◌<◌, Bool, true, false, ◌||◌, if◌then◌else◌, List, [], ◌∷◌, ◌++◌, length, get_or}
use Rattle.std.proofs.Common.{drop, refl, sym, ap, subst, ◌∙◌, arith, length-append}
use Rattle.std.proofs.lemmas.List.Folds.{list_any-append}
use Rattle.c_terms.specs.declared.tree.Tree.{Tree}
use Rattle.c_terms.specs.Same.{same_tree, same_bytes}
use Rattle.c_terms.specs.Names.{has_name, with_name}
use Rattle.c_terms.proofs.SameLaws.{tree-sym}
use Rattle.c_terms.proofs.BareLaws.{same_bytes-equal}
use Rattle.iso_expand.specs.IsoForms.Spelled.{spelled}
use Rattle.iso_expand.specs.IsoForms.Forms.{is_among, with_form}
use Rattle.iso_expand.specs.IsoForms.Stepped.{Knows, Has}
use Rattle.iso_expand.proofs.IsoForms.ListLemmas.{drop_item}
use Rattle.iso_expand.proofs.IsoForms.SpelledLemmas.{spelled-same}

or_false : (b : Bool) → b || false ≡ b
or_false true = refl
or_false false = refl

or_true : (b : Bool) → b ≡ true → b ≡ b || true
or_true true h = refl
or_true false h = h

or_assoc : (a b c : Bool) → (a || b) || c ≡ a || (b || c)
or_assoc true b c = refl
or_assoc false b c = refl

-- one more spelling
any_append : (names : List (List ℕ)) (name text : List ℕ) → has_name (names ++ name ∷ []) text ≡ has_name names text || same_bytes text name
any_append names name text =
    list_any-append (same_bytes text) names (name ∷ []) ∙ ap (λ (b : Bool). has_name names text || b) (or_false (same_bytes text name))

with_more : (names : List (List ℕ)) (name text : List ℕ) → has_name (with_name names name) text ≡ has_name names text || same_bytes text name
with_more names name text = by (has_name names name) refl
  where
    known : has_name names name ≡ true → (q : Bool) → same_bytes text name ≡ q → has_name names text ≡ has_name names text || q
    known h false k = sym (or_false (has_name names text))
    known h true k = or_true (has_name names text) (ap (has_name names) (same_bytes-equal text name k) ∙ h)

    by : (b : Bool) → has_name names name ≡ b → has_name (if b then names else names ++ name ∷ []) text ≡ has_name names text || same_bytes text name
    by true h = known h (same_bytes text name) refl
    by false h = any_append names name text

same_about : (t u : Tree) → same_bytes (spelled t) (spelled u) ≡ same_tree u t
same_about t u = spelled-same t u ∙ tree-sym t u

-- one more tree of a list is spelled
pub seen_step : (list : List Tree) (i : ℕ) (u : Tree) (seen more : List (List ℕ)) (t : Tree) → i < length list → u ≡ get_or list i u
    → more ≡ with_name seen (spelled u) → has_name seen (spelled t) || is_among (drop i list) t ≡ is_among list t
    → has_name more (spelled t) || is_among (drop (i + 1) list) t ≡ is_among list t
seen_step list i u seen more t within is e so_far =
    ap (λ (names : List (List ℕ)). has_name names (spelled t) || is_among (drop (i + 1) list) t) e
    ∙ ap (λ (b : Bool). b || is_among (drop (i + 1) list) t) (with_more seen (spelled u) (spelled t))
    ∙ ap (λ (b : Bool). (has_name seen (spelled t) || b) || is_among (drop (i + 1) list) t) (same_about t u)
    ∙ or_assoc (has_name seen (spelled t)) (same_tree u t) (is_among (drop (i + 1) list) t)
    ∙ ap (λ (us : List Tree). has_name seen (spelled t) || is_among us t) (sym (drop_item list i u within is))
    ∙ so_far

pub seen_all : (list rest : List Tree) (seen : List (List ℕ)) (t : Tree) → rest ≡ [] → has_name seen (spelled t) || is_among rest t ≡ is_among list t
    → has_name seen (spelled t) ≡ is_among list t
seen_all list rest seen t e h =
    sym (or_false (has_name seen (spelled t))) ∙ ap (λ (us : List Tree). has_name seen (spelled t) || is_among us t) (sym e) ∙ h

-- a tree that is new, and its spelling
pub known_more : (list : List Tree) (seen : List (List ℕ)) (u : Tree) → Knows seen list → Knows (seen ++ spelled u ∷ []) (list ++ u ∷ [])
known_more list seen u knows t =
    any_append seen (spelled u) (spelled t)
    ∙ ap (λ (b : Bool). b || same_bytes (spelled t) (spelled u)) (knows t)
    ∙ ap (λ (b : Bool). is_among list t || b) (same_about t u ∙ sym (or_false (same_tree u t)))
    ∙ sym (list_any-append (λ v. same_tree v t) list (u ∷ []))

pub with_new : (names : List (List ℕ)) (name : List ℕ) → has_name names name ≡ false → with_name names name ≡ names ++ name ∷ []
with_new names name h = ap (λ (b : Bool). if b then names else names ++ name ∷ []) h

with_new_form : (list : List Tree) (t : Tree) → is_among list t ≡ false → with_form list t ≡ list ++ t ∷ []
with_new_form list t h = ap (λ (b : Bool). if b then list else list ++ t ∷ []) h

-- a list that gains a tree which it lacks, together with the tree's spelling
pub gains : (limit : ℕ) (list all : List Tree) (seen more : List (List ℕ)) (t : Tree) (key : List ℕ) → key ≡ spelled t → Knows seen list
    → has_name seen key ≡ false
    → more ≡ with_name seen key → all ≡ list ++ t ∷ [] → length list < limit → Has limit (record { list = all; seen = more }) (with_form list t)
gains limit list all seen more t key k knows new m a few =
    let absent : has_name seen (spelled t) ≡ false = ap (has_name seen) (sym k) ∙ new in
    let mm : more ≡ seen ++ spelled t ∷ [] = m ∙ with_new seen key new ∙ ap (λ (x : List ℕ). seen ++ x ∷ []) k in
    let l : length all ≡ length (list ++ t ∷ []) = ap length a in
    record {
      is = a ∙ sym (with_new_form list t (sym (knows t) ∙ absent));
      knows = subst (λ (x : List Tree). Knows more x) (sym a) (subst (λ (x : List (List ℕ)). Knows x (list ++ t ∷ [])) (sym mm) (known_more list seen t knows));
      few = omega (arith, length-append list (t ∷ []));
    }
