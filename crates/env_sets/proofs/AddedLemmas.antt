-- Blocks of entries in order, with one more entry.
use Rattle.std.proofs.Common.{◌≡◌, Bool, true, false, ◌||◌, refl, sym, ap, ◌∙◌, List, ◌∷◌, ◌++◌}
use Rattle.smpl_terms.specs.declared.var.Var.{Var}
use Rattle.smpl_terms.specs.Environments.{Environment}
use Rattle.env_sets.specs.declared.bounds.Bound.{Bound}
use Rattle.env_sets.specs.Sets.{Entries, entry_denotes, entry_vars, set_denotes, set_vars}
use Rattle.env_sets.proofs.LoopLemmas.{both_parts}
use Rattle.env_sets.proofs.PairLemmas.{both_true}
use Rattle.env_sets.proofs.BlockLemmas.{denotes-append, vars-append}

-- one more entry
or_one : (d : Bool) → (d || true) ≡ true
or_one true = refl
or_one false = refl

or_insert : (a b c d : Bool) → c ≡ (a || b) → (a || (d || b)) ≡ (c || d)
or_insert true b c d h = sym (ap (λ x. x || d) h)
or_insert false true c d h = or_one d ∙ sym (ap (λ x. x || d) h)
or_insert false false c true h = sym (or_one c)
or_insert false false c false h = sym (ap (λ x. x || false) h)

pub with_meaning : (all xs ys : Entries) (e : List (Var × Bound)) (env : Environment) → all ≡ xs ++ ys
    → set_denotes (xs ++ e ∷ ys) env ≡ (set_denotes all env || entry_denotes e env)
with_meaning all xs ys e env is =
    denotes-append xs (e ∷ ys) env
    ∙ or_insert (set_denotes xs env) (set_denotes ys env) (set_denotes all env) (entry_denotes e env)
    (ap (λ es. set_denotes es env) is ∙ denotes-append xs ys env)

pub with_vars : (all xs ys : Entries) (e : List (Var × Bound)) (t : Var → Bool) → all ≡ xs ++ ys
    → set_vars t all ≡ true → entry_vars t e ≡ true → set_vars t (xs ++ e ∷ ys) ≡ true
with_vars all xs ys e t is h k =
    let parts = both_parts (set_vars t xs) (set_vars t ys) (sym (vars-append xs ys t) ∙ ap (set_vars t) (sym is) ∙ h) in
    vars-append xs (e ∷ ys) t
    ∙ both_true (set_vars t xs) (set_vars t (e ∷ ys)) parts.0 (both_true (entry_vars t e) (set_vars t ys) k parts.1)

-- an entry that is covered
pub covered : (b c : Bool) → (c ≡ true → b ≡ true) → b ≡ (b || c)
covered true c h = refl
covered false true h = h refl
covered false false h = refl

-- what a front stands for
pub front_denotes : (all front back : Entries) (env : Environment) → all ≡ front ++ back → set_denotes front env ≡ true
    → set_denotes all env ≡ true
front_denotes all front back env is h =
    ap (λ es. set_denotes es env) is ∙ denotes-append front back env ∙ ap (λ b. b || set_denotes back env) h
