-- The definitions at a few values, mainly where two readings would differ.
use Rattle.std.proofs.Common.{◌≡◌, ℕ, Bool, true, false, not, ◌&&◌, ◌||◌, refl, sym, ap, ◌∙◌, List, [], ◌∷◌}
use Rattle.std.specs.Prelude.{codes}
use Rattle.c_terms.specs.declared.token.Token.{Token}
use Rattle.c_terms.specs.declared.token.TokenKind.TheVariants as kind
use Rattle.c_terms.specs.declared.tree.Tree.TheVariants.{Leaf}
use Rattle.c_terms.proofs.SameLemmas.{same-Leaf-Leaf}
use Rattle.smpl_terms.specs.declared.var.Var.{Var}
use Rattle.smpl_terms.specs.declared.value.Value.{Value}
use Rattle.smpl_terms.specs.declared.value.Value.TheVariants.{Term, Place}
use Rattle.smpl_terms.specs.Vars.{same_var}
use Rattle.smpl_terms.specs.Values.{same}
use Rattle.smpl_terms.specs.Environments.{Environment, total}
use Rattle.smpl_terms.proofs.ValueLaws.{same-refl}
use Rattle.env_sets.specs.declared.bounds.Bound.{Bound}
use Rattle.env_sets.specs.declared.bounds.Bound.TheVariants.{Is, Not}
use Rattle.env_sets.specs.Bounds.{fits}
use Rattle.env_sets.specs.Sets.{Entries, set_denotes, set_vars}
use Rattle.env_sets.specs.Laws.{IsMeet, IsJoin, IsComplement, IsProjection, IsGiven}

abbrev variable : List ℕ → Var
variable name = record { rule = 0; name = name }

abbrev x : Var
x = variable (codes "x")

abbrev y : Var
y = variable (codes "y")

abbrev digits : List ℕ → ℕ → Token
digits text id = record { kind = kind.Number; text = text; id = id }

abbrev number : List ℕ → ℕ → Value
number text id = Term (Leaf (digits text id))

-- the number 1 at two places of a file
abbrev one : Value
one = number (codes "1") 7

abbrev one_again : Value
one_again = number (codes "1") 8

abbrev two : Value
two = number (codes "2") 9

-- the set of one entry with one bound
abbrev only : Var → Bound → Entries
only v b = ((v, b) ∷ []) ∷ []

abbrev both : Entries
both = ((x, Is one) ∷ (y, Is two) ∷ []) ∷ []

same_one : same one one_again ≡ true
same_one = same-Leaf-Leaf (digits (codes "1") 7) (digits (codes "1") 8)

one_two : same one two ≡ false
one_two = same-Leaf-Leaf (digits (codes "1") 7) (digits (codes "2") 9)

-- ids don't count, neither when a value is allowed nor when it is excluded
ids_aside : fits one_again (Is one) ≡ true
ids_aside = same_one

excluded_ids_aside : fits one_again (Not (one ∷ [])) ≡ false
excluded_ids_aside = ap (λ b. not (b || false)) same_one

-- all values are left if none is excluded
none_excluded : (v : Value) → fits v (Not []) ≡ true
none_excluded v = refl

-- no entry: no environment; an entry without bounds: every environment
no_entry : (env : Environment) → set_denotes [] env ≡ false
no_entry env = refl

no_bound : (env : Environment) → set_denotes ([] ∷ []) env ≡ true
no_bound env = refl

-- a variable without a value counts as the place 0, under a value and under excluded values
unbound_is : set_denotes (only x (Is one)) (total []) ≡ false
unbound_is = refl

unbound_not : set_denotes (only x (Not (one ∷ []))) (total []) ≡ true
unbound_not = refl

unbound_not_0 : set_denotes (only x (Not (Place 0 ∷ []))) (total []) ≡ false
unbound_not_0 = refl

denotes_other : set_denotes (only x (Not (one ∷ []))) (total ((x, two) ∷ [])) ≡ true
denotes_other = ap (λ b. (not (b || false) && true) || false) one_two

denotes_excluded : set_denotes (only x (Not (one ∷ []))) (total ((x, one_again) ∷ [])) ≡ false
denotes_excluded = ap (λ b. (not (b || false) && true) || false) same_one

-- the complement of `x` is 1 excludes 1, for each environment; the two meet in nothing and join to everything
outside : (b : Bool) → ((not (b || false) && true) || false) ≡ not ((b && true) || false)
outside true = refl
outside false = refl

nowhere : (b : Bool) → false ≡ (((b && true) || false) && ((not (b || false) && true) || false))
nowhere true = refl
nowhere false = refl

everywhere : (b : Bool) → true ≡ (((b && true) || false) || ((not (b || false) && true) || false))
everywhere true = refl
everywhere false = refl

complement_of_one : IsComplement (only x (Is one)) (only x (Not (one ∷ [])))
complement_of_one env = outside (same one (env x))

meet_with_complement : IsMeet (only x (Is one)) (only x (Not (one ∷ []))) []
meet_with_complement env = nowhere (same one (env x))

join_with_complement : IsJoin (only x (Is one)) (only x (Not (one ∷ []))) ([] ∷ [])
join_with_complement env = everywhere (same one (env x))

-- of `x` is 1, `y` is 2 there remains `y` is 2 if `x` may change or is 1; if `x` is 2 nothing remains
given_y : (a b : Bool) → ((a && (b && true)) || false) ≡ true → ((b && true) || false) ≡ true
given_y true b h = h
given_y false b h = absurd cc

project_x : IsProjection x both (only y (Is two))
project_x env = (
  λ h. (one, ap (λ b. (b && (same two (env y) && true)) || false) (same-refl one) ∙ h),
  λ w. given_y (same one w.0) (same two (env y)) w.1,
)

given_one : IsGiven ((x, one_again) ∷ []) both (only y (Is two))
given_one rest = sym (ap (λ b. (b && (same two (rest y) && true)) || false) same_one)

given_two : IsGiven ((x, two) ∷ []) both []
given_two rest = sym (ap (λ b. (b && (same two (rest y) && true)) || false) one_two)

-- a set without bounds has no variable; otherwise each variable counts
no_variable : set_vars (λ v. false) ([] ∷ []) ≡ true
no_variable = refl

each_variable : set_vars (same_var x) both ≡ false
each_variable = refl
