-- The definitions at small values, especially at points that could be read in two ways.
use Rattle.std.proofs.Common.{◌≡◌, ℕ, true, false, Some, None, [], ◌∷◌, cond, refl, codes}
use Rattle.std.specs.Prelude.{nat_eq}
use Rattle.smpl_terms.specs.declared.var.Var.{Var}
use Rattle.smpl_terms.specs.Vars.{same_var}
use Rattle.smpl_patch.specs.declared.pattern.Spot.TheVariants as spot
use Rattle.smpl_patch.specs.declared.pattern.Pattern.{Pattern}
use Rattle.ctl_formula.specs.Plain.{Plain, Atom, Inside, Outside, Not, And, Or, EX, Exists}
use Rattle.ctl_formula.specs.Bounds.{Surely}
use Rattle.ctl_translate.specs.declared.ctl_bound.masks.Masks.{Masks}
use Rattle.ctl_translate.specs.CtlBound.Binding.{binds_at}
use Rattle.ctl_translate.specs.CtlBound.Bits.{is_bit, bit_binds}
use Rattle.ctl_translate.specs.CtlBound.Saying.{said_of}

abbrev x : Var
x = record { rule = 0; name = codes "x" }

abbrev y : Var
y = record { rule = 0; name = codes "y" }

abbrev pattern : ℕ → Pattern
pattern n = record { atom = n; spot = spot.Whole; forms = [] }

-- the first pattern has x, and any other pattern has y
abbrev sure : Surely
sure p v = same_var v (cond (nat_eq p.atom 0) x y)

-- f(x) and EX (g(y) or f(x))
abbrev some_next : Plain
some_next = And (Atom (pattern 0)) (EX (Or (Atom (pattern 1)) (Atom (pattern 0))))

has_a_value_in_each_branch : binds_at sure x some_next ≡ record { holding = true; failing = false; guarded = true }
has_a_value_in_each_branch = refl

has_one_in_one_branch : binds_at sure y some_next ≡ record { holding = false; failing = false; guarded = true }
has_one_in_one_branch = refl

a_quantifier_over_one_branch : binds_at sure y (Exists y some_next)
    ≡ record { holding = false; failing = false; guarded = false }
a_quantifier_over_one_branch = refl

a_quantifier_of_another_variable : binds_at sure x (Exists y some_next)
    ≡ record { holding = true; failing = false; guarded = true }
a_quantifier_of_another_variable = refl

-- a place inside a block says which block that is; one outside, or the negation of one inside, says nothing
inside_names_its_block : binds_at sure x (Inside x) ≡ record { holding = true; failing = false; guarded = true }
inside_names_its_block = refl

outside_names_nothing : binds_at sure x (Outside x) ≡ record { holding = false; failing = false; guarded = true }
outside_names_nothing = refl

not_outside_names_nothing : binds_at sure x (Not (Outside x)) ≡ record { holding = false; failing = false; guarded = true }
not_outside_names_nothing = refl

-- ---- masks: of three variables the first and the last have a value where the formula holds, and the second has one
-- where it fails

abbrev three : Masks
three = record { holding = 5; failing = 2; guarded = 7 }

second_of_three : bit_binds three 1 ≡ record { holding = false; failing = true; guarded = true }
unfolding is_bit
second_of_three = refl

last_of_three : bit_binds three 2 ≡ record { holding = true; failing = false; guarded = true }
unfolding is_bit
last_of_three = refl

-- variable 65 is the second one of the second group
second_of_second_group : (first : Masks) → said_of (first ∷ three ∷ []) (Some 65)
    ≡ Some (record { holding = false; failing = true; guarded = true })
unfolding is_bit
second_of_second_group first = refl

no_second_group : said_of (three ∷ []) (Some 64) ≡ None
no_second_group = refl
