-- Tests against `NULL` or `0`, which have other forms in C: `x == NULL`, `!x`.
use Rattle.std.specs.Prelude.{Bool, true, false, ◌&&◌, ◌||◌, if◌then◌else◌, Option, None, Some, List, [], ◌∷◌, slice_get}
use Rattle.c_terms.specs.declared.label.Label.{Label}
use Rattle.c_terms.specs.declared.label.Label.TheVariants as label
use Rattle.c_terms.specs.declared.token.Token.{Token}
use Rattle.c_terms.specs.declared.tree.Tree.{Tree}
use Rattle.c_terms.specs.declared.tree.Tree.TheOpen.{Tree-F}
use Rattle.c_terms.specs.declared.tree.Tree.TheFolds.{fold-Tree}
use Rattle.smpl_patch.specs.declared.pattern.Pattern.{Pattern}
use Rattle.smpl_notes.specs.declared.note.Slip.TheVariants.{WrittenTest}
use Rattle.smpl_notes.specs.declared.note.Found.{Found}
use Rattle.smpl_notes.specs.Tokens.{is_zero, is_equality}

-- of a tree: whether it is `NULL` or `0`; its token, if it is `==` or `!=`; and the sign of the first test in it
pub record Tested : Type 0 where
  pub zero : Bool
  pub sign : Option Token
  pub test : Option Token

abbrev pub or_else : Option Token → Option Token → Option Token
or_else (Some t) other = Some t
or_else None other = other

abbrev pub first_test : List Tested → Option Token
first_test [] = None
first_test (k ∷ ks) = or_else k.test (first_test ks)

abbrev pub is_binary : Label → Bool
is_binary label.Binary = true
is_binary _ = false

abbrev pub zero_of : Option Tested → Bool
zero_of None = false
zero_of (Some k) = k.zero

abbrev pub sign_of : Option Tested → Option Token
sign_of None = None
sign_of (Some k) = k.sign

-- the sign of `x == NULL`, `0 != x` and the like, whose children are a value, a sign and a value
abbrev pub own_test : Label → List Tested → Option Token
own_test l ks = if is_binary l && (zero_of (slice_get ks 0) || zero_of (slice_get ks 2)) then sign_of (slice_get ks 1) else None

abbrev pub tested_step : Tree-F Tested → Tested
tested_step (Tree-F.Leaf t) = record { zero = is_zero t; sign = (if is_equality t then Some t else None); test = None }
tested_step (Tree-F.Branch l ks) = record { zero = false; sign = None; test = or_else (own_test l ks) (first_test ks) }

abbrev pub tested : Tree → Tested
tested = fold-Tree Tested tested_step

-- ---- patterns

abbrev pub test_of_first : List Tree → Option Token
test_of_first [] = None
test_of_first (form ∷ forms) = (tested form).test

abbrev pub test_of : List Pattern → Option Token
test_of [] = None
test_of (p ∷ ps) = or_else (test_of_first p.forms) (test_of ps)

abbrev pub at_sign : Option Token → List Found
at_sign None = []
at_sign (Some t) = record { token = t.id; slip = WrittenTest } ∷ []

-- at the sign of the first test in the patterns
abbrev pub test_slips : List Pattern → List Found
test_slips ps = at_sign (test_of ps)
