-- Where touches are, above all where rules added tokens.
use Rattle.std.specs.Prelude.{ℕ, ◌+◌, ◌≡◌, List, [], ◌∷◌, Option, None, Some, codes}
use Rattle.c_terms.specs.declared.token.TokenKind.TheVariants.{Name, Keyword, Punct}
use Rattle.c_terms.specs.declared.label.Label.TheVariants as label
use Rattle.c_terms.specs.declared.tree.Tree.{Tree}
use Rattle.c_terms.specs.declared.tree.Tree.TheVariants.{Leaf, Branch}
use Rattle.c_terms.proofs.TreeLemmas.{leaves-Leaf, leaves-Branch}
use Rattle.c_terms.proofs.PlaceLemmas.{child-Leaf, child-Branch}
use Rattle.smpl_terms.specs.declared.var.Var.{Var}
use Rattle.smpl_terms.specs.declared.value.Value.{Value}
use Rattle.smpl_patch.specs.declared.witness.Witness.{Witness}
use Rattle.smpl_patch.specs.declared.witness.Witness.TheVariants.{Touch, Bind}
use Rattle.wit_places.specs.declared.spans.TokenSpan.{TokenSpan}
use Rattle.wit_places.specs.Touches.{touch_paths}
use Rattle.wit_places.specs.Spans.{span_at, touch_spans}
use Rattle.wit_places.proofs.TouchLemmas.{paths-Touch, paths-Bind}

abbrev name : ℕ → List ℕ → Tree
name id text = Leaf (record { kind = Name; text = text; id = id })

abbrev keyword : ℕ → List ℕ → Tree
keyword id text = Leaf (record { kind = Keyword; text = text; id = id })

abbrev punct : ℕ → List ℕ → Tree
punct id text = Leaf (record { kind = Punct; text = text; id = id })

-- `f(a)`, where `f` has one id and the others are those from another on
abbrev call : ℕ → List ℕ → ℕ → List ℕ → Tree
call id f rest a =
    Branch label.Call (name id f ∷ punct rest (codes "(") ∷ Branch label.Args (name (rest + 1) a ∷ []) ∷ punct (rest + 2) (codes ")") ∷ [])

abbrev statement : Tree → ℕ → Tree
statement e semicolon = Branch label.ExprStat (e ∷ punct semicolon (codes ";") ∷ [])

-- `k(void)`
abbrev head : Tree
head = Branch label.DFun (name 1 (codes "k") ∷ punct 2 (codes "(") ∷ Branch label.Params (keyword 3 (codes "void") ∷ []) ∷ punct 4 (codes ")") ∷ [])

abbrev block : Tree → ℕ → Tree
block s brace = Branch label.Block (punct 5 (codes "{") ∷ s ∷ punct brace (codes "}") ∷ [])

-- `void k(void) { s }`
abbrev function : Tree → ℕ → Tree
function s brace = Branch label.FunDef (Branch label.Specs (keyword 0 (codes "void") ∷ []) ∷ head ∷ block s brace ∷ [])

abbrev from_to : ℕ → ℕ → Option TokenSpan
from_to first last = Some (record { first = first; last = last })

-- ---- touches in preorder

-- `f(a) + f(b)`
abbrev sum : Tree
sum = Branch label.Binary (call 8 (codes "f") 9 (codes "a") ∷ punct 12 (codes "+") ∷ call 13 (codes "f") 14 (codes "b") ∷ [])

-- `void k(void) { x = f(a) + f(b); }`, a text of 19 tokens
abbrev sum_of_calls : Tree
sum_of_calls = function (statement (Branch label.Assign (name 6 (codes "x") ∷ punct 7 (codes "=") ∷ sum ∷ [])) 17) 18

-- under `* f(E)`: a touch of `f(a)` under one value, and one of `f(b)` under another
abbrev two_calls : Var → Value → Value → List Witness
two_calls e a b =
    Bind 2 e a (Touch 2 0 (2 ∷ 1 ∷ 0 ∷ 2 ∷ 0 ∷ []) ∷ []) ∷ Bind 2 e b (Touch 2 0 (2 ∷ 1 ∷ 0 ∷ 2 ∷ 2 ∷ []) ∷ []) ∷ []

each_call : (e : Var) (a b : Value) → touch_spans 19 sum_of_calls (two_calls e a b) ≡ from_to 8 11 ∷ from_to 13 16 ∷ []
each_call e a b = simp (paths-Bind, paths-Touch, child-Branch, leaves-Branch, leaves-Leaf)

-- a touch before a value, one under it, and one after it
order_of_touches : (x : Var) (v : Value) → touch_paths (Touch 2 0 (1 ∷ []) ∷ Bind 4 x v (Touch 4 1 [] ∷ []) ∷ Touch 5 1 (3 ∷ []) ∷ [])
    ≡ (1 ∷ []) ∷ [] ∷ (3 ∷ []) ∷ []
order_of_touches x v = simp (paths-Bind, paths-Touch)

-- a path counts as often as it is touched
touched_twice : touch_paths (Touch 2 0 [] ∷ Touch 3 0 [] ∷ []) ≡ [] ∷ [] ∷ []
touched_twice = simp paths-Touch

-- ---- paths that lead somewhere and nowhere

whole_item : span_at 19 sum_of_calls [] ≡ from_to 0 18
whole_item = simp (leaves-Branch, leaves-Leaf)

a_token : span_at 19 sum_of_calls (2 ∷ 1 ∷ 1 ∷ []) ≡ from_to 17 17
a_token = simp (child-Branch, leaves-Leaf)

past_the_end : span_at 19 sum_of_calls (3 ∷ []) ≡ None
past_the_end = simp child-Branch

below_a_token : span_at 19 sum_of_calls (2 ∷ 0 ∷ 0 ∷ []) ≡ None
below_a_token = simp (child-Branch, child-Leaf)

-- ---- tokens that rules added

-- `f(f(x))`, where the inner `f` has this id
abbrev outer : ℕ → Tree
outer id =
    Branch label.Call (name 6 (codes "f") ∷ punct 7 (codes "(") ∷ Branch label.Args (call id (codes "f") 9 (codes "x") ∷ []) ∷ punct 12 (codes ")") ∷ [])

-- `void k(void) { f(f(x)); }`, a text of 15 tokens; the inner `f` was loaded as number 8
abbrev inner_is : ℕ → Tree
inner_is id = function (statement (outer id) 13) 14

-- if a rule put another token in its place, the inner call begins at its bracket: the first new id is the number of tokens
added_first : span_at 15 (inner_is 15) (2 ∷ 1 ∷ 0 ∷ 2 ∷ 0 ∷ []) ≡ from_to 9 11
added_first = simp (child-Branch, leaves-Branch, leaves-Leaf)

-- without that it begins at `f`
none_added : span_at 15 (inner_is 8) (2 ∷ 1 ∷ 0 ∷ 2 ∷ 0 ∷ []) ≡ from_to 8 11
none_added = simp (child-Branch, leaves-Branch, leaves-Leaf)

-- around it nothing changed
added_inside : span_at 15 (inner_is 15) (2 ∷ 1 ∷ 0 ∷ []) ≡ from_to 6 12
added_inside = simp (child-Branch, leaves-Branch, leaves-Leaf)

all_added : span_at 15 (inner_is 15) (2 ∷ 1 ∷ 0 ∷ 2 ∷ 0 ∷ 0 ∷ []) ≡ None
all_added = simp (child-Branch, leaves-Leaf)

-- `f()` has no tokens between its brackets
no_tokens : span_at 2 (Branch label.Args []) [] ≡ None
no_tokens = simp leaves-Branch
