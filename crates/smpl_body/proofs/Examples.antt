-- The faults of small bodies.
use Rattle.std.proofs.Common.{◌≡◌, ℕ, zero, suc, true, false, List, [], ◌∷◌, Some, None, refl, codes}
use Rattle.c_terms.specs.declared.token.TokenKind.{TokenKind}
use Rattle.c_terms.specs.declared.token.TokenKind.TheVariants as kind
use Rattle.c_terms.specs.declared.label.Label.TheVariants as label
use Rattle.c_terms.specs.declared.tree.Tree.{Tree}
use Rattle.c_terms.specs.declared.tree.Tree.TheVariants.{Leaf, Branch}
use Rattle.c_terms.proofs.SameLemmas.{out-Leaf, out-Branch}
use Rattle.smpl_terms.specs.declared.var.Var.{Var as Variable}
use Rattle.smpl_patch.specs.declared.fault.PatchFault.TheVariants.{BadPattern, DotsAtEdge, MinusDots, TooDeep}
use Rattle.smpl_patch.specs.Faults.{first_of}
use Rattle.smpl_meta.specs.declared.patterns.Placed.{Placed}
use Rattle.smpl_body.specs.Deep.{deep_from}
use Rattle.smpl_body.specs.DotsOf.{list_dots, statement_dots, own_ends, edges}
use Rattle.smpl_body.specs.Bodies.{signs_fit, without_positions, without_clauses, edge_faults, minus_dots, minus_signs}
use Rattle.smpl_body.specs.Bodies.{first_some, place_in, IsBodyFault, deep, unspelled}
use Rattle.smpl_body.proofs.EdgeLemmas.{edges-Leaf, edges-Branch, dots-Leaf, dots-Branch}

-- a token of a pattern: its number, its place, the sign of its line
abbrev placed : TokenKind → List ℕ → (id at sign : ℕ) → Placed
placed k text id at sign = record { token = record { kind = k; text = text; id = id }; at = at; sign = sign; line = 0; positions = [] }

abbrev p : Variable
p = record { rule = 0; name = codes "p" }

abbrev with_position : Placed → Placed
with_position q = record { token = q.token; at = q.at; sign = q.sign; line = q.line; positions = p ∷ [] }

abbrev punct : List ℕ → (id at : ℕ) → Placed
punct text id at = placed kind.Punct text id at 32

abbrev sign : List ℕ → (id at mark : ℕ) → Placed
sign text id at mark = placed kind.Pat text id at mark

-- ---- 201 brackets

-- the 201st bracket that opens, at its place
one_too_many : deep_from 199 (punct (codes "(") 0 5 ∷ punct (codes "[") 1 6 ∷ []) ≡ Some (TooDeep 6)
one_too_many = refl

just_enough : deep_from 199 (punct (codes "(") 0 5 ∷ punct (codes ")") 1 6 ∷ punct (codes "{") 2 7 ∷ []) ≡ None
just_enough = refl

-- signs of patterns aren't brackets
sign_is_none : deep_from 200 (sign (codes "\\(") 0 5 32 ∷ []) ≡ None
sign_is_none = refl

-- it comes before every other fault: nothing spells this body
abbrev many : ℕ → List Placed
many zero = []
many (suc n) = punct (codes "(") 0 n ∷ many n

brackets_go_first : IsBodyFault (many 201) 300 (TooDeep 0)
brackets_go_first = deep refl

-- ---- what spells no body

-- no tokens, even if there are plus lines; the place is the rule's end
no_tokens : IsBodyFault [] 7 (BadPattern 7)
no_tokens = unspelled refl (λ t cs s. s.body)

-- otherwise it is the first token's, wherever the flaw is
first_token_s_place : place_in (punct (codes "(") 0 5 ∷ punct (codes "+") 1 6 ∷ []) 7 ≡ 5
first_token_s_place = refl

-- `... when` and nothing after it
abbrev half_clause : List Placed
half_clause = placed kind.Dots (codes "...") 0 5 32 ∷ placed kind.Name (codes "when") 1 9 32 ∷ []

half_a_clause : IsBodyFault half_clause 20 (BadPattern 5)
half_a_clause = unspelled refl (λ t cs s. cc s.clauses)

-- a position after a sign, and after a name
position_behind_a_sign : signs_fit (with_position (sign (codes "...>") 0 5 32) ∷ []) ≡ false
position_behind_a_sign = refl

position_behind_a_name : signs_fit (with_position (placed kind.Name (codes "f") 0 5 32) ∷ []) ≡ true
position_behind_a_name = refl

position_behind_a_word : without_positions (with_position (placed kind.Name (codes "any") 0 5 32) ∷ []) (0 ∷ []) ≡ false
position_behind_a_word = refl

-- `when any` at the dots of a list
clause_at_a_member : without_clauses (record { any = true; strict = false; codes = [] } ∷ []) (0 ∷ []) ≡ false
clause_at_a_member = refl

-- ---- dots and nests at edges, and on `-` lines

abbrev dots : ℕ → Tree
dots id = Leaf (record { kind = kind.Dots; text = codes "..."; id = id })

abbrev word : ℕ → Tree
word id = Leaf (record { kind = kind.Name; text = codes "f"; id = id })

abbrev mark : ℕ → Tree
mark id = Leaf (record { kind = kind.Pat; text = codes "<..."; id = id })

abbrev list : List Tree → Tree
list ts = Branch label.StmtList ts

-- `... f ...`: the first and the last, not those between
both_ends : edges (list (dots 0 ∷ word 1 ∷ dots 2 ∷ word 3 ∷ dots 4 ∷ [])) ≡ 0 ∷ 4 ∷ []
both_ends = simp (out-Leaf, out-Branch, edges-Leaf, edges-Branch)

-- the place of a nest is that of its first sign
nest_at_the_end : edges (list (word 0 ∷ Branch label.PatNest (mark 1 ∷ word 2 ∷ mark 3 ∷ []) ∷ [])) ≡ 1 ∷ []
nest_at_the_end = simp (out-Leaf, out-Branch, edges-Leaf, edges-Branch)

-- dots alone between braces aren't at an edge; dots alone after `if (f)`, in a nest or in a branch are
in_braces : edges (list (Branch label.Block (word 0 ∷ dots 1 ∷ word 2 ∷ []) ∷ [])) ≡ []
in_braces = simp (out-Branch, edges-Leaf, edges-Branch)

whole_body : own_ends label.If (word 0 ∷ word 1 ∷ word 2 ∷ word 3 ∷ dots 4 ∷ []) ≡ 4 ∷ []
whole_body = simp out-Leaf

first_in_a_nest : own_ends label.PatNest (mark 0 ∷ dots 1 ∷ word 2 ∷ mark 3 ∷ []) ≡ 1 ∷ []
first_in_a_nest = simp out-Leaf

last_in_a_branch : own_ends label.PatOr (mark 0 ∷ list (word 1 ∷ []) ∷ mark 2 ∷ list (word 3 ∷ dots 4 ∷ []) ∷ mark 5 ∷ []) ≡ 4 ∷ []
last_in_a_branch = simp (out-Leaf, out-Branch)

-- `f(...)`: a member of a list isn't a statement, and isn't at an edge
abbrev call : Tree
call = Branch label.Call (word 0 ∷ word 1 ∷ Branch label.Args (dots 2 ∷ []) ∷ word 3 ∷ [])

member : list_dots call ≡ 2 ∷ []
member = simp (dots-Leaf, dots-Branch)

no_statement : statement_dots call ≡ []
no_statement = simp (dots-Leaf, dots-Branch)

member_at_no_edge : edges call ≡ []
member_at_no_edge = simp (out-Branch, edges-Leaf, edges-Branch)

abbrev three : List Placed
three = placed kind.Dots (codes "...") 0 5 45 ∷ placed kind.Dots (codes "...") 1 6 32 ∷ placed kind.Dots (codes "...") 2 7 45 ∷ []

-- the first of the dots on `-` lines, whatever their order here
first_minus : first_of (minus_dots three (2 ∷ 1 ∷ 0 ∷ [])) ≡ Some (MinusDots 5)
first_minus = refl

context_is_fine : first_of (minus_dots three (1 ∷ [])) ≡ None
context_is_fine = refl

nest_on_a_minus_line : minus_signs (sign (codes "<...") 0 5 45 ∷ sign (codes "\\(") 1 6 45 ∷ sign (codes "...>") 2 9 32 ∷ []) ≡ MinusDots 5 ∷ []
nest_on_a_minus_line = refl

-- dots at an edge come before earlier dots on a `-` line
edges_go_first : first_some (first_of (edge_faults three (2 ∷ 1 ∷ []))) (first_of (minus_dots three (0 ∷ []))) ≡ Some (DotsAtEdge 6)
edges_go_first = refl
