-- A `-` that was meant as a sign: ` - f(x);`.
use Rattle.std.specs.Prelude.{ℕ, ◌-◌, ◌==◌, Bool, true, false, ◌&&◌, not, if◌then◌else◌, Option, None, Some, List, [], ◌∷◌, slice_get}
use Rattle.std.specs.List.{flat_map}
use Rattle.c_terms.specs.declared.label.Label.TheVariants as label
use Rattle.c_terms.specs.declared.token.Token.{Token}
use Rattle.c_terms.specs.declared.tree.Tree.{Tree, out-Tree}
use Rattle.c_terms.specs.declared.tree.Tree.TheOpen.{Tree-F}
use Rattle.c_terms.specs.Places.{child}
use Rattle.smpl_patch.specs.declared.pattern.Pattern.{Pattern}
use Rattle.smpl_meta.specs.declared.patterns.Placed.{Placed}
use Rattle.smpl_notes.specs.declared.note.Slip.TheVariants.{IndentedMinus}
use Rattle.smpl_notes.specs.declared.note.Found.{Found}
use Rattle.smpl_notes.specs.Tokens.{is_minus}

-- ---- forms

abbrev pub is_unary : Tree-F Tree → Bool
is_unary (Tree-F.Branch label.Unary cs) = true
is_unary _ = false

abbrev pub is_call : Tree-F Tree → Bool
is_call (Tree-F.Branch label.Call cs) = true
is_call _ = false

abbrev pub is_expression_statement : Tree-F Tree → Bool
is_expression_statement (Tree-F.Branch label.ExprStat cs) = true
is_expression_statement _ = false

abbrev pub is_some_call : Option Tree → Bool
is_some_call None = false
is_some_call (Some t) = is_call (out-Tree t)

abbrev pub minus_at : Tree-F Tree → Option Token
minus_at (Tree-F.Leaf t) = if is_minus t then Some t else None
minus_at (Tree-F.Branch l cs) = None

abbrev pub minus_in : Option Tree → Option Token
minus_in None = None
minus_in (Some t) = minus_at (out-Tree t)

-- the `-` of `-f(x)`
abbrev pub minus_before : Tree → Option Token
minus_before t = if is_unary (out-Tree t) && is_some_call (child t 1) then minus_in (child t 0) else None

abbrev pub minus_before_some : Option Tree → Option Token
minus_before_some None = None
minus_before_some (Some t) = minus_before t

-- the `-` of a form that is `-f(x)` or `-f(x);`
abbrev pub minus_of_form : Tree → Option Token
minus_of_form t = if is_expression_statement (out-Tree t) then minus_before_some (child t 0) else minus_before t

abbrev pub minus_of_first : List Tree → Option Token
minus_of_first [] = None
minus_of_first (form ∷ forms) = minus_of_form form

-- ---- the lines of tokens

-- whether the token is in this line
abbrev pub is_in_line : Option Placed → ℕ → Bool
is_in_line None line = false
is_in_line (Some p) line = p.line == line

-- the token before the one with this number
abbrev pub before : List Placed → ℕ → Option Placed
before placed id = if id == 0 then None else slice_get placed (id - 1)

-- it is in a line without a sign, and the token before it isn't in that line
abbrev pub leads_context : Option Placed → Option Placed → Bool
leads_context None last = false
leads_context (Some p) last = p.sign == 32 && not (is_in_line last p.line)

-- ---- the slips

abbrev pub minus_slip : List Placed → Option Token → List Found
minus_slip placed None = []
minus_slip placed (Some t) =
    if leads_context (slice_get placed t.id) (before placed t.id) then record { token = t.id; slip = IndentedMinus } ∷ [] else []

-- for each pattern that is a `-` before a call, at the first token of a line without a sign
abbrev pub minus_slips : List Placed → List Pattern → List Found
minus_slips placed ps = flat_map (λ p. minus_slip placed (minus_of_first p.forms)) ps
