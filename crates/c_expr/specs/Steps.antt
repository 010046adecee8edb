-- What the steps of the parser ensure.
use Rattle.std.specs.Prelude.{◌≡◌, ℕ, ◌+◌, ◌*◌, ◌≤◌, ◌<◌, Bool, false, IsTrue, Option, Some, None, List, ◌∷◌, ◌++◌, length, if◌then◌else◌}
use Rattle.c_terms.specs.declared.tree.Tree.{Tree}
use Rattle.c_terms.specs.Trees.{levels, levels_of_all}
use Rattle.c_rows.specs.declared.class.Class.{Class}
use Rattle.c_rows.specs.declared.kind.Kind.{Kind}
use Rattle.c_rows.specs.declared.kind.Family.{Family}
use Rattle.c_rows.specs.declared.rule.Rule.{Rule}
use Rattle.c_rows.specs.declared.symbol.Symbol.{Symbol}
use Rattle.c_expr.specs.declared.parse.Position.{Position}
use Rattle.c_expr.specs.declared.fault.ParseFault.{ParseFault}
use Rattle.c_expr.specs.declared.fault.ParseFault.TheVariants.{NoTree, TooDeep, NoMemory}
use Rattle.c_rows.specs.Kinds.{family_of, within}
use Rattle.c_rows.specs.Rows.{Row}
use Rattle.c_rows.specs.Branches.{kind_of, build, allows}
use Rattle.c_rows.specs.Choice.{ends, stops, left, own, head, tail, row_fine, weight}
use Rattle.c_rows.specs.Seen.{Seen, front}
use Rattle.c_rows.specs.Spells.{Spells, Runs}
use Rattle.c_rows.specs.Growth.{Root, root_kind, root_ends, Operand}

-- why nothing was returned: there is nothing, or memory ran out
abbrev pub OnFault : ParseFault → Type 0 → Type 0
OnFault NoTree p = p
OnFault TooDeep p = ⊥
OnFault NoMemory p = Unit {0}

-- what is left of a row, the tokens from there on, and the children read so far
pub record Place : Type 0 where
  pub row : Row
  pub rest : List Seen
  pub children : List Tree

-- The children at q continue those at p.
pub record Leads (most : ℕ) (p q : Place) : Type 0 where
  pub sound : (cs : List Tree) (ys : List Seen) → Runs q.row q.rest cs ys → (ds : List Tree) × (q.children ++ cs ≡ p.children ++ ds) × Runs p.row p.rest ds ys
  pub only : (ds : List Tree) (ys : List Seen) → Runs p.row p.rest ds ys → IsTrue (ends p.row (front ys)) → levels_of_all ds ≤ most
      → (cs : List Tree) × (q.children ++ cs ≡ p.children ++ ds) × Runs q.row q.rest cs ys × IsTrue (ends q.row (front ys)) × (levels_of_all cs ≤ most)

abbrev pub Refuses : ℕ → Place → Type 0
Refuses most p = (ds : List Tree) (ys : List Seen) → Runs p.row p.rest ds ys → IsTrue (ends p.row (front ys)) → levels_of_all ds ≤ most → ⊥

abbrev pub place : Row → List Seen → List Tree → Place
place row rest children = record { row = row; rest = rest; children = children }

-- ---- a step of the parser

-- the place of a position
abbrev pub place_of : Position → Place
place_of p = place p.row.now p.rest.now p.children

-- the place before a symbol after which the row continues as the position says
abbrev pub before : Symbol → Position → Place
before s p = place (s ∷ p.row.now) p.rest.now p.children

-- The row passes the tests of rows, and the position's levels are those of its children.
pub record Sound (row : Row) (p : Position) : Type 0 where
  pub fine : IsTrue (row_fine row)
  pub deep : p.deepest ≡ levels_of_all p.children

-- The part that the symbol asks for was taken, from the place before the symbol to this position.
pub record Takes (most : ℕ) (s : Symbol) (p q : Position) : Type 0 where
  pub leads : Leads most (before s p) (place_of q)
  pub sound : Sound q.row.now q
  -- fewer tokens are left, or as many tokens and less of the row
  pub smaller : 3 * length q.rest.now + weight q.row.now < 3 * length p.rest.now + weight (s ∷ p.row.now)

-- ---- how a tree grows

-- the rule, if its branches are of the kind
abbrev pub rule_of_kind : Kind → Option Rule → Option Rule
rule_of_kind m None = None
rule_of_kind m (Some r) = if within (kind_of r) m then Some r else None

-- the rule of a tree of kind m that begins with a token of its own
abbrev pub headed_by : Kind → Class → Option Rule
headed_by m c = rule_of_kind m (head (family_of m) c)

abbrev pub takes : Family → Option Kind → Root → Bool
takes f None q = false
takes f (Some l) q = within (root_kind f q) l

-- the rule, if its first part may be a tree of this root
abbrev pub taking : Family → Root → Option Rule → Option Rule
taking f q None = None
taking f q (Some r) = if takes f (left r) q then Some r else None

abbrev pub next_rule : Kind → Root → Option Rule → Option Rule
next_rule m q o = taking (family_of m) q (rule_of_kind m o)

abbrev pub goes_on : Kind → Root → Class → Option Rule
goes_on m q c = next_rule m q (tail (family_of m) c)

-- ---- the one tree

-- Every tree of the kind that begins at the tokens is this one.
abbrev pub OnlyTree : ℕ → Kind → List Seen → Tree → List Seen → Type 0
OnlyTree most k xs t ys = (u : Tree) (zs : List Seen) → Spells k xs u zs → IsTrue (stops k (front zs)) → levels u ≤ most → (t ≡ u) × (ys ≡ zs)

abbrev pub NoTreeAt : ℕ → Kind → List Seen → Type 0
NoTreeAt most k xs = (u : Tree) (zs : List Seen) → Spells k xs u zs → IsTrue (stops k (front zs)) → levels u ≤ most → ⊥

abbrev pub OnlyOperand : ℕ → Kind → List Seen → Root → Tree → List Seen → Type 0
OnlyOperand most m xs q t ys = (p : Root) (u : Tree) (zs : List Seen) → Operand m p xs u zs → IsTrue (root_ends p (front zs))
    → levels u ≤ most → (q ≡ p) × (t ≡ u) × (ys ≡ zs)

abbrev pub NoOperand : ℕ → Kind → List Seen → Type 0
NoOperand most m xs = (p : Root) (u : Tree) (zs : List Seen) → Operand m p xs u zs → IsTrue (root_ends p (front zs)) → levels u ≤ most → ⊥

abbrev pub OnlyRun : ℕ → Row → List Seen → List Tree → List Seen → Type 0
OnlyRun most r xs cs ys = (ds : List Tree) (zs : List Seen) → Runs r xs ds zs → IsTrue (ends r (front zs)) → levels_of_all ds ≤ most → (cs ≡ ds) × (ys ≡ zs)

abbrev pub NoRun : ℕ → Row → List Seen → Type 0
NoRun most r xs = (ds : List Tree) (zs : List Seen) → Runs r xs ds zs → IsTrue (ends r (front zs)) → levels_of_all ds ≤ most → ⊥

-- The children after the earlier ones are the one run of the row.
abbrev pub RunsTo : ℕ → Row → List Seen → List Tree → List Tree → List Seen → Type 0
RunsTo most r xs before all ys = (cs : List Tree) × (all ≡ before ++ cs) × Runs r xs cs ys × OnlyRun most r xs cs ys

-- ---- by what a tree grows

abbrev pub OnlyGrowth : ℕ → Rule → Tree → List Seen → List Tree → List Seen → Type 0
OnlyGrowth most r t xs cs ys = (ds : List Tree) (zs : List Seen) → Runs (own r) xs ds zs → IsTrue (ends (own r) (front zs))
    → IsTrue (allows r (t ∷ ds)) → levels (build r (t ∷ ds)) ≤ most → (cs ≡ ds) × (ys ≡ zs)

abbrev pub NoGrowth : ℕ → Rule → Tree → List Seen → Type 0
NoGrowth most r t xs = (ds : List Tree) (zs : List Seen) → Runs (own r) xs ds zs → IsTrue (ends (own r) (front zs))
    → IsTrue (allows r (t ∷ ds)) → levels (build r (t ∷ ds)) ≤ most → ⊥

abbrev pub GrowsBy : ℕ → Rule → Tree → List Seen → Root → Tree → List Seen → Type 0
GrowsBy most r t xs q u ys = (cs : List Tree) × (q ≡ Some r) × (u ≡ build r (t ∷ cs)) × Runs (own r) xs cs ys
    × OnlyGrowth most r t xs cs ys × IsTrue (allows r (t ∷ cs))

-- ---- a branch

-- The tree that was built is the rule's branch over the children, with the tokens after them.
pub record IsBranch (r : Rule) (cs : List Tree) (ys : List Seen) (q : Root) (t : Tree) (zs : List Seen) : Type 0 where
  pub root : q ≡ Some r
  pub tree : t ≡ build r cs
  pub rest : zs ≡ ys
  pub allowed : IsTrue (allows r cs)

abbrev pub NoBranch : ℕ → Rule → List Tree → Type 0
NoBranch most r cs = IsTrue (allows r cs) → levels (build r cs) ≤ most → ⊥

-- the tree has this many levels, at most `most`
abbrev pub HasLevels : Tree → ℕ → ℕ → Type 0
HasLevels t n most = (n ≡ levels t) × (n ≤ most)
