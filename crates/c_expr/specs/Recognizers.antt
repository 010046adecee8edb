-- What the steps of the reader that builds no trees ensure.
use Rattle.std.specs.Prelude.{◌≡◌, ℕ, ◌+◌, ◌*◌, ◌≤◌, ◌<◌, ⊤, IsTrue, Option, Some, None, nat_le, if◌then◌else◌, List, [], ◌∷◌, length, drop, map}
use Rattle.c_terms.specs.declared.tree.Tree.{Tree}
use Rattle.c_terms.specs.Trees.{levels_of_all}
use Rattle.c_rows.specs.declared.facts.Facts.{Facts}
use Rattle.c_rows.specs.declared.kind.Kind.{Kind}
use Rattle.c_rows.specs.declared.rule.Rule.{Rule}
use Rattle.c_rows.specs.declared.symbol.Symbol.{Symbol}
use Rattle.c_rows.specs.Rows.{Row}
use Rattle.c_rows.specs.Branches.{build, allows}
use Rattle.c_rows.specs.Choice.{row_fine, weight}
use Rattle.c_rows.specs.Facts.{facts_of}
use Rattle.c_rows.specs.Seen.{Seen}
use Rattle.c_rows.specs.Spells.{Spells}
use Rattle.c_rows.specs.Growth.{Operand}
use Rattle.c_expr.specs.declared.fault.ParseFault.{ParseFault}
use Rattle.c_expr.specs.declared.fault.ParseFault.TheVariants.{NoTree}
use Rattle.c_expr.specs.declared.memo.Recognizer.{Recognizer}
use Rattle.c_expr.specs.declared.memo.Entry.{Entry}
use Rattle.c_expr.specs.declared.recognizer.Spot.{Spot}
use Rattle.c_expr.specs.declared.recognizer.Sketch.{Sketch}
use Rattle.c_expr.specs.Steps.{OnFault, place, Leads, OnlyTree, NoTreeAt, OnlyOperand, NoRun, RunsTo, NoBranch, GrowsBy, NoGrowth, HasLevels}

-- ---- trees that are not built

-- the outline of a tree of at most `most` levels
pub record IsOf (most : ℕ) (o : Recognizer) (t : Tree) : Type 0 where
  pub facts : o.facts ≡ facts_of t
  pub deep : HasLevels t o.levels most

-- trees with these facts and n levels
pub record AreOf (fs : List Facts) (n : ℕ) (ts : List Tree) : Type 0 where
  pub facts : fs ≡ map facts_of ts
  pub deep : n ≡ levels_of_all ts

-- The outline is that of the one tree of the kind that begins at the place and has at most `most` levels.
pub record Recognized (most : ℕ) (k : Kind) (seen : List Seen) (i : ℕ) (o : Recognizer) : Type 0 where
  pub tree : Tree
  pub spelled : Spells k (drop i seen) tree (drop o.end seen)
  pub only : OnlyTree most k (drop i seen) tree (drop o.end seen)
  pub is : IsOf most o tree
  pub ahead : i ≤ o.end

-- ---- what is kept

abbrev pub Known : ℕ → Kind → List Seen → ℕ → Option Recognizer → Type 0
Known most k seen i None = NoTreeAt most k (drop i seen)
Known most k seen i (Some o) = Recognized most k seen i o

-- the tree, if it has at most `most` levels
abbrev pub low : ℕ → Option Recognizer → Option Recognizer
low most None = None
low most (Some o) = if nat_le o.levels most then Some o else None

pub record IsRight (from : ℕ) (seen : List Seen) (e : Entry) : Type 0 where
  pub behind : from ≤ e.at
  pub known : Known e.most e.kind seen e.at e.found

-- what is kept is right, and concerns places from this one on
abbrev pub AreRight : ℕ → List Seen → List Entry → Type 0
AreRight from seen [] = ⊤
AreRight from seen (e ∷ es) = IsRight from seen e × AreRight from seen es

-- ---- rows

-- the step from the first spot, with this row before it, to the second
pub record Moves (most : ℕ) (seen : List Seen) (row : Row) (p q : Spot) : Type 0 where
  pub leads : (before : List Tree) → AreOf p.parts.items p.deepest before
      → (now : List Tree) × AreOf q.parts.items q.deepest now × Leads most (place row (drop p.at seen) before) (place q.row.now (drop q.at seen) now)
  pub ahead : p.at ≤ q.at

-- The part that the symbol asks for was passed.
pub record Steps (most : ℕ) (seen : List Seen) (s : Symbol) (p q : Spot) : Type 0 where
  pub moves : Moves most seen (s ∷ p.row.now) p q
  pub fine : IsTrue (row_fine q.row.now)
  -- fewer tokens are left, or as many tokens and less of the row
  pub smaller : 3 * length (drop q.at seen) + weight q.row.now < 3 * length (drop p.at seen) + weight (s ∷ p.row.now)

-- The children after the earlier ones are the one run of the row.
pub record RunsOn (most : ℕ) (seen : List Seen) (p q : Spot) : Type 0 where
  pub runs : (before : List Tree) → AreOf p.parts.items p.deepest before
      → (all : List Tree) × AreOf q.parts.items q.deepest all × RunsTo most p.row.now (drop p.at seen) before all (drop q.at seen)
  pub ahead : p.at ≤ q.at

-- Whatever the earlier children are, the row has no run.
abbrev pub NotRun : ℕ → List Seen → Spot → ParseFault → Type 0
NotRun most seen p e = (before : List Tree) → AreOf p.parts.items p.deepest before → OnFault e (NoRun most p.row.now (drop p.at seen))

-- ---- branches

-- the sketch is that of the rule's branch over the children, and ends at the spot
pub record Ends (most : ℕ) (r : Rule) (p : Spot) (g : Sketch) : Type 0 where
  pub root : g.root ≡ Some r
  pub here : g.recognizer.end ≡ p.at
  pub is : (cs : List Tree) → AreOf p.parts.items p.deepest cs → IsTrue (allows r cs) × IsOf most g.recognizer (build r cs)

pub record NoEnd (most : ℕ) (r : Rule) (p : Spot) (e : ParseFault) : Type 0 where
  pub fault : e ≡ NoTree
  pub none : (cs : List Tree) → AreOf p.parts.items p.deepest cs → NoBranch most r cs

-- the first tree from which one of the kind grows
pub record Opened (most : ℕ) (m : Kind) (seen : List Seen) (i : ℕ) (g : Sketch) : Type 0 where
  pub tree : Tree
  pub operand : Operand m g.root (drop i seen) tree (drop g.recognizer.end seen)
  pub only : OnlyOperand most m (drop i seen) g.root tree (drop g.recognizer.end seen)
  pub is : IsOf most g.recognizer tree
  pub ahead : i ≤ g.recognizer.end

-- Whatever the first tree is, it grows in this way.
pub record GrowsOn (most : ℕ) (r : Rule) (seen : List Seen) (o : Recognizer) (g : Sketch) : Type 0 where
  pub grown : (t : Tree) → IsOf most o t → (u : Tree) × GrowsBy most r t (drop o.end seen) g.root u (drop g.recognizer.end seen) × IsOf most g.recognizer u
  pub ahead : o.end ≤ g.recognizer.end

abbrev pub NotGrown : ℕ → Rule → List Seen → Recognizer → ParseFault → Type 0
NotGrown most r seen o e = (t : Tree) → IsOf most o t → OnFault e (NoGrowth most r t (drop o.end seen))
