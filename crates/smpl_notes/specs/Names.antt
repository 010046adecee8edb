-- Plain names of one or two letters that stand as expressions.
use Rattle.std.specs.Prelude.{ℕ, suc, Bool, false, ◌||◌, if◌then◌else◌, List, [], ◌∷◌, ◌++◌}
use Rattle.std.specs.List.{flat_map}
use Rattle.c_terms.specs.declared.label.Label.{Label}
use Rattle.c_terms.specs.declared.label.Label.TheVariants as label
use Rattle.c_terms.specs.declared.token.Token.{Token}
use Rattle.c_terms.specs.declared.tree.Tree.{Tree}
use Rattle.c_terms.specs.declared.tree.Tree.TheOpen.{Tree-F}
use Rattle.c_terms.specs.declared.tree.Tree.TheFolds.{fold-Tree}
use Rattle.c_terms.specs.Shapes.{may_hold}
use Rattle.c_terms.specs.Names.{has_name, with_name}
use Rattle.smpl_patch.specs.declared.pattern.Spot.{Spot}
use Rattle.smpl_patch.specs.declared.pattern.Spot.TheVariants as spot
use Rattle.smpl_patch.specs.declared.pattern.Pattern.{Pattern}
use Rattle.smpl_lexer.specs.declared.token.PatchToken.{PatchToken}
use Rattle.smpl_lexer.specs.declared.text.RuleText.{RuleText}
use Rattle.smpl_notes.specs.declared.note.Slip.TheVariants.{PlainName}
use Rattle.smpl_notes.specs.declared.note.Found.{Found}
use Rattle.smpl_notes.specs.Tokens.{is_short_name}

-- ---- names in a tree

-- whether child i of a branch stands as an expression; what a call calls does not count
abbrev pub may_stand : Label → ℕ → Bool
may_stand label.Call i = false
may_stand l i = may_hold l i

-- of a tree: itself, if it is a short name; and the short names inside that stand as expressions
pub record ShortNames : Type 0 where
  pub own : List Token
  pub inside : List Token

-- of children, the first of which is child i
abbrev pub inside_from : Label → ℕ → List ShortNames → List Token
inside_from l i [] = []
inside_from l i (k ∷ ks) = (if may_stand l i then k.own else []) ++ k.inside ++ inside_from l (suc i) ks

abbrev pub short_names_step : Tree-F ShortNames → ShortNames
short_names_step (Tree-F.Leaf t) = record { own = (if is_short_name t then t ∷ [] else []); inside = [] }
short_names_step (Tree-F.Branch l ks) = record { own = []; inside = inside_from l 0 ks }

abbrev pub short_names : Tree → ShortNames
short_names = fold-Tree ShortNames short_names_step

-- ---- names in patterns

-- a pattern at the spot of expressions stands as one itself
abbrev pub own_at : Spot → Tree → List Token
own_at spot.Inside form = (short_names form).own
own_at spot.Whole form = []
own_at spot.Tail form = []

abbrev pub names_of_first : Spot → List Tree → List Token
names_of_first s [] = []
names_of_first s (form ∷ forms) = own_at s form ++ (short_names form).inside

abbrev pub names_of : List Pattern → List Token
names_of ps = flat_map (λ p. names_of_first p.spot p.forms) ps

-- ---- names in declarations

abbrev pub with_words : List (List ℕ) → List PatchToken → List (List ℕ)
with_words words [] = words
with_words words (t ∷ ts) = with_words (with_name words t.token.text) ts

abbrev pub words_from : List (List ℕ) → List RuleText → List (List ℕ)
words_from words [] = words
words_from words (r ∷ rs) = words_from (with_words words r.decls) rs

-- the words of all declarations of a patch
abbrev pub declared_words : List RuleText → List (List ℕ)
declared_words rules = words_from [] rules

-- ---- the slips

-- a declaration has the name, or it stands before
abbrev pub is_known : (declared seen : List (List ℕ)) → List ℕ → Bool
is_known declared seen name = has_name declared name || has_name seen name

-- of a name after these
abbrev pub slip_of : (declared seen : List (List ℕ)) → Token → List Found
slip_of declared seen t = if is_known declared seen t.text then [] else record { token = t.id; slip = PlainName t.text } ∷ []

-- each name that no declaration has, where it stands first
abbrev pub slips_from : (declared seen : List (List ℕ)) → List Token → List Found
slips_from declared seen [] = []
slips_from declared seen (t ∷ ts) = slip_of declared seen t ++ slips_from declared (with_name seen t.text) ts

abbrev pub name_slips : List (List ℕ) → List Pattern → List Found
name_slips declared ps = slips_from declared [] (names_of ps)
