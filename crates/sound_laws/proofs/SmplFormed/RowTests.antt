-- The parts that a row has: tests of the rules, and of the alternatives of forks.
use Rattle.std.proofs.Common.{◌≡◌, refl, List, [], ◌∷◌, subst}
use Rattle.std.proofs.lemmas.Bool.{false≢true}
use Rattle.std.specs.Prelude.{Bool, true, false, not, ◌&&◌, ◌||◌, IsTrue, if◌then◌else◌}
use Rattle.std.specs.List.{list_all}
use Rattle.c_terms.specs.declared.label.Label.{Label}
use Rattle.c_terms.specs.declared.tree.Tree.{Tree}
use Rattle.c_rows.specs.declared.class.Class.{Class}
use Rattle.c_rows.specs.declared.class.Class.TheVariants as class
use Rattle.c_rows.specs.declared.kind.Kind.{Kind}
use Rattle.c_rows.specs.declared.kind.Kind.TheVariants as kind
use Rattle.c_rows.specs.declared.kind.Family.{Family}
use Rattle.c_rows.specs.declared.kind.Family.TheVariants as family
use Rattle.c_rows.specs.declared.word.Word.{Word}
use Rattle.c_rows.specs.declared.word.Word.TheVariants as words
use Rattle.c_rows.specs.declared.rule.Rule.{Rule}
use Rattle.c_rows.specs.declared.rule.Rule.TheVariants as rule
use Rattle.c_rows.specs.declared.symbol.Symbol.TheVariants as symbol
use Rattle.c_rows.specs.declared.symbol.Fork.{Fork}
use Rattle.c_rows.specs.declared.symbol.Fork.TheVariants as forks
use Rattle.c_rows.specs.Kinds.{family_of, within, has_leaf}
use Rattle.c_rows.specs.Words.{fits}
use Rattle.c_rows.specs.Branches.{begins_dots}
use Rattle.c_rows.specs.Rows.{Row, row, ways, kind_of, label_of}
use Rattle.c_rows.specs.Choice.{full}
use Rattle.c_rows.proofs.FirstChecks.{one_is, not_true}
use Rattle.c_rows.proofs.NamingLemmas.{both_pass, label_passes}
use Rattle.smpl_body.specs.SmplElem.Forms.{is_list_label}
use Rattle.sound_laws.specs.SmplFormed.Shapes.{is_nest_label}

-- ---- which trees are lists of statements, and which are dots or nests

abbrev pub is_list_kind : Kind → Bool
is_list_kind kind.StmtList = true
is_list_kind _ = false

abbrev pub is_statement_family : Family → Bool
is_statement_family family.Statement = true
is_statement_family _ = false

-- trees of this kind are no dots and no nests
abbrev pub is_safe : Kind → Bool
is_safe k = not (is_statement_family (family_of k))

abbrev pub neither : Kind → Bool
neither k = not (is_list_kind k)

pub no_leaf : (k : Kind) (c : Class) → IsTrue (is_list_kind k) → IsTrue (has_leaf (family_of k) c) → ⊥
no_leaf kind.StmtList c h l = false≢true l
no_leaf _ c h l = false≢true h

list_rule : (r : Rule) (cs : List Tree) → IsTrue (within (kind_of r) kind.StmtList) → is_list_label (label_of r cs) ≡ true
list_rule rule.StmtList cs w = refl
list_rule _ cs w = absurd (false≢true w)

pub list_label : (k : Kind) (r : Rule) (cs : List Tree) → IsTrue (is_list_kind k) → IsTrue (within (kind_of r) k) → is_list_label (label_of r cs) ≡ true
list_label kind.StmtList r cs h w = list_rule r cs w
list_label _ r cs h w = absurd (false≢true h)

list_within : (k : Kind) → IsTrue (neither k) → IsTrue (within kind.StmtList k) → ⊥
list_within kind.StmtList n w = false≢true n
list_within _ n w = false≢true w

nest_within : (k : Kind) → IsTrue (is_safe k) → IsTrue (within kind.PatNest k) → ⊥
nest_within kind.PatNest n w = false≢true n
nest_within kind.Block n w = false≢true n
nest_within kind.Body n w = false≢true n
nest_within kind.Statement n w = false≢true n
nest_within _ n w = false≢true w

abbrev is_unlisted : Label → Bool
is_unlisted l = not (is_list_label l)

abbrev is_nestless : Label → Bool
is_nestless l = not (is_nest_label l)

unlisted_test : (r : Rule) (k : Kind) → IsTrue (neither k) → IsTrue (within (kind_of r) k) → IsTrue (both_pass is_unlisted r)
unlisted_test rule.StmtList k n w = absurd (list_within k n w)
unlisted_test _ k n w = refl

pub rule_unlisted : (r : Rule) (cs : List Tree) (k : Kind) → IsTrue (neither k) → IsTrue (within (kind_of r) k) → is_list_label (label_of r cs) ≡ false
rule_unlisted r cs k n w = not_true (is_list_label (label_of r cs)) (label_passes is_unlisted r cs (unlisted_test r k n w))

abbrev pub is_nest_rule : Rule → Bool
is_nest_rule rule.PatNest = true
is_nest_rule _ = false

nestless_test : (r : Rule) → IsTrue (not (is_nest_rule r)) → IsTrue (both_pass is_nestless r)
nestless_test rule.PatNest n = absurd (false≢true n)
nestless_test _ n = refl

pub other_rule : (r : Rule) (cs : List Tree) → IsTrue (not (is_nest_rule r)) → is_nest_label (label_of r cs) ≡ false
other_rule r cs n = not_true (is_nest_label (label_of r cs)) (label_passes is_nestless r cs (nestless_test r n))

safe_is_other : (r : Rule) (k : Kind) → IsTrue (is_safe k) → IsTrue (within (kind_of r) k) → IsTrue (not (is_nest_rule r))
safe_is_other rule.PatNest k n w = absurd (nest_within k n w)
safe_is_other _ k n w = refl

pub safe_rule : (r : Rule) (cs : List Tree) (k : Kind) → IsTrue (is_safe k) → IsTrue (within (kind_of r) k) → is_nest_label (label_of r cs) ≡ false
safe_rule r cs k n w = other_rule r cs (safe_is_other r k n w)

-- ---- rows without lists of statements

abbrev pub is_list_fork : Fork → Bool
is_list_fork forks.FirstList = true
is_list_fork forks.MoreListsOr = true
is_list_fork forks.MoreListsAnd = true
is_list_fork _ = false

abbrev pub bare : Row → Bool
bare [] = true
bare (symbol.Word w ∷ ps) = bare ps
bare (symbol.Child k ∷ ps) = neither k && bare ps
bare (symbol.Argument ∷ ps) = bare ps
bare (symbol.Fork f ∷ ps) = not (is_list_fork f)

pub bare_ways : (f : Fork) → IsTrue (not (is_list_fork f)) → IsTrue (list_all bare (ways f))
bare_ways forks.FirstList h = absurd (false≢true h)
bare_ways forks.MoreListsOr h = absurd (false≢true h)
bare_ways forks.MoreListsAnd h = absurd (false≢true h)
bare_ways _ h = refl

-- ---- where dots and nests stand

-- tokens of this word are no dots
abbrev pub is_plain_word : Word → Bool
is_plain_word w = not (fits w class.Dots)

abbrev pub is_statements : Fork → Bool
is_statements forks.BlockStatements = true
is_statements forks.ListStatements = true
is_statements forks.NestStatements = true
is_statements forks.NestStart = true
is_statements forks.BlockBehindDots = true
is_statements forks.ListBehindDots = true
is_statements forks.NestBehindDots = true
is_statements _ = false

abbrev pub is_behind : Fork → Bool
is_behind forks.BlockBehindDots = true
is_behind forks.ListBehindDots = true
is_behind forks.NestBehindDots = true
is_behind _ = false

abbrev is_first_list : Fork → Bool
is_first_list forks.FirstList = true
is_first_list _ = false

-- a row that begins with no dots and no nest
abbrev pub shy : Row → Bool
shy [] = true
shy (symbol.Word w ∷ ps) = is_plain_word w
shy (symbol.Child k ∷ ps) = is_safe k
shy (symbol.Argument ∷ ps) = true
shy (symbol.Fork f ∷ ps) = is_behind f

-- a row that has no two of them side by side
abbrev pub calm : Row → Bool
calm [] = true
calm (symbol.Word w ∷ ps) = (is_plain_word w || shy ps) && calm ps
calm (symbol.Child k ∷ ps) = (is_safe k || shy ps) && calm ps
calm (symbol.Argument ∷ ps) = calm ps
calm (symbol.Fork f ∷ ps) = is_statements f

-- at a fork a statement that is no dots and no nest stands where the row says so
abbrev pub is_guarded : Kind → Bool
is_guarded kind.Statement = true
is_guarded _ = false

abbrev pub shy_way : Row → Bool
shy_way (symbol.Child k ∷ ps) = is_guarded k || is_safe k
shy_way ps = shy ps

abbrev pub calm_way : Row → Bool
calm_way (symbol.Child k ∷ ps) = if is_guarded k then calm ps else calm (symbol.Child k ∷ ps)
calm_way ps = calm ps

pub shy_ways : (f : Fork) → IsTrue (is_behind f) → IsTrue (list_all shy_way (ways f))
shy_ways forks.BlockBehindDots h = refl
shy_ways forks.ListBehindDots h = refl
shy_ways forks.NestBehindDots h = refl
shy_ways _ h = absurd (false≢true h)

pub calm_ways : (f : Fork) → IsTrue (is_statements f) → IsTrue (list_all calm_way (ways f))
calm_ways forks.BlockStatements h = refl
calm_ways forks.ListStatements h = refl
calm_ways forks.NestStatements h = refl
calm_ways forks.NestStart h = refl
calm_ways forks.BlockBehindDots h = refl
calm_ways forks.ListBehindDots h = refl
calm_ways forks.NestBehindDots h = refl
calm_ways _ h = absurd (false≢true h)

-- no dots and no nest at all: the lists of a disjunction and their signs
abbrev pub quiet : Row → Bool
quiet [] = true
quiet (symbol.Word w ∷ ps) = is_plain_word w && quiet ps
quiet (symbol.Child k ∷ ps) = is_safe k && quiet ps
quiet (symbol.Argument ∷ ps) = quiet ps
quiet (symbol.Fork f ∷ ps) = is_list_fork f

pub quiet_ways : (f : Fork) → IsTrue (is_list_fork f) → IsTrue (list_all quiet (ways f))
quiet_ways forks.FirstList h = refl
quiet_ways forks.MoreListsOr h = refl
quiet_ways forks.MoreListsAnd h = refl
quiet_ways _ h = absurd (false≢true h)

-- ---- the last token of a nest

abbrev pub is_nest_fork : Fork → Bool
is_nest_fork forks.NestStart = true
is_nest_fork forks.NestStatements = true
is_nest_fork forks.NestBehindDots = true
is_nest_fork _ = false

abbrev pub ends_worded : Row → Bool
ends_worded [] = false
ends_worded (symbol.Word w ∷ []) = true
ends_worded (symbol.Word w ∷ p ∷ ps) = ends_worded (p ∷ ps)
ends_worded (symbol.Child k ∷ ps) = ends_worded ps
ends_worded (symbol.Argument ∷ ps) = ends_worded ps
ends_worded (symbol.Fork f ∷ ps) = is_nest_fork f

pub worded_ways : (f : Fork) → IsTrue (is_nest_fork f) → IsTrue (list_all ends_worded (ways f))
worded_ways forks.NestStart h = refl
worded_ways forks.NestStatements h = refl
worded_ways forks.NestBehindDots h = refl
worded_ways _ h = absurd (false≢true h)

-- the signs with which a nest begins
abbrev is_nest_sign : Class → Bool
is_nest_sign class.PatNestOfExpression = true
is_nest_sign class.PatNestOfStatements = true
is_nest_sign _ = false

abbrev is_nest_word : Word → Bool
is_nest_word (words.One c) = is_nest_sign c
is_nest_word _ = false

nest_begins : (c : Class) → IsTrue (is_nest_sign c) → begins_dots c ≡ true
nest_begins class.PatNestOfExpression h = refl
nest_begins class.PatNestOfStatements h = refl
nest_begins _ h = absurd (false≢true h)

pub nest_class : (w : Word) → IsTrue (is_nest_word w) → (c : Class) → IsTrue (fits w c) → begins_dots c ≡ true
nest_class (words.One c) h d f = subst (λ (e : Class). begins_dots e ≡ true) (one_is c d f) (nest_begins c h)
nest_class _ h d f = absurd (false≢true h)

abbrev pub begins_nest : Row → Bool
begins_nest [] = false
begins_nest (symbol.Word w ∷ ps) = is_nest_word w
begins_nest (symbol.Child k ∷ ps) = false
begins_nest (symbol.Argument ∷ ps) = false
begins_nest (symbol.Fork f ∷ ps) = false

-- ---- a list of statements among the parts

abbrev pub has_list : Row → Bool
has_list [] = false
has_list (symbol.Word w ∷ ps) = has_list ps
has_list (symbol.Child k ∷ ps) = is_list_kind k
has_list (symbol.Argument ∷ ps) = false
has_list (symbol.Fork f ∷ ps) = is_first_list f

pub list_ways : (f : Fork) → IsTrue (is_first_list f) → IsTrue (list_all has_list (ways f))
list_ways forks.FirstList h = refl
list_ways _ h = absurd (false≢true h)

-- ---- how many children a row has

-- forks whose rows take a token first
abbrev pub is_rich_fork : Fork → Bool
is_rich_fork forks.FirstString = true
is_rich_fork forks.NoType = true
is_rich_fork forks.MacroWords = true
is_rich_fork forks.MacroNames = true
is_rich_fork forks.NestStart = true
is_rich_fork forks.FirstList = true
is_rich_fork forks.MoreListsOr = true
is_rich_fork forks.MoreListsAnd = true
is_rich_fork forks.MacroEnd = true
is_rich_fork forks.FirstBranch = true
is_rich_fork _ = false

-- a row that takes a token more than it has children without one
abbrev pub rich : Row → Bool
rich [] = false
rich (symbol.Word w ∷ ps) = true
rich (symbol.Child k ∷ ps) = full (family_of k)
rich (symbol.Argument ∷ ps) = true
rich (symbol.Fork f ∷ ps) = is_rich_fork f

-- children that may have no token stand before one that has
abbrev pub thrifty : Row → Bool
thrifty [] = true
thrifty (symbol.Word w ∷ ps) = thrifty ps
thrifty (symbol.Child k ∷ ps) = (full (family_of k) || rich ps) && thrifty ps
thrifty (symbol.Argument ∷ ps) = thrifty ps
thrifty (symbol.Fork f ∷ ps) = true

pub thrifty_ways : (f : Fork) → IsTrue (list_all thrifty (ways f))
thrifty_ways forks.FirstString = refl
thrifty_ways _ = refl

pub rich_ways : (f : Fork) → IsTrue (is_rich_fork f) → IsTrue (list_all rich (ways f))
rich_ways forks.FirstString h = refl
rich_ways forks.NoType h = refl
rich_ways forks.MacroWords h = refl
rich_ways forks.MacroNames h = refl
rich_ways forks.NestStart h = refl
rich_ways forks.FirstList h = refl
rich_ways forks.MoreListsOr h = refl
rich_ways forks.MoreListsAnd h = refl
rich_ways forks.MacroEnd h = refl
rich_ways forks.FirstBranch h = refl
rich_ways _ h = absurd (false≢true h)

pub thrifty_row : (r : Rule) → IsTrue (thrifty (row r))
thrifty_row rule.Paren = refl
thrifty_row _ = refl

pub rich_row : (r : Rule) → IsTrue (not (full (family_of (kind_of r))) || rich (row r))
rich_row rule.Paren = refl
rich_row _ = refl
