-- The parts that a row has: tests of the rules, and of the alternatives of forks.
use Rattle.std.proofs.Common.{◌≡◌, refl, List, [], ◌∷◌}
use Rattle.std.proofs.lemmas.Bool.{false≢true}
use Rattle.std.specs.Prelude.{Bool, true, false, not, ◌&&◌, IsTrue}
use Rattle.std.specs.List.{list_all}
use Rattle.c_terms.specs.declared.label.Label.{Label}
use Rattle.c_terms.specs.declared.tree.Tree.{Tree}
use Rattle.c_rows.specs.declared.class.Class.{Class}
use Rattle.c_rows.specs.declared.kind.Kind.{Kind}
use Rattle.c_rows.specs.declared.kind.Kind.TheVariants as kind
use Rattle.c_rows.specs.declared.rule.Rule.{Rule}
use Rattle.c_rows.specs.declared.rule.Rule.TheVariants as rule
use Rattle.c_rows.specs.declared.symbol.Symbol.{Symbol}
use Rattle.c_rows.specs.declared.symbol.Symbol.TheVariants as symbol
use Rattle.c_rows.specs.declared.symbol.Fork.{Fork}
use Rattle.c_rows.specs.declared.symbol.Fork.TheVariants as forks
use Rattle.c_rows.specs.Kinds.{family_of, within, has_leaf}
use Rattle.c_rows.specs.Rows.{Row, ways, kind_of, label_of}
use Rattle.c_rows.proofs.FirstChecks.{not_true}
use Rattle.c_rows.proofs.NamingLemmas.{both_pass, label_passes}
use Rattle.smpl_body.specs.SmplElem.Forms.{is_list_label}
use Rattle.sound_laws.proofs.SmplLeaves.SignLemmas.{is_sign_word}

-- ---- lists of statements

abbrev pub is_list_kind : Kind → Bool
is_list_kind kind.StmtList = true
is_list_kind _ = false

pub no_leaf : (k : Kind) (c : Class) → IsTrue (is_list_kind k) → IsTrue (has_leaf (family_of k) c) → ⊥
no_leaf kind.StmtList c h l = false≢true l
no_leaf _ c h l = false≢true h

pub list_rule : (r : Rule) (cs : List Tree) → IsTrue (within (kind_of r) kind.StmtList) → is_list_label (label_of r cs) ≡ true
list_rule rule.StmtList cs w = refl
list_rule _ cs w = absurd (false≢true w)

pub list_label : (k : Kind) (r : Rule) (cs : List Tree) → IsTrue (is_list_kind k) → IsTrue (within (kind_of r) k) → is_list_label (label_of r cs) ≡ true
list_label kind.StmtList r cs h w = list_rule r cs w
list_label _ r cs h w = absurd (false≢true h)

-- ---- expressions are no lists

abbrev is_listless : Label → Bool
is_listless l = not (is_list_label l)

listless_test : (r : Rule) → IsTrue (within (kind_of r) kind.Expr) → IsTrue (both_pass is_listless r)
listless_test rule.StmtList w = absurd (false≢true w)
listless_test _ w = refl

pub listless_rule : (r : Rule) (cs : List Tree) → IsTrue (within (kind_of r) kind.Expr) → is_list_label (label_of r cs) ≡ false
listless_rule r cs w = not_true (is_list_label (label_of r cs)) (label_passes is_listless r cs (listless_test r w))

-- ---- tests of rows

abbrev pub is_list_fork : Fork → Bool
is_list_fork forks.FirstList = true
is_list_fork forks.MoreListsOr = true
is_list_fork forks.MoreListsAnd = true
is_list_fork _ = false

-- lists of statements and signs, and no other parts
abbrev pub listed : Row → Bool
listed [] = true
listed (symbol.Word w ∷ ps) = is_sign_word w && listed ps
listed (symbol.Child k ∷ ps) = is_list_kind k && listed ps
listed (symbol.Argument ∷ ps) = false
listed (symbol.Fork f ∷ ps) = is_list_fork f

pub listed_ways : (f : Fork) → IsTrue (is_list_fork f) → IsTrue (list_all listed (ways f))
listed_ways forks.FirstList h = refl
listed_ways forks.MoreListsOr h = refl
listed_ways forks.MoreListsAnd h = refl
listed_ways _ h = absurd (false≢true h)

abbrev pub is_nest_fork : Fork → Bool
is_nest_fork forks.NestStart = true
is_nest_fork forks.NestStatements = true
is_nest_fork forks.NestBehindDots = true
is_nest_fork _ = false

abbrev pub is_end : Symbol → Bool
is_end (symbol.Word w) = is_sign_word w
is_end (symbol.Child k) = false
is_end symbol.Argument = false
is_end (symbol.Fork f) = is_nest_fork f

-- the last part is a sign
abbrev pub ends_signed : Row → Bool
ends_signed [] = false
ends_signed (p ∷ []) = is_end p
ends_signed (p ∷ q ∷ ps) = ends_signed (q ∷ ps)

pub signed_ways : (f : Fork) → IsTrue (is_nest_fork f) → IsTrue (list_all ends_signed (ways f))
signed_ways forks.NestStart h = refl
signed_ways forks.NestStatements h = refl
signed_ways forks.NestBehindDots h = refl
signed_ways _ h = absurd (false≢true h)

abbrev pub is_block_fork : Fork → Bool
is_block_fork forks.BlockStatements = true
is_block_fork _ = false

-- there is a part
abbrev pub filled : Row → Bool
filled [] = false
filled (symbol.Word w ∷ ps) = true
filled (symbol.Child k ∷ ps) = true
filled (symbol.Argument ∷ ps) = true
filled (symbol.Fork f ∷ ps) = is_block_fork f

pub filled_ways : (f : Fork) → IsTrue (is_block_fork f) → IsTrue (list_all filled (ways f))
filled_ways forks.BlockStatements h = refl
filled_ways _ h = absurd (false≢true h)
