-- How a reader sees a range of tokens.
use Rattle.std.specs.Prelude.{◌≡◌, ◌≤◌, ⊤, Bool, false, not, ◌&&◌, ◌||◌, IsTrue, List, [], ◌∷◌, codes}
use Rattle.c_terms.specs.declared.token.Token.{Token}
use Rattle.c_terms.specs.declared.tree.Tree.{Tree}
use Rattle.c_terms.specs.Trees.{levels}
use Rattle.c_rows.specs.Limits.{most_levels}
use Rattle.c_rows.specs.declared.class.Class.{Class}
use Rattle.c_rows.specs.declared.class.Class.TheVariants as class
use Rattle.c_rows.specs.declared.word.Word.TheVariants as word
use Rattle.c_rows.specs.declared.kind.Kind.TheVariants as kind
use Rattle.c_rows.specs.declared.kind.Family.TheVariants as family
use Rattle.c_rows.specs.Tokens.{is_sign}
use Rattle.c_rows.specs.Words.{same_class, fits, begins_specs, ends_member}
use Rattle.c_rows.specs.Look.{Names, look}
use Rattle.c_rows.specs.Seen.{Seen, front}
use Rattle.c_rows.specs.Spells.{Spells}
use Rattle.c_rows.specs.Choice.{first, begins_declarator}
use Rattle.c_rows.specs.Scan.{ends_as_member}

-- whether a member of an argument list may begin after this token
abbrev pub leads_member : Token → Bool
leads_member t = is_sign t (codes "(") || is_sign t (codes ",")

-- ---- whether a type can be a member

-- Whether a declarator without a name may begin with these two classes: with `*` or `[`, with the `(` of parameters, or
-- with the `(` of a declarator that doesn't begin with a name.
abbrev pub begins_nameless : Class → Class → Bool
begins_nameless c d =
    same_class class.Star c || same_class class.LeftBracket c || fits word.ListOpen c && first family.Params d
    || fits word.NestOpen c && (begins_declarator d && not (fits word.Name d))

-- whether these two classes may follow a name that is a type: as a modifier, the end of a member, or the start of a
-- declarator without a name
abbrev pub follows_type : Class → Class → Bool
follows_type c d = fits word.Modifier c || ends_member c || begins_nameless c d

-- the class of the second token
abbrev pub second : List Seen → Class
second [] = class.End
second (s ∷ ss) = front ss

-- Whether a type that ends where a member of an argument list may end may begin with these three classes.
abbrev pub begins_member : Class → Class → Class → Bool
begins_member c d e = begins_specs c && (not (fits word.Name c) || follows_type d e)

-- Whether a type that is a member of an argument list may begin here, judged by its first three tokens.
abbrev pub may_be_type : List Seen → Bool
may_be_type [] = false
may_be_type (s ∷ ss) = begins_member s.class (front ss) (second ss)

-- ---- marks

-- the token before its mark is known
abbrev pub unmarked : Seen → Seen
unmarked s = record { token = s.token; class = s.class; typed = false }

-- No expression without commas, of at most 1,000 levels, begins here and ends where a member of an argument list may end.
abbrev pub NoMember : List Seen → Type 0
NoMember ss = (u : Tree) (ys : List Seen) → Spells kind.AssignLevel ss u ys → IsTrue (ends_member (front ys)) → levels u ≤ most_levels → ⊥

-- The token is seen as it is. It is marked exactly if a member of an argument list may begin here, a type can be that
-- member by its first three tokens and by the end of the member, and no expression can. A type is the member there, and
-- nowhere else.
pub record IsSeenAs (names : Names) (leads : Bool) (t : Token) (ts : List Token) (s : Seen) (ss : List Seen) : Type 0 where
  pub token : s.token ≡ t
  pub class : s.class ≡ look names (t ∷ ts)
  pub marked : IsTrue s.typed → IsTrue leads × IsTrue (may_be_type (s ∷ ss)) × IsTrue (ends_as_member names (t ∷ ts)) × NoMember (unmarked s ∷ ss)
  pub unmarked_else : IsTrue leads → IsTrue (may_be_type (s ∷ ss)) → IsTrue (ends_as_member names (t ∷ ts)) → NoMember (unmarked s ∷ ss) → IsTrue s.typed

-- The tokens are seen as they are; `leads` says that a member of an argument list may begin at the first one.
abbrev pub AreSeenAs : Names → Bool → List Token → List Seen → Type 0
AreSeenAs names leads [] [] = ⊤
AreSeenAs names leads [] (s ∷ ss) = ⊥
AreSeenAs names leads (t ∷ ts) [] = ⊥
AreSeenAs names leads (t ∷ ts) (s ∷ ss) = IsSeenAs names leads t ts s ss × AreSeenAs names (leads_member t) ts ss
