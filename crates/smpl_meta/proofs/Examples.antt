-- The definitions applied to small values.
use Rattle.std.proofs.Common.{◌≡◌, ℕ, true, false, Option, List, [], ◌∷◌, Some, refl, codes, length, map, arith}
use Rattle.std.specs.Prelude.{option_and_then}
use Rattle.c_terms.specs.declared.token.TokenKind.TheVariants.{Name, Keyword, Punct, Stray, Dots}
use Rattle.c_terms.specs.declared.token.MetaKind.TheVariants as meta
use Rattle.smpl_patch.specs.declared.pattern.VarKind.TheVariants.{Meta, Position}
use Rattle.smpl_patch.specs.declared.pattern.VarDecl.{VarDecl}
use Rattle.smpl_patch.specs.declared.rule.Dep.TheVariants as dep
use Rattle.smpl_patch.specs.declared.rule.Mode.TheVariants as mode
use Rattle.smpl_patch.specs.declared.fault.PatchFault.{PatchFault}
use Rattle.smpl_patch.specs.declared.fault.PatchFault.TheVariants.{BadMetavariable, TwiceNamed, UnknownRule, KindDiffers}
use Rattle.smpl_patch.specs.Faults.{first_of}
use Rattle.smpl_patch.specs.declared.wanted.NameWanted.TheVariants as names
use Rattle.smpl_patch.specs.declared.wanted.TypeWanted.TheVariants as types
use Rattle.smpl_patch.specs.Wants.{anything}
use Rattle.smpl_lexer.specs.declared.token.PatchToken.{PatchToken}
use Rattle.smpl_lexer.specs.Tokens.{made}
use Rattle.smpl_meta.specs.declared.head.RuleHead.{RuleHead}
use Rattle.smpl_meta.specs.declared.item.Item.{Item}
use Rattle.smpl_meta.specs.Forms.{parts, before_sign, kind_items}
use Rattle.smpl_meta.specs.Typed.{specs_length, declarators}
use Rattle.smpl_meta.specs.Decls.{decl_faults, vars_of}
use Rattle.smpl_meta.specs.declared.patterns.Placed.{Placed}
use Rattle.smpl_meta.specs.Patterns.{pattern_tokens, split}
use Rattle.smpl_meta.specs.Patterns.Clause.{Not}
use Rattle.smpl_meta.specs.Shunting.{dep_of}
use Rattle.smpl_lexer.specs.Headers.{header_stop}
use Rattle.smpl_meta.specs.Heads.Spells.{one_both, one_prefix, negated, name as plain}
use Rattle.smpl_meta.specs.Spelled.{counted_in, IsHeader}
use Rattle.smpl_meta.specs.Spelled.Closes.{bare}
use Rattle.smpl_meta.specs.Spelled.Goes.{depends}
use Rattle.smpl_meta.specs.Spelled.IsHeader.{named}

abbrev word : List ℕ → ℕ → PatchToken
word text at = made Name text at

abbrev mark : List ℕ → ℕ → PatchToken
mark text at = made Punct text at

abbrev keyword : List ℕ → ℕ → PatchToken
keyword text at = made Keyword text at

-- what declarations that begin with the word for a kind declare
abbrev kind_answers : List PatchToken → List (Option (List Item))
kind_answers ts = map (λ part. option_and_then kind_items (before_sign (codes ";") part)) (parts ts)

abbrev faults : List RuleHead → List PatchToken → List PatchFault
faults heads ts = decl_faults heads (kind_answers ts) ts

-- rule 0 is `r` and has an expression x
abbrev x_of_r : VarDecl
x_of_r = record { var = record { rule = 0; name = codes "x" }; kind = Meta meta.Expr; inherited = false; not_names = []; not_places = []; wanted = anything }

abbrev earlier : List RuleHead
earlier = record { name = codes "r"; depends = dep.Always; mode = mode.Exists; vars = x_of_r ∷ [] } ∷ []

-- `identifier y != {a, b};`
two_not : vars_of [] 3 (kind_answers (word (codes "identifier") 0 ∷ word (codes "y") 1 ∷ mark (codes "!=") 2 ∷ mark (codes "{") 3
    ∷ word (codes "a") 4 ∷ mark (codes ",") 5 ∷ word (codes "b") 6 ∷ mark (codes "}") 7 ∷ mark (codes ";") 8 ∷ []))
    ≡ record {
      var = record { rule = 3; name = codes "y" };
      kind = Meta meta.Ident;
      inherited = false;
      not_names =
          codes "a" ∷ codes "b" ∷ [];
      not_places = [];
      wanted = anything;
    } ∷ []
two_not = refl

-- `expression **y;` takes what points to a pointer
points : vars_of [] 0 (kind_answers (word (codes "expression") 0 ∷ mark (codes "*") 1 ∷ mark (codes "*") 2 ∷ word (codes "y") 3 ∷ mark (codes ";") 4 ∷ []))
    ≡ record {
      var = record { rule = 0; name = codes "y" };
      kind = Meta meta.Expr;
      inherited = false;
      not_names = [];
      not_places = [];
      wanted = record { name = names.Any; ty = types.Pointer 2 };
    } ∷ []
points = refl

-- in `struct s *x`, `const foo_t *x` and `foo_t const x` two tokens are specifiers, in `unsigned x` one is
tag_specs : specs_length (keyword (codes "struct") 0 ∷ word (codes "s") 1 ∷ mark (codes "*") 2 ∷ word (codes "x") 3 ∷ []) ≡ 2
tag_specs = refl

name_specs : specs_length (keyword (codes "const") 0 ∷ word (codes "foo_t") 1 ∷ mark (codes "*") 2 ∷ word (codes "x") 3 ∷ []) ≡ 2
name_specs = refl

later_specs : specs_length (word (codes "foo_t") 0 ∷ keyword (codes "const") 1 ∷ word (codes "x") 2 ∷ []) ≡ 2
later_specs = refl

basic_specs : specs_length (keyword (codes "unsigned") 0 ∷ word (codes "x") 1 ∷ []) ≡ 1
basic_specs = refl

-- the comma of `x(int, int), y` that parts declarators is the one outside brackets
parted : length (declarators 0 (word (codes "x") 0 ∷ mark (codes "(") 1 ∷ keyword (codes "int") 2 ∷ mark (codes ",") 3 ∷ keyword (codes "int") 4
    ∷ mark (codes ")") 5 ∷ mark (codes ",") 6 ∷ word (codes "y") 7 ∷ [])) ≡ 2
parted = refl

-- `expression list;` declares a variable that is called list
called_list : vars_of [] 0 (kind_answers (word (codes "expression") 0 ∷ word (codes "list") 1 ∷ mark (codes ";") 2 ∷ []))
    ≡ record { var = record { rule = 0; name = codes "list" }; kind = Meta meta.Expr; inherited = false; not_names = []; not_places = []; wanted = anything } ∷ []
called_list = refl

-- `expression r.x;` is the variable of rule 0
inherits : vars_of earlier 1 (kind_answers (word (codes "expression") 0 ∷ word (codes "r") 1 ∷ mark (codes ".") 2 ∷ word (codes "x") 3 ∷ mark (codes ";") 4 ∷ []))
    ≡ record { var = record { rule = 0; name = codes "x" }; kind = Meta meta.Expr; inherited = true; not_names = []; not_places = []; wanted = anything } ∷ []
inherits = refl

-- `expression x, x;`, `symbol x, x;` and `symbol x; expression x;`
twice : first_of (faults [] (word (codes "expression") 0 ∷ word (codes "x") 1 ∷ mark (codes ",") 2 ∷ word (codes "x") 3
    ∷ mark (codes ";") 4 ∷ [])) ≡ Some (TwiceNamed 3)
twice = refl

symbols_twice : faults [] (word (codes "symbol") 0 ∷ word (codes "x") 1 ∷ mark (codes ",") 2 ∷ word (codes "x") 3 ∷ mark (codes ";") 4 ∷ []) ≡ []
symbols_twice = refl

symbol_and_variable : first_of (faults []
    (word (codes "symbol") 0 ∷ word (codes "x") 1 ∷ mark (codes ";") 2 ∷ word (codes "expression") 3 ∷ word (codes "x") 4
    ∷ mark (codes ";") 5 ∷ [])) ≡ Some (TwiceNamed 4)
symbol_and_variable = refl

-- `identifier r.x;`, `expression s.x;`, `expression if;`, and a declaration without its `;`
other_kind : first_of (faults earlier
    (word (codes "identifier") 0 ∷ word (codes "r") 1 ∷ mark (codes ".") 2 ∷ word (codes "x") 3 ∷ mark (codes ";") 4 ∷ [])) ≡ Some (KindDiffers 1)
other_kind = refl

no_rule : first_of (faults earlier (word (codes "expression") 0 ∷ word (codes "s") 1 ∷ mark (codes ".") 2
    ∷ word (codes "x") 3 ∷ mark (codes ";") 4 ∷ [])) ≡ Some (UnknownRule 1)
no_rule = refl

keyword_named : first_of (faults [] (word (codes "expression") 0 ∷ keyword (codes "if") 1 ∷ mark (codes ";") 2 ∷ [])) ≡ Some (BadMetavariable 1)
keyword_named = refl

no_semicolon : first_of (faults [] (word (codes "expression") 0 ∷ word (codes "x") 1 ∷ [])) ≡ Some (BadMetavariable 0)
no_semicolon = refl

-- `!r && a || b`: `&&` binds tighter, and a name that is no earlier rule is virtual
binds : dep_of earlier (mark (codes "!") 0 ∷ word (codes "r") 1 ∷ mark (codes "&&") 2 ∷ word (codes "a") 3 ∷ mark (codes "||") 4 ∷ word (codes "b") 5 ∷ [])
    ≡ dep.Either (dep.Both (dep.Not (dep.Had 0)) (dep.Defined (codes "a"))) (dep.Defined (codes "b"))
binds = refl

never : dep_of earlier (word (codes "never") 0 ∷ word (codes "r") 1 ∷ []) ≡ dep.Not (dep.Ever 0)
never = refl

-- `x@p` has one token, which a position follows
abbrev p_decl : List VarDecl
p_decl = record { var = record { rule = 0; name = codes "p" }; kind = Position; inherited = false; not_names = []; not_places = []; wanted = anything } ∷ []

abbrev placed : List Placed
placed = pattern_tokens p_decl (record {
  sign = 32;
  many = false;
  start = 0;
  text = codes "x@p";
  tokens =
      word (codes "x") 0 ∷ made Stray (codes "@") 1 ∷ word (codes "p") 2 ∷ [];
} ∷ [])

one_token : placed ≡ record {
  token = record { kind = Name; text = codes "x"; id = 0 };
  at = 0;
  sign = 32;
  line = 0;
  positions =
      record { rule = 0; name = codes "p" } ∷ [];
} ∷ []
one_token = refl

-- `... when != a` and in the next line `b`: the code ends with its line
abbrev dotted : List Placed
dotted = pattern_tokens [] (record {
  sign = 32;
  many = false;
  start = 0;
  text = [];
  tokens =
      made Dots (codes "...") 0 ∷ word (codes "when") 4 ∷ mark (codes "!=") 9 ∷ word (codes "a") 12 ∷ [];
}
    ∷ record { sign = 43; many = false; start = 14; text = []; tokens = word (codes "c") 15 ∷ [] }
    ∷ record { sign = 32; many = false; start = 17; text = []; tokens = word (codes "b") 17 ∷ [] } ∷ [])

two_outside : length (split dotted).main ≡ 2
two_outside = refl

one_clause : (split dotted).clauses ≡ (
  0,
  Not (record { token = record { kind = Name; text = codes "a"; id = 3 }; at = 12; sign = 32; line = 0; positions = [] } ∷ []),
) ∷ []
one_clause = refl

-- `!(ever r)` has three counted tokens
counts_three : counted_in (mark (codes "!") 0 ∷ mark (codes "(") 1 ∷ word (codes "ever") 2 ∷ word (codes "r") 3 ∷ mark (codes ")") 4 ∷ []) ≡ 3
counts_three = refl

-- `@s depends on !r@` is a header
abbrev at : ℕ → PatchToken
at place = made Stray (codes "@") place

is_header : IsHeader earlier 200 (at 0 ∷ word (codes "s") 1 ∷ word (codes "depends") 2 ∷ word (codes "on") 3
    ∷ mark (codes "!") 4 ∷ word (codes "r") 5 ∷ at 6 ∷ [])
is_header = named (at 0) (word (codes "s") 1) refl refl
    (depends {cs = mark (codes "!") 4 ∷ word (codes "r") 5 ∷ []} {ts = at 6 ∷ []} (word (codes "depends") 2) (word (codes "on") 3) refl refl
    (one_both (one_prefix (negated (mark (codes "!") 4) refl (plain (word (codes "r") 5) refl)))) (omega arith) (bare (at 6) refl))

-- `@s depends on r t@` stops at t, and `@s depends on` at its end
at_second_name : header_stop (at 0 ∷ word (codes "s") 1 ∷ word (codes "depends") 2 ∷ word (codes "on") 3 ∷ word (codes "r") 4
    ∷ word (codes "t") 5 ∷ at 6 ∷ []) 9 ≡ Some 5
at_second_name = refl

at_end : header_stop (at 0 ∷ word (codes "s") 1 ∷ word (codes "depends") 2 ∷ word (codes "on") 3 ∷ []) 9 ≡ Some 9
at_end = refl
