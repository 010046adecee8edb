-- Neighbours with and without a space, and the parts that children play.
use Rattle.std.specs.Prelude.{◌≡◌, ℕ, true, false, List, [], ◌∷◌, None, refl, codes}
use Rattle.c_terms.specs.declared.label.Label.TheVariants as label
use Rattle.c_terms.specs.declared.token.TokenKind.{TokenKind}
use Rattle.c_terms.specs.declared.token.TokenKind.TheVariants.{Name, Keyword, Number, Punct}
use Rattle.c_show.specs.declared.page.Role.{Role}
use Rattle.c_show.specs.declared.page.Role.TheVariants.{Plain, Operator, Star}
use Rattle.c_show.specs.Joint.{runs_together}
use Rattle.c_show.specs.Show.{Shown, role_of, is_parted, joined}

abbrev token : TokenKind → List ℕ → Role → Shown
token kind text role = record { kind = kind; text = text; role = role }

abbrev name : List ℕ → Shown
name text = token Name text Plain

abbrev punct : List ℕ → Shown
punct text = token Punct text Plain

names_run_together : is_parted (name (codes "a")) (name (codes "b")) ≡ true
unfolding runs_together
names_run_together = refl

signs_run_together : is_parted (punct (codes "-")) (punct (codes "->")) ≡ true
unfolding runs_together
signs_run_together = refl

-- `..` is not a token, but a third dot would join the two
dots_run_together : is_parted (punct (codes ".")) (punct (codes ".")) ≡ true
unfolding runs_together
dots_run_together = refl

-- a number takes the sign after its exponent
exponent_takes_a_sign : is_parted (token Number (codes "1e") Plain) (punct (codes "+")) ≡ true
unfolding runs_together
exponent_takes_a_sign = refl

a_bracket_stands_tight : is_parted (name (codes "f")) (punct (codes "(")) ≡ false
unfolding runs_together
a_bracket_stands_tight = refl

after_a_comma : is_parted (punct (codes ",")) (punct (codes "(")) ≡ true
unfolding runs_together
after_a_comma = refl

before_a_comma : is_parted (name (codes "a")) (punct (codes ",")) ≡ false
unfolding runs_together
before_a_comma = refl

after_a_semicolon : is_parted (punct (codes ";")) (punct (codes "(")) ≡ true
unfolding runs_together
after_a_semicolon = refl

around_an_operator : joined None (name (codes "a") ∷ token Punct (codes "+") Operator ∷ name (codes "b") ∷ []) ≡ codes "a + b"
unfolding runs_together
around_an_operator = refl

-- elsewhere the same text is not an operator, such as the `=` of a designator
a_sign_alone_stands_tight : joined None (name (codes "a") ∷ punct (codes "=") ∷ name (codes "b") ∷ []) ≡ codes "a=b"
unfolding runs_together
a_sign_alone_stands_tight = refl

name_before_a_pointer : is_parted (name (codes "foo_t")) (token Punct (codes "*") Star) ≡ true
unfolding runs_together
name_before_a_pointer = refl

keyword_before_a_pointer : is_parted (token Keyword (codes "int") Plain) (token Punct (codes "*") Star) ≡ true
unfolding runs_together
keyword_before_a_pointer = refl

star_before_a_pointer : is_parted (token Punct (codes "*") Star) (token Punct (codes "*") Star) ≡ false
unfolding runs_together
star_before_a_pointer = refl

inside_braces : joined None (punct (codes ")") ∷ punct (codes "{") ∷ name (codes "a") ∷ punct (codes "}") ∷ []) ≡ codes ") { a }"
unfolding runs_together
inside_braces = refl

-- one space, not two
empty_braces : joined None (punct (codes "{") ∷ punct (codes "}") ∷ []) ≡ codes "{ }"
unfolding runs_together
empty_braces = refl

after_a_brace_that_closes : is_parted (punct (codes "}")) (punct (codes ";")) ≡ false
unfolding runs_together
after_a_brace_that_closes = refl

binary : (role_of label.Binary 1 ≡ Operator) × (role_of label.Binary 0 ≡ Plain)
binary = (refl, refl)

assign : (role_of label.Assign 1 ≡ Operator) × (role_of label.Assign 2 ≡ Plain)
assign = (refl, refl)

cond : (role_of label.Cond 1 ≡ Operator) × ((role_of label.Cond 2 ≡ Plain) × (role_of label.Cond 3 ≡ Operator))
cond = (refl, (refl, refl))

cond_short : (role_of label.CondShort 1 ≡ Operator) × ((role_of label.CondShort 2 ≡ Operator) × (role_of label.CondShort 3 ≡ Plain))
cond_short = (refl, (refl, refl))

init_decl : (role_of label.InitDecl 1 ≡ Operator) × (role_of label.InitDecl 0 ≡ Plain)
init_decl = (refl, refl)

pointer : (role_of label.Pointer 0 ≡ Star) × (role_of label.Pointer 1 ≡ Plain)
pointer = (refl, refl)

-- neither a comma nor a prefix sign is an operator with two operands
others : (role_of label.Comma 1 ≡ Plain) × (role_of label.Unary 0 ≡ Plain)
others = (refl, refl)
