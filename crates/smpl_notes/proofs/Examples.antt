-- The definitions at small values, above all where two readings differ.
use Rattle.std.proofs.Common.{◌≡◌, ℕ, true, false, Option, Some, None, List, [], ◌∷◌, ◌++◌, map, refl, ap, ◌∙◌, codes}
use Rattle.c_terms.specs.declared.label.Label.TheVariants as label
use Rattle.c_terms.specs.declared.token.Token.{Token}
use Rattle.c_terms.specs.declared.token.TokenKind.{TokenKind}
use Rattle.c_terms.specs.declared.token.TokenKind.TheVariants as token
use Rattle.c_terms.specs.declared.token.MetaKind.TheVariants as meta
use Rattle.c_terms.specs.declared.tree.Tree.{Tree}
use Rattle.c_terms.specs.declared.tree.Tree.TheVariants.{Leaf, Branch}
use Rattle.c_terms.specs.declared.tree.Tree.TheOpen.{Tree-F}
use Rattle.c_terms.proofs.SameLemmas.{out-Leaf, out-Branch}
use Rattle.text_places.specs.declared.place.Place.{Place}
use Rattle.smpl_patch.specs.declared.pattern.Pattern.{Pattern}
use Rattle.smpl_patch.specs.declared.pattern.Spot.TheVariants as spot
use Rattle.smpl_patch.specs.declared.elem.Elem.TheVariants as elem
use Rattle.smpl_patch.specs.declared.rule.Dep.TheVariants as dep
use Rattle.smpl_patch.specs.declared.rule.Mode.TheVariants as mode
use Rattle.smpl_patch.specs.declared.rule.Rule.{Rule}
use Rattle.smpl_patch.proofs.BodyLemmas.{element-Atom}
use Rattle.smpl_patch.specs.Bodies.{Element, Atom, Block, Gap, Nest, Body, End, Then, NoMore, More}
use Rattle.smpl_patch.specs.Shapes.{patterns_body}
use Rattle.smpl_meta.specs.declared.patterns.Placed.{Placed}
use Rattle.smpl_meta.specs.Patterns.{pattern_tokens}
use Rattle.smpl_lexer.specs.declared.token.PatchToken.{PatchToken}
use Rattle.smpl_lexer.specs.declared.text.BodyLine.{BodyLine}
use Rattle.smpl_lexer.specs.declared.text.RuleText.{RuleText}
use Rattle.smpl_lexer.specs.declared.text.PatchText.{PatchText}
use Rattle.smpl_lexer.specs.Tokens.{made}
use Rattle.smpl_notes.specs.declared.note.Slip.TheVariants as slip
use Rattle.smpl_notes.specs.declared.note.Note.{Note}
use Rattle.smpl_notes.specs.declared.note.Note.TheVariants.{NoSign, InRule}
use Rattle.smpl_notes.specs.Tokens.{is_short_name, is_zero}
use Rattle.smpl_notes.specs.Minus.{minus_of_form, leads_context, minus_slip, minus_slips}
use Rattle.smpl_notes.specs.Functions.{have_dots, is_loopless, is_untyped, function_slips}
use Rattle.smpl_notes.specs.Names.{short_names, slips_from, name_slips}
use Rattle.smpl_notes.specs.NullTests.{or_else, tested, at_sign, test_slips}
use Rattle.smpl_notes.specs.Notes.{sign_notes, places, note, notes}
use Rattle.smpl_notes.specs.Sentences.{sentence}
use Rattle.smpl_notes.specs.Told.{is_told, is_told_always}
use Rattle.smpl_notes.specs.KindWords.{distance, one_at}
use Rattle.smpl_notes.specs.Types.{lone_type, type_notes}
use Rattle.smpl_notes.specs.declared.kind_word.KindWord.TheVariants as kind
use Rattle.strsim.specs.Edits.{rows, next_row, cost_at}
use Rattle.smpl_notes.proofs.FoldLemmas.{short_names-Leaf, short_names-Branch, tested-Leaf, tested-Branch}

-- ---- signs

-- an empty patch has no sign
of_empty_patch : sign_notes [] ≡ NoSign ∷ []
of_empty_patch = refl

abbrev line : ℕ → BodyLine
line sign = record { sign = sign; many = false; start = 0; text = []; tokens = [] }

abbrev rule : List BodyLine → RuleText
rule body = record { start = 0; end = 0; header = []; decls = []; body = body }

-- one sign in one rule is enough: ` f(x);` in a rule and `* g(x);` in another
of_one_sign : sign_notes (rule (line 32 ∷ []) ∷ rule (line 32 ∷ line 42 ∷ []) ∷ []) ≡ []
of_one_sign = refl

of_context : sign_notes (rule (line 32 ∷ []) ∷ rule (line 32 ∷ line 32 ∷ []) ∷ []) ≡ NoSign ∷ []
of_context = refl

-- ---- tokens

abbrev a : TokenKind → List ℕ → ℕ → Token
a k text id = record { kind = k; text = text; id = id }

-- one or two letters, and no metavariable
short : is_short_name (a token.Name (codes "ab") 0) ≡ true
short = refl

with_digit : is_short_name (a token.Name (codes "u8") 0) ≡ false
with_digit = refl

long : is_short_name (a token.Name (codes "dev") 0) ≡ false
long = refl

metavariable : is_short_name (a (token.Meta meta.Expr) (codes "e") 0) ≡ false
metavariable = refl

-- `0x0` and `'\0'` are written otherwise
other_zero : is_zero (a token.Number (codes "0x0") 0) ≡ false
other_zero = refl

-- ---- a `-`

abbrev leaf : TokenKind → List ℕ → ℕ → Tree
leaf k text id = Leaf (a k text id)

-- `g(x)` whose first token has the number n
abbrev call : ℕ → Tree
call n = Branch label.Call (leaf token.Name (codes "g") n ∷ leaf token.Punct (codes "(") (n)
    ∷ Branch label.Args (leaf token.Name (codes "x") (n) ∷ []) ∷ leaf token.Punct (codes ")") (n) ∷ [])

abbrev minus : Token
minus = a token.Punct (codes "-") 0

-- `-g(x);` and `-g(x)`
of_statement : minus_of_form (Branch label.ExprStat (Branch label.Unary (Leaf minus ∷ call 1 ∷ []) ∷ leaf token.Punct (codes ";") 5 ∷ [])) ≡ Some minus
of_statement = simp (out-Leaf, out-Branch)

of_expression : minus_of_form (Branch label.Unary (Leaf minus ∷ call 1 ∷ [])) ≡ Some minus
of_expression = simp (out-Leaf, out-Branch)

-- `-x` and `!g(x)` have none
of_value : minus_of_form (Branch label.Unary (Leaf minus ∷ leaf token.Name (codes "x") 1 ∷ [])) ≡ None
of_value = simp (out-Leaf, out-Branch)

of_not : minus_of_form (Branch label.Unary (leaf token.Punct (codes "!") 0 ∷ call 1 ∷ [])) ≡ None
of_not = simp (out-Leaf, out-Branch)

abbrev placed : ℕ → ℕ → Placed
placed sign n = record { token = minus; at = 0; sign = sign; line = n; positions = [] }

-- the first token of a line without a sign, and not of a line with one
leads : leads_context (Some (placed 32 4)) (Some (placed 45 3)) ≡ true
leads = refl

leads_patch : leads_context (Some (placed 32 0)) None ≡ true
leads_patch = refl

in_line : leads_context (Some (placed 32 4)) (Some (placed 32 4)) ≡ false
in_line = refl

in_minus_line : leads_context (Some (placed 45 4)) (Some (placed 32 3)) ≡ false
in_minus_line = refl

-- ---- functions

abbrev dots : Element
dots = Gap NoMore false false

-- `{ ... f(); }` has dots directly in it, and `{ f(); { ... } }` has not
directly : (p : Pattern) → have_dots (More (Then (Block p (Then dots (Then (Atom p) End)) p) End) NoMore) ≡ true
directly p = refl

deeper : (p : Pattern) → have_dots (More (Then (Block p (Then (Atom p) (Then (Block p (Then dots End) p) End)) p) End) NoMore) ≡ false
deeper p = refl

-- a nest counts
nest : (p : Pattern) → have_dots (More (Then (Block p (Then (Nest false (Then (Atom p) End) NoMore false false) End) p) End) NoMore) ≡ true
nest p = refl

-- under `exists` and with another head, dots say nothing of loops
under_forall : (p : Pattern) → is_loopless mode.Forall (Tree-F.Branch label.FunDef []) (More (Then (Block p (Then dots End) p) End) NoMore) ≡ true
under_forall p = refl

under_exists : (p : Pattern) → is_loopless mode.Exists (Tree-F.Branch label.FunDef []) (More (Then (Block p (Then dots End) p) End) NoMore) ≡ false
under_exists p = refl

of_while : (p : Pattern) → is_loopless mode.Forall (Tree-F.Branch label.While []) (More (Then (Block p (Then dots End) p) End) NoMore) ≡ false
of_while p = refl

abbrev loop : Tree → List Tree → Tree
loop f arguments = Branch label.Iterator (f ∷ leaf token.Punct (codes "(") 1 ∷ Branch label.Args arguments
    ∷ leaf token.Punct (codes ")") 3 ∷ Branch label.StmtList [] ∷ [])

-- `f(...) { .. }`, whether or not f is declared
untyped : is_untyped (loop (leaf token.Name (codes "f") 0) (leaf token.Dots (codes "...") 2 ∷ [])) ≡ true
untyped = simp (out-Leaf, out-Branch)

untyped_identifier : is_untyped (loop (leaf (token.Meta meta.Ident) (codes "f") 0) (leaf token.Dots (codes "...") 2 ∷ [])) ≡ true
untyped_identifier = simp (out-Leaf, out-Branch)

-- `list_for_each(p, ...) { .. }` is a loop
of_two : is_untyped (loop (leaf token.Name (codes "list_for_each") 0)
    (leaf token.Name (codes "p") 2 ∷ leaf token.Punct (codes ",") 2 ∷ leaf token.Dots (codes "...") 2 ∷ [])) ≡ false
of_two = simp (out-Leaf, out-Branch)

-- ---- names

-- in `g(x)`, x stands as an expression, and g is what is called
argument_alone : (short_names (call 7)).inside ≡ a token.Name (codes "x") 7 ∷ []
argument_alone = simp (short_names-Leaf, short_names-Branch)

-- in `x->y`, y is the name of a member
member : (short_names (Branch label.Arrow (leaf token.Name (codes "x") 0 ∷ leaf token.Punct (codes "->") 1 ∷ leaf token.Name (codes "y") 2 ∷ []))).inside
    ≡ a token.Name (codes "x") 0 ∷ []
member = simp (short_names-Leaf, short_names-Branch)

-- each name once, where it stands first, and not if a declaration has it
once : slips_from (codes "d" ∷ []) [] (a token.Name (codes "e") 3 ∷ a token.Name (codes "d") 4 ∷ a token.Name (codes "e") 5 ∷ [])
    ≡ record { token = 3; slip = slip.PlainName (codes "e") } ∷ []
once = refl

-- ---- tests

abbrev test : Tree → List ℕ → Tree → Tree
test x sign y = Branch label.Binary (x ∷ leaf token.Punct sign 1 ∷ y ∷ [])

of_null : (tested (test (leaf (token.Meta meta.Expr) (codes "x") 0) (codes "==") (leaf token.Name (codes "NULL") 2))).test
    ≡ Some (a token.Punct (codes "==") 1)
of_null = simp (tested-Leaf, tested-Branch)

-- `0 != x`
of_left : (tested (test (leaf token.Number (codes "0") 0) (codes "!=") (leaf (token.Meta meta.Expr) (codes "x") 2))).test
    ≡ Some (a token.Punct (codes "!=") 1)
of_left = simp (tested-Leaf, tested-Branch)

-- `x < 0` has no other usual form
of_less : (tested (test (leaf (token.Meta meta.Expr) (codes "x") 0) (codes "<") (leaf token.Number (codes "0") 2))).test ≡ None
of_less = simp (tested-Leaf, tested-Branch)

-- ---- types

abbrev mark : List ℕ → ℕ → PatchToken
mark text at = made token.Punct text at

abbrev word : List ℕ → ℕ → PatchToken
word text at = made token.Name text at

-- `typ` lacks one letter, and in `tpye` two must be replaced
lacks_one : distance (codes "typ") (codes "type") ≡ 1
unfolding distance rows next_row cost_at
lacks_one = refl

swapped : distance (codes "tpye") (codes "type") ≡ 2
unfolding distance rows next_row cost_at
swapped = refl

-- three are too many: `t`
far : (one_at 1 (codes "t") kind.Type ≡ None) × (one_at 2 (codes "t") kind.Type ≡ None)
unfolding distance rows next_row cost_at
far = (refl, refl)

-- `expresion x, y;`, `expresion *x;` and `typ x;` have one name as their specifiers
abbrev declaration : List PatchToken → List PatchToken
declaration ts = word (codes "expresion") 5 ∷ ts ++ mark (codes ";") 20 ∷ []

of_two_names : lone_type (declaration (word (codes "x") 15 ∷ mark (codes ",") 16 ∷ word (codes "y") 18 ∷ [])) ≡ word (codes "expresion") 5 ∷ []
of_two_names = refl

of_pointer : lone_type (declaration (mark (codes "*") 15 ∷ word (codes "x") 16 ∷ [])) ≡ word (codes "expresion") 5 ∷ []
of_pointer = refl

-- `const t x;`, `t const x;` and `struct t x;` have more
abbrev keyword : List ℕ → ℕ → PatchToken
keyword text at = made token.Keyword text at

of_const : lone_type (keyword (codes "const") 0 ∷ word (codes "typ") 6 ∷ word (codes "x") 10 ∷ mark (codes ";") 11 ∷ []) ≡ []
of_const = refl

of_late_const : lone_type (word (codes "typ") 0 ∷ keyword (codes "const") 4 ∷ word (codes "x") 10 ∷ mark (codes ";") 11 ∷ []) ≡ []
of_late_const = refl

of_struct : lone_type (keyword (codes "struct") 0 ∷ word (codes "typ") 7 ∷ word (codes "x") 11 ∷ mark (codes ";") 12 ∷ []) ≡ []
of_struct = refl

-- each declaration is noted once, at its first token: `iterator i, j;` and then `field f;`, in the second line of a patch
of_unread : type_notes (codes "@@\niterator i, j;field f;\n@@\n") 0 (word (codes "iterator") 3 ∷ word (codes "i") 12 ∷ mark (codes ",") 13
    ∷ word (codes "j") 15 ∷ mark (codes ";") 16 ∷ word (codes "field") 17 ∷ word (codes "f") 23 ∷ mark (codes ";") 24 ∷ [])
    ≡ InRule 0 (Some (record { line = 2; column = 1 })) (slip.UnreadKind (codes "iterator"))
    ∷ InRule 0 (Some (record { line = 2; column = 15 })) (slip.UnreadKind (codes "field")) ∷ []
of_unread = refl

-- ---- what is said

of_kind : sentence (InRule 0 None (slip.MisspeltKind (codes "expresion") kind.Expression)) ≡ codes "expresion is taken for a type; is it expression?"
of_kind = refl

of_unread_kind : sentence (InRule 0 None (slip.UnreadKind (codes "iterator")))
    ≡ codes "iterator is taken for a type; it is no kind of metavariable here"
of_unread_kind = refl

of_minus : sentence (InRule 0 None slip.IndentedMinus) ≡ codes "a - that isn't in the first column is an operator"
of_minus = refl

of_forall : sentence (InRule 0 None slip.LooplessFunction) ≡ codes "under forall this finds only functions without a loop; exists finds all"
of_forall = refl

of_function : sentence (InRule 0 None slip.UntypedFunction) ≡ codes "a function needs its type, as in T f(...); this is a loop of a macro"
of_function = refl

of_name : sentence (InRule 0 None (slip.PlainName (codes "e"))) ≡ codes "e is a plain name here; is it a metavariable?"
of_name = refl

-- with isomorphisms, tests are not noted
with_isos : is_told true false (InRule 0 None slip.WrittenTest) ≡ false
with_isos = refl

without_isos : is_told false true (InRule 0 None slip.WrittenTest) ≡ true
without_isos = refl

-- a note on a type is told where something was found too
always : is_told_always (InRule 0 None (slip.MisspeltKind (codes "expresion") kind.Expression)) ≡ true
always = refl

-- and no other
only_if_nothing_is_found : is_told_always (InRule 0 None (slip.PlainName (codes "e"))) ≡ false
only_if_nothing_is_found = refl

-- a run that reports what it finds needs no sign
reported : is_told false true NoSign ≡ false
reported = refl

-- ---- a whole patch: the three lines `@@`, `@@` and ` - f(e == NULL);`

abbrev bytes : List ℕ
bytes = codes "@@\n@@\n - f(e == NULL);\n"

abbrev tokens : List PatchToken
tokens = mark (codes "-") 7 ∷ word (codes "f") 9 ∷ mark (codes "(") 10 ∷ word (codes "e") 11 ∷ mark (codes "==") 13 ∷ word (codes "NULL") 16
    ∷ mark (codes ")") 20 ∷ mark (codes ";") 21 ∷ []

abbrev lines : List BodyLine
lines = record { sign = 32; many = false; start = 6; text = codes "- f(e == NULL);"; tokens = tokens } ∷ []

abbrev text : PatchText
text = record { virtuals = []; rules = record { start = 0; end = 23; header = []; decls = []; body = lines } ∷ [] }

abbrev statement : Tree
statement = Branch label.ExprStat (Branch label.Unary (leaf token.Punct (codes "-") 0
    ∷ Branch label.Call (leaf token.Name (codes "f") 1 ∷ leaf token.Punct (codes "(") 2 ∷ Branch label.Args (Branch label.Binary
    (leaf token.Name (codes "e") 3 ∷ leaf token.Punct (codes "==") 4 ∷ leaf token.Name (codes "NULL") 5 ∷ []) ∷ [])
    ∷ leaf token.Punct (codes ")") 6 ∷ []) ∷ []) ∷ leaf token.Punct (codes ";") 7 ∷ [])

abbrev pattern : Pattern
pattern = record { atom = 0; spot = spot.Whole; forms = statement ∷ [] }

abbrev with_statement : Rule
with_statement = record {
  name = [];
  depends = dep.Always;
  mode = mode.Forall;
  vars = [];
  exports = [];
  body = elem.Atom pattern ∷ [];
  tokens = [];
}

abbrev at_place : ℕ → ℕ → Place
at_place line column = record { line = line; column = column }

abbrev places_of_tokens : List Place
places_of_tokens = places bytes (pattern_tokens [] lines)

-- the notes, given the tokens that are found in the statement
abbrev said : Option Token → List Token → Option Token → List Note
said sign names test =
    sign_notes text.rules ++ ((map (note 0 places_of_tokens) ((minus_slip (pattern_tokens [] lines) sign ++ []) ++ []
    ++ slips_from [] [] (names ++ []) ++ at_sign (or_else test None)) ++ []) ++ [])

of_sign : minus_of_form statement ≡ Some minus
of_sign = simp (out-Leaf, out-Branch)

-- f is what is called, and `NULL` has four letters
of_names : (short_names statement).inside ≡ a token.Name (codes "e") 3 ∷ []
of_names = simp (short_names-Leaf, short_names-Branch)

of_test : (tested statement).test ≡ Some (a token.Punct (codes "==") 4)
of_test = simp (tested-Leaf, tested-Branch)

-- that no line has a sign, and then kind by kind
whole : notes bytes text (with_statement ∷ []) ≡ NoSign ∷ InRule 0 (Some (at_place 3 2)) slip.IndentedMinus
    ∷ InRule 0 (Some (at_place 3 6)) (slip.PlainName (codes "e")) ∷ InRule 0 (Some (at_place 3 8)) slip.WrittenTest ∷ []
whole =
    let said_of : Body → List Note = λ b. sign_notes text.rules ++ ((map (note 0 places_of_tokens)
    (minus_slips (pattern_tokens [] lines) (patterns_body b) ++ function_slips mode.Forall b ++ name_slips [] (patterns_body b)
    ++ test_slips (patterns_body b)) ++ []) ++ []) in
    ap (λ e. said_of (Then e End)) (element-Atom pattern)
    ∙ ap (λ t. said t (short_names statement).inside (tested statement).test) of_sign
    ∙ ap (λ ts. said (Some minus) ts (tested statement).test) of_names
    ∙ ap (λ t. said (Some minus) (a token.Name (codes "e") 3 ∷ []) t) of_test
