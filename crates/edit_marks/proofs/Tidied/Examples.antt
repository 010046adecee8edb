-- The definitions of tidied plus code applied to small blocks, with their values worked out by hand.
use Rattle.std.proofs.Common.{◌≡◌, ◌++◌, ℕ, Bool, true, false, refl, List, [], ◌∷◌, map, codes}
use Rattle.std.specs.Prelude.{Option, None, Some}
use Rattle.c_terms.specs.declared.label.Label.TheVariants as label
use Rattle.c_show.specs.Joint.{runs_together}
use Rattle.edit_marks.specs.declared.line.Chunk.{Chunk}
use Rattle.edit_marks.specs.declared.insert.Anchor.TheVariants as anchor
use Rattle.edit_marks.specs.declared.tidy.words.BlockWord.{BlockWord}
use Rattle.edit_marks.specs.declared.tidy.words.Hold.{Hold}
use Rattle.edit_marks.specs.declared.tidy.words.Hold.TheVariants as hold
use Rattle.edit_marks.specs.Tidy.Words.{hold_of_label, without_lists}
use Rattle.edit_marks.specs.Tidy.Brackets.{with_brackets}
use Rattle.edit_marks.specs.Tidy.Layout.{tidy_text}
use Rattle.edit_marks.specs.declared.edit_conflict.edit.Edit.{Edit}
use Rattle.edit_marks.specs.declared.edit_conflict.edit.Side.TheVariants.{Before}
use Rattle.edit_marks.specs.declared.file_tokens.FileToken.{FileToken}
use Rattle.edit_marks.specs.declared.tidy.edges.PlacedBlock.{PlacedBlock}
use Rattle.edit_marks.specs.declared.tidy.shape.Body.{Body}
use Rattle.edit_marks.specs.Tidy.Neighbours.{left_of, right_of}
use Rattle.edit_marks.specs.Tidy.Bodies.{acts_of, stays_of}

abbrev sign : List ℕ → List ℕ → BlockWord
sign gap text = record {
  line = 0;
  gap = gap;
  chunk = record { text = text; first = Some text; last = Some text };
  hold = hold.Firm;
  is_empty_list = false;
  is_comma = false;
}

abbrev comma : BlockWord
comma = record (sign [] (codes ",")) { is_comma = true }

abbrev no_members : List ℕ → BlockWord
no_members gap = record (sign gap []) { chunk = record { text = []; first = None; last = None }; is_empty_list = true }

abbrev value : Hold → List ℕ → List ℕ → List ℕ → List ℕ → BlockWord
value h gap text first last = record (sign gap text) { chunk = record { text = text; first = Some first; last = Some last }; hold = h }

abbrev space : List ℕ
space = codes " "

-- a newline and a tab
abbrev break : List ℕ
break = 10 ∷ 9 ∷ []

abbrev sum : Hold → List ℕ → BlockWord
sum h gap = value h gap (codes "x + 1") (codes "x") (codes "1")

abbrev shown : List (List ℕ) → List BlockWord → List ℕ
shown [] words = tidy_text anchor.Removed break 0 1 (with_brackets None None words)
shown (left ∷ []) words = tidy_text anchor.Removed break 0 1 (with_brackets (Some left) None words)
shown (left ∷ right ∷ more) words = tidy_text anchor.Removed break 0 1 (with_brackets (Some left) (Some right) words)

-- `a * b`, where `a` is `x + 1`, in `y = ..;`
product : shown (codes "=" ∷ codes ";" ∷ []) (sum hold.Loose [] ∷ sign space (codes "*") ∷ sign space (codes "2") ∷ []) ≡ codes "(x + 1) * 2"
product = refl

-- `E` is `x + 1`, in `y = .. * 2;`, in `y = ..;` and in `g(.., *p);`
before_operator : shown (codes "=" ∷ codes "*" ∷ []) (sum hold.Loose [] ∷ []) ≡ codes "(x + 1)"
before_operator = refl

alone : shown (codes "=" ∷ codes ";" ∷ []) (sum hold.Loose [] ∷ []) ≡ codes "x + 1"
alone = refl

argument : shown (codes "(" ∷ codes "," ∷ []) (sum hold.Loose [] ∷ []) ≡ codes "x + 1"
argument = refl

-- `-E`, where `E` is `-x`
negated : shown (codes "=" ∷ codes "+" ∷ []) (sign [] (codes "-") ∷ value hold.Prefix [] (codes "-x") (codes "-") (codes "x") ∷ []) ≡ codes "-(-x)"
unfolding runs_together
negated = refl

negated_sum : shown (codes "+" ∷ codes ";" ∷ []) (sign [] (codes "-") ∷ sum hold.Loose [] ∷ []) ≡ codes "-(x + 1)"
unfolding runs_together
negated_sum = refl

-- `a * b`, where `a` is `f(x)` and `b` is `p->n`
firm : shown (codes "=" ∷ codes ";" ∷ [])
    (value hold.Firm [] (codes "f(x)") (codes "f") (codes ")") ∷ sign space (codes "*") ∷ value hold.Firm space (codes "p->n") (codes "p") (codes "n") ∷ [])
    ≡ codes "f(x) * p->n"
firm = refl

-- `new(E, 1)` where `E` is `x + 1`
first_argument : shown [] (sign [] (codes "new") ∷ sign [] (codes "(") ∷ sum hold.Loose [] ∷ sign [] (codes ",") ∷ sign space (codes "1")
    ∷ sign [] (codes ")") ∷ []) ≡ codes "new(x + 1, 1)"
unfolding runs_together
first_argument = refl

-- `*p = ..` and `x + 1 = ..`, behind a `;`
prefix_before_assignment : shown (codes ";" ∷ codes "=" ∷ []) (value hold.Prefix [] (codes "*p") (codes "*") (codes "p") ∷ []) ≡ codes "*p"
prefix_before_assignment = refl

loose_before_assignment : shown (codes ";" ∷ codes "=" ∷ []) (sum hold.Loose [] ∷ []) ≡ codes "(x + 1)"
loose_before_assignment = refl

-- no token on either side
nothing_beside : shown [] (sum hold.Loose [] ∷ []) ≡ codes "x + 1"
nothing_beside = refl

-- `E = kzalloc(n);`, where `E` is `*p`
assigned : shown (codes "{" ∷ codes "}" ∷ [])
    (value hold.Prefix [] (codes "*p") (codes "*") (codes "p") ∷ sign space (codes "=") ∷ sign space (codes "f") ∷ sign [] (codes ";") ∷ [])
    ≡ codes "*p = f;"
unfolding runs_together
assigned = refl

-- `a, b` stays as it is only as a statement of its own
listed : shown (codes "(" ∷ codes ")" ∷ []) (value hold.Comma [] (codes "a, b") (codes "a") (codes "b") ∷ []) ≡ codes "(a, b)"
listed = refl

statement : shown (codes "{" ∷ codes ";" ∷ []) (value hold.Comma [] (codes "a, b") (codes "a") (codes "b") ∷ []) ≡ codes "a, b"
statement = refl

-- `f(es, 1)` and `g(1, es)`, where `es` has no member
list_first : shown [] (without_lists
    (sign [] (codes "f") ∷ sign [] (codes "(") ∷ no_members [] ∷ comma ∷ sign space (codes "1") ∷ sign [] (codes ")") ∷ [])) ≡ codes "f(1)"
unfolding runs_together
list_first = refl

list_last : shown [] (without_lists
    (sign [] (codes "g") ∷ sign [] (codes "(") ∷ sign [] (codes "1") ∷ comma ∷ no_members space ∷ sign [] (codes ")") ∷ [])) ≡ codes "g(1)"
unfolding runs_together
list_last = refl

-- two lists without a member, and nothing else
lists_alone : shown [] (without_lists
    (sign [] (codes "f") ∷ sign [] (codes "(") ∷ no_members [] ∷ comma ∷ no_members space ∷ sign [] (codes ")") ∷ [])) ≡ codes "f()"
unfolding runs_together
lists_alone = refl

-- `f(x, es, fs)` and `f(es, fs, 1)`, where neither has a member
lists_behind : shown [] (without_lists
    (sign [] (codes "f") ∷ sign [] (codes "(") ∷ sign [] (codes "x") ∷ comma ∷ no_members space ∷ comma ∷ no_members space ∷ sign [] (codes ")") ∷ []))
    ≡ codes "f(x)"
unfolding runs_together
lists_behind = refl

lists_before : shown [] (without_lists
    (sign [] (codes "f") ∷ sign [] (codes "(") ∷ no_members [] ∷ comma ∷ no_members space ∷ comma ∷ sign space (codes "1") ∷ sign [] (codes ")") ∷ []))
    ≡ codes "f(1)"
unfolding runs_together
lists_before = refl

-- `g(1, es, 2)`: the comma before the list goes, and the one behind it stays
list_between : shown [] (without_lists
    (sign [] (codes "g") ∷ sign [] (codes "(") ∷ sign [] (codes "1") ∷ comma ∷ no_members space ∷ comma ∷ sign space (codes "2") ∷ sign [] (codes ")") ∷ []))
    ≡ codes "g(1, 2)"
unfolding runs_together
list_between = refl

-- `g(1, es)`, where `es` is `b`
with_members : shown [] (without_lists
    (sign [] (codes "g") ∷ sign [] (codes "(") ∷ sign [] (codes "1") ∷ comma ∷ sign space (codes "b") ∷ sign [] (codes ")") ∷ [])) ≡ codes "g(1, b)"
unfolding runs_together
with_members = refl

-- `, GFP` after a token that stays, and `x` there
no_space_before_comma : tidy_text anchor.AfterToken break 0 1 (sign [] (codes ",") ∷ sign space (codes "GFP") ∷ []) ≡ codes ", GFP"
no_space_before_comma = refl

space_before_name : tidy_text anchor.AfterToken break 0 1 (sign [] (codes "x") ∷ []) ≡ codes " x"
space_before_name = refl

-- before a token that stays: a line of its own, or part of its line
line_before : tidy_text anchor.BeforeToken break 0 1 (sign [] (codes "e") ∷ sign [] (codes ";") ∷ []) ≡ codes "e;" ++ break
unfolding runs_together
line_before = refl

word_before : tidy_text anchor.BeforeToken break 0 1 (sign [] (codes "x") ∷ []) ≡ codes "x "
word_before = refl

-- the second of three lines has no word, and all begin with a blank more than is kept
three_lines : tidy_text anchor.Removed break 1 3 (sign space (codes "e") ∷ record (sign (codes "  ") (codes "g")) { line = 2 } ∷ [])
    ≡ codes "e" ++ break ++ break ++ codes " g"
three_lines = refl

-- two lines behind a `;`
two_lines : tidy_text anchor.AfterLine break 0 2 (sign [] (codes "e") ∷ sign [] (codes ";") ∷ record (sign [] (codes "g")) { line = 1 }
    ∷ record (sign [] (codes ";")) { line = 1 } ∷ []) ≡ break ++ codes "e;" ++ break ++ codes "g;"
unfolding runs_together
two_lines = refl

-- ---- how values hold together

firm_labels : map hold_of_label (label.Strings ∷ label.Paren ∷ label.Call ∷ label.Index ∷ label.Member ∷ label.Arrow ∷ label.PostOp ∷ [])
    ≡ hold.Firm ∷ hold.Firm ∷ hold.Firm ∷ hold.Firm ∷ hold.Firm ∷ hold.Firm ∷ hold.Firm ∷ []
firm_labels = refl

loose_labels : map hold_of_label (label.Binary ∷ label.Cast ∷ label.Cond ∷ label.Assign ∷ label.SizeofExpr ∷ [])
    ≡ hold.Loose ∷ hold.Loose ∷ hold.Loose ∷ hold.Loose ∷ hold.Loose ∷ []
loose_labels = refl

other_labels : map hold_of_label (label.Unary ∷ label.PreOp ∷ label.Comma ∷ []) ≡ hold.Prefix ∷ hold.Prefix ∷ hold.Comma ∷ []
other_labels = refl

-- ---- the tokens next to a block

abbrev file : List (List ℕ) → List FileToken
file [] = []
file (text ∷ texts) = record { text = text; indent = []; returns = false } ∷ file texts

-- `y = id(x) * 2;`
abbrev sum_of_id : List FileToken
sum_of_id = file (codes "y" ∷ codes "=" ∷ codes "id" ∷ codes "(" ∷ codes "x" ∷ codes ")" ∷ codes "*" ∷ codes "2" ∷ codes ";" ∷ [])

abbrev block : ℕ → Bool → List BlockWord → PlacedBlock
block token after words = record { spot = record { token = token; after = after; pattern = 0 }; many = false; lines = 1; lead = 0; words = words }

-- `E` in place of `id(E)`
left_of_value : left_of sum_of_id (2 ∷ 3 ∷ 4 ∷ 5 ∷ []) (block 2 false (sum hold.Loose [] ∷ []) ∷ []) 0 ≡ Some (codes "=")
left_of_value = refl

right_of_value : right_of sum_of_id (2 ∷ 3 ∷ 4 ∷ 5 ∷ []) (block 2 false (sum hold.Loose [] ∷ []) ∷ []) 0 ≡ Some (codes "*")
right_of_value = refl

-- nothing is left of the first token, if it goes
no_left : left_of (file (codes "x" ∷ codes ";" ∷ [])) (0 ∷ []) (block 0 false (sign [] (codes "y") ∷ []) ∷ []) 0 ≡ None
no_left = refl

-- another block of the edit is nearer than the token behind it, unless it has no token
other_block : right_of sum_of_id (2 ∷ 3 ∷ 4 ∷ 5 ∷ [])
    (block 2 false (sum hold.Loose [] ∷ []) ∷ block 5 true (sign [] (codes "[") ∷ sign [] (codes "]") ∷ []) ∷ []) 0 ≡ Some (codes "[")
other_block = refl

other_left : left_of sum_of_id (2 ∷ 3 ∷ 4 ∷ 5 ∷ [])
    (block 2 false (sign [] (codes "[") ∷ sign [] (codes "]") ∷ []) ∷ block 5 true (sum hold.Loose [] ∷ []) ∷ []) 1 ≡ Some (codes "]")
other_left = refl

empty_block : right_of sum_of_id (2 ∷ 3 ∷ 4 ∷ 5 ∷ []) (block 2 false (sum hold.Loose [] ∷ []) ∷ block 5 true [] ∷ []) 0 ≡ Some (codes "*")
empty_block = refl

-- ---- bodies that go whole

abbrev removing : List ℕ → Edit
removing tokens = record { removed = tokens; inserts = [] }

-- a body of the tokens from 4 on
abbrev body_to : ℕ → Option ℕ → Body
body_to end second = record {
  item = 0;
  path = [];
  leaves = record { from = 4; to = end };
  is_block = false;
  has_semicolon = true;
  second_end = second;
  owner = 0;
  is_function = false;
}

abbrev upto : List ℕ
upto = 0 ∷ 1 ∷ 2 ∷ 3 ∷ 4 ∷ 5 ∷ 6 ∷ 7 ∷ 8 ∷ 9 ∷ 10 ∷ 11 ∷ []

-- `if (a) d(); else b;`, where `d();` is removed: its `;` stays
whole_body : stays_of (acts_of (removing (4 ∷ 5 ∷ 6 ∷ 7 ∷ []) ∷ [])) upto (body_to 8 (Some 11)) ≡ Some 7
whole_body = refl

-- the same where `e();` comes in its place
replaced_body : stays_of (acts_of (record { removed = 4 ∷ 5 ∷ 6 ∷ 7 ∷ []; inserts = record { token = 4; side = Before; many = false; text = codes "e();" } ∷ [] } ∷ []))
    upto (body_to 8 (Some 11)) ≡ None
replaced_body = refl

-- the same where one token stays, and where the `)` before it goes
torn_body : stays_of (acts_of (removing (4 ∷ 5 ∷ 7 ∷ []) ∷ [])) upto (body_to 8 (Some 11)) ≡ None
torn_body = refl

headless_body : stays_of (acts_of (removing (3 ∷ 4 ∷ 5 ∷ 6 ∷ 7 ∷ []) ∷ [])) upto (body_to 8 (Some 11)) ≡ None
headless_body = refl

-- two edits that remove it together
two_edits : stays_of (acts_of (removing (4 ∷ 5 ∷ []) ∷ removing (6 ∷ 7 ∷ []) ∷ [])) upto (body_to 8 (Some 11)) ≡ Some 7
two_edits = refl

-- `d(); else` is removed, and `b;` stays; then all of it goes
second_stays : stays_of (acts_of (removing (4 ∷ 5 ∷ 6 ∷ 7 ∷ 8 ∷ []) ∷ [])) upto (body_to 8 (Some 11)) ≡ None
second_stays = refl

both_go : stays_of (acts_of (removing (4 ∷ 5 ∷ 6 ∷ 7 ∷ 8 ∷ 9 ∷ 10 ∷ []) ∷ [])) upto (body_to 8 (Some 11)) ≡ Some 7
both_go = refl
