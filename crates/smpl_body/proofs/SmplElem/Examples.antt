-- Forms and numbers of patterns of small trees.
use Rattle.std.proofs.Common.{◌≡◌, ℕ, true, false, List, [], ◌∷◌, refl}
use Rattle.c_terms.specs.declared.label.Label.TheVariants as label
use Rattle.c_terms.specs.declared.token.TokenKind.TheVariants as token
use Rattle.c_terms.specs.declared.token.MetaKind.TheVariants as meta
use Rattle.c_terms.specs.declared.tree.Tree.{Tree}
use Rattle.smpl_body.specs.declared.smpl_elem.form.Form.TheVariants as form
use Rattle.smpl_body.specs.SmplElem.Forms.{form_of, form_of_token, is_part}
use Rattle.smpl_body.specs.SmplElem.Elements.{Part, row}

statement_variable : form_of_token (token.Meta meta.Stmt) ≡ form.Plain
statement_variable = refl

expression_variable : form_of_token (token.Meta meta.Expr) ≡ form.Expression
expression_variable = refl

loop : form_of label.For [] ≡ form.Head
loop = refl

call : form_of label.Call [] ≡ form.Expression
call = refl

jump : form_of label.Goto [] ≡ form.Plain
jump = refl

module _ (t : Tree) where
  -- the parts of `if (c) s else t` are the two bodies, and those of a block all but its braces
  then_body : is_part form.Head label.IfElse 7 4 t ≡ true
  then_body = refl

  else_word : is_part form.Head label.IfElse 7 5 t ≡ false
  else_word = refl

  closing_brace : is_part form.Block label.Block 3 2 t ≡ false
  closing_brace = refl

  -- `do f(); while (c);` has its head, its body and its tail, and a nest of one statement has only that statement
  abbrev plain : Part
  plain = row form.Plain t []

  do_while : (row form.Do t (plain ∷ [])).atoms ≡ 3
  do_while = refl

  nest : (row form.Nest t (plain ∷ [])).atoms ≡ 1
  nest = refl
