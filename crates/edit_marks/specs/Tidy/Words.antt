-- The words of a block of plus code: its tokens and the values of its metavariables, without the commas beside lists that have
-- no member.
use Rattle.std.specs.Prelude.{ℕ, ◌+◌, ◌&&◌, Bool, true, false, not, List, [], ◌∷◌, ◌++◌, codes}
use Rattle.std.specs.Prelude.{Option, None, Some, is_some, if◌then◌else◌}
use Rattle.std.specs.Str.{bytes_eq}
use Rattle.c_terms.specs.declared.label.Label.{Label}
use Rattle.c_terms.specs.declared.label.Label.TheVariants as label
use Rattle.c_terms.specs.declared.token.Token.{Token}
use Rattle.c_terms.specs.declared.token.TokenKind.{TokenKind}
use Rattle.c_terms.specs.declared.token.TokenKind.TheVariants.{Meta, Punct}
use Rattle.c_terms.specs.declared.token.MetaKind.TheVariants as meta
use Rattle.c_terms.specs.declared.tree.Tree.{Tree, out-Tree}
use Rattle.c_terms.specs.declared.tree.Tree.TheOpen.{Tree-F}
use Rattle.smpl_patch.specs.declared.pattern.VarDecl.{VarDecl}
use Rattle.smpl_patch.specs.declared.pattern.PlusLine.{PlusLine}
use Rattle.edit_marks.specs.declared.line.Chunk.{Chunk}
use Rattle.edit_marks.specs.declared.tidy.words.Hold.{Hold}
use Rattle.edit_marks.specs.declared.tidy.words.Hold.TheVariants as hold
use Rattle.edit_marks.specs.declared.tidy.words.BlockWord.{BlockWord}
use Rattle.edit_marks.specs.Blocks.{Environment, chunk_of, term}

abbrev pub hold_of_label : Label → Hold
hold_of_label label.Strings = hold.Firm
hold_of_label label.Paren = hold.Firm
hold_of_label label.Call = hold.Firm
hold_of_label label.Index = hold.Firm
hold_of_label label.Member = hold.Firm
hold_of_label label.Arrow = hold.Firm
hold_of_label label.PostOp = hold.Firm
hold_of_label label.Unary = hold.Prefix
hold_of_label label.PreOp = hold.Prefix
hold_of_label label.Comma = hold.Comma
hold_of_label l = hold.Loose

abbrev pub hold_of_shape : Tree-F Tree → Hold
hold_of_shape (Tree-F.Leaf token) = hold.Firm
hold_of_shape (Tree-F.Branch l children) = hold_of_label l

abbrev pub hold_of_tree : Tree → Hold
hold_of_tree t = hold_of_shape (out-Tree t)

abbrev pub hold_of_term : Option Tree → Hold
hold_of_term None = hold.Firm
hold_of_term (Some t) = hold_of_tree t

-- only the values of `expression` metavariables may fall apart
abbrev pub hold_of : TokenKind → Option Tree → Hold
hold_of (Meta meta.Expr) value = hold_of_term value
hold_of kind value = hold.Firm

abbrev pub is_list : TokenKind → Bool
is_list (Meta meta.ExprList) = true
is_list (Meta meta.Params) = true
is_list kind = false

abbrev pub is_comma_of : TokenKind → List ℕ → Bool
is_comma_of Punct text = bytes_eq text (codes ",")
is_comma_of kind text = false

abbrev pub is_comma : Token → Bool
is_comma t = is_comma_of t.kind t.text

abbrev pub word_of : List VarDecl → Environment → ℕ → List ℕ → Token → BlockWord
word_of decls env line gap t = record {
  line = line;
  gap = gap;
  chunk = chunk_of decls env t;
  hold = hold_of t.kind (term decls env t.text);
  is_empty_list = is_list t.kind && not (is_some (chunk_of decls env t).first);
  is_comma = is_comma t;
}

abbrev pub words_of_line : List VarDecl → Environment → ℕ → List (List ℕ) → List Token → List BlockWord
words_of_line decls env line gaps [] = []
words_of_line decls env line [] (t ∷ tokens) = []
words_of_line decls env line (gap ∷ gaps) (t ∷ tokens) = word_of decls env line gap t ∷ words_of_line decls env line gaps tokens

abbrev pub words_from : List VarDecl → Environment → ℕ → List PlusLine → List BlockWord
words_from decls env line [] = []
words_from decls env line (l ∷ lines) = words_of_line decls env line l.gaps l.tokens ++ words_from decls env (line + 1) lines

-- without the gap of the first word
abbrev pub closed_up : List BlockWord → List BlockWord
closed_up [] = []
closed_up (w ∷ words) = record w { gap = [] } ∷ words

-- From the first word on: of a comma and an empty list behind it nothing is left. Of an empty list and a comma behind it only the
-- list's gap is left, and what follows has no gap.
abbrev pub without_lists : List BlockWord → List BlockWord
without_lists [] = []
without_lists (w ∷ []) = w ∷ []
without_lists (w ∷ v ∷ words) =
    if w.is_comma && v.is_empty_list then without_lists words
    else if w.is_empty_list && v.is_comma then w ∷ closed_up (without_lists words)
    else w ∷ without_lists (v ∷ words)

abbrev pub words_of : List VarDecl → Environment → List PlusLine → List BlockWord
words_of decls env lines = without_lists (words_from decls env 0 lines)
