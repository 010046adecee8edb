-- The gaps of plus lines are empty or blanks.
-- Proof: a gap is the blanks directly before a token, without comments, and adjacent blanks together are blanks.
use Rattle.std.proofs.Common.{◌≡◌, ℕ, ◌≤◌, ◌↔◌, Bool, true, refl, ap, ◌∙◌, List, [], ◌∷◌, ◌++◌, length, Some}
use Rattle.std.specs.List.{list_all}
use Rattle.c_lexer.specs.declared.state.Kind.{Kind}
use Rattle.c_lexer.specs.declared.state.Kind.TheVariants as kind
use Rattle.c_lexer.specs.Kinds.{kind_of}
use Rattle.c_lexer.specs.Blanks.{AreBlanks, none, space, splice, splice_return, IsBlank}
use Rattle.smpl_patch.specs.declared.pattern.VarDecl.{VarDecl}
use Rattle.smpl_patch.specs.declared.pattern.PlusLine.{PlusLine}
use Rattle.smpl_patch.specs.declared.pattern.PlusBlock.{PlusBlock}
use Rattle.smpl_patch.specs.Sound.{is_blank, is_gap}
use Rattle.smpl_lexer.specs.declared.text.BodyLine.{BodyLine}
use Rattle.smpl_plus.specs.Blocks.{Block, Piece, Cut, gaps_by, gaps_from, IsPlusLine, ArePlusLines}
use Rattle.sound_laws.proofs.SmplSound.BoolLemmas.{both-true}
use Rattle.sound_laws.proofs.SmplSound.LineLemmas.{AllLines}

blanks_append : (xs ys : List ℕ) → AreBlanks xs → AreBlanks ys → AreBlanks (xs ++ ys)
blanks_append _ ys none h = h
blanks_append _ ys (space b rest s more) h = space b (rest ++ ys) s (blanks_append rest ys more h)
blanks_append _ ys (splice rest more) h = splice (rest ++ ys) (blanks_append rest ys more h)
blanks_append _ ys (splice_return rest more) h = splice_return (rest ++ ys) (blanks_append rest ys more h)

abbrev pub BlankLaw : Type 0
BlankLaw = (text : List ℕ) → (kind_of text ≡ Some kind.Blank) ↔ IsBlank text

abbrev pub block_gaps : PlusBlock → Bool
block_gaps c = list_all (λ (l : PlusLine). list_all is_gap l.gaps) c.lines

module _ (law : BlankLaw) where
  gap_blank : (gap : List ℕ) → AreBlanks gap → is_gap gap ≡ true
  gap_blank [] h = refl
  gap_blank (b ∷ bs) h = ap is_blank ((law (b ∷ bs)).1 (h, (λ e. let no : ⊥ = cc in no)))

  put_gap : (blank : List ℕ) (gaps : List (List ℕ)) → AreBlanks blank → list_all is_gap gaps ≡ true → list_all is_gap (blank ∷ gaps) ≡ true
  put_gap blank gaps h g = both-true (is_gap blank) (list_all is_gap gaps) (gap_blank blank h) g

  by_kind : (k : Kind) (text blank : List ℕ) (more : List ℕ → List (List ℕ)) → kind_of text ≡ Some k → AreBlanks blank
      → ((b : List ℕ) → AreBlanks b → list_all is_gap (more b) ≡ true)
      → list_all is_gap (gaps_by k text blank more) ≡ true
  by_kind kind.Blank text blank more is h g = g (blank ++ text) (blanks_append blank text h ((law text).0 is).0)
  by_kind kind.Comment text blank more is h g = g blank h
  by_kind kind.Line text blank more is h g = g blank h
  by_kind kind.Name text blank more is h g = put_gap blank (more []) h (g [] none)
  by_kind kind.Keyword text blank more is h g = put_gap blank (more []) h (g [] none)
  by_kind kind.Number text blank more is h g = put_gap blank (more []) h (g [] none)
  by_kind kind.Char text blank more is h g = put_gap blank (more []) h (g [] none)
  by_kind kind.Str text blank more is h g = put_gap blank (more []) h (g [] none)
  by_kind kind.Punct text blank more is h g = put_gap blank (more []) h (g [] none)
  by_kind kind.Stray text blank more is h g = put_gap blank (more []) h (g [] none)

  pieces_gaps : (blank : List ℕ) (ps : List Piece) → Cut ps → AreBlanks blank → list_all is_gap (gaps_from blank ps) ≡ true
  pieces_gaps blank [] cut h = refl
  pieces_gaps blank (p ∷ ps) cut h = by_kind p.kind p.text blank (λ b. gaps_from b ps) cut.0.of_kind h (λ b g. pieces_gaps b ps cut.1 g)

  line_gaps : (vars : List VarDecl) (l : BodyLine) (p : PlusLine) → IsPlusLine vars l p → list_all is_gap p.gaps ≡ true
  line_gaps vars l p is = ap (list_all is_gap) is.gaps.are ∙ pieces_gaps [] is.gaps.pieces is.gaps.cut none

  lines_gaps : (vars : List VarDecl) (ls : List BodyLine) (ps : List PlusLine) → ArePlusLines vars ls ps
      → list_all (λ (l : PlusLine). list_all is_gap l.gaps) ps ≡ true
  lines_gaps vars [] [] a = refl
  lines_gaps vars [] (p ∷ ps) a = absurd a
  lines_gaps vars (l ∷ ls) [] a = absurd a
  lines_gaps vars (l ∷ ls) (p ∷ ps) a = both-true (list_all is_gap p.gaps)
      (list_all (λ (q : PlusLine). list_all is_gap q.gaps) ps) (line_gaps vars l p a.0) (lines_gaps vars ls ps a.1)

  pub gaps_blank : (vars : List VarDecl) (P : BodyLine → Type 0) (n : ℕ) (b : Block) (c : PlusBlock)
      → ArePlusLines vars b.lines c.lines → AllLines P b.lines → length b.lines ≤ n → block_gaps c ≡ true
  gaps_blank vars P n b c a h le = lines_gaps vars b.lines c.lines a
