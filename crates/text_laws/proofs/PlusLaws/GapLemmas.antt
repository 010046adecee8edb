-- Only white space is between the tokens of a plus line.
-- Proof: a gap is blanks, which are white space and splices; a splice contains a newline, and a line has a newline only at
-- its end, after its last token.
use Rattle.std.proofs.Common.{◌≡◌, ℕ, ◌≤◌, ◌==◌, Bool, true, false, refl, sym, ap, ◌∙◌, subst, true≢false, List, [], ◌∷◌, ◌++◌}
use Rattle.std.proofs.Common.{drop, length, Some, if◌then◌else◌}
use Rattle.std.specs.List.{list_all}
use Rattle.c_lexer.specs.declared.state.Kind.{Kind}
use Rattle.c_lexer.specs.declared.state.Kind.TheVariants as kind
use Rattle.c_lexer.specs.Kinds.{kind_of}
use Rattle.c_lexer.specs.Words.{is_space}
use Rattle.c_lexer.specs.Blanks.{AreBlanks, none, space, splice, splice_return}
use Rattle.smpl_patch.specs.declared.pattern.VarDecl.{VarDecl}
use Rattle.smpl_patch.specs.declared.pattern.PlusLine.{PlusLine}
use Rattle.smpl_patch.specs.declared.pattern.PlusBlock.{PlusBlock}
use Rattle.smpl_lexer.specs.declared.section.Role.TheVariants as role
use Rattle.smpl_lexer.specs.declared.text.BodyLine.{BodyLine}
use Rattle.smpl_lexer.specs.declared.text.PatchText.{PatchText}
use Rattle.smpl_lexer.specs.Lines.{content}
use Rattle.smpl_lexer.specs.Sections.{skipped}
use Rattle.smpl_lexer.specs.Texts.{IsTextOf}
use Rattle.smpl_plus.specs.Blocks.{Block, Piece, joined, Cut, gaps_by, gaps_from, IsPlusLine, ArePlusLines}
use Rattle.sound_laws.proofs.SmplSound.BoolLemmas.{both-true}
use Rattle.sound_laws.proofs.SmplSound.LineLemmas.{back_empty, front_empty, AllLines, AllBodies, text_holds}
use Rattle.sound_laws.proofs.SmplSound.PlusLemmas.{WhenPlus}
use Rattle.sound_laws.proofs.SmplSound.GapLemmas.{BlankLaw}

-- ---- newlines

-- no byte is a newline
abbrev pub Clean : List ℕ → Type 0
Clean [] = Unit {0}
Clean (b ∷ bs) = (b ≡ 10 → ⊥) × Clean bs

-- a newline is the last byte
abbrev pub IsLine : List ℕ → Type 0
IsLine [] = Unit {0}
IsLine (b ∷ bs) = (b ≡ 10 → bs ≡ []) × IsLine bs

clean_both : (xs ys : List ℕ) → Clean xs → Clean ys → Clean (xs ++ ys)
clean_both [] ys h k = k
clean_both (x ∷ xs) ys h k = (h.0, clean_both xs ys h.1 k)

clean_front : (xs ys : List ℕ) → IsLine (xs ++ ys) → (ys ≡ [] → ⊥) → Clean xs
clean_front [] ys l more = tt
clean_front (x ∷ xs) ys l more = ((λ e. more (back_empty xs ys (l.0 e))), clean_front xs ys l.1 more)

line_rest : (xs ys : List ℕ) → IsLine (xs ++ ys) → IsLine ys
line_rest [] ys l = l
line_rest (x ∷ xs) ys l = line_rest xs ys l.1

other-byte : (b : ℕ) → (b == 10) ≡ false → b ≡ 10 → ⊥
other-byte b h e = let k : true ≡ false = subst (λ (y : ℕ). (y == 10) ≡ false) e h in true≢false k

content_line : (bytes : List ℕ) → IsLine (content bytes ++ 10 ∷ [])
content_line [] = ((λ e. refl), tt)
content_line (b ∷ bs) = by (b == 10) refl (content_line bs)
  where
    by : (c : Bool) → (b == 10) ≡ c → IsLine (content bs ++ 10 ∷ []) → IsLine ((if c then [] else b ∷ content bs) ++ 10 ∷ [])
    by true h l = ((λ e. refl), tt)
    by false h l = ((λ e. absurd (other-byte b h e)), l)

-- blanks without a newline are white space
abbrev pub spaced : List ℕ → Bool
spaced gap = list_all is_space gap

all_spaces : (bytes : List ℕ) → AreBlanks bytes → Clean bytes → spaced bytes ≡ true
all_spaces _ none c = refl
all_spaces _ (space b rest s more) c = both-true (is_space b) (spaced rest) s (all_spaces rest more c.1)
all_spaces _ (splice rest more) c = absurd (c.1.0 refl)
all_spaces _ (splice_return rest more) c = absurd (c.1.1.0 refl)

blanks_both : (xs ys : List ℕ) → AreBlanks xs → AreBlanks ys → AreBlanks (xs ++ ys)
blanks_both _ ys none h = h
blanks_both _ ys (space b rest s more) h = space b (rest ++ ys) s (blanks_both rest ys more h)
blanks_both _ ys (splice rest more) h = splice (rest ++ ys) (blanks_both rest ys more h)
blanks_both _ ys (splice_return rest more) h = splice_return (rest ++ ys) (blanks_both rest ys more h)

-- ---- gaps

-- unless no piece is left
abbrev Ready : List ℕ → List Piece → Type 0
Ready blank [] = Unit {0}
Ready blank (p ∷ ps) = Clean blank

ready : (blank : List ℕ) (ps : List Piece) → Clean blank → Ready blank ps
ready blank [] c = tt
ready blank (p ∷ ps) c = c

empty-no : (k : Kind) (text : List ℕ) → kind_of text ≡ Some k → text ≡ [] → ⊥
empty-no k text is e = let no : kind_of [] ≡ Some k = subst (λ (l : List ℕ). kind_of l ≡ Some k) e is in cc

ready_after : (blank text : List ℕ) (ps : List Piece) → Cut ps → IsLine (text ++ joined ps) → Clean blank → Ready (blank ++ text) ps
ready_after blank text [] cut l c = tt
ready_after blank text (q ∷ qs) cut l c =
    clean_both blank text c (clean_front text (q.text ++ joined qs) l (λ e. empty-no q.kind q.text cut.0.of_kind (front_empty q.text (joined qs) e)))

-- its text is a line's content
abbrev pub IsContent : BodyLine → Type 0
IsContent l = IsLine (l.text ++ 10 ∷ [])

abbrev pub spaced_line : PlusLine → Bool
spaced_line l = list_all spaced l.gaps

abbrev pub spaced_block : PlusBlock → Bool
spaced_block c = list_all spaced_line c.lines

pub text_contents : (bytes : List ℕ) (t : PatchText) → IsTextOf bytes t → AllBodies (WhenPlus IsContent) t.rules
text_contents = text_holds (WhenPlus IsContent) (λ c e is none s. content_line (drop (skipped role.Body c.line.bytes) c.line.bytes))

module _ (law : BlankLaw) where
  put_gap : (blank : List ℕ) (gaps : List (List ℕ)) → AreBlanks blank → Clean blank → list_all spaced gaps ≡ true → list_all spaced (blank ∷ gaps) ≡ true
  put_gap blank gaps h c g = both-true (spaced blank) (list_all spaced gaps) (all_spaces blank h c) g

  by_kind : (k : Kind) (text blank : List ℕ) (ps : List Piece) → kind_of text ≡ Some k → AreBlanks blank → Clean blank → Ready (blank ++ text) ps
      → ((b : List ℕ) → AreBlanks b → Ready b ps → list_all spaced (gaps_from b ps) ≡ true)
      → list_all spaced (gaps_by k text blank (λ b. gaps_from b ps)) ≡ true
  by_kind kind.Blank text blank ps is h c after g = g (blank ++ text) (blanks_both blank text h ((law text).0 is).0) after
  by_kind kind.Comment text blank ps is h c after g = g blank h (ready blank ps c)
  by_kind kind.Line text blank ps is h c after g = g blank h (ready blank ps c)
  by_kind kind.Name text blank ps is h c after g = put_gap blank (gaps_from [] ps) h c (g [] none (ready [] ps tt))
  by_kind kind.Keyword text blank ps is h c after g = put_gap blank (gaps_from [] ps) h c (g [] none (ready [] ps tt))
  by_kind kind.Number text blank ps is h c after g = put_gap blank (gaps_from [] ps) h c (g [] none (ready [] ps tt))
  by_kind kind.Char text blank ps is h c after g = put_gap blank (gaps_from [] ps) h c (g [] none (ready [] ps tt))
  by_kind kind.Str text blank ps is h c after g = put_gap blank (gaps_from [] ps) h c (g [] none (ready [] ps tt))
  by_kind kind.Punct text blank ps is h c after g = put_gap blank (gaps_from [] ps) h c (g [] none (ready [] ps tt))
  by_kind kind.Stray text blank ps is h c after g = put_gap blank (gaps_from [] ps) h c (g [] none (ready [] ps tt))

  pieces_spaced : (blank : List ℕ) (ps : List Piece) → Cut ps → IsLine (joined ps) → AreBlanks blank → Ready blank ps
      → list_all spaced (gaps_from blank ps) ≡ true
  pieces_spaced blank [] cut l h c = refl
  pieces_spaced blank (p ∷ ps) cut l h c =
      by_kind p.kind p.text blank ps cut.0.of_kind h c (ready_after blank p.text ps cut.1 l c)
      (λ b k r. pieces_spaced b ps cut.1 (line_rest p.text (joined ps) l) k r)

  -- ---- lines

  line_spaced : (vars : List VarDecl) (l : BodyLine) (p : PlusLine) → IsPlusLine vars l p → IsContent l → list_all spaced p.gaps ≡ true
  line_spaced vars l p is c =
      ap (list_all spaced) is.gaps.are ∙ pieces_spaced [] is.gaps.pieces is.gaps.cut (subst IsLine (sym is.gaps.joins) c) none (ready [] is.gaps.pieces tt)

  lines_spaced : (vars : List VarDecl) (ls : List BodyLine) (ps : List PlusLine) → ArePlusLines vars ls ps → AllLines IsContent ls
      → list_all spaced_line ps ≡ true
  lines_spaced vars [] [] a h = refl
  lines_spaced vars [] (p ∷ ps) a h = absurd a
  lines_spaced vars (l ∷ ls) [] a h = absurd a
  lines_spaced vars (l ∷ ls) (p ∷ ps) a h =
      both-true (spaced_line p) (list_all spaced_line ps) (line_spaced vars l p a.0 h.0) (lines_spaced vars ls ps a.1 h.1)

  pub block_spaced : (vars : List VarDecl) (n : ℕ) (b : Block) (c : PlusBlock) → ArePlusLines vars b.lines c.lines → AllLines IsContent b.lines
      → length b.lines ≤ n → spaced_block c ≡ true
  block_spaced vars n b c a h le = lines_spaced vars b.lines c.lines a h
