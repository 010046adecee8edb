-- Blanks and plain tokens in a row, of which no two run together, are the pieces of their text.
use Rattle.std.proofs.Common.{◌≡◌, ◌⊎◌, ◌&&◌, ℕ, Bool, true, false, refl, sym, ap, ◌∙◌, inl, inr, List, [], ◌∷◌, ◌++◌, append_assoc, take, subst, IsTrue}
use Rattle.std.specs.Prelude.{Option, None, Some, IsSomeAnd, option_map, option_and_then, if◌then◌else◌, ◌==◌, ◌||◌}
use Rattle.std.specs.List.{list_all}
use Rattle.std.proofs.lemmas.Bool.{false≢true}
use Rattle.std.proofs.lemmas.Bool.Decides.{not_from_Decides}
use Rattle.c_terms.specs.declared.token.TokenKind.{TokenKind}
use Rattle.c_terms.specs.declared.token.TokenKind.TheVariants.{Name, Keyword, Number, Char, Str, Punct, Stray, Meta, Dots, Pat}
use Rattle.c_lexer.specs.declared.state.Kind.{Kind}
use Rattle.c_lexer.specs.declared.state.Kind.TheVariants as kind
use Rattle.c_lexer.specs.declared.state.State.{State}
use Rattle.c_lexer.specs.declared.state.State.TheVariants.{Start, Blanks}
use Rattle.c_lexer.specs.declared.state.Splice.TheVariants.{Plain}
use Rattle.c_lexer.specs.declared.piece.PieceKind.{PieceKind}
use Rattle.c_lexer.specs.declared.piece.PieceKind.TheVariants.{Word, Blank, Comment, Line}
use Rattle.c_lexer.specs.Words.{is_space}
use Rattle.c_lexer.specs.Kinds.{kind_of, kind_at, named, walk, step}
use Rattle.c_lexer.specs.First.{IsFirst}
use Rattle.c_lexer.specs.Pieces.{TextPiece, text_of, kind_of_piece}
use Rattle.c_lexer.specs.Lexes.{IsFirstPiece, Cuts}
use Rattle.c_lexer.specs.Ids.{without_ids, kind_without_id}
use Rattle.c_lexer.specs.Beside.{is_plain, IsOfKind, Beside}
use Rattle.c_lexer.specs.Loose.{Loose, is_blank, join_blank, join_blanks}
use Rattle.c_show.specs.Joint.{runs_together}
use Rattle.c_lexer.proofs.Apart.{apart}
use Rattle.c_lexer.proofs.Law.{begins, blank_first}
use Rattle.c_lexer.proofs.Once.{once}
use Rattle.c_lexer.proofs.Shaped.{loose_cuts}
use Rattle.c_show.proofs.Together.{runs_together-decides}
use Rattle.edit_marks.proofs.BlankAfter.{parted_by_blanks}
use Rattle.edit_marks.specs.Blocks.{is_together}
use Rattle.c_show.specs.PlainText.{is_plain_token, may_come, IsPlainText}
use Rattle.edit_marks.specs.Plain.{IsCToken, AreSpaces}

-- one piece

pub record BlankPiece (p : TextPiece) : Type 0 where
  pub blank : p.kind ≡ Blank
  pub of : kind_of p.text ≡ Some kind.Blank

pub record WordPiece (left : Option (List ℕ)) (p : TextPiece) : Type 0 where
  pub token : TokenKind
  pub word : p.kind ≡ Word token 0
  pub c_token : IsCToken token p.text
  pub apart : is_together left (Some p.text) ≡ false

abbrev pub right_of : PieceKind → List ℕ → Option (List ℕ)
right_of (Word kind id) text = Some text
right_of Blank text = None
right_of Comment text = None
right_of Line text = None

-- after a token that the first may be beside
abbrev pub Row : Option (List ℕ) → List TextPiece → Type 0
Row left [] = Unit {0}
Row left (p ∷ ps) = (BlankPiece p ⊎ WordPiece left p) × Row (right_of p.kind p.text) ps

abbrev pub after : Option (List ℕ) → List TextPiece → Option (List ℕ)
after left [] = left
after left (p ∷ ps) = after (right_of p.kind p.text) ps

pub row_append : (left : Option (List ℕ)) (xs ys : List TextPiece) → Row left xs → Row (after left xs) ys → Row left (xs ++ ys)
row_append left [] ys h k = k
row_append left (x ∷ xs) ys h k = (h.0, row_append (right_of x.kind x.text) xs ys h.1 k)

pub after-append : (left : Option (List ℕ)) (xs ys : List TextPiece) → after left (xs ++ ys) ≡ after (after left xs) ys
after-append left [] ys = refl
after-append left (x ∷ xs) ys = after-append (right_of x.kind x.text) xs ys

-- it is loose

record Known (token : TokenKind) : Type 0 where
  k : Kind
  is : kind_of_piece (Word token 0) ≡ Some k
  plain : IsTrue (is_plain k)

known : (token : TokenKind) → is_plain_token token ≡ true → Known token
known Name e = record { k = kind.Name; is = refl; plain = refl }
known Keyword e = record { k = kind.Keyword; is = refl; plain = refl }
known Number e = record { k = kind.Number; is = refl; plain = refl }
known Char e = record { k = kind.Char; is = refl; plain = refl }
known Str e = record { k = kind.Str; is = refl; plain = refl }
known Punct e = record { k = kind.Punct; is = refl; plain = refl }
known Stray e = absurd (false≢true e)
known (Meta m) e = absurd (false≢true e)
known Dots e = absurd (false≢true e)
known Pat e = absurd (false≢true e)

-- what a word piece is
pub record Spelled (p : TextPiece) : Type 0 where
  pub k : Kind
  pub is : kind_of_piece p.kind ≡ Some k
  pub plain : IsTrue (is_plain k)
  pub of : kind_of p.text ≡ Some k

pub spelled : (left : Option (List ℕ)) (p : TextPiece) → WordPiece left p → Spelled p
spelled left p w =
    let n = known w.token w.c_token.plain in
    record {
      k = n.k;
      is = ap kind_of_piece w.word ∙ n.is;
      plain = n.plain;
      of = subst (λ (o : Option Kind). IsSomeAnd o (λ k. kind_of p.text ≡ Some k)) n.is w.c_token.of;
    }

of_word : (p : TextPiece) → Spelled p → IsOfKind p
of_word p s = subst (λ (o : Option Kind). IsSomeAnd o (λ k. kind_of p.text ≡ Some k)) (sym s.is) s.of

of_blank : (p : TextPiece) → BlankPiece p → IsOfKind p
of_blank p b = subst (λ (o : Option Kind). IsSomeAnd o (λ k. kind_of p.text ≡ Some k)) (sym (ap kind_of_piece b.blank)) b.of

first_as : (p : TextPiece) (k : Kind) (rest : List ℕ) → kind_of_piece p.kind ≡ Some k → IsFirst k p.text rest → IsFirstPiece p rest
first_as p k rest is first = subst (λ (o : Option Kind). IsSomeAnd o (λ kind. IsFirst kind p.text rest)) (sym is) first

no_stray : (p : TextPiece) → Spelled p → kind_of_piece p.kind ≡ Some kind.Stray → ⊥
no_stray p s e =
    let both : Some s.k ≡ Some kind.Stray = sym s.is ∙ e in
    let same : s.k ≡ kind.Stray = cc in
    false≢true (subst (λ (j : Kind). IsTrue (is_plain j)) same s.plain)

no_dot : (c : ℕ) (cs : List ℕ) → kind_of (c ∷ cs) ≡ Some kind.Blank → take 1 (c ∷ cs) ≡ 46 ∷ [] → ⊥
no_dot c cs of e =
    let dot : c ≡ 46 = cc in
    let is : IsTrue (is_space 46 || 46 == 92) = subst (λ (x : ℕ). IsTrue (is_space x || x == 92)) dot (blank_first c cs of) in
    false≢true is

before_blank : (p q : TextPiece) (rest : List ℕ) → Spelled p → BlankPiece q → Beside p q rest
before_blank p q rest s b =
    let t = begins q.text kind.Blank b.of in
    let of_t : kind_of (t.byte ∷ t.more) ≡ Some kind.Blank = ap kind_of (sym t.is) ∙ b.of in
    let first : IsFirst s.k p.text q.text = subst (λ (l : List ℕ). IsFirst s.k p.text l) (sym t.is)
    (parted_by_blanks p.text s.k t.byte t.more s.of s.plain (blank_first t.byte t.more of_t)) in
    inr (inr (inl (record {
      first = first_as p s.k q.text s.is first;
      no_stray = no_stray p s;
      dots = λ dot e. no_dot t.byte t.more of_t (ap (λ (l : List ℕ). take 1 l) (sym t.is) ∙ e);
    })))

before_word : (p q : TextPiece) (rest : List ℕ) → Spelled p → runs_together p.text q.text ≡ false → Beside p q rest
before_word p q rest s none =
    let apart_from = not_from_Decides (runs_together p.text q.text) (runs_together-decides p.text q.text) none in
    inr (inr (inl (record {
      first = first_as p s.k q.text s.is (apart s.k p.text q.text s.of apart_from);
      no_stray = no_stray p s;
      dots = λ dot e. apart_from (inr (dot, e));
    })))

pub row_loose : (left : Option (List ℕ)) (ps : List TextPiece) → Row left ps → Loose ps
row_loose left [] row = tt
row_loose left (p ∷ []) row = elim row.0 [ inl b ↦ of_blank p b | inr w ↦ of_word p (spelled left p w) ]
row_loose left (p ∷ q ∷ ps) row = elim row.0 [
  | inl b ↦ (of_blank p b, (inl b.blank, row_loose (right_of p.kind p.text) (q ∷ ps) row.1))
  | inr w ↦
      let s = spelled left p w in
      let right : right_of p.kind p.text ≡ Some p.text = ap (λ (k : PieceKind). right_of k p.text) w.word in (
        of_word p s,
        (
          elim row.1.0 [
            | inl b ↦ before_blank p q (text_of ps) s b
            | inr v ↦ before_word p q (text_of ps) s (ap (λ (o : Option (List ℕ)). is_together o (Some q.text)) (sym right) ∙ v.apart)
          ],
          row_loose (right_of p.kind p.text) (q ∷ ps) row.1,
        ),
      )
]

-- and its text is plain

abbrev all_come : List TextPiece → Bool
all_come ps = list_all (λ p. may_come p.kind) ps

both : (a b : Bool) → a ≡ true → b ≡ true → (a && b) ≡ true
both a b h k = ap (λ c. c && b) h ∙ k

pub both_first : (a b : Bool) → (a && b) ≡ true → a ≡ true
both_first true b e = refl
both_first false b e = absurd (false≢true e)

pub both_second : (a b : Bool) → (a && b) ≡ true → b ≡ true
both_second true b e = e
both_second false b e = absurd (false≢true e)

row_come : (left : Option (List ℕ)) (ps : List TextPiece) → Row left ps → all_come ps ≡ true
row_come left [] row = refl
row_come left (p ∷ ps) row = both (may_come p.kind) (all_come ps)
    (elim row.0 [ inl b ↦ ap may_come b.blank | inr w ↦ ap may_come w.word ∙ w.c_token.plain ]) (row_come (right_of p.kind p.text) ps row.1)

bare_come : (k : PieceKind) → may_come (kind_without_id k) ≡ may_come k
bare_come (Word kind id) = refl
bare_come Blank = refl
bare_come Comment = refl
bare_come Line = refl

come_bare : (ps : List TextPiece) → all_come (without_ids ps) ≡ all_come ps
come_bare [] = refl
come_bare (p ∷ ps) = λ i. bare_come p.kind i && come_bare ps i

come_join : (p : TextPiece) (ps : List TextPiece) → may_come p.kind ≡ true → all_come ps ≡ true → all_come (join_blank p ps) ≡ true
come_join p [] h k = both (may_come p.kind) true h refl
come_join p (q ∷ qs) h k = elim (is_blank p.kind
    && is_blank q.kind) as (λ b. all_come (if b then (let r : TextPiece = record { kind = Blank; text = p.text ++ q.text } in r) ∷ qs else p ∷ q ∷ qs) ≡ true) [
      | true ↦ both_second (may_come q.kind) (all_come qs) k
      | false ↦ both (may_come p.kind) (all_come (q ∷ qs)) h k
    ]

come_joined : (ps : List TextPiece) → all_come ps ≡ true → all_come (join_blanks ps) ≡ true
come_joined [] e = refl
come_joined (p ∷ ps) e = come_join p (join_blanks ps) (both_first (may_come p.kind) (all_come ps) e)
    (come_joined ps (both_second (may_come p.kind) (all_come ps) e))

pub text_join : (p : TextPiece) (ps : List TextPiece) → text_of (join_blank p ps) ≡ p.text ++ text_of ps
text_join p [] = refl
text_join p (q ∷ qs) = elim (is_blank p.kind
    && is_blank q.kind) as (λ b. text_of
    (if b then (let r : TextPiece = record { kind = Blank; text = p.text ++ q.text } in r) ∷ qs else p ∷ q ∷ qs) ≡ p.text ++ (q.text ++ text_of qs)) [
      | true ↦ append_assoc p.text q.text (text_of qs)
      | false ↦ refl
    ]

pub text_joined : (ps : List TextPiece) → text_of (join_blanks ps) ≡ text_of ps
text_joined [] = refl
text_joined (p ∷ ps) = text_join p (join_blanks ps) ∙ ap (λ (l : List ℕ). p.text ++ l) (text_joined ps)

pub row_plain : (left : Option (List ℕ)) (ps : List TextPiece) (text : List ℕ) → text_of ps ≡ text → Row left ps → IsPlainText text
row_plain left ps text is row = λ pieces lexes.
    let again : Cuts (join_blanks ps) = loose_cuts ps (row_loose left ps row) in
    let same = once pieces (join_blanks ps) lexes.1.0 again (lexes.0 ∙ sym is ∙ sym (text_joined ps)) in
    sym (come_bare pieces) ∙ ap all_come same ∙ come_bare (join_blanks ps) ∙ come_joined ps (row_come left ps row)

-- spaces are a blank

space_step : (c : ℕ) → is_space c ≡ true → step (Blanks Plain) c ≡ Some (Blanks Plain)
space_step c e = rw e refl

space_begin : (c : ℕ) → is_space c ≡ true → step Start c ≡ Some (Blanks Plain)
space_begin c e = rw e refl

spaces_walk : (cs : List ℕ) → AreSpaces cs → walk (Some (Blanks Plain)) cs ≡ Some (Blanks Plain)
spaces_walk [] e = refl
spaces_walk (c ∷ cs) e = ap (λ (q : Option State). walk q cs) (space_step c (both_first (is_space c) (list_all is_space cs) e))
    ∙ spaces_walk cs (both_second (is_space c) (list_all is_space cs) e)

pub spaces_blank : (c : ℕ) (cs : List ℕ) → AreSpaces (c ∷ cs) → kind_of (c ∷ cs) ≡ Some kind.Blank
spaces_blank c cs e =
    let first : walk (Some Start) (c ∷ cs) ≡ Some (Blanks Plain) =
    ap (λ (q : Option State). walk q cs) (space_begin c (both_first (is_space c) (list_all is_space cs) e))
    ∙ spaces_walk cs (both_second (is_space c) (list_all is_space cs) e) in
    ap (λ (q : Option State). option_map (named (c ∷ cs)) (option_and_then kind_at q)) first
