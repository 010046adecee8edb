-- Which pieces of the new text may come next to each other.
use Rattle.std.proofs.Common.{◌≡◌, ◌+◌, ◌&&◌, ◌⊎◌, ℕ, Bool, true, false, not, refl, sym, ap, ◌∙◌, inl, inr, List, [], ◌∷◌, ◌++◌, take, subst}
use Rattle.std.specs.Prelude.{Option, Some, None, if◌then◌else◌, IsSomeAnd, IsTrue}
use Rattle.std.specs.Str.{bytes_eq}
use Rattle.std.specs.Cmp.Lexicographic.{bytes_decides}
use Rattle.std.proofs.lemmas.Bool.{false≢true}
use Rattle.std.proofs.lemmas.Bool.Decides.{Decides-eqb, not_from_Decides}
use Rattle.c_terms.specs.declared.token.TokenKind.TheVariants.{Name, Keyword, Number, Char, Str, Punct, Stray, Meta, Dots, Pat}
use Rattle.c_lexer.specs.declared.state.Kind.{Kind}
use Rattle.c_lexer.specs.declared.state.Kind.TheVariants as kind
use Rattle.c_lexer.specs.declared.piece.PieceKind.{PieceKind}
use Rattle.c_lexer.specs.declared.piece.PieceKind.TheVariants.{Word, Blank, Comment, Line}
use Rattle.c_lexer.specs.Kinds.{kind_of}
use Rattle.c_lexer.specs.Words.{is_space}
use Rattle.c_lexer.specs.First.{IsFirst}
use Rattle.c_lexer.specs.Pieces.{TextPiece, text_of, kind_of_piece}
use Rattle.c_lexer.specs.Lexes.{IsFirstPiece}
use Rattle.c_lexer.specs.Beside.{is_plain, IsOfKind, Stays, Ended, Beside}
use Rattle.c_lexer.specs.Loose.{Loose}
use Rattle.c_lexer.proofs.Apart.{apart}
use Rattle.c_lexer.proofs.Shaped.{known, kind_or_stray}
use Rattle.c_show.specs.PlainText.{is_plain_token}
use Rattle.c_lexer.proofs.Spaced.{spaced, no_dots}
use Rattle.c_lexer.proofs.Law.{comment_ended, begins, lone_back}
use Rattle.c_show.specs.Joint.{runs_together}
use Rattle.c_show.proofs.Together.{runs_together-decides}
use Rattle.edit_unparse.specs.Output.{Part, Left, left_of, is_word, gap, space, needs_space, were_beside}
use Rattle.edit_unparse.proofs.Ends.{space_first, backslash_first, line_ended}

-- the parts with spaces, ids as they are
abbrev pub plain : Option Left → List Part → List TextPiece
plain left [] = []
plain left (p ∷ parts) = gap left p.from p.piece.text ++ p.piece ∷ plain (Some (left_of p)) parts

abbrev pub after : Part → List Part → List TextPiece
after p parts = plain (Some (left_of p)) parts

-- the part and those after it may be put next to each other
abbrev pub Good : Part → List Part → Type 0
Good p parts = Loose (p.piece ∷ after p parts)

-- a plain token
abbrev pub is_plain_word : PieceKind → Bool
is_plain_word (Word kind id) = is_plain_token kind
is_plain_word Blank = false
is_plain_word Comment = false
is_plain_word Line = false

pub record PlainWord (k : PieceKind) : Type 0 where
  pub kind : Kind
  pub is : kind_of_piece k ≡ Some kind
  pub plain : IsTrue (is_plain kind)
  pub word : is_word k ≡ true

pub plain_word : (k : PieceKind) → is_plain_word k ≡ true → PlainWord k
plain_word (Word Name id) e = record { kind = kind.Name; is = refl; plain = refl; word = refl }
plain_word (Word Keyword id) e = record { kind = kind.Keyword; is = refl; plain = refl; word = refl }
plain_word (Word Number id) e = record { kind = kind.Number; is = refl; plain = refl; word = refl }
plain_word (Word Char id) e = record { kind = kind.Char; is = refl; plain = refl; word = refl }
plain_word (Word Str id) e = record { kind = kind.Str; is = refl; plain = refl; word = refl }
plain_word (Word Punct id) e = record { kind = kind.Punct; is = refl; plain = refl; word = refl }
plain_word (Word Stray id) e = absurd cc
plain_word (Word (Meta m) id) e = absurd cc
plain_word (Word Dots id) e = absurd cc
plain_word (Word Pat id) e = absurd cc
plain_word Blank e = absurd cc
plain_word Comment e = absurd cc
plain_word Line e = absurd cc

-- it stays one token whatever comes after it, separated by a space if need be
abbrev pub Free : TextPiece → Type 0
Free p = (p.kind ≡ Blank) ⊎ (PlainWord p.kind ⊎ Ended p)

pub has_kind : (p : TextPiece) (k : Kind) → kind_of_piece p.kind ≡ Some k → IsOfKind p → kind_of p.text ≡ Some k
has_kind p k is of = subst (λ (o : Option Kind). IsSomeAnd o (λ kind. kind_of p.text ≡ Some kind)) is of

pub first_as : (p : TextPiece) (k : Kind) (rest : List ℕ) → kind_of_piece p.kind ≡ Some k → IsFirst k p.text rest → IsFirstPiece p rest
first_as p k rest is first = subst (λ (o : Option Kind). IsSomeAnd o (λ kind. IsFirst kind p.text rest)) (sym is) first

pub first_of : (p : TextPiece) (k : Kind) (rest : List ℕ) → kind_of_piece p.kind ≡ Some k → IsFirstPiece p rest → IsFirst k p.text rest
first_of p k rest is first = subst (λ (o : Option Kind). IsSomeAnd o (λ kind. IsFirst kind p.text rest)) is first

not_stray : (k : PieceKind) → (w : PlainWord k) → kind_of_piece k ≡ Some kind.Stray → ⊥
not_stray k w e =
    let both : Some w.kind ≡ Some kind.Stray = sym w.is ∙ e in
    let same : w.kind ≡ kind.Stray = cc in
    false≢true (subst (λ (j : Kind). IsTrue (is_plain j)) same w.plain)

of_space : IsOfKind space
of_space = refl

parted_by_space : (p : TextPiece) (rest : List ℕ) → IsOfKind p → Free p → Beside p space rest
parted_by_space p rest of free = elim free [
  | inl blank ↦ inl blank
  | inr f ↦ elim f [
    | inl w ↦ inr (inr (inl (record {
      first = first_as p w.kind (32 ∷ []) w.is (spaced p.text w.kind [] (has_kind p w.kind w.is of) w.plain);
      no_stray = not_stray p.kind w;
      dots = λ dot e. cc;
    })))
    | inr ended ↦ inr (inr (inr (inr ended)))
  ]
]

parted : (p q : TextPiece) (rest : List ℕ) → IsOfKind p → Free p → (is_word p.kind ≡ true → runs_together p.text q.text ≡ false) → Beside p q rest
parted p q rest of free none = elim free [
  | inl blank ↦ inl blank
  | inr f ↦ elim f [
    | inl w ↦
        let apart_from = not_from_Decides (runs_together p.text q.text) (runs_together-decides p.text q.text) (none w.word) in
        inr (inr (inl (record {
          first = first_as p w.kind q.text w.is (apart w.kind p.text q.text (has_kind p w.kind w.is of) apart_from);
          no_stray = not_stray p.kind w;
          dots = λ dot e. apart_from (inr (dot, e));
        })))
    | inr ended ↦ inr (inr (inr (inr ended)))
  ]
]

pub rest_false : (w b r : Bool) → (w && (not b && r)) ≡ false → w ≡ true → b ≡ false → r ≡ false
rest_false true false r e f g = e
rest_false true true r e f g = absurd cc
rest_false false b r e f g = absurd cc

-- a part that was not its neighbour
pub free_step : (p q : Part) (parts : List Part) → IsOfKind p.piece → Free p.piece → were_beside p.from q.from ≡ false → Good q parts → Good p (q ∷ parts)
free_step p q parts of free were good =
    elim (needs_space (left_of p) q.from q.piece.text) as (λ b. needs_space (left_of p) q.from q.piece.text ≡ b
    → Loose (p.piece ∷ ((if b then space ∷ [] else []) ++ q.piece ∷ after q parts))) [
      | true ↦ λ e. (of, (parted_by_space p.piece (text_of (q.piece ∷ after q parts)) of free, (of_space, (inl refl, good))))
      | false ↦ λ e. (
        of,
        (
          parted p.piece q.piece (text_of (after q parts)) of free
              (λ w. rest_false (is_word p.piece.kind) (were_beside p.from q.from) (runs_together p.piece.text q.piece.text) e w were),
          good,
        ),
      )
    ] refl

-- bytes

blank_kind : (k : PieceKind) → kind_or_stray k ≡ kind.Blank → k ≡ Blank
blank_kind Blank e = refl
blank_kind Comment e = absurd cc
blank_kind Line e = absurd cc
blank_kind (Word Name id) e = absurd cc
blank_kind (Word Keyword id) e = absurd cc
blank_kind (Word Number id) e = absurd cc
blank_kind (Word Char id) e = absurd cc
blank_kind (Word Str id) e = absurd cc
blank_kind (Word Punct id) e = absurd cc
blank_kind (Word Stray id) e = absurd cc
blank_kind (Word (Meta m) id) e = absurd cc
blank_kind (Word Dots id) e = absurd cc
blank_kind (Word Pat id) e = absurd cc

pub record Bytes (p : TextPiece) : Type 0 where
  pub byte : ℕ
  pub more : List ℕ
  pub is : p.text ≡ byte ∷ more

pub bytes_of : (p : TextPiece) → IsOfKind p → Bytes p
bytes_of p of =
    let k = known p.kind (λ k. kind_of p.text ≡ Some k) of in
    let b = begins p.text (kind_or_stray p.kind) k.1 in
    record { byte = b.byte; more = b.more; is = b.is }

-- what is not a blank does not begin with a space
pub no_space : (p : TextPiece) (c : ℕ) (cs : List ℕ) → p.text ≡ c ∷ cs → IsOfKind p → (p.kind ≡ Blank → ⊥) → is_space c ≡ true → ⊥
no_space p c cs is of other sp =
    let k = known p.kind (λ k. kind_of p.text ≡ Some k) of in
    other (blank_kind p.kind (space_first c cs (kind_or_stray p.kind) sp (ap kind_of (sym is) ∙ k.1)))

pub no_newline : (p : TextPiece) (c : ℕ) (cs : List ℕ) → p.text ≡ c ∷ cs → IsOfKind p → (p.kind ≡ Blank → ⊥) → c ≡ 10 → ⊥
no_newline p c cs is of other e = no_space p c cs is of other (ap is_space e)

no_return : (p : TextPiece) (c : ℕ) (cs : List ℕ) → p.text ≡ c ∷ cs → IsOfKind p → (p.kind ≡ Blank → ⊥) → c ≡ 13 → ⊥
no_return p c cs is of other e = no_space p c cs is of other (ap is_space e)

-- a Stray backslash before what is not a blank, whatever follows
lone_before : (p q : TextPiece) (rest : List ℕ) → p.text ≡ 92 ∷ [] → IsOfKind p → IsOfKind q → (q.kind ≡ Blank → ⊥) → IsFirstPiece p (q.text ++ rest)
lone_before p q rest back of_p of_q other =
    let b = bytes_of q of_q in
    let k = known p.kind (λ k. kind_of p.text ≡ Some k) of_p in
    let stray = lone_back p.text (kind_or_stray p.kind) back k.1 in
    let first : IsFirst kind.Stray p.text (q.text ++ rest) =
    subst (λ (l : List ℕ). IsFirst kind.Stray l (q.text ++ rest)) (sym back) (subst (λ (l : List ℕ). IsFirst kind.Stray (92 ∷ []) (l ++ rest)) (sym b.is)
    (backslash_first b.byte (b.more ++ rest) (no_newline q b.byte b.more b.is of_q other) (no_return q b.byte b.more b.is of_q other))) in
    first_as p kind.Stray (q.text ++ rest) (k.0 ∙ ap Some stray) first

-- two bytes: of a piece and of what follows it
two_of : (text rest old : List ℕ) (c : ℕ) (cs : List ℕ) → text ≡ c ∷ cs → take 1 rest ≡ take 1 old → take 2 (text ++ rest) ≡ take 2 (text ++ old)
two_of text rest old c [] is one = rw is (ap (λ (l : List ℕ). c ∷ l) one)
two_of text rest old c (d ∷ ds) is one = rw is refl

-- a dot is not followed by two dots
no_three : (p q : TextPiece) (rest old : List ℕ) (c : ℕ) (cs : List ℕ) → q.text ≡ c ∷ cs → IsOfKind p → IsFirstPiece p (q.text ++ old)
    → (q.text ≡ 46 ∷ [] → take 1 rest ≡ 46 ∷ [] → take 1 old ≡ 46 ∷ [])
    → p.text ≡ 46 ∷ [] → take 2 (q.text ++ rest) ≡ 46 ∷ 46 ∷ [] → ⊥
no_three p q rest old c cs is of was dots dot two =
    let k = known p.kind (λ k. IsFirst k p.text (q.text ++ old)) was in
    let first : IsFirst (kind_or_stray p.kind) (46 ∷ []) (q.text ++ old) = subst (λ (l : List ℕ). IsFirst (kind_or_stray p.kind) l (q.text ++ old)) dot k.1 in
    by cs is two first
  where
    by : (cs : List ℕ) → q.text ≡ c ∷ cs → take 2 (q.text ++ rest) ≡ 46 ∷ 46 ∷ [] → IsFirst (kind_or_stray p.kind) (46 ∷ []) (q.text ++ old) → ⊥
    by [] is two first =
        let two_here : take 2 ((c ∷ []) ++ rest) ≡ 46 ∷ 46 ∷ [] = subst (λ (l : List ℕ). take 2 (l ++ rest) ≡ 46 ∷ 46 ∷ []) is two in
        let one : c ≡ 46 = cc in
        let next : take 1 rest ≡ 46 ∷ [] = cc in
        let q_is : q.text ≡ 46 ∷ [] = is ∙ ap (λ (b : ℕ). b ∷ []) one in
        dotted (kind_or_stray p.kind) old (dots q_is next) (subst (λ (l : List ℕ). IsFirst (kind_or_stray p.kind) (46 ∷ []) (l ++ old)) q_is first)
      where
        dotted : (k : Kind) (old : List ℕ) → take 1 old ≡ 46 ∷ [] → IsFirst k (46 ∷ []) (46 ∷ old) → ⊥
        dotted k [] e first = cc
        dotted k (o ∷ os) e first =
            let same : o ≡ 46 = cc in
            no_dots k os (subst (λ (b : ℕ). IsFirst k (46 ∷ []) (46 ∷ b ∷ os)) same first)
    by (d ∷ ds) is two first =
        let two_here : c ∷ d ∷ [] ≡ 46 ∷ 46 ∷ [] = subst (λ (l : List ℕ). take 2 (l ++ rest) ≡ 46 ∷ 46 ∷ []) is two in
        let one : c ≡ 46 = cc in
        let other : d ≡ 46 = cc in
        let q_is : q.text ≡ 46 ∷ 46 ∷ ds = is ∙ (λ i. one i ∷ other i ∷ ds) in
        no_dots (kind_or_stray p.kind) (ds ++ old) (subst (λ (l : List ℕ). IsFirst (kind_or_stray p.kind) (46 ∷ []) (l ++ old)) q_is first)

is_blank_or_not : (k : PieceKind) → (k ≡ Blank) ⊎ (k ≡ Blank → ⊥)
is_blank_or_not Blank = inl refl
is_blank_or_not Comment = inr (λ e. absurd cc)
is_blank_or_not Line = inr (λ e. absurd cc)
is_blank_or_not (Word kind id) = inr (λ e. absurd cc)

is_back_or_not : (text : List ℕ) → (text ≡ 92 ∷ []) ⊎ (text ≡ 92 ∷ [] → ⊥)
is_back_or_not text = elim (bytes_eq text (92 ∷ [])) as (λ b. bytes_eq text (92 ∷ []) ≡ b → (text ≡ 92 ∷ []) ⊎ (text ≡ 92 ∷ [] → ⊥)) [
  | true ↦ λ e. inl ((bytes_decides text (92 ∷ [])).0 e)
  | false ↦ λ e. inr (λ is. false≢true (sym e ∙ (bytes_decides text (92 ∷ [])).1 is))
] refl

stays : (p q : TextPiece) (rest old : List ℕ) → IsOfKind p → IsOfKind q → IsFirstPiece p (q.text ++ old)
    → (q.text ≡ 46 ∷ [] → take 1 rest ≡ 46 ∷ [] → take 1 old ≡ 46 ∷ [])
    → (p.text ≡ 92 ∷ [] → q.kind ≡ Blank → take 1 rest ≡ take 1 old) → Stays p q rest
stays p q rest old of_p of_q was dots back =
    let b = bytes_of q of_q in
    elim (is_back_or_not p.text) [
      | inr other ↦ record { old = old; was = was; dots = no_three p q rest old b.byte b.more b.is of_p was dots; backslash = λ e. absurd (other e) }
      | inl is ↦ elim (is_blank_or_not q.kind) [
        | inl blank ↦ record {
          old = old;
          was = was;
          dots = no_three p q rest old b.byte b.more b.is of_p was dots;
          backslash =
              λ e. two_of q.text rest old b.byte b.more b.is (back is blank);
        }
        | inr other ↦ record {
          old = rest;
          was = lone_before p q rest is of_p of_q other;
          dots =
              λ dot two. let both : 92 ∷ [] ≡ 46 ∷ [] = sym is ∙ dot in cc;
          backslash = λ e. refl;
        }
      ]
    ]

beside_next : (k : ℕ) → were_beside (Some k) (Some (k + 1)) ≡ true
beside_next k = (Decides-eqb (k + 1) (k + 1)).1 refl

-- a part that was its neighbour, and still is
pub old_step : (p q : Part) (parts : List Part) (k : ℕ) (old : List ℕ) → p.from ≡ Some k → q.from ≡ Some (k + 1)
    → IsOfKind p.piece → IsOfKind q.piece → IsFirstPiece p.piece (q.piece.text ++ old)
    → (q.piece.text ≡ 46 ∷ [] → take 1 (text_of (after q parts)) ≡ 46 ∷ [] → take 1 old ≡ 46 ∷ [])
    → (p.piece.text ≡ 92 ∷ [] → q.piece.kind ≡ Blank → take 1 (text_of (after q parts)) ≡ take 1 old)
    → Good q parts → Good p (q ∷ parts)
old_step p q parts k old from next of_p of_q was dots back good =
    let were : were_beside p.from q.from ≡ true = (λ i. were_beside (from i) (next i)) ∙ beside_next k in
    let none : needs_space (left_of p) q.from q.piece.text ≡ false =
    needless (is_word p.piece.kind) (were_beside p.from q.from) (runs_together p.piece.text q.piece.text) were in
    subst (λ b. Loose (p.piece ∷ ((if b then space ∷ [] else []) ++ q.piece ∷ after q parts))) (sym none)
    (of_p, (inr (inl (stays p.piece q.piece (text_of (after q parts)) old of_p of_q was dots back)), good))
  where
    needless : (w b r : Bool) → b ≡ true → (w && (not b && r)) ≡ false
    needless true true r e = refl
    needless true false r e = absurd cc
    needless false b r e = refl

nothing : (p : TextPiece) (k : PieceKind) → IsOfKind p → p.kind ≡ k → kind_of_piece k ≡ None → ⊥
nothing p k of e none =
    let h = known p.kind (λ k. kind_of p.text ≡ Some k) of in
    let both : None ≡ Some (kind_or_stray p.kind) = sym (ap kind_of_piece e ∙ none) ∙ h.0 in
    cc

pub ends_by : (p : TextPiece) → IsOfKind p → (kind_of_piece p.kind ≡ Some kind.Stray → ⊥) → (k : PieceKind) → p.kind ≡ k
    → (c : ℕ) (os : List ℕ) → (c ≡ 10 → ⊥) → IsFirstPiece p (c ∷ os) → Free p
ends_by p of no_stray Blank e c os other was = inl e
ends_by p of no_stray Comment e c os other was =
    inr (inr (record {
      always = λ rest. first_as p kind.Comment rest (ap kind_of_piece e)
          (comment_ended p.text c os (first_of p kind.Comment (c ∷ os) (ap kind_of_piece e) was) other rest);
    }))
ends_by p of no_stray Line e c os other was =
    inr (inr (record {
      always = λ rest. first_as p kind.Line rest (ap kind_of_piece e)
          (line_ended p.text c os (first_of p kind.Line (c ∷ os) (ap kind_of_piece e) was) other rest);
    }))
ends_by p of no_stray (Word Stray id) e c os other was = absurd (no_stray (ap kind_of_piece e))
ends_by p of no_stray (Word Name id) e c os other was = inr (inl (subst PlainWord (sym e) (plain_word (Word Name id) refl)))
ends_by p of no_stray (Word Keyword id) e c os other was = inr (inl (subst PlainWord (sym e) (plain_word (Word Keyword id) refl)))
ends_by p of no_stray (Word Number id) e c os other was = inr (inl (subst PlainWord (sym e) (plain_word (Word Number id) refl)))
ends_by p of no_stray (Word Char id) e c os other was = inr (inl (subst PlainWord (sym e) (plain_word (Word Char id) refl)))
ends_by p of no_stray (Word Str id) e c os other was = inr (inl (subst PlainWord (sym e) (plain_word (Word Str id) refl)))
ends_by p of no_stray (Word Punct id) e c os other was = inr (inl (subst PlainWord (sym e) (plain_word (Word Punct id) refl)))
ends_by p of no_stray (Word (Meta m) id) e c os other was = absurd (nothing p (Word (Meta m) id) of e refl)
ends_by p of no_stray (Word Dots id) e c os other was = absurd (nothing p (Word Dots id) of e refl)
ends_by p of no_stray (Word Pat id) e c os other was = absurd (nothing p (Word Pat id) of e refl)

-- a piece before a token that is removed or gets something before it ends by itself
pub ends_before : (p q : TextPiece) (old : List ℕ) → IsOfKind p → IsOfKind q → (q.kind ≡ Blank → ⊥)
    → (kind_of_piece p.kind ≡ Some kind.Stray → ⊥) → IsFirstPiece p (q.text ++ old) → Free p
ends_before p q old of_p of_q other no_stray was =
    let b = bytes_of q of_q in
    let was_there : IsFirstPiece p (b.byte ∷ (b.more ++ old)) = subst (λ (l : List ℕ). IsFirstPiece p (l ++ old)) b.is was in
    ends_by p of_p no_stray p.kind refl b.byte (b.more ++ old) (no_newline q b.byte b.more b.is of_q other) was_there
