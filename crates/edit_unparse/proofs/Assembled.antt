-- Parts that are assembled from old pieces, some of which are gone or shorter, and from new parts, are loose.
use Rattle.std.proofs.Common.{◌≡◌, ◌≤◌, ◌+◌, ◌&&◌, ◌⊎◌, ℕ, Bool, true, false, not, refl, sym, ap, ◌∙◌, inl, inr, arith, List, []}
use Rattle.std.proofs.Common.{◌∷◌, ◌++◌, take, subst}
use Rattle.std.specs.Prelude.{Option, Some, None, if◌then◌else◌}
use Rattle.std.proofs.lemmas.Bool.{false≢true}
use Rattle.std.proofs.lemmas.Bool.Decides.{Decides-eqb, not_from_Decides}
use Rattle.c_terms.specs.declared.token.TokenKind.{TokenKind}
use Rattle.c_terms.specs.declared.token.TokenKind.TheVariants.{Name, Keyword, Number, Char, Str, Punct, Stray, Meta, Dots, Pat}
use Rattle.c_lexer.specs.declared.state.Kind.TheVariants as kind
use Rattle.c_lexer.specs.declared.piece.PieceKind.{PieceKind}
use Rattle.c_lexer.specs.declared.piece.PieceKind.TheVariants.{Word, Blank, Comment, Line}
use Rattle.c_lexer.specs.Pieces.{TextPiece, text_of, kind_of_piece}
use Rattle.c_lexer.specs.Lexes.{Cuts, IsFirstPiece}
use Rattle.c_lexer.specs.Beside.{IsOfKind}
use Rattle.c_lexer.specs.Loose.{Loose}
use Rattle.c_show.specs.Joint.{runs_together}
use Rattle.c_show.proofs.Together.{runs_together-decides}
use Rattle.edit_unparse.specs.Output.{Part, left_of, is_word, space, needs_space, were_beside, old_part}
use Rattle.edit_unparse.specs.Fair.{after_stray, is_stray}
use Rattle.edit_unparse.proofs.Beside.{plain, after, Good, Free, free_step, old_step, ends_by, bytes_of, no_newline, rest_false}
use Rattle.edit_unparse.proofs.Placing.{New, new_beside, beside_new, of_first, take_front, dot_word, plain_or_stray, back_stray, stray_token, far_beside}

-- Whether the old piece before a place stays, and as what; blanks that stay count as gone.
pub data Prior : Type 0 where
  gone : Prior
  word : Prior
  solid : Prior

abbrev pub prior_of : PieceKind → Prior
prior_of (Word kind id) = word
prior_of Blank = gone
prior_of Comment = solid
prior_of Line = solid

-- a token comes next
abbrev pub WordFirst : List TextPiece → Type 0
WordFirst [] = ⊥
WordFirst (p ∷ pieces) = is_word p.kind ≡ true

abbrev pub cut_part : ℕ → List ℕ → Part
cut_part number text = old_part number (record { kind = Blank; text = text })

-- The parts are assembled from these old pieces, of which the first has this number: each stays, is gone, or, if it is a blank, is
-- what is left of it. New parts stand between them. Behind a Stray all stays as it is.
pub data Assembled : Prior → Bool → ℕ → List TextPiece → List Part → Type 0 where
  done : (s : Prior) (b : Bool) (n : ℕ) → Assembled s b n [] []
  more : (s : Prior) (b : Bool) (n : ℕ) (pieces : List TextPiece) (p : Part) (parts : List Part) → New p → b ≡ false → (s ≡ solid → WordFirst pieces)
      → Assembled s b n pieces parts → Assembled s b n pieces (p ∷ parts)
  keep : (s : Prior) (b : Bool) (n : ℕ) (r : TextPiece) (rs : List TextPiece) (parts : List Part)
      → Assembled (prior_of r.kind) (after_stray r.kind b) (n + 1) rs parts → Assembled s b n (r ∷ rs) (old_part n r ∷ parts)
  drop : (s : Prior) (b : Bool) (n : ℕ) (r : TextPiece) (rs : List TextPiece) (parts : List Part) → b ≡ false
      → (s ≡ solid → take 1 r.text ≡ 10 ∷ [] → ⊥) → Assembled gone false (n + 1) rs parts → Assembled s b n (r ∷ rs) parts
  cut : (s : Prior) (b : Bool) (n : ℕ) (r : TextPiece) (rs : List TextPiece) (parts : List Part) (text : List ℕ) → b ≡ false → r.kind ≡ Blank
      → IsOfKind (record { kind = Blank; text = text }) → ((s ≡ gone → ⊥) → take 1 text ≡ take 1 r.text)
      → Assembled gone false (n + 1) rs parts → Assembled s b n (r ∷ rs) (cut_part n text ∷ parts)

-- the first part

record Head (s : Prior) (n : ℕ) (text : List ℕ) (parts : List Part) : Type 0 where
  pub of : (q : Part) (rest : List Part) → parts ≡ q ∷ rest → IsOfKind q.piece
  pub least : (q : Part) (rest : List Part) (m : ℕ) → parts ≡ q ∷ rest → q.from ≡ Some m → n ≤ m
  pub same : (s ≡ gone → ⊥) → (q : Part) (rest : List Part) → parts ≡ q ∷ rest → q.from ≡ Some n → take 1 q.piece.text ≡ take 1 text

head_of : (p q : Part) (xs ys : List Part) → p ∷ xs ≡ q ∷ ys → p ≡ q
head_of p q xs ys e = cc

one_new : (s : Prior) (n : ℕ) (text : List ℕ) (x : Part) (xs : List Part) → New x → Head s n text (x ∷ xs)
one_new s n text x xs new = record {
  of = λ q rest e. subst (λ (r : Part). IsOfKind r.piece) (head_of x q xs rest e) new.of;
  least = λ q rest m e from. let both : Some m ≡ None = sym from ∙ ap (λ (r : Part). r.from) (sym (head_of x q xs rest e)) ∙ new.from in absurd cc;
  same = λ stays q rest e from.
      let both : Some n ≡ None = sym from ∙ ap (λ (r : Part). r.from) (sym (head_of x q xs rest e)) ∙ new.from in absurd cc;
}

one_old : (s : Prior) (n : ℕ) (text : List ℕ) (x : Part) (xs : List Part) → x.from ≡ Some n → IsOfKind x.piece
    → ((s ≡ gone → ⊥) → take 1 x.piece.text ≡ take 1 text) → Head s n text (x ∷ xs)
one_old s n text x xs own of same = record {
  of = λ q rest e. subst (λ (r : Part). IsOfKind r.piece) (head_of x q xs rest e) of;
  least = λ q rest m e from.
      let both : Some m ≡ Some n = sym from ∙ ap (λ (r : Part). r.from) (sym (head_of x q xs rest e)) ∙ own in let equal : m ≡ n = cc in omega arith;
  same = λ stays q rest e from. ap (λ (r : Part). take 1 r.piece.text) (sym (head_of x q xs rest e)) ∙ same stays;
}

later : (s t : Prior) (n : ℕ) (text other : List ℕ) (parts : List Part) → Head t (n + 1) text parts → Head s n other parts
later s t n text other parts h = record {
  of = h.of;
  least = λ q rest m e from. let l = h.least q rest m e from in omega arith;
  same = λ stays q rest e from. let l = h.least q rest n e from in absurd (omega arith);
}

heads : (s : Prior) (b : Bool) (n : ℕ) (pieces : List TextPiece) (parts : List Part) → Assembled s b n pieces parts → Cuts pieces
    → Head s n (text_of pieces) parts
heads _ _ _ _ _ (done s b n) cuts =
    record { of = λ q rest e. absurd cc; least = λ q rest m e from. absurd cc; same = λ stays q rest e from. absurd cc }
heads _ _ _ _ _ (more s b n pieces p parts new free first made) cuts = one_new s n (text_of pieces) p parts new
heads _ _ _ _ _ (keep s b n r rs parts made) cuts =
    let of = of_first r (text_of rs) cuts.0 in
    one_old s n (r.text ++ text_of rs) (old_part n r) parts refl of (λ stays. sym (take_front r (text_of rs) of))
heads _ _ _ _ _ (drop s b n r rs parts calm begins made) cuts =
    later s gone n (text_of rs) (r.text ++ text_of rs) parts (heads gone false (n + 1) rs parts made cuts.1)
heads _ _ _ _ _ (cut s b n r rs parts text calm blank of begins made) cuts =
    one_old s n (r.text ++ text_of rs) (cut_part n text) parts refl of
    (λ stays. begins stays ∙ sym (take_front r (text_of rs) (of_first r (text_of rs) cuts.0)))

-- before what is left of the pieces: the last part is free of them, or is the neighbour of the first

record Apart (p : Part) (n : ℕ) : Type 0 where
  pub free : Free p.piece
  pub were : (p.piece.kind ≡ Blank) ⊎ ((o : Option ℕ) → ((m : ℕ) → o ≡ Some m → n ≤ m) → were_beside p.from o ≡ false)

record Next (s : Prior) (p : Part) (n : ℕ) (text : List ℕ) (b : Bool) : Type 0 where
  pub number : ℕ
  pub from : p.from ≡ Some number
  pub before : number + 1 ≡ n
  pub was : IsFirstPiece p.piece text
  pub stray : kind_of_piece p.piece.kind ≡ Some kind.Stray → b ≡ true
  pub prior : prior_of p.piece.kind ≡ s
  pub stays : s ≡ gone → ⊥

abbrev Ready : Prior → Part → ℕ → List ℕ → Bool → Type 0
Ready s p n text b = Apart p n ⊎ Next s p n text b

number_least : (n m : ℕ) → Some n ≡ Some m → n ≤ m
number_least n m e = let same : n ≡ m = cc in omega arith

apart_new : (p : Part) (n : ℕ) → New p → Apart p n
apart_new p n new = record { free = new.free; were = inr (λ o least. new_beside p.from o new.from) }

apart_more : (p : Part) (n : ℕ) → Apart p n → Apart p (n + 1)
apart_more p n a = record {
  free = a.free;
  were = elim a.were [
    | inl blank ↦ inl blank
    | inr never ↦ inr (λ o least. never o (λ m e. let l = least m e in omega arith))
  ];
}

apart_gone : (s : Prior) (p : Part) (n : ℕ) (text : List ℕ) (b : Bool) → Next s p n text b → Free p.piece → Apart p (n + 1)
apart_gone s p n text b next free = record {
  free = free;
  were = inr (λ o least. ap (λ x. were_beside x o) next.from ∙ far_beside next.number (n + 1) o (omega (arith, next.before)) least);
}

no_gap : (q : Part) (from : Option ℕ) (text : List ℕ) → q.piece.kind ≡ Blank → needs_space (left_of q) from text ≡ false
no_gap q from text blank = λ i. is_word (blank i) && (not (were_beside q.from from) && runs_together q.piece.text text)

blank_step : (p q : Part) (parts : List Part) → IsOfKind p.piece → p.piece.kind ≡ Blank → Good q parts → Good p (q ∷ parts)
blank_step p q parts of blank good =
    subst (λ (b : Bool). Loose (p.piece ∷ ((if b then space ∷ [] else []) ++ q.piece ∷ after q parts))) (sym (no_gap p q.from q.piece.text blank))
    (of, (inl blank, good))

apart_step : (p q : Part) (n : ℕ) (parts : List Part) → IsOfKind p.piece → Apart p n → ((m : ℕ) → q.from ≡ Some m → n ≤ m) → Good q parts
    → Good p (q ∷ parts)
apart_step p q n parts of a least good = elim a.were [
  | inl blank ↦ blank_step p q parts of blank good
  | inr never ↦ free_step p q parts of a.free (never q.from least) good
]

-- after blanks the next text begins as its first piece
after_blank : (q : Part) (n : ℕ) (r : TextPiece) (parts : List Part) → q.piece.kind ≡ Blank → IsOfKind r
    → take 1 (text_of (after q (old_part n r ∷ parts))) ≡ take 1 r.text
after_blank q n r parts blank of =
    (λ i. take 1 (text_of ((if no_gap q (Some n) r.text blank i then space ∷ [] else []) ++ r ∷ after (old_part n r) parts)))
    ∙ take_front r (text_of (after (old_part n r) parts)) of

-- behind a Stray nothing changes
stays_behind : (s : Prior) (b : Bool) (n : ℕ) (pieces : List TextPiece) (parts : List Part) → Assembled s b n pieces parts → Cuts pieces → b ≡ true
    → (q : Part) → q.piece.kind ≡ Blank → take 1 (text_of (after q parts)) ≡ take 1 (text_of pieces)
stays_behind _ _ _ _ _ (done s b n) cuts on q blank = refl
stays_behind _ _ _ _ _ (more s b n pieces p parts new free first made) cuts on q blank = absurd (false≢true (sym free ∙ on))
stays_behind _ _ _ _ _ (keep s b n r rs parts made) cuts on q blank =
    let of = of_first r (text_of rs) cuts.0 in
    after_blank q n r parts blank of ∙ sym (take_front r (text_of rs) of)
stays_behind _ _ _ _ _ (drop s b n r rs parts calm begins made) cuts on q blank = absurd (false≢true (sym calm ∙ on))
stays_behind _ _ _ _ _ (cut s b n r rs parts text calm is of begins made) cuts on q blank = absurd (false≢true (sym calm ∙ on))

-- a piece that stays before a place where something goes or comes ends by itself

prior_solid : (k : PieceKind) → is_word k ≡ false → (k ≡ Blank → ⊥) → prior_of k ≡ solid
prior_solid (Word a id) w other = absurd cc
prior_solid Blank w other = absurd (other refl)
prior_solid Comment w other = refl
prior_solid Line w other = refl

free_token : (p : TextPiece) (k : PieceKind) → p.kind ≡ k → IsOfKind p → (kind_of_piece p.kind ≡ Some kind.Stray → ⊥) → is_word k ≡ true → Free p
free_token p (Word a id) is of other w = elim (plain_or_stray a id p is of) [
  | inl stray ↦ absurd (other (ap kind_of_piece is ∙ stray_kind a id stray))
  | inr plain ↦ inr (inl plain)
]
  where
    stray_kind : (a : TokenKind) (id : ℕ) → is_stray a ≡ true → kind_of_piece (Word a id) ≡ Some kind.Stray
    stray_kind Stray id e = refl
    stray_kind Name id e = absurd cc
    stray_kind Keyword id e = absurd cc
    stray_kind Number id e = absurd cc
    stray_kind Char id e = absurd cc
    stray_kind Str id e = absurd cc
    stray_kind Punct id e = absurd cc
    stray_kind (Meta m) id e = absurd cc
    stray_kind Dots id e = absurd cc
    stray_kind Pat id e = absurd cc
free_token p Blank is of other w = absurd cc
free_token p Comment is of other w = absurd cc
free_token p Line is of other w = absurd cc

-- given what comes next in the old text, if the piece is a comment or a line
free_there : (s : Prior) (p : Part) (n : ℕ) (r : TextPiece) (rest : List ℕ) (b : Bool) → IsOfKind p.piece → IsOfKind r → Next s p n (r.text ++ rest) b
    → b ≡ false → (s ≡ solid → take 1 r.text ≡ 10 ∷ [] → ⊥) → Free p.piece
free_there s p n r rest b of of_r next off begins = by (is_word p.piece.kind) refl
  where
    quiet : kind_of_piece p.piece.kind ≡ Some kind.Stray → ⊥
    quiet e = false≢true (sym off ∙ next.stray e)

    not_blank : p.piece.kind ≡ Blank → ⊥
    not_blank e = next.stays (sym next.prior ∙ ap prior_of e)

    by : (w : Bool) → is_word p.piece.kind ≡ w → Free p.piece
    by true e = free_token p.piece p.piece.kind refl of quiet e
    by false e =
        let own : s ≡ solid = sym next.prior ∙ prior_solid p.piece.kind e not_blank in
        let y = bytes_of r of_r in
        let was : IsFirstPiece p.piece (y.byte ∷ (y.more ++ rest)) = subst (λ (l : List ℕ). IsFirstPiece p.piece (l ++ rest)) y.is next.was in
        ends_by p.piece of quiet p.piece.kind refl y.byte (y.more ++ rest)
        (λ line. begins own (ap (take 1) y.is ∙ ap (λ (x : ℕ). x ∷ []) line)) was

-- before the end of the old text only tokens need that
free_first : (s : Prior) (p : Part) (n : ℕ) (pieces : List TextPiece) (b : Bool) → IsOfKind p.piece → Cuts pieces → Next s p n (text_of pieces) b
    → b ≡ false → (s ≡ solid → WordFirst pieces) → Free p.piece
free_first s p n [] b of cuts next off first = by (is_word p.piece.kind) refl
  where
    quiet : kind_of_piece p.piece.kind ≡ Some kind.Stray → ⊥
    quiet e = false≢true (sym off ∙ next.stray e)

    by : (w : Bool) → is_word p.piece.kind ≡ w → Free p.piece
    by true e = free_token p.piece p.piece.kind refl of quiet e
    by false e = absurd (first (sym next.prior ∙ prior_solid p.piece.kind e (λ f. next.stays (sym next.prior ∙ ap prior_of f))))
free_first s p n (r ∷ rs) b of cuts next off first =
    let of_r = of_first r (text_of rs) cuts.0 in
    free_there s p n r (text_of rs) b of of_r next off (λ own line. no_line (first own) of_r line)
  where
    no_line : is_word r.kind ≡ true → IsOfKind r → take 1 r.text ≡ 10 ∷ [] → ⊥
    no_line w of_r line =
        let y = bytes_of r of_r in
        let is : y.byte ≡ 10 = (let both : y.byte ∷ [] ≡ 10 ∷ [] = sym (ap (take 1) y.is) ∙ line in cc) in
        no_newline r y.byte y.more y.is of_r (λ blank. false≢true (sym (ap is_word blank) ∙ w)) is

-- a blank that begins as it did stays behind what was before it

cut_step : (s : Prior) (p : Part) (n : ℕ) (r : TextPiece) (rest : List ℕ) (b : Bool) (text : List ℕ) (parts : List Part) → IsOfKind p.piece → IsOfKind r
    → Next s p n (r.text ++ rest) b → b ≡ false → take 1 text ≡ take 1 r.text → Good (cut_part n text) parts → Good p (cut_part n text ∷ parts)
cut_step s p n r rest b text parts of of_r next off begins good =
    let y = bytes_of r of_r in
    let were : were_beside p.from (Some n) ≡ true = ap (λ o. were_beside o (Some n)) next.from ∙ (Decides-eqb n (next.number + 1)).1 (sym next.before) in
    let none : needs_space (left_of p) (Some n) text ≡ false =
    needless (is_word p.piece.kind) (were_beside p.from (Some n)) (runs_together p.piece.text text) were in
    subst (λ (x : Bool). Loose (p.piece ∷ ((if x then space ∷ [] else []) ++ (cut_part n text).piece ∷ after (cut_part n text) parts))) (sym none) (
      of,
      (
        inr (inr (inr (inl (record {
          byte = y.byte;
          old = y.more ++ rest;
          was = subst (λ (l : List ℕ). IsFirstPiece p.piece (l ++ rest)) y.is next.was;
          blank = refl;
          begins = begins ∙ ap (take 1) y.is;
          backslash = λ back. absurd (false≢true (sym off ∙ next.stray (back_stray p.piece of back)));
        })))),
        good,
      ),
    )
  where
    needless : (w b r : Bool) → b ≡ true → (w && (not b && r)) ≡ false
    needless true true r e = refl
    needless true false r e = absurd cc
    needless false b r e = refl

-- a dot comes after a dot only where it did before

neighbour : (n : ℕ) (o : Option ℕ) → were_beside (Some n) o ≡ true → o ≡ Some (n + 1)
neighbour n (Some m) e = ap Some ((Decides-eqb m (n + 1)).0 e)
neighbour n None e = absurd (false≢true e)

nil_no_dot : (xs : List ℕ) → xs ≡ [] → xs ≡ 46 ∷ [] → ⊥
nil_no_dot xs none e = cc

space_no_dot : (xs : List ℕ) → xs ≡ 32 ∷ [] → xs ≡ 46 ∷ [] → ⊥
space_no_dot xs is e = cc

after_with : (b : Bool) (f : Part) (fs : List Part)
    → take 1 (text_of ((if b then space ∷ [] else []) ++ f.piece ∷ after f fs)) ≡ 46 ∷ [] → IsOfKind f.piece → (b ≡ false) × (take 1 f.piece.text ≡ 46 ∷ [])
after_with true f fs e of = absurd (space_no_dot (32 ∷ []) refl e)
after_with false f fs e of = (refl, sym (take_front f.piece (text_of (after f fs)) of) ∙ e)

dot_after : (q : Part) (n : ℕ) (old : List ℕ) (parts : List Part) → q.from ≡ Some n → is_word q.piece.kind ≡ true → Head word (n + 1) old parts
    → q.piece.text ≡ 46 ∷ [] → take 1 (text_of (after q parts)) ≡ 46 ∷ [] → take 1 old ≡ 46 ∷ []
dot_after q n old [] from w h dot next = absurd (nil_no_dot [] refl next)
dot_after q n old (f ∷ fs) from w h dot next =
    let no_space = after_with (needs_space (left_of q) f.from f.piece.text) f fs next (h.of f fs refl) in
    elim (were_beside q.from f.from) as (λ s. were_beside q.from f.from ≡ s → take 1 old ≡ 46 ∷ []) [
      | true ↦ λ were. sym (h.same (λ e. cc) f fs refl (neighbour n f.from (ap (λ o. were_beside o f.from) (sym from) ∙ were))) ∙ no_space.1
      | false ↦ λ were.
          absurd (not_from_Decides (runs_together q.piece.text f.piece.text) (runs_together-decides q.piece.text f.piece.text)
          (rest_false (is_word q.piece.kind) (were_beside q.from f.from) (runs_together q.piece.text f.piece.text) no_space.0 w were) (inr (dot, no_space.1)))
    ] refl

word_prior : (k : PieceKind) → is_word k ≡ true → prior_of k ≡ word
word_prior (Word a id) w = refl
word_prior Blank w = absurd cc
word_prior Comment w = absurd cc
word_prior Line w = absurd cc

non_stray : (k : PieceKind) (b : Bool) → kind_of_piece k ≡ Some kind.Stray → after_stray k b ≡ true
non_stray (Word a id) b e = stray_token a id e
non_stray Blank b e = absurd cc
non_stray Comment b e = absurd cc
non_stray Line b e = absurd cc

is_blank_or_not : (k : PieceKind) → (k ≡ Blank) ⊎ (prior_of k ≡ gone → ⊥)
is_blank_or_not Blank = inl refl
is_blank_or_not Comment = inr (λ e. cc)
is_blank_or_not Line = inr (λ e. cc)
is_blank_or_not (Word a id) = inr (λ e. cc)

-- an old piece that stays
module _ (s : Prior) (b : Bool) (n : ℕ) (r : TextPiece) (rs : List TextPiece) (parts : List Part)
    (made : Assembled (prior_of r.kind) (after_stray r.kind b) (n + 1) rs parts) (cuts : Cuts (r ∷ rs)) where
  abbrev here : Part
  here = old_part n r

  of_here : IsOfKind r
  of_here = of_first r (text_of rs) cuts.0

  here_ready : Ready (prior_of r.kind) here (n + 1) (text_of rs) (after_stray r.kind b)
  here_ready = elim (is_blank_or_not r.kind) [
    | inl blank ↦ inl (record { free = inl blank; were = inl blank })
    | inr other ↦ inr (record { number = n; from = refl; before = refl; was = cuts.0; stray = non_stray r.kind b; prior = refl; stays = other })
  ]

  step_old : (p : Part) → IsOfKind p.piece → Ready s p n (r.text ++ text_of rs) b → Good here parts → Good p (here ∷ parts)
  step_old p of ready good = elim ready [
    | inl a ↦ apart_step p here n parts of a (λ m e. number_least n m e) good
    | inr x ↦ old_step p here parts x.number (text_of rs) x.from (ap Some (sym x.before)) of of_here x.was
        (λ dot next.
        let w = dot_word r of_here dot r.kind refl in
        dot_after here n (text_of rs) parts refl w
        (subst (λ (t : Prior). Head t (n + 1) (text_of rs) parts) (word_prior r.kind w)
        (heads (prior_of r.kind) (after_stray r.kind b) (n + 1) rs parts made cuts.1)) dot next)
        (λ lone blank.
        stays_behind (prior_of r.kind) (after_stray r.kind b) (n + 1) rs parts made cuts.1
        (ap (λ (k : PieceKind). after_stray k b) blank ∙ x.stray (back_stray p.piece of lone)) here blank) good
  ]

good_parts : (s : Prior) (b : Bool) (n : ℕ) (pieces : List TextPiece) (parts : List Part) → Assembled s b n pieces parts → Cuts pieces
    → (p : Part) → IsOfKind p.piece → Ready s p n (text_of pieces) b → Good p parts
good_parts _ _ _ _ _ (done s b n) cuts p of ready = of
good_parts _ _ _ _ _ (more s b n pieces x parts new off first made) cuts p of ready =
    let free : Free p.piece = elim ready [ inl a ↦ a.free | inr next ↦ free_first s p n pieces b of cuts next off first ] in
    free_step p x parts of free (beside_new p.from x.from new.from) (good_parts s b n pieces parts made cuts x new.of (inl (apart_new x n new)))
good_parts _ _ _ _ _ (keep s b n r rs parts made) cuts p of ready =
    step_old s b n r rs parts made cuts p of ready
    (good_parts (prior_of r.kind) (after_stray r.kind b) (n + 1) rs parts made cuts.1 (old_part n r) (of_here s b n r rs parts made cuts)
    (here_ready s b n r rs parts made cuts))
good_parts _ _ _ _ _ (drop s b n r rs parts off begins made) cuts p of ready =
    let apart : Apart p (n + 1) = elim ready [
      | inl a ↦ apart_more p n a
      | inr next ↦ apart_gone s p n (r.text ++ text_of rs) b next
          (free_there s p n r (text_of rs) b of (of_first r (text_of rs) cuts.0) next off begins)
    ] in
    good_parts gone false (n + 1) rs parts made cuts.1 p of (inl apart)
good_parts _ _ _ _ _ (cut s b n r rs parts text off blank of_text begins made) cuts p of ready =
    let q = cut_part n text in
    let good = good_parts gone false (n + 1) rs parts made cuts.1 q of_text (inl (record { free = inl refl; were = inl refl })) in
    elim ready [
      | inl a ↦ apart_step p q n parts of a (λ m e. number_least n m e) good
      | inr next ↦ cut_step s p n r (text_of rs) b text parts of (of_first r (text_of rs) cuts.0) next off (begins next.stays) good
    ]

-- nothing comes before everything; blanks there change nothing
pub assembled_loose : (pieces : List TextPiece) (parts : List Part) → Cuts pieces → Assembled gone false 0 pieces parts → Loose (plain None parts)
assembled_loose pieces parts cuts made =
    by parts (good_parts gone false 0 pieces parts made cuts (record { from = None; piece = space }) refl (inl (record { free = inl refl; were = inl refl })))
  where
    by : (parts : List Part) → Good (record { from = None; piece = space }) parts → Loose (plain None parts)
    by [] good = tt
    by (f ∷ fs) good = good.1.1
