-- The parts of the new text, joined with spaces, are loose: each stays separate from the next.
use Rattle.std.proofs.Common.{◌≡◌, ◌<◌, ◌≤◌, ◌+◌, ◌==◌, ◌&&◌, ◌⊎◌, ℕ, Bool, true, false, refl, sym, ap, ◌∙◌, inl, inr, arith}
use Rattle.std.proofs.Common.{List, [], ◌∷◌, ◌++◌, append_assoc, take, map, subst}
use Rattle.std.specs.Prelude.{Option, Some, None, if◌then◌else◌}
use Rattle.std.specs.List.{list_all}
use Rattle.std.proofs.lemmas.Bool.{false≢true}
use Rattle.std.proofs.lemmas.Bool.Decides.{Decides-eqb, not_from_Decides}
use Rattle.c_terms.specs.declared.token.TokenKind.{TokenKind}
use Rattle.c_terms.specs.declared.token.TokenKind.TheVariants.{Name, Keyword, Number, Char, Str, Punct, Stray, Meta, Dots, Pat}
use Rattle.c_lexer.specs.declared.state.Kind.{Kind}
use Rattle.c_lexer.specs.declared.state.Kind.TheVariants as kind
use Rattle.c_lexer.specs.declared.piece.PieceKind.{PieceKind}
use Rattle.c_lexer.specs.declared.piece.PieceKind.TheVariants.{Word, Blank, Comment, Line}
use Rattle.c_lexer.specs.Kinds.{kind_of}
use Rattle.c_lexer.specs.Pieces.{TextPiece, text_of, kind_of_piece}
use Rattle.c_lexer.specs.Lexes.{IsFirstPiece, Cuts, id_after}
use Rattle.c_lexer.specs.Ids.{without_id, kind_without_id}
use Rattle.c_lexer.specs.Beside.{IsOfKind}
use Rattle.c_lexer.specs.First.{IsFirst}
use Rattle.c_lexer.proofs.Shaped.{known, kind_or_stray, back}
use Rattle.c_lexer.proofs.Law.{lone_back}
use Rattle.edit_marks.specs.declared.edit_conflict.edit.Edit.{Edit}
use Rattle.edit_marks.specs.declared.edit_conflict.edit.Side.TheVariants.{Before, After}
use Rattle.c_show.specs.Joint.{runs_together}
use Rattle.c_show.proofs.Together.{runs_together-decides}
use Rattle.edit_unparse.specs.Cutting.{cut, cut-lexes}
use Rattle.edit_unparse.specs.Output.{Part, left_of, is_word, space, needs_space, were_beside, new_part, new_parts, added}
use Rattle.edit_unparse.specs.Output.{inserted, is_removed, kept, old_part, parts_at, placed}
use Rattle.c_show.specs.PlainText.{may_come}
use Rattle.edit_unparse.specs.Fair.{is_stray, is_plain_text}
use Rattle.edit_unparse.proofs.Beside.{after, Good, Free, PlainWord, plain_word, free_step, bytes_of, rest_false, has_kind}

-- new parts

pub record New (p : Part) : Type 0 where
  pub from : p.from ≡ None
  pub of : IsOfKind p.piece
  pub free : Free p.piece

abbrev pub AllNew : List Part → Type 0
AllNew [] = Unit {0}
AllNew (p ∷ parts) = New p × AllNew parts

all_new-append : (xs ys : List Part) → AllNew xs → AllNew ys → AllNew (xs ++ ys)
all_new-append [] ys h k = k
all_new-append (x ∷ xs) ys h k = (h.0, all_new-append xs ys h.1 k)

both_first : (a b : Bool) → (a && b) ≡ true → a ≡ true
both_first true b e = refl
both_first false b e = e

both_second : (a b : Bool) → (a && b) ≡ true → b ≡ true
both_second true b e = e
both_second false b e = absurd cc

pub of_first : (p : TextPiece) (rest : List ℕ) → IsFirstPiece p rest → IsOfKind p
of_first p rest first =
    let k = known p.kind (λ k. IsFirst k p.text rest) first in
    back p.kind (λ k. kind_of p.text ≡ Some k) k.0 k.1.of_kind

bare_of_kind : (p : TextPiece) (rest : List ℕ) → IsFirstPiece p rest → IsOfKind (without_id p)
bare_of_kind p rest first = by p.kind (known p.kind (λ k. kind_of p.text ≡ Some k) (of_first p rest first))
  where
    by : (k : PieceKind) → (kind_of_piece k ≡ Some (kind_or_stray k)) × (kind_of p.text ≡ Some (kind_or_stray k))
        → IsOfKind (record { kind = kind_without_id k; text = p.text })
    by Blank h = h.1
    by Comment h = h.1
    by Line h = h.1
    by (Word Name id) h = h.1
    by (Word Keyword id) h = h.1
    by (Word Number id) h = h.1
    by (Word Char id) h = h.1
    by (Word Str id) h = h.1
    by (Word Punct id) h = h.1
    by (Word Stray id) h = h.1
    by (Word (Meta m) id) h = absurd cc
    by (Word Dots id) h = absurd cc
    by (Word Pat id) h = absurd cc

coming : (p : TextPiece) → may_come p.kind ≡ true → Free (without_id p)
coming p e = by p.kind e
  where
    by : (k : PieceKind) → may_come k ≡ true → Free (record { kind = kind_without_id k; text = p.text })
    by Blank e = inl refl
    by (Word kind id) e = inr (inl (plain_word (Word kind 0) e))
    by Comment e = absurd cc
    by Line e = absurd cc

cut_new : (ps : List TextPiece) → Cuts ps → list_all (λ p. may_come p.kind) ps ≡ true → AllNew (map new_part ps)
cut_new [] cuts e = tt
cut_new (p ∷ ps) cuts e = (
  record { from = refl; of = bare_of_kind p (text_of ps) cuts.0; free = coming p (both_first (may_come p.kind) _ e) },
  cut_new ps cuts.1 (both_second (may_come p.kind) _ e),
)

pub added_new : (texts : List (List ℕ)) → list_all is_plain_text texts ≡ true → AllNew (added texts)
added_new [] e = tt
added_new (t ∷ texts) e = all_new-append (new_parts t) (added texts)
    (cut_new (cut t) (cut-lexes t).1.0 (both_first (is_plain_text t) _ e)) (added_new texts (both_second (is_plain_text t) _ e))

pub beside_new : (o p : Option ℕ) → p ≡ None → were_beside o p ≡ false
beside_new None p e = refl
beside_new (Some a) p e = ap (were_beside (Some a)) e

pub new_beside : (o p : Option ℕ) → o ≡ None → were_beside o p ≡ false
new_beside o p e = ap (λ x. were_beside x p) e

-- new parts before others
pub through : (new : List Part) → AllNew new → (p : Part) (rest : List Part) → IsOfKind p.piece → (new ≡ [] → Good p rest)
    → ((new ≡ [] → ⊥) → Free p.piece) → ((l : Part) → New l → Good l rest) → Good p (new ++ rest)
through [] all p rest of none free more = none refl
through (x ∷ new) all p rest of none free more =
    free_step p x (new ++ rest) of (free (λ e. cc)) (beside_new p.from x.from all.0.from)
    (through new all.1 x rest all.0.of (λ _. more x all.0) (λ _. all.0.free) more)

-- the first part of a list, as a neighbour of the part of number n - 1

pub record Head (n : ℕ) (text : List ℕ) (parts : List Part) : Type 0 where
  pub of : (q : Part) (more : List Part) → parts ≡ q ∷ more → IsOfKind q.piece
  pub least : (q : Part) (more : List Part) (m : ℕ) → parts ≡ q ∷ more → q.from ≡ Some m → n ≤ m
  pub same : (q : Part) (more : List Part) → parts ≡ q ∷ more → q.from ≡ Some n → take 1 q.piece.text ≡ take 1 text

head_of : (p q : Part) (xs ys : List Part) → p ∷ xs ≡ q ∷ ys → p ≡ q
head_of p q xs ys e = cc

one_new : (n : ℕ) (text : List ℕ) (x : Part) (xs : List Part) → New x → Head n text (x ∷ xs)
one_new n text x xs new = record {
  of = λ q more e. subst (λ (r : Part). IsOfKind r.piece) (head_of x q xs more e) new.of;
  least = λ q more m e from. let both : Some m ≡ None = sym from ∙ ap (λ (r : Part). r.from) (sym (head_of x q xs more e)) ∙ new.from in absurd cc;
  same = λ q more e from. let both : Some n ≡ None = sym from ∙ ap (λ (r : Part). r.from) (sym (head_of x q xs more e)) ∙ new.from in absurd cc;
}

pub news_first : (n : ℕ) (text : List ℕ) (new rest : List Part) → AllNew new → Head n text rest → Head n text (new ++ rest)
news_first n text [] rest all h = h
news_first n text (x ∷ new) rest all h = one_new n text x (new ++ rest) all.0

take_one : (xs ys : List ℕ) (b : ℕ) (bs : List ℕ) → xs ≡ b ∷ bs → take 1 (xs ++ ys) ≡ take 1 xs
take_one xs ys b bs is = rw is refl

one_old : (n : ℕ) (r : TextPiece) (rest : List ℕ) (xs : List Part) → IsOfKind r → Head n (r.text ++ rest) (old_part n r ∷ xs)
one_old n r rest xs of = record {
  of = λ q more e. subst (λ (x : Part). IsOfKind x.piece) (head_of (old_part n r) q xs more e) of;
  least = λ q more m e from. let both : Some m ≡ Some n =
      sym from ∙ ap (λ (x : Part). x.from) (sym (head_of (old_part n r) q xs more e)) in let same : m ≡ n = cc in omega arith;
  same = λ q more e from.
      let b = bytes_of r of in
      ap (λ (x : Part). take 1 x.piece.text) (sym (head_of (old_part n r) q xs more e)) ∙ sym (take_one r.text rest b.byte b.more b.is);
}

-- what comes later is not a neighbour of anything here
later : (n : ℕ) (text other : List ℕ) (parts : List Part) → Head (n + 1) text parts → Head n other parts
later n text other parts h = record {
  of = h.of;
  least = λ q more m e from. let l = h.least q more m e from in omega arith;
  same = λ q more e from. let l = h.least q more n e from in absurd (omega arith);
}

nil_no_dot : (xs : List ℕ) → xs ≡ [] → xs ≡ 46 ∷ [] → ⊥
nil_no_dot xs none e = cc

space_no_dot : (xs : List ℕ) → xs ≡ 32 ∷ [] → xs ≡ 46 ∷ [] → ⊥
space_no_dot xs is e = cc

neighbour : (n : ℕ) (o : Option ℕ) → were_beside (Some n) o ≡ true → o ≡ Some (n + 1)
neighbour n (Some m) e = ap Some ((Decides-eqb m (n + 1)).0 e)
neighbour n None e = absurd (false≢true e)

pub take_front : (f : TextPiece) (more : List ℕ) → IsOfKind f → take 1 (f.text ++ more) ≡ take 1 f.text
take_front f more of = let b = bytes_of f of in take_one f.text more b.byte b.more b.is

-- what begins the text after a part, depending on whether a space is there
after_with : (b : Bool) (f : Part) (fs : List Part)
    → take 1 (text_of ((if b then space ∷ [] else []) ++ f.piece ∷ after f fs)) ≡ 46 ∷ [] → IsOfKind f.piece → (b ≡ false) × (take 1 f.piece.text ≡ 46 ∷ [])
after_with true f fs e of = absurd (space_no_dot (32 ∷ []) refl e)
after_with false f fs e of = (refl, sym (take_front f.piece (text_of (after f fs)) of) ∙ e)

-- a dot comes after a dot only where it did before
pub dot_after : (q : Part) (n : ℕ) (old : List ℕ) (parts : List Part) → q.from ≡ Some n → is_word q.piece.kind ≡ true → Head (n + 1) old parts
    → q.piece.text ≡ 46 ∷ [] → take 1 (text_of (after q parts)) ≡ 46 ∷ [] → take 1 old ≡ 46 ∷ []
dot_after q n old [] from w h dot next = absurd (nil_no_dot [] refl next)
dot_after q n old (f ∷ fs) from w h dot next =
    let no_space = after_with (needs_space (left_of q) f.from f.piece.text) f fs next (h.of f fs refl) in
    elim (were_beside q.from f.from) as (λ s. were_beside q.from f.from ≡ s → take 1 old ≡ 46 ∷ []) [
      | true ↦ λ were. sym (h.same f fs refl (neighbour n f.from (ap (λ o. were_beside o f.from) (sym from) ∙ were))) ∙ no_space.1
      | false ↦ λ were.
          absurd (not_from_Decides (runs_together q.piece.text f.piece.text) (runs_together-decides q.piece.text f.piece.text)
          (rest_false (is_word q.piece.kind) (were_beside q.from f.from) (runs_together q.piece.text f.piece.text) no_space.0 w were) (inr (dot, no_space.1)))
    ] refl

module _ (edits : List Edit) (plain_texts : (token : ℕ) → AllNew (added (inserted Before token edits)) × AllNew (added (inserted After token edits))) where
  pub heads : (pieces : List TextPiece) (token n : ℕ) → Cuts pieces → Head n (text_of pieces) (placed edits token n pieces)
  heads [] token n cuts = record { of = λ q more e. absurd cc; least = λ q more m e from. absurd cc; same = λ q more e from. absurd cc }
  heads (r ∷ rs) token n cuts = by r.kind (heads rs (id_after r.kind token) (n + 1) cuts.1)
    where
      of_r : IsOfKind r
      of_r = of_first r (text_of rs) cuts.0

      word : (gone : Bool) (rest : List Part) → Head (n + 1) (text_of rs) rest
          → Head n (r.text ++ text_of rs) ((added (inserted Before token edits) ++ (kept gone n r ++ added (inserted After token edits))) ++ rest)
      word gone rest h =
          subst (Head n (r.text ++ text_of rs)) (sym
          (append_assoc (added (inserted Before token edits)) (kept gone n r ++ added (inserted After token edits)) rest))
          (news_first n (r.text ++ text_of rs) (added (inserted Before token edits))
          ((kept gone n r ++ added (inserted After token edits)) ++ rest) (plain_texts token).0 (middle gone))
        where
          middle : (gone : Bool) → Head n (r.text ++ text_of rs) ((kept gone n r ++ added (inserted After token edits)) ++ rest)
          middle false = one_old n r (text_of rs) (added (inserted After token edits) ++ rest) of_r
          middle true = news_first n (r.text ++ text_of rs) (added (inserted After token edits)) rest (plain_texts token).1
              (later n (text_of rs) (r.text ++ text_of rs) rest h)

      by : (k : PieceKind) → Head (n + 1) (text_of rs) (placed edits (id_after r.kind token) (n + 1) rs)
          → Head n (r.text ++ text_of rs) (parts_at k edits token n r ++ placed edits (id_after r.kind token) (n + 1) rs)
      by (Word kind id) h = word (is_removed token edits) _ h
      by Blank h = one_old n r (text_of rs) _ of_r
      by Comment h = one_old n r (text_of rs) _ of_r
      by Line h = one_old n r (text_of rs) _ of_r

-- before what is left of the pieces: the last part is free of them, or is the neighbour of the first

pub record Apart (p : Part) (n : ℕ) : Type 0 where
  pub free : Free p.piece
  pub were : (o : Option ℕ) → ((m : ℕ) → o ≡ Some m → n ≤ m) → were_beside p.from o ≡ false

pub record Next (p : Part) (n : ℕ) (text : List ℕ) (after_one : Bool) : Type 0 where
  pub number : ℕ
  pub from : p.from ≡ Some number
  pub before : number + 1 ≡ n
  pub was : IsFirstPiece p.piece text
  pub stray : kind_of_piece p.piece.kind ≡ Some kind.Stray → after_one ≡ true

abbrev pub Ready : Part → ℕ → List ℕ → Bool → Type 0
Ready p n text after_one = Apart p n ⊎ Next p n text after_one

-- a new part is apart from everything
pub new_apart : (p : Part) (n : ℕ) → New p → Apart p n
new_apart p n new = record { free = new.free; were = λ o least. new_beside p.from o new.from }

pub far_beside : (a : ℕ) (n : ℕ) (o : Option ℕ) → a + 1 < n → ((m : ℕ) → o ≡ Some m → n ≤ m) → were_beside (Some a) o ≡ false
far_beside a n None less least = refl
far_beside a n (Some m) less least = by (m == a + 1) refl
  where
    by : (b : Bool) → (m == a + 1) ≡ b → b ≡ false
    by true e = let same : m ≡ a + 1 = (Decides-eqb m (a + 1)).0 e in let l = least m refl in absurd (omega arith)
    by false e = refl

-- a neighbour whose piece is removed is apart from what follows it
pub gone_apart : (p : Part) (n : ℕ) (text : List ℕ) (b : Bool) → Next p n text b → Free p.piece → Apart p (n + 1)
gone_apart p n text b next free = record {
  free = free;
  were =
      λ o least. ap (λ x. were_beside x o) next.from ∙ far_beside next.number (n + 1) o (omega (arith, next.before)) least;
}

pub apart_more : (p : Part) (n : ℕ) → Apart p n → Apart p (n + 1)
apart_more p n a = record { free = a.free; were = λ o least. a.were o (λ m e. let l = least m e in omega arith) }

pub word_not_blank : (k : PieceKind) (a : TokenKind) (b : ℕ) → k ≡ Word a b → k ≡ Blank → ⊥
word_not_blank k a b e f = false≢true (sym (ap is_word f) ∙ ap is_word e)

pub stray_token : (k : TokenKind) (id : ℕ) → kind_of_piece (Word k id) ≡ Some kind.Stray → is_stray k ≡ true
stray_token Name id e = absurd cc
stray_token Keyword id e = absurd cc
stray_token Number id e = absurd cc
stray_token Char id e = absurd cc
stray_token Str id e = absurd cc
stray_token Punct id e = absurd cc
stray_token Stray id e = refl
stray_token (Meta m) id e = absurd cc
stray_token Dots id e = absurd cc
stray_token Pat id e = absurd cc

unknown : (p : TextPiece) (k : PieceKind) → p.kind ≡ k → IsOfKind p → kind_of_piece k ≡ None → ⊥
unknown p k e of none =
    let h = known p.kind (λ k. kind_of p.text ≡ Some k) of in
    let both : None ≡ Some (kind_or_stray p.kind) = sym (ap kind_of_piece e ∙ none) ∙ h.0 in
    cc

-- a token is plain or a Stray
pub plain_or_stray : (k : TokenKind) (id : ℕ) (p : TextPiece) → p.kind ≡ Word k id → IsOfKind p → (is_stray k ≡ true) ⊎ PlainWord p.kind
plain_or_stray Name id p e of = inr (subst PlainWord (sym e) (plain_word (Word Name id) refl))
plain_or_stray Keyword id p e of = inr (subst PlainWord (sym e) (plain_word (Word Keyword id) refl))
plain_or_stray Number id p e of = inr (subst PlainWord (sym e) (plain_word (Word Number id) refl))
plain_or_stray Char id p e of = inr (subst PlainWord (sym e) (plain_word (Word Char id) refl))
plain_or_stray Str id p e of = inr (subst PlainWord (sym e) (plain_word (Word Str id) refl))
plain_or_stray Punct id p e of = inr (subst PlainWord (sym e) (plain_word (Word Punct id) refl))
plain_or_stray Stray id p e of = inl refl
plain_or_stray (Meta m) id p e of = absurd (unknown p (Word (Meta m) id) e of refl)
plain_or_stray Dots id p e of = absurd (unknown p (Word Dots id) e of refl)
plain_or_stray Pat id p e of = absurd (unknown p (Word Pat id) e of refl)

-- a single backslash is a Stray
pub back_stray : (p : TextPiece) → IsOfKind p → p.text ≡ 92 ∷ [] → kind_of_piece p.kind ≡ Some kind.Stray
back_stray p of is =
    let k = known p.kind (λ k. kind_of p.text ≡ Some k) of in
    k.0 ∙ ap Some (lone_back p.text (kind_or_stray p.kind) is k.1)

dot_kind : kind_of (46 ∷ []) ≡ Some kind.Punct
dot_kind = refl

other : (p : TextPiece) → IsOfKind p → p.text ≡ 46 ∷ [] → (k : Kind) → kind_of_piece p.kind ≡ Some k → (kind.Punct ≡ k → ⊥) → ⊥
other p of dot k is apart_from =
    let both : Some kind.Punct ≡ Some k = sym dot_kind ∙ ap kind_of (sym dot) ∙ has_kind p k is of in
    let same : kind.Punct ≡ k = cc in
    apart_from same

-- a dot is a token
pub dot_word : (p : TextPiece) → IsOfKind p → p.text ≡ 46 ∷ [] → (k : PieceKind) → p.kind ≡ k → is_word k ≡ true
dot_word p of dot (Word a b) e = refl
dot_word p of dot Blank e = absurd (other p of dot kind.Blank (ap kind_of_piece e) (λ f. cc))
dot_word p of dot Comment e = absurd (other p of dot kind.Comment (ap kind_of_piece e) (λ f. cc))
dot_word p of dot Line e = absurd (other p of dot kind.Line (ap kind_of_piece e) (λ f. cc))
