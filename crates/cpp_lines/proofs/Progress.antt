-- The tokens that are shown, piece by piece.
use Rattle.std.proofs.Common.{◌≡◌, ℕ, ◌+◌, ◌≤◌, true, false, not, List, [], ◌∷◌, ◌++◌, length, take, drop, get_or, refl, sym, ap, ◌∙◌, subst, append_assoc}
use Rattle.std.specs.Prelude.{Some, slice_get}
use Rattle.std.proofs.lemmas.Option.{slice_get_within, get_or_from_slice_get}
use Rattle.std.proofs.Math.Seq.{drop-nil}
use Rattle.std.proofs.lemmas.List.{append-nil, drop_all, take_all, take_more, drop_more}
use Rattle.c_lexer.specs.declared.piece.PieceKind.{PieceKind}
use Rattle.c_lexer.specs.declared.piece.PieceKind.TheVariants.{Word, Blank, Comment, Line}
use Rattle.c_lexer.specs.Pieces.{TextPiece}
use Rattle.cpp_lines.specs.declared.directive.Directive.{Directive}
use Rattle.cpp_lines.specs.declared.directive.Directive.TheVariants.{Other}
use Rattle.cpp_lines.specs.declared.sign.Sign.{Sign}
use Rattle.cpp_lines.specs.declared.group.Frame.{Frame}
use Rattle.cpp_lines.specs.declared.mask.Mask.{Mask}
use Rattle.cpp_lines.specs.Directives.{Directs, AreDirectives}
use Rattle.cpp_lines.specs.Groups.{is_hidden}
use Rattle.cpp_lines.specs.Signs.{sign_of}
use Rattle.cpp_lines.specs.Shown.{is_masked, is_word, shown_from, AreShown}
use Rattle.cpp_lines.specs.Frames.{all_shown, frames_after}
use Rattle.cpp_lines.specs.Masks.{Tells}
use Rattle.cpp_lines.proofs.Groups.{TellLines, AreSound, hides, all_shown-hides, tell_line, line_sound}

-- as far as the first pieces go
pub record Progress (pieces : List TextPiece) (i : ℕ) (frames : List Frame) (mask : Mask) (shown : List ℕ) : Type 0 where
  pub lines : List Directive
  pub tokens : List Sign
  pub ds : List Directive
  pub directs : AreDirectives (take i pieces) ds
  pub joined : (more : List Directive) → shown_from [] [] 0 pieces (ds ++ more) ≡ shown ++ shown_from lines tokens i (drop i pieces) more
  pub tell : TellLines lines frames
  pub sound : AreSound frames
  pub masks : Tells tokens mask

pub start : (pieces : List TextPiece) (mask : Mask) → Tells [] mask → Progress pieces 0 [] mask []
start pieces mask masks = record {
  lines = [];
  tokens = [];
  ds = [];
  directs = tt;
  joined = λ more. refl;
  tell = λ closed arm. ap (hides arm) (sym (drop-nil closed));
  sound = tt;
  masks = masks;
}

directs_more : (pieces : List TextPiece) (ds : List Directive) (p : TextPiece) (d : Directive) → AreDirectives pieces ds
    → Directs p.kind p.text d → AreDirectives (pieces ++ p ∷ []) (ds ++ d ∷ [])
directs_more [] [] p d all one = (one, tt)
directs_more [] (e ∷ ds) p d all one = absurd all
directs_more (q ∷ pieces) [] p d all one = absurd all
directs_more (q ∷ pieces) (e ∷ ds) p d all one = (all.0, directs_more pieces ds p d all.1 one)

-- the piece at a place
pub record At (pieces : List TextPiece) (i : ℕ) (p : TextPiece) : Type 0 where
  pub before : take (i + 1) pieces ≡ take i pieces ++ p ∷ []
  pub here : drop i pieces ≡ p ∷ drop (i + 1) pieces

joined_more : (pieces : List TextPiece) (i : ℕ) (shown : List ℕ) (lines : List Directive) (tokens : List Sign)
    (ds : List Directive) (p : TextPiece) (d : Directive) → At pieces i p
    → ((more : List Directive) → shown_from [] [] 0 pieces (ds ++ more) ≡ shown
    ++ shown_from lines tokens i (drop i pieces) more) → (more : List Directive)
    → shown_from [] [] 0 pieces ((ds ++ d ∷ []) ++ more) ≡ shown ++ shown_from lines tokens i (p ∷ drop (i + 1) pieces) (d ∷ more)
joined_more pieces i shown lines tokens ds p d at joined more =
    ap (λ (l : List Directive). shown_from [] [] 0 pieces l) (append_assoc ds (d ∷ []) more)
    ∙ (joined (d ∷ more) ∙ ap (λ (l : List TextPiece). shown ++ shown_from lines tokens i l (d ∷ more)) at.here)

-- a piece that is not a token
pub no_token : (pieces : List TextPiece) (i : ℕ) (frames : List Frame) (mask : Mask) (shown : List ℕ) (p : TextPiece)
    (d : Directive) → Progress pieces i frames mask shown → At pieces i p → Directs p.kind p.text d → is_word p.kind ≡ false
    → Progress pieces (i + 1) (frames_after d frames) mask shown
no_token pieces i frames mask shown p d g at does other = record {
  lines = d ∷ g.lines;
  tokens = g.tokens;
  ds = g.ds ++ d ∷ [];
  directs = rw at.before (directs_more (take i pieces) g.ds p d g.directs does);
  joined = λ more. joined_more pieces i shown g.lines g.tokens g.ds p d at g.joined more ∙ rw other refl;
  tell = tell_line d g.lines frames g.tell;
  sound = line_sound d frames g.sound;
  masks = g.masks;
}

in_arm : (lines : List Directive) (frames : List Frame) → TellLines lines frames → AreSound frames → all_shown frames ≡ not (is_hidden 0 0 lines)
in_arm lines frames tell sound = all_shown-hides frames sound ∙ ap not (sym (tell 0 0))

is_true : (k : PieceKind) (text : List ℕ) → is_word k ≡ true → Directs k text Other
is_true (Word kind id) text word = refl
is_true Blank text word = refl
is_true Comment text word = refl
is_true Line text word = absurd cc

-- a token in an arm that is not shown
pub hidden_token : (pieces : List TextPiece) (i : ℕ) (frames : List Frame) (mask : Mask) (shown : List ℕ) (p : TextPiece)
    → Progress pieces i frames mask shown → At pieces i p → is_word p.kind ≡ true → all_shown frames ≡ false → Progress pieces (i + 1) frames mask shown
hidden_token pieces i frames mask shown p g at word hidden =
    let out : not (is_hidden 0 0 g.lines) ≡ false = sym (in_arm g.lines frames g.tell g.sound) ∙ hidden in
    record {
      lines = Other ∷ g.lines;
      tokens = g.tokens;
      ds = g.ds ++ Other ∷ [];
      directs = rw at.before (directs_more (take i pieces) g.ds p Other g.directs (is_true p.kind p.text word));
      joined = λ more. joined_more pieces i shown g.lines g.tokens g.ds p Other at g.joined more ∙ rw (word, out) refl;
      tell = tell_line Other g.lines frames g.tell;
      sound = g.sound;
      masks = g.masks;
    }

-- a token that is masked
pub masked_token : (pieces : List TextPiece) (i : ℕ) (frames : List Frame) (mask next : Mask) (shown : List ℕ) (p : TextPiece)
    → (g : Progress pieces i frames mask shown) → At pieces i p → is_word p.kind ≡ true → all_shown frames ≡ true
    → is_masked (sign_of p.text) g.tokens ≡ true → Tells (sign_of p.text ∷ g.tokens) next → Progress pieces (i + 1) frames next shown
masked_token pieces i frames mask next shown p g at word in_arms masked tells =
    let here : not (is_hidden 0 0 g.lines) ≡ true = sym (in_arm g.lines frames g.tell g.sound) ∙ in_arms in
    record {
      lines = Other ∷ g.lines;
      tokens = sign_of p.text ∷ g.tokens;
      ds = g.ds ++ Other ∷ [];
      directs = rw at.before (directs_more (take i pieces) g.ds p Other g.directs (is_true p.kind p.text word));
      joined = λ more. joined_more pieces i shown g.lines g.tokens g.ds p Other at g.joined more ∙ rw (word, here, masked) refl;
      tell = tell_line Other g.lines frames g.tell;
      sound = g.sound;
      masks = tells;
    }

-- a token that is shown
pub shown_token : (pieces : List TextPiece) (i : ℕ) (frames : List Frame) (mask next : Mask) (shown : List ℕ) (p : TextPiece)
    → (g : Progress pieces i frames mask shown) → At pieces i p → is_word p.kind ≡ true → all_shown frames ≡ true
    → is_masked (sign_of p.text) g.tokens ≡ false → Tells (sign_of p.text ∷ g.tokens) next → Progress pieces (i + 1) frames next (shown ++ i ∷ [])
shown_token pieces i frames mask next shown p g at word in_arms masked tells =
    let here : not (is_hidden 0 0 g.lines) ≡ true = sym (in_arm g.lines frames g.tell g.sound) ∙ in_arms in
    record {
      lines = Other ∷ g.lines;
      tokens = sign_of p.text ∷ g.tokens;
      ds = g.ds ++ Other ∷ [];
      directs = rw at.before (directs_more (take i pieces) g.ds p Other g.directs (is_true p.kind p.text word));
      joined = λ more. joined_more pieces i shown g.lines g.tokens g.ds p Other at g.joined more
          ∙ rw (word, here, masked) (sym (append_assoc shown (i ∷ [])
          (shown_from (Other ∷ g.lines) (sign_of p.text ∷ g.tokens) (i + 1) (drop (i + 1) pieces) more)));
      tell = tell_line Other g.lines frames g.tell;
      sound = g.sound;
      masks = tells;
    }

-- at the end all pieces are done
pub all_shown_tokens : (pieces : List TextPiece) (i : ℕ) (frames : List Frame) (mask : Mask) (shown : List ℕ)
    → Progress pieces i frames mask shown → length pieces ≤ i → AreShown pieces shown
all_shown_tokens pieces i frames mask shown g end =
    let goes = g.joined [] in
    let whole : shown_from [] [] 0 pieces g.ds ≡ shown =
    ap (λ (l : List Directive). shown_from [] [] 0 pieces l) (sym (append-nil g.ds))
    ∙ (goes ∙ (ap (λ (l : List TextPiece). shown ++ shown_from g.lines g.tokens i l []) (drop_all i pieces end) ∙ append-nil shown)) in
    (g.ds, (subst (λ (l : List TextPiece). AreDirectives l g.ds) (take_all i pieces end) g.directs, sym whole))

-- a piece that is read
pub at_place : (pieces : List TextPiece) (i : ℕ) (p : TextPiece) → slice_get pieces i ≡ Some p → At pieces i p
at_place pieces i p is =
    let less = slice_get_within pieces i p is in
    let here : get_or pieces i p ≡ p = get_or_from_slice_get pieces i p p is in
    record {
      before = take_more pieces i p less ∙ ap (λ (q : TextPiece). take i pieces ++ q ∷ []) here;
      here = drop_more pieces i p less ∙ ap (λ (q : TextPiece). q ∷ drop (i + 1) pieces) here;
    }
