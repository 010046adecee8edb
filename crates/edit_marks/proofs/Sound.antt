-- The text of plus code consists of blanks and plain tokens.
use Rattle.std.proofs.Common.{◌≡◌, ◌+◌, ◌-◌, ◌&&◌, ℕ, zero, suc, Bool, true, false, refl, sym, ap, ◌∙◌, inl, inr, arith, List}
use Rattle.std.proofs.Common.{[], ◌∷◌, ◌++◌, append_assoc, map, drop, length, subst}
use Rattle.std.specs.Prelude.{Option, None, Some, if◌then◌else◌, ◌||◌, slice_get}
use Rattle.std.specs.List.{list_all}
use Rattle.std.proofs.lemmas.Bool.{false≢true}
use Rattle.std.proofs.lemmas.List.{append-nil}
use Rattle.c_terms.specs.declared.label.Label.{Label}
use Rattle.c_terms.specs.declared.token.Token.{Token}
use Rattle.c_terms.specs.declared.token.TokenKind.{TokenKind}
use Rattle.c_terms.specs.declared.tree.Tree.{Tree}
use Rattle.c_terms.specs.Trees.{join, leaves}
use Rattle.c_terms.proofs.Induct.{Each, tree_induction}
use Rattle.c_terms.proofs.TreeLemmas.{leaves-Leaf, leaves-Branch}
use Rattle.c_show.specs.declared.page.Role.{Role}
use Rattle.c_show.specs.declared.page.Role.TheVariants.{Plain}
use Rattle.c_lexer.specs.declared.piece.PieceKind.TheVariants.{Word, Blank}
use Rattle.c_lexer.specs.Words.{is_space}
use Rattle.c_lexer.specs.Pieces.{TextPiece, text_of}
use Rattle.c_show.specs.PlainText.{IsPlainText}
use Rattle.c_show.specs.Joint.{runs_together}
use Rattle.c_show.specs.Show.{Shown, shown, shown_kids, role_of, is_wide_after, is_wide_before, is_operator, is_named, is_star}
use Rattle.c_show.specs.Show.{is_parted, joined, show_of}
use Rattle.c_show.proofs.Pages.{shown-Leaf, shown-Branch}
use Rattle.smpl_patch.specs.declared.pattern.VarDecl.{VarDecl}
use Rattle.edit_marks.specs.declared.insert.Anchor.{Anchor}
use Rattle.edit_marks.specs.declared.insert.Anchor.TheVariants.{Removed, AfterLine, AfterToken, BeforeToken}
use Rattle.edit_marks.specs.declared.line.Chunk.{Chunk}
use Rattle.smpl_patch.specs.declared.pattern.PlusLine.{PlusLine}
use Rattle.smpl_patch.specs.declared.pattern.PlusBlock.{PlusBlock}
use Rattle.edit_marks.specs.Blocks.{Environment, is_meta, term, text_of_token, value_chunk, term_chunk, chunk_of, left_at}
use Rattle.edit_marks.specs.Blocks.{is_together, blank_between, left_after, chunk_text, tokens_text, without_lead, line_text}
use Rattle.edit_marks.specs.Blocks.{least_lead, lead_of, more_lines, lines_text, block_text}
use Rattle.edit_marks.specs.Inserts.{insert_of}
use Rattle.edit_marks.specs.Plain.{IsCToken, AreCTokens, IsCTerm, IsSoundToken, AreSpaces, AreSoundTokens, AreSoundGaps, AreSoundLines, IsJoint}
use Rattle.edit_marks.proofs.Rows.{Row, after, row_append, after-append, row_plain, spaces_blank, both_second}

abbrev pub Left : Type 0
Left = Option (List ℕ)

-- a text that is a row
pub record Rowed (left : Left) (text : List ℕ) (right : Left) : Type 0 where
  pub pieces : List TextPiece
  pub is : text_of pieces ≡ text
  pub row : Row left pieces
  pub ends : after left pieces ≡ right

text_both : (xs ys : List TextPiece) → text_of (xs ++ ys) ≡ text_of xs ++ text_of ys
text_both [] ys = refl
text_both (x ∷ xs) ys = ap (λ (l : List ℕ). x.text ++ l) (text_both xs ys) ∙ sym (append_assoc x.text (text_of xs) (text_of ys))

pub both_rows : (left mid right : Left) (a b : List ℕ) → Rowed left a mid → Rowed mid b right → Rowed left (a ++ b) right
both_rows left mid right a b h k = record {
  pieces = h.pieces ++ k.pieces;
  is = text_both h.pieces k.pieces ∙ (λ i. h.is i ++ k.is i);
  row = row_append left h.pieces k.pieces h.row (subst (λ (o : Left). Row o k.pieces) (sym h.ends) k.row);
  ends = after-append left h.pieces k.pieces ∙ ap (λ (o : Left). after o k.pieces) h.ends ∙ k.ends;
}

pub nothing : (left : Left) → Rowed left [] left
nothing left = record { pieces = []; is = refl; row = tt; ends = refl }

pub gap_row : (left : Left) (gap : List ℕ) → AreSpaces gap → Rowed left gap (left_at left gap)
gap_row left [] e = nothing left
gap_row left (c ∷ cs) e =
    let p : TextPiece = record { kind = Blank; text = c ∷ cs } in
    record { pieces = p ∷ []; is = append-nil (c ∷ cs); row = (inl (record { blank = refl; of = spaces_blank c cs e }), tt); ends = refl }

pub space_row : (left : Left) → Rowed left (32 ∷ []) None
space_row left = gap_row left (32 ∷ []) refl

pub token_row : (left : Left) (token : TokenKind) (text : List ℕ) → IsCToken token text → is_together left (Some text) ≡ false → Rowed left text (Some text)
token_row left token text c e =
    let p : TextPiece = record { kind = Word token 0; text = text } in
    record { pieces = p ∷ []; is = append-nil text; row = (inr (record { token = token; word = refl; c_token = c; apart = e }), tt); ends = refl }

-- the tokens of a term

abbrev Pair : Type 0
Pair = TokenKind × List ℕ

abbrev strip : Shown → Pair
strip u = (u.kind, u.text)

abbrev strip_token : Token → Pair
strip_token t = (t.kind, t.text)

map_both : {A B : Type 0} (f : A → B) (xs ys : List A) → map f (xs ++ ys) ≡ map f xs ++ map f ys
map_both f [] ys = refl
map_both f (x ∷ xs) ys = ap (λ l. f x ∷ l) (map_both f xs ys)

abbrev ShowsLeaves : Tree → Type 0
ShowsLeaves t = (role : Role) → map strip (shown t role) ≡ map strip_token (leaves t)

kids_shown : (l : Label) (n : ℕ) (cs : List Tree) → Each ShowsLeaves cs → map strip (shown_kids l n (map shown cs)) ≡ map strip_token (join (map leaves cs))
kids_shown l n [] e = refl
kids_shown l n (c ∷ cs) e =
    map_both strip (shown c (role_of l n)) (shown_kids l (n + 1) (map shown cs))
    ∙ (λ i. e.0 (role_of l n) i ++ kids_shown l (n + 1) cs e.1 i)
    ∙ sym (map_both strip_token (leaves c) (join (map leaves cs)))

shows_leaves : (t : Tree) → ShowsLeaves t
shows_leaves = tree_induction ShowsLeaves
    (λ t role. ap (map strip) (shown-Leaf t role) ∙ sym (ap (map strip_token) (leaves-Leaf t)))
    (λ l cs e role. ap (map strip) (shown-Branch l cs role) ∙ kids_shown l 0 cs e ∙ sym (ap (map strip_token) (leaves-Branch l cs)))

abbrev All : List Pair → Type 0
All [] = Unit {0}
All (x ∷ xs) = IsCToken x.0 x.1 × All xs

all_stripped : (ts : List Token) → AreCTokens ts → All (map strip_token ts)
all_stripped [] h = tt
all_stripped (t ∷ ts) h = (h.0, all_stripped ts h.1)

abbrev first_text : List Pair → Left
first_text [] = None
first_text (x ∷ xs) = Some x.1

abbrev last_text : Left → List Pair → Left
last_text left [] = left
last_text left (x ∷ xs) = last_text (Some x.1) xs

first_of : (ts : List Token) → text_of_token (slice_get ts 0) ≡ first_text (map strip_token ts)
first_of [] = refl
first_of (t ∷ ts) = refl

-- the last of some tokens
last_at : (t : Token) (ts : List Token) (left : Left) → text_of_token (slice_get (t ∷ ts) (length ts)) ≡ last_text left (map strip_token (t ∷ ts))
last_at t [] left = refl
last_at t (u ∷ ts) left = last_at u ts (Some t.text)

minus_one : (n : ℕ) → suc n - 1 ≡ n
minus_one n = omega (arith)

last_of : (t : Token) (ts : List Token) (left : Left) → text_of_token (slice_get (t ∷ ts) (length (t ∷ ts) - 1)) ≡ last_text left (map strip_token (t ∷ ts))
last_of t ts left = ap (λ (n : ℕ). text_of_token (slice_get (t ∷ ts) n)) (minus_one (length ts)) ∙ last_at t ts left

some_last : (x : Pair) (xs : List Pair) (left : Left) → last_text left (x ∷ xs) ≡ None → ⊥
some_last x [] left e = absurd cc
some_last x (y ∷ ys) left e = some_last y ys (Some x.1) e

-- a text that may come after a token with which it doesn't run together

pub record Whole (c : Chunk) : Type 0 where
  pub rows : (left : Left) → is_together left c.first ≡ false → Rowed left c.text (left_after left c.last)
  pub none : c.last ≡ None → c.first ≡ None

not_parted : (t u : Shown) → is_parted t u ≡ false → runs_together t.text u.text ≡ false
not_parted t u e =
    elim (runs_together t.text u.text) as (λ (a : Bool).
    (a || is_wide_after t.text || is_wide_before u.text || is_operator t.role || is_operator u.role || is_named t.kind
    && is_star u.role) ≡ false → a ≡ false) [
      | true ↦ λ f. absurd (false≢true (sym f))
      | false ↦ λ f. refl
    ] e

shown_rows : (t : Shown) (us : List Shown) → All (map strip us) → Rowed (Some t.text) (joined (Some t) us) (last_text (Some t.text) (map strip us))
shown_rows t [] h = nothing (Some t.text)
shown_rows t (u ∷ us) h =
    let right = last_text (Some u.text) (map strip us) in
    let more = shown_rows u us h.1 in
    elim (is_parted t u) as (λ (b : Bool). is_parted t u ≡ b
    → Rowed (Some t.text) ((if b then 32 ∷ [] else []) ++ (u.text ++ joined (Some u) us)) right) [
      | true ↦ λ e. both_rows (Some t.text) None right (32 ∷ []) (u.text ++ joined (Some u) us) (space_row (Some t.text))
          (both_rows None (Some u.text) right u.text (joined (Some u) us) (token_row None u.kind u.text h.0 refl) more)
      | false ↦ λ e. both_rows (Some t.text) (Some u.text) right u.text (joined (Some u) us) (token_row (Some t.text) u.kind u.text h.0 (not_parted t u e)) more
    ] refl

all_rows : (left : Left) (us : List Shown) → All (map strip us) → is_together left (first_text (map strip us)) ≡ false
    → Rowed left (joined None us) (last_text left (map strip us))
all_rows left [] h e = nothing left
all_rows left (u ∷ us) h e = both_rows left (Some u.text) (last_text (Some u.text) (map strip us)) u.text (joined (Some u) us)
    (token_row left u.kind u.text h.0 e) (shown_rows u us h.1)

term_rows : (t : Tree) (left : Left) → AreCTokens (leaves t)
    → is_together left (first_text (map strip_token (leaves t))) ≡ false → Rowed left (show_of t) (last_text left (map strip_token (leaves t)))
term_rows t left h e =
    let same = shows_leaves t Plain in
    let all = subst All (sym same) (all_stripped (leaves t) h) in
    let apart = ap (λ (l : List Pair). is_together left (first_text l)) same ∙ e in
    subst (λ (l : List Pair). Rowed left (show_of t) (last_text left l)) same (all_rows left (shown t Plain) all apart)

after_last : (ts : List Token) (left : Left) → last_text left (map strip_token ts) ≡ left_after left (text_of_token (slice_get ts (length ts - 1)))
after_last [] left = refl
after_last (t ∷ ts) left =
    elim (text_of_token (slice_get (t ∷ ts) (length (t ∷ ts) - 1))) as (λ (o : Left). o
    ≡ last_text left (map strip_token (t ∷ ts)) → last_text left (map strip_token (t ∷ ts)) ≡ left_after left o) [
      | None ↦ λ e. absurd (some_last (strip_token t) (map strip_token ts) left (sym e))
      | Some l ↦ λ e. sym e
    ] (last_of t ts left)

none_first : (ts : List Token) → text_of_token (slice_get ts (length ts - 1)) ≡ None → text_of_token (slice_get ts 0) ≡ None
none_first [] e = refl
none_first (t ∷ ts) e = absurd (some_last (strip_token t) (map strip_token ts) None (sym (last_of t ts None) ∙ e))

value_whole : (t : Tree) → AreCTokens (leaves t) → Whole (value_chunk t)
value_whole t h = record {
  rows = λ left e. subst (λ (o : Left). Rowed left (show_of t) o) (after_last (leaves t) left)
      (term_rows t left h (ap (is_together left) (sym (first_of (leaves t))) ∙ e));
  none = none_first (leaves t);
}

term_whole : (t : Option Tree) → IsCTerm t → Whole (term_chunk t)
term_whole None h = record { rows = λ left e. nothing left; none = λ e. refl }
term_whole (Some t) h = value_whole t h

some_none : (l : List ℕ) → Some l ≡ None → ⊥
some_none l e = absurd cc

text_whole : (token : TokenKind) (text : List ℕ) → IsCToken token text → Whole (record { text = text; first = Some text; last = Some text })
text_whole token text c = record { rows = λ left e. token_row left token text c e; none = λ e. absurd (some_none text e) }

pub whole : (decls : List VarDecl) (env : Environment) (t : Token) → IsSoundToken (is_meta t.kind) decls env t → Whole (chunk_of decls env t)
whole decls env t h = elim (is_meta t.kind) as (λ (b : Bool). IsSoundToken b decls env t
    → Whole (if b then term_chunk (term decls env t.text) else record { text = t.text; first = Some t.text; last = Some t.text })) [
      | true ↦ λ h. term_whole (term decls env t.text) h
      | false ↦ λ h. text_whole t.kind t.text h
    ] h

-- tokens, lines, blocks

no_first : (left first : Left) → first ≡ None → is_together left first ≡ true → ⊥
no_first None first n e = absurd (false≢true e)
no_first (Some l) None n e = absurd (false≢true e)
no_first (Some l) (Some f) n e = absurd (some_none f n)

same_after : (left first last : Left) → (last ≡ None → first ≡ None) → is_together left first ≡ true → left_after None last ≡ left_after left last
same_after left first None h e = absurd (no_first left first (h refl) e)
same_after left first (Some l) h e = refl

between : (left : Left) (c : Chunk) → Whole c → Rowed left (blank_between left c.first ++ c.text) (left_after left c.last)
between left c w = elim (is_together left c.first) as (λ (b : Bool). is_together left c.first ≡ b
    → Rowed left ((if b then 32 ∷ [] else []) ++ c.text) (left_after left c.last)) [
      | true ↦ λ e. both_rows left None (left_after left c.last) (32 ∷ []) c.text (space_row left)
          (subst (λ (o : Left). Rowed None c.text o) (same_after left c.first c.last w.none e) (w.rows None refl))
      | false ↦ λ e. w.rows left e
    ] refl

pub chunk_row : (left : Left) (gap : List ℕ) (c : Chunk) → AreSpaces gap → Whole c → Rowed left (chunk_text left gap c) (left_after (left_at left gap) c.last)
chunk_row left gap c e w = both_rows left (left_at left gap) (left_after (left_at left gap) c.last) gap
    (blank_between (left_at left gap) c.first ++ c.text) (gap_row left gap e) (between (left_at left gap) c w)

pub record Rows (left : Left) (text : List ℕ) : Type 0 where
  pub right : Left
  pub rowed : Rowed left text right

pub then_rows : (left mid : Left) (a b : List ℕ) → Rowed left a mid → Rows mid b → Rows left (a ++ b)
then_rows left mid a b h k = record { right = k.right; rowed = both_rows left mid k.right a b h k.rowed }

pub no_rows : (left : Left) → Rows left []
no_rows left = record { right = left; rowed = nothing left }

tokens_rows : (decls : List VarDecl) (env : Environment) (left : Left) (gaps : List (List ℕ)) (tokens : List Token)
    → AreSoundGaps gaps → AreSoundTokens decls env tokens → Rows left (tokens_text decls env left gaps tokens)
tokens_rows decls env left gaps [] g h = no_rows left
tokens_rows decls env left [] (t ∷ tokens) g h = no_rows left
tokens_rows decls env left (gap ∷ gaps) (t ∷ tokens) g h =
    let c = chunk_of decls env t in
    let next = left_after (left_at left gap) c.last in
    then_rows left next (chunk_text left gap c) (tokens_text decls env next gaps tokens)
    (chunk_row left gap c g.0 (whole decls env t h.0)) (tokens_rows decls env next gaps tokens g.1 h.1)

pub drop_spaces : (m : ℕ) (gap : List ℕ) → AreSpaces gap → AreSpaces (drop m gap)
drop_spaces zero gap e = e
drop_spaces (suc m) [] e = refl
drop_spaces (suc m) (c ∷ cs) e = drop_spaces m cs (both_second (is_space c) (list_all is_space cs) e)

sound_lead : (m : ℕ) (gaps : List (List ℕ)) → AreSoundGaps gaps → AreSoundGaps (without_lead m gaps)
sound_lead m [] g = tt
sound_lead m (gap ∷ gaps) g = (drop_spaces m gap g.0, g.1)

-- after anything that ends in a blank
line_rows : (decls : List VarDecl) (env : Environment) (m : ℕ) (line : PlusLine) → AreSoundGaps line.gaps
    → AreSoundTokens decls env line.tokens → Rows None (line_text decls env m line)
line_rows decls env m line g h = tokens_rows decls env None (without_lead m line.gaps) line.tokens (sound_lead m line.gaps g) h

pub joint_row : (left : Left) (joint : List ℕ) → IsJoint joint → Rowed left joint None
joint_row left [] j = absurd j
joint_row left (b ∷ bs) j = gap_row left (b ∷ bs) j

more_rows : (decls : List VarDecl) (env : Environment) (m : ℕ) (joint : List ℕ) (left : Left) (lines : List PlusLine)
    → IsJoint joint → AreSoundLines decls env lines → Rows left (more_lines decls env m joint lines)
more_rows decls env m joint left [] j h = no_rows left
more_rows decls env m joint left (line ∷ lines) j h =
    let here = line_rows decls env m line h.0.0 h.0.1 in
    then_rows left None joint (line_text decls env m line ++ more_lines decls env m joint lines) (joint_row left joint j)
    (then_rows None here.right (line_text decls env m line) (more_lines decls env m joint lines) here.rowed
    (more_rows decls env m joint here.right lines j h.1))

lines_rows : (decls : List VarDecl) (env : Environment) (m : ℕ) (joint : List ℕ) (lines : List PlusLine) → IsJoint joint
    → AreSoundLines decls env lines → Rows None (lines_text decls env m joint lines)
lines_rows decls env m joint [] j h = no_rows None
lines_rows decls env m joint (line ∷ lines) j h =
    let here = line_rows decls env m line h.0.0 h.0.1 in
    then_rows None here.right (line_text decls env m line) (more_lines decls env m joint lines) here.rowed (more_rows decls env m joint here.right lines j h.1)

blank_rows : (left : Left) (gap : List ℕ) → AreSpaces gap → Rows left gap
blank_rows left gap e = record { right = left_at left gap; rowed = gap_row left gap e }

joint_spaces : (joint : List ℕ) → IsJoint joint → AreSpaces joint
joint_spaces [] j = refl
joint_spaces (b ∷ bs) j = j

end_spaces : (joint : List ℕ) (ends : Bool) → IsJoint joint → AreSpaces (if ends then joint else 32 ∷ [])
end_spaces joint true j = joint_spaces joint j
end_spaces joint false j = refl

pub insert_rows : (anchor : Anchor) (joint text : List ℕ) (ends : Bool) → IsJoint joint → Rows None text → Rows None (insert_of anchor joint text ends)
insert_rows Removed joint text ends j h = h
insert_rows AfterLine joint text ends j h = then_rows None None joint text (joint_row None joint j) h
insert_rows AfterToken joint text ends j h = then_rows None None (32 ∷ []) text (space_row None) h
insert_rows BeforeToken joint text ends j h =
    then_rows None h.right text (if ends then joint else 32 ∷ []) h.rowed (blank_rows h.right (if ends then joint else 32 ∷ []) (end_spaces joint ends j))

-- the text of plus code at an anchor is cut into blanks and plain tokens
pub insert_plain : (decls : List VarDecl) (env : Environment) (joint : List ℕ) (block : PlusBlock) (anchor : Anchor) (ends : Bool)
    → IsJoint joint → AreSoundLines decls env block.lines → IsPlainText (insert_of anchor joint (block_text decls env joint block) ends)
insert_plain decls env joint block anchor ends j h =
    let all = insert_rows anchor joint (block_text decls env joint block) ends j
    (lines_rows decls env (lead_of (least_lead None block.lines)) joint block.lines j h) in
    row_plain None all.rowed.pieces (insert_of anchor joint (block_text decls env joint block) ends) all.rowed.is all.rowed.row
