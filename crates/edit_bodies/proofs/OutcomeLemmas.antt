-- What becomes of bodies: the new text as the code has it, bodies one by one, and the least token of those that are broken.
use Rattle.std.proofs.Common.{◌≡◌, ◌<◌, ◌≤◌, ◌+◌, ◌⊎◌, ℕ, zero, suc, inl, inr, Bool, false, not, refl, sym, ap, subst, ◌∙◌, arith}
use Rattle.std.proofs.Common.{List, [], ◌∷◌, ◌++◌, length, get_or, map, min, take}
use Rattle.std.specs.Prelude.{All, Contains, Option, None, Some, filter, fold, slice_get}
use Rattle.std.specs.Option.{option_map}
use Rattle.std.proofs.lemmas.List.{take_more, take_all}
use Rattle.std.proofs.lemmas.List.Elements.{All-cons}
use Rattle.c_terms.specs.declared.token.Token.{Token}
use Rattle.c_terms.specs.declared.tree.Tree.{Tree}
use Rattle.c_rows.specs.Look.{Names}
use Rattle.c_lexer.specs.Pieces.{TextPiece}
use Rattle.c_lexer.specs.declared.piece.PieceKind.{PieceKind}
use Rattle.c_lexer.specs.declared.piece.PieceKind.TheVariants.{Word, Blank, Comment, Line}
use Rattle.cpp_lines.specs.declared.reading.Item.{Item}
use Rattle.c_file.specs.Tokens.{token_at}
use Rattle.edit_marks.specs.declared.edit_conflict.edit.Edit.{Edit}
use Rattle.edit_marks.specs.declared.tidy.shape.Body.{Body}
use Rattle.edit_marks.specs.declared.tidy.touch.PatternStatement.{PatternStatement}
use Rattle.edit_unparse.specs.declared.tidy.commas.CommaList.{CommaList}
use Rattle.edit_unparse.specs.declared.tidy.fallen.Fallen.{Fallen}
use Rattle.edit_unparse.specs.declared.tidy.plan.Placed.{Placed}
use Rattle.edit_unparse.specs.declared.tidy.plan.Plan.{Plan}
use Rattle.edit_unparse.specs.Tidy.Fallen.{piece_falls}
use Rattle.edit_unparse.specs.Tidy.Text.{token_piece, token_pieces}
use Rattle.edit_unparse.specs.Written.{edit_text}
use Rattle.edit_bodies.specs.declared.scene.Scene.{Scene}
use Rattle.edit_bodies.specs.declared.see.SeenBodies.{SeenBodies}
use Rattle.edit_bodies.specs.Needs.{form_of}
use Rattle.edit_bodies.specs.Rows.{NewText}
use Rattle.edit_bodies.specs.Looks.{Seen, see, see_all}
use Rattle.edit_bodies.specs.Laid.{AreReadings, AreWords, AreWordsIn, IsBodyReading, names_at, new_text, nothing_seen, offset_of}
use Rattle.edit_bodies.specs.Outcomes.{Falls, IsSeen}
use Rattle.edit_bodies.specs.Scenes.{AreInsertWords, AreVisibleIn, SeesAll, SeesBody, falls_in, in_code, leaves_of, least_of, lesser}
use Rattle.edit_bodies.specs.Scenes.{statements_of, text_in, words_at}

-- ---- the least of some tokens

none_given : (o : Option ℕ) (n : ℕ) → lesser o n ≡ None → ⊥
none_given None n e = cc
none_given (Some m) n e = cc

least_none : (o : Option ℕ) (tokens : List ℕ) → fold lesser o tokens ≡ None → (o ≡ None) × (tokens ≡ [])
least_none o [] e = (e, refl)
least_none o (n ∷ tokens) e = absurd (none_given o n (least_none (lesser o n) tokens e).0)

-- no token is the least of some, so there is none
pub none_broken : (tokens : List ℕ) → None ≡ least_of tokens → tokens ≡ []
none_broken tokens e = (least_none None tokens (sym e)).1

abbrev IsAtMost : ℕ → Option ℕ → Type 0
IsAtMost m None = Unit {0}
IsAtMost m (Some n) = m ≤ n

-- the least of these tokens, and of another
record IsLeast (o : Option ℕ) (tokens : List ℕ) (m : ℕ) : Type 0 where
  reached : (o ≡ Some m) ⊎ Contains tokens m
  least : All (λ n. m ≤ n) tokens
  other : IsAtMost m o

some_same : (a b : ℕ) → Some a ≡ Some b → a ≡ b
some_same a b e = cc

at_most : (o : Option ℕ) (m : ℕ) → o ≡ Some m → IsAtMost m o
at_most None m e = tt
at_most (Some n) m e = let same : n ≡ m = some_same n m e in omega (arith, same)

lesser_is : (n k m : ℕ) → min n k ≡ m → (n ≡ m) ⊎ (k ≡ m)
lesser_is n k m e = grind arith

behind_first : (n m : ℕ) (tokens : List ℕ) → Contains tokens m → Contains (n ∷ tokens) m
behind_first n m tokens h = let less = h.1 in (suc h.0, omega (arith, less), h.2)

first_among : (n m : ℕ) (tokens : List ℕ) → n ≡ m → Contains (n ∷ tokens) m
first_among n m tokens e = (0, omega arith, e)

least_step : (o : Option ℕ) (n m : ℕ) (tokens : List ℕ) → IsLeast (lesser o n) tokens m → IsLeast o (n ∷ tokens) m
least_step None n m tokens h = record {
  reached = elim h.reached [ inl e ↦ inr (first_among n m tokens (some_same n m e)) | inr c ↦ inr (behind_first n m tokens c) ];
  least = All-cons (λ k. m ≤ k) n tokens h.other h.least;
  other = tt;
}
least_step (Some k) n m tokens h =
    let low : m ≤ min k n = h.other in
    record {
      reached = elim h.reached [
        | inl e ↦ elim (lesser_is k n m (some_same (min k n) m e)) [ inl a ↦ inl (ap (λ (x : ℕ). Some x) a) | inr b ↦ inr (first_among n m tokens b) ]
        | inr c ↦ inr (behind_first n m tokens c)
      ];
      least = All-cons (λ j. m ≤ j) n tokens (omega (arith, low)) h.least;
      other = omega (arith, low);
    }

least_some : (o : Option ℕ) (tokens : List ℕ) (m : ℕ) → fold lesser o tokens ≡ Some m → IsLeast o tokens m
least_some o [] m e = record { reached = inl e; least = λ k d less. absurd (omega (arith, less)); other = at_most o m e }
least_some o (n ∷ tokens) m e = least_step o n m tokens (least_some (lesser o n) tokens m e)

not_given : (m : ℕ) → None ≡ Some m → ⊥
not_given m e = cc

pub least_among : (tokens : List ℕ) (m : ℕ) → Some m ≡ least_of tokens → Contains tokens m
least_among tokens m e = let h = least_some None tokens m (sym e) in elim h.reached [ inl none ↦ absurd (not_given m none) | inr c ↦ c ]

pub least_below : (tokens : List ℕ) (m : ℕ) → Some m ≡ least_of tokens → All (λ n. m ≤ n) tokens
least_below tokens m e = (least_some None tokens m (sym e)).least

-- ---- the new text

piece_within : (kind : PieceKind) (number bound n : ℕ) (rest : List ℕ) → number < bound
    → ((m : ℕ) → (get_or rest m 0 ≡ 0) ⊎ (get_or rest m 0 < bound))
    → (get_or (token_piece kind number ++ rest) n 0 ≡ 0) ⊎ (get_or (token_piece kind number ++ rest) n 0 < bound)
piece_within (Word k id) number bound zero rest less h = inr less
piece_within (Word k id) number bound (suc n) rest less h = h n
piece_within Blank number bound n rest less h = h n
piece_within Comment number bound n rest less h = h n
piece_within Line number bound n rest less h = h n

pieces_within : (number bound : ℕ) (pieces : List TextPiece) → bound ≡ number + length pieces → (n : ℕ)
    → (get_or (token_pieces number pieces) n 0 ≡ 0) ⊎ (get_or (token_pieces number pieces) n 0 < bound)
pieces_within number bound [] e n = inl refl
pieces_within number bound (p ∷ pieces) e n =
    piece_within p.kind number bound n (token_pieces (number + 1) pieces) (omega (arith, e)) (pieces_within (number + 1) bound pieces (omega (arith, e)))

-- the piece of a token is one of the text's, if it has one
piece_of : (p : TextPiece) (pieces : List TextPiece) (n : ℕ) → get_or (token_pieces 0 (p ∷ pieces)) n 0 < length (p ∷ pieces)
piece_of p pieces n =
    elim (pieces_within 0 (length (p ∷ pieces)) (p ∷ pieces) (omega arith) n) [ inl e ↦ omega (arith, e) | inr less ↦ less ]

no_flags : (flags : List Bool) (n : ℕ) → length flags ≡ 0 → get_or flags n false ≡ false
no_flags [] n e = refl
no_flags (b ∷ flags) n e = absurd (omega (arith, e))

-- a token is a comma that goes, by the flags of pieces
pub falls_same : (pieces : List TextPiece) (edits : List Edit) (plan : Plan) (lists : List CommaList) (fallen : Fallen) (n : ℕ)
    → plan.pieces.items ≡ token_pieces 0 pieces → Falls pieces edits plan lists fallen
    → get_or fallen.pieces.items (get_or plan.pieces.items n 0) false ≡ piece_falls edits plan pieces lists (get_or plan.pieces.items n 0)
falls_same [] edits plan lists fallen n e h = no_flags fallen.pieces.items (get_or plan.pieces.items n 0) h.count
falls_same (p ∷ pieces) edits plan lists fallen n e h =
    let same : get_or plan.pieces.items n 0 ≡ get_or (token_pieces 0 (p ∷ pieces)) n 0 = ap (λ (l : List ℕ). get_or l n 0) e in
    let less = piece_of p pieces n in
    h.old (get_or plan.pieces.items n 0) (omega (arith, same, less))

-- an edit that has an insert is one of the edits
edit_within : (edits : List Edit) (n insert : ℕ) (text : List ℕ) → edit_text (slice_get edits n) insert ≡ Some text → n < length edits
edit_within [] n insert text e = absurd (cc)
edit_within (d ∷ edits) zero insert text e = omega arith
edit_within (d ∷ edits) (suc n) insert text e = let less = edit_within edits n insert text e in omega (arith, less)

words_from : (pieces : List TextPiece) (edits : List Edit) (plan : Plan) (lists : List CommaList) (fallen : Fallen) (p : Placed) (o : Option (List ℕ))
    (words : List Token) → edit_text (slice_get edits p.edit) p.insert ≡ o → Falls pieces edits plan lists fallen
    → AreVisibleIn (falls_in fallen p.edit p.insert) o words → AreWordsIn pieces edits plan lists p o words
words_from pieces edits plan lists fallen p None words e h are = are
words_from pieces edits plan lists fallen p (Some text) words e h are =
    let less = edit_within edits p.edit p.insert text e in
    record {
      own = are.own;
      cut = are.cut;
      shown = are.shown;
      visible = are.visible;
      are = are.are ∙ (λ i. map (token_at are.own) (filter (λ n. not (h.added p.edit p.insert (offset_of are.own n) less i)) are.shown));
    }

pub words_same : (pieces : List TextPiece) (edits : List Edit) (plan : Plan) (lists : List CommaList) (fallen : Fallen) (all : List (List (List Token)))
    → Falls pieces edits plan lists fallen → AreInsertWords fallen edits all → AreWords pieces edits plan lists (words_at all)
words_same pieces edits plan lists fallen all h are p =
    words_from pieces edits plan lists fallen p (edit_text (slice_get edits p.edit) p.insert) (words_at all p) refl h (are p.edit p.insert)

-- the new text as the code has it
text_same : (s : Scene) (lists : List CommaList) → s.plan.now.pieces.items ≡ token_pieces 0 s.lexed.now
    → Falls s.lexed.now s.edits.now.list s.plan.now lists s.fallen.now
    → text_in s ≡ new_text s.lexed.now s.edits.now.list s.plan.now lists (words_at s.inserts.items)
text_same s lists e h = λ i. record (text_in s) {
  falls = λ n. falls_same s.lexed.now s.edits.now.list s.plan.now lists s.fallen.now n e h i;
}

pub seen_all : (s : Scene) (items : List Item) (lists : List CommaList) (made : SeenBodies)
    → SeesAll s items s.edits.now.outline.bodies.items nothing_seen made → s.plan.now.pieces.items ≡ token_pieces 0 s.lexed.now
    → Falls s.lexed.now s.edits.now.list s.plan.now lists s.fallen.now → AreInsertWords s.fallen.now s.edits.now.list s.inserts.items
    → IsSeen s.lexed.now items s.edits.now s.plan.now lists made
seen_all s items lists made h e falls words =
    let text = new_text s.lexed.now s.edits.now.list s.plan.now lists (words_at s.inserts.items) in
    let bodies = s.edits.now.outline.bodies.items in
    let forms = map (option_map form_of) h.readings in
    let same : text_in s ≡ text = text_same s lists e falls in
    record {
      seen = see_all text (leaves_of s) (statements_of s) bodies forms nothing_seen;
      are_seen = record {
        words = words_at s.inserts.items;
        are_words = words_same s.lexed.now s.edits.now.list s.plan.now lists s.fallen.now s.inserts.items falls words;
        readings = h.readings;
        read = subst (λ (t : NewText). AreReadings t (leaves_of s) (statements_of s) items bodies h.readings nothing_seen) same h.read;
        seen_so = refl;
      };
      made_so = h.seen_so ∙ ap (λ (t : NewText). in_code (see_all t (leaves_of s) (statements_of s) bodies forms nothing_seen)) same;
    }

-- ---- bodies one by one

module _ (text : NewText) (leaves : List ℕ) (statements : List (ℕ × PatternStatement)) (items : List Item) where
  -- one more body
  record ReadsMore (bodies : List Body) (readings : List (Option Tree)) (s : Seen) (b : Body) (r : Option Tree) : Type 0 where
    read : AreReadings text leaves statements items (bodies ++ b ∷ []) (readings ++ r ∷ []) s
    seen_so : see_all text leaves statements (bodies ++ b ∷ []) (map (option_map form_of) (readings ++ r ∷ [])) s
        ≡ see text leaves statements b (option_map form_of r) (see_all text leaves statements bodies (map (option_map form_of) readings) s)

  reads_more : (bodies : List Body) (readings : List (Option Tree)) (s : Seen) (b : Body) (r : Option Tree)
      → AreReadings text leaves statements items bodies readings s
      → IsBodyReading text leaves statements (names_at items b.item) b
      (see_all text leaves statements bodies (map (option_map form_of) readings) s).braces r → ReadsMore bodies readings s b r
  reads_more [] [] s b r h k = record { read = (k, tt); seen_so = refl }
  reads_more [] (q ∷ readings) s b r h k = absurd h
  reads_more (c ∷ bodies) [] s b r h k = absurd h
  reads_more (c ∷ bodies) (q ∷ readings) s b r h k =
      let rest = reads_more bodies readings (see text leaves statements c (option_map form_of q) s) b r h.1 k in
      record { read = (h.0, rest.read); seen_so = rest.seen_so }

pub sees_none : (s : Scene) (items : List Item) (made : SeenBodies) → made ≡ in_code nothing_seen → SeesAll s items [] nothing_seen made
sees_none s items made e = record { readings = []; read = tt; seen_so = e }

pub sees_more : (s : Scene) (items : List Item) (bodies : List Body) (i : ℕ) (b : Body) (names : Names) (old new : SeenBodies) → i < length bodies
    → b ≡ get_or bodies i b → names ≡ names_at items b.item → SeesAll s items (take i bodies) nothing_seen old
    → ((before : Seen) → old ≡ in_code before → SeesBody s names b before new) → SeesAll s items (take (i + 1) bodies) nothing_seen new
sees_more s items bodies i b names old new less is known h next =
    let text = text_in s in
    let leaves = leaves_of s in
    let statements = statements_of s in
    let before = see_all text leaves statements (take i bodies) (map (option_map form_of) h.readings) nothing_seen in
    let k = next before h.seen_so in
    let read : IsBodyReading text leaves statements (names_at items b.item) b before.braces k.reading =
    subst (λ (ns : Names). IsBodyReading text leaves statements ns b before.braces k.reading) known k.read in
    let more = reads_more text leaves statements items (take i bodies) h.readings nothing_seen b k.reading h.read read in
    let longer : take (i + 1) bodies ≡ take i bodies ++ b ∷ [] =
    take_more bodies i b less ∙ ap (λ (c : Body). take i bodies ++ c ∷ []) (sym is) in
    let all : SeesAll s items (take i bodies ++ b ∷ []) nothing_seen new =
    record { readings = h.readings ++ k.reading ∷ []; read = more.read; seen_so = k.seen_so ∙ ap in_code (sym more.seen_so) } in
    subst (λ (l : List Body). SeesAll s items l nothing_seen new) (sym longer) all

pub sees_end : (s : Scene) (items : List Item) (bodies all : List Body) (i : ℕ) (made : SeenBodies) → length bodies ≤ i → bodies ≡ all
    → SeesAll s items (take i bodies) nothing_seen made → SeesAll s items all nothing_seen made
sees_end s items bodies all i made le same h =
    subst (λ (l : List Body). SeesAll s items l nothing_seen made) (take_all i bodies le ∙ same) h
