-- What becomes of bodies is one.
use Rattle.std.proofs.Common.{◌≡◌, ◌&&◌, ℕ, Bool, true, false, not, refl, sym, ap, subst, ◌∙◌, arith, inl, inr}
use Rattle.std.proofs.Common.{List, [], ◌∷◌, get_or, map, filter}
use Rattle.std.specs.Prelude.{IsTrue, Option, None, Some, slice_get, if◌then◌else◌}
use Rattle.std.specs.Option.{option_map}
use Rattle.c_terms.specs.declared.token.Token.{Token}
use Rattle.c_terms.specs.declared.tree.Tree.{Tree}
use Rattle.c_rows.specs.declared.kind.Kind.{Kind}
use Rattle.c_rows.specs.declared.kind.Kind.TheVariants as kind
use Rattle.c_rows.specs.Look.{Names}
use Rattle.c_rows.specs.Trees.{IsTreeOf, stands_alone}
use Rattle.c_lexer.specs.Pieces.{TextPiece}
use Rattle.c_lexer.specs.Lexes.{Lexes}
use Rattle.cpp_lines.specs.declared.reading.Item.{Item}
use Rattle.cpp_lines.specs.Shown.{AreShown}
use Rattle.c_file.specs.Tokens.{token_at}
use Rattle.edit_marks.specs.declared.edit_conflict.edit.Edit.{Edit}
use Rattle.edit_marks.specs.declared.tidy.shape.Body.{Body}
use Rattle.edit_marks.specs.declared.tidy.touch.PatternStatement.{PatternStatement}
use Rattle.edit_marks.specs.declared.tidy.walk.TidiedEdits.{TidiedEdits}
use Rattle.edit_marks.specs.Tidy.Bodies.{acts_of}
use Rattle.edit_unparse.specs.declared.tidy.commas.CommaList.{CommaList}
use Rattle.edit_unparse.specs.declared.tidy.plan.Placed.{Placed}
use Rattle.edit_unparse.specs.declared.tidy.plan.Plan.{Plan}
use Rattle.edit_unparse.specs.Written.{edit_text}
use Rattle.edit_bodies.specs.Needs.{form_of}
use Rattle.edit_bodies.specs.Rows.{NewText}
use Rattle.edit_bodies.specs.Looks.{Seen, is_looked_at, see, see_all, seen_function, seen_row}
use Rattle.edit_bodies.specs.Laid.{AreReadings, AreSeen, AreWords, AreWordsIn, IsBodyReading, IsReading, IsReadingIf}
use Rattle.edit_bodies.specs.Laid.{new_text, nothing_seen, offset_of}
use Rattle.edit_bodies.proofs.OnePlan.{SayTheSame, insert_falls_same, piece_falls_same}

abbrev pub HaveOneCut : Type 0
HaveOneCut = (text : List ℕ) (a b : List TextPiece) → Lexes text a → Lexes text b → a ≡ b

abbrev pub HaveOneShown : Type 0
HaveOneShown = (pieces : List TextPiece) (a b : List ℕ) → AreShown pieces a → AreShown pieces b → a ≡ b

abbrev pub HaveOneTree : Type 0
HaveOneTree = (kind : Kind) (names : Names) (tokens : List Token) (t u : Tree) → IsTrue (stands_alone kind)
    → IsTreeOf kind names tokens t → IsTreeOf kind names tokens u → t ≡ u

-- ---- the new text

module _ (one_cut : HaveOneCut) (one_shown : HaveOneShown) (pieces : List TextPiece) (edits : List Edit) (p q : Plan) (lists : List CommaList)
    (same : SayTheSame edits p q) where
  words_in : (at : Placed) (text : Option (List ℕ)) (a b : List Token) → AreWordsIn pieces edits p lists at text a
      → AreWordsIn pieces edits q lists at text b → a ≡ b
  words_in at None a b one two = one ∙ sym two
  words_in at (Some text) a b one two =
      let own : one.own ≡ two.own = one_cut text one.own two.own one.cut two.cut in
      let shown : one.shown ≡ two.shown = one_shown two.own one.shown two.shown (subst (λ (ps : List TextPiece). AreShown ps one.shown) own one.visible)
      two.visible in
      one.are
      ∙ (λ i. map (token_at (own i))
      (filter (λ n. not (insert_falls_same edits p q same pieces lists at.edit at.insert (offset_of (own i) n) i)) (shown i)))
      ∙ sym two.are

  pub one_text : (a b : Placed → List Token) → AreWords pieces edits p lists a → AreWords pieces edits q lists b
      → new_text pieces edits p lists a ≡ new_text pieces edits q lists b
  one_text a b one two = λ i. record {
    token = λ n. token_at pieces (get_or (same.pieces i) n 0);
    goes = (same.placement i).goes;
    falls = λ n. piece_falls_same edits p q same pieces lists (get_or (same.pieces i) n 0) i;
    comes = (acts_of edits).comes;
    inserts = same.inserts i;
    words = λ at. words_in at (edit_text (slice_get edits at.edit) at.insert) (a at) (b at) (one at) (two at) i;
  }

-- ---- readings

module _ (one_tree : HaveOneTree) where
  one_reading : (names : Names) (tokens : List Token) (a b : Option Tree) → IsReading names tokens a → IsReading names tokens b → a ≡ b
  one_reading names tokens None None one two = refl
  one_reading names tokens None (Some t) (inl deep) two = let fits = two.0 in absurd (omega (arith, deep, fits))
  one_reading names tokens None (Some t) (inr none) two = absurd (none t two.1)
  one_reading names tokens (Some t) None one (inl deep) = let fits = one.0 in absurd (omega (arith, deep, fits))
  one_reading names tokens (Some t) None one (inr none) = absurd (none t one.1)
  one_reading names tokens (Some t) (Some u) one two = ap Some (one_tree kind.StmtList names tokens t u refl one.1 two.1)

  module _ (text : NewText) (leaves : List ℕ) (statements : List (ℕ × PatternStatement)) (items : List Item) where
    -- a body is seen alike under readings of its row, which is read only if it matters
    seen_alike : (names : Names) (tokens : List Token) (b : Body) (s : Seen) (r q : Option Tree) (is_function looked_at : Bool)
        → IsReadingIf (not is_function && looked_at) names tokens r → IsReadingIf (not is_function && looked_at) names tokens q
        → (if is_function then seen_function text leaves statements b s
        else if looked_at then seen_row text leaves statements b (option_map form_of r) s else s)
        ≡ (if is_function then seen_function text leaves statements b s
        else if looked_at then seen_row text leaves statements b (option_map form_of q) s else s)
    seen_alike names tokens b s r q true looked_at one two = refl
    seen_alike names tokens b s r q false false one two = refl
    seen_alike names tokens b s r q false true one two =
        ap (λ (x : Option Tree). seen_row text leaves statements b (option_map form_of x) s) (one_reading names tokens r q one two)

    one_body : (names : Names) (b : Body) (s : Seen) (r q : Option Tree) → IsBodyReading text leaves statements names b s.braces r
        → IsBodyReading text leaves statements names b s.braces q
        → see text leaves statements b (option_map form_of r) s ≡ see text leaves statements b (option_map form_of q) s
    one_body names b s r q one two = seen_alike names _ b s r q b.is_function (is_looked_at text leaves statements b) one two

    pub one_sight : (bodies : List Body) (rs qs : List (Option Tree)) (s : Seen) → AreReadings text leaves statements items bodies rs s
        → AreReadings text leaves statements items bodies qs s
        → see_all text leaves statements bodies (map (option_map form_of) rs) s ≡ see_all text leaves statements bodies (map (option_map form_of) qs) s
    one_sight [] [] [] s one two = refl
    one_sight [] [] (q ∷ qs) s one two = absurd two
    one_sight [] (r ∷ rs) qs s one two = absurd one
    one_sight (b ∷ bodies) [] qs s one two = absurd one
    one_sight (b ∷ bodies) (r ∷ rs) [] s one two = absurd two
    one_sight (b ∷ bodies) (r ∷ rs) (q ∷ qs) s one two =
        let next = see text leaves statements b (option_map form_of q) s in
        let same : see text leaves statements b (option_map form_of r) s ≡ next = one_body _ b s r q one.0 two.0 in
        ap (see_all text leaves statements bodies (map (option_map form_of) rs)) same
        ∙ one_sight bodies rs qs next (subst (AreReadings text leaves statements items bodies rs) same one.1) two.1

-- ---- bodies

pub one_seen : HaveOneCut → HaveOneShown → HaveOneTree → (pieces : List TextPiece) (items : List Item) (edits : TidiedEdits) (p q : Plan)
    (lists : List CommaList) (a b : Seen) → SayTheSame edits.list p q → AreSeen pieces items edits p lists a → AreSeen pieces items edits q lists b → a ≡ b
one_seen one_cut one_shown one_tree pieces items edits p q lists a b same one two =
    let text = one_text one_cut one_shown pieces edits.list p q lists same one.words two.words one.are_words two.are_words in
    let new = new_text pieces edits.list q lists two.words in
    let leaves = edits.outline.leaves.items in
    let statements = edits.statements.items in
    let bodies = edits.outline.bodies.items in
    let read : AreReadings new leaves statements items bodies one.readings nothing_seen =
    subst (λ (t : NewText). AreReadings t leaves statements items bodies one.readings nothing_seen) text one.read in
    one.seen_so
    ∙ ap (λ (t : NewText). see_all t leaves statements bodies (map (option_map form_of) one.readings) nothing_seen) text
    ∙ one_sight one_tree new leaves statements items bodies one.readings two.readings nothing_seen read two.read
    ∙ sym two.seen_so
