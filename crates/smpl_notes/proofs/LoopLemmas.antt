-- Loops over children, names, and the rules of a text.
use Rattle.std.proofs.Common.{◌≡◌, ℕ, ◌+◌, ◌^◌, ◌<◌, ◌≤◌, min, lit<, refl, sym, ap, ◌∙◌, subst, arith, add-one, append_assoc}
use Rattle.std.proofs.Common.{List, [], ◌∷◌, ◌++◌, map, length, drop, get_or, length-drop, Option, Some, None, if◌then◌else◌}
use Rattle.std.proofs.lemmas.List.{drop_more, append-nil}
use Rattle.std.specs.Prelude.{All}
use Rattle.std.proofs.lemmas.List.Elements.{All-get_or}
use Rattle.c_terms.specs.declared.label.Label.{Label}
use Rattle.c_terms.specs.declared.token.Token.{Token}
use Rattle.c_terms.specs.declared.tree.Tree.{Tree}
use Rattle.c_terms.specs.Names.{with_name}
use Rattle.smpl_patch.specs.declared.rule.Rule.{Rule}
use Rattle.smpl_lexer.specs.declared.text.RuleText.{RuleText}
use Rattle.smpl_lexer.specs.Texts.{most_bytes, IsSmallRule}
use Rattle.smpl_notes.specs.declared.note.Note.{Note}
use Rattle.smpl_notes.specs.declared.note.Found.{Found}
use Rattle.smpl_notes.specs.Names.{may_stand, short_names, inside_from, slip_of, slips_from}
use Rattle.smpl_notes.specs.NullTests.{or_else}
use Rattle.smpl_notes.specs.Notes.{rule_notes, notes_from}

-- what is left begins with the member at the place
here : {A : Type 0} (xs : List A) (i : ℕ) (x : A) → i < length xs → x ≡ get_or xs i x → drop i xs ≡ x ∷ drop (i + 1) xs
here xs i x lt is = drop_more xs i x lt ∙ ap (λ z. z ∷ drop (i + 1) xs) (sym is)

-- ---- the first of a list that has a token

pub first-found : {X : Type 0} (xs : List X) (one : X → Option Token) (all : List X → Option Token)
    → ((x : X) (ys : List X) → all (x ∷ ys) ≡ or_else (one x) (all ys)) → (i : ℕ) (x : X) (s : Token) (whole : Option Token)
    → i < length xs → x ≡ get_or xs i x → all (drop i xs) ≡ whole → Some s ≡ one x → Some s ≡ whole
first-found xs one all first i x s whole lt is h f =
    ap (λ o. or_else o (all (drop (i + 1) xs))) f ∙ sym (first x (drop (i + 1) xs)) ∙ sym (ap all (here xs i x lt is)) ∙ h

pub first-skipped : {X : Type 0} (xs : List X) (one : X → Option Token) (all : List X → Option Token)
    → ((x : X) (ys : List X) → all (x ∷ ys) ≡ or_else (one x) (all ys)) → (i : ℕ) (x : X) (whole : Option Token)
    → i < length xs → x ≡ get_or xs i x → all (drop i xs) ≡ whole → None ≡ one x → all (drop (i + 1) xs) ≡ whole
first-skipped xs one all first i x whole lt is h f =
    ap (λ o. or_else o (all (drop (i + 1) xs))) f ∙ sym (first x (drop (i + 1) xs)) ∙ sym (ap all (here xs i x lt is)) ∙ h

-- ---- names

-- one more child
pub inside-step : (l : Label) (cs : List Tree) (i : ℕ) (c : Tree) (found mid next whole : List Token) → i < length cs → c ≡ get_or cs i c
    → mid ≡ found ++ (if may_stand l i then (short_names c).own else []) → next ≡ mid ++ (short_names c).inside
    → found ++ inside_from l i (map short_names (drop i cs)) ≡ whole → next ++ inside_from l (i + 1) (map short_names (drop (i + 1) cs)) ≡ whole
inside-step l cs i c found mid next whole lt is m n h =
    let own : List Token = if may_stand l i then (short_names c).own else [] in
    let rest : ℕ → List Token = λ k. inside_from l k (map short_names (drop (i + 1) cs)) in
    ap (λ z. z ++ rest (i + 1)) (n ∙ ap (λ z. z ++ (short_names c).inside) m ∙ append_assoc found own (short_names c).inside)
    ∙ append_assoc found (own ++ (short_names c).inside) (rest (i + 1))
    ∙ ap (λ k. found ++ ((own ++ (short_names c).inside) ++ rest k)) (add-one i)
    ∙ ap (λ z. found ++ inside_from l i (map short_names z)) (sym (here cs i c lt is)) ∙ h

-- one more name
pub slips-step : (declared seen more : List (List ℕ)) (names : List Token) (i : ℕ) (t : Token) (found next whole : List Found)
    → i < length names → t ≡ get_or names i t → next ≡ found ++ slip_of declared seen t → more ≡ with_name seen t.text
    → found ++ slips_from declared seen (drop i names) ≡ whole → next ++ slips_from declared more (drop (i + 1) names) ≡ whole
slips-step declared seen more names i t found next whole lt is n m h =
    ap (λ z. next ++ slips_from declared z (drop (i + 1) names)) m
    ∙ ap (λ z. z ++ slips_from declared (with_name seen t.text) (drop (i + 1) names)) n
    ∙ append_assoc found (slip_of declared seen t) (slips_from declared (with_name seen t.text) (drop (i + 1) names))
    ∙ ap (λ z. found ++ slips_from declared seen z) (sym (here names i t lt is)) ∙ h

-- ---- rules

module _ (bytes : List ℕ) (declared : List (List ℕ)) (texts : List RuleText) (rules : List Rule) where
  -- one more rule
  pub notes-step : (i : ℕ) (x : RuleText) (r : Rule) (found more next whole : List Note) → i < length texts → i < length rules
      → x ≡ get_or texts i x → r ≡ get_or rules i r → more ≡ rule_notes bytes declared i x r → next ≡ found ++ more
      → found ++ notes_from bytes declared i (drop i texts) (drop i rules) ≡ whole
      → next ++ notes_from bytes declared (i + 1) (drop (i + 1) texts) (drop (i + 1) rules) ≡ whole
  notes-step i x r found more next whole in_texts in_rules is_text is_rule m n h =
      let rest : ℕ → List Note = λ k. notes_from bytes declared k (drop (i + 1) texts) (drop (i + 1) rules) in
      ap (λ z. z ++ rest (i + 1)) (n ∙ ap (λ z. found ++ z) m)
      ∙ append_assoc found (rule_notes bytes declared i x r) (rest (i + 1))
      ∙ ap (λ k. found ++ (rule_notes bytes declared i x r ++ rest k)) (add-one i)
      ∙ ap (λ z. found ++ notes_from bytes declared i z (r ∷ drop (i + 1) rules)) (sym (here texts i x in_texts is_text))
      ∙ ap (λ z. found ++ notes_from bytes declared i (drop i texts) z) (sym (here rules i r in_rules is_rule)) ∙ h

  none : (n : ℕ) (xs : List RuleText) (rs : List Rule) → min (length xs) (length rs) ≤ 0 → notes_from bytes declared n xs rs ≡ []
  none n [] rs h = refl
  none n (x ∷ xs) [] h = refl
  none n (x ∷ xs) (r ∷ rs) h = absurd (omega (arith, h))

  -- no more rules
  pub notes-end : (i : ℕ) (found whole : List Note) → min (length texts) (length rules) ≤ i
      → found ++ notes_from bytes declared i (drop i texts) (drop i rules) ≡ whole → found ≡ whole
  notes-end i found whole le h =
      let few : min (length (drop i texts)) (length (drop i rules)) ≤ 0 = omega (arith, le, length-drop i texts, length-drop i rules) in
      sym (append-nil found) ∙ ap (λ z. found ++ z) (sym (none i (drop i texts) (drop i rules) few)) ∙ h

short_by : (most count : ℕ) → most < 2 ^ 32 → count ≤ most → count < 2 ^ 32
short_by most count fits le = omega arith

-- the bodies of small rules are short
pub body-short : (rules : List RuleText) (i : ℕ) (x : RuleText) → All IsSmallRule rules → i < length rules → x ≡ get_or rules i x
    → length x.body < 2 ^ 32
body-short rules i x small lt is =
    let small_one : IsSmallRule x = subst (λ (y : RuleText). IsSmallRule y) (sym is) (All-get_or IsSmallRule rules i x lt small) in
    short_by most_bytes (length x.body) (lit< tt) small_one.lines
