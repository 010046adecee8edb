-- What becomes of a body, from what its parts say.
use Rattle.std.proofs.Common.{◌≡◌, ℕ, Bool, true, false, refl, sym, ap, subst, ◌∙◌, List, [], ◌∷◌, ◌++◌, append_assoc}
use Rattle.std.specs.Prelude.{Option, None, Some, fold, slice_get, if◌then◌else◌}
use Rattle.std.specs.Option.{unwrap_or}
use Rattle.std.proofs.lemmas.List.{append-nil}
use Rattle.c_terms.specs.declared.tree.Tree.{Tree}
use Rattle.c_rows.specs.Look.{Names}
use Rattle.c_terms.specs.declared.token.Token.{Token}
use Rattle.edit_marks.specs.declared.tidy.shape.Body.{Body}
use Rattle.edit_marks.specs.declared.tidy.touch.PatternStatement.{PatternStatement}
use Rattle.edit_bodies.specs.declared.braces.Coming.{Coming}
use Rattle.edit_bodies.specs.declared.braces.Spot.{Spot}
use Rattle.edit_bodies.specs.declared.rows.Row.{Row}
use Rattle.edit_bodies.specs.declared.scene.Scene.{Scene}
use Rattle.edit_bodies.specs.declared.see.SeenBodies.{SeenBodies}
use Rattle.edit_bodies.specs.Laid.{IsReading}
use Rattle.edit_bodies.specs.Looks.{Seen, end_of, is_first_else, last_of, lead_of}
use Rattle.edit_bodies.specs.Looks.{pair_at, pair_for, row_of, seen_row, some_token, tokens_behind}
use Rattle.edit_bodies.specs.Needs.{RowForm, form_of, needs_braces}
use Rattle.edit_bodies.specs.Rows.{NewText, RowToken, spot, tokens_in}
use Rattle.edit_bodies.specs.Scenes.{IsRow, SeesRow, end_after, in_code, least_of, leaves_of, lesser, statements_of, text_in}

least_both : (from : Option ℕ) (xs ys : List ℕ) → fold lesser from (xs ++ ys) ≡ fold lesser (fold lesser from xs) ys
least_both from [] ys = refl
least_both from (x ∷ xs) ys = least_both (lesser from x) xs ys

some_end : (start : Spot) (row : List RowToken) → unwrap_or (end_after (Some start) row) start ≡ end_of start row
some_end start [] = refl
some_end start (t ∷ row) = later t row
  where
    later : (t : RowToken) (row : List RowToken) → unwrap_or (end_after (Some t.end) row) start ≡ end_of t.end row
    later t [] = refl
    later t (u ∷ row) = later u row

-- where a row ends, or else at the brace that comes first
pub row_end : (start : Spot) (row : List RowToken) → unwrap_or (end_after None row) start ≡ end_of start row
row_end start [] = refl
row_end start (t ∷ row) = some_end start (t ∷ row)

abbrev with_more : SeenBodies → List Coming → SeenBodies
with_more n more = record { braces = n.braces ++ more; broken = n.broken }

-- the two braces of a body, which come one after the other
pub pair_made : (text : NewText) (leaves : List ℕ) (statements : List (ℕ × PatternStatement)) (b : Body) (lead owner : ℕ) (all : List RowToken)
    (row : Row) (old mid new : List Coming) (end : Spot) → IsRow all row → Some owner ≡ slice_get leaves b.owner
    → end ≡ unwrap_or row.end (spot lead true 0)
    → mid ≡ old ++ record { spot = spot lead true 0; opens = true; owner = owner } ∷ []
    → new ≡ mid ++ record { spot = end; opens = false; owner = owner } ∷ []
    → new ≡ old ++ pair_for text leaves statements b (Some lead) all
pair_made text leaves statements b lead owner all row old mid new end is owns ends first second =
    let opening : Coming = record { spot = spot lead true 0; opens = true; owner = owner } in
    let closing : Spot → Coming = λ e. record { spot = e; opens = false; owner = owner } in
    let place : end ≡ end_of (spot lead true 0) all =
    ends ∙ ap (λ (e : Option Spot). unwrap_or e (spot lead true 0)) is.end ∙ row_end (spot lead true 0) all in
    second ∙ ap (λ (l : List Coming). l ++ closing end ∷ []) first ∙ append_assoc old (opening ∷ []) (closing end ∷ [])
    ∙ ap (λ (e : Spot). old ++ opening ∷ closing e ∷ []) place
    ∙ ap (λ (o : Option ℕ). old ++ pair_at text leaves statements lead o all) owns

module _ (s : Scene) (b : Body) (old : Seen) (seen : SeenBodies) (same : seen ≡ in_code old) where
  abbrev row_so : List Coming → List RowToken
  row_so braces = row_of (text_in s) (leaves_of s) (statements_of s) b braces

  abbrev last_so : Option ℕ
  last_so = last_of (text_in s) (leaves_of s) (statements_of s) b

  abbrev else_so : Bool
  else_so = is_first_else (tokens_behind (text_in s) (leaves_of s) (statements_of s) b)

  abbrev row_seen : Option RowForm → Seen
  row_seen form = seen_row (text_in s) (leaves_of s) (statements_of s) b form old

  abbrev with_braces : List Coming → SeenBodies
  with_braces more = record { braces = more; broken = least_of old.broken }

  old_row : (row : Row) → IsRow (row_so seen.braces) row → row.tokens.items ≡ tokens_in (row_so old.braces)
  old_row row is = is.tokens ∙ ap (λ (n : SeenBodies). tokens_in (row_so n.braces)) same

  read_so : (names : Names) (row : Row) (reading : Option Tree) → IsRow (row_so seen.braces) row → IsReading names row.tokens.items reading
      → IsReading names (tokens_in (row_so old.braces)) reading
  read_so names row reading is read = subst (λ (ts : List Token). IsReading names ts reading) (old_row row is) read

  broken_so : (new : SeenBodies) → new.braces ≡ seen.braces → new.broken ≡ fold lesser seen.broken (some_token last_so)
      → new ≡ record { braces = old.braces; broken = least_of (old.broken ++ some_token last_so) }
  broken_so new braces broken =
      let ends : new.broken ≡ least_of (old.broken ++ some_token last_so) =
      broken ∙ ap (λ (n : SeenBodies). fold lesser n.broken (some_token last_so)) same ∙ sym (least_both None old.broken (some_token last_so)) in
      λ i. record { braces = (braces ∙ ap (λ (n : SeenBodies). n.braces) same) i; broken = ends i }

  -- its row is no list of statements
  pub sees_broken : (names : Names) (row : Row) (new : SeenBodies) → IsRow (row_so seen.braces) row → IsReading names row.tokens.items None
      → new.braces ≡ seen.braces → new.broken ≡ fold lesser seen.broken (some_token last_so) → SeesRow s names b old new
  sees_broken names row new is read braces broken = record { reading = None; read = read_so names row None is read; seen_so = broken_so new braces broken }

  -- its row needs braces
  pub sees_pair : (names : Names) (row : Row) (tree : Tree) (new : SeenBodies) → IsRow (row_so seen.braces) row → IsReading names row.tokens.items (Some tree)
      → needs_braces else_so (form_of tree) ≡ true → (lead : Option ℕ)
      → new ≡ record seen { braces = seen.braces ++ pair_for (text_in s) (leaves_of s) (statements_of s) b lead (row_so seen.braces) }
      → lead ≡ lead_of (text_in s) (leaves_of s) (statements_of s) b → SeesRow s names b old new
  sees_pair names row tree new is read needs lead made leads =
      let pair : List Coming → List Coming = λ braces. pair_for (text_in s) (leaves_of s) (statements_of s) b lead (row_so braces) in
      let pair_so : List Coming =
      pair_for (text_in s) (leaves_of s) (statements_of s) b (lead_of (text_in s) (leaves_of s) (statements_of s) b) (row_so old.braces) in
      let kept : new ≡ with_braces (old.braces ++ pair old.braces) =
      made ∙ ap (λ (n : SeenBodies). with_more n (pair n.braces)) same in
      let placed : pair old.braces ≡ pair_so =
      ap (λ (o : Option ℕ). pair_for (text_in s) (leaves_of s) (statements_of s) b o (row_so old.braces)) leads in
      record {
        reading = Some tree;
        read = read_so names row (Some tree) is read;
        seen_so = kept
            ∙ ap (λ (more : List Coming). with_braces (old.braces ++ more))
            (placed ∙ ap (λ (w : Bool). if w then pair_so else []) (sym needs));
      }

  -- its row needs none
  pub sees_none : (names : Names) (row : Row) (tree : Tree) → IsRow (row_so seen.braces) row → IsReading names row.tokens.items (Some tree)
      → needs_braces else_so (form_of tree) ≡ false → SeesRow s names b old seen
  sees_none names row tree is read needs =
      let pair_so : List Coming =
      pair_for (text_in s) (leaves_of s) (statements_of s) b (lead_of (text_in s) (leaves_of s) (statements_of s) b) (row_so old.braces) in
      record {
        reading = Some tree;
        read = read_so names row (Some tree) is read;
        seen_so = same
            ∙ ap with_braces
            (sym (append-nil old.braces) ∙ ap (λ (w : Bool). old.braces ++ (if w then pair_so else [])) (sym needs));
      }
