-- Of fair edits and braces nothing that comes is a Stray or stands behind one.
use Rattle.std.proofs.Common.{◌≡◌, ◌+◌, ◌==◌, ◌&&◌, ℕ, zero, suc, Bool, true, false, not, refl, sym, ap, ◌∙◌, arith}
use Rattle.std.proofs.Common.{List, [], ◌∷◌, ◌++◌, get_or, filter, map, fold, max, drop, slice_get}
use Rattle.std.specs.Prelude.{if◌then◌else◌}
use Rattle.std.specs.List.{list_all}
use Rattle.std.proofs.lemmas.Bool.{false≢true}
use Rattle.std.proofs.lemmas.Bool.Decides.{Decides-eqb}
use Rattle.c_lexer.specs.Pieces.{TextPiece}
use Rattle.edit_marks.specs.declared.edit_conflict.edit.Side.{Side}
use Rattle.edit_marks.specs.declared.edit_conflict.edit.Side.TheVariants.{Before, After}
use Rattle.edit_marks.specs.declared.edit_conflict.edit.Insert.{Insert}
use Rattle.edit_marks.specs.declared.edit_conflict.edit.Edit.{Edit}
use Rattle.edit_marks.specs.EditConflict.Same.{side_number}
use Rattle.edit_unparse.specs.declared.tidy.parts.Brace.{Brace}
use Rattle.edit_unparse.specs.declared.tidy.plan.Placed.{Placed}
use Rattle.edit_unparse.specs.declared.tidy.plan.Spot.{Spot}
use Rattle.edit_unparse.specs.Output.{added, inserted, is_removed, texts_in}
use Rattle.edit_unparse.specs.Fair.{has_plain_inserts, is_plain_text}
use Rattle.edit_unparse.specs.Written.{edit_text, insert_text, option_list}
use Rattle.edit_unparse.specs.Tidy.Fair.{TidyFair, behind_strays, is_behind_stray, strays}
use Rattle.edit_unparse.specs.Tidy.Places.{inserts_after, inserts_before, inserts_from, inserts_in, joints}
use Rattle.edit_unparse.specs.Tidy.Spots.{brace_number, deepest_from, placed_texts, spot, spot_number}
use Rattle.edit_unparse.specs.Tidy.Text.{Frame, behind, braces_among, braces_at, placement_of, with_braces}
use Rattle.edit_unparse.proofs.Again.{all-append, both, both_first}
use Rattle.edit_unparse.proofs.Placing.{added_new}
use Rattle.edit_unparse.proofs.TidyPlaced.{Suits}
use Rattle.edit_marks.proofs.Rows.{both_second}

abbrev are_plain : List (List ℕ) → Type 0
are_plain texts = list_all is_plain_text texts ≡ true

-- inserts

plain_insert : (is : List Insert) (j : ℕ) → list_all (λ i. is_plain_text i.text) is ≡ true → are_plain (option_list (insert_text (slice_get is j)))
plain_insert [] j e = refl
plain_insert (i ∷ is) zero e = both _ _ (both_first (is_plain_text i.text) _ e) refl
plain_insert (i ∷ is) (suc j) e = plain_insert is j (both_second (is_plain_text i.text) _ e)

plain_edit : (edits : List Edit) (k j : ℕ) → list_all has_plain_inserts edits ≡ true → are_plain (option_list (edit_text (slice_get edits k) j))
plain_edit [] k j e = refl
plain_edit (x ∷ edits) zero j e = plain_insert x.inserts j (both_first (has_plain_inserts x) _ e)
plain_edit (x ∷ edits) (suc k) j e = plain_edit edits k j (both_second (has_plain_inserts x) _ e)

plain_placed : (edits : List Edit) (ps : List Placed) → list_all has_plain_inserts edits ≡ true → are_plain (placed_texts edits ps)
plain_placed edits [] e = refl
plain_placed edits (p ∷ ps) e =
    all-append (option_list (edit_text (slice_get edits p.edit) p.insert)) (placed_texts edits ps)
    (plain_edit edits p.edit p.insert e) (plain_placed edits ps e)

-- braces

abbrev plain_braces : List Brace → Type 0
plain_braces braces = list_all (λ b. is_plain_text b.text) braces ≡ true

plain_among : (braces : List Brace) (count : ℕ) → plain_braces braces → are_plain (braces_among braces count)
plain_among [] count e = refl
plain_among (b ∷ braces) count e =
    let rest = plain_among braces count (both_second (is_plain_text b.text) _ e) in
    elim (b.inserts == count) as (λ x. are_plain (map (λ (y : Brace). y.text) (if x then b ∷ filter (λ (y : Brace). y.inserts == count) braces
    else filter (λ (y : Brace). y.inserts == count) braces))) [
      | true ↦ both _ _ (both_first (is_plain_text b.text) _ e) rest
      | false ↦ rest
    ]

plain_behind : (braces : List Brace) (count : ℕ) (texts : List (List ℕ)) → plain_braces braces → are_plain texts → are_plain (behind braces count texts)
plain_behind braces count [] e f = refl
plain_behind braces count (t ∷ texts) e f =
    both _ _ (both_first (is_plain_text t) _ f)
    (all-append (braces_among braces (count + 1)) (behind braces (count + 1) texts) (plain_among braces (count + 1) e)
    (plain_behind braces (count + 1) texts e (both_second (is_plain_text t) _ f)))

plain_with : (braces : List Brace) (texts : List (List ℕ)) → plain_braces braces → are_plain texts → are_plain (with_braces braces texts)
plain_with braces texts e f = all-append (braces_among braces 0) (behind braces 0 texts) (plain_among braces 0 e) (plain_behind braces 0 texts e f)

plain_at : (braces : List Brace) (t : ℕ) (after : Bool) → plain_braces braces → plain_braces (braces_at braces t after)
plain_at [] t after e = refl
plain_at (b ∷ braces) t after e =
    let rest = plain_at braces t after (both_second (is_plain_text b.text) _ e) in
    elim (brace_number b == spot_number (spot t after)) as (λ x. plain_braces (if x then b ∷ braces_at braces t after else braces_at braces t after)) [
      | true ↦ both _ _ (both_first (is_plain_text b.text) _ e) rest
      | false ↦ rest
    ]

-- which place a brace has
place_is : (b : Bool) (n t : ℕ) (after : Bool) → spot_number (spot n b) ≡ spot_number (spot t after) → (b ≡ after) × (n ≡ t)
place_is true n t true e = (refl, omega arith)
place_is true n t false e = absurd (omega arith)
place_is false n t true e = absurd (omega arith)
place_is false n t false e = (refl, omega arith)

none_at : (pieces : List TextPiece) (braces : List Brace) (t : ℕ) (after : Bool) → list_all (λ b. not (is_behind_stray pieces b)) braces ≡ true
    → (if after then get_or (strays pieces) t false else get_or (behind_strays false pieces) t false) ≡ true → braces_at braces t after ≡ []
none_at pieces [] t after e on = refl
none_at pieces (b ∷ braces) t after e on =
    by (brace_number b == spot_number (spot t after)) refl (none_at pieces braces t after (both_second (not (is_behind_stray pieces b)) _ e) on)
  where
    by : (x : Bool) → (brace_number b == spot_number (spot t after)) ≡ x → braces_at braces t after ≡ []
        → (if x then b ∷ braces_at braces t after else braces_at braces t after) ≡ []
    by true is rest =
        let place = place_is b.after b.token t after ((Decides-eqb (brace_number b) (spot_number (spot t after))).0 is) in
        let stray : is_behind_stray pieces b ≡ true =
        (λ i. if place.0 i then get_or (strays pieces) (place.1 i) false else get_or (behind_strays false pieces) (place.1 i) false) ∙ on in
        absurd (false≢true (sym (ap not stray) ∙ both_first (not (is_behind_stray pieces b)) _ e))
    by false is rest = rest

-- a side of a token without inserts

nil_left : (xs ys : List (List ℕ)) → xs ++ ys ≡ [] → (xs ≡ []) × (ys ≡ [])
nil_left [] ys e = (refl, e)
nil_left (x ∷ xs) ys e = absurd cc

module _ (depths : List ℕ) (side : Side) (t : ℕ) (place : Spot) where
  none_in : (edit k : ℕ) (is : List Insert) → texts_in side t is ≡ [] → inserts_in depths side t place edit k is ≡ []
  none_in edit k [] e = refl
  none_in edit k (i ∷ is) e = by (i.token == t && side_number i.side == side_number side) e (none_in edit (k + 1) is)
    where
      by : (x : Bool) → (if x then i.text ∷ texts_in side t is else texts_in side t is) ≡ []
          → (texts_in side t is ≡ [] → inserts_in depths side t place edit (k + 1) is ≡ [])
          → (if x then (let p : Placed = record { spot = place; edit = edit; insert = k; depth = get_or depths edit 0 } in p)
          ∷ inserts_in depths side t place edit (k + 1) is else inserts_in depths side t place edit (k + 1) is) ≡ []
      by true f more = absurd cc
      by false f more = more f

  none_from : (edit : ℕ) (es : List Edit) → inserted side t es ≡ [] → inserts_from depths side t place edit es ≡ []
  none_from edit [] e = refl
  none_from edit (x ∷ es) e =
      let two = nil_left (texts_in side t x.inserts) (inserted side t es) e in
      λ i. none_in edit 0 x.inserts two.0 i ++ none_from (edit + 1) es two.1 i

none_deepest : (d : ℕ) → deepest_from d [] ≡ []
none_deepest zero = refl
none_deepest (suc d) = none_deepest d

pub fair_suits : (pieces : List TextPiece) (edits : List Edit) (frame : Frame) → TidyFair pieces edits frame
    → Suits pieces edits (joints edits frame.gone pieces) frame.braces (placement_of pieces edits frame)
fair_suits pieces edits frame fair =
    let joined = joints edits frame.gone pieces in
    let depths = frame.depths in
    let before = λ (t : ℕ) (gone : Bool). placed_texts edits (inserts_before edits depths gone (get_or joined t false) t (drop (t + 1) joined)) in
    let after = λ (t : ℕ) (gone : Bool). placed_texts edits (inserts_after edits depths gone t) in
    record {
      goes = λ t. refl;
      joins = λ t. refl;
      befores = λ t. added_new (with_braces (braces_at frame.braces t false) (before t (is_removed t edits)))
          (plain_with (braces_at frame.braces t false) (before t (is_removed t edits)) (plain_at frame.braces t false fair.plain)
          (plain_placed edits (inserts_before edits depths (is_removed t edits) (get_or joined t false) t (drop (t + 1) joined)) fair.fair.inserts));
      afters = λ t. added_new (with_braces (braces_at frame.braces t true) (after t (is_removed t edits)))
          (plain_with (braces_at frame.braces t true) (after t (is_removed t edits)) (plain_at frame.braces t true fair.plain)
          (plain_placed edits (inserts_after edits depths (is_removed t edits) t) fair.fair.inserts));
      none_before = λ t on stands.
          (λ i. added (with_braces (none_at pieces frame.braces t false fair.braces on i) (before t (stands.0 i))))
          ∙ (λ i. added (with_braces [] (placed_texts edits (none_from depths Before t (spot t false) 0 edits stands.1 i))));
      none_after = λ t on none.
          ap (λ (bs : List Brace). added (with_braces bs (after t (is_removed t edits)))) (none_at pieces frame.braces t true fair.braces on)
          ∙ none_there t none (is_removed t edits);
    }
  where
    none_there : (t : ℕ) → inserted After t edits ≡ [] → (gone : Bool)
        → added (with_braces [] (placed_texts edits (inserts_after edits frame.depths gone t))) ≡ []
    none_there t none true = refl
    none_there t none false =
        (λ i. added (with_braces [] (placed_texts edits
        (deepest_from (fold max 0 frame.depths) (none_from frame.depths After t (spot t true) 0 edits none i)))))
        ∙ ap (λ (ps : List Placed). added (with_braces [] (placed_texts edits ps))) (none_deepest (fold max 0 frame.depths))
