-- Where the parts that the code has made are from, with those still to come.
use Rattle.std.proofs.Common.{◌≡◌, ◌+◌, ℕ, Bool, sym, ap, ◌∙◌, List, [], ◌∷◌, ◌++◌, append_assoc, drop, length}
use Rattle.std.specs.Prelude.{Option, Some, slice_get}
use Rattle.std.proofs.lemmas.List.{append-nil, drop-drop, map-append}
use Rattle.c_lexer.specs.Pieces.{TextPiece}
use Rattle.c_lexer.specs.Lexes.{id_after}
use Rattle.edit_marks.specs.declared.edit_conflict.edit.Edit.{Edit}
use Rattle.edit_unparse.specs.declared.tidy.parts.Origin.{Origin}
use Rattle.edit_unparse.specs.declared.tidy.parts.TextPart.{TextPart}
use Rattle.edit_unparse.specs.declared.tidy.plan.Plan.{Plan}
use Rattle.edit_unparse.specs.Tidy.Fallen.{origins, origins_at}
use Rattle.edit_unparse.specs.Tidy.Made.{origin_in, origins_in}
use Rattle.edit_unparse.specs.Tidy.Plans.{placement_in}
use Rattle.edit_unparse.specs.Tidy.Text.{bytes_at}
use Rattle.edit_unparse.proofs.MadeLemmas.{there}

-- one more part
pub origin_more : (old new : List TextPart) (x : TextPart) (o : Option Origin) → new ≡ old ++ x ∷ [] → origin_in x ≡ o
    → origins_in new ≡ origins_in old ++ o ∷ []
origin_more old new x o is from =
    ap origins_in is ∙ map-append origin_in old (x ∷ []) ∙ ap (λ (p : Option Origin). origins_in old ++ p ∷ []) from

-- some of what is to come
pub more_of : {A : Type 0} (old new all own rest left : List A) → new ≡ old ++ own → rest ≡ own ++ left → old ++ rest ≡ all → new ++ left ≡ all
more_of {A} old new all own rest left is split before =
    ap (λ (l : List A). l ++ left) is ∙ append_assoc old own left ∙ ap (λ (l : List A). old ++ l) (sym split) ∙ before

pub end_of : {A : Type 0} (old all rest : List A) → rest ≡ [] → old ++ rest ≡ all → old ≡ all
end_of {A} old all rest none before = sym (append-nil old) ∙ ap (λ (l : List A). old ++ l) (sym none) ∙ before

-- one piece more
pub origins_step : (edits : List Edit) (plan : Plan) (flags : List Bool) (pieces : List TextPiece) (from to i t u : ℕ) (p : TextPiece)
    → slice_get pieces i ≡ Some p
    → to ≡ from + length (bytes_at (placement_in edits plan) p.kind t p.text) → u ≡ id_after p.kind t
    → origins edits plan (drop from flags) t i (drop i pieces)
    ≡ origins_at edits plan p.kind (drop from flags) t i p ++ origins edits plan (drop to flags) u (i + 1) (drop (i + 1) pieces)
origins_step edits plan flags pieces from to i t u p here place next =
    let own = origins_at edits plan p.kind (drop from flags) t i p in
    let skipped : drop (length (bytes_at (placement_in edits plan) p.kind t p.text)) (drop from flags) ≡ drop to flags =
    drop-drop (length (bytes_at (placement_in edits plan) p.kind t p.text)) from flags ∙ ap (λ (k : ℕ). drop k flags) (sym place) in
    ap (origins edits plan (drop from flags) t i) (there pieces i p here)
    ∙ (λ j. own ++ origins edits plan (skipped j) (sym next j) (i + 1) (drop (i + 1) pieces))
