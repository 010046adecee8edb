-- The parts that stay are those of the tidied text, and what a draft has written of them.
use Rattle.std.proofs.Common.{◌≡◌, ◌<◌, ℕ, Bool, refl, sym, ap, ◌∙◌, List, [], ◌++◌, length, fold, subst}
use Rattle.std.specs.Prelude.{None}
use Rattle.std.specs.List.{items_where_true}
use Rattle.std.proofs.lemmas.List.{append-nil}
use Rattle.c_lexer.specs.Pieces.{TextPiece, most_bytes, text_of}
use Rattle.c_lexer.specs.Ids.{ids_of}
use Rattle.edit_marks.specs.declared.edit_conflict.edit.Edit.{Edit}
use Rattle.edit_unparse.specs.declared.draft.Draft.{Draft}
use Rattle.edit_unparse.specs.declared.tidy.commas.CommaList.{CommaList}
use Rattle.edit_unparse.specs.declared.tidy.layout.Layout.{Layout}
use Rattle.edit_unparse.specs.declared.tidy.parts.Brace.{Brace}
use Rattle.edit_unparse.specs.declared.tidy.parts.TextPart.{TextPart}
use Rattle.edit_unparse.specs.declared.tidy.plan.Plan.{Plan}
use Rattle.edit_unparse.specs.Output.{Part, added, spaced}
use Rattle.edit_unparse.specs.Written.{Overflows, Writes, left}
use Rattle.tidy_flags.specs.Lines.{emptied}
use Rattle.edit_unparse.specs.Tidy.Text.{line_bytes, placement_of, tidied_parts, tidy_placed, token_pieces, with_commas}
use Rattle.edit_unparse.specs.Tidy.Plans.{IsPlan, placement_in}
use Rattle.edit_unparse.specs.Tidy.Made.{frame_of, parts_in}
use Rattle.edit_unparse.proofs.PieceLemmas.{same_text}
use Rattle.edit_unparse.proofs.PlanLemmas.{plan_agrees}

-- the parts that stay are those of the tidied text
pub parts_are : (pieces : List TextPiece) (edits all : List Edit) (layout : Layout) (plan : Plan) (made left : List Part) → all ≡ edits
    → IsPlan pieces edits layout.gone.items layout.depths.items plan
    → made ≡ tidy_placed (placement_in all plan) added layout.braces.items (emptied (line_bytes (placement_in all plan) 0 pieces)) 0 0 pieces
    → left ≡ fold (with_commas (placement_in all plan) plan.pieces.items) made layout.lists.items
    → left ≡ tidied_parts added pieces edits (frame_of layout)
parts_are pieces edits all layout plan made left same is made_is left_is =
    left_is
    ∙ ap (λ (ps : List Part). fold (with_commas (placement_in all plan) plan.pieces.items) ps layout.lists.items) made_is
    ∙ (λ i. fold (with_commas (placement_in (same i) plan) (is.pieces_are i))
    (tidy_placed (placement_in (same i) plan) added layout.braces.items (emptied (line_bytes (placement_in (same i) plan) 0 pieces)) 0 0 pieces)
    layout.lists.items)
    ∙ same_text (placement_in edits plan) (placement_of pieces edits (frame_of layout)) (length (token_pieces 0 pieces))
    (plan_agrees pieces edits layout.gone.items layout.depths.items plan is)
    layout.braces.items pieces layout.lists.items refl

-- the same of slices, whose lists are known by equations
pub stays_are : (pieces : List TextPiece) (edits all : List Edit) (layout : Layout) (plan : Plan) (braces : List Brace) (lists : List CommaList)
    (made parts : List TextPart) (kept stays : List Bool) → all ≡ edits → braces ≡ layout.braces.items → lists ≡ layout.lists.items → parts ≡ made
    → stays ≡ kept → IsPlan pieces edits layout.gone.items layout.depths.items plan
    → parts_in pieces made ≡ tidy_placed (placement_in all plan) added braces (emptied (line_bytes (placement_in all plan) 0 pieces)) 0 0 pieces
    → items_where_true kept (parts_in pieces parts) ≡ fold (with_commas (placement_in all plan) plan.pieces.items) (parts_in pieces parts) lists
    → items_where_true stays (parts_in pieces parts) ≡ tidied_parts added pieces edits (frame_of layout)
stays_are pieces edits all layout plan braces lists made parts kept stays same braces_are lists_are parts_is stays_is is made_is kept_is =
    parts_are pieces edits all layout plan (parts_in pieces parts) (items_where_true stays (parts_in pieces parts)) same is
    (ap (parts_in pieces) parts_is ∙ made_is
    ∙ ap (λ (bs : List Brace). tidy_placed (placement_in all plan) added bs (emptied (line_bytes (placement_in all plan) 0 pieces)) 0 0 pieces) braces_are)
    (ap (λ (fs : List Bool). items_where_true fs (parts_in pieces parts)) stays_is ∙ kept_is
    ∙ ap (fold (with_commas (placement_in all plan) plan.pieces.items) (parts_in pieces parts)) lists_are)

-- what a draft has that began with nothing
pub record Holds (next : ℕ) (parts : List Part) (d : Draft) : Type 0 where
  pub bytes : d.bytes.items ≡ text_of (spaced None next parts)
  pub ids : d.ids.items ≡ ids_of (spaced None next parts)

pub holds_all : (next : ℕ) (old new : Draft) (parts all : List Part) → old.bytes.items ≡ [] → old.ids.items ≡ [] → old.next ≡ next → left old ≡ None
    → parts ≡ all → Writes old new parts → Holds next all new
holds_all next old new parts all bytes ids same none is writes = record {
  bytes = sym (append-nil new.bytes.items) ∙ writes.bytes []
      ∙ (λ i. bytes i ++ text_of (spaced (none i) (same i) ((append-nil parts ∙ is) i)));
  ids = sym (append-nil new.ids.items) ∙ writes.ids []
      ∙ (λ i. ids i ++ ids_of (spaced (none i) (same i) ((append-nil parts ∙ is) i)));
}

pub overflows_all : (next : ℕ) (old : Draft) (parts all : List Part) → old.bytes.items ≡ [] → old.next ≡ next → left old ≡ None → parts ≡ all
    → Overflows old parts → most_bytes < length (text_of (spaced None next all))
overflows_all next old parts all bytes same none is over =
    subst (λ (l : List ℕ). most_bytes < length l) (λ i. bytes i ++ text_of (spaced (none i) (same i) ((append-nil parts ∙ is) i))) (over.over [])
