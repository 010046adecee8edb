use Rattle.std.proofs.Common.{◌≡◌, ap, ◌∙◌, List, []}
use Rattle.edit_unparse.specs.declared.tidy.parts.Brace.{Brace}
use Rattle.edit_unparse.specs.Output.{added}
use Rattle.edit_unparse.specs.Tidy.Fallen.{insert_origins}
use Rattle.edit_unparse.specs.Tidy.Spots.{placed_texts}
use Rattle.edit_unparse.specs.Tidy.Text.{braces_at, with_braces}
use Rattle.edit_unparse.proofs.Oks.{ok_more}
use Rattle.edit_unparse.proofs.tidy.pieces.put_at.Goals as goal

pub returns-clause-parts : goal.returns-clause-parts
returns-clause-parts c = λ pieces.
    ok_more c.put_side.result _ _ _ _ (c.put_side.ensures.parts pieces)
    (λ i. added (with_braces (c.braces_at-own.ensures i) (placed_texts c.args.sources.now.edits.now (c.at-inserts.ensures i))))

pub returns-clause-origins : goal.returns-clause-origins
returns-clause-origins c = λ e.
    let none : c.braces_at-own.result.now ≡ [] =
    c.braces_at-own.ensures ∙ ap (λ (l : List Brace). braces_at l c.args.token c.args.after) e in
    ok_more c.put_side.result _ _ _ _ (c.put_side.ensures.origins none) (ap (insert_origins c.args.sources.now.edits.now) c.at-inserts.ensures)
