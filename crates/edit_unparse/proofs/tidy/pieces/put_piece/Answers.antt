use Rattle.std.proofs.Common.{true, false, List, [], ◌∷◌, ◌++◌, ap, ◌∙◌, sym, drop, get_or}
use Rattle.std.specs.Prelude.{if◌then◌else◌}
use Rattle.c_lexer.specs.declared.piece.PieceKind.{PieceKind}
use Rattle.c_lexer.specs.declared.piece.PieceKind.TheVariants.{Blank}
use Rattle.c_lexer.specs.Pieces.{TextPiece}
use Rattle.tidy_flags.specs.Lines.{left_of_lines}
use Rattle.edit_unparse.specs.Output.{Part, added, kept, old_part}
use Rattle.edit_unparse.specs.Tidy.Fallen.{no_origins, origins_at}
use Rattle.edit_unparse.specs.Tidy.Plans.{placement_in, texts_there}
use Rattle.edit_unparse.specs.Tidy.Text.{braces_at, tidy_parts, unless_empty, with_braces}
use Rattle.edit_unparse.proofs.MadeLemmas.{piece_at}
use Rattle.edit_unparse.proofs.Oks.{ok_more}
use Rattle.edit_unparse.proofs.tidy.pieces.put_piece.Goals as goal

pub returns-in-Word-clause-parts : goal.returns-in-Word-clause-parts
returns-in-Word-clause-parts c = λ pieces p at is.
    let sources = c.args.sources.now in
    let here = c.args.here in
    ok_more c.put_word.result _ _ _ _ (c.put_word.ensures.parts pieces)
    (ap (λ (q : TextPiece). added (with_braces (braces_at sources.braces.now here.token false)
    (texts_there sources.edits.now sources.plan.now here.token false))
    ++ (kept (get_or sources.plan.now.removed.items here.token false) here.number q
    ++ added (with_braces (braces_at sources.braces.now here.token true) (texts_there sources.edits.now sources.plan.now here.token true))))
    (piece_at pieces here.number p at)
    ∙ ap (λ (k : PieceKind). tidy_parts (placement_in sources.edits.now sources.plan.now) added sources.braces.now k (drop here.at sources.flags.now)
    here.token here.number p) (sym c.in-Word.is))

pub returns-in-Blank-clause-parts : goal.returns-in-Blank-clause-parts
returns-in-Blank-clause-parts c = λ pieces p at is.
    let sources = c.args.sources.now in
    let here = c.args.here in
    let none : List Part = [] in
    ok_more c.put_left.result _ _ _ _ (c.put_left.ensures.parts pieces)
    (ap (λ (q : TextPiece). if get_or sources.plan.now.joined.items here.token false then none
    else unless_empty here.number Blank (left_of_lines (drop here.at sources.flags.now) q.text)) (sym is)
    ∙ ap (λ (k : PieceKind). tidy_parts (placement_in sources.edits.now sources.plan.now) added sources.braces.now k (drop here.at sources.flags.now)
    here.token here.number p) (sym c.in-Blank.is))

pub returns-in-Comment-clause-parts : goal.returns-in-Comment-clause-parts
returns-in-Comment-clause-parts c = λ pieces p at is.
    let sources = c.args.sources.now in
    let here = c.args.here in
    ok_more c.put_old.result _ _ _ _ (c.put_old.ensures.parts pieces)
    (ap (λ (q : TextPiece). old_part here.number q ∷ []) (piece_at pieces here.number p at)
    ∙ ap (λ (k : PieceKind). tidy_parts (placement_in sources.edits.now sources.plan.now) added sources.braces.now k (drop here.at sources.flags.now)
    here.token here.number p) (sym c.in-Comment.is))

pub returns-in-Line-clause-parts : goal.returns-in-Line-clause-parts
returns-in-Line-clause-parts c = λ pieces p at is.
    let sources = c.args.sources.now in
    let here = c.args.here in
    ok_more c.put_old-in-Line.result _ _ _ _ (c.put_old-in-Line.ensures.parts pieces)
    (ap (λ (q : TextPiece). old_part here.number q ∷ []) (piece_at pieces here.number p at)
    ∙ ap (λ (k : PieceKind). tidy_parts (placement_in sources.edits.now sources.plan.now) added sources.braces.now k (drop here.at sources.flags.now)
    here.token here.number p) (sym c.in-Line.is))

pub returns-in-Word-clause-origins : goal.returns-in-Word-clause-origins
returns-in-Word-clause-origins c = λ e p is.
    let sources = c.args.sources.now in
    let here = c.args.here in
    ok_more c.put_word.result _ _ _ _ (c.put_word.ensures.origins e p)
    (ap (λ (k : PieceKind). origins_at sources.edits.now sources.plan.now k (drop here.at sources.flags.now) here.token here.number p) (sym c.in-Word.is))

pub returns-in-Blank-clause-origins : goal.returns-in-Blank-clause-origins
returns-in-Blank-clause-origins c = λ e p is.
    let sources = c.args.sources.now in
    let here = c.args.here in
    let none : List Part = [] in
    ok_more c.put_left.result _ _ _ _ c.put_left.ensures.origins
    (ap (λ (q : TextPiece). no_origins (if get_or sources.plan.now.joined.items here.token false then none
    else unless_empty here.number Blank (left_of_lines (drop here.at sources.flags.now) q.text))) (sym is)
    ∙ ap (λ (k : PieceKind). origins_at sources.edits.now sources.plan.now k (drop here.at sources.flags.now) here.token here.number p) (sym c.in-Blank.is))

pub returns-in-Comment-clause-origins : goal.returns-in-Comment-clause-origins
returns-in-Comment-clause-origins c = λ e p is.
    let sources = c.args.sources.now in
    let here = c.args.here in
    ok_more c.put_old.result _ _ _ _ c.put_old.ensures.origins
    (ap (λ (k : PieceKind). origins_at sources.edits.now sources.plan.now k (drop here.at sources.flags.now) here.token here.number p) (sym c.in-Comment.is))

pub returns-in-Line-clause-origins : goal.returns-in-Line-clause-origins
returns-in-Line-clause-origins c = λ e p is.
    let sources = c.args.sources.now in
    let here = c.args.here in
    ok_more c.put_old-in-Line.result _ _ _ _ c.put_old-in-Line.ensures.origins
    (ap (λ (k : PieceKind). origins_at sources.edits.now sources.plan.now k (drop here.at sources.flags.now) here.token here.number p) (sym c.in-Line.is))
