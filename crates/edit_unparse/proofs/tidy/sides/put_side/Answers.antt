use Rattle.std.proofs.Common.{◌≤◌, ◌<◌, ◌+◌, ap, ◌∙◌, sym, arith, List, ◌++◌, append_assoc, drop, length}
use Rattle.std.proofs.lemmas.List.{drop_all, drop_more}
use Rattle.edit_unparse.specs.declared.tidy.plan.Placed.{Placed}
use Rattle.std.specs.Prelude.{Option}
use Rattle.edit_unparse.specs.declared.tidy.parts.Origin.{Origin}
use Rattle.edit_unparse.specs.Output.{Part, added}
use Rattle.edit_unparse.specs.Tidy.Fallen.{insert_origins}
use Rattle.edit_unparse.specs.Tidy.Made.{origins_in, parts_in}
use Rattle.edit_unparse.specs.Tidy.Spots.{placed_texts}
use Rattle.edit_unparse.specs.Tidy.Text.{behind, braces_among}
use Rattle.edit_unparse.proofs.MadeLemmas.{added-append, parts_end}
use Rattle.edit_unparse.proofs.OriginLemmas.{end_of, more_of}
use Rattle.edit_unparse.proofs.tidy.sides.put_side.Goals as goal

pub loop-placed-preserved : goal.loop-placed-preserved
loop-placed-preserved c =
    let inserts = c.args.inserts.now in
    let i = c.loop-placed.placed-index in
    let within : i < length inserts = omega arith in
    record {
      few = omega (arith, c.in_ok-count.ensures.next, c.loop-placed.invariant.few);
      parts = λ pieces.
          c.in_ok-count.ensures.parts pieces (drop (i + 1) inserts)
          ∙ ap (λ (l : List Placed). parts_in pieces c.loop-placed.made.items
          ++ added (behind c.args.braces.now c.loop-placed.count (placed_texts c.args.edits.now l)))
          (sym (drop_more inserts i _ within))
          ∙ c.loop-placed.invariant.parts pieces;
      origins = λ e. more_of (origins_in c.loop-placed.made.items) (origins_in c.put_insert.new.made.items) _ _ _ _
          (c.in_ok-count.ensures.origins e) (ap (insert_origins c.args.edits.now) (drop_more inserts i _ within)) (c.loop-placed.invariant.origins e);
    }

pub returns-clause-parts : goal.returns-clause-parts
returns-clause-parts c = λ pieces.
    let inserts = c.args.inserts.now in
    let i = c.loop-placed.placed-index in
    let past : length inserts ≤ i = omega arith in
    let texts = behind c.args.braces.now 0 (placed_texts c.args.edits.now inserts) in
    parts_end (parts_in pieces c.loop-placed.made.items) _
    (added (behind c.args.braces.now c.loop-placed.count (placed_texts c.args.edits.now (drop i inserts))))
    (ap (λ (l : List Placed). added (behind c.args.braces.now c.loop-placed.count (placed_texts c.args.edits.now l))) (drop_all i inserts past))
    (c.loop-placed.invariant.parts pieces)
    ∙ ap (λ (l : List Part). l ++ added texts) (c.in_ok-put_braces.ensures.parts pieces)
    ∙ append_assoc (parts_in pieces c.args.made.now.items) (added (braces_among c.args.braces.now 0)) (added texts)
    ∙ ap (λ (l : List Part). parts_in pieces c.args.made.now.items ++ l) (sym (added-append (braces_among c.args.braces.now 0) texts))

pub returns-clause-origins : goal.returns-clause-origins
returns-clause-origins c = λ e.
    let inserts = c.args.inserts.now in
    let i = c.loop-placed.placed-index in
    let past : length inserts ≤ i = omega arith in
    end_of (origins_in c.loop-placed.made.items) _ (insert_origins c.args.edits.now (drop i inserts))
    (ap (insert_origins c.args.edits.now) (drop_all i inserts past)) (c.loop-placed.invariant.origins e)
    ∙ ap (λ (l : List (Option Origin)). l ++ insert_origins c.args.edits.now inserts) (ap origins_in (c.in_ok-put_braces.ensures.none e))
