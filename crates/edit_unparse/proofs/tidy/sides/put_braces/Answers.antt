use Rattle.std.proofs.Common.{◌≡◌, ◌<◌, ◌≤◌, ◌==◌, ◌+◌, ap, ◌∙◌, sym, arith, List, [], ◌∷◌, drop, length}
use Rattle.std.specs.Prelude.{if◌then◌else◌}
use Rattle.std.proofs.lemmas.List.{drop_all, drop_more}
use Rattle.edit_unparse.specs.declared.tidy.parts.Brace.{Brace}
use Rattle.edit_unparse.specs.Output.{added}
use Rattle.edit_unparse.specs.Tidy.Made.{parts_in}
use Rattle.edit_unparse.specs.Tidy.Text.{braces_among}
use Rattle.edit_unparse.proofs.MadeLemmas.{among_step, parts_end, texts_more}
use Rattle.edit_unparse.proofs.tidy.sides.put_braces.Goals as goal

pub loop-brace-preserved : goal.loop-brace-preserved
loop-brace-preserved c =
    let braces = c.args.braces.now in
    let i = c.loop-brace.brace-index in
    let brace = c.brace-item.result in
    let within : i < length braces = omega arith in
    let here : drop i braces ≡ brace ∷ drop (i + 1) braces =
    drop_more braces i brace within ∙ ap (λ (b : Brace). b ∷ drop (i + 1) braces) (sym c.brace-item.is) in
    record {
      parts = λ pieces. texts_more (parts_in pieces c.loop-brace.made.items) (parts_in pieces c.put_brace.new.made.items) _
          (if brace.inserts == c.args.count then brace.text ∷ [] else []) (braces_among (drop i braces) c.args.count)
          (braces_among (drop (i + 1) braces) c.args.count)
          (c.in_ok-put_brace.ensures pieces)
          (ap (λ (l : List Brace). braces_among l c.args.count) here ∙ among_step brace (drop (i + 1) braces) c.args.count)
          (c.loop-brace.invariant.parts pieces);
      none = λ e. let empty : length braces ≡ 0 = ap length e in absurd (omega arith);
    }

pub returns-clause-parts : goal.returns-clause-parts
returns-clause-parts c = λ pieces.
    let past : length c.args.braces.now ≤ c.loop-brace.brace-index = omega arith in
    parts_end (parts_in pieces c.loop-brace.made.items) _ (added (braces_among (drop c.loop-brace.brace-index c.args.braces.now) c.args.count))
    (ap (λ (l : List Brace). added (braces_among l c.args.count)) (drop_all c.loop-brace.brace-index c.args.braces.now past))
    (c.loop-brace.invariant.parts pieces)
