use Rattle.std.proofs.Common.{◌≡◌, ◌≤◌, ◌+◌, ◌-◌, ℕ, ap, ◌∙◌, arith, List, [], ◌∷◌, ◌++◌, length, length-drop, length-take, take, drop, subst}
use Rattle.std.specs.Prelude.{Option, Some}
use Rattle.std.proofs.lemmas.List.{take_rest, drop_all}
use Rattle.edit_unparse.specs.declared.tidy.parts.Origin.{Origin}
use Rattle.edit_unparse.specs.Output.{new_parts}
use Rattle.edit_unparse.specs.Tidy.Fallen.{origins_from}
use Rattle.edit_unparse.specs.Tidy.Made.{moved_to, origins_in, parts_in}
use Rattle.edit_unparse.proofs.MadeLemmas.{part_more, parts_end, parts_more}
use Rattle.edit_unparse.proofs.OriginLemmas.{end_of, more_of, origin_more}
use Rattle.edit_unparse.proofs.Pieces.{bare, cut_none, next_piece, piece_of}
use Rattle.edit_unparse.proofs.tidy.sides.put_text.Goals as goal

abbrev place_in : Origin → ℕ → Option Origin
place_in o offset = Some (record { edit = o.edit; insert = o.insert; offset = offset })

pub loop-at-preserved : goal.loop-at-preserved
loop-at-preserved c =
    let text = c.args.text.now in
    let at = c.loop-at.at in
    let kind = c.first_piece-kind.result.0 in
    let len = c.first_piece-kind.result.1 in
    let step = next_piece text at kind len c.loop-at.invariant.within c.first_piece-kind.ensures.some
    c.first_piece-kind.ensures.within c.first_piece-kind.ensures.first in
    let fits : len ≤ length (drop at text) = subst (λ (l : List ℕ). len ≤ length l) (take_rest text at) c.first_piece-kind.ensures.within in
    let next : at + length (take (at + len - at) (drop at text)) ≡ at + len = omega (arith, fits, length-take (at + len - at) (drop at text)) in
    record {
      within = omega (arith, c.loop-at.invariant.within, fits, length-drop at text);
      parts = λ pieces. parts_more (parts_in pieces c.loop-at.made.items) (parts_in pieces c.push.new.self.items) _
          (bare (piece_of kind (take (at + len - at) (drop at text))) ∷ []) (new_parts (drop at text)) (new_parts (drop (at + len) text))
          (part_more pieces _ _ _ c.in_ok-push.ensures.items
          ∙ (λ i. parts_in pieces c.loop-at.made.items ++ (bare (piece_of kind (c.in_ok-from_bytes.ensures.bytes i)) ∷ [])))
          step (c.loop-at.invariant.parts pieces);
      origins = λ o is. more_of (origins_in c.loop-at.made.items) (origins_in c.push.new.self.items) _ (place_in o at ∷ [])
          (origins_from o.edit o.insert at (new_parts (drop at text))) (origins_from o.edit o.insert (at + len) (new_parts (drop (at + len) text)))
          (origin_more _ _ _ (place_in o at) c.in_ok-push.ensures.items (c.moved.ensures ∙ ap (moved_to at) is))
          (ap (origins_from o.edit o.insert at) step
          ∙ ap (λ (k : ℕ). place_in o at ∷ origins_from o.edit o.insert k (new_parts (drop (at + len) text))) next)
          (c.loop-at.invariant.origins o is);
    }

pub returns-clause-parts : goal.returns-clause-parts
returns-clause-parts c = λ pieces.
    parts_end (parts_in pieces c.loop-at.made.items) _ (new_parts (drop c.loop-at.at c.args.text.now))
    (ap new_parts (drop_all c.loop-at.at c.args.text.now c.loop-at-test.false) ∙ cut_none) (c.loop-at.invariant.parts pieces)

pub returns-clause-origins : goal.returns-clause-origins
returns-clause-origins c = λ o is.
    end_of (origins_in c.loop-at.made.items) _ (origins_from o.edit o.insert c.loop-at.at (new_parts (drop c.loop-at.at c.args.text.now)))
    (ap (origins_from o.edit o.insert c.loop-at.at) (ap new_parts (drop_all c.loop-at.at c.args.text.now c.loop-at-test.false) ∙ cut_none))
    (c.loop-at.invariant.origins o is)
