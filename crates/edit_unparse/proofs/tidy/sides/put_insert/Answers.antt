use Rattle.std.proofs.Common.{ap, ◌∙◌, sym, refl, ℕ, List, ◌++◌}
use Rattle.std.specs.Prelude.{Option}
use Rattle.edit_unparse.specs.Output.{new_parts}
use Rattle.edit_unparse.specs.declared.tidy.parts.Origin.{Origin}
use Rattle.edit_unparse.specs.Tidy.Fallen.{origins_from, text_origins}
use Rattle.edit_unparse.specs.Tidy.Made.{origins_in, parts_in}
use Rattle.edit_unparse.proofs.MadeLemmas.{some_text}
use Rattle.edit_unparse.proofs.tidy.sides.put_insert.Goals as goal

pub returns-clause-parts : goal.returns-clause-parts
returns-clause-parts c = λ pieces rest.
    some_text c.args.edits.now c.args.braces.now c.args.count c.args.placed rest c.in-Some.text.now
    (parts_in pieces c.args.made.now.items) (parts_in pieces c.put_text.new.made.items) (parts_in pieces c.put_braces.new.made.items)
    (sym c.in-Some.ensures)
    (c.in_ok-put_text.ensures.parts pieces ∙ ap (λ (t : List ℕ). parts_in pieces c.args.made.now.items ++ new_parts t) c.as_bytes.ensures.bytes)
    (c.in_ok-put_braces.ensures.parts pieces)

pub returns-clause-origins : goal.returns-clause-origins
returns-clause-origins c = λ e.
    let placed = c.args.placed in
    let place : Origin = record { edit = placed.edit; insert = placed.insert; offset = 0 } in
    ap origins_in (c.in_ok-put_braces.ensures.none e)
    ∙ c.in_ok-put_text.ensures.origins place refl
    ∙ ap (λ (t : List ℕ). origins_in c.args.made.now.items ++ origins_from placed.edit placed.insert 0 (new_parts t)) c.as_bytes.ensures.bytes
    ∙ ap (λ (t : Option (List ℕ)). origins_in c.args.made.now.items ++ text_origins placed t) c.in-Some.ensures
