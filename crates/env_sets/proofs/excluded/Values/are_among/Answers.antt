use Rattle.std.proofs.Common.{sym, ap, ◌∙◌}
use Rattle.std.specs.List.{list_any, list_all}
use Rattle.smpl_terms.specs.Values.{same}
use Rattle.smpl_terms.specs.declared.value.Value.{Value}
use Rattle.env_sets.proofs.RunLemmas.{all-all_of}
use Rattle.env_sets.proofs.excluded.Values.are_among.Goals as goal

pub returns-then-all_among : goal.returns-then-all_among
returns-then-all_among c = λ h.
    let known = λ (v : Value). list_any (λ w. same w v) c.args.others.now in
    ap (list_all known) (sym c.self.view_is)
    ∙ all-all_of known c.self.inside.runs.first c.self.inside.runs.rest
    (ap (list_all known) (sym c.as_slice.ensures.items) ∙ sym c.all_among.ensures ∙ c.if-all_among.true)
    (ap (list_all (λ ws. list_all known ws)) (sym c.as_slice-then-all_among.ensures.items) ∙ sym c.runs_among.ensures ∙ h)
