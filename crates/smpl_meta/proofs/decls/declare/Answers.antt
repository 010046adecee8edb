use Rattle.std.proofs.Common.{[], List, Option, sym, ap, ◌∙◌}
use Rattle.smpl_patch.specs.declared.fault.PatchFault.{PatchFault}
use Rattle.smpl_patch.specs.Faults.{first_from}
use Rattle.smpl_meta.specs.declared.item.Item.{Item}
use Rattle.smpl_meta.specs.Forms.{parts}
use Rattle.smpl_meta.specs.Decls.{items_faults, items_of, form_faults, vars_of_items, IsDeclaredBy}
use Rattle.smpl_meta.proofs.FirstLemmas.{first_append}
use Rattle.smpl_meta.proofs.decls.declare.Goals as goal

pub returns : goal.returns
returns c =
    let earlier = c.args.earlier.now.heads in
    let ts = c.args.tokens.now in
    let p = c.in_ok-parsed.ensures.parsed in
    let declared : IsDeclaredBy earlier c.args.rule c.args.first ts (record { vars = c.in_ok-vars.vars; first = c.in_ok-first.first }) = record {
      answers = p.answers;
      read = p.read;
      vars_are = c.in_ok-vars.ensures ∙ ap (λ (l : List Item). vars_of_items earlier c.args.rule l) (c.as_slice-2.ensures ∙ p.items_are);
      first_is = c.in_ok-first.ensures
          ∙ (ap (λ (l : List Item). first_from c.in_ok-parsed.parsed.first (items_faults earlier [] l)) (c.as_slice.ensures ∙ p.items_are)
          ∙ (ap (λ (o : Option PatchFault). first_from o (items_faults earlier [] (items_of p.answers))) p.first_is
          ∙ sym (first_append c.args.first (form_faults (parts ts) p.answers) (items_faults earlier [] (items_of p.answers)))));
    } in
    record { declared = declared }
