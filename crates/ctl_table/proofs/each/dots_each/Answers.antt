use Rattle.std.proofs.Common.{◌∙◌, ap, sym, subst, length, ◌++◌, List}
use Rattle.std.specs.Option.{option_copied}
use Rattle.std.proofs.lemmas.Result.{IfOk-weaker}
use Rattle.smpl_patch.specs.declared.elem.Dots.{out-Dots}
use Rattle.smpl_patch.proofs.BodyLemmas.{dots_of}
use Rattle.ctl_formula.specs.Plain.{Plain}
use Rattle.ctl_formula.specs.Tables.{plains}
use Rattle.ctl_formula.proofs.TableLemmas.{grows-trans}
use Rattle.ctl_table.specs.Table as table
use Rattle.ctl_table.specs.declared.follow.DotsContinuation.{DotsContinuation}
use Rattle.ctl_table.specs.Settings.{setting_at, element_or_none, all_below, parts_at, dots_below, next_of, dots_before, MakesFollows}
use Rattle.ctl_table.proofs.MakingLemmas.{all-stand, all-stay, both-true}
use Rattle.ctl_table.proofs.FollowLemmas.{nest-stands}
use Rattle.ctl_table.proofs.MadeLemmas.{dots-any, dots-strict}
use Rattle.ctl_table.proofs.EachLemmas.{nexts-stand}
use Rattle.ctl_table.proofs.SuffixLemmas.{dots-whole}
use Rattle.ctl_table.proofs.each.dots_each.Goals as goal

pub staying-requires : goal.staying-requires
staying-requires c = ap (all_below (length c.args.parts.now)) c.as_slice.ensures.value ∙ c.requires.whens

pub each_dots-requires-clause-d : goal.each_dots-requires-clause-d
each_dots-requires-clause-d c =
    let a = c.args.parts.now in
    let a1 = c.staying.new.parts in
    let b = c.after_dots.new.parts in
    let n = length b in
    let g = c.in_ok-after.ensures.made.grows in
    ap (dots_below n) c.in_ok-made.ensures.value
    ∙ both-true _ _ (both-true _ _ (all-stand a1 b c.in_ok-firsts.firsts.items g c.in_ok-firsts.ensures.made.within) c.in_ok-after.ensures.made.within)
    (nest-stands a b c.args.nest (grows-trans a a1 b c.in_ok-firsts.ensures.made.grows g) c.requires.nest)

pub each_dots-requires-clause-nexts : goal.each_dots-requires-clause-nexts
each_dots-requires-clause-nexts c =
    nexts-stand c.args.parts.now c.after_dots.new.parts c.args.nexts.now
    (grows-trans c.args.parts.now c.staying.new.parts c.after_dots.new.parts c.in_ok-firsts.ensures.made.grows
    c.in_ok-after.ensures.made.grows) c.requires.nexts

pub returns : goal.returns
returns c =
    let m = setting_at c.args.m.now in
    let a = c.args.parts.now in
    let a1 = c.staying.new.parts in
    let b = c.after_dots.new.parts in
    let after = element_or_none (option_copied c.args.after) in
    let any = (out-Dots c.args.d.now).any in
    let strict = (out-Dots c.args.d.now).strict in
    let firsts = table.stays m.around ++ parts_at a c.args.whens.items in
    let g = c.in_ok-after.ensures.made.grows in
    let d : DotsContinuation = record {
      firsts = c.in_ok-firsts.firsts;
      any = any;
      strict = strict;
      after = c.in_ok-after.after;
      nest = c.args.nest;
      here = c.in_ok-here.here;
    } in
    record {
      made = IfOk-weaker c.each_dots.result _ _
          (λ fs h. dots-whole m a b c.each_dots.new.parts d firsts after c.args.place.now (dots_of c.args.d.now).any
          (dots_of c.args.d.now).strict c.args.nexts.now fs.items
          (grows-trans a a1 b c.in_ok-firsts.ensures.made.grows g)
          (all-stay a1 b c.in_ok-firsts.firsts.items g c.in_ok-firsts.ensures.made.within ∙ c.in_ok-firsts.ensures.made.are
          ∙ ap (λ z. table.stays m.around ++ parts_at a z) c.as_slice.ensures.value)
          c.requires.nest c.requires.nexts (c.in_ok-here.ensures ∙ c.as_slice-2.ensures) (sym (dots-any c.args.d.now)) (sym (dots-strict c.args.d.now))
          c.in_ok-after.ensures.made.is
          (subst (λ (z : DotsContinuation). MakesFollows m b c.each_dots.new.parts c.args.nexts.now fs.items (λ n. table.Dots)
          (λ n. dots_before (plains b) m z (next_of (plains b) m n) c.args.place.now.scope)) c.in_ok-made.ensures.value h))
          c.each_dots.ensures.made;
    }
