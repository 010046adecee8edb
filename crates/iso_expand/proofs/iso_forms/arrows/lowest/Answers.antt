use Rattle.std.proofs.Common.{◌≡◌, ◌+◌, ℕ, false, true, get_or, sym, subst, arith}
use Rattle.std.proofs.lemmas.Grind.{common_steps}
use Rattle.iso_expand.proofs.IsoForms.ArrowLemmas.{Leads, leads_more, leads_anew, is_lowest}
use Rattle.iso_expand.proofs.iso_forms.arrows.lowest.Goals as goal
use Rattle.iso_expand.proofs.iso_forms.arrows.lowest.Goals.{then-not-both-k, else-not-both-k}

pub loop-k-preserved : goal.loop-k-preserved
loop-k-preserved c =
    let both = c.args.both.now in
    let k = c.loop-k.k in
    elim c.if-not-both-k.branch [
      | then-not-both-k w ↦
          let f = w.if-not-both-k.true in
          let b : get_or both k false ≡ false = grind (arith, common_steps) in
          subst (λ (x : ℕ). Leads both (k + 1) x) (sym w.low-is) (leads_anew both k c.loop-k.low (omega arith) b)
      | else-not-both-k w ↦
          let f = w.if-not-both-k.false in
          let b : get_or both k false ≡ true = grind (arith, common_steps) in
          subst (λ (x : ℕ). Leads both (k + 1) x) (sym w.low-is) (leads_more both k c.loop-k.low (omega arith) c.loop-k.invariant b)
    ]

pub returns : goal.returns
returns c = is_lowest c.args.both.now c.args.i c.loop-k.k c.loop-k.low (omega arith) (λ h. omega arith) (omega arith) c.loop-k.invariant
