use Rattle.std.proofs.Common.{refl, ap, ◌∙◌, ◌+◌, ◌++◌, ◌∷◌, [], get_or, arith}
use Rattle.smpl_terms.specs.declared.var.Var.{Var}
use Rattle.pattern_vars.proofs.VarPlaces.OrderedLemmas.{so_far-is, so_far-more, so_far-again, so_far-end}
use Rattle.pattern_vars.proofs.var_places.ordered.at_places.Goals as goal
use Rattle.pattern_vars.proofs.var_places.ordered.at_places.Goals.{then-next-i+in_ok-copy+in_ok-push, else-next-i}

pub loop-i-preserved : goal.loop-i-preserved
loop-i-preserved c =
    let vars = c.args.vars.now in
    let places = c.args.places.now in
    let k = c.loop-i.i-index in
    let i = get_or places k 0 in
    let next = c.loop-i.next in
    let found = c.loop-i.found in
    elim c.if-next-i.branch [
      | then-next-i+in_ok-copy+in_ok-push w ↦
          so_far-is vars places (k + 1) _ _ _ _ w.next-is
          (w.found-is ∙ w.in_ok-push.ensures.ok ∙ ap (λ (x : Var). found ++ x ∷ []) w.in_ok-copy.ensures.same)
          (so_far-more vars places c.requires.in_order k i next found w.index-vars-i.result c.loop-i-test.true refl
          w.if-next-i.true (c.requires.within k 0 c.loop-i-test.true) w.index-vars-i.is c.loop-i.invariant)
      | else-next-i w ↦
          so_far-is vars places (k + 1) _ _ _ _ w.next-is w.found-is
          (so_far-again vars places c.requires.in_order k i next found c.loop-i-test.true refl w.if-next-i.false
          c.loop-i.invariant)
    ]

pub returns : goal.returns
returns c =
    so_far-end c.args.vars.now c.args.places.now c.loop-i.i-index c.loop-i.next c.loop-i.found (omega arith)
    c.loop-i.invariant
