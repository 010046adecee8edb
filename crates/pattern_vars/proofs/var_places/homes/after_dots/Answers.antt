use Rattle.std.proofs.Common.{◌≡◌, ◌<◌, ◌∙◌, ◌&&◌, not, ap, sym, subst, suc, true, false, arith, List, ◌∷◌, length, drop}
use Rattle.smpl_terms.specs.declared.var.Var.{Var}
use Rattle.smpl_patch.specs.declared.elem.Elem.{Elem}
use Rattle.smpl_patch.specs.Bodies.{body, element}
use Rattle.pattern_vars.specs.Reads.{has}
use Rattle.pattern_vars.specs.VarPlaces.Placing as placing
use Rattle.pattern_vars.specs.VarPlaces.Placing.{after_dots}
use Rattle.pattern_vars.specs.VarPlaces.Places.{reading_at}
use Rattle.pattern_vars.specs.VarPlaces.Homes.{AreHomes}
use Rattle.pattern_vars.proofs.VarPlaces.HomeLemmas.{dots-are, no-dots, dots-end, first-of}
use Rattle.pattern_vars.proofs.var_places.homes.after_dots.Goals as goal

pub returns-then-rest-eq0 : goal.returns-then-rest-eq0
returns-then-rest-eq0 c y = dots-end (reading_at c.args.reader.now) (element c.args.e.now) c.args.rest.now c.new.result y c.if-rest-eq0.true c.new.ensures

pub returns-then-not-counts : goal.returns-then-not-counts
returns-then-not-counts c y =
    let r = reading_at c.args.reader.now in
    let e = element c.args.e.now in
    let rest = c.args.rest.now in
    let n = c.index-rest-0.result in
    let some : 0 < length rest = omega arith in
    let no : (placing.is_dots e && not (placing.is_choice (element n))) ≡ false = sym c.counts_at-counts.ensures ∙ c.if-not-counts.true in
    ap (λ (vs : List Var). has vs y) c.new-then-not-counts.ensures ∙ no-dots r e (element n) (body (drop 1 rest)) y no
    ∙ ap (λ (es : List Elem). after_dots r e (body es) y) (first-of rest n some c.index-rest-0.is)

pub returns : goal.returns
returns c y =
    let r = reading_at c.args.reader.now in
    let e = element c.args.e.now in
    let rest = c.args.rest.now in
    let n = c.index-rest-0.result in
    let entries = c.args.homes.now.entries in
    let some : 0 < length rest = omega arith in
    let yes : (placing.is_dots e && not (placing.is_choice (element n))) ≡ true = sym c.counts_at-counts.ensures ∙ c.if-not-counts.false in
    let homes : AreHomes entries r (suc c.args.place) (body (n ∷ drop 1 rest)) =
    subst (λ (es : List Elem). AreHomes entries r (suc c.args.place) (body es)) (sym (first-of rest n some c.index-rest-0.is)) c.requires in
    dots-are r (suc c.args.place) e (element n) (body (drop 1 rest)) entries c.in_ok-near.near c.in_ok-found.found y yes homes
    (c.in_ok-near.ensures y) (c.in_ok-found.ensures y)
    ∙ ap (λ (es : List Elem). after_dots r e (body es) y) (first-of rest n some c.index-rest-0.is)
