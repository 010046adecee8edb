use Rattle.std.proofs.Common.{◌≡◌, ◌+◌, ◌-◌, ap, sym, ◌∙◌, drop, arith}
use Rattle.smpl_patch.specs.Patterns.{declared_as}
use Rattle.pattern_vars.specs.Index.{number_in, at}
use Rattle.pattern_vars.proofs.IndexLemmas.{finds-more, pairs}
use Rattle.pattern_vars.proofs.SetLemmas.{drop-end}
use Rattle.pattern_vars.proofs.decls.numbers_of.Goals as goal

pub loop-i-init : goal.loop-i-init
loop-i-init c = (
  omega arith,
  λ name. ap (λ es. at c.args.decls.now (number_in (pairs (λ k. k.items) es) name)) c.new-numbers.ensures.empty
      ∙ ap (λ ds. declared_as ds name) (sym (drop-end c.args.decls.now)),
)

pub loop-i-preserved : goal.loop-i-preserved
loop-i-preserved c =
    let n : c.loop-i.i - 1 + 1 ≡ c.loop-i.i = omega (arith, c.loop-i-test.true) in
    let decls = c.args.decls.now in (
      omega (arith, c.loop-i.invariant.0),
      finds-more (pairs (λ k. k.items) c.loop-i.numbers.entries) (pairs (λ k. k.items) c.put_number.new.numbers.entries) decls (c.loop-i.i - 1)
          c.index-decls-i.result (omega (arith, c.loop-i.invariant.0, n)) c.index-decls-i.is c.in_ok-put_number.ensures
          (λ name. c.loop-i.invariant.1 name ∙ ap (λ k. declared_as (drop k decls) name) (sym n)),
    )

pub returns : goal.returns
returns c name =
    let z : c.loop-i.i ≡ 0 = omega (arith, c.loop-i-test.false) in
    c.loop-i.invariant.1 name ∙ ap (λ k. declared_as (drop k c.args.decls.now) name) z
