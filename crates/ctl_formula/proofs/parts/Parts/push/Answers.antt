use Rattle.std.proofs.Common.{◌≡◌, length, sym, ap, ◌∙◌, arith, List, [], ◌∷◌, ◌++◌}
use Rattle.std.proofs.lemmas.List.{length-map}
use Rattle.ctl_formula.specs.declared.node.Node.{Node}
use Rattle.ctl_formula.specs.declared.parts.Part.{Part}
use Rattle.ctl_formula.specs.Counted.{nodes_of}
use Rattle.ctl_formula.specs.Tables.{ordered, Stands}
use Rattle.ctl_formula.proofs.TableLemmas.{made-found, made-at_end}
use Rattle.ctl_formula.proofs.parts.Parts.push.Goals as goal

pub returns-in-Some-clause-made : goal.returns-in-Some-clause-made
returns-in-Some-clause-made c =
    let s : Stands c.args.self.now c.in-Some.i c.args.node = c.in-Some.ensures in
    made-found c.args.self.now c.in-Some.i c.args.node (ap ordered (sym c.self.view_is) ∙ c.self.invariant.in_order)
    s.within s.is

pub returns-clause-made : goal.returns-clause-made
returns-clause-made c =
    let n : length (nodes_of c.self.inside.parts.items) ≡ length c.self.inside.parts.items = length-map
    c.self.inside.parts.items (λ (p : Part). p.node) in
    let m : length (nodes_of c.self.inside.parts.items) ≡ length c.args.self.now = ap length c.self.view_is in
    let i : c.len-i.result ≡ length c.args.self.now = omega (arith, n, m) in
    made-at_end c.args.self.now c.put.new.self c.args.node c.len-i.result i (c.in_ok-put.ensures.ok
    ∙ ap (λ (z : List Node). z ++ c.args.node ∷ []) c.remember.ensures.same)
