-- The items in which a rule may find something, and the graphs that they are lent.
use Rattle.std.proofs.Common.{◌≡◌, ◌<◌, ℕ, refl, sym, ap, subst, ◌∙◌, arith, Bool, true, false, cond, Bor, Option, None, List, length, get_or}
use Rattle.cpp_lines.specs.declared.reading.Item.{Item}
use Rattle.cfg_build.specs.CfgGraph.Flow.{Flow}
use Rattle.smpl_patch.specs.Wants.{ask_types}
use Rattle.smpl_patch.specs.declared.rule.Rule.{Rule}
use Rattle.env_parts.specs.Parts.{Pairs}
use Rattle.rule_chain.specs.FileWitnesses.Seen.{seen_graph}
use Rattle.rule_chain.specs.FileWitnesses.Found.{witnesses_in}
use Rattle.rule_chain.specs.FileWitnesses.Chosen.{FindsNothing, AreChosen}
use Rattle.rule_chain.specs.FileWitnesses.Lent.{lent_graph, AreChosenGraphs, AreLent}

-- an item without a graph
pub no_graph : (rule : Rule) (items : List Item) (i : ℕ) → None ≡ seen_graph rule items i → FindsNothing rule items i
no_graph rule items i is = λ number env. ap (λ (o : Option Flow). witnesses_in number rule i o env) (sym is)

-- with the graphs that are lent the same is found
pub chosen_lent : (rule : Rule) (items : List Item) (chosen : List Bool) (graphs : List (Option (Bor Flow))) → AreChosen rule items chosen
    → AreChosenGraphs (ask_types rule.vars) items chosen graphs → AreLent rule items graphs
chosen_lent rule items chosen graphs are own = record {
  count = own.count ∙ are.count;
  each = λ i lt number env. let low : i < length chosen = omega (arith, lt, are.count) in one i low number env (get_or chosen i false) refl;
}
  where
    one : (i : ℕ) → i < length chosen → (number : ℕ) (env : Pairs) (b : Bool) → get_or chosen i false ≡ b
        → witnesses_in number rule i (lent_graph graphs i) env ≡ witnesses_in number rule i (seen_graph rule items i) env
    one i low number env true is =
        ap (λ o. witnesses_in number rule i o env) (own.each i low ∙ ap (λ b. cond b (seen_graph rule items i) None) is)
    one i low number env false is =
        ap (λ o. witnesses_in number rule i o env) (own.each i low ∙ ap (λ b. cond b (seen_graph rule items i) None) is)
        ∙ sym (are.nothing i low is number env)

-- likewise for lists that are the same, with types as the rule asks for them
pub seen_lent : (rule : Rule) (items now : List Item) (typed : Bool) (chosen asked : List Bool) (graphs lent : List (Option (Bor Flow)))
    → AreChosen rule items chosen → AreChosenGraphs typed now asked graphs → typed ≡ ask_types rule.vars → now ≡ items → asked ≡ chosen
    → lent ≡ graphs → AreLent rule items lent
seen_lent rule items now typed chosen asked graphs lent are own asks same those these =
    let one = subst (λ (b : Bool). AreChosenGraphs b now asked graphs) asks own in
    let two = subst (λ (ps : List Item). AreChosenGraphs (ask_types rule.vars) ps asked graphs) same one in
    let three = subst (λ (bs : List Bool). AreChosenGraphs (ask_types rule.vars) items bs graphs) those two in
    let four = subst (λ (gs : List (Option (Bor Flow))). AreChosenGraphs (ask_types rule.vars) items chosen gs) (sym these) three in
    chosen_lent rule items chosen lent are four
