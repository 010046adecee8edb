-- What is aligned, as touches.
use Rattle.std.proofs.Common.{◌≡◌, ℕ, true, cond, refl, sym, ap, ◌∙◌, List, [], ◌∷◌, map, Some}
use Rattle.std.specs.Prelude.{slice_get}
use Rattle.c_types.specs.Tables.{ItemTypes}
use Rattle.cfg_build.specs.declared.cfg_graph.label.NodeLabel.{NodeLabel}
use Rattle.cfg_build.specs.CfgGraph.Flow.{Flow}
use Rattle.smpl_terms.specs.Environments.{Environment}
use Rattle.smpl_patch.specs.declared.pattern.VarDecl.{VarDecl}
use Rattle.smpl_patch.specs.declared.pattern.PatToken.{PatToken}
use Rattle.smpl_patch.specs.declared.pattern.Pattern.{Pattern}
use Rattle.smpl_patch.specs.declared.witness.Witness.TheVariants.{Touch}
use Rattle.pat_match.specs.declared.aligning.Alignment.{Alignment}
use Rattle.pat_match.specs.Matching.{aligns}
use Rattle.wit_forest.specs.WitTrees.Marks.{is_touched}
use Rattle.wit_forest.specs.WitTrees.Graphs.{paths_at}
use Rattle.wit_forest.specs.WitSteps.Touches.{touches_of}

mapped : (s n : ℕ) (places : List Alignment) → map (λ a. Touch s n a.path) places ≡ map (λ path. Touch s n path) (map (λ a. a.path) places)
mapped s n [] = refl
mapped s n (a ∷ places) = ap (λ ws. Touch s n a.path ∷ ws) (mapped s n places)

pub touches_are : (decls' decls : List VarDecl) (tokens'' tokens' tokens : List PatToken) (types : ItemTypes) (g : Flow) (p : Pattern) (s : ℕ)
    (env : Environment) (l : NodeLabel) (places : List Alignment)
    → decls' ≡ decls → tokens'' ≡ tokens → tokens' ≡ tokens → types ≡ g.types → true ≡ is_touched tokens'' p → slice_get g.labels s ≡ Some l
    → places ≡ aligns decls' tokens' types env p l
    → map (λ a. Touch s p.atom a.path) places ≡ touches_of decls tokens g p s env
touches_are decls' decls tokens'' tokens' tokens types g p s env l places d t u k h e is =
    let all : places ≡ aligns decls tokens g.types env p l = is ∙ (λ i. aligns (d i) (u i) (k i) env p l) in
    let touched : true ≡ is_touched tokens p = h ∙ ap (λ ts. is_touched ts p) t in
    let there = sym e in
    ap (map (λ a. Touch s p.atom a.path)) all ∙ mapped s p.atom (aligns decls tokens g.types env p l)
    ∙ (λ i. map (λ path. Touch s p.atom path) (cond (touched i) (paths_at decls tokens g.types p env (there i)) []))
