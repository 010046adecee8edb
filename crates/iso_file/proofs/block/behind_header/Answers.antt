use Rattle.std.proofs.Common.{◌≡◌, ◌+◌, ◌∙◌, sym, subst, take, drop, List, Option, Some}
use Rattle.std.proofs.lemmas.List.{take_rest}
use Rattle.std.proofs.lemmas.Result.{IfOk-weaker}
use Rattle.smpl_patch.specs.declared.pattern.VarDecl.{VarDecl}
use Rattle.iso_file.specs.Sides.{second_at, concatenated}
use Rattle.iso_file.specs.Isos.{AreVars}
use Rattle.iso_file.specs.Stepped.{Decides, Under, Behind}
use Rattle.iso_file.proofs.FormLemmas.{behind_under}
use Rattle.iso_file.proofs.block.behind_header.Goals as goal

pub returns : goal.returns
returns c =
    let lines = c.args.lines.now in
    let n = c.in-Some.n in
    let vars = c.in-Some-2.vars in
    let decls = c.as_slice.result.now in
    let tokens = c.as_slice-in-Some-2.result.now in
    let second : second_at lines ≡ Some n = sym c.second_at.ensures.value ∙ c.in-Some.is in
    let d : decls ≡ concatenated (take n lines) = c.as_slice.ensures ∙ c.in_ok-decls-in-Some.ensures in
    let rest : c.in_ok-tokens-in-Some-2.tokens ≡ concatenated (drop (n + 1) lines) = rw take_rest at c.in_ok-tokens-in-Some-2.ensures in
    let are : AreVars decls vars = subst (λ (o : Option (List VarDecl)). Decides (AreVars decls) o) c.in-Some-2.is c.in_ok-vars_of-in-Some.ensures in
    IfOk-weaker c.under.result (λ b. Under vars tokens b) (λ b. Behind lines b)
    (λ b told. behind_under c.ranges_have_one_tree.ensures lines n decls tokens vars b second d (c.as_slice-in-Some-2.ensures ∙ rest) are told) c.under.ensures
