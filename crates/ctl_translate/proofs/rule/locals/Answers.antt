use Rattle.std.proofs.Common.{◌≡◌, ◌+◌, ◌<◌, ◌&&◌, not, true, false, cond, map, take, get_or, refl, sym, ap, ◌∙◌, Bool, List}
use Rattle.std.proofs.Common.{[], ◌∷◌, ◌++◌, append-nil, length, arith, ℕ}
use Rattle.std.specs.List.{filter}
use Rattle.std.proofs.Math.Path.{fun_ext}
use Rattle.std.proofs.Math.Seq.{take-length}
use Rattle.std.proofs.lemmas.List.{map-append, take_more}
use Rattle.std.proofs.lemmas.List.Elements.{filter-append}
use Rattle.smpl_terms.specs.declared.var.Var.{Var}
use Rattle.smpl_patch.specs.declared.pattern.VarDecl.{VarDecl}
use Rattle.pattern_vars.specs.Reads.{has}
use Rattle.ctl_translate.proofs.rule.locals.Goals as goal
use Rattle.ctl_translate.proofs.rule.locals.Goals.{then-branch+in_ok-copy+in_ok-push, else-branch}

-- the variables of the declarations that pass the test
abbrev vars_by : (VarDecl → Bool) → List VarDecl → List Var
vars_by test ds = map (λ d. d.var) (filter test ds)

one-more : (test : VarDecl → Bool) (d : VarDecl) (b : Bool) → test d ≡ b → vars_by test (d ∷ []) ≡ cond b (d.var ∷ []) []
one-more test d b e = ap (λ (z : Bool). map (λ q. q.var) (cond z (d ∷ []) [])) e ∙ by b
  where
    by : (b : Bool) → map (λ q. q.var) (cond b (d ∷ []) []) ≡ cond b (d.var ∷ []) []
    by true = refl
    by false = refl

-- one more declaration
vars-more : (test : VarDecl → Bool) (ds : List VarDecl) (i : ℕ) (d : VarDecl) (b : Bool) → i < length ds → d ≡ get_or ds i d → test d ≡ b
    → vars_by test (take (i + 1) ds) ≡ vars_by test (take i ds) ++ cond b (d.var ∷ []) []
vars-more test ds i d b l q e =
    ap (vars_by test) (take_more ds i d l)
    ∙ ap (λ z. vars_by test (take i ds ++ z ∷ [])) (sym q)
    ∙ ap (map (λ z. z.var)) (filter-append test (take i ds) (d ∷ []))
    ∙ map-append (λ (z : VarDecl). z.var) (filter test (take i ds)) (filter test (d ∷ []))
    ∙ ap (λ z. vars_by test (take i ds) ++ z) (one-more test d b e)

pub loop-d-preserved : goal.loop-d-preserved
loop-d-preserved c =
    let ds = c.as_slice-d-items.result.now in
    let d = c.d-item.result in
    let test = λ (e : VarDecl). not e.inherited && not (has c.in_ok-exports.exports e.var) in
    elim c.if-branch.branch [
      | then-branch+in_ok-copy+in_ok-push w ↦
          w.found-is ∙ w.in_ok-push.ensures.ok ∙ ap (λ z. c.loop-d.found ++ z ∷ []) w.in_ok-copy.ensures.same
          ∙ ap (λ z. z ++ d.var ∷ []) c.loop-d.invariant
          ∙ sym (vars-more test ds c.loop-d.d-index d true c.loop-d-test.true c.d-item.is (sym c.in_ok-is_local.ensures ∙ w.if-branch.true))
      | else-branch w ↦
          w.found-is ∙ c.loop-d.invariant ∙ sym (append-nil (vars_by test (take c.loop-d.d-index ds)))
          ∙ sym (vars-more test ds c.loop-d.d-index d false c.loop-d-test.true c.d-item.is (sym c.in_ok-is_local.ensures ∙ w.if-branch.false))
    ]

pub returns : goal.returns
returns c =
    let r = c.args.rule.now in
    let ds = c.as_slice-d-items.result.now in
    let pick : (Var → Bool) → List VarDecl → List Var =
    λ (f : Var → Bool) (xs : List VarDecl). map (λ d. d.var) (filter (λ d. not d.inherited && not (f d.var)) xs) in
    let all : c.loop-d.d-index ≡ length ds = omega arith in
    c.loop-d.invariant ∙ ap (pick (has c.in_ok-exports.exports)) (ap (λ (n : ℕ). take n ds) all ∙ take-length ds ∙ c.as_slice-d-items.ensures)
    ∙ ap (λ (f : Var → Bool). pick f r.vars) (fun_ext c.in_ok-exports.ensures)
