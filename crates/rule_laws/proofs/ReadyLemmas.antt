-- The laws combined, for each rule.
use Rattle.std.proofs.Common.{◌≡◌, true, sym, ap, ◌∙◌, subst, List, [], ◌∷◌}
use Rattle.std.specs.List.{list_all, AllByRecursion}
use Rattle.smpl_patch.specs.declared.pattern.VarDecl.{VarDecl}
use Rattle.smpl_patch.specs.declared.pattern.PatToken.{PatToken}
use Rattle.smpl_patch.specs.declared.pattern.Pattern.{Pattern}
use Rattle.smpl_patch.specs.declared.rule.Rule.{Rule}
use Rattle.smpl_patch.specs.Bodies.{body}
use Rattle.smpl_patch.specs.Shapes.{patterns_body}
use Rattle.smpl_patch.specs.Patterns.{sure}
use Rattle.ctl_formula.specs.Plain.{Plain}
use Rattle.ctl_formula.specs.Bounds.{bound}
use Rattle.ctl_formula.specs.Formulas.{FormulaOf, plain}
use Rattle.ctl_fixpoint.specs.CtlHolds.Parts.{EachPattern}
use Rattle.ctl_fixpoint.specs.CtlHolds.BoundLaw.{SureStand}
use Rattle.ctl_translate.specs.Rules.{formula_of}
use Rattle.ctl_translate.specs.Answers.{IsFormulaOf}
use Rattle.sound_laws.specs.SmplFormed.Bodies.{AllStand}
use Rattle.sound_laws.specs.SmplSound.Parts.{EachHas}
use Rattle.rule_laws.specs.Ready.{IsReady}
use Rattle.rule_laws.proofs.RuleLemmas.{rule-has}
use Rattle.rule_laws.proofs.ApartLemmas.{Apart}
use Rattle.rule_laws.proofs.EvenLemmas.{Even}
use Rattle.rule_laws.proofs.BindLemmas.{Binds}

-- ---- sure variables stand

pub each-stands : (decls : List VarDecl) (tokens : List PatToken) (ps : List Pattern) → AllStand decls tokens ps
    → AllByRecursion (SureStand decls tokens) ps
each-stands decls tokens [] h = tt
each-stands decls tokens (p ∷ ps) h = (h.0, each-stands decls tokens ps h.1)

abbrev pub Stand : Rule → Type 0
Stand r = EachPattern (SureStand r.vars r.tokens) (formula_of r)

pub rules-stand : (rs : List Rule) → EachHas (λ r. AllStand r.vars r.tokens (patterns_body (body r.body))) rs → AllByRecursion Stand rs
rules-stand [] h = tt
rules-stand (r ∷ rs) h =
    (rule-has (SureStand r.vars r.tokens) r (each-stands r.vars r.tokens (patterns_body (body r.body)) h.0), rules-stand rs h.1)

-- ---- all together

pub rules-run : (rs : List Rule) → AllByRecursion Stand rs → AllByRecursion Binds rs → AllByRecursion Apart rs → AllByRecursion Even rs
    → AllByRecursion IsReady rs
rules-run [] s b a e = tt
rules-run (r ∷ rs) s b a e =
    (record { stand = s.0; binds = b.0; apart = a.0; even = e.0 }, rules-run rs s.1 b.1 a.1 e.1)

-- ---- the formula that was made

pub made-stands : (r : Rule) (f : FormulaOf) → IsReady r → IsFormulaOf r f → EachPattern (SureStand f.decls f.tokens) (plain f)
made-stands r f ready is =
    subst (λ (ds : List VarDecl). EachPattern (SureStand ds f.tokens) (plain f)) (sym is.decls)
    (subst (λ (ts : List PatToken). EachPattern (SureStand r.vars ts) (plain f)) (sym is.tokens)
    (subst (EachPattern (SureStand r.vars r.tokens)) (sym is.formula) ready.stand))

pub made-binds : (r : Rule) (f : FormulaOf) → IsReady r → IsFormulaOf r f → list_all (bound (sure f.decls f.tokens) (plain f)) r.exports ≡ true
made-binds r f ready is =
    ap (λ (ds : List VarDecl). list_all (bound (sure ds f.tokens) (plain f)) r.exports) is.decls
    ∙ ap (λ (ts : List PatToken). list_all (bound (sure r.vars ts) (plain f)) r.exports) is.tokens
    ∙ ap (λ (g : Plain). list_all (bound (sure r.vars r.tokens) g) r.exports) is.formula
    ∙ ready.binds
