use Rattle.std.proofs.Common.{◌≡◌, ◌++◌, [], ◌∷◌, List, ℕ, true, false, sym, ap, ap₂, ◌∙◌, arith}
use Rattle.std.proofs.lemmas.Grind.{common_steps}
use Rattle.ctl_formula.specs.Formulas.{plain}
use Rattle.ctl_fixpoint.specs.RequiredWords.Words.{needs, is_among}
use Rattle.ctl_fixpoint.proofs.RequiredWords.NeedLemmas.{put-there, put-unneeded, put-new}
use Rattle.ctl_fixpoint.proofs.required_words.words.put_word.Goals as goal

pub returns-then-is_among : goal.returns-then-is_among
returns-then-is_among c =
    let h : is_among c.args.found.now c.args.word.now ≡ true =
    ap₂ is_among (sym c.as_slice.ensures) (sym c.as_bytes.ensures.bytes) ∙ sym c.is_among.ensures ∙ c.if-is_among.true in
    put-there (λ w. needs w (plain c.args.f.now)) c.args.found.now c.args.word.now h

pub returns-then-not-needed : goal.returns-then-not-needed
returns-then-not-needed c =
    let e : c.in_ok-needed.needed ≡ false = grind (arith, common_steps) in
    let h : needs c.args.word.now (plain c.args.f.now) ≡ false =
    ap (λ b. needs b (plain c.args.f.now)) (sym c.as_bytes-2.ensures.bytes) ∙ sym c.in_ok-needed.ensures ∙ e in
    put-unneeded (λ w. needs w (plain c.args.f.now)) c.args.found.now c.args.word.now h

pub returns : goal.returns
returns c =
    let e : c.in_ok-needed.needed ≡ true = grind (arith, common_steps) in
    let h : needs c.args.word.now (plain c.args.f.now) ≡ true =
    ap (λ b. needs b (plain c.args.f.now)) (sym c.as_bytes-2.ensures.bytes) ∙ sym c.in_ok-needed.ensures ∙ e in
    put-new (λ w. needs w (plain c.args.f.now)) c.args.found.now c.args.word.now c.push.new.self
    (c.in_ok-push.ensures.ok ∙ ap (λ (t : List ℕ). c.args.found.now ++ t ∷ []) c.in_ok-copied.ensures.same) h
