use Rattle.std.proofs.Common.{◌≡◌, ◌∙◌, ap, sym, subst, map, [], inl, inr}
use Rattle.clap.specs.Words.{app_of, found_of, is_simple, matches_of, fault_of, is_simple_and_free, kind_of, HasKind, IsAmong, Kinds}
use Rattle.clap.specs.declared.error.kind.ErrorKind.TheVariants.{OutOfMemory}
use Rattle.clap.specs.declared.error.Error.{Error}
use Rattle.run_words.specs.Commands.{spatch_app}
use Rattle.run_words.specs.Shown.{shown_options}
use Rattle.run_words.proofs.Rules.{spatch_is_free, spatch_is_simple}
use Rattle.run_words.proofs.Ended.{options_found, options_refused}
use Rattle.run_words.proofs.options.parse.Goals as goal

pub returns-in-Ok : goal.returns-in-Ok
returns-in-Ok c =
    let words = map (λ w. w.now) c.args.words.now in
    let app : app_of c.in_ok-command.command ≡ spatch_app = c.in_ok-command.ensures in
    let fault : fault_of spatch_app words ≡ [] = ap (λ a. fault_of a words) (sym app) ∙ c.in-Ok.ensures.kinds (ap is_simple_and_free app ∙ spatch_is_free) in
    let rows = (c.in-Ok.ensures.matches (ap is_simple app ∙ spatch_is_simple)).0 ∙ ap (λ a. matches_of a words) app in
    options_found words c.requires (found_of c.in-Ok.matches) (shown_options c.in_ok-read-in-Ok.field-0) c.in_ok-read-in-Ok.ensures fault rows

-- an error of a kind other than `OutOfMemory` has one of the kinds
has_kinds : (kinds : Kinds) (e : Error) → HasKind kinds e → (kind_of e ≡ OutOfMemory → ⊥) → kinds ≡ [] → ⊥
has_kinds kinds e (inl h) other none = other h
has_kinds kinds e (inr h) other none = let bad : IsAmong (kind_of e) [] = subst (IsAmong (kind_of e)) none h in bad

pub returns : goal.returns
returns c =
    let words = map (λ w. w.now) c.args.words.now in
    let app : app_of c.in_ok-command.command ≡ spatch_app = c.in_ok-command.ensures in
    let has = c.in-Err.ensures.kinds (ap is_simple_and_free app ∙ spatch_is_free) in
    options_refused words c.requires (λ none. has_kinds (fault_of (app_of c.in_ok-command.command) words) c.in-Err.error has
    (λ e. c.in_default.not-OutOfMemory (c.kind.ensures ∙ e)) (ap (λ a. fault_of a words) app ∙ none))
