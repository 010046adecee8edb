use Rattle.std.proofs.Common.{◌≡◌, ◌∙◌, ap, ap₂, true, codes}
use Rattle.std.proofs.lemmas.Result.{IfOk-weaker}
use Rattle.clap.specs.Simple.{Shape, app_of, app_of_fields, new_app, on_top, with_rule}
use Rattle.run_words.specs.Commands.{bare_app, spatch_app, valued_new}
use Rattle.run_words.proofs.options.command.Goals as goal

pub returns : goal.returns
unfolding spatch_app
returns c =
    let named : app_of c.no_binary_name.result ≡ on_top (λ (s : Shape). record s { no_binary_name = true }) (new_app (codes "spatch")) =
    ap app_of_fields c.no_binary_name.ensures ∙ ap (on_top (λ (s : Shape). record s { no_binary_name = true })) c.new.ensures.app in
    let bare : app_of c.disable_help_flag.result ≡ bare_app =
    ap app_of_fields c.disable_help_flag.ensures ∙ ap (on_top (λ (s : Shape). record s { disable_help_flag = true })) named in
    let a1 : app_of c.in_ok-arg.field-0 ≡ with_rule bare_app (valued_new (codes "sp-file")) =
    c.in_ok-arg.ensures.shape c.valued.ensures.local ∙ ap₂ with_rule bare c.valued.ensures.rule in
    let a2 = c.in_ok-arg-2.ensures.shape c.valued-2.ensures.local ∙ ap₂ with_rule a1 c.valued-2.ensures.rule in
    let a3 = c.in_ok-arg-3.ensures.shape c.valued-3.ensures.local ∙ ap₂ with_rule a2 c.valued-3.ensures.rule in
    let a4 = c.in_ok-arg-4.ensures.shape c.valued-4.ensures.local ∙ ap₂ with_rule a3 c.valued-4.ensures.rule in
    let a5 = c.in_ok-arg-5.ensures.shape c.valued-5.ensures.local ∙ ap₂ with_rule a4 c.valued-5.ensures.rule in
    let a6 = c.in_ok-arg-6.ensures.shape c.valued-6.ensures.local ∙ ap₂ with_rule a5 c.valued-6.ensures.rule in
    let a7 = c.in_ok-arg-7.ensures.shape c.valued-7.ensures.local ∙ ap₂ with_rule a6 c.valued-7.ensures.rule in
    let a8 = c.in_ok-arg-8.ensures.shape c.flag.ensures.local ∙ ap₂ with_rule a7 c.flag.ensures.rule in
    let a9 = c.in_ok-arg-9.ensures.shape c.flag-2.ensures.local ∙ ap₂ with_rule a8 c.flag-2.ensures.rule in
    let a10 = c.in_ok-arg-10.ensures.shape c.flag-3.ensures.local ∙ ap₂ with_rule a9 c.flag-3.ensures.rule in
    let a11 = c.in_ok-arg-11.ensures.shape c.flag-4.ensures.local ∙ ap₂ with_rule a10 c.flag-4.ensures.rule in
    let a12 = c.in_ok-arg-12.ensures.shape c.flag-5.ensures.local ∙ ap₂ with_rule a11 c.flag-5.ensures.rule in
    let a13 = c.in_ok-arg-13.ensures.shape c.flag-6.ensures.local ∙ ap₂ with_rule a12 c.flag-6.ensures.rule in
    let a14 = c.in_ok-arg-14.ensures.shape c.flag-7.ensures.local ∙ ap₂ with_rule a13 c.flag-7.ensures.rule in
    IfOk-weaker c.arg-15.result _ _ (λ m h. h.shape c.files.ensures.local ∙ ap₂ with_rule a14 c.files.ensures.rule) c.arg-15.ensures
