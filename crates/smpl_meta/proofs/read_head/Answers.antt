use Rattle.std.proofs.Common.{◌≡◌, List, Option, None, inr, sym, ap, ◌∙◌}
use Rattle.smpl_patch.specs.Faults.{first_from}
use Rattle.smpl_lexer.specs.declared.token.PatchToken.{PatchToken}
use Rattle.smpl_meta.specs.Decls.{decl_faults}
use Rattle.smpl_meta.specs.Heads.{name_token, name_fault, depends_tokens, unknown_faults}
use Rattle.smpl_meta.proofs.HeadLemmas.{head_first, head_is}
use Rattle.smpl_meta.proofs.read_head.Goals as goal

pub returns-in-Some-clause-fault : goal.returns-in-Some-clause-fault
returns-in-Some-clause-fault c =
    let vs = c.args.earlier.now.virtuals in
    let earlier = c.args.earlier.now.heads in
    let r = c.args.r.now in
    let name : c.with_name-first.result ≡ first_from None (name_fault vs earlier (name_token r.header))
    = c.with_name-first.ensures ∙ (ap (λ (o : Option PatchToken). first_from None (name_fault vs earlier o)) c.name_token.ensures
    ∙ ap (λ (h : List PatchToken). first_from None (name_fault vs earlier (name_token h))) c.as_slice-header.ensures) in
    let unknown : c.with_unknown-first.result ≡ first_from c.with_name-first.result (unknown_faults vs earlier (depends_tokens r.header))
    = c.with_unknown-first.ensures ∙ ap (λ (ts : List PatchToken). first_from c.with_name-first.result (unknown_faults vs earlier ts))
    (c.depends_tokens.ensures ∙ ap depends_tokens c.as_slice-header.ensures) in
    let d = rw c.as_slice.ensures at c.in_ok-vars.ensures.declared in
    let decls : c.in_ok-vars.field-0.first ≡ first_from c.with_unknown-first.result (decl_faults earlier d.answers r.decls) = d.first_is in
    inr (record { answers = d.answers; read = d.read; first = sym (head_first vs earlier d.answers r _ _ _ name unknown decls) ∙ c.in-Some.is })

pub returns-in_ok-made_head-in-None-clause-head : goal.returns-in_ok-made_head-in-None-clause-head
returns-in_ok-made_head-in-None-clause-head c =
    let vs = c.args.earlier.now.virtuals in
    let earlier = c.args.earlier.now.heads in
    let r = c.args.r.now in
    let name : c.with_name-first.result ≡ first_from None (name_fault vs earlier (name_token r.header))
    = c.with_name-first.ensures ∙ (ap (λ (o : Option PatchToken). first_from None (name_fault vs earlier o)) c.name_token.ensures
    ∙ ap (λ (h : List PatchToken). first_from None (name_fault vs earlier (name_token h))) c.as_slice-header.ensures) in
    let unknown : c.with_unknown-first.result ≡ first_from c.with_name-first.result (unknown_faults vs earlier (depends_tokens r.header))
    = c.with_unknown-first.ensures ∙ ap (λ (ts : List PatchToken). first_from c.with_name-first.result (unknown_faults vs earlier ts))
    (c.depends_tokens.ensures ∙ ap depends_tokens c.as_slice-header.ensures) in
    let d = rw c.as_slice.ensures at c.in_ok-vars.ensures.declared in
    let decls : c.in_ok-vars.field-0.first ≡ first_from c.with_unknown-first.result (decl_faults earlier d.answers r.decls) = d.first_is in
    head_is vs earlier c.args.rule d.answers r c.in_ok-vars.field-0.vars c.in_ok-made_head-in-None.field-0 d.read
    (sym (head_first vs earlier d.answers r _ _ _ name unknown decls) ∙ c.in-None.is) d.vars_are c.in_ok-made_head-in-None.ensures
