-- The head of a rule, and its first fault.
use Rattle.std.proofs.Common.{◌≡◌, ℕ, List, ◌++◌, Option, None, sym, ap, ◌∙◌}
use Rattle.smpl_patch.specs.declared.pattern.VarDecl.{VarDecl}
use Rattle.smpl_patch.specs.declared.fault.PatchFault.{PatchFault}
use Rattle.smpl_patch.specs.Faults.{first_from, first_of}
use Rattle.smpl_lexer.specs.declared.text.RuleText.{RuleText}
use Rattle.smpl_lexer.proofs.Readings.{no_first}
use Rattle.smpl_meta.specs.declared.head.RuleHead.{RuleHead}
use Rattle.smpl_meta.specs.declared.item.Item.{Item}
use Rattle.smpl_meta.specs.Decls.{decl_faults, vars_of, AreAnswers}
use Rattle.smpl_meta.specs.Heads.{name_token, name_fault, depends_tokens, unknown_faults, head_faults, IsHead}
use Rattle.smpl_meta.specs.Shunting.{head_of}
use Rattle.smpl_meta.proofs.FirstLemmas.{first_append}
use Rattle.smpl_meta.proofs.Shunts.{condition_stack}

pub head_first : (virtuals : List (List ℕ)) (earlier : List RuleHead) (answers : List (Option (List Item))) (r : RuleText)
    (one two three : Option PatchFault)
    → one ≡ first_from None (name_fault virtuals earlier (name_token r.header))
    → two ≡ first_from one (unknown_faults virtuals earlier (depends_tokens r.header))
    → three ≡ first_from two (decl_faults earlier answers r.decls) → three ≡ first_of (head_faults virtuals earlier answers r)
head_first virtuals earlier answers r one two three a b c =
    let names = name_fault virtuals earlier (name_token r.header) in
    let unknown = unknown_faults virtuals earlier (depends_tokens r.header) in
    let decls = decl_faults earlier answers r.decls in
    c ∙ (ap (λ (o : Option PatchFault). first_from o (decl_faults earlier answers r.decls))
    (b ∙ ap (λ (o : Option PatchFault). first_from o (unknown_faults virtuals earlier (depends_tokens r.header))) a)
    ∙ (sym (first_append (first_from None names) unknown decls) ∙ sym (first_append None names (unknown ++ decls))))

pub head_is : (virtuals : List (List ℕ)) (earlier : List RuleHead) (rule : ℕ) (answers : List (Option (List Item))) (r : RuleText)
    (vars : List VarDecl) (h : RuleHead) → AreAnswers r.decls answers
    → first_of (head_faults virtuals earlier answers r) ≡ None → vars ≡ vars_of earlier rule answers → h ≡ head_of earlier r vars
    → IsHead virtuals earlier rule r h
head_is virtuals earlier rule answers r vars h read none vars_are is = record {
  answers = answers;
  read = read;
  faultless = no_first (head_faults virtuals earlier answers r) none;
  name = ap (λ (x : RuleHead). x.name) is;
  mode = ap (λ (x : RuleHead). x.mode) is;
  vars = ap (λ (x : RuleHead). x.vars) is ∙ vars_are;
  depends = λ d spelled. ap (λ (x : RuleHead). x.depends) is ∙ condition_stack earlier (depends_tokens r.header) d spelled;
}
