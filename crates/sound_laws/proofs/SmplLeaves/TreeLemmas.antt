-- The elements of a tree have its tokens in their order.
-- Proof: by induction on the tree's shape.
use Rattle.std.proofs.Common.{◌≡◌, ℕ, ◌+◌, refl, sym, ap, ◌∙◌, List, [], map, length, true, false, slice_get}
use Rattle.c_terms.specs.declared.token.Token.{Token}
use Rattle.c_terms.specs.declared.token.TokenKind.{TokenKind}
use Rattle.c_terms.specs.declared.token.TokenKind.TheVariants as kind
use Rattle.c_terms.specs.declared.token.MetaKind.TheVariants as meta
use Rattle.c_terms.specs.declared.label.Label.{Label}
use Rattle.c_terms.specs.declared.label.Label.TheVariants as label
use Rattle.c_terms.specs.declared.tree.Tree.{Tree}
use Rattle.c_terms.specs.declared.tree.Tree.TheOpen.{Tree-F}
use Rattle.c_terms.specs.declared.tree.Tree.TheVariants.{Leaf, Branch}
use Rattle.c_terms.proofs.SameLemmas.{out-Leaf}
use Rattle.c_terms.proofs.TreeLemmas.{leaves-Leaf}
use Rattle.smpl_patch.specs.declared.pattern.Spot.TheVariants as spot
use Rattle.smpl_patch.specs.declared.elem.Dots.{Dots}
use Rattle.smpl_patch.specs.declared.elem.Elem.TheVariants as elem
use Rattle.smpl_patch.proofs.BodyLemmas.{element-Gap}
use Rattle.smpl_body.specs.declared.smpl_elem.form.Form.{Form}
use Rattle.smpl_body.specs.declared.smpl_elem.form.Form.TheVariants as form
use Rattle.smpl_body.specs.SmplElem.Forms.{form_in, label_in, is_list_at, before, id_at}
use Rattle.smpl_body.specs.SmplElem.Elements.{part, picked, total, seqs, made, elements}
use Rattle.smpl_body.proofs.SmplElem.PartLemmas.{kids-Leaf}
use Rattle.smpl_body.proofs.SmplElem.CountLemmas.{elements-row}
use Rattle.sound_laws.specs.SmplLeaves.Leaves.{is_code, code, element_tokens}
use Rattle.sound_laws.specs.SmplLeaves.Shapes.{has_shape, Shaped, token, branch, AllShaped, none, more}
use Rattle.sound_laws.proofs.SmplLeaves.CountedLemmas.{alone, one-uncounted}
use Rattle.sound_laws.proofs.SmplLeaves.ChildLemmas.{Kept, AllKept}
use Rattle.sound_laws.proofs.SmplLeaves.BranchLemmas.{tokens_of, whole-kept, expression-kept, plain-kept, statements-kept}
use Rattle.sound_laws.proofs.SmplLeaves.BranchLemmas.{or-by, and-by, block-kept, nest-kept, compound-kept, do-branch}

-- ---- each label

label-kept : (l : Label) (cs : List Tree) → has_shape l cs ≡ true → AllKept cs → Kept (Branch l cs)
label-kept label.Strings cs s g = expression-kept label.Strings cs refl
label-kept label.Paren cs s g = expression-kept label.Paren cs refl
label-kept label.Index cs s g = expression-kept label.Index cs refl
label-kept label.Call cs s g = expression-kept label.Call cs refl
label-kept label.Args cs s g = plain-kept label.Args cs refl
label-kept label.TypeArg cs s g = plain-kept label.TypeArg cs refl
label-kept label.Member cs s g = expression-kept label.Member cs refl
label-kept label.Arrow cs s g = expression-kept label.Arrow cs refl
label-kept label.PostOp cs s g = expression-kept label.PostOp cs refl
label-kept label.Literal cs s g = expression-kept label.Literal cs refl
label-kept label.PreOp cs s g = expression-kept label.PreOp cs refl
label-kept label.Unary cs s g = expression-kept label.Unary cs refl
label-kept label.SizeofExpr cs s g = expression-kept label.SizeofExpr cs refl
label-kept label.SizeofType cs s g = expression-kept label.SizeofType cs refl
label-kept label.Cast cs s g = expression-kept label.Cast cs refl
label-kept label.Binary cs s g = expression-kept label.Binary cs refl
label-kept label.Cond cs s g = expression-kept label.Cond cs refl
label-kept label.CondShort cs s g = expression-kept label.CondShort cs refl
label-kept label.Assign cs s g = expression-kept label.Assign cs refl
label-kept label.Comma cs s g = expression-kept label.Comma cs refl
label-kept label.TypeName cs s g = plain-kept label.TypeName cs refl
label-kept label.Specs cs s g = plain-kept label.Specs cs refl
label-kept label.StructUse cs s g = plain-kept label.StructUse cs refl
label-kept label.StructDef cs s g = plain-kept label.StructDef cs refl
label-kept label.Field cs s g = plain-kept label.Field cs refl
label-kept label.Bits cs s g = plain-kept label.Bits cs refl
label-kept label.EnumUse cs s g = plain-kept label.EnumUse cs refl
label-kept label.EnumDef cs s g = plain-kept label.EnumDef cs refl
label-kept label.EnumValue cs s g = plain-kept label.EnumValue cs refl
label-kept label.Pointer cs s g = plain-kept label.Pointer cs refl
label-kept label.DParen cs s g = plain-kept label.DParen cs refl
label-kept label.DArray cs s g = plain-kept label.DArray cs refl
label-kept label.DFun cs s g = plain-kept label.DFun cs refl
label-kept label.Params cs s g = plain-kept label.Params cs refl
label-kept label.Param cs s g = plain-kept label.Param cs refl
label-kept label.Decl cs s g = plain-kept label.Decl cs refl
label-kept label.InitDecl cs s g = plain-kept label.InitDecl cs refl
label-kept label.InitList cs s g = plain-kept label.InitList cs refl
label-kept label.InitItem cs s g = plain-kept label.InitItem cs refl
label-kept label.DotName cs s g = plain-kept label.DotName cs refl
label-kept label.At cs s g = plain-kept label.At cs refl
label-kept label.AtRange cs s g = plain-kept label.AtRange cs refl
label-kept label.MacroItem cs s g = plain-kept label.MacroItem cs refl
label-kept label.ExprStat cs s g = plain-kept label.ExprStat cs refl
label-kept label.Empty cs s g = plain-kept label.Empty cs refl
label-kept label.Block cs s g = block-kept cs s g
label-kept label.If cs s g = compound-kept label.If cs refl (λ i. refl) g
label-kept label.IfElse cs s g = compound-kept label.IfElse cs refl (λ i. refl) g
label-kept label.While cs s g = compound-kept label.While cs refl (λ i. refl) g
label-kept label.Do cs s g = do-branch cs g
label-kept label.For cs s g = compound-kept label.For cs refl (λ i. refl) g
label-kept label.ForDecl cs s g = compound-kept label.ForDecl cs refl (λ i. refl) g
label-kept label.Switch cs s g = compound-kept label.Switch cs refl (λ i. refl) g
label-kept label.Iterator cs s g = compound-kept label.Iterator cs refl (λ i. refl) g
label-kept label.Case cs s g = plain-kept label.Case cs refl
label-kept label.CaseRange cs s g = plain-kept label.CaseRange cs refl
label-kept label.Default cs s g = plain-kept label.Default cs refl
label-kept label.Label cs s g = plain-kept label.Label cs refl
label-kept label.Return cs s g = plain-kept label.Return cs refl
label-kept label.Goto cs s g = plain-kept label.Goto cs refl
label-kept label.Break cs s g = plain-kept label.Break cs refl
label-kept label.Continue cs s g = plain-kept label.Continue cs refl
label-kept label.StmtList cs s g = statements-kept cs g
label-kept label.FunDef cs s g = compound-kept label.FunDef cs refl (λ i. refl) g
label-kept label.MacroFun cs s g = compound-kept label.MacroFun cs refl (λ i. refl) g
label-kept label.PatOr cs s g = or-by (is_list_at (slice_get cs 1)) cs refl s g
label-kept label.PatAnd cs s g = and-by (is_list_at (slice_get cs 1)) cs refl s g
label-kept label.PatNest cs s g = nest-kept cs s g

-- ---- tokens

leaf-made : (a : Token) (f : Form) (gap : ℕ → Dots) (n : ℕ) → form_in (Tree-F.Leaf a) ≡ f
    → elements gap n (Leaf a) ≡ made f gap (Leaf a) n (seqs gap (n + before f) (picked f label.StmtList 0 0 []))
    (n + before f + total (picked f label.StmtList 0 0 []))
leaf-made a f gap n e =
    let t = Leaf a in
    let ef = ap form_in (out-Leaf a) ∙ e in
    let el = ap label_in (out-Leaf a) in
    let ek = kids-Leaf a in
    elements-row t gap n
    ∙ (λ i. made (ef i) gap t n (seqs gap (n + before (ef i)) (picked (ef i) (el i) (length (ek i)) 0 (map part (ek i))))
    (n + before (ef i) + total (picked (ef i) (el i) (length (ek i)) 0 (map part (ek i)))))

gap-kept : (a : Token) → form_in (Tree-F.Leaf a) ≡ form.Gap → is_code a.kind ≡ false → Kept (Leaf a)
gap-kept a e h gap n =
    ap (λ es. code (tokens_of es)) (leaf-made a form.Gap gap n e)
    ∙ (ap code (alone (elem.Gap (gap (id_at (Leaf a)))) ∙ ap element_tokens (element-Gap (gap (id_at (Leaf a)))))
    ∙ sym (ap code (leaves-Leaf a) ∙ one-uncounted a h))

leaf-plain : (a : Token) → form_in (Tree-F.Leaf a) ≡ form.Plain → Kept (Leaf a)
leaf-plain a e gap n = ap (λ es. code (tokens_of es)) (leaf-made a form.Plain gap n e) ∙ whole-kept (Leaf a) n spot.Whole

leaf-expression : (a : Token) → form_in (Tree-F.Leaf a) ≡ form.Expression → Kept (Leaf a)
leaf-expression a e gap n = ap (λ es. code (tokens_of es)) (leaf-made a form.Expression gap n e) ∙ whole-kept (Leaf a) n spot.Inside

abbrev with_kind : TokenKind → Token → Token
with_kind k a = record { kind = k; text = a.text; id = a.id }

token-kept : (k : TokenKind) (a : Token) → Kept (Leaf (with_kind k a))
token-kept kind.Dots a = gap-kept (with_kind kind.Dots a) refl refl
token-kept (kind.Meta meta.Stmt) a = leaf-plain (with_kind (kind.Meta meta.Stmt) a) refl
token-kept kind.Name a = leaf-expression (with_kind kind.Name a) refl
token-kept kind.Keyword a = leaf-expression (with_kind kind.Keyword a) refl
token-kept kind.Number a = leaf-expression (with_kind kind.Number a) refl
token-kept kind.Char a = leaf-expression (with_kind kind.Char a) refl
token-kept kind.Str a = leaf-expression (with_kind kind.Str a) refl
token-kept kind.Punct a = leaf-expression (with_kind kind.Punct a) refl
token-kept kind.Stray a = leaf-expression (with_kind kind.Stray a) refl
token-kept kind.Pat a = leaf-expression (with_kind kind.Pat a) refl
token-kept (kind.Meta meta.Expr) a = leaf-expression (with_kind (kind.Meta meta.Expr) a) refl
token-kept (kind.Meta meta.ExprList) a = leaf-expression (with_kind (kind.Meta meta.ExprList) a) refl
token-kept (kind.Meta meta.Ident) a = leaf-expression (with_kind (kind.Meta meta.Ident) a) refl
token-kept (kind.Meta meta.Constant) a = leaf-expression (with_kind (kind.Meta meta.Constant) a) refl
token-kept (kind.Meta meta.Typ) a = leaf-expression (with_kind (kind.Meta meta.Typ) a) refl
token-kept (kind.Meta meta.Params) a = leaf-expression (with_kind (kind.Meta meta.Params) a) refl

-- ---- trees

mutual
  pub tree-kept : (t : Tree) → Shaped t → Kept t
  tree-kept _ (token a) = token-kept a.kind a
  tree-kept _ (branch l cs s more') = label-kept l cs s (trees-kept cs more')

  trees-kept : (cs : List Tree) → AllShaped cs → AllKept cs
  trees-kept _ none = tt
  trees-kept _ (more c cs one rest) = (tree-kept c one, trees-kept cs rest)
