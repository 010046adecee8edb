-- What holds for every patch that is read: its names, numbers and tokens agree.
use Rattle.std.specs.Prelude.{◌≡◌, ℕ, ◌+◌, Bool, true, false, not, ◌&&◌, ◌||◌, cond, nat_eq, nat_lt, eqb, Option, None, Some, List, [], ◌∷◌, ◌++◌, map, length}
use Rattle.std.specs.List.{list_any, list_all}
use Rattle.std.specs.Str.{bytes_eq}
use Rattle.c_terms.specs.declared.token.TokenKind.{TokenKind}
use Rattle.c_terms.specs.declared.token.TokenKind.TheVariants as token
use Rattle.c_terms.specs.declared.token.MetaKind.{MetaKind}
use Rattle.c_terms.specs.declared.token.MetaKind.TheVariants as meta
use Rattle.c_terms.specs.Numbers.{meta_number}
use Rattle.c_terms.specs.declared.tree.Tree.{Tree}
use Rattle.c_terms.specs.Trees.{leaves, width, join}
use Rattle.c_lexer.specs.declared.state.Kind.{Kind}
use Rattle.c_lexer.specs.declared.state.Kind.TheVariants as kind
use Rattle.c_lexer.specs.Kinds.{kind_of}
use Rattle.smpl_terms.specs.declared.var.Var.{Var}
use Rattle.smpl_terms.specs.Vars.{same_var}
use Rattle.smpl_patch.specs.declared.pattern.VarKind.{VarKind}
use Rattle.smpl_patch.specs.declared.pattern.VarKind.TheVariants as var_kind
use Rattle.smpl_patch.specs.declared.pattern.VarDecl.{VarDecl}
use Rattle.smpl_patch.specs.declared.pattern.PatToken.{PatToken}
use Rattle.smpl_patch.specs.declared.pattern.Pattern.{Pattern}
use Rattle.smpl_patch.specs.declared.pattern.PlusLine.{PlusLine}
use Rattle.smpl_patch.specs.declared.pattern.PlusBlock.{PlusBlock}
use Rattle.smpl_patch.specs.declared.rule.Dep.{Dep}
use Rattle.smpl_patch.specs.declared.rule.Dep.TheOpen.{Dep-F}
use Rattle.smpl_patch.specs.declared.rule.Dep.TheFolds.{fold-Dep}
use Rattle.smpl_patch.specs.declared.rule.Rule.{Rule}
use Rattle.smpl_patch.specs.declared.rule.Patch.{Patch}
use Rattle.smpl_patch.specs.Wants.{is_anything, same_wanted}
use Rattle.smpl_patch.specs.Bodies.{body}
use Rattle.smpl_patch.specs.Shapes.{is_formed_body, patterns_body, lengths_body}

abbrev pub same_kind : VarKind → VarKind → Bool
same_kind (var_kind.Meta k) (var_kind.Meta j) = eqb (meta_number k) (meta_number j)
same_kind (var_kind.Meta k) var_kind.Position = false
same_kind var_kind.Position (var_kind.Meta j) = false
same_kind var_kind.Position var_kind.Position = true

-- a variable of this kind is declared
abbrev pub declares : List VarDecl → Var → VarKind → Bool
declares vars x k = list_any (λ d. same_var d.var x && same_kind d.kind k) vars

-- a metavariable of this name and kind is declared
abbrev pub declares_name : List VarDecl → List ℕ → MetaKind → Bool
declares_name vars name k = list_any (λ d. bytes_eq d.var.name name && same_kind d.kind (var_kind.Meta k)) vars

-- no member passes the test together with a later one
abbrev pub none_alike : {A : Type 0} → (A → A → Bool) → List A → Bool
none_alike alike [] = true
none_alike alike (x ∷ xs) = not (list_any (alike x) xs) && none_alike alike xs

-- the rule with the variable's number exports it with this kind; the first of the rules has the number n
abbrev pub exported_from : ℕ → List Rule → Var → VarKind → Bool
exported_from n [] x k = false
exported_from n (r ∷ rs) x k =
    (nat_eq n x.rule && (list_any (λ y. same_var y x) r.exports && declares r.vars x k)) || exported_from (n + 1) rs x k

-- an inherited variable comes from an earlier rule, and so does each position after `!=`; any other is the rule's own
abbrev pub is_sound_decl : List Rule → VarDecl → Bool
is_sound_decl earlier d =
    cond d.inherited (exported_from 0 earlier d.var d.kind) (nat_eq d.var.rule (length earlier))
    && list_all (λ y. exported_from 0 earlier y var_kind.Position) d.not_places

abbrev pub is_declared_with : List VarDecl → VarDecl → Bool
is_declared_with vars d = list_any (λ e. same_var e.var d.var && same_wanted e.wanted d.wanted) vars

-- the rule with the variable's number declares that it takes the same expressions; the first of the rules has the number n
abbrev pub wanted_in : ℕ → List Rule → VarDecl → Bool
wanted_in n [] d = false
wanted_in n (r ∷ rs) d = (nat_eq n d.var.rule && is_declared_with r.vars d) || wanted_in (n + 1) rs d

-- only an expression may have to be more than that; an inherited one takes what it takes in its rule
abbrev pub is_sound_wanted : List Rule → VarDecl → Bool
is_sound_wanted earlier d =
    (is_anything d.wanted || same_kind d.kind (var_kind.Meta meta.Expr)) && cond d.inherited (wanted_in 0 earlier d) true

-- the variable is the rule's own
abbrev pub is_own_var : List VarDecl → Var → Bool
is_own_var vars x = list_any (λ d. same_var d.var x && not d.inherited) vars

-- the rules that it names have numbers below n
abbrev pub dep_step : ℕ → Dep-F Bool → Bool
dep_step n Dep-F.Always = true
dep_step n (Dep-F.Had rule) = nat_lt rule n
dep_step n (Dep-F.Ever rule) = nat_lt rule n
dep_step n (Dep-F.Defined name) = true
dep_step n (Dep-F.Not d) = d
dep_step n (Dep-F.Both d e) = d && e
dep_step n (Dep-F.Either d e) = d && e

abbrev pub is_below : ℕ → Dep → Bool
is_below n = fold-Dep Bool (dep_step n)

-- ---- tokens

-- a metavariable is declared with its kind
abbrev pub is_declared : List VarDecl → TokenKind → List ℕ → Bool
is_declared vars (token.Meta k) name = declares_name vars name k
is_declared vars _ name = true

abbrev pub has_form : List Tree → Bool
has_form [] = false
has_form (f ∷ fs) = true

-- it has a form, and each token of its forms has a number that the rule has, and is declared if it is a metavariable
abbrev pub is_sound_pattern : List VarDecl → List PatToken → Pattern → Bool
is_sound_pattern vars tokens p =
    has_form p.forms
    && list_all (λ f. list_all (λ t. nat_lt t.id (length tokens) && is_declared vars t.kind t.text) (leaves f)) p.forms

-- a text of this kind is cut into one token of the kind
abbrev pub is_of_kind : TokenKind → Option Kind → Bool
is_of_kind token.Name (Some kind.Name) = true
is_of_kind token.Keyword (Some kind.Keyword) = true
is_of_kind token.Number (Some kind.Number) = true
is_of_kind token.Char (Some kind.Char) = true
is_of_kind token.Str (Some kind.Str) = true
is_of_kind token.Punct (Some kind.Punct) = true
is_of_kind _ _ = false

-- a metavariable that is declared, or a token of C
abbrev pub is_plus_token : List VarDecl → TokenKind → List ℕ → Bool
is_plus_token vars (token.Meta k) text = declares_name vars text k
is_plus_token vars k text = is_of_kind k (kind_of text)

abbrev pub is_blank : Option Kind → Bool
is_blank (Some kind.Blank) = true
is_blank _ = false

-- empty, or blanks
abbrev pub is_gap : List ℕ → Bool
is_gap [] = true
is_gap (b ∷ bs) = is_blank (kind_of (b ∷ bs))

abbrev pub leads : ℕ → List (List ℕ) → Bool
leads lead [] = true
leads lead (gap ∷ gaps) = nat_eq lead (length gap)

abbrev pub is_sound_line : List VarDecl → PlusLine → Bool
is_sound_line vars l =
    list_all (λ t. is_plus_token vars t.kind t.text) l.tokens
    && (nat_eq (length l.gaps) (length l.tokens) && (list_all is_gap l.gaps && leads l.lead l.gaps))

abbrev pub is_sound_block : List VarDecl → Option PlusBlock → Bool
is_sound_block vars None = true
is_sound_block vars (Some b) = list_all (is_sound_line vars) b.lines

-- what belongs to a token: its positions are declared, and its plus code is tokens and blanks
abbrev pub is_sound_token : List VarDecl → PatToken → Bool
is_sound_token vars p =
    list_all (λ x. declares vars x var_kind.Position) p.positions && (is_sound_block vars p.before && is_sound_block vars p.after)

-- ---- lengths

abbrev pub lengths_block : Option PlusBlock → List ℕ
lengths_block None = []
lengths_block (Some b) = length b.lines ∷ map (λ l. length l.tokens) b.lines

-- the lengths of the lists of a rule; for a tree, the most children that a branch has
abbrev pub lengths : Rule → List ℕ
lengths r =
    length r.vars ∷ length r.exports ∷ length r.body ∷ length r.tokens ∷ lengths_body (body r.body)
    ++ join (map (λ d. length d.not_names ∷ length d.not_places ∷ []) r.vars)
    ++ join (map (λ p. length p.positions ∷ lengths_block p.before ++ lengths_block p.after) r.tokens)
    ++ join (map (λ p. length p.forms ∷ map width p.forms) (patterns_body (body r.body)))

-- ---- rules and patches

-- the rule is sound after these
pub record IsSoundRule (earlier : List Rule) (r : Rule) : Type 0 where
  pub names : none_alike (λ d e. bytes_eq d.var.name e.var.name) r.vars ≡ true
  pub exports : list_all (is_own_var r.vars) r.exports ≡ true
  pub vars : list_all (is_sound_decl earlier) r.vars ≡ true
  pub wanted : list_all (is_sound_wanted earlier) r.vars ≡ true
  pub depends : is_below (length earlier) r.depends ≡ true
  pub atoms : none_alike (λ p q. nat_eq p.atom q.atom) (patterns_body (body r.body)) ≡ true
  pub patterns : list_all (is_sound_pattern r.vars r.tokens) (patterns_body (body r.body)) ≡ true
  pub tokens : list_all (is_sound_token r.vars) r.tokens ≡ true
  pub formed : is_formed_body (body r.body) ≡ true
  pub few : list_all (λ n. nat_lt n 4294967296) (lengths r) ≡ true

-- each rule is sound after those before it
abbrev pub AreSoundRules : (earlier rules : List Rule) → Type 0
AreSoundRules earlier [] = Unit {0}
AreSoundRules earlier (r ∷ rs) = IsSoundRule earlier r × AreSoundRules (earlier ++ r ∷ []) rs

pub record IsSound (patch : Patch) : Type 0 where
  pub virtuals : nat_lt (length patch.virtuals) 4294967296 ≡ true
  pub count : nat_lt (length patch.rules) 4294967296 ≡ true
  pub rules : AreSoundRules [] patch.rules
