-- Where a variable is a rule's own, and what it takes there.
use Rattle.std.proofs.Common.{◌≡◌, ℕ, suc, ◌+◌, Bool, true, false, refl, sym, ap, ◌∙◌, List, [], ◌∷◌, ◌++◌}
use Rattle.std.proofs.Common.{length, arith, ◌⊎◌, inl, inr, ◌||◌, eqb}
use Rattle.c_terms.specs.declared.token.MetaKind.TheVariants as meta
use Rattle.smpl_terms.specs.declared.var.Var.{Var as Variable}
use Rattle.smpl_patch.specs.declared.pattern.VarDecl.{VarDecl}
use Rattle.smpl_patch.specs.declared.pattern.VarKind.{VarKind}
use Rattle.smpl_patch.specs.declared.pattern.VarKind.TheVariants.{Meta, Position}
use Rattle.smpl_patch.specs.declared.wanted.Wanted.{Wanted}
use Rattle.smpl_patch.specs.Wants.{is_anything}
use Rattle.smpl_patch.specs.Sound.{same_kind}
use Rattle.smpl_meta.specs.declared.head.RuleHead.{RuleHead}
use Rattle.smpl_meta.specs.Known.{kind_number}

abbrev pub Is : Variable → VarKind → Wanted → VarDecl → Type 0
Is x k w d = (d.var ≡ x) × (d.inherited ≡ false) × (kind_number d.kind ≡ kind_number k) × (d.wanted ≡ w)

-- one of the declarations is the variable's own
abbrev pub OwnIn : List VarDecl → Variable → VarKind → Wanted → Type 0
OwnIn [] x k w = ⊥
OwnIn (d ∷ ds) x k w = Is x k w d ⊎ OwnIn ds x k w

-- the rule of the variable's number has it as its own; the first of the rules has the number n
abbrev pub Home : ℕ → List RuleHead → Variable → VarKind → Wanted → Type 0
Home n [] x k w = ⊥
Home n (h ∷ hs) x k w = ((n ≡ x.rule) × OwnIn h.vars x k w) ⊎ Home (suc n) hs x k w

abbrev pub HomeAll : List RuleHead → List Variable → Type 0
HomeAll earlier [] = Unit {0}
HomeAll earlier (y ∷ ys) = ((w : Wanted) × Home 0 earlier y Position w) × HomeAll earlier ys

-- only an expression has to be more than that
abbrev pub takes : VarKind → Wanted → Bool
takes k w = is_anything w || same_kind k (Meta meta.Expr)

pub record GoodDecl (earlier : List RuleHead) (d : VarDecl) : Type 0 where
  pub owned : d.inherited ≡ false → d.var.rule ≡ length earlier
  pub inherits : d.inherited ≡ true → Home 0 earlier d.var d.kind d.wanted
  pub places : HomeAll earlier d.not_places
  pub wants : takes d.kind d.wanted ≡ true

abbrev pub GoodDecls : List RuleHead → List VarDecl → Type 0
GoodDecls earlier [] = Unit {0}
GoodDecls earlier (d ∷ ds) = GoodDecl earlier d × GoodDecls earlier ds

abbrev pub GoodHeads : List RuleHead → List RuleHead → Type 0
GoodHeads earlier [] = Unit {0}
GoodHeads earlier (h ∷ hs) = GoodDecls earlier h.vars × GoodHeads (earlier ++ h ∷ []) hs

-- ---- more rules, and another name of the kind

is-expression : (k : VarKind) → same_kind k (Meta meta.Expr) ≡ eqb (kind_number k) 0
is-expression (Meta k) = refl
is-expression Position = refl

pub takes-kind : (k j : VarKind) (w : Wanted) → kind_number k ≡ kind_number j → takes k w ≡ true → takes j w ≡ true
takes-kind k j w e t =
    ap (λ (b : Bool). is_anything w || b) (is-expression j ∙ ap (λ (n : ℕ). eqb n 0) (sym e) ∙ sym (is-expression k)) ∙ t

own-kind : (ds : List VarDecl) (x : Variable) (k j : VarKind) (w : Wanted) → kind_number k ≡ kind_number j → OwnIn ds x k w → OwnIn ds x j w
own-kind [] x k j w e o = o
own-kind (d ∷ ds) x k j w e (inl is) = inl (is.0, is.1, is.2 ∙ e, is.3)
own-kind (d ∷ ds) x k j w e (inr o) = inr (own-kind ds x k j w e o)

pub home-kind : (n : ℕ) (hs : List RuleHead) (x : Variable) (k j : VarKind) (w : Wanted) → kind_number k ≡ kind_number j
    → Home n hs x k w → Home n hs x j w
home-kind n [] x k j w e o = o
home-kind n (h ∷ hs) x k j w e (inl is) = inl (is.0, own-kind h.vars x k j w e is.1)
home-kind n (h ∷ hs) x k j w e (inr o) = inr (home-kind (suc n) hs x k j w e o)

pub home-front : (n : ℕ) (hs more : List RuleHead) (x : Variable) (k : VarKind) (w : Wanted) → Home n hs x k w → Home n (hs ++ more) x k w
home-front n [] more x k w o = absurd o
home-front n (h ∷ hs) more x k w (inl is) = inl is
home-front n (h ∷ hs) more x k w (inr o) = inr (home-front (suc n) hs more x k w o)

pub home-here : (n : ℕ) (hs more : List RuleHead) (h : RuleHead) (x : Variable) (k : VarKind) (w : Wanted) → x.rule ≡ n + length hs
    → OwnIn h.vars x k w → Home n (hs ++ h ∷ more) x k w
home-here n [] more h x k w e o = let s : n ≡ x.rule = omega (arith, e) in inl (s, o)
home-here n (g ∷ hs) more h x k w e o = inr (home-here (suc n) hs more h x k w (omega (arith, e)) o)
