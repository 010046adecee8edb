-- A block has at most one isomorphism and at most one fault, and not both.
use Rattle.std.specs.Prelude.{IsTrue, codes}
use Rattle.std.proofs.Common.{◌≡◌, ℕ, ◌+◌, Bool, true, Option, List, [], ◌∷◌, Some, take, drop, map, refl, sym, ap, ◌∙◌, subst}
use Rattle.c_terms.specs.declared.token.Token.{Token}
use Rattle.c_terms.specs.declared.tree.Tree.{Tree}
use Rattle.c_terms.specs.Names.{listed_names}
use Rattle.c_rows.specs.declared.kind.Kind.{Kind}
use Rattle.c_rows.specs.declared.kind.Kind.TheVariants as kinds
use Rattle.c_rows.specs.Look.{Names}
use Rattle.c_rows.specs.Trees.{IsTreeOf, stands_alone}
use Rattle.smpl_patch.specs.declared.pattern.VarDecl.{VarDecl}
use Rattle.smpl_patch.specs.declared.rule.Iso.{Iso}
use Rattle.smpl_lexer.specs.declared.token.PatchToken.{PatchToken}
use Rattle.smpl_lexer.specs.Tokens.{is_word}
use Rattle.smpl_meta.specs.declared.item.Item.{Item}
use Rattle.smpl_meta.specs.Decls.{vars_of, AreAnswers}
use Rattle.smpl_meta.proofs.DeclsOnce.{answers-once}
use Rattle.smpl_meta.specs.Patterns.{made}
use Rattle.iso_file.specs.declared.fault.IsoFault.{IsoFault}
use Rattle.iso_file.specs.declared.fault.IsoFault.TheVariants as fault
use Rattle.iso_file.specs.Blocks.{header_name}
use Rattle.iso_file.specs.Sides.{is_expression_line, concatenated, sides_in, arrows_in}
use Rattle.iso_file.specs.Lost.{FirstLost}
use Rattle.iso_file.specs.Isos.{AreSides, IsBehind, IsOfForm, IsIso, first_word, IsBlockFault}
use Rattle.iso_file.specs.Isos.IsBlockFault.{other_word, of_no_form, lost}
use Rattle.read_laws.proofs.IsoOnce.LostLemmas.{lost-once}

-- tokens have one tree of a kind
abbrev pub OneTree : Type 0
OneTree =
    (kind : Kind) (names : Names) (tokens : List Token) (t u : Tree) → IsTrue (stands_alone kind) → IsTreeOf kind names tokens t
    → IsTreeOf kind names tokens u → t ≡ u

-- what a block says is one
pub record SameForm (one other : Iso) (sides others : List (List PatchToken)) : Type 0 where
  pub iso : one ≡ other
  pub sides_are : sides ≡ others

record SameBehind (vars others : List VarDecl) (sides others_sides : List (List PatchToken)) (arrows other_arrows : List Bool)
    (trees other_trees : List Tree) : Type 0 where
  pub vars_are : vars ≡ others
  pub sides_are : sides ≡ others_sides
  pub arrows_are : arrows ≡ other_arrows
  pub trees_are : trees ≡ other_trees

-- the first word of a block of the form is `Expression`
word-is : (word header : List PatchToken) (lines : List (List PatchToken)) (t : PatchToken) → is_expression_line word ≡ true
    → first_word (word ∷ header ∷ lines) ≡ Some t
    → is_word (codes "Expression") t ≡ true
word-is [] header lines t e f = absurd (cc)
word-is (u ∷ []) header lines t e f = let same : u ≡ t = cc in subst (λ (x : PatchToken). is_word (codes "Expression") x ≡ true) same e
word-is (u ∷ v ∷ us) header lines t e f = absurd (cc)

form-word : (block : List (List PatchToken)) (iso : Iso) (sides : List (List PatchToken)) (t : PatchToken) → IsOfForm block iso sides
    → first_word block ≡ Some t
    → is_word (codes "Expression") t ≡ true
form-word block iso sides t a e = word-is a.word a.header a.lines t a.word_is (sym (ap first_word a.block_is) ∙ e)

same-word : (block : List (List PatchToken)) (t u : PatchToken) → first_word block ≡ Some t → first_word block ≡ Some u → t ≡ u
same-word block t u e f = let both : Some t ≡ Some u = sym e ∙ f in cc

module _ (law : OneTree) where
  sides-once : (vars : List VarDecl) (ss : List (List PatchToken)) (ts us : List Tree) → AreSides vars ss ts → AreSides vars ss us → ts ≡ us
  sides-once vars [] [] [] a b = refl
  sides-once vars [] [] (u ∷ us) a b = absurd b
  sides-once vars [] (t ∷ ts) us a b = absurd a
  sides-once vars (s ∷ ss) [] us a b = absurd a
  sides-once vars (s ∷ ss) (t ∷ ts) [] a b = absurd b
  sides-once vars (s ∷ ss) (t ∷ ts) (u ∷ us) a b =
      let head = law kinds.Expr listed_names (map (made vars 0) s) t u refl a.0.tree_is b.0.tree_is in
      let rest = sides-once vars ss ts us a.1 b.1 in
      λ i. head i ∷ rest i

  behind-once : (lines : List (List PatchToken)) (vars vars' : List VarDecl) (sides sides' : List (List PatchToken)) (arrows arrows' : List Bool)
      (trees trees' : List Tree)
      → IsBehind lines vars sides arrows trees → IsBehind lines vars' sides' arrows' trees' → SameBehind vars vars' sides sides' arrows arrows' trees trees'
  behind-once lines vars vars' sides sides' arrows arrows' trees trees' a b =
      let at : Some a.second ≡ Some b.second = sym a.second_is ∙ b.second_is in
      let second : a.second ≡ b.second = cc in
      let one = a.vars_are.decls in
      let other = b.vars_are.decls in
      let read : AreAnswers (concatenated (take b.second lines)) one.answers
      = subst (λ (n : ℕ). AreAnswers (concatenated (take n lines)) one.answers) second one.read in
      let answers = answers-once law (concatenated (take b.second lines)) one.answers other.answers read other.read in
      let vars_are : vars ≡ vars' = one.vars_are ∙ (ap (λ (l : List (Option (List Item))). vars_of [] 0 l) answers ∙ sym other.vars_are) in
      let sides_are : sides ≡ sides' = a.sides_are ∙ ap (λ (n : ℕ). sides_in (concatenated (drop (n + 1) lines))) second ∙ sym b.sides_are in
      let arrows_are : arrows ≡ arrows' = a.arrows_are ∙ ap (λ (n : ℕ). arrows_in (concatenated (drop (n + 1) lines))) second ∙ sym b.arrows_are in
      let moved : AreSides vars' sides' trees = subst (λ (ss : List (List PatchToken)). AreSides vars' ss trees) sides_are
      (subst (λ (vs : List VarDecl). AreSides vs sides trees) vars_are a.trees_are) in
      record { vars_are = vars_are; sides_are = sides_are; arrows_are = arrows_are; trees_are = sides-once vars' sides' trees trees' moved b.trees_are }

  pub form-once : (block : List (List PatchToken)) (one other : Iso) (sides others : List (List PatchToken)) → IsOfForm block one sides
      → IsOfForm block other others
      → SameForm one other sides others
  form-once block one other sides others a b =
      let cut : a.word ∷ a.header ∷ a.lines ≡ b.word ∷ b.header ∷ b.lines = sym a.block_is ∙ b.block_is in
      let header : a.header ≡ b.header = cc in
      let lines : a.lines ≡ b.lines = cc in
      let named : Some one.name ≡ Some other.name = sym a.name_is ∙ ap header_name header ∙ b.name_is in
      let name : one.name ≡ other.name = cc in
      let moved : IsBehind b.lines one.vars sides one.both one.sides = subst
      (λ (ls : List (List PatchToken)). IsBehind ls one.vars sides one.both one.sides) lines a.behind in
      let same = behind-once b.lines one.vars other.vars sides others one.both other.both one.sides other.sides moved b.behind in
      let vars = same.vars_are in
      let trees = same.trees_are in
      let both = same.arrows_are in
      record { iso = λ i. record { name = name i; vars = vars i; sides = trees i; both = both i }; sides_are = same.sides_are }

  pub iso-once : (block : List (List PatchToken)) (one other : Iso) → IsIso block one → IsIso block other → one ≡ other
  iso-once block one other a b = (form-once block one other a.sides b.sides a.form b.form).iso

  lost-same : (block : List (List PatchToken)) (one other : Iso) (sides others : List (List PatchToken)) (at : ℕ) → IsOfForm block one sides
      → IsOfForm block other others
      → FirstLost one.vars sides one.both at → FirstLost other.vars others other.both at
  lost-same block one other sides others at a b w =
      let same = form-once block one other sides others a b in
      subst (λ (ss : List (List PatchToken)). FirstLost other.vars ss other.both at) same.sides_are
      (subst (λ (i : Iso). FirstLost i.vars sides i.both at) same.iso w)

  pub fault-once : (block : List (List PatchToken)) (f g : IsoFault) → IsBlockFault block f → IsBlockFault block g → f ≡ g
  fault-once block f g (other_word t e n) (other_word u d m) = ap (λ (x : PatchToken). fault.NotExpression x.at) (same-word block t u e d)
  fault-once block f g (other_word t e n) (of_no_form u d w unfit) =
      absurd (n (subst (λ (x : PatchToken). is_word (codes "Expression") x ≡ true) (same-word block u t d e) w))
  fault-once block f g (other_word t e n) (lost u j ss k d w form first) =
      absurd (n (subst (λ (x : PatchToken). is_word (codes "Expression") x ≡ true) (same-word block u t d e) w))
  fault-once block f g (of_no_form t e w unfit) (other_word u d m) =
      absurd (m (subst (λ (x : PatchToken). is_word (codes "Expression") x ≡ true) (same-word block t u e d) w))
  fault-once block f g (of_no_form t e w unfit) (of_no_form u d v other) = ap (λ (x : PatchToken). fault.BadIso x.at) (same-word block t u e d)
  fault-once block f g (of_no_form t e w unfit) (lost u j ss k d v form first) = absurd (unfit j ss form)
  fault-once block f g (lost t i ss n e w form first) (other_word u d m) =
      absurd (m (subst (λ (x : PatchToken). is_word (codes "Expression") x ≡ true) (same-word block t u e d) w))
  fault-once block f g (lost t i ss n e w form first) (of_no_form u d v unfit) = absurd (unfit i ss form)
  fault-once block f g (lost t i ss n e w form first) (lost u j rs k d v also other) =
      ap (λ (x : ℕ). fault.VariableLost x) (lost-once j.vars rs j.both n k (lost-same block i j ss rs n form also first) other)

  pub iso-apart : (block : List (List PatchToken)) (iso : Iso) (f : IsoFault) → IsIso block iso → IsBlockFault block f → ⊥
  iso-apart block iso f a (other_word t e n) = n (form-word block iso a.sides t a.form e)
  iso-apart block iso f a (of_no_form t e w unfit) = unfit iso a.sides a.form
  iso-apart block iso f a (lost t i ss n e w form first) =
      let there : FirstLost iso.vars a.sides iso.both n = lost-same block i iso ss a.sides n form a.form first in
      a.keeps there.i there.j n there.loses
