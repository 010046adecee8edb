-- The trees that rows build have their form.
-- Proof: by recursion on the derivation, with tests of the rows and of the alternatives of their forks.
use Rattle.std.proofs.Common.{◌≡◌, ℕ, suc, ◌+◌, ◌*◌, ◌≤◌, subst, refl, ap, sym, ◌∙◌, arith, List, [], ◌∷◌, length}
use Rattle.std.proofs.lemmas.Bool.{false≢true}
use Rattle.std.proofs.lemmas.Bool.Decides.{nat_tests}
use Rattle.std.specs.Prelude.{Bool, true, false, not, ◌&&◌, ◌||◌, nat_le, IsTrue, if◌then◌else◌}
use Rattle.c_terms.specs.declared.token.Token.{Token}
use Rattle.c_terms.specs.declared.token.TokenKind.{TokenKind}
use Rattle.c_terms.specs.declared.token.TokenKind.TheVariants as token_kind
use Rattle.c_terms.specs.declared.token.MetaKind.TheVariants as meta_kind
use Rattle.c_terms.specs.declared.label.Label.TheVariants as label
use Rattle.c_terms.specs.declared.tree.Tree.{Tree, out-Tree}
use Rattle.c_terms.specs.declared.tree.Tree.TheVariants.{Leaf}
use Rattle.c_terms.proofs.SameLemmas.{out-Leaf, out-Branch}
use Rattle.c_rows.specs.declared.class.Class.{Class}
use Rattle.c_rows.specs.declared.class.Class.TheVariants as class
use Rattle.c_rows.specs.declared.word.Word.{Word}
use Rattle.c_rows.specs.declared.word.Word.TheVariants as words
use Rattle.c_rows.specs.declared.kind.Kind.{Kind}
use Rattle.c_rows.specs.declared.kind.Kind.TheVariants as kind
use Rattle.c_rows.specs.declared.kind.Family.{Family}
use Rattle.c_rows.specs.declared.kind.Family.TheVariants as family
use Rattle.c_rows.specs.declared.rule.Rule.{Rule}
use Rattle.c_rows.specs.declared.rule.Rule.TheVariants as rule
use Rattle.c_rows.specs.declared.symbol.Symbol.TheVariants as symbol
use Rattle.c_rows.specs.declared.symbol.Fork.{Fork}
use Rattle.c_rows.specs.declared.symbol.Fork.TheVariants as forks
use Rattle.c_rows.specs.Kinds.{family_of, has_leaf, is_operand}
use Rattle.c_rows.specs.Words.{fits}
use Rattle.c_rows.specs.Branches.{kind_of, label_of, branches_label, at_label, if_label, case_label, for_label, external_label}
use Rattle.c_rows.specs.Branches.{macro_label, text_is, labelled, is_decl_label, is_block_label, is_blockless, begins_dots}
use Rattle.c_rows.specs.Branches.{begins_declaration, may_go}
use Rattle.c_rows.specs.Rows.{Row, row, ways}
use Rattle.c_rows.specs.Choice.{full, implies}
use Rattle.c_rows.specs.Look.{Names, look, class_of}
use Rattle.c_rows.specs.Derives.{Derives, leaf, branch as derived, DerivesRow, done, word, child, argument, type_argument, fork}
use Rattle.c_rows.proofs.FirstChecks.{and_left, and_right, modus, not_true, row_at, Passes}
use Rattle.c_rows.proofs.OriginLemmas.{kind_test, token_tells}
use Rattle.c_rows.proofs.FirstLemmas.{within_family}
use Rattle.smpl_patch.specs.Patterns.{is_sign, is_sign_at as is_sign_in, is_sign_tree}
use Rattle.smpl_body.specs.SmplElem.Forms.{is_list_in, is_list, first_kid, last_kid}
use Rattle.smpl_body.specs.DotsOf.{is_dots}
use Rattle.sound_laws.specs.SmplFormed.Shapes.{is_nest_label, is_dots_in, is_dots_tree, is_leaf_in, is_leaf, begins, apart}
use Rattle.sound_laws.specs.SmplFormed.Shapes.{unlisted, undotted, lists, is_choice, has_form, Formed, token, branch, AllFormed}
use Rattle.sound_laws.specs.SmplFormed.Shapes.{none, more}
use Rattle.sound_laws.proofs.SmplFormed.RowTests.{is_list_kind, no_leaf, list_label, is_statement_family, is_safe, neither}
use Rattle.sound_laws.proofs.SmplFormed.RowTests.{rule_unlisted, is_nest_rule, other_rule, safe_rule, bare, bare_ways}
use Rattle.sound_laws.proofs.SmplFormed.RowTests.{is_plain_word, shy, calm, is_guarded, shy_way, calm_way, shy_ways, calm_ways}
use Rattle.sound_laws.proofs.SmplFormed.RowTests.{quiet, quiet_ways, ends_worded, worded_ways, begins_nest, nest_class}
use Rattle.sound_laws.proofs.SmplFormed.RowTests.{has_list, list_ways, rich, thrifty, thrifty_ways, rich_ways, thrifty_row}
use Rattle.sound_laws.proofs.SmplFormed.RowTests.{rich_row}

-- ---- on Bool

and_both : (a b : Bool) → a ≡ true → b ≡ true → (a && b) ≡ true
and_both true b h g = g
and_both false b h g = absurd (false≢true h)

not_false : (a : Bool) → a ≡ false → not a ≡ true
not_false true h = absurd (false≢true (sym h))
not_false false h = refl

-- no two side by side, where the first is none
first_other : (a b : Bool) → a ≡ false → not (a && b) ≡ true
first_other true b h = absurd (false≢true (sym h))
first_other false b h = refl

second_other : (a b : Bool) → b ≡ false → not (a && b) ≡ true
second_other true b h = not_false b h
second_other false b h = refl

either_other : {A : Type 0} (a b : Bool) → IsTrue (a || b) → (a ≡ true → A) → (b ≡ true → A) → A
either_other true b h f g = f refl
either_other false b h f g = g h

-- ---- tokens

undotted_kind : (names : Names) (p : Class → Bool) → p class.Dots ≡ false
    → (k : TokenKind) (s : List ℕ) (ts : List Token) (next : Class) → IsTrue (p (class_of names k s ts next)) → is_dots k ≡ false
undotted_kind names p off token_kind.Dots s ts next h = absurd (false≢true (sym off ∙ h))
undotted_kind names p off _ s ts next h = refl

-- a token of whose class dots are not is no dots
undotted_token : (names : Names) (p : Class → Bool) → p class.Dots ≡ false → (t : Token) (ts : List Token)
    → IsTrue (p (look names (t ∷ ts))) → is_dots_tree (Leaf t) ≡ false
unfolding look
undotted_token names p off t ts h = ap is_dots_in (out-Leaf t) ∙ undotted_kind names p off t.kind t.text ts (look names ts) h

abbrev unsigned_at : TokenKind → Class → Bool
unsigned_at k c = implies (is_operand c) (not (is_sign k))

unsigned_test : (k : TokenKind) → Passes (kind_test unsigned_at k)
unsigned_test (token_kind.Meta meta_kind.Expr) = refl
unsigned_test (token_kind.Meta _) = refl
unsigned_test _ = refl

unsigned_kind : (names : Names) (t : Token) (ts : List Token) → IsTrue (is_operand (look names (t ∷ ts))) → is_sign t.kind ≡ false
unsigned_kind names t ts h = not_true (is_sign t.kind)
    (modus (is_operand (look names (t ∷ ts))) (not (is_sign t.kind)) (token_tells unsigned_at unsigned_test names t ts) h)

-- an operand is no sign
unsigned_token : (names : Names) (t : Token) (ts : List Token) → IsTrue (is_operand (look names (t ∷ ts))) → is_sign_tree (Leaf t) ≡ false
unsigned_token names t ts h = ap is_sign_in (out-Leaf t) ∙ unsigned_kind names t ts h

-- ---- forms by labels

later : (t : Tree) (cs : List Tree) → is_leaf (last_kid cs) ≡ true → is_leaf (last_kid (t ∷ cs)) ≡ true
later t [] h = absurd (false≢true (sym (ap is_leaf_in (out-Branch label.StmtList [])) ∙ h))
later t (c ∷ cs) h = h

nest_rule : (r : Rule) → is_nest_rule r ≡ true → row r ≡ row rule.PatNest
nest_rule rule.PatNest h = refl
nest_rule _ h = absurd (false≢true h)

-- what stands at a fork with a statement
stands : (f : Fork) (c : Class) (ps : Row) → IsTrue (may_go f (symbol.Child kind.Statement ∷ ps) c) → IsTrue (not (begins_declaration c) && not (begins_dots c))
stands forks.ForInit c ps v = v
stands _ c ps v = v

of_expressions : (a b : Tree) (cs : List Tree) → is_sign_tree b ≡ false → is_list b ≡ false → is_choice (a ∷ b ∷ cs) ≡ true
of_expressions a b cs s l =
    and_both (not (is_sign_tree b)) (if is_list b then nat_le 2 (lists (a ∷ b ∷ cs)) && undotted (a ∷ b ∷ cs) else true) (not_false (is_sign_tree b) s)
    (ap (λ (e : Bool). if e then nat_le 2 (lists (a ∷ b ∷ cs)) && undotted (a ∷ b ∷ cs) else true) l)

lists_more : (t : Tree) (cs : List Tree) → lists cs ≤ lists (t ∷ cs)
lists_more t cs = by (is_list t)
  where
    by : (e : Bool) → lists cs ≤ (if e then suc (lists cs) else lists cs)
    by true = omega arith
    by false = omega arith

lists_one : (t : Tree) (cs : List Tree) → is_list t ≡ true → suc (lists cs) ≤ lists (t ∷ cs)
lists_one t cs e = let h : lists (t ∷ cs) ≡ suc (lists cs) = ap (λ (b : Bool). if b then suc (lists cs) else lists cs) e in omega (arith, h)

of_lists : (a b : Tree) (cs : List Tree) → is_sign_tree b ≡ false → is_list b ≡ true → 1 ≤ lists cs
    → undotted (a ∷ b ∷ cs) ≡ true → is_choice (a ∷ b ∷ cs) ≡ true
of_lists a b cs s l some q =
    let two : nat_le 2 (lists (a ∷ b ∷ cs)) ≡ true = at_least (lists (a ∷ b ∷ cs)) (omega (arith, lists_more a (b ∷ cs), lists_one b cs l, some)) in
    and_both (not (is_sign_tree b)) (if is_list b then nat_le 2 (lists (a ∷ b ∷ cs)) && undotted (a ∷ b ∷ cs) else true) (not_false (is_sign_tree b) s)
    (ap (λ (e : Bool). if e then nat_le 2 (lists (a ∷ b ∷ cs)) && undotted (a ∷ b ∷ cs) else true) l
    ∙ and_both (nat_le 2 (lists (a ∷ b ∷ cs))) (undotted (a ∷ b ∷ cs)) two q)
  where
    at_least : (n : ℕ) → 2 ≤ n → nat_le 2 n ≡ true
    at_least n h = grind (arith, nat_tests)

branches_form : (cs : List Tree) → is_choice cs ≡ true → has_form (branches_label cs) cs ≡ true
branches_form [] h = h
branches_form (a ∷ []) h = h
branches_form (a ∷ b ∷ []) h = h
branches_form (a ∷ b ∷ c ∷ cs) h = either (text_is _ (out-Tree c))
  where
    either : (e : Bool) → has_form (if e then label.PatOr else label.PatAnd) (a ∷ b ∷ c ∷ cs) ≡ true
    either true = h
    either false = h

at_form : (cs : List Tree) → unlisted cs ≡ true → has_form (at_label cs) cs ≡ true
at_form [] h = h
at_form (a ∷ []) h = h
at_form (a ∷ b ∷ []) h = h
at_form (a ∷ b ∷ c ∷ []) h = h
at_form (a ∷ b ∷ c ∷ d ∷ cs) h = h

if_form : (cs : List Tree) → unlisted cs ≡ true → has_form (if_label cs) cs ≡ true
if_form [] h = h
if_form (a ∷ []) h = h
if_form (a ∷ b ∷ []) h = h
if_form (a ∷ b ∷ c ∷ []) h = h
if_form (a ∷ b ∷ c ∷ d ∷ []) h = h
if_form (a ∷ b ∷ c ∷ d ∷ e ∷ []) h = h
if_form (a ∷ b ∷ c ∷ d ∷ e ∷ f ∷ cs) h = h

case_form : (cs : List Tree) → unlisted cs ≡ true → has_form (case_label cs) cs ≡ true
case_form [] h = h
case_form (a ∷ []) h = h
case_form (a ∷ b ∷ []) h = h
case_form (a ∷ b ∷ c ∷ []) h = h
case_form (a ∷ b ∷ c ∷ d ∷ cs) h = h

for_form : (cs : List Tree) → unlisted cs ≡ true → has_form (for_label cs) cs ≡ true
for_form [] h = h
for_form (a ∷ []) h = h
for_form (a ∷ b ∷ []) h = h
for_form (a ∷ b ∷ c ∷ cs) h = either (labelled is_decl_label (out-Tree c))
  where
    either : (e : Bool) → has_form (if e then label.ForDecl else label.For) (a ∷ b ∷ c ∷ cs) ≡ true
    either true = h
    either false = h

external_form : (cs : List Tree) → unlisted cs ≡ true → has_form (external_label cs) cs ≡ true
external_form [] h = h
external_form (a ∷ []) h = h
external_form (a ∷ b ∷ []) h = h
external_form (a ∷ b ∷ c ∷ []) h = either (labelled is_block_label (out-Tree c))
  where
    either : (e : Bool) → has_form (if e then label.FunDef else label.Decl) (a ∷ b ∷ c ∷ []) ≡ true
    either true = h
    either false = h
external_form (a ∷ b ∷ c ∷ d ∷ cs) h = h

macro_form : (cs : List Tree) → unlisted cs ≡ true → has_form (macro_label cs) cs ≡ true
macro_form cs h = either (is_blockless cs)
  where
    either : (e : Bool) → has_form (if e then label.MacroItem else label.MacroFun) cs ≡ true
    either true = h
    either false = h

abbrev least : Family → ℕ
least f = if full f then 1 else 0

least_one : (b : Bool) → (if b then 1 else 0) ≤ 1
least_one true = omega arith
least_one false = omega arith

-- ---- derivations

not_statement : (f : Family) → IsTrue (not (is_statement_family f)) → has_leaf f class.Dots ≡ false
not_statement family.Statement h = absurd (false≢true h)
not_statement _ h = refl

module _ (names : Names) (may : List Token → List Token → Type 0) where
  -- ---- lists of statements

  unlisted_tree : {k : Kind} {xs ys : List Token} {t : Tree} → IsTrue (neither k) → Derives names may k xs t ys → is_list t ≡ false
  unlisted_tree h (leaf {t = t} l) = ap is_list_in (out-Leaf t)
  unlisted_tree {k} h (derived {cs = cs} r w b al parts) = ap is_list_in (out-Branch (label_of r cs) cs) ∙ rule_unlisted r cs k h w

  row_bare : {ps : Row} {xs ys : List Token} {cs : List Tree} → DerivesRow names may ps xs cs ys → IsTrue (bare ps) → unlisted cs ≡ true
  row_bare done h = refl
  row_bare (word {t = t} {cs = cs} f rest) h =
      and_both (not (is_list (Leaf t))) (unlisted cs) (not_false (is_list (Leaf t)) (ap is_list_in (out-Leaf t))) (row_bare rest h)
  row_bare (child {k = k} {ps = ps} {t = t} {cs = cs} d rest) h =
      and_both (not (is_list t)) (unlisted cs) (not_false (is_list t) (unlisted_tree (and_left (neither k) (bare ps) h) d))
      (row_bare rest (and_right (neither k) (bare ps) h))
  row_bare (argument {t = t} {cs = cs} d rest) h =
      and_both (not (is_list t)) (unlisted cs) (not_false (is_list t) (unlisted_tree {k = kind.AssignLevel} refl d)) (row_bare rest h)
  row_bare (type_argument {t = t} {cs = cs} a d rest) h =
      and_both (not (is_list t)) (unlisted cs) (not_false (is_list t) (unlisted_tree {k = kind.TypeArg} refl d)) (row_bare rest h)
  row_bare (fork {f = f} {ps = ps} i w v way) h = row_bare way (row_at bare (ways f) i ps (bare_ways f h) w)

  -- ---- dots and nests

  -- a tree of another family is neither
  safe_tree : {k : Kind} {xs ys : List Token} {t : Tree} → IsTrue (is_safe k) → Derives names may k xs t ys → is_dots_tree t ≡ false
  safe_tree {k} h (leaf {t = t} {ys = ys} l) = undotted_token names (has_leaf (family_of k)) (not_statement (family_of k) h) t ys l
  safe_tree {k} h (derived {cs = cs} r w b al parts) = ap is_dots_in (out-Branch (label_of r cs) cs) ∙ safe_rule r cs k h w

  plain_word : (w : Word) (t : Token) (ts : List Token) → IsTrue (is_plain_word w) → IsTrue (fits w (look names (t ∷ ts))) → is_dots_tree (Leaf t) ≡ false
  plain_word w t ts h f = undotted_token names (fits w) (not_true (fits w class.Dots) h) t ts f

  -- a nest begins with its sign
  row_nest : {ps : Row} {xs ys : List Token} {cs : List Tree} → DerivesRow names may ps xs cs ys → IsTrue (begins_nest ps)
      → (begins_dots (look names xs) ≡ true) × (is_leaf (first_kid cs) ≡ true)
  row_nest done h = absurd (false≢true h)
  row_nest (word {w = w} {t = t} {xs = xs} f rest) h = (nest_class w h (look names (t ∷ xs)) f, ap is_leaf_in (out-Leaf t))
  row_nest (child d rest) h = absurd (false≢true h)
  row_nest (argument d rest) h = absurd (false≢true h)
  row_nest (type_argument a d rest) h = absurd (false≢true h)
  row_nest (fork i w v way) h = absurd (false≢true h)

  nest_first : {xs ys : List Token} {cs : List Tree} → DerivesRow names may (row rule.PatNest) xs cs ys
      → (begins_dots (look names xs) ≡ true) × (is_leaf (first_kid cs) ≡ true)
  nest_first (fork {ps = ps} i w v way) = row_nest way (row_at begins_nest (ways forks.NestStart) i ps refl w)

  other_branch : (r : Rule) {xs ys : List Token} (cs : List Tree) → begins_dots (look names xs) ≡ false
      → DerivesRow names may (row r) xs cs ys → is_nest_label (label_of r cs) ≡ false
  other_branch r {xs} {ys} cs off parts = by (is_nest_rule r) refl
    where
      by : (e : Bool) → is_nest_rule r ≡ e → is_nest_label (label_of r cs) ≡ false
      by true e = absurd (false≢true (sym off ∙ (nest_first (subst (λ (q : Row). DerivesRow names may q xs cs ys) (nest_rule r e) parts)).0))
      by false e = other_rule r cs (not_false (is_nest_rule r) e)

  -- a statement that begins otherwise is neither
  statement_tree : {k : Kind} {xs ys : List Token} {t : Tree} → begins_dots (look names xs) ≡ false → Derives names may k xs t ys → is_dots_tree t ≡ false
  statement_tree off (leaf {t = t} {ys = ys} l) = undotted_token names (λ c. not (begins_dots c)) refl t ys (not_false (begins_dots (look names (t ∷ ys))) off)
  statement_tree off (derived {cs = cs} r w b al parts) = ap is_dots_in (out-Branch (label_of r cs) cs) ∙ other_branch r cs off parts

  guarded_tree : (f : Fork) (k : Kind) (ps : Row) {xs ys : List Token} {t : Tree} → IsTrue (is_guarded k)
      → IsTrue (may_go f (symbol.Child k ∷ ps) (look names xs)) → Derives names may k xs t ys
      → is_dots_tree t ≡ false
  guarded_tree f kind.Statement ps {xs} g v d =
      statement_tree (not_true (begins_dots (look names xs))
      (and_right (not (begins_declaration (look names xs))) (not (begins_dots (look names xs))) (stands f (look names xs) ps v))) d
  guarded_tree f _ ps g v d = absurd (false≢true g)

  mutual
    row_shy : {ps : Row} {xs ys : List Token} {cs : List Tree} → DerivesRow names may ps xs cs ys → IsTrue (shy ps) → begins cs ≡ false
    row_shy done h = refl
    row_shy (word {w = w} {t = t} {xs = xs} f rest) h = plain_word w t xs h f
    row_shy (child d rest) h = safe_tree h d
    row_shy (argument d rest) h = safe_tree {k = kind.AssignLevel} refl d
    row_shy (type_argument a d rest) h = safe_tree {k = kind.TypeArg} refl d
    row_shy (fork {f = f} {ps = ps} i w v way) h = way_shy f ps way v (row_at shy_way (ways f) i ps (shy_ways f h) w)

    way_shy : (f : Fork) (ps : Row) {xs ys : List Token} {cs : List Tree} → DerivesRow names may ps xs cs ys
        → IsTrue (may_go f ps (look names xs)) → IsTrue (shy_way ps) → begins cs ≡ false
    way_shy f _ done v h = refl
    way_shy f _ (word {w = w} {t = t} {xs = xs} g rest) v h = plain_word w t xs h g
    way_shy f _ (child {k = k} {ps = ps} {t = t} d rest) v h =
        either_other (is_guarded k) (is_safe k) h (λ g. guarded_tree f k ps g v d) (λ s. safe_tree s d)
    way_shy f _ (argument d rest) v h = safe_tree {k = kind.AssignLevel} refl d
    way_shy f _ (type_argument a d rest) v h = safe_tree {k = kind.TypeArg} refl d
    way_shy f _ (fork {f = g} {ps = ps} i w u way) v h = way_shy g ps way u (row_at shy_way (ways g) i ps (shy_ways g h) w)

  either_apart : (t : Tree) (cs : List Tree) → apart cs ≡ true → is_dots_tree t ≡ false → apart (t ∷ cs) ≡ true
  either_apart t cs r h = and_both (not (is_dots_tree t && begins cs)) (apart cs) (first_other (is_dots_tree t) (begins cs) h) r

  shy_apart : (t : Tree) (cs : List Tree) → apart cs ≡ true → begins cs ≡ false → apart (t ∷ cs) ≡ true
  shy_apart t cs r h = and_both (not (is_dots_tree t && begins cs)) (apart cs) (second_other (is_dots_tree t) (begins cs) h) r

  calm_word : (w : Word) (t : Token) {ps : Row} {xs ys : List Token} {cs : List Tree} → IsTrue (fits w (look names (t ∷ xs)))
      → DerivesRow names may ps xs cs ys → IsTrue (calm (symbol.Word w ∷ ps))
      → (IsTrue (calm ps) → apart cs ≡ true) → apart (Leaf t ∷ cs) ≡ true
  calm_word w t {ps} {xs} {ys} {cs} f rest h more' =
      let r = more' (and_right (is_plain_word w || shy ps) (calm ps) h) in
      either_other (is_plain_word w) (shy ps) (and_left (is_plain_word w || shy ps) (calm ps) h)
      (λ p. either_apart (Leaf t) cs r (plain_word w t xs p f)) (λ s. shy_apart (Leaf t) cs r (row_shy rest s))

  calm_child : {k : Kind} {ps : Row} {xs ys zs : List Token} {t : Tree} {cs : List Tree} → Derives names may k xs t ys
      → DerivesRow names may ps ys cs zs → IsTrue (calm (symbol.Child k ∷ ps))
      → (IsTrue (calm ps) → apart cs ≡ true) → apart (t ∷ cs) ≡ true
  calm_child {k} {ps} {xs} {ys} {zs} {t} {cs} d rest h more' =
      let r = more' (and_right (is_safe k || shy ps) (calm ps) h) in
      either_other (is_safe k) (shy ps) (and_left (is_safe k || shy ps) (calm ps) h) (λ s. either_apart t cs r (safe_tree s d))
      (λ s. shy_apart t cs r (row_shy rest s))

  mutual
    row_calm : {ps : Row} {xs ys : List Token} {cs : List Tree} → DerivesRow names may ps xs cs ys → IsTrue (calm ps) → apart cs ≡ true
    row_calm done h = refl
    row_calm (word {w = w} {t = t} f rest) h = calm_word w t f rest h (row_calm rest)
    row_calm (child {k = k} d rest) h = calm_child {k = k} d rest h (row_calm rest)
    row_calm (argument {t = t} {cs = cs} d rest) h = either_apart t cs (row_calm rest h) (safe_tree {k = kind.AssignLevel} refl d)
    row_calm (type_argument {t = t} {cs = cs} a d rest) h = either_apart t cs (row_calm rest h) (safe_tree {k = kind.TypeArg} refl d)
    row_calm (fork {f = f} {ps = ps} i w v way) h = way_calm f ps way v (row_at calm_way (ways f) i ps (calm_ways f h) w)

    way_calm : (f : Fork) (ps : Row) {xs ys : List Token} {cs : List Tree} → DerivesRow names may ps xs cs ys
        → IsTrue (may_go f ps (look names xs)) → IsTrue (calm_way ps) → apart cs ≡ true
    way_calm f _ done v h = refl
    way_calm f _ (word {w = w} {t = t} g rest) v h = calm_word w t g rest h (row_calm rest)
    way_calm f _ (child {k = k} {ps = ps} {t = t} {cs = cs} d rest) v h = by (is_guarded k) refl h (row_calm rest)
      where
        by : (e : Bool) → is_guarded k ≡ e → IsTrue (if e then calm ps else calm (symbol.Child k ∷ ps))
            → (IsTrue (calm ps) → apart cs ≡ true) → apart (t ∷ cs) ≡ true
        by true e c r = either_apart t cs (r c) (guarded_tree f k ps e v d)
        by false e c r = calm_child {k = k} d rest c r
    way_calm f _ (argument {t = t} {cs = cs} d rest) v h = either_apart t cs (row_calm rest h) (safe_tree {k = kind.AssignLevel} refl d)
    way_calm f _ (type_argument {t = t} {cs = cs} a d rest) v h = either_apart t cs (row_calm rest h) (safe_tree {k = kind.TypeArg} refl d)
    way_calm f _ (fork {f = g} {ps = ps} i w u way) v h = way_calm g ps way u (row_at calm_way (ways g) i ps (calm_ways g h) w)

  row_quiet : {ps : Row} {xs ys : List Token} {cs : List Tree} → DerivesRow names may ps xs cs ys → IsTrue (quiet ps) → undotted cs ≡ true
  row_quiet done h = refl
  row_quiet (word {w = w} {ps = ps} {t = t} {xs = xs} {cs = cs} f rest) h =
      and_both (not (is_dots_tree (Leaf t))) (undotted cs) (not_false (is_dots_tree (Leaf t)) (plain_word w t xs (and_left (is_plain_word w) (quiet ps) h) f))
      (row_quiet rest (and_right (is_plain_word w) (quiet ps) h))
  row_quiet (child {k = k} {ps = ps} {t = t} {cs = cs} d rest) h =
      and_both (not (is_dots_tree t)) (undotted cs)
      (not_false (is_dots_tree t) (safe_tree (and_left (is_safe k) (quiet ps) h) d)) (row_quiet rest (and_right (is_safe k) (quiet ps) h))
  row_quiet (argument {t = t} {cs = cs} d rest) h =
      and_both (not (is_dots_tree t)) (undotted cs) (not_false (is_dots_tree t) (safe_tree {k = kind.AssignLevel} refl d)) (row_quiet rest h)
  row_quiet (type_argument {t = t} {cs = cs} a d rest) h =
      and_both (not (is_dots_tree t)) (undotted cs) (not_false (is_dots_tree t) (safe_tree {k = kind.TypeArg} refl d)) (row_quiet rest h)
  row_quiet (fork {f = f} {ps = ps} i w v way) h = row_quiet way (row_at quiet (ways f) i ps (quiet_ways f h) w)

  -- ---- the last token of a nest

  row_worded : {ps : Row} {xs ys : List Token} {cs : List Tree} → DerivesRow names may ps xs cs ys → IsTrue (ends_worded ps) → is_leaf (last_kid cs) ≡ true
  row_worded done h = absurd (false≢true h)
  row_worded (word {ps = []} {t = t} f done) h = ap is_leaf_in (out-Leaf t)
  row_worded (word {ps = p ∷ ps} {t = t} {cs = cs} f rest) h = later (Leaf t) cs (row_worded rest h)
  row_worded (child {t = t} {cs = cs} d rest) h = later t cs (row_worded rest h)
  row_worded (argument {t = t} {cs = cs} d rest) h = later t cs (row_worded rest h)
  row_worded (type_argument {t = t} {cs = cs} a d rest) h = later t cs (row_worded rest h)
  row_worded (fork {f = f} {ps = ps} i w v way) h = row_worded way (row_at ends_worded (ways f) i ps (worded_ways f h) w)

  -- ---- choices

  -- the first branch is no sign
  branch_tree : {xs ys : List Token} {t : Tree} → Derives names may kind.Expr xs t ys → is_sign_tree t ≡ false
  branch_tree (leaf {t = t} {ys = ys} l) = unsigned_token names t ys l
  branch_tree (derived {cs = cs} r w b al parts) = ap is_sign_in (out-Branch (label_of r cs) cs)

  list_tree : {k : Kind} {xs ys : List Token} {t : Tree} → IsTrue (is_list_kind k) → Derives names may k xs t ys → (is_sign_tree t ≡ false) × (is_list t ≡ true)
  list_tree {k} h (leaf {t = t} {ys = ys} l) = absurd (no_leaf k (look names (t ∷ ys)) h l)
  list_tree {k} h (derived {cs = cs} r w b al parts) =
      (ap is_sign_in (out-Branch (label_of r cs) cs), ap is_list_in (out-Branch (label_of r cs) cs) ∙ list_label k r cs h w)

  branches_choice : {xs ys : List Token} {cs : List Tree} → DerivesRow names may (row rule.PatBranches) xs cs ys → is_choice cs ≡ true
  branches_choice (word {t = t} f (child {t = u} {cs = cs} d rest)) = of_expressions (Leaf t) u cs (branch_tree d) (unlisted_tree {k = kind.Expr} refl d)

  -- two lists at least
  some_list : {ps : Row} {xs ys : List Token} {cs : List Tree} → DerivesRow names may ps xs cs ys → IsTrue (has_list ps) → 1 ≤ lists cs
  some_list done h = absurd (false≢true h)
  some_list (word {t = t} {cs = cs} f rest) h = omega (arith, some_list rest h, lists_more (Leaf t) cs)
  some_list (child {t = t} {cs = cs} d rest) h = omega (arith, lists_one t cs (list_tree h d).1)
  some_list (argument d rest) h = absurd (false≢true h)
  some_list (type_argument a d rest) h = absurd (false≢true h)
  some_list (fork {f = f} {ps = ps} i w v way) h = some_list way (row_at has_list (ways f) i ps (list_ways f h) w)

  lists_choice : {xs ys : List Token} {cs : List Tree} → DerivesRow names may (row rule.PatLists) xs cs ys → is_choice cs ≡ true
  lists_choice (word {t = t} {cs = ds} f (child {t = u} {cs = cs} d rest)) =
      of_lists (Leaf t) u cs (list_tree {k = kind.StmtList} refl d).0 (list_tree {k = kind.StmtList} refl d).1 (some_list rest refl)
      (row_quiet (word {w = words.One class.PatOpenOfStatements} f (child {k = kind.StmtList} d rest)) refl)

  -- ---- rules

  block_form : {xs ys : List Token} {cs : List Tree} → DerivesRow names may (row rule.Block) xs cs ys → (unlisted cs && apart cs) ≡ true
  block_form {cs = cs} parts = and_both (unlisted cs) (apart cs) (row_bare parts refl) (row_calm parts refl)

  list_form : {xs ys : List Token} {cs : List Tree} → DerivesRow names may (row rule.StmtList) xs cs ys → (unlisted cs && apart cs) ≡ true
  list_form {cs = cs} parts = and_both (unlisted cs) (apart cs) (row_bare parts refl) (row_calm parts refl)

  nest_form : {xs ys : List Token} {cs : List Tree} → DerivesRow names may (row rule.PatNest) xs cs ys → has_form label.PatNest cs ≡ true
  nest_form {cs = cs} parts =
      and_both (unlisted cs) (apart cs && (is_leaf (first_kid cs) && is_leaf (last_kid cs))) (row_bare parts refl)
      (and_both (apart cs) (is_leaf (first_kid cs) && is_leaf (last_kid cs)) (row_calm parts refl)
      (and_both (is_leaf (first_kid cs)) (is_leaf (last_kid cs)) (nest_first parts).1 (row_worded parts refl)))

  rule_form : (r : Rule) {xs ys : List Token} (cs : List Tree) → DerivesRow names may (row r) xs cs ys → has_form (label_of r cs) cs ≡ true
  rule_form rule.Block cs parts = block_form parts
  rule_form rule.StmtList cs parts = list_form parts
  rule_form rule.PatNest cs parts = nest_form parts
  rule_form rule.PatBranches cs parts = branches_form cs (branches_choice parts)
  rule_form rule.PatLists cs parts = branches_form cs (lists_choice parts)
  rule_form rule.At cs parts = at_form cs (row_bare parts refl)
  rule_form rule.If cs parts = if_form cs (row_bare parts refl)
  rule_form rule.For cs parts = for_form cs (row_bare parts refl)
  rule_form rule.Case cs parts = case_form cs (row_bare parts refl)
  rule_form rule.External cs parts = external_form cs (row_bare parts refl)
  rule_form rule.ExternalMacro cs parts = macro_form cs (row_bare parts refl)
  rule_form _ cs parts = row_bare parts refl

  -- ---- how many children a row has

  mutual
    tree_less : {k : Kind} {xs ys : List Token} {t : Tree} → Derives names may k xs t ys → length ys + least (family_of k) ≤ length xs
    tree_less {k} (leaf h) = omega (arith, least_one (full (family_of k)))
    tree_less {k} {xs} {ys} (derived {cs = cs} r w b al parts) =
        subst (λ (f : Family). length ys + least f ≤ length xs) (within_family (kind_of r) k w)
        (by (full (family_of (kind_of r))) (rich_row r) (row_less parts (thrifty_row r)) (row_more parts (thrifty_row r)))
      where
        by : (e : Bool) → IsTrue (not e || rich (row r)) → length cs + 2 * length ys ≤ 2 * length xs
            → (IsTrue (rich (row r)) → length cs + 1 + 2 * length ys ≤ 2 * length xs)
            → length ys + (if e then 1 else 0) ≤ length xs
        by true h a b = omega (arith, b h)
        by false h a b = omega (arith, a)

    row_less : {ps : Row} {xs ys : List Token} {cs : List Tree} → DerivesRow names may ps xs cs ys → IsTrue (thrifty ps)
        → length cs + 2 * length ys ≤ 2 * length xs
    row_less done h = omega arith
    row_less (word f rest) h = omega (arith, row_less rest h)
    row_less (child {k = k} {ps = ps} {xs = xs} {ys = us} {zs = ys} {t = t} {cs = cs} d rest) h =
        by (full (family_of k)) (and_left (full (family_of k) || rich ps) (thrifty ps) h) (tree_less d)
        (row_less rest (and_right (full (family_of k) || rich ps) (thrifty ps) h))
        (row_more rest (and_right (full (family_of k) || rich ps) (thrifty ps) h))
      where
        by : (e : Bool) → IsTrue (e || rich ps) → length us + (if e then 1 else 0) ≤ length xs → length cs + 2 * length ys ≤ 2 * length us
            → (IsTrue (rich ps) → length cs + 1 + 2 * length ys ≤ 2 * length us) → length (t ∷ cs) + 2 * length ys ≤ 2 * length xs
        by true o le a b = omega (arith, le, a)
        by false o le a b = omega (arith, le, b o)
    row_less (argument d rest) h = omega (arith, tree_less d, row_less rest h)
    row_less (type_argument a d rest) h = omega (arith, tree_less d, row_less rest h)
    row_less (fork {f = f} {ps = ps} i w v way) h = row_less way (row_at thrifty (ways f) i ps (thrifty_ways f) w)

    row_more : {ps : Row} {xs ys : List Token} {cs : List Tree} → DerivesRow names may ps xs cs ys → IsTrue (thrifty ps)
        → IsTrue (rich ps) → length cs + 1 + 2 * length ys ≤ 2 * length xs
    row_more done h g = absurd (false≢true g)
    row_more (word f rest) h g = omega (arith, row_less rest h)
    row_more (child {k = k} {ps = ps} {xs = xs} {ys = us} {zs = ys} {t = t} {cs = cs} d rest) h g =
        by (full (family_of k)) g (tree_less d) (row_less rest (and_right (full (family_of k) || rich ps) (thrifty ps) h))
      where
        by : (e : Bool) → IsTrue e → length us + (if e then 1 else 0) ≤ length xs → length cs + 2 * length ys ≤ 2 * length us
            → length (t ∷ cs) + 1 + 2 * length ys ≤ 2 * length xs
        by true o le a = omega (arith, le, a)
        by false o le a = absurd (false≢true o)
    row_more (argument d rest) h g = omega (arith, tree_less d, row_less rest h)
    row_more (type_argument a d rest) h g = omega (arith, tree_less d, row_less rest h)
    row_more (fork {f = f} {ps = ps} i w v way) h g =
        row_more way (row_at thrifty (ways f) i ps (thrifty_ways f) w) (row_at rich (ways f) i ps (rich_ways f g) w)

  -- ---- trees

  module _ (most : ℕ) where
    mutual
      pub tree_formed : {k : Kind} {xs ys : List Token} {t : Tree} → 2 * length xs ≤ most → Derives names may k xs t ys → Formed most t
      tree_formed le (leaf {t = t} h) = token t
      tree_formed le (derived {cs = cs} r w b al parts) =
          branch (label_of r cs) cs (rule_form r cs parts) (omega (arith, le, row_less parts (thrifty_row r))) (row_formed le parts (thrifty_row r))

      row_formed : {ps : Row} {xs ys : List Token} {cs : List Tree} → 2 * length xs ≤ most → DerivesRow names may ps xs cs ys
          → IsTrue (thrifty ps) → AllFormed most cs
      row_formed le done h = none
      row_formed le (word {t = t} {cs = cs} f rest) h = more (Leaf t) cs (token t) (row_formed (omega (arith, le)) rest h)
      row_formed le (child {k = k} {ps = ps} {t = t} {cs = cs} d rest) h =
          more t cs (tree_formed le d) (row_formed (omega (arith, le, tree_less d)) rest (and_right (full (family_of k) || rich ps) (thrifty ps) h))
      row_formed le (argument {t = t} {cs = cs} d rest) h = more t cs (tree_formed le d) (row_formed (omega (arith, le, tree_less d)) rest h)
      row_formed le (type_argument {t = t} {cs = cs} a d rest) h = more t cs (tree_formed le d) (row_formed (omega (arith, le, tree_less d)) rest h)
      row_formed le (fork {f = f} {ps = ps} i w v way) h = row_formed le way (row_at thrifty (ways f) i ps (thrifty_ways f) w)

  -- a tree that is no list of statements, where it is read by itself, is neither dots nor a nest
  pub alone_undotted : {k : Kind} {xs ys : List Token} {t : Tree} → IsTrue (is_safe k) → Derives names may k xs t ys → is_dots_tree t ≡ false
  alone_undotted h d = safe_tree h d

  pub list_listed : {xs ys : List Token} {t : Tree} → Derives names may kind.StmtList xs t ys → is_list t ≡ true
  list_listed d = (list_tree {k = kind.StmtList} refl d).1
