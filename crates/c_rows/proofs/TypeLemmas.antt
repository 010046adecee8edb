-- The first three tokens of a type that is a member of an argument list.
use Rattle.std.proofs.Common.{◌≡◌, ◌⊎◌, List, [], ◌∷◌, map, refl, subst, ap, sym, inl, inr}
use Rattle.std.specs.Prelude.{Bool, true, false, not, ◌&&◌, ◌||◌, IsTrue}
use Rattle.std.proofs.lemmas.Bool.{false≢true}
use Rattle.c_terms.specs.declared.token.Token.{Token}
use Rattle.c_terms.specs.declared.label.Label.TheVariants as label
use Rattle.c_terms.specs.declared.tree.Tree.{Tree}
use Rattle.c_terms.specs.declared.tree.Tree.TheVariants as tree
use Rattle.c_rows.specs.declared.class.Class.{Class}
use Rattle.c_rows.specs.declared.class.Class.TheVariants as class
use Rattle.c_rows.specs.declared.word.Word.TheVariants as words
use Rattle.c_rows.specs.declared.kind.Kind.{Kind}
use Rattle.c_rows.specs.declared.kind.Kind.TheVariants as kind
use Rattle.c_rows.specs.declared.kind.Family.{Family}
use Rattle.c_rows.specs.declared.kind.Family.TheVariants as family
use Rattle.c_rows.specs.declared.rule.Rule.{Rule}
use Rattle.c_rows.specs.declared.rule.Rule.TheVariants as rule
use Rattle.c_rows.specs.declared.symbol.Symbol.TheVariants as symbol
use Rattle.c_rows.specs.declared.symbol.Fork.TheVariants as forks
use Rattle.c_rows.specs.Words.{same_class, fits, begins_specs, begins_tag, ends_member}
use Rattle.c_rows.specs.Kinds.{within, has_leaf}
use Rattle.c_rows.specs.Rows.{Row, ways, row, kind_of, build}
use Rattle.c_rows.specs.Branches.{allows, is_plain, is_plain_type, declares_name, any_of}
use Rattle.c_rows.specs.Look.{Names, look}
use Rattle.c_rows.specs.Choice.{every, implies, first, begins_declarator}
use Rattle.c_rows.specs.Range.{begins_nameless, follows_type, begins_member}
use Rattle.c_rows.specs.Derives.{Derives, leaf, branch, DerivesRow, done, word, child, argument, type_argument, fork}
use Rattle.c_rows.proofs.Checks.{and_right, both, modus, every_at, row_at, joins_rule, member_after, Passes, passes_at}
use Rattle.c_rows.proofs.FirstLemmas.{within_family, within_trans}
use Rattle.c_rows.proofs.PlainLemmas.{declares-Leaf, declares-Branch}
use Rattle.c_rows.proofs.LeadLemmas.{token_named}
use Rattle.c_rows.proofs.DerivesLemmas.{tree_first, row_first}

-- ---- on Bool

or_left : (a b : Bool) → IsTrue a → IsTrue (a || b)
or_left true b h = refl
or_left false b h = let never : ⊥ = cc in absurd never

or_right : (a b : Bool) → IsTrue b → IsTrue (a || b)
or_right true b h = refl
or_right false b h = h

either : (a b : Bool) → IsTrue (a || b) → IsTrue a ⊎ IsTrue b
either true b h = inl refl
either false b h = inr h

other : (a b : Bool) → IsTrue (not a) → IsTrue (a || b) → IsTrue b
other true b n h = let never : ⊥ = cc in absurd never
other false b n h = h

first_of : (a b p q : Bool) → IsTrue a → IsTrue (a || b || p || q)
first_of true b p q h = refl
first_of false b p q h = let never : ⊥ = cc in absurd never

second_of : (a b p q : Bool) → IsTrue b → IsTrue (a || b || p || q)
second_of true b p q h = refl
second_of false true p q h = refl
second_of false false p q h = let never : ⊥ = cc in absurd never

third_of : (a b p q : Bool) → IsTrue p → IsTrue (a || b || p || q)
third_of true b p q h = refl
third_of false true p q h = refl
third_of false false true q h = refl
third_of false false false q h = let never : ⊥ = cc in absurd never

fourth_of : (a b p q : Bool) → IsTrue q → IsTrue (a || b || p || q)
fourth_of true b p q h = refl
fourth_of false true p q h = refl
fourth_of false false true q h = refl
fourth_of false false false q h = h

-- of three, the last two
later : (a b c : Bool) → IsTrue (b || c) → IsTrue (a || b || c)
later true b c h = refl
later false b c h = h

early : (a b c : Bool) → IsTrue a → IsTrue (a || b || c)
early true b c h = refl
early false b c h = let never : ⊥ = cc in absurd never

same_truth : (a b : Bool) → a ≡ b → IsTrue b → IsTrue a
same_truth a b e h = subst (λ (x : Bool). IsTrue x) (sym e) h

-- ---- tests of classes

abbrev parts_name : (Class → Bool) → Class → Bool
parts_name p c = implies (p c) (not (fits words.Name c))

-- the class is not that of a name
unnamed : (p : Class → Bool) → IsTrue (every (parts_name p)) → (c : Class) → IsTrue (p c) → IsTrue (not (fits words.Name c))
unnamed p h c = modus (p c) (not (fits words.Name c)) (every_at (parts_name p) h c)

never_both : (b : Bool) {A : Type 0} → IsTrue (not b) → IsTrue b → A
never_both true n h = let never : ⊥ = cc in absurd never
never_both false n h = let never : ⊥ = cc in absurd never

abbrev begins_any : Class → Bool
begins_any c = same_class class.Star c || same_class class.LeftBracket c || fits words.ListOpen c || fits words.NestOpen c

loosen : (a b p q x y : Bool) → IsTrue (a || b || p && x || q && y) → IsTrue (a || b || p || q)
loosen true b p q x y h = refl
loosen false true p q x y h = refl
loosen false false true q x y h = refl
loosen false false false true x y h = refl
loosen false false false false x y h = h

abbrev declares_at : Class → Bool
declares_at c = implies (begins_any c) (begins_declarator c && not (fits words.Name c))

declares_test : Passes declares_at
declares_test = refl

-- a declarator without a name begins with no name
nameless_begins : (c d : Class) → IsTrue (begins_nameless c d) → IsTrue (begins_declarator c && not (fits words.Name c))
nameless_begins c d h =
    modus (begins_any c) (begins_declarator c && not (fits words.Name c)) (passes_at declares_at declares_test c)
    (loosen (same_class class.Star c) (same_class class.LeftBracket c) (fits words.ListOpen c) (fits words.NestOpen c)
    (first family.Params d) (begins_declarator d && not (fits words.Name d)) h)

abbrev pub behind : List Token → List Token
behind [] = []
behind (t ∷ ts) = ts

-- ---- the ways of a type's words

abbrev one_type : Row → Bool
one_type (symbol.Fork forks.OneType ∷ []) = true
one_type _ = false

-- a way that begins with a name continues with modifiers
abbrev type_way : Row → Bool
type_way (symbol.Word words.Name ∷ ps) = one_type ps
type_way (symbol.Word words.Modifier ∷ ps) = true
type_way (symbol.Word (words.One class.Basic) ∷ ps) = true
type_way (symbol.Child kind.Tag ∷ ps) = true
type_way _ = false

abbrev modifier_way : Row → Bool
modifier_way [] = true
modifier_way (symbol.Word words.Modifier ∷ ps) = true
modifier_way _ = false

abbrev nameless_way : Row → Bool
nameless_way [] = true
nameless_way (symbol.Child kind.Declarator ∷ []) = true
nameless_way _ = false

module _ (names : Names) (may : List Token → List Token → Type 0) where
  -- ---- declarators

  -- A declarator has a name, or begins as one without a name.
  declarator_front : {k : Kind} {xs ys : List Token} {t : Tree} → Derives names may k xs t ys
      → IsTrue (within k kind.Declarator) → IsTrue (declares_name t || begins_nameless (look names xs) (look names (behind xs)))
  declarator_front {k} (leaf {t = t} {ys = ys} h) w =
      let f : IsTrue (fits words.Name (look names (t ∷ ys))) =
      subst (λ (o : Family). IsTrue (has_leaf o (look names (t ∷ ys)))) (within_family k kind.Declarator w) h in
      or_left (declares_name (tree.Leaf t)) (begins_nameless (look names (t ∷ ys)) (look names ys))
      (same_truth _ _ (declares-Leaf t) (token_named names t ys f))
  declarator_front (branch rule.Pointer u b al (word {t = t} {xs = xs} {cs = cs} f rest)) w =
      or_right (declares_name (build rule.Pointer (tree.Leaf t ∷ cs))) (begins_nameless (look names (t ∷ xs)) (look names xs)) (first_of _ _ _ _ f)
  declarator_front (branch rule.NamelessArray u b al (word {t = t} {xs = xs} {cs = cs} f rest)) w =
      or_right (declares_name (build rule.NamelessArray (tree.Leaf t ∷ cs)))
      (begins_nameless (look names (t ∷ xs)) (look names xs)) (second_of (same_class class.Star (look names (t ∷ xs))) _ _ _ f)
  declarator_front (branch rule.NamelessFun u b al (word {t = t} {xs = xs} {cs = cs} f rest)) w =
      let o : IsTrue (first family.Params (look names xs)) = row_first names may rest (joins_rule rule.NamelessFun) refl in
      or_right (declares_name (build rule.NamelessFun (tree.Leaf t ∷ cs))) (begins_nameless (look names (t ∷ xs)) (look names xs))
      (third_of (same_class class.Star (look names (t ∷ xs))) (same_class class.LeftBracket (look names (t ∷ xs))) _ _
      (both (fits words.ListOpen (look names (t ∷ xs))) (first family.Params (look names xs)) f o))
  declarator_front (branch rule.DParen u b al (word {t = t} {xs = xs} f (child {t = inner} {cs = cs} d rest))) w =
      elim (either (declares_name inner) (begins_nameless (look names xs) (look names (behind xs))) (declarator_front d refl))
      as (λ _. IsTrue (declares_name (build rule.DParen (tree.Leaf t ∷ inner ∷ cs)) || begins_nameless (look names (t ∷ xs)) (look names xs))) [
        | inl h ↦ or_left (declares_name (build rule.DParen (tree.Leaf t ∷ inner ∷ cs))) (begins_nameless (look names (t ∷ xs)) (look names xs))
            (same_truth _ _ (declares-Branch label.DParen (tree.Leaf t ∷ inner ∷ cs))
            (or_right (declares_name (tree.Leaf t)) (declares_name inner || any_of (map declares_name cs))
            (or_left (declares_name inner) (any_of (map declares_name cs)) h)))
        | inr h ↦ or_right (declares_name (build rule.DParen (tree.Leaf t ∷ inner ∷ cs))) (begins_nameless (look names (t ∷ xs)) (look names xs))
            (fourth_of (same_class class.Star (look names (t ∷ xs))) (same_class class.LeftBracket (look names (t ∷ xs)))
            (fits words.ListOpen (look names (t ∷ xs)) && first family.Params (look names xs)) _
            (both (fits words.NestOpen (look names (t ∷ xs)))
            (begins_declarator (look names xs) && not (fits words.Name (look names xs))) f (nameless_begins (look names xs) (look names (behind xs)) h)))
      ]
  declarator_front {xs = xs} (branch rule.DArray u b al (child {t = a} {cs = cs} d rest)) w =
      same_truth _ _ (ap (λ (b : Bool). b || begins_nameless (look names xs) (look names (behind xs)))
      (declares-Branch label.DArray (a ∷ cs))) (declarator_front d refl)
  declarator_front {xs = xs} (branch rule.DFun u b al (child {t = a} {cs = cs} d rest)) w =
      same_truth _ _ (ap (λ (b : Bool). b || begins_nameless (look names xs) (look names (behind xs)))
      (declares-Branch label.DFun (a ∷ cs))) (declarator_front d refl)
  declarator_front {k} (branch r u b al parts) w = absurd (false≢true (within_trans (kind_of r) k kind.Declarator u w))

  -- ---- a type's words

  -- after a name, modifiers or the end
  modifiers_end : {ps : Row} {xs ys : List Token} {cs : List Tree} → DerivesRow names may ps xs cs ys → IsTrue (modifier_way ps)
      → IsTrue (fits words.Modifier (look names xs)) ⊎ (ys ≡ xs)
  modifiers_end done m = inr refl
  modifiers_end (word {w = words.Modifier} f rest) m = inl f
  modifiers_end (word f rest) m = absurd (false≢true m)
  modifiers_end (child d rest) m = absurd (false≢true m)
  modifiers_end (argument d rest) m = absurd (false≢true m)
  modifiers_end (type_argument a d rest) m = absurd (false≢true m)
  modifiers_end (fork i w v way) m = absurd (false≢true m)

  one_type_end : {ps : Row} {xs ys : List Token} {cs : List Tree} → DerivesRow names may ps xs cs ys → IsTrue (one_type ps)
      → IsTrue (fits words.Modifier (look names xs)) ⊎ (ys ≡ xs)
  one_type_end done m = absurd (false≢true m)
  one_type_end (word f rest) m = absurd (false≢true m)
  one_type_end (child d rest) m = absurd (false≢true m)
  one_type_end (argument d rest) m = absurd (false≢true m)
  one_type_end (type_argument a d rest) m = absurd (false≢true m)
  one_type_end (fork {f = forks.OneType} {ps = ps} i w v way) m = modifiers_end way (row_at modifier_way (ways forks.OneType) i ps refl w)
  one_type_end (fork i w v way) m = absurd (false≢true m)

  way_end : {ps : Row} {xs ys : List Token} {cs : List Tree} → DerivesRow names may ps xs cs ys → IsTrue (type_way ps)
      → IsTrue (fits words.Name (look names xs))
      → IsTrue (fits words.Modifier (look names (behind xs))) ⊎ (ys ≡ behind xs)
  way_end done m n = absurd (false≢true m)
  way_end (word {w = words.Name} f rest) m n = one_type_end rest m
  way_end (word {w = words.Modifier} {t = t} {xs = xs} f rest) m n =
      never_both (fits words.Name (look names (t ∷ xs))) (unnamed (fits words.Modifier) refl (look names (t ∷ xs)) f) n
  way_end (word {w = words.One class.Basic} {t = t} {xs = xs} f rest) m n =
      never_both (fits words.Name (look names (t ∷ xs))) (unnamed (same_class class.Basic) refl (look names (t ∷ xs)) f) n
  way_end (word f rest) m n = absurd (false≢true m)
  way_end {xs = xs} (child {k = kind.Tag} d rest) m n =
      never_both (fits words.Name (look names xs)) (unnamed begins_tag refl (look names xs) (tree_first names may d refl)) n
  way_end (child d rest) m n = absurd (false≢true m)
  way_end (argument d rest) m n = absurd (false≢true m)
  way_end (type_argument a d rest) m n = absurd (false≢true m)
  way_end (fork i w v way) m n = absurd (false≢true m)

  abbrev EndsAt : List Token → List Token → Type 0
  EndsAt xs ys = IsTrue (fits words.Modifier (look names (behind xs))) ⊎ (ys ≡ behind xs)

  -- If the words of a type begin with a name, a modifier follows, or they end.
  words_end : {k : Kind} {xs ys : List Token} {t : Tree} → Derives names may k xs t ys → IsTrue (within k kind.Specs)
      → IsTrue (fits words.Name (look names xs)) → EndsAt xs ys
  words_end {k} (leaf {t = t} {ys = ys} h) w n =
      let f : IsTrue (has_leaf family.Specs (look names (t ∷ ys))) =
      subst (λ (o : Family). IsTrue (has_leaf o (look names (t ∷ ys)))) (within_family k kind.Specs w) h in
      never_both (fits words.Name (look names (t ∷ ys))) (unnamed (has_leaf family.Specs) refl (look names (t ∷ ys)) f) n
  words_end {k} (branch r u b al parts) w n = rule_end r parts (within_trans (kind_of r) k kind.Specs u w) n
    where
      rule_end : (r : Rule) {xs ys : List Token} {cs : List Tree} → DerivesRow names may (row r) xs cs ys
          → IsTrue (within (kind_of r) kind.Specs) → IsTrue (fits words.Name (look names xs)) → EndsAt xs ys
      rule_end rule.Specs (fork {ps = ps} i g v way) w n = way_end way (row_at type_way (ways forks.NoType) i ps refl g) n
      rule_end _ parts w n = absurd (false≢true w)

  -- ---- type names

  -- after the words of a type: the end, or a declarator without a name
  nameless_front : (specs : Tree) {ps : Row} {xs ys : List Token} {cs : List Tree} → DerivesRow names may ps xs cs ys
      → IsTrue (nameless_way ps) → IsTrue (is_plain_type (specs ∷ cs))
      → IsTrue (ends_member (look names ys)) → IsTrue (ends_member (look names xs) || begins_nameless (look names xs) (look names (behind xs)))
  nameless_front specs (done {xs = xs}) m al e = or_left (ends_member (look names xs)) (begins_nameless (look names xs) (look names (behind xs))) e
  nameless_front specs {xs = xs} (child {k = kind.Declarator} {ps = []} {t = t} d done) m al e =
      or_right (ends_member (look names xs)) (begins_nameless (look names xs) (look names (behind xs)))
      (other (declares_name t) (begins_nameless (look names xs) (look names (behind xs)))
      (and_right (is_plain specs) (not (declares_name t)) al) (declarator_front d refl))
  nameless_front specs (child d rest) m al e = absurd (false≢true m)
  nameless_front specs (word f rest) m al e = absurd (false≢true m)
  nameless_front specs (argument d rest) m al e = absurd (false≢true m)
  nameless_front specs (type_argument a d rest) m al e = absurd (false≢true m)
  nameless_front specs (fork i w v way) m al e = absurd (false≢true m)

  abbrev Fronts : List Token → Type 0
  Fronts xs = IsTrue (fits words.Name (look names xs)) → IsTrue (follows_type (look names (behind xs)) (look names (behind (behind xs))))

  -- If a type name begins with a name, the two tokens after it may follow a type.
  name_front : {k : Kind} {xs ys : List Token} {t : Tree} → Derives names may k xs t ys → IsTrue (within k kind.TypeName)
      → IsTrue (ends_member (look names ys)) → Fronts xs
  name_front {k} (leaf {t = t} {ys = ys} h) w e = λ n.
      let f : IsTrue (has_leaf family.TypeName (look names (t ∷ ys))) =
      subst (λ (o : Family). IsTrue (has_leaf o (look names (t ∷ ys)))) (within_family k kind.TypeName w) h in
      never_both (fits words.Name (look names (t ∷ ys))) (unnamed (has_leaf family.TypeName) refl (look names (t ∷ ys)) f) n
  name_front {k} (branch r u b al parts) w e = rule_name r parts al (within_trans (kind_of r) k kind.TypeName u w) e
    where
      behind_words : (xs us : List Token) → us ≡ behind xs → IsTrue (ends_member (look names us) || begins_nameless (look names us) (look names (behind us)))
          → IsTrue (follows_type (look names (behind xs)) (look names (behind (behind xs))))
      behind_words xs us e h =
          later (fits words.Modifier (look names (behind xs))) (ends_member (look names (behind xs)))
          (begins_nameless (look names (behind xs)) (look names (behind (behind xs))))
          (subst (λ (zs : List Token). IsTrue (ends_member (look names zs) || begins_nameless (look names zs) (look names (behind zs)))) e h)

      rule_name : (r : Rule) {xs ys : List Token} {cs : List Tree} → DerivesRow names may (row r) xs cs ys
          → IsTrue (allows r cs) → IsTrue (within (kind_of r) kind.TypeName) → IsTrue (ends_member (look names ys)) → Fronts xs
      rule_name rule.TypeName {xs} (child {ys = us} {t = specs} d (fork {ps = ps} i g v way)) al w e = λ n.
          elim (words_end d refl n) as (λ _. IsTrue (follows_type (look names (behind xs)) (look names (behind (behind xs))))) [
            | inl m ↦ early (fits words.Modifier (look names (behind xs))) (ends_member (look names (behind xs)))
                (begins_nameless (look names (behind xs)) (look names (behind (behind xs)))) m
            | inr s ↦ behind_words xs us s (nameless_front specs way (row_at nameless_way (ways forks.Nameless) i ps refl g) al e)
          ]
      rule_name _ parts al w e = absurd (false≢true w)

  argument_front : {k : Kind} {xs ys : List Token} {t : Tree} → Derives names may k xs t ys → IsTrue (within k kind.TypeArg)
      → IsTrue (ends_member (look names ys)) → Fronts xs
  argument_front {k} (leaf {t = t} {ys = ys} h) w e =
      let f : IsTrue (has_leaf family.TypeArg (look names (t ∷ ys))) =
      subst (λ (o : Family). IsTrue (has_leaf o (look names (t ∷ ys)))) (within_family k kind.TypeArg w) h in
      let never : ⊥ = cc in absurd never
  argument_front {k} (branch r u b al parts) w e = rule_argument r parts (within_trans (kind_of r) k kind.TypeArg u w) e
    where
      rule_argument : (r : Rule) {xs ys : List Token} {cs : List Tree} → DerivesRow names may (row r) xs cs ys
          → IsTrue (within (kind_of r) kind.TypeArg) → IsTrue (ends_member (look names ys)) → Fronts xs
      rule_argument rule.TypeArg (child d done) w e = name_front d refl e
      rule_argument _ parts w e = absurd (false≢true w)

  -- A type that is a member of an argument list begins with three classes with which one may begin.
  pub type_front : {xs ys : List Token} {t : Tree} → Derives names may kind.TypeArg xs t ys → IsTrue (ends_member (look names ys))
      → IsTrue (begins_member (look names xs) (look names (behind xs)) (look names (behind (behind xs))))
  type_front {xs} {ys} d e =
      both (begins_specs (look names xs)) (not (fits words.Name (look names xs)) || follows_type (look names (behind xs)) (look names (behind (behind xs))))
      (tree_first names may d (member_after true (look names ys) e)) (pick (fits words.Name (look names xs)) (argument_front d refl e))
    where
      pick : (b : Bool) → (IsTrue b → IsTrue (follows_type (look names (behind xs)) (look names (behind (behind xs)))))
          → IsTrue (not b || follows_type (look names (behind xs)) (look names (behind (behind xs))))
      pick true h = h refl
      pick false h = refl
