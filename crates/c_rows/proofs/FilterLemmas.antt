-- The filter on types inside an expression makes no difference to which tokens it spells.
use Rattle.std.proofs.Common.{◌≡◌, ◌≤◌, length, ℕ, zero, suc, List, [], ◌∷◌, map, refl, subst, ap, sym, ◌∙◌, arith}
use Rattle.std.specs.Prelude.{Bool, true, false, not, ◌&&◌, IsTrue, Some, slice_get}
use Rattle.std.specs.List.{list_all}
use Rattle.c_terms.specs.declared.token.Token.{Token}
use Rattle.c_terms.specs.declared.label.Label.{Label}
use Rattle.c_terms.specs.declared.tree.Tree.{Tree}
use Rattle.c_terms.specs.declared.tree.Tree.TheVariants as tree
use Rattle.c_rows.specs.declared.kind.Kind.{Kind}
use Rattle.c_rows.specs.declared.kind.Family.{Family}
use Rattle.c_rows.specs.declared.kind.Family.TheVariants as family
use Rattle.c_rows.specs.declared.rule.Rule.{Rule}
use Rattle.c_rows.specs.declared.rule.Rule.TheVariants as rule
use Rattle.c_rows.specs.declared.symbol.Symbol.TheVariants as symbol
use Rattle.c_rows.specs.declared.symbol.Fork.{Fork}
use Rattle.c_rows.specs.declared.symbol.Fork.TheVariants as forks
use Rattle.c_rows.specs.Kinds.{family_of}
use Rattle.c_rows.specs.Labels.{is_block_label}
use Rattle.c_rows.specs.Rows.{Row, ways, row, kind_of, label_of, build}
use Rattle.c_rows.specs.Branches.{allows, is_loose_label, is_case, is_external, defines, is_plain, is_plain_type, declares_at, function_at}
use Rattle.c_rows.specs.Look.{Names, look}
use Rattle.c_rows.specs.Words.{ends_member}
use Rattle.c_rows.specs.Spells.{member_kind}
use Rattle.c_rows.specs.Choice.{implies, after, first}
use Rattle.c_rows.specs.Derives.{Derives, leaf, branch, DerivesRow, done, word, child, argument, type_argument, fork, Anywhere}
use Rattle.c_rows.specs.declared.facts.Facts.{Facts}
use Rattle.c_rows.specs.Facts.{facts_of, label_facts, allows_type, allows_case, allows_external}
use Rattle.c_rows.specs.Letter.{NoExpression}
use Rattle.c_rows.proofs.Checks.{and_left, and_right, modus, row_at, closes, joins, joins_rule, joins_way, closes_rule, closes_way, member_after}
use Rattle.c_rows.proofs.FirstLemmas.{within_family, after_mono}
use Rattle.c_rows.proofs.FactLemmas.{branch_same}
use Rattle.c_rows.proofs.MemberLemmas.{is_args, needs, needs_test, lead_word, led, led_rule, led_way, needs_way, never_needs}
use Rattle.c_rows.proofs.DerivesLemmas.{tree_first, member_end, child_end, joins_rest, joins_member, closes_rest, closes_member}

-- ---- trees that the rows do not distinguish

-- the facts of a tree other than those of its parts
abbrev core : Facts → Facts
core f = record { plain = f.plain; plain_parts = true; names = f.names; functions = f.functions; loose = f.loose; block = f.block }

abbrev cores : List Tree → List Facts
cores cs = map (λ c. core (facts_of c)) cs

cores_of : (cs : List Tree) → map core (map facts_of cs) ≡ cores cs
cores_of [] = refl
cores_of (c ∷ cs) = ap (λ (fs : List Facts). core (facts_of c) ∷ fs) (cores_of cs)

names_core : (fs : List Facts) → map (λ (f : Facts). f.names) fs ≡ map (λ (f : Facts). f.names) (map core fs)
names_core [] = refl
names_core (f ∷ fs) = ap (λ (bs : List Bool). f.names ∷ bs) (names_core fs)

functions_core : (fs : List Facts) → map (λ (f : Facts). f.functions) fs ≡ map (λ (f : Facts). f.functions) (map core fs)
functions_core [] = refl
functions_core (f ∷ fs) = ap (λ (bs : List Bool). f.functions ∷ bs) (functions_core fs)

plain_core : (fs : List Facts) → list_all (λ (f : Facts). f.plain) fs ≡ list_all (λ (f : Facts). f.plain) (map core fs)
plain_core [] = refl
plain_core (f ∷ fs) = ap (λ (b : Bool). f.plain && b) (plain_core fs)

abbrev core_with : Label → List Bool → List Bool → Facts
core_with l names functions = record {
  plain = not (defines l);
  plain_parts = true;
  names = declares_at l names;
  functions = function_at l functions;
  loose = is_loose_label l;
  block = is_block_label l;
}

label_core : (l : Label) (fs : List Facts) → core (label_facts l fs) ≡ core (label_facts l (map core fs))
label_core l fs =
    ap (λ (bs : List Bool). core_with l bs (map (λ (f : Facts). f.functions) fs)) (names_core fs)
    ∙ ap (λ (bs : List Bool). core_with l (map (λ (f : Facts). f.names) (map core fs)) bs) (functions_core fs)

-- ---- rows without members of an argument list

abbrev is_args_rule : Rule → Bool
is_args_rule rule.Args = true
is_args_rule _ = false

abbrev member_fork : Fork → Bool
member_fork forks.FirstArg = true
member_fork forks.MoreArgs = true
member_fork forks.NextArg = true
member_fork _ = false

abbrev memberless : Row → Bool
memberless [] = true
memberless (symbol.Word w ∷ ps) = memberless ps
memberless (symbol.Child k ∷ ps) = memberless ps
memberless (symbol.Argument ∷ ps) = false
memberless (symbol.Fork f ∷ ps) = not (member_fork f)

abbrev memberless_at : Rule → Bool
memberless_at r = implies (not (is_args_rule r)) (memberless (row r))

memberless_test : (r : Rule) → IsTrue (memberless_at r)
memberless_test rule.Paren = refl
memberless_test _ = refl

memberless_rule : (r : Rule) → IsTrue (not (is_args_rule r)) → IsTrue (memberless (row r))
memberless_rule r = modus (not (is_args_rule r)) (memberless (row r)) (memberless_test r)

abbrev memberless_ways_at : Fork → Bool
memberless_ways_at f = implies (not (member_fork f)) (list_all memberless (ways f))

memberless_ways : (f : Fork) → IsTrue (memberless_ways_at f)
memberless_ways forks.FirstString = refl
memberless_ways _ = refl

memberless_way : (f : Fork) (i : ℕ) (ps : Row) → slice_get (ways f) i ≡ Some ps → IsTrue (not (member_fork f)) → IsTrue (memberless ps)
memberless_way f i ps e h = row_at memberless (ways f) i ps (modus (not (member_fork f)) (list_all memberless (ways f)) (memberless_ways f) h) e

abbrev is_specs : Family → Bool
is_specs family.Specs = true
is_specs _ = false

abbrev specs_first : Row → Bool
specs_first [] = false
specs_first (symbol.Word w ∷ ps) = false
specs_first (symbol.Child k ∷ ps) = is_specs (family_of k)
specs_first (symbol.Argument ∷ ps) = false
specs_first (symbol.Fork f ∷ ps) = false

abbrev first_plain : List Tree → Bool
first_plain [] = true
first_plain (c ∷ cs) = is_plain c

abbrev specs_at : Rule → Bool
specs_at r = implies (is_specs (family_of (kind_of r))) (not (is_args_rule r))

specs_test : (r : Rule) → IsTrue (specs_at r)
specs_test rule.Paren = refl
specs_test _ = refl

-- no way begins with a type's words
specs_ways : (f : Fork) → IsTrue (list_all (λ ps. implies (specs_first ps) false) (ways f))
specs_ways forks.FirstString = refl
specs_ways _ = refl

-- ---- a branch of a rule with other children

-- the facts of a branch, by the cores of its children
branch_core : (r : Rule) (cs : List Tree) → core (facts_of (build r cs)) ≡ core (label_facts (label_of r []) (cores cs))
branch_core r cs =
    ap core (sym (branch_same r cs)) ∙ label_core (label_of r []) (map facts_of cs)
    ∙ ap (λ (fs : List Facts). core (label_facts (label_of r []) fs)) (cores_of cs)

branch_alike : (r : Rule) (cs ds : List Tree) → (IsTrue (not (is_args_rule r)) → cores cs ≡ cores ds)
    → core (facts_of (build r cs)) ≡ core (facts_of (build r ds))
branch_alike rule.Args cs ds h = branch_core rule.Args cs ∙ sym (branch_core rule.Args ds)
branch_alike r cs ds h = branch_core r cs ∙ ap (λ (fs : List Facts). core (label_facts (label_of r []) fs)) (h refl) ∙ sym (branch_core r ds)

plain_by_cores : (r : Rule) (cs : List Tree) → is_plain (build r cs) ≡ list_all (λ (f : Facts). f.plain) (cores cs)
plain_by_cores r cs =
    ap (λ (f : Facts). f.plain_parts) (sym (branch_same r cs)) ∙ plain_core (map facts_of cs)
    ∙ ap (λ (fs : List Facts). list_all (λ (f : Facts). f.plain) fs) (cores_of cs)

branch_plain : (r : Rule) (cs ds : List Tree) → cores cs ≡ cores ds → is_plain (build r cs) ≡ is_plain (build r ds)
branch_plain r cs ds h = plain_by_cores r cs ∙ ap (λ (fs : List Facts). list_all (λ (f : Facts). f.plain) fs) h ∙ sym (plain_by_cores r ds)

and_true : (b : Bool) → b ≡ (b && true)
and_true true = refl
and_true false = refl

and_false : (b : Bool) → false ≡ (b && false)
and_false true = refl
and_false false = refl

type_core : (cs : List Tree) → is_plain_type cs ≡ (first_plain cs && allows_type (cores cs))
type_core [] = refl
type_core (s ∷ []) = and_true (is_plain s)
type_core (s ∷ d ∷ []) = refl
type_core (s ∷ d ∷ e ∷ cs) = and_false (is_plain s)

case_core : (cs : List Tree) → is_case cs ≡ allows_case (cores cs)
case_core [] = refl
case_core (a ∷ []) = refl
case_core (a ∷ b ∷ []) = refl
case_core (a ∷ b ∷ c ∷ []) = refl
case_core (a ∷ b ∷ c ∷ d ∷ cs) = refl

external_core : (cs : List Tree) → is_external cs ≡ allows_external (cores cs)
external_core [] = refl
external_core (a ∷ []) = refl
external_core (a ∷ b ∷ []) = refl
external_core (a ∷ b ∷ c ∷ []) = refl
external_core (a ∷ b ∷ c ∷ d ∷ cs) = refl

allows_alike : (r : Rule) (cs ds : List Tree) → (IsTrue (not (is_args_rule r)) → cores cs ≡ cores ds)
    → (IsTrue (specs_first (row r)) → first_plain cs ≡ first_plain ds)
    → IsTrue (allows r cs) → IsTrue (allows r ds)
allows_alike rule.TypeName cs ds h e a =
    type_core ds ∙ ap (λ (b : Bool). b && allows_type (cores ds)) (sym (e refl))
    ∙ ap (λ (fs : List Facts). first_plain cs && allows_type fs) (sym (h refl)) ∙ sym (type_core cs) ∙ a
allows_alike rule.Case cs ds h e a = case_core ds ∙ ap allows_case (sym (h refl)) ∙ sym (case_core cs) ∙ a
allows_alike rule.External cs ds h e a = external_core ds ∙ ap allows_external (sym (h refl)) ∙ sym (external_core cs) ∙ a
allows_alike _ cs ds h e a = refl

-- ---- lengths

rest_short : (t : Token) (xs : List Token) (n : ℕ) → length (t ∷ xs) ≤ suc n → length xs ≤ n
rest_short t xs n h = omega arith

shorter : (a b c : ℕ) → a ≤ b → b ≤ c → a ≤ c
shorter a b c h g = omega arith

module _ (names : Names) where
  mutual
    tree_short : (may : List Token → List Token → Type 0) {k : Kind} {xs ys : List Token} {t : Tree} → Derives names may k xs t ys → length ys ≤ length xs
    tree_short may (leaf h) = omega arith
    tree_short may (branch r w b al parts) = row_short may parts

    row_short : (may : List Token → List Token → Type 0) {ps : Row} {xs ys : List Token} {cs : List Tree}
        → DerivesRow names may ps xs cs ys → length ys ≤ length xs
    row_short may done = omega arith
    row_short may (word h rest) = let e = row_short may rest in omega arith
    row_short may (child d rest) = shorter _ _ _ (row_short may rest) (tree_short may d)
    row_short may (argument d rest) = shorter _ _ _ (row_short may rest) (tree_short may d)
    row_short may (type_argument a d rest) = shorter _ _ _ (row_short may rest) (tree_short may d)
    row_short may (fork i w v way) = row_short may way

  -- If `also` allows every type that `may` allows, every tree derived by `may` is also derived by `also`.
  module _ (may also : List Token → List Token → Type 0) (go : (xs ys : List Token) → may xs ys → also xs ys) where
    mutual
      pub loosened : {k : Kind} {xs ys : List Token} {t : Tree} → Derives names may k xs t ys → Derives names also k xs t ys
      loosened (leaf h) = leaf h
      loosened (branch r w b al parts) = branch r w b al (loosened_row parts)

      loosened_row : {ps : Row} {xs ys : List Token} {cs : List Tree} → DerivesRow names may ps xs cs ys → DerivesRow names also ps xs cs ys
      loosened_row done = done
      loosened_row (word h rest) = word h (loosened_row rest)
      loosened_row (child d rest) = child (loosened d) (loosened_row rest)
      loosened_row (argument d rest) = argument (loosened d) (loosened_row rest)
      loosened_row (type_argument {xs = xs} {ys = ys} a d rest) = type_argument (go xs ys a) (loosened d) (loosened_row rest)
      loosened_row (fork i w v way) = fork i w v (loosened_row way)

  -- without the filter
  pub unfiltered : (may : List Token → List Token → Type 0) {k : Kind} {xs ys : List Token} {t : Tree}
      → Derives names may k xs t ys → Derives names Anywhere k xs t ys
  unfiltered may d = loosened may Anywhere (λ xs ys m. tt) d

  pub record Filtered (k : Kind) (xs : List Token) (t : Tree) (ys : List Token) : Type 0 where
    pub tree : Tree
    pub derived : Derives names (NoExpression names) k xs tree ys
    pub alike : core (facts_of t) ≡ core (facts_of tree)
    pub plain : IsTrue (is_specs (family_of k)) → is_plain t ≡ is_plain tree

  record FilteredRow (ps : Row) (xs : List Token) (cs : List Tree) (ys : List Token) : Type 0 where
    trees : List Tree
    derived : DerivesRow names (NoExpression names) ps xs trees ys
    alike : IsTrue (memberless ps) → cores cs ≡ cores trees
    plain : IsTrue (specs_first ps) → first_plain cs ≡ first_plain trees

  -- members of at most n tokens up to the end
  abbrev pub FiltersTo : ℕ → Type 0
  FiltersTo n = (b : Bool) (xs ys : List Token) (t : Tree) → Derives names Anywhere (member_kind b) xs t ys
      → IsTrue (ends_member (look names ys)) → length xs ≤ n → (Filtered (member_kind b) xs t ys → ⊥) → ⊥

  mutual
    filter_tree : (n : ℕ) → FiltersTo n → {k : Kind} {xs ys : List Token} {t : Tree} → Derives names Anywhere k xs t ys
        → length xs ≤ suc n → (IsTrue (is_args (family_of k)) → length xs ≤ n)
        → IsTrue (after k (look names ys)) → (Filtered k xs t ys → ⊥) → ⊥
    filter_tree n go (leaf {t = t} h) s m a f = f (record { tree = tree.Leaf t; derived = leaf h; alike = refl; plain = λ i. refl })
    filter_tree n go {k} {xs} {ys} (branch {cs = cs} r w b al parts) s m a f =
        let args : IsTrue (needs (row r)) → length xs ≤ n =
        λ h. m (subst (λ (o : Family). IsTrue (is_args o)) (within_family (kind_of r) k w)
        (modus (needs (row r)) (is_args (family_of (kind_of r))) (needs_test r) h)) in
        filter_row n go parts s args (led_rule r) (joins_rule r) (closes_rule r (look names ys) (after_mono (kind_of r) k (look names ys) w a)) (λ y.
        let same : IsTrue (not (is_args_rule r)) → cores cs ≡ cores y.trees = λ h. y.alike (memberless_rule r h) in
        f (record {
          tree = build r y.trees;
          derived = branch r w b (allows_alike r cs y.trees same y.plain al) y.derived;
          alike = branch_alike r cs y.trees same;
          plain = λ h. branch_plain r cs y.trees (same (modus (is_specs (family_of (kind_of r))) (not (is_args_rule r)) (specs_test r)
              (subst (λ (o : Family). IsTrue (is_specs o)) (sym (within_family (kind_of r) k w)) h)));
        }))

    filter_row : (n : ℕ) → FiltersTo n → {ps : Row} {xs ys : List Token} {cs : List Tree}
        → DerivesRow names Anywhere ps xs cs ys → length xs ≤ suc n → (IsTrue (needs ps) → length xs ≤ n) → IsTrue (led ps)
        → IsTrue (joins ps) → IsTrue (closes ps (look names ys)) → (FilteredRow ps xs cs ys → ⊥) → ⊥
    filter_row n go done s m e j c f = f (record { trees = []; derived = done; alike = λ h. refl; plain = λ h. refl })
    filter_row n go (word {w = w} {ps = ps} {t = t} {xs = xs} {cs = cs} h rest) s m e j c f =
        let short : length xs ≤ n = rest_short t xs n s in
        filter_row n go rest (omega arith) (λ i. short) (and_right (implies (needs ps) (lead_word w)) (led ps) e) j c (λ y. f (record {
          trees = tree.Leaf t ∷ y.trees;
          derived = word h y.derived;
          alike = λ a. ap (λ (fs : List Facts). core (facts_of (tree.Leaf t)) ∷ fs) (y.alike a);
          plain = λ a. refl;
        }))
    filter_row n go (child {k = k} {ps = ps} {xs = xs} {ys = mid} {zs = ys} {t = t} {cs = cs} d rest) s m e j c f =
        filter_tree n go d s m (child_end names Anywhere k rest j c) (λ x.
        filter_row n go rest (shorter (length mid) (length xs) (suc n) (tree_short Anywhere d) s)
        (never_needs (needs ps) (and_left (not (needs ps)) (led ps) e)) (and_right (not (needs ps)) (led ps) e)
        (joins_rest k ps j) (closes_rest k ps (look names ys) c) (λ y. f (record {
          trees = x.tree ∷ y.trees;
          derived = child x.derived y.derived;
          alike = λ a. ap (λ (f : Facts). f ∷ cores cs) x.alike ∙ ap (λ (fs : List Facts). core (facts_of x.tree) ∷ fs) (y.alike a);
          plain = x.plain;
        })))
    filter_row n go (argument {ps = ps} {xs = xs} {ys = mid} {zs = ys} {t = t} {cs = cs} d rest) s m e j c f =
        go false xs mid t d (member_end names Anywhere rest j c) (m refl) (λ x.
        filter_row n go rest (shorter (length mid) (length xs) (suc n) (tree_short Anywhere d) s)
        (never_needs (needs ps) (and_left (not (needs ps)) (led ps) e)) (and_right (not (needs ps)) (led ps) e)
        (joins_member ps j) (closes_member ps (look names ys) c) (λ y. f (record {
          trees = x.tree ∷ y.trees;
          derived = argument x.derived y.derived;
          alike = λ a. let never : ⊥ = cc in absurd never;
          plain = λ a. let never : ⊥ = cc in absurd never;
        })))
    filter_row n go (type_argument {ps = ps} {xs = xs} {ys = mid} {zs = ys} {t = t} {cs = cs} o d rest) s m e j c f =
        let h : IsTrue (ends_member (look names mid)) = member_end names Anywhere rest j c in
        let stands : NoExpression names xs mid → ⊥ = λ g. go true xs mid t d h (m refl) (λ x.
        filter_row n go rest (shorter (length mid) (length xs) (suc n) (tree_short Anywhere d) s)
        (never_needs (needs ps) (and_left (not (needs ps)) (led ps) e)) (and_right (not (needs ps)) (led ps) e)
        (joins_member ps j) (closes_member ps (look names ys) c) (λ y. f (record {
          trees = x.tree ∷ y.trees;
          derived = type_argument g x.derived y.derived;
          alike = λ a. let never : ⊥ = cc in absurd never;
          plain = λ a. let never : ⊥ = cc in absurd never;
        }))) in
        stands (λ u g. go false xs mid u g h (m refl) (λ x.
        filter_row n go rest (shorter (length mid) (length xs) (suc n) (tree_short Anywhere d) s)
        (never_needs (needs ps) (and_left (not (needs ps)) (led ps) e)) (and_right (not (needs ps)) (led ps) e)
        (joins_member ps j) (closes_member ps (look names ys) c) (λ y. f (record {
          trees = x.tree ∷ y.trees;
          derived = argument x.derived y.derived;
          alike = λ a. let never : ⊥ = cc in absurd never;
          plain = λ a. let never : ⊥ = cc in absurd never;
        }))))
    filter_row n go (fork {f = g} {ps = ps} {ys = ys} i w v way) s m e j c f =
        filter_row n go way s (λ b. m (needs_way g i ps w b)) (led_way g i ps w) (joins_way g i ps w) (closes_way g i ps (look names ys) w c) (λ y. f (record {
          trees = y.trees;
          derived = fork i w v y.derived;
          alike = λ a. y.alike (memberless_way g i ps w a);
          plain = λ a. let never : ⊥ = cc in absurd never;
        }))

  not_args : (b : Bool) {A : Type 0} → IsTrue (is_args (family_of (member_kind b))) → A
  not_args true h = let never : ⊥ = cc in absurd never
  not_args false h = let never : ⊥ = cc in absurd never

  no_member : (b : Bool) → IsTrue (first (family_of (member_kind b)) (look names [])) → ⊥
  unfolding look
  no_member true h = cc
  no_member false h = cc

  -- Where the rows alone derive a member of an argument list, they derive one to the letter. Proof: by induction on the
  -- number of tokens. If a type inside has the same tokens as an expression, that expression takes its place.
  pub filters : (n : ℕ) (b : Bool) (xs ys : List Token) (t : Tree) → Derives names Anywhere (member_kind b) xs t ys
      → IsTrue (ends_member (look names ys)) → length xs ≤ n → (Filtered (member_kind b) xs t ys → ⊥) → ⊥
  filters zero b [] ys t d h s f = no_member b (tree_first names Anywhere d (member_after b (look names ys) h))
  filters zero b (x ∷ xs) ys t d h s f = let never : ⊥ = omega arith in never
  filters (suc n) b xs ys t d h s f = filter_tree n (filters n) d s (not_args b) (member_after b (look names ys) h) f
