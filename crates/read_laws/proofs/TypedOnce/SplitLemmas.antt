-- The specifiers of a typed declaration reach as far as they are spelled.
use Rattle.std.proofs.Common.{◌≡◌, ℕ, zero, suc, List, [], ◌∷◌, ◌++◌, length, take, drop, refl, sym, ap, subst, ◌∙◌, arith}
use Rattle.std.specs.Prelude.{◌↔◌, Bool, true, false, not, ◌&&◌, ◌||◌, if◌then◌else◌, IsTrue, Option, Some, None, codes, MatchBool, option_and_then}
use Rattle.std.specs.List.{list_all, list_any, AllZip}
use Rattle.std.specs.Str.{bytes_eq}
use Rattle.std.proofs.lemmas.Bool.{false≢true}
use Rattle.c_terms.specs.declared.token.Token.{Token}
use Rattle.c_terms.specs.declared.token.TokenKind.{TokenKind}
use Rattle.c_terms.specs.declared.token.TokenKind.TheVariants as token
use Rattle.c_terms.specs.declared.tree.Tree.{Tree}
use Rattle.c_terms.specs.Names.{listed_names}
use Rattle.c_rows.specs.declared.kind.Kind.TheVariants as kinds
use Rattle.c_rows.specs.Trees.{IsTreeOf, NoRival}
use Rattle.c_rows.specs.Branches.{is_plain}
use Rattle.c_rows.specs.Look.{look}
use Rattle.c_rows.proofs.DerivesLemmas.{tree_first}
use Rattle.smpl_patch.specs.declared.wanted.NameWanted.{NameWanted}
use Rattle.smpl_lexer.specs.declared.token.PatchToken.{PatchToken}
use Rattle.smpl_lexer.specs.Tokens.{is_name, is_name_kind, is_mark_kind, is_sign}
use Rattle.smpl_meta.specs.declared.item.Item.{Item}
use Rattle.smpl_meta.specs.Forms.{is_keyword, is_keyword_kind, put}
use Rattle.smpl_meta.specs.Typed.{can_follow, named_after, is_tag_word, specs_from, specs_length, tokens_of, IsRead, unless_named, IsSpecs, is_refused}
use Rattle.smpl_meta.specs.TypeNames.{is_named_in}
use Rattle.smpl_meta.specs.Typed.{AreSpecs, depth_after, declarators, item_by, IsDeclarator, IsDeclaratorOf, AreDeclarators, AreTyped, IsTyped}
use Rattle.read_laws.specs.TypedOnce.{is_metavariable, literal, AreParts}
use Rattle.read_laws.proofs.TypedOnce.KindLemmas.{wrap, begins-no-keyword}
use Rattle.read_laws.proofs.TypedOnce.StepLemmas.{in_patch}
use Rattle.read_laws.proofs.TypedOnce.SpecsLemmas.{specs-go}
use Rattle.read_laws.proofs.TypedOnce.PlainLemmas.{specs-plain}

-- ---- tokens as those of a file

many : (k : ℕ) (a : List PatchToken) → length (tokens_of k a) ≡ length a
many k [] = refl
many k (t ∷ a) = ap suc (many (suc k) a)

-- specifiers don't depend on places and ids
same-reach : (n g : Bool) (k : ℕ) (a b : List PatchToken) → specs_from n g (a ++ b) ≡ specs_from n g (in_patch (tokens_of k a) b)
same-reach n g k [] b = refl
same-reach n g k (t ∷ a) b =
    ap (λ m. if can_follow n g t then suc m else 0) (same-reach (named_after n t) (is_tag_word t) (suc k) a b)

-- what holds of the kinds of tokens that aren't refused
kept : (r : TokenKind → Bool) (k : ℕ) (a : List PatchToken) → list_any is_refused a ≡ false → list_all (λ (t : PatchToken). r t.token.kind) a ≡ true
    → list_all (λ (t : Token). not (is_refused (wrap t)) && r t.kind) (tokens_of k a) ≡ true
kept r k [] f m = refl
kept r k (t ∷ a) f m = by (is_refused t) (list_any is_refused a) f (r t.token.kind) m (kept r (suc k) a)
  where
    by : (x y : Bool) → (x || y) ≡ false → (z : Bool) → (z && list_all (λ (u : PatchToken). r u.token.kind) a) ≡ true
        → (y ≡ false → list_all (λ (u : PatchToken). r u.token.kind) a ≡ true
        → list_all (λ (u : Token). not (is_refused (wrap u)) && r u.kind) (tokens_of (suc k) a) ≡ true)
        → ((not x && z) && list_all (λ (u : Token). not (is_refused (wrap u)) && r u.kind) (tokens_of (suc k) a)) ≡ true
    by true y e z h go = absurd (false≢true (sym e))
    by false y e true h go = go e h
    by false y e false h go = absurd (false≢true h)

-- ---- what a declarator begins with

module _ (types : List (List ℕ)) (name : NameWanted) (specs : Tree) where
  item-begins : (t : PatchToken) (d : List PatchToken) (i : Item) → IsDeclarator types name specs (t ∷ d) (Some i) → IsTrue (not (is_keyword t))
  unfolding look
  item-begins t d i a = by a.0 a.1.0 a.1.1
    where
      by : (tree : Option Tree) → IsRead kinds.Declarator (tokens_of 0 (t ∷ d)) tree → Some i ≡ item_by types name specs (t ∷ d) tree
          → IsTrue (not (is_keyword t))
      by None r e = absurd (cc)
      by (Some v) r e =
          let first : Token = record { kind = t.token.kind; text = t.token.text; id = 0 } in
          begins-no-keyword listed_names first (tokens_of 1 d)
          (tree_first listed_names (NoRival listed_names (length (tokens_of 0 (t ∷ d)))) r.0.derived refl)

  items-begin : (t : PatchToken) (d : List PatchToken) (ds : List (List PatchToken)) (items : List Item)
      → AllZip (IsDeclaratorOf types name specs) ((t ∷ d) ∷ ds) items → IsTrue (not (is_keyword t))
  items-begin t d ds [] a = absurd a
  items-begin t d ds (i ∷ items) a = item-begins t d i a.0

  put-begin : (t : PatchToken) (ds : List (List PatchToken)) (items : List Item)
      → AllZip (IsDeclaratorOf types name specs) (put t ds) items → IsTrue (not (is_keyword t))
  put-begin t [] items a = items-begin t [] [] items a
  put-begin t (d ∷ ds) items a = items-begin t d ds items a

  mark-begins : (k : TokenKind) (b : Bool) → (is_mark_kind k && b) ≡ true → IsTrue (not (is_keyword_kind k))
  mark-begins token.Punct b e = refl
  mark-begins _ b e = absurd (false≢true e)

  -- declarators begin with no keyword
  pub declarators-begin : (t : PatchToken) (b : List PatchToken) (items : List Item) → AreDeclarators types name specs (t ∷ b) (Some items)
      → IsTrue (not (is_keyword t))
  declarators-begin t b items a = by (is_sign (codes ",") t) refl a
    where
      by : (c : Bool) → is_sign (codes ",") t ≡ c
          → AllZip (IsDeclaratorOf types name specs) (if c then [] ∷ declarators 0 b else put t (declarators (depth_after 0 t) b)) items
          → IsTrue (not (is_keyword t))
      by true e z = mark-begins t.token.kind (bytes_eq t.token.text (codes ",")) e
      by false e z = put-begin t (declarators (depth_after 0 t) b) items z

-- ---- the split

ends : (k n : Bool) → not k ≡ true → (k || (n && false)) ≡ false
ends true n h = absurd (false≢true h)
ends false true h = refl
ends false false h = refl

module _ (types : List (List ℕ)) (name : NameWanted) (specs : Tree) where
  stops : (b : List PatchToken) (items : List Item) → AreDeclarators types name specs b (Some items) → specs_from true false b ≡ 0
  stops [] items a = refl
  stops (t ∷ b) items a =
      ap (λ c. if c then suc (specs_from (named_after true t) (is_tag_word t) b) else 0)
      (ends (is_keyword t) (is_name t) (declarators-begin types name specs t b items a))

  derived : (a : List PatchToken) → list_any is_refused a ≡ false → IsSpecs types a (Some specs) → IsTreeOf kinds.Specs listed_names (tokens_of 0 a) specs
  derived a r s = by s.0 s.1.0 s.1.1
    where
      named : (v : Tree) (b : Bool) → IsTreeOf kinds.Specs listed_names (tokens_of 0 a) v → Some specs ≡ (if b then None else Some v)
          → IsTreeOf kinds.Specs listed_names (tokens_of 0 a) specs
      named v true i e = absurd (cc)
      named v false i e = let same : v ≡ specs = cc in subst (IsTreeOf kinds.Specs listed_names (tokens_of 0 a)) same i

      by : (o : Option Tree) → IsRead kinds.Specs (tokens_of 0 a) o → Some specs ≡ option_and_then (unless_named types) o
          → IsTreeOf kinds.Specs listed_names (tokens_of 0 a) specs
      by None i e = absurd (cc)
      by (Some v) i e = named v (is_named_in types v) i.0 e

  reach-by : (a b : List PatchToken) (items : List Item) → list_all literal a ≡ true → is_plain specs ≡ true
      → AreDeclarators types name specs b (Some items) → (c : Bool) → list_any is_refused a ≡ c
      → MatchBool c (Some specs ≡ None) (IsSpecs types a (Some specs)) → specs_length (a ++ b) ≡ length a
  reach-by a b items m p d true e s = absurd (cc)
  reach-by a b items m p d false e s =
      let i = derived a e s in
      let g = specs-go listed_names (NoRival listed_names (length (tokens_of 0 a))) i.derived p (kept (λ k. not (is_metavariable k)) 0 a e m) in
      let x = same-reach false false 0 a b in
      let y = g.reaches b in
      let z = stops b items d in
      let n = g.many in
      let k = many 0 a in
      omega (arith, x, y, z, n, k)

  -- the specifiers reach up to the declarators
  pub reach : (a b : List PatchToken) (items : List Item) → list_all literal a ≡ true → AreSpecs types a (Some specs) → is_plain specs ≡ true
      → AreDeclarators types name specs b (Some items) → specs_length (a ++ b) ≡ length a
  reach a b items m s p d = reach-by a b items m p d (list_any is_refused a) refl s

  take-front : (a b : List PatchToken) → take (length a) (a ++ b) ≡ a
  take-front [] b = refl
  take-front (t ∷ a) b = ap (λ l. t ∷ l) (take-front a b)

  drop-front : (a b : List PatchToken) → drop (length a) (a ++ b) ≡ b
  drop-front [] b = refl
  drop-front (t ∷ a) b = drop-front a b

  typed : (a b : List PatchToken) (items : List Item) → list_all literal a ≡ true → AreSpecs types a (Some specs) → is_plain specs ≡ true
      → AreDeclarators types name specs b (Some items) → IsTyped types name (a ++ b) (Some items)
  typed a b items m s p d =
      let n = reach a b items m s p d in (
        Some specs,
        (
          subst (λ l. AreSpecs types l (Some specs)) (sym (ap (λ k. take k (a ++ b)) n ∙ take-front a b)) s,
          subst (λ l. AreDeclarators types name specs l (Some items)) (sym (ap (λ k. drop k (a ++ b)) n ∙ drop-front a b)) d,
        ),
      )

  -- specifiers of words define nothing
  plain-by : (a : List PatchToken) → list_all (λ (t : PatchToken). is_keyword t || is_name t) a ≡ true → (c : Bool) → list_any is_refused a ≡ c
      → MatchBool c (Some specs ≡ None) (IsSpecs types a (Some specs)) → is_plain specs ≡ true
  plain-by a w true e s = absurd (cc)
  plain-by a w false e s =
      specs-plain listed_names (NoRival listed_names (length (tokens_of 0 a))) (derived a e s).derived
      (kept (λ k. is_keyword_kind k || is_name_kind k) 0 a e w)

  plain : (a : List PatchToken) → list_all (λ (t : PatchToken). is_keyword t || is_name t) a ≡ true → AreSpecs types a (Some specs) → is_plain specs ≡ true
  plain a w s = plain-by a w (list_any is_refused a) refl s

-- ---- both ways

-- specifiers reach over words
words-reach : (n g : Bool) (ts : List PatchToken) → list_all (λ (t : PatchToken). is_keyword t || is_name t) (take (specs_from n g ts) ts) ≡ true
words-reach n g [] = refl
words-reach n g (t ∷ ts) = by (can_follow n g t) refl (words-reach (named_after n t) (is_tag_word t) ts)
  where
    wordy : (k m o : Bool) → (k || (m && o)) ≡ true → (k || m) ≡ true
    wordy true m o h = refl
    wordy false true o h = refl
    wordy false false o h = h

    by : (c : Bool) → can_follow n g t ≡ c
        → list_all (λ (u : PatchToken). is_keyword u || is_name u) (take (specs_from (named_after n t) (is_tag_word t) ts) ts) ≡ true
        → list_all (λ (u : PatchToken). is_keyword u || is_name u)
        (take (if c then suc (specs_from (named_after n t) (is_tag_word t) ts) else 0) (t ∷ ts)) ≡ true
    by true e h =
        ap (λ b. b && list_all (λ (u : PatchToken). is_keyword u || is_name u) (take (specs_from (named_after n t) (is_tag_word t) ts) ts))
        (wordy (is_keyword t) (is_name t) (g || not n) e) ∙ h
    by false e h = refl

front-back : (n : ℕ) (ts : List PatchToken) → ts ≡ take n ts ++ drop n ts
front-back zero ts = refl
front-back (suc n) [] = refl
front-back (suc n) (t ∷ ts) = ap (λ l. t ∷ l) (front-back n ts)

front-literal : (a b : List PatchToken) → list_all literal (a ++ b) ≡ true → list_all literal a ≡ true
front-literal [] b h = refl
front-literal (t ∷ a) b h = by (literal t) h (front-literal a b)
  where
    by : (c : Bool) → (c && list_all literal (a ++ b)) ≡ true → (list_all literal (a ++ b) ≡ true → list_all literal a ≡ true)
        → (c && list_all literal a) ≡ true
    by true h more = more h
    by false h more = absurd (false≢true h)

module _ (types : List (List ℕ)) (name : NameWanted) (tokens : List PatchToken) (items : List Item) where
  typed-parts : IsTyped types name tokens (Some items) → AreParts types name tokens items
  typed-parts d = by d.0 d.1.0 d.1.1
    where
      by : (o : Option Tree) → AreSpecs types (take (specs_length tokens) tokens) o → AreTyped types name o (drop (specs_length tokens) tokens) (Some items)
          → AreParts types name tokens items
      by None s t = absurd (cc)
      by (Some specs) s t = record {
        front = take (specs_length tokens) tokens;
        back = drop (specs_length tokens) tokens;
        whole = front-back (specs_length tokens) tokens;
        specs = specs;
        are_specs = s;
        plain = plain types name specs (take (specs_length tokens) tokens) (words-reach false false tokens) s;
        declares = t;
      }

  parts-typed : list_all literal tokens ≡ true → AreParts types name tokens items → IsTyped types name tokens (Some items)
  parts-typed m p =
      let l = front-literal p.front p.back (ap (list_all literal) (sym p.whole) ∙ m) in
      subst (λ ts. IsTyped types name ts (Some items)) (sym p.whole)
      (typed types name p.specs p.front p.back items l p.are_specs p.plain p.declares)

  -- a typed declaration is specifiers that define nothing, and declarators
  pub typed-exactly : list_all literal tokens ≡ true → IsTyped types name tokens (Some items) ↔ AreParts types name tokens items
  typed-exactly m = (typed-parts, parts-typed m)
