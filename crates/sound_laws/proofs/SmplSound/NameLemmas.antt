-- The variables of a rule's declarations have different names.
use Rattle.std.proofs.Common.{◌≡◌, ℕ, Bool, true, false, not, ◌&&◌, ◌||◌, refl, sym, ap, ◌∙◌, true≢false, List, [], ◌∷◌, ◌++◌}
use Rattle.std.proofs.Common.{Option, Some, None, if◌then◌else◌}
use Rattle.std.specs.List.{list_any}
use Rattle.std.specs.Str.{bytes_eq}
use Rattle.std.proofs.lemmas.Slice.Eq.{bytes_eq-Decides}
use Rattle.smpl_patch.specs.declared.pattern.VarDecl.{VarDecl}
use Rattle.smpl_patch.specs.declared.pattern.VarKind.{VarKind}
use Rattle.smpl_patch.specs.Sound.{none_alike}
use Rattle.smpl_lexer.specs.declared.token.PatchToken.{PatchToken}
use Rattle.smpl_meta.specs.declared.head.RuleHead.{RuleHead}
use Rattle.smpl_meta.specs.declared.item.Item.{Item}
use Rattle.smpl_meta.specs.declared.item.DeclKind.{DeclKind}
use Rattle.smpl_meta.specs.declared.item.DeclKind.TheVariants.{Var, Symbol}
use Rattle.smpl_meta.specs.Known.{var_named, head_named, var_of}
use Rattle.smpl_meta.specs.Decls.{is_symbol, is_again, is_known, twice_by, named_faults, nots_faults, item_faults, items_faults}
use Rattle.smpl_meta.specs.Decls.{own, inherited_from, var_by, vars_in, vars_of_items}

pub front-nil : {A : Type 0} (xs ys : List A) → xs ++ ys ≡ [] → xs ≡ []
front-nil [] ys e = refl
front-nil (x ∷ xs) ys e = absurd (cc)

pub back-nil : {A : Type 0} (xs ys : List A) → xs ++ ys ≡ [] → ys ≡ []
back-nil [] ys e = e
back-nil (x ∷ xs) ys e = absurd (cc)

abbrev pub name_of : Item → List ℕ
name_of i = i.named.name.token.text

-- ---- what is found by a name has it

named_by : (name : List ℕ) (d f : VarDecl) (b : Bool) (o : Option VarDecl) → bytes_eq d.var.name name ≡ b → (o ≡ Some f → f.var.name ≡ name)
    → (if b then Some d else o) ≡ Some f → f.var.name ≡ name
named_by name d f true o h more e =
    let same : d ≡ f = cc in
    ap (λ (x : VarDecl). x.var.name) (sym same) ∙ (bytes_eq-Decides d.var.name name).0 h
named_by name d f false o h more e = more e

pub found-named : (name : List ℕ) (ds : List VarDecl) (f : VarDecl) → var_named name ds ≡ Some f → f.var.name ≡ name
found-named name [] f e = absurd (cc)
found-named name (d ∷ ds) f e = named_by name d f (bytes_eq d.var.name name) (var_named name ds) refl (found-named name ds f) e

-- the head of a name, and the declaration in it
pub record Found (earlier : List RuleHead) (r x : List ℕ) (d : VarDecl) : Type 0 where
  pub head : RuleHead
  pub named : head_named r earlier ≡ Some head
  pub declared : var_named x head.vars ≡ Some d

pub found-in : (earlier : List RuleHead) (r x : List ℕ) (d : VarDecl) → var_of earlier r x ≡ Some d → Found earlier r x d
found-in earlier r x d e = by (head_named r earlier) refl e
  where
    by : (o : Option RuleHead) → head_named r earlier ≡ o
        → (elim o as (λ p. Option VarDecl) [ None ↦ None | Some h ↦ var_named x h.vars ]) ≡ Some d → Found earlier r x d
    by None h e = absurd (cc)
    by (Some g) h e = record { head = g; named = h; declared = e }

-- ---- the variable of an item, if it has one

pub data Gives (i : Item) : List VarDecl → Type 0 where
  none : Gives i []
  one : (d : VarDecl) → d.var.name ≡ name_of i → is_symbol i.kind ≡ false → Gives i (d ∷ [])

module _ (earlier : List RuleHead) (rule : ℕ) where
  inherited-gives : (i : Item) (kind : VarKind) (r : List ℕ) (o : Option VarDecl) → var_of earlier r (name_of i) ≡ o → is_symbol i.kind ≡ false
      → Gives i (inherited_from kind o)
  inherited-gives i kind r None h s = none
  inherited-gives i kind r (Some d) h s =
      let f = found-in earlier r (name_of i) d h in
      let same : VarDecl = record { var = d.var; kind = kind; inherited = true; not_names = []; not_places = []; wanted = d.wanted } in
      one same (found-named (name_of i) f.head.vars d f.declared) s

  by-gives : (i : Item) (kind : VarKind) (o : Option PatchToken) → is_symbol i.kind ≡ false → Gives i (var_by earlier rule kind o i)
  by-gives i kind None s = one (own earlier rule kind i) refl s
  by-gives i kind (Some r) s = inherited-gives i kind r.token.text (var_of earlier r.token.text (name_of i)) refl s

  in-gives : (i : Item) (k : DeclKind) → i.kind ≡ k → Gives i (vars_in earlier rule k i)
  in-gives i Symbol e = none
  in-gives i (Var kind) e = by-gives i kind i.named.from (ap is_symbol e)

  pub gives : (i : Item) → Gives i (vars_in earlier rule i.kind i)
  gives i = in-gives i i.kind refl

  -- ---- items of which nothing is wrong

  -- the item is among those before
  abbrev Covers : List Item → Item → Type 0
  Covers before i = (j : Item) → is_known before j ≡ false → is_again j i ≡ false

  known_front : (b : Bool) (m n : Bool) → (if b then true else n) ≡ false → (n ≡ false → m ≡ false) → (if b then true else m) ≡ false
  known_front true m n h k = absurd (true≢false h)
  known_front false m n h k = k h

  covers-more : (before : List Item) (i k : Item) → Covers before i → Covers (before ++ k ∷ []) i
  covers-more before i k c j h = c j (less before h)
    where
      less : (bs : List Item) → is_known (bs ++ k ∷ []) j ≡ false → is_known bs j ≡ false
      less [] h = refl
      less (b ∷ bs) h = known_front (is_again j b) (is_known bs j) (is_known (bs ++ k ∷ []) j) h (less bs)

  covers-last : (before : List Item) (i : Item) → Covers (before ++ i ∷ []) i
  covers-last before i j h = last before h
    where
      here : (b : Bool) → (if b then true else false) ≡ false → b ≡ false
      here true h = h
      here false h = refl

      there : (b n : Bool) → (if b then true else n) ≡ false → n ≡ false
      there true n h = absurd (true≢false h)
      there false n h = h

      last : (bs : List Item) → is_known (bs ++ i ∷ []) j ≡ false → is_again j i ≡ false
      last [] h = here (is_again j i) h
      last (b ∷ bs) h = last bs (there (is_again j b) (is_known (bs ++ i ∷ []) j) h)

  fresh_by : (again : Bool) (i : Item) → twice_by again i ≡ [] → again ≡ false
  fresh_by true i e = absurd (cc)
  fresh_by false i e = refl

  pub item-fresh : (before : List Item) (i : Item) (is : List Item) → items_faults earlier before (i ∷ is) ≡ [] → is_known before i ≡ false
  item-fresh before i is e =
      let f = front-nil (item_faults earlier before i) (items_faults earlier (before ++ i ∷ []) is) e in
      let g = front-nil (twice_by (is_known before i) i) (named_faults earlier i.kind i.named ++ nots_faults earlier i.kind i.nots) f in
      fresh_by (is_known before i) i g

  pub item-rest : (before : List Item) (i : Item) (is : List Item) → items_faults earlier before (i ∷ is) ≡ [] → items_faults earlier (before ++ i ∷ []) is ≡ []
  item-rest before i is e = back-nil (item_faults earlier before i) (items_faults earlier (before ++ i ∷ []) is) e

  -- ---- names

  abbrev pub alike : VarDecl → VarDecl → Bool
  alike = λ d e. bytes_eq d.var.name e.var.name

  differ_by : (same a b : Bool) → (same && not (a && b)) ≡ false → a ≡ false → same ≡ false
  differ_by true true b h k = absurd (true≢false k)
  differ_by true false b h k = h
  differ_by false a b h k = refl

  gives-other : (d : VarDecl) (i j : Item) (vs ws : List VarDecl) → d.var.name ≡ name_of i → is_again j i ≡ false → Gives j vs → list_any (alike d) ws ≡ false
      → list_any (alike d) (vs ++ ws) ≡ false
  gives-other d i j _ ws n h none more = more
  gives-other d i j _ ws n h (one f name symbol) more =
      let apart : bytes_eq (name_of i) (name_of j) ≡ false = differ_by (bytes_eq (name_of i) (name_of j)) (is_symbol j.kind) (is_symbol i.kind) h symbol in
      let here : bytes_eq d.var.name f.var.name ≡ false =
      ap (λ (x : List ℕ). bytes_eq x f.var.name) n ∙ ap (λ (x : List ℕ). bytes_eq (name_of i) x) name ∙ apart in
      either (bytes_eq d.var.name f.var.name) (list_any (alike d) ws) here more
    where
      either : (a b : Bool) → a ≡ false → b ≡ false → (a || b) ≡ false
      either true b h k = h
      either false b h k = k

  later-differ : (d : VarDecl) (i : Item) (before js : List Item) → d.var.name ≡ name_of i → Covers before i → items_faults earlier before js ≡ []
      → list_any (alike d) (vars_of_items earlier rule js) ≡ false
  later-differ d i before [] n c e = refl
  later-differ d i before (j ∷ js) n c e =
      gives-other d i j (vars_in earlier rule j.kind j) (vars_of_items earlier rule js) n (c j (item-fresh before j js e)) (gives j)
      (later-differ d i (before ++ j ∷ []) js n (covers-more before i j c) (item-rest before j js e))

  gives-first : (i : Item) (vs ws : List VarDecl) → Gives i vs
      → ((d : VarDecl) → d.var.name ≡ name_of i → list_any (alike d) ws ≡ false) → none_alike alike ws ≡ true
      → none_alike alike (vs ++ ws) ≡ true
  gives-first i _ ws none apart more = more
  gives-first i _ ws (one d name symbol) apart more = by (list_any (alike d) ws) (apart d name)
    where
      by : (b : Bool) → b ≡ false → (not b && none_alike alike ws) ≡ true
      by true h = absurd (true≢false h)
      by false h = more

  -- items of which nothing is wrong have variables of different names
  pub names-differ : (before is : List Item) → items_faults earlier before is ≡ [] → none_alike alike (vars_of_items earlier rule is) ≡ true
  names-differ before [] e = refl
  names-differ before (i ∷ is) e =
      gives-first i (vars_in earlier rule i.kind i) (vars_of_items earlier rule is) (gives i)
      (λ d n. later-differ d i (before ++ i ∷ []) is n (covers-last before i) (item-rest before i is e))
      (names-differ (before ++ i ∷ []) is (item-rest before i is e))
