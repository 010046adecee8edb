-- Paths to statements are parts of paths.
use Rattle.std.proofs.Common.{◌≡◌, ◌<◌, ◌≤◌, ◌+◌, ◌-◌, ℕ, zero, suc, Bool, true, false, refl, sym, ap, ◌∙◌, arith, List, [], ◌∷◌, length, get_or, take, drop}
use Rattle.std.specs.Prelude.{Option, None, Some, if◌then◌else◌}
use Rattle.std.specs.Option.{option_map}
use Rattle.c_terms.specs.declared.tree.Tree.{Tree}
use Rattle.c_terms.specs.Places.{child}
use Rattle.edit_marks.specs.Tidy.Reach.{is_statement_in, with_step, node_path, without_last}
use Rattle.edit_marks.proofs.Lines.{next}

within_by : (b : Bool) (o : Option Tree) (i : ℕ) (path : List ℕ) → ((c : Tree) → length (node_path c path) ≤ length path)
    → length (if b then with_step i (option_map (λ c. node_path c path) o) else []) ≤ length (i ∷ path)
within_by false o i path h = omega arith
within_by true None i path h = omega arith
within_by true (Some c) i path h = let here = h c in omega (arith, here)

pub node_within : (t : Tree) (path : List ℕ) → length (node_path t path) ≤ length path
node_within t [] = omega arith
node_within t (i ∷ path) = within_by (is_statement_in t i) (child t i) i path (λ c. node_within c path)

take_by : (b : Bool) (o : Option Tree) (i : ℕ) (path : List ℕ) → ((c : Tree) → take (length (node_path c path)) path ≡ node_path c path)
    → take (length (if b then with_step i (option_map (λ c. node_path c path) o) else [])) (i ∷ path)
    ≡ (if b then with_step i (option_map (λ c. node_path c path) o) else [])
take_by false o i path h = refl
take_by true None i path h = refl
take_by true (Some c) i path h = ap (λ (l : List ℕ). i ∷ l) (h c)

pub take_node : (t : Tree) (path : List ℕ) → take (length (node_path t path)) path ≡ node_path t path
take_node t [] = refl
take_node t (i ∷ path) = take_by (is_statement_in t i) (child t i) i path (λ c. take_node c path)

take_less : (xs : List ℕ) (m n : ℕ) → m ≤ n → take m (take n xs) ≡ take m xs
take_less [] zero n le = refl
take_less [] (suc m) zero le = absurd (omega (arith, le))
take_less [] (suc m) (suc n) le = refl
take_less (x ∷ xs) zero n le = refl
take_less (x ∷ xs) (suc m) zero le = absurd (omega (arith, le))
take_less (x ∷ xs) (suc m) (suc n) le = ap (λ (l : List ℕ). x ∷ l) (take_less xs m n (omega (arith, le)))

-- a part of the path to a node
pub take_removed : (t : Tree) (path : List ℕ) (n : ℕ) → take (length (node_path t path) - n) path ≡ without_last n (node_path t path)
take_removed t path n =
    let m = length (node_path t path) in
    sym (take_less path (m - n) m (omega arith)) ∙ ap (take (m - n)) (take_node t path)

-- the step at a place of a path
pub path_step : (t : Tree) (path : List ℕ) (i step : ℕ) → i < length path → step ≡ get_or path i step
    → node_path t (drop i path) ≡ (if is_statement_in t step then with_step step (option_map (λ c. node_path c (drop (i + 1) path)) (child t step)) else [])
path_step t path i step less is = ap (node_path t) (next path i step less is)

module _ (t : Tree) (path : List ℕ) (i step : ℕ) (less : i < length path) (is : step ≡ get_or path i step) where
  -- a step that is no statement, or leads nowhere
  pub no_step : is_statement_in t step ≡ false → length (node_path t (drop i path)) ≡ 0
  no_step e =
      ap length (path_step t path i step less is
      ∙ ap (λ (b : Bool). if b then with_step step (option_map (λ c. node_path c (drop (i + 1) path)) (child t step)) else []) e)

  pub no_child : is_statement_in t step ≡ true → child t step ≡ None → length (node_path t (drop i path)) ≡ 0
  no_child e none =
      ap length (path_step t path i step less is
      ∙ (λ j. if e j then with_step step (option_map (λ c. node_path c (drop (i + 1) path)) (none j)) else []))

  pub one_step : (next : Tree) → is_statement_in t step ≡ true → child t step ≡ Some next
      → length (node_path t (drop i path)) ≡ 1 + length (node_path next (drop (i + 1) path))
  one_step next e some =
      let same : length (node_path t (drop i path)) ≡ suc (length (node_path next (drop (i + 1) path))) =
      ap length (path_step t path i step less is
      ∙ (λ j. if e j then with_step step (option_map (λ c. node_path c (drop (i + 1) path)) (some j)) else [])) in
      omega (arith, same)
