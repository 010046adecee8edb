-- A search tree of names, seen as files: a look-up and an insertion.
use Rattle.std.proofs.Common.{◌≡◌, ℕ, List, [], ◌∷◌, map, Option, None, Some, Vec, Bor, cond, refl, sym, ap, ◌∙◌}
use Rattle.std.specs.declared.alloc.Global.{Global}
use Rattle.std.specs.declared.cmp.Ordering.TheVariants.{Less, Equal, Greater}
use Rattle.std.specs.Ordering.{nat_cmp, is_eq, eq_by_cmp, match_ordering}
use Rattle.std.specs.Cmp.Lexicographic.{slice_cmp, nat_list_cmp_total}
use Rattle.std.specs.BTreeMap.{insert_entry, is_at}
use Rattle.std.specs.Map.{lookup}
use Rattle.std.specs.Option.{option_map, option_copied}
use Rattle.std.specs.FinMap.{get, insert, find, put, get-from_entries, get-insert, same_map, nat_cmp-IsAntisymmetric, slice_cmp-IsAntisymmetric}
use Rattle.std.specs.FinMap.Entries.{find-put, by_order}
use Rattle.outer_io.specs.Files.{name_cmp}
use Rattle.outer_io.specs.Stored.{files_in}

abbrev pub Bytes : Type 0
Bytes = Vec ℕ Global

-- the entries as lists
abbrev pub plain : List (Bytes × Bytes) → List (List ℕ × List ℕ)
plain entries = map (λ e. (e.0.items, e.1.items)) entries

-- what the tree finds is what the files have
pub find-plain : (name : List ℕ) (entries : List (Bytes × Bytes))
    → find name_cmp name (plain entries) ≡ option_map (λ bytes. bytes.items) (lookup (is_at (λ (k : Bytes). slice_cmp nat_cmp name k.items)) entries)
find-plain name [] = refl
find-plain name (e ∷ es) =
    elim (slice_cmp nat_cmp name e.0.items) as (λ o. cond (is_eq o) (Some e.1.items) (find name_cmp name (plain es))
    ≡ option_map (λ bytes. bytes.items) (cond (is_eq o) (Some e.1) (lookup (is_at (λ (k : Bytes). slice_cmp nat_cmp name k.items)) es))) [
      | Less ↦ find-plain name es
      | Equal ↦ refl
      | Greater ↦ find-plain name es
    ]

-- an insertion into the tree is one into the list of its entries
pub plain-insert : (name bytes : Bytes) (entries : List (Bytes × Bytes))
    → plain (insert_entry (λ (x y : Bytes). slice_cmp nat_cmp x.items y.items) entries name bytes) ≡ put name_cmp name.items bytes.items (plain entries)
plain-insert name bytes [] = refl
plain-insert name bytes (e ∷ es) =
    elim (slice_cmp nat_cmp name.items e.0.items) as (λ o. plain
    (match_ordering o ((name, bytes) ∷ e ∷ es) ((e.0, bytes) ∷ es)
    (e ∷ insert_entry (λ (x y : Bytes). slice_cmp nat_cmp x.items y.items) es name bytes))
    ≡ by_order o ((name.items, bytes.items) ∷ plain (e ∷ es)) ((e.0.items, bytes.items) ∷ plain es)
    ((e.0.items, e.1.items) ∷ put name_cmp name.items bytes.items (plain es))) [
      | Less ↦ refl
      | Equal ↦ refl
      | Greater ↦ ap (λ rest. (e.0.items, e.1.items) ∷ rest) (plain-insert name bytes es)
    ]

-- a look-up in the tree is one in its files
pub get-files_in : (name : List ℕ) (entries : List (Bytes × Bytes))
    → get (files_in entries) name ≡ option_map (λ bytes. bytes.items) (lookup (is_at (λ (k : Bytes). slice_cmp nat_cmp name k.items)) entries)
get-files_in name entries = get-from_entries nat_list_cmp_total (plain entries) name ∙ find-plain name entries

-- an insertion into the tree is one into its files
pub files_in-insert : (name bytes : Bytes) (entries : List (Bytes × Bytes))
    → files_in (insert_entry (λ (x y : Bytes). slice_cmp nat_cmp x.items y.items) entries name bytes) ≡ insert (files_in entries) name.items bytes.items
files_in-insert name bytes entries =
    same_map nat_list_cmp_total (slice_cmp-IsAntisymmetric nat_cmp-IsAntisymmetric) _ _ (λ q.
    get-from_entries nat_list_cmp_total (plain (insert_entry (λ (x y : Bytes). slice_cmp nat_cmp x.items y.items) entries name bytes)) q
    ∙ ap (find name_cmp q) (plain-insert name bytes entries)
    ∙ find-put name_cmp nat_list_cmp_total q name.items bytes.items (plain entries)
    ∙ ap (cond (eq_by_cmp name_cmp q name.items) (Some bytes.items)) (sym (get-from_entries nat_list_cmp_total (plain entries) q))
    ∙ sym (get-insert nat_list_cmp_total (files_in entries) name.items bytes.items q))

-- what a reference to bytes shows, read in one step or in two
pub items_of : (found : Option (Bor Bytes)) → option_map (λ bytes. bytes.now.items) found ≡ option_map (λ bytes. bytes.items) (option_copied found)
items_of None = refl
items_of (Some bytes) = refl
