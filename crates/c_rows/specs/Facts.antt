-- What the branch around a tree needs to know of it, kept without the tree.
use Rattle.std.specs.Prelude.{Bool, true, false, not, ◌&&◌, ◌||◌, List, [], ◌∷◌, map}
use Rattle.std.specs.List.{list_all}
use Rattle.c_terms.specs.declared.token.Token.{Token}
use Rattle.c_terms.specs.declared.label.Label.{Label}
use Rattle.c_terms.specs.declared.tree.Tree.{Tree, out-Tree}
use Rattle.c_rows.specs.declared.facts.Facts.{Facts}
use Rattle.c_rows.specs.declared.rule.Rule.{Rule}
use Rattle.c_rows.specs.declared.rule.Rule.TheVariants as rule
use Rattle.c_rows.specs.Tokens.{is_named, is_storage}
use Rattle.c_rows.specs.Labels.{labelled, is_block_label}
use Rattle.c_rows.specs.Rows.{label_of}
use Rattle.c_rows.specs.Branches.{defines, is_loose_label, plain_part, is_plain, declares_at, declares_name, function_at, declares_function}

abbrev pub facts_of : Tree → Facts
facts_of t = record {
  plain = plain_part (out-Tree t);
  plain_parts = is_plain t;
  names = declares_name t;
  functions = declares_function t;
  loose = labelled is_loose_label (out-Tree t);
  block = labelled is_block_label (out-Tree t);
}

-- the facts of a token by itself
abbrev pub leaf_facts : Token → Facts
leaf_facts t = record { plain = not (is_storage t); plain_parts = true; names = is_named t; functions = false; loose = false; block = false }

-- the facts of a branch with this label
abbrev pub label_facts : Label → List Facts → Facts
label_facts l fs = record {
  plain = not (defines l);
  plain_parts = list_all (λ f. f.plain) fs;
  names = declares_at l (map (λ f. f.names) fs);
  functions = function_at l (map (λ f. f.functions) fs);
  loose = is_loose_label l;
  block = is_block_label l;
}

-- The facts of a branch of this rule. If the parts determine the label, that makes no difference to these facts.
abbrev pub branch_facts : Rule → List Facts → Facts
branch_facts r fs = label_facts (label_of r []) fs

abbrev pub allows_type : List Facts → Bool
allows_type (s ∷ []) = s.plain_parts
allows_type (s ∷ d ∷ []) = s.plain_parts && not d.names
allows_type _ = false

abbrev pub allows_case : List Facts → Bool
allows_case (a ∷ b ∷ c ∷ []) = true
allows_case (a ∷ b ∷ cs) = not b.loose
allows_case _ = true

abbrev pub allows_external : List Facts → Bool
allows_external (s ∷ d ∷ l ∷ []) = not l.block || d.functions
allows_external _ = true

-- whether the rule's row allows parts with these facts together
abbrev pub allows_facts : Rule → List Facts → Bool
allows_facts rule.TypeName fs = allows_type fs
allows_facts rule.Case fs = allows_case fs
allows_facts rule.External fs = allows_external fs
allows_facts _ fs = true
