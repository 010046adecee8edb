-- The body of a rule: what spells it, what is wrong with it, and its elements.
use Rattle.std.specs.Prelude.{ℕ, ◌+◌, ◌≡◌, ◌==◌, Bool, true, false, ◌&&◌, ◌||◌, not, if◌then◌else◌, List, [], ◌∷◌, ◌++◌, map}
use Rattle.std.specs.Prelude.{Option, None, Some, slice_get, codes}
use Rattle.std.specs.List.{list_all}
use Rattle.std.specs.Str.{bytes_eq}
use Rattle.c_terms.specs.declared.token.TokenKind.{TokenKind}
use Rattle.c_terms.specs.declared.token.TokenKind.TheVariants as token
use Rattle.c_terms.specs.declared.tree.Tree.{Tree}
use Rattle.c_terms.specs.Trees.{join}
use Rattle.smpl_terms.specs.declared.var.Var.{Var as Variable}
use Rattle.smpl_patch.specs.declared.elem.Dots.{Dots, roll-Dots}
use Rattle.smpl_patch.specs.declared.elem.Elem.{Elem}
use Rattle.smpl_patch.specs.declared.fault.PatchFault.{PatchFault}
use Rattle.smpl_patch.specs.declared.fault.PatchFault.TheVariants.{BadPattern, DotsAtEdge, MinusDots}
use Rattle.smpl_patch.specs.Faults.{first_of}
use Rattle.smpl_meta.specs.declared.patterns.Placed.{Placed}
use Rattle.smpl_body.specs.declared.smpl_when.clauses.WhenFlags.{WhenFlags}
use Rattle.smpl_body.specs.declared.smpl_when.cutting.Code.{Code}
use Rattle.smpl_body.specs.declared.smpl_when.cutting.Cutting.{Cutting}
use Rattle.smpl_body.specs.SmplWhen.Cutting.{cut}
use Rattle.smpl_body.specs.SmplElem.Elements.{atoms, elements}
use Rattle.smpl_body.specs.Deep.{deep_fault}
use Rattle.smpl_body.specs.Spelled.{body_forms, IsRead, AreRead}
use Rattle.smpl_body.specs.DotsOf.{list_dots, statement_dots, edges}

-- ---- where positions and clauses are allowed

abbrev pub some_position : List Variable → Bool
some_position [] = false
some_position (v ∷ vs) = true

abbrev pub has_position : Option Placed → Bool
has_position None = false
has_position (Some p) = some_position p.positions

-- no position follows any of the tokens with these numbers
abbrev pub without_positions : List Placed → List ℕ → Bool
without_positions ps ids = list_all (λ id. not (has_position (slice_get ps id))) ids

abbrev pub is_pat : TokenKind → Bool
is_pat token.Pat = true
is_pat _ = false

abbrev pub sign_fits : Placed → Bool
sign_fits p = not (is_pat p.token.kind && some_position p.positions)

-- no position follows a sign
abbrev pub signs_fit : List Placed → Bool
signs_fit ps = list_all sign_fits ps

abbrev pub no_codes : List ℕ → Bool
no_codes [] = true
no_codes (k ∷ ks) = false

abbrev pub says_nothing : Option WhenFlags → Bool
says_nothing None = true
says_nothing (Some s) = not s.any && not s.strict && no_codes s.codes

-- none of the tokens with these numbers has a clause
abbrev pub without_clauses : List WhenFlags → List ℕ → Bool
without_clauses said ids = list_all (λ id. says_nothing (slice_get said id)) ids

-- No position follows dots that are statements, a sign, or a word of a clause. Dots that are members of a list have no
-- clause.
abbrev pub fits : List Placed → Cutting → List Tree → Bool
fits ps c ts =
    (signs_fit ps && without_positions ps c.words)
    && (without_positions ps (join (map statement_dots ts)) && without_clauses c.said (join (map list_dots ts)))

-- ---- what spells a body

-- These trees spell the body and the code of its clauses.
pub record Spells (ps : List Placed) (tree : Tree) (codes : List Tree) : Type 0 where
  pub clauses : (cut ps).broken ≡ false
  pub body : IsRead body_forms (cut ps).main tree
  pub code : AreRead (cut ps).codes codes
  pub fit : fits ps (cut ps) (tree ∷ codes) ≡ true

-- ---- what is wrong with a body

-- the place that is reported for a body that nothing spells: its first token, or the rule's end
abbrev pub place_in : List Placed → ℕ → ℕ
place_in [] end = end
place_in (p ∷ ps) end = p.at

abbrev pub at_of : Option Placed → ℕ
at_of None = 0
at_of (Some p) = p.at

abbrev pub sign_of : Option Placed → ℕ
sign_of None = 0
sign_of (Some p) = p.sign

-- Code within other code follows the last token of that code, so those dots are at its edge.
abbrev pub nested_host : Code → List ℕ
nested_host c = if c.nested then c.host ∷ [] else []

abbrev pub nested_hosts : List Code → List ℕ
nested_hosts [] = []
nested_hosts (c ∷ cs) = nested_host c ++ nested_hosts cs

abbrev pub edge_faults : List Placed → List ℕ → List PatchFault
edge_faults ps ids = map (λ id. DotsAtEdge (at_of (slice_get ps id))) ids

abbrev pub all_edges : Cutting → List Tree → List ℕ
all_edges c ts = nested_hosts c.codes ++ join (map edges ts)

abbrev pub minus_dot : List Placed → ℕ → List PatchFault
minus_dot ps id = if sign_of (slice_get ps id) == 45 then MinusDots (at_of (slice_get ps id)) ∷ [] else []

-- dots that are statements, on a `-` line
abbrev pub minus_dots : List Placed → List ℕ → List PatchFault
minus_dots ps [] = []
minus_dots ps (id ∷ ids) = minus_dot ps id ++ minus_dots ps ids

abbrev pub is_nest_sign : Placed → Bool
is_nest_sign p =
    is_pat p.token.kind
    && (bytes_eq p.token.text (codes "<...") || bytes_eq p.token.text (codes "<+...") || bytes_eq p.token.text (codes "...>")
    || bytes_eq p.token.text (codes "...+>"))

abbrev pub minus_sign : Placed → List PatchFault
minus_sign p = if p.sign == 45 && is_nest_sign p then MinusDots p.at ∷ [] else []

-- signs of nests on a `-` line
abbrev pub minus_signs : List Placed → List PatchFault
minus_signs [] = []
minus_signs (p ∷ ps) = minus_sign p ++ minus_signs ps

abbrev pub minus_faults : List Placed → List Tree → List PatchFault
minus_faults ps ts = minus_dots ps (join (map statement_dots ts)) ++ minus_signs ps

abbrev pub first_some : Option PatchFault → Option PatchFault → Option PatchFault
first_some None g = g
first_some (Some f) g = Some f

-- the first fault of a body that these trees spell: dots and nests at edges, or if there are none, those on `-` lines
abbrev pub tree_fault : List Placed → Cutting → List Tree → Option PatchFault
tree_fault ps c ts = first_some (first_of (edge_faults ps (all_edges c ts))) (first_of (minus_faults ps ts))

-- The first fault of the body of a rule that ends at a place: too many brackets; else that nothing spells it; else what its
-- trees show.
pub data IsBodyFault (ps : List Placed) (end : ℕ) : PatchFault → Type 0 where
  deep : {f : PatchFault} → deep_fault ps ≡ Some f → IsBodyFault ps end f
  unspelled : deep_fault ps ≡ None → ((t : Tree) (cs : List Tree) → Spells ps t cs → ⊥) → IsBodyFault ps end (BadPattern (place_in ps end))
  misplaced : {f : PatchFault} → deep_fault ps ≡ None → (t : Tree) (cs : List Tree) → Spells ps t cs → tree_fault ps (cut ps) (t ∷ cs) ≡ Some f
      → IsBodyFault ps end f

-- ---- the elements of a body

-- what the clauses of a token say, without code
abbrev pub is_any : Option WhenFlags → Bool
is_any None = false
is_any (Some s) = s.any

abbrev pub is_strict : Option WhenFlags → Bool
is_strict None = false
is_strict (Some s) = s.strict

abbrev pub codes_of : Option WhenFlags → List ℕ
codes_of None = []
codes_of (Some s) = s.codes

-- The clauses within code: if no dots are at an edge, there is no code within code.
abbrev pub code_dots : List WhenFlags → ℕ → Dots
code_dots said id = roll-Dots (record { whens = []; any = is_any (slice_get said id); strict = is_strict (slice_get said id) })

-- the code with a given number as elements, whose first pattern has a given number
abbrev pub code_at : List WhenFlags → Option Tree → Option ℕ → List (List Elem)
code_at said None n = []
code_at said (Some t) None = []
code_at said (Some t) (Some n) = elements (code_dots said) n t ∷ []

abbrev pub whens_of : List WhenFlags → List Tree → List ℕ → List ℕ → List (List Elem)
whens_of said cs starts [] = []
whens_of said cs starts (k ∷ ks) = code_at said (slice_get cs k) (slice_get starts k) ++ whens_of said cs starts ks

abbrev pub body_dots : List WhenFlags → List Tree → List ℕ → ℕ → Dots
body_dots said cs starts id = roll-Dots (record {
  whens = whens_of said cs starts (codes_of (slice_get said id));
  any = is_any (slice_get said id);
  strict = is_strict (slice_get said id);
})

-- the number of the first pattern of each piece of code, one piece after another
abbrev pub starts_from : ℕ → List Tree → List ℕ
starts_from n [] = []
starts_from n (t ∷ ts) = n ∷ starts_from (n + atoms t) ts

-- The elements of a body: its patterns are numbered from 0, and those of its clauses' code after them.
abbrev pub body_elements : List WhenFlags → Tree → List Tree → List Elem
body_elements said t cs = elements (body_dots said cs (starts_from (atoms t) cs)) 0 t

-- The body has no fault, and these are its elements.
pub record IsBody (ps : List Placed) (es : List Elem) : Type 0 where
  pub shallow : deep_fault ps ≡ None
  pub tree : Tree
  pub codes : List Tree
  pub spells : Spells ps tree codes
  pub faultless : tree_fault ps (cut ps) (tree ∷ codes) ≡ None
  pub are : es ≡ body_elements (cut ps).said tree codes
