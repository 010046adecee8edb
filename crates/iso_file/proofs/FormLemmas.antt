-- The form of a block.
use Rattle.std.proofs.Common.{◌≡◌, ℕ, ◌+◌, ◌<◌, ◌&&◌, Bool, true, false, true≢false, List, [], ◌∷◌, length, get_or, take, drop}
use Rattle.std.proofs.Common.{Option, Some, None, IsSome, refl, sym, ap, ◌∙◌, subst, arith, codes}
use Rattle.std.specs.Prelude.{is_some}
use Rattle.std.proofs.Common.{inl, inr}
use Rattle.c_terms.specs.declared.tree.Tree.{Tree}
use Rattle.smpl_patch.specs.declared.pattern.VarDecl.{VarDecl}
use Rattle.smpl_patch.specs.declared.rule.Iso.{Iso}
use Rattle.smpl_lexer.specs.declared.token.PatchToken.{PatchToken}
use Rattle.smpl_lexer.specs.Tokens.{is_word}
use Rattle.iso_file.specs.declared.fault.IsoFault.{IsoFault}
use Rattle.iso_file.specs.declared.fault.IsoFault.TheVariants as fault
use Rattle.iso_file.specs.declared.block.Block.{Block}
use Rattle.iso_file.specs.declared.block.CheckedBlock.{CheckedBlock}
use Rattle.iso_file.specs.Blocks.{is_header, header_name}
use Rattle.iso_file.specs.Sides.{is_expression_line, second_at, concatenated, arrows_in, sides_in}
use Rattle.iso_file.specs.Lost.{KeepsAll}
use Rattle.iso_file.specs.Isos.{OrNoMemory, AreSides, AreVars, IsBehind, IsOfForm, IsIso, IsBlockFault, first_word}
use Rattle.iso_file.specs.Isos.IsBlockFault.{other_word, of_no_form, lost}
use Rattle.iso_file.specs.Stepped.{Decides, IsLost, IsCheckedBlock, ChecksBlock, IsUnder, Under, IsBlockOf, Behind, IsFormFault, is_begun}
use Rattle.iso_file.specs.Stepped.IsFormFault.{of_no_form as no_form_fault, lost as lost_fault}
use Rattle.smpl_meta.proofs.DeclsOnce.{OneTree}
use Rattle.iso_file.proofs.VarLemmas.{vars_once}

some_same : (o : Option ℕ) (n m : ℕ) → o ≡ Some n → o ≡ Some m → n ≡ m
some_same o n m h k = let e : Some n ≡ Some m = sym h ∙ k in cc

-- ---- after `@@`

pub under_none : (vars : List VarDecl) (tokens : List PatchToken) (both : List Bool) → both ≡ arrows_in tokens → length both ≡ 0 → Under vars tokens None
under_none vars tokens both e none trees some are = let l : length both ≡ length (arrows_in tokens) = ap length e in omega arith

pub under_judged_none : (vars : List VarDecl) (tokens : List PatchToken) (sides : List (List PatchToken)) (both : List Bool) → sides ≡ sides_in tokens
    → ChecksBlock vars sides both None → Under vars tokens None
under_judged_none vars tokens sides both e j trees some are = j trees (subst (λ (ss : List (List PatchToken)). AreSides vars ss trees) (sym e) are)

pub under_judged : (vars : List VarDecl) (tokens : List PatchToken) (sides : List (List PatchToken)) (both : List Bool) (j : CheckedBlock) (b : Block)
    → sides ≡ sides_in tokens → both ≡ arrows_in tokens → 0 < length both → IsCheckedBlock vars sides both j
    → b ≡ record { vars = vars; trees = j.trees; both = both; lost = j.lost } → Under vars tokens (Some b)
under_judged vars tokens sides both j b s a some is e =
    let P : Block → Type 0 = λ x. IsUnder vars tokens x in
    subst P (sym e) (record {
      vars_are = refl;
      arrows_are = a;
      some = some;
      trees = subst (λ (ss : List (List PatchToken)). AreSides vars ss j.trees) s is.trees;
      lost = subst (λ (ways : List Bool). IsLost vars (sides_in tokens) ways j.lost) a
          (subst (λ (ss : List (List PatchToken)). IsLost vars ss both j.lost) s is.lost);
    })

-- ---- after `@ name @`

pub behind_none : (lines : List (List PatchToken)) → second_at lines ≡ None → Behind lines None
behind_none lines none vars sides arrows trees b = true≢false (sym (ap is_some b.second_is) ∙ ap is_some none)

pub behind_no_vars : (lines : List (List PatchToken)) (n : ℕ) (decls : List PatchToken) → second_at lines ≡ Some n → decls ≡ concatenated (take n lines)
    → Decides (AreVars decls) None → Behind lines None
behind_no_vars lines n decls second e none vars sides arrows trees b =
    let same : b.second ≡ n = some_same (second_at lines) b.second n b.second_is second in
    let here : AreVars (concatenated (take n lines)) vars = subst (λ (k : ℕ). AreVars (concatenated (take k lines)) vars) same b.vars_are in
    none vars (subst (λ (ts : List PatchToken). AreVars ts vars) (sym e) here)

behind_of : OneTree → (lines : List (List PatchToken)) (n : ℕ) (vars : List VarDecl) (o : Option Block) → second_at lines ≡ Some n
    → AreVars (concatenated (take n lines)) vars → Under vars (concatenated (drop (n + 1) lines)) o → Behind lines o
behind_of law lines n vars None second are under = λ other sides arrows trees b.
    let same : b.second ≡ n = some_same (second_at lines) b.second n b.second_is second in
    let ones : AreVars (concatenated (take n lines)) other = subst (λ (k : ℕ). AreVars (concatenated (take k lines)) other) same b.vars_are in
    let vs : other ≡ vars = vars_once law (concatenated (take n lines)) other vars ones are in
    let ways : arrows ≡ arrows_in (concatenated (drop (n + 1) lines)) = b.arrows_are ∙ ap (λ (k : ℕ). arrows_in (concatenated (drop (k + 1) lines))) same in
    let ss : sides ≡ sides_in (concatenated (drop (n + 1) lines)) = b.sides_are ∙ ap (λ (k : ℕ). sides_in (concatenated (drop (k + 1) lines))) same in
    under trees (subst (λ (x : List Bool). 0 < length x) ways b.some)
    (subst (λ (x : List (List PatchToken)). AreSides vars x trees) ss (subst (λ (x : List VarDecl). AreSides x sides trees) vs b.trees_are))
behind_of law lines n vars (Some b) second are under = record {
  sides = sides_in (concatenated (drop (n + 1) lines));
  behind = record {
    second = n;
    second_is = second;
    vars_are = subst (λ (x : List VarDecl). AreVars (concatenated (take n lines)) x) (sym under.vars_are) are;
    sides_are = refl;
    arrows_are = under.arrows_are;
    some = under.some;
    trees_are = subst (λ (x : List VarDecl). AreSides x (sides_in (concatenated (drop (n + 1) lines))) b.trees) (sym under.vars_are) under.trees;
  };
  lost = subst (λ (x : List VarDecl). IsLost x (sides_in (concatenated (drop (n + 1) lines))) b.both b.lost) (sym under.vars_are)
      (subst (λ (x : List Bool). IsLost vars (sides_in (concatenated (drop (n + 1) lines))) x b.lost) (sym under.arrows_are) under.lost);
}

pub behind_under : OneTree → (lines : List (List PatchToken)) (n : ℕ) (decls tokens : List PatchToken) (vars : List VarDecl) (o : Option Block)
    → second_at lines ≡ Some n
    → decls ≡ concatenated (take n lines) → tokens ≡ concatenated (drop (n + 1) lines) → AreVars decls vars → Under vars tokens o → Behind lines o
behind_under law lines n decls tokens vars o second d t are under =
    behind_of law lines n vars o second (subst (λ (ts : List PatchToken). AreVars ts vars) d are) (subst (λ (ts : List PatchToken). Under vars ts o) t under)

-- ---- a block

pub record Begun (lines : List (List PatchToken)) : Type 0 where
  pub word : List PatchToken
  pub header : List PatchToken
  pub rest : List (List PatchToken)
  pub is : lines ≡ word ∷ header ∷ rest
  pub word_is : is_expression_line word ≡ true
  pub header_is : is_header header ≡ true

and_both : (a b : Bool) → a && b ≡ true → (a ≡ true) × (b ≡ true)
and_both true b h = (refl, h)
and_both false b h = absurd (true≢false (sym h))

pub begun : (lines : List (List PatchToken)) → is_begun lines ≡ true → Begun lines
begun [] h = absurd (true≢false (sym h))
begun (w ∷ []) h = absurd (true≢false (sym h))
begun (w ∷ l ∷ ls) h =
    let b = and_both (is_expression_line w) (is_header l) h in
    record { word = w; header = l; rest = ls; is = refl; word_is = b.0; header_is = b.1 }

pub begun_two : (lines : List (List PatchToken)) → is_begun lines ≡ true → 1 < length lines
begun_two lines h = let b = begun lines h in let l : length lines ≡ length (b.word ∷ b.header ∷ b.rest) = ap length b.is in omega arith

form_begun : (lines : List (List PatchToken)) (iso : Iso) (sides : List (List PatchToken)) → IsOfForm lines iso sides → is_begun lines ≡ true
form_begun lines iso sides f =
    let here : is_begun (f.word ∷ f.header ∷ f.lines) ≡ true =
    ap (λ (b : Bool). b && is_header f.header) f.word_is ∙ f.header_is in
    ap is_begun f.block_is ∙ here

pub not_begun : (lines : List (List PatchToken)) (iso : Iso) (sides : List (List PatchToken)) → is_begun lines ≡ false → IsOfForm lines iso sides → ⊥
not_begun lines iso sides none f = true≢false (sym (form_begun lines iso sides f) ∙ none)

pub no_form : (lines : List (List PatchToken)) → Behind (drop 2 lines) None → (iso : Iso) (sides : List (List PatchToken)) → IsOfForm lines iso sides → ⊥
no_form lines none iso sides f =
    let rest : drop 2 lines ≡ f.lines = ap (λ (ls : List (List PatchToken)). drop 2 ls) f.block_is in
    none iso.vars sides iso.both iso.sides (subst (λ (ls : List (List PatchToken)). IsBehind ls iso.vars sides iso.both iso.sides) (sym rest) f.behind)

name_by : (h : List PatchToken) → is_header h ≡ true → (n : List ℕ) × (header_name h ≡ Some n)
name_by [] e = absurd (true≢false (sym e))
name_by (a ∷ []) e = absurd (true≢false (sym e))
name_by (a ∷ n ∷ ts) e = (n.token.text, refl)

three_by : (h : List PatchToken) → is_header h ≡ true → length h ≡ 3
three_by [] e = absurd (true≢false (sym e))
three_by (a ∷ []) e = absurd (true≢false (sym e))
three_by (a ∷ n ∷ []) e = absurd (true≢false (sym e))
three_by (a ∷ n ∷ b ∷ []) e = refl
three_by (a ∷ n ∷ b ∷ c ∷ ts) e = absurd (true≢false (sym e))

-- the header of a block has a name
pub header_two : (lines : List (List PatchToken)) (d : List PatchToken) → is_begun lines ≡ true → 1 < length (get_or lines 1 d)
header_two lines d h =
    let b = begun lines h in
    let e : get_or lines 1 d ≡ b.header = ap (λ (ls : List (List PatchToken)). get_or ls 1 d) b.is in
    let l : length (get_or lines 1 d) ≡ length b.header = ap length e in
    let t = three_by b.header b.header_is in
    omega arith

pub of_form : (lines : List (List PatchToken)) (d : List PatchToken) (b : Block) (iso : Iso) (found : IsBlockOf (drop 2 lines) b) → is_begun lines ≡ true
    → header_name (get_or lines 1 d) ≡ Some iso.name → iso.vars ≡ b.vars → iso.sides ≡ b.trees → iso.both ≡ b.both → IsOfForm lines iso found.sides
of_form lines d b iso found h n v s w =
    let g = begun lines h in
    let rest : drop 2 lines ≡ g.rest = ap (λ (ls : List (List PatchToken)). drop 2 ls) g.is in
    let header : get_or lines 1 d ≡ g.header = ap (λ (ls : List (List PatchToken)). get_or ls 1 d) g.is in
    let one : IsBehind g.rest b.vars found.sides b.both b.trees =
    subst (λ (ls : List (List PatchToken)). IsBehind ls b.vars found.sides b.both b.trees) rest found.behind in
    let two : IsBehind g.rest iso.vars found.sides b.both b.trees = subst (λ (x : List VarDecl). IsBehind g.rest x found.sides b.both b.trees) (sym v) one in
    let three : IsBehind g.rest iso.vars found.sides iso.both b.trees = subst (λ (x : List Bool). IsBehind g.rest iso.vars found.sides x b.trees) (sym w) two in
    let four : IsBehind g.rest iso.vars found.sides iso.both iso.sides =
    subst (λ (x : List Tree). IsBehind g.rest iso.vars found.sides iso.both x) (sym s) three in
    record {
      word = g.word;
      header = g.header;
      lines = g.rest;
      block_is = g.is;
      word_is = g.word_is;
      header_is = g.header_is;
      name_is = ap header_name (sym header) ∙ n;
      behind = four;
    }

pub is_iso : (lines : List (List PatchToken)) (d : List PatchToken) (b : Block) (iso : Iso) → IsBlockOf (drop 2 lines) b → b.lost ≡ None → is_begun lines ≡ true
    → header_name (get_or lines 1 d) ≡ Some iso.name → iso.vars ≡ b.vars → iso.sides ≡ b.trees → iso.both ≡ b.both → IsIso lines iso
is_iso lines d b iso found none h n v s w =
    let one : KeepsAll b.vars found.sides b.both = subst (λ (o : Option ℕ). IsLost b.vars found.sides b.both o) none found.lost in
    let two : KeepsAll iso.vars found.sides b.both = subst (λ (x : List VarDecl). KeepsAll x found.sides b.both) (sym v) one in
    record {
      sides = found.sides;
      form = of_form lines d b iso found h n v s w;
      keeps = subst (λ (x : List Bool). KeepsAll iso.vars found.sides x) (sym w) two;
    }

pub is_lost : (lines : List (List PatchToken)) (at place : ℕ) (b : Block) → IsBlockOf (drop 2 lines) b → b.lost ≡ Some place → is_begun lines ≡ true
    → IsFormFault lines at (fault.VariableLost place)
is_lost lines at place b found some h =
    let g = begun lines h in
    let name = name_by g.header g.header_is in
    let header : get_or lines 1 [] ≡ g.header = ap (λ (ls : List (List PatchToken)). get_or ls 1 []) g.is in
    let iso : Iso = record { name = name.0; vars = b.vars; sides = b.trees; both = b.both } in
    lost_fault iso found.sides place (of_form lines [] b iso found h (ap header_name header ∙ name.1) refl refl refl)
    (subst (λ (o : Option ℕ). IsLost b.vars found.sides b.both o) some found.lost)

pub raised : (lines : List (List PatchToken)) (t : PatchToken) (f : IsoFault) → first_word lines ≡ Some t → is_word (codes "Expression") t ≡ true
    → IsFormFault lines t.at f → IsBlockFault lines f
raised lines t f first word (no_form_fault none) = of_no_form t first word none
raised lines t f first word (lost_fault iso sides place of found) = lost t iso sides place first word of found

pub other : (lines : List (List PatchToken)) (t : PatchToken) → first_word lines ≡ Some t → is_word (codes "Expression") t ≡ false
    → IsBlockFault lines (fault.NotExpression t.at)
other lines t first word = other_word t first (λ h. true≢false (sym h ∙ word))

pub first_line : (lines : List (List PatchToken)) → IsSome (first_word lines) → 0 < length lines
first_line [] h = absurd (true≢false (sym h))
first_line (l ∷ ls) h = omega arith

pub first_token : (lines : List (List PatchToken)) (d : List PatchToken) → IsSome (first_word lines) → 0 < length (get_or lines 0 d)
first_token [] d h = absurd (true≢false (sym h))
first_token ([] ∷ ls) d h = absurd (true≢false (sym h))
first_token ((t ∷ ts) ∷ ls) d h = omega arith

pub first_is : (lines : List (List PatchToken)) (d : List PatchToken) (t : PatchToken) → IsSome (first_word lines) → t ≡ get_or (get_or lines 0 d) 0 t
    → first_word lines ≡ Some t
first_is [] d t h e = absurd (true≢false (sym h))
first_is ([] ∷ ls) d t h e = absurd (true≢false (sym h))
first_is ((a ∷ ways) ∷ ls) d t h e = ap (λ (x : PatchToken). Some x) (sym e)

-- the name in the second line
pub named : (header item : List PatchToken) (lines : List (List PatchToken)) (name : List ℕ) → header ≡ item → item ≡ get_or lines 1 item
    → header_name header ≡ Some name → header_name (get_or lines 1 item) ≡ Some name
named header item lines name h i e = ap header_name (sym (h ∙ i)) ∙ e

pub or_map : (P Q : IsoFault → Type 0) (f : IsoFault) → ((g : IsoFault) → P g → Q g) → OrNoMemory P f → OrNoMemory Q f
or_map P Q f k (inl e) = inl e
or_map P Q f k (inr p) = inr (k f p)

-- the first token of the first line
pub first_seen : (lines : List (List PatchToken)) (item line : List PatchToken) (t : PatchToken) → IsSome (first_word lines)
    → line ≡ item → item ≡ get_or lines 0 item
    → t ≡ get_or line 0 t → first_word lines ≡ Some t
first_seen lines item line t some l is first =
    first_is lines item t some (first ∙ ap (λ (x : List PatchToken). get_or x 0 t) (l ∙ is))

pub line_some : (lines : List (List PatchToken)) (item line : List PatchToken) → IsSome (first_word lines) → line ≡ item → item ≡ get_or lines 0 item
    → 0 < length line
line_some lines item line some l is = subst (λ (x : List PatchToken). 0 < length x) (sym (l ∙ is)) (first_token lines item some)
