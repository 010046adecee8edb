-- The parts of a tree with one more child: whether one of them passes, and those that are aligned.
use Rattle.std.proofs.Common.{◌≡◌, ℕ, suc, ◌<◌, ◌≤◌, Bool, true, false, ◌&&◌, ◌||◌, refl, sym, ap, ap₂, ◌∙◌, arith, List, []}
use Rattle.std.proofs.Common.{◌∷◌, ◌++◌, map, length, drop, get_or, drop-cons, append_assoc, if◌then◌else◌}
use Rattle.std.proofs.lemmas.Grind.{common_steps}
use Rattle.std.specs.List.{list_any}
use Rattle.c_terms.specs.declared.label.Label.{Label}
use Rattle.c_terms.specs.declared.tree.Tree.{Tree}
use Rattle.c_terms.specs.declared.token.Token.{Token}
use Rattle.c_terms.specs.declared.tree.Tree.TheVariants.{Leaf, Branch}
use Rattle.c_terms.specs.Places.{Place, below, part_at, parts, parts_from}
use Rattle.c_terms.specs.Shapes.{is_expression_part}
use Rattle.c_terms.proofs.PlaceLaws.{child_known, parts-Leaf, parts-Branch}
use Rattle.c_types.specs.Tables.{ItemTypes}
use Rattle.smpl_terms.specs.Environments.{Environment}
use Rattle.smpl_patch.specs.declared.pattern.VarDecl.{VarDecl}
use Rattle.smpl_patch.specs.declared.pattern.PatToken.{PatToken}
use Rattle.smpl_patch.specs.declared.pattern.Pattern.{Pattern}
use Rattle.pat_match.specs.declared.aligning.Alignment.{Alignment}
use Rattle.pat_match.specs.declared.role.NodeRole.{NodeRole}
use Rattle.pat_match.specs.Spots.{parts_of_child, own_parts_from}
use Rattle.pat_match.specs.Matching.{put_form, form_at, aligned_at}
use Rattle.pat_match.proofs.CountLemmas.{drop_past}

-- the parts of the children from index i on
abbrev pub kids_parts : Label → ℕ → List Tree → List Place
kids_parts l i cs = parts_from is_expression_part l i (map (child_known is_expression_part) cs)

pub kids_of : (t : Tree) (l : Label) (cs ds : List Tree) → t ≡ Branch l cs → ds ≡ cs → parts is_expression_part t ≡ kids_parts l 0 ds
kids_of t l cs ds e g = ap (parts is_expression_part) e ∙ parts-Branch is_expression_part l cs ∙ ap (kids_parts l 0) (sym g)

-- those of one child, and then the others
pub kids_step : (l : Label) (cs : List Tree) (i : ℕ) (c : Tree) → i < length cs → c ≡ get_or cs i c
    → kids_parts l i (drop i cs) ≡ parts_of_child l i c ++ kids_parts l (suc i) (drop (suc i) cs)
kids_step l cs i c lt e =
    ap (kids_parts l i) (drop-cons cs i c lt ∙ ap (λ x. x ∷ drop (suc i) cs) (sym e))

pub own_step : (q : ℕ → Bool) (l : Label) (cs : List Tree) (i : ℕ) (c : Tree) → i < length cs → c ≡ get_or cs i c
    → own_parts_from q l i (drop i cs) ≡ (if q i then parts_of_child l i c else []) ++ own_parts_from q l (suc i) (drop (suc i) cs)
own_step q l cs i c lt e = ap (own_parts_from q l i) (drop-cons cs i c lt ∙ ap (λ x. x ∷ drop (suc i) cs) (sym e))

-- whether one of them passes

any-append : {X : Type 0} (q : X → Bool) (xs ys : List X) → list_any q (xs ++ ys) ≡ (list_any q xs || list_any q ys)
any-append q [] ys = refl
any-append q (x ∷ xs) ys = let r = any-append q xs ys in grind (arith, common_steps)

any-below : (q : Tree → Bool) (i : ℕ) (ps : List Place) → list_any (λ s. q s.tree) (map (below i) ps) ≡ list_any (λ s. q s.tree) ps
any-below q i [] = refl
any-below q i (p ∷ ps) = ap (λ b. q p.tree || b) (any-below q i ps)

any-part : (q : Tree → Bool) (l : Label) (i : ℕ) (c : Tree) (b : Bool) → is_expression_part l i c ≡ b
    → list_any (λ s. q s.tree) (part_at is_expression_part l i c) ≡ (b && q c)
any-part q l i c true e = rw e (grind (arith, common_steps))
any-part q l i c false e = rw e refl

-- a child itself, and the parts inside it
pub any-child : (q : Tree → Bool) (l : Label) (i : ℕ) (c : Tree)
    → list_any (λ s. q s.tree) (parts_of_child l i c) ≡ ((is_expression_part l i c && q c) || list_any (λ s. q s.tree) (parts is_expression_part c))
any-child q l i c =
    any-append (λ (s : Place). q s.tree) (part_at is_expression_part l i c) (map (below i) (parts is_expression_part c))
    ∙ ap₂ (λ a b. a || b) (any-part q l i c (is_expression_part l i c) refl) (any-below q i (parts is_expression_part c))

or_assoc : (a b c d w : Bool) → d ≡ (a || b) → (a || (b || c)) ≡ w → (d || c) ≡ w
or_assoc a b c d w e h = grind (arith, common_steps)

pub any_kids_step : (q : Tree → Bool) (l : Label) (cs : List Tree) (i j : ℕ) (c : Tree) (a d w : Bool) → j ≡ suc i → i < length cs → c ≡ get_or cs i c
    → d ≡ (a || list_any (λ s. q s.tree) (parts_of_child l i c)) → (a || list_any (λ s. q s.tree) (kids_parts l i (drop i cs))) ≡ w
    → (d || list_any (λ s. q s.tree) (kids_parts l j (drop j cs))) ≡ w
any_kids_step q l cs i j c a d w n lt e g h =
    let k = ap (list_any (λ (s : Place). q s.tree)) (kids_step l cs i c lt e)
    ∙ any-append (λ (s : Place). q s.tree) (parts_of_child l i c) (kids_parts l (suc i) (drop (suc i) cs)) in
    ap (λ m. d || list_any (λ s. q s.tree) (kids_parts l m (drop m cs))) n
    ∙ or_assoc a _ _ d w g (ap (λ b. a || b) (sym k) ∙ h)

any-if : (q : Tree → Bool) (b : Bool) (ps : List Place) → list_any (λ s. q s.tree) (if b then ps else []) ≡ (b && list_any (λ s. q s.tree) ps)
any-if q true ps = refl
any-if q false ps = refl

pub any_own_step : (q : Tree → Bool) (own : ℕ → Bool) (l : Label) (cs : List Tree) (i j : ℕ) (c : Tree) (a d w : Bool)
    → j ≡ suc i → i < length cs → c ≡ get_or cs i c
    → d ≡ (a || (own i && list_any (λ s. q s.tree) (parts_of_child l i c))) → (a || list_any (λ s. q s.tree) (own_parts_from own l i (drop i cs))) ≡ w
    → (d || list_any (λ s. q s.tree) (own_parts_from own l j (drop j cs))) ≡ w
any_own_step q own l cs i j c a d w n lt e g h =
    let k = ap (list_any (λ (s : Place). q s.tree)) (own_step own l cs i c lt e)
    ∙ any-append (λ (s : Place). q s.tree) (if own i then parts_of_child l i c else []) (own_parts_from own l (suc i) (drop (suc i) cs))
    ∙ ap (λ b. b || list_any (λ s. q s.tree) (own_parts_from own l (suc i) (drop (suc i) cs))) (any-if q (own i) (parts_of_child l i c)) in
    ap (λ m. d || list_any (λ s. q s.tree) (own_parts_from own l m (drop m cs))) n
    ∙ or_assoc a _ _ d w g (ap (λ b. a || b) (sym k) ∙ h)

or_nothing : (d : Bool) → (d || false) ≡ d
or_nothing true = refl
or_nothing false = refl

or_three : (a b c : Bool) → ((a || b) || c) ≡ (a || (b || c))
or_three true b c = refl
or_three false b c = refl

-- once no child is left, a child and the parts inside it have been tested
pub any_child_done : (q : Tree → Bool) (l : Label) (i : ℕ) (c : Tree) (inner : Label) (cs : List Tree) (j : ℕ)
    (asked a o d : Bool) → length cs ≤ j → asked ≡ is_expression_part l i c
    → o ≡ (a || (asked && q c)) → (d || list_any (λ s. q s.tree) (kids_parts inner j (drop j cs)))
    ≡ (o || list_any (λ s. q s.tree) (parts is_expression_part c))
    → d ≡ (a || list_any (λ s. q s.tree) (parts_of_child l i c))
any_child_done q l i c inner cs j asked a o d le e g h =
    let none : kids_parts inner j (drop j cs) ≡ [] = ap (kids_parts inner j) (drop_past cs j le) in
    sym (or_nothing d) ∙ ap (λ ps. d || list_any (λ (s : Place). q s.tree) ps) (sym none) ∙ h
    ∙ ap (λ b. b || list_any (λ (s : Place). q s.tree) (parts is_expression_part c)) (g ∙ ap (λ b. a || (b && q c)) e)
    ∙ or_three a (is_expression_part l i c && q c) (list_any (λ (s : Place). q s.tree) (parts is_expression_part c))
    ∙ ap (λ b. a || b) (sym (any-child q l i c))

pub any_own_done : (q : Tree → Bool) (own : ℕ → Bool) (l : Label) (cs : List Tree) (i : ℕ) (d w : Bool) → length cs ≤ i
    → (d || list_any (λ s. q s.tree) (own_parts_from own l i (drop i cs))) ≡ w → d ≡ w
any_own_done q own l cs i d w le h =
    let none : own_parts_from own l i (drop i cs) ≡ [] = ap (own_parts_from own l i) (drop_past cs i le) in
    sym (or_nothing d) ∙ ap (λ ps. d || list_any (λ (s : Place). q s.tree) ps) (sym none) ∙ h

-- a form that isn't live fits no seat
any_no : (ps : List Place) → list_any (λ s. false) ps ≡ false
any_no [] = refl
any_no (s ∷ ps) = any_no ps

pub no_seat : (b : Bool) (q : Place → Bool) (ps : List Place) → list_any q ps ≡ false → list_any (λ s. b && q s) ps ≡ false
no_seat true q ps h = h
no_seat false q ps h = any_no ps

pub not_live : (b : Bool) (q : Place → Bool) (ps : List Place) → b ≡ false → list_any (λ s. b && q s) ps ≡ false
not_live true q ps h = absurd (cc)
not_live false q ps h = any_no ps

-- those that are aligned

module _ (decls : List VarDecl) (tokens : List PatToken) (types : ItemTypes) (env : Environment) (p : Pattern) (k : NodeRole) where
  abbrev aligned : List ℕ → List Place → List Alignment
  aligned = aligned_at decls tokens types env p k

  aligned-append : (above : List ℕ) (ps qs : List Place) → aligned above (ps ++ qs) ≡ aligned above ps ++ aligned above qs
  aligned-append above [] qs = refl
  aligned-append above (s ∷ ps) qs =
      ap (λ xs. put_form (above ++ s.path) (form_at decls tokens types env p k s.tree) ++ xs) (aligned-append above ps qs)
      ∙ sym (append_assoc (put_form (above ++ s.path) (form_at decls tokens types env p k s.tree)) (aligned above ps) (aligned above qs))

  aligned-below : (above : List ℕ) (i : ℕ) (ps : List Place) → aligned above (map (below i) ps) ≡ aligned (above ++ i ∷ []) ps
  aligned-below above i [] = refl
  aligned-below above i (s ∷ ps) =
      ap₂ (λ path xs. put_form path (form_at decls tokens types env p k s.tree) ++ xs) (sym (append_assoc above (i ∷ []) s.path)) (aligned-below above i ps)

  append-nil : (xs : List Alignment) → xs ++ [] ≡ xs
  append-nil [] = refl
  append-nil (x ∷ xs) = ap (λ ys. x ∷ ys) (append-nil xs)

  aligned-part : (above : List ℕ) (l : Label) (i : ℕ) (c : Tree) (b : Bool) → is_expression_part l i c ≡ b
      → aligned above (part_at is_expression_part l i c) ≡ (if b then put_form (above ++ i ∷ []) (form_at decls tokens types env p k c) else [])
  aligned-part above l i c true e = rw e (append-nil (put_form (above ++ i ∷ []) (form_at decls tokens types env p k c)))
  aligned-part above l i c false e = rw e refl

  pub aligned-child : (above : List ℕ) (l : Label) (i : ℕ) (c : Tree) → aligned above (parts_of_child l i c)
      ≡ (if is_expression_part l i c then put_form (above ++ i ∷ []) (form_at decls tokens types env p k c) else [])
      ++ aligned (above ++ i ∷ []) (parts is_expression_part c)
  aligned-child above l i c =
      aligned-append above (part_at is_expression_part l i c) (map (below i) (parts is_expression_part c))
      ∙ ap₂ (λ xs ys. xs ++ ys) (aligned-part above l i c (is_expression_part l i c) refl) (aligned-below above i (parts is_expression_part c))

  pub aligned_kids_step : (above : List ℕ) (l : Label) (cs : List Tree) (i j : ℕ) (c : Tree) (old new all : List Alignment)
      → j ≡ suc i → i < length cs → c ≡ get_or cs i c
      → new ≡ old ++ aligned above (parts_of_child l i c) → old ++ aligned above (kids_parts l i (drop i cs)) ≡ all
      → new ++ aligned above (kids_parts l j (drop j cs)) ≡ all
  aligned_kids_step above l cs i j c old new all n lt e g h =
      ap (λ m. new ++ aligned above (kids_parts l m (drop m cs))) n
      ∙ ap (λ xs. xs ++ aligned above (kids_parts l (suc i) (drop (suc i) cs))) g
      ∙ append_assoc old (aligned above (parts_of_child l i c)) (aligned above (kids_parts l (suc i) (drop (suc i) cs)))
      ∙ ap (λ xs. old ++ xs) (sym (ap (aligned above) (kids_step l cs i c lt e)
      ∙ aligned-append above (parts_of_child l i c) (kids_parts l (suc i) (drop (suc i) cs))))
      ∙ h

  pub aligned_own_step : (above : List ℕ) (own : ℕ → Bool) (l : Label) (cs : List Tree) (i j : ℕ) (c : Tree)
      (old new all : List Alignment) → j ≡ suc i → i < length cs → c ≡ get_or cs i c
      → new ≡ old ++ aligned above (if own i then parts_of_child l i c else []) → old ++ aligned above (own_parts_from own l i (drop i cs)) ≡ all
      → new ++ aligned above (own_parts_from own l j (drop j cs)) ≡ all
  aligned_own_step above own l cs i j c old new all n lt e g h =
      let ps = if own i then parts_of_child l i c else [] in
      ap (λ m. new ++ aligned above (own_parts_from own l m (drop m cs))) n
      ∙ ap (λ xs. xs ++ aligned above (own_parts_from own l (suc i) (drop (suc i) cs))) g
      ∙ append_assoc old (aligned above ps) (aligned above (own_parts_from own l (suc i) (drop (suc i) cs)))
      ∙ ap (λ xs. old ++ xs) (sym (ap (aligned above) (own_step own l cs i c lt e) ∙ aligned-append above ps (own_parts_from own l (suc i) (drop (suc i) cs))))
      ∙ h

  -- a child that is aligned, if it is asked for, and then the parts inside it
  pub aligned_whole : (above now : List ℕ) (l : Label) (i : ℕ) (c : Tree) (old part : List Alignment) (asked : Bool)
      → asked ≡ is_expression_part l i c → now ≡ above ++ i ∷ []
      → part ≡ old ++ (if asked then put_form now (form_at decls tokens types env p k c) else [])
      → part ++ aligned now (parts is_expression_part c) ≡ old ++ aligned above (parts_of_child l i c)
  aligned_whole above now l i c old part asked e n g =
      ap (λ xs. xs ++ aligned now (parts is_expression_part c)) g
      ∙ append_assoc old (if asked then put_form now (form_at decls tokens types env p k c) else []) (aligned now (parts is_expression_part c))
      ∙ ap (λ xs. old ++ xs)
      (ap₂ (λ b path. (if b then put_form path (form_at decls tokens types env p k c) else []) ++ aligned path (parts is_expression_part c)) e n
      ∙ sym (aligned-child above l i c))

  pub aligned_done : (above now : List ℕ) (l : Label) (i : ℕ) (c : Tree) (inner : Label) (cs : List Tree) (j : ℕ)
      (old part all : List Alignment) (asked : Bool) → length cs ≤ j
      → asked ≡ is_expression_part l i c → now ≡ above ++ i ∷ [] → part ≡ old ++ (if asked then put_form now (form_at decls tokens types env p k c) else [])
      → all ++ aligned now (kids_parts inner j (drop j cs)) ≡ part ++ aligned now (parts is_expression_part c)
      → all ≡ old ++ aligned above (parts_of_child l i c)
  aligned_done above now l i c inner cs j old part all asked le e n g h =
      let none : aligned now (kids_parts inner j (drop j cs)) ≡ [] = ap (λ ds. aligned now (kids_parts inner j ds)) (drop_past cs j le) in
      sym (append-nil all) ∙ ap (λ xs. all ++ xs) (sym none) ∙ h ∙ aligned_whole above now l i c old part asked e n g

  pub aligned_leaf : (above now : List ℕ) (l : Label) (i : ℕ) (c : Tree) (a : Token) (old part : List Alignment) (asked : Bool) → c ≡ Leaf a
      → asked ≡ is_expression_part l i c → now ≡ above ++ i ∷ [] → part ≡ old ++ (if asked then put_form now (form_at decls tokens types env p k c) else [])
      → part ≡ old ++ aligned above (parts_of_child l i c)
  aligned_leaf above now l i c a old part asked s e n g =
      let none : parts is_expression_part c ≡ [] = ap (parts is_expression_part) s ∙ parts-Leaf is_expression_part a in
      sym (append-nil part) ∙ ap (λ ps. part ++ aligned now ps) (sym none) ∙ aligned_whole above now l i c old part asked e n g
