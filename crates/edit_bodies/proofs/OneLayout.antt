-- Edits have one layout, or break bodies at one token.
use Rattle.std.proofs.Common.{◌≡◌, ◌≤◌, ℕ, sym, ap, subst, ◌∙◌, arith, List, [], ◌∷◌, length, map}
use Rattle.std.proofs.Math.Path.{transport}
use Rattle.std.specs.Prelude.{Contains, filter, nat_eq}
use Rattle.std.specs.Option.{option_map}
use Rattle.std.proofs.lemmas.List.{ext_get_or}
use Rattle.std.proofs.lemmas.List.Elements.{All-contains}
use Rattle.c_lexer.specs.Pieces.{TextPiece}
use Rattle.cpp_lines.specs.declared.reading.Item.{Item}
use Rattle.edit_marks.specs.declared.file_tokens.FileToken.{FileToken}
use Rattle.edit_marks.specs.declared.tidy.walk.TidiedEdits.{TidiedEdits}
use Rattle.edit_marks.specs.Tidy.Same.{AreSame}
use Rattle.edit_marks.specs.Tokens.{file_tokens}
use Rattle.edit_unparse.specs.declared.tidy.commas.CommaList.{CommaList}
use Rattle.edit_unparse.specs.declared.tidy.flags.Extent.{Extent}
use Rattle.edit_unparse.specs.declared.tidy.parts.Brace.{Brace}
use Rattle.edit_unparse.specs.declared.tidy.plan.Plan.{Plan}
use Rattle.edit_unparse.specs.Output.{is_removed}
use Rattle.edit_unparse.specs.Tidy.Made.{frame_of}
use Rattle.edit_unparse.specs.Tidy.Plans.{IsPlan}
use Rattle.edit_unparse.specs.Tidy.Spots.{brace_number}
use Rattle.edit_bodies.specs.declared.braces.Coming.{Coming}
use Rattle.edit_bodies.specs.declared.lay.TidyLayout.{TidyLayout}
use Rattle.edit_bodies.specs.Needs.{form_of}
use Rattle.edit_bodies.specs.Calm.{is_calm}
use Rattle.edit_bodies.specs.Gone.{extent_of, is_gone, outermost}
use Rattle.edit_bodies.specs.Looks.{Seen, see_all}
use Rattle.edit_bodies.specs.Laid.{AreBraces, AreDepths, AreReadings, AreSeen, AreWords, IsBroken, IsFrame, IsLaidOut}
use Rattle.edit_bodies.specs.Laid.{brace_of, comma_list, new_text, nothing_seen}
use Rattle.edit_bodies.proofs.KeyLemmas.{same_by_keys}
use Rattle.edit_bodies.proofs.OnePlan.{SayTheSame, plans_same}
use Rattle.edit_bodies.proofs.OneSeen.{HaveOneCut, HaveOneShown, HaveOneTree, one_seen}

-- ---- edits that are the same

module _ (pieces : List TextPiece) (items : List Item) (a b : TidiedEdits) (same : AreSame a b) (plan : Plan) where
  frame_moves : (gone : List Extent) (depths : List ℕ) (lists : List CommaList) → IsFrame pieces a plan gone depths lists
      → IsFrame pieces b plan gone depths lists
  frame_moves gone depths lists h = record {
    all_gone = h.all_gone
        ∙ (λ i. map (extent_of (same.leaves i)) (outermost (filter (is_gone (λ n. is_removed n (same.list i)) (same.leaves i)) (same.statements i))));
    are_depths = transport (λ i. AreDepths (length (same.list i)) (same.named i) depths) h.are_depths;
    are_lists = record {
      rise = h.are_lists.rise;
      same = λ n. h.are_lists.same n
          ∙ (λ i. filter (λ (l : CommaList). nat_eq l.opening n) (filter (is_calm pieces) (map (comma_list (same.leaves i)) (same.lists i))));
    };
    planned = transport (λ i. IsPlan pieces (same.list i) gone depths plan) h.planned;
  }

  seen_moves : (lists : List CommaList) (s : Seen) → AreSeen pieces items a plan lists s → AreSeen pieces items b plan lists s
  seen_moves lists s h = record {
    words = h.words;
    are_words = transport (λ i. AreWords pieces (same.list i) plan lists h.words) h.are_words;
    readings = h.readings;
    read = transport (λ i. AreReadings (new_text pieces (same.list i) plan lists h.words) (same.leaves i) (same.named i) items (same.bodies i)
        h.readings nothing_seen) h.read;
    seen_so = h.seen_so ∙ (λ i. see_all (new_text pieces (same.list i) plan lists h.words) (same.leaves i) (same.named i) (same.bodies i)
        (map (option_map form_of) h.readings) nothing_seen);
  }

-- ---- two frames of the same edits

pub record AreOneFrame (edits : TidiedEdits) (p q : Plan) (gone extents : List Extent) (depths numbers : List ℕ) (lists others : List CommaList) : Type 0 where
  pub gone_same : gone ≡ extents
  pub depths_same : depths ≡ numbers
  pub lists_same : lists ≡ others
  pub plans : SayTheSame edits.list p q

one_frame : (pieces : List TextPiece) (edits : TidiedEdits) (p q : Plan) (gone extents : List Extent) (depths numbers : List ℕ)
    (lists others : List CommaList) → IsFrame pieces edits p gone depths lists → IsFrame pieces edits q extents numbers others
    → AreOneFrame edits p q gone extents depths numbers lists others
one_frame pieces edits p q gone extents depths numbers lists others one two =
    let gone_same : gone ≡ extents = one.all_gone ∙ sym two.all_gone in
    let long = one.are_depths.long in
    let depths_same : depths ≡ numbers = ext_get_or 0 depths numbers (long ∙ sym two.are_depths.long) (λ n less.
    one.are_depths.each n (omega (arith, long, less)) ∙ sym (two.are_depths.each n (omega (arith, long, less)))) in
    record {
      gone_same = gone_same;
      depths_same = depths_same;
      lists_same = same_by_keys (λ (l : CommaList). l.opening) lists others one.are_lists.rise two.are_lists.rise
          (λ n. one.are_lists.same n ∙ sym (two.are_lists.same n));
      plans = plans_same pieces edits.list extents numbers p q (transport (λ i. IsPlan pieces edits.list (gone_same i) (depths_same i) p) one.planned)
          two.planned;
    }

one_braces : (files : List FileToken) (coming more : List Coming) (a b : List Brace) → coming ≡ more → AreBraces files coming a → AreBraces files more b → a ≡ b
one_braces files coming more a b same one two =
    same_by_keys brace_number a b one.rise two.rise (λ n. one.same n
    ∙ (λ i. filter (λ (x : Brace). nat_eq (brace_number x) n) (map (brace_of files) (same i)))
    ∙ sym (two.same n))

-- ---- layouts

module _ (one_cut : HaveOneCut) (one_shown : HaveOneShown) (one_tree : HaveOneTree) (pieces : List TextPiece) (items : List Item) (made same : TidiedEdits)
    (are : AreSame made same) where
  -- what frames of the same edits say, and what becomes of their bodies
  record AreOne (p q : Plan) (gone extents : List Extent) (depths numbers : List ℕ) (lists others : List CommaList) (a b : Seen) : Type 0 where
    frames : AreOneFrame same p q gone extents depths numbers lists others
    seen : a ≡ b

  are_one : (p q : Plan) (gone extents : List Extent) (depths numbers : List ℕ) (lists others : List CommaList) (a b : Seen)
      → IsFrame pieces made p gone depths lists → IsFrame pieces same q extents numbers others
      → AreSeen pieces items made p lists a → AreSeen pieces items same q others b
      → AreOne p q gone extents depths numbers lists others a b
  are_one p q gone extents depths numbers lists others a b one two seen sight =
      let frames = one_frame pieces same p q gone extents depths numbers lists others (frame_moves pieces items made same are p gone depths lists one) two in
      let moved : AreSeen pieces items same p others a =
      subst (λ (ls : List CommaList). AreSeen pieces items same p ls a) frames.lists_same (seen_moves pieces items made same are p lists a seen) in
      record { frames = frames; seen = one_seen one_cut one_shown one_tree pieces items same p q others a b frames.plans moved sight }

  pub one_layout : (a b : TidyLayout) → IsLaidOut pieces items made a → IsLaidOut pieces items same b → frame_of a.layout ≡ frame_of b.layout
  one_layout a b one two =
      let both = are_one a.plan b.plan a.layout.gone.items b.layout.gone.items a.layout.depths.items b.layout.depths.items a.layout.lists.items
      b.layout.lists.items one.seen two.seen one.frame two.frame one.are_seen two.are_seen in
      let braces = one_braces (file_tokens pieces) one.seen.braces two.seen.braces a.layout.braces.items b.layout.braces.items
      (ap (λ (s : Seen). s.braces) both.seen) one.braced two.braced in
      λ i. record {
        gone = both.frames.gone_same i;
        depths = both.frames.depths_same i;
        lists = both.frames.lists_same i;
        braces = braces i;
      }

  none_within : (tokens : List ℕ) (n : ℕ) → tokens ≡ [] → Contains tokens n → ⊥
  none_within [] n e among = let less = among.1 in omega (arith, less)
  none_within (t ∷ tokens) n e among = absurd cc

  pub laid_or_broken : (a : TidyLayout) (token : ℕ) → IsLaidOut pieces items made a → IsBroken pieces items same token → ⊥
  laid_or_broken a token one two =
      let both = are_one a.plan two.plan a.layout.gone.items two.gone a.layout.depths.items two.depths a.layout.lists.items two.lists one.seen two.seen
      one.frame two.frame one.are_seen two.are_seen in
      none_within two.seen.broken token (sym (ap (λ (s : Seen). s.broken) both.seen) ∙ one.whole) two.among

  pub one_break : (m n : ℕ) → IsBroken pieces items made m → IsBroken pieces items same n → m ≡ n
  one_break m n one two =
      let both = are_one one.plan two.plan one.gone two.gone one.depths two.depths one.lists two.lists one.seen two.seen
      one.frame two.frame one.are_seen two.are_seen in
      let broken : one.seen.broken ≡ two.seen.broken = ap (λ (s : Seen). s.broken) both.seen in
      let low : m ≤ n = All-contains (λ k. m ≤ k) one.seen.broken n one.least (subst (λ (l : List ℕ). Contains l n) (sym broken) two.among) in
      let high : n ≤ m = All-contains (λ k. n ≤ k) two.seen.broken m two.least (subst (λ (l : List ℕ). Contains l m) broken one.among) in
      omega (arith, low, high)
