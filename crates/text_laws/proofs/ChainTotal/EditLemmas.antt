-- The witnesses of a rule have edits, each of which fits the text.
use Rattle.std.proofs.Common.{refl, List, [], ◌∷◌, length}
use Rattle.std.specs.Prelude.{All}
use Rattle.std.specs.List.{AllZip}
use Rattle.std.proofs.lemmas.List.Elements.{All-nil, All-cons}
use Rattle.c_lexer.specs.Pieces.{TextPiece}
use Rattle.c_lexer.specs.Ids.{ids_of}
use Rattle.cpp_lines.specs.declared.reading.Item.{Item}
use Rattle.edit_marks.specs.declared.edit_walk.nodes.ItemNodes.{ItemNodes}
use Rattle.smpl_patch.specs.declared.pattern.VarDecl.{VarDecl}
use Rattle.smpl_patch.specs.declared.pattern.PatToken.{PatToken}
use Rattle.smpl_patch.specs.declared.rule.Rule.{Rule}
use Rattle.smpl_patch.specs.declared.witness.RuleWitness.{RuleWitness}
use Rattle.smpl_patch.specs.Bodies.{body}
use Rattle.smpl_patch.specs.Shapes.{patterns_body}
use Rattle.edit_marks.specs.declared.edit_conflict.edit.Edit.{Edit}
use Rattle.edit_marks.specs.EditConflict.Once.{once}
use Rattle.edit_marks.specs.declared.removals.Aligned.{Aligned}
use Rattle.edit_marks.specs.declared.file_tokens.FileToken.{FileToken}
use Rattle.edit_marks.specs.Blocks.{Environment}
use Rattle.edit_marks.specs.Removals.{minus_tokens}
use Rattle.edit_marks.specs.Spots.{all_spots}
use Rattle.edit_marks.specs.Edits.{inserts_at, EditOf}
use Rattle.edit_marks.specs.Tokens.{file_tokens}
use Rattle.edit_marks.specs.EditWalk.Touches.{Touched, touches}
use Rattle.edit_marks.specs.EditWalk.Named.{alignment, pairs_at}
use Rattle.edit_marks.specs.EditWalk.Edited.{IsEditAt, AreEdits}
use Rattle.edit_marks.specs.EditWalk.Fit.{FitsText}
use Rattle.edit_marks.proofs.EditWalk.FitLemmas.{edit_fits, once_all}
use Rattle.text_laws.proofs.ChainTotal.NumberLemmas as numbers
use Rattle.text_laws.proofs.ChainTotal.SpotLemmas as spots

edit_some : (decls : List VarDecl) (tokens : List PatToken) (env : Environment) (files : List FileToken) (pairs : List Aligned)
    → (edit : Edit) × EditOf decls tokens env files pairs edit
edit_some decls tokens env files pairs =
    let removed = numbers.in_order (minus_tokens tokens pairs) in
    let places = spots.in_order (all_spots tokens pairs) in (
      record { removed = removed.out; inserts = inserts_at decls tokens env files removed.out places.out },
      record {
        rise = removed.rise;
        removed = removed.same;
        spots = places.out;
        all = places.all;
        sorted = places.sorted_are;
        inserts = refl;
      },
    )

module _ (rule : Rule) (items : List Item) (nodes : List ItemNodes) (pieces : List TextPiece) where
  abbrev Fits : Edit → Type 0
  Fits = FitsText (length (ids_of pieces))

  record Each (ts : List Touched) : Type 0 where
    edits : List Edit
    are : AllZip (IsEditAt rule items nodes pieces) ts edits
    fit : All Fits edits

  touch_some : (t : Touched) → (edit : Edit) × (IsEditAt rule items nodes pieces t edit × Fits edit)
  touch_some t =
      let patterns = patterns_body (body rule.body) in
      let found = alignment patterns rule.vars rule.tokens items nodes (ids_of pieces) t in
      let one = edit_some rule.vars rule.tokens t.env (file_tokens pieces) (pairs_at patterns rule.vars rule.tokens items nodes (ids_of pieces) t) in
      (one.0, (one.1, edit_fits rule.vars rule.tokens t.env pieces found one.0 one.1))

  each_some : (ts : List Touched) → Each ts
  each_some [] = record { edits = []; are = tt; fit = All-nil Fits }
  each_some (t ∷ ts) =
      let one = touch_some t in
      let rest = each_some ts in
      record { edits = one.0 ∷ rest.edits; are = (one.1.0, rest.are); fit = All-cons Fits one.0 rest.edits one.1.1 rest.fit }

  -- the edits of witnesses, each of which fits the text
  pub record Edited (found : List RuleWitness) : Type 0 where
    pub edits : List Edit
    pub are : AreEdits found rule items nodes pieces edits
    pub fit : All Fits edits

  pub edits_some : (found : List RuleWitness) → Edited found
  edits_some found =
      let each = each_some (touches found) in
      record {
        edits = once each.edits;
        are = record { all = each.edits; each = each.are; distinct = refl };
        fit = once_all Fits each.edits each.fit;
      }
