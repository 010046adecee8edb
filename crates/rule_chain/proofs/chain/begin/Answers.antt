use Rattle.std.proofs.Common.{◌≡◌, ◌++◌, ◌∙◌, refl, ap, sym, subst, length, map, List}
use Rattle.c_lexer.specs.Pieces.{TextPiece, text_of}
use Rattle.c_lexer.specs.Ids.{ids_of}
use Rattle.c_lexer.specs.Lexes.{Lexes}
use Rattle.rule_envs.specs.Shares.{bare_file_env}
use Rattle.rule_chain.specs.RuleWitnesses.Bare.{bare_witness}
use Rattle.rule_chain.specs.declared.rule_run.state.SkipNote.{SkipNote}
use Rattle.rule_chain.specs.Stops.{told_first}
use Rattle.rule_chain.proofs.StepLemmas.{first_told}
use Rattle.rule_chain.proofs.chain.begin.Goals as goal

pub returns-clause-cut : goal.returns-clause-cut
returns-clause-cut c =
    subst (λ (p : List TextPiece). Lexes c.args.bytes.items p) (sym c.in_ok-file.ensures.pieces)
    (subst (λ (b : List _). Lexes b c.in_ok-lexed.lexed) c.as_slice.ensures.value c.in_ok-lexed.ensures)

pub returns-clause-reads : goal.returns-clause-reads
returns-clause-reads c = c.in_ok-file.ensures.reads

pub returns-clause-at : goal.returns-clause-at
returns-clause-at c = λ reads.
    let pieces = c.in_ok-file.ensures.pieces in
    let file = c.in_ok-file.file in
    let loaded : length (ids_of file.pieces) ≡ c.token_count-next.result =
    ap (λ (p : List TextPiece). length (ids_of p)) pieces ∙ sym c.token_count-next.ensures.count in
    let lexes : Lexes c.args.bytes.items c.in_ok-lexed.lexed =
    subst (λ (b : List _). Lexes b c.in_ok-lexed.lexed) c.as_slice.ensures.value c.in_ok-lexed.ensures in
    record {
      findings = record {
        seen = record {
          had_is = sym c.new-2.ensures;
          file_envs_is = sym (ap (map bare_file_env) c.in_ok-first_file_envs.ensures.file_envs);
        };
        found_is = ap (map bare_witness) (sym c.new-3.ensures);
      };
      at = record {
        page = ap (λ n. record { bytes = text_of c.in_ok-file.file.pieces; ids = ids_of c.in_ok-file.file.pieces; next = n })
            loaded;
        pieces = refl;
        items = refl;
      };
      bytes = sym lexes.0 ∙ ap text_of (sym pieces);
      reading = refl;
      loaded = loaded;
      skipped = first_told c.args.unread file.pieces reads.0 file.items
          ∙ (λ i. told_first c.args.unread (loaded i) 0 (record { pieces = file.pieces; shown = c.in_ok-file.ensures.shown reads i; items = file.items }))
          ∙ sym (c.in_ok-skipped.ensures
          ∙ ap (λ (x : List SkipNote). x ++ told_first c.args.unread c.token_count-next.result 0 file) c.new.ensures);
      shown = c.in_ok-file.ensures.shown reads;
      none_ran = refl;
    }
