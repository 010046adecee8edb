use Rattle.std.proofs.Common.{subst, sym, List}
use Rattle.c_lexer.specs.Pieces.{TextPiece}
use Rattle.cpp_lines.specs.Shown.{AreShown}
use Rattle.c_file.specs.Reads.{Reads}
use Rattle.rule_chain.proofs.readings.read.Goals as goal

pub returns-clause-reads : goal.returns-clause-reads
returns-clause-reads c =
    subst (λ (p : List TextPiece). Reads p c.in_ok-file.file.items) (sym c.in_ok-file.ensures.pieces) c.in_ok-file.ensures.items

pub returns-clause-shown : goal.returns-clause-shown
returns-clause-shown c = λ reads.
    c.shown_once.ensures c.in_ok-file.file.pieces reads.0 c.in_ok-file.file.shown reads.1
    (subst (λ (p : List TextPiece). AreShown p c.in_ok-file.file.shown) (sym c.in_ok-file.ensures.pieces) c.in_ok-file.ensures.shown)
