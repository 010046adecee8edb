use Rattle.std.proofs.Common.{sym, subst, List}
use Rattle.c_lexer.specs.Pieces.{TextPiece}
use Rattle.c_lexer.proofs.Once.{once}
use Rattle.c_file.specs.Reads.{Reads}
use Rattle.text_laws.proofs.ReadingLaws.OnePieces.{one_pieces}
use Rattle.text_laws.proofs.reading_laws.laws.readings_are_one.Goals as goal

pub returns-clause-pieces : goal.returns-clause-pieces
returns-clause-pieces c = λ left right cl cr text ids. one_pieces left right (once left right cl cr text) ids

pub returns-clause-items : goal.returns-clause-items
returns-clause-items c = λ left right a b cl cr text ids reads other.
    let same = one_pieces left right (once left right cl cr text) ids in
    c.read_once.ensures left a b reads (subst (λ (ps : List TextPiece). Reads ps b) (sym same) other)
