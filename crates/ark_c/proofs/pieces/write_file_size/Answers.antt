use Rattle.std.proofs.Common.{◌≡◌, Err, inl, inr, rules, sym, ◌∙◌}
use Rattle.ark_c.proofs.OfPieces.{error_is, not_memory}
use Rattle.ark_c.proofs.pieces.write_file_size.Goals as goal

pub returns-in_err-trailer-clause-not_pieces : goal.returns-in_err-trailer-clause-not_pieces
returns-in_err-trailer-clause-not_pieces c = λ same digests m trailer.
    let error = c.in_err-trailer.field-0.0 in
    let is : c.from_residual.result ≡ Err error = search rules in
    elim c.in_err-trailer.ensures.errors [
      | inl memory ↦ not_memory (error_is (sym same ∙ is) ∙ memory)
      | inr none ↦ none.1 digests m trailer
    ]
