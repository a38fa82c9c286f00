use Rattle.std.proofs.Common.{◌≡◌, Err, rules}
use Rattle.shards_buffers.specs.declared.error.BufferError.TheVariants.{Length}
use Rattle.ark_c.proofs.pieces.split_by.Goals as goal

pub returns-in_err-code-clause-length : goal.returns-in_err-code-clause-length
returns-in_err-code-clause-length g c =
    let error = c.in_err-code.field-0.0 in
    let is : c.from_residual.result ≡ Err error = search rules in
    let known : error ≡ Length = c.in_err-code.ensures.none.0 in
    ((λ same both. c.in_err-code.ensures.none.1 both.0), (λ no. search rules))
