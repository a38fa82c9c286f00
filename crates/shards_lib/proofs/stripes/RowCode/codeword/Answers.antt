use Rattle.std.proofs.Common.{◌≡◌, length, map, arith, sym, ◌∙◌, ap, subst}
use Rattle.ark_math.specs.Module.{itself}
use Rattle.std.proofs.lemmas.List.{length-map}
use Rattle.ark_math_domains.proofs.Callers.Transforms.{transform-length}
use Rattle.ark_rows.specs.Lanewise.{lanewise}
use Rattle.ark_rows.specs.Row.{lanes}
use Rattle.rs_code.specs.Code.{CodeOver}
use Rattle.rs_code.specs.Codeword.{IsCodeword}
use Rattle.shards_lib.proofs.OnlyMemory.{only_memory}
use Rattle.shards_lib.proofs.stripes.RowCode.codeword.Goals as goal

pub refused-requires : goal.refused-requires
refused-requires g c =
    let code = c.requires.code in
    let kept = c.requires.kept in
    only_memory c.in-Err.error
    (λ e. c.restore.ensures.refused.wrong_length.0 (c.in-Err.is ∙ e) (c.requires.len ∙ ap (λ x. x.domain.size) (sym code)))
    (λ e. c.restore.ensures.never_too_many (c.in-Err.is ∙ e))
    (λ e. c.restore.ensures.refused.always (omega (arith, kept, ap (λ x. x.k) code, ap (λ x. x.domain.size) code)) (c.in-Err.is ∙ e))

pub returns-in-Ok-clause-codeword : goal.returns-in-Ok-clause-codeword
returns-in-Ok-clause-codeword g c =
    let K = g.F.Field.field in
    subst (λ (x : CodeOver _). IsCodeword K (lanewise (itself K)) x.domain x.k (map (lanes K) c.in-Ok.codeword.items)) c.requires.code c.in-Ok.ensures.codeword

pub returns-in-Ok-clause-len : goal.returns-in-Ok-clause-len
returns-in-Ok-clause-len g c =
    let K = g.F.Field.field in
    let is = returns-in-Ok-clause-codeword g c in
    sym (length-map c.in-Ok.codeword.items (lanes K)) ∙ ap length is.2 ∙ transform-length K (lanewise (itself K)) c.args.self.now.code.domain is.0
