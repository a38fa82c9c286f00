use Rattle.std.proofs.Common.{◌≡◌, ℕ, ◌<◌, length, map}
use Rattle.ark_math.specs.Domain.{radix2}
use Rattle.ark_fft.specs.Coset.{coset_domain}
use Rattle.ark_fft_parts.specs.Counting.{GrowsByTransforms}
use Rattle.ark_fft_parts.specs.Parts.{column}
use Rattle.ark_fft_parts.specs.Ways.{IsMade}
use Rattle.ark_fft_parts.proofs.blocks.pass_columns.Given as goal

abbrev pub invariant-loop-j : goal.invariant-loop-j
invariant-loop-j g l =
    let V = g.T.DomainCoeff.group in
    let m = g.T.DomainCoeff.meaning in
    record {
      len : length l.made.items ≡ length l.block;
      made : (k : ℕ) → k < l.j → IsMade g.F.Field.field V l.passes.way (coset_domain radix2 l.domain) (column V l.domain.size l.count (map m l.block) k) (column V l.domain.size l.count (map m l.made.items) k);
      counted : GrowsByTransforms l.j l.domain.size l.fn.work l.work;
    }
