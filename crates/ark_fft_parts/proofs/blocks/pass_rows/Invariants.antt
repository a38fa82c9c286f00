use Rattle.std.proofs.Common.{◌≡◌, ℕ, ◌+◌, ◌*◌, ◌<◌, length, map}
use Rattle.ark_math.specs.Domain.{radix2}
use Rattle.ark_fft.specs.Coset.{coset_domain}
use Rattle.ark_fft_parts.specs.Counting.{GrowsByTransforms}
use Rattle.ark_fft_parts.specs.Parts.{row, of_row}
use Rattle.ark_fft_parts.specs.Ways.{IsMade}
use Rattle.ark_fft_parts.proofs.blocks.pass_rows.Given as goal

abbrev pub invariant-loop-a : goal.invariant-loop-a
invariant-loop-a g l =
    let K = g.F.Field.field in
    let V = g.T.DomainCoeff.group in
    let m = g.T.DomainCoeff.meaning in
    let parts = l.passes.parts in
    record {
      len : length l.made.items ≡ l.a * l.columns;
      made : (k : ℕ) → k < l.a → IsMade K V l.passes.way (of_row K (coset_domain radix2 parts.whole) parts.column.size l.columns (l.first + k)) (row V l.columns (map m l.block) k) (row V l.columns (map m l.made.items) k);
      counted : GrowsByTransforms l.a l.columns l.fn.work l.work;
    }
