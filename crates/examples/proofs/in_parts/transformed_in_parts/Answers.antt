use Rattle.std.proofs.Common.{◌≡◌, ℕ, ◌+◌, ◌*◌, ◌/◌, ◌%◌, ◌<◌, length, map, sym, ap, ap₂, subst, ◌∙◌, arith}
use Rattle.std.proofs.Math.Nat.{mul-div_cancel, mul-mod_left}
use Rattle.ark_math.specs.Domain.{radix2}
use Rattle.ark_math.specs.Transform.{transform}
use Rattle.ark_fft.specs.Coset.{coset_domain}
use Rattle.ark_fft_parts.specs.Parts.{across, column, of_row, row}
use Rattle.ark_fft_parts.proofs.Matrices.{across_columns}
use Rattle.examples.proofs.in_parts.transformed_in_parts.Goals as goal

pub rows-requires-clause-whole : goal.rows-requires-clause-whole
rows-requires-clause-whole g c =
    let t = c.args.parts.now in
    let len = ap length c.deref.ensures.value ∙ c.in_ok-made.ensures.size ∙ (c.requires ∙ t.size_is) in
    ap (λ k. k % t.row.size) len ∙ mul-mod_left t.column.size t.row.size

pub returns : goal.returns
returns g c = λ i j li lj.
    let K = g.F.Field.field in
    let V = g.T.DomainCoeff.group in
    let m = g.T.DomainCoeff.meaning in
    let t = c.args.parts.now in
    let d = coset_domain radix2 t.whole in
    let r = t.column.size in
    let n = t.row.size in
    let made = c.in_ok-made.made.items in
    let values = c.in_ok-values.values.items in
    let read = c.deref.ensures.value in
    let len : length c.deref.result.now ≡ r * n = ap length read ∙ c.in_ok-made.ensures.size ∙ (c.requires ∙ t.size_is) in
    let some : 0 < n = omega (arith, lj) in
    let count : length c.deref.result.now / n ≡ r = ap (λ k. k / n) len ∙ mul-div_cancel r some in
    let row_made = λ (a : ℕ) (l : a < r).
    let first : 0 + a ≡ a = omega arith in
    c.in_ok-values.ensures.rows a (subst (λ k. a < k) (sym count) l)
    ∙ ap₂ (λ k xs. transform K V (of_row K d r n k) xs) first (ap (λ xs. row V n (map m xs) a) read ∙ sym (across_columns V r n a (map m made) l)) in
    c.parts_make_the_transform.ensures (map m c.args.coeffs.now) (column V r n (map m made)) (row V n (map m values)) c.in_ok-made.ensures.columns row_made i j li lj
