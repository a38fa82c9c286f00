use Rattle.ark_math.specs.Domain.{radix2}
use Rattle.ark_fft.specs.Coset.{coset_domain}
use Rattle.ark_fft_parts.proofs.Domains.{order_of}
use Rattle.ark_fft_parts.proofs.Unmaking.{parts_make_the_inverse}
use Rattle.ark_fft_parts.proofs.laws.parts_make_the_inverse.Goals as goal

pub returns : goal.returns
returns g c =
    let K = g.F.Field.field in
    let N = g.met.F.Field.field_laws in
    let t = c.args.parts.now in
    let order = order_of K N g.F.FftField.adicity g.F.FftField.root g.met.F.FftField.roots_law t.whole.size t.whole.group_gen (t.whole.log_size_of_group, t.whole.odd_exponent, t.whole.splits) ((g.met.F.Field.equality_law _ _).0 t.whole.root_is) in
    λ values xs rows before len in_parts of_rows of_columns.
    parts_make_the_inverse N g.met.T.DomainCoeff.module_laws (coset_domain radix2 t.whole) t.column.size t.row.size values xs rows before t.size_is order.one in_parts of_rows of_columns len
