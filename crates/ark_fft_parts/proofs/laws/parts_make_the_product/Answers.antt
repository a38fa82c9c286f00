use Rattle.std.proofs.lemmas.Bool.Decides.{not_from_Decides}
use Rattle.ark_math.specs.Domain.{radix2}
use Rattle.ark_fft.specs.Coset.{coset_domain}
use Rattle.ark_fft_parts.proofs.Domains.{order_of}
use Rattle.ark_fft_parts.proofs.Products.{parts_make_the_product}
use Rattle.ark_fft_parts.proofs.laws.parts_make_the_product.Goals as goal

pub returns : goal.returns
returns g c =
    let K = g.F.Field.field in
    let N = g.met.F.Field.field_laws in
    let law = g.met.F.Field.equality_law in
    let t = c.args.parts.now in
    let order = order_of K N g.F.FftField.adicity g.F.FftField.root g.met.F.FftField.roots_law t.whole.size t.whole.group_gen (t.whole.log_size_of_group, t.whole.odd_exponent, t.whole.splits) ((law _ _).0 t.whole.root_is) in
    λ a b x p q rows before short_a short_b len below of_a of_b products of_rows of_columns.
    parts_make_the_product N (coset_domain radix2 t.whole) t.column.size t.row.size a b x p q rows before order (not_from_Decides _ (law _ _) t.whole.offset_not_zero) t.size_is short_a short_b len below of_a of_b products of_rows of_columns
