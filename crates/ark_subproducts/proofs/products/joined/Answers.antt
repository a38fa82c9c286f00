use Rattle.std.proofs.Common.{◌≡◌, ◌+◌, length, sym, ap, ap₂, subst, subst₂, ◌∙◌, arith}
use Rattle.ark_bit_reversed.specs.Blocks.{AreValuesFrom, element_of}
use Rattle.ark_bit_reversed.proofs.Callers.Runs.{values-product}
use Rattle.ark_math.specs.Univariate.{of_list, product}
use Rattle.ark_math.proofs.Lists.Lists.{written_back}
use Rattle.ark_subproducts.proofs.TableProducts.{begun_by}
use Rattle.ark_subproducts.proofs.products.joined.Goals as goal

pub returns : goal.returns
returns g c =
    let K = g.F.Field.field in
    let x = element_of K c.args.table.now in
    let count = c.args.count in
    let a = of_list K c.args.low.0.items in
    let b = of_list K c.args.high.0.items in
    let values = c.in_ok-values.values.items in
    let others = c.in_ok-others.others.items in
    let all = c.multiply_each.new.items in
    let coeffs = c.in_ok-coeffs.coeffs.items in
    let V : AreValuesFrom K x 0 count a values = subst (λ s. AreValuesFrom K x 0 count (of_list K s) values) c.deref.ensures.value c.in_ok-values.ensures.values in
    let W : AreValuesFrom K x 0 count b others = subst (λ s. AreValuesFrom K x 0 count (of_list K s) others) c.deref-2.ensures.value c.in_ok-others.ensures.values in
    let same = c.as_mut_slice.ensures.value in
    let len : length all ≡ count = c.multiply_each.auto.items ∙ ap length same ∙ V.len in
    let whole : AreValuesFrom K x 0 count (product K a b) all = values-product K g.met.F.Field.field_laws x 0 count a b values others all V W len
    (λ i l.
    c.multiply_each.ensures i
    ∙ ap₂ (λ s t. K.times (of_list K s i) (of_list K t i)) same c.deref-3.ensures.value) in
    let back = written_back all _ c.in_ok-values.values.len (omega (arith, c.multiply_each.auto.items, c.as_mut_slice.ensures.len)) in
    let given = c.deref-4.ensures.value ∙ back in
    let low = c.deref-5.ensures.value in
    let high = c.deref-6.ensures.value in
    let factors = ap₂ (λ s t. product K (of_list K s) (of_list K t)) low high in
    let product_is : of_list K coeffs ≡ product K a b =
    c.in_ok-coeffs.ensures.product
    (subst₂ (λ p v. AreValuesFrom K x 0 (length v) p v) (sym factors) (sym given) (subst (λ m. AreValuesFrom K x 0 m (product K a b) all) (sym len) whole))
    ∙ factors in
    let sizes = c.in_ok-coeffs.ensures.len ∙ ap₂ (λ s t. length s + length t) low high in
    let own = subst₂ (λ p v. AreValuesFrom K x 0 count p v) (sym product_is) (sym back) whole in
    record {
      product = product_is;
      len = sizes;
      begun = λ n l. begun_by K c.args.table.now coeffs _ count n c.requires.power l (omega (arith, sizes, c.requires.room)) own;
    }
