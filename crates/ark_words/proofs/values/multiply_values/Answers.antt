use Rattle.std.proofs.Common.{◌≡◌, ◌↔◌, ◌*◌, ◌/◌, ◌%◌, ◌<◌, All, Err, length, map, ap, ap₂, sym, subst, ◌∙◌, rules}
use Rattle.ark_math.specs.Univariate.{of_list}
use Rattle.ark_words.specs.declared.error.WordsError.TheVariants.{Memory, NotReduced}
use Rattle.ark_words.specs.Numbers.{BothReduced}
use Rattle.ark_words.specs.Values.{FitPairs, AreProducts}
use Rattle.ark_numbers.proofs.Values.{number_field, number_carries}
use Rattle.ark_words.proofs.Refusals.{numbers_told}
use Rattle.ark_words.proofs.WordLists.{length_read, number_of_item, numbers_below, whole_words}
use Rattle.ark_words.proofs.values.multiply_values.Goals as goal

pub products-requires : goal.products-requires
products-requires g c =
    let width = g.F.WordElement.WIDTH in
    let number = g.F.PrimeNumbers.numbering.number in
    let read = c.in_ok-items.ensures in
    ap length c.deref.ensures.value ∙ length_read number width c.in_ok-items.factors.items c.args.others.now read.right
    ∙ ap (λ n. n / width) c.if-others-values.false ∙ sym (length_read number width c.in_ok-items.items.items c.args.values.now read.left)

pub put-requires : goal.put-requires
put-requires g c =
    let width = g.F.WordElement.WIDTH in
    let number = g.F.PrimeNumbers.numbering.number in
    let whole = rw c.WIDTH.ensures at c.if-values-WIDTH-ne0.false in
    whole_words width (length c.deref-2.result.now) c.args.values.now whole
    (ap length c.deref-2.ensures.value ∙ c.products.ensures.len ∙ length_read number width c.in_ok-items.items.items c.args.values.now c.in_ok-items.ensures.left)

pub returns-clause-products : goal.returns-clause-products
returns-clause-products g c =
    let F = g.F.PrimeNumbers in
    let laws = g.met.F.PrimeNumbers in
    let S = number_field F.numbering F.prime laws.field_law laws.generator_law laws.root_law g.met.F.FftField.roots_law in
    let K = g.F.Field.field in
    let width = g.F.WordElement.WIDTH in
    let number = F.numbering.number in
    let read = c.in_ok-items.ensures in
    let C = number_carries S in
    subst (λ f. AreProducts f c.args.values.now c.args.others.now c.put.new.words) (sym g.met.F.WordElement.spelled_law)
    (λ i l.
    let others : i < length c.args.others.now / width = subst (λ n. i < n / width) (sym c.if-others-values.false) l in
    let same : i < length c.put.new.words / width = subst (λ n. i < n / width) (sym c.put.auto.words) l in
    number_of_item K number width c.products.result.items c.put.new.words i (sym (c.put.ensures ∙ ap (map number) c.deref-2.ensures.value)) C.zero_kept same
    ∙ ap number (c.products.ensures.products i) ∙ C.times_kept _ _
    ∙ ap₂ (λ x y. (x * y) % F.modulus) (sym (number_of_item K number width c.in_ok-items.items.items c.args.values.now i read.left C.zero_kept l))
    (ap (λ ys. number (of_list K ys i)) c.deref.ensures.value ∙ sym (number_of_item K number width c.in_ok-items.factors.items c.args.others.now i read.right C.zero_kept others)))

pub returns-clause-taken : goal.returns-clause-taken
returns-clause-taken g c =
    let F = g.F.PrimeNumbers in
    let P = All (λ x. x < F.modulus) in
    let read = c.in_ok-items.ensures in
    let whole = rw c.WIDTH.ensures at c.if-values-WIDTH-ne0.false in
    subst (λ f. FitPairs f c.args.values.now c.args.others.now × BothReduced f c.args.values.now c.args.others.now) (sym g.met.F.WordElement.spelled_law)
    ((whole, c.if-others-values.false), (subst P read.left (numbers_below F.numbering c.in_ok-items.items.items), subst P read.right (numbers_below F.numbering c.in_ok-items.factors.items)))

pub returns-clause-not_reduced : goal.returns-clause-not_reduced
returns-clause-not_reduced g c =
    let F = g.F.PrimeNumbers in
    let P = All (λ x. x < F.modulus) in
    let read = c.in_ok-items.ensures in
    let reduced = subst (λ f. BothReduced f c.args.values.now c.args.others.now) (sym g.met.F.WordElement.spelled_law)
    (subst P read.left (numbers_below F.numbering c.in_ok-items.items.items), subst P read.right (numbers_below F.numbering c.in_ok-items.factors.items)) in
    ((λ e. absurd (search rules)), (λ h. absurd (h.1 reduced)))

pub returns-in_err-items-clause-not_reduced : goal.returns-in_err-items-clause-not_reduced
returns-in_err-items-clause-not_reduced g c =
    let whole = rw c.WIDTH.ensures at c.if-values-WIDTH-ne0.false in
    subst (λ f. (c.from_residual.result ≡ Err NotReduced) ↔ (FitPairs f c.args.values.now c.args.others.now × (¬ BothReduced f c.args.values.now c.args.others.now))) (sym g.met.F.WordElement.spelled_law)
    (numbers_told _ _ c.from_residual.result c.in_err-items.field-0.0 Memory (λ e. search rules) (whole, c.if-others-values.false)
    c.from_residual.ensures.1 c.in_err-items.ensures.refusal)
