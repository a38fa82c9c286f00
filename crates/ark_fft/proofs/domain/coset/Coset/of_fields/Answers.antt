use Rattle.std.proofs.Common.{◌≡◌, sym, ap, ◌∙◌}
use Rattle.std.proofs.lemmas.Bool.{false≢true}
use Rattle.ark_fft.specs.LayoutLaws.{offset_of, fields_decide, one_kept}
use Rattle.ark_fft.specs.CosetBytes.{all_fields}
use Rattle.ark_fft.proofs.domain.coset.Coset.of_fields.Goals as goal

pub returns-then-eq : goal.returns-then-eq
returns-then-eq g c =
    let decides = fields_decide g.F.PartialEq.eq g.met.F.Field.equality_law c.fields.result c.args.fields.now in
    sym c.fields.ensures ∙ decides.0 (sym c.eq.ensures ∙ c.if-eq.true)

pub returns-else-eq : goal.returns-else-eq
returns-else-eq g c = λ y is.
    let x = c.in_ok-coset.coset in
    let law = g.met.F.Field.equality_law in
    let fields = c.args.fields.now in
    let decides = fields_decide g.F.PartialEq.eq law c.fields.result fields in
    let size : x.size ≡ y.size = c.in_ok-coset.ensures.size ∙ sym (ap (λ v. v.0.0) is) in
    let offset : x.offset ≡ y.offset = c.in_ok-coset.ensures.offset ∙ sym (ap offset_of is) in
    let same = one_kept g.F.Field.field g.met.F.Field.field_laws g.F.FftField.adicity g.F.FftField.root g.F.PartialEq.eq g.met.F.FftField.roots_law.base law
    (all_fields x) (all_fields y) x.odd_exponent y.odd_exponent
    (record {
      splits = x.splits;
      size_element_is = x.size_element_is;
      size_inverse_is = x.size_inverse_is;
      root_is = x.root_is;
      root_inverse_is = x.root_inverse_is;
      offset_inverse_is = x.offset_inverse_is;
      offset_power_is = x.offset_power_is;
    })
    (record {
      splits = y.splits;
      size_element_is = y.size_element_is;
      size_inverse_is = y.size_inverse_is;
      root_is = y.root_is;
      root_inverse_is = y.root_inverse_is;
      offset_inverse_is = y.offset_inverse_is;
      offset_power_is = y.offset_power_is;
    })
    size offset in
    false≢true (sym c.if-eq.false ∙ c.eq.ensures ∙ decides.1 (c.fields.ensures ∙ same ∙ is))
