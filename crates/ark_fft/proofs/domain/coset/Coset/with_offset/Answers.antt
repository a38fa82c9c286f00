use Rattle.std.proofs.Common.{◌≡◌, ◌∙◌, sym, ap}
use Rattle.ark_math.proofs.Algebra.Powers.{times_zero}
use Rattle.ark_math.proofs.Outcomes.Tests.{refuted}
use Rattle.ark_fft.proofs.domain.coset.Coset.with_offset.Goals as goal

pub invariant_of-result : goal.invariant_of-result
invariant_of-result g c =
    let K = g.F.Field.field in
    let N = g.met.F.Field.field_laws in
    let s = c.args.self.now in
    let same = λ (x y : g.row.F.Denot) (e : x ≡ y). (g.met.F.Field.equality_law x y).1 e in
    let inverse : K.times c.args.offset c.in_ok-offset_inv.offset_inv ≡ K.one = c.in_ok-offset_inv.ensures.some in
    record {
      splits = s.splits;
      size_element_is = s.size_element_is;
      size_inverse_is = s.size_inverse_is;
      root_is = s.root_is;
      root_inverse_is = s.root_inverse_is;
      offset_not_zero = refuted (g.met.F.Field.equality_law _ _)
          (λ z. N.one_not_zero (sym inverse ∙ ap (λ x. K.times x c.in_ok-offset_inv.offset_inv) z ∙ N.times_comm K.zero _ ∙ times_zero K N _));
      offset_inverse_is = same _ _ inverse;
      offset_power_is = same _ _ c.pow.ensures;
    }
