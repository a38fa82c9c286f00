use Rattle.std.proofs.Common.{◌≡◌, ◌<◌, ◌∙◌, sym, ap}
use Rattle.ark_math.specs.Field.{power}
use Rattle.ark_math.specs.Root.{IsSupported}
use Rattle.ark_math.proofs.Roots.Order.{root_not_zero}
use Rattle.ark_math.proofs.Algebra.NonZero.{positive}
use Rattle.ark_math.proofs.Algebra.Powers.{power-one}
use Rattle.ark_math.proofs.Outcomes.Tests.{refuted}
use Rattle.std.proofs.lemmas.Bool.{true_from_ne_false}
use Rattle.ark_fft.proofs.domain.coset.Coset.of_root.Goals as goal

pub unwrap-requires-2 : goal.unwrap-requires-2
unwrap-requires-2 g c =
    let K = g.F.Field.field in
    let N = g.met.F.Field.field_laws in
    let roots = g.met.F.FftField.roots_law in
    let n = c.args.size in
    let supported : IsSupported g.F.FftField.adicity n = (c.args.log_size_of_group, c.args.odd_exponent, c.requires.splits) in
    let some : 0 < n = positive K N n (roots.invertible n supported) in
    true_from_ne_false _ (λ none. root_not_zero K N (g.F.FftField.root n) n (roots.order n supported) some (sym c.requires.root ∙ c.inverse-2.ensures.none.0 none))

pub invariant_of-result : goal.invariant_of-result
invariant_of-result g c =
    let K = g.F.Field.field in
    let N = g.met.F.Field.field_laws in
    let n = c.args.size in
    let same = λ (x y : g.row.F.Denot) (e : x ≡ y). (g.met.F.Field.equality_law x y).1 e in
    let one : (x : g.row.F.Denot) → x ≡ g.F.One.one → x ≡ K.one = λ x e. e ∙ g.met.F.Field.one_law in
    let a = one c.one.result c.one.ensures in
    let b = one c.one-2.result c.one-2.ensures in
    let d = one c.one-3.result c.one-3.ensures in
    record {
      splits = c.requires.splits;
      size_element_is = same _ _ (g.met.F.Field.from_law n _ c.requires.splits.fits c.from-size_as_field_element.ensures);
      size_inverse_is = same _ _ (rw c.unwrap.ensures at c.inverse.ensures.some);
      root_is = same _ _ c.requires.root;
      root_inverse_is = same _ _ (rw c.unwrap-2.ensures at c.inverse-2.ensures.some);
      offset_not_zero = refuted (g.met.F.Field.equality_law _ _) (λ e. N.one_not_zero (sym a ∙ e));
      offset_inverse_is = same _ _ (ap (λ x. K.times x c.one-2.result) a ∙ ap (K.times K.one) b ∙ N.times_one K.one);
      offset_power_is = same _ _ (d ∙ sym (power-one K N n) ∙ ap (λ x. power K x n) (sym a));
    }
