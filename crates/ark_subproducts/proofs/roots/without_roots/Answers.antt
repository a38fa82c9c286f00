use Rattle.std.proofs.Common.{◌≡◌, ℕ, ◌<◌, length, sym, ap, subst, subst₂, ◌∙◌, arith}
use Rattle.ark_math.specs.Univariate.{of_list}
use Rattle.ark_math.proofs.Lists.Lists.{written_back}
use Rattle.ark_subproducts.specs.Steps.{AreOffRoots, ArePowers, IsOffRoot}
use Rattle.ark_subproducts.proofs.RootPlaces.{are_off_roots, powers_off_roots}
use Rattle.ark_subproducts.proofs.roots.without_roots.Goals as goal

pub returns : goal.returns
returns g c =
    let K = g.F.Field.field in
    let N = g.met.F.Field.field_laws in
    let points = c.args.points.now in
    let old = c.args.powers.items in
    let first : c.as_mut_slice.result.now ≡ points = c.as_mut_slice.ensures.value ∙ c.in_ok-others.ensures.items in
    let second = c.as_mut_slice-2.ensures.value in
    let others = c.take_out_roots.new.points in
    let new = c.take_out_roots.new.powers in
    let len : length others ≡ length points = c.take_out_roots.ensures.points ∙ ap length first in
    let more : length new ≡ length others = c.take_out_roots.ensures.powers ∙ sym c.take_out_roots.ensures.points in
    let back = written_back others _ _ (omega (arith, c.take_out_roots.ensures.points, c.as_mut_slice.ensures.len)) in
    let again = written_back new _ _ (omega (arith, more, len, ap length second, c.requires)) in
    let each : (i : ℕ) → i < length points → IsOffRoot K (of_list K points i) (of_list K old i) (of_list K others i) (of_list K new i) = λ i l.
    subst₂ (λ s t. IsOffRoot K (of_list K s i) (of_list K t i) (of_list K others i) (of_list K new i)) first second (c.take_out_roots.ensures.each i (omega (arith, l, ap length first))) in
    record {
      others = λ n some raised. subst (AreOffRoots K n points) (sym back) (are_off_roots K N n some points old others new len more raised each);
      powers = λ n some raised. subst₂ (ArePowers K n) (sym back) (sym again) (powers_off_roots K N n some points old others new len more raised each);
    }
