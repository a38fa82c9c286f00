-- Each list is the transform of another.
use Rattle.std.proofs.Common.{◌≢◌, ℕ, List}
use Rattle.ark_math.specs.Field.{FieldOn, IsField, power, natural}
use Rattle.ark_math.specs.Module.{ModuleOn, IsModule, item, tabulate}
use Rattle.ark_math.specs.Domain.{Domain}
use Rattle.ark_math.specs.Root.{HasOrder}
use Rattle.ark_math.specs.Transform.{IsInverse}
use Rattle.ark_math_transforms.proofs.Transforms.Places.{dft_at}
use Rattle.ark_math.proofs.Lists.Tabulated.{length-tabulate, item-tabulate}
use Rattle.ark_math_transforms.proofs.Transforms.Inverses.{is_inverse}
use Rattle.ark_math.proofs.Roots.Order.{root_not_zero}
use Rattle.ark_math.proofs.Algebra.NonZero.{positive}

pub inverse_exists : {F M : Type 0} {K : FieldOn F} {V : ModuleOn F M} (N : IsField K) (L : IsModule K V) (d : Domain F) → HasOrder K d.root d.size → natural K d.size ≢ K.zero → d.offset ≢ K.zero → (c : List M) → (u : List M) × IsInverse K V d c u
inverse_exists {K = K} {V = V} N L d order ne off c =
    let v = N.inverts d.root (root_not_zero K N d.root d.size order (positive K N d.size ne)) in
    let p = N.inverts d.offset off in
    let f = N.inverts (natural K d.size) ne in
    let items = λ (j : ℕ). V.scale (K.times f.0 (power K p.0 j)) (dft_at K V d.size v.0 (item V c) j) in (
      tabulate d.size items,
      is_inverse N L d v.0 p.0 f.0 order v.1 p.1 f.1 c (tabulate d.size items) (length-tabulate d.size items) (λ j l. item-tabulate V d.size items j l),
    )
