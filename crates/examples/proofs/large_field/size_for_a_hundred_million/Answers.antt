use Rattle.std.proofs.Common.{None, refl}
use Rattle.ark_math.specs.Root.{adicity_of}
use Rattle.ark_math.specs.Domain.{radix2, IsRadix2}
use Rattle.ark_math.proofs.Domains.Sizes.{one_radix2_size}
use Rattle.ark_math_transforms.proofs.Callers.Sizes.{size_of_kind-some, compute_size_of_domain-Some}
use Rattle.examples.proofs.large_field.size_for_a_hundred_million.Goals as goal

pub returns : goal.returns
returns c =
    let s = adicity_of 40 None None in
    let computed = c.compute_size_of_domain.ensures in
    let chosen : IsRadix2 s 100000000 radix2 134217728 = size_of_kind-some s radix2 100000000 134217728 refl in
    compute_size_of_domain-Some (IsRadix2 s) 100000000 radix2 134217728 chosen (one_radix2_size s) _ computed.size computed.none
