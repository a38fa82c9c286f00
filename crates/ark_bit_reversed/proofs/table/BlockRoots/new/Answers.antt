use Rattle.std.proofs.Common.{◌≡◌, ◌≢◌, ℕ, ◌+◌, ◌/◌, ◌++◌, ◌<◌, ◌≤◌, length, max, take, drop, refl}
use Rattle.std.proofs.Common.{sym, ap, ap₂, subst, ◌∙◌, arith}
use Rattle.std.specs.Int.{IsNextPowerOfTwo}
use Rattle.ark_math.specs.Domain.{radix2, HasNone, IsLeast, IsSize}
use Rattle.ark_math.specs.Field.{power}
use Rattle.ark_math.specs.Root.{HasOrder}
use Rattle.ark_math.proofs.Lists.Lists.{written_back}
use Rattle.ark_bit_reversed.specs.Blocks.{AreRoots, AreTables, IsPowerOfTwo, element_of, size_of}
use Rattle.ark_bit_reversed.proofs.Tables.{half_of_power, least_is_some, next_least, none_past_64_bits}
use Rattle.ark_bit_reversed.proofs.Tables.{none_unsupported, root_halfway, size_from_supported, two_not_zero}
use Rattle.ark_bit_reversed.proofs.table.BlockRoots.new.Goals as goal

pub fill-requires-clause-size : goal.fill-requires-clause-size
fill-requires-clause-size g c =
    let size = c.in-Some.size in
    let some : size / 2 ≢ 0 = omega (arith, c.in-Some.ensures.1, c.max.ensures) in
    let len : length c.as_mut_slice.result.now ≡ size / 2 = omega (arith, c.as_mut_slice.ensures.len, c.in_ok-resize.ensures.len) in
    subst IsPowerOfTwo (sym len) (half_of_power size c.in-Some.ensures.0 some).0

pub fill-requires-clause-root : goal.fill-requires-clause-root
fill-requires-clause-root g c =
    let K = g.F.Field.field in
    let size = c.in-Some.size in
    let some : size / 2 ≢ 0 = omega (arith, c.in-Some.ensures.1, c.max.ensures) in
    let len : length c.as_mut_slice.result.now ≡ size / 2 = omega (arith, c.as_mut_slice.ensures.len, c.in_ok-resize.ensures.len) in
    let found = c.in-Some-get_root_of_unity.ensures in
    let root = c.in-Some-get_root_of_unity.root in
    let order : HasOrder K root size = subst (λ w. HasOrder K w size) (sym found.some) (g.met.F.FftField.roots_law.order size (found.supported.0 refl)) in
    ap (power K root) len ∙ root_halfway K g.met.F.Field.field_laws root size c.in-Some.ensures.0 some order

pub invariant_of-result : goal.invariant_of-result
invariant_of-result g c =
    let K = g.F.Field.field in
    let size = c.in-Some.size in
    let roots = c.fill.new.roots in
    let some : size / 2 ≢ 0 = omega (arith, c.in-Some.ensures.1, c.max.ensures) in
    let half = half_of_power size c.in-Some.ensures.0 some in
    let len : length roots ≡ size / 2 = omega (arith, c.fill.ensures.len, c.as_mut_slice.ensures.len, c.in_ok-resize.ensures.len) in
    let old = c.resize.new.self in
    let back : take old.len (roots ++ drop (length roots) old.items) ≡ roots = written_back roots (drop (length roots) old.items) old.len (omega (arith, c.fill.ensures.len, c.as_mut_slice.ensures.len)) in
    let one = c.one-one.ensures ∙ g.met.F.Field.one_law in
    let same = c.deref.ensures.value ∙ back in
    subst (λ t. AreTables K t c.in_ok-inverses.inverses.items c.in-Some-inverse.half) (sym back) (record {
      roots = c.fill.ensures.roots;
      power = subst IsPowerOfTwo (sym len) half.0;
      fits = omega (arith, len, half.1);
      inverse = c.in_ok-inverses.ensures.inverses (element_of K roots) (subst (AreRoots K (element_of K roots)) (sym same) c.fill.ensures.roots);
      same = c.in_ok-inverses.ensures.len ∙ ap length same;
      half_of = ap (λ t. K.times t c.in-Some-inverse.half) (sym (g.met.F.Field.add_law _ _ _ c.add.ensures ∙ ap₂ K.plus one one)) ∙ c.in-Some-inverse.ensures.some;
    })

pub returns : goal.returns
returns g c =
    let K = g.F.Field.field in
    let s = g.F.FftField.adicity in
    let size = c.in-Some.size in
    let roots = c.fill.new.roots in
    let some : size / 2 ≢ 0 = omega (arith, c.in-Some.ensures.1, c.max.ensures) in
    let half = half_of_power size c.in-Some.ensures.0 some in
    let len : length roots ≡ size / 2 = omega (arith, c.fill.ensures.len, c.as_mut_slice.ensures.len, c.in_ok-resize.ensures.len) in
    let old = c.resize.new.self in
    let all = take old.len (roots ++ drop (length roots) old.items) in
    let full : length roots ≡ old.len = omega (arith, c.fill.ensures.len, c.as_mut_slice.ensures.len) in
    let back : all ≡ roots = written_back roots (drop (length roots) old.items) old.len full in
    let whole : size ≡ size_of all = omega (arith, ap length back, len, half.1) in
    let k = max c.args.count 2 in
    let next = subst (λ t. IsNextPowerOfTwo t size) c.max.ensures c.in-Some.ensures in
    let lawful = g.met.F.FftField.roots_law.base in
    let power = c.in-Some.ensures.0 in
    let supported = c.in-Some-get_root_of_unity.ensures.supported.0 refl in
    let is_size = size_from_supported s lawful size power.0 power.1 supported in
    let P = IsLeast (IsSize s radix2) k in
    let least : P (size_of all) = subst P whole (next_least s k size next is_size) in
    record {
      room = omega (arith, least.above);
      least = least;
      none = ((λ h. cc), (λ none. absurd (least_is_some (IsSize s radix2) k (size_of all) least none)));
      next = subst (λ r. (i : ℕ) → i < length r → element_of K r (length r + i) ≡ K.times (element_of K r i) (g.F.FftField.root (size_of all))) (sym back) (λ i l.
          ap (λ t. element_of K roots (t + i)) c.fill.ensures.len
          ∙ c.fill.ensures.next i (subst (λ t. i < t) c.fill.ensures.len l)
          ∙ ap (K.times (element_of K roots i)) (c.in-Some-get_root_of_unity.ensures.some ∙ ap g.F.FftField.root whole));
    }

pub returns-in_default-clause-none : goal.returns-in_default-clause-none
returns-in_default-clause-none g c =
    let s = g.F.FftField.adicity in
    let none = none_past_64_bits s c.max.result c.in_default.ensures in
    ((λ h. subst (HasNone (IsSize s radix2)) c.max.ensures none), (λ h. refl))

pub returns-in_default-get_root_of_unity-clause-none : goal.returns-in_default-get_root_of_unity-clause-none
returns-in_default-get_root_of_unity-clause-none g c =
    let s = g.F.FftField.adicity in
    let found = c.in_default-get_root_of_unity.ensures.supported in
    let next = c.in-Some.ensures in
    let none = none_unsupported s c.max.result c.in-Some.size next (λ supported. cc (found.1 supported)) in
    ((λ h. subst (HasNone (IsSize s radix2)) c.max.ensures none), (λ h. refl))

pub returns-in_default-inverse-clause-none : goal.returns-in_default-inverse-clause-none
returns-in_default-inverse-clause-none g c =
    let K = g.F.Field.field in
    let s = g.F.FftField.adicity in
    let size = c.in-Some.size in
    let roots = g.met.F.FftField.roots_law in
    let power = c.in-Some.ensures.0 in
    let supported = c.in-Some-get_root_of_unity.ensures.supported.0 refl in
    let one = c.one-one.ensures ∙ g.met.F.Field.one_law in
    let sum = g.met.F.Field.add_law c.one-one.result c.one-one.result c.add.result c.add.ensures in
    let two : c.add.result ≡ K.plus K.one K.one = sum ∙ ap₂ K.plus one one in
    let zero : K.plus K.one K.one ≡ K.zero = sym two ∙ c.in_default-inverse.ensures.none.0 refl in
    let is_size = size_from_supported s roots.base size power.0 power.1 supported in
    let some : 2 ≤ size = omega (arith, c.in-Some.ensures.1, c.max.ensures) in
    absurd (two_not_zero K g.met.F.Field.field_laws s roots.invertible size is_size some zero)
