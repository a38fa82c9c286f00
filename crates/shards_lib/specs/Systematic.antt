-- The elements at the places differ, so the numbers at the first ones are the items.
use Rattle.std.proofs.Common.{◌≡◌, ◌≢◌, ℕ, ◌<◌, ◌≤◌, ◌^◌, sym, ◌∙◌, ap, refl, arith}
use Rattle.ark_math_points.specs.AtPoints.{AreDifferent}
use Rattle.ark_math.specs.Domain.{Domain, domain_of, IsDomain, element, radix2}
use Rattle.ark_math.specs.Field.{FieldOn, IsField, natural}
use Rattle.ark_math.specs.Root.{Adicity, AreRoots, Splits}
use Rattle.ark_math.proofs.Algebra.Groups.{one_times}
use Rattle.ark_math_domains.proofs.Domains.LawfulDomains.{elements_differ, lawful_domain}
use Rattle.shards_lib.specs.Numbers.{domain_size, number_at_place, numbered, place_element}
use Rattle.shards_lib.specs.Rows.{HasCode}
use Rattle.shards_lib.specs.Doubled.{domain_splits, room_for}
use Rattle.shards_lib.specs.PlaceValues.{told_at_first}

module _ {F : Type 0} (K : FieldOn F) (N : IsField K) (s : Adicity) (root : ℕ → F) (R : AreRoots K s root) (most : 16 ≤ s.two) where
  -- the elements at n places
  pub places_differ : (n i j : ℕ) → n ≤ 65536 → i < n → j < n → place_element K root n i ≡ place_element K root n j → i ≡ j
  places_differ n i j few li lj e =
      let m = domain_size n in
      let split = domain_splits s n most in
      let d : Domain F = domain_of radix2 m (root m) K.one in
      let D : IsDomain K s root d = record { size_of = split; root_of = refl; offset_not_zero = N.one_not_zero } in
      let room = room_for n few in
      elements_differ (lawful_domain N R D) i j (omega (arith, li, room)) (omega (arith, lj, room))
      (one_times K N (place_element K root n i) ∙ e ∙ sym (one_times K N (place_element K root n j)))

  pub first_differ : (k n : ℕ) → k ≤ n → n ≤ 65536 → AreDifferent k (place_element K root n)
  first_differ k n fits few i j l h e =
      let same = places_differ n i j few (omega (arith, l, h, fits)) (omega (arith, h, fits)) e in
      absurd (omega (arith, same, l))

  pub item_at_place : (inverse : F → F) → ((x : F) → x ≢ K.zero → K.times x (inverse x) ≡ K.one) → (number : F → ℕ) → ((n : ℕ) → n ≤ 65536 → number (natural K n) ≡ n)
      → (lanes k n : ℕ) (a : ℕ → ℕ) (i : ℕ) → HasCode lanes k n → i < k → a i < 2 ^ 16 → number_at_place (numbered K root inverse number) k n a i ≡ a i
  item_at_place inverse inverts number known lanes k n a i has l small =
      ap number (told_at_first (numbered K root inverse number) N inverts k n (first_differ k n has.2 has.3) (λ j. natural K (a j)) i l)
      ∙ known (a i) (omega (arith, small))
