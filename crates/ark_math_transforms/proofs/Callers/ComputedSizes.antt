-- The sizes that the types of domains take, computed from a field's adicity: `refl` tells them for a field that is known.
use Rattle.std.specs.Prelude.{ℕ, zero, suc, ◌*◌, ◌^◌, ◌&&◌, nat_le, nat_lt, ◌≡◌, Option, Some, None, is_some, refl, List, [], ◌∷◌, ◌++◌, if◌then◌else◌}
use Rattle.ark_math.specs.Root.{Adicity, odd_base, odd_most}
use Rattle.ark_math.specs.Domain.{Kind, radix2, mixed_radix}

-- base ^ odds times 2 ^ twos, for twos from count - 1 down to 0
abbrev pub sizes_with : Adicity → ℕ → ℕ → List ℕ
sizes_with s odds zero = []
sizes_with s odds (suc twos) = (2 ^ twos * odd_base s.odd ^ odds) ∷ sizes_with s odds twos

-- the same for odds from count - 1 down to 0, with each power of two
abbrev pub sizes_below : Adicity → ℕ → List ℕ
sizes_below s zero = []
sizes_below s (suc odds) = sizes_with s odds (suc s.two) ++ sizes_below s odds

-- the products that are sizes of a kind where they fit 64 bits
abbrev pub sizes_of : Adicity → Kind → List ℕ
sizes_of s radix2 = sizes_with s 0 (suc s.two)
sizes_of s mixed_radix = if is_some s.odd then sizes_below s (suc (odd_most s.odd)) else []

-- n, where it fits 64 bits, is at or above k, and is below what was found
abbrev pub nearer : ℕ → ℕ → Option ℕ → Option ℕ
nearer k n None = if nat_le k n && nat_lt n (2 ^ 64) then Some n else None
nearer k n (Some m) = if nat_le k n && nat_lt n m then Some n else Some m

abbrev pub nearest : ℕ → List ℕ → Option ℕ
nearest k [] = None
nearest k (n ∷ ns) = nearer k n (nearest k ns)

-- the least size of a kind at or above k
abbrev pub size_of_kind : Adicity → Kind → ℕ → Option ℕ
size_of_kind s kind k = nearest k (sizes_of s kind)

-- radix 2 where it has a size, and else mixed
abbrev pub first_kind : Option ℕ → Option ℕ → Option (Kind × ℕ)
first_kind (Some n) o = Some (radix2, n)
first_kind None (Some n) = Some (mixed_radix, n)
first_kind None None = None

-- what the general type takes for k
abbrev pub general_size : Adicity → ℕ → Option (Kind × ℕ)
general_size s k = first_kind (size_of_kind s radix2 k) (size_of_kind s mixed_radix k)

-- over 433, whose sizes are 2^a * 3^b with a at most 4 and b at most 3
abbrev adicity_433 : Adicity
adicity_433 = record { two = 4; odd = Some (3, 3) }

general_16 : general_size adicity_433 16 ≡ Some (radix2, 16)
general_16 = refl

general_17 : general_size adicity_433 17 ≡ Some (mixed_radix, 18)
general_17 = refl

general_433 : general_size adicity_433 433 ≡ None
general_433 = refl

radix2_17 : size_of_kind adicity_433 radix2 17 ≡ None
radix2_17 = refl

mixed_13 : size_of_kind adicity_433 mixed_radix 13 ≡ Some 16
mixed_13 = refl

mixed_without_base : size_of_kind (record { two = 16; odd = None }) mixed_radix 1 ≡ None
mixed_without_base = refl
