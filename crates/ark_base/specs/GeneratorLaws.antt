-- The odd base of a greatest size.
use Rattle.std.proofs.Common.{◌≡◌, ℕ, ◌%◌, Option, None, Some, Bool, true, ◌==◌, ◌&&◌, nat_le}
use Rattle.ark_base.specs.Generator.{for_odd}

-- a base is odd and at least 3
abbrev pub is_odd_base : Option (ℕ × ℕ) → Bool
is_odd_base None = true
is_odd_base (Some p) = nat_le 3 p.0 && p.0 % 2 == 1

-- what is there with an odd base alone
pub from_odd : (o : Option (ℕ × ℕ)) (w v : ℕ) → for_odd o w ≡ Some v → v ≡ w
from_odd None w v e = cc
from_odd (Some p) w v e = cc
