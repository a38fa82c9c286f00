-- Room for the last of parts.
use Rattle.std.proofs.Common.{ℕ, ◌+◌, ◌<◌, arith}

pub last_part : (front part pad bound : ℕ) → front + part + pad < bound → part < bound
last_part front part pad bound h = omega (arith, h)
