-- What doubling gives is a power of two, with room for n.
use Rattle.std.proofs.Common.{pow_mono, ◌≡◌, ℕ, zero, suc, ◌*◌, ◌^◌, ◌≤◌, Bool, true, false, if◌then◌else◌, sym, ◌∙◌, ap, refl, arith, pow-suc}
use Rattle.std.specs.Prelude.{nat_le}
use Rattle.std.proofs.Math.Nat.{pow-zero}
use Rattle.std.proofs.lemmas.Bool.{leb-true}
use Rattle.ark_math.specs.Root.{Adicity, Splits, odd_base}
use Rattle.shards_lib.specs.Numbers.{doubled, domain_size}

twice_second : (x m : ℕ) → x * 2 * m ≡ x * (2 * m)
twice_second x m = grind arith

power-step : (b : Bool) (times m n : ℕ) → (e : ℕ) × (e ≤ times) × (doubled times (2 * m) n ≡ 2 ^ e * (2 * m))
    → (e : ℕ) × (e ≤ suc times) × ((if b then m else doubled times (2 * m) n) ≡ 2 ^ e * m)
power-step true times m n next = (0, (let l : 0 ≤ suc times = omega arith in l), (let e : m ≡ 2 ^ 0 * m = omega arith in e))
power-step false times m n (e, few, is) = (suc e, (let l : suc e ≤ suc times = omega (arith, few) in l), is ∙ sym (twice_second (2 ^ e) m) ∙ ap (λ x. x * m) (sym (pow-suc 2 e)))

doubled-power : (times m n : ℕ) → (e : ℕ) × (e ≤ times) × (doubled times m n ≡ 2 ^ e * m)
unfolding doubled
doubled-power zero m n = (0, (let l : 0 ≤ 0 = omega arith in l), (let e : m ≡ 2 ^ 0 * m = omega arith in e))
doubled-power (suc times) m n = power-step (nat_le n m) times m n (doubled-power times (2 * m) n)

room-step : (b : Bool) (times m n : ℕ) → nat_le n m ≡ b → n ≤ doubled times (2 * m) n → n ≤ (if b then m else doubled times (2 * m) n)
room-step true times m n e next = leb-true n m e
room-step false times m n e next = next

doubled-room : (times m n : ℕ) → n ≤ 2 ^ times * m → n ≤ doubled times m n
unfolding doubled
doubled-room zero m n h = let e : 2 ^ 0 * m ≡ m = omega arith in omega (arith, h, e)
doubled-room (suc times) m n h =
    let e : 2 ^ suc times * m ≡ 2 ^ times * (2 * m) = ap (λ x. x * m) (pow-suc 2 times) ∙ twice_second (2 ^ times) m in
    room-step (nat_le n m) times m n refl (doubled-room times (2 * m) n (omega (arith, h, e)))

pub domain_splits : (s : Adicity) (n : ℕ) → 16 ≤ s.two → (twos : ℕ) × Splits s (domain_size n) twos 0
domain_splits s n most =
    let p = doubled-power 16 1 n in
    let one : odd_base s.odd ^ 0 ≡ 1 = pow-zero (odd_base s.odd) in
    let few = p.1 in
    let bound : 2 ^ p.0 ≤ 2 ^ 16 = pow_mono few in (
      p.0,
      record {
        product = p.2 ∙ sym (ap (λ x. 2 ^ p.0 * x) one);
        twos_within = omega (arith, few, most);
        odds_within = omega arith;
        fits = omega (arith, p.2, bound);
      },
    )

pub room_for : (n : ℕ) → n ≤ 65536 → n ≤ domain_size n
room_for n few = doubled-room 16 1 n (omega (arith, few))
