-- Elements, as the proofs of a prime field's calls cite them.
use Rattle.std.specs.Prelude.{◌≡◌, ℕ, ◌+◌, ◌-◌, ◌*◌, ◌%◌, ◌<◌}
use Rattle.std.proofs.Common.{option_map, Some, sym, ap, ◌∙◌, arith, mod-eq_of_lt, mod-lt, le_of_lt}
use Rattle.std.proofs.Math.Nat.{add-mod-mod}
use Rattle.std.proofs.lemmas.Nat.{mul-mod_first}
use Rattle.ark_math.specs.Field.{natural, minus}
use Rattle.ark_math.specs.Prime.{IsPrime}
use Rattle.ark_base.specs.ModulusLaws.{below_modulus}
use Rattle.ark_base.specs.GeneratorLaws.{from_odd}
use Rattle.ark_base.specs.Element.{residue_of, number, prime_field, Shown, adicity, large_root, same_from_value}
use Rattle.ark_base.specs.ElementLaws.{natural_residue}
use Rattle.ark_base.specs.declared.prime_field.PrimeField.{PrimeField}
use Rattle.ark_base.specs.declared.prime_field.PrimeModulus.{Ghosts}

pub natural_number : {M : Type 0} {g : Ghosts M} (P : IsPrime g.MODULUS) (x : PrimeField M g) → x ≡ natural (prime_field {M = M} {g = g} P) (number x)
natural_number P x = natural_residue P x.value x (same_from_value _ _ (sym (mod-eq_of_lt x.reduced)))

pub large_below : {M : Type 0} (g : Ghosts M) (S : Shown g) (v : ℕ) → g.LARGE_SUBGROUP_ROOT_OF_UNITY ≡ Some v → v < g.MODULUS
large_below g S v e = below_modulus S.prime 64 v _ _ (from_odd (adicity g).odd _ v (sym S.large_is ∙ e))

pub some_large : {M : Type 0} {g : Ghosts M} (S : Shown g) (x : PrimeField M g) → g.LARGE_SUBGROUP_ROOT_OF_UNITY ≡ Some x.value → Some x ≡ large_root S
some_large S x e = ap Some (same_from_value _ _ (sym (mod-eq_of_lt x.reduced))) ∙ ap (option_map (residue_of S.prime)) (sym e)

-- the factor of a step of Euclid's algorithm, by the operations of the field
pub next_factor : {M : Type 0} {g : Ghosts M} (P : IsPrime g.MODULUS) (q : ℕ) (reduced last factor taken next : PrimeField M g) →
    reduced.value ≡ q % g.MODULUS → taken ≡ (prime_field {M = M} {g = g} P).times reduced factor → next ≡ minus (prime_field {M = M} {g = g} P) last taken →
    next.value ≡ (last.value + g.MODULUS - (q * factor.value) % g.MODULUS) % g.MODULUS
next_factor {g = g} P q reduced last factor taken next e f h =
    let p = g.MODULUS in
    let t = (q * factor.value) % p in
    let below : t < p = mod-lt (q * factor.value) (le_of_lt P.above_one) in
    let is_taken : taken.value ≡ t = ap (λ x. x.value) f ∙ ap (λ y. (y * factor.value) % p) e ∙ mul-mod_first q factor.value p in
    let moved : last.value + (p - t) ≡ last.value + p - t = omega (arith, below) in
    ap (λ x. x.value) h ∙ add-mod-mod last.value (p - taken.value) p ∙ ap (λ y. (last.value + (p - y)) % p) is_taken ∙ ap (λ y. y % p) moved
