use Rattle.std.proofs.Common.{◌^◌, subst, sym, ◌∙◌, mod-eq_of_lt}
use Rattle.rand_core.specs.Stream.{next_u64}
use Rattle.rand.specs.Draw.{Gives}
use Rattle.rand.specs.Uniform.{canon}
use Rattle.ark_base.proofs.prime_field32.PrimeField32Field.rand.Goals as goal

pub returns : goal.returns
returns g c =
    record {
      drawn = subst (λ n. Gives (canon (2 ^ 64) next_u64 g.M.PrimeModulus32.MODULUS) (g.R.Rng.stream c.args.rng.now) n (g.R.Rng.stream c.draw.new.rng))
          (sym (c.reduce.ensures ∙ mod-eq_of_lt c.draw.ensures.below)) c.draw.ensures.drawn;
    }
